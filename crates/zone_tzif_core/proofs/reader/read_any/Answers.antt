use Rattle.std.proofs.{Common.{◌∙◌, ap, option_and_then, subst, sym, Ok, Err}, lemmas.Result.{err_from_is_err_and}}
use Rattle.zone_tzif_core.{specs.Denotes.{Denotes}, specs.Reading.{joined_in, zone_in}, specs.Shown.{zone_shown, FaultsExactly}, specs.ZoneFiles.{zone_seen}, proofs.ExactLemmas.{reads, denoted}}
use Rattle.zone_tzif_core.proofs.reader.read_any.Goals as goal

pub returns-in_err-owned_zone-in-Ok : goal.returns-in_err-owned_zone-in-Ok
unfolding zone_in
returns-in_err-owned_zone-in-Ok c =
    let bytes = c.args.bytes.now in
    let p = err_from_is_err_and c.from_residual.result c.from_residual.ensures.1 in
    let is = reads zone_seen (zone_in 52 bytes) (denoted bytes) (Ok c.in-Ok.file) (c.in-Ok.ensures ∙ ap (option_and_then joined_in) c.cut_parts.ensures.parts) in
    rw (p.1, p.2) (record { exact = (zone_seen c.in-Ok.file, is) })

pub returns-in_ok-owned_zone-in-Ok : goal.returns-in_ok-owned_zone-in-Ok
unfolding zone_in
returns-in_ok-owned_zone-in-Ok c =
    let bytes = c.args.bytes.now in
    let is = reads zone_seen (zone_in 52 bytes) (denoted bytes) (Ok c.in-Ok.file) (c.in-Ok.ensures ∙ ap (option_and_then joined_in) c.cut_parts.ensures.parts) in
    record { exact = subst (Denotes bytes) (sym c.in_ok-owned_zone-in-Ok.ensures) is }

pub returns-in-Err : goal.returns-in-Err
unfolding zone_in
returns-in-Err c =
    let told = subst (λ parts. FaultsExactly c.in-Err.fault (option_and_then joined_in parts)) c.cut_parts.ensures.parts c.in-Err.ensures in
    record { exact = reads zone_shown (zone_in 52 c.args.bytes.now) (denoted c.args.bytes.now) (Err c.in-Err.fault) told }
