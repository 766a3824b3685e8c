use Rattle.std.proofs.{Common.{sym, w64, SFits, rules}, lemmas.Bool.{false_from_ne_true}, lemmas.Int.{to_z-of_z}}
use Rattle.tz_lookup.proofs.OffsetLemmas.{kept_sum_fits}
use Rattle.tz_lookup.proofs.set.has_offset.Goals as goal

pub returns-in-None : goal.returns-in-None
returns-in-None c =
    let span = c.args.span.now in
    let fu : SFits w64 span.utc_offset = search rules in
    let fd : SFits w64 span.dst_offset = search rules in
    sym (false_from_ne_true _
    (λ is. c.in-None.ensures (kept_sum_fits _ _ span.utc_offset span.dst_offset (to_z-of_z w64 _ fu) (to_z-of_z w64 _ fd) is)))
