use Rattle.std.proofs.{Common.{◌<◌, ◌∙◌, ℤ, ℕ, Some, pos, ap, sym, arith, length}, lemmas.List.{get_or-map, length-map}}
use Rattle.zone_tzif_core.{specs.Zones.{KindValue}, specs.ZoneFiles.{change_with, kind_numbered, kinds_kept, unnumbered}, proofs.FileLemmas.{some_at}}
use Rattle.zone_tzif_core.proofs.zone_file.ZoneFile.kind_at.Goals as goal

pub index-requires : goal.index-requires
index-requires c =
    let long = length-map c.args.self.now.changes.items (change_with (kinds_kept c.args.self.now)) in
    omega (arith, long, c.requires)

pub kind-requires : goal.kind-requires
kind-requires c =
    let file = c.args.self.now in
    let change = c.index.result.now in
    let long = length-map file.changes.items (change_with (kinds_kept file)) in
    let within : c.args.place < length file.changes.items = omega (arith, long, c.requires) in
    file.numbered c.args.place change (some_at file.changes.items c.args.place change within ∙ ap Some (sym c.index.ensures))

pub returns : goal.returns
returns c =
    let file = c.args.self.now in
    let change = c.index.result.now in
    let kinds = kinds_kept file in
    let long = length-map file.changes.items (change_with kinds) in
    let within : c.args.place < length file.changes.items = omega (arith, long, c.requires) in
    c.kind.ensures ∙ ap (λ (change : ℤ × ℕ). kind_numbered kinds change.1) c.index.ensures
    ∙ sym (ap (λ (shift : ℤ × KindValue). shift.1) (get_or-map (change_with kinds) file.changes.items c.args.place change (pos 0, unnumbered) within))
