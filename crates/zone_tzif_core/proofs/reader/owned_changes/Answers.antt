use Rattle.std.proofs.{Common.{◌<◌, ◌≤◌, ◌∙◌, ◌++◌, ◌∷◌, [], pos, ap, sym, arith, length, take}, lemmas.List.{map-append, map_more, length-map, take_all}}
use Rattle.zone_tzif_core.specs.{Shown.{shift_shown, shifts_shown}, ZoneFiles.{change_with, changes_with, kinds_kept}}
use Rattle.zone_tzif_core.proofs.reader.owned_changes.Goals as goal

pub owned_change-requires : goal.owned_change-requires
owned_change-requires c =
    let file = c.args.file.now in
    let long = length-map file.changes.items (change_with (kinds_kept file)) in
    omega (arith, long, c.loop-place-test.true, c.change_count-place-end.ensures.count)

pub loop-place-preserved : goal.loop-place-preserved
loop-place-preserved c =
    let file = c.args.file.now in
    let items = file.changes.items in
    let kinds = kinds_kept file in
    let change = c.in_ok-owned_change.field-0 in
    let long = length-map items (change_with kinds) in
    let within : c.loop-place.place < length items = omega (arith, long, c.loop-place-test.true, c.change_count-place-end.ensures.count) in
    ap shifts_shown c.in_ok-push.ensures.items ∙ map-append shift_shown c.loop-place.changes.items (change ∷ [])
    ∙ ap (λ shifts. shifts ++ shift_shown change ∷ []) c.loop-place.invariant
    ∙ ap (λ shift. changes_with kinds (take c.loop-place.place items) ++ shift ∷ []) c.in_ok-owned_change.ensures
    ∙ sym (map_more (change_with kinds) items c.loop-place.place (pos 0, 0) within)

pub returns : goal.returns
returns c =
    let file = c.args.file.now in
    let items = file.changes.items in
    let long = length-map items (change_with (kinds_kept file)) in
    let over : length items ≤ c.loop-place.place = omega (arith, long, c.loop-place-test.false, c.change_count-place-end.ensures.count) in
    c.loop-place.invariant ∙ ap (changes_with (kinds_kept file)) (take_all c.loop-place.place items over)
