use Rattle.std.proofs.{Common.{◌≡◌, ◌∙◌, length, map, ap, arith}, lemmas.Bool.Decides.{nat_tests}, lemmas.List.{length-map}, lemmas.Result.{err_from_is_err_and}}
use Rattle.zone_tzif_core.{specs.Reading.{parts_shown}, specs.Stored.{stored_kind}, specs.Zones.{go_up}, specs.ZoneFiles.{zone_seen}, proofs.FileLemmas.{no_zone, no_changes, falling, rising, some_mapped}, proofs.LoopLemmas.{fault_passes}}
use Rattle.zone_tzif_core.proofs.file_reader.joined.Goals as goal

pub returns-then-is_empty : goal.returns-then-is_empty
returns-then-is_empty c =
    let parts = parts_shown c.args.parts.now in
    let items = c.in_ok-kinds.kinds.items in
    let none : length c.as_slice-2.result.now ≡ 0 = grind (arith, nat_tests, c.if-is_empty.ensures) in
    no_zone parts (map (stored_kind parts.names) items) c.in_ok-kinds.ensures.told
    (omega (arith, none, ap length c.as_slice-2.ensures.value, length-map items (stored_kind parts.names)))

pub returns-in_err-changes : goal.returns-in_err-changes
returns-in_err-changes c =
    let parts = parts_shown c.args.parts.now in
    let items = c.in_ok-kinds.kinds.items in
    let kinds = map (stored_kind parts.names) items in
    let sizes = some_mapped (stored_kind parts.names) items _ _ c.as_slice-count.ensures.value c.as_slice-2.ensures.value c.if-is_empty.ensures in
    let p = err_from_is_err_and c.from_residual-in_err-changes.result c.from_residual-in_err-changes.ensures.1 in
    rw (p.1, p.2) (fault_passes c.in_err-changes.field-0.0 _ _ (c.in_err-changes.ensures.told kinds sizes.0)
    (λ none. no_changes parts kinds c.in_ok-kinds.ensures.told sizes.1 none))

pub returns-then-not-rises : goal.returns-then-not-rises
returns-then-not-rises c =
    let parts = parts_shown c.args.parts.now in
    let items = c.in_ok-kinds.kinds.items in
    let kinds = map (stored_kind parts.names) items in
    let sizes = some_mapped (stored_kind parts.names) items _ _ c.as_slice-count.ensures.value c.as_slice-2.ensures.value c.if-is_empty.ensures in
    falling parts kinds c.in_ok-kinds.ensures.told sizes.1 c.in_ok-changes.changes.items (c.in_ok-changes.ensures.told kinds sizes.0)
    (c.if-not-rises.ensures ∙ ap (λ l. go_up (map (λ change. change.0) l)) c.as_slice-3.ensures.value)

pub returns : goal.returns
returns c =
    let parts = parts_shown c.args.parts.now in
    let items = c.in_ok-kinds.kinds.items in
    let kinds = map (stored_kind parts.names) items in
    let sizes = some_mapped (stored_kind parts.names) items _ _ c.as_slice-count.ensures.value c.as_slice-2.ensures.value c.if-is_empty.ensures in
    rising parts kinds c.in_ok-kinds.ensures.told sizes.1 c.in_ok-changes.changes.items (c.in_ok-changes.ensures.told kinds sizes.0)
    (zone_seen c.in_ok-zone_file.field-0) (c.if-not-rises.ensures ∙ ap (λ l. go_up (map (λ change. change.0) l)) c.as_slice-3.ensures.value) c.in_ok-zone_file.ensures
