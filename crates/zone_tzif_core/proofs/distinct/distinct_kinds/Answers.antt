use Rattle.std.proofs.{Common.{◌∙◌, ◌+◌, ◌<◌, ◌≤◌, ℤ, sym, ap, subst, [], length, get_or}, lemmas.Simd.{map-map}, lemmas.Result.{err_from_is_err_and}}
use Rattle.zone_tzif_core.specs.{Tzif.{is_same, added, each_once, kinds_of}, Shown.{kind_shown, kinds_seen, shift_shown, zone_shown}, Zones.{KindValue}, declared.values.Kind.{Kind}}
use Rattle.zone_tzif_core.proofs.DistinctLemmas.{once_kept, once_end, no_more, too_many}
use Rattle.zone_tzif_core.proofs.distinct.distinct_kinds.Goals as goal

pub returns-in_err-check_few : goal.returns-in_err-check_few
unfolding kinds_of
returns-in_err-check_few c =
    let p = err_from_is_err_and c.from_residual-in_err-check_few.result c.from_residual-in_err-check_few.ensures.1 in
    let items = c.args.zone.now.rest.items in
    let i = c.loop-shift.shift-index in
    let x = c.shift-item.result in
    let same = c.as_slice-shift-items.ensures.value in
    let grown = kinds_seen c.add_kind-in-loop-shift.new.kinds.items in
    let view = λ (shift : ℤ × Kind). kind_shown shift.1 in
    let begun = added is_same [] (kind_shown c.args.zone.now.first) in
    let kept = once_kept view is_same begun items i (kinds_seen c.loop-shift.kinds.items) grown x (subst (λ l. i < length l) same c.loop-shift-test.true) (c.shift-item.is ∙ ap (λ l. get_or l i x) same) c.in_ok-add_kind-2.ensures c.loop-shift.invariant.0 in
    let more = subst (λ l. length grown ≤ length (each_once is_same begun l)) (sym (map-map (λ (shift : ℤ × KindValue). shift.1) shift_shown items)) (no_more view is_same begun items (i + 1) grown kept) in
    let seen = subst (λ l. length (kinds_seen l) ≤ length (kinds_of (zone_shown c.args.zone.now))) (sym c.as_slice.ensures.value) more in
    rw (p.1, p.2) (too_many c.in_err-check_few.field-0.0 (length (kinds_seen c.as_slice.result.now)) (length (kinds_of (zone_shown c.args.zone.now))) seen c.in_err-check_few.ensures)

pub loop-shift-preserved : goal.loop-shift-preserved
loop-shift-preserved c =
    let items = c.args.zone.now.rest.items in
    let same = c.as_slice-shift-items.ensures.value in
    let x = c.shift-item.result in (
      once_kept (λ (shift : ℤ × Kind). kind_shown shift.1) is_same (added is_same [] (kind_shown c.args.zone.now.first)) items c.loop-shift.shift-index
          (kinds_seen c.loop-shift.kinds.items) (kinds_seen c.add_kind-in-loop-shift.new.kinds.items) x (subst (λ l. c.loop-shift.shift-index < length l) same c.loop-shift-test.true)
          (c.shift-item.is ∙ ap (λ l. get_or l c.loop-shift.shift-index x) same) c.in_ok-add_kind-2.ensures c.loop-shift.invariant.0,
      subst (λ l. length (kinds_seen l) ≤ 256) c.as_slice.ensures.value c.in_ok-check_few.ensures,
    )

pub returns : goal.returns
unfolding kinds_of
returns c = (
  once_end _ is_same _ c.args.zone.now.rest.items c.loop-shift.shift-index _ (subst (λ l. length l ≤ c.loop-shift.shift-index) c.as_slice-shift-items.ensures.value c.loop-shift-test.false) c.loop-shift.invariant.0
      ∙ ap (each_once is_same (added is_same [] (kind_shown c.args.zone.now.first))) (sym (map-map _ _ c.args.zone.now.rest.items)),
  c.loop-shift.invariant.1,
)
