use Rattle.std.proofs.{Common.{refl, sym, map as each}, lemmas.List.Sorted.{IsPermutation-map, IsPermutation-trans, list_any-IsPermutation}, lemmas.Map.Keys.{IsDistinct-IsPermutation, IsDistinct-from_sorted}}
use Rattle.std.specs.{Cmp.{eq_by_cmp_equiv}, Cmp.Lexicographic.{nat_list_cmp_total, on_texts}, List.{IsDistinct}, List.Sorted.{IsPermutation}, Map.Iter.{deref}, Ordering.{eq_by_cmp}, FinMap.{slice_cmp-IsAntisymmetric, nat_cmp-IsAntisymmetric}}
use Rattle.std.specs.FinMap as map
use Rattle.basics.{specs.Keyed.{text_cmp}, specs.InOrderLaws.{rises-keys, same_rising, sorted_from_rises, rises-viewed}, proofs.DistinctKeys.{sorted_from_distinct, IsDistinct-unviewed}}
use Rattle.basics.proofs.map.TextMap.keys.Goals as goal

-- the same keys on both sides, and both sides strictly rise
pub returns : goal.returns
returns g c =
    let keys = map.keys c.args.self.now in
    let found = c.in_ok-keys.keys.items in
    let sorted = c.sort.new.self.items in
    let by_text = eq_by_cmp text_cmp in
    let moved : IsPermutation keys (each deref sorted) =
    IsPermutation-trans keys (each deref found) (each deref sorted) c.in_ok-keys.ensures
    (IsPermutation-map deref found sorted c.in_ok-sort.ensures.permutation) in
    let distinct : IsDistinct by_text (each deref sorted) =
    IsDistinct-IsPermutation by_text (eq_by_cmp_equiv nat_list_cmp_total).symm keys (each deref sorted) moved
    (IsDistinct-from_sorted text_cmp keys (sorted_from_rises text_cmp keys (rises-keys c.args.self.now))) in
    let strict =
    sorted_from_distinct (λ x y. text_cmp x.now y.now) (on_texts deref) sorted c.in_ok-sort.ensures.sorted
    (IsDistinct-unviewed by_text deref sorted distinct) in
    same_rising nat_list_cmp_total (slice_cmp-IsAntisymmetric nat_cmp-IsAntisymmetric) (each deref sorted) keys
    (rises-viewed (λ x y. text_cmp x.now y.now) text_cmp deref (λ x y. refl) sorted strict) (rises-keys c.args.self.now)
    (λ q. sym (list_any-IsPermutation (by_text q) keys (each deref sorted) moved))
