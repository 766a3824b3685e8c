use Rattle.std.proofs.{Common.{◌≡◌, ◌∙◌, ap}, lemmas.List.Sorted.{ranks_by}}
use Rattle.basics.{specs.Sorted.{stable_sort, by_key}, proofs.StableSorts.{the_stable_sort}}
use Rattle.basics.proofs.map.Items.sort_by_key.Goals as goal

-- std's sort rises and keeps ties, so its list is the one that the definition gives
pub returns-clause-ok : goal.returns-clause-ok
returns-clause-ok g c key computes =
    let sorts = c.in_ok-sort_by_key.ensures in
    let below = by_key g.K.Ord.cmp key in
    let sorted : c.sort_by_key.new.self.items ≡ stable_sort below c.self.inside.vec.items =
    the_stable_sort below (ranks_by g.met.K.Ord.total key) _ _ (sorts.sorted key computes) (sorts.stable key computes) in
    sorted ∙ ap (stable_sort below) c.self.view_is
