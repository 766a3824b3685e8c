use Rattle.std.proofs.{Common.{rules, ◌≡◌, Ok, sym, ◌∙◌, subst, string_bytes, map as each}, lemmas.Iterator.{YieldsList-from_map_by}, lemmas.Iterator.Consumers.{map_from_collect, YieldsList-at, YieldsList-from_rest}, lemmas.List.Sorted.{IsPermutation-map}}
use Rattle.std.specs.{HashMap.{keys}, List.Sorted.{IsPermutation}, Map.Iter.{deref}}
use Rattle.std.specs.FinMap as map
use Rattle.basics.{specs.Keyed.{by_bytes}, proofs.Permuted.{entries-keyed, keys-by_bytes}}
use Rattle.basics.proofs.map.TextMap.keys_in_any_order.Goals as goal

pub returns : goal.returns
returns g c =
    let hashed = c.self.inside.hashed in
    let steps = YieldsList-at c.map.ensures.source (YieldsList-from_rest (keys hashed) c.keys.ensures.rest) in
    let listed : each deref c.in_ok-keys.keys.items ≡ each string_bytes (keys hashed) =
    map_from_collect {E = Unit {0}} (Ok c.in_ok-keys.keys) c.in_ok-keys.ensures.ran
    (YieldsList-from_map_by _ deref string_bytes steps c.map.ensures.closure (λ x r q k. search rules)) in
    let had = IsPermutation-map (λ e. e.0) _ _ (entries-keyed hashed.entries c.keys.ensures.unique) in
    subst (λ ks. IsPermutation (map.keys c.args.self.now) ks) (keys-by_bytes hashed.entries ∙ sym listed)
    (subst (λ m. IsPermutation (map.keys m) (each (λ e. e.0) (by_bytes hashed.entries))) c.self.view_is had)
