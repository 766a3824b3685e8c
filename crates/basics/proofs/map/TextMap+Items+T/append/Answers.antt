use Rattle.std.{proofs.Common.{◌≡◌, ◌++◌, ◌∷◌, [], Some, unwrap_or, sym, ap, ◌∙◌, string_bytes, subst, IsSome, refl}, proofs.lemmas.Result.{on_ok_weaker, on_err_weaker}, proofs.lemmas.Map.Steps.{set_value_same}, specs.Str.{bytes_eq}}
use Rattle.std.specs.FinMap as map
use Rattle.basics.{specs.Keyed.{keyed}, proofs.KeyedMaps.{keyed_updates, get-keyed}}
use Rattle.basics.proofs.map.TextMap+Items+T.append.Goals as goal

-- the list at the name is what the map has there
pub returns-in-Some-clause-ok : goal.returns-in-Some-clause-ok
returns-in-Some-clause-ok g c =
    let name = c.args.key.now in
    let old = c.self.inside.hashed in
    let found = sym c.in-Some.ensures.value in
    let had = sym (ap (λ m. map.get m name) c.self.view_is) ∙ get-keyed old.entries name ∙ found in
    let update = (c.get_mut.follows.holds c.push.new.self).3 (subst IsSome (sym found) refl) in
    on_ok_weaker c.push.result (λ pushed.
    keyed_updates name old (c.get_mut.follows.lender c.push.new.self) c.push.new.self update
    ∙ (λ i. map.insert (c.self.view_is i) name ((pushed ∙ ap (λ o. unwrap_or o [] ++ c.args.item ∷ []) (sym had)) i)))
    c.push.ensures.ok

pub returns-in-Some-clause-err : goal.returns-in-Some-clause-err
returns-in-Some-clause-err g c =
    let name = c.args.key.now in
    let old = c.self.inside.hashed in
    let found = sym c.in-Some.ensures.value in
    on_err_weaker c.push.result (λ stayed.
    ap keyed ((c.get_mut.follows.holds c.push.new.self).0
    ∙ set_value_same (λ k. bytes_eq name (string_bytes k)) old.entries c.push.new.self (found ∙ ap Some (sym stayed)))
    ∙ c.self.view_is)
    c.push.ensures.err

pub returns-in_ok-insert-in-None-clause-ok : goal.returns-in_ok-insert-in-None-clause-ok
returns-in_ok-insert-in-None-clause-ok g c =
    let name = c.args.key.now in
    let old = c.self.inside.hashed in
    let none = sym (ap (λ m. map.get m name) c.self.view_is) ∙ get-keyed old.entries name ∙ sym c.in-None.ensures.value in
    let pushed : c.push-in-None.new.self ≡ unwrap_or (map.get c.args.self.now name) [] ++ c.args.item ∷ [] =
    c.in_ok-push-in-None.ensures.ok ∙ ap (λ xs. xs ++ c.args.item ∷ []) (c.new-items.ensures ∙ ap (λ o. unwrap_or o []) (sym none)) in
    let same = c.get_mut.follows.holds-at-none in
    keyed_updates (string_bytes c.in_ok-key-in-None.key) c.get_mut.follows.lender-at-none c.insert.new.self c.push-in-None.new.self
    c.in_ok-insert-in-None.ensures.updates
    ∙ (λ i. map.insert ((ap (λ h. keyed h.entries) same ∙ c.self.view_is) i) (c.in_ok-key-in-None.ensures.ok i) (pushed i))
