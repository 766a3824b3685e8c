-- What lines give, by the parts of what is written.
use Rattle.std.proofs.{Common.{◌≡◌, List, [], ◌∷◌, ◌++◌, filter, flat_map, Bool, true, false, cond, refl, sym, ap, ◌∙◌, append-nil}, lemmas.Grind.{flat_map-append}}
use Rattle.zone_table.specs.Values.{LineValue, space, zone, continuation, rule, link}
use Rattle.zone_plain.specs.{Written.{Part, Rules, Zones, Links, is_in}, WrittenLines.{in_parts}}

-- another part
abbrev is_other : Part → Part → Bool
is_other Rules Rules = false
is_other Zones Zones = false
is_other Links Links = false
is_other _ _ = true

-- no line is in two parts
apart : (v : LineValue) (one other : Part) → is_other one other ≡ true → is_in other v ≡ true → is_in one v ≡ false
apart space Rules Rules e h = cc
apart (rule r) Rules Rules e h = cc
apart (link existing new) Links Links e h = cc
apart (zone name info) Zones Zones e h = cc
apart (continuation info) Zones Zones e h = cc
apart _ _ _ e h = cc

-- lines of that part alone give any
abbrev pub GivesIn : {X : Type 0} → Part → (LineValue → List X) → Type 0
GivesIn part f = (v : LineValue) → is_in part v ≡ false → f v ≡ []

module _ {X : Type 0} (f : LineValue → List X) (part : Part) (only : GivesIn part f) where
  -- lines of the part give all
  all_in : (values : List LineValue) → flat_map f (filter (is_in part) values) ≡ flat_map f values
  all_in [] = refl
  all_in (v ∷ values) = by (is_in part v) refl (all_in values)
    where
      by : (b : Bool) → is_in part v ≡ b → flat_map f (filter (is_in part) values) ≡ flat_map f values
          → flat_map f (cond b (v ∷ filter (is_in part) values) (filter (is_in part) values)) ≡ f v ++ flat_map f values
      by true e more = ap (λ xs. f v ++ xs) more
      by false e more = more ∙ ap (λ xs. xs ++ flat_map f values) (sym (only v e))

  -- and lines of another nothing
  none_in : (other : Part) → is_other part other ≡ true → (values : List LineValue) → flat_map f (filter (is_in other) values) ≡ []
  none_in other e [] = refl
  none_in other e (v ∷ values) = by (is_in other v) refl (none_in other e values)
    where
      by : (b : Bool) → is_in other v ≡ b → flat_map f (filter (is_in other) values) ≡ []
          → flat_map f (cond b (v ∷ filter (is_in other) values) (filter (is_in other) values)) ≡ []
      by true h more = ap (λ xs. xs ++ flat_map f (filter (is_in other) values)) (only v (apart v part other e h)) ∙ more
      by false h more = more

-- all three parts give what the lines give
pub parts_give : {X : Type 0} (f : LineValue → List X) (part : Part) → GivesIn part f → (values : List LineValue) → flat_map f (in_parts values) ≡ flat_map f values
parts_give f part only values =
    flat_map-append f (filter (is_in Rules) values ++ filter (is_in Zones) values) (filter (is_in Links) values)
    ∙ ap (λ xs. xs ++ flat_map f (filter (is_in Links) values)) (flat_map-append f (filter (is_in Rules) values) (filter (is_in Zones) values))
    ∙ by part only
  where
    by : (part : Part) → GivesIn part f
        → (flat_map f (filter (is_in Rules) values) ++ flat_map f (filter (is_in Zones) values)) ++ flat_map f (filter (is_in Links) values) ≡ flat_map f values
    by Rules only =
        (λ i. (all_in f Rules only values i ++ none_in f Rules only Zones refl values i) ++ none_in f Rules only Links refl values i)
        ∙ append-nil (flat_map f values ++ []) ∙ append-nil (flat_map f values)
    by Zones only =
        (λ i. (none_in f Zones only Rules refl values i ++ all_in f Zones only values i) ++ none_in f Zones only Links refl values i)
        ∙ append-nil (flat_map f values)
    by Links only = λ i. (none_in f Links only Rules refl values i ++ none_in f Links only Zones refl values i) ++ all_in f Links only values i
