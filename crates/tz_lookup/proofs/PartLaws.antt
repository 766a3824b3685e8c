-- A text has a part exactly where that stands somewhere in it, between some front and some rest.
use Rattle.std.proofs.{Common.{◌≡◌, ◌++◌, ℕ, Bool, true, false, List, [], ◌∷◌, drop, length, refl, ap, ◌∙◌}, lemmas.Bool.Decides.{Decides-eqb}, lemmas.Slice.Eq.{starts_is}, lemmas.Bool.{or_right}}
use Rattle.std.specs.{Prelude.{◌||◌, nat_eq}, List.{starts_with}, Str.Iter.{HasSubslice}}
use Rattle.tz_lookup.specs.Databases.{has_part}

at_front : (text part : List ℕ) → (starts_with nat_eq text part ≡ true → text ≡ part ++ drop (length part) text)
    × ((rest : List ℕ) → text ≡ part ++ rest → starts_with nat_eq text part ≡ true)
at_front text part = starts_is Decides-eqb text part (starts_with nat_eq text part) refl

either : {P : Type 0} (a b : Bool) → (a || b) ≡ true → (a ≡ true → P) → (b ≡ true → P) → P
either true b h first second = first refl
either false b h first second = second h

front_is_part : (part text : List ℕ) → starts_with nat_eq text part ≡ true → has_part part text ≡ true
front_is_part part [] h = h
front_is_part part (x ∷ xs) h = ap (λ b. b || has_part part xs) h

there : (part a b : List ℕ) → has_part part (a ++ (part ++ b)) ≡ true
there part [] b = front_is_part part (part ++ b) ((at_front (part ++ b) part).1 b refl)
there part (x ∷ a) b = or_right (starts_with nat_eq (x ∷ a ++ (part ++ b)) part) _ (there part a b)

-- what stands at some place is a part
pub part_found : (part text : List ℕ) → HasSubslice text part → has_part part text ≡ true
part_found part text found = ap (has_part part) found.2 ∙ there part found.0 found.1

-- a part stands at some place
pub part_of : (part text : List ℕ) → has_part part text ≡ true → HasSubslice text part
part_of part [] h = ([], drop (length part) [], (at_front [] part).0 h)
part_of part (x ∷ xs) h =
    either {P = HasSubslice (x ∷ xs) part} (starts_with nat_eq (x ∷ xs) part) (has_part part xs) h
    (λ e. ([], drop (length part) (x ∷ xs), (at_front (x ∷ xs) part).0 e))
    (λ e. let rest = part_of part xs e in (x ∷ rest.0, rest.1, ap (λ l. x ∷ l) rest.2))
