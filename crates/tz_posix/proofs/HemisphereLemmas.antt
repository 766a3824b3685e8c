-- The total that two firings in a year leave is that of a start and an end, whichever of them comes first.
use Rattle.std.proofs.{Common.{◌≡◌, Bool, true, false, cond, not, ◌&&◌, ◌||◌, refl, sym, ap, ◌∙◌, arith, ℤ, pos, ◌+ℤ◌, ◌-ℤ◌, ◌<ℤ◌, ◌≤ℤ◌, int_lt, int_le, int_eq}, lemmas.Int.{ints}}
use Rattle.basics.specs.ComparisonLaws.{le_from_lt, lt_fail, lt_pass}
use Rattle.tz_posix.specs.InForce.{is_within}

lt_is : (t b : ℤ) → int_lt t b ≡ not (int_le b t)
lt_is t b = grind (arith, ints)

no_more : (o : ℤ) → o +ℤ pos 0 ≡ o
no_more o = omega (arith, ints)

north_cases : (o p : ℤ) (late early : Bool) → o +ℤ cond late (pos 0) (cond early p (pos 0))
    ≡ cond ((early && not late) || (false && (not late || early))) (o +ℤ p) o
north_cases o p true true = no_more o
north_cases o p true false = no_more o
north_cases o p false true = refl
north_cases o p false false = no_more o

-- where the start comes first
pub northern_total : (o p a b t : ℤ) → a <ℤ b
    → o +ℤ cond (int_le b t) (pos 0) (cond (int_le a t) p (pos 0)) ≡ cond (is_within a b t) (o +ℤ p) o
northern_total o p a b t h =
    north_cases o p (int_le b t) (int_le a t)
    ∙ sym (λ i. cond ((int_le a t && lt_is t b i) || (lt_fail b a (le_from_lt a b h) i && (lt_is t b i || int_le a t))) (o +ℤ p) o)

south_cases : (o p s : ℤ) (late early : Bool) → (late ≡ false → s ≡ p) → o +ℤ cond late p (cond early (pos 0) s)
    ≡ cond ((late && not early) || (true && (not early || late))) (o +ℤ p) o
south_cases o p s true true h = refl
south_cases o p s true false h = refl
south_cases o p s false true h = no_more o
south_cases o p s false false h = ap (λ x. o +ℤ x) (h refl)

-- where the end comes first, with s in force before it
pub southern_total : (o p s a b t : ℤ) → b <ℤ a → (int_le a t ≡ false → s ≡ p)
    → o +ℤ cond (int_le a t) p (cond (int_le b t) (pos 0) s) ≡ cond (is_within a b t) (o +ℤ p) o
southern_total o p s a b t h before =
    south_cases o p s (int_le a t) (int_le b t) before
    ∙ sym (λ i. cond ((int_le a t && lt_is t b i) || (lt_pass b a h i && (lt_is t b i || int_le a t))) (o +ℤ p) o)

-- ---- what is written, by when it comes: a start is written the offset later, an end the offset and the saving

pub start_before_end : (x y o p a b : ℤ) → a ≡ x -ℤ (o +ℤ pos 0) → b ≡ y -ℤ (o +ℤ p) → pos 0 <ℤ p → a <ℤ b → x <ℤ y
start_before_end x y o p a b e f q h = omega (arith, ints)

pub end_before_start : (x y o p a b : ℤ) → a ≡ x -ℤ (o +ℤ pos 0) → b ≡ y -ℤ (o +ℤ p) → (b +ℤ p) <ℤ a → y <ℤ x
end_before_start x y o p a b e f h = omega (arith, ints)

pub up_le : (a b p : ℤ) → pos 0 <ℤ p → (a +ℤ p) <ℤ b → a ≤ℤ b
up_le a b p q h = omega (arith, ints)

pub up_lt : (a b p : ℤ) → pos 0 <ℤ p → (a +ℤ p) <ℤ b → a <ℤ b
up_lt a b p q h = omega (arith, ints)

pub savings_differ : (p z : ℤ) → pos 0 <ℤ p → z ≡ pos 0 → (int_eq p z ≡ false) × (int_eq z p ≡ false)
savings_differ p z h e = (grind (arith, ints), grind (arith, ints))

-- under no saving an end comes the saving later
pub later_end : (y o p b : ℤ) → b ≡ y -ℤ (o +ℤ p) → y -ℤ (o +ℤ pos 0) ≡ b +ℤ p
later_end y o p b e = omega (arith, ints)
