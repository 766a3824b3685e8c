-- Sums that are offsets.
use Rattle.std.{proofs.Common.{◌≡◌, ℤ, pos, negsuc, neg_ℤ, ◌+ℤ◌, int_le, to_z, of_z, w32, w64, SFits, ap, ◌∙◌, arith}, specs.Prelude.{◌&&◌, true}, proofs.lemmas.Bool.Decides.{nat_tests}, proofs.lemmas.Int.{ints, to_z-of_z}}
use Rattle.civil_base.specs.{Ranges.{is_offset}, RangeLaws.{offset_least, offset_greatest}}

pub offset_test : (o : ℤ) → (int_le (neg_ℤ (pos 93599)) o && int_le o (pos 93599)) ≡ is_offset o
offset_test (pos n) = grind (arith, nat_tests, ints)
offset_test (negsuc n) = grind (arith, nat_tests, ints)

pub offset_fits : (o : ℤ) → is_offset o ≡ true → SFits w64 o
offset_fits o h = omega (arith, ints, offset_least o h, offset_greatest o h)

offset_fits_less : (o : ℤ) → is_offset o ≡ true → SFits w32 o
offset_fits_less o h = omega (arith, ints, offset_least o h, offset_greatest o h)

pub kept_sum_fits : (a b u d : ℤ) → a ≡ u → b ≡ d → is_offset (u +ℤ d) ≡ true → SFits w64 (a +ℤ b)
kept_sum_fits a b u d e f h = rw (e, f) (offset_fits (u +ℤ d) h)

kept_sum : (a b u d : ℤ) → a ≡ u → b ≡ d → is_offset (u +ℤ d) ≡ true → to_z w64 (of_z w64 (a +ℤ b)) ≡ u +ℤ d
kept_sum a b u d e f h = (λ i. to_z w64 (of_z w64 (e i +ℤ f i))) ∙ to_z-of_z w64 _ (offset_fits (u +ℤ d) h)

pub sum_cast_fits : (a b u d : ℤ) → a ≡ u → b ≡ d → is_offset (u +ℤ d) ≡ true → SFits w32 (to_z w64 (of_z w64 (a +ℤ b)))
sum_cast_fits a b u d e f h = rw (kept_sum a b u d e f h) (offset_fits_less (u +ℤ d) h)

pub sum_cast : (a b u d : ℤ) → a ≡ u → b ≡ d → is_offset (u +ℤ d) ≡ true → to_z w32 (of_z w32 (to_z w64 (of_z w64 (a +ℤ b)))) ≡ u +ℤ d
sum_cast a b u d e f h = ap (λ z. to_z w32 (of_z w32 z)) (kept_sum a b u d e f h) ∙ to_z-of_z w32 _ (offset_fits_less (u +ℤ d) h)
