use Rattle.std.proofs.{Common.{rules, arith, ◌≤◌, ◌≡◌, ℕ, ◌+◌, ◌*◌, Bool, ℤ, to_z, of_z, to_z-of_z, FitsSigned, w32, ap, ◌∙◌, unsigned_abs}, lemmas.Int.{ints}}
use Rattle.civil_base.specs.{RangeLaws.{offset_by_size}, Ranges.{greatest_offset}}
use mir.Syntax.{w8}
use Rattle.civil_base.specs.Offsets.{offset_at, is_first_negative, signed_by}
use Rattle.civil_base.proofs.utc_offset.UtcOffset.from_hms.Goals as goal

size_of : (negative : Bool) (n : ℕ) (r : ℤ) → r ≡ signed_by negative n → unsigned_abs r ≤ n
size_of negative n r e = grind (arith, ints)

-- the parts as the code reads them
value_is : (h m s : ℤ) (i j k : ℕ) (negative : Bool) (r : ℤ) → FitsSigned w8 h → FitsSigned w8 m → FitsSigned w8 s
    → i ≡ unsigned_abs (to_z w8 (of_z w8 h)) → j ≡ unsigned_abs (to_z w8 (of_z w8 m)) → k ≡ unsigned_abs (to_z w8 (of_z w8 s))
    → negative ≡ is_first_negative (to_z w8 (of_z w8 h)) (to_z w8 (of_z w8 m)) (to_z w8 (of_z w8 s))
    → r ≡ signed_by negative ((i * 60 + j) * 60 + k) → r ≡ offset_at h m s
unfolding offset_at
value_is h m s i j k negative r fh fm fs hours minutes seconds sign value =
    value ∙ ap (λ n. signed_by negative ((n * 60 + j) * 60 + k)) (rw (to_z-of_z fh) at hours)
    ∙ ap (λ n. signed_by negative ((unsigned_abs h * 60 + n) * 60 + k)) (rw (to_z-of_z fm) at minutes)
    ∙ ap (λ n. signed_by negative ((unsigned_abs h * 60 + unsigned_abs m) * 60 + n)) (rw (to_z-of_z fs) at seconds)
    ∙ ap (λ t. signed_by t ((unsigned_abs h * 60 + unsigned_abs m) * 60 + unsigned_abs s)) (rw (
      to_z-of_z fh,
      to_z-of_z fm,
      to_z-of_z fs,
    ) at sign)

pub returns-clause-value : goal.returns-clause-value
returns-clause-value c =
    let f : FitsSigned w32 c.signed.result = search rules in
    to_z-of_z f ∙ value_is c.args.hours c.args.minutes c.args.seconds c.from.result c.from-2.result c.from-3.result
    c.is_first_negative.result c.signed.result c.ranges.hours c.ranges.minutes c.ranges.seconds
    (c.from.ensures ∙ c.unsigned_abs-h.ensures.value) (c.from-2.ensures ∙ c.unsigned_abs-m.ensures.value)
    (c.from-3.ensures ∙ c.unsigned_abs-s.ensures.value) c.is_first_negative.ensures c.signed.ensures

pub invariant_of-result : goal.invariant_of-result
invariant_of-result c =
    let size : (c.from.result * 60 + c.from-2.result) * 60 + c.from-3.result ≤ greatest_offset = omega arith in
    let fits : FitsSigned w32 c.signed.result = search rules in
    rw (to_z-of_z fits) (offset_by_size c.signed.result (omega (
      arith,
      size_of c.is_first_negative.result _ c.signed.result c.signed.ensures,
    )))
