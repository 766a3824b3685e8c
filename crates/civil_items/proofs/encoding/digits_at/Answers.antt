use Rattle.std.proofs.{Common.{arith, ◌≡◌, ℕ, ◌<◌, true, false, Option, Some, None, is_some, IfSome, nat_lt, refl, sym, ap, ◌∙◌}, lemmas.Bool.Decides.{nat_tests}}
use Rattle.civil_items.specs.{declared.digits.Digits.{Digits}, Digits.{digit_count}, Codes.{digits_byte}, DigitLaws.{one_number}}
use Rattle.civil_items.proofs.encoding.digits_at.Goals as goal

above_zero : (n m : ℕ) → false ≡ nat_lt 0 n → 0 < m → m ≡ n → ⊥
above_zero n m has positive e = grind (arith, nat_tests)

not_zero : (n : ℕ) → true ≡ nat_lt 0 n → 0 ≡ n → ⊥
not_zero n has e = grind (arith, nat_tests)

-- what is made of a byte is each number of digits that has this byte
made : (n : ℕ) (result : Option Digits) → is_some result ≡ nat_lt 0 n → IfSome result (λ digits. digit_count digits ≡ n)
    → (digits : Option Digits) → digits_byte digits ≡ n → result ≡ digits
made n None has value None e = refl
made n None has value (Some digits) e = absurd (above_zero n digits.number has digits.in_range.least e)
made n (Some one) has value None e = absurd (not_zero n has e)
made n (Some one) has value (Some digits) e = ap Some (one_number one digits (value ∙ sym e))

pub returns : goal.returns
returns c = made c.args.byte c.new.result c.new.ensures.has c.new.ensures.value
