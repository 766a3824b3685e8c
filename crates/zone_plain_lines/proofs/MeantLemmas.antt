-- What a line means, step by step.
use Rattle.std.{proofs.Common.{◌≡◌, ℕ, List, Bool, true, false, Result, Err, refl, sym, ap, subst}, specs.Str.{is_utf8}}
use Rattle.zone_table.specs.{Values.{line_value}, declared.line.Line.{Line}}
use Rattle.zone_plain_lines.specs.{Meanings.{meaning}, Quotes.{fields, laid_out, kept, pieces, has_bad_quotes}, declared.quotes.Place.TheVariants.{Outside}, Meant.{line_meaning}, Told.{IsToldBy}, declared.error.Refused.{Refused}}
use Rattle.zone_plain_lines.specs.declared.cause.PlainCause.TheVariants as cause

-- a line that is text, with its quotes in order
pub record IsGood (line : List ℕ) : Type 0 where
  pub text : is_utf8 line ≡ true
  pub quotes : has_bad_quotes (kept Outside line) ≡ false

pub bad_quotes : (is_open : Bool) (line : List ℕ) → is_utf8 line ≡ true → has_bad_quotes (kept Outside line) ≡ true
    → line_meaning is_open line ≡ Err cause.Quotes
unfolding line_meaning fields
bad_quotes is_open line text bad = rw (text, bad) refl

pub laid_no_text : (is_open : Bool) (line : List ℕ) → IsGood line → is_utf8 (laid_out line) ≡ false → line_meaning is_open line ≡ Err cause.NotText
unfolding line_meaning fields
laid_no_text is_open line good e = rw (good.text, good.quotes, e) refl

-- a line whose text is text means what its fields mean
meant_is : (is_open : Bool) (line text : List ℕ) → IsGood line → is_utf8 (laid_out line) ≡ true → text ≡ laid_out line
    → line_meaning is_open line ≡ meaning is_open (pieces text)
unfolding line_meaning fields
meant_is is_open line text good utf8 same = rw (good.text, good.quotes, utf8) (ap (λ t. meaning is_open (pieces t)) (sym same))

-- so what was told of its fields is told of it
pub told_meant : (is_open : Bool) (line text : List ℕ) (r : Result Line Refused) → IsGood line → is_utf8 (laid_out line) ≡ true → text ≡ laid_out line
    → IsToldBy line_value r (meaning is_open (pieces text)) → IsToldBy line_value r (line_meaning is_open line)
told_meant is_open line text r good utf8 same h = subst (λ m. IsToldBy line_value r m) (sym (meant_is is_open line text good utf8 same)) h
