-- The search for the local time with a text finds what the reader found.
use Rattle.std.proofs.{Common.{◌≡◌, ◌≢◌, ℕ, ◌<◌, ◌≤◌, ◌^◌, true, false, List, Option, Some, None, MatchOption, IfSome, sym, ap, ◌∙◌, arith, ℤ, pos, ◌+ℤ◌, ◌-ℤ◌, ◌≤ℤ◌, ◌<ℤ◌, unsigned_abs}, lemmas.Bool.{and_from, and_parts, false_from_ne_true, cond-false}}
use Rattle.std.proofs.lemmas.Slice.Eq.{bytes_eq-Decides}
use Rattle.std.specs.Int.Signed.{le_z_yes}
use Rattle.basics.specs.{SignedLaws.{signed, natural}, DateLaws.{last_with-is}}
use Rattle.civil_base.specs.{Layout.{local_text}, LocalTimes.{is_text_of, nth_time, time_with, local_time_in}, Ranges.{first_time, end_of_times, is_in_years, IsInYears}, RangeLaws.{years_begin, years_end}}

-- the one local time with a text
record IsTimeWith (text : List ℕ) (v : ℤ) : Type 0 where
  years : IsInYears v
  text_is : local_text v ≡ text
  only : (x : ℤ) → IsInYears x → local_text x ≡ text → x ≡ v

passes : (text : List ℕ) (v : ℤ) → IsInYears v → local_text v ≡ text → is_text_of text v ≡ true
passes text v years is = and_from _ _ years ((bytes_eq-Decides (local_text v) text).1 is)

from_pass : (text : List ℕ) (x : ℤ) → is_text_of text x ≡ true → IsInYears x × (local_text x ≡ text)
from_pass text x h = let both = and_parts (is_in_years x) _ h in (both.0, (bytes_eq-Decides (local_text x) text).0 both.1)

-- counting from a number on, and back
counted : (a v : ℤ) → a ≤ℤ v → pos (unsigned_abs (v -ℤ a)) +ℤ a ≡ v
counted a v h =
    let over : pos 0 ≤ℤ (v -ℤ a) = omega (arith, signed) in
    let is : v -ℤ a ≡ pos (unsigned_abs (v -ℤ a)) = natural (v -ℤ a) over in omega (arith, signed, is)

counted_few : (a b v : ℤ) (n : ℕ) → a ≤ℤ v → v <ℤ b → b ≤ℤ (pos n +ℤ a) → unsigned_abs (v -ℤ a) ≤ n
counted_few a b v n low high room =
    let over : pos 0 ≤ℤ (v -ℤ a) = omega (arith, signed) in
    let is : v -ℤ a ≡ pos (unsigned_abs (v -ℤ a)) = natural (v -ℤ a) over in omega (arith, signed, is)

same_count : (a : ℤ) (i j : ℕ) → pos i +ℤ a ≡ pos j +ℤ a → i ≡ j
same_count a i j h = omega (arith, signed)

-- it is the last of the local times that has the text
found : (text : List ℕ) (v : ℤ) (place : ℕ) → nth_time place ≡ v → place ≤ 2 ^ 70 → IsTimeWith text v → time_with text ≡ v
unfolding time_with
found text v place back within is =
    ap nth_time (last_with-is (λ n. is_text_of text (nth_time n)) (2 ^ 70) place within
    (λ _. rw back (passes text v is.years is.text_is)) above)
    ∙ back
  where
    above : (j : ℕ) → place < j → j ≤ 2 ^ 70 → is_text_of text (nth_time j) ≡ false
    above j later few = false_from_ne_true _ (λ h.
        let other = from_pass text (nth_time j) h in
        let same : j ≡ place = same_count first_time j place (is.only (nth_time j) other.0 other.1 ∙ sym back) in
        absurd (omega arith))

room : end_of_times ≤ℤ (pos (2 ^ 70) +ℤ first_time)
room = le_z_yes tt

pub local_time-read : (text : List ℕ) (r : Option ℤ) → MatchOption r ((x : ℤ) → IsInYears x
    → local_text x ≢ text) (λ v. local_text v ≡ text)
    → IfSome r IsInYears → IfSome r (λ v. (x : ℤ) → IsInYears x → local_text x ≡ text → x ≡ v) → r ≡ local_time_in text
unfolding local_time_in
local_time-read text None none years only =
    sym (cond-false _ _ _ (false_from_ne_true _ (λ h.
    let other = from_pass text (time_with text) h in none (time_with text) other.0 other.1)))
local_time-read text (Some v) exact years only =
    let low : first_time ≤ℤ v = years_begin v years in
    let high : v <ℤ end_of_times = years_end v years in
    let place = unsigned_abs (v -ℤ first_time) in
    let is = found text v place (counted first_time v low) (counted_few first_time end_of_times v (2 ^ 70) low high room)
    (record { years = years; text_is = exact; only = only }) in
    rw (is, passes text v years exact)
