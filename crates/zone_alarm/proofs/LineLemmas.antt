-- The date at the front of a local text, and how long such a text is.
use Rattle.std.proofs.{Common.{◌≡◌, ℕ, ◌+◌, ◌-◌, ◌<◌, ◌≤◌, Bool, true, false, cond, List, ◌++◌, length, take, Some, None, ℤ, pos, ◌+ℤ◌, ◌*ℤ◌, refl, ap, ◌∙◌, arith}, Math.Seq.{take-append-add}, lemmas.List.{length-append}, lemmas.Bool.{and_parts}}
use Rattle.std.proofs.lemmas.Slice.Eq.{bytes_eq-Decides}
use Rattle.std.specs.Prelude.{codes}
use Rattle.basics.specs.{Dates.{year_of}, SignedLaws.{signed}}
use Rattle.civil_base.specs.{Clock.{nanos_per_day}, Layout.{day_part, local_text, year_sign}, LayoutLaws.{local_text-sign, unsigned_text, unsigned_text-shape, year_sign-length}, LocalTimes.{is_text_of, local_time_in, time_with}, Ranges.{is_in_years}}
use Rattle.zone_alarm.specs.{RingLines.{date_text}, Words.{start_text}}

local_length : (x : ℤ) → length (local_text x) ≡ length (year_sign (year_of (day_part x))) + 29
local_length x =
    ap length (local_text-sign x) ∙ length-append (year_sign (year_of (day_part x))) (unsigned_text x)
    ∙ ap (λ n. length (year_sign (year_of (day_part x))) + n) (unsigned_text-shape x).0

-- a local text has more than its time
pub has_time : (x : ℤ) → 19 ≤ length (local_text x)
has_time x = omega (arith, local_length x)

-- a local text without its time is its date
date_front : (x : ℤ) (n : ℕ) → n ≡ length (year_sign (year_of (day_part x))) + 10 → take n (local_text x) ≡ date_text (day_part x)
date_front x n is =
    let sign = year_sign (year_of (day_part x)) in
    ap (λ k. take k (local_text x)) is ∙ ap (take (length sign + 10)) (local_text-sign x)
    ∙ take-append-add sign (unsigned_text x) 10
    ∙ ap (λ t. sign ++ t) (unsigned_text-shape x).1

pub without_time : (x : ℤ) → take (length (local_text x) - 19) (local_text x) ≡ date_text (day_part x)
without_time x = date_front x (length (local_text x) - 19) (omega (arith, local_length x))

-- midnight of a day is of that day
pub day_of_midnight : (day x : ℤ) → x ≡ day *ℤ pos nanos_per_day +ℤ pos 0 → day_part x ≡ day
unfolding day_part
day_of_midnight day x is = omega (arith, signed, is)

-- no longer text than of 30 bytes is a local text
pub too_long : (text : List ℕ) → 30 < length text → local_time_in text ≡ None
unfolding local_time_in
too_long text long = by_test (is_text_of text (time_with text)) refl
  where
    by_test : (b : Bool) → is_text_of text (time_with text) ≡ b → cond b (Some (time_with text)) None ≡ None
    by_test false is = refl
    by_test true is =
        let same : local_text (time_with text) ≡ text =
        (bytes_eq-Decides (local_text (time_with text)) text).0 (and_parts (is_in_years (time_with text)) _ is).1 in
        let short = year_sign-length (year_of (day_part (time_with text))) in
        absurd (omega (arith, long, ap length same, local_length (time_with text), short))

pub start_length : (start time : List ℕ) → length (start_text start time) ≡ length start + length time + 11
start_length start time =
    omega (
      arith,
      length-append ((start ++ codes " ") ++ time) (codes ".000000000"),
      length-append (start ++ codes " ") time,
      length-append start (codes " "),
    )
