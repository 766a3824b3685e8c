-- Times at the front of lines, and what is written, as they are known from outside.
use Rattle.std.{proofs.Common.{◌≡◌, refl, map, ℕ, ℤ, List, Option, [], ◌∷◌, Some, None, pos, neg_ℤ}, specs.Prelude.{codes}, specs.Fmt.{digits}}
use Rattle.basics.specs.Days.{is_leap, days_in_year, days_in_month, days_after_zero, days_before_zero, year_start, days_through, days_into_year, day}
use Rattle.civil_base.specs.Clock.{time_at}
use Rattle.zone_words.specs.{Numbers.{moment, seconds_east, counted}, Pieces.{digit_at, two_at, four_at, date_at, minute_at, second_at, offset_at}, Readings.{digits_at, fraction_at, front_at, seconds_at, moment_in, in_years, zoned_at, zoned_in, size_at, count_at, count_in}, Stamps.{unit_of, numbered, left_in, stamp_in}, Written.{fraction_text, offset_shown, epoch_text, seconds_text}}

abbrev stamps : List (List ℕ × Option (ℤ × ℕ))
stamps =
    (codes "1985-04-12T23:20:50.52Z GET /", Some (pos 482196050520000000, 23)) ∷ (codes "[2024-10-27 02:30:00Z]", None) ∷
    (codes "2024-10-27 02:30:00Z]", Some (pos 1729996200000000000, 20)) ∷
    (codes "2024-10-27 02:30:00-08:00", Some (pos 1730025000000000000, 25)) ∷ (codes "2024-10-27 02:30:00Z-", None) ∷
    (codes "2024-10-27 02:30:00+02:0x", None) ∷ (codes "2024-10-27 02:30:00+02:00:00", None) ∷ (codes "2024-10-27 24:00:00Z", None) ∷
    (codes "@-1.5 x", Some (neg_ℤ (pos 1500000000), 5)) ∷ (codes "@1x", None) ∷ (codes "@1.2.3", None) ∷ (codes "@", None) ∷
    (codes "99999999 a", None) ∷ (codes "631152000 a", Some (pos 631152000000000000, 9)) ∷ (codes "631151999 a", None) ∷
    (codes "1729989000", Some (pos 1729989000000000000, 10)) ∷ (codes "2840140799,b", Some (pos 2840140799000000000, 10)) ∷
    (codes "2840140800", None) ∷ (codes "0172998900,b", None) ∷ (codes "01729989000,b", Some (pos 1729989000000000000, 11)) ∷
    (codes "631152000000 c", Some (pos 631152000000000000, 12)) ∷ (codes "01729989000123", Some (pos 1729989000123000000, 14)) ∷
    (codes "631152000000001", Some (pos 631152000000001000, 15)) ∷ (codes "01729989000123456", Some (pos 1729989000123456000, 17)) ∷
    (codes "631152000000000001", Some (pos 631152000000000001, 18)) ∷ (codes "01729989000123456789", Some (pos 1729989000123456789, 20)) ∷
    (codes "001729989000123456789", None) ∷
    -- dates without marks, and a phone's number
    (codes "20241027023000 started", None) ∷ (codes "202410270230", None) ∷ (codes "19000101000000", None) ∷ (codes "21001231235959", None) ∷
    (codes "190001010000", None) ∷ (codes "210012312359", None) ∷ (codes "20241027023000.123", None) ∷ (codes "5551234567", None) ∷
    (codes "1729989000.5", None) ∷ (codes "1729989000:", None) ∷ (codes "1729989000s", None) ∷ (codes "172998900-", None) ∷
    (codes "", None) ∷ []

worked_stamps : map (λ row. stamp_in row.0) stamps ≡ map (λ row. row.1) stamps
unfolding is_leap days_in_year days_in_month days_after_zero days_before_zero year_start days_through days_into_year day time_at
    moment seconds_east counted digit_at two_at four_at date_at minute_at second_at offset_at digits_at fraction_at front_at seconds_at
    moment_in in_years zoned_at zoned_in size_at count_at count_in unit_of numbered left_in
worked_stamps = refl

worked_offsets : map offset_shown (pos 0 ∷ pos 561 ∷ neg_ℤ (pos 34200) ∷ pos 50400 ∷ neg_ℤ (pos 1) ∷ [])
    ≡ codes "+00:00" ∷ codes "+00:09:21" ∷ codes "-09:30" ∷ codes "+14:00" ∷ codes "-00:00:01" ∷ []
unfolding offset_shown
worked_offsets = refl

worked_fractions : map fraction_text (0 ∷ 1 ∷ 500000000 ∷ 120003400 ∷ 999999999 ∷ [])
    ≡ codes "" ∷ codes ".000000001" ∷ codes ".5" ∷ codes ".1200034" ∷ codes ".999999999" ∷ []
unfolding fraction_text
worked_fractions = refl

worked_epochs : map epoch_text (pos 0 ∷ pos 1729989000000000000 ∷ neg_ℤ (pos 1041337172130000000) ∷ neg_ℤ (pos 1) ∷ [])
    ≡ codes "@0" ∷ codes "@1729989000" ∷ codes "@-1041337172.13" ∷ codes "@-0.000000001" ∷ []
unfolding digits fraction_text epoch_text
worked_epochs = refl

-- the same without the mark
worked_seconds : map seconds_text (pos 0 ∷ pos 1729989000000000000 ∷ neg_ℤ (pos 1041337172130000000) ∷ neg_ℤ (pos 1) ∷ [])
    ≡ codes "0" ∷ codes "1729989000" ∷ codes "-1041337172.13" ∷ codes "-0.000000001" ∷ []
unfolding digits fraction_text seconds_text
worked_seconds = refl
