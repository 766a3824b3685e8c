-- Footers that spell a value and texts that spell none, what is in range, and what values stand for, by hand.
use Rattle.std.proofs.Common.{◌≡◌, refl, ℕ, ℤ, pos, neg_ℤ, Bool, true, false, List, [], ◌∷◌, ◌++◌, map, replicate, Option, Some, None, option_and_then, codes}
use Rattle.basics.specs.{Numbers.{value_in}, Dates.{last_with}, Days.{day, days_after_zero, days_in_month, days_in_year, days_into_year, days_through, is_leap, year_start}, Weekdays.{weekday_of}}
use Rattle.tz_posix.specs.{Days.{nth_weekday, rule_day}, InForce.{instant_in}, Ranges.{first_miss, rule_time_miss}}
use Rattle.tz_posix.specs.Reading.{number_at, part_at, clock_time_at, sign_at, offset_at, letters_at, enclosed_at, name_at, weekday_at, date_at, own_offset_at, moment_at, rule_in, own_rule_in, dst_in, short_in, expanded_in, entry_in}
use Rattle.tz_posix.specs.{Seconds.{offset_seconds, time_seconds}, Spells.{signed_times}, declared.date.Date.{Date}, declared.date.Date.TheVariants.{J, M}, declared.time.Offset.{Offset}}
use Rattle.tz_posix.specs.declared.error.RangeError.TheVariants as miss
use Rattle.zone_tzif_core.specs.Zones.{KindValue}
use Rattle.tz_tzif.specs.{FooterForce.{fixed, yearly}, Ranges.{footer_miss}, Standing.{stands_for}, Values.{FooterValue, footer_in}}

abbrev kind : ℤ → Bool → List ℕ → KindValue
kind utoff is_dst name = record { utoff = utoff; is_dst = is_dst; name = name }

-- so many hours, after a sign or none
abbrev hours : Bool → ℕ → Offset
hours positive h = record { positive = positive; time = record { hh = h; mm = None; ss = None } }

abbrev footer : List ℕ → Offset → List ℕ → Option Offset → Date × Option Offset → Date × Option Offset → FooterValue
footer name offset other own start end = record {
  standard = record { name = name; offset = offset };
  saving = Some (record { name = other; offset = own; rule = record { start = start; end = end } });
}

-- at an hour before midnight, and at midnight
abbrev nuuk : FooterValue
nuuk = footer (codes "-02") (hours true 2) (codes "-01") None (M 3 5 0, Some (hours false 1)) (M 10 5 0, Some (hours true 0))

abbrev dublin : FooterValue
dublin = footer (codes "IST") (hours false 1) (codes "GMT") (Some (hours true 0)) (J 60, None) (M 3 5 0, Some (hours true 24))

-- minutes of one digit, a name of one byte, and one past ASCII (`é`)
abbrev minutes : ℕ → ℕ → Offset
minutes h m = record { positive = true; time = record { hh = h; mm = Some m; ss = None } }

abbrev loose : FooterValue
loose = footer (codes "A") (minutes 5 7) (195 ∷ 169 ∷ []) None (M 3 2 0, Some (minutes 2 5)) (M 11 1 0, None)

-- A text spells exactly what it is read as (`entry_found`, `entry_again`), so the rows hold `SpellsFooter` too.
abbrev read : List ℕ → Option FooterValue
read text = option_and_then footer_in (entry_in offset_at text)

-- with zeros before numbers; and none: daylight saving time without a rule, a zone's name, text after the rule, nothing
footers : map read
    (codes "<-02>2<-01>,M3.5.0/-1,M10.5.0/0" ∷ codes "IST-1GMT0,J60,M3.5.0/24" ∷ (codes "<A>05:7<" ++ 195 ∷ 169 ∷ codes ">,M03.2.0/2:5,M11.01.0")
    ∷ codes "EST5EDT" ∷ codes ":EST" ∷ codes "EST5EDT,J1,J2 " ∷ [] ∷ []) ≡ Some nuuk ∷ Some dublin ∷ Some loose ∷ replicate 4 None
unfolding
    value_in number_at part_at clock_time_at sign_at offset_at letters_at enclosed_at name_at weekday_at date_at own_offset_at
    moment_at rule_in own_rule_in dst_in short_in expanded_in entry_in
footers = refl

-- hours of rules to 167 and of offsets to 24, whatever the sign
worked_times : map (λ h. rule_time_miss signed_times (Some (hours false h))) (0 ∷ 167 ∷ 168 ∷ []) ≡ None ∷ None ∷ Some miss.Time ∷ []
worked_times = refl

abbrev with_offsets : ℕ → Option Offset → ℕ → ℕ → FooterValue
with_offsets h own start end = footer (codes "AAA") (hours false h) (codes "BBB") own (J 1, Some (hours true start)) (J 2, Some (hours true end))

worked_ranges : map footer_miss (with_offsets 24 None 1 1 ∷ with_offsets 25 None 1 1 ∷ with_offsets 1 (Some (hours true 24)) 1 1
    ∷ with_offsets 1 (Some (hours true 25)) 1 1 ∷ with_offsets 1 None 168 1 ∷ with_offsets 1 None 1 168 ∷ [])
    ≡ None ∷ Some miss.Time ∷ None ∷ Some miss.Time ∷ Some miss.Time ∷ Some miss.Time ∷ []
unfolding first_miss
worked_ranges = refl

abbrev alone : Offset → FooterValue
alone offset = record { standard = record { name = codes "AAA"; offset = offset }; saving = None }

-- an offset is in range to its last second of the hour 24
worked_last : map (λ m. footer_miss (alone (record { positive = true; time = record { hh = 24; mm = Some m; ss = Some 59 } }))) (59 ∷ 60 ∷ [])
    ≡ None ∷ Some miss.Time ∷ []
unfolding first_miss
worked_last = refl

worked_alone : map (λ h. footer_miss (alone (hours true h))) (24 ∷ 25 ∷ []) ≡ None ∷ Some miss.Time ∷ []
unfolding first_miss
worked_alone = refl

-- an hour ahead without an offset of its own, and a time before midnight; daylight saving time behind standard time, and a time that is
-- not written; and standard time alone
standing : map stands_for (nuuk ∷ dublin ∷ alone (hours false 3) ∷ [])
    ≡ yearly (kind (neg_ℤ (pos 7200)) false (codes "-02")) (kind (neg_ℤ (pos 3600)) true (codes "-01")) (M 3 5 0, neg_ℤ (pos 3600)) (M 10 5 0, pos 0)
    ∷ yearly (kind (pos 3600) false (codes "IST")) (kind (pos 0) true (codes "GMT")) (J 60, pos 7200) (M 3 5 0, pos 86400)
    ∷ fixed (kind (pos 10800) false (codes "AAA")) ∷ []
unfolding stands_for offset_seconds time_seconds
standing = refl

-- the last Sunday of March 2024 at an hour before midnight, two hours behind UTC
nuuk_start : instant_in (pos 2024) (neg_ℤ (pos 7200)) (M 3 5 0, neg_ℤ (pos 3600)) ≡ pos 1711846800
unfolding
    instant_in rule_day nth_weekday last_with weekday_of
    is_leap days_in_year days_in_month days_after_zero year_start days_through days_into_year day
nuuk_start = refl
