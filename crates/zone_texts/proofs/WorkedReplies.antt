-- Replies about Berlin in 2024, as Python's `zoneinfo` has its times.
use Rattle.std.proofs.Common.{◌≡◌, refl, ap, ◌∙◌, arith, Bool, true, false, not, lit≤, ◌++◌, ◌∷◌, [], List, ℕ, ℤ, map, pos, int_lt, cond, Ok, Err, Some, None}
use Rattle.std.specs.{Prelude.{codes}, Fmt.{digits}}
use Rattle.basics.specs.{DateLaws.{year_of-day}, Dates.{year_of}, Days.{is_leap, days_in_year, days_in_month, days_after_zero, days_before_zero, year_start, days_through, days_into_year, day, IsCountedYear}, SignedLaws.{signed}}
use Rattle.civil_base.specs.{Instants.{local_at, seconds_of}, Layout.{day_part}, Ranges.{is_in_years}}
use Rattle.zone_words.specs.{Written.{epoch_text, seconds_text, fraction_text, moment_text, offset_shown, people_text}, declared.answer_form.AnswerForm.{AnswerForm}, declared.answer_form.AnswerForm.TheVariants.{People, Rfc3339, Epoch, Json}}
use Rattle.zone_texts.specs.{Berlin.{berlin_to as berlin, changes_in, in_force, instants_in, summer, total_in, winter}, Faults.{Due, behind, each_due, followed}, Instants.{instant_text, is_untold, shown_due}, Kinds.{kind_of, kind_text}, Lists.{change_due, kind_between, second_from, sides_text}, Objects.{clock_members, force_members, front_members, gap_object_text, kind_member, object_text, quoted, skipped_members}, Readings.{convert_due, local_due}, Skips.{from_to_text, gap_due, skipping}, declared.{fault.ReplyFault.TheVariants.{OutOfYears, Skipped, Untold}, kind.Kind.{Kind}, kind.Kind.TheVariants.{One, Gap, Fold}}}

counted : IsCountedYear (pos 2024)
counted = record { first = omega (arith, signed); last = omega (arith, signed) }

-- 27 October and 31 March 2024
year : year_of (pos 20023) ≡ pos 2024
unfolding is_leap days_in_year days_in_month days_after_zero days_before_zero year_start days_through days_into_year day
year = year_of-day (pos 2024) 10 27 counted (record { first_month = lit≤ tt; last_month = lit≤ tt; first_day = lit≤ tt; last_day = lit≤ tt })

spring : year_of (pos 19813) ≡ pos 2024
unfolding is_leap days_in_year days_in_month days_after_zero days_before_zero year_start days_through days_into_year day
spring = year_of-day (pos 2024) 3 31 counted (record { first_month = lit≤ tt; last_month = lit≤ tt; first_day = lit≤ tt; last_day = lit≤ tt })

in_2024 : (last x : ℤ) → year_of (day_part x) ≡ pos 2024 → is_untold (berlin last) x ≡ int_lt last (pos 2024)
unfolding berlin
in_2024 last x e = ap (int_lt last) e

told : (form : AnswerForm) (kind : Kind) (t o : ℤ) → total_in t ≡ o → is_in_years (local_at t o) ≡ true → year_of (day_part (local_at t o)) ≡ pos 2024
    → shown_due form (berlin (pos 2099)) (codes "Europe/Berlin") kind t ≡ Ok (instant_text form (berlin (pos 2099)) (codes "Europe/Berlin") kind t o)
unfolding shown_due berlin
told form kind t o is years year =
    let view = berlin (pos 2099) in
    (λ i. shown_by (is_in_years (local_at t (is i))) (is_untold view (local_at t (is i))) (instant_text form view (codes "Europe/Berlin") kind t (is i)))
    ∙ (λ i. shown_by (years i) (ap (int_lt (pos 2099)) year i) (instant_text form view (codes "Europe/Berlin") kind t o))
  where
    shown_by : Bool → Bool → List ℕ → Due
    shown_by years untold text = cond (not years) (Err OutOfYears) (cond untold (Err Untold) (Ok text))

-- 2024-10-27 02:30 comes twice: 00:30 UTC and 01:30 UTC
first : (form : AnswerForm) → shown_due form (berlin (pos 2099)) (codes "Europe/Berlin") Fold (pos 1729989000000000000)
    ≡ Ok (instant_text form (berlin (pos 2099)) (codes "Europe/Berlin") Fold (pos 1729989000000000000) (pos 7200))
unfolding winter summer in_force total_in seconds_of day_part
first form = told form Fold (pos 1729989000000000000) (pos 7200) refl refl year

second : (form : AnswerForm) → shown_due form (berlin (pos 2099)) (codes "Europe/Berlin") Fold (pos 1729992600000000000)
    ≡ Ok (instant_text form (berlin (pos 2099)) (codes "Europe/Berlin") Fold (pos 1729992600000000000) (pos 3600))
unfolding winter summer in_force total_in seconds_of day_part
second form = told form Fold (pos 1729992600000000000) (pos 3600) refl refl year

both : (form : AnswerForm) → local_due form (berlin (pos 2099)) (codes "Europe/Berlin") (codes " | ") (pos 1729996200000000000)
    ≡ Ok (instant_text form (berlin (pos 2099)) (codes "Europe/Berlin") Fold (pos 1729989000000000000) (pos 7200)
    ++ ((codes " | " ++ instant_text form (berlin (pos 2099)) (codes "Europe/Berlin") Fold (pos 1729992600000000000) (pos 3600)) ++ []))
unfolding winter summer in_force total_in instants_in berlin seconds_of day_part each_due convert_due
both form =
    (λ i. cond (ap (int_lt (pos 2099)) year i) (Err Untold) (followed (first form i) (followed (behind (codes " | ") (second form i)) (Ok []))))

twice_as_seconds : local_due Epoch (berlin (pos 2099)) (codes "Europe/Berlin") (codes " | ") (pos 1729996200000000000) ≡ Ok (codes "@1729989000 | @1729992600")
unfolding berlin epoch_text fraction_text digits
twice_as_seconds = both Epoch

twice_for_people : local_due People (berlin (pos 2099)) (codes "Europe/Berlin") (codes " | ") (pos 1729996200000000000)
    ≡ Ok (people_text (pos 1729996200000000000) (pos 7200) (codes "CEST")
    ++ ((codes " | " ++ people_text (pos 1729996200000000000) (pos 3600) (codes "CET")) ++ []))
unfolding berlin winter summer in_force seconds_of
twice_for_people = both People

as_object : instant_text Json (berlin (pos 2099)) (codes "Europe/Berlin") Fold (pos 1729989000000000000) (pos 7200)
    ≡ codes "{\"zone\":\"Europe/Berlin\",\"instant\":1729989000," ++ (codes "\"local\":\"" ++ moment_text 32 (pos 1729996200000000000)
    ++ codes "\",\"offset\":\"" ++ codes "+02:00" ++ codes "\",") ++ codes "\"abbreviation\":\"CEST\",\"saving\":3600" ++ codes ",\"kind\":\"fold\"" ++ codes "}"
unfolding berlin winter summer in_force seconds_of object_text front_members clock_members force_members kind_member quoted
    seconds_text fraction_text offset_shown digits
as_object = refl

untold : local_due People (berlin (pos 2023)) (codes "Europe/Berlin") (codes " | ") (pos 1729996200000000000) ≡ Err Untold
unfolding berlin convert_due day_part
untold = stop _ _ (ap (int_lt (pos 2023)) year)
  where
    stop : (b : Bool) (d : Due) → b ≡ true → cond b (Err Untold) d ≡ Err Untold
    stop true d e = refl
    stop false d e = cc

-- 2024-03-31 02:30 is skipped
skipped : gap_due People (berlin (pos 2099)) (codes "Europe/Berlin") (pos 1711852200000000000)
    ≡ Ok (codes "none: skipped at " ++ people_text (pos 1711854000000000000) (pos 7200) (codes "CEST") ++ codes ", from +01:00 to +02:00")
unfolding winter summer in_force changes_in berlin seconds_of skipping from_to_text offset_shown digits
skipped = refl

-- as an object, with nothing that is told of an instant of its own
skipped_object : gap_due Json (berlin (pos 2099)) (codes "Europe/Berlin") (pos 1711852200000000000)
    ≡ Ok ((codes "{\"zone\":\"Europe/Berlin\",\"skipped_at\":1711846800," ++ (codes "\"local\":\"" ++ moment_text 32 (pos 1711852200000000000)
    ++ codes "\",\"before\":\"" ++ codes "+01:00" ++ codes "\",\"after\":\"" ++ codes "+02:00" ++ codes "\",")
    ++ codes "\"abbreviation\":\"CEST\",\"saving\":3600" ++ codes ",\"kind\":\"gap\"") ++ codes "}")
unfolding winter summer in_force changes_in berlin seconds_of skipping gap_object_text front_members skipped_members force_members kind_member quoted
    seconds_text fraction_text offset_shown digits
skipped_object = refl

-- a form of instants alone has none for it
no_instant : map (λ form. gap_due form (berlin (pos 2099)) (codes "Europe/Berlin") (pos 1711852200000000000)) (Rfc3339 ∷ Epoch ∷ []) ≡ Err Skipped ∷ Err Skipped ∷ []
no_instant = refl

-- no change
unskipped : map (λ form. gap_due form (berlin (pos 2099)) (codes "Europe/Berlin") (pos 1711854000000000000)) (People ∷ Json ∷ []) ≡ Ok (codes "none") ∷ Ok (codes "null") ∷ []
unfolding winter summer in_force changes_in berlin seconds_of skipping
unskipped = refl

-- 02:00 is the first local time that is, and 03:00 the first that isn't
edges : map (skipping (berlin (pos 2099)))
    (pos 1711850399999999999 ∷ pos 1711850400000000000 ∷ pos 1711853999999999999 ∷ pos 1711854000000000000 ∷ pos 1729996200000000000 ∷ [])
    ≡ None ∷ Some (pos 1711846800) ∷ Some (pos 1711846800) ∷ None ∷ None ∷ []
unfolding winter summer in_force changes_in berlin seconds_of skipping
edges = refl

strings : map quoted (codes "a\"b" ∷ codes "\\" ∷ (9 ∷ 31 ∷ 32 ∷ 127 ∷ 195 ∷ 164 ∷ []) ∷ [])
    ≡ codes "\"a\\\"b\"" ∷ codes "\"\\\\\"" ∷ (codes "\"\\u0009\\u001f " ++ (127 ∷ 195 ∷ 164 ∷ 34 ∷ [])) ∷ []
unfolding quoted
strings = refl

kinds : map (λ n. kind_text (kind_of n)) (0 ∷ 1 ∷ 2 ∷ 3 ∷ 4 ∷ []) ≡ codes "gap" ∷ codes "one" ∷ codes "fold" ∷ codes "more" ∷ codes "more" ∷ []
kinds = refl

-- the changes of 2024
listed : each_due (change_due Epoch (berlin (pos 2099)) (codes "Europe/Berlin")) (changes_in (pos 1704067200) (pos 1735689600))
    ≡ Ok ((codes "@1711846800: +01:00 CET to +02:00 CEST, saving 3600" ++ 10 ∷ [])
    ++ ((codes "@1729990800: +02:00 CEST to +01:00 CET, saving 0" ++ 10 ∷ []) ++ []))
unfolding winter summer in_force changes_in berlin each_due change_due sides_text epoch_text fraction_text offset_shown digits
listed = refl

-- the second of a change is within from its begin on
window : map second_from (pos 0 ∷ pos 1 ∷ pos 1000000000 ∷ pos 1000000001 ∷ []) ≡ pos 0 ∷ pos 1 ∷ pos 1 ∷ pos 2 ∷ []
unfolding seconds_of
window = refl

by_change : kind_between (pos 3600) (pos 7200) ∷ kind_between (pos 7200) (pos 3600) ∷ kind_between (pos 0) (pos 0) ∷ [] ≡ Gap ∷ Fold ∷ One ∷ []
by_change = refl
