-- Requests about Berlin in 2024, as Python's `zoneinfo` has its times, and requests that are faults.
use Rattle.std.proofs.Common.{◌≡◌, Some, None, refl, ap, ◌∙◌, arith, Bool, true, false, not, ◌||◌, lit≤, ◌++◌, ◌∷◌, [], List, ℕ, ℤ, map, pos, int_lt, cond, Ok, Err}
use Rattle.std.specs.{Prelude.{bytes_eq, codes}, Fmt.{digits}, Str.{chars, is_utf8}}
use lib.Utf8.{encode}
use Rattle.basics.specs.{DateLaws.{year_of-day}, Dates.{year_of}, Days.{is_leap, days_in_year, days_in_month, days_after_zero, days_before_zero, year_start, days_through, days_into_year, day, IsCountedYear}, SignedLaws.{signed}, Numbers.{value_in}}
use Rattle.civil_base.specs.{Clock.{time_at}, Instants.{local_at, seconds_of}, Layout.{day_part, time_part}, Ranges.{is_in_years}}
use Rattle.zone_command.specs.{Answers.{Answer, told}, Named.{Found}, Offsets.{offset_in, size_in, two_in}, Requests.{request_in, request_of, words_of}, Streams.{answer_for, between, closing, is_fault, opening, response_of, stream_replies}, LogTexts.{log_text, text_of}}
use Rattle.zone_words.specs.{Numbers.{moment, seconds_east, counted}, Pieces.{digit_at, two_at, four_at, date_at, minute_at, second_at, offset_at}, Readings.{digits_at, fraction_at, front_at, seconds_at, moment_in, local_in, in_years, zoned_at, zoned_in, size_at, count_at, count_in, counted_in, written_in, instant_in, asked_in}, Written.{epoch_text, fraction_text, offset_shown, people_text, rfc3339_text}, declared.answer_form.AnswerForm.{AnswerForm}, declared.answer_form.AnswerForm.TheVariants.{People, Rfc3339, Epoch, Json}, Arguments.{task_in}, FaultLines.{fault_line}, Sorted.{put_any, put_option, put_word}, Words.{words_in}}
use Rattle.zone_texts.specs.{Berlin.{berlin_to, changes_in, in_force, instants_in, summer, total_in, winter}, Faults.{Due, behind, each_due, followed}, Instants.{instant_text, is_untold, shown_due}, Readings.{convert_due, local_due}, Skips.{from_to_text, skipping}, Views.{ZoneView}, declared.{fault.ReplyFault.TheVariants.{OutOfYears, Skipped, Untold}, kind.Kind.{Kind}, kind.Kind.TheVariants.{Fold, One}}}

abbrev berlin : ZoneView
berlin = berlin_to (pos 2099)

found : List ℕ → Found
found name = cond (bytes_eq name (codes "Europe/Berlin")) (Ok berlin) (Err (codes "no zone has this name"))

-- what is answered to a text
abbrev answer : AnswerForm → List ℕ → Answer
answer form text = answer_for found form (request_of (words_of text))

-- faults
faults : List (List ℕ × List ℕ)
faults =
    (codes "", codes "a request is missing") ∷ (codes "  ", codes "a request is missing") ∷
    (codes "at UTC @0 --json", codes "a request has no options") ∷ (codes "at UTC @0 @1", codes "a request has one instant") ∷
    (codes "at UTC now", codes "\"now\": a request has an instant of its own, as @1729989000") ∷
    (codes "names", codes "a request is at, local or convert") ∷
    (codes "what", codes "\"what\": no command has this name; zone --help tells them") ∷
    (codes "at UTC", codes "\"at\": words are missing behind this command") ∷
    (codes "at UTC @x", codes "\"@x\": a number of seconds is missing, as in @1729989000") ∷
    (codes "local UTC 2024-10-27 02:70", codes "\"2024-10-27 02:70\": a time of day goes from 00:00:00 to 23:59:59") ∷
    (codes "at Berlin @0", codes "\"Berlin\": no zone has this name") ∷
    (codes "convert Europe/Berlin Paris 2024-10-27T02:30", codes "\"Paris\": no zone has this name") ∷
    (codes "convert Rome Paris 2024-10-27 02:30", codes "\"Rome\": no zone has this name") ∷ []

refused : map (λ row. answer People row.0) faults ≡ map (λ row. Err row.1) faults
unfolding found faults is_leap days_in_year days_in_month days_after_zero days_before_zero year_start days_through days_into_year day time_at
    moment seconds_east counted digit_at two_at four_at date_at minute_at second_at offset_at digits_at fraction_at front_at seconds_at
    moment_in local_in in_years zoned_at zoned_in size_at count_at count_in counted_in written_in instant_in asked_in
    day_part time_part value_in two_in size_in offset_in put_any put_option put_word task_in words_in fault_line
refused = refl

ends : map response_of (Ok (codes "a") ∷ Err (codes "b") ∷ []) ≡ (97 ∷ 10 ∷ []) ∷ (63 ∷ 32 ∷ 98 ∷ 10 ∷ []) ∷ []
ends = refl

are_faults : map is_fault (Ok (codes "a") ∷ Err (codes "b") ∷ []) ≡ false ∷ true ∷ []
are_faults = refl

-- bytes that are no text
no_text : request_in (255 ∷ []) ≡ Err (codes "a request is text in UTF-8")
unfolding is_utf8 chars encode request_in
no_text = refl

counted_year : IsCountedYear (pos 2024)
counted_year = record { first = omega (arith, signed); last = omega (arith, signed) }

-- 27 October and 31 March 2024
in_2024 : (year_of (pos 20023) ≡ pos 2024) × (year_of (pos 19813) ≡ pos 2024)
unfolding is_leap days_in_year days_in_month days_after_zero days_before_zero year_start days_through days_into_year day
in_2024 = (
  year_of-day (pos 2024) 10 27 counted_year (record { first_month = lit≤ tt; last_month = lit≤ tt; first_day = lit≤ tt; last_day = lit≤ tt }),
  year_of-day (pos 2024) 3 31 counted_year (record { first_month = lit≤ tt; last_month = lit≤ tt; first_day = lit≤ tt; last_day = lit≤ tt }),
)

late : year_of (pos 47482) ≡ pos 2100
unfolding is_leap days_in_year days_in_month days_after_zero days_before_zero year_start days_through days_into_year day
late = year_of-day (pos 2100) 1 1 (record { first = omega (arith, signed); last = omega (arith, signed) })
    (record { first_month = lit≤ tt; last_month = lit≤ tt; first_day = lit≤ tt; last_day = lit≤ tt })

name : List ℕ
name = codes "Europe/Berlin"

if_told : Bool → Bool → List ℕ → Due
if_told years untold text = cond (not years) (Err OutOfYears) (cond untold (Err Untold) (Ok text))

-- an instant that clocks show in that year
shown : (who : List ℕ) (form : AnswerForm) (kind : Kind) (t o : ℤ) → total_in t ≡ o → is_in_years (local_at t o) ≡ true
    → year_of (day_part (local_at t o)) ≡ pos 2024 → shown_due form berlin who kind t ≡ Ok (instant_text form berlin who kind t o)
unfolding shown_due berlin_to if_told
shown who form kind t o is years year =
    (λ i. if_told (is_in_years (local_at t (is i))) (is_untold berlin (local_at t (is i))) (instant_text form berlin who kind t (is i)))
    ∙ (λ i. if_told (years i) (ap (int_lt (pos 2099)) year i) (instant_text form berlin who kind t o))

-- 2024-10-27 02:30 comes twice: 00:30 UTC and 01:30 UTC
first : (who : List ℕ) (form : AnswerForm) (kind : Kind)
    → shown_due form berlin who kind (pos 1729989000000000000) ≡ Ok (instant_text form berlin who kind (pos 1729989000000000000) (pos 7200))
unfolding winter summer in_force total_in seconds_of day_part
first who form kind = shown who form kind (pos 1729989000000000000) (pos 7200) refl refl in_2024.0

second : (who : List ℕ) (form : AnswerForm) (kind : Kind)
    → shown_due form berlin who kind (pos 1729992600000000000) ≡ Ok (instant_text form berlin who kind (pos 1729992600000000000) (pos 3600))
unfolding winter summer in_force total_in seconds_of day_part
second who form kind = shown who form kind (pos 1729992600000000000) (pos 3600) refl refl in_2024.0

both : (form : AnswerForm) (separator : List ℕ) → local_due form berlin name separator (pos 1729996200000000000)
    ≡ Ok (instant_text form berlin name Fold (pos 1729989000000000000) (pos 7200)
    ++ ((separator ++ instant_text form berlin name Fold (pos 1729992600000000000) (pos 3600)) ++ []))
unfolding winter summer in_force total_in instants_in berlin_to seconds_of day_part each_due convert_due
both form separator =
    (λ i. cond (ap (int_lt (pos 2099)) in_2024.0 i) (Err Untold) (followed (first name form Fold i) (followed (behind separator (second name form Fold i)) (Ok []))))

-- for people
at_instant : answer People (codes " at Europe/Berlin   @1729989000 ") ≡ Ok (people_text (pos 1729996200000000000) (pos 7200) (codes "CEST"))
unfolding found name winter summer in_force total_in instants_in berlin_to seconds_of is_leap days_in_year days_in_month days_after_zero days_before_zero year_start days_through days_into_year day time_at
    moment seconds_east counted digit_at two_at four_at date_at minute_at second_at offset_at digits_at fraction_at front_at seconds_at
    moment_in local_in in_years zoned_at zoned_in size_at count_at count_in counted_in written_in instant_in asked_in
    day_part time_part value_in two_in size_in offset_in put_any put_option put_word task_in words_in fault_line
at_instant = ap (told name) (first name People Fold)

-- all readings on one line
twice : answer Epoch (codes "local Europe/Berlin 2024-10-27 02:30") ≡ Ok (codes "@1729989000 | @1729992600")
unfolding found name berlin_to epoch_text fraction_text digits is_leap days_in_year days_in_month days_after_zero days_before_zero year_start days_through days_into_year day time_at
    moment seconds_east counted digit_at two_at four_at date_at minute_at second_at offset_at digits_at fraction_at front_at seconds_at
    moment_in local_in in_years zoned_at zoned_in size_at count_at count_in counted_in written_in instant_in asked_in
    day_part time_part value_in two_in size_in offset_in put_any put_option put_word task_in words_in fault_line
twice = ap (λ d. told name (followed (behind (opening Epoch) d) (Ok (closing Epoch)))) (both Epoch (codes " | "))

array : answer Json (codes "local Europe/Berlin 2024-10-27T02:30")
    ≡ Ok ((codes "[" ++ (instant_text Json berlin name Fold (pos 1729989000000000000) (pos 7200)
    ++ ((codes "," ++ instant_text Json berlin name Fold (pos 1729992600000000000) (pos 3600)) ++ []))) ++ codes "]")
unfolding found name berlin_to is_leap days_in_year days_in_month days_after_zero days_before_zero year_start days_through days_into_year day time_at
    moment seconds_east counted digit_at two_at four_at date_at minute_at second_at offset_at digits_at fraction_at front_at seconds_at
    moment_in local_in in_years zoned_at zoned_in size_at count_at count_in counted_in written_in instant_in asked_in
    day_part time_part value_in two_in size_in offset_in put_any put_option put_word task_in words_in fault_line
array = ap (λ d. told name (followed (behind (opening Json) d) (Ok (closing Json)))) (both Json (codes ","))

-- 00:30 by a clock one hour behind UTC is 01:30 UTC
converted_once : answer Epoch (codes "convert -01:00 Europe/Berlin 2024-10-27T00:30") ≡ Ok (codes "@1729992600")
unfolding found name winter summer in_force total_in instants_in berlin_to seconds_of each_due convert_due epoch_text fraction_text digits
    is_leap days_in_year days_in_month days_after_zero days_before_zero year_start days_through days_into_year day time_at
    moment seconds_east counted digit_at two_at four_at date_at minute_at second_at offset_at digits_at fraction_at front_at seconds_at
    moment_in local_in in_years zoned_at zoned_in size_at count_at count_in counted_in written_in instant_in asked_in
    day_part time_part value_in two_in size_in offset_in put_any put_option put_word task_in words_in fault_line
converted_once =
    (λ i. told (cond (ap (int_lt (pos 9999)) in_2024.0 i || false) (codes "-01:00") name)
    (followed (behind [] (cond (ap (int_lt (pos 9999)) in_2024.0 i) (Err Untold) (followed (second name Epoch One i) (Ok [])))) (Ok [])))

-- 2024-03-31 02:30 is skipped
skip_line : List ℕ
skip_line = codes "none: skipped at " ++ people_text (pos 1711854000000000000) (pos 7200) (codes "CEST") ++ codes ", from +01:00 to +02:00"

skipped : answer People (codes "local Europe/Berlin 2024-03-31 02:30") ≡ Ok (skip_line ++ [])
unfolding found name skip_line winter summer in_force total_in instants_in changes_in berlin_to seconds_of convert_due skipping from_to_text offset_shown digits is_leap days_in_year days_in_month days_after_zero days_before_zero year_start days_through days_into_year day time_at
    moment seconds_east counted digit_at two_at four_at date_at minute_at second_at offset_at digits_at fraction_at front_at seconds_at
    moment_in local_in in_years zoned_at zoned_in size_at count_at count_in counted_in written_in instant_in asked_in
    day_part time_part value_in two_in size_in offset_in put_any put_option put_word task_in words_in fault_line
skipped = λ i. told name (followed (behind [] (cond (ap (int_lt (pos 2099)) in_2024.1 i) (Err Untold) (Ok skip_line))) (Ok []))

-- a form of instants alone has no line for it
no_instant : answer Epoch (codes "local Europe/Berlin 2024-03-31 02:30") ≡ Err (codes "\"Europe/Berlin\": clocks skip this local time")
unfolding found name winter summer in_force total_in instants_in berlin_to seconds_of convert_due
    is_leap days_in_year days_in_month days_after_zero days_before_zero year_start days_through days_into_year day time_at
    moment seconds_east counted digit_at two_at four_at date_at minute_at second_at offset_at digits_at fraction_at front_at seconds_at
    moment_in local_in in_years zoned_at zoned_in size_at count_at count_in counted_in written_in instant_in asked_in
    day_part time_part value_in two_in size_in offset_in put_any put_option put_word task_in words_in fault_line
no_instant = λ i. told name (followed (behind [] (cond (ap (int_lt (pos 2099)) in_2024.1 i) (Err Untold) (Err Skipped))) (Ok []))

if_late : (b c : Bool) (d : Due) → b ≡ true
    → told (cond (b || c) name (codes "UTC")) (followed (behind [] (cond b (Err Untold) d)) (Ok [])) ≡ Err (codes "\"Europe/Berlin\": the zone's rules end before that year")
unfolding name
if_late true c d e = refl
if_late false c d e = cc

-- a fault of a reply is told of the first zone where it is that zone's
too_late : answer Epoch (codes "convert Europe/Berlin UTC 2100-01-01 00:00") ≡ Err (codes "\"Europe/Berlin\": the zone's rules end before that year")
unfolding found name berlin_to convert_due is_leap days_in_year days_in_month days_after_zero days_before_zero year_start days_through days_into_year day time_at
    moment seconds_east counted digit_at two_at four_at date_at minute_at second_at offset_at digits_at fraction_at front_at seconds_at
    moment_in local_in in_years zoned_at zoned_in size_at count_at count_in counted_in written_in instant_in asked_in
    day_part time_part value_in two_in size_in offset_in put_any put_option put_word task_in words_in fault_line
too_late = if_late _ _ _ (ap (int_lt (pos 2099)) late)

-- else of the other
late_shown : shown_due Epoch berlin name One (pos 4102444800000000000) ≡ Err Untold
unfolding shown_due berlin_to if_told winter summer in_force total_in seconds_of day_part
late_shown = λ i. if_told true (ap (int_lt (pos 2099)) late i) (instant_text Epoch berlin name One (pos 4102444800000000000) (pos 3600))

too_late_for : answer Epoch (codes "convert UTC Europe/Berlin 2100-01-01 00:00") ≡ Err (codes "\"Europe/Berlin\": the zone's rules end before that year")
unfolding found name winter summer in_force total_in instants_in berlin_to seconds_of each_due convert_due
    is_leap days_in_year days_in_month days_after_zero days_before_zero year_start days_through days_into_year day time_at
    moment seconds_east counted digit_at two_at four_at date_at minute_at second_at offset_at digits_at fraction_at front_at seconds_at
    moment_in local_in in_years zoned_at zoned_in size_at count_at count_in counted_in written_in instant_in asked_in
    day_part time_part value_in two_in size_in offset_in put_any put_option put_word task_in words_in fault_line
too_late_for =
    (λ i. told (cond (ap (int_lt (pos 9999)) late i || false) (codes "UTC") name)
    (followed (behind [] (cond (ap (int_lt (pos 9999)) late i) (Err Untold) (followed (late_shown i) (Ok [])))) (Ok [])))

-- what stands around readings, and between them
around : map (λ form. opening form ++ between form ++ closing form) (People ∷ Rfc3339 ∷ Epoch ∷ Json ∷ []) ≡ codes " | " ∷ codes " | " ∷ codes " | " ∷ codes "[,]" ∷ []
around = refl

too_long : (stream_replies found People).to_long ≡ codes "? a request of more than 4,096 bytes" ++ 10 ∷ []
too_long = refl

-- in a log
logged : log_text People berlin (pos 1729989000000000000) ≡ Some (people_text (pos 1729996200000000000) (pos 7200) (codes "CEST"))
unfolding winter summer in_force total_in instants_in berlin_to seconds_of
logged = ap text_of (first [] People Fold)

no_object : log_text Json berlin (pos 1729989000000000000) ≡ Some (rfc3339_text (pos 1729996200000000000) (pos 7200))
unfolding winter summer in_force total_in instants_in berlin_to seconds_of
no_object = ap text_of (first [] Rfc3339 Fold)

-- 2100-01-01 00:00 UTC, which the zone doesn't tell
unlogged : log_text Epoch berlin (pos 4102444800000000000) ≡ None
unfolding winter summer in_force total_in instants_in berlin_to seconds_of day_part shown_due if_told
unlogged = λ i. text_of (if_told true (ap (int_lt (pos 2099)) late i) (instant_text Epoch berlin [] One (pos 4102444800000000000) (pos 3600)))
