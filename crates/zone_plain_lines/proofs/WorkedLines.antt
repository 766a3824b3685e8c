-- Fields, times, days, columns and whole lines at worked rows.
use Rattle.std.{proofs.Common.{◌≡◌, ℕ, [], ◌∷◌, map, true, false, Some, None, Ok, Err, refl, pos, negsuc, length, List}, specs.Prelude.{codes}}
use Rattle.basics.specs.{Days.{days_in_month, is_leap}, Numbers.{signed_in, value_in}}
use Rattle.zone_table.specs.{Seconds.{with_type}, Values.{no_saving, one_off, multiple, space, zone, continuation, rule, link}, declared.change.ChangeTime.TheVariants.{UntilYear, UntilMonth, UntilDay, UntilTime}, declared.{day.DaySpec.TheVariants.{Ordinal, Last, LastOnOrBefore, FirstOnOrAfter}, month.Month.{Month}, month.Month.TheVariants.{January, February, March, April, May, June, July, August, September, October, November, December}, time.TimeSpec.TheVariants.{Hours, HoursMinutes, HoursMinutesSeconds}, time.TimeType.TheVariants.{Wall, Standard, UTC}, weekday.Weekday.TheVariants.{Sunday, Wednesday, Friday, Saturday}}, declared.year.Year.TheVariants.{Minimum, Maximum, Number}}
use Rattle.zone_plain_lines.specs.Clocks.{amount, clock_spec, amount_spec, rounded, second_of, minutes_below, unsigned, clock_of, amount_of, saved, marked, at_of}
use Rattle.zone_plain_lines.specs.{Columns.{numbered_year, year_of, to_of, years_of, type_of, letters_of, ruleset_name, zone_name, saving_of, is_format}, Days.{day_number, side_of, sided, day_of, if_there}}
use Rattle.zone_plain_lines.specs.{Meanings.{offset_of, save_of, moment_of, rule_of, end_at, end_of, info_of, link_of, first_line_of, meaning}, Numbers.{number_between}, Quotes.{fields, laid_out, pieces, has_bad_quotes}}
use Rattle.zone_plain_lines.specs.Words.{meant, line_word, month_word, month_of, weekday_of, last_weekday_of, from_word, to_word}
use Rattle.zone_plain_lines.specs.declared.cause.PlainCause.TheVariants as cause

-- ---- fields

-- each of the five white bytes, also at the start; a sharp within a field; a sharp and a space within quotes
parted : map fields ((9 ∷ 97 ∷ 11 ∷ 98 ∷ 12 ∷ 99 ∷ 13 ∷ 32 ∷ 32 ∷ 100 ∷ []) ∷ codes " a b#c d" ∷ codes "# a" ∷ codes "a\"b #\"c \"d\"" ∷ codes "" ∷ [])
    ≡ Ok (codes "a" ∷ codes "b" ∷ codes "c" ∷ codes "d" ∷ []) ∷ Ok (codes "a" ∷ codes "b" ∷ []) ∷ Ok [] ∷ Ok (codes "ab #c" ∷ codes "d" ∷ []) ∷ Ok [] ∷ []
unfolding fields laid_out pieces has_bad_quotes
parted = refl

-- open quotes, quotes of nothing; within a comment neither counts
quoted : map fields (codes "a \"b" ∷ codes "a \"\" b" ∷ codes "a # \" \"\"" ∷ [])
    ≡ Err cause.Quotes ∷ Err cause.Quotes ∷ Ok (codes "a" ∷ []) ∷ []
unfolding fields laid_out pieces has_bad_quotes
quoted = refl

-- ---- times

times : map clock_of (codes "2" ∷ codes "2:00" ∷ codes "0:9:21" ∷ codes "1:28:14" ∷ codes "-2:30" ∷ codes "-" ∷ codes "24" ∷ codes "0:0:60" ∷ [])
    ≡ Some (amount false 7200) ∷ Some (amount false 7200) ∷ Some (amount false 561) ∷ Some (amount false 5294) ∷ Some (amount true 9000)
    ∷ Some (amount false 0) ∷ Some (amount false 86400) ∷ Some (amount false 60) ∷ []
unfolding clock_of unsigned minutes_below second_of rounded number_between value_in
times = refl

-- to the nearest second, ties to even
fractions : map clock_of (codes "0:0:1.5" ∷ codes "0:0:2.5" ∷ codes "0:0:2.500" ∷ codes "0:0:2.501" ∷ codes "0:0:1.49" ∷ codes "0:0:1.6" ∷ codes "-0:0:3.5" ∷ [])
    ≡ Some (amount false 2) ∷ Some (amount false 2) ∷ Some (amount false 2) ∷ Some (amount false 3) ∷ Some (amount false 1) ∷ Some (amount false 2)
    ∷ Some (amount true 4) ∷ []
unfolding clock_of unsigned minutes_below second_of rounded number_between value_in
fractions = refl

no_times : map clock_of (codes "100" ∷ codes "1:60" ∷ codes "0:0:61" ∷ codes "0:0:1." ∷ codes "0:1.5" ∷ codes "+1" ∷ codes "--1" ∷ codes "1:" ∷ codes "" ∷ codes "1s" ∷ [])
    ≡ None ∷ None ∷ None ∷ None ∷ None ∷ None ∷ None ∷ None ∷ None ∷ None ∷ []
unfolding clock_of unsigned minutes_below second_of rounded number_between value_in
no_times = refl

-- a suffix that says which time is standard is refused
savings : map saved (codes "1" ∷ codes "1d" ∷ codes "0" ∷ codes "0s" ∷ codes "-1" ∷ codes "-1d" ∷ codes "1s" ∷ codes "0d" ∷ codes "-1s" ∷ codes "1w" ∷ [])
    ≡ Ok (amount false 3600) ∷ Ok (amount false 3600) ∷ Ok (amount false 0) ∷ Ok (amount false 0) ∷ Ok (amount true 3600) ∷ Ok (amount true 3600)
    ∷ Err cause.Saving ∷ Err cause.Saving ∷ Err cause.Saving ∷ Err cause.Time ∷ []
unfolding saved amount_of clock_of unsigned minutes_below second_of rounded number_between value_in
savings = refl

marks : map at_of (codes "23s" ∷ codes "2w" ∷ codes "2u" ∷ codes "2g" ∷ codes "2Z" ∷ codes "0" ∷ codes "0s" ∷ codes "-1:30:15u" ∷ codes "2d" ∷ [])
    ≡ Ok (with_type (HoursMinutes (pos 23) (pos 0)) Standard) ∷ Ok (with_type (HoursMinutes (pos 2) (pos 0)) Wall)
    ∷ Ok (with_type (HoursMinutes (pos 2) (pos 0)) UTC) ∷ Ok (with_type (HoursMinutes (pos 2) (pos 0)) UTC)
    ∷ Ok (with_type (HoursMinutes (pos 2) (pos 0)) UTC) ∷ Ok (with_type (HoursMinutes (pos 0) (pos 0)) Wall)
    ∷ Ok (with_type (HoursMinutes (pos 0) (pos 0)) Standard)
    ∷ Ok (with_type (HoursMinutesSeconds (negsuc 0) (negsuc 29) (negsuc 14)) UTC) ∷ Err cause.Time ∷ []
unfolding at_of marked clock_spec amount_of clock_of unsigned minutes_below second_of rounded number_between value_in
marks = refl

-- each mark in both cases
all_marks : map (λ text. (marked text).1) (codes "2w" ∷ codes "2W" ∷ codes "2s" ∷ codes "2S" ∷ codes "2u" ∷ codes "2U" ∷ codes "2g" ∷ codes "2G" ∷ codes "2z" ∷ codes "2Z" ∷ codes "2" ∷ codes "2x" ∷ [])
    ≡ Wall ∷ Wall ∷ Standard ∷ Standard ∷ UTC ∷ UTC ∷ UTC ∷ UTC ∷ UTC ∷ UTC ∷ Wall ∷ Wall ∷ []
unfolding marked
all_marks = refl

capitals : map at_of (codes "2W" ∷ codes "2S" ∷ codes "2:30U" ∷ codes "2:30:15G" ∷ codes "-2Z" ∷ [])
    ≡ Ok (with_type (HoursMinutes (pos 2) (pos 0)) Wall) ∷ Ok (with_type (HoursMinutes (pos 2) (pos 0)) Standard)
    ∷ Ok (with_type (HoursMinutes (pos 2) (pos 30)) UTC) ∷ Ok (with_type (HoursMinutesSeconds (pos 2) (pos 30) (pos 15)) UTC)
    ∷ Ok (with_type (HoursMinutes (negsuc 1) (pos 0)) UTC) ∷ []
unfolding at_of marked clock_spec amount_of clock_of unsigned minutes_below second_of rounded number_between value_in
capitals = refl

-- the last of each part that is taken
last_times : map clock_of (codes "48" ∷ codes "49" ∷ codes "99" ∷ codes "48:01" ∷ codes "99:59" ∷ codes "0:59" ∷ codes "0:59:00" ∷ codes "0:00:59" ∷ codes "0:0:60" ∷ codes "99:59:60" ∷ codes "-99:59:60" ∷ codes "0:59:59.5" ∷ [])
    ≡ Some (amount false 172800) ∷ Some (amount false 176400) ∷ Some (amount false 356400) ∷ Some (amount false 172860) ∷ Some (amount false 359940)
    ∷ Some (amount false 3540) ∷ Some (amount false 3540) ∷ Some (amount false 59) ∷ Some (amount false 60) ∷ Some (amount false 360000)
    ∷ Some (amount true 360000) ∷ Some (amount false 3600) ∷ []
unfolding clock_of unsigned minutes_below second_of rounded number_between value_in
last_times = refl

-- ---- days

days : map (day_of February) (codes "29" ∷ codes "lastSu" ∷ codes "Su>=8" ∷ codes "Su>=29" ∷ codes "sunday<=25" ∷ codes "Su<=28" ∷ codes "Su<=29" ∷ codes "30" ∷ codes "0" ∷ codes "S>=8" ∷ codes "Su>8"
    ∷ codes "Su>=30" ∷ codes "last" ∷ codes "Su" ∷ [])
    ≡ Ok (Ordinal (pos 29)) ∷ Ok (Last Sunday) ∷ Ok (FirstOnOrAfter Sunday (pos 8)) ∷ Ok (FirstOnOrAfter Sunday (pos 29)) ∷ Ok (LastOnOrBefore Sunday (pos 25))
    ∷ Ok (LastOnOrBefore Sunday (pos 28)) ∷ Ok (Last Sunday)
    ∷ Err cause.Day ∷ Err cause.Day ∷ Err cause.Day ∷ Err cause.Day ∷ Err cause.Day ∷ Err cause.Day ∷ Err cause.Day ∷ []
unfolding day_of sided side_of day_number number_between value_in weekday_of last_weekday_of days_in_month is_leap meant
days = refl

-- the last day of each month, and the day after it
last_days : map (λ (one : Month × List ℕ). day_of one.0 one.1) ((January, codes "31") ∷ (February, codes "29") ∷ (March, codes "31") ∷ (April, codes "30") ∷ (May, codes "31") ∷ (June, codes "30") ∷ (July, codes "31") ∷ (August, codes "31") ∷ (September, codes "30") ∷ (October, codes "31") ∷ (November, codes "30") ∷ (December, codes "31") ∷ [])
    ≡ Ok (Ordinal (pos 31)) ∷ Ok (Ordinal (pos 29)) ∷ Ok (Ordinal (pos 31)) ∷ Ok (Ordinal (pos 30)) ∷ Ok (Ordinal (pos 31)) ∷ Ok (Ordinal (pos 30)) ∷ Ok (Ordinal (pos 31)) ∷ Ok (Ordinal (pos 31)) ∷ Ok (Ordinal (pos 30)) ∷ Ok (Ordinal (pos 31)) ∷ Ok (Ordinal (pos 30)) ∷ Ok (Ordinal (pos 31)) ∷ []
unfolding day_of sided side_of day_number number_between value_in weekday_of last_weekday_of days_in_month is_leap meant
last_days = refl

days_after : map (λ (one : Month × List ℕ). day_of one.0 one.1) ((January, codes "32") ∷ (February, codes "30") ∷ (March, codes "32") ∷ (April, codes "31") ∷ (May, codes "32") ∷ (June, codes "31") ∷ (July, codes "32") ∷ (August, codes "32") ∷ (September, codes "31") ∷ (October, codes "32") ∷ (November, codes "31") ∷ (December, codes "32") ∷ [])
    ≡ Err cause.Day ∷ Err cause.Day ∷ Err cause.Day ∷ Err cause.Day ∷ Err cause.Day ∷ Err cause.Day ∷ Err cause.Day ∷ Err cause.Day ∷ Err cause.Day ∷ Err cause.Day ∷ Err cause.Day ∷ Err cause.Day ∷ []
unfolding day_of sided side_of day_number number_between value_in weekday_of last_weekday_of days_in_month is_leap meant
days_after = refl

-- every other month has its 29th in each year
other_months : map (λ month. day_of month (codes "Su<=29")) (January ∷ March ∷ April ∷ May ∷ June ∷ July ∷ August ∷ September ∷ October ∷ November ∷ December ∷ [])
    ≡ Ok (LastOnOrBefore Sunday (pos 29)) ∷ Ok (LastOnOrBefore Sunday (pos 29)) ∷ Ok (LastOnOrBefore Sunday (pos 29)) ∷ Ok (LastOnOrBefore Sunday (pos 29)) ∷ Ok (LastOnOrBefore Sunday (pos 29)) ∷ Ok (LastOnOrBefore Sunday (pos 29)) ∷ Ok (LastOnOrBefore Sunday (pos 29)) ∷ Ok (LastOnOrBefore Sunday (pos 29)) ∷ Ok (LastOnOrBefore Sunday (pos 29)) ∷ Ok (LastOnOrBefore Sunday (pos 29)) ∷ Ok (LastOnOrBefore Sunday (pos 29)) ∷ []
unfolding day_of sided side_of day_number number_between value_in weekday_of last_weekday_of days_in_month is_leap meant
other_months = refl

other_29ths : map (λ month. if_there (Number (pos 2019)) None month (Ordinal (pos 29))) (January ∷ March ∷ April ∷ May ∷ June ∷ July ∷ August ∷ September ∷ October ∷ November ∷ December ∷ [])
    ≡ Ok tt ∷ Ok tt ∷ Ok tt ∷ Ok tt ∷ Ok tt ∷ Ok tt ∷ Ok tt ∷ Ok tt ∷ Ok tt ∷ Ok tt ∷ Ok tt ∷ []
unfolding if_there
other_29ths = refl

-- weekdays in full, and in capitals
full_days : map (day_of February) (codes "Sun<=29" ∷ codes "Sunday<=29" ∷ codes "SUNDAY>=1" ∷ codes "wednes<=1" ∷ codes "lastSaturday" ∷ codes "LASTFRI" ∷ codes "1" ∷ codes "01" ∷ codes "Sun=>1" ∷ codes "<=1" ∷ [])
    ≡ Ok (Last Sunday) ∷ Ok (Last Sunday) ∷ Ok (FirstOnOrAfter Sunday (pos 1)) ∷ Ok (LastOnOrBefore Wednesday (pos 1)) ∷ Ok (Last Saturday) ∷ Ok (Last Friday)
    ∷ Ok (Ordinal (pos 1)) ∷ Ok (Ordinal (pos 1)) ∷ Err cause.Day ∷ Err cause.Day ∷ []
unfolding day_of sided side_of day_number number_between value_in weekday_of last_weekday_of days_in_month is_leap meant
full_days = refl

-- February 29 in a leap year, and in a common one
leap_days : map (λ year. if_there (Number year) None February (Ordinal (pos 29))) (pos 2020 ∷ pos 2000 ∷ pos 0 ∷ negsuc 3 ∷ pos 2019 ∷ pos 2022 ∷ pos 1900 ∷ [])
    ≡ Ok tt ∷ Ok tt ∷ Ok tt ∷ Ok tt ∷ Err cause.Day ∷ Err cause.Day ∷ Err cause.Day ∷ []
unfolding if_there is_leap
leap_days = refl

-- in one leap year by its number, as `only` or as both years, and in no others
leap_spans : map (λ last. if_there (Number (pos 2020)) last February (Ordinal (pos 29)))
    (Some (Number (pos 2020)) ∷ Some (Number (pos 2021)) ∷ Some (Number (pos 2024)) ∷ Some Maximum ∷ [])
    ≡ Ok tt ∷ Err cause.Day ∷ Err cause.Day ∷ Err cause.Day ∷ []
unfolding if_there is_leap
leap_spans = refl

no_number : map (λ year. if_there year None February (Ordinal (pos 29))) (Minimum ∷ Maximum ∷ []) ≡ Err cause.Day ∷ Err cause.Day ∷ []
unfolding if_there
no_number = refl

-- a weekday from it on too; every other day is in each year, or past its month's end in none
common_days : map (if_there (Number (pos 2019)) None February)
    (FirstOnOrAfter Sunday (pos 29) ∷ FirstOnOrAfter Sunday (pos 28) ∷ Ordinal (pos 28) ∷ Last Sunday ∷ LastOnOrBefore Sunday (pos 28) ∷ [])
    ≡ Err cause.Day ∷ Ok tt ∷ Ok tt ∷ Ok tt ∷ Ok tt ∷ []
unfolding if_there is_leap
common_days = refl

march_days : if_there (Number (pos 2019)) None March (Ordinal (pos 29)) ≡ Ok tt
unfolding if_there
march_days = refl

-- ---- columns

types : map type_of (codes "-" ∷ codes "" ∷ codes "--" ∷ codes "even" ∷ [])
    ≡ Ok tt ∷ Err cause.Type ∷ Err cause.Type ∷ Err cause.Type ∷ []
types = refl

letters : map letters_of (codes "-" ∷ codes "S" ∷ codes "--" ∷ codes "-S" ∷ []) ≡ None ∷ Some (codes "S") ∷ Some (codes "--") ∷ Some (codes "-S") ∷ []
letters = refl

-- digits at both ends, and each white byte, as they can stand in quotes
other_names : map ruleset_name (codes "0b" ∷ codes "9b" ∷ codes "" ∷ (9 ∷ 98 ∷ []) ∷ (11 ∷ 98 ∷ []) ∷ (12 ∷ 98 ∷ []) ∷ (13 ∷ 98 ∷ []) ∷ codes "/b" ∷ codes ":b" ∷ [])
    ≡ Err cause.RulesetName ∷ Err cause.RulesetName ∷ Err cause.RulesetName ∷ Err cause.RulesetName ∷ Err cause.RulesetName ∷ Err cause.RulesetName ∷ Err cause.RulesetName
    ∷ Ok (codes "/b") ∷ Ok (codes ":b") ∷ []
unfolding ruleset_name
other_names = refl

rules : map saving_of (codes "-" ∷ codes "0" ∷ codes "1:30" ∷ codes "-1" ∷ codes "EU" ∷ codes "b2" ∷ codes "1s" ∷ codes "+1" ∷ [])
    ≡ Ok no_saving ∷ Ok no_saving ∷ Ok (one_off (HoursMinutes (pos 1) (pos 30))) ∷ Ok (one_off (HoursMinutes (negsuc 0) (pos 0)))
    ∷ Ok (multiple (codes "EU")) ∷ Ok (multiple (codes "b2")) ∷ Err cause.Saving ∷ Err cause.Time ∷ []
unfolding saving_of clock_spec saved amount_of clock_of unsigned minutes_below second_of rounded number_between value_in
rules = refl

names : map ruleset_name (codes "EU" ∷ codes "2b" ∷ codes "-b" ∷ codes "+b" ∷ codes " EU" ∷ codes "E U" ∷ [])
    ≡ Ok (codes "EU") ∷ Err cause.RulesetName ∷ Err cause.RulesetName ∷ Err cause.RulesetName ∷ Err cause.RulesetName ∷ Ok (codes "E U") ∷ []
unfolding ruleset_name
names = refl

-- paths of files: no part is empty, `.` or `..`, though a part may begin with dots
zone_names : map zone_name (codes "Etc/GMT-1" ∷ codes "A/.b/..." ∷ codes "-a" ∷ [] ∷ codes "-" ∷ codes "/A" ∷ codes "A/" ∷ codes "A//B" ∷ codes "." ∷ codes "A/.."
    ∷ codes "./A" ∷ codes "A/../B" ∷ [])
    ≡ Ok (codes "Etc/GMT-1") ∷ Ok (codes "A/.b/...") ∷ Ok (codes "-a") ∷ Err cause.Name ∷ Err cause.Name ∷ Err cause.Name ∷ Err cause.Name ∷ Err cause.Name
    ∷ Err cause.Name ∷ Err cause.Name ∷ Err cause.Name ∷ Err cause.Name ∷ []
unfolding zone_name
zone_names = refl

ruled_formats : map (is_format true) (codes "C%sT" ∷ codes "%z" ∷ codes "A%zB" ∷ codes "GMT/BST" ∷ codes "X" ∷ codes "-" ∷ codes "%" ∷ codes "%d" ∷ codes "%s%s"
    ∷ codes "%s/A" ∷ codes "A/%z" ∷ [])
    ≡ true ∷ true ∷ true ∷ true ∷ true ∷ false ∷ false ∷ false ∷ false ∷ false ∷ false ∷ []
unfolding is_format
ruled_formats = refl

plain_formats : map (is_format false) (codes "C%sT" ∷ codes "%z" ∷ codes "GMT/BST" ∷ codes "-00" ∷ []) ≡ false ∷ true ∷ true ∷ true ∷ []
unfolding is_format
plain_formats = refl

-- ---- lines

a_rule : meaning false (codes "R" ∷ codes "d" ∷ codes "1916" ∷ codes "o" ∷ codes "-" ∷ codes "Jun" ∷ codes "14" ∷ codes "23s" ∷ codes "1" ∷ codes "S" ∷ [])
    ≡ Ok (rule (record {
      name = codes "d";
      from_year = Number (pos 1916);
      to_year = None;
      month = June;
      day = Ordinal (pos 14);
      time = with_type (HoursMinutes (pos 23) (pos 0)) Standard;
      time_to_add = HoursMinutes (pos 1) (pos 0);
      letters = Some (codes "S");
    }))
unfolding meaning first_line_of line_word rule_of ruleset_name years_of to_of year_of from_word signed_in moment_of if_there month_of day_of sided day_number
    days_in_month is_leap last_weekday_of at_of marked save_of saved amount_spec clock_spec amount_of clock_of unsigned minutes_below second_of rounded number_between
    value_in weekday_of to_word numbered_year month_word meant
a_rule = refl

a_zone : meaning false (codes "Z" ∷ codes "A" ∷ codes "-3" ∷ codes "b" ∷ codes "%z" ∷ codes "1999" ∷ codes "O" ∷ codes "3" ∷ codes "2u" ∷ [])
    ≡ Ok (zone (codes "A") (record {
      utc_offset = HoursMinutes (negsuc 2) (pos 0);
      saving = multiple (codes "b");
      format = codes "%z";
      time = Some (UntilTime (Number (pos 1999)) October (Ordinal (pos 3)) (with_type (HoursMinutes (pos 2) (pos 0)) UTC));
    }))
unfolding meaning first_line_of link_of zone_name line_word info_of offset_of saving_of is_format end_of end_at if_there year_of from_word signed_in month_of day_of
    sided day_number days_in_month is_leap last_weekday_of at_of marked saved amount_spec clock_spec amount_of clock_of unsigned minutes_below second_of rounded
    number_between value_in weekday_of numbered_year month_word meant
a_zone = refl

-- a line of a zone whatever its first word
a_continuation : meaning true (codes "0" ∷ codes "-" ∷ codes "Rule" ∷ codes "1999" ∷ [])
    ≡ Ok (continuation (record { utc_offset = Hours (pos 0); saving = no_saving; format = codes "Rule"; time = Some (UntilYear (Number (pos 1999))) }))
unfolding meaning info_of offset_of saving_of is_format end_of end_at year_of from_word signed_in amount_spec amount_of clock_of unsigned number_between value_in
    numbered_year meant
a_continuation = refl

-- none by its first word: where a line of the zone has to follow, a link is no offset and a rule has too many fields
not_by_word : map (meaning true) ((codes "Link" ∷ codes "A" ∷ codes "B" ∷ []) ∷ (codes "R" ∷ codes "d" ∷ codes "1916" ∷ codes "o" ∷ codes "-" ∷ codes "Jun" ∷ codes "14" ∷ codes "23s" ∷ codes "1"
    ∷ codes "S" ∷ []) ∷ [])
    ≡ Err cause.Time ∷ Err cause.FieldCount ∷ []
unfolding meaning info_of offset_of amount_of clock_of unsigned number_between value_in
not_by_word = refl

other_lines : map (meaning false) ((codes "l" ∷ codes "B" ∷ codes "C" ∷ []) ∷ [] ∷ (codes "L" ∷ codes "B" ∷ []) ∷ (codes "Zone" ∷ codes "A" ∷ codes "1" ∷ codes "-" ∷ [])
    ∷ (codes "R" ∷ codes "b" ∷ []) ∷ (codes "1" ∷ codes "-" ∷ codes "X" ∷ []) ∷ [])
    ≡ Ok (link (codes "B") (codes "C")) ∷ Ok space ∷ Err cause.FieldCount ∷ Err cause.FieldCount ∷ Err cause.FieldCount ∷ Err cause.LineType ∷ []
unfolding meaning first_line_of link_of zone_name line_word info_of rule_of meant
other_lines = refl

-- an end of each length
ends : map (λ fields. end_of fields 0 (length fields))
    ([] ∷ (codes "1999" ∷ []) ∷ (codes "1999" ∷ codes "May" ∷ []) ∷ (codes "1999" ∷ codes "May" ∷ codes "lastSun" ∷ []) ∷ (codes "1999" ∷ codes "May" ∷ codes "31" ∷ codes "2s" ∷ []) ∷ [])
    ≡ Ok None ∷ Ok (Some (UntilYear (Number (pos 1999)))) ∷ Ok (Some (UntilMonth (Number (pos 1999)) May)) ∷ Ok (Some (UntilDay (Number (pos 1999)) May (Last Sunday)))
    ∷ Ok (Some (UntilTime (Number (pos 1999)) May (Ordinal (pos 31)) (with_type (HoursMinutes (pos 2) (pos 0)) Standard))) ∷ []
unfolding end_of end_at if_there year_of from_word signed_in numbered_year month_of month_word day_of sided side_of day_number days_in_month is_leap last_weekday_of weekday_of
    at_of marked clock_spec amount_of clock_of unsigned minutes_below second_of rounded number_between value_in meant
ends = refl

-- what an end is refused for, from the left
no_ends : map (λ fields. end_of fields 0 (length fields))
    ((codes "o" ∷ codes "x" ∷ []) ∷ (codes "1999" ∷ codes "ju" ∷ codes "0" ∷ []) ∷ (codes "1999" ∷ codes "F" ∷ codes "29" ∷ []) ∷ (codes "1999" ∷ codes "F" ∷ codes "29" ∷ codes "x" ∷ [])
    ∷ (codes "2000" ∷ codes "F" ∷ codes "29" ∷ codes "x" ∷ []) ∷ [])
    ≡ Err cause.Year ∷ Err cause.Month ∷ Err cause.Day ∷ Err cause.Day ∷ Err cause.Time ∷ []
unfolding end_of end_at if_there year_of from_word signed_in numbered_year month_of month_word day_of sided side_of day_number days_in_month is_leap last_weekday_of weekday_of
    at_of marked clock_spec amount_of clock_of unsigned minutes_below second_of rounded number_between value_in meant
no_ends = refl

-- one field less and one more than a line has
counts : map (meaning false) ((codes "Rule" ∷ codes "a" ∷ codes "1" ∷ codes "o" ∷ codes "-" ∷ codes "May" ∷ codes "1" ∷ codes "0" ∷ codes "0" ∷ [])
    ∷ (codes "Rule" ∷ codes "a" ∷ codes "1" ∷ codes "o" ∷ codes "-" ∷ codes "May" ∷ codes "1" ∷ codes "0" ∷ codes "0" ∷ codes "-" ∷ codes "-" ∷ [])
    ∷ (codes "Zone" ∷ codes "A" ∷ codes "1" ∷ codes "-" ∷ []) ∷ (codes "Zone" ∷ codes "A" ∷ codes "1" ∷ codes "-" ∷ codes "X" ∷ codes "1" ∷ codes "May" ∷ codes "1" ∷ codes "0" ∷ codes "-" ∷ [])
    ∷ (codes "Link" ∷ codes "A" ∷ codes "B" ∷ codes "C" ∷ []) ∷ [])
    ≡ Err cause.FieldCount ∷ Err cause.FieldCount ∷ Err cause.FieldCount ∷ Err cause.FieldCount ∷ Err cause.FieldCount ∷ []
unfolding meaning first_line_of link_of rule_of info_of line_word meant
counts = refl
