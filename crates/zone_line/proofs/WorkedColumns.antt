-- The texts of columns by the groups that take them, and the values of lines by the texts of their columns, at worked rows. No pattern
-- is computed: each group is given its part.
use Rattle.std.{proofs.Common.{◌≡◌, ◌==◌, ℕ, List, [], ◌∷◌, get_or, map, Option, Some, None, Ok, Err, refl, pos, negsuc}, specs.Prelude.{bytes_eq, codes, if◌then◌else◌}, specs.List.{slice_split}}
use Rattle.zone_table.specs.{Faults.{refused}, Months.{month_named}, Seconds.{with_type}, Values.{one_off, multiple, InfoValue, space, zone, continuation, rule, link}, Years.{year_named}, declared.change.ChangeTime.TheVariants.{UntilMonth}, declared.{day.DaySpec.TheVariants.{Ordinal}, fault.FaultKind.TheVariants.{FailedYearParse, FailedMonthParse, InvalidLineType, TypeColumnContainedNonHyphen, InvalidDaySpec, InvalidTimeSpecAndType, NonWallClockInTimeSpec}, month.Month.TheVariants.{March}, time.TimeSpec.TheVariants.{Hours, HoursMinutes}, time.TimeType.TheVariants.{Wall}, year.Year.TheVariants.{Number}}}
use Rattle.basics.specs.Numbers.{signed_in}
use Rattle.zone_line.specs.{Clocks.{ClockTexts, minute_clock_of, second_clock_of}, Columns.{InfoTexts, RuleTexts, info_columns_of, zone_columns_of, rule_columns_of, link_columns_of}, DayColumns.{day_columns_of}, Digits.{two_digits}}
use Rattle.zone_line.specs.{Fields.{day_field, wall_field, to_field}, LineValues.{one_off_of, saving_field, until, some_end, end_of, info_of, rule_of, value_of_kind}, Times.{clock_time, time_of}}
use Rattle.zone_line.specs.Kinds as kind

-- ---- from groups to columns

-- each group takes its own name
abbrev its_name : List ℕ → Option (List ℕ)
its_name name = Some name

-- so does each but one
abbrev all_but : List ℕ → List ℕ → Option (List ℕ)
all_but missing name = if bytes_eq name missing then None else Some name

-- a column of a line of columns, with a bar between them
abbrev column : ℕ → List ℕ → List ℕ
column place line = get_or (slice_split (λ c. c == 124) line) place []

abbrev rule_row : List ℕ → RuleTexts
rule_row line = record {
  name = column 0 line;
  from = column 1 line;
  to = column 2 line;
  kind = column 3 line;
  month = column 4 line;
  on = column 5 line;
  at = column 6 line;
  save = column 7 line;
  letters = column 8 line;
}

columns_of_a_rule : rule_columns_of its_name ≡ Some (rule_row (codes "name|from|to|type|in|on|at|save|letters"))
unfolding rule_columns_of
columns_of_a_rule = refl

columns_of_a_link : link_columns_of its_name ≡ Some (record { target = codes "target"; name = codes "name" })
unfolding link_columns_of
columns_of_a_link = refl

abbrev info_row : List ℕ → InfoTexts
info_row line = record {
  gmtoff = column 0 line;
  rules = column 1 line;
  format = column 2 line;
  year = Some (column 3 line);
  month = Some (column 4 line);
  day = Some (column 5 line);
  time = Some (column 6 line);
}

abbrev info_names : InfoTexts
info_names = info_row (codes "gmtoff|rulessave|format|year|month|day|time")

columns_of_a_zone : zone_columns_of its_name ≡ Some (record { name = codes "name"; info = info_names })
unfolding zone_columns_of info_columns_of
columns_of_a_zone = refl

-- of a continuation's columns the last four may be missing, and each is its own
columns_of_ends : map (λ missing. info_columns_of (all_but missing))
    (codes "year" ∷ codes "month" ∷ codes "day" ∷ codes "time" ∷ codes "gmtoff" ∷ codes "rulessave" ∷ codes "format" ∷ [])
    ≡ Some (record info_names { year = None }) ∷ Some (record info_names { month = None }) ∷ Some (record info_names { day = None })
    ∷ Some (record info_names { time = None }) ∷ None ∷ None ∷ None ∷ []
unfolding info_columns_of
columns_of_ends = refl

parts_of_a_day : day_columns_of its_name ≡ Some (record { weekday = codes "weekday"; sign = codes "sign"; day = codes "day" })
unfolding day_columns_of
parts_of_a_day = refl

-- the names of the groups of a time with two colons
abbrev clock_names : ClockTexts
clock_names = record {
  sign = codes "sign";
  hour = codes "hour";
  minute = codes "minute";
  second = Some (codes "second");
  flag = Some (codes "flag");
}

parts_of_times : minute_clock_of its_name ∷ second_clock_of its_name ∷ minute_clock_of (all_but (codes "flag"))
    ∷ second_clock_of (all_but (codes "flag")) ∷ second_clock_of (all_but (codes "second")) ∷ []
    ≡ Some (record clock_names { second = None }) ∷ Some clock_names ∷ Some (record clock_names { second = None; flag = None })
    ∷ Some (record clock_names { flag = None }) ∷ None ∷ []
unfolding minute_clock_of second_clock_of
parts_of_times = refl

-- ---- from columns to values

-- `Rule US 2007 2010 - Mar 8 2 1 D`
abbrev rule_texts : RuleTexts
rule_texts = rule_row (codes "US|2007|2010|-|Mar|8|2|1|D")

-- the time of day comes of AT, the amount of time of SAVE
a_rule : value_of_kind (codes "the line") (kind.rule rule_texts) ≡ Ok (rule (record {
  name = codes "US";
  from_year = Number (pos 2007);
  to_year = Some (Number (pos 2010));
  month = March;
  day = Ordinal (pos 8);
  time = with_type (Hours (pos 2)) Wall;
  time_to_add = Hours (pos 1);
  letters = Some (codes "D");
}))
unfolding value_of_kind rule_of to_field year_named month_named day_field time_of wall_field signed_in
a_rule = refl

-- each column that has no value, with its kind of fault and its text
refused_rules : map (λ (texts : RuleTexts). value_of_kind (codes "the line") (kind.rule texts))
    (record rule_texts { from = codes "A" } ∷ record rule_texts { to = codes "B" } ∷ record rule_texts { kind = codes "C" }
    ∷ record rule_texts { month = codes "D" } ∷ record rule_texts { on = codes "32" } ∷ [])
    ≡ Err (refused FailedYearParse (codes "A")) ∷ Err (refused FailedYearParse (codes "B"))
    ∷ Err (refused TypeColumnContainedNonHyphen (codes "C")) ∷ Err (refused FailedMonthParse (codes "d"))
    ∷ Err (refused InvalidDaySpec (codes "32")) ∷ []
unfolding value_of_kind rule_of to_field year_named month_named day_field signed_in
refused_rules = refl

-- `-5 US E%sT 2007 Mar`
abbrev info_texts : InfoTexts
info_texts = record (info_row (codes "-5|US|E%sT|2007|Mar||")) { day = None; time = None }

abbrev info : InfoValue
info = record {
  utc_offset = Hours (negsuc 4);
  saving = multiple (codes "US");
  format = codes "E%sT";
  time = Some (UntilMonth (Number (pos 2007)) March);
}

-- of a link the name that stands comes first
other_lines : map (value_of_kind (codes "the line")) (kind.space ∷ kind.link (record { target = codes "A"; name = codes "B" })
    ∷ kind.continuation info_texts ∷ kind.zone (record { name = codes "Z"; info = info_texts }) ∷ [])
    ≡ Ok space ∷ Ok (link (codes "A") (codes "B")) ∷ Ok (continuation info) ∷ Ok (zone (codes "Z") info) ∷ []
unfolding value_of_kind info_of saving_field wall_field time_of end_of some_end until year_named month_named signed_in
other_lines = refl

-- the whole line is told of an end without a year, and the column of another fault
refused_lines : map (λ (texts : InfoTexts). value_of_kind (codes "the line") (kind.continuation texts))
    (record info_texts { year = None } ∷ record info_texts { month = Some (codes "M") } ∷ [])
    ≡ Err (refused InvalidLineType (codes "the line")) ∷ Err (refused FailedMonthParse (codes "m")) ∷ []
unfolding value_of_kind info_of saving_field wall_field time_of end_of some_end until year_named month_named signed_in
refused_lines = refl

-- hours and minutes in RULES, with that sign, hour and mark
abbrev amount : List ℕ → List ℕ → Option (List ℕ) → ClockTexts
amount sign hour flag = record { sign = sign; hour = hour; minute = codes "20"; second = None; flag = flag }

-- they have to be by the wall's clock
amounts : map (one_off_of (codes "the column")) (amount (codes "") (codes "1") None ∷ amount (codes "-") (codes "0") (Some (codes "w"))
    ∷ amount (codes "") (codes "1") (Some (codes "s")) ∷ amount (codes "") (codes "1") (Some (codes "z")) ∷ amount (codes "") (codes "x") None ∷ [])
    ≡ Ok (one_off (HoursMinutes (pos 1) (pos 20))) ∷ Ok (one_off (HoursMinutes (pos 0) (negsuc 19)))
    ∷ Err (refused NonWallClockInTimeSpec (codes "the column")) ∷ Err (refused NonWallClockInTimeSpec (codes "the column"))
    ∷ Err (refused InvalidTimeSpecAndType (codes "the column")) ∷ []
unfolding one_off_of clock_time two_digits
amounts = refl
