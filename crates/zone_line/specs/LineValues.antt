-- The value of a line: tables from the texts of its columns to values; the first fault is the fault.
use Rattle.std.specs.{Prelude.{ℕ, List, Bool, ◌||◌, Option, Some, None, is_some, ok_or, Result, Ok, Err, codes, bytes_eq, if◌then◌else◌}, Option.{option_map_or}}
use Rattle.zone_table.specs.{Faults.{Fault, refused}, declared.fault.FaultKind.TheVariants.{InvalidLineType, CouldNotParseSaving, InvalidTimeSpecAndType, NonWallClockInTimeSpec}, Results.{◌>>=◌}, Seconds.{with_type}, Months.{month_field}, Years.{year_field}, Values.{SavingValue, no_saving, one_off, multiple, InfoValue, RuleValue, LineValue, space, zone, continuation, rule, link}, declared.change.ChangeTime.{ChangeTime}, declared.change.ChangeTime.TheVariants.{UntilYear, UntilMonth, UntilDay, UntilTime}}
use Rattle.zone_line.specs.{Columns.{InfoTexts, RuleTexts}, Clocks.{ClockTexts, minute_clock}, Times.{clock_time, clock_type, if_wall}, Kinds.{LineKind, kind_of}, Fields.{to_field, type_field, day_field, time_field, wall_field, letters_of, is_ruleset_name}}
use Rattle.zone_line.specs.Kinds as kind

-- an amount of time by its hours and minutes, which has to be the wall's
unfoldable pub one_off_of : List ℕ → ClockTexts → Result SavingValue Fault
one_off_of text parts = do
  time ← ok_or (clock_time parts) (refused InvalidTimeSpecAndType text)
  amount ← ok_or (if_wall (with_type time (clock_type parts.flag))) (refused NonWallClockInTimeSpec text)
  Ok (one_off amount)

-- the RULES column: a hyphen, the name of a ruleset, or an amount of time
unfoldable pub saving_field : List ℕ → Result SavingValue Fault
saving_field text =
    if bytes_eq text (codes "-") then Ok no_saving
    else if is_ruleset_name text then Ok (multiple text)
    else option_map_or (one_off_of text) (minute_clock text) (Err (refused CouldNotParseSaving text))

-- an end with a year, by the columns that follow it; those after the first that is missing are not read
unfoldable pub until : List ℕ → Option (List ℕ) → Option (List ℕ) → Option (List ℕ) → Result ChangeTime Fault
until year None day time = do
  y ← year_field year
  Ok (UntilYear y)
until year (Some month) None time = do
  y ← year_field year
  m ← month_field month
  Ok (UntilMonth y m)
until year (Some month) (Some day) None = do
  y ← year_field year
  m ← month_field month
  d ← day_field day
  Ok (UntilDay y m d)
until year (Some month) (Some day) (Some time) = do
  y ← year_field year
  m ← month_field month
  d ← day_field day
  t ← time_field time
  Ok (UntilTime y m d t)

-- some column of an end is there, beside the year
abbrev pub has_yearless_end : InfoTexts → Bool
has_yearless_end columns = is_some columns.month || is_some columns.day || is_some columns.time

-- an end that is there
unfoldable pub some_end : List ℕ → InfoTexts → Result (Option ChangeTime) Fault
some_end year columns = do
  end ← until year columns.month columns.day columns.time
  Ok (Some end)

-- the end of a line; an end without a year is no end, and its line no line
unfoldable pub end_of : List ℕ → InfoTexts → Result (Option ChangeTime) Fault
end_of line columns = option_map_or
    (λ year. some_end year columns)
    columns.year
    (if has_yearless_end columns then Err (refused InvalidLineType line) else Ok None)

unfoldable pub info_of : List ℕ → InfoTexts → Result InfoValue Fault
info_of line columns = do
  utc_offset ← wall_field columns.gmtoff
  saving ← saving_field columns.rules
  time ← end_of line columns
  Ok (record { utc_offset = utc_offset; saving = saving; format = columns.format; time = time })

unfoldable pub rule_of : RuleTexts → Result RuleValue Fault
rule_of columns = do
  from_year ← year_field columns.from
  to_year ← to_field columns.to
  hyphen ← type_field columns.kind
  month ← month_field columns.month
  day ← day_field columns.on
  time ← time_field columns.at
  time_to_add ← wall_field columns.save
  Ok (record {
    name = columns.name;
    from_year = from_year;
    to_year = to_year;
    month = month;
    day = day;
    time = time;
    time_to_add = time_to_add;
    letters = letters_of columns.letters;
  })

unfoldable pub value_of_kind : List ℕ → LineKind → Result LineValue Fault
value_of_kind line kind.space = Ok space
value_of_kind line (kind.zone columns) = do
  info ← info_of line columns.info
  Ok (zone columns.name info)
value_of_kind line (kind.continuation columns) = do
  info ← info_of line columns
  Ok (continuation info)
value_of_kind line (kind.rule columns) = do
  read ← rule_of columns
  Ok (rule read)
value_of_kind line (kind.link columns) = Ok (link columns.target columns.name)

-- a line of no kind is a fault
unfoldable pub value : List ℕ → Result LineValue Fault
value line = option_map_or (value_of_kind line) (kind_of line) (Err (refused InvalidLineType line))
