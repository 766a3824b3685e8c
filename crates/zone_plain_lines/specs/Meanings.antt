-- What a line means in its place, by its fields.
use Rattle.std.specs.Prelude.{ℕ, ◌+◌, ◌-◌, Bool, true, false, ◌||◌, not, ◌==◌, nat_lt, List, length, Option, Some, None, Result, Ok, Err, if◌then◌else◌}
use Rattle.zone_table.specs.{Values.{SavingValue, no_saving, one_off, multiple, InfoValue, RuleValue, LineValue, space, zone, continuation, rule, link}, declared.change.ChangeTime.{ChangeTime}, declared.{change.ChangeTime.TheVariants.{UntilYear, UntilMonth, UntilDay, UntilTime}, day.DaySpec.{DaySpec}, month.Month.{Month}, time.TimeSpec.{TimeSpec}, time.TimeSpecAndType.{TimeSpecAndType}, year.Year.{Year}}, Results.{◌>>=◌}}
use Rattle.zone_plain_lines.specs.{Clocks.{amount_of, amount_spec, at_of, saved}, Columns.{column, year_of, years_of, type_of, ruleset_name, zone_name, saving_of, is_format, letters_of}, Days.{day_of, if_there}, Words.{line_word, month_of}}
use Rattle.zone_plain_lines.specs.declared.{cause.PlainCause.{PlainCause}, words.LineWord.{LineWord}}
use Rattle.zone_plain_lines.specs.declared.cause.PlainCause.TheVariants as cause
use Rattle.zone_plain_lines.specs.declared.words.LineWord.TheVariants as word

unfoldable pub offset_of : List ℕ → Result TimeSpec PlainCause
offset_of text = do
  a ← amount_of text
  Ok (amount_spec a)

unfoldable pub save_of : List ℕ → Result TimeSpec PlainCause
save_of text = do
  a ← saved text
  Ok (amount_spec a)

-- in each year from the first to the last, if there is one beside it
unfoldable pub moment_of : Year → Option Year → List ℕ → List ℕ → List ℕ → Result (Month × DaySpec × TimeSpecAndType) PlainCause
moment_of first last in_month on at = do
  month ← month_of in_month
  day ← day_of month on
  there ← if_there first last month day
  time ← at_of at
  Ok (month, day, time)

-- `Rule NAME FROM TO TYPE IN ON AT SAVE LETTERS`
unfoldable pub rule_of : List (List ℕ) → Result RuleValue PlainCause
rule_of fields = if not (length fields == 10) then Err cause.FieldCount else (do
  name ← ruleset_name (column fields 1)
  years ← years_of (column fields 2) (column fields 3)
  hyphen ← type_of (column fields 4)
  moment ← moment_of years.0 years.1 (column fields 5) (column fields 6) (column fields 7)
  saving ← save_of (column fields 8)
  Ok (record {
    name = name;
    from_year = years.0;
    to_year = years.1;
    month = moment.0;
    day = moment.1;
    time = moment.2;
    time_to_add = saving;
    letters = letters_of (column fields 9);
  }))

-- YEAR, MONTH, DAY and TIME, as many of them as are there
unfoldable pub end_at : List (List ℕ) → ℕ → ℕ → Result ChangeTime PlainCause
end_at fields from count = do
  year ← year_of (column fields from)
  if count == 1 then Ok (UntilYear year) else (do
    month ← month_of (column fields (from + 1))
    if count == 2 then Ok (UntilMonth year month) else (do
      day ← day_of month (column fields (from + 2))
      there ← if_there year None month day
      if count == 3 then Ok (UntilDay year month day) else (do
        time ← at_of (column fields (from + 3))
        Ok (UntilTime year month day time))))

unfoldable pub end_of : List (List ℕ) → ℕ → ℕ → Result (Option ChangeTime) PlainCause
end_of fields from count = if count == 0 then Ok None else (do
  end ← end_at fields from count
  Ok (Some end))

abbrev pub is_ruled : SavingValue → Bool
is_ruled no_saving = false
is_ruled (one_off amount) = false
is_ruled (multiple name) = true

abbrev pub if_format : SavingValue → List ℕ → Result (List ℕ) PlainCause
if_format saving format = if is_format (is_ruled saving) format then Ok format else Err cause.Format

-- `STDOFF RULES FORMAT [YEAR [MONTH [DAY [TIME]]]]`, from a place on
unfoldable pub info_of : List (List ℕ) → ℕ → Result InfoValue PlainCause
info_of fields from =
    if nat_lt (length fields) (from + 3) || nat_lt (from + 7) (length fields) then Err cause.FieldCount else (do
      offset ← offset_of (column fields from)
      saving ← saving_of (column fields (from + 1))
      format ← if_format saving (column fields (from + 2))
      end ← end_of fields (from + 3) (length fields - (from + 3))
      Ok (record { utc_offset = offset; saving = saving; format = format; time = end }))

-- `Link TARGET NAME`
unfoldable pub link_of : List (List ℕ) → Result LineValue PlainCause
link_of fields = if not (length fields == 3) then Err cause.FieldCount else (do
  name ← zone_name (column fields 2)
  Ok (link (column fields 1) name))

abbrev pub by_word : LineWord → List (List ℕ) → Result LineValue PlainCause
by_word word.Rule fields = do
  read ← rule_of fields
  Ok (rule read)
by_word word.Zone fields = do
  info ← info_of fields 2
  name ← zone_name (column fields 1)
  Ok (zone name info)
by_word word.Link fields = link_of fields

-- a line by its first word
unfoldable pub first_line_of : List (List ℕ) → Result LineValue PlainCause
first_line_of fields = do
  word ← line_word (column fields 0)
  by_word word fields

-- a blank line is nothing; a line of a zone with an end has one more, whatever its first word
unfoldable pub meaning : Bool → List (List ℕ) → Result LineValue PlainCause
meaning is_continued fields =
    if length fields == 0 then Ok space
    else if is_continued then (do
      info ← info_of fields 0
      Ok (continuation info))
    else first_line_of fields
