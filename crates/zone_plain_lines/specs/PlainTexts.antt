-- The plain text of what a line means.
use Rattle.std.specs.{Prelude.{ℕ, ◌+◌, ◌/◌, ◌%◌, ℤ, pos, ◌||◌, List, [], ◌∷◌, ◌++◌, take, Option, Some, None, int_lt, unsigned_abs, codes, decimal, if◌then◌else◌}, Fmt.{signed_decimal}}
use Rattle.zone_table.specs.{Months.{month_name}, Values.{SavingValue, no_saving, one_off, multiple, InfoValue, RuleValue, LineValue, space, zone, continuation, rule, link}, Weekdays.{weekday_name}, declared.change.ChangeTime.{ChangeTime}, declared.{change.ChangeTime.TheVariants.{UntilYear, UntilMonth, UntilDay, UntilTime}, day.DaySpec.{DaySpec}, day.DaySpec.TheVariants.{Ordinal, Last, LastOnOrBefore, FirstOnOrAfter}, month.Month.{Month}, time.TimeSpec.{TimeSpec}, time.TimeSpec.TheVariants.{Hours, HoursMinutes, HoursMinutesSeconds, Zero}, time.TimeType.{TimeType}, time.TimeType.TheVariants.{Wall, Standard, UTC}, time.TimeSpecAndType.{TimeSpecAndType}, weekday.Weekday.{Weekday}}, declared.year.Year.{Year, TheVariants.{Minimum, Maximum, Number}}}

abbrev pub two_digits : ℕ → List ℕ
two_digits n = (48 + n / 10) ∷ (48 + n % 10) ∷ []

-- a hyphen where a part is below 0
abbrev pub sign : ℤ → ℤ → ℤ → List ℕ
sign hours minutes seconds =
    if int_lt hours (pos 0) || int_lt minutes (pos 0) || int_lt seconds (pos 0) then codes "-" else []

-- h:mm
unfoldable pub clock_text : List ℕ → ℤ → ℤ → List ℕ
clock_text sign hours minutes = ((sign ++ decimal (unsigned_abs hours)) ++ codes ":") ++ two_digits (unsigned_abs minutes)

-- h, h:mm or h:mm:ss
unfoldable pub time_text : TimeSpec → List ℕ
time_text (Hours h) = signed_decimal h
time_text (HoursMinutes h m) = clock_text (sign h m (pos 0)) h m
time_text (HoursMinutesSeconds h m s) = (clock_text (sign h m s) h m ++ codes ":") ++ two_digits (unsigned_abs s)
time_text Zero = codes "-"

abbrev pub mark_text : TimeType → List ℕ
mark_text Wall = []
mark_text Standard = codes "s"
mark_text UTC = codes "u"

-- the first three letters of its name
abbrev pub month_text : Month → List ℕ
month_text month = take 3 (month_name month)

abbrev pub weekday_text : Weekday → List ℕ
weekday_text weekday = take 3 (weekday_name weekday)

-- 14, lastSun, Sun<=25 or Sun>=1
unfoldable pub day_text : DaySpec → List ℕ
day_text (Ordinal n) = signed_decimal n
day_text (Last w) = codes "last" ++ weekday_text w
day_text (LastOnOrBefore w n) = (weekday_text w ++ codes "<=") ++ signed_decimal n
day_text (FirstOnOrAfter w n) = (weekday_text w ++ codes ">=") ++ signed_decimal n

unfoldable pub year_text : Year → List ℕ
year_text Minimum = codes "min"
year_text Maximum = codes "max"
year_text (Number n) = signed_decimal n

unfoldable pub to_text : Option Year → List ℕ
to_text (Some year) = year_text year
to_text None = codes "only"

abbrev pub letters_text : Option (List ℕ) → List ℕ
letters_text (Some letters) = letters
letters_text None = codes "-"

unfoldable pub saving_text : SavingValue → List ℕ
saving_text no_saving = codes "-"
saving_text (one_off amount) = time_text amount
saving_text (multiple name) = name

-- a space and a text
abbrev pub field : List ℕ → List ℕ
field text = 32 ∷ text

-- `Rule NAME FROM TO`
unfoldable pub years_text : RuleValue → List ℕ
years_text r = ((codes "Rule" ++ field r.name) ++ field (year_text r.from_year)) ++ field (to_text r.to_year)

-- ` MONTH DAY TIME`
unfoldable pub moment_text : Month → DaySpec → TimeSpecAndType → List ℕ
moment_text m d t = ((field (month_text m) ++ field (day_text d)) ++ field (time_text t.0)) ++ mark_text t.1

-- `Rule NAME FROM TO - IN ON AT SAVE LETTERS`
unfoldable pub rule_text : RuleValue → List ℕ
rule_text r =
    (((years_text r ++ codes " -") ++ moment_text r.month r.day r.time) ++ field (time_text r.time_to_add)) ++ field (letters_text r.letters)

-- ` YEAR`, and what follows
unfoldable pub end_text : ChangeTime → List ℕ
end_text (UntilYear y) = field (year_text y)
end_text (UntilMonth y m) = field (year_text y) ++ field (month_text m)
end_text (UntilDay y m d) = (field (year_text y) ++ field (month_text m)) ++ field (day_text d)
end_text (UntilTime y m d t) = field (year_text y) ++ moment_text m d t

-- ` STDOFF RULES FORMAT`
unfoldable pub stretch_text : InfoValue → List ℕ
stretch_text info = (field (time_text info.utc_offset) ++ field (saving_text info.saving)) ++ field info.format

abbrev pub if_end : Option ChangeTime → List ℕ
if_end (Some end) = end_text end
if_end None = []

unfoldable pub info_text : InfoValue → List ℕ
info_text info = stretch_text info ++ if_end info.time

-- a line without its line feed; a continuation begins with a space
unfoldable pub plain_text : LineValue → List ℕ
plain_text space = []
plain_text (zone name info) = (codes "Zone" ++ field name) ++ info_text info
plain_text (continuation info) = info_text info
plain_text (rule r) = rule_text r
plain_text (link existing new) = (codes "Link" ++ field existing) ++ field new
