-- What is told of a text that is no time.
use Rattle.std.specs.Prelude.{ℕ, List, codes}
use Rattle.zone_words.specs.{declared.text_fault.TextFault.{TextFault}, declared.text_fault.TextFault.TheVariants.{MarkMissing, DateMissing, ClockMissing, HourShort, TimeMissing, SecondMissing, FractionMissing, TooFine, OffsetMissing, CountMissing, OffsetThere, Trailing, NoSuchDate, NoSuchTime, OffsetRange, OutOfYears}}

abbrev pub fault_text : TextFault → List ℕ
fault_text MarkMissing = codes "a number alone is no time: seconds since 1970 have an @ before them, as in @1729989000, and an instant of a date is written as 2024-10-27T00:30:00Z"
fault_text DateMissing = codes "a date is missing, as in 2024-10-27"
fault_text ClockMissing = codes "a time of day and an offset are missing, as in 2024-10-27T02:30:00+02:00"
fault_text HourShort = codes "an hour has two digits, as in 07:30"
fault_text TimeMissing = codes "a time of day is missing, as in 2024-10-27 02:30"
fault_text SecondMissing = codes "the seconds are missing, as in 02:30:00"
fault_text FractionMissing = codes "digits are missing after the point, as in 02:30:00.25"
fault_text TooFine = codes "a fraction has at most nine digits, as in 02:30:00.123456789"
fault_text OffsetMissing = codes "an offset is missing, as in 2024-10-27T02:30:00+02:00 or 2024-10-27T00:30:00Z"
fault_text CountMissing = codes "a number of seconds is missing, as in @1729989000"
fault_text OffsetThere = codes "a local time has no offset; zone at takes a time with one, and zone convert has it as FROM"
fault_text Trailing = codes "something follows the time"
fault_text NoSuchDate = codes "the calendar has no such date"
fault_text NoSuchTime = codes "a time of day goes from 00:00:00 to 23:59:59"
fault_text OffsetRange = codes "an offset goes from -23:59 to +23:59"
fault_text OutOfYears = codes "the time lies outside the years -9999 to 9999"
