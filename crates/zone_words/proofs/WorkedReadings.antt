-- The readings of texts that are known from outside: RFC 3339's own examples, Python's `datetime`, and what is refused.
use Rattle.std.{proofs.Common.{◌≡◌, refl, map, ℕ, ℤ, List, [], ◌∷◌, Option, Result, Some, None, Ok, Err, pos, neg_ℤ}, specs.Prelude.{codes}}
use Rattle.basics.specs.Days.{is_leap, days_in_year, days_in_month, days_after_zero, days_before_zero, year_start, days_through, days_into_year, day}
use Rattle.civil_base.specs.Clock.{time_at}
use Rattle.zone_words.specs.{Numbers.{moment, seconds_east, counted}, Pieces.{digit_at, two_at, four_at, date_at, minute_at, second_at, offset_at}, Readings.{digits_at, fraction_at, front_at, seconds_at, moment_in, local_in, in_years, zoned_at, zoned_in, size_at, count_at, count_in, counted_in, written_in, instant_in, asked_in}, declared.text_fault.TextFault.{TextFault}, declared.text_fault.TextFault.TheVariants.{MarkMissing, DateMissing, ClockMissing, HourShort, TimeMissing, SecondMissing, FractionMissing, TooFine, OffsetMissing, CountMissing, OffsetThere, Trailing, NoSuchDate, NoSuchTime, OffsetRange, OutOfYears}}

abbrev instants : List (List ℕ × Result (Option ℤ) TextFault)
instants =
    (codes "1985-04-12T23:20:50.52Z", Ok (Some (pos 482196050520000000))) ∷
    (codes "1996-12-19T16:39:57-08:00", Ok (Some (pos 851042397000000000))) ∷
    (codes "1937-01-01T12:00:27.87+00:20", Ok (Some (neg_ℤ (pos 1041337172130000000)))) ∷
    (codes "2024-10-27T02:30:00Z", Ok (Some (pos 1729996200000000000))) ∷
    (codes "2024-10-27t02:30:00z", Ok (Some (pos 1729996200000000000))) ∷
    (codes "2024-02-29 23:59:59.999999+05:45", Ok (Some (pos 1709230499999999000))) ∷
    (codes "2024-10-27T02:30:00-00:00", Ok (Some (pos 1729996200000000000))) ∷
    (codes "0001-01-01T00:00:00+23:59", Ok (Some (neg_ℤ (pos 62135683140000000000)))) ∷
    (codes "9999-12-31T23:59:59-00:00", Ok (Some (pos 253402300799000000000))) ∷ (codes "now", Ok None) ∷
    (codes "@1729989000", Ok (Some (pos 1729989000000000000))) ∷ (codes "@-1.5", Ok (Some (neg_ℤ (pos 1500000000)))) ∷
    (codes "@-0", Ok (Some (pos 0))) ∷ (codes "@007.000000001", Ok (Some (pos 7000000001))) ∷
    (codes "@253402300799.999999999", Ok (Some (pos 253402300799999999999))) ∷
    (codes "@-377705116800", Ok (Some (neg_ℤ (pos 377705116800000000000)))) ∷ []

worked_instants : map (λ row. asked_in row.0) instants ≡ map (λ row. row.1) instants
unfolding is_leap days_in_year days_in_month days_after_zero days_before_zero year_start days_through days_into_year day time_at
    moment seconds_east counted digit_at two_at four_at date_at minute_at second_at offset_at digits_at fraction_at front_at seconds_at
    moment_in local_in in_years zoned_at zoned_in size_at count_at count_in counted_in written_in instant_in asked_in
worked_instants = refl

abbrev faults : List (List ℕ × Result (Option ℤ) TextFault)
faults =
    (codes "", Err DateMissing) ∷ (codes "Now", Err DateMissing) ∷ (codes "now ", Err DateMissing) ∷
    (codes "24-10-27T02:30:00Z", Err DateMissing) ∷ (codes "2024-10-27", Err ClockMissing) ∷
    (codes "1729992600", Err MarkMissing) ∷ (codes "-1.5", Err MarkMissing) ∷ (codes "1729992600123", Err MarkMissing) ∷
    (codes "2024", Err MarkMissing) ∷ (codes "1729992600s", Err DateMissing) ∷ (codes "1.", Err DateMissing) ∷ (codes "-", Err DateMissing) ∷
    (codes "2024-10-27x02:30:00Z", Err ClockMissing) ∷ (codes "2024-10-27T2:30:00Z", Err HourShort) ∷
    (codes "2024-10-27T2:", Err HourShort) ∷ (codes "2024-10-27T2", Err ClockMissing) ∷ (codes "2024-10-27T1x:30", Err ClockMissing) ∷
    (codes "2024-10-27Tx:30", Err ClockMissing) ∷ (codes "2024-10-27T123:00:00Z", Err ClockMissing) ∷
    (codes "2024-10-27T02:30Z", Err SecondMissing) ∷ (codes "2024-10-27T02:30:00.Z", Err FractionMissing) ∷
    (codes "2024-10-27T02:30:00.1234567890Z", Err TooFine) ∷ (codes "2024-10-27T02:30:00", Err OffsetMissing) ∷
    (codes "2024-10-27T02:30:00+02", Err OffsetMissing) ∷ (codes "2024-10-27T02:30:00Zulu", Err Trailing) ∷
    (codes "2023-02-29T00:00:00Z", Err NoSuchDate) ∷ (codes "2024-13-01T24:00:00Z", Err NoSuchDate) ∷
    (codes "2024-10-27T24:00:00Z", Err NoSuchTime) ∷ (codes "1990-12-31T23:59:60Z", Err NoSuchTime) ∷
    (codes "2024-10-27T02:60:00+99:99", Err NoSuchTime) ∷ (codes "2024-10-27T02:30:00+24:00", Err OffsetRange) ∷
    (codes "2024-10-27T02:30:00-02:60", Err OffsetRange) ∷ (codes "9999-12-31T23:59:59-00:01", Err OutOfYears) ∷
    (codes "@", Err CountMissing) ∷ (codes "@-x", Err CountMissing) ∷ (codes "@+1", Err CountMissing) ∷
    (codes "@1.", Err FractionMissing) ∷ (codes "@1.0000000000", Err TooFine) ∷ (codes "@1 ", Err Trailing) ∷
    (codes "@253402300800", Err OutOfYears) ∷ (codes "@-377705116800.000000001", Err OutOfYears) ∷
    (codes "@99999999999999999999999999999999999999999", Err OutOfYears) ∷ []

worked_faults : map (λ row. asked_in row.0) faults ≡ map (λ row. row.1) faults
unfolding is_leap days_in_year days_in_month days_after_zero days_before_zero year_start days_through days_into_year day time_at
    moment seconds_east counted digit_at two_at four_at date_at minute_at second_at offset_at digits_at fraction_at front_at seconds_at
    moment_in local_in in_years zoned_at zoned_in size_at count_at count_in counted_in written_in instant_in asked_in
worked_faults = refl

abbrev locals : List (List ℕ × Result ℤ TextFault)
locals =
    (codes "2024-10-27 02:30", Ok (pos 1729996200000000000)) ∷ (codes "2024-10-27T02:30:59.25", Ok (pos 1729996259250000000)) ∷
    (codes "1969-12-31t23:59:59.999999999", Ok (neg_ℤ (pos 1))) ∷ (codes "0000-01-01 00:00", Ok (neg_ℤ (pos 62167219200000000000))) ∷
    (codes "2024-10-27", Err TimeMissing) ∷ (codes "27.10.2024 02:30", Err DateMissing) ∷
    (codes "1729992600", Err DateMissing) ∷ (codes "2024-10-27 7:00", Err HourShort) ∷ (codes "2024-10-27 0700", Err TimeMissing) ∷
    (codes "2024-10-27T02:30Z", Err OffsetThere) ∷ (codes "2024-10-27T02:30+02:00", Err OffsetThere) ∷
    (codes "2024-10-27 02:30:00.5-99:99", Err OffsetThere) ∷ (codes "2024-10-27 02:30 +02:00", Err Trailing) ∷
    (codes "2024-10-27 02:30+02", Err Trailing) ∷
    (codes "2024-10-27 02:30:", Err SecondMissing) ∷ (codes "2024-10-27 02:30.5", Err Trailing) ∷
    (codes "2024-10-27 02:30:00Z", Err OffsetThere) ∷ (codes "2024-10-27 02:30:00.", Err FractionMissing) ∷
    (codes "2100-02-29 00:00", Err NoSuchDate) ∷ (codes "2024-00-01 00:00", Err NoSuchDate) ∷
    (codes "2024-10-00 00:00", Err NoSuchDate) ∷ (codes "2024-10-27 24:00", Err NoSuchTime) ∷ []

worked_locals : map (λ row. local_in row.0) locals ≡ map (λ row. row.1) locals
unfolding is_leap days_in_year days_in_month days_after_zero days_before_zero year_start days_through days_into_year day time_at
    moment seconds_east counted digit_at two_at four_at date_at minute_at second_at offset_at digits_at fraction_at front_at seconds_at
    moment_in local_in in_years zoned_at zoned_in size_at count_at count_in counted_in written_in instant_in asked_in
worked_locals = refl
