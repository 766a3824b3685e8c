-- Worked rows: the seconds of years, the instants that are covered, and the cycle.
use Rattle.std.proofs.Common.{◌≡◌, Bool, ℕ, List, None, Some, [], ◌∷◌, codes, true, false, ℤ, pos, neg_ℤ, ◌*ℤ◌, ap, sym, ◌∙◌, refl, arith}
use Rattle.basics.specs.{Days.{day, is_leap, days_in_year, days_in_month, days_after_zero, year_start, days_through, days_into_year}, SignedLaws.{signed}}
use Rattle.zone_spans.specs.declared.span.FixedTimespan.{FixedTimespan}
use Rattle.tz_ever.specs.{Ever.{ever_span}, InForce.{span_by}, Seam.{next_seam, seam}}
use Rattle.tz_lookup.specs.declared.set.FixedTimespanSet.{FixedTimespanSet}
use Rattle.tz_tzif.specs.{FooterForce.{FooterZone, fixed, held_at}, Years.{IsInYears}}
use Rattle.zone_tzif.{specs.Agreement.{AgreesForEver, IsCovered, MayBegin, cycle_begin, cycle_end, year_zero}, proofs.TailEverLemmas.{first_day, last_day, last_of_all, whole}}

-- -10000-01-01 00:00:00 and 9600-12-31 23:59:59 by clocks an hour ahead of UTC, and a second on either side
first_second : IsInYears (neg_ℤ (pos 10000)) (pos 9600) (pos 3600) (neg_ℤ (pos 377736742800))
first_second = record { begun = omega (arith, signed, first_day); not_over = omega (arith, signed, last_day) }

none_before : IsInYears (neg_ℤ (pos 10000)) (pos 9600) (pos 3600) (neg_ℤ (pos 377736742801)) → ⊥
none_before inside = absurd (omega (arith, signed, inside.begun, first_day))

last_second : IsInYears (neg_ℤ (pos 10000)) (pos 9600) (pos 3600) (pos 240811138799)
last_second = record { begun = omega (arith, signed, first_day); not_over = omega (arith, signed, last_day) }

none_after : IsInYears (neg_ℤ (pos 10000)) (pos 9600) (pos 3600) (pos 240811138800) → ⊥
none_after inside = absurd (omega (arith, signed, inside.not_over, last_day))

-- the last second of 9999 is covered and no later one; from a second on, that second is and none before it
abbrev utc : FooterZone
utc = fixed (record { utoff = pos 0; is_dst = false; name = [] })

abbrev at : ℤ → ℤ
at second = pos 1000000000 *ℤ second

covered_to_the_end : IsCovered utc None (at (pos 253402300799))
covered_to_the_end = record { begun = tt; not_over = omega (arith, signed, whole (pos 253402300799), last_of_all) }

none_covered_later : IsCovered utc None (at (pos 253402300800)) → ⊥
none_covered_later covered = absurd (omega (arith, signed, covered.not_over, whole (pos 253402300800), last_of_all))

covered_from : IsCovered utc (Some (pos 5)) (at (pos 5))
covered_from = record { begun = omega (arith, signed, whole (pos 5)); not_over = omega (arith, signed, whole (pos 5), last_of_all) }

none_covered_earlier : IsCovered utc (Some (pos 5)) (at (pos 4)) → ⊥
none_covered_earlier covered = absurd (omega (arith, signed, covered.begun, whole (pos 4)))

-- the cycle is the one that stands for each later one
cycle : (cycle_begin *ℤ pos 1000000000 ≡ seam) × (cycle_end *ℤ pos 1000000000 ≡ next_seam)
cycle = (refl, refl)

-- a footer may begin at an entry of the first second of the year 0, and of the first of 2102, and at none a second further
first_year : pos 86400 *ℤ day (pos 0) 1 1 ≡ year_zero
unfolding is_leap days_in_year days_in_month days_after_zero year_start days_through days_into_year day
first_year = refl

abbrev entry_at : ℤ → FixedTimespanSet
entry_at second =
    let span : FixedTimespan = record { utc_offset = pos 0; dst_offset = pos 0; name = [] } in
    record { name = []; first = span; others = (second, span) ∷ [] }

begins_there : MayBegin (entry_at (neg_ℤ (pos 62167219200))) 0 × MayBegin (entry_at (pos 4165516800)) 0
begins_there = (
  record { within = omega arith; first = omega (arith, signed); last = omega (arith, signed) },
  record { within = omega arith; first = omega (arith, signed); last = omega (arith, signed) },
)

begins_no_earlier : MayBegin (entry_at (neg_ℤ (pos 62167219201))) 0 → ⊥
begins_no_earlier may = absurd (omega (arith, signed, may.first))

begins_no_later : MayBegin (entry_at (pos 4165516801)) 0 → ⊥
begins_no_later may = absurd (omega (arith, signed, may.last))

-- a footer of that total agrees where its abbreviation is the set's and the set has no saving, and by neither alone
abbrev steady : List ℕ → ℤ → ℤ → FixedTimespanSet
steady name offset saving = record { name = []; first = record { utc_offset = offset; dst_offset = saving; name = name }; others = [] }

agrees : AgreesForEver utc (steady [] (pos 0) (pos 0)) None
unfolding held_at ever_span span_by
agrees t covered = refl

other_name : AgreesForEver utc (steady (codes "GMT") (pos 0) (pos 0)) None → ⊥
unfolding held_at ever_span span_by
other_name alike = let e = ap (λ kind. kind.name) (alike (at (pos 0)) early) in absurd cc
  where
    early : IsCovered utc None (at (pos 0))
    early = record { begun = tt; not_over = omega (arith, signed, whole (pos 0), last_of_all) }

other_flag : AgreesForEver utc (steady [] (pos 3600) (neg_ℤ (pos 3600))) None → ⊥
unfolding held_at ever_span span_by
other_flag alike = let e = ap (λ kind. kind.is_dst) (alike (at (pos 0)) early) in absurd cc
  where
    early : IsCovered utc None (at (pos 0))
    early = record { begun = tt; not_over = omega (arith, signed, whole (pos 0), last_of_all) }
