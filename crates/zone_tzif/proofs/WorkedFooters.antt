-- Which strings may say otherwise as footers, at worked rows.
use Rattle.std.proofs.Common.{◌≡◌, true, false, List, [], ◌∷◌, map, codes, refl, ℤ, pos, negsuc}
use Rattle.zone_spans.specs.{Entries.{Entry}, declared.span.FixedTimespan.{FixedTimespan}}
use Rattle.tz_lookup.specs.declared.set.FixedTimespanSet.{FixedTimespanSet}
use Rattle.zone_tail.specs.{LastYear.{form, standard_of}, Tails.{is_ending_early, is_outlasting, is_saving_on}}
use Rattle.zone_tzif.specs.Files.{is_contradicted}

abbrev span : ℤ → FixedTimespan
span saving = record { utc_offset = pos 0; dst_offset = saving; name = codes "A" }

abbrev set : List Entry → FixedTimespanSet
set others = record { name = []; first = span (pos 0); others = others }

-- daylight saving time in 2099 from 5 July on, and its end on 1 November, or before that start on 7 and on 8 January at 0:00 by its own
-- clocks; a change as 2100 begins; and daylight saving time all of 2099 and after, and a saving below 0, which is none here
contradicted : map is_contradicted (set [] ∷ set ((pos 4086892800, span (pos 3600)) ∷ (pos 4097174400, span (pos 0)) ∷ [])
    ∷ set ((pos 4071423600, span (pos 0)) ∷ (pos 4086892800, span (pos 3600)) ∷ []) ∷ set ((pos 4071510000, span (pos 0)) ∷ (pos 4086892800, span (pos 3600)) ∷ [])
    ∷ set ((pos 4102444800, span (pos 3600)) ∷ []) ∷ set ((pos 5, span (pos 3600)) ∷ []) ∷ set ((pos 5, span (negsuc 3599)) ∷ []) ∷ [])
    ≡ false ∷ false ∷ true ∷ false ∷ true ∷ true ∷ false ∷ []
unfolding is_contradicted is_outlasting is_ending_early is_saving_on form standard_of
contradicted = refl
