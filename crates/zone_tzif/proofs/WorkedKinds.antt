-- What spans are in a file, at worked rows.
use Rattle.std.proofs.{Common.{◌≡◌, Bool, true, false, [], ◌∷◌, map, Some, None, codes, refl, sym, ℤ, pos, negsuc}, lemmas.Option.{none-some}}
use Rattle.zone_spans.specs.declared.span.FixedTimespan.{FixedTimespan}
use Rattle.tz_lookup.specs.declared.set.FixedTimespanSet.{FixedTimespanSet}
use Rattle.zone_tail.specs.LastYear.{form, standard_of}
use Rattle.zone_tzif_core.specs.{Zones.{KindValue}, declared.values.WriteFault.{WriteFault}}
use Rattle.zone_tzif_core.specs.declared.values.WriteFault.TheVariants as write
use Rattle.zone_tzif.specs.{Files.{consistent_footer, footer_of, is_contradicted, IsFileFault}, Values.{kind_by, kind_of, value_by, value_of}, declared.convert.Saves.TheVariants.{Any}, declared.file.FileFault.TheVariants.{Times, Types, Names, NoMemory}}

abbrev span : ℤ → ℤ → FixedTimespan
span offset saving = record { utc_offset = offset; dst_offset = saving; name = codes "A" }

abbrev kind : ℤ → Bool → KindValue
kind total saves = record { utoff = total; is_dst = saves; name = codes "A" }

-- a saving above 0 is daylight saving time; one below 0, as in Dublin's winter, is not
kinds : map (λ (s : ℤ × ℤ). kind_of (span s.0 s.1)) ((pos 3600, pos 0) ∷ (pos 3600, pos 1) ∷ (pos 3600, negsuc 3599) ∷ (negsuc 17999, pos 3600) ∷ [])
    ≡ kind (pos 3600) false ∷ kind (pos 3601) true ∷ kind (pos 0) false ∷ kind (negsuc 14399) true ∷ []
kinds = refl

-- for ever, one below 0 is too
ever_kinds : map (λ (saving : ℤ). (kind_by Any (span (pos 3600) saving)).is_dst) (pos 0 ∷ pos 1 ∷ negsuc 3599 ∷ []) ≡ false ∷ true ∷ true ∷ []
ever_kinds = refl

-- a set's first span and each entry from its time on, and the footer
whole : value_of (record { name = codes "A/B"; first = span (pos 3600) (pos 0); others = (pos 5, span (pos 3600) (pos 3600)) ∷ (pos 9, span (pos 0) (pos 0)) ∷ [] })
    (codes "F")
    ≡ record { first = kind (pos 3600) false; rest = (pos 5, kind (pos 7200) true) ∷ (pos 9, kind (pos 0) false) ∷ []; footer = codes "F" }
unfolding value_by
whole = refl

-- a set that has no string has an empty footer, as one 25 hours ahead of UTC
without_string : footer_of (record { name = []; first = span (pos 90000) (pos 0); others = [] }) ≡ []
unfolding footer_of form standard_of
without_string = refl

-- where the string may say otherwise there is no footer, and else it is the string
contradicted_string : (set : FixedTimespanSet) → is_contradicted set ≡ true → consistent_footer set ≡ []
unfolding consistent_footer
contradicted_string set past = rw (past) refl

kept_string : (set : FixedTimespanSet) → is_contradicted set ≡ false → consistent_footer set ≡ footer_of set
unfolding consistent_footer
kept_string set past = rw (past) refl

-- each cause is its own
causes : IsFileFault Times (Some write.Times) × IsFileFault Types (Some write.Types) × IsFileFault Names (Some write.Names)
causes = (refl, refl, refl)

-- want of memory is told only where there is no cause
memory_last : IsFileFault NoMemory None × ((cause : WriteFault) → ¬ (IsFileFault NoMemory (Some cause)))
memory_last = (refl, λ cause e. none-some cause (sym e))
