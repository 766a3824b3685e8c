-- The zone of a set has the set's offsets.
use Rattle.std.{proofs.Common.{◌≡◌, ℕ, ℤ, pos, ◌*ℤ◌, int_le, Bool, true, false, cond, List, [], ◌∷◌, map, filter, refl, ap, ◌∙◌}, proofs.lemmas.Bool.{and_parts}, specs.List.{list_all}}
use Rattle.civil_base.specs.Ranges.{is_offset}
use Rattle.zone_spans.specs.{Entries.{Entry, total}, Schedules.{total_at as set_total_at, last_total}, declared.span.FixedTimespan.{FixedTimespan}}
use Rattle.tz_lookup.specs.{Sets.{schedule_of, shift_of}, declared.set.FixedTimespanSet.{FixedTimespanSet}}
use Rattle.zone_tzif_core.specs.{Totals.{file_total_at, last_kind}, Zones.{KindValue, ZoneValue}}
use Rattle.zone_tzif.specs.{Values.{kind_by, change_by, value_by}, declared.convert.Saves.{Saves}}

abbrev pub made : KindValue → List (ℤ × KindValue) → List ℕ → ZoneValue
made first rest footer = record { first = first; rest = rest; footer = footer }

same_last : (saves : Saves) (t : ℤ) (first : FixedTimespan) (entries : List Entry) → (last_kind (kind_by saves first) (filter (λ change. int_le (change.0 *ℤ pos 1000000000) t) (map (change_by saves) entries))).utoff ≡ last_total (total first) (filter (λ shift. int_le (shift.0 *ℤ pos 1000000000) t) (map shift_of entries))
same_last saves t first [] = refl
same_last saves t first (entry ∷ entries) = by_test (int_le (entry.0 *ℤ pos 1000000000) t) (same_last saves t first entries) (same_last saves t entry.1 entries)
  where
    kinds : List Entry → List (ℤ × KindValue)
    kinds es = filter (λ (change : ℤ × KindValue). int_le (change.0 *ℤ pos 1000000000) t) (map (change_by saves) es)

    totals : List Entry → List (ℤ × ℤ)
    totals es = filter (λ (shift : ℤ × ℤ). int_le (shift.0 *ℤ pos 1000000000) t) (map shift_of es)

    by_test : (b : Bool) → (last_kind (kind_by saves first) (kinds entries)).utoff ≡ last_total (total first) (totals entries) → (last_kind (kind_by saves entry.1) (kinds entries)).utoff ≡ last_total (total entry.1) (totals entries) → (last_kind (kind_by saves first) (cond b (change_by saves entry ∷ kinds entries) (kinds entries))).utoff ≡ last_total (total first) (cond b (shift_of entry ∷ totals entries) (totals entries))
    by_test true before from = from
    by_test false before from = before

pub totals_kept : (saves : Saves) (set : FixedTimespanSet) (footer : List ℕ) (t : ℤ) → file_total_at (value_by saves set footer) t ≡ set_total_at (schedule_of set) t
unfolding file_total_at set_total_at value_by
totals_kept saves set footer t = same_last saves t set.first set.others

-- the offsets of an accepted set
pub entries_small : (entries : List Entry) → list_all (λ shift. is_offset shift.1) (map shift_of entries) ≡ true → list_all (λ (entry : Entry). is_offset (total entry.1)) entries ≡ true
entries_small [] all = refl
entries_small (entry ∷ entries) all =
    let parts = and_parts (is_offset (total entry.1)) _ all in
    rw parts.0 (entries_small entries parts.1)

-- the value of the parts
pub parts_are : (saves : Saves) (set : FixedTimespanSet) (footer : List ℕ) (first : KindValue) (rest : List (ℤ × KindValue)) (text : List ℕ) → first ≡ kind_by saves set.first → rest ≡ map (change_by saves) set.others → text ≡ footer → made first rest text ≡ value_by saves set footer
unfolding value_by
parts_are saves set footer first rest text a b c = ap (λ x. made x rest text) a ∙ ap (λ x. made (kind_by saves set.first) x text) b ∙ ap (made (kind_by saves set.first) (map (change_by saves) set.others)) c
