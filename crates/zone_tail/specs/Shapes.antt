-- What is found of the last year: how many entries lie before it and in it, and which.
use Rattle.std.specs.Prelude.{◌≡◌, ◌≢◌, ℕ, suc, ◌<◌, ◌⊎◌, true, List, [], ◌∷◌, slice_index_or, ℤ, pos, ◌-ℤ◌, ◌<ℤ◌}
use Rattle.zone_spans.specs.Entries.{Entry}
use Rattle.tz_lookup.specs.{Sets.{shifts_of, span_in}, declared.set.FixedTimespanSet.{FixedTimespanSet}}
use Rattle.zone_tail.specs.{LastYear.{are_start_and_end, entries_between, form, standard_of, year_begin, year_end}, Totals.{IsCount}, declared.last_year.Form.{Form}, declared.last_year.Form.TheVariants.{Steady, Yearly, Other}, declared.last_year.Shape.{Shape}}
use Rattle.zone_tail.specs.LastYear as year
use Rattle.zone_tail.specs.declared.last_year.Shape.TheVariants as shape

abbrev pub entry_in : FixedTimespanSet → ℕ → Entry
entry_in set i = slice_index_or set.others i (pos 0, set.first)

-- two entries, the first before the second
abbrev pub AreRising : List Entry → Entry → Entry → Type 0
AreRising entries x y = (entries ≡ x ∷ y ∷ []) × (x.0 <ℤ y.0)

-- no entry from low up to high; two of different times; or others
abbrev pub IsShape : FixedTimespanSet → ℤ → ℤ → Shape → Type 0
IsShape set low high (shape.Steady k) =
    (entries_between set.others low high ≡ []) × IsCount (shifts_of set) low k × IsCount (shifts_of set) high k
IsShape set low high (shape.Pair e f) =
    AreRising (entries_between set.others low high) (entry_in set e) (entry_in set (suc e))
    × (f ≡ suc e)
    × (f < 18446744073709551615)
    × IsCount (shifts_of set) low e
    × IsCount (shifts_of set) high (suc (suc e))
IsShape set low high shape.Other =
    (entries_between set.others low high ≢ []) × ((x y : Entry) → AreRising (entries_between set.others low high) x y → ⊥)

-- entries e and e + 1, one after the other, are those of the last year, and they are a start and an end in either order
pub record IsPair (set : FixedTimespanSet) (start end : ℕ) : Type 0 where
  pub first : ℕ
  pub order : ((start ≡ first) × (end ≡ suc first)) ⊎ ((end ≡ first) × (start ≡ suc first))
  pub rising : (entry_in set first).0 <ℤ (entry_in set (suc first)).0
  pub begins : IsCount (shifts_of set) (year_begin -ℤ standard_of set) first
  pub ends : IsCount (shifts_of set) (year_end -ℤ standard_of set) (suc (suc first))
  pub bound : suc first < 18446744073709551615
  pub are : are_start_and_end (standard_of set) (entry_in set start) (entry_in set end) ≡ true

abbrev pub IsForm : FixedTimespanSet → Form → Type 0
IsForm set (Steady k) =
    (form set ≡ year.steady (span_in set k))
    × IsCount (shifts_of set) (year_begin -ℤ standard_of set) k
    × IsCount (shifts_of set) (year_end -ℤ standard_of set) k
IsForm set (Yearly start end) = (form set ≡ year.yearly (entry_in set start) (entry_in set end)) × IsPair set start end
IsForm set Other = form set ≡ year.other
