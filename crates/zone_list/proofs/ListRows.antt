-- Windows, rows, dates and words, at worked rows.
use Rattle.std.{proofs.Common.{◌≡◌, ℕ, List, [], ◌∷◌, ◌++◌, map, true, false, Some, None, refl, ℤ, pos, negsuc}, specs.Prelude.{codes}, specs.Fmt.{char_count, digits}}
use Rattle.civil_base.specs.Layout.{zoned_text}
use Rattle.tz_lookup.specs.declared.set.FixedTimespanSet.{FixedTimespanSet}
use Rattle.zone_source.specs.LineLists.{ended}
use Rattle.zone_spans.specs.Entries.{Entry}
use Rattle.zone_list.specs.{Asks.{asks, form}, Ranges.{all_have_dates, has_dates}, Rows.{row, rows}, Windows.{window, within}}

abbrev entry : ℤ → ℤ → ℤ → List ℕ → Entry
entry time offset saving name = (time, record { utc_offset = offset; dst_offset = saving; name = name })

-- entries known by their times alone
abbrev at : ℤ → Entry
at time = entry time (pos 0) (pos 0) []

abbrev four : List Entry
four = at (negsuc 4) ∷ at (pos 20) ∷ at (pos 20) ∷ at (pos 30) ∷ []

-- the first second is in a window, its end is not; no window runs backwards
windows : map (λ (w : ℤ × ℤ). within w.0 w.1 four)
    ((negsuc 4, pos 30) ∷ (negsuc 3, pos 31) ∷ (pos 20, pos 21) ∷ (pos 20, pos 20) ∷ (pos 30, negsuc 4) ∷ (pos 31, pos 99) ∷ [])
    ≡ (at (negsuc 4) ∷ at (pos 20) ∷ at (pos 20) ∷ []) ∷ (at (pos 20) ∷ at (pos 20) ∷ at (pos 30) ∷ [])
    ∷ (at (pos 20) ∷ at (pos 20) ∷ []) ∷ [] ∷ [] ∷ [] ∷ []
windows = refl

-- each column is as wide as its widest text, in characters (`Ä` is two bytes); a time stands at the right and shows at its own
-- total, a name stands at the left
in_columns : rows (entry (pos 7) (pos 3600) (pos 1800) (codes "AB") ∷ entry (negsuc 1233) (negsuc 59) (pos 0) (195 ∷ 132 ∷ []) ∷ [])
    ≡ (codes "    7  AB  " ++ zoned_text (pos 7000000000) (pos 5400))
    ∷ (codes "-1234  " ++ (195 ∷ 132 ∷ []) ++ codes "   " ++ zoned_text (negsuc 1233999999999) (negsuc 59)) ∷ []
unfolding rows row char_count digits
in_columns = refl

-- also where the widest name is the last one's
widest_last : rows (entry (pos 7) (pos 0) (pos 0) (codes "A") ∷ entry (pos 8) (pos 0) (pos 0) (codes "BCD") ∷ [])
    ≡ (codes "7  A    " ++ zoned_text (pos 7000000000) (pos 0)) ∷ (codes "8  BCD  " ++ zoned_text (pos 8000000000) (pos 0)) ∷ []
unfolding rows row char_count digits
widest_last = refl

-- the ends of the years 9999 and -9999, at UTC and a second to each side: both dates count
dates : map has_dates
    (at (pos 253402300799) ∷ at (pos 253402300800) ∷ entry (pos 253402300799) (pos 1) (pos 0) []
    ∷ entry (pos 253402300800) (negsuc 0) (pos 0) [] ∷ entry (pos 253402300799) (negsuc 0) (pos 0) []
    ∷ at (negsuc 377705116799) ∷ at (negsuc 377705116800) ∷ entry (negsuc 377705116799) (negsuc 0) (pos 0) []
    ∷ entry (negsuc 377705116800) (pos 1) (pos 0) [] ∷ entry (negsuc 377705116799) (pos 0) (pos 1) [] ∷ [])
    ≡ true ∷ false ∷ false ∷ false ∷ true ∷ true ∷ false ∷ false ∷ false ∷ true ∷ []
dates = refl

-- FROM and TO, in this order, each of at most 13 digits
words : map form
    ((codes "-5" ∷ codes "30" ∷ []) ∷ (codes "9999999999999" ∷ codes "-9999999999999" ∷ []) ∷ (codes "0" ∷ codes "10000000000000" ∷ [])
    ∷ (codes "-10000000000000" ∷ codes "0" ∷ []) ∷ (codes "-0" ∷ codes "1" ∷ []) ∷ (codes "0" ∷ codes "01" ∷ []) ∷ [] ∷ (codes "0" ∷ [])
    ∷ (codes "0" ∷ codes "1" ∷ codes "2" ∷ []) ∷ [])
    ≡ Some (asks (negsuc 4) (pos 30)) ∷ Some (asks (pos 9999999999999) (negsuc 9999999999998)) ∷ None ∷ None ∷ None ∷ None ∷ None ∷ None
    ∷ None ∷ []
unfolding digits
words = refl

-- an entry without dates among others
not_all : map all_have_dates ([] ∷ (at (pos 0) ∷ []) ∷ (at (pos 0) ∷ at (pos 253402300800) ∷ []) ∷ []) ≡ true ∷ true ∷ false ∷ []
not_all = refl

-- what is asked of a set with an entry of 1970 and one past the years: a window that ends before that has a row, one through it a cause
abbrev two : FixedTimespanSet
two = record {
  name = [];
  first = record { utc_offset = pos 0; dst_offset = pos 0; name = [] };
  others = entry (pos 5) (pos 0) (pos 0) (codes "A") ∷ at (pos 253402300800) ∷ [];
}

refused : (asks (pos 0) (pos 253402300800)).cause two ∷ (asks (pos 0) (pos 253402300801)).cause two ∷ (asks (pos 6) (pos 7)).cause two ∷ []
    ≡ None ∷ Some (codes "range") ∷ None ∷ []
unfolding window
refused = refl

shown : (asks (pos 0) (pos 253402300800)).due two ∷ (asks (pos 6) (pos 7)).due two ∷ []
    ≡ ended ((codes "5  A  " ++ zoned_text (pos 5000000000) (pos 0)) ∷ []) ∷ [] ∷ []
unfolding window rows row digits char_count
shown = refl
