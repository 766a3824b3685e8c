-- The set that times beside the numbers of kinds stand for.
use Rattle.std.specs.Prelude.{◌≡◌, ◌<◌, ℕ, List, [], ◌∷◌, length, map, slice_index_or, ℤ}
use Rattle.zone_spans.specs.{Entries.{Entry}, declared.span.FixedTimespan.{FixedTimespan}}
use Rattle.tz_lookup.specs.{declared.set.FixedTimespanSet.{FixedTimespanSet}, Kinds.{kind_in, with_kinds}}

-- each time with the kind of its number
unfoldable pub entries_seen : List FixedTimespan → List ℤ → List ℕ → List Entry
entries_seen kinds [] numbers = []
entries_seen kinds (time ∷ times) [] = []
entries_seen kinds (time ∷ times) (number ∷ numbers) = (time, kind_in kinds number) ∷ entries_seen kinds times numbers

abbrev pub set_seen : List ℕ → List FixedTimespan → ℕ → List ℤ → List ℕ → FixedTimespanSet
set_seen name kinds first times numbers = record {
  name = name;
  first = kind_in kinds first;
  others = entries_seen kinds times numbers;
}

-- each number is that of a kind, and there is one for each time
pub record HaveKinds (kinds : List FixedTimespan) (first : ℕ) (times : List ℤ) (numbers : List ℕ) : Type 0 where
  pub begins : first < length kinds
  pub each : (i : ℕ) → i < length numbers → slice_index_or numbers i 0 < length kinds
  pub all : length numbers ≡ length times

-- they stand for the first span and these entries, and the kinds are theirs, each once
pub record StandFor (start : FixedTimespan) (entries : List Entry) (kinds : List FixedTimespan) (first : ℕ) (times : List ℤ) (numbers : List ℕ) : Type 0 where
  pub have : HaveKinds kinds first times numbers
  pub begins : kind_in kinds first ≡ start
  pub stand : entries_seen kinds times numbers ≡ entries
  pub distinct : kinds ≡ with_kinds [] (start ∷ map (λ (e : Entry). e.1) entries)
