-- Where a table finds an entry in the set.
use Rattle.std.specs.Prelude.{◌≡◌, ℕ, ◌<◌, List, length, slice_index_or, ℤ}
use Rattle.zone_spans.specs.Entries.{Entry}
use Rattle.tz_ever.specs.Unrolled.{entry_moved}

-- the entry of an index is one of the set, so many seconds later
pub record IsPlace (listed entries : List Entry) (index entry : ℕ) (seconds : ℤ) : Type 0 where
  pub within : entry < length entries
  pub is : (d : Entry) → slice_index_or listed index d ≡ entry_moved seconds (slice_index_or entries entry d)
