-- A set's entries up to the end of the cycle, and then those of the cycle again for each of 20 later ones: up to the year 10501. Where the
-- cycle comes again always, for 31 earlier ones too: from the year -10298 on.
use Rattle.std.specs.Prelude.{◌≡◌, ◌<◌, ◌<ℤ◌, ℕ, zero, suc, List, [], ◌++◌, length, map, filter, slice_index_or, ℤ, pos, neg_ℤ, ◌+ℤ◌, ◌-ℤ◌, ◌≤ℤ◌, int_le, int_lt}
use Rattle.zone_spans.specs.{Cycle.{entry_on}, Entries.{Entry}}
use Rattle.tz_lookup.specs.{Compiles.{spans_of}, declared.set.FixedTimespanSet.{FixedTimespanSet}}
use Rattle.tz_ever.specs.{InForce.{span_at}, Seam.{seam}, declared.recurrence.Recurrence.{Recurrence}, declared.recurrence.Recurrence.TheVariants.{Never, Later, Always}}

-- 2102-01-01 00:00:00 UTC, and 2502-01-01, in seconds: the cycle begins, and the next one
abbrev pub seam_second : ℤ
seam_second = pos 4165516800

abbrev pub next_seam_second : ℤ
next_seam_second = pos 16788297600

-- the entries before a second, and those from it on
unfoldable pub entries_before : ℤ → List Entry → List Entry
entries_before second entries = filter (λ e. int_lt e.0 second) entries

unfoldable pub entries_from : ℤ → List Entry → List Entry
entries_from second entries = filter (λ e. int_le second e.0) entries

-- entries again, so many times, each time a cycle of 12,622,780,800 seconds later
unfoldable pub again : ℕ → List Entry → List Entry
again zero entries = []
again (suc times) entries = map entry_on entries ++ again times (map entry_on entries)

abbrev pub later_cycles : ℕ
later_cycles = 20

unfoldable pub unrolled_entries : List Entry → List Entry
unrolled_entries entries =
    let kept = entries_before next_seam_second entries in
    kept ++ again later_cycles (entries_from seam_second kept)

abbrev pub unrolled : FixedTimespanSet → FixedTimespanSet
unrolled set = record { name = set.name; first = set.first; others = unrolled_entries set.others }

-- 10502-01-01 00:00:00 UTC, in nanoseconds: up to then the entries say all that the zone shows
abbrev pub unrolled_end : ℤ
unrolled_end = pos 269243913600000000000

-- a change so many seconds later
abbrev pub entry_moved : ℤ → Entry → Entry
entry_moved seconds e = (e.0 +ℤ seconds, e.1)

-- the cycle's entries in 31 earlier cycles, in its own and in 20 later ones
unfoldable pub repeated_entries : List Entry → List Entry
repeated_entries entries =
    again 52 (map (entry_moved (neg_ℤ (pos 403928985600))) (entries_from seam_second (entries_before next_seam_second entries)))

-- all entries that are told of a zone
abbrev pub told : Recurrence → FixedTimespanSet → FixedTimespanSet
told Never set = set
told Later set = unrolled set
told Always set = record { name = set.name; first = span_at (spans_of set) (seam -ℤ pos 1); others = repeated_entries set.others }

-- an instant at which they say all that the zone shows
abbrev pub IsTold : Recurrence → ℤ → Type 0
IsTold Never t = Unit {0}
IsTold Later t = t <ℤ unrolled_end
IsTold Always t = ((seam -ℤ pos 391306204800000000000) ≤ℤ t) × (t <ℤ unrolled_end)

-- an entry stands at a place, and the next one, if there is one, comes at a later second
pub record IsLastThere (entries : List Entry) (place : ℕ) (entry : Entry) : Type 0 where
  pub within : place < length entries
  pub is : (d : Entry) → slice_index_or entries place d ≡ entry
  pub last : (d : Entry) → suc place < length entries → entry.0 <ℤ (slice_index_or entries (suc place) d).0
