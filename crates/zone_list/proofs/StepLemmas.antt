-- A window entry by entry: what lies within of those from a place on.
use Rattle.std.proofs.Common.{◌≡◌, ℕ, zero, suc, ◌+◌, ◌<◌, Bool, true, false, List, [], ◌∷◌, ◌++◌, length, map, drop, refl, sym, ap, ◌∙◌, append_assoc, arith, ℤ, pos}
use Rattle.std.specs.{Fmt.{char_count}, List.{slice_index_or}, Prelude.{◌&&◌, max, Option, Some, None, IfSome}}
use Rattle.civil_base.specs.{DateTimes.{instant, offset_of}, Instants.{local_at, nanos_of}, Ranges.{is_in_years}, declared.offset_date_time.OffsetDateTime.{OffsetDateTime}}
use Rattle.zone_spans.specs.{Entries.{Entry, total}, declared.span.FixedTimespan.{FixedTimespan}}
use Rattle.tz_lookup.specs.{Sets.{shift_of, total_of_span}, Spans.{shift_at}, declared.set.FixedTimespanSet.{FixedTimespanSet}}
use Rattle.zone_list.{specs.Ranges.{all_have_dates, has_dates}, specs.Rows.{row, widest}, specs.ShownEntries.{IsShownAs}, specs.Windows.{entry_at, is_within, within}, proofs.WindowLaws.{one_more, no_more}}

-- what is left of a window from a place on
abbrev pub left : ℤ → ℤ → FixedTimespanSet → ℕ → List Entry
left from to set i = within from to (drop i set.others)

next : (i : ℕ) → suc i ≡ i + 1
next i = omega arith

stands : (first : FixedTimespan) (entries : List Entry) (i : ℕ) → i < length entries
    → drop i entries ≡ ((shift_at (map shift_of entries) i).0, (slice_index_or entries i (pos 0, first)).1) ∷ drop (suc i) entries
stands first [] i l = absurd (omega (arith, l))
stands first (e ∷ es) zero l = refl
stands first (e ∷ es) (suc i) l = stands first es i (omega (arith, l))

one_in : (from to : ℤ) (set : FixedTimespanSet) (i : ℕ) → i < length set.others → is_within from to (entry_at set i) ≡ true
    → left from to set i ≡ entry_at set i ∷ left from to set (i + 1)
one_in from to set i l is =
    ap (within from to) (stands set.first set.others i l) ∙ one_more from to (entry_at set i) _ is ∙ ap (λ n. entry_at set i ∷ left from to set n) (next i)

one_out : (from to : ℤ) (set : FixedTimespanSet) (i : ℕ) → i < length set.others → is_within from to (entry_at set i) ≡ false
    → left from to set i ≡ left from to set (i + 1)
one_out from to set i l is =
    ap (within from to) (stands set.first set.others i l) ∙ no_more from to (entry_at set i) _ is ∙ ap (left from to set) (next i)

-- ---- the widths

most : (a b c : ℕ) → max (max a b) c ≡ max b (max a c)
most a b c = omega arith

pub most_of_none : (a : ℕ) → max 0 a ≡ a
most_of_none a = omega arith

pub widened : (text : Entry → List ℕ) (from to : ℤ) (set : FixedTimespanSet) (i old new all : ℕ) → i < length set.others
    → is_within from to (entry_at set i) ≡ true → new ≡ max (char_count (text (entry_at set i))) old
    → max old (widest (map text (left from to set i))) ≡ all → max new (widest (map text (left from to set (i + 1)))) ≡ all
widened text from to set i old new all l is wide so_far =
    ap (λ n. max n (widest (map text (left from to set (i + 1))))) wide
    ∙ most (char_count (text (entry_at set i))) old (widest (map text (left from to set (i + 1))))
    ∙ ap (λ es. max old (widest (map text es))) (sym (one_in from to set i l is)) ∙ so_far

pub as_wide : (text : Entry → List ℕ) (from to : ℤ) (set : FixedTimespanSet) (i old all : ℕ) → i < length set.others
    → is_within from to (entry_at set i) ≡ false → max old (widest (map text (left from to set i))) ≡ all
    → max old (widest (map text (left from to set (i + 1)))) ≡ all
as_wide text from to set i old all l is so_far = ap (λ es. max old (widest (map text es))) (sym (one_out from to set i l is)) ∙ so_far

-- ---- the rows, and whether each entry has dates

pub one_listed : (times names : ℕ) (from to : ℤ) (set : FixedTimespanSet) (i : ℕ) (old new all : List (List ℕ)) → i < length set.others
    → is_within from to (entry_at set i) ≡ true → new ≡ old ++ row times names (entry_at set i) ∷ []
    → old ++ map (row times names) (left from to set i) ≡ all → new ++ map (row times names) (left from to set (i + 1)) ≡ all
one_listed times names from to set i old new all l is added so_far =
    ap (λ rows. rows ++ map (row times names) (left from to set (i + 1))) added
    ∙ append_assoc old (row times names (entry_at set i) ∷ []) (map (row times names) (left from to set (i + 1)))
    ∙ ap (λ es. old ++ map (row times names) es) (sym (one_in from to set i l is)) ∙ so_far

pub none_listed : (times names : ℕ) (from to : ℤ) (set : FixedTimespanSet) (i : ℕ) (old all : List (List ℕ)) → i < length set.others
    → is_within from to (entry_at set i) ≡ false → old ++ map (row times names) (left from to set i) ≡ all
    → old ++ map (row times names) (left from to set (i + 1)) ≡ all
none_listed times names from to set i old all l is so_far =
    ap (λ es. old ++ map (row times names) es) (sym (one_out from to set i l is)) ∙ so_far

pub one_dated : (from to : ℤ) (set : FixedTimespanSet) (i : ℕ) (all : Bool) → i < length set.others → is_within from to (entry_at set i) ≡ true
    → has_dates (entry_at set i) ≡ true → all_have_dates (left from to set i) ≡ all → all_have_dates (left from to set (i + 1)) ≡ all
one_dated from to set i all l is has so_far =
    ap (λ b. b && all_have_dates (left from to set (i + 1))) (sym has) ∙ ap all_have_dates (sym (one_in from to set i l is)) ∙ so_far

pub none_dated : (from to : ℤ) (set : FixedTimespanSet) (i : ℕ) (all : Bool) → i < length set.others → is_within from to (entry_at set i) ≡ false
    → all_have_dates (left from to set i) ≡ all → all_have_dates (left from to set (i + 1)) ≡ all
none_dated from to set i all l is so_far = ap all_have_dates (sym (one_out from to set i l is)) ∙ so_far

pub undated : (from to : ℤ) (set : FixedTimespanSet) (i : ℕ) (all : Bool) → i < length set.others → is_within from to (entry_at set i) ≡ true
    → has_dates (entry_at set i) ≡ false → all_have_dates (left from to set i) ≡ all → all ≡ false
undated from to set i all l is has so_far =
    sym so_far ∙ ap all_have_dates (one_in from to set i l is) ∙ ap (λ b. b && all_have_dates (left from to set (i + 1))) has

-- ---- the dates of an entry

-- the total of the span that an entry begins
pub total_is : (set : FixedTimespanSet) (i : ℕ) → i < length set.others → total_of_span set (i + 1) ≡ total (entry_at set i).1
total_is set i l = ap (total_of_span set) (sym (next i)) ∙ by_place set.others i l
  where
    by_place : (entries : List Entry) (i : ℕ) → i < length entries → (shift_at (map shift_of entries) i).1 ≡ total (slice_index_or entries i (pos 0, set.first)).1
    by_place [] i l = absurd (omega (arith, l))
    by_place (e ∷ es) zero l = refl
    by_place (e ∷ es) (suc i) l = by_place es i (omega (arith, l))

-- what is shown of a time at an offset, where the UTC date lies in the years
pub dates_are : (entry : Entry) (time offset shown : ℤ) (has : Bool) → time ≡ entry.0 → offset ≡ total entry.1 → true ≡ is_in_years (nanos_of time)
    → shown ≡ nanos_of time → has ≡ is_in_years (local_at shown offset) → has ≡ has_dates entry
dates_are entry time offset shown has at is early same later =
    later ∙ (λ k. is_in_years (local_at ((same ∙ ap nanos_of at) k) (is k)))
    ∙ (λ k. (early ∙ ap (λ s. is_in_years (nanos_of s)) at) k && is_in_years (local_at (nanos_of entry.0) (total entry.1)))

pub shown_as : (entry : Entry) (found : Option OffsetDateTime) (time offset shown : ℤ) → time ≡ entry.0 → offset ≡ total entry.1 → shown ≡ nanos_of time
    → IfSome found (λ value. instant value ≡ shown) → IfSome found (λ value. offset_of value ≡ offset) → IfSome found (IsShownAs entry)
shown_as entry None time offset shown at is same when east = tt
shown_as entry (Some value) time offset shown at is same when east = record { at = when ∙ same ∙ ap nanos_of at; offset = east ∙ is }
