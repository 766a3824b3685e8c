-- A zone whose last line goes on: its entries over more years, its entries of a later cycle, and the total there.
use Rattle.std.proofs.{Common.{◌≡◌, List, [], ◌∷◌, Some, None, ℤ, pos, refl, ℕ, ap, ◌∙◌, arith, ◌+◌, ◌≤◌, true, ◌++◌, map, sym, append-nil, find, Option, int_eq, append_assoc, reverse}, lemmas.List.{map-append, reverse-append}}
use Rattle.basics.specs.Sorted.{stable_sort}
use Rattle.zone_spans.specs.{Collapse.{kept_of, collapsed}, Entries.{entry_of, is_sooner, start_entry, Entry, entries_from_over, entries_of_over, next_start_over, sorted_entries_over}, Firings.{Fired, Firing, line_firings_over, years_over}}
use Rattle.zone_spans.specs.{Lines.{Line, is_ruled}, Listing.{listed_firings}, declared.span.FixedTimespan.{FixedTimespan}, Cycle.{entry_on, firing_on, instant_on}}
use Rattle.zone_spans.specs.{Later.{begun_entries, firings_from, first_fired, later_entries, later_fired, listed_entries, start_after}, Settled.{are_settled}, LaterLaws.{EndsByThen, firings_of_years-split, years_over-ended}}
use Rattle.tz_ever.specs.InForce.{has_come, span_at, span_by}
use Rattle.tz_ever.proofs.cycle.{CollapseLemmas.{kept-repeats, kept_of-on}, FiringLemmas.{firings_from-repeats}, ListingLemmas.{are_past, listed_from-more, start_firing-more}, SeamLemmas.{IsSeam}, SortLemmas.{Precede, RiseAbove, sorted-more}}
use Rattle.tz_ever.proofs.cycle.SpanLemmas.{has_come-on, span_by-kept, span_by-on, span_by-without_first}

-- ---- lines that end in 2099 or before
abbrev pub AllEnd : List Line → Type 0
AllEnd [] = Unit {0}
AllEnd (line ∷ lines) = EndsByThen line.end × AllEnd lines

pub line_firings_over-ended : (n : ℕ) (line : Line) → 300 ≤ n → EndsByThen line.end → line_firings_over n line ≡ line_firings_over 300 line
unfolding line_firings_over
line_firings_over-ended n line late ended = rw (years_over-ended n line.end late ended)

pub entries_from_over-split : (n : ℕ) (start : Option ℤ) (lines : List Line) (last : Line) → 300 ≤ n → AllEnd lines
    → entries_from_over n start (lines ++ (last ∷ [])) ≡ entries_from_over 300 start lines ++ entries_of_over n last (start_after start lines)
unfolding entries_from_over entries_of_over next_start_over start_after
entries_from_over-split n start [] last late all = append-nil (entries_of_over n last start)
entries_from_over-split n start (line ∷ lines) last late all =
    rw (line_firings_over-ended n line late all.0, entries_from_over-split n (next_start_over 300 line) lines last late all.1)
    (sym (append_assoc (entries_of_over 300 line start) (entries_from_over 300 (next_start_over 300 line) lines)
    (entries_of_over n last (start_after (next_start_over 300 line) lines))))

-- ---- the last line
-- a ruled line with no end
pub record IsEndless (line : Line) : Type 0 where
  pub ruled : is_ruled line.info.saving ≡ true
  pub endless : line.end ≡ None

line_firings_over-endless : (n : ℕ) (line : Line) → IsEndless line → line_firings_over n line ≡ first_fired line n
unfolding line_firings_over years_over
line_firings_over-endless n line is = rw (is.ruled, is.endless)

-- firings past the start of a line
abbrev pub ArePast : Option ℤ → List Firing → Type 0
ArePast None fs = Unit {0}
ArePast (Some start) fs = are_past start fs ≡ true

-- a firing ends a saving
pub record EndsSaving (fs : List Firing) : Type 0 where
  pub one : Firing
  pub found : find (λ g. int_eq g.rule.time_to_add (pos 0)) fs ≡ Some one

pub listed-more : (start : Option ℤ) (fs gs : List Firing) → ArePast start gs → listed_firings start (fs ++ gs) ≡ listed_firings start fs ++ gs
listed-more None fs gs past = refl
listed-more (Some start) fs gs past = listed_from-more start fs gs past

pub start-more : (line : Line) (start : Option ℤ) (fs gs : List Firing) → ArePast start gs → EndsSaving fs
    → start_entry line start (fs ++ gs) ≡ start_entry line start fs
start-more line None fs gs past ends = refl
start-more line (Some start) fs gs past ends = rw (start_firing-more start fs gs ends.one past ends.found)

pub entries_of_over-endless : (n : ℕ) (line : Line) (start : Option ℤ) → IsEndless line
    → entries_of_over n line start ≡ listed_entries line start n ++ begun_entries line start n
unfolding entries_of_over
entries_of_over-endless n line start is = rw (is.ruled, line_firings_over-endless n line is)

entries_of_over-more : (place k : ℕ) (line : Line) (start : Option ℤ) → IsEndless line → ArePast start (later_fired line place k)
    → EndsSaving (first_fired line place).0
    → entries_of_over (k + place) line start ≡ listed_entries line start place ++ (later_entries line place k ++ begun_entries line start place)
entries_of_over-more place k line start is past ends =
    let fs = (first_fired line place).0 in
    let gs = later_fired line place k in
    let split : (first_fired line (k + place)).0 ≡ fs ++ gs =
    ap (λ (f : Fired). f.0) (firings_of_years-split place k line.info.offset line.rules) in
    let here : start_entry line start (fs ++ gs) ≡ start_entry line start fs = start-more line start fs gs past ends in
    entries_of_over-endless (k + place) line start is
    ∙ (λ i. map (entry_of line) (listed_firings start (split i)) ++ start_entry line start (split i))
    ∙ (λ i. map (entry_of line) (listed-more start fs gs past i) ++ here i)
    ∙ ap (λ l. l ++ start_entry line start fs) (map-append (entry_of line) (listed_firings start fs) gs)
    ∙ append_assoc (listed_entries line start place) (later_entries line place k) (start_entry line start fs)

-- ---- a zone that goes on: lines that end, and a last one with no end and settled rules; all that fires after the place comes
-- after what stands there, in order
pub record AddsBehind (lines : List Line) (last : Line) (place : ℕ) : Type 0 where
  pub late : 300 ≤ place
  pub ended : AllEnd lines
  pub endless : IsEndless last
  pub settled : are_settled last.rules ≡ true
  pub ends : EndsSaving (first_fired last place).0
  pub past : (k : ℕ) → ArePast (start_after None lines) (later_fired last place k)
  pub precede : (k : ℕ) → Precede is_sooner (entries_from_over 300 None lines ++ listed_entries last (start_after None lines) place)
      (later_entries last place k)
  pub rise : (k : ℕ) → RiseAbove is_sooner (begun_entries last (start_after None lines) place) (later_entries last place k)

-- over more years there are more entries, in front of that at the last line's start
pub entries_from_over-more : (lines : List Line) (last : Line) (place k : ℕ) → AddsBehind lines last place
    → entries_from_over (k + place) None (lines ++ (last ∷ []))
    ≡ (entries_from_over 300 None lines ++ listed_entries last (start_after None lines) place)
    ++ (later_entries last place k ++ begun_entries last (start_after None lines) place)
entries_from_over-more lines last place k on =
    let start = start_after None lines in
    let front = entries_from_over 300 None lines in
    let xs = listed_entries last start place in
    entries_from_over-split (k + place) None lines last (omega (arith, on.late)) on.ended
    ∙ ap (λ l. front ++ l) (entries_of_over-more place k last start on.endless (on.past k) on.ends)
    ∙ sym (append_assoc front xs (later_entries last place k ++ begun_entries last start place))

pub entries_from_over-first : (lines : List Line) (last : Line) (place : ℕ) → 300 ≤ place → AllEnd lines → IsEndless last
    → entries_from_over place None (lines ++ (last ∷ []))
    ≡ (entries_from_over 300 None lines ++ listed_entries last (start_after None lines) place) ++ begun_entries last (start_after None lines) place
entries_from_over-first lines last place late ended endless =
    let start = start_after None lines in
    let front = entries_from_over 300 None lines in
    entries_from_over-split place None lines last late ended
    ∙ ap (λ l. front ++ l) (entries_of_over-endless place last start endless)
    ∙ sym (append_assoc front (listed_entries last start place) (begun_entries last start place))

-- they come behind those of before once all are sorted
pub sorted_entries_over-more : (lines : List Line) (last : Line) (place k : ℕ) → AddsBehind lines last place
    → sorted_entries_over (k + place) (lines ++ (last ∷ [])) ≡ sorted_entries_over place (lines ++ (last ∷ [])) ++ later_entries last place k
unfolding sorted_entries_over
sorted_entries_over-more lines last place k on =
    let start = start_after None lines in
    let front = entries_from_over 300 None lines in
    let xs = listed_entries last start place in
    let ys = begun_entries last start place in
    let gs = later_entries last place k in
    ap (stable_sort is_sooner) (entries_from_over-more lines last place k on)
    ∙ sorted-more is_sooner (front ++ xs) gs ys (on.precede k) (on.rise k)
    ∙ ap (λ l. stable_sort is_sooner l ++ gs) (sym (entries_from_over-first lines last place on.late on.ended on.endless))

pub entries_on : (line : Line) (fs : List Firing) → map (entry_of line) (map firing_on fs) ≡ map entry_on (map (entry_of line) fs)
entries_on line [] = refl
entries_on line (f ∷ fs) = ap (λ l. entry_on (entry_of line f) ∷ l) (entries_on line fs)

-- the entries past a cycle are those past its beginning, a cycle later
pub later_entries-repeat : (line : Line) (place k : ℕ) → are_settled line.rules ≡ true → 300 ≤ place
    → IsSeam line.info.offset line.rules place
    → later_entries line (place + 400) k ≡ map entry_on (later_entries line place k)
later_entries-repeat line place k settled late seam =
    ap (map (entry_of line)) (ap (λ (f : Fired). f.0)
    (ap (λ s. firings_from (place + 400) line.info.offset line.rules s k) seam
    ∙ firings_from-repeats place k line.info.offset (first_fired line place).1 line.rules settled late))
    ∙ entries_on line (later_fired line place k)

-- the last two of these entries are those of the others, a cycle later
pub record AreEnds (there here : List Entry) : Type 0 where
  pub latest : Entry
  pub second : Entry
  pub before : List Entry
  pub between : List Entry
  pub here_is : here ≡ latest ∷ second ∷ before
  pub there_is : there ≡ entry_on latest ∷ entry_on second ∷ between

-- what stands at both ends of a cycle: the same saving, and the last two entries that are kept
pub record IsCycle (lines : List Line) (last : Line) (place : ℕ) : Type 0 where
  pub here : AddsBehind lines last place
  pub there : AddsBehind lines last (place + 400)
  pub seam : IsSeam last.info.offset last.rules place
  pub ends : AreEnds (kept_of [] (sorted_entries_over (place + 400) (lines ++ (last ∷ [])))) (kept_of [] (sorted_entries_over place (lines ++ (last ∷ []))))
  pub open ends use *

-- what a set with these entries has in force
abbrev pub span_in : FixedTimespan → List Entry → ℤ → FixedTimespan
span_in first entries t = span_at (record { first = first; rest = collapsed first entries }) t

pub span_in-is : (first : FixedTimespan) (entries : List Entry) (t : ℤ)
    → span_in first entries t ≡ span_by first (reverse (kept_of [] entries)) t
unfolding collapsed
span_in-is first entries t = span_by-without_first first (reverse (kept_of [] entries)) t

reverse-on : (es : List Entry) → reverse (map entry_on es) ≡ map entry_on (reverse es)
reverse-on [] = refl
reverse-on (e ∷ es) =
    reverse-append (entry_on e ∷ []) (map entry_on es) ∙ ap (λ l. l ++ (entry_on e ∷ [])) (reverse-on es)
    ∙ sym (map-append entry_on (reverse es) (e ∷ [])) ∙ ap (map entry_on) (sym (reverse-append (e ∷ []) es))

-- what is kept of a cycle's entries, from the two that stand at its beginning on
abbrev pub kept_in : (lines : List Line) (last : Line) (place : ℕ) → ℕ → IsCycle lines last place → List Entry
kept_in lines last place k cycle = kept_of (cycle.latest ∷ cycle.second ∷ []) (later_entries last place k)

-- the changes of k years past a cycle, with what they put in force, are those past its beginning, a cycle later
pub changes-repeat : (lines : List Line) (last : Line) (place k : ℕ) (cycle : IsCycle lines last place)
    → (kept_of [] (sorted_entries_over (k + place) (lines ++ (last ∷ []))) ≡ kept_in lines last place k cycle ++ cycle.before)
    × (kept_of [] (sorted_entries_over (k + (place + 400)) (lines ++ (last ∷ []))) ≡ map entry_on (kept_in lines last place k cycle) ++ cycle.between)
changes-repeat lines last place k cycle =
    let zone = lines ++ (last ∷ []) in
    let gs = later_entries last place k in
    let a = cycle.latest in
    let b = cycle.second in
    let both = kept-repeats (sorted_entries_over place zone) (sorted_entries_over (place + 400) zone) gs a b cycle.before cycle.between
    cycle.here_is cycle.there_is in (
      ap (kept_of []) (sorted_entries_over-more lines last place k cycle.here) ∙ both.0,
      ap (kept_of []) (sorted_entries_over-more lines last (place + 400) k cycle.there
          ∙ ap (λ l. sorted_entries_over (place + 400) zone ++ l)
          (later_entries-repeat last place k cycle.here.settled cycle.here.late cycle.seam)) ∙ both.1,
    )

-- the law of the cycle: from the second of the two entries on, what is in force is that of a cycle later, over as many more years
pub span-repeats : (lines : List Line) (last : Line) (place k : ℕ) (first other : FixedTimespan) (t : ℤ) (cycle : IsCycle lines last place)
    → has_come t cycle.second ≡ true
    → span_in other (sorted_entries_over (k + (place + 400)) (lines ++ (last ∷ []))) (instant_on t)
    ≡ span_in first (sorted_entries_over (k + place) (lines ++ (last ∷ []))) t
span-repeats lines last place k first other t cycle come =
    let zone = lines ++ (last ∷ []) in
    let gs = later_entries last place k in
    let a = cycle.latest in
    let b = cycle.second in
    let kept = kept_of (a ∷ b ∷ []) gs in
    let here = (changes-repeat lines last place k cycle).0 in
    let there = (changes-repeat lines last place k cycle).1 in
    let moved : kept_of (entry_on a ∷ entry_on b ∷ []) (map entry_on gs) ≡ map entry_on kept = kept_of-on gs (a ∷ b ∷ []) in
    span_in-is other (sorted_entries_over (k + (place + 400)) zone) (instant_on t)
    ∙ ap (λ l. span_by other (reverse l) (instant_on t)) (there ∙ ap (λ l. l ++ cycle.between) (sym moved))
    ∙ span_by-kept (map entry_on gs) (entry_on a) (entry_on b) cycle.between other first (instant_on t)
    (has_come-on t b ∙ come)
    ∙ ap (λ l. span_by first (reverse l) (instant_on t)) moved
    ∙ ap (λ l. span_by first l (instant_on t)) (reverse-on kept)
    ∙ span_by-on (reverse kept) first t
    ∙ sym (span_in-is first (sorted_entries_over (k + place) zone) t
    ∙ ap (λ l. span_by first (reverse l) t) here
    ∙ span_by-kept gs a b cycle.before first first t come)
