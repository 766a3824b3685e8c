-- What is seen of zones of a few lines, as `zic` and Python's `zoneinfo` have them, and what is given of a zone as a whole.
use Rattle.std.{proofs.Common.{◌≡◌, refl, map, inl, inr, ℕ, ℤ, pos, true, false, List, [], ◌∷◌, ◌++◌, Option, Some, None}, specs.Prelude.{Result, Ok, Err, codes}, specs.FinMap.{contains_key, get}}
use Rattle.basics.specs.Days.{days_after_zero, year_start, days_through, days_into_year, day, is_leap, days_in_year, days_in_month}
use Rattle.civil_base.specs.Instants.{seconds_of}
use Rattle.sefunjaro.specs.{Changes.{settled_changes, span_before, window}, Replies.{span_on}}
use Rattle.tz_ever.specs.{Ever.{ever_total}, Seam.{brought_back, cycles_past}, Unrolled.{again, entries_before, entries_from, unrolled_entries}}
use Rattle.tz_lookup.specs.declared.set.FixedTimespanSet.{FixedTimespanSet}
use Rattle.zone_command.specs.{Answers.{Answer}, Views.{entries_of, entry_of, ever_found, found_in, unknown_words, view_by, view_in, view_of}, Wholes.{IsStringOf, IsTreeOf, IsWhole, why_words}}
use Rattle.zone_texts.specs.{Edits.{is_one_edit}, Near.{near_names}, Unknown.{unknown_text}, Views.{InForce, ZoneView}}
use Rattle.zone_spans.specs.{Collapse.{collapsed, kept_of, kept_with, without_first}, Compiled.{compiled_over, set_of_lines_over}, Entries.{entries_from_over, entries_of_over, first_span, next_start_over, sorted_entries_over}}
use Rattle.zone_spans.specs.{Faults.{leaves_year_over, schedule_fault_over}, Firings.{line_firings_over, years_over}, GoesOn.{front_of, goes_on, last_goes_on, last_of}, Lines.{Rulesets, zone_lines}, Schedules.{instants, total_at, totals_of}}
use Rattle.zone_spans.specs.{Windows.{line_end}, declared.fault.SpanFault.TheVariants.{MissingUntil}, declared.span.FixedTimespan.{FixedTimespan}}
use Rattle.zone_spans.specs.declared.span.FixedTimespanSet as spans
use Rattle.zone_words.specs.ToldWords.{told_word}
use Rattle.zone_table.specs.{Formats.{abbreviation}, Moments.{instant_of}, declared.table.Table.{Table}, declared.zone.Format.TheVariants.{Constant}, declared.zone.Saving.{Saving}, declared.zone.Saving.TheVariants.{NoSaving, OneOff}, declared.zone.ZoneInfo.{ZoneInfo}, Days.{is_in_year, named_day}, declared.change.ChangeTime.{ChangeTime}, declared.change.ChangeTime.TheVariants.{UntilTime, UntilYear}, declared.day.DaySpec.TheVariants.{Ordinal}, declared.month.Month.TheVariants.{January}, declared.{time.TimeSpec.TheVariants.{Zero}, time.TimeType.TheVariants.{Standard}, year.Year.TheVariants.{Number}}}
use Rattle.zone_tree.specs.{Names.{finds_in_table}, Trees.{tree_by}, declared.refusal.Why.{Why}}

-- no ruleset
abbrev none : Rulesets
none name = None

abbrev line : ℤ → Saving → List ℕ → Option ChangeTime → ZoneInfo
line offset saving name end = record { offset = offset; saving = saving; format = Constant name; end_time = end }

abbrev span : ℤ → ℤ → List ℕ → FixedTimespan
span standard saving name = record { utc_offset = standard; dst_offset = saving; name = name }

abbrev force : ℤ → ℤ → List ℕ → InForce
force offset saving name = record { offset = offset; saving = saving; name = name }

-- what is seen just before 2000-01-01 00:00 at an hour east, and from it on: the totals, what is in force, the changes of a window from
-- it on, and of one before it; and the last year
abbrev Shown : Type 0
Shown = List ℤ × List InForce × List (List ℤ) × ℤ

abbrev shown : ZoneView → Shown
shown view = (
  map view.total (pos 946681199999999999 ∷ pos 946681200000000000 ∷ []),
  map view.force (pos 946681199 ∷ pos 946681200 ∷ []),
  view.changes (pos 946681200) (pos 946681201) ∷ view.changes (pos 0) (pos 946681200) ∷ [],
  view.last_year,
)

abbrev seen : Result ZoneView (List ℕ) → Result Shown (List ℕ)
seen (Ok view) = Ok (shown view)
seen (Err why) = Err why

-- ---- of sets
abbrev first_set : FixedTimespanSet
first_set = record { name = []; first = span (pos 3600) (pos 3600) (codes "A"); others = (pos 946681200, span (pos 0) (pos 0) (codes "B")) ∷ [] }

abbrev other_set : FixedTimespanSet
other_set = record { name = []; first = span (pos 60) (pos 0) (codes "C"); others = [] }

-- by a set alone to 2099, and else by what goes on, in each year
of_one : shown (view_of first_set None) ≡ (
  pos 7200 ∷ pos 0 ∷ [],
  force (pos 7200) (pos 3600) (codes "A") ∷ force (pos 0) (pos 0) (codes "B") ∷ [],
  (pos 946681200 ∷ []) ∷ [] ∷ [],
  pos 2099,
)
unfolding total_at seconds_of settled_changes span_before window span_on
of_one = refl

of_both : shown (view_of first_set (Some other_set)) ≡ (
  pos 60 ∷ pos 60 ∷ [],
  force (pos 60) (pos 0) (codes "C") ∷ force (pos 60) (pos 0) (codes "C") ∷ [],
  [] ∷ [] ∷ [],
  pos 9999,
)
unfolding total_at ever_total brought_back cycles_past seconds_of settled_changes span_before window span_on again entries_before entries_from unrolled_entries
of_both = refl

-- the instants of a local time are those at which the total says it
reads : (set : FixedTimespanSet) (ever : Option FixedTimespanSet) → (view_of set ever).readings ≡ instants (view_of set ever).total
reads set ever = refl

-- ---- of lines
-- `Zone Test/Mark 1:00 1:00 A 2000 Jan 1 0:00s`, ` 0:00 - B`
abbrev mark : List ZoneInfo
mark =
    line (pos 3600) (OneOff (pos 3600)) (codes "A") (Some (UntilTime (Number (pos 2000)) January (Ordinal (pos 1)) (record { 0 = Zero; 1 = Standard })))
    ∷ line (pos 0) NoSaving (codes "B") None ∷ []

-- `Zone Test/Late 1:00 1:00 A 2150`, ` 0:00 - B`: a line that ends after 2099 is told to then
abbrev late : List ZoneInfo
late = line (pos 3600) (OneOff (pos 3600)) (codes "A") (Some (UntilYear (Number (pos 2150)))) ∷ line (pos 0) NoSaving (codes "B") None ∷ []

goes_and_ends : (seen (view_in (codes "u") none (codes "Test/Mark") (Some mark))
    ≡ Ok (pos 7200 ∷ pos 0 ∷ [], force (pos 7200) (pos 3600) (codes "A") ∷ force (pos 0) (pos 0) (codes "B") ∷ [], (pos 946681200 ∷ []) ∷ [] ∷ [], pos 9999))
    × (seen (view_in (codes "u") none (codes "Test/Late") (Some late))
    ≡ Ok (pos 7200 ∷ pos 7200 ∷ [], force (pos 7200) (pos 3600) (codes "A") ∷ force (pos 7200) (pos 3600) (codes "A") ∷ [], [] ∷ [] ∷ [], pos 2099))
unfolding compiled_over schedule_fault_over leaves_year_over zone_lines set_of_lines_over first_span sorted_entries_over entries_from_over entries_of_over
    next_start_over line_firings_over years_over abbreviation line_end is_in_year instant_of named_day is_leap days_in_year days_in_month days_after_zero
    year_start days_through days_into_year day collapsed kept_of kept_with without_first totals_of goes_on front_of last_of last_goes_on total_at ever_total
    brought_back cycles_past seconds_of settled_changes span_before window span_on again entries_before entries_from unrolled_entries
goes_and_ends = (refl, refl)

-- no zone, no schedule, and an offset of 26 hours or a second less
abbrev far : ℤ → spans.FixedTimespanSet
far offset = record { first = span offset (pos 0) (codes "F"); rest = [] }

unseen : seen (view_in (codes "u") none (codes "a") None) ∷ seen (view_by none (codes "a") mark (Err MissingUntil))
    ∷ seen (view_by none (codes "a") [] (Ok (far (pos 93600)))) ∷ []
    ≡ Err (codes "u") ∷ Err (codes "a line of this zone has no end, and another follows") ∷ Err (codes "this zone has an offset of 26 hours or more") ∷ []
unfolding totals_of
unseen = refl

nearly : seen (view_by none (codes "a") [] (Ok (far (pos 93599)))) ≡ Ok (
  pos 93599 ∷ pos 93599 ∷ [],
  force (pos 93599) (pos 0) (codes "F") ∷ force (pos 93599) (pos 0) (codes "F") ∷ [],
  [] ∷ [] ∷ [],
  pos 2099,
)
unfolding totals_of zone_lines goes_on front_of last_of total_at seconds_of settled_changes span_before window span_on
nearly = refl

-- ---- of a table
module _ (table : Table) (name existing : List ℕ) where
  -- a link has the name that it leads to, and a zone of that name comes before it
  link : contains_key table.zonesets name ≡ false → get table.links name ≡ Some existing → entry_of table name ≡ record { name = name; zone = Some existing }
  link no_zone leads = rw (no_zone, leads) refl

  zone : contains_key table.zonesets name ≡ true → entry_of table name ≡ record { name = name; zone = None }
  zone is = rw is refl

-- names that are near, or none
module _ (table : Table) (is : entries_of table ≡ record { name = codes "Test/Berlin"; zone = None } ∷ record { name = codes "Test/Oslo"; zone = Some (codes "Test/Berlin") } ∷ []) where
  near : unknown_words table (codes "test/berln") ∷ unknown_words table (codes "OSLO") ∷ unknown_words table (codes "Rome") ∷ []
      ≡ codes "no zone has this name; did you mean Test/Berlin?" ∷ codes "no zone has this name; did you mean Test/Oslo?" ∷ codes "no zone has this name" ∷ []
  unfolding unknown_words unknown_text near_names is_one_edit
  near = rw is refl

-- ---- as a whole
module _ (table : Table) (name : List ℕ) (Says : FixedTimespanSet → Answer → Type 0) where
  -- a zone that ends has no file and no string, in these words
  ending : (view : ZoneView) → found_in table name ≡ Ok view → ever_found table name ≡ None
      → IsWhole Says table name (Err (codes "the rules of this zone end, or aren't found to come again, so it isn't told for ever"))
  ending view found ends = inr (inl (record { view = view; found = found; ends = ends; is = refl }))

  unfound : (why : List ℕ) → found_in table name ≡ Err why → IsWhole Says table name (Err why)
  unfound why found = inl (record { why = why; found = found; is = refl })

  -- bytes are given of what goes on alone
  given : (bytes : List ℕ) → IsWhole Says table name (Ok bytes) → (set : FixedTimespanSet) × (ever_found table name ≡ Some set) × Says set (Ok bytes)
  given bytes whole = elim whole [
    | inl unfound ↦ absurd (no_bytes unfound.is)
    | inr other ↦ elim other [
      | inl ending ↦ absurd (no_bytes ending.is)
      | inr ever ↦ (ever.set, ever.goes_on, ever.says)
    ]
  ]
    where
      no_bytes : {why : List ℕ} → (let x : Answer = Ok bytes in let y : Answer = Err why in x ≡ y) → ⊥
      no_bytes e = cc

-- a tree is refused for a name, with its words
tree_refused : (release : Option (List ℕ)) (table : Table) (words : List ℕ) → IsTreeOf release table false (Err words)
    → (name : List ℕ) × (why : Why) × (words ≡ ((34 ∷ told_word name) ++ 34 ∷ codes ": ") ++ why_words why)
tree_refused release table words is = (is.0, is.1, is.3)

-- to 2099 it is the archive of what the table finds
tree_to_2099 : (release : Option (List ℕ)) (table : Table) (bytes : List ℕ) → IsTreeOf release table true (Ok bytes)
    → tree_by release (finds_in_table table) ≡ Ok bytes
tree_to_2099 release table bytes is = is

-- a string is a line
string_ends : (set : FixedTimespanSet) (bytes : List ℕ) → IsStringOf set (Ok bytes) → (text : List ℕ) × (bytes ≡ text ++ 10 ∷ [])
string_ends set bytes is = (is.text, is.line)
