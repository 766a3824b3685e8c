-- A compiled set whose offsets are in range can be looked up.
use Rattle.std.{proofs.Common.{◌≡◌, ℕ, zero, suc, ◌<◌, true, false, List, [], ◌∷◌, length, map, ℤ, pos, ◌≤ℤ◌, sym, ap, ◌∙◌, subst, arith}, specs.Prelude.{All, Option, Some, Result, Ok}, specs.List.{list_all}, proofs.lemmas.Bool.{and_parts}}
use Rattle.basics.specs.ComparisonLaws.{le_from_pass, le_itself, le_le}
use Rattle.zone_spans.specs.{Bounds.{is_small, is_bounded_span, is_bounded_entry, is_bounded}, Collapse.{EntryTimesDontFall}, Entries.{Entry}, Schedules.{is_in_offset_range}, declared.fault.SpanFault.{SpanFault}}
use Rattle.zone_spans.specs.declared.span.FixedTimespanSet as spans
use Rattle.tz_lookup.{specs.{declared.set.FixedTimespanSet.{FixedTimespanSet}, Compiles.{spans_of, IsTooFar}, CompileLaws.{totals_same}, Sets.{shift_of, schedule_of, IsAccepted, IsSpanTime}, Spans.{shift_at, TimesDontFall}}, proofs.SetLemmas.{all_shifts}}

-- the first is at or before each
first_least : (e : Entry) (es : List Entry) → EntryTimesDontFall (e ∷ es) → (j : ℕ) → j < length (map shift_of (e ∷ es))
    → e.0 ≤ℤ (shift_at (map shift_of (e ∷ es)) j).0
first_least e es h zero l = le_itself e.0
first_least e [] h (suc j) l = absurd (omega arith)
first_least e (f ∷ fs) h (suc j) l = le_le _ _ _ h.0 (first_least f fs h.1 j (omega arith))

rise_tail : (e : Entry) (es : List Entry) → EntryTimesDontFall (e ∷ es) → EntryTimesDontFall es
rise_tail e [] h = tt
rise_tail e (f ∷ fs) h = h.1

pub times_from_rise : (es : List Entry) → EntryTimesDontFall es → TimesDontFall (map shift_of es)
times_from_rise [] h i j le l = absurd (omega arith)
times_from_rise (e ∷ es) h zero j le l = first_least e es h j l
times_from_rise (e ∷ es) h (suc i) zero le l = absurd (omega arith)
times_from_rise (e ∷ es) h (suc i) (suc j) le l = times_from_rise es (rise_tail e es h) i j (omega arith) (omega arith)

span_time : (z : ℤ) → is_small z ≡ true → IsSpanTime z
span_time z h = let both = and_parts _ _ h in (le_from_pass _ _ both.0, le_from_pass _ _ both.1)

pub times_bounded : (es : List Entry) → list_all is_bounded_entry es ≡ true → All (λ (e : Entry). IsSpanTime e.0) es
times_bounded [] h k d l = absurd (omega arith)
times_bounded (e ∷ es) h zero d l = span_time e.0 (and_parts (is_small e.0) _ (and_parts (is_bounded_entry e) _ h).0).0
times_bounded (e ∷ es) h (suc k) d l = times_bounded es (and_parts (is_bounded_entry e) _ h).1 k d (omega arith)

accepted : (set : FixedTimespanSet) → is_bounded (spans_of set) ≡ true → EntryTimesDontFall set.others
    → is_in_offset_range (schedule_of set) ≡ true → IsAccepted (schedule_of set)
accepted set bounded rise range = record {
  range = range;
  times = times_from_rise set.others rise;
  bound =
      (all_shifts (λ s. IsSpanTime s.0) set.others (pos 0, set.first)).1
      (times_bounded set.others (and_parts (is_bounded_span set.first) _ bounded).1);
}

-- of a set with these spans
pub accepted_spans : (set : FixedTimespanSet) (compiled : spans.FixedTimespanSet) → set.first ≡ compiled.first
    → set.others ≡ compiled.rest
    → is_bounded compiled ≡ true → EntryTimesDontFall compiled.rest → is_in_offset_range (schedule_of set) ≡ true → IsAccepted (schedule_of set)
accepted_spans set compiled first others bounded rise range =
    accepted set (ap is_bounded (same set compiled first others) ∙ bounded) (subst EntryTimesDontFall (sym others) rise) range
  where
    same : (set : FixedTimespanSet) (compiled : spans.FixedTimespanSet) → set.first ≡ compiled.first → set.others ≡ compiled.rest
        → spans_of set ≡ compiled
    same set compiled first others = λ i. record { first = first i; rest = others i }

pub far_spans : (set : FixedTimespanSet) (compiled : spans.FixedTimespanSet) (found : Option (Result spans.FixedTimespanSet SpanFault))
    → set.first ≡ compiled.first → set.others ≡ compiled.rest → found ≡ Some (Ok compiled) → is_in_offset_range (schedule_of set) ≡ false
    → IsTooFar found
far_spans set compiled found first others is far = record {
  set = compiled;
  is_found = is;
  far = ap is_in_offset_range (totals_same set compiled first others) ∙ far;
}
