-- The entries of a set by their numbers.
use Rattle.std.proofs.{Common.{◌≡◌, ℕ, zero, suc, ◌+◌, ◌==◌, ◌<◌, ◌≤◌, List, [], ◌∷◌, length, Some, None, Bool, true, false, cond, ℤ, pos, ◌≤ℤ◌, ◌<ℤ◌, refl, sym, ap, ◌∙◌, subst, arith}, lemmas.Bool.Decides.{nat_tests}, lemmas.List.{get_or-map}}
use Rattle.std.specs.Prelude.{◌&&◌}
use Rattle.basics.specs.ComparisonLaws.{le_fail, le_pass}
use Rattle.zone_spans.specs.{Entries.{Entry, total}, declared.span.FixedTimespan.{FixedTimespan}}
use Rattle.tz_lookup.specs.{Sets.{shift_of, shifts_of, span_in, total_of_span}, Spans.{Shift, shift_at}, declared.set.FixedTimespanSet.{FixedTimespanSet}}
use Rattle.zone_tail.specs.{LastYear.{Form, steady, yearly, other}, Shapes.{entry_in}, Tails.{can_be_written, is_posix_name}}
use Rattle.zone_tzif.specs.{Agreement.{cycle_begin}, Tails.{IsFaultForEver, IsNotSaved}, Tried.{ever_fault, ever_form, first_from, form_fault, form_of_two, named_or, next_year, written_or}, declared.outcome.EverTailFault.{EverTailFault}}
use Rattle.zone_tzif.specs.declared.outcome.EverTailFault.TheVariants.{Saving, Shape, OffsetRange, Name, NoRule, NoMemory}

some_is : {X : Type 0} (a b : X) → Some a ≡ Some b → a ≡ b
some_is a b e = cc

-- the first k shifts come before a second, and the next one doesn't
pub first_from-is : (shifts : List Shift) (second : ℤ) (k : ℕ) → k ≤ length shifts → ((j : ℕ) → j < k → (shift_at shifts j).0 <ℤ second)
    → (k < length shifts → second ≤ℤ (shift_at shifts k).0) → first_from shifts second ≡ k
unfolding first_from
first_from-is [] second zero within before after = refl
first_from-is [] second (suc k) within before after = absurd (omega arith)
first_from-is (s ∷ ss) second zero within before after =
    ap (λ b. cond b 0 (suc (first_from ss second))) (le_pass second s.0 (after (omega arith)))
first_from-is (s ∷ ss) second (suc k) within before after =
    ap (λ b. cond b 0 (suc (first_from ss second))) (le_fail second s.0 (before 0 (omega arith)))
    ∙ ap suc (first_from-is ss second k (omega arith) (λ j l. before (suc j) (omega arith)) (λ l. after (omega arith)))

-- two entries of the year
pub two_entries : (set : FixedTimespanSet) → first_from (shifts_of set) next_year ≡ first_from (shifts_of set) cycle_begin + 2
    → ever_form set ≡ form_of_two (entry_in set (first_from (shifts_of set) cycle_begin)) (entry_in set (suc (first_from (shifts_of set) cycle_begin)))
unfolding ever_form
two_entries set two = by_numbers (first_from (shifts_of set) cycle_begin) (first_from (shifts_of set) next_year) two
  where
    by_numbers : (k n : ℕ) → n ≡ k + 2
        → cond (n == k) (steady (span_in set k)) (cond (n == k + 2) (form_of_two (entry_in set k) (entry_in set (suc k))) other)
        ≡ form_of_two (entry_in set k) (entry_in set (suc k))
    by_numbers k n e =
        let more : (n == k) ≡ false = grind (arith, nat_tests) in
        let same : (n == k + 2) ≡ true = grind (arith, nat_tests) in
        rw (more, same) refl

pub entry_shift : (set : FixedTimespanSet) (i : ℕ) → i < length set.others → shift_at (shifts_of set) i ≡ shift_of (entry_in set i)
entry_shift set i l = get_or-map shift_of set.others i (pos 0, set.first) (pos 0, pos 0) l

pub total_of_span-is : (set : FixedTimespanSet) (k : ℕ) → k ≤ length set.others → total_of_span set k ≡ total (span_in set k)
total_of_span-is set zero l = refl
total_of_span-is set (suc i) l = ap (λ (s : Shift). s.1) (entry_shift set i (omega arith))

-- ---- what is known where there is no fault
pub written_from : (written named : Bool) → written_or written named ≡ None → written ≡ true
written_from true named h = refl
written_from false named h = absurd cc

pub steady_written : (set : FixedTimespanSet) (span : FixedTimespan) → ever_form set ≡ steady span → ever_fault set ≡ None
    → can_be_written (total span) ≡ true
unfolding form_fault
steady_written set span is none = written_from (can_be_written (total span)) (is_posix_name span.name) (ap form_fault (sym is) ∙ none)

pub yearly_written : (set : FixedTimespanSet) (start end : Entry) → ever_form set ≡ yearly start end → ever_fault set ≡ None
    → can_be_written (total end.1) && can_be_written (total start.1) ≡ true
unfolding form_fault
yearly_written set start end is none =
    written_from (can_be_written (total end.1) && can_be_written (total start.1)) (is_posix_name end.1.name && is_posix_name start.1.name)
    (ap form_fault (sym is) ∙ none)

pub other_fails : (set : FixedTimespanSet) → ever_form set ≡ other → ever_fault set ≡ None → ⊥
unfolding form_fault
other_fails set is none = let e = ap form_fault (sym is) ∙ none in absurd cc

-- ---- a cause is the cause of a fault
abbrev IsCause : EverTailFault → Type 0
IsCause Shape = Unit {0}
IsCause OffsetRange = Unit {0}
IsCause Name = Unit {0}
IsCause Saving = ⊥
IsCause NoRule = ⊥
IsCause NoMemory = ⊥

named_cause : (named : Bool) (f : EverTailFault) → named_or named ≡ Some f → IsCause f
named_cause true f h = absurd cc
named_cause false f h = subst IsCause (some_is Name f h) tt

cause_of_two : (written named : Bool) (f : EverTailFault) → written_or written named ≡ Some f → IsCause f
cause_of_two true named f h = named_cause named f h
cause_of_two false named f h = subst IsCause (some_is OffsetRange f h) tt

cause_of : (form : Form) (f : EverTailFault) → form_fault form ≡ Some f → IsCause f
unfolding form_fault
cause_of (steady span) f h = cause_of_two (can_be_written (total span)) (is_posix_name span.name) f h
cause_of (yearly start end) f h =
    cause_of_two (can_be_written (total end.1) && can_be_written (total start.1)) (is_posix_name end.1.name && is_posix_name start.1.name) f h
cause_of other f h = subst IsCause (some_is Shape f h) tt

by_cause : (set : FixedTimespanSet) (f : EverTailFault) → IsNotSaved set → ever_fault set ≡ Some f → IsCause f → IsFaultForEver set f
by_cause set Saving unsaved h cause = absurd cause
by_cause set Shape unsaved h cause = (unsaved, h)
by_cause set OffsetRange unsaved h cause = (unsaved, h)
by_cause set Name unsaved h cause = (unsaved, h)
by_cause set NoRule unsaved h cause = absurd cause
by_cause set NoMemory unsaved h cause = absurd cause

pub fault_is : (set : FixedTimespanSet) (f : EverTailFault) → IsNotSaved set → ever_fault set ≡ Some f → IsFaultForEver set f
fault_is set f unsaved h = by_cause set f unsaved h (cause_of (ever_form set) f h)
