-- All that a zone says of an instant, by the span in force.
use Rattle.std.proofs.{Common.{◌≡◌, ◌∙◌, ◌≤◌, ℕ, Bool, true, false, cond, List, [], ◌∷◌, length, filter, ℤ, pos, neg_ℤ, ◌-ℤ◌, ◌*ℤ◌, ◌≤ℤ◌, ◌<ℤ◌, int_le, int_lt, refl, sym, ap, subst, arith}, lemmas.Int.{ints}, lemmas.List.{length-map}}
use Rattle.std.specs.Prelude.{IfSome, Option, Some, None}
use Rattle.basics.specs.{ComparisonLaws.{le_le, lt_le}}
use Rattle.civil_base.specs.{DateTimes.{instant, local_of, offset_of}, Instants.{local_at, seconds_of}, Layout.{day_part, time_part}, RangeLaws.{offset_greatest, offset_least, years_begin, years_end}, Ranges.{is_in_years, IsInYears, IsOffset}}
use Rattle.civil_base.specs.declared.offset_date_time.OffsetDateTime.{OffsetDateTime}
use Rattle.zone_spans.specs.{Entries.{Entry}, declared.span.FixedTimespan.{FixedTimespan}, Schedules.{total_at}}
use Rattle.tz_ever.specs.{InForce.{span_at, span_by}, Recurrences.{ZoneGives, zone_span, zone_total}, Seam.{seam}, Unrolled.{IsTold, told, unrolled_end}}
use Rattle.tz_ever.specs.declared.{recurrence.Recurrence.{Recurrence}, recurrence.Recurrence.TheVariants.{Never, Later, Always}}
use Rattle.tz_lookup.specs.{Compiles.{spans_of}, InForce.{in_force, shown_of}, SecondLaws.{IsSecond, second_is, total_is}, Sets.{schedule_of, shift_of, shifts_of, span_in, total_of_span}, SpanLaws.{total_from_cut}, Spans.{IsCut}, declared.set.FixedTimespanSet.{FixedTimespanSet}}
use Rattle.sefunjaro.specs.{Answers.{end_second, first_told, saving_told, IsAnswered, IsSavingTold}, AnswerSteps.{IsAround, IsOfSpan, IsToldBySpan}, Changes.{last_span, saving_at}, Clocks.{clock_at}, Replies.{span_on}, declared.answer.Answer.{Answer}, declared.zone.Origin.{Origin}}
use Rattle.sefunjaro.specs.declared.answer.Around.{Around}
use Rattle.sefunjaro.proofs.ChangeLemmas.{on_is, saving_is}

-- each instant with a local date lies before the end
pub early_second : (t o s : ℤ) → IsInYears (local_at t o) → IsOffset o → s ≡ seconds_of t → s <ℤ end_second
early_second t o s years range e =
    let low = (second_is t).low in omega (arith, ints, years_end (local_at t o) years, offset_least o range, low, e)

pub late_second : (t o s : ℤ) → IsInYears (local_at t o) → IsOffset o → s ≡ seconds_of t → neg_ℤ (pos 387140688000) ≤ℤ s
late_second t o s years range e =
    let high = (second_is t).high in omega (arith, ints, years_begin (local_at t o) years, offset_greatest o range, high, e)

-- the span is one of the set
pub within : (first : ℤ) (set : FixedTimespanSet) (second : ℤ) (around : Around) → IsAround first set second around → around.span ≤ length set.others
within first set second around is =
    omega (arith, (is.throughout second is.begun is.lasts).within, length-map set.others shift_of)

test_same : (a t s : ℤ) → IsSecond t s → int_le (a *ℤ pos 1000000000) t ≡ int_le a s
test_same a t s h = grind (arith, ints, h.low, h.high)

came_by : (t : ℤ) (first : FixedTimespan) (e : Entry) (es come : List Entry) (b : Bool) → span_by e.1 es t ≡ last_span e.1 come → span_by first es t ≡ last_span first come
    → span_by (cond b e.1 first) es t ≡ last_span first (cond b (e ∷ come) come)
came_by t first e es come true one other = one
came_by t first e es come false one other = other

-- what has come at an instant has come at its second
came : (t : ℤ) (first : FixedTimespan) (entries : List Entry)
    → span_by first entries t ≡ last_span first (filter (λ entry. int_le entry.0 (seconds_of t)) entries)
unfolding span_by
came t first [] = refl
came t first (e ∷ es) =
    ap (λ b. span_by (cond b e.1 first) es t) (test_same e.0 t (seconds_of t) (second_is t))
    ∙ came_by t first e es (filter (λ entry. int_le entry.0 (seconds_of t)) es) (int_le e.0 (seconds_of t)) (came t e.1 es) (came t first es)

-- what is in force at an instant is the span at the cut
pub span_at_is : (set : FixedTimespanSet) (t : ℤ) (k : ℕ) → IsCut (shifts_of set) k (seconds_of t) → span_at (spans_of set) t ≡ span_in set k
unfolding span_on
span_at_is set t k cut = came t set.first set.others ∙ on_is set (seconds_of t) k cut

-- an instant at the offset in force
pub local_is : (total : ℤ → ℤ) (t : ℤ) (value : OffsetDateTime) → shown_of value ≡ in_force total t → local_of value ≡ local_at t (total t)
unfolding shown_of instant
local_is total t value shown = omega (arith, ints, ap (λ p. p.0) shown, ap (λ p. p.1) shown)

local_by : (value : OffsetDateTime) (t o : ℤ) → instant value ≡ t → offset_of value ≡ o → local_of value ≡ local_at t o
unfolding instant
local_by value t o at offset = omega (arith, ints, at, offset)

-- From the first of them up to the end the spans that are told of a zone show what the zone does.
pub record ShowsListed (recurrence : Recurrence) (set : FixedTimespanSet) : Type 0 where
  pub total : (t : ℤ) → first_told recurrence ≤ℤ seconds_of t → seconds_of t <ℤ end_second → total_at (schedule_of (told recurrence set)) t ≡ zone_total recurrence set t
  pub gives : (t : ℤ) (k : ℕ) (name : List ℕ) (saving : Bool) → first_told recurrence ≤ℤ seconds_of t → seconds_of t <ℤ end_second → IsCut (shifts_of (told recurrence set)) k (seconds_of t)
      → name ≡ (span_in (told recurrence set) k).name → saving ≡ int_lt (pos 0) (span_in (told recurrence set) k).dst_offset
      → ZoneGives recurrence set t name saving

abbrev pub ToldLaw : Recurrence → FixedTimespanSet → Type 0
ToldLaw recurrence set = (t : ℤ) → IsTold recurrence t
    → (span_at (spans_of (told recurrence set)) t ≡ zone_span recurrence set t) × (total_at (schedule_of (told recurrence set)) t ≡ zone_total recurrence set t)

before_end : (t : ℤ) → seconds_of t <ℤ end_second → t <ℤ unrolled_end
before_end t early = let high = (second_is t).high in omega (arith, ints, early, high)

from_first : (t : ℤ) → neg_ℤ (pos 387140688000) ≤ℤ seconds_of t → (seam -ℤ pos 391306204800000000000) ≤ℤ t
from_first t late = let low = (second_is t).low in omega (arith, ints, late, low)

is_told : (recurrence : Recurrence) (t : ℤ) → first_told recurrence ≤ℤ seconds_of t → seconds_of t <ℤ end_second → IsTold recurrence t
is_told Never t late early = tt
is_told Later t late early = before_end t early
is_told Always t late early = (from_first t late, before_end t early)

shows_listed : (recurrence : Recurrence) (set : FixedTimespanSet) → ToldLaw recurrence set → ShowsListed recurrence set
shows_listed recurrence set law = record {
  total = λ t late early. (law t (is_told recurrence t late early)).1;
  gives = λ t k name saving late early cut named saves.
      let span = sym (span_at_is (told recurrence set) t k cut) ∙ (law t (is_told recurrence t late early)).0 in record {
        named = named ∙ ap (λ (s : FixedTimespan). s.name) span;
        saves = saves ∙ ap (λ (s : FixedTimespan). int_lt (pos 0) s.dst_offset) span;
      };
}

-- the total at an instant at which a span is in force
pub total_is_of : (set : FixedTimespanSet) (t : ℤ) (k : ℕ) → IsCut (shifts_of set) k (seconds_of t) → total_at (schedule_of set) t ≡ total_of_span set k
total_is_of set t k cut = total_is (schedule_of set) t ∙ total_from_cut (schedule_of set).first (schedule_of set).shifts k (seconds_of t) cut

-- the answer of a span is that of the zone
pub answered : (origin : Origin) (recurrence : Recurrence) (set : FixedTimespanSet) (t : ℤ) (old new : List ℕ) (result : Option Answer) → ToldLaw recurrence set
    → IsToldBySpan origin (first_told recurrence) (told recurrence set) t old new result
    → IsAnswered (zone_total recurrence set) (ZoneGives recurrence set) t old new result
answered origin recurrence set t old new None law spanned =
    let is = spanned.0.is_around in
    let cut = is.throughout (seconds_of t) is.begun is.lasts in
    let early = lt_le (seconds_of t) _ _ is.lasts is.early in
    let late = le_le (first_told recurrence) _ (seconds_of t) is.late is.begun in
    let total = sym ((shows_listed recurrence set law).total t late early) ∙ total_is_of (told recurrence set) t spanned.0.around.span cut in
    (ap (λ o. is_in_years (local_at t o)) total ∙ spanned.0.years, spanned.1)
answered origin recurrence set t old new (Some answer) law spanned =
    let shows = shows_listed recurrence set law in
    let is = spanned.is_around in let made = spanned.made in let around = spanned.around in let listed = told recurrence set in
    let cut : (u : ℤ) → around.from ≤ℤ u → u <ℤ around.until → IsCut (shifts_of listed) around.span u = is.throughout in
    let late : (u : ℤ) → around.from ≤ℤ u → first_told recurrence ≤ℤ u = (λ u l. le_le (first_told recurrence) around.from u is.late l) in
    let early : (u : ℤ) → u <ℤ around.until → u <ℤ end_second = (λ u l. lt_le u around.until end_second l is.early) in
    let totals : (u : ℤ) → around.from ≤ℤ seconds_of u → seconds_of u <ℤ around.until → zone_total recurrence set u ≡ total_of_span listed around.span =
    (λ u low high. sym (shows.total u (late (seconds_of u) low) (early (seconds_of u) high)) ∙ total_is_of listed u around.span (cut (seconds_of u) low high)) in
    let total = totals t is.begun is.lasts in
    let low_is : (u : ℤ) → answer.from ≤ℤ u → around.from ≤ℤ u = (λ u l. subst (λ s. s ≤ℤ u) made.from l) in
    let high_is : (u : ℤ) → u <ℤ answer.until → u <ℤ around.until = (λ u l. subst (λ s. u <ℤ s) made.until l) in
    record {
      years = ap (λ o. is_in_years (local_at t o)) total ∙ spanned.years;
      offset = made.offset ∙ spanned.offset ∙ sym total;
      clock = made.clock ∙ ap (λ x. clock_at (day_part x) (time_part x)) (local_by spanned.shown t (zone_total recurrence set t) spanned.instant (spanned.offset ∙ sym total));
      name = (span_in listed around.span).name;
      length = made.length;
      room = made.room;
      begun = subst (λ s. s ≤ℤ seconds_of t) (sym made.from) is.begun;
      lasts = subst (λ s. seconds_of t <ℤ s) (sym made.until) is.lasts;
      throughout = λ u low high. (
        totals u (low_is (seconds_of u) low) (high_is (seconds_of u) high) ∙ sym total,
        shows.gives u around.span (span_in listed around.span).name answer.is_saving (late (seconds_of u) (low_is (seconds_of u) low))
            (early (seconds_of u) (high_is (seconds_of u) high)) (cut (seconds_of u) (low_is (seconds_of u) low) (high_is (seconds_of u) high)) refl made.is_saving,
      );
    }

-- and so is its saving
pub saved : (origin : Origin) (first : ℤ) (set : FixedTimespanSet) (t : ℤ) (old new : List ℕ) (result : Option Answer)
    → IsToldBySpan origin first set t old new result → IfSome result (IsSavingTold origin set)
saved origin first set t old new None told = tt
saved origin first set t old new (Some answer) told =
    let made = told.made in record {
      is_kept = made.is_kept;
      throughout = λ u low high. made.saving ∙ ap (saving_told origin) (sym (saving_is set u told.around.span
          (told.is_around.throughout u (subst (λ s. s ≤ℤ u) made.from low) (subst (λ s. u <ℤ s) made.until high))));
    }
