-- What a set shows that tells what a file puts in force, and whose cycle comes again where a footer decides.
use Rattle.std.proofs.{Common.{◌≡◌, ℕ, zero, suc, ◌*◌, ◌-◌, ◌<◌, ◌≤◌, Bool, true, false, ◌&&◌, cond, List, [], ◌∷◌, Option, Some, ℤ, pos, neg_ℤ, ◌*ℤ◌, ◌+ℤ◌, ◌-ℤ◌, ◌≤ℤ◌, ◌<ℤ◌, int_le, int_lt, inl, inr, refl, sym, ap, ◌∙◌, subst, arith}, lemmas.Bool.{and_from, and_parts, cases_Bool}, lemmas.Int.{ints}}
use Rattle.basics.specs.{ComparisonLaws.{le_from_pass, le_le, le_pass, lt_from_fail, lt_from_pass}, Days.{day, days_after_zero, days_before_zero, days_in_month, days_in_year, days_into_year, days_through, is_leap, year_start}, SignedLaws.{signed}}
use Rattle.civil_base.specs.{Instants.{seconds_of}, RangeLaws.{offset_greatest, offset_least}, Ranges.{IsOffset}}
use Rattle.zone_spans.specs.{Cycle.{instant_on, seconds_on}, declared.span.FixedTimespan.{FixedTimespan}}
use Rattle.tz_lookup.specs.{Compiles.{spans_of}, SecondLaws.{IsSecond, one_second, second_is}, declared.set.FixedTimespanSet.{FixedTimespanSet}}
use Rattle.tz_ever.specs.{Ever.{IsRepeating}, InForce.{span_at}, Recurrences.{RepeatsAs, brought_on, turned, zone_span}, Seam.{IsAtSeam, brought_back, cycles_past, next_seam, seam}, SeamLaws.{ArePast, back_by, cycles_past-are}, declared.recurrence.Recurrence.{Recurrence}, declared.recurrence.Recurrence.TheVariants.{Never, Later, Always}}
use Rattle.tz_tzif.specs.{FooterForce.{FooterZone, held_at, standard_total}, InForce.{are_over, kind_at, kind_in}, Opened.{span_of}, Walks.{GoesAs, IsByFooter, Tells, begin_of_set, cycle_begin, cycle_end, end_of_set}, Years.{HasDate, IsInYears, end_of_dated, first_dated}}
use Rattle.zone_tzif_core.specs.Zones.{KindValue, ZoneValue}

-- ---- seconds of instants whole cycles later
abbrev instant_later : ℤ → ℕ → ℤ
instant_later t n = t +ℤ pos (n * 12622780800000000000)

abbrev later : ℤ → ℕ → ℤ
later s n = s +ℤ pos (n * 12622780800)

moved : (t s : ℤ) (n : ℕ) → IsSecond t s → IsSecond (instant_later t n) (later s n)
moved t s n is = record { low = omega (arith, ints, is.low); high = omega (arith, ints, is.high) }

seconds_later : (t : ℤ) (n : ℕ) → seconds_of (instant_later t n) ≡ later (seconds_of t) n
seconds_later t n = one_second (instant_later t n) _ _ (second_is (instant_later t n)) (moved t (seconds_of t) n (second_is t))

second_from : (t a : ℤ) → (a *ℤ pos 1000000000) ≤ℤ t → a ≤ℤ seconds_of t
second_from t a h = let is = second_is t in omega (arith, ints, is.high, h)

second_to : (t a : ℤ) → t <ℤ (a *ℤ pos 1000000000) → seconds_of t <ℤ a
second_to t a h = let is = second_is t in omega (arith, ints, is.low, h)

-- ---- the cycles from an instant before the seam
few_back : (t : ℤ) (k : ℕ) → t <ℤ seam → ArePast (t +ℤ pos 391306204800000000000) k → k ≤ 30
few_back t zero before are = omega arith
few_back t (suc k) before are = let begun = are.begun (omega arith) in omega (arith, signed, begun, before)

from_seam : (t : ℤ) (k : ℕ) → HasDate (seconds_of t) → ArePast (t +ℤ pos 391306204800000000000) k → k ≤ 30 → seam ≤ℤ instant_later t (31 - k)
from_seam t zero here are few = let is = second_is t in omega (arith, signed, is.low, here.first)
from_seam t (suc k) here are few = let begun = are.begun (omega arith) in omega (arith, signed, begun, few)

-- ---- a set without a cycle
never : (value : ZoneValue) (says : Option FooterZone) (set : FixedTimespanSet) → Tells (kind_in value says) first_dated end_of_dated set.first set.others
    → (t : ℤ) → HasDate (seconds_of t) → zone_span Never set t ≡ span_of (kind_at value says t)
unfolding zone_span turned kind_at
never value says set tells t here = tells t here.first here.last

-- ---- the years of seconds
first_year : day (neg_ℤ (pos 10000)) 1 1 ≡ neg_ℤ (pos 4371953)
unfolding is_leap days_in_year days_in_month days_after_zero days_before_zero year_start days_through days_into_year day
first_year = refl

last_year : day (pos 9600) 12 31 ≡ pos 2787165
unfolding is_leap days_in_year days_in_month days_after_zero days_before_zero year_start days_through days_into_year day
last_year = refl

in_years : (o s : ℤ) → IsOffset o → HasDate s → HasDate (seconds_on s) → IsInYears (neg_ℤ (pos 10000)) (pos 9600) o s
in_years o s offset here there = record {
  begun = omega (arith, signed, first_year, offset_least o offset, here.first);
  not_over = omega (arith, signed, last_year, offset_greatest o offset, there.last);
}

-- ---- a footer gives the same whole cycles later
abbrev pub Repeats : Type 0
Repeats = (zone : FooterZone) (s : ℤ) → IsInYears (neg_ℤ (pos 10000)) (pos 9600) (standard_total zone) s → held_at zone (seconds_on s) ≡ held_at zone s

module _ (repeats : Repeats) where
  held_later : (zone : FooterZone) → IsOffset (standard_total zone) → (n : ℕ) (s : ℤ) → HasDate s → HasDate (later s n)
      → held_at zone (later s n) ≡ held_at zone s
  held_later zone offset zero s here there = ap (held_at zone) (omega (arith, ints))
  held_later zone offset (suc n) s here there =
      let more : later s (suc n) ≡ seconds_on (later s n) = omega (arith, ints) in
      let between : HasDate (later s n) = record { first = omega (arith, ints, here.first); last = omega (arith, ints, there.last) } in
      let next : HasDate (seconds_on (later s n)) = subst HasDate more there in
      ap (held_at zone) more ∙ repeats zone (later s n) (in_years (standard_total zone) (later s n) offset between next) ∙ held_later zone offset n s here between

  -- ---- a file, where no change comes any more
  over_later : (cs : List (ℤ × KindValue)) (s t : ℤ) → s ≤ℤ t → are_over cs s ≡ true → are_over cs t ≡ true
  over_later [] s t h over = refl
  over_later (c ∷ cs) s t h over =
      let both = and_parts (int_le c.0 s) (are_over cs s) over in
      and_from (int_le c.0 t) (are_over cs t) (le_pass c.0 t (le_le _ _ _ (le_from_pass c.0 s both.0) h)) (over_later cs s t h both.1)

  decided : (value : ZoneValue) (footer : FooterZone) (s : ℤ) → are_over value.rest s ≡ true → kind_in value (Some footer) s ≡ held_at footer s
  unfolding kind_in
  decided value footer s over = rw over refl

  module _ (value : ZoneValue) (says : Option FooterZone) (from : ℤ) (by : IsByFooter value says from) where
    by_footer : (s : ℤ) → from ≤ℤ s → kind_in value says s ≡ held_at by.footer s
    by_footer s h = ap (λ z. kind_in value z s) by.is ∙ decided value by.footer s (over_later value.rest from s h by.over)

    kind_later : (n : ℕ) (s : ℤ) → from ≤ℤ s → HasDate s → HasDate (later s n) → kind_in value says (later s n) ≡ kind_in value says s
    kind_later n s h here there =
        by_footer (later s n) (omega (arith, ints, h)) ∙ held_later by.footer by.range n s here there ∙ sym (by_footer s h)

    module _ (set : FixedTimespanSet) (begin end : ℤ) (tells : Tells (kind_in value says) begin end set.first set.others)
        (early : begin ≤ℤ cycle_begin) (late : cycle_end ≤ℤ end) where
      told : (t : ℤ) → begin ≤ℤ seconds_of t → seconds_of t <ℤ cycle_end → span_at (spans_of set) t ≡ span_of (kind_in value says (seconds_of t))
      told t h k = tells t h (omega (arith, ints, k, late))

      -- the same is shown at the seam and a cycle later
      pub is_repeating : from ≤ℤ cycle_begin → IsRepeating set
      is_repeating low t near =
          let s = seconds_of t in
          let first : cycle_begin ≤ℤ s = second_from t cycle_begin (omega (arith, ints, near.after)) in
          let last : s <ℤ pos 4165689600 = second_to t (pos 4165689600) (omega (arith, ints, near.before)) in
          let one : instant_on t ≡ instant_later t 1 = omega (arith, ints) in
          let on = ap seconds_of one ∙ seconds_later t 1 in
          let here : HasDate s = record { first = omega (arith, ints, first); last = omega (arith, ints, last) } in
          let there : HasDate (later s 1) = record { first = omega (arith, ints, first); last = omega (arith, ints, last) } in
          told (instant_on t) (omega (arith, ints, on, first, early)) (omega (arith, ints, on, last))
          ∙ ap (λ x. span_of (kind_in value says x)) on
          ∙ ap span_of (kind_later 1 s (omega (arith, ints, first, low)) here there)
          ∙ sym (told t (omega (arith, ints, first, early)) (omega (arith, ints, last)))

      -- an instant whole cycles before one of the cycle
      told_before : (t : ℤ) (n : ℕ) → from ≤ℤ seconds_of t → HasDate (seconds_of t) → seam ≤ℤ instant_later t n → instant_later t n <ℤ next_seam
          → span_at (spans_of set) (instant_later t n) ≡ span_of (kind_in value says (seconds_of t))
      told_before t n low here begun over =
          let s = seconds_of t in
          let is = seconds_later t n in
          let first = second_from (instant_later t n) (pos 4165516800) (omega (arith, ints, begun)) in
          let last = second_to (instant_later t n) (pos 16788297600) (omega (arith, ints, over)) in
          told (instant_later t n) (omega (arith, ints, first, early)) (omega (arith, ints, last))
          ∙ ap (λ x. span_of (kind_in value says x)) is
          ∙ ap span_of (kind_later n s low here (record { first = omega (arith, ints, is, first); last = omega (arith, ints, is, last) }))

      -- and whole cycles after one
      told_after : (t u : ℤ) (n : ℕ) → from ≤ℤ cycle_begin → HasDate (seconds_of t) → t ≡ instant_later u n → seam ≤ℤ u → u <ℤ next_seam
          → span_at (spans_of set) u ≡ span_of (kind_in value says (seconds_of t))
      told_after t u n low here is begun over =
          let s = seconds_of u in
          let on = ap seconds_of is ∙ seconds_later u n in
          let first = second_from u (pos 4165516800) (omega (arith, ints, begun)) in
          let last = second_to u (pos 16788297600) (omega (arith, ints, over)) in
          told u (omega (arith, ints, first, early)) (omega (arith, ints, last))
          ∙ ap span_of (sym (kind_later n s (omega (arith, ints, first, low)) (record { first = omega (arith, ints, first); last = omega (arith, ints, last) }) (subst HasDate on here)))
          ∙ ap (λ x. span_of (kind_in value says x)) (sym on)

      -- ---- from the seam on
      past : (t : ℤ) (k : ℕ) → from ≤ℤ cycle_begin → HasDate (seconds_of t) → seam ≤ℤ t → ArePast t k
          → span_at (spans_of set) (t -ℤ pos (k * 12622780800000000000)) ≡ span_of (kind_in value says (seconds_of t))
      past t k low here begun are =
          told_after t (t -ℤ pos (k * 12622780800000000000)) k low here (omega (arith, ints)) (by_count k are) (omega (arith, signed, are.not_over))
        where
          by_count : (k : ℕ) → ArePast t k → seam ≤ℤ (t -ℤ pos (k * 12622780800000000000))
          by_count zero are = omega (arith, ints, begun)
          by_count (suc k) are = let from_on = are.begun (omega arith) in omega (arith, signed, from_on)

      pub shows_later : (t : ℤ) → from ≤ℤ cycle_begin → HasDate (seconds_of t) → begin ≤ℤ seconds_of t
          → zone_span Later set t ≡ span_of (kind_in value says (seconds_of t))
      unfolding zone_span turned
      shows_later t low here within = elim (cases_Bool (int_lt t seam)) [
        | inl before ↦
            let early_on = lt_from_pass t seam before in
            let none : ArePast t 0 = record { begun = λ p. absurd (omega (arith, p)); not_over = omega (arith, signed, early_on) } in
            let same : t -ℤ pos (0 * 12622780800000000000) ≡ t = omega (arith, ints) in
            ap (span_at (spans_of set)) (back_by t 0 none ∙ same)
            ∙ told t within (second_to t cycle_end (omega (arith, ints, early_on)))
        | inr after ↦
            ap (span_at (spans_of set)) (back_by t (cycles_past t) (cycles_past-are t))
            ∙ past t (cycles_past t) low here (lt_from_fail t seam after) (cycles_past-are t)
      ]

      -- before the seam
      brought : (t : ℤ) (k : ℕ) → from ≡ first_dated → HasDate (seconds_of t) → t <ℤ seam → ArePast (t +ℤ pos 391306204800000000000) k
          → span_at (spans_of set) ((t +ℤ pos 391306204800000000000) -ℤ pos (k * 12622780800000000000)) ≡ span_of (kind_in value says (seconds_of t))
      brought t k first here before are =
          let few = few_back t k before are in
          let is : (t +ℤ pos 391306204800000000000) -ℤ pos (k * 12622780800000000000) ≡ instant_later t (31 - k) = omega (arith, signed, few) in
          ap (span_at (spans_of set)) is
          ∙ told_before t (31 - k) (omega (arith, ints, first, here.first)) here (from_seam t k here are few) (omega (arith, signed, few, are.not_over))

      pub shows_always : (t : ℤ) → from ≡ first_dated → HasDate (seconds_of t) → zone_span Always set t ≡ span_of (kind_in value says (seconds_of t))
      unfolding zone_span turned brought_on
      shows_always t first here =
          let u = t +ℤ pos 391306204800000000000 in
          elim (cases_Bool (int_lt t seam)) [
            | inl before ↦ rw before (ap (span_at (spans_of set)) (back_by u (cycles_past u) (cycles_past-are u))
                ∙ brought t (cycles_past u) first here (lt_from_pass t seam before) (cycles_past-are u))
            | inr after ↦ rw after (ap (span_at (spans_of set)) (back_by t (cycles_past t) (cycles_past-are t))
                ∙ past t (cycles_past t) (omega (arith, ints, first)) here (lt_from_fail t seam after) (cycles_past-are t))
          ]

  -- ---- what opens
  pub record Opens (value : ZoneValue) (says : Option FooterZone) (recurrence : Recurrence) (set : FixedTimespanSet) : Type 0 where
    pub again : RepeatsAs recurrence set
    pub shows : (t : ℤ) → HasDate (seconds_of t) → zone_span recurrence set t ≡ span_of (kind_at value says t)

  pub opens : (value : ZoneValue) (says : Option FooterZone) (recurrence : Recurrence) (set : FixedTimespanSet) → GoesAs value says recurrence
      → Tells (kind_in value says) (begin_of_set recurrence) (end_of_set recurrence) set.first set.others → Opens value says recurrence set
  unfolding kind_at
  opens value says Never set goes tells = record { again = λ no. absurd cc; shows = never value says set tells }
  opens value says Later set goes tells = record {
    again = λ _. is_repeating value says cycle_begin goes set first_dated cycle_end tells (omega (arith, ints)) (omega (arith, ints)) (omega (arith, ints));
    shows = λ t here. shows_later value says cycle_begin goes set first_dated cycle_end tells (omega (arith, ints)) (omega (arith, ints)) t (omega (arith, ints)) here here.first;
  }
  opens value says Always set goes tells = record {
    again = λ _. is_repeating value says first_dated goes set cycle_begin cycle_end tells (omega (arith, ints)) (omega (arith, ints)) (omega (arith, ints));
    shows = λ t here. shows_always value says first_dated goes set cycle_begin cycle_end tells (omega (arith, ints)) (omega (arith, ints)) t refl here;
  }

pub begins_dated : (recurrence : Recurrence) → HasDate (begin_of_set recurrence)
begins_dated Never = record { first = omega (arith, ints); last = omega (arith, ints) }
begins_dated Later = record { first = omega (arith, ints); last = omega (arith, ints) }
begins_dated Always = record { first = omega (arith, ints); last = omega (arith, ints) }

pub ends_dated : (recurrence : Recurrence) → end_of_set recurrence ≤ℤ end_of_dated
ends_dated Never = omega (arith, ints)
ends_dated Later = omega (arith, ints)
ends_dated Always = omega (arith, ints)
