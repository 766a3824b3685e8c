-- A footer that says what a set shows up to the end of the cycle says so for ever.
use Rattle.std.proofs.{Common.{◌≡◌, ℕ, zero, suc, ◌+◌, ◌*◌, ◌<◌, ◌≤◌, Option, ℤ, pos, neg_ℤ, ◌+ℤ◌, ◌-ℤ◌, ◌*ℤ◌, ◌≤ℤ◌, ◌<ℤ◌, refl, sym, ap, ◌∙◌, subst, arith}, lemmas.Int.{ints}}
use Rattle.basics.specs.{Days.{day, is_leap, days_in_year, days_in_month, days_after_zero, days_before_zero, year_start, days_through, days_into_year}, ComparisonLaws.{lt_pass}, SignedLaws.{signed}}
use Rattle.civil_base.specs.{Instants.{seconds_of}, RangeLaws.{offset_greatest, offset_least}, Ranges.{IsOffset}}
use Rattle.zone_spans.specs.Cycle.{seconds_on}
use Rattle.tz_ever.specs.{Seam.{brought_back, cycles_past, next_seam}, SeamLaws.{ArePast, back_by, back_is, cycles_past-are}}
use Rattle.tz_tzif.specs.{FooterForce.{FooterZone, held_at, standard_total}, Years.{IsInYears}}
use Rattle.tz_lookup.specs.{SecondLaws.{IsSecond, one_second, second_is}, declared.set.FixedTimespanSet.{FixedTimespanSet}}
use Rattle.zone_tail.specs.Carried.{IsFrom}
use Rattle.zone_tzif.{specs.Agreement.{AgreesForEver, IsCovered, cycle_begin, cycle_end, year_zero}, specs.Walked.{Agrees, kind_from}, proofs.KindLemmas.{ever_is}}

-- the law of footers
abbrev pub Repeats : Type 0
Repeats = (zone : FooterZone) (s : ℤ) → IsInYears (neg_ℤ (pos 10000)) (pos 9600) (standard_total zone) s → held_at zone (seconds_on s) ≡ held_at zone s

pub first_day : day (neg_ℤ (pos 10000)) 1 1 ≡ neg_ℤ (pos 4371953)
unfolding is_leap days_in_year days_in_month days_after_zero days_before_zero year_start days_through days_into_year day
first_day = refl

pub last_day : day (pos 9600) 12 31 ≡ pos 2787165
unfolding is_leap days_in_year days_in_month days_after_zero year_start days_through days_into_year day
last_day = refl

pub last_of_all : day (pos 9999) 12 31 ≡ pos 2932896
unfolding is_leap days_in_year days_in_month days_after_zero year_start days_through days_into_year day
last_of_all = refl

-- a second of the cycle, so many cycles later
abbrev pub later : ℤ → ℕ → ℤ
later s k = s +ℤ pos (k * 12622780800)

one_more : (s : ℤ) (k : ℕ) → later s (suc k) ≡ seconds_on (later s k)
one_more s k = omega (arith, signed)

module _ (repeats : Repeats) (zone : FooterZone) (offset : IsOffset (standard_total zone)) where
  -- in each cycle the same
  in_cycles : (s : ℤ) (k : ℕ) → cycle_begin ≤ℤ s → (later s k +ℤ standard_total zone) <ℤ (pos 86400 *ℤ (day (pos 9999) 12 31 +ℤ pos 1))
      → held_at zone (later s k) ≡ held_at zone s
  in_cycles s zero from to = ap (held_at zone) (omega (arith, signed))
  in_cycles s (suc k) from to =
      let o = standard_total zone in
      let inside : IsInYears (neg_ℤ (pos 10000)) (pos 9600) o (later s k) = record {
        begun = omega (arith, signed, from, first_day, offset_least o offset);
        not_over = omega (arith, signed, to, last_day, last_of_all);
      } in
      ap (held_at zone) (one_more s k) ∙ repeats zone (later s k) inside
      ∙ in_cycles s k from (omega (arith, signed, to))

  -- an earlier second from the year 0 on is a second of the cycle before
  pub cycle_later : (s : ℤ) → year_zero ≤ℤ s → s <ℤ cycle_end → held_at zone (seconds_on s) ≡ held_at zone s
  cycle_later s from to =
      let o = standard_total zone in
      repeats zone s (record {
        begun = omega (arith, signed, from, first_day, offset_least o offset);
        not_over = omega (arith, signed, to, last_day, offset_greatest o offset);
      })

-- ---- the second of an instant, brought back
second_back : (t s b : ℤ) (k : ℕ) → IsSecond t s → b ≡ t -ℤ pos (k * 12622780800000000000) → IsSecond b (s -ℤ pos (k * 12622780800))
second_back t s b k is e = record { low = omega (arith, signed, is.low, e); high = omega (arith, signed, is.high, e) }

-- t, the second s of it, the number k of cycles past the seam and the instant b brought back
pub record IsBroughtBack (t s : ℤ) : Type 0 where
  pub cycles : ℕ
  pub second : ℤ
  pub is : s ≡ later second cycles
  pub back : seconds_of (brought_back t) ≡ second
  pub later_begin : 0 < cycles → cycle_begin ≤ℤ second
  pub before : second <ℤ cycle_end

begin_of : (t s : ℤ) (k : ℕ) → IsSecond t s → ArePast t k → 0 < k → cycle_begin ≤ℤ (s -ℤ pos (k * 12622780800))
begin_of t s k is past some =
    let begun = past.begun some in
    omega (arith, signed, is.low, is.high, begun)

end_of : (t s : ℤ) (k : ℕ) → IsSecond t s → ArePast t k → (s -ℤ pos (k * 12622780800)) <ℤ cycle_end
end_of t s k is past =
    let over = past.not_over in
    omega (arith, signed, is.low, is.high, over)

pub second_of_back : (t : ℤ) → IsBroughtBack t (seconds_of t)
second_of_back t =
    let k = cycles_past t in
    let past = cycles_past-are t in
    let is = second_is t in
    let b = brought_back t in
    record {
      cycles = k;
      second = seconds_of t -ℤ pos (k * 12622780800);
      is = omega (arith, signed);
      back = one_second b (seconds_of b) (seconds_of t -ℤ pos (k * 12622780800)) (second_is b)
          (second_back t (seconds_of t) b k is (back_by t k past));
      later_begin = λ some. begin_of t (seconds_of t) k is past some;
      before = end_of t (seconds_of t) k is past;
    }

-- ---- for ever
pub none_later : (second : ℤ) → later second 0 ≡ second
none_later second = omega (arith, signed)

pub whole : (s : ℤ) → seconds_of (pos 1000000000 *ℤ s) ≡ s
whole s = one_second (pos 1000000000 *ℤ s) _ _ (second_is _) (record { low = omega (arith, ints); high = omega (arith, ints) })

early : (s : ℤ) → s <ℤ cycle_end → seconds_of (brought_back (pos 1000000000 *ℤ s)) ≡ s
early s before =
    let t = pos 1000000000 *ℤ s in
    ap seconds_of (back_is t (lt_pass t next_seam (omega (arith, signed, before)))) ∙ whole s

module _ (repeats : Repeats) (zone : FooterZone) (offset : IsOffset (standard_total zone)) (set : FixedTimespanSet) (from : Option ℤ)
    (begins : (s : ℤ) → cycle_begin ≤ℤ s → IsFrom from s) where
  pub for_ever : Agrees zone set from → AgreesForEver zone set from
  for_ever agrees t covered =
      let back = second_of_back t in
      by_cycles back.cycles back.second back.is back.later_begin back.before ∙ sym (ever_is set t back.second back.back)
    where
      by_cycles : (k : ℕ) (second : ℤ) → seconds_of t ≡ later second k → (0 < k → cycle_begin ≤ℤ second) → second <ℤ cycle_end
          → held_at zone (seconds_of t) ≡ kind_from set second
      by_cycles zero second is later_begin before =
          let same = is ∙ none_later second in
          ap (held_at zone) same ∙ agrees.alike second (subst (IsFrom from) same covered.begun) before
      by_cycles (suc k) second is later_begin before =
          let begun = later_begin (omega arith) in
          let over = subst (λ s. (s +ℤ standard_total zone) <ℤ (pos 86400 *ℤ (day (pos 9999) 12 31 +ℤ pos 1))) is covered.not_over in
          ap (held_at zone) is ∙ in_cycles repeats zone offset second (suc k) begun over
          ∙ agrees.alike second (begins second begun) before

  -- and what agrees for ever agrees up to the end of the cycle
  pub until_end : AgreesForEver zone set from → Agrees zone set from
  until_end agrees = record {
    alike = λ s begun before.
        let t = pos 1000000000 *ℤ s in
        let covered : IsCovered zone from t = record {
          begun = subst (IsFrom from) (sym (whole s)) begun;
          not_over = subst (λ z. (z +ℤ standard_total zone) <ℤ (pos 86400 *ℤ (day (pos 9999) 12 31 +ℤ pos 1))) (sym (whole s))
              (omega (arith, signed, before, last_of_all, offset_greatest (standard_total zone) offset));
        } in
        ap (held_at zone) (sym (whole s)) ∙ agrees t covered ∙ ever_is set t s (early s before);
  }
