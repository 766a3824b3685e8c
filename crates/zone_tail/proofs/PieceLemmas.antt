-- The total of a rule is the same from a second up to the next moment or the next year.
use Rattle.std.{proofs.Common.{◌≡◌, ℤ, pos, cond, ◌+ℤ◌, ◌-ℤ◌, ◌*ℤ◌, ◌≤ℤ◌, ◌<ℤ◌, int_le, int_lt, refl, sym, ap, ◌∙◌, arith}, specs.Prelude.{◌&&◌, ◌||◌}, proofs.lemmas.Int.{ints}}
use Rattle.basics.specs.Days.{day}
use Rattle.tz_posix.specs.InForce.{instant_in, is_saving, is_within, posix_total, year_at}
use Rattle.zone_tail.{specs.declared.rule.YearlyRule.{YearlyRule}, specs.Rules.{IsReach, rule_total, time_of}, proofs.YearLemmas.{IsInYear, year_at-in, year_at-is, year_near}}
use Rattle.civil_base.specs.Ranges.{IsOffset}

same_le : (a s t n : ℤ) → s ≤ℤ t → t <ℤ n → (s <ℤ a → n ≤ℤ a) → int_le a t ≡ int_le a s
same_le a s t n h k f = grind (arith, ints)

same_lt : (a s t n : ℤ) → s ≤ℤ t → t <ℤ n → (s <ℤ a → n ≤ℤ a) → int_lt t a ≡ int_lt s a
same_lt a s t n h k f = grind (arith, ints)

same_between : (a b s t n : ℤ) → s ≤ℤ t → t <ℤ n → (s <ℤ a → n ≤ℤ a) → (s <ℤ b → n ≤ℤ b) → is_within a b t ≡ is_within a b s
same_between a b s t n h k f g =
    let le = same_le a s t n h k f in
    let lt = same_lt b s t n h k g in
    λ i. (le i && lt i) || (int_lt b a && (lt i || le i))

-- the total by the moments of one year
abbrev total_in_year : YearlyRule → ℤ → ℤ → ℤ
total_in_year q y second =
    cond (is_within (instant_in y q.standard (time_of q.start)) (instant_in y q.saving (time_of q.end)) second) q.saving q.standard

pub of_year : (q : YearlyRule) (second y : ℤ) → year_at q.standard second ≡ y → rule_total q second ≡ total_in_year q y second
unfolding posix_total is_saving rule_total
of_year q second y is = ap (λ z. total_in_year q z second) is

later_in_year : (y s t n o : ℤ) (e : ℤ) → IsInYear o y s → e ≡ pos 86400 *ℤ day (y +ℤ pos 1) 1 1 → s ≤ℤ t → t <ℤ n → n ≤ℤ (e -ℤ o)
    → IsInYear o y t
later_in_year y s t n o e h is k l m = record { begun = omega (arith, ints, h.begun); not_over = omega (arith, ints, is) }

-- n: a second after s up to which no moment of the year of s comes, and no other year begins
pub constant_up_to : (q : YearlyRule) (s n : ℤ) → IsOffset q.standard → IsReach s
    → n ≤ℤ (pos 86400 *ℤ day (year_at q.standard s +ℤ pos 1) 1 1 -ℤ q.standard)
    → (s <ℤ instant_in (year_at q.standard s) q.standard (time_of q.start) → n ≤ℤ instant_in (year_at q.standard s) q.standard (time_of q.start))
    → (s <ℤ instant_in (year_at q.standard s) q.saving (time_of q.end) → n ≤ℤ instant_in (year_at q.standard s) q.saving (time_of q.end))
    → (t : ℤ) → s ≤ℤ t → t <ℤ n → rule_total q t ≡ rule_total q s
constant_up_to q s n small reach year start stop t h k =
    let y = year_at q.standard s in
    let here : IsInYear q.standard y t = later_in_year y s t n q.standard (pos 86400 *ℤ day (y +ℤ pos 1) 1 1) (year_at-in q.standard s small reach) refl h k year in
    of_year q t y (year_at-is q.standard t y (year_near q.standard s small reach) here)
    ∙ ap (λ b. cond b q.saving q.standard) (same_between (instant_in y q.standard (time_of q.start)) (instant_in y q.saving (time_of q.end)) s t n h k start stop)
    ∙ sym (of_year q s y refl)
