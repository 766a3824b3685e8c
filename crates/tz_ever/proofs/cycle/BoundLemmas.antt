-- No firing of a year comes long before the year begins, so what a zone shows before a year does not depend on the years from it on.
use Rattle.std.proofs.Common.{◌≡◌, refl, [], ◌∷◌, map, true, false, pos, neg_ℤ, List, ◌++◌, arith, ◌≤◌, ℤ, ◌+ℤ◌, ◌*ℤ◌, unsigned_abs, ◌∙◌, sym, ℕ, ◌+◌, ◌≤ℤ◌, int_le, None, zero, suc, ap, ◌-ℤ◌, length, filter, inl, inr, subst, cond, reverse, ◌<ℤ◌}
use Rattle.std.proofs.lemmas.Bool.{cases_Bool}
use Rattle.basics.specs.{ComparisonLaws.{le_from_pass, le_fail, lt_fail}, Days.{day}, MonthLaws.{days_through-two}, SignedLaws.{signed, natural}, YearLaws.{day-cycle, cycle_days-rise}}
use Rattle.zone_table.specs.{Days.{named_day}, declared.time.TimeType.{TimeType}, declared.time.TimeType.TheVariants.{Wall, UTC, Standard}, Moments.{instant_of, moment}, declared.rule.RuleInfo.{RuleInfo}}
use Rattle.zone_spans.specs.{Collapse.{kept_of}, Entries.{entry_of, Entry, total, sorted_entries_over}, Firings.{earliest, fired, year_firings, Fired, Firing, is_earlier}, Lines.{Line}, Years.{earliest_year}, declared.span.FixedTimespan.{FixedTimespan}}
use Rattle.zone_spans.specs.{Later.{firings_from, first_fired, later_entries}, Settled.{are_settled, is_lasting}}
use Rattle.tz_ever.specs.InForce.{has_come, span_by}
use Rattle.tz_ever.proofs.cycle.{CollapseLemmas.{kept_of-more}, FiringLemmas.{year_firings-settled}, OrderLemmas.{AllFrom, later_entries-front}, StableLemmas.{ahead, kept_ahead, kept_stays, none_has_come, none_replaces}}
use Rattle.tz_ever.proofs.cycle.ZoneLemmas.{AddsBehind, sorted_entries_over-more, span_in, span_in-is}

-- the rule's day lies in the year or later, and its numbers are small
pub record Fits (y : ℤ) (r : RuleInfo) : Type 0 where
  pub inside : day y 1 1 ≤ℤ named_day r.day y r.month
  pub time : neg_ℤ (pos 1000000) ≤ℤ r.time
  pub least : neg_ℤ (pos 1000000) ≤ℤ r.time_to_add
  pub saving : r.time_to_add ≤ℤ pos 1000000

abbrev pub AllFit : ℤ → List RuleInfo → Type 0
AllFit y [] = Unit {0}
AllFit y (r ∷ rs) = Fits y r × AllFit y rs

-- the second before which nothing of the year fires
unfoldable pub year_low : ℤ → ℤ
year_low y = pos 86400 *ℤ day y 1 1 -ℤ pos 3000000

instant-from : (clock : TimeType) (local offset saving : ℤ) → offset ≤ℤ pos 1000000 → saving ≤ℤ pos 1000000
    → (local -ℤ pos 2000000) ≤ℤ instant_of clock local offset saving
unfolding instant_of
instant-from UTC local offset saving h k = omega (arith, signed)
instant-from Standard local offset saving h k = omega (arith, signed)
instant-from Wall local offset saving h k = omega (arith, signed)

local-from : (first k time : ℤ) → first ≤ℤ k → neg_ℤ (pos 1000000) ≤ℤ time
    → (pos 86400 *ℤ first -ℤ pos 1000000) ≤ℤ (pos 86400 *ℤ k +ℤ time)
local-from first k time h l = omega (arith, signed)

join : (a local x : ℤ) → (a -ℤ pos 1000000) ≤ℤ local → (local -ℤ pos 2000000) ≤ℤ x → (a -ℤ pos 3000000) ≤ℤ x
join a local x h k = omega (arith, signed)

moment-from : (y offset saving : ℤ) (r : RuleInfo) → Fits y r → offset ≤ℤ pos 1000000 → saving ≤ℤ pos 1000000
    → year_low y ≤ℤ moment r y offset saving
unfolding moment year_low
moment-from y offset saving r fits h k =
    let local = pos 86400 *ℤ named_day r.day y r.month +ℤ r.time in
    join (pos 86400 *ℤ day y 1 1) local (instant_of r.time_type local offset saving)
    (local-from (day y 1 1) (named_day r.day y r.month) r.time fits.inside fits.time)
    (instant-from r.time_type local offset saving h k)

abbrev ChoiceFits : ℤ → RuleInfo × List RuleInfo → Type 0
ChoiceFits y e = Fits y e.0 × AllFit y e.1

earliest-fits : (y offset saving : ℤ) (r : RuleInfo) (rs : List RuleInfo) → Fits y r → AllFit y rs → ChoiceFits y (earliest y offset saving r rs)
unfolding earliest
earliest-fits y offset saving r [] fits all = (fits, tt)
earliest-fits y offset saving r (q ∷ qs) fits all =
    let later = earliest y offset saving q qs in
    let kept : ChoiceFits y later = earliest-fits y offset saving q qs all.0 all.1 in
    elim (is_earlier y offset saving later.0 r) as (λ b. ChoiceFits y (cond b (later.0, r ∷ later.1) (r, q ∷ qs))) [
      | true ↦ (kept.0, (fits, kept.1))
      | false ↦ (fits, all)
    ]

-- at that second or later, and with a small saving
pub record IsFiredFrom (low : ℤ) (f : Firing) : Type 0 where
  pub time : low ≤ℤ f.time
  pub least : neg_ℤ (pos 1000000) ≤ℤ f.rule.time_to_add
  pub greatest : f.rule.time_to_add ≤ℤ pos 1000000

abbrev pub FiredFrom : ℤ → List Firing → Type 0
FiredFrom low [] = Unit {0}
FiredFrom low (f ∷ fs) = IsFiredFrom low f × FiredFrom low fs

-- firings from a second on, and a small saving after them
abbrev pub IsLow : ℤ → Fired → Type 0
IsLow low f = FiredFrom low f.0 × (f.1 ≤ℤ pos 1000000)

fired-from : (n : ℕ) (y offset saving : ℤ) (rules : List RuleInfo) → AllFit y rules → offset ≤ℤ pos 1000000 → saving ≤ℤ pos 1000000
    → IsLow (year_low y) (fired n y offset None saving rules)
unfolding fired
fired-from zero y offset saving rules all h k = (tt, k)
fired-from (suc n) y offset saving [] all h k = (tt, k)
fired-from (suc n) y offset saving (r ∷ rs) all h k =
    let next = earliest y offset saving r rs in
    let fits = earliest-fits y offset saving r rs all.0 all.1 in
    let later = fired-from n y offset next.0.time_to_add next.1 fits.1 h fits.0.saving in
    ((record { time = moment-from y offset saving next.0 fits.0 h k; least = fits.0.least; greatest = fits.0.saving }, later.0), later.1)

day-rises : (y z : ℤ) → pos 0 ≤ℤ y → y ≤ℤ z → day y 1 1 ≤ℤ day z 1 1
day-rises y z h k =
    let n = unsigned_abs (y +ℤ pos 11999) in
    let l = unsigned_abs (z +ℤ pos 11999) in
    let here : y +ℤ pos 11999 ≡ pos n = natural (y +ℤ pos 11999) (omega (arith, signed)) in
    let there : z +ℤ pos 11999 ≡ pos l = natural (z +ℤ pos 11999) (omega (arith, signed)) in
    omega (
      arith,
      signed,
      day-cycle y 1 1 n here,
      day-cycle z 1 1 l there,
      days_through-two y,
      days_through-two z,
      cycle_days-rise n l (omega (arith, signed)),
    )

low_rises : (y z : ℤ) → pos 0 ≤ℤ y → y ≤ℤ z → year_low y ≤ℤ year_low z
unfolding year_low
low_rises y z h k = let rises = day-rises y z h k in omega (arith, signed)

le_join : (a b c : ℤ) → a ≤ℤ b → b ≤ℤ c → a ≤ℤ c
le_join a b c h k = omega (arith, signed)

from-lower : (low high : ℤ) (fs : List Firing) → low ≤ℤ high → FiredFrom high fs → FiredFrom low fs
from-lower low high [] h from = tt
from-lower low high (f ∷ fs) h from = (
  record { time = le_join low high f.time h from.0.time; least = from.0.least; greatest = from.0.greatest },
  from-lower low high fs h from.1,
)

from-append : (low : ℤ) (fs gs : List Firing) → FiredFrom low fs → FiredFrom low gs → FiredFrom low (fs ++ gs)
from-append low [] gs h k = k
from-append low (f ∷ fs) gs h k = (h.0, from-append low fs gs h.1 k)

-- the lasting rules fit each year from 2100 on
abbrev pub FitForEver : List RuleInfo → Type 0
FitForEver rules = (y : ℤ) → pos 2100 ≤ℤ y → AllFit y (filter is_lasting rules)

pub firings_from-low : (place k : ℕ) (offset saving : ℤ) (rules : List RuleInfo) → are_settled rules ≡ true → 300 ≤ place
    → FitForEver rules → offset ≤ℤ pos 1000000 → saving ≤ℤ pos 1000000
    → IsLow (year_low (pos (earliest_year + place))) (firings_from place offset rules saving k)
unfolding firings_from
firings_from-low place zero offset saving rules settled late fit h s = (tt, s)
firings_from-low place (suc k) offset saving rules settled late fit h s =
    let before = firings_from-low place k offset saving rules settled late fit h s in
    let in_force = (firings_from place offset rules saving k).1 in
    let y = pos (earliest_year + (k + place)) in
    let first = pos (earliest_year + place) in
    let so_far : pos 2100 ≤ℤ y = omega (arith, signed) in
    let here : IsLow (year_low y) (year_firings y offset None in_force rules) =
    subst (IsLow (year_low y)) (sym (year_firings-settled y offset in_force rules settled so_far))
    (fired-from (length (filter is_lasting rules)) y offset in_force (filter is_lasting rules) (fit y so_far) h before.1) in
    let lower = low_rises first y (omega (arith, signed)) (omega (arith, signed)) in (
      from-append (year_low first) (firings_from place offset rules saving k).0 (year_firings y offset None in_force rules).0 before.0
          (from-lower (year_low first) (year_low y) _ lower here.0),
      here.1,
    )

pub entries_fire : (line : Line) (low : ℤ) (fs : List Firing) → FiredFrom low fs → AllFrom low (map (entry_of line) fs)
entries_fire line low [] from = tt
entries_fire line low (f ∷ fs) from = (lt_fail f.time low from.0.time, entries_fire line low fs from.1)

apart : (low a x y : ℤ) (t : ℤ) → int_le (a *ℤ pos 1000000000) t ≡ true → t <ℤ ((low -ℤ pos 4000000) *ℤ pos 1000000000)
    → neg_ℤ (pos 2000000) ≤ℤ x → y ≤ℤ pos 2000000 → int_le (low +ℤ x) (a +ℤ y) ≡ false
apart low a x y t come early h k =
    let begun : (a *ℤ pos 1000000000) ≤ℤ t = le_from_pass (a *ℤ pos 1000000000) t come in
    le_fail (low +ℤ x) (a +ℤ y) (omega (arith, signed))

-- what the total needs of a list of kept entries: two, with small totals
pub record IsLatest (kept : List Entry) : Type 0 where
  pub one : Entry
  pub two : Entry
  pub others : List Entry
  pub all : kept ≡ one ∷ two ∷ others
  pub least : neg_ℤ (pos 2000000) ≤ℤ total one.1
  pub greatest : total two.1 ≤ℤ pos 2000000

earlier : (t low : ℤ) → t <ℤ ((low -ℤ pos 4000000) *ℤ pos 1000000000) → t <ℤ (low *ℤ pos 1000000000)
earlier t low h = omega (arith, signed)

-- the same total over k years past the place and over any more, up to 7,000,000 seconds before the first of those years begins
pub span-stable_years : (lines : List Line) (last : Line) (place k j : ℕ) (first : FixedTimespan) (t : ℤ) → AddsBehind lines last place
    → FitForEver last.rules → last.info.offset ≤ℤ pos 1000000 → (first_fired last place).1 ≤ℤ pos 1000000
    → IsLatest (kept_of [] (sorted_entries_over (k + place) (lines ++ (last ∷ []))))
    → t <ℤ ((year_low (pos (earliest_year + (k + place))) -ℤ pos 4000000) *ℤ pos 1000000000)
    → span_in first (sorted_entries_over (j + k + place) (lines ++ (last ∷ []))) t ≡ span_in first (sorted_entries_over (k + place) (lines ++ (last ∷ []))) t
span-stable_years lines last place k j first t on fit offset saving latest early =
    let zone = lines ++ (last ∷ []) in
    let low = year_low (pos (earliest_year + (k + place))) in
    let o = last.info.offset in
    let s = (first_fired last place).1 in
    let so_far = firings_from place o last.rules s k in
    let rest = map (entry_of last) (firings_from (k + place) o last.rules so_far.1 j).0 in
    let saved = (firings_from-low place k o s last.rules on.settled on.late fit offset saving).1 in
    let from : AllFrom low rest = entries_fire last low (firings_from (k + place) o last.rules so_far.1 j).0
    (firings_from-low (k + place) j o so_far.1 last.rules on.settled (omega (arith, on.late)) fit offset saved).0 in
    let more : sorted_entries_over (j + k + place) zone ≡ sorted_entries_over (k + place) zone ++ rest =
    sorted_entries_over-more lines last place (j + k) on
    ∙ ap (λ l. sorted_entries_over place zone ++ l) (later_entries-front last place k j)
    ∙ sym (append_three (sorted_entries_over place zone) (later_entries last place k) rest)
    ∙ ap (λ l. l ++ rest) (sym (sorted_entries_over-more lines last place k on)) in
    let none = none_has_come t low rest (earlier t low early) from in
    let a = latest.one in
    let b = latest.two in
    span_in-is first (sorted_entries_over (j + k + place) zone) t
    ∙ ap (λ l. span_by first (reverse l) t) (ap (kept_of []) more ∙ kept_of-more (sorted_entries_over (k + place) zone) rest []
    ∙ ap (λ l. kept_of l rest) latest.all)
    ∙ elim (cases_Bool (has_come t a)) [
      | inl come ↦ kept_stays rest a b latest.others first t
          (none_replaces low a b rest (apart low a.0 (total a.1) (total b.1) t come early latest.least latest.greatest) from) none
      | inr not_come ↦ kept_ahead rest a b latest.others first t not_come none
          ∙ sym (ahead first t a (b ∷ latest.others) not_come)
    ]
    ∙ ap (λ l. span_by first (reverse l) t) (sym latest.all)
    ∙ sym (span_in-is first (sorted_entries_over (k + place) zone) t)
  where
    append_three : {X : Type 0} (xs ys zs : List X) → (xs ++ ys) ++ zs ≡ xs ++ (ys ++ zs)
    append_three [] ys zs = refl
    append_three (x ∷ xs) ys zs = ap (λ l. x ∷ l) (append_three xs ys zs)
