-- Rules whose months lie two or more apart, and neither in January nor in December, start and end far enough apart in all years.
use Rattle.std.proofs.{Common.{◌≡◌, ℕ, suc, ◌+◌, ◌-◌, ◌<◌, ◌≤◌, ◌⊎◌, inl, inr, ⊎_elim, sym, ap, ◌∙◌, subst, arith, ℤ, pos, ◌+ℤ◌, ◌-ℤ◌, ◌*ℤ◌, ◌≤ℤ◌, ◌<ℤ◌, unsigned_abs}, lemmas.Int.{ints, by_lt_z}}
use Rattle.basics.specs.{DateLaws.{day-into_year, place_of}, Days.{day, days_in_year, days_into_year, days_through, IsCountedYear}}
use Rattle.basics.specs.{MonthLaws.{days_in_month-bounds, days_in_month-december, days_in_year-bounds, days_through-all, days_through-rise, days_through-step, days_through-two}, SignedLaws.{signed}, YearLaws.{cycle_days-suc, day-cycle}}
use Rattle.zone_table.specs.{Days.{named_day}, Months.{month_number}, declared.time.TimeType.TheVariants.{Wall}, declared.weekday.Weekday.{Weekday}, declared.rule.RuleInfo.{RuleInfo}}
use Rattle.tz_posix.specs.{DayLaws.{days_into_year-is}, TwoRules.{written}, Agreement.{IsChange, IsInRuleYears, IsNorthern, IsRuleYear, IsSameDay, IsSouthern, IsTimeOfDay, TwoRuleZone, end_in, start_in}, declared.date.Date.{Date}}
use Rattle.tz_posix.proofs.{TwoRuleFiringLemmas.{wall_moment}, NamedDayLemmas.{is_named}, StandardYearLemmas.{IsNear, near-counted, near_year, year_starts-rise}}

-- ---- one rule in one year

-- the rule's day lies k days into the year, in its month
record IsInto (rule : RuleInfo) (y : ℤ) (k : ℕ) : Type 0 where
  day : named_day rule.day y rule.month ≡ day y 1 1 +ℤ pos k
  from : days_through y (month_number rule.month - 1) ≤ k
  before : k < days_through y (month_number rule.month)

days_into : (rule : RuleInfo) (w : Weekday) (date : Date) (y : ℤ) → IsCountedYear y → IsSameDay rule.month w rule.day date
    → (k : ℕ) × IsInto rule y k
days_into rule w date y years same =
    let m = month_number rule.month in
    let here = is_named rule.month w rule.day date y years same in
    let month = here.in_month in
    let place = days_into_year-is y m here.place in
    let step = days_through-step y m month.first_month in (
      days_into_year y m here.place,
      record {
        day = here.named ∙ day-into_year y m here.place years;
        from = omega (arith, place);
        before = omega (arith, place, step, month.first_day, month.last_day);
      },
    )

-- a month from February to November
pub record IsInner (m : ℕ) : Type 0 where
  pub first : 2 ≤ m
  pub last : m ≤ 11

inner_days : (y : ℤ) (m k : ℕ) → IsInner m → days_through y (m - 1) ≤ k → k < days_through y m → (31 ≤ k) × (k ≤ 334)
inner_days y m k inner from before =
    let start = days_through-two y in
    let year = days_in_year-bounds y in
    let low = days_through-rise y 1 (m - 1) (omega (arith, inner.first)) in
    let high = days_through-rise y m 11 (omega (arith, inner.last)) in
    let all = days_through-all y in
    let december = days_through-step y 12 (omega arith) in
    let length = days_in_month-december y in
    (omega arith, omega arith)

-- a later month, but not the next, is 28 days later at least
later_days : (y : ℤ) (m n k l : ℕ) → m + 2 ≤ n → k < days_through y m → days_through y (n - 1) ≤ l → k + 29 ≤ l
later_days y m n k l apart before from =
    let between = days_through-step y (m + 1) (omega arith) in
    let month = days_in_month-bounds y (m + 1) in
    let back : m + 1 - 1 ≡ m = omega arith in
    let same = ap (days_through y) back in
    let rise = days_through-rise y (m + 1) (n - 1) (omega arith) in
    omega arith

next_year : (y : ℤ) → IsCountedYear y → day (y +ℤ pos 1) 1 1 ≡ day y 1 1 +ℤ pos (days_in_year y)
next_year y years =
    let n = unsigned_abs (y +ℤ pos 11999) in
    let here = place_of y years in
    let there : y +ℤ pos 1 +ℤ pos 11999 ≡ pos (n + 1) = omega (arith, signed) in
    let one : n + 1 ≡ suc n = omega arith in
    omega (
      arith,
      signed,
      one,
      day-cycle y 1 1 n here,
      day-cycle (y +ℤ pos 1) 1 1 (suc n) (rw one at there),
      cycle_days-suc y n here,
      days_through-two y,
      days_through-two (y +ℤ pos 1),
    )

-- ---- both rules in all years

-- 30 days at least after the beginning of the year, and 335 at most
record HasRoom (o y s : ℤ) : Type 0 where
  low : (pos 86400 *ℤ day y 1 1 +ℤ pos 2592000) ≤ℤ (s +ℤ o)
  high : (s +ℤ o) ≤ℤ (pos 86400 *ℤ day y 1 1 +ℤ pos 28944000)

room : (y : ℤ) (k : ℕ) (t s o v : ℤ) → s ≡ pos 86400 *ℤ (day y 1 1 +ℤ pos k) +ℤ t -ℤ (o +ℤ v) → 31 ≤ k → k ≤ 334
    → pos 0 ≤ℤ t → t ≤ℤ pos 86399 → pos 0 ≤ℤ v → v ≤ℤ pos 86400 → HasRoom o y s
room y k t s o v is some few early late least greatest =
    record { low = omega (arith, signed); high = omega (arith, signed) }

room_inside : (o y s : ℤ) → IsCountedYear y → HasRoom o y s → IsInRuleYears o y y s
room_inside o y s years r =
    let next = next_year y years in
    let length = days_in_year-bounds y in
    record { begun = omega (arith, signed, r.low); not_over = omega (arith, signed, r.high, next) }

room_apart : (o p y z s t : ℤ) → IsNear y → IsNear z → y <ℤ z → p ≤ℤ pos 86400 → HasRoom o y s → HasRoom o z t → (s +ℤ p) <ℤ t
room_apart o p y z s t near later h small a b =
    let counted : IsCountedYear (y +ℤ pos 1) = record { first = omega (arith, signed, near.first); last = omega (arith, signed, near.last) } in
    let rise = year_starts-rise (y +ℤ pos 1) z counted (near-counted z later) (omega (arith, signed)) in
    let next = next_year y (near-counted y near) in
    let length = days_in_year-bounds y in
    omega (arith, signed, a.high, b.low, rise, next)

-- of two moments that lie far apart, a later one lies far from an earlier one
far_apart : (a b p s t : ℤ) → pos 0 <ℤ p → ((a +ℤ p) <ℤ b) ⊎ ((b +ℤ p) <ℤ a) → (s ≡ a) ⊎ (s ≡ b) → (t ≡ a) ⊎ (t ≡ b) → s <ℤ t
    → (s +ℤ p) <ℤ t
far_apart a b p s t some (inl gap) (inl e) (inl f) h = absurd (omega (arith, ints))
far_apart a b p s t some (inl gap) (inl e) (inr f) h = omega (arith, ints)
far_apart a b p s t some (inl gap) (inr e) (inl f) h = absurd (omega (arith, ints))
far_apart a b p s t some (inl gap) (inr e) (inr f) h = absurd (omega (arith, ints))
far_apart a b p s t some (inr gap) (inl e) (inl f) h = absurd (omega (arith, ints))
far_apart a b p s t some (inr gap) (inl e) (inr f) h = absurd (omega (arith, ints))
far_apart a b p s t some (inr gap) (inr e) (inl f) h = omega (arith, ints)
far_apart a b p s t some (inr gap) (inr e) (inr f) h = absurd (omega (arith, ints))

-- the rules have such months, and a saving of a day at most
pub record AreInnerRules (zone : TwoRuleZone) : Type 0 where
  pub start_weekday : Weekday
  pub start_date : Date
  pub start_day : IsSameDay zone.start.month start_weekday zone.start.day start_date
  pub end_weekday : Weekday
  pub end_date : Date
  pub end_day : IsSameDay zone.end.month end_weekday zone.end.day end_date
  pub start_month : IsInner (month_number zone.start.month)
  pub end_month : IsInner (month_number zone.end.month)
  pub start_wall : zone.start.time_type ≡ Wall
  pub end_wall : zone.end.time_type ≡ Wall
  pub start_time : IsTimeOfDay zone.start.time
  pub end_time : IsTimeOfDay zone.end.time
  pub from_at_most : zone.from ≤ℤ pos 2099
  pub saving : pos 0 <ℤ zone.start.time_to_add
  pub saving_small : zone.start.time_to_add ≤ℤ pos 86400

-- the later one 29 days later at least
gap_of_days : (y : ℤ) (k l : ℕ) (t u a b o v w : ℤ) → a ≡ pos 86400 *ℤ (day y 1 1 +ℤ pos k) +ℤ t -ℤ (o +ℤ v)
    → b ≡ pos 86400 *ℤ (day y 1 1 +ℤ pos l) +ℤ u -ℤ (o +ℤ w) → k + 29 ≤ l → t ≤ℤ pos 86399 → pos 0 ≤ℤ u
    → (p : ℤ) → p ≤ℤ pos 86400 → w ≤ℤ pos 86400 → pos 0 ≤ℤ v → (a +ℤ p) <ℤ b
gap_of_days y k l t u a b o v w e f apart late early p small few least = omega (arith, signed)

module _ (zone : TwoRuleZone) (c : AreInnerRules zone) where
  abbrev o : ℤ
  o = zone.line.offset

  abbrev p : ℤ
  p = zone.start.time_to_add

  near : (y : ℤ) → IsRuleYear zone.from y → IsNear y
  near y year = near_year zone.from y c.from_at_most year

  -- where in the year a rule fires under a saving
  placed : (rule : RuleInfo) (y saving : ℤ) (k : ℕ) → rule.time_type ≡ Wall → IsInto rule y k → (s : ℤ)
      → s ≡ written rule y -ℤ (o +ℤ saving) → s ≡ pos 86400 *ℤ (day y 1 1 +ℤ pos k) +ℤ rule.time -ℤ (o +ℤ saving)
  placed rule y saving k wall into s is = is ∙ ap (λ d. pos 86400 *ℤ d +ℤ rule.time -ℤ (o +ℤ saving)) into.day

  start_into : (y : ℤ) → IsRuleYear zone.from y → (k : ℕ) × IsInto zone.start y k
  start_into y year = days_into zone.start c.start_weekday c.start_date y (near-counted y (near y year)) c.start_day

  end_into : (y : ℤ) → IsRuleYear zone.from y → (k : ℕ) × IsInto zone.end y k
  end_into y year = days_into zone.end c.end_weekday c.end_date y (near-counted y (near y year)) c.end_day

  start-placed : (y : ℤ) (year : IsRuleYear zone.from y)
      → start_in zone y ≡ pos 86400 *ℤ (day y 1 1 +ℤ pos (start_into y year).0) +ℤ zone.start.time -ℤ (o +ℤ pos 0)
  start-placed y year =
      placed zone.start y (pos 0) (start_into y year).0 c.start_wall (start_into y year).1 _ (wall_moment zone.start y o (pos 0) c.start_wall)

  end-placed : (y : ℤ) (year : IsRuleYear zone.from y)
      → end_in zone y ≡ pos 86400 *ℤ (day y 1 1 +ℤ pos (end_into y year).0) +ℤ zone.end.time -ℤ (o +ℤ p)
  end-placed y year =
      placed zone.end y p (end_into y year).0 c.end_wall (end_into y year).1 _ (wall_moment zone.end y o p c.end_wall)

  start_room : (y : ℤ) → IsRuleYear zone.from y → HasRoom o y (start_in zone y)
  start_room y year =
      let into = (start_into y year).1 in
      let days = inner_days y (month_number zone.start.month) (start_into y year).0 c.start_month into.from into.before in
      room y (start_into y year).0 zone.start.time _ o (pos 0) (start-placed y year) days.0 days.1 c.start_time.least c.start_time.greatest
      (omega (arith, signed)) (omega (arith, signed))

  end_room : (y : ℤ) → IsRuleYear zone.from y → HasRoom o y (end_in zone y)
  end_room y year =
      let into = (end_into y year).1 in
      let days = inner_days y (month_number zone.end.month) (end_into y year).0 c.end_month into.from into.before in
      room y (end_into y year).0 zone.end.time _ o p (end-placed y year) days.0 days.1 c.end_time.least c.end_time.greatest
      (omega (arith, signed, c.saving)) c.saving_small

  pub start_inside : (y : ℤ) → IsRuleYear zone.from y → IsInRuleYears o y y (start_in zone y)
  start_inside y year = room_inside o y _ (near-counted y (near y year)) (start_room y year)

  pub end_inside : (y : ℤ) → IsRuleYear zone.from y → IsInRuleYears o y y (end_in zone y)
  end_inside y year = room_inside o y _ (near-counted y (near y year)) (end_room y year)

  change_room : (s : ℤ) → (change : IsChange zone s) → HasRoom o change.year s
  change_room s change = ⊎_elim
      (λ e. subst (HasRoom o change.year) (sym e) (start_room change.year change.in_range))
      (λ e. subst (HasRoom o change.year) (sym e) (end_room change.year change.in_range))
      change.is

  -- where in each year the start and the end lie far apart, all do
  all_apart : ((y : ℤ) → IsRuleYear zone.from y → ((start_in zone y +ℤ p) <ℤ end_in zone y) ⊎ ((end_in zone y +ℤ p) <ℤ start_in zone y))
      → (s t : ℤ) → IsChange zone s → IsChange zone t → s <ℤ t → (s +ℤ p) <ℤ t
  all_apart gap s t a b h =
      let y = a.year in
      let z = b.year in
      let here = near y a.in_range in
      let there = near z b.in_range in
      by_lt_z y z
      (λ earlier. room_apart o p y z s t here there earlier c.saving_small (change_room s a) (change_room t b))
      (λ not_earlier. by_lt_z z y
      (λ later. let back = room_apart o p z y t s there here later c.saving_small (change_room t b) (change_room s a) in
      absurd (omega (arith, signed, back, c.saving)))
      (λ not_later. let same : z ≡ y = omega (arith, signed) in
      far_apart (start_in zone y) (end_in zone y) p s t c.saving (gap y a.in_range) a.is
      (subst (λ x. (t ≡ start_in zone x) ⊎ (t ≡ end_in zone x)) same b.is) h))

  northern_gap : month_number zone.start.month + 2 ≤ month_number zone.end.month → (y : ℤ) → IsRuleYear zone.from y
      → (start_in zone y +ℤ p) <ℤ end_in zone y
  northern_gap months y year =
      let days = later_days y (month_number zone.start.month) (month_number zone.end.month) (start_into y year).0 (end_into y year).0 months (start_into y year).1.before (end_into y year).1.from in
      gap_of_days y (start_into y year).0 (end_into y year).0 zone.start.time zone.end.time _ _ o (pos 0) p (start-placed y year) (end-placed y year) days
      c.start_time.greatest c.end_time.least p c.saving_small c.saving_small (omega (arith, signed))

  southern_gap : month_number zone.end.month + 2 ≤ month_number zone.start.month → (y : ℤ) → IsRuleYear zone.from y
      → (end_in zone y +ℤ p) <ℤ start_in zone y
  southern_gap months y year =
      let days = later_days y (month_number zone.end.month) (month_number zone.start.month) (end_into y year).0 (start_into y year).0 months (end_into y year).1.before (start_into y year).1.from in
      gap_of_days y (end_into y year).0 (start_into y year).0 zone.end.time zone.start.time _ _ o p (pos 0) (end-placed y year) (start-placed y year) days
      c.end_time.greatest c.start_time.least p c.saving_small (omega (arith, signed)) (omega (arith, signed, c.saving))

  -- the start's month comes first
  pub northern_apart : month_number zone.start.month + 2 ≤ month_number zone.end.month
      → (s t : ℤ) → IsChange zone s → IsChange zone t → s <ℤ t → (s +ℤ p) <ℤ t
  northern_apart months = all_apart (λ y year. inl (northern_gap months y year))

  pub northern_order : month_number zone.start.month + 2 ≤ month_number zone.end.month → IsNorthern zone
  northern_order months y year = let gap = northern_gap months y year in omega (arith, signed, gap, c.saving)

  -- the end's month does
  pub southern_apart : month_number zone.end.month + 2 ≤ month_number zone.start.month
      → (s t : ℤ) → IsChange zone s → IsChange zone t → s <ℤ t → (s +ℤ p) <ℤ t
  southern_apart months = all_apart (λ y year. inr (southern_gap months y year))

  pub southern_order : month_number zone.end.month + 2 ≤ month_number zone.start.month → IsSouthern zone
  southern_order months y year = let gap = southern_gap months y year in omega (arith, signed, gap, c.saving)
