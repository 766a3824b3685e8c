-- What the calls of a zone of two yearly rules and of the string that says the same give.
use Rattle.std.proofs.{Common.{◌≡◌, ⊎_elim, true, false, cond, List, [], ◌∷◌, Option, Some, None, IfSome, Ok, refl, sym, ap, ◌∙◌, subst, arith, ℤ, pos, neg_ℤ, int_eq}, lemmas.Bool.{and_from}, lemmas.Int.{ints}}
use Rattle.basics.specs.{ComparisonLaws.{le_pass}, SignedLaws.{signed}}
use Rattle.civil_base.specs.Instants.{seconds_of}
use Rattle.zone_table.specs.declared.{day.DaySpec.{DaySpec}, month.Month.{Month}, weekday.Weekday.{Weekday}}
use Rattle.zone_spans.specs.{Compiled.{compiled}, Lines.{Rulesets}, Schedules.{schedule_of_lines, totals_told, total_at, totals_of}}
use Rattle.tz_lookup.specs.{Compiles.{spans_of}, Sets.{schedule_of as schedule_in}, declared.set.FixedTimespanSet.{FixedTimespanSet}}
use Rattle.tz_posix.specs.{Agreement.{IsCovered, IsInRuleYears, IsSameDay, RuledValue, SaysTheSame, TwoRuleZone, from_first, from_eighth, from_fifteenth, from_twenty_second, last_of_month, first_year, value_of, value_total}, Days.{day_refusal}}
use Rattle.tz_posix.specs.{InForce.{is_year, rule_refusal, year_at, yearly_time}, PosixZones.{Given, Gives, GivesTotal, PosixZone, ruled, posix_refusal}, Ranges.{first_some}, Resolved.{resolved}, Seconds.{east_of}, declared.date.Date.{Date}}
use Rattle.tz_posix.specs.declared.error.Error.TheVariants.{ComponentRange}
use Rattle.tz_posix.proofs.{AgreementLemmas.{found_place, near}, NorthernLemmas.{northern_agrees}, SouthernLemmas.{southern_agrees, southern_covered}, StandardYearLemmas.{IsNear}}

-- a day that a rule may have is not refused before 9999
not_refused : (month : Month) (w : Weekday) (spec : DaySpec) (date : Date) (y : ℤ) → int_eq y (pos 9999) ≡ false
    → IsSameDay month w spec date → day_refusal date y ≡ None
unfolding day_refusal
not_refused month w _ _ y early from_first = rw early refl
not_refused month w _ _ y early from_eighth = rw early refl
not_refused month w _ _ y early from_fifteenth = rw early refl
not_refused month w _ _ y early from_twenty_second = rw early refl
not_refused month w _ _ y early last_of_month = rw early refl

in_years : (y : ℤ) → IsNear y → is_year y ≡ true
in_years y h =
    and_from _ _ (le_pass (neg_ℤ (pos 9999)) y (omega (arith, signed, h.first))) (le_pass y (pos 9999) (omega (arith, signed, h.last)))

not_last : (y : ℤ) → IsNear y → int_eq y (pos 9999) ≡ false
not_last y h = let last = h.last in grind (arith, ints)

module _ (rulesets : Rulesets) (zone : TwoRuleZone) (q : RuledValue) (c : SaysTheSame rulesets zone q) where
  agrees : (t : ℤ) → IsCovered zone (seconds_of t) → total_at (schedule_of_lines rulesets (zone.line ∷ [])) t ≡ value_total q (seconds_of t)
  agrees t covered = ⊎_elim
      (λ side. northern_agrees rulesets zone q c side.0 t side.1)
      (λ side. southern_agrees rulesets zone q c side.0 t side.1)
      covered

  covered_years : (s : ℤ) → IsCovered zone s → IsInRuleYears zone.line.offset (first_year zone.from) (pos 2099) s
  covered_years s covered = ⊎_elim (λ side. side.1) (λ side. southern_covered rulesets zone q c side.0 s side.1) covered

  -- what the zone gives is what the value gives
  pub zone_total : (set : FixedTimespanSet) → compiled rulesets (zone.line ∷ []) ≡ Ok (spans_of set) → (t : ℤ)
      → IsCovered zone (seconds_of t) → total_at (schedule_in set) t ≡ value_total q (seconds_of t)
  unfolding schedule_of_lines totals_of
  zone_total set is t covered = sym (ap (λ result. total_at (totals_told result) t) is) ∙ agrees t covered

  abbrev as_zone : PosixZone
  as_zone =
      ruled (record { name = q.standard_name; total = east_of q.standard }) (record { name = q.saving_name; total = east_of q.saving })
      (yearly_time q.rule.start) (yearly_time q.rule.end)

  zone_is : (zones : List FixedTimespanSet) (tz : PosixZone) → resolved zones (value_of q) ≡ Ok tz → as_zone ≡ tz
  unfolding resolved
  zone_is zones tz is = cc

  pub string_total : (zones : List FixedTimespanSet) (tz : PosixZone) → resolved zones (value_of q) ≡ Ok tz → (t : ℤ) (given : Given)
      → Gives tz t given → given.total ≡ value_total q (seconds_of t)
  string_total zones tz is t given gives =
      subst (λ z. Gives z t given → given.total ≡ value_total q (seconds_of t)) (zone_is zones tz is) (λ g. g.total) gives

  pub string_accepts : (zones : List FixedTimespanSet) (tz : PosixZone) → resolved zones (value_of q) ≡ Ok tz → (t : ℤ)
      → IsCovered zone (seconds_of t) → posix_refusal tz t ≡ None
  unfolding rule_refusal
  string_accepts zones tz is t covered =
      let s = seconds_of t in
      let placed = found_place rulesets zone q c s (covered_years s covered) in
      let year = placed.in_range in
      let y = year_at (east_of q.standard) s in
      let same : y ≡ year_at zone.line.offset s = ap (λ o. year_at o s) c.same_standard in
      let here = same ∙ placed.year in
      let within : is_year y ≡ true = ap is_year here ∙ in_years _ (near rulesets zone q c _ year) in
      let early : int_eq y (pos 9999) ≡ false = ap (λ z. int_eq z (pos 9999)) here ∙ not_last _ (near rulesets zone q c _ year) in
      ap (λ z. posix_refusal z t) (sym (zone_is zones tz is))
      ∙ ap (λ b. cond b (first_some (day_refusal (yearly_time q.rule.start).0 y ∷ day_refusal (yearly_time q.rule.end).0 y ∷ [])) (Some ComponentRange)) within
      ∙ (λ i. first_some (not_refused zone.start.month c.same_start.weekday zone.start.day _ y early c.same_start.day i
      ∷ not_refused zone.end.month c.same_end.weekday zone.end.day _ y early c.same_end.day i ∷ []))

-- a total that is what the string gives
pub gives_total : (tz : PosixZone) (t total : ℤ) (given : Given) (result : Option ℤ) → Gives tz t given → total ≡ given.total
    → IfSome result (λ both. both ≡ total) → IfSome result (GivesTotal tz t)
gives_total tz t total given None gives is both = tt
gives_total tz t total given (Some x) gives is both = record { given = given; gives = gives; is = sym is ∙ sym both }
