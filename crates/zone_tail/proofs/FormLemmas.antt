-- The form of the last year, by what is found of its entries.
use Rattle.std.proofs.{Common.{◌≡◌, ℕ, suc, ◌<◌, Bool, true, false, cond, List, [], ◌∷◌, ℤ, pos, ◌-ℤ◌, int_lt, inl, inr, refl, sym, ap, ◌∙◌, subst, arith}, lemmas.Int.{ints}}
use Rattle.basics.specs.ComparisonLaws.{lt_from_pass, lt_pass}
use Rattle.zone_spans.specs.{Entries.{Entry}, declared.span.FixedTimespan.{FixedTimespan}}
use Rattle.tz_lookup.specs.{Sets.{shifts_of, span_in}, Spans.{IsCut}, declared.set.FixedTimespanSet.{FixedTimespanSet}}
use Rattle.zone_tail.specs.{LastYear.{Form, steady, yearly, other, are_start_and_end, entries_between, form, form_of, span_from, standard_of, year_begin, year_end}, Shapes.{entry_in, AreRising, IsForm, IsShape}, Totals.{IsCount}}
use Rattle.zone_tail.specs.declared.last_year.Shape.TheVariants.{Steady, Pair, Other}
use Rattle.zone_tail.proofs.ShapeLemmas.{span_from-count}
use Rattle.zone_tail.specs.declared.last_year.Form.TheVariants as code

module _ (set : FixedTimespanSet) where
  abbrev offset : ℤ
  offset = standard_of set

  abbrev low : ℤ
  low = year_begin -ℤ standard_of set

  abbrev high : ℤ
  high = year_end -ℤ standard_of set

  abbrev between : List Entry
  between = entries_between set.others low high

  abbrev first : FixedTimespan
  first = span_from set.first set.others low

  -- as many entries as lie before the year lie at or before its beginning, where it has none
  pub cut_at_low : (k : ℕ) → IsCount (shifts_of set) low k → IsCount (shifts_of set) high k → IsCut (shifts_of set) k low
  cut_at_low k begins ends = record {
    within = begins.within;
    before = λ j l. let a = begins.before j l in omega (arith, ints, a);
    after = λ j l m. let a = ends.after j l m in omega (arith, ints, a);
  }

  pub steady_form : (k : ℕ) → IsShape set low high (Steady k) → IsForm set (code.Steady k)
  unfolding form
  steady_form k shape = (
    ap (form_of offset first) shape.0 ∙ ap (λ span. steady span) (span_from-count set k low (cut_at_low k shape.1 shape.2)),
    shape.1,
    shape.2,
  )

  pub other_form : IsShape set low high Other → IsForm set code.Other
  unfolding form
  other_form shape = none between shape.0 shape.1
    where
      not_rising : (b : Bool) (two : Form) → (b ≡ true → ⊥) → cond b two other ≡ other
      not_rising true two h = absurd (h refl)
      not_rising false two h = refl

      none : (es : List Entry) → (es ≡ [] → ⊥) → ((x y : Entry) → AreRising es x y → ⊥) → form_of offset first es ≡ other
      none [] some pair = absurd (some refl)
      none (x ∷ []) some pair = refl
      none (x ∷ y ∷ []) some pair = not_rising (int_lt x.0 y.0) _ (λ h. pair x y (refl, lt_from_pass x.0 y.0 h))
      none (x ∷ y ∷ z ∷ es) some pair = refl

  module _ (e f : ℕ) (shape : IsShape set low high (Pair e f)) where
    abbrev x : Entry
    x = entry_in set e

    abbrev y : Entry
    y = entry_in set (suc e)

    by_tests : (b c : Bool) → are_start_and_end offset x y ≡ b → are_start_and_end offset y x ≡ c → form set ≡ cond b (yearly x y) (cond c (yearly y x) other)
    unfolding form
    by_tests b c one two =
        ap (form_of offset first) shape.0.0
        ∙ (λ i. cond (lt_pass x.0 y.0 shape.0.1 i) (cond (one i) (yearly x y) (cond (two i) (yearly y x) other)) other)

    bound : suc e < 18446744073709551615
    bound = omega (arith, shape.1, shape.2)

    next : suc e ≡ f
    next = sym shape.1

    pub starts_first : are_start_and_end offset (entry_in set e) (entry_in set f) ≡ true → IsForm set (code.Yearly e f)
    starts_first h =
        let test = subst (λ n. are_start_and_end offset x (entry_in set n) ≡ true) shape.1 h in
        subst (λ n. IsForm set (code.Yearly e n)) next (
          by_tests true (are_start_and_end offset y x) test refl,
          record { first = e; order = inl (refl, refl); rising = shape.0.1; begins = shape.3; ends = shape.4; bound = bound; are = test },
        )

    pub ends_first : are_start_and_end offset (entry_in set e) (entry_in set f) ≡ false → are_start_and_end offset (entry_in set f) (entry_in set e) ≡ true
        → IsForm set (code.Yearly f e)
    ends_first not_start h =
        let one = subst (λ n. are_start_and_end offset x (entry_in set n) ≡ false) shape.1 not_start in
        let test = subst (λ n. are_start_and_end offset (entry_in set n) x ≡ true) shape.1 h in
        subst (λ n. IsForm set (code.Yearly n e)) next (
          by_tests false true one test,
          record { first = e; order = inr (refl, refl); rising = shape.0.1; begins = shape.3; ends = shape.4; bound = bound; are = test },
        )

    pub neither : are_start_and_end offset (entry_in set e) (entry_in set f) ≡ false → are_start_and_end offset (entry_in set f) (entry_in set e) ≡ false
        → IsForm set code.Other
    neither not_start not_end =
        by_tests false false (subst (λ n. are_start_and_end offset x (entry_in set n) ≡ false) shape.1 not_start)
        (subst (λ n. are_start_and_end offset (entry_in set n) x ≡ false) shape.1 not_end)

-- the standard offset at the beginning of 2100 is that of the span of the last entry at or before it
pub standard_from_count : (set : FixedTimespanSet) (k : ℕ) → IsCount (shifts_of set) (pos 4102444801 -ℤ pos 0) k → (span_in set k).utc_offset ≡ standard_of set
unfolding standard_of
standard_from_count set k count = ap (λ (s : FixedTimespan). s.utc_offset) (sym (span_from-count set k year_end (record {
  within = count.within;
  before = λ j l. let a = count.before j l in omega (arith, ints, a);
  after = λ j l m. let a = count.after j l m in omega (arith, ints, a);
})))
