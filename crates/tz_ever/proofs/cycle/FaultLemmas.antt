-- A day outside its year is met in the first 700 years, or never; and the first span is the same over more years.
use Rattle.std.proofs.{Common.{◌≡◌, refl, true, false, pos, arith, ◌≤◌, ℤ, ◌+ℤ◌, ◌∙◌, sym, ℕ, ◌+◌, ◌*◌, ◌<◌, Bool, ◌&&◌, ◌||◌, ◌≤ℤ◌, int_le, zero, suc, ap, ◌-◌, inl, inr, not, int_lt}, lemmas.Bool.{cases_lt, cases_Bool}, lemmas.Int.{ints}}
use Rattle.basics.specs.{Days.{day}, SignedLaws.{signed}}
use Rattle.zone_table.specs.{Days.{named_day, is_in_year}, Moments.{applies_to_year}, declared.rule.RuleInfo.{RuleInfo}}
use Rattle.zone_spans.specs.{Faults.{is_outside, some_year}, Years.{earliest_year}, Cycle.{days_on, next_cycle}, Settled.{is_settled}}
use Rattle.tz_ever.proofs.cycle.{DayLemmas.{day-repeats}, MomentLemmas.{named_day-repeats}, SettledLemmas.{applies-settled}}

le_moved : (a b : ℤ) → int_le (days_on a) (days_on b) ≡ int_le a b
le_moved a b = grind (arith, ints)

lt_moved : (a b : ℤ) → int_lt (days_on a) (days_on b) ≡ int_lt a b
lt_moved a b = grind (arith, ints)

pub is_in_year-repeats : (k y : ℤ) → pos 0 ≤ℤ y → is_in_year (days_on k) (next_cycle y) ≡ is_in_year k y
unfolding is_in_year
is_in_year-repeats k y h =
    let next : next_cycle y +ℤ pos 1 ≡ next_cycle (y +ℤ pos 1) = omega (arith, signed) in
    let here = day-repeats y 1 1 h in
    let there = ap (λ z. day z 1 1) next ∙ day-repeats (y +ℤ pos 1) 1 1 (omega (arith, signed)) in
    (λ i. int_le (here i) (days_on k) && int_lt (days_on k) (there i))
    ∙ (λ i. le_moved (day y 1 1) k i && lt_moved k (day (y +ℤ pos 1) 1 1) i)

pub is_outside-repeats : (rule : RuleInfo) (y : ℤ) → is_settled rule ≡ true → pos 2100 ≤ℤ y
    → is_outside rule (next_cycle y) ≡ is_outside rule y
unfolding is_outside
is_outside-repeats rule y settled late =
    let applies : applies_to_year rule (next_cycle y) ≡ applies_to_year rule y =
    applies-settled rule (next_cycle y) settled (omega (arith, signed)) ∙ sym (applies-settled rule y settled late) in
    let h : pos 0 ≤ℤ y = omega (arith, signed) in
    let inside = ap (λ k. is_in_year k (next_cycle y)) (named_day-repeats rule.day y rule.month h)
    ∙ is_in_year-repeats (named_day rule.day y rule.month) y h in
    (λ i. applies i && not (inside i))

or_left : (a b : Bool) → a ≡ true → a || b ≡ true
or_left true b h = refl
or_left false b h = absurd cc

pub or_right : (a b : Bool) → b ≡ true → a || b ≡ true
or_right true b h = refl
or_right false b h = h

pub or_none : (a b : Bool) → b ≡ false → a || b ≡ a
or_none true b h = refl
or_none false b h = h

some_year-has : (test : ℤ → Bool) (n i : ℕ) → i < n → test (pos (earliest_year + i)) ≡ true → some_year test n ≡ true
unfolding some_year
some_year-has test zero i below h = absurd (omega arith)
some_year-has test (suc n) i below h =
    elim (cases_lt i n) [
      | inl less ↦ or_left (some_year test n) (test (pos (earliest_year + n))) (some_year-has test n i less h)
      | inr not_less ↦ let same : i ≡ n = omega arith in
          or_right (some_year test n) (test (pos (earliest_year + n))) (ap (λ m. test (pos (earliest_year + m))) (sym same) ∙ h)
    ]

-- the test says the same in the next cycle
abbrev pub Repeats : (ℤ → Bool) → Type 0
Repeats test = (y : ℤ) → pos 2100 ≤ℤ y → test (next_cycle y) ≡ test y

pub found_in_first : (test : ℤ → Bool) → Repeats test → (cycles i : ℕ) → 300 ≤ i → i < cycles * 400 + 700
    → test (pos (earliest_year + i)) ≡ true → some_year test 700 ≡ true
found_in_first test repeats zero i late below h = some_year-has test 700 i (omega arith) h
found_in_first test repeats (suc cycles) i late below h =
    elim (cases_lt i 700) [
      | inl within ↦ some_year-has test 700 i within h
      | inr past ↦
          let year : pos (earliest_year + i) ≡ next_cycle (pos (earliest_year + (i - 400))) = omega (arith, signed) in
          found_in_first test repeats cycles (i - 400) (omega arith) (omega arith)
          (sym (repeats (pos (earliest_year + (i - 400))) (omega (arith, signed))) ∙ ap test (sym year) ∙ h)
    ]

-- over more years than 700 the test is met where it is over 700
pub some_year-more : (test : ℤ → Bool) → Repeats test → (n : ℕ) → some_year test (n + 700) ≡ some_year test 700
unfolding some_year
some_year-more test repeats zero = let same : 0 + 700 ≡ 700 = omega arith in ap (some_year test) same
some_year-more test repeats (suc n) =
    let next : suc n + 700 ≡ suc (n + 700) = omega arith in
    let here = test (pos (earliest_year + (n + 700))) in
    ap (some_year test) next ∙ ap (λ b. b || here) (some_year-more test repeats n)
    ∙ elim (cases_Bool here) [
      | inl met ↦ or_right (some_year test 700) here met ∙ sym (found_in_first test repeats (suc n) (n + 700) (omega arith) (omega arith) met)
      | inr not_met ↦ or_none (some_year test 700) here not_met
    ]

pub outside-more : (rule : RuleInfo) (n : ℕ) → is_settled rule ≡ true → some_year (is_outside rule) (n + 700) ≡ some_year (is_outside rule) 700
outside-more rule n settled = some_year-more (is_outside rule) (λ y late. is_outside-repeats rule y settled late) n
