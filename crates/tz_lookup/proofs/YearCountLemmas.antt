-- The entries of a year lie between the counts of two years.
use Rattle.std.proofs.{Common.{◌≡◌, ℕ, zero, suc, ◌+◌, ◌-◌, ◌*◌, ◌<◌, ◌≤◌, Bool, true, false, cond, List, [], ◌∷◌, ◌++◌, length, map, get_or, nat_eq, filter, ℤ, pos, ◌+ℤ◌, ◌-ℤ◌, ◌≤ℤ◌, ◌<ℤ◌, refl, sym, ap, ◌∙◌, subst, ⊎_elim, arith}, lemmas.Bool.{cases_lt}}
use Rattle.std.proofs.lemmas.{Bool.Decides.{nat_tests}, Int.{ints}, List.{get_or_default, get_or_past, length-map}}
use Rattle.basics.specs.ComparisonLaws.{le_le}
use Rattle.zone_spans.specs.Entries.{Entry}
use Rattle.tz_lookup.{specs.{declared.set.FixedTimespanSet.{FixedTimespanSet}, Sets.{shift_of, shifts_of, IsBetween, IsNear}, Spans.{Shift, shift_at, TimesDontFall, IsCut}, YearCounts.{AreBefore, AreYearCounts, before_year}, Years.{year_second, years_begun, changes_in_year, HaveBegun}}, proofs.YearLemmas.{begun_up_to, years_are, year_long, year_rises}}

at_or_after : (a s : ℤ) → (s -ℤ pos 1) <ℤ a → s ≤ℤ a
at_or_after a s h = omega (arith, ints, h)

before : (a s : ℤ) → a ≤ℤ (s -ℤ pos 1) → a <ℤ s
before a s h = omega (arith, ints, h)

le_before : (a s t : ℤ) → a ≤ℤ (s -ℤ pos 1) → s ≤ℤ t → a ≤ℤ t
le_before a s t h k = omega (arith, ints, h, k)

lt_after : (a s t : ℤ) → (s -ℤ pos 1) <ℤ a → t <ℤ s → t <ℤ a
lt_after a s t h k = omega (arith, ints, h, k)

less_one : (a b : ℤ) → a ≤ℤ b → (a -ℤ pos 1) ≤ℤ (b -ℤ pos 1)
less_one a b h = omega (arith, ints, h)

opposed : (a b c : ℤ) → a ≤ℤ b → b ≤ℤ c → c <ℤ a → ⊥
opposed a b c h k l = omega (arith, ints, h, k, l)

far_before : (a s u t : ℤ) → a ≤ℤ (s -ℤ pos 1) → (s +ℤ pos 31536000) ≤ℤ u → u ≤ℤ t → (a +ℤ pos 93599) ≤ℤ t
far_before a s u t h k l = omega (arith, ints, h, k, l)

far_after : (a s u t : ℤ) → (s -ℤ pos 1) <ℤ a → (u +ℤ pos 31536000) ≤ℤ s → t <ℤ u → (t +ℤ pos 93599) <ℤ a
far_after a s u t h k l = omega (arith, ints, h, k, l)

up_to : (a s : ℤ) → a <ℤ s → a ≤ℤ (s -ℤ pos 1)
up_to a s h = omega (arith, ints, h)

above : (a s : ℤ) → s ≤ℤ a → (s -ℤ pos 1) <ℤ a
above a s h = omega (arith, ints, h)

-- the first entry that doesn't lie before a second
pub cut_before : (shifts : List Shift) (k : ℕ) (s : ℤ) → k < length shifts → TimesDontFall shifts → AreBefore shifts k s
    → s ≤ℤ (shift_at shifts k).0 → IsCut shifts k (s -ℤ pos 1)
cut_before shifts k s l times are reached = record {
  within = omega (arith, l);
  before = λ j m. up_to _ _ (are j m);
  after = λ j m n. above _ _ (le_le _ _ _ reached (times k j m n));
}

lt_le : (a s t : ℤ) → a ≤ℤ (s -ℤ pos 1) → s ≤ℤ t → a <ℤ t
lt_le a s t h k = omega (arith, ints, h, k)

-- the entries before a year lie before the next one
pub before_next : (shifts : List Shift) (k n : ℕ) → IsCut shifts k (year_second n -ℤ pos 1) → AreBefore shifts k (year_second (n + 1))
before_next shifts k n cut j l = lt_le _ _ _ (cut.before j l) (year_rises n (n + 1) (omega arith))

-- those up to the last lie before each year that hasn't begun when it comes
pub all_before : (shifts : List Shift) (last c i : ℕ) → suc last ≡ length shifts → TimesDontFall shifts → HaveBegun c (shift_at shifts last).0
    → c ≤ i → i < 1001 → IsCut shifts (length shifts) (year_second i -ℤ pos 1)
all_before shifts last c i n times begun le l = record {
  within = omega arith;
  before = λ j m. up_to _ _ (lt_le_all (times j last (omega (arith, n)) (omega (arith, n))) (begun.ahead (omega arith)) (year_rises c i le));
  after = λ j m k. absurd (omega arith);
}
  where
    lt_le_all : {a b s t : ℤ} → a ≤ℤ b → b <ℤ s → s ≤ℤ t → a <ℤ t
    lt_le_all h k m = omega (arith, ints, h, k, m)

-- no entry lies before any year
pub none_before : (shifts : List Shift) (i : ℕ) → length shifts ≡ 0 → IsCut shifts (length shifts) (year_second i -ℤ pos 1)
none_before shifts i n = record {
  within = omega arith;
  before = λ j m. absurd (omega (arith, n));
  after = λ j m k. absurd (omega arith);
}

-- the entries before a later second are more
cut_rises : (shifts : List Shift) (k l : ℕ) (s t : ℤ) → s ≤ℤ t → IsCut shifts k s → IsCut shifts l t → k ≤ l
cut_rises shifts k l s t le first second =
    ⊎_elim {C = k ≤ l}
    (λ less. absurd (opposed (shift_at shifts l).0 s t (first.before l less) le (second.after l (omega arith) (omega (arith, first.within)))))
    (λ more. omega arith)
    (cases_lt l k)

module _ (shifts : List Shift) (counts : List ℕ) (n : ℕ) (all : n ≡ length shifts) (are : AreYearCounts shifts counts) where
  -- the entries before each year
  cut_at : (i : ℕ) → i < 1001 → IsCut shifts (before_year counts n (suc i)) (year_second i -ℤ pos 1)
  cut_at i l =
      ⊎_elim {C = IsCut shifts (before_year counts n (suc i)) (year_second i -ℤ pos 1)}
      (λ kept. subst (λ k. IsCut shifts k (year_second i -ℤ pos 1)) (get_or_default counts i 0 n kept) (are.each i kept))
      (λ later. subst (λ k. IsCut shifts k (year_second i -ℤ pos 1))
      (sym (get_or_past counts i n later ∙ all)) (are.later i later l))
      (cases_lt i (length counts))

  -- all of them lie before what comes after the years
  all_at_end : (c : ℕ) → 1001 ≤ c → before_year counts n (suc c) ≡ n
  all_at_end c l = get_or_past counts c n (omega (arith, l, are.few))

  pub upper : (c : ℕ) → before_year counts n (suc c) ≤ length shifts
  upper c =
      ⊎_elim {C = before_year counts n (suc c) ≤ length shifts}
      (λ less. (cut_at c less).within)
      (λ same. omega (arith, all, all_at_end c same))
      (cases_lt c 1001)

  rises : (c : ℕ) → before_year counts n c ≤ before_year counts n (suc c)
  rises zero = omega arith
  rises (suc c) =
      ⊎_elim {C = before_year counts n (suc c) ≤ before_year counts n (suc (suc c))}
      (λ less. cut_rises shifts _ _ _ _ (less_one _ _ (year_rises c (suc c) (omega arith))) (cut_at c (omega arith)) (cut_at (suc c) less))
      (λ same. omega (arith, all, all_at_end (suc c) same, upper c))
      (cases_lt (suc c) 1001)

  pub between_is : (c : ℕ) (t : ℤ) → HaveBegun c t → IsBetween shifts (before_year counts n c) (before_year counts n (suc c)) t
  between_is c t begun = record {
    order = rises c;
    within = upper c;
    before = earlier c begun;
    after = λ j l m.
        ⊎_elim {C = t <ℤ (shift_at shifts j).0}
        (λ less. lt_after _ _ _ ((cut_at c less).after j l m) (begun.ahead less))
        (λ same. absurd (omega (arith, all_at_end c same, l, m, all)))
        (cases_lt c 1001);
  }
    where
      earlier : (c : ℕ) → HaveBegun c t → (j : ℕ) → j < before_year counts n c → (shift_at shifts j).0 ≤ℤ t
      earlier zero begun j l = absurd (omega arith)
      earlier (suc c) begun j l =
          le_before _ _ _ ((cut_at c (omega (arith, begun.within))).before j l) (begun.begun c (omega arith))

  -- the entries of a second's year, of the one before and of the one after
  pub near_is : (c : ℕ) (t : ℤ) → HaveBegun c t → IsNear shifts (before_year counts n (c - 1)) (before_year counts n (suc (suc c))) t
  near_is c t begun = record {
    order = omega (arith, last_rises c, rises c, rises (suc c));
    within = upper (suc c);
    before = earlier c begun;
    after = λ j l m.
        ⊎_elim {C = (t +ℤ pos 93599) <ℤ (shift_at shifts j).0}
        (λ less. far_after _ _ _ _ ((cut_at (suc c) less).after j l m) (year_long c) (begun.ahead (omega arith)))
        (λ same. absurd (omega (arith, all_at_end (suc c) same, l, m, all)))
        (cases_lt (suc c) 1001);
  }
    where
      one_less : (c : ℕ) → c ≡ suc c - 1
      one_less c = omega arith

      last_rises : (c : ℕ) → before_year counts n (c - 1) ≤ before_year counts n c
      last_rises zero = omega arith
      last_rises (suc c) = subst (λ k. before_year counts n k ≤ before_year counts n (suc c)) (one_less c) (rises c)

      earlier : (c : ℕ) → HaveBegun c t → (j : ℕ) → j < before_year counts n (c - 1) → ((shift_at shifts j).0 +ℤ pos 93599) ≤ℤ t
      earlier zero begun j l = absurd (omega arith)
      earlier (suc zero) begun j l = let none = subst (λ k. j < before_year counts n k) (sym (one_less 0)) l in absurd (omega (arith, none))
      earlier (suc (suc c)) begun j l =
          far_before (shift_at shifts j).0 (year_second c) (year_second (suc c)) t ((cut_at c (omega (arith, begun.within))).before j (subst (λ k. j < before_year counts n k) (sym (one_less (suc c))) l)) (year_long c) (begun.begun (suc c) (omega arith))

  -- an entry between them is in that year
  pub in_year : (c : ℕ) → c ≤ 1001 → (i : ℕ) → before_year counts n c ≤ i → i < before_year counts n (suc c) → HaveBegun c (shift_at shifts i).0
  in_year c l i low high = by_year c l low high
    where
      ahead_of : (c : ℕ) → i < before_year counts n (suc c) → c < 1001 → (shift_at shifts i).0 <ℤ year_second c
      ahead_of c high less = before _ _ ((cut_at c less).before i high)

      by_year : (c : ℕ) → c ≤ 1001 → before_year counts n c ≤ i → i < before_year counts n (suc c) → HaveBegun c (shift_at shifts i).0
      by_year zero l low high = record {
        within = omega arith;
        begun = λ j m. absurd (omega arith);
        ahead = ahead_of 0 high;
      }
      by_year (suc c) l low high =
          let inside : i < length shifts = omega (arith, high, upper (suc c)) in
          begun_up_to c (shift_at shifts i).0 l (at_or_after _ _ ((cut_at c (omega arith)).after i low inside)) (ahead_of (suc c) high)

-- a test that passes from one place to another passes at least so often
passing : {X : Type 0} (test : X → Bool) (xs : List X) (low high : ℕ) → high ≤ length xs
    → ((i : ℕ) (d : X) → low ≤ i → i < high → test (get_or xs i d) ≡ true) → high - low ≤ length (filter test xs)
passing test [] low high l pass = omega arith
passing test (x ∷ xs) low zero l pass = omega arith
passing test (x ∷ xs) zero (suc high) l pass =
    let rest = passing test xs 0 high (omega arith) (λ i d m k. pass (suc i) d (omega arith) (omega arith)) in
    let here : filter test (x ∷ xs) ≡ x ∷ filter test xs = ap (λ b. cond b (x ∷ filter test xs) (filter test xs)) (pass 0 x (omega arith) (omega arith)) in
    omega (arith, rest, ap length here)
passing test (x ∷ xs) (suc low) (suc high) l pass =
    let rest = passing test xs low high (omega arith) (λ i d m k. pass (suc i) d (omega arith) (omega arith)) in
    by_test (test x) rest
  where
    by_test : (b : Bool) → high - low ≤ length (filter test xs) → suc high - suc low ≤ length (cond b (x ∷ filter test xs) (filter test xs))
    by_test true rest = omega (arith, rest)
    by_test false rest = omega (arith, rest)

same_number : (a b : ℕ) → a ≡ b → nat_eq a b ≡ true
same_number a b e = grind (arith, nat_tests)

shift_there : (es : List Entry) (i : ℕ) (d : Entry) → i < length es → (shift_at (map shift_of es) i).0 ≡ (get_or es i d).0
shift_there [] i d l = absurd (omega (arith, l))
shift_there (e ∷ es) zero d l = refl
shift_there (e ∷ es) (suc i) d l = shift_there es i d (omega (arith, l))

-- the entries between the counts are changes of the year
pub year_changes : (set : FixedTimespanSet) (counts : List ℕ) (c : ℕ) (t : ℤ) → AreYearCounts (shifts_of set) counts → HaveBegun c t
    → before_year counts (length set.others) (suc c) - before_year counts (length set.others) c ≤ changes_in_year set t
unfolding changes_in_year
year_changes set counts c t are begun =
    let n = length set.others in
    let all : n ≡ length (shifts_of set) = sym (length-map set.others shift_of) in
    let between = between_is (shifts_of set) counts n all are c t begun in
    passing (λ (e : Entry). nat_eq (years_begun e.0) (years_begun t)) set.others (before_year counts n c) (before_year counts n (suc c))
    (omega (arith, between.within, all))
    (λ i d low high.
    let there = shift_there set.others i d (omega (arith, high, between.within, all)) in
    let year = in_year (shifts_of set) counts n all are c begun.within i low high in
    same_number _ _ (ap years_begun (sym there) ∙ years_are c _ year ∙ sym (years_are c t begun)))

-- the count before one more year
pub counts_more : (shifts : List Shift) (counts : List ℕ) (k n : ℕ) → length counts ≡ n
    → ((i : ℕ) → i < n → IsCut shifts (get_or counts i 0) (year_second i -ℤ pos 1)) → IsCut shifts k (year_second n -ℤ pos 1)
    → (i : ℕ) → i < n + 1 → IsCut shifts (get_or (counts ++ k ∷ []) i 0) (year_second i -ℤ pos 1)
counts_more shifts counts k n size each last i l =
    ⊎_elim {C = IsCut shifts (get_or (counts ++ k ∷ []) i 0) (year_second i -ℤ pos 1)}
    (λ less. subst (λ c. IsCut shifts c (year_second i -ℤ pos 1)) (sym (earlier counts i (omega (arith, size)))) (each i less))
    (λ same. let this : n ≡ i = omega arith in
    subst (λ j. IsCut shifts (get_or (counts ++ k ∷ []) j 0) (year_second j -ℤ pos 1)) this
    (subst (λ c. IsCut shifts c (year_second n -ℤ pos 1)) (sym (at_end counts n size)) last))
    (cases_lt i n)
  where
    earlier : (counts : List ℕ) (i : ℕ) → i < length counts → get_or (counts ++ k ∷ []) i 0 ≡ get_or counts i 0
    earlier [] i l = absurd (omega (arith, l))
    earlier (c ∷ counts) zero l = refl
    earlier (c ∷ counts) (suc i) l = earlier counts i (omega (arith, l))

    at_end : (counts : List ℕ) (n : ℕ) → length counts ≡ n → get_or (counts ++ k ∷ []) n 0 ≡ k
    at_end [] zero e = refl
    at_end [] (suc n) e = absurd (omega (arith, e))
    at_end (c ∷ counts) zero e = absurd (omega (arith, e))
    at_end (c ∷ counts) (suc n) e = at_end counts n (omega (arith, e))

-- the search's cost by the changes
pub paid_by : (power entries changes : ℕ) → power ≤ 2 * entries + 1 → entries ≤ changes → power ≤ 2 * changes + 1
paid_by power entries changes paid few = omega (arith, paid, few)
