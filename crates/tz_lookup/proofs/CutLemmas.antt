-- A search among entries for the last one at or before a second.
use Rattle.std.proofs.{Common.{◌≡◌, ℕ, zero, suc, ◌+◌, ◌<◌, ◌≤◌, List, length, ℤ, int_le, int_lt, ltb, subst, ⊎_elim, arith}, lemmas.Bool.{cases_lt}}
use Rattle.std.specs.{Prelude.{◌&&◌}, declared.cmp.Ordering.TheVariants.{Less, Equal, Greater}}
use Rattle.basics.specs.ComparisonLaws.{le_le, lt_fail, lt_from_fail, lt_from_pass, lt_le, lt_pass, opposed}
use Rattle.tz_lookup.{specs.{Spans.{Shift, shift_at, TimesDontFall, IsCut}, Search.{GoesUp}, Sets.{order_at, IsBetween}}, proofs.{SpanLemmas.{cut_of}, ChoiceLemmas.{AreApart, choose_first, choose_second, choose_third, chosen_first, chosen_second, chosen_third}, PlaceLemmas.{ended_false, ended_true, is_ended, not_ended}}}

apart : AreApart Greater Less Equal
apart = (λ e. cc, λ e. cc, λ e. cc)

module _ (shifts : List Shift) (x : ℤ) where
  pub cut_goes_up : (low high : ℕ) → high ≤ length shifts → TimesDontFall shifts → GoesUp (λ k. order_at shifts k x) low high
  cut_goes_up low high size times = record {
    before = λ i j _ l m e.
        let is = chosen_second apart (int_lt x (shift_at shifts j).0) (ltb (j + 1) (length shifts) && int_le (shift_at shifts (j + 1)).0 x) e in
        let next = ended_true (j + 1) (length shifts) (shift_at shifts (j + 1)).0 x is.1 in
        choose_second Greater Less Equal (int_lt x (shift_at shifts i).0) (ltb (i + 1) (length shifts) && int_le (shift_at shifts (i + 1)).0 x)
        (lt_fail _ _ (le_le _ _ _ (times i j l (omega (arith, next.0))) (lt_from_fail _ _ is.0)))
        (is_ended (i + 1) (length shifts) _ x (omega (arith, next.0)) (le_le _ _ _ (times (i + 1) (j + 1) (omega arith) next.0) next.1));
    after = λ i j _ l m e.
        let is =
        lt_from_pass _ _ (chosen_first apart (int_lt x (shift_at shifts i).0)
        (ltb (i + 1) (length shifts) && int_le (shift_at shifts (i + 1)).0 x) e) in
        choose_first Greater Less Equal (int_lt x (shift_at shifts j).0) (ltb (j + 1) (length shifts) && int_le (shift_at shifts (j + 1)).0 x)
        (lt_pass _ _ (lt_le _ _ _ is (times i j l (omega (arith, m, size)))));
  }

  pub cut_found : (k : ℕ) → k < length shifts → TimesDontFall shifts → order_at shifts k x ≡ Equal → IsCut shifts (k + 1) x
  cut_found k l times e =
      let is = chosen_third apart (int_lt x (shift_at shifts k).0) (ltb (k + 1) (length shifts) && int_le (shift_at shifts (k + 1)).0 x) e in
      record {
        within = omega arith;
        before = λ j m. le_le _ _ _ (times j k (omega arith) l) (lt_from_fail _ _ is.0);
        after = λ j m n. lt_le _ _ _ (ended_false (k + 1) (length shifts) _ x is.1 (omega arith)) (times (k + 1) j m n);
      }

  lies : (k : ℕ) → IsCut shifts (suc k) x → order_at shifts k x ≡ Equal
  lies k cut =
      choose_third Greater Less Equal (int_lt x (shift_at shifts k).0) (ltb (k + 1) (length shifts) && int_le (shift_at shifts (k + 1)).0 x)
      (lt_fail _ _ (cut.before k (omega arith)))
      (not_ended (k + 1) (length shifts) _ x (λ l. cut.after (k + 1) (omega arith) l))

  -- where no entry between low and high is the last, none of them is at or before x
  pub cut_lowest : (low high : ℕ) → TimesDontFall shifts → IsBetween shifts low high x
      → ((k : ℕ) → low ≤ k → k < high → order_at shifts k x ≡ Equal → ⊥) → IsCut shifts low x
  cut_lowest low high times between none =
      let cut = cut_of shifts x times in
      let least : low ≤ cut.0 =
      ⊎_elim {C = low ≤ cut.0}
      (λ l. absurd (opposed _ _ (cut.1.after cut.0 (omega arith) (omega (arith, between.order, between.within)))
      (between.before cut.0 l))) (λ l. l) (cases_lt cut.0 low) in
      let most : cut.0 ≤ high =
      ⊎_elim {C = cut.0 ≤ high}
      (λ l. absurd (opposed _ _ (between.after high (omega arith) (omega (arith, cut.1.within))) (cut.1.before high l))) (λ l. l)
      (cases_lt high cut.0) in
      at_lowest cut.0 cut.1 least most
    where
      at_lowest : (k : ℕ) → IsCut shifts k x → low ≤ k → k ≤ high → IsCut shifts low x
      at_lowest zero cut l m = let same : zero ≡ low = omega arith in subst (λ n. IsCut shifts n x) same cut
      at_lowest (suc k) cut l m =
          ⊎_elim {C = IsCut shifts low x}
          (λ some. absurd (none k (omega arith) (omega arith) (lies k cut)))
          (λ same. let e : suc k ≡ low = omega arith in subst (λ n. IsCut shifts n x) e cut)
          (cases_lt low (suc k))
