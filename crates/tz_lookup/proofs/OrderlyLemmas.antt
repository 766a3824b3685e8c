-- A zone is found orderly by its neighbours.
use Rattle.std.proofs.{Common.{◌≡◌, ℕ, ◌+◌, ◌<◌, ◌≤◌, List, length, ℤ, ◌≤ℤ◌, ◌<ℤ◌, refl, sym, ap, subst, ⊎_elim, arith}, lemmas.Int.{ints, by_lt_z}, lemmas.Bool.{cases_lt}}
use Rattle.basics.specs.ComparisonLaws.{le_le, lt_le, le_from_eq}
use Rattle.tz_lookup.specs.Spans.{Shift, local_start, local_end, IsOrderly}

never : (a b c : ℤ) → a <ℤ b → b ≤ℤ c → c ≤ℤ a → ⊥
never a b c h k l = omega (arith, ints)

-- spans up to i are in order
pub record IsOrderlyUpTo (first : ℤ) (shifts : List Shift) (i : ℕ) : Type 0 where
  pub starts : (a b : ℕ) → 0 < a → a ≤ b → b ≤ i → b ≤ length shifts → local_start shifts a ≤ℤ local_start shifts b
  pub ends : (a b : ℕ) → a ≤ b → b < i → b < length shifts → local_end first shifts a ≤ℤ local_end first shifts b
  pub apart : (a : ℕ) → a + 2 ≤ i → a + 2 ≤ length shifts → local_end first shifts a ≤ℤ local_start shifts (a + 2)

module _ (first : ℤ) (shifts : List Shift) where
  same_starts : (a b : ℕ) → a ≡ b → local_start shifts a ≤ℤ local_start shifts b
  same_starts a b e = le_from_eq _ _ (ap (local_start shifts) e)

  same_ends : (a b : ℕ) → a ≡ b → local_end first shifts a ≤ℤ local_end first shifts b
  same_ends a b e = le_from_eq _ _ (ap (local_end first shifts) e)

  -- the first two spans are always in order
  pub one_orderly : IsOrderlyUpTo first shifts 1
  one_orderly = record {
    starts = λ a b some l m n. same_starts a b (omega arith);
    ends = λ a b l m n. same_ends a b (omega arith);
    apart = λ a l m. absurd (omega arith);
  }

  pub orderly_more : (h i : ℕ) → h + 1 ≡ i → IsOrderlyUpTo first shifts i → local_start shifts i ≤ℤ local_start shifts (i + 1)
      → local_end first shifts h ≤ℤ local_end first shifts i → local_end first shifts h ≤ℤ local_start shifts (i + 1)
      → IsOrderlyUpTo first shifts (i + 1)
  orderly_more h i e so_far start end far = record {
    starts = λ a b some l m n.
        ⊎_elim {C = local_start shifts a ≤ℤ local_start shifts b}
        (λ before. so_far.starts a b some l (omega arith) n)
        (λ after.
        let last : b ≡ i + 1 = omega arith in
        ⊎_elim {C = local_start shifts a ≤ℤ local_start shifts b}
        (λ less. le_le _ _ _ (so_far.starts a i some (omega arith) (omega arith) (omega arith))
        (subst (λ k. local_start shifts i ≤ℤ local_start shifts k) (sym last) start))
        (λ same. same_starts a b (omega arith))
        (cases_lt a b))
        (cases_lt b (i + 1));
    ends = λ a b l m n.
        ⊎_elim {C = local_end first shifts a ≤ℤ local_end first shifts b}
        (λ before. so_far.ends a b l before n)
        (λ after.
        let last : i ≡ b = omega arith in
        ⊎_elim {C = local_end first shifts a ≤ℤ local_end first shifts b}
        (λ less. le_le _ _ _ (so_far.ends a h (omega arith) (omega arith) (omega arith))
        (subst (λ k. local_end first shifts h ≤ℤ local_end first shifts k) last end))
        (λ same. same_ends a b (omega arith))
        (cases_lt a b))
        (cases_lt b i);
    apart = λ a l m.
        ⊎_elim {C = local_end first shifts a ≤ℤ local_start shifts (a + 2)}
        (λ before. so_far.apart a (omega arith) m)
        (λ after.
        let this : h ≡ a = omega arith in
        let next : i + 1 ≡ a + 2 = omega arith in
        subst (λ k. local_end first shifts a ≤ℤ local_start shifts k) next
        (subst (λ k. local_end first shifts k ≤ℤ local_start shifts (i + 1)) this far))
        (cases_lt (a + 2) (i + 1));
  }

  pub orderly_all : (i : ℕ) → length shifts ≤ i → IsOrderlyUpTo first shifts i → IsOrderly first shifts
  orderly_all i all h = record {
    starts = λ a b some l m. h.starts a b some l (omega arith) m;
    ends = λ a b l m. h.ends a b l (omega arith) m;
    apart =
        λ a x p q. never _ _ _ (p.lasts (omega (arith, q.within))) (h.apart a (omega (arith, q.within)) q.within) (q.begun (omega arith));
  }

  -- what an orderly zone says of neighbours
  pub start_goes : (i : ℕ) → 0 < i → i + 1 ≤ length shifts → IsOrderly first shifts → local_start shifts i ≤ℤ local_start shifts (i + 1)
  start_goes i some l h = h.starts i (i + 1) some (omega arith) l

  pub end_goes : (g i : ℕ) → g + 1 ≡ i → i < length shifts → IsOrderly first shifts → local_end first shifts g ≤ℤ local_end first shifts i
  end_goes g i e l h = h.ends g i (omega arith) l

  -- else the later start lies in both
  pub far_apart : (g i : ℕ) → g + 1 ≡ i → i + 1 ≤ length shifts → IsOrderly first shifts
      → local_start shifts (i + 1) <ℤ local_end first shifts g → ⊥
  far_apart g i e l h near =
      let next : i + 1 ≡ g + 2 = omega arith in
      let x = local_start shifts (g + 2) in
      let close : x <ℤ local_end first shifts g = subst (λ k. local_start shifts k <ℤ local_end first shifts g) next near in
      h.apart g x
      (record { within = omega arith; begun = λ some. h.starts g (g + 2) some (omega arith) (omega arith); lasts = λ _. close })
      (record {
        within = omega arith;
        begun = λ some. same_starts (g + 2) (g + 2) refl;
        lasts = λ more. lt_le _ _ _ close
            (h.ends g (g + 2) (omega arith) more);
      })

  pub neighbours_go : (g i : ℕ) → g + 1 ≡ i → i + 1 ≤ length shifts → IsOrderly first shifts
      → (local_start shifts i ≤ℤ local_start shifts (i + 1)) × (local_end first shifts g ≤ℤ local_end first shifts i)
      × (local_end first shifts g ≤ℤ local_start shifts (i + 1))
  neighbours_go g i e l h = (
    start_goes i (omega arith) l h,
    end_goes g i e (omega arith) h,
    by_lt_z {P = local_end first shifts g ≤ℤ local_start shifts (i + 1)} (local_start shifts (i + 1)) (local_end first shifts g)
        (λ near. absurd (far_apart g i e l h near)) (λ far. far),
  )
