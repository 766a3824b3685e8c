-- Totals by spans.
use Rattle.std.proofs.{Common.{◌≡◌, ℕ, zero, suc, ◌+◌, ◌<◌, ◌≤◌, List, [], ◌∷◌, length, ℤ, ◌+ℤ◌, ◌-ℤ◌, ◌≤ℤ◌, ◌<ℤ◌, sym, ap, ◌∙◌, ⊎_elim, arith}, lemmas.Int.{ints, by_lt_z}, lemmas.Bool.{cases_lt}}
use Rattle.basics.specs.ComparisonLaws.{lt_le, le_le}
use Rattle.tz_lookup.specs.{SpanLaws.{total_from_cut}, Spans.{total_from, Shift, shift_at, total_of, IsIn, TimesDontFall, IsOrderly, IsCut}}

pub times_tail : (s : Shift) (ss : List Shift) → TimesDontFall (s ∷ ss) → TimesDontFall ss
times_tail s ss h i j le l = h (suc i) (suc j) (omega arith) (omega arith)

before_more : (s : Shift) (ss : List Shift) (k : ℕ) (t : ℤ) → s.0 ≤ℤ t → ((j : ℕ) → j < k → (shift_at ss j).0 ≤ℤ t) → (j : ℕ) → j < suc k
    → (shift_at (s ∷ ss) j).0 ≤ℤ t
before_more s ss k t here rest zero l = here
before_more s ss k t here rest (suc j) l = rest j (omega arith)

after_more : (s : Shift) (ss : List Shift) (k : ℕ) (t : ℤ) → ((j : ℕ) → k ≤ j → j < length ss → t <ℤ (shift_at ss j).0) → (j : ℕ)
    → suc k ≤ j → j < length (s ∷ ss) → t <ℤ (shift_at (s ∷ ss) j).0
after_more s ss k t rest zero l m = absurd (omega arith)
after_more s ss k t rest (suc j) l m = rest j (omega arith) (omega arith)

-- every second cuts times that don't fall
pub cut_of : (shifts : List Shift) (t : ℤ) → TimesDontFall shifts → (k : ℕ) × IsCut shifts k t
cut_of [] t h = (
  0,
  record {
    within = omega arith;
    before = λ j l. absurd (omega arith);
    after = λ j l m. absurd (omega arith);
  },
)
cut_of (s ∷ ss) t h =
    by_lt_z {P = (k : ℕ) × IsCut (s ∷ ss) k t} t s.0
    (λ lt. (
      0,
      record {
        within = omega arith;
        before = λ j l. absurd (omega arith);
        after = λ j l m. lt_le _ _ _ lt (h 0 j (omega arith) m);
      },
    ))
    (λ le.
    let rest = cut_of ss t (times_tail s ss h) in (
      suc rest.0,
      record {
        within = omega (arith, rest.1.within);
        before = before_more s ss rest.0 t le rest.1.before;
        after = after_more s ss rest.0 t rest.1.after;
      },
    ))

up_to : (t a o x : ℤ) → t ≤ℤ a → (a +ℤ o) ≤ℤ x → t ≤ℤ (x -ℤ o)
up_to t a o x h k = omega (arith, ints)

below : (t a o x : ℤ) → a ≤ℤ t → x <ℤ (a +ℤ o) → (x -ℤ o) <ℤ t
below t a o x h k = omega (arith, ints)

-- a span that contains x has begun where its offset puts it, and no later one has
pub cut_in : (first : ℤ) (shifts : List Shift) (k : ℕ) (x : ℤ) → TimesDontFall shifts → IsIn first shifts k x
    → IsCut shifts k (x -ℤ total_of first shifts k)
cut_in first shifts zero x times h = record {
  within = omega arith;
  before = λ j l. absurd (omega arith);
  after = λ j l m. below _ _ _ _ (times 0 j (omega arith) m) (h.lasts (omega arith));
}
cut_in first shifts (suc k) x times h = record {
  within = h.within;
  before = λ j l. up_to _ _ _ _ (times j k (omega arith) (omega (arith, h.within))) (h.begun (omega arith));
  after = λ j l m. below _ _ _ _ (times (suc k) j l m) (h.lasts (omega arith));
}

-- the total in force there is the span's
pub total_in : (first : ℤ) (shifts : List Shift) (k : ℕ) (x : ℤ) → TimesDontFall shifts → IsIn first shifts k x
    → total_from first shifts (x -ℤ total_of first shifts k) ≡ total_of first shifts k
total_in first shifts k x times h = total_from_cut first shifts k _ (cut_in first shifts k x times h)

moved_le : (a t o x : ℤ) → a ≤ℤ t → t +ℤ o ≡ x → (a +ℤ o) ≤ℤ x
moved_le a t o x h e = omega (arith, ints)

moved_lt : (a t o x : ℤ) → t <ℤ a → t +ℤ o ≡ x → x <ℤ (a +ℤ o)
moved_lt a t o x h e = omega (arith, ints)

instant_at : (t o x : ℤ) → t +ℤ o ≡ x → t ≡ x -ℤ o
instant_at t o x e = omega (arith, ints)

in_cut : (first : ℤ) (shifts : List Shift) (k : ℕ) (t x : ℤ) → IsCut shifts k t → t +ℤ total_of first shifts k ≡ x → IsIn first shifts k x
in_cut first shifts zero t x cut e = record {
  within = omega arith;
  begun = λ l. absurd (omega arith);
  lasts = λ l. moved_lt _ _ _ _ (cut.after 0 (omega arith) l) e;
}
in_cut first shifts (suc k) t x cut e = record {
  within = cut.within;
  begun = λ l. moved_le _ _ _ _ (cut.before k (omega arith)) e;
  lasts = λ l. moved_lt _ _ _ _ (cut.after (suc k) (omega arith) l) e;
}

-- each second that reads as x comes of a span that contains x
pub span_of : (first : ℤ) (shifts : List Shift) (t x : ℤ) → TimesDontFall shifts → t +ℤ total_from first shifts t ≡ x → (k : ℕ)
    × IsIn first shifts k x × (t ≡ x -ℤ total_of first shifts k) × (total_from first shifts t ≡ total_of first shifts k)
span_of first shifts t x times e =
    let cut = cut_of shifts t times in
    let total = total_from_cut first shifts cut.0 t cut.1 in
    let reads : t +ℤ total_of first shifts cut.0 ≡ x = ap (λ o. t +ℤ o) (sym total) ∙ e in
    (cut.0, in_cut first shifts cut.0 t x cut.1 reads, instant_at _ _ _ reads, total)

falls : (a b o p x : ℤ) → x <ℤ (a +ℤ o) → a ≤ℤ b → (b +ℤ p) ≤ℤ x → p <ℤ o
falls a b o p x h k l = omega (arith, ints)

-- of two spans that contain x, the later has the lower total
pub total_falls : (first : ℤ) (shifts : List Shift) (i j : ℕ) (x : ℤ) → TimesDontFall shifts → i < j → IsIn first shifts i x
    → IsIn first shifts j x → total_of first shifts j <ℤ total_of first shifts i
total_falls first shifts i zero x times l h k = absurd (omega arith)
total_falls first shifts i (suc j) x times l h k =
    falls _ _ _ _ _ (h.lasts (omega (arith, k.within))) (times i j (omega arith) (omega (arith, k.within))) (k.begun (omega arith))

-- on an orderly set what lies between two spans that contain x contains it too
pub between : (first : ℤ) (shifts : List Shift) (i k j : ℕ) (x : ℤ) → IsOrderly first shifts → i ≤ k → k ≤ j → IsIn first shifts i x
    → IsIn first shifts j x → IsIn first shifts k x
between first shifts i k j x orderly l m h g = record {
  within = omega (arith, g.within);
  begun = λ some. le_le _ _ _ (orderly.starts k j some m g.within) (g.begun (omega arith));
  lasts = λ more. lt_le _ _ _ (h.lasts (omega arith)) (orderly.ends i k l more);
}

-- so two spans that contain x are neighbours
pub neighbours : (first : ℤ) (shifts : List Shift) (i j : ℕ) (x : ℤ) → IsOrderly first shifts → i ≤ j → IsIn first shifts i x
    → IsIn first shifts j x → j ≤ i + 1
neighbours first shifts i j x orderly l h g =
    ⊎_elim {C = j ≤ i + 1}
    (λ near. omega arith)
    (λ far. absurd (orderly.apart i x h (between first shifts i (i + 2) j x orderly (omega arith) far h g)))
    (cases_lt j (i + 2))
