-- What times and numbers of kinds stand for.
use Rattle.std.proofs.{Common.{◌≡◌, ℕ, zero, suc, ◌-◌, ◌<◌, ◌≤◌, List, [], ◌∷◌, ◌++◌, length, map, get_or, ℤ, pos, refl, ap, ◌∙◌, arith}, lemmas.List.{get_or_default}}
use Rattle.zone_spans.specs.{Entries.{Entry}, declared.span.FixedTimespan.{FixedTimespan}}
use Rattle.tz_lookup.specs.{Sets.{shift_of, span_in}, Spans.{shift_at}, Kinds.{kind_in}, Compact.{entries_seen, set_seen}}

module _ (kinds : List FixedTimespan) where
  -- there is an entry for each time
  pub seen_length : (times : List ℤ) (numbers : List ℕ) → length numbers ≡ length times → length (entries_seen kinds times numbers) ≡ length times
  unfolding entries_seen
  seen_length [] numbers all = refl
  seen_length (time ∷ times) [] all = absurd (omega (arith, all))
  seen_length (time ∷ times) (number ∷ numbers) all = ap suc (seen_length times numbers (omega (arith, all)))

  pub time_seen : (times : List ℤ) (numbers : List ℕ) (k : ℕ) (d : ℤ) → length numbers ≡ length times → k < length times
      → get_or times k d ≡ (shift_at (map shift_of (entries_seen kinds times numbers)) k).0
  unfolding entries_seen
  time_seen [] numbers k d all l = absurd (omega (arith, l))
  time_seen (time ∷ times) [] k d all l = absurd (omega (arith, all))
  time_seen (time ∷ times) (number ∷ numbers) zero d all l = refl
  time_seen (time ∷ times) (number ∷ numbers) (suc k) d all l = time_seen times numbers k d (omega (arith, all)) (omega (arith, l))

  pub kind_seen : (times : List ℤ) (numbers : List ℕ) (k : ℕ) (d : Entry) → length numbers ≡ length times → k < length times
      → kind_in kinds (get_or numbers k 0) ≡ (get_or (entries_seen kinds times numbers) k d).1
  unfolding entries_seen
  kind_seen [] numbers k d all l = absurd (omega (arith, l))
  kind_seen (time ∷ times) [] k d all l = absurd (omega (arith, all))
  kind_seen (time ∷ times) (number ∷ numbers) zero d all l = refl
  kind_seen (time ∷ times) (number ∷ numbers) (suc k) d all l = kind_seen times numbers k d (omega (arith, all)) (omega (arith, l))

  -- one entry more
  pub seen_more : (times : List ℤ) (numbers : List ℕ) (time : ℤ) (number : ℕ) → length numbers ≡ length times
      → entries_seen kinds (times ++ time ∷ []) (numbers ++ number ∷ []) ≡ entries_seen kinds times numbers ++ (time, kind_in kinds number) ∷ []
  unfolding entries_seen
  seen_more [] [] time number all = refl
  seen_more [] (n ∷ numbers) time number all = absurd (omega (arith, all))
  seen_more (t ∷ times) [] time number all = absurd (omega (arith, all))
  seen_more (t ∷ times) (n ∷ numbers) time number all = ap (λ es. (t, kind_in kinds n) ∷ es) (seen_more times numbers time number (omega (arith, all)))

-- each span but the first
pub span_seen : (name : List ℕ) (kinds : List FixedTimespan) (first : ℕ) (times : List ℤ) (numbers : List ℕ) (i : ℕ) → (i ≡ 0 → ⊥)
    → length numbers ≡ length times → i ≤ length (entries_seen kinds times numbers)
    → kind_in kinds (get_or numbers (i - 1) 0) ≡ span_in (set_seen name kinds first times numbers) i
span_seen name kinds first times numbers zero some all l = absurd (some refl)
span_seen name kinds first times numbers (suc k) some all l =
    let this : suc k - 1 ≡ k = omega arith in
    ap (λ n. kind_in kinds (get_or numbers n 0)) this
    ∙ kind_seen kinds times numbers k (pos 0, kind_in kinds first) all (omega (arith, l, seen_length kinds times numbers all))

-- kinds that give the same for each of the numbers
pub seen_same : (kinds more : List FixedTimespan) (times : List ℤ) (numbers : List ℕ)
    → ((i : ℕ) → i < length numbers → kind_in more (get_or numbers i 0) ≡ kind_in kinds (get_or numbers i 0))
    → entries_seen more times numbers ≡ entries_seen kinds times numbers
unfolding entries_seen
seen_same kinds more [] numbers same = refl
seen_same kinds more (time ∷ times) [] same = refl
seen_same kinds more (time ∷ times) (number ∷ numbers) same =
    let here = same 0 (omega arith) in
    let rest = seen_same kinds more times numbers (λ i l. same (suc i) (omega (arith, l))) in
    (λ j. (time, here j) ∷ rest j)

-- a kind at whatever default it is read
pub kind_read : (kinds : List FixedTimespan) (number : ℕ) (d : FixedTimespan) → number < length kinds → d ≡ get_or kinds number d
    → d ≡ kind_in kinds number
kind_read kinds number d l e = e ∙ get_or_default kinds number d _ l
