-- An entry that takes the span of another, and a first entry that goes.
use Rattle.std.proofs.{Common.{◌≡◌, ℕ, suc, ◌+◌, ◌<◌, true, false, cond, List, [], ◌∷◌, ◌++◌, length, get_or, set, take, drop, refl, sym, ap, ◌∙◌, subst, arith, to_z, of_z, w64, SFits}, lemmas.Int.{to_z-of_z}}
use Rattle.std.proofs.{lemmas.List.{length-set, take-set-le, drop-set-lt, get_or-set_same, get_or-set_other, get_or_default}, Math.Seq.{take-suc-set}}
use Rattle.std.specs.List.{swap, remove}
use Rattle.zone_spans.{specs.declared.span.FixedTimespan.{FixedTimespan}, specs.Collapse.{is_same_span, without_first}, specs.Entries.{Entry}, specs.Places.{IsPutAt, IsRespanned}, proofs.StepLemmas.{read_at}}

put_at : (xs ys : List Entry) (place from : ℕ) (v : Entry) → place < from → place < length ys → length ys ≡ length xs
    → take place ys ≡ take place xs → drop (from + 1) ys ≡ drop (from + 1) xs → IsPutAt xs (set ys place v) place from v
put_at xs ys place from v lt l len front back =
    let next : place + 1 ≡ suc place = omega arith in
    record {
      len = length-set ys place v ∙ len;
      front = ap (λ n. take n (set ys place v)) next ∙ take-suc-set ys place v l ∙ ap (λ es. es ++ v ∷ []) front;
      back = drop-set-lt (from + 1) ys place v (omega (arith, lt)) ∙ back;
    }

pub swapped_len : (xs : List Entry) (i j : ℕ) → length (swap xs i j) ≡ length xs
swapped_len [] i j = refl
swapped_len (d ∷ ys) i j = length-set (set (d ∷ ys) i _) j _ ∙ length-set (d ∷ ys) i _

swapped_front : (xs : List Entry) (i j : ℕ) → i < j → take i (swap xs i j) ≡ take i xs
swapped_front [] i j l = refl
swapped_front (d ∷ ys) i j l = take-set-le i (set (d ∷ ys) i _) j _ (omega (arith, l)) ∙ take-set-le i (d ∷ ys) i _ (omega arith)

swapped_back : (xs : List Entry) (i j : ℕ) → i < j → drop (j + 1) (swap xs i j) ≡ drop (j + 1) xs
swapped_back [] i j l = refl
swapped_back (d ∷ ys) i j l = drop-set-lt (j + 1) (set (d ∷ ys) i _) j _ (omega arith) ∙ drop-set-lt (j + 1) (d ∷ ys) i _ (omega (arith, l))

swapped_at : (xs : List Entry) (i j : ℕ) (e : Entry) → i < j → j < length xs → get_or (swap xs i j) i e ≡ get_or xs j e
swapped_at [] i j e l m = absurd (omega (arith, m))
swapped_at (d ∷ ys) i j e l m =
    get_or-set_other (set (d ∷ ys) i (get_or (d ∷ ys) j d)) j i (get_or (d ∷ ys) i d) e (λ h. omega (arith, l, h))
    ∙ get_or-set_same (d ∷ ys) i (get_or (d ∷ ys) j d) e (omega (arith, l, m))
    ∙ get_or_default (d ∷ ys) j d e m

-- the entry t at `place` keeps its time, and has the span of s, which came there from `from`
pub respanned : (xs ys : List Entry) (place from : ℕ) (t s : Entry) → place < from → from < length xs → SFits w64 t.0
    → ys ≡ swap xs place from → t ≡ get_or xs place t → s ≡ get_or ys place s
    → IsRespanned xs (set ys place (to_z w64 (of_z w64 t.0), s.1)) place from
respanned xs ys place from t s lt l fits swapped time span d =
    let put = put_at xs ys place from (to_z w64 (of_z w64 t.0), s.1) lt
    (omega (arith, lt, l, ap length swapped, swapped_len xs place from)) (ap length swapped ∙ swapped_len xs place from)
    (ap (take place) swapped ∙ swapped_front xs place from lt) (ap (drop (from + 1)) swapped ∙ swapped_back xs place from lt) in
    let time_is : to_z w64 (of_z w64 t.0) ≡ (get_or xs place d).0 = to_z-of_z w64 t.0 fits
    ∙ ap (λ (e : Entry). e.0) (sym (read_at xs place t d (omega (arith, lt, l)) time)) in
    let at : s ≡ get_or xs from s = span ∙ ap (λ zs. get_or zs place s) swapped ∙ swapped_at xs place from s lt l in
    let span_is : s.1 ≡ (get_or xs from d).1 = ap (λ (e : Entry). e.1) (sym (read_at xs from s d l at)) in
    subst (λ (v : Entry). IsPutAt xs (set ys place (to_z w64 (of_z w64 t.0), s.1)) place from v) (λ i. (time_is i, span_is i)) put

-- the first entry e of the list goes where it has the span
pub first_goes : (span : FixedTimespan) (xs : List Entry) (e : Entry) → 0 < length xs → e ≡ get_or xs 0 e
    → is_same_span e.1 span ≡ true → remove xs 0 ≡ without_first span xs
unfolding without_first
first_goes span [] e l at same = absurd (omega (arith, l))
first_goes span (x ∷ xs) e l at same =
    let test : is_same_span x.1 span ≡ true = ap (λ (y : Entry). is_same_span y.1 span) (sym at) ∙ same in
    sym (ap (λ b. cond b xs (x ∷ xs)) test)

pub first_stays : (span : FixedTimespan) (xs : List Entry) (e : Entry) → 0 < length xs → e ≡ get_or xs 0 e
    → is_same_span e.1 span ≡ false → xs ≡ without_first span xs
unfolding without_first
first_stays span [] e l at same = absurd (omega (arith, l))
first_stays span (x ∷ xs) e l at same =
    let test : is_same_span x.1 span ≡ false = ap (λ (y : Entry). is_same_span y.1 span) (sym at) ∙ same in
    sym (ap (λ b. cond b xs (x ∷ xs)) test)

pub none_goes : (span : FixedTimespan) (xs : List Entry) → length xs ≡ 0 → xs ≡ without_first span xs
unfolding without_first
none_goes span [] e = refl
none_goes span (x ∷ xs) e = absurd (omega (arith, e))
