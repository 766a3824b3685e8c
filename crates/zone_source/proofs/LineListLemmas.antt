-- The lines of a buffer with its ends.
use Rattle.std.proofs.Common.{◌≡◌, ◌≢◌, ℕ, zero, suc, ◌+◌, ◌-◌, ◌<◌, ◌≤◌, List, [], ◌∷◌, ◌++◌, length, take, drop, Some, refl, sym, ap, ◌∙◌, arith, get_or}
use Rattle.std.proofs.{lemmas.List.{append_assoc, length-append, length-drop, take-append-le, drop-append-le, drop_all, drop-drop, take-append-drop, take_at, drop_at, get_or_append_left}, Math.Seq.{drop-cons, get_or-append_seam}}
use Rattle.std.specs.Prelude.{slice_range, slice_get}
use Rattle.zone_source.specs.LineLists.{lines_between, start_of, AreEnds, ended}

pub length_lines : (from : ℕ) (ends bytes : List ℕ) → length (lines_between from ends bytes) ≡ length ends
length_lines from [] bytes = refl
length_lines from (end ∷ ends) bytes = ap suc (length_lines end ends bytes)

pub start_first : (ends : List ℕ) (i : ℕ) → i ≡ 0 → 0 ≡ start_of 0 ends i
start_first ends zero h = refl
start_first ends (suc i) h = absurd (omega arith)

-- a later line begins where the one before it ended
start_is : (from : ℕ) (ends : List ℕ) (i : ℕ) → suc i < length ends → get_or ends i 0 ≡ start_of from ends (suc i)
start_is from [] i h = absurd (omega arith)
start_is from (end ∷ ends) zero h = refl
start_is from (end ∷ ends) (suc i) h = start_is end ends i (omega arith)

pub start_later : (ends : List ℕ) (i : ℕ) → i ≢ 0 → i < length ends → get_or ends (i - 1) 0 ≡ start_of 0 ends i
start_later ends zero h within = absurd (h refl)
start_later ends (suc i) h within =
    let before : suc i - 1 ≡ i = omega arith in ap (λ k. get_or ends k 0) before ∙ start_is 0 ends i within

-- the line at a place
pub line_at : (from : ℕ) (ends bytes : List ℕ) (i : ℕ) → i < length ends →
    slice_get (lines_between from ends bytes) i ≡ Some (slice_range bytes (start_of from ends i) (get_or ends i 0 - 1))
line_at from [] bytes i h = absurd (omega arith)
line_at from (end ∷ ends) bytes zero h = refl
line_at from (end ∷ ends) bytes (suc i) h = line_at end ends bytes i (omega arith)

-- it lies within the bytes
pub record LiesWithin (start end length : ℕ) : Type 0 where
  pub rises : start < end
  pub bound : end ≤ length

pub lies_within : (from : ℕ) (ends bytes : List ℕ) (i : ℕ) → AreEnds from ends bytes → i < length ends
    → LiesWithin (start_of from ends i) (get_or ends i 0) (length bytes)
lies_within from [] bytes i are h = absurd (omega arith)
lies_within from (end ∷ ends) bytes zero are h = record { rises = are.0; bound = are.1 }
lies_within from (end ∷ ends) bytes (suc i) are h = lies_within end ends bytes i are.3 (omega arith)

-- a range and the rest after it
range_and_rest : (xs : List ℕ) (i j : ℕ) → i ≤ j → slice_range xs i j ++ drop j xs ≡ drop i xs
range_and_rest xs i j h =
    let rest : drop (j - i) (drop i xs) ≡ drop j xs = drop-drop (j - i) i xs ∙ ap (λ n. drop n xs) (omega arith) in
    ap (λ t. slice_range xs i j ++ t) (sym rest) ∙ take-append-drop (j - i) (drop i xs)

-- the lines with their line feeds are the bytes
pub ended_lines : (from : ℕ) (ends bytes : List ℕ) → AreEnds from ends bytes → ended (lines_between from ends bytes) ≡ drop from bytes
ended_lines from [] bytes are = sym (drop_all from bytes (omega arith))
ended_lines from (end ∷ ends) bytes are =
    let feed : drop (end - 1) bytes ≡ 10 ∷ drop end bytes =
    drop-cons bytes (end - 1) 0 (omega arith) ∙ (λ i. are.2 i ∷ drop (next i) bytes) in
    append_assoc (slice_range bytes from (end - 1)) (10 ∷ []) _
    ∙ ap (λ t. slice_range bytes from (end - 1) ++ 10 ∷ t) (ended_lines end ends bytes are.3)
    ∙ ap (λ t. slice_range bytes from (end - 1) ++ t) (sym feed)
    ∙ range_and_rest bytes from (end - 1) (omega arith)
  where
    next : suc (end - 1) ≡ end
    next = omega arith

same_range : (xs more : List ℕ) (i j : ℕ) → i ≤ j → j ≤ length xs → slice_range (xs ++ more) i j ≡ slice_range xs i j
same_range xs more i j rises within =
    ap (take (j - i)) (drop-append-le i xs more (omega arith))
    ∙ take-append-le (j - i) (drop i xs) more (omega (arith, length-drop i xs))

-- the bytes after the first are what was put there
last_range : (xs line more : List ℕ) → slice_range ((xs ++ line) ++ more) (length xs) (length xs + length line) ≡ line
last_range xs line more =
    (λ i. take (long i) (rest i)) ∙ take_at line more (length line) refl
  where
    long : (length xs + length line) - length xs ≡ length line
    long = omega arith

    rest : drop (length xs) ((xs ++ line) ++ more) ≡ line ++ more
    rest = ap (drop (length xs)) (append_assoc xs line more) ∙ drop_at xs (line ++ more) (length xs) refl

pub long_line : (bytes line : List ℕ) → length ((bytes ++ line) ++ 10 ∷ []) ≡ length bytes + length line + 1
long_line bytes line = omega (arith, length-append (bytes ++ line) (10 ∷ []), length-append bytes line)

-- a line more
pub more_lines : (from : ℕ) (ends bytes line : List ℕ) (end : ℕ) → end ≡ length bytes + length line + 1 → AreEnds from ends bytes →
    lines_between from (ends ++ end ∷ []) ((bytes ++ line) ++ 10 ∷ []) ≡ lines_between from ends bytes ++ line ∷ []
more_lines from [] bytes line end is are =
    let before : end - 1 ≡ length bytes + length line = omega arith in
    (λ i. slice_range ((bytes ++ line) ++ 10 ∷ []) (are i) (before i) ∷ []) ∙ ap (λ l. l ∷ []) (last_range bytes line (10 ∷ []))
more_lines from (e ∷ ends) bytes line end is are =
    let same =
    ap (λ t. slice_range t from (e - 1)) (append_assoc bytes line (10 ∷ []))
    ∙ same_range bytes (line ++ 10 ∷ []) from (e - 1) (omega arith) (omega arith) in
    (λ i. same i ∷ more_lines e ends bytes line end is are.3 i)

pub more_ends : (from : ℕ) (ends bytes line : List ℕ) (end : ℕ) → end ≡ length bytes + length line + 1 → AreEnds from ends bytes →
    AreEnds from (ends ++ end ∷ []) ((bytes ++ line) ++ 10 ∷ [])
more_ends from [] bytes line end is are =
    let long : length ((bytes ++ line) ++ 10 ∷ []) ≡ end =
    omega (arith, length-append (bytes ++ line) (10 ∷ []), length-append bytes line) in
    let place : end - 1 ≡ length (bytes ++ line) = omega (arith, length-append bytes line) in (
      omega arith,
      omega arith,
      ap (λ i. get_or ((bytes ++ line) ++ 10 ∷ []) i 0) place
          ∙ get_or-append_seam (bytes ++ line) 10 [] 0,
      sym long,
    )
more_ends from (e ∷ ends) bytes line end is are =
    let long : length bytes ≤ length ((bytes ++ line) ++ 10 ∷ []) =
    omega (arith, length-append (bytes ++ line) (10 ∷ []), length-append bytes line) in
    let same =
    ap (λ t. get_or t (e - 1) 0) (append_assoc bytes line (10 ∷ []))
    ∙ get_or_append_left bytes (line ++ 10 ∷ []) 0 (e - 1) (omega arith) in
    (are.0, omega arith, same ∙ are.2, more_ends e ends bytes line end is are.3)
