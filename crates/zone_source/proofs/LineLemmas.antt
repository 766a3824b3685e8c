-- The lines of a text begin with what stands before its first line feed.
use Rattle.std.proofs.{Common.{Option, Some, None, ◌≡◌, ℕ, suc, ◌-◌, ◌<◌, ◌≤◌, ◌+◌, Bool, true, false, List, [], ◌∷◌, length, map, refl, sym, ap, ◌∙◌, arith}, lemmas.Bool.{ltb-true, ltb-false, false_from_ne_true}, lemmas.List.{take_all, drop_all, length-map}}
use Rattle.std.proofs.lemmas.List.{Splits.{slice_split_first, slice_split-cons_no, length-slice_split}, Sums.{position_or_len_is}}
use Rattle.std.specs.{Prelude.{nat_lt, cond, not}, Option.{unwrap_or}, List.{slice_split, onto_first, position_or_len, before_first, after_first}, Str.Lines.{strip_carriage_return}}
use Rattle.memchr.specs.Find.{IsFirstByte, is_byte}
use Rattle.zone_source.specs.{LineLaws.{without_last_empty-more}, Lines.{is_line_feed, without_last_empty, lines_of}}

-- a text without a line feed is one piece
uncut : (bytes : List ℕ) → length bytes ≤ position_or_len is_line_feed bytes → slice_split is_line_feed bytes ≡ bytes ∷ []
uncut [] h = refl
uncut (x ∷ xs) h = by_head (is_line_feed x) refl (uncut xs)
  where
    by_head : (b : Bool) → is_line_feed x ≡ b →
        (length xs ≤ position_or_len is_line_feed xs → slice_split is_line_feed xs ≡ xs ∷ [])
        → slice_split is_line_feed (x ∷ xs) ≡ (x ∷ xs) ∷ []
    by_head true e more =
        let none : position_or_len is_line_feed (x ∷ xs) ≡ 0 = ap (λ b. cond (not b) (1 + position_or_len is_line_feed xs) 0) e in
        absurd (omega (arith, none))
    by_head false e more =
        let one : position_or_len is_line_feed (x ∷ xs) ≡ 1 + position_or_len is_line_feed xs =
        ap (λ b. cond (not b) (1 + position_or_len is_line_feed xs) 0) e in
        slice_split-cons_no is_line_feed x xs e ∙ ap (onto_first x) (more (omega (arith, one)))

kept_alone : (bytes : List ℕ) → 0 < length bytes → without_last_empty (bytes ∷ []) ≡ bytes ∷ []
kept_alone [] h = absurd (omega arith)
kept_alone (x ∷ xs) h = refl

pub first_line : (bytes : List ℕ) → 0 < length bytes →
    lines_of bytes ≡ strip_carriage_return (before_first is_line_feed bytes) ∷ lines_of (after_first is_line_feed bytes)
unfolding lines_of
first_line bytes some = by_place (nat_lt (position_or_len is_line_feed bytes) (length bytes)) refl
  where
    by_place : (b : Bool) → nat_lt (position_or_len is_line_feed bytes) (length bytes) ≡ b →
        map strip_carriage_return (without_last_empty (slice_split is_line_feed bytes))
        ≡ strip_carriage_return (before_first is_line_feed bytes)
        ∷ map strip_carriage_return (without_last_empty (slice_split is_line_feed (after_first is_line_feed bytes)))
    by_place true e =
        let cut = slice_split_first is_line_feed bytes 0 (ltb-true _ _ e) in
        let more : 0 < length (slice_split is_line_feed (after_first is_line_feed bytes)) =
        omega (arith, length-slice_split is_line_feed (after_first is_line_feed bytes)) in
        ap (λ pieces. map strip_carriage_return (without_last_empty pieces)) cut
        ∙ ap (map strip_carriage_return) (without_last_empty-more (before_first is_line_feed bytes) _ more)
    by_place false e =
        let past = ltb-false _ _ e in
        let whole : before_first is_line_feed bytes ≡ bytes = take_all _ bytes past in
        let nothing : after_first is_line_feed bytes ≡ [] = drop_all _ bytes (omega arith) in
        ap (λ pieces. map strip_carriage_return (without_last_empty pieces)) (uncut bytes past)
        ∙ ap (map strip_carriage_return) (kept_alone bytes some)
        ∙ (λ i. strip_carriage_return (sym whole i)
        ∷ map strip_carriage_return (without_last_empty (slice_split is_line_feed (sym nothing i))))

pub no_lines : lines_of [] ≡ []
unfolding lines_of
no_lines = refl

-- where the first line feed was looked for, the place of it, or the end where there is none
pub place_found : (bytes : List ℕ) (found : Option ℕ) → IsFirstByte (is_byte 10) bytes found
    → unwrap_or found (length bytes) ≡ position_or_len is_line_feed bytes
place_found bytes None nowhere =
    sym (position_or_len_is is_line_feed bytes (length bytes) 0 (omega arith)
    (λ k below. false_from_ne_true _ (nowhere k (omega arith) below)) (λ below. absurd (omega (arith, below))))
place_found bytes (Some place) first =
    sym (position_or_len_is is_line_feed bytes place 0 (omega (arith, first.0.high))
    (λ k below. false_from_ne_true _ (first.0.before k (omega arith) below)) (λ _. first.1))

-- the bytes of the pieces, and one for each piece
sizes : List (List ℕ) → ℕ
sizes [] = 0
sizes (piece ∷ pieces) = suc (length piece) + sizes pieces

few_pieces : (pieces : List (List ℕ)) → length (without_last_empty pieces) ≤ sizes pieces - 1
unfolding sizes
few_pieces [] = omega arith
few_pieces ([] ∷ []) = omega arith
few_pieces ([] ∷ q ∷ qs) = omega (arith, few_pieces (q ∷ qs))
few_pieces ((x ∷ xs) ∷ pieces) = omega (arith, few_pieces pieces)

sizes_onto : (x : ℕ) (pieces : List (List ℕ)) → 0 < length pieces → sizes (onto_first x pieces) ≡ suc (sizes pieces)
unfolding sizes
sizes_onto x [] h = absurd (omega arith)
sizes_onto x (piece ∷ pieces) h = omega arith

sizes_of : (bytes : List ℕ) → sizes (slice_split is_line_feed bytes) ≡ suc (length bytes)
unfolding sizes
sizes_of [] = refl
sizes_of (x ∷ xs) = by_head (is_line_feed x) (sizes_of xs)
  where
    by_head : (b : Bool) → sizes (slice_split is_line_feed xs) ≡ suc (length xs) →
        sizes (cond b ([] ∷ slice_split is_line_feed xs) (onto_first x (slice_split is_line_feed xs))) ≡ suc (suc (length xs))
    by_head true more = omega (arith, more)
    by_head false more = sizes_onto x (slice_split is_line_feed xs) (omega (arith, length-slice_split is_line_feed xs)) ∙ ap suc more

-- each line takes a byte or more
pub few_lines : (bytes : List ℕ) → length (lines_of bytes) ≤ length bytes
unfolding lines_of
few_lines bytes =
    let pieces = slice_split is_line_feed bytes in
    omega (arith, length-map (without_last_empty pieces) strip_carriage_return, few_pieces pieces, sizes_of bytes)
