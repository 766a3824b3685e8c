-- The ring of a day is the first of what a zone answers, and the rings of one day more.
use Rattle.std.{proofs.Common.{◌≡◌, ℕ, zero, suc, ◌+◌, List, [], ◌∷◌, ◌++◌, map, take, ℤ, pos, ◌+ℤ◌, refl, ap, ◌∙◌, arith}, specs.Prelude.{option_map}, specs.List.{range_with_len, slice_get}, proofs.lemmas.List.{map-append}}
use Rattle.civil_base.specs.declared.offset_date_time.OffsetDateTime.{OffsetDateTime}
use Rattle.tz_lookup.specs.{Answers.{listed}, InForce.{shown_of}, Results.{first_in}, declared.time_zone.OffsetResult.{OffsetResult, TheVariants.{Some, Ambiguous, None}}}
use Rattle.zone_alarm.specs.Rings.{day_ring, rings}

head_listed : (answer : OffsetResult OffsetDateTime) → option_map shown_of (first_in answer) ≡ slice_get (map shown_of (listed answer)) 0
head_listed None = refl
head_listed (Some only) = refl
head_listed (Ambiguous first second) = refl

head_taken : {X : Type 0} (xs : List X) → slice_get (take 2 xs) 0 ≡ slice_get xs 0
head_taken [] = refl
head_taken (x ∷ xs) = refl

-- the first of all that was answered is the first of all
pub first_shown : (answer : OffsetResult OffsetDateTime) (all : List (ℤ × ℤ)) → map shown_of (listed answer) ≡ take 2 all
    → option_map shown_of (first_in answer) ≡ slice_get all 0
first_shown answer all shown = head_listed answer ∙ ap (λ l. slice_get l 0) shown ∙ head_taken all

one_more : (a n : ℕ) → range_with_len a (suc n) ≡ range_with_len a n ++ (a + n) ∷ []
one_more a zero = ap (λ k. k ∷ []) (omega arith)
one_more a (suc n) = ap (λ l. a ∷ l) (one_more (a + 1) n ∙ ap (λ k. range_with_len (a + 1) n ++ k ∷ []) (omega arith))

pub one_day_more : (total : ℤ → ℤ) (at : ℕ) (first : ℤ) (days : ℕ)
    → rings total at first (days + 1) ≡ rings total at first days ++ day_ring total at (first +ℤ pos days) ∷ []
unfolding rings
one_day_more total at first days =
    let more : days + 1 ≡ suc days = omega arith in
    let last : 0 + days ≡ days = omega arith in
    let counted : range_with_len 0 (days + 1) ≡ range_with_len 0 days ++ days ∷ [] =
    ap (range_with_len 0) more ∙ one_more 0 days ∙ ap (λ k. range_with_len 0 days ++ k ∷ []) last in
    ap (map (λ n. day_ring total at (first +ℤ pos n))) counted
    ∙ map-append (λ n. day_ring total at (first +ℤ pos n)) (range_with_len 0 days) (days ∷ [])
