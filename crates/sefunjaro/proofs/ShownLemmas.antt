-- Seconds that clocks show, and their texts.
use Rattle.std.proofs.Common.{◌≡◌, ◌∙◌, ◌+◌, ◌<◌, ◌≤◌, ℕ, ℤ, Bool, true, false, cond, List, [], ◌∷◌, ◌++◌, length, get_or, take, refl, sym, ap, subst, arith, append_assoc, append-nil, pos, ◌+ℤ◌, to_z, of_z, to_z-of_z, FitsSigned, w32, w64}
use Rattle.std.proofs.lemmas.{Bool.{and_parts, leb-true, ltb-false}, List.{take_more}, List.Sums.{prefix_len_passes}, Int.{ints}}
use Rattle.std.specs.{Prelude.{Option, Some, None, not, nat_le, nat_lt}, List.{position_or_len}}
use Rattle.basics.specs.SignedLaws.{signed_casts}
use Rattle.civil_base.specs.{DateTimes.{instant, local_of, offset_of}, Instants.{instant_at, local_at, nanos_of}, Layout.{day_part, local_text, offset_text, time_part, zoned_text}, RangeLaws.{years_begin, years_end}, Ranges.{is_in_years, IsInYears}}
use Rattle.civil_base.specs.declared.offset_date_time.OffsetDateTime.{OffsetDateTime}
use Rattle.sefunjaro.specs.{Clocks.{clock_at}, Shown.{clock_shown_at, is_shown, line_of, most_texts, textless_place, texts_of, unshown_place, AreShown}}

no_place : (b : Bool) (n : ℕ) → cond b (Some n) None ≡ None → b ≡ false
no_place true n e = absurd (cc)
no_place false n e = refl

twice_not : (b : Bool) → not (not b) ≡ true → b ≡ true
twice_not true e = refl
twice_not false e = e

-- where no place is told each second is shown
pub all_shown : (total : ℤ → ℤ) (seconds : List ℤ) → unshown_place total seconds ≡ None → AreShown total seconds
unfolding unshown_place
all_shown total seconds e =
    let n = position_or_len (λ s. not (is_shown total s)) seconds in
    let all : length seconds ≤ n = ltb-false n (length seconds) (no_place (nat_lt n (length seconds)) n e) in
    λ k d l. twice_not (is_shown total (get_or seconds k d))
    (prefix_len_passes (λ s. not (not (is_shown total s))) seconds k d (omega (arith, l, all)))

few : (b : Bool) (n : ℕ) (place : Option ℕ) → cond b place (Some n) ≡ None → (b ≡ true) × (place ≡ None)
few true n place e = (refl, e)
few false n place e = absurd (cc)

-- where each second has a text, they are few and shown
pub few_shown : (total : ℤ → ℤ) (seconds : List ℤ) → textless_place total seconds ≡ None
    → (length seconds ≤ most_texts) × (unshown_place total seconds ≡ None)
unfolding textless_place
few_shown total seconds e =
    let both = few (nat_le (length seconds) most_texts) most_texts (unshown_place total seconds) e in (leb-true _ _ both.0, both.1)

-- the second at a place is shown
pub shown_here : (total : ℤ → ℤ) (seconds : List ℤ) (i : ℕ) (second : ℤ) → AreShown total seconds → i < length seconds → second ≡ get_or seconds i (pos 0)
    → IsInYears (nanos_of second) × IsInYears (local_at (nanos_of second) (total (nanos_of second)))
shown_here total seconds i second all l e =
    let parts : ℤ → Type 0 = λ s. IsInYears (nanos_of s) × IsInYears (local_at (nanos_of s) (total (nanos_of s))) in
    subst parts (sym e) (and_parts (is_in_years (nanos_of (get_or seconds i (pos 0)))) _ (all i (pos 0) l))

-- the texts of one second more
texts_more : (total : ℤ → ℤ) (seconds : List ℤ) (second : ℤ) → texts_of total (seconds ++ second ∷ []) ≡ texts_of total seconds ++ line_of total second
unfolding texts_of
texts_more total [] second = append-nil (line_of total second)
texts_more total (s ∷ ss) second =
    ap (λ l. line_of total s ++ l) (texts_more total ss second) ∙ sym (append_assoc (line_of total s) (texts_of total ss) (line_of total second))

pub texts_taken : (total : ℤ → ℤ) (seconds : List ℤ) (i : ℕ) → i < length seconds
    → texts_of total (take (i + 1) seconds) ≡ texts_of total (take i seconds) ++ line_of total (get_or seconds i (pos 0))
texts_taken total seconds i l = ap (texts_of total) (take_more seconds i (pos 0) l) ∙ texts_more total (take i seconds) (get_or seconds i (pos 0))

-- the local time as the machine adds it up
sum_is : (second offset from : ℤ) → IsInYears (nanos_of second) → FitsSigned w32 offset → from ≡ offset
    → to_z w64 (of_z w64 (to_z w64 (of_z w64 second) +ℤ to_z w64 (of_z w64 from))) ≡ second +ℤ offset
sum_is second offset from h fits e =
    omega (arith, signed_casts, years_begin (nanos_of second) h, years_end (nanos_of second) h, fits, e)

nanos_are : (second offset sum : ℤ) → sum ≡ second +ℤ offset → nanos_of sum ≡ local_at (nanos_of second) offset
nanos_are second offset sum e = omega (arith, ints, e)

pub local_is : (second offset from : ℤ) → IsInYears (nanos_of second) → FitsSigned w32 offset → from ≡ to_z w32 (of_z w32 offset)
    → nanos_of (to_z w64 (of_z w64 (to_z w64 (of_z w64 second) +ℤ to_z w64 (of_z w64 from)))) ≡ local_at (nanos_of second) offset
local_is second offset from h fits e =
    nanos_are second offset (to_z w64 (of_z w64 (to_z w64 (of_z w64 second) +ℤ to_z w64 (of_z w64 from)))) (sum_is second offset from h fits (e ∙ to_z-of_z fits))

-- what is shown at UTC
pub utc_is : (shown : OffsetDateTime) (t : ℤ) → instant shown ≡ t → offset_of shown ≡ pos 0 → local_of shown ≡ t
unfolding instant
utc_is shown t e none = omega (arith, ints, e, none)

-- what clocks at an offset show is what a zone's clocks show
pub clock_is : (total : ℤ → ℤ) (second x : ℤ) → x ≡ local_at (nanos_of second) (total (nanos_of second)) → clock_at (day_part x) (time_part x) ≡ clock_shown_at total second
unfolding clock_shown_at
clock_is total second x e = ap (λ y. clock_at (day_part y) (time_part y)) e

-- the zoned text of a local time at an offset, by its parts
there_is : (x o : ℤ) → local_at (instant_at x o) o ≡ x
there_is x o = omega (arith, ints)

pub text_by_local : (x o : ℤ) → local_text x ++ 32 ∷ offset_text o ≡ zoned_text (instant_at x o) o
unfolding zoned_text
text_by_local x o = ap (λ y. local_text y ++ 32 ∷ offset_text o) (sym (there_is x o))

back_is : (t o : ℤ) → instant_at (local_at t o) o ≡ t
back_is t o = omega (arith, ints)

-- and of a second
pub line_is : (total : ℤ → ℤ) (second x o : ℤ) → x ≡ local_at (nanos_of second) o → o ≡ total (nanos_of second)
    → zoned_text (instant_at x o) o ++ 10 ∷ [] ≡ line_of total second
unfolding line_of
line_is total second x o local told =
    ap (λ y. zoned_text (instant_at y o) o ++ 10 ∷ []) local ∙ ap (λ t. zoned_text t o ++ 10 ∷ []) (back_is (nanos_of second) o)
    ∙ ap (λ p. zoned_text (nanos_of second) p ++ 10 ∷ []) told
