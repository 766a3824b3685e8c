-- One instant of a local time.
use Rattle.std.proofs.{Common.{◌≡◌, ◌∙◌, ◌≤◌, ℕ, cond, List, [], ◌∷◌, length, get_or, ℤ, pos, ◌-ℤ◌, to_z, of_z, to_z-of_z, FitsSigned, w32, w64, unsigned_abs, refl, ap, arith}, lemmas.Bool.{le-ltb}, lemmas.Int.{ints}}
use Rattle.basics.specs.SignedLaws.{signed_casts}
use Rattle.civil_base.specs.{DateTimes.{instant, local_of, offset_of}, Instants.{instant_at, seconds_of}, Ranges.{far_seconds}, declared.offset_date_time.OffsetDateTime.{OffsetDateTime}}
use Rattle.tz_lookup.specs.SecondLaws.{IsSecond, one_second, second_is}
use Rattle.sefunjaro.specs.{Gaps.{IsSkippedBy}, declared.gap.Gap.{Gap}, Found.{by_fold, by_gap, found_of, IsFoundOf}, FoundSteps.{by_count}, Rooms.{filled}, declared.found.FoldRule.{FoldRule}, declared.found.FoldRule.TheVariants.{First, Second}, declared.found.Found.{Found}, declared.found.GapRule.{GapRule}}
use Rattle.sefunjaro.specs.declared.zone.Reading.{Reading}

-- the second of a local time at an offset
second_back : (x o s : ℤ) → IsSecond x s → IsSecond (instant_at x o) (s -ℤ o)
second_back x o s h = record { low = omega (arith, ints, h.low); high = omega (arith, ints, h.high) }

pub second_by : (x o : ℤ) → seconds_of x -ℤ o ≡ seconds_of (instant_at x o)
second_by x o = one_second (instant_at x o) (seconds_of x -ℤ o) (seconds_of (instant_at x o)) (second_back x o (seconds_of x) (second_is x)) (second_is (instant_at x o))

-- as the machine takes it away
less_is : (second offset from : ℤ) → unsigned_abs second ≤ far_seconds → FitsSigned w32 offset → from ≡ offset
    → to_z w64 (of_z w64 (to_z w64 (of_z w64 second) -ℤ to_z w64 (of_z w64 from))) ≡ second -ℤ offset
less_is second offset from near fits e = omega (arith, signed_casts, near, fits, e)

pub at_utc : (date : OffsetDateTime) (x : ℤ) → local_of date ≡ x → offset_of date ≡ pos 0 → instant date ≡ x
unfolding instant
at_utc date x local utc = omega (arith, ints, local, utc)

pub by_offset_is : (date : OffsetDateTime) (x second offset from : ℤ) → local_of date ≡ x → offset_of date ≡ pos 0 → second ≡ seconds_of (instant date)
    → unsigned_abs second ≤ far_seconds → FitsSigned w32 offset → from ≡ to_z w32 (of_z w32 offset)
    → to_z w64 (of_z w64 (to_z w64 (of_z w64 second) -ℤ to_z w64 (of_z w64 from))) ≡ seconds_of (instant_at x offset)
by_offset_is date x second offset from local utc is near fits e =
    less_is second offset from near fits (e ∙ to_z-of_z fits)
    ∙ ap (λ s. s -ℤ offset) (is ∙ ap seconds_of (at_utc date x local utc)) ∙ second_by x offset

one_of : (fold : FoldRule) (r b : Reading) → by_count fold 1 r b ≡ found_of (by_fold fold r []) 1
one_of First r b = refl
one_of Second r b = refl

more_of : (fold : FoldRule) (r s : Reading) (rest : List Reading) (n : ℕ) → 2 ≤ n → by_count fold n r s ≡ found_of (by_fold fold r (s ∷ rest)) n
more_of First r s rest n h = refl
more_of Second r s rest n h = ap (λ b. found_of (cond b r s) n) (le-ltb n 2 h)

-- of the readings that are lent, the first two of all or as many as there are, the rule takes what it takes of all
pub among_is : (total : ℤ → ℤ) (fold : FoldRule) (gap : GapRule) (x : ℤ) (all new : List Reading) (a b d e : Reading) (count : ℕ) (found : Found)
    → new ≡ filled all (a ∷ b ∷ []) → count ≡ length all → (count ≡ 0 → ⊥) → found ≡ by_count fold count (get_or new 0 d) (get_or new 1 e)
    → IsFoundOf total fold gap x all found
unfolding filled
among_is total fold gap x [] new a b d e count found lent n some is = absurd (some n)
among_is total fold gap x (r ∷ []) new a b d e count found lent n some is =
    is ∙ (λ i. by_count fold (n i) (get_or (lent i) 0 d) (get_or (lent i) 1 e)) ∙ one_of fold r b
among_is total fold gap x (r ∷ s ∷ rest) new a b d e count found lent n some is =
    is ∙ (λ i. by_count fold (n i) (get_or (lent i) 0 d) (get_or (lent i) 1 e)) ∙ more_of fold r s rest (length (r ∷ s ∷ rest)) (omega arith)

-- of a local time without a reading the rule for gaps takes what it takes of the change that skips it
pub in_gap_is : (total : ℤ → ℤ) (fold : FoldRule) (rule : GapRule) (x : ℤ) (all : List Reading) (count : ℕ) (gap : Gap) (found : Found) → count ≡ length all
    → count ≡ 0 → IsSkippedBy total x gap → found ≡ by_gap rule x gap → IsFoundOf total fold rule x all found
in_gap_is total fold rule x [] count gap found n none skipped is = record { gap = gap; skipped = skipped; is = is }
in_gap_is total fold rule x (r ∷ rest) count gap found n none skipped is = absurd (omega (arith, n, none))
