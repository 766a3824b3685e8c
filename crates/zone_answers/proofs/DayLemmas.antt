-- Zoned texts of one day at one offset.
use Rattle.std.proofs.{Common.{◌≡◌, ℕ, ◌<◌, List, [], ◌∷◌, ◌++◌, length, take, drop, ℤ, pos, ◌+ℤ◌, ◌-ℤ◌, refl, sym, ap, ◌∙◌, arith, length-append, append_assoc}, lemmas.List.{take-append-le}, Math.Seq.{drop-append_seam}}
use Rattle.basics.specs.{Dates.{year_of}, SignedLaws.{signed}}
use Rattle.civil_base.specs.{Clock.{nanos_per_day}, Instants.{local_at}, Layout.{date_digits, day_part, offset_text, time_part, time_text, year_sign, zoned_text}, LayoutLaws.{local_text-sign, offset_text-length, unsigned_text, unsigned_text-shape}, PartLaws.{parts-joined, time_part-inside}}

-- a local time so much later, by the time of day
pub record IsSameDate (x y : ℤ) (nanos : ℕ) : Type 0 where
  pub day : day_part y ≡ day_part x
  pub time : time_part y ≡ nanos

pub same_date : (x y : ℤ) (nanos : ℕ) → pos nanos ≡ pos (time_part x) +ℤ (y -ℤ x) → nanos < nanos_per_day → IsSameDate x y nanos
same_date x y nanos later inside = record {
  day = omega (arith, signed, parts-joined x, parts-joined y, time_part-inside x, time_part-inside y, later, inside);
  time = omega (arith, signed, parts-joined x, parts-joined y, time_part-inside x, time_part-inside y, later, inside);
}

no_sign : (s : List ℕ) (u w : List ℕ) → length u ≡ 29 → length w ≡ 10 → length ((s ++ u) ++ w) ≡ 39 → s ≡ []
no_sign [] u w a b e = refl
no_sign (c ∷ s) u w a b e = absurd (omega (arith, a, b, e, length-append (s ++ u) w, length-append s u))

-- the text of an instant, by that of another of its local day
pub other_time : (line : List ℕ) (first t o : ℤ) (nanos : ℕ) → line ≡ zoned_text first o → length line ≡ 39
    → IsSameDate (local_at first o) (local_at t o) nanos → zoned_text t o ≡ take 10 line ++ (32 ∷ time_text nanos) ++ drop 29 line
unfolding zoned_text date_digits offset_text time_text
other_time line first t o nanos is long same =
    ap (λ u. u ++ back) (local_text-sign y ∙ ap (λ s. s ++ unsigned_text y) (ap (λ k. year_sign (year_of k)) same.day ∙ sign))
    ∙ (λ i. (date_digits (same.day i) ++ 32 ∷ time_text (same.time i)) ++ back)
    ∙ append_assoc (date_digits (day_part x)) (32 ∷ time_text nanos) back
    ∙ (λ i. sym front i ++ (32 ∷ time_text nanos) ++ sym end i)
  where
    x : ℤ
    x = local_at first o

    y : ℤ
    y = local_at t o

    back : List ℕ
    back = 32 ∷ offset_text o

    signed_line : line ≡ (year_sign (year_of (day_part x)) ++ unsigned_text x) ++ back
    signed_line = is ∙ ap (λ u. u ++ back) (local_text-sign x)

    sign : year_sign (year_of (day_part x)) ≡ []
    sign = no_sign (year_sign (year_of (day_part x))) (unsigned_text x) back (unsigned_text-shape x).0 (omega (arith, offset_text-length o)) (ap length (sym signed_line) ∙ long)

    plain : line ≡ unsigned_text x ++ back
    plain = signed_line ∙ ap (λ s. (s ++ unsigned_text x) ++ back) sign

    front : take 10 line ≡ date_digits (day_part x)
    front = ap (take 10) plain ∙ take-append-le 10 (unsigned_text x) back (omega (arith, (unsigned_text-shape x).0)) ∙ (unsigned_text-shape x).1

    end : drop 29 line ≡ back
    end = ap (drop 29) plain ∙ ap (λ k. drop k (unsigned_text x ++ back)) (sym (unsigned_text-shape x).0) ∙ drop-append_seam (unsigned_text x) back
