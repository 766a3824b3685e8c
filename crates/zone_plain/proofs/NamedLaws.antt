-- The values of a source are what it means, under names that can be said.
use Rattle.std.proofs.{Common.{◌≡◌, ℕ, suc, List, [], ◌∷◌, map, All, Bool, true, false, cond, Result, Ok, Err, IfOk, refl, ap, ◌∙◌, subst}, lemmas.List.Elements.{All-nil, All-cons}}
use Rattle.zone_source.specs.Lines.{lines_of}
use Rattle.zone_table.specs.{Values.{LineValue}, Results.{◌>>=◌}}
use Rattle.zone_plain_lines.specs.{declared.cause.PlainCause.{PlainCause}, LineFaults.{LineFault, numbered, onto}, Said.{is_said}, Renamed.{mark_of, renamed}}
use Rattle.zone_plain_lines.specs.declared.cause.PlainCause.TheVariants as cause
use Rattle.zone_plain.specs.{LineValues.{line_meaning, is_open_after, values_from, meant_in, known, mark_in, named, values_in}, Named.{IsSaid, IsNamed}}

-- what is taken as it is, and the same under the names of the plain form
record AreNamed (mark : List ℕ) (meant : Result (List LineValue) LineFault) (values : List LineValue) : Type 0 where
  pub found : List LineValue
  pub means : meant ≡ Ok found
  pub by_name : values ≡ map (renamed mark) found
  pub said : All IsSaid values

named_one : (mark : List ℕ) (n : ℕ) (v : LineValue) (values found : List LineValue) (more : Result (List LineValue) LineFault) → more ≡ Ok found → values ≡ map (renamed mark) found → All IsSaid values
    → IsSaid (renamed mark v) → AreNamed mark (onto v more) (renamed mark v ∷ values)
named_one mark n v values found more means by_name all said = record {
  found = v ∷ found;
  means = ap (onto v) means;
  by_name = ap (λ vs. renamed mark v ∷ vs) by_name;
  said = All-cons IsSaid (renamed mark v) values said all;
}

named_from : (mark : List ℕ) (is_open : Bool) (n : ℕ) (lines : List (List ℕ))
    → IfOk (values_from (named mark) is_open n lines) (AreNamed mark (values_from Ok is_open n lines))
unfolding values_from
named_from mark true n [] = tt
named_from mark false n [] = record { found = []; means = refl; by_name = refl; said = All-nil IsSaid }
named_from mark is_open n (line ∷ lines) =
    by (line_meaning is_open line) (λ v. named_from mark (is_open_after is_open v) (suc n) lines)
  where
    rest : (v : LineValue) (r : Result (List LineValue) LineFault) → IsSaid (renamed mark v)
        → IfOk r (AreNamed mark (values_from Ok (is_open_after is_open v) (suc n) lines))
        → IfOk (onto (renamed mark v) r) (AreNamed mark (onto v (values_from Ok (is_open_after is_open v) (suc n) lines)))
    rest v (Err e) said more = tt
    rest v (Ok values) said more = named_one mark n v values more.found _ more.means more.by_name more.said said

    test : (v : LineValue) (b : Bool) → is_said (renamed mark v) ≡ b
        → IfOk (values_from (named mark) (is_open_after is_open v) (suc n) lines) (AreNamed mark (values_from Ok (is_open_after is_open v) (suc n) lines))
        → IfOk (◌>>=◌ (numbered n (cond b (Ok (renamed mark v)) (Err cause.Unsayable))) (λ w. onto w (values_from (named mark) (is_open_after is_open v) (suc n) lines)))
        (AreNamed mark (onto v (values_from Ok (is_open_after is_open v) (suc n) lines)))
    test v false e more = tt
    test v true e more = rest v (values_from (named mark) (is_open_after is_open v) (suc n) lines) e more

    by : (r : Result LineValue PlainCause)
        → ((v : LineValue) → IfOk (values_from (named mark) (is_open_after is_open v) (suc n) lines) (AreNamed mark (values_from Ok (is_open_after is_open v) (suc n) lines)))
        → IfOk (◌>>=◌ (numbered n r) (λ v. ◌>>=◌ (numbered n (named mark v)) (λ w. onto w (values_from (named mark) (is_open_after is_open v) (suc n) lines))))
        (AreNamed mark (◌>>=◌ (numbered n r) (λ v. ◌>>=◌ (numbered n (Ok v)) (λ w. onto w (values_from Ok (is_open_after is_open v) (suc n) lines)))))
    by (Err e) more = tt
    by (Ok v) more = test v (is_said (renamed mark v)) refl (more v)

-- the values of a source are what it means, under the names of the plain form

in_names : (source : List ℕ) → IfOk (values_in source) (IsNamed source)
unfolding values_in meant_in
in_names source = by (values_in source) (named_from (mark_in source) false 1 (lines_of source))
  where
    whole : (mark : List ℕ) (values : List LineValue) (is : AreNamed mark (meant_in source) values) → mark ≡ mark_of is.found → IsNamed source values
    whole mark values is mark_is = record {
      meant = is.found;
      means = is.means;
      by_name = is.by_name ∙ ap (λ d. map (renamed d) is.found) mark_is;
      said = is.said;
    }

    by : (r : Result (List LineValue) LineFault) → IfOk r (AreNamed (mark_in source) (meant_in source)) → IfOk r (IsNamed source)
    by (Err e) is = tt
    by (Ok values) is = whole (mark_in source) values is (ap (λ r. mark_of (known r)) is.means)

-- the values of a source are what it means, under the names of the plain form
pub is_named : (source : List ℕ) (values : List LineValue) → values_in source ≡ Ok values → IsNamed source values
is_named source values h = subst (λ r. IfOk r (IsNamed source)) h (in_names source)
