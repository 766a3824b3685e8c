-- Lines that were read, and those that are left.
use Rattle.std.proofs.{Common.{◌≡◌, ℕ, suc, ◌+◌, List, [], ◌∷◌, ◌++◌, map, length, Bool, true, false, cond, Result, Ok, Err, refl, sym, ap, ◌∙◌, append_assoc, append-nil, arith}, lemmas.List.{map_push}}
use Rattle.zone_source.specs.{Lines.{lines_of}, Zones.{source_value}}
use Rattle.zone_table.specs.{Values.{LineValue}, Results.{◌>>=◌}}
use Rattle.zone_plain_lines.specs.{declared.cause.PlainCause.{PlainCause}, PlainTexts.{plain_text}, LineFaults.{LineFault, at, numbered, onto}, SaidLaws.{source_value_is}, Told.{fault_at, IsRefused}, declared.error.Refused.{Refused}, declared.error.Refused.TheVariants.{Cause, NoMemory}, Renamed.{renamed}}
use Rattle.zone_plain_lines.specs.declared.cause.PlainCause.TheVariants as cause
use Rattle.zone_plain.specs.{LineValues.{line_meaning, is_open_after, values_from, mark_in, named, values_in}, Told.{added_line, IsReadLine, IsLineFault}}

-- these values come before those that are found
abbrev pub before : List LineValue → Result (List LineValue) LineFault → Result (List LineValue) LineFault
before vs (Ok ws) = Ok (vs ++ ws)
before vs (Err e) = Err e

pub before_none : (r : Result (List LineValue) LineFault) → before [] r ≡ r
before_none (Ok ws) = refl
before_none (Err e) = refl

pub before_one : (vs : List LineValue) (v : LineValue) (r : Result (List LineValue) LineFault) → before vs (onto v r) ≡ before (vs ++ v ∷ []) r
before_one vs v (Ok ws) = ap Ok (sym (append_assoc vs (v ∷ []) ws))
before_one vs v (Err e) = refl

-- a cause as the fault of the nth line
abbrev fault_of : ℕ → Result LineValue PlainCause → Result (List LineValue) LineFault
fault_of n (Ok v) = Ok []
fault_of n (Err c) = Err (at n c)

module _ (taken : LineValue → Result LineValue PlainCause) (vs : List LineValue) (is_open : Bool) (n : ℕ) where
  -- one line more was taken
  pub taken_on : (line : List ℕ) (left : List (List ℕ)) (v w : LineValue) → line_meaning is_open line ≡ Ok v → taken v ≡ Ok w
      → before vs (values_from taken is_open n (line ∷ left)) ≡ before (vs ++ w ∷ []) (values_from taken (is_open_after is_open v) (suc n) left)
  unfolding values_from
  taken_on line left v w meant took = ap (before vs) (step meant took) ∙ before_one vs w (values_from taken (is_open_after is_open v) (suc n) left)
    where
      step : line_meaning is_open line ≡ Ok v → taken v ≡ Ok w
          → values_from taken is_open n (line ∷ left) ≡ onto w (values_from taken (is_open_after is_open v) (suc n) left)
      step e f = rw (e, f) refl

  -- one is refused
  pub refused_at : (line : List ℕ) (left : List (List ℕ)) (c : PlainCause) → ◌>>=◌ (line_meaning is_open line) taken ≡ Err c
      → before vs (values_from taken is_open n (line ∷ left)) ≡ Err (at n c)
  unfolding values_from
  refused_at line left c e = ap (before vs) (by (line_meaning is_open line) e)
    where
      by : (r : Result LineValue PlainCause) → ◌>>=◌ r taken ≡ Err c
          → ◌>>=◌ (numbered n r) (λ v. ◌>>=◌ (numbered n (taken v)) (λ w. onto w (values_from taken (is_open_after is_open v) (suc n) left)))
          ≡ Err (at n c)
      by (Err d) e = ap (fault_of n) e
      by (Ok v) e = ap (λ r. ◌>>=◌ (numbered n r) (λ w. onto w (values_from taken (is_open_after is_open v) (suc n) left))) e

  -- none is left, and one has to follow or not
  pub left_out : is_open ≡ true → before vs (values_from taken is_open n []) ≡ Err (at n cause.Continuation)
  unfolding values_from
  left_out e = rw e refl

  pub all_taken : is_open ≡ false → before vs (values_from taken is_open n []) ≡ Ok vs
  unfolding values_from
  all_taken e = rw e (ap Ok (append-nil vs))

-- the lines before the nth were read, and what is left gives the rest
pub record HasRead (source : List ℕ) (lines : List (List ℕ)) (mark : List ℕ) (is_open : Bool) (n : ℕ) (left : List (List ℕ)) : Type 0 where
  pub values : List LineValue
  pub number : n + length left ≡ 1 + length (lines_of source)
  pub texts : map source_value lines ≡ values
  pub goes_on : before values (values_from (named mark) is_open n left) ≡ values_in source

pub nothing_read : (source : List ℕ) (mark : List ℕ) → mark ≡ mark_in source → HasRead source [] mark false 1 (lines_of source)
unfolding values_in
nothing_read source mark is = record {
  values = [];
  number = refl;
  texts = refl;
  goes_on = before_none _ ∙ ap (λ d. values_from (named d) false 1 (lines_of source)) is;
}

pub one_more : (source : List ℕ) (old new : List (List ℕ)) (mark : List ℕ) (is_open is_open_now : Bool) (n : ℕ) (line : List ℕ) (left : List (List ℕ)) (is_marked : Bool)
    → HasRead source old mark is_open n (line ∷ left) → IsReadLine old new mark is_open line is_marked is_open_now
    → HasRead source new mark is_open_now (suc n) left
one_more source old new mark is_open is_open_now n line left is_marked so_far line_read =
    let v = line_read.value in
    let w = renamed mark v in record {
      values = so_far.values ++ w ∷ [];
      number = omega (arith, so_far.number);
      texts = ap (map source_value) line_read.added ∙ map_push source_value old (plain_text w) ∙ (λ i. so_far.texts i ++ source_value_is w line_read.said i ∷ []);
      goes_on = ap (λ o. before (so_far.values ++ w ∷ []) (values_from (named mark) o (suc n) left)) line_read.open_now
          ∙ sym (taken_on (named mark) so_far.values is_open n line left v w line_read.meant
          (ap (λ b. cond b (Ok w) (Err cause.Unsayable)) line_read.said)) ∙ so_far.goes_on;
    }

pub left_open : (source : List ℕ) (old : List (List ℕ)) (mark : List ℕ) (is_open : Bool) (n : ℕ) → HasRead source old mark is_open n [] → is_open ≡ true
    → values_in source ≡ Err (at n cause.Continuation)
left_open source old mark is_open n so_far e = sym so_far.goes_on ∙ left_out (named mark) so_far.values is_open n e

pub all_read : (source : List ℕ) (old : List (List ℕ)) (mark : List ℕ) (is_open : Bool) (n : ℕ) → HasRead source old mark is_open n [] → is_open ≡ false
    → values_in source ≡ Ok (map source_value old)
all_read source old mark is_open n so_far e =
    sym so_far.goes_on ∙ all_taken (named mark) so_far.values is_open n e ∙ ap Ok (sym so_far.texts)

pub told_here : (source : List ℕ) (old : List (List ℕ)) (mark : List ℕ) (is_open : Bool) (n : ℕ) (line : List ℕ) (left : List (List ℕ)) (r : Refused)
    → HasRead source old mark is_open n (line ∷ left) → IsRefused (added_line mark is_open line) r → IsLineFault (values_in source) (fault_at n r)
told_here source old mark is_open n line left (Cause c) so_far e =
    sym so_far.goes_on ∙ refused_at (named mark) so_far.values is_open n line left c e
told_here source old mark is_open n line left NoMemory so_far e = tt
