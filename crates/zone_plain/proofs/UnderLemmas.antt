-- Lines that were read as those of a source of a mark, which may be another's.
use Rattle.std.{proofs.Common.{◌≡◌, ℕ, suc, ◌+◌, List, [], ◌∷◌, ◌++◌, length, Bool, false, refl, sym, ap, ◌∙◌, arith}, proofs.lemmas.Bool.{or_parts}, specs.Prelude.{◌||◌, codes}}
use Rattle.zone_source.specs.{Lines.{lines_of}}
use Rattle.zone_plain_lines.specs.{Marks.{behind, ending_within}, Renamed.{ruleset_of}}
use Rattle.zone_plain.{specs.LineValues.{mark_in}, specs.Told.{IsReadLine}, proofs.MetLemmas.{HasMet, nothing_met, one_met, all_met, mark_is}, proofs.ReadingLemmas.{HasRead, nothing_read, one_more}}

-- the lines before the nth were read, where the mark is the source's, and whether the name of some ruleset of them begins with `_`
pub record HasReadUnder (source : List ℕ) (lines : List (List ℕ)) (mark : List ℕ) (is_marked is_open : Bool) (n : ℕ) (left : List (List ℕ)) : Type 0 where
  pub names : List (List ℕ)
  pub met : HasMet source names is_open left
  pub unmarked : is_marked ≡ false → names ≡ []
  pub number : n + length left ≡ 1 + length (lines_of source)
  pub read : mark ≡ mark_in source → HasRead source lines mark is_open n left

pub nothing_under : (source mark : List ℕ) → HasReadUnder source [] mark false false 1 (lines_of source)
nothing_under source mark = record { names = []; met = nothing_met source; unmarked = λ _. refl; number = refl; read = nothing_read source mark }

pub one_under : (source : List ℕ) (old new : List (List ℕ)) (mark : List ℕ) (is_marked m is_open o : Bool) (n : ℕ) (line : List ℕ) (left : List (List ℕ))
    → HasReadUnder source old mark is_marked is_open n (line ∷ left) → IsReadLine old new mark is_open line m o
    → HasReadUnder source new mark (is_marked || m) o (suc n) left
one_under source old new mark is_marked m is_open o n line left so_far read = record {
  names = so_far.names ++ behind 95 (ruleset_of read.value);
  met = one_met source so_far.names _ is_open o line left read.value so_far.met read.meant refl read.open_now;
  unmarked = λ e. let both = or_parts is_marked m e in
      ap (λ names. names ++ behind 95 (ruleset_of read.value)) (so_far.unmarked both.0) ∙ read.marked both.1;
  number = omega (arith, so_far.number);
  read = λ same. one_more source old new mark is_open o n line left m (so_far.read same) read;
}

-- the mark of a source none of whose names begins with `_`
pub no_mark : (source : List ℕ) (lines : List (List ℕ)) (mark : List ℕ) (is_marked is_open : Bool) (n : ℕ) → HasReadUnder source lines mark is_marked is_open n []
    → is_open ≡ false → is_marked ≡ false → codes "_" ≡ mark_in source
unfolding ending_within
no_mark source lines mark is_marked is_open n so_far closed none =
    mark_is source so_far.names [] (codes "_") (all_met source so_far.names is_open so_far.met closed) (sym (so_far.unmarked none)) refl
