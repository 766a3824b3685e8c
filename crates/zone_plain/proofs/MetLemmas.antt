-- The names of the lines that were met, and the lines that are left.
use Rattle.std.proofs.{Common.{◌≡◌, ℕ, suc, List, [], ◌∷◌, ◌++◌, map, Bool, true, false, Result, Ok, Err, refl, sym, ap, ◌∙◌, append-nil}, lemmas.Grind.{flat_map-append}, lemmas.List.{map-append}}
use Rattle.zone_source.specs.Lines.{lines_of}
use Rattle.zone_table.specs.{Results.{◌>>=◌}, Values.{LineValue}}
use Rattle.zone_plain_lines.specs.{declared.cause.PlainCause.{PlainCause}, LineFaults.{LineFault}, Marks.{behind, tails, mark_behind}, Renamed.{ruleset_of, mark_of}}
use Rattle.zone_plain.{specs.LineValues.{line_meaning, is_open_after, values_from, meant_in, known, mark_in}, proofs.ReadingLemmas.{before, before_none, taken_on, refused_at, left_out, all_taken}}

-- what stands behind the `_` in the names of these lines
abbrev pub names_of : List LineValue → List (List ℕ)
names_of values = tails 95 (map ruleset_of values)

-- the lines before the nth mean these values, and what is left gives the rest
pub record HasMet (source : List ℕ) (names : List (List ℕ)) (is_open : Bool) (left : List (List ℕ)) : Type 0 where
  pub values : List LineValue
  pub number : ℕ
  pub met : names ≡ names_of values
  pub goes_on : before values (values_from Ok is_open number left) ≡ meant_in source

pub nothing_met : (source : List ℕ) → HasMet source [] false (lines_of source)
unfolding meant_in
nothing_met source = record { values = []; number = 1; met = refl; goes_on = before_none _ }

one_name : (values : List LineValue) (v : LineValue) → names_of (values ++ v ∷ []) ≡ names_of values ++ behind 95 (ruleset_of v)
one_name values v =
    ap (tails 95) (map-append ruleset_of values (v ∷ [])) ∙ flat_map-append (behind 95) (map ruleset_of values) (ruleset_of v ∷ [])
    ∙ ap (λ names. names_of values ++ names) (append-nil (behind 95 (ruleset_of v)))

pub one_met : (source : List ℕ) (old new : List (List ℕ)) (is_open is_open_now : Bool) (line : List ℕ) (left : List (List ℕ)) (v : LineValue)
    → HasMet source old is_open (line ∷ left) → line_meaning is_open line ≡ Ok v → new ≡ old ++ behind 95 (ruleset_of v)
    → is_open_now ≡ is_open_after is_open v → HasMet source new is_open_now left
one_met source old new is_open is_open_now line left v so_far meant added open_now = record {
  values = so_far.values ++ v ∷ [];
  number = suc so_far.number;
  met = added ∙ ap (λ names. names ++ behind 95 (ruleset_of v)) so_far.met ∙ sym (one_name so_far.values v);
  goes_on = ap (λ o. before (so_far.values ++ v ∷ []) (values_from Ok o (suc so_far.number) left)) open_now
      ∙ sym (taken_on Ok so_far.values is_open so_far.number line left v v meant refl) ∙ so_far.goes_on;
}

-- what was found of a source, by the names of what it means
asked : (source : List ℕ) (whole found : Result (List LineValue) LineFault) → whole ≡ meant_in source → whole ≡ found
    → names_of (known found) ≡ names_of (known (meant_in source))
asked source whole found is e = ap (λ r. names_of (known r)) (sym e ∙ is)

-- of a source that is refused nothing is asked
pub none_met : (source : List ℕ) (old : List (List ℕ)) (is_open : Bool) (line : List ℕ) (left : List (List ℕ)) (c : PlainCause)
    → HasMet source old is_open (line ∷ left) → line_meaning is_open line ≡ Err c → [] ≡ names_of (known (meant_in source))
none_met source old is_open line left c so_far e =
    asked source _ _ so_far.goes_on
    (refused_at Ok so_far.values is_open so_far.number line left c (ap (λ r. ◌>>=◌ r Ok) e))

pub open_met : (source : List ℕ) (old : List (List ℕ)) (is_open : Bool) → HasMet source old is_open [] → is_open ≡ true
    → [] ≡ names_of (known (meant_in source))
open_met source old is_open so_far e =
    asked source _ _ so_far.goes_on (left_out Ok so_far.values is_open so_far.number e)

pub all_met : (source : List ℕ) (names : List (List ℕ)) (is_open : Bool) → HasMet source names is_open [] → is_open ≡ false
    → names ≡ names_of (known (meant_in source))
all_met source names is_open so_far e =
    so_far.met ∙ asked source _ _ so_far.goes_on (all_taken Ok so_far.values is_open so_far.number e)

-- the mark by the names
pub mark_is : (source : List ℕ) (names slices : List (List ℕ)) (mark : List ℕ) → names ≡ names_of (known (meant_in source)) → slices ≡ names
    → mark ≡ mark_behind slices → mark ≡ mark_in source
unfolding mark_of
mark_is source names slices mark met same is = is ∙ ap mark_behind (same ∙ met)
