-- The source lines join one after another.
use Rattle.std.proofs.{Common.{◌≡◌, ℕ, suc, ◌+◌, length, map, true, List, [], ◌∷◌, ◌++◌, Option, Some, None, MatchOption, reverse, option_map, Ok, sym, ap, subst, ◌∙◌}, lemmas.List.{reverse-append}}
use Rattle.std.specs.{List.{list_all}, Option.{option_or}, Str.{is_utf8}}
use Rattle.zone_table.specs.{LineBounds.{is_bounded_line}, Values.{LineValue}, Built.{Built, StandsFor, Joins}, Refusals.{refusal, Accepted}}
use Rattle.zone_line.specs.LineValues.{value}
use Rattle.zone_source.specs.{Joining.{Takes}, Lines.{lines_of}, Zones.{source_value, values_of}, Told.{told_by_source, TellsOfSource}, declared.error.SourceError.{SourceError}, declared.error.SourceError.TheVariants.{NoMemory}}
use Rattle.zone_source.specs.Faults.{SourceFault, bad_join, kind_of, join_refusal, line_refusal, first_line_refused, source_fault}

-- a line that reads has the value that was read
value_read : (line : List ℕ) (read : LineValue) → is_utf8 line ≡ true → value line ≡ Ok read → source_value line ≡ read
unfolding source_value
value_read line read text is = rw (text, is)

-- and it is refused as that value is
refused_as : (values : List LineValue) (n : ℕ) (line : List ℕ) (read : LineValue) → is_utf8 line ≡ true → value line ≡ Ok read
    → line_refusal values n line ≡ join_refusal values n read
refused_as values n line read text is = rw (text, is)

-- a value that was accepted is not refused
not_refused : (old new : Built) (read : LineValue) → Joins old new read → (values : List LineValue) → StandsFor old values
    → refusal (reverse values) read ≡ None
not_refused old new read joins values stands = (subst Accepted (reverse-append values (read ∷ [])) (joins values stands).accepted).0

-- a line whose value was accepted
pub taken : (old new : Built) (n : ℕ) (line : List ℕ) (read : LineValue) → is_utf8 line ≡ true → value line ≡ Ok read
    → Joins old new read →
    is_bounded_line read ≡ true → Takes old new n line
taken old new n line read text is joins bounded = record {
  accepted =
      λ values stands. refused_as values n line read text is
      ∙ ap (option_map (λ r. bad_join n (kind_of r))) (not_refused old new read joins values stands);
  stands = λ values stands. subst (λ v. StandsFor new (values ++ v ∷ [])) (sym (value_read line read text is)) (joins values stands);
  bounded = ap is_bounded_line (value_read line read text is) ∙ bounded;
}

-- the lines before the nth have joined: a builder stands for their values, and what is left has the first fault
pub record HasJoined (source : List ℕ) (builder : Built) (n : ℕ) (left : List (List ℕ)) : Type 0 where
  pub before : List LineValue
  pub number : n + length left ≡ 1 + length (lines_of source)
  pub stands : StandsFor builder before
  pub bounded : list_all is_bounded_line before ≡ true
  pub values : before ++ map source_value left ≡ values_of source
  pub refused : first_line_refused before n left ≡ source_fault source

-- past a line that is taken
pub first_later : (before : List LineValue) (n : ℕ) (line : List ℕ) (lines : List (List ℕ)) → line_refusal before n line ≡ None →
    first_line_refused (before ++ source_value line ∷ []) (suc n) lines ≡ first_line_refused before n (line ∷ lines)
first_later before n line lines taken =
    ap (λ o. option_or o (first_line_refused (before ++ source_value line ∷ []) (suc n) lines)) (sym taken)

-- at a line that is refused
first_here : (before : List LineValue) (n : ℕ) (line : List ℕ) (lines : List (List ℕ)) (f : SourceFault)
    → line_refusal before n line ≡ Some f →
    first_line_refused before n (line ∷ lines) ≡ Some f
first_here before n line lines f refused =
    ap (λ o. option_or o (first_line_refused (before ++ source_value line ∷ []) (suc n) lines)) refused

-- an error that tells of the line that is refused first tells of the first of all
pub told_first : (before : List LineValue) (n : ℕ) (line : List ℕ) (lines : List (List ℕ)) (first : Option SourceFault)
    (error : SourceError) →
    first_line_refused before n (line ∷ lines) ≡ first → TellsOfSource (line_refusal before n line) error → TellsOfSource first error
told_first before n line lines first error same h = by_told (told_by_source error) h
  where
    by_told : (told : Option SourceFault) → MatchOption told (error ≡ NoMemory) (λ f. line_refusal before n line ≡ Some f)
        → MatchOption told (error ≡ NoMemory) (λ f. first ≡ Some f)
    by_told None h = h
    by_told (Some f) h = sym same ∙ first_here before n line lines f h
