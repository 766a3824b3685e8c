-- What is due, by what reading the source, finding the zone and asking the program found.
use Rattle.std.{proofs.Common.{◌≡◌, ℕ, List, [], ◌∷◌, ◌++◌, Option, Some, None, Ok, Err, refl, sym, ap, subst, ◌∙◌, option_map, MatchOption, IsSome}, specs.Option.{option_map_or, option_or}, specs.Prelude.{IfSome}}
use Rattle.zone_source.specs.{FaultLines.{source_line}, Faults.{SourceFault, source_fault}, Told.{told_by_source, TellsOfSource}, Zones.{values_of}, declared.error.SourceError.{SourceError}, Responses.{IsLineOf}}
use Rattle.zone_source.specs.declared.error.SourceError.TheVariants as source_error
use Rattle.zone_table.specs.{Tables.{IsTableOf}, declared.table.Table.{Table}}
use Rattle.tz_lookup.specs.{Compiles.{spans_of}, declared.set.FixedTimespanSet.{FixedTimespanSet}}
use Rattle.zone_run.specs.{Causes.{Cause, of_source, of_zone, of_program, zone_cause, named, cause}, FoundLaws.{found_is}, Due.{answer, cause_line, due_bytes, zone_line}, Readings.{Reading, Spans, ZoneCause, found_in, found_in_table}, Tasks.{Task}}

module _ (read : Reading Spans) (label : List ℕ) (task : Task) (source bytes : List ℕ) where
  -- there is a cause, and its line is due
  abbrev pub IsRefused : Type 0
  IsRefused = IsSome (cause read task source) × (bytes ≡ due_bytes read label task source)

  line_due : (c : Cause) → cause read task source ≡ Some c → bytes ≡ cause_line label c ++ 10 ∷ [] → IsRefused
  unfolding due_bytes
  line_due c met is = (
    subst IsSome (sym met) refl,
    is ∙ ap (λ o. option_map_or (λ c. cause_line label c ++ 10 ∷ []) o (answer task (found_in read source task.zone))) (sym met),
  )

  -- the first fault of the source is the cause
  pub source_refuses : (error : SourceError) → TellsOfSource (source_fault source) error → IsLineOf source_line (told_by_source error) bytes
      → IsRefused
  unfolding cause
  source_refuses error tells line = by_told (told_by_source error) tells line
    where
      met : (f : SourceFault) → source_fault source ≡ Some f → cause read task source ≡ Some (of_source f)
      met f is = ap (λ o. option_or (option_map of_source o) (zone_cause task (found_in read source task.zone))) is

      by_told : (told : Option SourceFault) → MatchOption told (error ≡ source_error.NoMemory) (λ f. source_fault source ≡ Some f) →
          IsLineOf source_line told bytes → IsRefused
      by_told None tells line = absurd line
      by_told (Some f) is line = line_due (of_source f) (met f is) line

  -- a source without a fault was read as this table, whose names find what they find in the source
  module _ (table : Table) (sound : source_fault source ≡ None) (joined : IsTableOf table (values_of source)) where
    cause_is : cause read task source ≡ zone_cause task (found_in_table read table task.zone)
    unfolding cause
    cause_is =
        ap (λ o. option_or (option_map of_source o) (zone_cause task (found_in read source task.zone))) sound
        ∙ ap (λ names. zone_cause task (names task.zone)) (sym (found_is read table source joined))

    -- why the zone can't be asked is the cause
    pub zone_refuses : (told : Option ZoneCause) → IfSome told (λ why. found_in_table read table task.zone ≡ Err why)
        → IsLineOf (zone_line label) told bytes → IsRefused
    zone_refuses None is line = absurd line
    zone_refuses (Some why) is line = line_due (of_zone why) (cause_is ∙ ap (zone_cause task) is) line

    -- the zone was found under the name, with these spans: the cause is then the program's own
    module _ (set : FixedTimespanSet) (found : found_in_table read table task.zone ≡ Ok (spans_of set)) (name : set.name ≡ task.zone) where
      own_cause : cause read task source ≡ option_map of_program (task.asked.cause set)
      own_cause =
          cause_is ∙ ap (zone_cause task) found
          ∙ ap (λ name. option_map of_program (task.asked.cause (named name (spans_of set)))) (sym name)

      pub program_refuses : (why : List ℕ) → task.asked.cause set ≡ Some why → bytes ≡ cause_line label (of_program why) ++ 10 ∷ [] → IsRefused
      program_refuses why refused line = line_due (of_program why) (own_cause ∙ ap (option_map of_program) refused) line

      -- without a cause of its own, the program's answer is due
      pub program_answers : task.asked.cause set ≡ None → bytes ≡ task.asked.due set →
          (cause read task source ≡ None) × (bytes ≡ due_bytes read label task source)
      unfolding due_bytes
      program_answers accepted answered =
          let none : cause read task source ≡ None = own_cause ∙ ap (option_map of_program) accepted in (
            none,
            answered ∙ ap (λ name. task.asked.due (named name (spans_of set))) name
                ∙ ap (answer task) (sym found)
                ∙ ap (λ names. answer task (names task.zone)) (found_is read table source joined)
                ∙ ap (λ o. option_map_or (λ c. cause_line label c ++ 10 ∷ []) o (answer task (found_in read source task.zone))) (sym none),
          )
