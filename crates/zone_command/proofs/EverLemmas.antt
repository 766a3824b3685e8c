-- What is found of a zone for ever, and why it can't be asked.
use Rattle.std.{proofs.Common.{◌≡◌, ℕ, List, [], Bool, true, false, cond, Option, Some, None, Ok, Err, refl, sym, ap, ◌∙◌}, specs.FinMap.{get}, specs.Prelude.{IfSome, IsTrue, option_map, unwrap_or}}
use Rattle.zone_table.specs.{Resolved.{resolved_in}, declared.table.Table.{Table}, declared.zone.ZoneInfo.{ZoneInfo}}
use Rattle.zone_spans.specs.{Compiled.{compiled, compiled_over}, GoesOn.{goes_on}, Lines.{Rulesets, zone_lines}, Schedules.{is_in_offset_range, totals_of}}
use Rattle.tz_ever.specs.{AnyYear.{total_for_ever}, Ever.{ever_total}, ForEver.{ever_years}, Opens.{DoesNotGoOn, IsEverFault, IsFoundForEver, IsTooFarLater, IsZoneToday, leaves_year, leaves_year_later}, declared.open.EverFault.{EverFault}}
use Rattle.tz_ever.specs.declared.open.EverFault.TheVariants.{LaterDay, LaterOffset, RulesEnd, Zone}
use Rattle.tz_lookup.specs.{Compiles.{compiled_in, spans_of}, Sets.{schedule_of}, declared.set.FixedTimespanSet.{FixedTimespanSet}}
use Rattle.zone_answers.specs.{Faults.{zone_refusal}, FoundLaws.{fault_told_so}, Told.{TellsReading}, declared.error.ReadingError.{ReadingError}, declared.error.ReadingError.TheVariants.{Answer, RulesEnd as Ends}}
use Rattle.zone_run.specs.{FoundLaws.{compiled_refused}, Readings.{Spans, ZoneCause, found_in_table, found_under, given_of, given_to_2099, offset_range, to_2099}, Responses.{TellsCause, cause_told}}
use Rattle.zone_run.specs.declared.found.FindFault.TheVariants as find
use Rattle.zone_command.specs.{EverReadings.{ending, for_ever, found_on}, EverRefused.{Refuses, find_fault}}

-- lines that can be asked to 2099
module _ (rulesets : Rulesets) (lines : List ZoneInfo) (today : Spans) (compiles : compiled rulesets lines ≡ Ok today)
    (small : is_in_offset_range (totals_of today) ≡ true) where
  -- by whether they go on
  by_going : (b : Bool) → goes_on (zone_lines rulesets lines) ≡ b
      → for_ever rulesets lines ≡ cond b (given_of (λ set. total_for_ever rulesets lines) (compiled_over ever_years rulesets lines))
      (Err (ending (leaves_year (Some (compiled_over ever_years rulesets lines)))))
  unfolding for_ever given_to_2099
  by_going b is =
      ap (λ o. found_on rulesets lines (given_of (λ set. set) o)) compiles
      ∙ ap (λ b. found_on rulesets lines (cond b (Ok today) (Err offset_range))) small
      ∙ ap (λ b. cond b (given_of (λ set. total_for_ever rulesets lines) (compiled_over ever_years rulesets lines))
      (Err (ending (leaves_year (Some (compiled_over ever_years rulesets lines)))))) is

  -- by the offsets of the later years
  by_range : (set : Spans) (b : Bool) → goes_on (zone_lines rulesets lines) ≡ true
      → compiled_over ever_years rulesets lines ≡ Ok set → is_in_offset_range (totals_of set) ≡ b
      → for_ever rulesets lines ≡ cond b (Ok (total_for_ever rulesets lines)) (Err offset_range)
  by_range set b goes is range =
      by_going true goes ∙ ap (given_of (λ set. total_for_ever rulesets lines)) is ∙ ap (λ b. cond b (Ok (total_for_ever rulesets lines)) (Err offset_range)) range

-- a set that says all of a zone for ever gives what is given of it
given_is : (table : Table) (name : List ℕ) (set : FixedTimespanSet) (is : IsFoundForEver table name set)
    → IsTrue (is_in_offset_range (schedule_of set))
    → found_in_table for_ever table name ≡ Ok (total_for_ever (get table.rulesets) is.infos)
unfolding totals_of
given_is table name set is small =
    ap (found_under for_ever (get table.rulesets)) is.is_found
    ∙ by_range (get table.rulesets) is.infos is.zone.today is.zone.compiles is.zone.range _ true is.zone.goes_on is.zone.set_is small

ends_is : (table : Table) (name : List ℕ) (leaves : Bool) → DoesNotGoOn table name → leaves_year_later table name ≡ leaves
    → found_in_table for_ever table name ≡ Err (ending leaves)
ends_is table name leaves is due =
    ap (found_under for_ever (get table.rulesets)) is.zone.is_found
    ∙ by_going (get table.rulesets) is.zone.infos is.zone.today is.zone.compiles is.zone.range false is.ends
    ∙ ap (λ b. Err (ending b)) (ap (λ found. leaves_year (option_map (compiled_over ever_years (get table.rulesets)) found)) (sym is.zone.is_found) ∙ due)

far_is : (table : Table) (name : List ℕ) → IsTooFarLater table name → found_in_table for_ever table name ≡ Err offset_range
far_is table name is =
    ap (found_under for_ever rulesets) zone.is_found
    ∙ by_range rulesets zone.infos zone.today zone.compiles zone.range is.far.set false is.zone.goes_on
    (ap (λ o. unwrap_or o (Ok is.far.set)) (ap (option_map (compiled_over ever_years rulesets)) (sym zone.is_found) ∙ is.far.is_found)) is.far.far
  where
    rulesets : Rulesets
    rulesets = get table.rulesets

    zone : IsZoneToday table name
    zone = is.zone.zone

-- why a zone can't be asked to 2099 is why it can't for ever
told_for_ever : (rulesets : Rulesets) (lines : Option (List ZoneInfo)) (told : Option ZoneCause)
    → IfSome told (λ why. found_under to_2099 rulesets lines ≡ Err why)
    → IfSome told (λ why. found_under for_ever rulesets lines ≡ Err why)
unfolding for_ever
told_for_ever rulesets lines None tells = tells
told_for_ever rulesets None (Some why) tells = ap (found_on rulesets []) tells
told_for_ever rulesets (Some lines) (Some why) tells = ap (found_on rulesets lines) tells

pub given_refused : (table : Table) (name : List ℕ) (fault : EverFault) → IsEverFault table name fault
    → TellsCause (found_in_table for_ever table name) (find_fault fault)
given_refused table name (Zone fault) is =
    told_for_ever (get table.rulesets) (resolved_in table name) (cause_told (find.Zone fault))
    (compiled_refused (λ set. set) (get table.rulesets) (resolved_in table name) fault is)
given_refused table name LaterDay is = ends_is table name true is.0 is.1
given_refused table name RulesEnd is = ends_is table name false is.0 is.1
given_refused table name LaterOffset is = far_is table name is

pub totals_are : (table : Table) (name : List ℕ) (set : FixedTimespanSet) → IsFoundForEver table name set
    → IsTrue (is_in_offset_range (schedule_of set)) → found_in_table for_ever table name ≡ Ok (ever_total set)
totals_are table name set is small =
    given_is table name set is small ∙ ap Ok (λ i t. sym (is.total t) i)

-- the error that stands for it tells why the zone of a request can't be asked
pub ever_refused : (table : Table) (name : List ℕ) (n : ℕ) (fault : EverFault) (error : ReadingError) → IsEverFault table name fault
    → Refuses n (find_fault fault) error → TellsReading (zone_refusal n (found_in_table for_ever table name)) error
ever_refused table name n fault error is refused = by_fault fault error is (given_refused table name fault is) refused
  where
    by_fault : (fault : EverFault) (error : ReadingError) → IsEverFault table name fault
        → TellsCause (found_in_table for_ever table name) (find_fault fault) → Refuses n (find_fault fault) error
        → TellsReading (zone_refusal n (found_in_table for_ever table name)) error
    by_fault (Zone fault) (Answer error) is tells refused = fault_told_so (found_in_table for_ever table name) (compiled_in table name) n fault error tells is refused
    by_fault LaterDay (Answer error) is tells refused = rw (tells, refused) refl
    by_fault RulesEnd error is tells refused = rw (tells, refused) refl
    by_fault LaterOffset (Answer error) is tells refused = rw (tells, refused) refl
    by_fault (Zone fault) (Ends m) is tells refused = absurd refused
    by_fault LaterDay (Ends m) is tells refused = absurd refused
    by_fault LaterOffset (Ends m) is tells refused = absurd refused
