-- A name finds in a table what it finds in the source that the table is of; and what `compile_zone` says of a zone to 2099.
use Rattle.std.{proofs.Common.{◌≡◌, ℕ, cond, List, Option, Some, None, Result, Ok, Err, refl, ap, ◌∙◌, option_map, reverse}, proofs.lemmas.Option.{none-some}, specs.Prelude.{IsTrue, unwrap_or}}
use Rattle.zone_source.specs.Zones.{values_of, zone_in, rules_in}
use Rattle.zone_spans.specs.{Compiled.{compiled}, Lines.{Rulesets}, Schedules.{is_in_offset_range, totals_of}, declared.fault.SpanFault.{SpanFault}}
use Rattle.zone_spans.specs.declared.span.FixedTimespanSet as spans
use Rattle.zone_table.specs.{Resolved.{resolved_in-IsTableOf}, Tables.{IsTableOf}, declared.table.Table.{Table}, declared.zone.ZoneInfo.{ZoneInfo}}
use Rattle.tz_lookup.specs.{Compiles.{IsZoneFault, spans_of}, Sets.{schedule_of}, declared.compile.ZoneFault.{ZoneFault}, declared.set.FixedTimespanSet.{FixedTimespanSet}}
use Rattle.tz_lookup.specs.declared.compile.ZoneFault.TheVariants as zone
use Rattle.zone_run.specs.{Readings.{Reading, found_in, found_in_table, found_under, given_of, given_to_2099, offset_range, unknown_zone}, Responses.{TellsCause}, declared.found.FindFault.TheVariants.{Zone}}

pub found_is : {X : Type 0} (read : Reading X) (table : Table) (source : List ℕ) → IsTableOf table (values_of source)
    → found_in_table read table ≡ found_in read source
unfolding found_in zone_in rules_in
found_is read table source is = λ i name.
    found_under read (λ rules. is.rulesets rules i) (resolved_in-IsTableOf table (reverse (values_of source)) is name i)

-- ---- to 2099, whatever is given of the spans
module _ {X : Type 0} (give : spans.FixedTimespanSet → X) (rulesets : Rulesets) where
  compiled_is : (lines : Option (List ZoneInfo)) (result : Result spans.FixedTimespanSet SpanFault)
      → option_map (compiled rulesets) lines ≡ Some result → found_under (given_to_2099 give) rulesets lines ≡ given_of give result
  unfolding given_to_2099
  compiled_is None result is = absurd (none-some _ is)
  compiled_is (Some lines) result is = ap (λ o. given_of give (unwrap_or o result)) is

  none_is : (lines : Option (List ZoneInfo)) → option_map (compiled rulesets) lines ≡ None
      → found_under (given_to_2099 give) rulesets lines ≡ Err unknown_zone
  none_is None is = refl
  none_is (Some lines) is = absurd (cc)

  -- a set whose offsets are offsets is found
  pub compiled_found : (lines : Option (List ZoneInfo)) (set : FixedTimespanSet)
      → option_map (compiled rulesets) lines ≡ Some (Ok (spans_of set)) → IsTrue (is_in_offset_range (schedule_of set))
      → found_under (given_to_2099 give) rulesets lines ≡ Ok (give (spans_of set))
  unfolding totals_of
  compiled_found lines set is small =
      compiled_is lines _ is ∙ ap (λ b. cond b (Ok (give (spans_of set))) (Err offset_range)) small

  -- and a fault tells why none is
  pub compiled_refused : (lines : Option (List ZoneInfo)) (fault : ZoneFault)
      → IsZoneFault (option_map (compiled rulesets) lines) fault → TellsCause (found_under (given_to_2099 give) rulesets lines) (Zone fault)
  compiled_refused lines zone.UnknownZone is = none_is lines is
  compiled_refused lines (zone.Schedule fault) is = compiled_is lines _ is.0
  compiled_refused lines zone.OffsetRange is =
      compiled_is lines _ is.is_found ∙ ap (λ b. cond b (Ok (give is.set)) (Err offset_range)) is.far
  compiled_refused lines zone.NoMemory is = tt
