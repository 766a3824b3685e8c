-- What a table's zone is compiled to, and what a text is parsed as, where it spells a value with a rule.
use Rattle.std.{proofs.Common.{◌≡◌, ℕ, List, Some, Ok, Err, sym, ap, ◌∙◌, subst}, specs.FinMap.{get}, specs.Prelude.{option_map}}
use Rattle.zone_table.specs.{Resolved.{resolved_in}, declared.table.Table.{Table}, declared.zone.ZoneInfo.{ZoneInfo}}
use Rattle.zone_spans.specs.{Compiled.{compiled}, Lines.{Rulesets}}
use Rattle.tz_lookup.specs.{Compiles.{compiled_in, spans_of, IsCompiledAs}, declared.set.FixedTimespanSet.{FixedTimespanSet}}
use Rattle.tz_posix.specs.{Agreement.{RuledValue, value_of}, Parses.{IsInRange, IsParsed}, PosixShown.{posix_of}, Ranges.{posix_range}, Resolved.{resolved}, Spells.{Spells}, Values.{TzValue}, declared.error.ParseError.{ParseError}}
use Rattle.tz_posix.specs.declared.{error.ParseError.TheVariants.{Grammar, UnknownName, Range}, posix.PosixTz.{PosixTz}}

module _ (text : List ℕ) (zones : List FixedTimespanSet) (q : RuledValue) (one : (t : List ℕ) (x y : TzValue) → Spells t x → Spells t y → x ≡ y) (is : IsInRange text (value_of q)) where
  -- it is parsed as what the value stands for
  pub parsed_is : (tz : PosixTz) → IsParsed text zones (Ok tz) → resolved zones (value_of q) ≡ Ok (posix_of tz)
  parsed_is tz parsed = ap (resolved zones) (one text (value_of q) parsed.0 is.spelled parsed.1.spelled) ∙ parsed.2

  -- and isn't refused
  pub not_refused : (error : ParseError) → IsParsed text zones (Err error) → ⊥
  unfolding resolved
  not_refused Grammar parsed = parsed (value_of q) is.spelled
  not_refused (Range miss) parsed =
      let missed : posix_range (value_of q) ≡ Some miss = ap posix_range (one text (value_of q) parsed.0 is.spelled parsed.1) ∙ parsed.2 in
      let none = is.range in
      cc
  not_refused (UnknownName name) parsed =
      let unknown : resolved zones (value_of q) ≡ Err name.now =
      ap (resolved zones) (one text (value_of q) parsed.0 is.spelled parsed.1.spelled) ∙ parsed.2 in
      cc

-- the set of a name is compiled of the lines that the name finds
pub of_lines : (table : Table) (name : List ℕ) (lines : List ZoneInfo) (set : FixedTimespanSet) → resolved_in table name ≡ Some lines
    → IsCompiledAs set (compiled_in table name) → compiled (get table.rulesets) lines ≡ Ok (spans_of set)
of_lines table name lines set found is =
    let e : Some (compiled (get table.rulesets) lines) ≡ Some (Ok (spans_of set)) =
    sym (ap (option_map (compiled (get table.rulesets))) found) ∙ is in
    cc

-- the zone has the set
pub of_zone : (rulesets : Rulesets) (lines : List ZoneInfo) (set zone : FixedTimespanSet) → zone ≡ set
    → compiled rulesets lines ≡ Ok (spans_of set) → compiled rulesets lines ≡ Ok (spans_of zone)
of_zone rulesets lines set zone e is = subst (λ s. compiled rulesets lines ≡ Ok (spans_of s)) (sym e) is
