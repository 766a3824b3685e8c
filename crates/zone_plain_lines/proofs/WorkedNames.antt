-- Worked rows: names in the plain form, and lines with them.
use Rattle.std.{proofs.Common.{◌≡◌, ℕ, List, [], ◌∷◌, map, pos, Some, None, true, false, refl}, specs.Prelude.{codes}}
use Rattle.zone_table.specs.{Seconds.{with_type}, Values.{no_saving, one_off, multiple, InfoValue, LineValue, space, zone, continuation, rule, link}, declared.day.DaySpec.TheVariants.{Ordinal}, declared.month.Month.TheVariants.{June}, declared.{time.TimeSpec.TheVariants.{Hours}, time.TimeType.TheVariants.{Wall}, year.Year.TheVariants.{Minimum}}}
use Rattle.zone_plain_lines.specs.{Names.{said_name}, Marks.{ending_within}, Renamed.{has_name, mark_of, renamed}}

-- a digit, a space, a slash; the first byte and the last of a letter's four bits
other_bytes : map (said_name (codes "_")) (codes "b2" ∷ codes "a b" ∷ codes "A/Z" ∷ (15 ∷ 240 ∷ []) ∷ [])
    ≡ codes "_-b-dc" ∷ codes "_-a-cab" ∷ codes "_-A-cpZ" ∷ codes "_--ap-pa" ∷ []
unfolding said_name
other_bytes = refl

-- é in UTF-8
beyond_ascii : said_name (codes "_") (195 ∷ 169 ∷ []) ≡ codes "_--md-kj"
unfolding said_name
beyond_ascii = refl

-- behind other marks
longer_marks : said_name (codes "__") (codes "b2") ∷ said_name (codes "_a") (codes "_2") ∷ [] ≡ codes "__-b-dc" ∷ codes "_a-_-dc" ∷ []
unfolding said_name
longer_marks = refl

-- those that RULES can say, and nothing, whatever they begin with
these_stay : map (said_name (codes "__")) (codes "EU" ∷ codes "a-b_c" ∷ codes "_a" ∷ codes "_" ∷ codes "__-a" ∷ codes "_-b-dc" ∷ codes "_-" ∷ codes "___-b" ∷ codes "" ∷ [])
    ≡ codes "EU" ∷ codes "a-b_c" ∷ codes "_a" ∷ codes "_" ∷ codes "__-a" ∷ codes "_-b-dc" ∷ codes "_-" ∷ codes "___-b" ∷ codes "" ∷ []
unfolding said_name
these_stay = refl

-- a rule of a ruleset
abbrev a_rule : List ℕ → LineValue
a_rule name = rule (record {
  name = name;
  from_year = Minimum;
  to_year = None;
  month = June;
  day = Ordinal (pos 14);
  time = with_type (Hours (pos 0)) Wall;
  time_to_add = Hours (pos 1);
  letters = Some (codes "b2");
})

-- a stretch of time under a ruleset
abbrev a_stretch : List ℕ → InfoValue
a_stretch name = record { utc_offset = Hours (pos 1); saving = multiple name; format = codes "b2"; time = None }

-- the rulesets of a source count, in rules and in RULES, and no other names: beside `__b2` alone `_a`, beside `__b2` and `_a` `___`
marks : map mark_of ([] ∷ (a_rule (codes "__b2") ∷ []) ∷ (zone (codes "_a") (a_stretch (codes "__b2")) ∷ link (codes "_a") (codes "_a") ∷ [])
    ∷ (continuation (a_stretch (codes "__b2")) ∷ a_rule (codes "_a") ∷ space ∷ []) ∷ (a_rule (codes "a__") ∷ []) ∷ [])
    ≡ codes "_" ∷ codes "_a" ∷ codes "_a" ∷ codes "___" ∷ codes "_" ∷ []
unfolding mark_of ending_within
marks = refl

-- the names that a source has
named : map (has_name (zone (codes "A") (a_stretch (codes "b2")) ∷ a_rule (codes "_a") ∷ link (codes "B") (codes "C") ∷ []))
    (codes "b2" ∷ codes "_a" ∷ codes "A" ∷ codes "B" ∷ codes "C" ∷ codes "b" ∷ [])
    ≡ true ∷ true ∷ false ∷ false ∷ false ∷ false ∷ []
named = refl

-- the ruleset's name alone becomes another, in rules and in RULES
rulesets : map (renamed (codes "_")) (a_rule (codes "b2") ∷ zone (codes "b2") (a_stretch (codes "b2")) ∷ continuation (a_stretch (codes "b2")) ∷ a_rule (codes "EU") ∷ [])
    ≡ a_rule (codes "_-b-dc") ∷ zone (codes "b2") (a_stretch (codes "_-b-dc")) ∷ continuation (a_stretch (codes "_-b-dc")) ∷ a_rule (codes "EU") ∷ []
unfolding said_name
rulesets = refl

-- other lines stay
others : map (renamed (codes "_")) (space ∷ link (codes "b2") (codes "c3")
    ∷ continuation (record { utc_offset = Hours (pos 1); saving = no_saving; format = codes "b2"; time = None })
    ∷ continuation (record { utc_offset = Hours (pos 1); saving = one_off (Hours (pos 2)); format = codes "b2"; time = None }) ∷ [])
    ≡ space ∷ link (codes "b2") (codes "c3")
    ∷ continuation (record { utc_offset = Hours (pos 1); saving = no_saving; format = codes "b2"; time = None })
    ∷ continuation (record { utc_offset = Hours (pos 1); saving = one_off (Hours (pos 2)); format = codes "b2"; time = None }) ∷ []
unfolding said_name
others = refl
