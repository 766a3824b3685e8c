-- Three pairs of yearly rules of the tz database, each as a ruleset of these two rules alone, and the string that says the same.
use Rattle.std.specs.Prelude.{◌≡◌, ℕ, true, false, List, Option, Some, None, codes, ℤ, pos}
use Rattle.zone_table.specs.declared.{day.DaySpec.{DaySpec}, day.DaySpec.TheVariants.{FirstOnOrAfter, Last}, month.Month.{Month}, month.Month.TheVariants.{March, April, October, November}, time.TimeType.TheVariants.{Wall}, weekday.Weekday.TheVariants.{Sunday}, year.Year.TheVariants.{Maximum, Number}, rule.RuleInfo.{RuleInfo}, zone.Saving.TheVariants.{Multiple}, zone.ZoneInfo.{ZoneInfo}}
use Rattle.zone_spans.specs.Lines.{Rulesets}
use Rattle.tz_posix.specs.{TwoRules.{AreBoth}, Agreement.{RuledValue, TwoRuleZone}, declared.date.Date.TheVariants.{M}, declared.time.Offset.{Offset}}

-- a rule from a year on to max, so many seconds after midnight by the wall's clock
abbrev pub on_the_wall : ℤ → Month → DaySpec → ℤ → ℤ → Option (List ℕ) → RuleInfo
on_the_wall from month day time saving letters = record {
  from_year = Number from;
  to_year = Some Maximum;
  month = month;
  day = day;
  time = time;
  time_type = Wall;
  time_to_add = saving;
  letters = letters;
}

-- so many hours and minutes west or east of UTC
abbrev pub west : ℕ → Offset
west h = record { positive = true; time = record { hh = h; mm = None; ss = None } }

abbrev pub east : ℕ → Option ℕ → Offset
east h m = record { positive = false; time = record { hh = h; mm = m; ss = None } }

-- the line has the offset and is ruled by a ruleset of exactly these two rules, in either order
pub record IsRuledBy (rulesets : Rulesets) (offset : ℤ) (zone : TwoRuleZone) : Type 0 where
  pub offset_is : zone.line.offset ≡ offset
  pub ruleset_name : List ℕ
  pub ruled : zone.line.saving ≡ Multiple ruleset_name
  pub rules : List RuleInfo
  pub found : rulesets ruleset_name ≡ Some rules
  pub exactly_two : AreBoth zone.start zone.end rules

-- `Rule US 2007 max - Mar Sun>=8 2:00 1:00 D`, and `Rule US 2007 max - Nov Sun>=1 2:00 0 S`, with any letters
abbrev pub us_rules : ZoneInfo → Option (List ℕ) → Option (List ℕ) → TwoRuleZone
us_rules line saving_letters letters = record {
  line = line;
  start = on_the_wall (pos 2007) March (FirstOnOrAfter Sunday (pos 8)) (pos 7200) (pos 3600) saving_letters;
  end = on_the_wall (pos 2007) November (FirstOnOrAfter Sunday (pos 1)) (pos 7200) (pos 0) letters;
  from = pos 2007;
}

abbrev pub new_york_text : List ℕ
new_york_text = codes "EST5EDT4,M3.2.0,M11.1.0"

abbrev pub new_york_value : RuledValue
new_york_value = record {
  standard_name = codes "EST";
  standard = west 5;
  saving_name = codes "EDT";
  saving = west 4;
  rule = record { start = (M 3 2 0, None); end = (M 11 1 0, None) };
}

-- `Rule LH 2008 max - Apr Sun>=1 2:00 0 -`, and `Rule LH 2008 max - Oct Sun>=1 2:00 0:30 -`, with any letters
abbrev pub lord_howe_rules : ZoneInfo → Option (List ℕ) → Option (List ℕ) → TwoRuleZone
lord_howe_rules line saving_letters letters = record {
  line = line;
  start = on_the_wall (pos 2008) October (FirstOnOrAfter Sunday (pos 1)) (pos 7200) (pos 1800) saving_letters;
  end = on_the_wall (pos 2008) April (FirstOnOrAfter Sunday (pos 1)) (pos 7200) (pos 0) letters;
  from = pos 2008;
}

abbrev pub lord_howe_text : List ℕ
lord_howe_text = codes "<+1030>-10:30<+11>-11,M10.1.0,M4.1.0"

abbrev pub lord_howe_value : RuledValue
lord_howe_value = record {
  standard_name = codes "+1030";
  standard = east 10 (Some 30);
  saving_name = codes "+11";
  saving = east 11 None;
  rule = record { start = (M 10 1 0, None); end = (M 4 1 0, None) };
}

-- `Rule Moldova 1997 max - Mar lastSun 2:00 1:00 S`, and `Rule Moldova 1997 max - Oct lastSun 3:00 0 -`, with any letters
abbrev pub moldova_rules : ZoneInfo → Option (List ℕ) → Option (List ℕ) → TwoRuleZone
moldova_rules line saving_letters letters = record {
  line = line;
  start = on_the_wall (pos 1997) March (Last Sunday) (pos 7200) (pos 3600) saving_letters;
  end = on_the_wall (pos 1997) October (Last Sunday) (pos 10800) (pos 0) letters;
  from = pos 1997;
}

abbrev pub moldova_text : List ℕ
moldova_text = codes "EET-2EEST-3,M3.5.0,M10.5.0/3"

abbrev pub moldova_value : RuledValue
moldova_value = record {
  standard_name = codes "EET";
  standard = east 2 None;
  saving_name = codes "EEST";
  saving = east 3 None;
  rule = record { start = (M 3 5 0, None); end = (M 10 5 0, Some (record { hh = 3; mm = None; ss = None })) };
}
