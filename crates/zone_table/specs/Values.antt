-- The values of lines, with their texts as bytes.
use Rattle.std.specs.Prelude.{ℕ, List, Option, option_map}
use Rattle.zone_table.specs.declared.{line.ZoneInfo.{ZoneInfo}, line.Rule.{Rule}, time.TimeSpec.{TimeSpec}, time.TimeSpecAndType.{TimeSpecAndType}, change.ChangeTime.{ChangeTime}, day.DaySpec.{DaySpec}, month.Month.{Month}, year.Year.{Year}}
use Rattle.zone_table.specs.declared.line.Saving as code_saving
use Rattle.zone_table.specs.declared.line.Saving.TheVariants as saving
use Rattle.zone_table.specs.declared.line.Line as code_line
use Rattle.zone_table.specs.declared.line.Line.TheVariants as line

pub data SavingValue : Type 0 where
  no_saving : SavingValue
  one_off : TimeSpec → SavingValue
  multiple : List ℕ → SavingValue

pub record InfoValue : Type 0 where
  pub utc_offset : TimeSpec
  pub saving : SavingValue
  pub format : List ℕ
  pub time : Option ChangeTime

pub record RuleValue : Type 0 where
  pub name : List ℕ
  pub from_year : Year
  pub to_year : Option Year
  pub month : Month
  pub day : DaySpec
  pub time : TimeSpecAndType
  pub time_to_add : TimeSpec
  pub letters : Option (List ℕ)

-- a zone by its name, a link by the name that stands and the new one
pub data LineValue : Type 0 where
  space : LineValue
  zone : List ℕ → InfoValue → LineValue
  continuation : InfoValue → LineValue
  rule : RuleValue → LineValue
  link : List ℕ → List ℕ → LineValue

-- what the code's values show
abbrev pub saving_value : code_saving.Saving → SavingValue
saving_value saving.NoSaving = no_saving
saving_value (saving.OneOff amount) = one_off amount
saving_value (saving.Multiple name) = multiple name.now

abbrev pub info_value : ZoneInfo → InfoValue
info_value i = record { utc_offset = i.utc_offset; saving = saving_value i.saving; format = i.format.now; time = i.time }

abbrev pub rule_value : Rule → RuleValue
rule_value r = record {
  name = r.name.now;
  from_year = r.from_year;
  to_year = r.to_year;
  month = r.month;
  day = r.day;
  time = r.time;
  time_to_add = r.time_to_add;
  letters = option_map (λ t. t.now) r.letters;
}

abbrev pub line_value : code_line.Line → LineValue
line_value line.Space = space
line_value (line.Zone z) = zone z.name.now (info_value z.info)
line_value (line.Continuation i) = continuation (info_value i)
line_value (line.Rule r) = rule (rule_value r)
line_value (line.Link l) = link l.existing.now l.new.now
