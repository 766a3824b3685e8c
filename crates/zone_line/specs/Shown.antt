-- What the code's own structs of columns show: the texts that the definitions speak of.
use Rattle.std.specs.Prelude.{option_map}
use Rattle.zone_line.specs.{Columns.{InfoTexts, ZoneTexts, RuleTexts, LinkTexts}, DayColumns.{DayTexts}, Clocks.{ClockTexts}, Kinds.{LineKind, space, zone, continuation, rule, link}, declared.columns.InfoColumns.{InfoColumns}}
use Rattle.zone_line.specs.declared.columns.{ZoneColumns.{ZoneColumns}, RuleColumns.{RuleColumns}, LinkColumns.{LinkColumns}, DayColumns.{DayColumns}, ClockColumns.{ClockColumns}}
use Rattle.zone_line.specs.declared.columns.Kind as code
use Rattle.zone_line.specs.declared.columns.Kind.TheVariants as kind

abbrev pub info_shown : InfoColumns → InfoTexts
info_shown c = record {
  gmtoff = c.gmtoff.now;
  rules = c.rules.now;
  format = c.format.now;
  year = option_map (λ t. t.now) c.year;
  month = option_map (λ t. t.now) c.month;
  day = option_map (λ t. t.now) c.day;
  time = option_map (λ t. t.now) c.time;
}

abbrev pub zone_shown : ZoneColumns → ZoneTexts
zone_shown c = record { name = c.name.now; info = info_shown c.info }

abbrev pub rule_shown : RuleColumns → RuleTexts
rule_shown c = record {
  name = c.name.now;
  from = c.from.now;
  to = c.to.now;
  kind = c.kind.now;
  month = c.month.now;
  on = c.on.now;
  at = c.at.now;
  save = c.save.now;
  letters = c.letters.now;
}

abbrev pub link_shown : LinkColumns → LinkTexts
link_shown c = record { target = c.target.now; name = c.name.now }

abbrev pub day_shown : DayColumns → DayTexts
day_shown c = record { weekday = c.weekday.now; sign = c.sign.now; day = c.day.now }

abbrev pub clock_shown : ClockColumns → ClockTexts
clock_shown c = record {
  sign = c.sign.now;
  hour = c.hour.now;
  minute = c.minute.now;
  second = option_map (λ t. t.now) c.second;
  flag = option_map (λ t. t.now) c.flag;
}

abbrev pub kind_shown : code.Kind → LineKind
kind_shown kind.Space = space
kind_shown (kind.Zone columns) = zone (zone_shown columns)
kind_shown (kind.Continuation columns) = continuation (info_shown columns)
kind_shown (kind.Rule columns) = rule (rule_shown columns)
kind_shown (kind.Link columns) = link (link_shown columns)
