-- The owned forms of what lines say.
use Rattle.zone_table.specs.{Seconds.{seconds_of}, Values.{SavingValue, no_saving, one_off, multiple, InfoValue, RuleValue}, Formats.{format_of}, declared.rule.RuleInfo.{RuleInfo}, declared.zone.ZoneInfo.{ZoneInfo}}
use Rattle.zone_table.specs.declared.zone.Saving as code
use Rattle.zone_table.specs.declared.zone.Saving.TheVariants as saving

-- times are seconds, and a time of day keeps its clock beside them
abbrev pub owned_rule : RuleValue → RuleInfo
owned_rule rule = record {
  from_year = rule.from_year;
  to_year = rule.to_year;
  month = rule.month;
  day = rule.day;
  time = seconds_of rule.time.0;
  time_type = rule.time.1;
  time_to_add = seconds_of rule.time_to_add;
  letters = rule.letters;
}

abbrev pub owned_saving : SavingValue → code.Saving
owned_saving no_saving = saving.NoSaving
owned_saving (one_off amount) = saving.OneOff (seconds_of amount)
owned_saving (multiple name) = saving.Multiple name

abbrev pub owned_info : InfoValue → ZoneInfo
owned_info info = record {
  offset = seconds_of info.utc_offset;
  saving = owned_saving info.saving;
  format = format_of info.format;
  end_time = info.time;
}
