-- The owned forms of worked lines, and the tests of their bounds.
use Rattle.std.specs.Prelude.{◌≡◌, pos, negsuc, Some, true, false, codes, refl}
use Rattle.zone_table.specs.{declared.{change.ChangeTime.TheVariants.{UntilYear, UntilDay}, day.DaySpec.TheVariants.{Ordinal, Last, FirstOnOrAfter, LastOnOrBefore}, month.Month.TheVariants.{March}, time.TimeSpec.TheVariants.{HoursMinutes}}, declared.time.TimeType.TheVariants.{Standard}, declared.weekday.Weekday.TheVariants.{Sunday}, declared.year.Year.TheVariants.{Maximum, Number}, Values.{no_saving, one_off, multiple, InfoValue, RuleValue}, Bounds.{is_bounded_rule, is_bounded_info}, Formats.{format_of, has_placeholder}, Owned.{owned_rule, owned_info, owned_saving}, declared.zone.Format.TheVariants.{Placeholder}, declared.rule.RuleInfo.{RuleInfo}, declared.zone.ZoneInfo.{ZoneInfo}}
use Rattle.zone_table.specs.declared.zone.Saving.TheVariants as saving

-- `Rule US 2007 max - Mar Sun>=8 2:00s 1:00 D`
abbrev rule_line : RuleValue
rule_line = record {
  name = codes "US";
  from_year = Number (pos 2007);
  to_year = Some Maximum;
  month = March;
  day = FirstOnOrAfter Sunday (pos 8);
  time = (HoursMinutes (pos 2) (pos 0), Standard);
  time_to_add = HoursMinutes (pos 1) (pos 0);
  letters = Some (codes "D");
}

abbrev rule : RuleInfo
rule = record {
  from_year = Number (pos 2007);
  to_year = Some Maximum;
  month = March;
  day = FirstOnOrAfter Sunday (pos 8);
  time = pos 7200;
  time_type = Standard;
  time_to_add = pos 3600;
  letters = Some (codes "D");
}

whole_rule : owned_rule rule_line ≡ rule
whole_rule = refl

-- `-5:00 US E%sT 2007`
abbrev zone_line : InfoValue
zone_line = record {
  utc_offset = HoursMinutes (negsuc 4) (pos 0);
  saving = multiple (codes "US");
  format = codes "E%sT";
  time = Some (UntilYear (Number (pos 2007)));
}

abbrev zone : ZoneInfo
zone = record {
  offset = negsuc 17999;
  saving = saving.Multiple (codes "US");
  format = Placeholder (codes "E%sT");
  end_time = Some (UntilYear (Number (pos 2007)));
}

whole_zone : owned_info zone_line ≡ zone
unfolding format_of has_placeholder
whole_zone = refl

other_savings : (owned_saving no_saving ≡ saving.NoSaving)
    × (owned_saving (one_off (HoursMinutes (pos 0) (pos 20))) ≡ saving.OneOff (pos 1200))
other_savings = (refl, refl)

-- ---- bounds: each test passes, and fails alone

bounded : (is_bounded_rule rule ≡ true) × (is_bounded_info zone ≡ true)
bounded = (refl, refl)

greatest : (is_bounded_rule (record rule { time = negsuc 999999; time_to_add = pos 1000000; day = Ordinal (pos 31) }) ≡ true)
    × (is_bounded_info (record zone { offset = pos 1000000; saving = saving.OneOff (negsuc 999999) }) ≡ true)
greatest = (refl, refl)

no_day_of_a_month : (is_bounded_rule (record rule { day = Ordinal (pos 0) }) ≡ false)
    × (is_bounded_rule (record rule { day = LastOnOrBefore Sunday (pos 32) }) ≡ false)
no_day_of_a_month = (refl, refl)

late_rule : (is_bounded_rule (record rule { time = pos 1000001 }) ≡ false)
    × (is_bounded_rule (record rule { time = negsuc 1000000 }) ≡ false)
late_rule = (refl, refl)

much_saving : (is_bounded_rule (record rule { time_to_add = pos 1000001 }) ≡ false)
    × (is_bounded_info (record zone { saving = saving.OneOff (negsuc 1000000) }) ≡ false)
much_saving = (refl, refl)

far_offset : (is_bounded_info (record zone { offset = negsuc 1000000 }) ≡ false)
    × (is_bounded_info (record zone { offset = pos 1000001 }) ≡ false)
far_offset = (refl, refl)

no_day_of_the_end : (is_bounded_info (record zone { end_time = Some (UntilDay (Number (pos 2007)) March (Ordinal (pos 32))) }) ≡ false)
    × (is_bounded_info (record zone { end_time = Some (UntilDay (Number (pos 2007)) March (Last Sunday)) }) ≡ true)
no_day_of_the_end = (refl, refl)
