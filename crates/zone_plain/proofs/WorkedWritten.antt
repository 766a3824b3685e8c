-- Worked rows: what is written of values, and what is one line.
use Rattle.std.{proofs.Common.{◌≡◌, false, List, [], ◌∷◌, pos, neg_ℤ, None, Some, refl}, specs.Prelude.{codes}, specs.Fmt.{digits}, proofs.lemmas.List.Elements.{All-from_recursion}}
use Rattle.zone_source.specs.Lines.{is_line_feed}
use Rattle.zone_table.specs.{Months.{month_name}, Seconds.{with_type}, Values.{no_saving, multiple, LineValue, space, zone, continuation, rule, link}, declared.change.ChangeTime.TheVariants.{UntilYear}, declared.day.DaySpec.TheVariants.{Ordinal}, declared.{month.Month.TheVariants.{June}, time.TimeSpec.TheVariants.{Hours, HoursMinutes}, time.TimeType.TheVariants.{Standard}, year.Year.TheVariants.{Minimum, Number}}}
use Rattle.zone_plain_lines.specs.PlainTexts.{plain_text, rule_text, years_text, year_text, to_text, moment_text, day_text, time_text, clock_text, info_text, stretch_text, saving_text, end_text}
use Rattle.zone_plain.specs.{Written.{written}, WrittenLines.{IsOneLine}}

-- two links, a zone of two lines, and a rule behind them
abbrev values : List LineValue
values =
    link (codes "A") (codes "B")
    ∷ zone (codes "A") (record { utc_offset = HoursMinutes (neg_ℤ (pos 3)) (neg_ℤ (pos 30)); saving = no_saving; format = codes "X"; time = Some (UntilYear (Number (pos 9))) })
    ∷ continuation (record { utc_offset = Hours (pos 2); saving = multiple (codes "d"); format = codes "C%sT"; time = None })
    ∷ space
    ∷ link (codes "A") (codes "C")
    ∷ rule (record {
      name = codes "d";
      from_year = Minimum;
      to_year = None;
      month = June;
      day = Ordinal (pos 14);
      time = with_type (Hours (pos 2)) Standard;
      time_to_add = Hours (pos 1);
      letters = Some (codes "S");
    })
    ∷ []

-- the rule first, then the zone with its second line, then the links; of a blank line nothing
by_parts : written values ≡ codes "Rule d min only - Jun 14 2s 1 S\nZone A -3:30 - X 9\n 2 d C%sT\nLink A B\nLink A C\n"
unfolding written plain_text rule_text years_text year_text to_text moment_text day_text time_text clock_text info_text stretch_text saving_text end_text digits month_name
by_parts = refl

-- a link is one line
one_line : IsOneLine (link (codes "A") (codes "B"))
unfolding plain_text
one_line = record {
  unbroken = All-from_recursion (λ byte. is_line_feed byte ≡ false) (codes "Link A B") (refl, (refl, (refl, (refl, (refl, (refl, (refl, (refl, tt))))))));
  kept = refl;
}
