-- What the values of the code show.
use Rattle.std.specs.Prelude.{option_map}
use Rattle.tz_posix.specs.Shown.{std_shown}
use Rattle.tz_tzif.specs.{Values.{SavingValue, FooterValue}, declared.values.FooterText.{FooterText}, declared.values.Saving.{Saving}}

abbrev pub saving_shown : Saving → SavingValue
saving_shown s = record { name = s.name.now; offset = s.offset; rule = s.rule }

abbrev pub text_shown : FooterText → FooterValue
text_shown f = record { standard = std_shown f.std; saving = option_map saving_shown f.dst }
