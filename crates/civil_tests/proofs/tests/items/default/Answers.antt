use Rattle.std.proofs.Common.{refl, ap, Some}
use Rattle.civil_items.specs.{declared.config.Config.{Config}, declared.digits.Digits.{Digits}, declared.iso8601.TimePrecision.TheVariants.{Second}, Defaults.{default_config, nine}, DigitLaws.{one_number}}
use Rattle.civil_tests.proofs.tests.items.default.Goals as goal

abbrev with_digits : Digits → Config
with_digits digits = record default_config { time_precision = Second (Some digits) }

pub returns : goal.returns
returns c = ap with_digits (one_number _ nine refl)
