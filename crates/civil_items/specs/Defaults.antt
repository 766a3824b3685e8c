-- The default configuration.
use Rattle.std.{specs.Prelude.{true, false, Some}, proofs.Common.{lit<}}
use Rattle.civil_items.specs.declared.{digits.Digits.{Digits}, config.Config.{Config}, iso8601.FormattedComponents.TheVariants.{DateTimeOffset}, iso8601.DateKind.TheVariants.{Calendar}, iso8601.TimePrecision.TheVariants.{Second}}
use Rattle.civil_items.specs.declared.iso8601.OffsetPrecision.TheVariants.{Minute}

abbrev pub nine : Digits
nine = record { number = 9; in_range = record { least = lit< tt; greatest = lit< tt } }

abbrev pub default_config : Config
default_config = record {
  formatted_components = DateTimeOffset;
  use_separators = true;
  year_is_six_digits = false;
  date_kind = Calendar;
  time_precision = Second (Some nine);
  offset_precision = Minute;
}
