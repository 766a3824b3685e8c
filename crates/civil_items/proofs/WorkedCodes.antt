-- The codes of some configurations, and the places of all parts.
use Rattle.std.proofs.Common.{lit<, ◌≡◌, refl, [], ◌∷◌, map, true, false, Some, None}
use Rattle.civil_items.specs.declared.iso8601.{FormattedComponents.TheVariants.{None as Nothing, Date, Time, Offset, DateTime, DateTimeOffset, TimeOffset}, DateKind.TheVariants.{Calendar, Week, Ordinal}, TimePrecision.TheVariants.{Hour, Minute, Second}}
use Rattle.civil_items.specs.{declared.iso8601.OffsetPrecision.TheVariants.{Hour as ToHours, Minute as ToMinutes}, declared.{config.Config.{Config}, digits.Digits.{Digits}}, Codes.{components_place, kind_place, unit_place, precision_place, code}, Defaults.{default_config, nine}}

worked_parts : map components_place (Nothing ∷ Date ∷ Time ∷ Offset ∷ DateTime ∷ DateTimeOffset ∷ TimeOffset ∷ [])
    ≡ 0 ∷ 1 ∷ 2 ∷ 3 ∷ 4 ∷ 5 ∷ 6 ∷ []
worked_parts = refl

worked_kinds : map kind_place (Calendar ∷ Week ∷ Ordinal ∷ []) ≡ 0 ∷ 1 ∷ 2 ∷ []
worked_kinds = refl

worked_units : map unit_place (Hour None ∷ Minute (Some nine) ∷ Second None ∷ []) ≡ 0 ∷ 1 ∷ 2 ∷ []
worked_units = refl

worked_precisions : map precision_place (ToHours ∷ ToMinutes ∷ []) ≡ 0 ∷ 1 ∷ []
worked_precisions = refl

abbrev many : Digits
many = record { number = 255; in_range = record { least = lit< tt; greatest = lit< tt } }

worked_default : code default_config ≡ 0x05010000020901000000000000000000
unfolding code
worked_default = refl

-- each part in its byte
abbrev other_texts : Config
other_texts = record default_config { formatted_components = TimeOffset; use_separators = false; year_is_six_digits = true }

worked_code : code (record other_texts { date_kind = Ordinal; time_precision = Minute (Some many); offset_precision = ToHours })
    ≡ 0x0600010201ff00000000000000000000
unfolding code
worked_code = refl

worked_no_digits : code (record default_config { formatted_components = Nothing; date_kind = Week; time_precision = Hour None })
    ≡ 0x00010001000001000000000000000000
unfolding code
worked_no_digits = refl
