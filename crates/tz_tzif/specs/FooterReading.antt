-- What a text says as a footer, as it is read.
use Rattle.std.specs.Prelude.{ℕ, List, [], ◌∷◌, Option, Some, None, option_and_then, option_map}
use Rattle.tz_posix.specs.{Reading.{entry_in, offset_at}, declared.error.RangeError.{RangeError}}
use Rattle.tz_tzif.specs.{FooterForce.{FooterZone}, Ranges.{footer_miss}, Standing.{stands_for}, Values.{FooterValue, footer_in}}

-- where no part is out of its range
abbrev pub if_in_ranges : FooterValue → Option RangeError → Option FooterZone
if_in_ranges value None = Some (stands_for value)
if_in_ranges value (Some miss) = None

abbrev pub said_by : Option FooterValue → Option FooterZone
said_by None = None
said_by (Some value) = if_in_ranges value (footer_miss value)

-- an empty footer says nothing
unfoldable pub footer_reading : List ℕ → Option (Option FooterZone)
footer_reading [] = Some None
footer_reading (c ∷ cs) = option_map Some (said_by (option_and_then footer_in (entry_in offset_at (c ∷ cs))))
