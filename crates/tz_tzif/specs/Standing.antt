-- What the value of a footer stands for.
use Rattle.std.specs.{Prelude.{◌≡◌, ℕ, Bool, true, false, List, Option, Some, None, ℤ, pos, ◌+ℤ◌}, Option.{option_map_or}}
use Rattle.tz_posix.specs.{InForce.{moment_of}, Seconds.{east_of}, Spells.{signed_times}}
use Rattle.tz_tzif.specs.{FooterForce.{FooterZone, fixed, yearly}, Ranges.{IsFooterOf}, Values.{SavingValue, FooterValue}}
use Rattle.zone_tzif_core.specs.Zones.{KindValue}

abbrev pub kind_of : List ℕ → ℤ → Bool → KindValue
kind_of name total saving = record { utoff = total; is_dst = saving; name = name }

-- without an offset of its own daylight saving time is an hour ahead of standard time
abbrev pub saving_kind : SavingValue → ℤ → KindValue
saving_kind saving standard = kind_of saving.name (option_map_or east_of saving.offset (standard +ℤ pos 3600)) true

abbrev pub with_saving : KindValue → Option SavingValue → FooterZone
with_saving standard None = fixed standard
with_saving standard (Some saving) =
    yearly standard (saving_kind saving standard.utoff) (moment_of signed_times saving.rule.start) (moment_of signed_times saving.rule.end)

unfoldable pub stands_for : FooterValue → FooterZone
stands_for value = with_saving (kind_of value.standard.name (east_of value.standard.offset) false) value.saving

-- a footer has parts in their ranges and stands for this
pub record StandsFor (text : List ℕ) (zone : FooterZone) : Type 0 where
  pub value : FooterValue
  pub is : IsFooterOf text value
  pub stands : stands_for value ≡ zone
