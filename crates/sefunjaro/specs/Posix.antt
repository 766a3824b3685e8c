-- POSIX strings as zones.
use Rattle.std.specs.Prelude.{◌≡◌, ℕ, List, false, true}
use Rattle.tz_tzif.specs.{Ranges.{IsFooterOf}, Standing.{kind_of}, Values.{FooterValue}}
use Rattle.tz_posix.specs.Seconds.{east_of}
use Rattle.zone_tzif_core.specs.Zones.{KindValue, is_small}
use Rattle.sefunjaro.specs.declared.file.PosixFault.{PosixFault, TheVariants.{Refused, NoMemory}}

-- standard time, as a string writes it
abbrev pub standard_kind : FooterValue → KindValue
standard_kind value = kind_of value.standard.name (east_of value.standard.offset) false

-- the text is no string in the ranges of its parts; memory is wanting only where it is one
abbrev pub IsPosixFault : List ℕ → PosixFault → Type 0
IsPosixFault text Refused = (value : FooterValue) → ¬ (IsFooterOf text value)
IsPosixFault text NoMemory = (value : FooterValue) × IsFooterOf text value

-- this is the standard time of a string
pub record IsStandardOf (text : List ℕ) (kind : KindValue) : Type 0 where
  pub value : FooterValue
  pub is : IsFooterOf text value
  pub written : kind ≡ standard_kind value
  pub small : is_small kind.utoff ≡ true
