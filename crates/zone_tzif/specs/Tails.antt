-- The footer that carries a set on for ever, and why there is none.
use Rattle.std.specs.Prelude.{◌≡◌, ℕ, ◌<◌, List, Option, Some, None, true, ℤ}
use Rattle.civil_base.specs.Ranges.{IsOffset}
use Rattle.tz_tzif.specs.{FooterForce.{FooterZone, fixed}, Standing.{StandsFor}}
use Rattle.tz_lookup.specs.declared.set.FixedTimespanSet.{FixedTimespanSet}
use Rattle.zone_tzif.specs.{Agreement.{cycle_begin}, Tells.{Tells}, Tried.{ever_fault, how_many, tried}, Walked.{kind_from}, declared.agreeing.Agreement.{Agreement}, declared.agreeing.Agreement.TheVariants.{Nowhere, From, Always}, declared.outcome.EverTailFault.{EverTailFault}}
use Rattle.zone_tzif.specs.declared.outcome.EverTailFault.TheVariants as fault
use Rattle.zone_tzif_core.specs.Zones.{KindValue}

-- a text is no footer that does so
abbrev pub CarriesNothing : FixedTimespanSet → List ℕ → Type 0
CarriesNothing set text = (zone : FooterZone) → StandsFor text zone → Tells zone set Nowhere

-- what a text says as a footer
abbrev pub TextTells : FixedTimespanSet → List ℕ → Agreement → Type 0
TextTells set text Nowhere = CarriesNothing set text
TextTells set text (From second) = (zone : FooterZone) × StandsFor text zone × Tells zone set (From second)
TextTells set text Always = (zone : FooterZone) × StandsFor text zone × Tells zone set Always

abbrev pub beginning_of : Option ℤ → Agreement
beginning_of None = Always
beginning_of (Some second) = From second

-- the text is a footer that says from there on for ever what the set shows
pub record CarriesForEver (set : FixedTimespanSet) (from : Option ℤ) (text : List ℕ) : Type 0 where
  pub zone : FooterZone
  pub stands : StandsFor text zone
  pub tells : Tells zone set (beginning_of from)

-- ---- daylight saving time for good

-- what is in force as 2102 begins
abbrev pub last_of : FixedTimespanSet → KindValue
last_of set = kind_from set cycle_begin

-- it is daylight saving time, and holds for good from there on
pub record IsSavedFrom (set : FixedTimespanSet) (from : Option ℤ) : Type 0 where
  pub saved : (last_of set).is_dst ≡ true
  pub offset : IsOffset (last_of set).utoff
  pub tells : Tells (fixed (last_of set)) set (beginning_of from)

-- it is none, or doesn't hold for good
abbrev pub IsNotSaved : FixedTimespanSet → Type 0
IsNotSaved set = (last_of set).is_dst ≡ true → Tells (fixed (last_of set)) set Nowhere

-- ---- the answer

-- it is the first of those that are tried
pub record IsTailForEver (set : FixedTimespanSet) (from : Option ℤ) (text : List ℕ) : Type 0 where
  pub unsaved : IsNotSaved set
  pub none : ever_fault set ≡ None
  pub carries : CarriesForEver set from text
  pub number : ℕ
  pub within : number < how_many
  pub is : text ≡ tried set number
  pub first : (j : ℕ) → j < number → CarriesNothing set (tried set j)

-- want of memory comes only where something is tried, and any other fault is its cause
abbrev pub IsFaultForEver : FixedTimespanSet → EverTailFault → Type 0
IsFaultForEver set fault.Saving = (from : Option ℤ) × IsSavedFrom set from
IsFaultForEver set fault.Shape = IsNotSaved set × (ever_fault set ≡ Some fault.Shape)
IsFaultForEver set fault.OffsetRange = IsNotSaved set × (ever_fault set ≡ Some fault.OffsetRange)
IsFaultForEver set fault.Name = IsNotSaved set × (ever_fault set ≡ Some fault.Name)
IsFaultForEver set fault.NoRule = IsNotSaved set × (ever_fault set ≡ None) × ((j : ℕ) → j < how_many → CarriesNothing set (tried set j))
IsFaultForEver set fault.NoMemory = IsNotSaved set × (ever_fault set ≡ None)
