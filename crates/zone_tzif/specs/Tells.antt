-- Where a footer begins to say what a set shows for ever, as it is told.
use Rattle.tz_tzif.specs.FooterForce.{FooterZone}
use Rattle.tz_lookup.specs.declared.set.FixedTimespanSet.{FixedTimespanSet}
use Rattle.zone_tzif.specs.{Agreement.{AgreesAlways, AgreesFirstFrom, AgreesNowhere}, declared.agreeing.Agreement.{Agreement}, declared.agreeing.Agreement.TheVariants.{Nowhere, From, Always}}

abbrev pub Tells : FooterZone → FixedTimespanSet → Agreement → Type 0
Tells zone set Nowhere = AgreesNowhere zone set × (AgreesAlways zone set → ⊥)
Tells zone set (From second) = AgreesFirstFrom zone set second × (AgreesAlways zone set → ⊥)
Tells zone set Always = AgreesAlways zone set

-- the same of entries alone
abbrev pub TellsEntry : FooterZone → FixedTimespanSet → Agreement → Type 0
TellsEntry zone set Nowhere = AgreesNowhere zone set
TellsEntry zone set (From second) = AgreesFirstFrom zone set second
TellsEntry zone set Always = ⊥
