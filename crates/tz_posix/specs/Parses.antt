-- What a text is parsed as over the zones of a database, and why it is refused.
use Rattle.std.specs.Prelude.{◌≡◌, ℕ, List, Some, None, Result, Ok, Err}
use Rattle.tz_lookup.specs.declared.set.FixedTimespanSet.{FixedTimespanSet}
use Rattle.tz_posix.specs.{PosixShown.{posix_of}, PosixZones.{PosixZone}, Ranges.{posix_range}, Resolved.{resolved}, Spells.{Spells}, Values.{TzValue}, declared.error.ParseError.{ParseError}, declared.error.ParseError.TheVariants.{Grammar, UnknownName, Range}}
use Rattle.tz_posix.specs.declared.posix.PosixTz.{PosixTz}

-- the value of a text that has all parts in their ranges
pub record IsInRange (text : List ℕ) (value : TzValue) : Type 0 where
  pub spelled : Spells text value
  pub range : posix_range value ≡ None

-- this comes of a text: it spells nothing; it spells a value with a first miss; or a value in its ranges, which lacks a zone of
-- the database, or stands for the time zone
abbrev pub IsParsed : List ℕ → List FixedTimespanSet → Result PosixTz ParseError → Type 0
IsParsed text zones (Ok tz) = (value : TzValue) × IsInRange text value × (resolved zones value ≡ Ok (posix_of tz))
IsParsed text zones (Err Grammar) = (value : TzValue) → ¬ (Spells text value)
IsParsed text zones (Err (Range miss)) = (value : TzValue) × Spells text value × (posix_range value ≡ Some miss)
IsParsed text zones (Err (UnknownName name)) = (value : TzValue) × IsInRange text value × (resolved zones value ≡ Err name.now)

-- the zone that this is, or the name that is unknown
abbrev pub TellsZone : Result PosixZone (List ℕ) → Result PosixTz ParseError → Type 0
TellsZone told (Ok tz) = told ≡ Ok (posix_of tz)
TellsZone told (Err (UnknownName name)) = told ≡ Err name.now
TellsZone told (Err other) = ⊥

-- of a value in its ranges
abbrev pub IsResolved : List FixedTimespanSet → TzValue → Result PosixTz ParseError → Type 0
IsResolved zones value result = TellsZone (resolved zones value) result
