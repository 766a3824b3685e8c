-- What a text stands for, with the zones that it needs, and what it gives an instant, in nanoseconds from 1970-01-01 00:00 UTC.
use Rattle.std.specs.Prelude.{◌≡◌, Bool, false, List, ℕ, Option, None, Some, if◌then◌else◌, ℤ}
use Rattle.civil_base.specs.Instants.{seconds_of}
use Rattle.zone_spans.specs.Schedules.{total_at}
use Rattle.tz_lookup.specs.{InForce.{GivesAt}, Sets.{schedule_of}, declared.set.FixedTimespanSet.{FixedTimespanSet}}
use Rattle.tz_posix.specs.{InForce.{YearlyTime, is_saving, posix_total, rule_refusal}, declared.error.Error.{Error}}

-- an abbreviation, and the seconds east of UTC
pub record Named : Type 0 where
  pub name : List ℕ
  pub total : ℤ

-- a zone of a database; standard time alone; standard and daylight saving time, with a start and an end in each year; or
-- both, where a zone of a database tells when
pub data PosixZone : Type 0 where
  zone : FixedTimespanSet → PosixZone
  fixed : Named → PosixZone
  ruled : Named → Named → YearlyTime → YearlyTime → PosixZone
  borrowed : Named → Named → FixedTimespanSet → PosixZone

-- the seconds east of UTC, the abbreviation and whether daylight saving time holds
pub record Given : Type 0 where
  pub total : ℤ
  pub name : List ℕ
  pub saving : Bool

-- what holds of standard and daylight saving time
abbrev pub either : Named → Named → Bool → Named
either standard saving holds = if holds then saving else standard

abbrev pub IsOf : Named → Given → Type 0
IsOf named given = (given.total ≡ named.total) × (given.name ≡ named.name)

-- by a rule, at an instant in seconds
pub record GivesByRule (standard saving : Named) (start end : YearlyTime) (second : ℤ) (given : Given) : Type 0 where
  pub total : given.total ≡ posix_total standard.total saving.total start end second
  pub saves : given.saving ≡ is_saving standard.total saving.total start end second
  pub named : given.name ≡ (either standard saving given.saving).name

-- where another zone tells whether daylight saving time holds
pub record GivesAsOther (standard saving : Named) (other : FixedTimespanSet) (t : ℤ) (given : Given) : Type 0 where
  pub its_name : List ℕ
  pub saves : GivesAt other t its_name given.saving
  pub is : IsOf (either standard saving given.saving) given

-- this is what the zone gives the instant
abbrev pub Gives : PosixZone → ℤ → Given → Type 0
Gives (zone set) t given = (given.total ≡ total_at (schedule_of set) t) × GivesAt set t given.name given.saving
Gives (fixed standard) t given = IsOf standard given × (given.saving ≡ false)
Gives (ruled standard saving start end) t given = GivesByRule standard saving start end (seconds_of t) given
Gives (borrowed standard saving other) t given = GivesAsOther standard saving other t given

-- a zone with a rule may be refused
abbrev pub posix_refusal : PosixZone → ℤ → Option Error
posix_refusal (ruled standard saving start end) t = rule_refusal standard.total start.0 end.0 (seconds_of t)
posix_refusal other t = None

-- the zone of the short form
abbrev pub iana_of : PosixZone → Option FixedTimespanSet
iana_of (zone set) = Some set
iana_of other = None

-- it gives the instant this total
pub record GivesTotal (tz : PosixZone) (t total : ℤ) : Type 0 where
  pub given : Given
  pub gives : Gives tz t given
  pub is : given.total ≡ total
