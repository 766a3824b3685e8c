-- What a text says, with names by their bytes.
use Rattle.std.specs.Prelude.{ℕ, List, Option}
use Rattle.tz_posix.specs.declared.{time.Offset.{Offset}, time.Time.{Time}, values.Rule.{Rule}}

pub record StdPart : Type 0 where
  pub name : List ℕ
  pub offset : Offset

-- with times of this type
pub record DstPart (T : Type 0) : Type 0 where
  pub name : List ℕ
  pub offset : Option Offset
  pub rule : Option (Rule T)

pub data Value (T : Type 0) : Type 0 where
  short : List ℕ → Value T
  expanded : StdPart → Option (DstPart T) → Value T

-- that of a POSIX TZ string
abbrev pub TzValue : Type 0
TzValue = Value Time
