-- Times and offsets in seconds.
use Rattle.std.specs.Prelude.{ℕ, ◌+◌, ◌*◌, not, Option, unwrap_or, ℤ, pos, neg_ℤ, ◌≤ℤ◌}
use Rattle.civil_base.specs.Offsets.{signed_by}
use Rattle.tz_posix.specs.declared.time.{Offset.{Offset}, Time.{Time}}

-- minutes and seconds that are not written are 0
abbrev pub part : Option ℕ → ℕ
part written = unwrap_or written 0

unfoldable pub time_seconds : Time → ℕ
time_seconds time = (time.hh * 60 + part time.mm) * 60 + part time.ss

-- negative after `-`
unfoldable pub offset_seconds : Offset → ℤ
offset_seconds offset = signed_by (not offset.positive) (time_seconds offset.time)

-- the seconds east of UTC: a positive offset lies west of it
abbrev pub east_of : Offset → ℤ
east_of offset = neg_ℤ (offset_seconds offset)

-- at most 24:59:59 in size, as offsets are that are in their range
pub record IsWritten (total : ℤ) : Type 0 where
  pub least : neg_ℤ (pos 89999) ≤ℤ total
  pub greatest : total ≤ℤ pos 89999
