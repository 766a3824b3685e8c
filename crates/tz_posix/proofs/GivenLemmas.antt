-- What a time zone by a text gives an instant.
use Rattle.std.proofs.Common.{◌≡◌, refl, Bool, true, false, None, Some, Result, Err, ℤ}
use Rattle.civil_base.specs.declared.offset_date_time.OffsetDateTime.{OffsetDateTime}
use Rattle.tz_posix.specs.{InForce.{YearlyTime, is_saving, posix_total}, PosixShown.{IsAtOffset, Converts}, PosixZones.{Named, PosixZone, Given, either, IsOf, GivesByRule, Gives, posix_refusal}, declared.error.Error.{Error}}

pub given_by_rule : (standard saving : Named) (start end : YearlyTime) (second : ℤ) (given : Given) (holds : Bool)
    → holds ≡ is_saving standard.total saving.total start end second → IsOf (either standard saving holds) given → given.saving ≡ holds
    → GivesByRule standard saving start end second given
unfolding posix_total
given_by_rule standard saving start end second given true is of saves =
    record { total = rw (← is) of.0; saves = rw (← is) saves; named = rw saves of.1 }
given_by_rule standard saving start end second given false is of saves =
    record { total = rw (← is) of.0; saves = rw (← is) saves; named = rw saves of.1 }

pub converted : (tz : PosixZone) (t : ℤ) (result : Result OffsetDateTime Error) (given : Given) → None ≡ posix_refusal tz t
    → Gives tz t given → IsAtOffset t given.total result → Converts tz t result
converted tz t result given free gives at = rw (← free) (record { given = given; gives = gives; converted = at })

pub not_converted : (tz : PosixZone) (t : ℤ) (error : Error) → Some error ≡ posix_refusal tz t → Converts tz t (Err error)
not_converted tz t error is = rw (← is) refl
