use Rattle.std.proofs.Common.{refl, Ok, Err}
use Rattle.civil_base.specs.DateTimes.{instant}
use Rattle.tz_posix.{specs.Offsets.{given_of}, specs.PosixShown.{posix_of}, specs.declared.error.Error.TheVariants.{ComponentRange}, proofs.GivenLemmas.{converted, not_converted}}
use Rattle.tz_posix.proofs.posix.PosixTz.convert.Goals as goal

pub returns-in-Some : goal.returns-in-Some
returns-in-Some c =
    converted (posix_of c.args.self.now) (instant c.args.date_time.now) (Ok c.in-Some.converted) (given_of c.in-Ok.offset)
    c.in-Ok.ensures.refused c.in-Ok.ensures.value
    (record {
      accepts = rw c.to_utc.ensures at c.in-Some.ensures.has;
      told = (c.in-Some.ensures.instant, rw c.to_utc.ensures at c.in-Some.ensures.offset);
    })

pub returns-in-None : goal.returns-in-None
returns-in-None c =
    converted (posix_of c.args.self.now) (instant c.args.date_time.now) (Err ComponentRange) (given_of c.in-Ok.offset)
    c.in-Ok.ensures.refused c.in-Ok.ensures.value
    (record { accepts = rw c.to_utc.ensures at c.in-None.ensures.has; told = refl })

pub returns-in-Err : goal.returns-in-Err
returns-in-Err c = not_converted (posix_of c.args.self.now) (instant c.args.date_time.now) c.in-Err.error c.in-Err.ensures.refused
