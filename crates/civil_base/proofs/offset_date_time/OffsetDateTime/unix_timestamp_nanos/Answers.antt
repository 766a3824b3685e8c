use Rattle.std.proofs.Common.{rules, arith, ◌≡◌, ℤ, to_z, of_z, to_z-of_z, FitsSigned}
use mir.Syntax.{w128}
use Rattle.basics.specs.SignedLaws.{signed}
use Rattle.civil_base.specs.{DateTimes.{local_of, offset_of, instant}, Instants.{local_at, instant_at}}
use Rattle.civil_base.proofs.offset_date_time.OffsetDateTime.unix_timestamp_nanos.Goals as goal

pub returns-clause-value : goal.returns-clause-value
unfolding instant local_of offset_of
returns-clause-value c = search rules

back : (t x o : ℤ) → FitsSigned w128 t → t ≡ instant_at x o → local_at (to_z w128 (of_z w128 t)) o ≡ x
back t x o f e = rw (to_z-of_z f) (omega (arith, signed, e))

pub returns-clause-years : goal.returns-clause-years
unfolding offset_of
returns-clause-years c =
    let fits : FitsSigned w128 c.instant_with.result = search rules in
    rw (back c.instant_with.result c.args.self.local c.args.self.offset fits c.instant_with.ensures.value) c.instant_with.ensures.years

pub returns-clause-offset : goal.returns-clause-offset
unfolding offset_of
returns-clause-offset c = search rules
