use Rattle.std.proofs.Common.{arith, ◌≡◌, ℤ, w32, to_z, of_z, pos, ◌-ℤ◌}
use Rattle.basics.specs.SignedLaws.{one_sided, signed, signed_casts}
use Rattle.civil_base.specs.RangeLaws.{offset_by_size}
use Rattle.tz_posix.{specs.Seconds.{east_of}, proofs.OffsetLemmas.{offset_seconds-within}}
use Rattle.tz_posix.proofs.time.Offset.to_utc_offset.Goals as goal

pub overflow_sub-to_seconds : goal.overflow_sub-to_seconds
overflow_sub-to_seconds c =
    let within = offset_seconds-within c.args.self.now c.requires in
    omega (arith, signed_casts, c.to_seconds.ensures, within.least, within.greatest)

-- the negation as the code computes it
abbrev negated : ℤ → ℤ
negated r = to_z w32 (of_z w32 (pos 0 -ℤ to_z w32 (of_z w32 r)))

negated_is : (c : goal.After-to_seconds) → negated c.to_seconds.result ≡ east_of c.args.self.now
negated_is c =
    let within = offset_seconds-within c.args.self.now c.requires in
    omega (arith, signed_casts, c.to_seconds.ensures, within.least, within.greatest)

pub offset_of-requires : goal.offset_of-requires
offset_of-requires c =
    let within = offset_seconds-within c.args.self.now c.requires in
    rw (negated_is c)
    (offset_by_size (east_of c.args.self.now)
    (omega (arith, signed, one_sided (east_of c.args.self.now), within.least, within.greatest)))

pub returns-clause-bound : goal.returns-clause-bound
returns-clause-bound c =
    let within = offset_seconds-within c.args.self.now c.requires in
    let value : c.offset_of.result ≡ east_of c.args.self.now =
    omega (arith, signed_casts, c.offset_of.ensures, c.to_seconds.ensures, within.least, within.greatest) in
    rw value (record { least = omega (arith, signed, within.least); greatest = omega (arith, signed, within.greatest) })
