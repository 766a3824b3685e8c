use Rattle.std.proofs.{Common.{w64, SFits, rules, ◌∙◌, refl, subst}, lemmas.Int.{to_z-of_z}}
use Rattle.tz_lookup.specs.{Sets.{IsNear, shifts_of}, UtcLaws.{second_at_utc}, CompactZones.{compact_of}}
use Rattle.tz_lookup.proofs.compact_tz.CompactTz.near.Goals as goal

pub returns-clause-near : goal.returns-clause-near
returns-clause-near c =
    let fs : SFits w64 c.unix_timestamp.result = search rules in
    let second = c.unix_timestamp.ensures.value ∙ second_at_utc c.args.date_time.now _ refl c.requires in
    subst (IsNear (shifts_of (compact_of c.args.self.now)) c.near.result.0 c.near.result.1) (to_z-of_z w64 _ fs ∙ second) c.near.ensures.near
