use Rattle.std.proofs.Common.{◌∙◌, sym}
use Rattle.civil_base.specs.DateTimes.{instant}
use Rattle.tz_lookup.specs.{Sets.{schedule_of as schedule_in}, Zones.{set_of}}
use Rattle.zone_spans.specs.Schedules.{total_at}
use Rattle.tz_posix.{specs.Offsets.{given_of}, specs.PosixShown.{posix_of}, proofs.CallLemmas.{gives_total, string_accepts, string_total, zone_total}, proofs.OneTotalLemmas.{not_shared}}
use Rattle.tz_posix.proofs.laws.agreed_offset.Goals as goal

pub returns-in-Ok-clause-of_string : goal.returns-in-Ok-clause-of_string
returns-in-Ok-clause-of_string c =
    gives_total (posix_of c.args.posix.now) (instant c.args.date_time.now) c.to_utc-of_string.result (given_of c.in-Ok.offset)
    c.shared.result c.in-Ok.ensures.value c.to_utc-of_string.ensures c.shared.ensures.second

pub returns-in-Ok-clause-none : goal.returns-in-Ok-clause-none
returns-in-Ok-clause-none c none accepts found =
    not_shared (posix_of c.args.posix.now) (instant c.args.date_time.now) c.to_utc-of_string.result
    (total_at (schedule_in (set_of c.args.zone.now)) (instant c.args.date_time.now)) (given_of c.in-Ok.offset)
    c.shared.result c.in-Ok.ensures.value c.to_utc-of_string.ensures
    (λ e. c.shared.ensures.same (c.to_utc-of_zone.ensures ∙ c.get_offset_utc.ensures.total ∙ e)) none found

pub returns-in-Ok-clause-agreed : goal.returns-in-Ok-clause-agreed
returns-in-Ok-clause-agreed c rulesets pair q zones same compiled resolved covered =
    c.shared.ensures.same
    (c.to_utc-of_zone.ensures ∙ c.get_offset_utc.ensures.total
    ∙ zone_total rulesets pair q same (set_of c.args.zone.now) compiled (instant c.args.date_time.now) covered
    ∙ sym (string_total rulesets pair q same zones (posix_of c.args.posix.now) resolved (instant c.args.date_time.now)
    (given_of c.in-Ok.offset) c.in-Ok.ensures.value)
    ∙ sym c.to_utc-of_string.ensures)

pub returns-in-Err-clause-agreed : goal.returns-in-Err-clause-agreed
returns-in-Err-clause-agreed c rulesets pair q zones same compiled resolved covered =
    let accepts = string_accepts rulesets pair q same zones (posix_of c.args.posix.now) resolved (instant c.args.date_time.now) covered in
    let refused = c.in-Err.ensures.refused in
    cc
