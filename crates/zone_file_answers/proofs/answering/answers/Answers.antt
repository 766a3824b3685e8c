use Rattle.std.proofs.Common.{Err, ap, subst}
use Rattle.tz_tzif.specs.Faults.{IsTzifFault}
use Rattle.tz_tzif.specs.declared.fault.TzifFault.TheVariants as tzif
use Rattle.zone_tzif_core.specs.{Denotes.{Says}, ZoneFiles.{ReadsFile, zone_seen}}
use Rattle.zone_file_answers.proofs.ResponseLemmas.{no_file, not_refused}
use Rattle.zone_file_answers.proofs.answering.answers.Goals as goal

pub returns-in-Err-Refused : goal.returns-in-Err-Refused
returns-in-Err-Refused c = λ total is.
    subst (λ fault. ReadsFile (Says c.args.file.now) (Err fault)) c.in-Err-Refused.field-0-is c.in-Err-Refused.ensures.exact is.value is.says

pub returns-in-Err-NoMemory : goal.returns-in-Err-NoMemory
returns-in-Err-NoMemory c = c.wanting.ensures c.args.requests.now

pub returns-in-Err-NoMemory-spans_of : goal.returns-in-Err-NoMemory-spans_of
returns-in-Err-NoMemory-spans_of c =
    let fault = subst (IsTzifFault (zone_seen c.in-Ok.zone)) c.in-Err-NoMemory-spans_of.field-0-is c.in-Err-NoMemory-spans_of.ensures in
    not_refused c.args.file.now (zone_seen c.in-Ok.zone) c.in-Ok.ensures.exact fault.0 fault.1

pub returns-in-Err-Times : goal.returns-in-Err-Times
returns-in-Err-Times c =
    no_file c.args.file.now (zone_seen c.in-Ok.zone) tzif.Times (c.one_saying.ensures c.args.file.now) c.in-Ok.ensures.exact
    (subst (IsTzifFault (zone_seen c.in-Ok.zone)) c.in-Err-Times.field-0-is c.in-Err-Times.ensures) (λ e. absurd cc)

pub returns-in-Err-Offset : goal.returns-in-Err-Offset
returns-in-Err-Offset c =
    no_file c.args.file.now (zone_seen c.in-Ok.zone) tzif.Offset (c.one_saying.ensures c.args.file.now) c.in-Ok.ensures.exact
    (subst (IsTzifFault (zone_seen c.in-Ok.zone)) c.in-Err-Offset.field-0-is c.in-Err-Offset.ensures) (λ e. absurd cc)

pub returns : goal.returns
returns c =
    no_file c.args.file.now (zone_seen c.in-Ok.zone) tzif.Footer (c.one_saying.ensures c.args.file.now) c.in-Ok.ensures.exact
    (subst (IsTzifFault (zone_seen c.in-Ok.zone)) c.in-Err-Footer.field-0-is c.in-Err-Footer.ensures) (λ e. absurd cc)
