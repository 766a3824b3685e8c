use Rattle.std.proofs.Common.{ap, inl, ◌∙◌}
use Rattle.zone_source.specs.LineLists.{ended}
use Rattle.zone_file_answers.proofs.ResponseLemmas.{fault_response}
use Rattle.zone_file_answers.proofs.respond.respond.Goals as goal

pub returns-in-Ok-write_all : goal.returns-in-Ok-write_all
returns-in-Ok-write_all g c =
    let are = c.in-Ok.ensures in
    record {
      bytes = c.as_bytes.result.now;
      due = record { total = are.total; is = are.is; none = are.none; lines = c.as_bytes.ensures ∙ ap ended are.are };
      grew = c.in-Ok-write_all.ensures.ok;
    }

pub returns-in-Ok : goal.returns-in-Ok
returns-in-Ok g c =
    let are = c.in-Ok.ensures in (
      c.in-Err-write_all.ensures.failed,
      record {
        bytes = c.as_bytes.result.now;
        due = inl (record { total = are.total; is = are.is; none = are.none; lines = c.as_bytes.ensures ∙ ap ended are.are });
        grew = c.in-Err-write_all.ensures.prefix;
      },
    )

pub returns : goal.returns
returns g c = fault_response c.args.file.now c.args.requests.now c.in-Err.fault _ _ c.write_fault.result c.in-Err.ensures c.write_fault.ensures
