use Rattle.zone_answers.{specs.Responses.{due_in}, proofs.ResponseLemmas.{due_valid, wrote, wrote_some, error_response}}
use Rattle.zone_answers.proofs.answering.respond.Goals as goal
use Rattle.zone_outside.specs.Seen.{output_seen}

pub returns-in-Ok-write_lines : goal.returns-in-Ok-write_lines
returns-in-Ok-write_lines g c =
    let due = due_valid g.Z.OpenedZone.read c.args.form c.args.source.now c.args.requests.now c.in-Ok.lines c.in-Ok.ensures.valid c.in-Ok.ensures.lines in (
      c.in-Ok.ensures.valid,
      c.in-Ok.ensures.read_back,
      wrote _ (due_in g.Z.OpenedZone.read c.args.form c.args.source.now c.args.requests.now)
          (output_seen g.O.Sink c.args.output.now) (output_seen g.O.Sink c.write_lines.new.output) due c.in-Ok-write_lines.ensures.ok,
    )

pub returns-in-Ok : goal.returns-in-Ok
returns-in-Ok g c =
    let due = due_valid g.Z.OpenedZone.read c.args.form c.args.source.now c.args.requests.now c.in-Ok.lines c.in-Ok.ensures.valid c.in-Ok.ensures.lines in (
      c.in-Err-write_lines.ensures.failed,
      wrote_some _ (due_in g.Z.OpenedZone.read c.args.form c.args.source.now c.args.requests.now)
          (output_seen g.O.Sink c.args.output.now) (output_seen g.O.Sink c.write_lines.new.output) due
          c.in-Err-write_lines.ensures.prefix,
    )

pub returns : goal.returns
returns g c =
    error_response g.Z.OpenedZone.read c.args.form c.args.source.now c.args.requests.now c.in-Err.error _ _ c.write_error.result c.in-Err.ensures.err
    c.write_error.ensures
