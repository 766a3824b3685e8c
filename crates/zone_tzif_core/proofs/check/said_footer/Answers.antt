use Rattle.std.proofs.Common.{◌∙◌, sym, true, false, Some, None}
use Rattle.zone_tzif_core.{specs.Reading.{parts_shown, said_in}, proofs.ExactLemmas.{reads_footer, what_is_said}, proofs.PassLemmas.{said_footer, said_none}}
use Rattle.zone_tzif_core.proofs.check.said_footer.Goals as goal

pub returns-in_err-parts : goal.returns-in_err-parts
returns-in_err-parts c =
    let value = said_none c.args.bytes.now c.in_err-parts.ensures.parts in
    rw c.from_residual.ensures (record { value = value; exact = reads_footer (said_in c.args.bytes.now) (what_is_said c.args.bytes.now) None value })

pub returns-then-passes : goal.returns-then-passes
returns-then-passes c =
    let parts = c.in_ok-parts.parts in
    let value = said_footer c.args.bytes.now (parts_shown parts) true c.in_ok-parts.ensures.parts (sym c.if-passes.true ∙ c.passes.ensures) in
    record { value = value; exact = reads_footer (said_in c.args.bytes.now) (what_is_said c.args.bytes.now) (Some parts.footer) value }

pub returns-else-passes : goal.returns-else-passes
returns-else-passes c =
    let value = said_footer c.args.bytes.now (parts_shown c.in_ok-parts.parts) false c.in_ok-parts.ensures.parts (sym c.if-passes.false ∙ c.passes.ensures) in
    record { value = value; exact = reads_footer (said_in c.args.bytes.now) (what_is_said c.args.bytes.now) None value }
