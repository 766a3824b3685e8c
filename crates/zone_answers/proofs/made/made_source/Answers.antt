use Rattle.std.proofs.Common.{◌∙◌, ◌++◌, ap, arith, length, length-append}
use Rattle.zone_answers.{specs.Made.{made_source}, proofs.MadeLemmas.{more_zones}}
use Rattle.zone_answers.proofs.made.made_source.Goals as goal

pub loop-before-init : goal.loop-before-init
unfolding made_source
loop-before-init c = record {
  text = c.in_ok-text.ensures.items ∙ c.as_bytes.ensures.value;
  short = omega (arith, ap length (c.in_ok-text.ensures.items ∙ c.as_bytes.ensures.value));
}

pub loop-before-preserved : goal.loop-before-preserved
loop-before-preserved c =
    let before = c.loop-before.text.items in
    let line = c.zone_line.result.bytes in
    record {
      text = c.in_ok-add_line.ensures ∙ (λ i. c.loop-before.invariant.text i ++ c.zone_line.ensures.text i) ∙ more_zones c.loop-before.before;
      short = omega (arith, ap length c.in_ok-add_line.ensures, length-append before line, c.loop-before.invariant.short, c.zone_line.ensures.short);
    }
