use Rattle.std.proofs.Common.{◌∙◌, ◌++◌, ap, arith, length, length-append}
use Rattle.zone_answers.{specs.Made.{made_requests}, proofs.MadeLemmas.{more_requests}}
use Rattle.zone_answers.proofs.made.made_requests.Goals as goal

pub loop-before-init : goal.loop-before-init
unfolding made_requests
loop-before-init c = record { text = c.new-text.ensures.items; short = omega (arith, ap length c.new-text.ensures.items) }

pub loop-before-preserved : goal.loop-before-preserved
loop-before-preserved c =
    let before = c.loop-before.text.items in
    let first = c.at_line.result.bytes in
    let second = c.local_line.result.bytes in
    let items = c.in_ok-add_line-2.ensures ∙ ap (λ t. t ++ second) c.in_ok-add_line.ensures in
    record {
      text =
          items
          ∙ (λ i. (c.loop-before.invariant.text i ++ c.at_line.ensures.text i) ++ c.local_line.ensures.text i)
          ∙ more_requests c.loop-before.before;
      short =
          omega (
            arith,
            ap length items,
            length-append (before ++ first) second,
            length-append before first,
            c.loop-before.invariant.short,
            c.at_line.ensures.short,
            c.local_line.ensures.short,
          );
    }
