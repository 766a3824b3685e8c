use Rattle.std.{proofs.Common.{◌∙◌, rules, sym, ap, length, map}, proofs.lemmas.List.{length-map}, specs.Prelude.{◌==◌}}
use Rattle.zone_plain_lines.{specs.Marks.{tails, rarer}, proofs.MarkLemmas.{smaller, one_letter, all_letters}}
use Rattle.zone_plain_lines.proofs.renamed.put_ending.Goals as goal

pub loop-alloc-smaller : goal.loop-alloc-smaller
loop-alloc-smaller c =
    smaller _ _ c.in_ok-letter.letter
    (ap (λ n. n == 0) (length-map c.loop-alloc.left.items (λ n. n.now) ∙ sym (ap length c.as_slice.ensures.value)) ∙ sym c.is_empty.ensures ∙ c.loop-alloc-test.true)
    (c.in_ok-letter.ensures.letter ∙ ap (λ ns. rarer (map (λ n. n.now) ns)) c.deref.ensures.value)
    (c.in_ok-letter.ensures.left ∙ ap (λ ns. tails c.in_ok-letter.letter (map (λ n. n.now) ns)) c.deref.ensures.value)

pub loop-alloc-preserved : goal.loop-alloc-preserved
loop-alloc-preserved c =
    one_letter _ _ c.in_ok-letter.letter _ _ _
    (ap (λ n. n == 0) (length-map c.loop-alloc.left.items (λ n. n.now) ∙ sym (ap length c.as_slice.ensures.value)) ∙ sym c.is_empty.ensures ∙ c.loop-alloc-test.true)
    (c.in_ok-letter.ensures.letter ∙ ap (λ ns. rarer (map (λ n. n.now) ns)) c.deref.ensures.value)
    (c.in_ok-letter.ensures.left ∙ ap (λ ns. tails c.in_ok-letter.letter (map (λ n. n.now) ns)) c.deref.ensures.value)
    (search rules) c.loop-alloc.invariant

pub returns : goal.returns
returns c =
    all_letters _ _ _
    (ap (λ n. n == 0) (length-map c.loop-alloc.left.items (λ n. n.now) ∙ sym (ap length c.as_slice.ensures.value)) ∙ sym c.is_empty.ensures ∙ c.loop-alloc-test.false)
    c.loop-alloc.invariant
