use Rattle.std.proofs.Common.{sym, ◌∙◌, ap, not}
use Rattle.zone_plain_lines.proofs.QuoteLemmas.{begins, goes_on, at_comment, at_byte, at_end, all_written, quotes_end, bad}
use Rattle.zone_plain_lines.proofs.fields.lay_out.Goals as goal

pub loop-byte-init : goal.loop-byte-init
loop-byte-init c = rw c.clear.ensures.items (begins c.args.line.now)

pub returns-then-begins_comment-clause-text : goal.returns-then-begins_comment-clause-text
returns-then-begins_comment-clause-text c _ =
    let byte = at_byte _ _ _ c.loop-byte.byte-index c.loop-byte-test.true c.loop-byte.invariant in
    all_written _ _ _ (at_comment _ _ _ _ _ (sym c.begins_comment.ensures ∙ c.if-begins_comment.true) byte)

pub returns-then-begins_comment-clause-quotes : goal.returns-then-begins_comment-clause-quotes
returns-then-begins_comment-clause-quotes c =
    let byte = at_byte _ _ _ c.loop-byte.byte-index c.loop-byte-test.true c.loop-byte.invariant in
    quotes_end _ _ _ (at_comment _ _ _ _ _ (sym c.begins_comment.ensures ∙ c.if-begins_comment.true) byte) ∙ ap not (sym c.is_outside.ensures)

pub returns-then-closes_nothing-clause-quotes : goal.returns-then-closes_nothing-clause-quotes
returns-then-closes_nothing-clause-quotes c =
    let byte = at_byte _ _ _ c.loop-byte.byte-index c.loop-byte-test.true c.loop-byte.invariant in
    bad _ _ _ _ _ (sym c.begins_comment.ensures ∙ c.if-begins_comment.false) (sym c.closes_nothing.ensures ∙ c.if-closes_nothing.true) byte

pub loop-byte-preserved : goal.loop-byte-preserved
loop-byte-preserved c =
    let byte = at_byte _ _ _ c.loop-byte.byte-index c.loop-byte-test.true c.loop-byte.invariant in
    rw (c.in_ok-put_byte.ensures, c.after-place.ensures) (goes_on _ _ _ _ _ (sym c.begins_comment.ensures ∙ c.if-begins_comment.false)
    (sym c.closes_nothing.ensures ∙ c.if-closes_nothing.false) byte)

pub returns-clause-text : goal.returns-clause-text
returns-clause-text c _ = all_written _ _ _ (at_end _ _ _ c.loop-byte.byte-index c.loop-byte-test.false c.loop-byte.invariant)

pub returns-clause-quotes : goal.returns-clause-quotes
returns-clause-quotes c =
    quotes_end _ _ _ (at_end _ _ _ c.loop-byte.byte-index c.loop-byte-test.false c.loop-byte.invariant) ∙ ap not (sym c.is_outside-2.ensures)
