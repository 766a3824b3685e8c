use Rattle.std.proofs.Common.{◌∙◌, sym}
use Rattle.zone_line.{specs.Kinds.{is_blank}, proofs.BlankLemmas.{plainly}, proofs.PatternLemmas.{matches}}
use Rattle.zone_line.proofs.reader.LineReader.is_blank.Goals as goal

pub returns-then-is_plainly_blank : goal.returns-then-is_plainly_blank
returns-then-is_plainly_blank c =
    let told = c.if-is_plainly_blank.true in
    told ∙ sym (plainly c.args.line.now c.utf8.line (sym c.is_plainly_blank.ensures ∙ told))

pub returns-else-is_plainly_blank : goal.returns-else-is_plainly_blank
unfolding is_blank
returns-else-is_plainly_blank c =
    let self = c.args.self.now in
    let found = rw c.deref_mut.ensures.value at c.is_match.ensures.found in
    found ∙ matches _ c.args.line.now self.empty.value (λ k. (c.type_inv.line k).fits) self.empty_is
