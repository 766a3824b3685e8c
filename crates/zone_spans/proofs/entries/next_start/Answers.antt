use Rattle.std.proofs.{Common.{Option, IsTrue, sym, ap, ◌∙◌, subst, rules, w64, SFits}, lemmas.Int.{to_z-of_z}}
use Rattle.zone_table.specs.{LineBounds.{are_small_seconds}, declared.change.ChangeTime.{ChangeTime}}
use Rattle.zone_spans.{specs.Bounds.{is_end}, specs.Lines.{Line}, proofs.SoundLemmas.{bounded_offset}}
use Rattle.zone_spans.proofs.entries.next_start.Goals as goal

pub line_end-requires-clause-end : goal.line_end-requires-clause-end
line_end-requires-clause-end c =
    subst (λ (e : Option ChangeTime). IsTrue (is_end e)) (ap (λ (l : Line). l.end) (sym c.line.view_is) ∙ c.in-Some.is)
    c.requires.end

pub line_end-requires-clause-offset : goal.line_end-requires-clause-offset
line_end-requires-clause-offset c =
    let fits : SFits w64 c.line.inside.info.now.offset = search rules in
    subst (λ s. IsTrue (are_small_seconds s)) (ap (λ (l : Line). l.info.offset) (sym c.line.view_is)
    ∙ sym (to_z-of_z w64 c.line.inside.info.now.offset fits))
    (bounded_offset c.args.line.now c.requires.bounded)
