use Rattle.std.proofs.Common.{Option, IsTrue, sym, ap, subst}
use Rattle.zone_table.specs.declared.change.ChangeTime.{ChangeTime}
use Rattle.zone_spans.{specs.Bounds.{is_end}, specs.Lines.{Line}, proofs.SoundLemmas.{sound_end}}
use Rattle.zone_spans.proofs.kept.Expander.fire_line.Goals as goal

pub years_over-years-requires-clause-end : goal.years_over-years-requires-clause-end
years_over-years-requires-clause-end c =
    subst (λ (e : Option ChangeTime). IsTrue (is_end e)) (ap (λ (l : Line). l.end) (sym c.line.view_is))
    (sound_end c.args.line.now c.requires.line)
