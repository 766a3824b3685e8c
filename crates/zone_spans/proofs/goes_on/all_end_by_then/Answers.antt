use Rattle.std.proofs.Common.{Option, IsTrue, sym, ap, subst, arith}
use Rattle.zone_table.specs.declared.change.ChangeTime.{ChangeTime}
use Rattle.zone_spans.{specs.Bounds.{IsSoundOver, is_end}, specs.Lines.{Line}, proofs.SoundLemmas.{sound_end}}
use Rattle.zone_spans.proofs.goes_on.all_end_by_then.Goals as goal

pub ends_by_then-requires : goal.ends_by_then-requires
ends_by_then-requires c =
    let line = c.line-item.result in
    let sound = subst (λ (l : Line). IsSoundOver 300 l) (sym c.line-item.is) (c.requires c.loop-line.line-index line (omega arith)) in
    subst (λ (e : Option ChangeTime). IsTrue (is_end e)) (ap (λ (l : Line). l.end) (sym c.line.view_is)) (sound_end line sound)
