use Rattle.std.proofs.{Common.{IsTrue, sym, ◌∙◌, subst, rules, w64, SFits}, lemmas.Int.{to_z-of_z}}
use Rattle.zone_table.specs.LineBounds.{are_small_seconds}
use Rattle.zone_spans.proofs.SoundLemmas.{bounded_saving, sound_end}
use Rattle.zone_spans.proofs.turns.next_start_of.Goals as goal

pub next_start-requires-clause-end : goal.next_start-requires-clause-end
next_start-requires-clause-end c = sound_end c.args.line.now c.requires

pub next_start-requires-clause-saving : goal.next_start-requires-clause-saving
next_start-requires-clause-saving c =
    let fits : SFits w64 c.fixed_saving.result = search rules in
    subst (λ s. IsTrue (are_small_seconds s)) (sym (to_z-of_z w64 c.fixed_saving.result fits ∙ c.fixed_saving.ensures))
    (bounded_saving c.args.line.now c.requires.bounded)

pub next_start-requires-2-clause-end : goal.next_start-requires-2-clause-end
next_start-requires-2-clause-end c = sound_end c.args.line.now c.requires
