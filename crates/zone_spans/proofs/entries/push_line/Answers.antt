use Rattle.std.proofs.{Common.{◌++◌, List, map, IsTrue, sym, ap, ◌∙◌, subst, rules, w64, SFits}, lemmas.Int.{to_z-of_z}}
use Rattle.zone_table.specs.LineBounds.{are_small_seconds}
use Rattle.zone_spans.{specs.Entries.{entry_of, start_entry}, specs.Firings.{Firing}, specs.Listing.{listed_firings}, proofs.EntryLemmas.{bounded_ruled, bounded_unruled, ruled_entries}, proofs.SoundLemmas.{bounded_saving, sound_end}}
use Rattle.zone_spans.proofs.entries.push_line.Goals as goal

pub returns-then-is_ruled-clause-entries : goal.returns-then-is_ruled-clause-entries
returns-then-is_ruled-clause-entries c =
    let line = c.args.line.now in
    let start = c.args.start in
    let es = c.args.entries.now in
    let ruled = sym c.is_ruled.ensures ∙ c.if-is_ruled.true in
    c.in_ok-push_ruled.ensures
    ∙ ap (λ (fs : List Firing). es ++ (map (entry_of line) (listed_firings start fs) ++ start_entry line start fs)) c.as_slice.ensures.value
    ∙ ap (λ xs. es ++ xs) (ruled_entries c.args.most line start c.fire_line.new.self.firings.fired.items ruled c.in_ok-fire_line.ensures.stand.fired)

pub returns-then-is_ruled-clause-bounded : goal.returns-then-is_ruled-clause-bounded
returns-then-is_ruled-clause-bounded c small =
    let fired = c.in_ok-fire_line.ensures.stand in (
      c.next_start.ensures.bounded,
      bounded_ruled c.args.most c.args.line.now c.args.start c.fire_line.new.self.firings.fired.items c.requires.line.bounded
          (sym c.is_ruled.ensures ∙ c.if-is_ruled.true) fired.fired small fired.small.fired,
    )

pub next_start-requires-clause-end : goal.next_start-requires-clause-end
next_start-requires-clause-end c = sound_end c.args.line.now c.requires.line

pub next_start-requires-2-clause-end : goal.next_start-requires-2-clause-end
next_start-requires-2-clause-end c = sound_end c.args.line.now c.requires.line

pub next_start-requires-2-clause-saving : goal.next_start-requires-2-clause-saving
next_start-requires-2-clause-saving c =
    let fits : SFits w64 c.fixed_saving.result = search rules in
    subst (λ s. IsTrue (are_small_seconds s)) (sym (to_z-of_z w64 c.fixed_saving.result fits ∙ c.fixed_saving.ensures))
    (bounded_saving c.args.line.now c.requires.line.bounded)

pub returns-clause-bounded : goal.returns-clause-bounded
returns-clause-bounded c small = (
  c.next_start-2.ensures.bounded,
  bounded_unruled c.args.most c.args.line.now c.args.start c.requires.line.bounded
      (sym c.is_ruled.ensures ∙ c.if-is_ruled.false) small,
)
