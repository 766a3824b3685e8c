use Rattle.std.proofs.{Common.{rules, ◌≡◌, ◌++◌, ◌∷◌, [], sym, ap, ◌∙◌, append_assoc, map as each}, lemmas.List.{append-nil, map-append}, lemmas.List.Sorted.{answers_always}}
use Rattle.std.specs.{Slice.Iter.{chunk_by_rest, chunk_by_callee}, Str.{bytes_eq}}
use Rattle.zone_table.{specs.NameTree.{tree_of}, specs.Shown.{entry_value}, specs.Placed.{placed_value}, proofs.TreeLemmas.{run_step, tree_of_nothing}}
use Rattle.zone_table.proofs.structure.entries_of.Goals as goal

pub loop-run-preserved : goal.loop-run-preserved
loop-run-preserved c =
    let cut = c.in-Some.ensures.steps in
    let answers =
    answers_always _ (λ a r. r ≡ bytes_eq a.0.now.0.now a.1.0.now.0.now) (chunk_by_callee c.loop-run.run-iterator)
    (λ f a r f' k. search rules) in
    let left =
    run_step placed_value c.in-Some.run'.now (chunk_by_rest c.next.new.self) (chunk_by_rest c.loop-run.run-iterator) cut.0 cut.1
    (cut.2 (λ x y. bytes_eq x.0.now y.0.now) answers).1 c.loop-run.invariant.sorted in
    let so_far = c.loop-run.entries.items in
    let rest = tree_of (each placed_value (chunk_by_rest c.next.new.self)) in
    let entry = c.in_ok-entry_of.ensures in
    record {
      sorted = left.0;
      missing =
          ap (λ es. each entry_value es ++ rest) c.in_ok-push.ensures.items
          ∙ ap (λ vs. vs ++ rest) (map-append entry_value so_far (c.in_ok-entry_of.field-0 ∷ []))
          ∙ append_assoc (each entry_value so_far) (entry_value c.in_ok-entry_of.field-0 ∷ []) rest
          ∙ ap (λ vs. each entry_value so_far ++ vs) (ap (λ v. v ∷ rest) entry ∙ sym (left.1 _))
          ∙ c.loop-run.invariant.missing;
    }

pub returns : goal.returns
returns c =
    let so_far = each entry_value c.loop-run.entries.items in
    sym (append-nil so_far)
    ∙ ap (λ vs. so_far ++ vs) (sym (tree_of_nothing placed_value (chunk_by_rest c.loop-run.run-iterator) c.in-None.ensures.steps.0))
    ∙ c.loop-run.invariant.missing
