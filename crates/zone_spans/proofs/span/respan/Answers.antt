use Rattle.std.proofs.{Common.{List, All, ap, length, sym, subst, arith, rules, to_z, of_z, w64, SFits}, lemmas.List.Elements.{All-set}, lemmas.Int.{ints}}
use Rattle.zone_spans.{specs.Bounds.{IsSmallEntry}, specs.Entries.{Entry}, proofs.StepLemmas.{all_swapped}, proofs.PutLemmas.{respanned, swapped_len}}
use Rattle.zone_spans.proofs.span.respan.Goals as goal

pub returns-clause-put : goal.returns-clause-put
returns-clause-put c =
    let fits : SFits w64 c.index.result.now.0 = search rules in
    respanned c.args.rest.now c.swap.new.self c.args.place c.args.from c.index.result.now c.index_mut.result.now
    c.requires.order c.requires.within fits c.swap.ensures c.index.ensures c.index_mut.ensures.value

pub returns-clause-bounded : goal.returns-clause-bounded
returns-clause-bounded c =
    let moved = subst (λ (ys : List Entry). All IsSmallEntry ys) (sym c.swap.ensures)
    (all_swapped IsSmallEntry c.args.rest.now c.args.place c.args.from (omega arith) (omega arith) c.requires.bounded) in
    let from = subst IsSmallEntry (sym c.index.ensures) (c.requires.bounded c.args.place c.index.result.now (omega arith)) in
    let here = subst IsSmallEntry (sym c.index_mut.ensures.value)
    (moved c.args.place c.index_mut.result.now (omega (
      arith,
      swapped_len c.args.rest.now c.args.place c.args.from,
      ap length c.swap.ensures,
    ))) in
    let written : IsSmallEntry (to_z w64 (of_z w64 c.index.result.now.0), c.index_mut.result.now.1) =
    record { time = let t = from.time in omega (arith, ints); utc = here.utc; dst = here.dst } in
    All-set IsSmallEntry c.swap.new.self c.args.place (to_z w64 (of_z w64 c.index.result.now.0), c.index_mut.result.now.1) written moved
