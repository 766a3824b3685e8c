use Rattle.std.proofs.{Common.{◌<◌, ◌≤◌, ◌∙◌, ◌++◌, ◌∷◌, [], ℤ, ℕ, ap, arith, rules, length, get_or, FitsSigned, w64}, lemmas.Int.{to_z-of_z}, lemmas.List.{drop_all}}
use Rattle.zone_tzif_core.proofs.{FileLemmas.{none_at, numbered_is}, LoopLemmas.{shifts_kept, shifts_refused, shifts_end}, NameLemmas.{grown_by}}
use Rattle.zone_tzif_core.proofs.file_reader.read_changes.Goals as goal

pub returns-then-count-number-clause-told : goal.returns-then-count-number-clause-told
returns-then-count-number-clause-told c = λ kinds long.
    shifts_refused c.args.wide kinds c.args.times.now c.args.numbers.now c.loop-i.i c.loop-i.changes.items c.loop-i-test.true (c.loop-i.invariant.so_far kinds long)
    (none_at kinds _ (omega (arith, long)))

pub loop-i-preserved : goal.loop-i-preserved
loop-i-preserved c =
    let time = c.time_at.result in
    let n = get_or c.args.numbers.now c.loop-i.i 0 in
    let fits : FitsSigned w64 time = search rules in
    let items = c.in_ok-push.ensures.items ∙ ap (λ t. c.loop-i.changes.items ++ (t, n) ∷ []) (to_z-of_z w64 _ fits) in
    let few : n < c.args.count = omega (arith, c.if-count-number.false) in
    record {
      so_far = λ kinds long.
          shifts_kept c.args.wide kinds c.args.times.now c.args.numbers.now c.loop-i.i c.loop-i.changes.items c.push.new.self.items (time, n)
          c.loop-i-test.true items c.time_at.ensures (numbered_is kinds n (omega (arith, long, few))) (c.loop-i.invariant.so_far kinds long);
      numbered = grown_by (λ (change : ℤ × ℕ). change.1 < c.args.count) c.loop-i.changes.items c.push.new.self.items (time, n) items c.loop-i.invariant.numbered few;
    }

pub returns-clause-told : goal.returns-clause-told
returns-clause-told c = λ kinds long.
    let over : length c.args.numbers.now ≤ c.loop-i.i = omega arith in
    shifts_end _ _ _ _ _ _ (drop_all _ _ over) (c.loop-i.invariant.so_far kinds long)
