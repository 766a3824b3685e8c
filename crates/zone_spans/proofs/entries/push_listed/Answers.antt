use Rattle.std.proofs.{Common.{◌++◌, map, filter, take, drop, int_lt, ap, ◌∙◌, w64}, lemmas.Int.{to_z-of_z}, lemmas.Result.{IfOk-equal}}
use Rattle.zone_spans.{specs.Entries.{entry_of}, proofs.EntryLemmas.{listed_more, to_end}}
use Rattle.zone_spans.proofs.entries.push_listed.Goals as goal

pub returns : goal.returns
returns c =
    let fs = c.args.fired.now in
    let at = to_z-of_z w64 c.args.start c.ranges.start in
    let place = c.args.place in
    let es = c.args.entries.now in
    let e = entry_of c.args.line.now in
    IfOk-equal c.push_all.result _ _ _ c.push_all.ensures
    (ap (λ xs. c.push_above.new.entries ++ map e xs) (to_end place fs)
    ∙ ap (λ xs. xs ++ map e (drop place fs)) c.in_ok-push_above.ensures
    ∙ ap (λ s. es ++ map e (filter (λ f. int_lt s f.time) (take place fs)) ++ map e (drop place fs)) at
    ∙ listed_more c.args.line.now es c.args.start fs place c.requires.place)
