use Rattle.std.proofs.{Common.{◌++◌, ◌∷◌, [], w64, SFits, rules, sym, ap, ◌∙◌, subst}, lemmas.Int.{to_z-of_z}}
use Rattle.tz_lookup.{specs.Compact.{StandFor}, specs.Kinds.{with_kind}, proofs.BuildLemmas.{one_more}}
use Rattle.tz_lookup.proofs.compact_set.add_entry.Goals as goal

pub returns : goal.returns
returns c = λ start entries first so.
    let kinds = c.args.kinds.now in
    let times = c.args.times.now in
    let numbers = c.args.numbers.now in
    let entry = c.args.entry.now in
    let ft : SFits w64 c.time_of.result = search rules in
    let time = to_z-of_z w64 _ ft ∙ c.time_of.ensures in
    let timed = c.in_ok-push-2.ensures.ok ∙ ap (λ t. times ++ t ∷ []) time in
    let more = one_more start entries kinds c.number.new.self first c.in_ok-number.field-0 times numbers entry.0 entry.1
    so (c.in_ok-number.ensures.kinds ∙ ap (with_kind kinds) c.span_of.ensures) c.in_ok-number.ensures.within
    (c.in_ok-number.ensures.kind ∙ c.span_of.ensures) in
    subst (λ ts. StandFor start (entries ++ entry ∷ []) c.number.new.self first ts c.push.new.self) (sym timed)
    (subst (λ ns. StandFor start (entries ++ entry ∷ []) c.number.new.self first (times ++ entry.0 ∷ []) ns) (sym c.in_ok-push.ensures) more)
