use Rattle.std.{proofs.Common.{true, false, List, Option, IsTrue, sym, ap, ◌∙◌, subst}, specs.List.{list_all}, specs.Option.{option_map_or}}
use Rattle.zone_table.specs.{Days.{has_day_of_month}, Ends.{end_day}, declared.change.ChangeTime.{ChangeTime}, Bounds.{is_bounded_rule}, declared.rule.RuleInfo.{RuleInfo}}
use Rattle.zone_spans.{specs.Bounds.{is_end}, specs.Faults.{ends_outside}, specs.Lines.{Line}, proofs.SoundLemmas.{bounded_day, bounded_rules, end_dated}}
use Rattle.zone_spans.proofs.fault.leaves_year.Goals as goal

pub ends_outside-requires-clause-day : goal.ends_outside-requires-clause-day
ends_outside-requires-clause-day c =
    subst (λ (e : Option ChangeTime). IsTrue (option_map_or (λ end. has_day_of_month (end_day end)) e true))
    (ap (λ (l : Line). l.end) (sym c.line.view_is)) (bounded_day c.args.line.now c.requires.bounded)

pub years_over-years-requires-clause-end : goal.years_over-years-requires-clause-end
years_over-years-requires-clause-end c =
    let end_is = ap (λ (l : Line). l.end) c.line.view_is in
    let stays = ap (λ e. option_map_or ends_outside e false) (sym end_is) ∙ sym c.ends_outside.ensures ∙ c.if-ends_outside.false in
    subst (λ (e : Option ChangeTime). IsTrue (is_end e)) (sym end_is)
    (end_dated c.args.line.now.end (bounded_day c.args.line.now c.requires.bounded) c.requires.year stays)

pub leaves_year-leaves-requires-clause-bounded : goal.leaves_year-leaves-requires-clause-bounded
leaves_year-leaves-requires-clause-bounded c =
    subst (λ (rs : List RuleInfo). IsTrue (list_all is_bounded_rule rs)) (sym c.in_ok-take_for.ensures.serves)
    (bounded_rules c.args.line.now c.requires.bounded)
