use Rattle.std.proofs.{Common.{List, None, sym, ap, ◌∙◌, subst}, lemmas.Result.{IfOk-weaker}}
use Rattle.zone_spans.{specs.Firings.{Fired, Firing, firings_of_years}, specs.Stands.{StandsFor}, proofs.KeptLemmas.{quiet_stands, stand_on_ok}, proofs.QuietLemmas.{quiet_years}}
use Rattle.zone_spans.proofs.kept.fire_all.Goals as goal

pub fire_years-requires-clause-saving : goal.fire_years-requires-clause-saving
fire_years-requires-clause-saving c =
    let line = c.args.line.now in
    c.restart.ensures.saving ∙ sym (ap (λ (l : Fired). l.1) (quiet_years line.info.offset line.end line.rules c.args.quiet c.requires.quiet))

pub returns : goal.returns
returns c =
    let line = c.args.line.now in
    let first : StandsFor None c.restart.new.self.fired.items (firings_of_years line.info.offset line.end line.rules c.args.quiet).0 =
    subst (λ (fs : List Firing). StandsFor None fs (firings_of_years line.info.offset line.end line.rules c.args.quiet).0)
    (sym c.restart.ensures.fired) (quiet_stands None line.info.offset line.end line.rules c.args.quiet c.requires.quiet) in
    stand_on_ok c.fire_years.result None _ _ (IfOk-weaker c.fire_years.result _ _ (λ _ stands. stands None first) c.fire_years.ensures.stands)
    c.fire_years.ensures.saving c.fire_years.ensures.small
