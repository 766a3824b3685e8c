use Rattle.zone_tzif.proofs.CarriedLemmas.{is_footer, carried}
use Rattle.zone_tzif.proofs.carried.carried_on.Goals as goal

pub returns-clause-footer : goal.returns-clause-footer
returns-clause-footer c = is_footer

pub returns-clause-totals : goal.returns-clause-totals
returns-clause-totals c = λ set from text footer t tail carries stands last own.
    carried set from text carries c.totals_kept.ensures c.file_totals.ensures.before c.file_totals.ensures.after tail footer t (c.one_footer.ensures text) stands last own
