use Rattle.std.proofs.Common.{◌∙◌, ap}
use Rattle.zone_tzif_core.specs.Totals.{file_total_at}
use Rattle.zone_tzif.specs.Values.{value_of}
use Rattle.zone_tzif.proofs.laws.reads_back.Goals as goal

pub returns-clause-any : goal.returns-clause-any
returns-clause-any c = λ set footer bytes zone written read t.
    ap (λ z. file_total_at z t) (c.one_reading.ensures bytes zone (value_of set footer) read (c.written_denotes.ensures bytes (value_of set footer) written)) ∙ c.totals_kept.ensures set footer t
