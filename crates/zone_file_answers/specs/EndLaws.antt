-- After the lines, after the line of a fault and for want of memory a run ends by its texts.
use Rattle.std.proofs.Common.{refl, inl, inr}
use Rattle.zone_file_answers.specs.Responses.{writes}
use Rattle.zone_source.specs.Runs.{EndsWell}

pub ends_well : EndsWell writes
ends_well = record { lines = λ _ _ _ _ _. inl refl; fault = λ _ _ _ _ _. inr (inl refl); memory = λ _ _. inr (inr refl) }
