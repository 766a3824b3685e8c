use Rattle.zone_plain.specs.AbbreviationLaws.{parts_are, named_under, named_alone}
use Rattle.zone_plain.proofs.laws.abbreviations.Goals as goal

pub returns : goal.returns
returns c = record { parts = parts_are; under = named_under; own = named_alone }
