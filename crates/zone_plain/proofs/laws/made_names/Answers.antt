use Rattle.zone_plain.specs.{MadeNameLaws.{one_name}, TableLaws.{new_name}}
use Rattle.zone_plain.proofs.laws.made_names.Goals as goal

pub returns : goal.returns
returns c = record { new = new_name; one = one_name }
