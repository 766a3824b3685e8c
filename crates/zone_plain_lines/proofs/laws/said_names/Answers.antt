use Rattle.zone_plain_lines.specs.{MarkLaws.{short_mark}, NameLaws.{stays_so, is_new, one_name, can_be_said, read_again}}
use Rattle.zone_plain_lines.proofs.laws.said_names.Goals as goal

pub returns : goal.returns
returns c = record { stays = stays_so; new = is_new; one = one_name; said = can_be_said; read = read_again; short = short_mark }
