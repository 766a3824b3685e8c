use Rattle.std.proofs.Common.{ap, sym, option_map, ◌∙◌}
use Rattle.tz_ever.specs.ZoneShown.{zone_set_of}
use Rattle.zone_command.{specs.Wholes.{IsFileOf}, proofs.WholeLemmas.{given}}
use Rattle.zone_command.proofs.any_source.file_in.Goals as goal

pub returns-in-Some : goal.returns-in-Some
returns-in-Some c table name found goes =
    given IsFileOf table name (zone_set_of c.in-Some.ever.now) c.file_of.result (goes ∙ ap (option_map zone_set_of) (sym c.in-Some.ensures)) c.file_of.ensures
