use Rattle.std.proofs.Common.{ap, sym, option_map, ◌∙◌}
use Rattle.tz_ever.specs.ZoneShown.{zone_set_of}
use Rattle.zone_command.{specs.Wholes.{IsStringOf}, proofs.WholeLemmas.{given}}
use Rattle.zone_command.proofs.any_source.string_in.Goals as goal

pub returns-in-Some : goal.returns-in-Some
returns-in-Some c table name found goes =
    given IsStringOf table name (zone_set_of c.in-Some.ever.now) c.string_of.result (goes ∙ ap (option_map zone_set_of) (sym c.in-Some.ensures)) c.string_of.ensures
