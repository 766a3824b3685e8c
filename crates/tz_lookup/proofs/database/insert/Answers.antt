use Rattle.std.proofs.Common.{ap, ◌∙◌, map}
use Rattle.tz_lookup.{specs.Databases.{name_shown}, proofs.DatabaseLemmas.{insert_shown}}
use Rattle.tz_lookup.proofs.database.insert.Goals as goal

pub returns : goal.returns
returns c = ap (map name_shown) c.in_ok-insert.ensures.keys ∙ insert_shown c.args.names.now.keys c.args.name
