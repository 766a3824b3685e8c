use Rattle.std.{proofs.Common.{map, sym}, specs.Prelude.{string_bytes}}
use Rattle.zone_answers.proofs.CountLemmas.{asks_few}
use Rattle.zone_answers.proofs.running.run.Goals as goal

pub run_made-requires : goal.run_made-requires
run_made-requires g c =
    let asked = rw c.in-Some-Generate.field-0-is at c.in-Some-Generate.ensures in
    asks_few (map string_bytes c.args.words.now) c.in-Some-Generate.count (sym asked)
