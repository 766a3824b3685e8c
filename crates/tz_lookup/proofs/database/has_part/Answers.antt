use Rattle.std.{specs.Cmp.{both_ways}, proofs.lemmas.Str.Pattern.{contains_text}}
use Rattle.tz_lookup.proofs.PartLaws.{part_found, part_of}
use Rattle.tz_lookup.proofs.database.has_part.Goals as goal

pub returns : goal.returns
returns c =
    let stands = contains_text c.contains.result c.args.part.now c.args.text.now c.contains.ensures.cases in
    both_ways _ _ (λ e. part_found c.args.part.now c.args.text.now (stands.0 e))
    (λ e. stands.1 (part_of c.args.part.now c.args.text.now e))
