use Rattle.std.proofs.{Common.{rules, ◌≡◌, None, lit<}, lemmas.Str.Pattern.{split_once_first}}
use Rattle.zone_table.{specs.NameTree.{submodule_of}, proofs.SlashLemmas.{first_uncut}}
use Rattle.zone_table.proofs.structure.submodule.Goals as goal

pub returns-in_err-front : goal.returns-in_err-front
returns-in_err-front c =
    let uncut : submodule_of c.args.part.now ≡ None =
    first_uncut c.args.part.now (split_once_first 47 c.args.part.now None c.in_err-front.ensures.cases (lit< tt)) in
    search rules
