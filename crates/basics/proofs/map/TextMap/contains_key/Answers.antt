use Rattle.std.{proofs.Common.{sym, ap, ◌∙◌}, specs.Option.{is_some}}
use Rattle.std.specs.FinMap as map
use Rattle.basics.proofs.KeyedMaps.{get-keyed}
use Rattle.basics.proofs.map.TextMap.contains_key.Goals as goal

pub returns : goal.returns
returns g c =
    c.contains_key.ensures ∙ ap is_some (sym (get-keyed c.self.inside.hashed.entries c.args.key.now))
    ∙ ap (λ m. map.contains_key m c.args.key.now) c.self.view_is
