use Rattle.std.proofs.Common.{sym, ap, ◌∙◌}
use Rattle.std.specs.FinMap as map
use Rattle.basics.proofs.KeyedMaps.{get-keyed}
use Rattle.basics.proofs.map.TextMap.get.Goals as goal

pub returns : goal.returns
returns g c =
    c.get.ensures.value ∙ sym (get-keyed c.self.inside.hashed.entries c.args.key.now) ∙ ap (λ m. map.get m c.args.key.now) c.self.view_is
