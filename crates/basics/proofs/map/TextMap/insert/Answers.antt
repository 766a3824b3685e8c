use Rattle.std.proofs.Common.{◌∙◌, string_bytes}
use Rattle.std.specs.FinMap as map
use Rattle.basics.proofs.KeyedMaps.{keyed_updates}
use Rattle.basics.proofs.map.TextMap.insert.Goals as goal

pub returns-clause-ok : goal.returns-clause-ok
returns-clause-ok g c =
    keyed_updates (string_bytes c.in_ok-key.key) c.self.inside.hashed c.insert.new.self c.args.value c.in_ok-insert.ensures.updates
    ∙ (λ i. map.insert (c.self.view_is i) (c.in_ok-key.ensures.ok i) c.args.value)
