use Rattle.std.specs.FinMap.{get-empty}
use Rattle.basics.specs.Keyed.{text_cmp}
use Rattle.zone_answers.proofs.opened.Zones.new.Goals as goal

pub returns-clause-opened : goal.returns-clause-opened
returns-clause-opened g c = record { bounded = c.requires; each = λ name. rw (c.new-2.ensures, get-empty text_cmp name) tt; last = tt; day = tt }
