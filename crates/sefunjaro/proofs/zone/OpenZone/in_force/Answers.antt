use Rattle.std.proofs.Common.{◌≡◌, ℕ, ℤ, Bool, List, subst}
use Rattle.civil_base.specs.DateTimes.{instant}
use Rattle.tz_ever.specs.{Asked.{asked_recurrence, asked_set}, Recurrences.{ZoneGives}}
use Rattle.sefunjaro.specs.{Asked.{IsNamed}, Zones.{given_in}}
use Rattle.sefunjaro.proofs.zone.OpenZone.in_force.Goals as goal

pub returns-clause-name : goal.returns-clause-name
returns-clause-name c =
    let gives : ZoneGives (asked_recurrence c.new.result) (asked_set c.new.result) ≡ given_in c.args.self.now =
    λ i. ZoneGives (c.new.ensures.recurrence i) (c.new.ensures.set i) in
    let t = instant c.args.at.now in let found = c.in_force.result in let old = c.args.room.now in let new = c.in_force.new.room in
    subst (λ (f : ℤ → List ℕ → Bool → Type 0). IsNamed (f t) found old new) gives c.in_force.ensures.name
