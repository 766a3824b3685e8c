-- What is tested of a ruleset.
use Rattle.std.specs.Prelude.{◌≡◌, ℕ}
use Rattle.zone_spans.specs.{Lines.{Line}, Tested.{NoneLeaves}, declared.fault.Tested.{Tested}}

-- in none of its years does the day of one of its rules lie in another year
abbrev pub IsTested : Tested → Type 0
IsTested tested = NoneLeaves tested.rules.now tested.years

-- its rules are the line's, however many years that expands
abbrev pub HasRulesOf : Line → ℕ → Tested → Type 0
HasRulesOf line years tested = tested.rules.now ≡ line.rules
