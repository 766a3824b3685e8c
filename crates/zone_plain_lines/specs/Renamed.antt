-- Lines with their rulesets by the names of the plain form.
use Rattle.std.specs.{Prelude.{ℕ, List, [], Bool, bytes_eq, map}, List.{list_any}}
use Rattle.zone_table.specs.Values.{SavingValue, no_saving, one_off, multiple, InfoValue, LineValue, space, zone, continuation, rule, link}
use Rattle.zone_plain_lines.specs.{Marks.{mark}, Names.{said_name}}

-- the ruleset in RULES, or nothing
abbrev pub saved_by : SavingValue → List ℕ
saved_by (multiple name) = name
saved_by _ = []

-- the ruleset that a line is of or names, or nothing
abbrev pub ruleset_of : LineValue → List ℕ
ruleset_of (zone name info) = saved_by info.saving
ruleset_of (continuation info) = saved_by info.saving
ruleset_of (rule r) = r.name
ruleset_of _ = []

-- a line of a source is of that ruleset or names it
abbrev pub has_name : List LineValue → List ℕ → Bool
has_name values name = list_any (λ v. bytes_eq (ruleset_of v) name) values

-- the mark of a source: no name of a ruleset begins with it, in a rule or in RULES
unfoldable pub mark_of : List LineValue → List ℕ
mark_of values = mark (map ruleset_of values)

-- another name for a ruleset in RULES
abbrev pub saving_by : SavingValue → List ℕ → SavingValue
saving_by no_saving name = no_saving
saving_by (one_off amount) name = one_off amount
saving_by (multiple old) name = multiple name

abbrev pub info_by : InfoValue → List ℕ → InfoValue
info_by info name = record info { saving = saving_by info.saving name }

-- the line with another name for its ruleset
abbrev pub under : LineValue → List ℕ → LineValue
under space name = space
under (zone zone_name info) name = zone zone_name (info_by info name)
under (continuation info) name = continuation (info_by info name)
under (rule r) name = rule (record r { name = name })
under (link existing new) name = link existing new

-- the line with its ruleset by the name of the plain form, in a source of that mark
abbrev pub renamed : List ℕ → LineValue → LineValue
renamed mark v = under v (said_name mark (ruleset_of v))
