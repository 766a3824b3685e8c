-- The rulesets that are made for `%z`, and what becomes of the lines.
use Rattle.std.specs.{Prelude.{ℕ, ℤ, ◌+ℤ◌, Bool, true, ◌&&◌, List, [], ◌∷◌, ◌++◌, map, flat_map, codes, Some, bytes_eq, if◌then◌else◌}, List.{list_all}}
use Rattle.zone_table.specs.{Seconds.{seconds_of}, Values.{multiple, RuleValue, LineValue, space, zone, continuation, rule, link}, declared.rule.RuleInfo.{RuleInfo}}
use Rattle.zone_plain_lines.specs.{Said.{is_said}, Renamed.{mark_of}}
use Rattle.zone_plain.specs.{Formats.{Around}, MadeNames.{made_name}, OffsetTexts.{offset_text, has_text}, Pairs.{Pair, Asked, nothing, total, under, asked, number_of, pairs_of}}

-- the rules of that name, in order
unfoldable pub rules_named : List LineValue → List ℕ → List RuleValue
rules_named [] name = []
rules_named (rule r ∷ values) name = if bytes_eq r.name name then r ∷ rules_named values name else rules_named values name
rules_named (_ ∷ values) name = rules_named values name

-- the offset with a rule's saving
abbrev pub total_of : ℤ → RuleValue → ℤ
total_of offset r = offset +ℤ seconds_of r.time_to_add

-- the rule under another name and with other letters
abbrev pub renamed : RuleValue → List ℕ → List ℕ → RuleValue
renamed r name letters = record r { name = name; letters = Some letters }

-- the same rule under another name, its letters the text of its total
abbrev pub made_rule : List ℕ → ℤ → RuleValue → RuleValue
made_rule name offset r = renamed r name (offset_text (total_of offset r))

-- the same rule as a table has it, its letters the text of its total
abbrev pub made_info : ℤ → RuleInfo → RuleInfo
made_info offset r = record r { letters = Some (offset_text (offset +ℤ r.time_to_add)) }

-- the total has a text, and the rule can be said
abbrev pub is_rule_said : List ℕ → ℤ → RuleValue → Bool
is_rule_said name offset r = has_text (total_of offset r) && is_said (rule (made_rule name offset r))

-- the lines of the ruleset that is made for a pair, under a name
abbrev pub rules_for : List LineValue → List ℕ → Pair → List LineValue
rules_for values name pair = map (λ r. rule (made_rule name pair.offset r)) (rules_named values pair.rules)

abbrev pub are_rules_said : List LineValue → List ℕ → Pair → Bool
are_rules_said values name pair = list_all (is_rule_said name pair.offset) (rules_named values pair.rules)

-- the line with another format
abbrev pub with_format : LineValue → List ℕ → LineValue
with_format (zone name info) format = zone name (record info { format = format })
with_format (continuation info) format = continuation (record info { format = format })
with_format space format = space
with_format (rule r) format = rule r
with_format (link existing new) format = link existing new

-- the line under another ruleset
abbrev pub with_ruleset : LineValue → List ℕ → LineValue
with_ruleset (zone name info) other = zone name (record info { saving = multiple other })
with_ruleset (continuation info) other = continuation (record info { saving = multiple other })
with_ruleset space other = space
with_ruleset (rule r) other = rule r
with_ruleset (link existing new) other = link existing new

-- the parts of a format around a text
abbrev pub around_text : Around → List ℕ → List ℕ
around_text parts text = (parts.before ++ text) ++ parts.after

-- what becomes of a line, by the names of the rulesets that are made
abbrev pub changed_by : (Pair → List ℕ) → Asked → LineValue → LineValue
changed_by name_of nothing v = v
changed_by name_of (total parts t) v = with_format v (around_text parts (offset_text t))
changed_by name_of (under parts pair) v = with_ruleset (with_format v (around_text parts (codes "%s"))) (name_of pair)

abbrev pub changed : (Pair → List ℕ) → LineValue → LineValue
changed name_of v = changed_by name_of (asked v) v

-- whether what becomes of a line, and the ruleset that is made for it, have their texts and can be said
abbrev pub is_changed_said : List LineValue → (Pair → List ℕ) → Asked → LineValue → Bool
is_changed_said values name_of nothing v = true
is_changed_said values name_of (total parts t) v = has_text t && is_said (changed_by name_of (total parts t) v)
is_changed_said values name_of (under parts pair) v =
    are_rules_said values (name_of pair) pair && is_said (changed_by name_of (under parts pair) v)

-- the name of the ruleset that is made for a pair of these, behind a mark
abbrev pub named_in : List ℕ → List Pair → Pair → List ℕ
named_in mark pairs pair = made_name mark (number_of pairs pair)

-- the name of the ruleset that a source gets for a pair
abbrev pub name_in : List LineValue → Pair → List ℕ
name_in values = named_in (mark_of values) (pairs_of values)

-- the rules that are made for pairs, a ruleset after the other
abbrev pub made_for : List LineValue → List Pair → List LineValue
made_for values pairs = flat_map (λ pair. rules_for values (name_in values pair) pair) pairs

-- the rules that are made
unfoldable pub made : List LineValue → List LineValue
made values = made_for values (pairs_of values)
