-- What the code's answers tell.
use Rattle.std.specs.{Prelude.{◌≡◌, ℕ, suc, ℤ, List, [], ◌∷◌, ◌++◌, Bool, true, false, ◌&&◌, codes, flat_map, slice_index_or, unwrap_or, bytes_eq, if◌then◌else◌}, FinMap.{FinMap, get, insert}}
use Rattle.basics.specs.{Keyed.{text_cmp}, Listed.{listed}}
use Rattle.zone_table.specs.Values.{LineValue, space, rule}
use Rattle.zone_plain.specs.{Pairs.{Pair, Asked, nothing, total, under, is_among, with_pair, joined_by, asked}, Written.{Part, line_text, part_text}}
use Rattle.zone_plain.specs.{Made.{named_in, rules_for, are_rules_said, made_rule, is_rule_said, with_format, with_ruleset, around_text, changed_by}, OffsetTexts.{offset_text, has_text}}
use Rattle.zone_plain_lines.specs.Said.{is_said}

-- the value at a place, from 0 on
abbrev pub value_in : List LineValue → ℕ → LineValue
value_in values place = slice_index_or values place space

-- it is a rule of that name
abbrev pub is_named : List ℕ → LineValue → Bool
is_named name (rule r) = bytes_eq r.name name
is_named name _ = false

-- where the rules of that name stand, of lines that begin at a place
unfoldable pub places_from : ℕ → List LineValue → List ℕ → List ℕ
places_from at [] name = []
places_from at (v ∷ values) name = (if is_named name v then at ∷ [] else []) ++ places_from (suc at) values name

-- each name has the places of its rules
abbrev pub IsGrouped : List LineValue → FinMap text_cmp (List ℕ) → Type 0
IsGrouped values groups = (name : List ℕ) → get groups name ≡ listed (places_from 0 values name)

-- the map with the place of a line among those of its ruleset, if it is a rule
abbrev pub with_place : FinMap text_cmp (List ℕ) → LineValue → ℕ → FinMap text_cmp (List ℕ)
with_place groups (rule r) place = insert groups r.name (unwrap_or (get groups r.name) [] ++ place ∷ [])
with_place groups _ place = groups

-- a line was added where it can be said
pub record IsAdded (old new : List ℕ) (v : LineValue) (said : Bool) : Type 0 where
  pub told : said ≡ is_said v
  pub added : said ≡ true → new ≡ old ++ line_text v

-- lines were added where each can be said
pub record AreAdded (old new : List ℕ) (values : List LineValue) (are_said said : Bool) : Type 0 where
  pub told : said ≡ are_said
  pub added : said ≡ true → new ≡ old ++ flat_map line_text values

-- what is made of a line, if it is a rule
abbrev pub made_lines : List ℕ → ℤ → LineValue → List LineValue
made_lines name offset (rule r) = rule (made_rule name offset r) ∷ []
made_lines name offset _ = []

-- it has its text and can be said
abbrev pub is_made_said : List ℕ → ℤ → LineValue → Bool
is_made_said name offset (rule r) = is_rule_said name offset r
is_made_said name offset _ = true

-- the ruleset that is made for a pair, the first time that a line asks for it
abbrev pub new_rules : List LineValue → List ℕ → List Pair → Pair → List LineValue
new_rules values mark pairs pair =
    if is_among pair pairs then [] else rules_for values (named_in mark (with_pair pairs pair) pair) pair

abbrev pub are_new_said : List LineValue → List ℕ → List Pair → Pair → Bool
are_new_said values mark pairs pair =
    if is_among pair pairs then true else are_rules_said values (named_in mark (with_pair pairs pair) pair) pair

-- the same of what a line asks for
abbrev pub asked_rules : List LineValue → List ℕ → List Pair → Asked → List LineValue
asked_rules values mark pairs (under parts pair) = new_rules values mark pairs pair
asked_rules values mark pairs _ = []

abbrev pub is_asked_said : List LineValue → List ℕ → List Pair → Asked → LineValue → Bool
is_asked_said values mark pairs nothing v = true
is_asked_said values mark pairs (total parts t) v = has_text t && is_said (with_format v (around_text parts (offset_text t)))
is_asked_said values mark pairs (under parts pair) v =
    are_new_said values mark pairs pair
    && is_said (with_ruleset (with_format v (around_text parts (codes "%s"))) (named_in mark (with_pair pairs pair) pair))

-- a line was written out in its part, and the ruleset was made that it asks for, if none was yet
pub record IsWrittenOut (values : List LineValue) (mark : List ℕ) (old_pairs new_pairs : List Pair) (old_made new_made : List ℕ) (old new : Part → List ℕ) (v : LineValue) (said : Bool)
    : Type 0 where
  pub told : said ≡ is_asked_said values mark old_pairs (asked v) v
  pub pairs : new_pairs ≡ joined_by (asked v) old_pairs
  pub made : said ≡ true → new_made ≡ old_made ++ flat_map line_text (asked_rules values mark old_pairs (asked v))
  pub added : said ≡ true → (part : Part) → new part ≡ old part ++ part_text part (changed_by (named_in mark new_pairs) (asked v) v)
