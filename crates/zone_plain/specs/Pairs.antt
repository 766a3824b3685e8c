-- What `%z` asks of a line: the text of a total, or under a ruleset one of its own for that ruleset and that offset.
use Rattle.std.specs.{Prelude.{ℕ, ℤ, ◌+ℤ◌, Bool, ◌&&◌, List, [], ◌∷◌, ◌++◌, bytes_eq, if◌then◌else◌}, List.{list_any, position_or_len}, Ordering.{int_eq}, Option.{option_map_or}}
use Rattle.zone_table.specs.{Seconds.{seconds_of}, Values.{SavingValue, no_saving, one_off, multiple, InfoValue, LineValue, zone, continuation}}
use Rattle.zone_plain.specs.Formats.{Around, around_mark}

-- a ruleset, by its name, and a standard offset in seconds
pub record Pair : Type 0 where
  pub rules : List ℕ
  pub offset : ℤ

abbrev pub pair_of : List ℕ → ℤ → Pair
pair_of name offset = record { rules = name; offset = offset }

pub data Asked : Type 0 where
  -- there is no `%z`
  nothing : Asked
  -- the text of this total
  total : Around → ℤ → Asked
  -- what the ruleset that is made for this pair says
  under : Around → Pair → Asked

abbrev pub asked_under : SavingValue → ℤ → Around → Asked
asked_under no_saving offset parts = total parts offset
asked_under (one_off amount) offset parts = total parts (offset +ℤ seconds_of amount)
asked_under (multiple name) offset parts = under parts (pair_of name offset)

unfoldable pub asked_by : InfoValue → Asked
asked_by info = option_map_or (asked_under info.saving (seconds_of info.utc_offset)) (around_mark info.format) nothing

abbrev pub asked : LineValue → Asked
asked (zone name info) = asked_by info
asked (continuation info) = asked_by info
asked _ = nothing

abbrev pub is_same : Pair → Pair → Bool
is_same a b = int_eq a.offset b.offset && bytes_eq a.rules b.rules

-- the pair is one of these
abbrev pub is_among : Pair → List Pair → Bool
is_among pair pairs = list_any (is_same pair) pairs

-- these pairs, with one more behind them where it isn't among them
abbrev pub with_pair : List Pair → Pair → List Pair
with_pair pairs pair = if is_among pair pairs then pairs else pairs ++ pair ∷ []

-- the number of a pair, from 0 on
abbrev pub number_of : List Pair → Pair → ℕ
number_of pairs pair = position_or_len (is_same pair) pairs

-- these pairs, with the one that a line asks for
abbrev pub joined_by : Asked → List Pair → List Pair
joined_by (under parts pair) pairs = with_pair pairs pair
joined_by _ pairs = pairs

unfoldable pub pairs_from : List Pair → List LineValue → List Pair
pairs_from pairs [] = pairs
pairs_from pairs (v ∷ values) = pairs_from (joined_by (asked v) pairs) values

-- the pairs for which rulesets are made, in the order in which the lines first ask for them
abbrev pub pairs_of : List LineValue → List Pair
pairs_of values = pairs_from [] values
