-- The texts of the columns of a line, as its named groups take them.
use Rattle.std.specs.Prelude.{ℕ, List, Option, Some, option_and_then, codes}
use Rattle.zone_line.specs.{Options.{◌>>=◌}, Patterns.{match_in, group_in}, Texts.{zone_text, continuation_text, rule_text, link_text}}

-- the columns that a Zone line and a continuation share
pub record InfoTexts : Type 0 where
  pub gmtoff : List ℕ
  pub rules : List ℕ
  pub format : List ℕ
  pub year : Option (List ℕ)
  pub month : Option (List ℕ)
  pub day : Option (List ℕ)
  pub time : Option (List ℕ)

-- the columns of a Zone line
pub record ZoneTexts : Type 0 where
  pub name : List ℕ
  pub info : InfoTexts

-- the columns of a Rule line
pub record RuleTexts : Type 0 where
  pub name : List ℕ
  pub from : List ℕ
  pub to : List ℕ
  pub kind : List ℕ
  pub month : List ℕ
  pub on : List ℕ
  pub at : List ℕ
  pub save : List ℕ
  pub letters : List ℕ

-- the columns of a Link line
pub record LinkTexts : Type 0 where
  pub target : List ℕ
  pub name : List ℕ

-- the columns from the parts of the groups; the first three have to have taken part
unfoldable pub info_columns_of : (List ℕ → Option (List ℕ)) → Option InfoTexts
info_columns_of part = do
  gmtoff ← part (codes "gmtoff")
  rules ← part (codes "rulessave")
  format ← part (codes "format")
  Some (record {
    gmtoff = gmtoff;
    rules = rules;
    format = format;
    year = part (codes "year");
    month = part (codes "month");
    day = part (codes "day");
    time = part (codes "time");
  })

unfoldable pub zone_columns_of : (List ℕ → Option (List ℕ)) → Option ZoneTexts
zone_columns_of part = do
  name ← part (codes "name")
  info ← info_columns_of part
  Some (record { name = name; info = info })

-- the columns of a line that the zone pattern matches
unfoldable pub zone_columns : List ℕ → Option ZoneTexts
zone_columns line = option_and_then (λ m. zone_columns_of (group_in zone_text line m)) (match_in zone_text line)

unfoldable pub rule_columns_of : (List ℕ → Option (List ℕ)) → Option RuleTexts
rule_columns_of part = do
  name ← part (codes "name")
  from ← part (codes "from")
  to ← part (codes "to")
  kind ← part (codes "type")
  month ← part (codes "in")
  on ← part (codes "on")
  at ← part (codes "at")
  save ← part (codes "save")
  letters ← part (codes "letters")
  Some (record {
    name = name;
    from = from;
    to = to;
    kind = kind;
    month = month;
    on = on;
    at = at;
    save = save;
    letters = letters;
  })

unfoldable pub link_columns_of : (List ℕ → Option (List ℕ)) → Option LinkTexts
link_columns_of part = do
  target ← part (codes "target")
  name ← part (codes "name")
  Some (record { target = target; name = name })

-- likewise of the other patterns
unfoldable pub continuation_columns : List ℕ → Option InfoTexts
continuation_columns line =
    option_and_then (λ m. info_columns_of (group_in continuation_text line m)) (match_in continuation_text line)

unfoldable pub rule_columns : List ℕ → Option RuleTexts
rule_columns line = option_and_then (λ m. rule_columns_of (group_in rule_text line m)) (match_in rule_text line)

unfoldable pub link_columns : List ℕ → Option LinkTexts
link_columns line = option_and_then (λ m. link_columns_of (group_in link_text line m)) (match_in link_text line)
