-- The parts of a day with a side, as its named groups take them.
use Rattle.std.specs.Prelude.{ℕ, List, Option, Some, option_and_then, codes}
use Rattle.zone_line.specs.{Options.{◌>>=◌}, Patterns.{match_in, group_in}, Texts.{day_text}}

pub record DayTexts : Type 0 where
  pub weekday : List ℕ
  pub sign : List ℕ
  pub day : List ℕ

unfoldable pub day_columns_of : (List ℕ → Option (List ℕ)) → Option DayTexts
day_columns_of part = do
  weekday ← part (codes "weekday")
  sign ← part (codes "sign")
  day ← part (codes "day")
  Some (record { weekday = weekday; sign = sign; day = day })

-- the parts of a text that the day pattern matches
unfoldable pub day_columns : List ℕ → Option DayTexts
day_columns text = option_and_then (λ m. day_columns_of (group_in day_text text m)) (match_in day_text text)
