-- What is written is read as it is meant.
use Rattle.std.specs.{Prelude.{◌≡◌, ℕ, List, ◌++◌, All, true, Ok}, Str.{is_utf8}}
use Rattle.zone_line.specs.LineValues.{value}
use Rattle.zone_table.specs.Values.{LineValue}
use Rattle.zone_plain_lines.specs.PlainTexts.{plain_text}
use Rattle.zone_plain.specs.{Settled.{settled}, WrittenOut.{written_out}, Heads.{head_of}, LineValues.{meant_in}, Named.{named_lines}, Written.{written}, WrittenLines.{IsOneLine}}

-- what is written of a value is UTF-8 and one line, and is read as this value
pub record IsReadAsMeant (v : LineValue) : Type 0 where
  pub text : is_utf8 (plain_text v) ≡ true
  pub line : IsOneLine v
  pub read : value (plain_text v) ≡ Ok v

-- the bytes are written of what a source means, and each line of them is read as it is meant
pub record IsReadBack (source bytes : List ℕ) : Type 0 where
  -- the line of its release, if it names one
  pub head : List ℕ
  pub heads : head_of source ≡ Ok head
  -- what the lines of the source mean, with its own names
  pub meant : List LineValue
  pub means : meant_in source ≡ Ok meant
  -- the same with its rulesets by names that RULES can say, and with each link led to its zone
  pub linked : List LineValue
  pub led : settled (named_lines meant) ≡ Ok linked
  -- the same with `%z` written out
  pub out : List LineValue
  pub spelled : written_out linked ≡ Ok out
  -- these are written behind that line, and read again
  pub wrote : bytes ≡ head ++ written out
  pub read : All IsReadAsMeant out
