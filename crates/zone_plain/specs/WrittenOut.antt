-- A source's lines with `%z` written out, or why they are refused.
use Rattle.std.specs.Prelude.{◌≡◌, ℕ, suc, List, [], ◌∷◌, ◌++◌, flat_map, length, map, not, nat_lt, Option, Some, None, Result, Ok, Err, if◌then◌else◌}
use Rattle.zone_outside.specs.Limit.{text_limit}
use Rattle.zone_table.specs.Values.{LineValue}
use Rattle.zone_plain_lines.specs.declared.cause.PlainCause.TheVariants as cause
use Rattle.zone_plain_lines.specs.LineFaults.{Refusal, at, bad_line, too_long}
use Rattle.zone_plain.specs.{Pairs.{Pair, asked, joined_by}, Written.{line_text, written}, Made.{is_changed_said, name_in, changed, made_for, made}}

-- how many bytes the rules take that are made for pairs
abbrev pub made_size : List LineValue → List Pair → ℕ
made_size all pairs = length (flat_map line_text (made_for all pairs))

-- why lines are refused, from the nth on and after those that ask for these pairs: the first line that can't be said, or the first with
-- which the rules that are made take more bytes than the limit
unfoldable pub refused_from : ℕ → List LineValue → ℕ → List Pair → List LineValue → Option Refusal
refused_from limit all n pairs [] = None
refused_from limit all n pairs (v ∷ values) =
    if not (is_changed_said all (name_in all) (asked v) v) then Some (bad_line (at n cause.Unsayable))
    else if nat_lt limit (made_size all (joined_by (asked v) pairs)) then Some too_long
    else refused_from limit all (suc n) (joined_by (asked v) pairs) values

abbrev pub written_unless : List LineValue → Option Refusal → Result (List LineValue) Refusal
written_unless values (Some refusal) = Err refusal
written_unless values None = Ok (map (changed (name_in values)) values ++ made values)

-- each line with what `%z` stands for, and behind them the rules that are made; or why they are refused
unfoldable pub written_out : List LineValue → Result (List LineValue) Refusal
written_out values = written_unless values (refused_from text_limit values 1 [] values)

-- the text is written of the lines with `%z` written out
pub record IsWrittenAs (values : List LineValue) (text : List ℕ) : Type 0 where
  pub out : List LineValue
  pub spelled : written_out values ≡ Ok out
  pub wrote : text ≡ written out
