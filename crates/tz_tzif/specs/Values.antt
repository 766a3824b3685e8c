-- What a footer says, with names by their bytes.
use Rattle.std.specs.Prelude.{ℕ, List, Option, Some, None, option_map}
use Rattle.tz_posix.specs.{Values.{StdPart, DstPart, Value, short, expanded}, declared.time.Offset.{Offset}, declared.values.Rule.{Rule}}

pub record SavingValue : Type 0 where
  pub name : List ℕ
  pub offset : Option Offset
  pub rule : Rule Offset

pub record FooterValue : Type 0 where
  pub standard : StdPart
  pub saving : Option SavingValue

-- the same as a value of the grammar of POSIX TZ strings: daylight saving time has a rule
abbrev pub dst_of : SavingValue → DstPart Offset
dst_of saving = record { name = saving.name; offset = saving.offset; rule = Some saving.rule }

abbrev pub tz_of : FooterValue → Value Offset
tz_of value = expanded value.standard (option_map dst_of value.saving)

-- and back, where the value is a footer's
abbrev pub with_rule : StdPart → List ℕ → Option Offset → Rule Offset → FooterValue
with_rule standard name offset rule =
    record { standard = standard; saving = Some (record { name = name; offset = offset; rule = rule }) }

abbrev pub footer_in : Value Offset → Option FooterValue
footer_in (short name) = None
footer_in (expanded standard None) = Some (record { standard = standard; saving = None })
footer_in (expanded standard (Some dst)) = option_map (with_rule standard dst.name dst.offset) dst.rule
