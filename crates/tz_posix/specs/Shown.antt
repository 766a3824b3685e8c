-- What the values of the code show.
use Rattle.std.specs.Prelude.{option_map}
use Rattle.tz_posix.specs.{Values.{StdPart, DstPart, Value, short, expanded}, declared.values.Rule.{Rule}, declared.values.Std.{Std}, declared.values.Dst.{Dst}, declared.values.Tz.{Tz}, declared.values.Tz.TheVariants.{Short, Expanded}}

abbrev pub std_shown : Std → StdPart
std_shown s = record { name = s.name.now; offset = s.offset }

abbrev pub dst_shown : {T : Type 0} → Dst (Rule T) → DstPart T
dst_shown d = record { name = d.name.now; offset = d.offset; rule = d.rule }

abbrev pub tz_shown : {T : Type 0} → Tz (Rule T) → Value T
tz_shown (Short name) = short name.now
tz_shown (Expanded s d) = expanded (std_shown s) (option_map dst_shown d)
