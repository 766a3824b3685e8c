-- How columns are asked for.
use Rattle.std.specs.Prelude.{ℕ, Some}
use Rattle.pad_fmt.specs.{Options.{Options, default_options}, declared.options.Alignment.{Alignment}}

-- on a side of so many characters
abbrev pub on_side : Alignment → ℕ → Options
on_side side width = record default_options { align = Some side; width = Some width }
