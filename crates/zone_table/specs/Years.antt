-- The years, by their texts.
use Rattle.std.specs.Prelude.{ℕ, ◌^◌, List, Option, Some, option_map, ok_or, Result, codes, if◌then◌else◌}
use Rattle.zone_table.specs.{Faults.{Fault, refused}, declared.fault.FaultKind.TheVariants.{FailedYearParse}, Names.{is_name}, declared.year.Year.{Year}, declared.year.Year.TheVariants.{Minimum, Maximum, Number}}
use Rattle.basics.specs.Numbers.{signed_in}

-- the first or the last of all years, or the number of 64 bits that Rust reads
unfoldable pub year_named : List ℕ → Option Year
year_named text =
    if is_name (codes "min") (codes "minimum") text then Some Minimum
    else if is_name (codes "max") (codes "maximum") text then Some Maximum
    else option_map Number (signed_in (2 ^ 63) text)

abbrev pub year_field : List ℕ → Result Year Fault
year_field text = ok_or (year_named text) (refused FailedYearParse text)
