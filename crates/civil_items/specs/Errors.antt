-- What is inside an error that is of the variant asked for.
use Rattle.std.specs.Prelude.{Result, Ok, Err}
use Rattle.civil_parts.specs.declared.error.{ConversionRange.{ConversionRange as RangeOfConversion}, ComponentRange.{ComponentRange as RangeOfComponent}, InvalidVariant.{InvalidVariant as NoVariant}}
use Rattle.civil_items.specs.declared.error.{IndeterminateOffset.{IndeterminateOffset as UnknownOffset}, DifferentVariant.{DifferentVariant as OtherVariant}, Error.{Error}}
use Rattle.civil_items.specs.declared.error.Error.TheVariants.{ConversionRange, ComponentRange, IndeterminateOffset, DifferentVariant, InvalidVariant}

abbrev pub conversion_range_in : Error → Result RangeOfConversion OtherVariant
conversion_range_in (ConversionRange refusal) = Ok refusal
conversion_range_in _ = Err (record {})

abbrev pub component_range_in : Error → Result RangeOfComponent OtherVariant
component_range_in (ComponentRange refusal) = Ok refusal
component_range_in _ = Err (record {})

abbrev pub indeterminate_offset_in : Error → Result UnknownOffset OtherVariant
indeterminate_offset_in (IndeterminateOffset refusal) = Ok refusal
indeterminate_offset_in _ = Err (record {})

abbrev pub different_variant_in : Error → Result OtherVariant OtherVariant
different_variant_in (DifferentVariant refusal) = Ok refusal
different_variant_in _ = Err (record {})

abbrev pub invalid_variant_in : Error → Result NoVariant OtherVariant
invalid_variant_in (InvalidVariant refusal) = Ok refusal
invalid_variant_in _ = Err (record {})
