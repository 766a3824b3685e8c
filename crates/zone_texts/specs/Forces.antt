-- What is seen of what is in force.
use Rattle.std.specs.Prelude.{string_bytes}
use Rattle.zone_texts.specs.{Views.{InForce}, declared.force.Force.{Force}}

abbrev pub force_shown : Force → InForce
force_shown force = record { offset = force.offset; saving = force.saving; name = string_bytes force.name }
