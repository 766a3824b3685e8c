-- What is seen of a zone of one offset.
use Rattle.std.specs.Prelude.{ℕ, ℤ, List}
use Rattle.tz_lookup.specs.declared.fixed.Fixed.{Fixed}

abbrev pub name_shown : Fixed → List ℕ
name_shown zone = zone.name.now

abbrev pub offset_shown : Fixed → ℤ
offset_shown zone = zone.offset
