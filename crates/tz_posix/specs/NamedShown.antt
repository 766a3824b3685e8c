-- What is seen of the code's abbreviations.
use Rattle.tz_posix.specs.declared.posix.Named.{Named}
use Rattle.tz_posix.specs.PosixZones as zones

abbrev pub named_of : Named → zones.Named
named_of named = record { name = named.name.now; total = named.offset }
