-- The version of the calls, and the years of the rules.
use Rattle.std.specs.Prelude.{ℕ, pos, List, codes}
use Rattle.zone_spans.specs.Years.{earliest_year, latest_year}
use Rattle.sefunjaro_c.specs.declared.version.Years.{Years}

abbrev pub version : List ℕ
version = codes "2.0.0"

-- the first and the last year in which the rules of a line without an end fire, where it doesn't go on for ever
abbrev pub rule_years : Years
rule_years = record { first = pos earliest_year; last = pos latest_year }
