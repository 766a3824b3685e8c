-- The seconds from 1970 between which rules fire, and the one up to which years are counted.
use Rattle.std.specs.Prelude.{ℤ, pos, neg_ℤ}

-- 1800-01-01 00:00:00 UTC
abbrev pub rules_begin : ℤ
rules_begin = neg_ℤ (pos 5364662400)

-- 2099-01-01 00:00:00 UTC, when the last year begins
abbrev pub last_year_begin : ℤ
last_year_begin = pos 4070908800

-- 2100-01-01 00:00:00 UTC
abbrev pub rules_end : ℤ
rules_end = pos 4102444800

-- 2800-01-01 00:00:00 UTC
abbrev pub counted_end : ℤ
counted_end = pos 26192246400
