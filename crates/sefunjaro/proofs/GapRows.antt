-- Worked examples: which change skips a local time. At 1970-01-01 00:00:00 UTC clocks are set ahead from offset 0 to one hour.
use Rattle.std.{proofs.Common.{◌≡◌, cond, ℤ, pos, negsuc, refl, sym, arith}, specs.Prelude.{int_lt}, proofs.lemmas.Int.{ints}}
use Rattle.sefunjaro.specs.{Gaps.{IsSkippedBy}, declared.gap.Gap.{Gap}}

abbrev jump : ℤ → ℤ
jump t = cond (int_lt t (pos 0)) (pos 0) (pos 3600)

abbrev gap : ℤ → ℤ → ℤ → Gap
gap second before after = record { second = second; before = before; after = after }

-- that a local time is skipped by the change, and that it is not
abbrev Skips : ℤ → Type 0
Skips x = IsSkippedBy jump x (gap (pos 0) (pos 0) (pos 3600))

-- midnight is skipped, half past and the last nanosecond before one o'clock
midnight : Skips (pos 0)
midnight = record { before = refl; after = refl; behind = omega (arith, ints); ahead = omega (arith, ints) }

half_past : Skips (pos 1800000000000)
half_past = record { before = refl; after = refl; behind = omega (arith, ints); ahead = omega (arith, ints) }

last_nanosecond : Skips (pos 3599999999999)
last_nanosecond = record { before = refl; after = refl; behind = omega (arith, ints); ahead = omega (arith, ints) }

-- the nanosecond before midnight is shown before the change, and one o'clock at it
before_midnight : Skips (negsuc 0) → ⊥
before_midnight skipped = absurd (omega (arith, ints, skipped.behind))

one_o_clock : Skips (pos 3600000000000) → ⊥
one_o_clock skipped = absurd (omega (arith, ints, skipped.ahead))

no_hour : pos 0 ≡ pos 3600 → ⊥
no_hour e = cc

-- the seconds beside it are not its second: by them one offset is in force before and after
a_second_later : IsSkippedBy jump (pos 1800000000000) (gap (pos 1) (pos 0) (pos 3600)) → ⊥
a_second_later skipped = no_hour skipped.before

a_second_earlier : IsSkippedBy jump (pos 1800000000000) (gap (negsuc 0) (pos 0) (pos 3600)) → ⊥
a_second_earlier skipped = no_hour (sym skipped.after)

-- nor are its offsets to be told the other way round
the_other_way : IsSkippedBy jump (pos 1800000000000) (gap (pos 0) (pos 3600) (pos 0)) → ⊥
the_other_way skipped = no_hour skipped.after
