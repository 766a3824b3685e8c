use Rattle.std.proofs.Common.{arith, ◌≡◌, ◌≤◌, ℕ, ◌/◌, ℤ, pos, ◌+ℤ◌, ◌-ℤ◌, to_z, of_z, w32, ◌∙◌}
use Rattle.basics.specs.SignedLaws.{signed_casts}
use Rattle.civil_base.specs.{Layout.{day_part}, Ranges.{IsDay}, PartLaws.{day_part-blocks, day_part-inside}, RangeLaws.{years_begin, years_end}}
use Rattle.civil_base.proofs.plain_date_time.PlainDateTime.date.Goals as goal

-- the day number that the code subtracts to
kept : (q : ℕ) (k : ℤ) → IsDay k → k +ℤ pos 4371587 ≡ pos q → to_z w32 (of_z w32 (to_z w32 q -ℤ pos 4371587)) ≡ k
kept q k h e = omega (arith, signed_casts)

pub returns-clause-value : goal.returns-clause-value
returns-clause-value c =
    let x = c.args.self in
    let blocks = c.blocks-blocks in
    let at = day_part-blocks x blocks.result.0 blocks.result.1 blocks.ensures.sum blocks.ensures.rest in
    c.at_day.ensures ∙ kept (blocks.result.0 / 1318359375) (day_part x) (day_part-inside x blocks.ensures.years) at

-- the days of the years, counted from the first of them
few_days : (c : goal.After-blocks-blocks) → c.blocks-blocks.result.0 / 1318359375 ≤ 7304850
few_days c =
    let x = c.args.self in
    let blocks = c.blocks-blocks.ensures in
    omega (arith, signed_casts, blocks.sum, years_begin x blocks.years, years_end x blocks.years)

pub overflow_cast-blocks : goal.overflow_cast-blocks
overflow_cast-blocks c = omega (arith, signed_casts, few_days c)

pub overflow_sub-blocks : goal.overflow_sub-blocks
overflow_sub-blocks c = omega (arith, signed_casts, few_days c)

pub at_day-requires : goal.at_day-requires
at_day-requires c =
    let x = c.args.self in
    let blocks = c.blocks-blocks in
    let at = day_part-blocks x blocks.result.0 blocks.result.1 blocks.ensures.sum blocks.ensures.rest in
    let inside = day_part-inside x blocks.ensures.years in
    rw (kept (blocks.result.0 / 1318359375) (day_part x) inside at) inside
