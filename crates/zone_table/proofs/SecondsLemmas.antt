-- Amounts of seconds that are small enough to add.
use Rattle.std.proofs.{Common.{ℤ, pos, neg_ℤ, ◌≤ℤ◌, arith, IsTrue}, lemmas.Grind.{common_steps}}
use Rattle.zone_table.specs.LineBounds.{are_small_seconds}

pub small_seconds : (seconds : ℤ) → IsTrue (are_small_seconds seconds) → (neg_ℤ (pos 1000000) ≤ℤ seconds) × (seconds ≤ℤ pos 1000000)
small_seconds seconds small = (grind (arith, common_steps), grind (arith, common_steps))
