use borrow.Author.Rules.{to_z-of_z_to}
use Rattle.std.proofs.{Common.{◌≡◌, ℤ, ◌-◌, ◌≤ℤ◌, w64, arith, rules, int_lt, true, false}, lemmas.Int.{ints}}
use Rattle.tz_lookup.{specs.Sets.{shifts_of}, proofs.SetLemmas.{count_same, no_fall_more}}
use Rattle.tz_lookup.proofs.set.times_do_not_fall.Goals as goal

le_from : (x y a b : ℤ) → x ≡ a → y ≡ b → int_lt x y ≡ false → b ≤ℤ a
le_from x y a b e f h = grind (arith, ints)

fell : (x y a b : ℤ) → x ≡ a → y ≡ b → int_lt x y ≡ true → b ≤ℤ a → ⊥
fell x y a b e f h k = grind (arith, ints)

pub returns-then-time : goal.returns-then-time
returns-then-time c =
    let i = c.loop-i.i in
    let a = to_z-of_z_to w64 c.time.result _ (search rules) c.time.ensures in
    let b = to_z-of_z_to w64 c.time-in-loop-i.result _ (search rules) c.time-in-loop-i.ensures in
    let count = count_same c.args.set.now in (
      (λ no. absurd (cc)),
      (λ h. absurd (fell _ _ _ _ a b c.if-time.true
          (h (i - 1) i (omega arith) (omega (arith, count, c.entry_count-i-end.ensures.count))))),
    )

pub loop-i-preserved : goal.loop-i-preserved
loop-i-preserved c =
    let i = c.loop-i.i in
    let a = to_z-of_z_to w64 c.time.result _ (search rules) c.time.ensures in
    let b = to_z-of_z_to w64 c.time-in-loop-i.result _ (search rules) c.time-in-loop-i.ensures in
    no_fall_more (shifts_of c.args.set.now) (i - 1) i (omega arith) c.loop-i.invariant (le_from _ _ _ _ a b c.if-time.false)
