use Rattle.std.proofs.{Common.{◌≡◌, ◌≤◌, ◌≤ℤ◌, ℕ, ℤ, neg_ℤ, Bool, true, false, arith, ap, ◌∙◌, cond, nat_le, ◌&&◌, ◌-◌, pos, ◌+ℤ◌, w32, to_z, of_z, to_z-of_z}, lemmas.Bool.{and_parts, leb-true}}
use Rattle.basics.specs.{Days.{day, is_leap}, SignedLaws.{signed_casts}}
use Rattle.tz_posix.specs.{Days.{julian_day}, DayLaws.{julian_day-is, julian_day-inside}}
use Rattle.tz_posix.proofs.date.julian_day.Goals as goal

first_day : (c : goal.After-from) → c.day_number.result ≡ day c.args.year 1 1
first_day c = rw (to_z-of_z c.ranges.year) at c.day_number.ensures.value

days_before : (c : goal.After-from) → c.from.result ≡ pos (cond (nat_le 60 c.args.n && is_leap c.args.year) c.args.n (c.args.n - 1))
days_before c = c.from.ensures ∙ ap pos (rw (to_z-of_z c.ranges.year) at c.days_before_julian.ensures)

bounds : (c : goal.After-from) → (1 ≤ c.args.n) × (c.args.n ≤ 365)
bounds c =
    let both = and_parts _ _ c.requires.date in
    (leb-true _ _ both.0, leb-true _ _ both.1)

sum_is : (c : goal.After-from) → to_z w32 (of_z w32 (to_z w32 (of_z w32 c.day_number.result) +ℤ to_z w32 (of_z w32 c.from.result)))
    ≡ julian_day c.args.year c.args.n
sum_is c =
    let range = bounds c in
    let first = first_day c in
    let before = days_before c in
    let is = julian_day-is c.args.year c.args.n c.requires.year range.0 range.1 in
    omega (arith, signed_casts, c.day_number.ensures.least, c.day_number.ensures.greatest, c.days_before_julian.ensures)

few : (b : Bool) (n : ℕ) → n ≤ 365 → cond b n (n - 1) ≤ 365
few true n h = h
few false n h = omega (arith, h)

record IsNear (z : ℤ) : Type 0 where
  least : neg_ℤ (pos 5000000) ≤ℤ z
  greatest : z ≤ℤ pos 5000000

near : (c : goal.After-from) → IsNear (to_z w32 (of_z w32 (to_z w32 (of_z w32 c.day_number.result) +ℤ to_z w32 (of_z w32 c.from.result))))
near c =
    let before = days_before c in
    let small = few (nat_le 60 c.args.n && is_leap c.args.year) c.args.n (bounds c).1 in
    record {
      least = omega (arith, signed_casts, c.day_number.ensures.least, c.day_number.ensures.greatest, before, small);
      greatest = omega (arith, signed_casts, c.day_number.ensures.least, c.day_number.ensures.greatest, before, small);
    }

pub returns : goal.returns
returns c =
    let range = bounds c in
    let is_near = near c in
    record {
      value = sum_is c;
      inside = λ year. rw (sum_is c) (julian_day-inside c.args.year c.args.n year range.0 range.1);
      least = is_near.least;
      greatest = is_near.greatest;
    }
