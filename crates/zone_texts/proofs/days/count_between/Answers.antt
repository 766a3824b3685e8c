use Rattle.std.proofs.{Common.{◌≡◌, ◌+◌, ◌/◌, ◌<◌, false, cond, ℤ, pos, ◌-ℤ◌, ◌<ℤ◌, ◌≤ℤ◌, int_lt, unsigned_abs, to_z, of_z, FitsSigned, w32, w64, rules, ap, sym, ◌∙◌, arith}, Math.Nat.{div-le_self}}
use Rattle.basics.specs.{ComparisonLaws.{lt_fail, lt_from_fail}, SignedLaws.{natural, signed_casts}}
use Rattle.civil_base.specs.Julian.{julian_of}
use Rattle.zone_texts.specs.Days.{last_of}
use Rattle.zone_texts.proofs.days.count_between.Goals as goal

-- the distance that the code computes is that of the days
distance : (first last j f l : ℤ) → FitsSigned w32 j → j ≡ julian_of first → f ≡ to_z w32 (of_z w32 j) → FitsSigned w64 l → l ≡ julian_of last
    → l <ℤ pos 2147483648 → int_lt (to_z w64 (of_z w64 l)) (to_z w64 (of_z w64 f)) ≡ false
    → to_z w64 (of_z w64 (to_z w64 (of_z w64 l) -ℤ to_z w64 (of_z w64 f))) ≡ last -ℤ first
distance first last j f l fits julian begin wide end bound later = omega (arith, signed_casts)

order : (first last j f l : ℤ) → FitsSigned w32 j → j ≡ julian_of first → f ≡ to_z w32 (of_z w32 j) → FitsSigned w64 l → l ≡ julian_of last
    → int_lt (to_z w64 (of_z w64 l)) (to_z w64 (of_z w64 f)) ≡ false → int_lt last first ≡ false
order first last j f l fits julian begin wide end later = lt_fail last first (omega (arith, signed_casts))

near : (first last j l : ℤ) → FitsSigned w32 j → j ≡ julian_of first → l ≡ julian_of last → l <ℤ pos 2147483648 → first ≤ℤ last
    → unsigned_abs (last -ℤ first) < 4294967296
near first last j l fits julian end bound later =
    let whole : last -ℤ first ≡ pos (unsigned_abs (last -ℤ first)) = natural (last -ℤ first) (omega (arith, signed_casts)) in
    omega (arith, signed_casts, whole)

pub returns : goal.returns
returns c =
    let first = c.args.first in
    let last = last_of c.args.until c.args.step in
    let fits : FitsSigned w32 c.to_julian_day.result = search rules in
    let wide : FitsSigned w64 c.last_of-last.result = search rules in
    let far = distance first last c.to_julian_day.result c.from-first.result c.last_of-last.result fits c.to_julian_day.ensures c.from-first.ensures wide
    c.last_of-last.ensures.value c.last_of-last.ensures.bound c.if-last-first.false in
    let none = order first last c.to_julian_day.result c.from-first.result c.last_of-last.result fits c.to_julian_day.ensures c.from-first.ensures wide
    c.last_of-last.ensures.value c.if-last-first.false in
    let count = ap (λ d. unsigned_abs d / c.from.result + 1) far in
    let few = near first last c.to_julian_day.result c.last_of-last.result fits c.to_julian_day.ensures c.last_of-last.ensures.value
    c.last_of-last.ensures.bound (lt_from_fail last first none) in
    record {
      value = count ∙ ap (λ s. unsigned_abs (last -ℤ first) / s + 1) c.from.ensures
          ∙ sym (ap (λ b. cond b 0 (unsigned_abs (last -ℤ first) / c.args.step + 1)) none);
      bound = rw count (omega (arith, div-le_self (unsigned_abs (last -ℤ first)) c.from.result, few));
    }
