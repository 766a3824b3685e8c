-- The order of numbers, and any rule.
use Rattle.std.proofs.{Common.{◌≡◌, Bool, true, false, cond, None, ℤ, arith, int_lt, int_cmp, is_lt, Less, Equal, Greater, pos, refl}, lemmas.Int.{ints}}
use Rattle.zone_table.specs.{declared.{day.DaySpec.TheVariants.{Ordinal}, month.Month.TheVariants.{January}, time.TimeType.TheVariants.{Wall}, year.Year.TheVariants.{Minimum}}, declared.rule.RuleInfo.{RuleInfo}}

pub int_lt_one_way : (a b : ℤ) → int_lt a b ≡ true → int_lt b a ≡ false
int_lt_one_way a b h = grind (arith, ints)

pub int_lt_chain : (a b c : ℤ) → int_lt a b ≡ false → int_lt b c ≡ false → int_lt a c ≡ false
int_lt_chain a b c h k = grind (arith, ints)

-- std's comparison begins with the test of order
pub less_is : (a b : ℤ) → is_lt (int_cmp a b) ≡ int_lt a b
less_is a b = by_tests (int_lt a b) (int_lt b a)
  where
    by_tests : (p q : Bool) → is_lt (cond p Less (cond q Greater Equal)) ≡ p
    by_tests true q = refl
    by_tests false true = refl
    by_tests false false = refl

-- any rule
abbrev pub some_rule : RuleInfo
some_rule = record {
  from_year = Minimum;
  to_year = None;
  month = January;
  day = Ordinal (pos 1);
  time = pos 0;
  time_type = Wall;
  time_to_add = pos 0;
  letters = None;
}
