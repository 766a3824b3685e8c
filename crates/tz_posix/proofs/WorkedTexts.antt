-- What texts are read as, by hand. A text spells exactly what it is read as (`entry_found`, `entry_again`), so these rows hold `Spells` too.
use Rattle.std.proofs.Common.{◌≡◌, refl, ℕ, true, false, [], ◌∷◌, map, replicate, Option, Some, None, codes}
use Rattle.basics.specs.Numbers.{value_in}
use Rattle.tz_posix.specs.Reading.{number_at, part_at, clock_time_at, sign_at, offset_at, letters_at, enclosed_at, name_at, weekday_at, date_at, moment_at, rule_in, own_offset_at, own_rule_in, dst_in, short_in, expanded_in, entry_in}
use Rattle.tz_posix.specs.{Values.{short, expanded}, declared.date.Date.TheVariants.{J, M}, declared.time.Time.{Time}}

abbrev time : ℕ → Option ℕ → Option ℕ → Time
time hour minute second = record { hh = hour; mm = minute; ss = second }

-- a name in brackets is kept without them, and 16 letters are a name; each form of a date, and a time of each length
values : map (entry_in clock_time_at)
    (codes "<AB>0" ∷ codes ":<A/B>" ∷ codes ":ABCDEFGHIJKLMNOP" ∷ codes "AAA-1:2BBB+1,J60/3,M12.5.6/1:2:3" ∷ [])
    ≡ Some (expanded (record { name = codes "AB"; offset = record { positive = true; time = time 0 None None } }) None)
    ∷ Some (short (codes "A/B")) ∷ Some (short (codes "ABCDEFGHIJKLMNOP"))
    ∷ Some (expanded (record { name = codes "AAA"; offset = record { positive = false; time = time 1 (Some 2) None } }) (Some (record {
      name = codes "BBB";
      offset = Some (record { positive = true; time = time 1 None None });
      rule = Some (record { start = (J 60, Some (time 3 None None)); end = (M 12 5 6, Some (time 1 (Some 2) (Some 3))) });
    }))) ∷ []
unfolding
    value_in number_at part_at clock_time_at sign_at offset_at letters_at enclosed_at name_at weekday_at date_at moment_at
    rule_in own_offset_at own_rule_in dst_in short_in expanded_in entry_in
values = refl

-- two letters; a slash without brackets; text after the rule; a number past 8 bits; a time of a rule with a sign; 17 letters; brackets
-- around nothing, and around a bracket
no_values : map (entry_in clock_time_at)
    (codes "AB0" ∷ codes ":A/B" ∷ codes "AAA0BBB,0,1 " ∷ codes "AAA256" ∷ codes "AAA0BBB,0/-1,1" ∷ codes "AAA0BBB,0/+1,1"
    ∷ codes ":ABCDEFGHIJKLMNOPQ" ∷ codes ":<>" ∷ codes ":<A<B>" ∷ []) ≡ replicate 9 None
unfolding
    value_in number_at part_at clock_time_at sign_at offset_at letters_at enclosed_at name_at weekday_at date_at moment_at
    rule_in own_offset_at own_rule_in dst_in short_in expanded_in entry_in
no_values = refl
