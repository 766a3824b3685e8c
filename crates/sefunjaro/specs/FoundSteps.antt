-- One of so many readings, of which the first two are given; and the only one by what is known of a zone.
use Rattle.std.specs.Prelude.{ℕ, ℤ, nat_lt, if◌then◌else◌}
use Rattle.tz_lookup.specs.{declared.stretch.Stretch.{Stretch}, Stretches.{IsKnown}}
use Rattle.sefunjaro.specs.{Found.{found_of, IsFound}, declared.found.FoldRule.{FoldRule}, declared.found.FoldRule.TheVariants.{First, Second}, declared.found.Found.{Found}, declared.found.GapRule.{GapRule}, declared.zone.Reading.{Reading}}
use Rattle.sefunjaro.specs.Steadiness.{IsSteady}

-- the second only where the rule says so and there is one
abbrev pub taken : FoldRule → ℕ → Reading → Reading → Reading
taken First count first second = first
taken Second count first second = if nat_lt count 2 then first else second

abbrev pub by_count : FoldRule → ℕ → Reading → Reading → Found
by_count fold count first second = found_of (taken fold count first second) count

-- whatever the rules, this is found of the local time x in each zone that has this total in force throughout these seconds
abbrev pub IsOnly : Stretch → ℤ → Found → Type 0
IsOnly known x found = (total : ℤ → ℤ) (fold : FoldRule) (gap : GapRule) → IsSteady total → IsKnown total known → IsFound total fold gap x found
