-- The seconds of a stretch, and the instants in them.
use Rattle.std.proofs.{Common.{◌≡◌, ◌∙◌, ℤ, ◌≤ℤ◌, ◌<ℤ◌, arith}, lemmas.Int.{ints}}
use Rattle.civil_base.specs.Instants.{nanos_of, seconds_of}
use Rattle.tz_lookup.specs.{SecondLaws.{IsSecond, second_is}, Stretches.{IsKnown}, declared.stretch.Stretch.{Stretch}}
use Rattle.zone_answers.specs.SameDays.{IsThroughout}

begun : (a t s : ℤ) → IsSecond t s → nanos_of a ≤ℤ t → a ≤ℤ s
begun a t s is l = omega (arith, ints, is.low, is.high, l)

lasts : (a t s : ℤ) → IsSecond t s → t <ℤ nanos_of a → s <ℤ a
lasts a t s is l = omega (arith, ints, is.low, is.high, l)

-- where one total holds throughout each second, that of a stretch's seconds is that of all instants in them
pub in_seconds : (total : ℤ → ℤ) (stretch : Stretch) → ((t : ℤ) → total t ≡ total (nanos_of (seconds_of t))) → IsKnown total stretch
    → IsThroughout total stretch
in_seconds total stretch whole known t low high =
    whole t ∙ known (seconds_of t) (begun stretch.from t (seconds_of t) (second_is t) low) (lasts stretch.until t (seconds_of t) (second_is t) high)
