-- What counts of bytes and of faults say, held to plain numbers.
use Rattle.std.proofs.Common.{◌≡◌, ◌↔◌, ℕ, ◌+◌, ◌*◌, ◌<◌, [], ◌∷◌, map, refl, arith}
use Rattle.zone_outside.specs.{Limit.{text_limit}, Outside.{last_count, raised, Rose, TooMuch}}

-- a count goes up to 2 ^ 64 - 1, and stays there
counts_stay_at_the_last : map (raised 18446744073709551614) (0 ∷ 1 ∷ 2 ∷ [])
    ≡ 18446744073709551614 ∷ 18446744073709551615 ∷ 18446744073709551615 ∷ []
counts_stay_at_the_last = refl

sixteen_mebibytes : text_limit ≡ 16 * 1024 * 1024
sixteen_mebibytes = refl

-- below its last value a count of given bytes tells too much exactly where it rose by more than the limit
too_much_is_more : (limit before now : ℕ) → now < last_count → TooMuch limit before now ↔ limit + before < now
too_much_is_more limit before now below = (λ much. grind (arith, below, much), λ more. grind (arith, more))

-- at its last value it always tells too much
too_much_at_the_last : (limit before : ℕ) → TooMuch limit before last_count
too_much_at_the_last limit before = grind (arith)

-- below its last value a count of faults rose exactly where it is greater than before
rose_is_greater : (before now : ℕ) → now < last_count → Rose before now ↔ before < now
rose_is_greater before now below = (λ rose. grind (arith, below, rose), λ greater. grind (arith, greater))
