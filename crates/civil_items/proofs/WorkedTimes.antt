-- The definitions evaluated where the answers are known from outside: units and system times.
use Rattle.std.proofs.Common.{◌≡◌, refl, [], ◌∷◌, true, false, pos, neg_ℤ}
use Rattle.civil_items.specs.{Lengths.{fits_seconds, fits_std_seconds, minute, hour, day, week}, SysTimes.{is_sys_time, length_of}}

worked_units : minute ∷ hour ∷ day ∷ week ∷ [] ≡ 60 ∷ 3600 ∷ 86400 ∷ 604800 ∷ []
worked_units = refl

-- the last minutes and weeks whose seconds fit, and the ends themselves
worked_fits : fits_seconds (pos 153722867280912930) minute ∷ fits_seconds (pos 153722867280912931) minute
    ∷ fits_seconds (neg_ℤ (pos 15250284452471)) week ∷ fits_seconds (neg_ℤ (pos 15250284452472)) week
    ∷ fits_seconds (neg_ℤ (pos 9223372036854775808)) 1 ∷ fits_seconds (neg_ℤ (pos 9223372036854775809)) 1
    ∷ fits_seconds (pos 9223372036854775807) 1 ∷ fits_seconds (pos 9223372036854775808) 1 ∷ []
    ≡ true ∷ false ∷ true ∷ false ∷ true ∷ false ∷ true ∷ false ∷ []
worked_fits = refl

worked_std_fits : fits_std_seconds 307445734561825860 minute ∷ fits_std_seconds 307445734561825861 minute
    ∷ fits_std_seconds 18446744073709551615 1 ∷ fits_std_seconds 18446744073709551616 1 ∷ [] ≡ true ∷ false ∷ true ∷ false ∷ []
worked_std_fits = refl

-- seconds from -2^63 to 2^63 - 1, each with its nanoseconds
worked_sys_times : is_sys_time (neg_ℤ (pos 9223372036854775808000000000)) ∷ is_sys_time (neg_ℤ (pos 9223372036854775808000000001))
    ∷ is_sys_time (pos 9223372036854775807999999999) ∷ is_sys_time (pos 9223372036854775808000000000) ∷ []
    ≡ true ∷ false ∷ true ∷ false ∷ []
worked_sys_times = refl

-- a distance of 2^63 seconds is not near, on either side
worked_lengths : length_of (neg_ℤ (pos 5)) ∷ length_of (pos 9223372036854775807999999999) ∷ length_of (pos 9223372036854775808000000000)
    ∷ length_of (neg_ℤ (pos 9223372036854775807999999999)) ∷ length_of (neg_ℤ (pos 9223372036854775808000000000)) ∷ []
    ≡ neg_ℤ (pos 5) ∷ pos 9223372036854775807999999999 ∷ pos 9223372036854775807999999999
    ∷ neg_ℤ (pos 9223372036854775807999999999) ∷ neg_ℤ (pos 9223372036854775808999999999) ∷ []
unfolding length_of
worked_lengths = refl
