-- A day in Berlin, and what may be one of it.
use Rattle.std.proofs.Common.{◌≡◌, ℕ, true, false, List, [], ◌∷◌, map, ℤ, pos, negsuc, refl, arith}
use Rattle.std.specs.{Prelude.{codes}}
use Rattle.basics.specs.SignedLaws.{signed}
use Rattle.civil_base.specs.{Clock.{hour_of, minute_of, nanosecond_of, second_of}, Layout.{day_part, time_text}}
use Rattle.zone_answers.specs.{Due.{answer_line}, Found.{Found}, Requests.{at, local}, SameDays.{IsOnDay, IsSameDay, are_alike, ends_in_digits, has_day, is_near, is_of, last_instant, with_last}, declared.same_day.SameDay.{SameDay}}

front : List ℕ
front = codes "at Europe/Berlin 17054"

-- the numbers of the 16th of January 2024 with that front, from 11:13:20 on
abbrev berlin : SameDay
berlin = record { from = 0; until = 46000000000000; begins = 40400000000000; line = codes "2024-01-16 12:00:00.000000000 +01:00:00" }

-- the first and the last of them
module _ (names : List ℕ → Found) (is : IsSameDay names last_instant (codes "at Europe/Berlin 17054") berlin) where
  first : answer_line names (codes "at Europe/Berlin 1705400000000000000") ≡ codes "2024-01-16 11:13:20.000000000 +01:00:00"
  unfolding time_text hour_of minute_of second_of nanosecond_of
  first = (is.each (codes "00000000000000") (record { count = refl; digits = refl }) (omega arith) (omega arith)).line

  last : answer_line names (codes "at Europe/Berlin 1705445999999999999") ≡ codes "2024-01-16 23:59:59.999999999 +01:00:00"
  unfolding time_text hour_of minute_of second_of nanosecond_of
  last = (is.each (codes "45999999999999") (record { count = refl; digits = refl }) (omega arith) (omega arith)).line

ones_of_it : map (is_of berlin (codes "at Europe/Berlin 1705440000000000000"))
    (codes "at Europe/Berlin 1705400000000000000" ∷ codes "at Europe/Berlin 1705445999999999999" ∷ codes "at Europe/Berlin 1705446000000000000"
    ∷ codes "at Europe/Berlin 1705300000000000000" ∷ codes "at Europe/Berlin 170540000000000000" ∷ codes "at Europe/Berlin 17054000000000000000"
    ∷ codes "at Europe/Berlin 1705400000000000 00" ∷ codes "at Europe/Berlin 17054-0000000000000" ∷ codes "at Europe/London 1705400000000000000" ∷ [])
    ≡ true ∷ true ∷ false ∷ false ∷ false ∷ false ∷ false ∷ false ∷ false ∷ []
unfolding is_of are_alike
ones_of_it = refl

-- the first byte in front of the last digits counts, and there has to be one
alike : map (are_alike (codes "a00000000000000")) (codes "a1111111111111x" ∷ codes "b00000000000000" ∷ codes "a0000000000000" ∷ [])
    ≡ true ∷ false ∷ false ∷ []
unfolding are_alike
alike = refl

too_short : are_alike (codes "00000000000000") (codes "00000000000000") ≡ false
unfolding are_alike
too_short = refl

text : List ℕ
text = codes "at Europe/Berlin 1705440000000000000"

shown : List ℕ
shown = codes "2024-01-16 12:00:00.000000000 +01:00:00"

days : map (λ instant. has_day last_instant (at (codes "A") instant) shown)
    (negsuc 0 ∷ pos 99999999999999 ∷ pos 100000000000000 ∷ pos 6999999999999999999 ∷ pos 7000000000000000000 ∷ [])
    ≡ false ∷ false ∷ true ∷ true ∷ false ∷ []
unfolding is_near shown
days = refl

no_days : has_day last_instant (at (codes "A") (pos 100000000000000)) (codes "-2024-01-16 12:00:00.000000000 +01:00:00")
    ∷ has_day last_instant (local (codes "A") (pos 100000000000000)) shown ∷ []
    ≡ false ∷ false ∷ []
unfolding is_near shown
no_days = refl

ends : map ends_in_digits (text ∷ codes "a40000000000000" ∷ codes "40000000000000" ∷ codes "at A 1705440000000000 00" ∷ codes "at A 1705440000000000000 " ∷ [])
    ≡ true ∷ true ∷ false ∷ false ∷ false ∷ []
unfolding ends_in_digits text
ends = refl

-- what the request's instant is with the digits of others in place of its own
instants : map (with_last (pos 1705440000000000000) text)
    (codes "at Europe/Berlin 1705400000000000000" ∷ text ∷ codes "at Europe/Berlin 1705499999999999999" ∷ [])
    ≡ pos 1705400000000000000 ∷ pos 1705440000000000000 ∷ pos 1705499999999999999 ∷ []
unfolding text
instants = refl

-- its day is that from 2024-01-15 23:00 UTC up to 2024-01-16 23:00 UTC
IsThere : ℤ → Type 0
IsThere = IsOnDay (λ _. pos 1698541200) (λ _. pos 1711846800) (λ _. pos 3600) last_instant (pos 1705440000000000000)

first_there : IsThere (pos 1705359600000000000)
unfolding IsThere day_part
first_there = record { begun = omega (arith, signed); lasts = omega (arith, signed); day = refl; early = omega (arith, signed) }

last_there : IsThere (pos 1705445999999999999)
unfolding IsThere day_part
last_there = record { begun = omega (arith, signed); lasts = omega (arith, signed); day = refl; early = omega (arith, signed) }

none_before : IsThere (pos 1705359599999999999) → ⊥
unfolding IsThere day_part
none_before there = omega (arith, signed, there.day)

none_past : IsThere (pos 1705446000000000000) → ⊥
unfolding IsThere day_part
none_past there = omega (arith, signed, there.day)

-- and nothing past the latest, or outside the seconds around it
none_late : IsOnDay (λ _. pos 1698541200) (λ _. pos 1711846800) (λ _. pos 3600) 1705440000000000001 (pos 1705440000000000000) (pos 1705440000000000001) → ⊥
none_late there = omega (arith, signed, there.early)

none_sooner : IsOnDay (λ _. pos 1705440000) (λ _. pos 1711846800) (λ _. pos 3600) last_instant (pos 1705440000000000000) (pos 1705439999999999999) → ⊥
none_sooner there = omega (arith, signed, there.begun)

none_later : IsOnDay (λ _. pos 1698541200) (λ _. pos 1705440001) (λ _. pos 3600) last_instant (pos 1705440000000000000) (pos 1705440001000000000) → ⊥
none_later there = omega (arith, signed, there.lasts)
