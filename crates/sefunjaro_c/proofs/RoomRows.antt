-- Worked examples: what is told where there is too little room, a nanosecond too much, and the version. A name goes as far as it fits, and
-- its whole length is told, not the room's; of a list it is how many there are, whatever the room.
use Rattle.std.{proofs.Common.{◌≡◌, ℕ, ℤ, pos, List, [], ◌∷◌, length, refl, ◌∙◌, arith}, specs.Prelude.{Some, codes}}
use Rattle.tz_lookup.specs.InForce.{all_in_force}
use Rattle.sefunjaro.specs.{Answered.{AreReadings}, Changes.{window}, Clocks.{IsClock}, Rooms.{filled}, Zones.{spans_in}, declared.zone.Reading.{Reading}, declared.changes.Change.{Change}, declared.clock.Clock.{Clock}, declared.gap.Gap.{Gap}}
use Rattle.sefunjaro.specs.declared.zone.OpenZone.{OpenZone}
use Rattle.sefunjaro_c.specs.{Changes.{AreChanges}, Names.{IsNameAt}, Version.{rule_years, version}}

-- thirteen bytes where there is room for four
abbrev cut_to : ℕ → Type 0
cut_to told = IsNameAt (Some (codes "Europe/Monaco")) 0 (codes "....") (codes "Euro") told

whole_name : cut_to 13
unfolding filled
whole_name = (refl, (refl, refl))

no_four : ◌≡◌ {A = ℕ} 4 13 → ⊥
no_four h = cc

not_capped : cut_to 4 → ⊥
not_capped h = no_four h.1.1

-- nothing is written where there is no room, and nothing past what there is to write
no_room : IsNameAt (Some (codes "Europe/Monaco")) 0 [] [] 13
unfolding filled
no_room = (refl, (refl, refl))

much_room : IsNameAt (Some (codes "CET")) 0 (codes ".....") (codes "CET..") 3
unfolding filled
much_room = (refl, (refl, refl))

counted_changes : (zone : OpenZone) (from to : ℤ) (old new : List Change) (count : ℕ) → length (window (spans_in zone) from to) ≡ 151
    → AreChanges zone from to 0 old new count → count ≡ 151
counted_changes zone from to old new count many told = told.1.1 ∙ many

counted_readings : (total : ℤ → ℤ) (x : ℤ) (new : List Reading) (count : ℕ) (gap : Gap) → length (all_in_force total x) ≡ 2
    → AreReadings total x [] new count gap → count ≡ 2
counted_readings total x new count gap two told = told.all ∙ two

-- a clock shows no more nanoseconds than a second has
abbrev noon : ℕ → Clock
noon nanosecond = record { year = pos 2024; month = 1; day = 1; hour = 12; minute = 0; second = 0; nanosecond = nanosecond }

no_clock : IsClock (noon 1000000000) → ⊥
no_clock h = absurd (omega (arith, h.time.nanoseconds))

-- `2.0.0`, and the years that rules are worked out for
the_version : version ≡ 50 ∷ 46 ∷ 48 ∷ 46 ∷ 48 ∷ []
the_version = refl

the_years : rule_years ≡ record { first = pos 1800; last = pos 2099 }
the_years = refl
