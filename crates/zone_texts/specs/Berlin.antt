-- Berlin in 2024, for rows here and in the crates above: summer time from 2024-03-31 01:00 UTC up to 2024-10-27 01:00 UTC.
use Rattle.std.specs.{Prelude.{ℤ, pos, List, [], ◌∷◌, ◌&&◌, ◌+ℤ◌, ◌-ℤ◌, ◌*ℤ◌, codes, int_le, int_lt, if◌then◌else◌}, List.{filter}, Ordering.{int_eq}}
use Rattle.civil_base.specs.Instants.{seconds_of}
use Rattle.zone_texts.specs.Views.{InForce, ZoneView}

unfoldable pub winter : InForce
winter = record { offset = pos 3600; saving = pos 0; name = codes "CET" }

unfoldable pub summer : InForce
summer = record { offset = pos 7200; saving = pos 3600; name = codes "CEST" }

unfoldable pub in_force : ℤ → InForce
in_force s = if int_le (pos 1711846800) s && int_lt s (pos 1729990800) then summer else winter

unfoldable pub total_in : ℤ → ℤ
total_in t = (in_force (seconds_of t)).offset

unfoldable pub instants_in : ℤ → List ℤ
instants_in x = filter (λ t. int_eq (t +ℤ pos 1000000000 *ℤ total_in t) x) ((x -ℤ pos 7200000000000) ∷ (x -ℤ pos 3600000000000) ∷ [])

unfoldable pub changes_in : ℤ → ℤ → List ℤ
changes_in from to = filter (λ s. int_le from s && int_lt s to) (pos 1711846800 ∷ pos 1729990800 ∷ [])

unfoldable pub berlin_to : ℤ → ZoneView
berlin_to last = record { total = total_in; readings = instants_in; force = in_force; changes = changes_in; last_year = last }
