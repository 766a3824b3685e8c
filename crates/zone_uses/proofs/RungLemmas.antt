-- The instants of rings, as the code has them and as they are shown.
use Rattle.std.{proofs.Common.{◌≡◌, ℤ, List, [], ◌∷◌, map, filter_map, Option, Some, None, option_map, refl, ap}, specs.List.{cons_option}}
use Rattle.civil_base.specs.declared.offset_date_time.OffsetDateTime.{OffsetDateTime}
use Rattle.tz_lookup.specs.InForce.{shown_of}
use Rattle.zone_alarm.specs.{Shown.{ring_shown}, declared.ring.Ring.{Ring}}

one_shown : (at : Option OffsetDateTime) (found : List OffsetDateTime) (shown : List (ℤ × ℤ)) → map shown_of found ≡ shown
    → map shown_of (cons_option at found) ≡ cons_option (option_map shown_of at) shown
one_shown None found shown h = h
one_shown (Some time) found shown h = ap (λ rest. shown_of time ∷ rest) h

pub rung_shown : (rings : List Ring) → map shown_of (filter_map (λ ring. ring.at) rings) ≡ filter_map (λ shown. shown.1) (map ring_shown rings)
rung_shown [] = refl
rung_shown (ring ∷ rings) = one_shown ring.at (filter_map (λ ring. ring.at) rings) _ (rung_shown rings)
