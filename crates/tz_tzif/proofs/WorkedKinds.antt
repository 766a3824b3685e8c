-- What holds in a zone of two changes, by hand.
use Rattle.std.proofs.Common.{◌≡◌, refl, ℤ, pos, neg_ℤ, List, [], ◌∷◌, map, Some, None, true, false, codes}
use Rattle.civil_base.specs.Instants.{seconds_of}
use Rattle.tz_tzif.specs.{FooterForce.{fixed, held_at}, Faults.{are_small, IsNoFooter, IsTzifFault, SaysInFooter}, InForce.{kind_at, kind_in, told_total_at}}
use Rattle.tz_tzif.specs.declared.fault.TzifFault.TheVariants.{Times, Offset, Footer}
use Rattle.zone_tzif_core.specs.Zones.{KindValue, ZoneValue}

abbrev kind : ℤ → KindValue
kind o = record { utoff = o; is_dst = true; name = [] }

abbrev zone : ZoneValue
zone = record { first = kind (pos 1); rest = (pos 10, kind (pos 2)) ∷ (pos 20, kind (pos 3)) ∷ []; footer = [] }

abbrev unchanged : ZoneValue
unchanged = record { first = kind (pos 1); rest = []; footer = [] }

-- before the first change, at it, before the last, at it and after it
worked_kinds : map (λ s. (kind_in zone None s).utoff) (pos 9 ∷ pos 10 ∷ pos 19 ∷ pos 20 ∷ pos 99 ∷ [])
    ≡ pos 1 ∷ pos 2 ∷ pos 2 ∷ pos 3 ∷ pos 3 ∷ []
unfolding kind_in
worked_kinds = refl

-- a footer speaks from the last change on
worked_footer : map (λ s. (kind_in zone (Some (fixed (kind (pos 4)))) s).utoff) (pos 9 ∷ pos 10 ∷ pos 19 ∷ pos 20 ∷ pos 99 ∷ [])
    ≡ pos 1 ∷ pos 2 ∷ pos 2 ∷ pos 4 ∷ pos 4 ∷ []
unfolding kind_in held_at
worked_footer = refl

-- and always, where there is no change
worked_unchanged : map (λ s. (kind_in unchanged (Some (fixed (kind (pos 4)))) s).utoff) (pos 0 ∷ pos 9 ∷ []) ≡ pos 4 ∷ pos 4 ∷ []
unfolding kind_in held_at
worked_unchanged = refl

-- a zone of a first offset and of changes to others
abbrev changed : ℤ → List (ℤ × ℤ) → ZoneValue
changed first changes = record { first = kind first; rest = map (λ (change : ℤ × ℤ). (change.0, kind change.1)) changes; footer = codes "?" }

-- 25:59:59 to either side is small, and a second more is not, before the first change and after one
small_offsets : map are_small (changed (pos 93599) ((pos 1, neg_ℤ (pos 93599)) ∷ []) ∷ changed (pos 93600) [] ∷ changed (pos 0) ((pos 1, pos 0) ∷ (pos 2, pos 93600) ∷ [])
    ∷ changed (neg_ℤ (pos 93600)) [] ∷ changed (pos 0) ((pos 1, neg_ℤ (pos 93600)) ∷ []) ∷ [])
    ≡ true ∷ false ∷ false ∷ false ∷ false ∷ []
small_offsets = refl

-- times that don't rise come before an offset that is too far
first_cause : IsTzifFault (changed (pos 93600) ((pos 5, pos 0) ∷ (pos 5, pos 0) ∷ [])) Times × IsTzifFault (changed (pos 93600) ((pos 5, pos 0) ∷ (pos 6, pos 0) ∷ [])) Offset
first_cause = (refl, (refl, refl))

no_second_cause : IsTzifFault (changed (pos 93600) ((pos 5, pos 0) ∷ (pos 5, pos 0) ∷ [])) Offset → ⊥
no_second_cause fault = cc (fault.0)

-- an offset that is too far is told before a footer
no_footer_cause : IsTzifFault (changed (pos 93600) []) Footer → ⊥
no_footer_cause fault = cc (fault.0.1)

-- an empty footer is no fault, and only that says nothing
empty_footer : IsNoFooter [] → ⊥
empty_footer none = none.some refl

some_footer : SaysInFooter (codes "?") None → ⊥
some_footer says = cc (says)

-- an instant in nanoseconds counts by its second, rounded down, before 1970 too
worked_instants : map (told_total_at (record { first = kind (pos 1); rest = (neg_ℤ (pos 1), kind (pos 2)) ∷ []; footer = [] }) None)
    (neg_ℤ (pos 1000000001) ∷ neg_ℤ (pos 1000000000) ∷ neg_ℤ (pos 1) ∷ []) ≡ pos 1 ∷ pos 2 ∷ pos 2 ∷ []
unfolding kind_at kind_in seconds_of
worked_instants = refl
