-- A worked example: what replies see of a small zone.
use Rattle.std.{proofs.Common.{◌≡◌, ℤ, List, pos, negsuc, [], ◌∷◌, ℕ, map, refl}, specs.Prelude.{codes}}
use Rattle.tz_ever.specs.declared.recurrence.Recurrence.TheVariants.{Never}
use Rattle.zone_texts.specs.Views.{InForce}
use Rattle.tz_lookup.specs.declared.set.FixedTimespanSet.{FixedTimespanSet}
use Rattle.sefunjaro.specs.{Changes.{settled_changes, span_before, window}, Replies.{reply_view, span_on}, declared.zone.Origin.TheVariants.{Source}}
use Rattle.sefunjaro.proofs.RowSets.{span, with}

-- a saving from second 10 on, an entry that changes nothing, and two entries at one second, of which the last is in force
abbrev zone : FixedTimespanSet
zone = with (span (pos 3600) (pos 0) (codes "A")) ((pos 10, span (pos 3600) (pos 1800) (codes "B")) ∷ (pos 20, span (pos 3600) (pos 1800) (codes "B"))
    ∷ (pos 30, span (pos 0) (pos 0) (codes "C")) ∷ (pos 30, span (pos 7200) (negsuc 59) (codes "D")) ∷ [])

abbrev force : ℤ → ℤ → List ℕ → InForce
force offset saving name = record { offset = offset; saving = saving; name = name }

forces : map (reply_view Source Never zone).force (pos 9 ∷ pos 10 ∷ pos 29 ∷ pos 30 ∷ [])
    ≡ force (pos 3600) (pos 0) (codes "A") ∷ force (pos 5400) (pos 1800) (codes "B") ∷ force (pos 5400) (pos 1800) (codes "B")
    ∷ force (pos 7140) (negsuc 59) (codes "D") ∷ []
unfolding span_on
forces = refl

-- from the first second on and before the last, without what changes nothing
changes : (reply_view Source Never zone).changes (pos 10) (pos 31) ∷ (reply_view Source Never zone).changes (pos 11) (pos 30) ∷ [] ≡ (pos 10 ∷ pos 30 ∷ []) ∷ [] ∷ []
unfolding settled_changes span_before window
changes = refl

last : (reply_view Source Never zone).last_year ≡ pos 2099
last = refl
