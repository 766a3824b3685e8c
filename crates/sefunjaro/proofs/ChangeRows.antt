-- Worked examples: the changes of a small zone, of which two entries lie at one second, what they change, and the saving in force.
use Rattle.std.{proofs.Common.{◌≡◌, ℕ, ℤ, Bool, true, false, pos, negsuc, [], ◌∷◌, map, refl}, specs.Prelude.{Some, None, codes}}
use Rattle.tz_lookup.specs.declared.set.FixedTimespanSet.{FixedTimespanSet}
use Rattle.sefunjaro.specs.{Changes.{changes_of, next_after, saving_at, settled_changes, span_before, window}, declared.changes.Change.{Change}}
use Rattle.sefunjaro.proofs.RowSets.{span, with}

-- Winter time with a saving below 0 until second 10, then summer time with a saving; at second 20 a new standard offset. At 30 the
-- abbreviation alone is another, at 40 nothing is, and at 50 one entry ends the saving and another begins it again.
abbrev zone : FixedTimespanSet
zone = with (span (pos 3600) (negsuc 3599) (codes "A"))
    ((pos 10, span (pos 3600) (pos 1800) (codes "BC")) ∷ (pos 20, span (pos 3600) (pos 0) (codes "BC")) ∷ (pos 20, span (pos 7200) (pos 60) (codes "BC"))
    ∷ (pos 30, span (pos 7200) (pos 60) (codes "DEF")) ∷ (pos 40, span (pos 7200) (pos 60) (codes "DEF"))
    ∷ (pos 50, span (pos 7200) (pos 0) (codes "DEF")) ∷ (pos 50, span (pos 7200) (pos 60) (codes "DEF")) ∷ [])

abbrev change : ℤ → ℤ → ℤ → ℕ → Bool → Change
change second offset saving length differs =
    record { second = second; offset = offset; saving = saving; name_length = length; differs = differs }

abbrev at_ten : Change
at_ten = change (pos 10) (pos 5400) (pos 1800) 2 true

abbrev at_twenty : Change
at_twenty = change (pos 20) (pos 7260) (pos 60) 2 true

abbrev at_thirty : Change
at_thirty = change (pos 30) (pos 7260) (pos 60) 3 true

abbrev at_forty : Change
at_forty = change (pos 40) (pos 7260) (pos 60) 3 false

abbrev at_fifty : Change
at_fifty = change (pos 50) (pos 7260) (pos 60) 3 false

-- of the entries at one second the last is in force, and what it differs from is what was in force before them
all_changes : changes_of zone ≡ at_ten ∷ at_twenty ∷ at_thirty ∷ at_forty ∷ at_fifty ∷ []
unfolding settled_changes span_before
all_changes = refl

-- where the standard offset falls by what the saving rises, the offset stays, and the change differs by its saving
abbrev shifted : FixedTimespanSet
shifted = with (span (pos 7200) (pos 0) []) ((pos 10, span (pos 3600) (pos 3600) []) ∷ [])

by_saving_alone : changes_of shifted ≡ change (pos 10) (pos 7200) (pos 3600) 0 true ∷ []
unfolding settled_changes span_before
by_saving_alone = refl

-- a window has its first second, and not the one at its end; none goes backwards
windows : window zone (pos 10) (pos 30) ∷ window zone (pos 11) (pos 31) ∷ window zone (pos 30) (pos 10) ∷ []
    ≡ (at_ten ∷ at_twenty ∷ []) ∷ (at_twenty ∷ at_thirty ∷ []) ∷ [] ∷ []
unfolding settled_changes window span_before
windows = refl

-- the next change lies after the second, and not at it
next_changes : map (next_after zone) (pos 9 ∷ pos 10 ∷ pos 50 ∷ []) ≡ Some at_ten ∷ Some at_twenty ∷ None ∷ []
unfolding settled_changes next_after span_before
next_changes = refl

-- the saving from its second on, below 0 before all changes, of the later of two entries at one second, and for good
savings : map (saving_at zone) (pos 9 ∷ pos 10 ∷ pos 20 ∷ pos 1000 ∷ []) ≡ negsuc 3599 ∷ pos 1800 ∷ pos 60 ∷ pos 60 ∷ []
unfolding saving_at
savings = refl
