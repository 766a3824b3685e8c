-- What a file says has times that rise and small offsets.
use Rattle.std.{proofs.Common.{◌≡◌, ℕ, zero, suc, Bool, true, ◌&&◌, List, ℤ, Some, refl, slice_get, subst}, specs.Prelude.{IfSome}, specs.List.{list_all}}
use Rattle.zone_tzif_core.specs.{Denotes.{AreKinds, AreShifts, Says, no_kind, a_kind, no_shift, a_shift, zone_file, old_file}, Zones.{KindValue, ZoneValue, is_small, rises}}
use Rattle.zone_tzif_core.proofs.laws.said_bounds.Goals as goal

-- each kind of a file is small
small_at : {names bytes : List ℕ} {kinds : List KindValue} → AreKinds names bytes kinds → (n : ℕ) (kind : KindValue)
    → slice_get kinds n ≡ Some kind → is_small kind.utoff ≡ true
small_at no_kind n kind e = cc
small_at (a_kind is others) zero kind e = subst (λ o. IfSome o (λ (k : KindValue). is_small k.utoff ≡ true)) e is.small
small_at (a_kind is others) (suc n) kind e = small_at others n kind e

both : (a b : Bool) → a ≡ true → b ≡ true → (a && b) ≡ true
both a b h k = λ i. h i && k i

-- and so are those of its changes
all_small : {size : ℕ} {time_of : List ℕ → ℤ} {kinds : List KindValue} {names records times numbers : List ℕ} {shifts : List (ℤ × KindValue)}
    → AreKinds names records kinds → AreShifts size time_of kinds times numbers shifts → list_all (λ change. is_small change.1.utoff) shifts ≡ true
all_small kinds no_shift = refl
all_small kinds (a_shift time {number = n} {kind = k} long at others) = both _ _ (small_at kinds n k at) (all_small kinds others)

abbrev smalls : ZoneValue → Bool
smalls value = is_small value.first.utoff && list_all (λ change. is_small change.1.utoff) value.rest

-- so what a block says has times that rise and small offsets
of_block : {size : ℕ} {time_of : List ℕ → ℤ} {kinds : List KindValue} {names records times numbers : List ℕ} (value : ZoneValue)
    → AreKinds names records kinds → AreShifts size time_of kinds times numbers value.rest → rises value.rest ≡ true
    → slice_get kinds 0 ≡ Some value.first → (rises value.rest ≡ true) × (smalls value ≡ true)
of_block value kinds shifts rising first = (rising, both _ _ (small_at kinds 0 value.first first) (all_small kinds shifts))

said_small : (bytes : List ℕ) (value : ZoneValue) → Says bytes value → (rises value.rest ≡ true) × (smalls value ≡ true)
said_small bytes value (zone_file is) = of_block value is.block_is.are_kinds is.block_is.are_shifts is.rising is.first_kind
said_small bytes value (old_file is) = of_block value is.block_is.are_kinds is.block_is.are_shifts is.rising is.first_kind

pub returns-clause-rising : goal.returns-clause-rising
returns-clause-rising c = λ bytes zone says. (said_small bytes zone says).0

pub returns-clause-small : goal.returns-clause-small
returns-clause-small c = λ bytes zone says. (said_small bytes zone says).1
