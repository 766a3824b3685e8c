-- Kinds that are kept once, and changes by their numbers.
use Rattle.std.proofs.{Common.{◌≡◌, ℕ, zero, suc, ◌+◌, ◌<◌, ◌≤◌, ℤ, true, false, List, [], ◌∷◌, ◌++◌, length, map, take, drop, get_or, nat_eq, Some, None, slice_get, refl, sym, ap, ◌∙◌, arith, length-append, append-nil}, lemmas.Bool.Decides.{nat_tests}, lemmas.List.{take_at, drop_at, length-map}}
use Rattle.std.proofs.lemmas.{Option.{none-some}, Simd.{map-map}, Str.{is_utf8-from_IsUtf8}}
use Rattle.std.specs.Str.{IsUtf8, is_utf8}
use Rattle.zone_tzif_core.specs.{Denotes.{IsName}, Reading.{Cuts, kind_in, kinds_in, shifts_in, joined_in}, Stored.{stored_kind, stored_name, IsStored}, ZoneFiles.{change_with, changes_with, file_with, kind_numbered, unnumbered}}
use Rattle.zone_tzif_core.specs.{Zones.{KindValue, ZoneValue, go_up, rises}, declared.stored.Stored.{Stored}}
use Rattle.zone_tzif_core.proofs.FoundLemmas.{named_found}

-- the item at a place, and none past the end
pub some_at : {A : Type 0} (xs : List A) (n : ℕ) (d : A) → n < length xs → slice_get xs n ≡ Some (get_or xs n d)
some_at [] n d l = absurd (omega (arith, l))
some_at (x ∷ xs) zero d l = refl
some_at (x ∷ xs) (suc n) d l = some_at xs n d (omega (arith, l))

pub none_at : {A : Type 0} (xs : List A) (n : ℕ) → length xs ≤ n → None ≡ slice_get xs n
none_at [] n l = refl
none_at (x ∷ xs) zero l = absurd (omega (arith, l))
none_at (x ∷ xs) (suc n) l = none_at xs n (omega (arith, l))

-- a name is as many bytes from its place on as it has
sliced : (names : List ℕ) (place : ℕ) (name : List ℕ) → IsName names place name → take (length name) (drop place names) ≡ name
sliced names place name is =
    ap (λ l. take (length name) (drop place l)) is.whole
    ∙ ap (take (length name)) (drop_at is.before (name ++ 0 ∷ is.after) place is.starts) ∙ take_at name (0 ∷ is.after) (length name) refl

within : (names : List ℕ) (place : ℕ) (name : List ℕ) → IsName names place name → place + length name ≤ length names
within names place name is =
    omega (arith, ap length is.whole, length-append is.before (name ++ 0 ∷ is.after), length-append name (0 ∷ is.after), is.starts)

-- a kind that is kept is the record's
pub stored_is : (names bytes : List ℕ) (kind : KindValue) (stored : Stored) → Some kind ≡ kind_in names bytes → stored.utoff ≡ kind.utoff
    → stored.is_dst ≡ kind.is_dst → stored.from ≡ get_or bytes 5 0 → stored.length ≡ length kind.name
    → (stored_kind names stored ≡ kind) × IsStored names stored
stored_is names bytes kind stored found offset flag from long =
    let is = named_found names bytes kind (sym found) in
    let name : stored_name names stored ≡ kind.name = (λ i. take (long i) (drop (from i) names)) ∙ sliced names (get_or bytes 5 0) kind.name is in (
      λ i. record { utoff = offset i; is_dst = flag i; name = name i },
      (omega (arith, from, long, within names (get_or bytes 5 0) kind.name is), ap is_utf8 name ∙ is_utf8-from_IsUtf8 kind.name is.text),
    )

-- a change whose number is one of the kinds has its kind
pub numbered_is : (kinds : List KindValue) (n : ℕ) → n < length kinds → Some (kind_numbered kinds n) ≡ slice_get kinds n
numbered_is kinds n l = sym (some_at kinds n unnumbered l)

-- the times of the changes are those that rise
times_are : (kinds : List KindValue) (changes : List (ℤ × ℕ)) → go_up (map (λ change. change.0) changes) ≡ rises (changes_with kinds changes)
times_are kinds changes = ap go_up (sym (map-map (λ (shift : ℤ × KindValue). shift.0) (change_with kinds) changes))

-- none stands in nothing
pub none_yet : {X : Type 0} (P : X → Type 0) (xs : List X) → xs ≡ [] → (k : ℕ) (x : X) → slice_get xs k ≡ Some x → P x
none_yet P xs none k x e = absurd (none-some x (ap (λ l. slice_get l k) (sym none) ∙ e))

-- a name that is all names
pub whole_kept : (names name : List ℕ) (kind : Stored) → names ≡ name → IsUtf8 name → kind.from ≡ 0 → kind.length ≡ length name → IsStored names kind
whole_kept names name kind same text from long =
    let all : stored_name names kind ≡ name =
    (λ i. take (long i) (drop (from i) (same i))) ∙ ap (take (length name)) (sym (append-nil name)) ∙ take_at name [] (length name) refl in
    (omega (arith, from, long, ap length same), ap is_utf8 all ∙ is_utf8-from_IsUtf8 name text)

-- one kind whose name is all names, and no change
pub steady_is : (kind : KindValue) (stored : Stored) (kinds : List Stored) (changes : List (ℤ × ℕ)) (names footer : List ℕ) → kinds ≡ stored ∷ [] → changes ≡ []
    → names ≡ kind.name → stored.utoff ≡ kind.utoff → stored.is_dst ≡ kind.is_dst → stored.from ≡ 0 → stored.length ≡ length kind.name
    → file_with (map (stored_kind names) kinds) changes footer ≡ record { first = kind; rest = []; footer = footer }
steady_is kind stored kinds changes names footer one none same offset flag from long =
    let name : stored_name names stored ≡ kind.name =
    (λ i. take (long i) (drop (from i) (same i))) ∙ ap (take (length kind.name)) (sym (append-nil kind.name)) ∙ take_at kind.name [] (length kind.name) refl in
    rw (one, none) (λ i. record { first = record { utoff = offset i; is_dst = flag i; name = name i }; rest = []; footer = footer })

-- there is no zone without a kind
pub no_zone : (parts : Cuts) (kinds : List KindValue) → Some kinds ≡ kinds_in parts.names parts.kinds parts.records → length kinds ≡ 0 → None ≡ joined_in parts
unfolding joined_in
no_zone parts [] found none = rw (← found) refl
no_zone parts (kind ∷ kinds) found none = absurd (omega (arith, none))

-- the parts have these kinds, one at least
module _ (parts : Cuts) (kinds : List KindValue) (found : Some kinds ≡ kinds_in parts.names parts.kinds parts.records) (some : 0 < length kinds) where
  -- nor is there one where a change has no kind
  pub no_changes : None ≡ shifts_in parts.wide kinds parts.times parts.numbers → None ≡ joined_in parts
  unfolding joined_in
  no_changes none = rw (← found, ← numbered_is kinds 0 some, ← none) refl

  module _ (changes : List (ℤ × ℕ)) (shifts : Some (changes_with kinds changes) ≡ shifts_in parts.wide kinds parts.times parts.numbers) where
    pub falling : false ≡ go_up (map (λ change. change.0) changes) → None ≡ joined_in parts
    unfolding joined_in
    falling fall = rw (← found, ← numbered_is kinds 0 some, ← shifts, ← (fall ∙ times_are kinds changes)) refl

    pub rising : (zone : ZoneValue) → true ≡ go_up (map (λ change. change.0) changes) → zone ≡ file_with kinds changes parts.footer → Some zone ≡ joined_in parts
    unfolding joined_in
    rising zone rise is = rw (← found, ← numbered_is kinds 0 some, ← shifts, ← (rise ∙ times_are kinds changes), is) refl

-- as many as there are, and some where there are some
pub some_mapped : {X Y : Type 0} (f : X → Y) (items counted seen : List X) → counted ≡ items → seen ≡ items → false ≡ nat_eq (length seen) 0
    → (length (map f items) ≡ length counted) × (0 < length (map f items))
some_mapped f items counted seen count some test =
    let long : length (map f items) ≡ length items = length-map items f in
    (long ∙ sym (ap length count), grind (arith, nat_tests, test, long, ap length some))
