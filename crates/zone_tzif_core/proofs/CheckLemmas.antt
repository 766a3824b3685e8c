-- A test of what items show.
use Rattle.std.proofs.{Common.{◌≡◌, ℕ, ◌<◌, ◌≤◌, ◌^◌, ℤ, Bool, true, false, ◌&&◌, Some, List, [], ◌∷◌, ◌++◌, length, map, get_or, slice_index_or, None, Bor, refl, sym, ap, subst, ◌∙◌, arith, nat_le, append_assoc}, lemmas.Bool.Decides.{nat_tests}}
use Rattle.std.proofs.lemmas.List.{length-map, Concat.{flat_map_single}}
use Rattle.std.specs.List.{list_all, list_any, flat_map}
use Rattle.zone_tzif_core.specs.{Numbers.{eight_bytes}, Format.{is_one_line}, Shown.{kind_shown, kinds_seen, names_seen, shifts_shown, zone_shown}}
use Rattle.zone_tzif_core.specs.{Tzif.{is_same, kinds_of, names_of, name_bytes, name_place, kind_number, record_bytes, block_bytes, are_times, are_names, first_fault, write_fault, IsCause}, Collected.{IsTooMany}, Zones.{KindValue, ZoneValue, is_small}}
use Rattle.zone_tzif_core.specs.declared.values.{Kind.{Kind}, TzifZone.{TzifZone}, WriteFault.{WriteFault}, WriteFault.TheVariants.{Times, Types, Names, Offset, Footer, NoMemory}}
use Rattle.zone_tzif_core.proofs.WrittenLemmas.{checks, kind_among, name_among, place_small}

pub all_seen : {A B : Type 0} (test : A → Bool) (view : B → A) (items : List B) → list_all test (map view items) ≡ list_all (λ item. test (view item)) items
all_seen test view [] = refl
all_seen test view (item ∷ items) = ap (λ more. test (view item) && more) (all_seen test view items)

pub fault_is : (zone : TzifZone) (kinds : List (Bor Kind)) (names : List (Bor (List ℕ))) (c d e : Bool) → are_times (zone_shown zone).rest ≡ true → length (kinds_seen kinds) ≤ 256 → kinds_seen kinds ≡ kinds_of (zone_shown zone) → names_seen names ≡ names_of (kinds_of (zone_shown zone)) → c ≡ are_names (names_seen names) → d ≡ list_all (λ kind. is_small kind.now.utoff) kinds → e ≡ is_one_line (zone_shown zone).footer → first_fault true true c d e ≡ write_fault (zone_shown zone)
unfolding write_fault
fault_is zone kinds names c d e times few distinct named names_are offsets footer =
    let few_is : nat_le (length (kinds_of (zone_shown zone))) 256 ≡ true = grind (arith, nat_tests, few, ap length distinct) in
    let c_is = names_are ∙ ap are_names named in
    let d_is = offsets ∙ sym (all_seen (λ kind. is_small kind.utoff) (λ (kind : Bor Kind). kind_shown kind.now) kinds) ∙ ap (list_all (λ kind. is_small kind.utoff)) distinct in
    rw (times, few_is, ← c_is, ← d_is, ← footer) refl

-- the times refuse first
pub times_refuse : (zone : ZoneValue) → false ≡ are_times zone.rest → Some Times ≡ write_fault zone
unfolding write_fault
times_refuse zone times = rw (← times) refl

-- the number of kinds refuses next
pub kinds_refuse : (zone : ZoneValue) (fault : WriteFault) → are_times zone.rest ≡ true → IsTooMany fault (length (kinds_of zone)) → IsCause fault (write_fault zone)
unfolding write_fault
kinds_refuse zone Types times many =
    let many_is : nat_le (length (kinds_of zone)) 256 ≡ false = grind (arith, nat_tests, many) in
    rw (times, many_is) refl
kinds_refuse zone NoMemory times many = tt
kinds_refuse zone Times times many = absurd many
kinds_refuse zone Names times many = absurd many
kinds_refuse zone Offset times many = absurd many
kinds_refuse zone Footer times many = absurd many

-- the numbers of a value that may be written fit
pub few_kinds : (zone : ZoneValue) (kinds : List (Bor Kind)) → write_fault zone ≡ None → kinds_seen kinds ≡ kinds_of zone → length kinds ≤ 256
few_kinds zone kinds fits distinct =
    let long : length (kinds_seen kinds) ≡ length kinds = length-map _ _ in
    omega (arith, long, ap length distinct, (checks zone fits).few_kinds)

pub few_times : (zone : TzifZone) (shifts : List (ℤ × Kind)) → write_fault (zone_shown zone) ≡ None → shifts ≡ zone.rest.items → length shifts < 2 ^ 32
few_times zone shifts fits is =
    let long : length (shifts_shown zone.rest.items) ≡ length zone.rest.items = length-map _ _ in
    omega (arith, long, ap length is, (checks (zone_shown zone) fits).few_times)

pub few_chars : (zone : ZoneValue) (chars : List ℕ) → write_fault zone ≡ None → chars ≡ name_bytes (names_of (kinds_of zone)) → length chars ≤ 256
few_chars zone chars fits bytes = omega (arith, ap length bytes, (checks zone fits).few_bytes)

pub all_among : (zone : TzifZone) (kinds : List (Bor Kind)) (shifts : List (ℤ × Kind)) → kinds_seen kinds ≡ kinds_of (zone_shown zone) → shifts ≡ zone.rest.items → (k : ℕ) (d : ℤ × KindValue) → k < length (shifts_shown shifts) → list_any (is_same (slice_index_or (shifts_shown shifts) k d).1) (kinds_seen kinds) ≡ true
all_among zone kinds shifts distinct is k d within =
    let inside : k < length (zone_shown zone).rest = subst (λ l. k < length (shifts_shown l)) is within in
    let there = kind_among (zone_shown zone) k d inside in
    let here = subst (λ l. list_any (is_same (slice_index_or (shifts_shown l) k d).1) (kinds_of (zone_shown zone)) ≡ true) (sym is) there in
    subst (λ l. list_any (is_same (slice_index_or (shifts_shown shifts) k d).1) l ≡ true) (sym distinct) here

pub all_placed : (zone : ZoneValue) (kinds : List (Bor Kind)) (names : List (Bor (List ℕ))) → write_fault zone ≡ None → kinds_seen kinds ≡ kinds_of zone → names_seen names ≡ names_of (kinds_of zone) → (k : ℕ) (d : KindValue) → k < length (kinds_seen kinds) → name_place (names_seen names) (slice_index_or (kinds_seen kinds) k d).name < 256
all_placed zone kinds names fits distinct named k d within =
    let inside : k < length (kinds_of zone) = subst (λ l. k < length l) distinct within in
    let small = place_small (names_of (kinds_of zone)) (get_or (kinds_of zone) k d).name (name_among (kinds_of zone) k d inside) (checks zone fits).few_bytes in
    let here = subst (λ l. name_place (names_of (kinds_of zone)) (get_or l k d).name < 256) (sym distinct) small in
    subst (λ l. name_place l (slice_index_or (kinds_seen kinds) k d).name < 256) (sym named) here

-- the parts make the block
pub block_put : (zone : ZoneValue) (kinds : List KindValue) (names : List (List ℕ)) (first second : List (ℤ × KindValue)) (a b c d f : List ℕ) → kinds ≡ kinds_of zone → names ≡ names_of (kinds_of zone) → first ≡ zone.rest → second ≡ zone.rest → b ≡ a ++ flat_map (λ shift. eight_bytes shift.0) first → c ≡ b ++ flat_map (λ shift. kind_number kinds shift.1 ∷ []) second → d ≡ c ++ flat_map (record_bytes names) kinds → f ≡ d ++ name_bytes names → f ≡ a ++ block_bytes (kinds_of zone) zone.rest
unfolding block_bytes
block_put zone kinds names first second a b c d f distinct named one two e1 e2 e3 e4 =
    let k = kinds_of zone in
    let n = names_of k in
    let t = flat_map (λ (shift : ℤ × KindValue). eight_bytes shift.0) zone.rest in
    let m = map (λ (shift : ℤ × KindValue). kind_number k shift.1) zone.rest in
    let r = flat_map (record_bytes n) k in
    let times : b ≡ a ++ t = e1 ∙ ap (λ l. a ++ flat_map (λ (shift : ℤ × KindValue). eight_bytes shift.0) l) one in
    let numbers : c ≡ (a ++ t) ++ m = e2 ∙ ap (λ l. b ++ flat_map (λ (shift : ℤ × KindValue). kind_number l shift.1 ∷ []) second) distinct ∙ ap (λ l. b ++ flat_map (λ (shift : ℤ × KindValue). kind_number k shift.1 ∷ []) l) two ∙ ap (λ l. b ++ l) (flat_map_single (λ (shift : ℤ × KindValue). kind_number k shift.1) zone.rest) ∙ ap (λ l. l ++ m) times in
    let records : d ≡ ((a ++ t) ++ m) ++ r = e3 ∙ ap (λ l. c ++ flat_map (record_bytes l) kinds) named ∙ ap (λ l. c ++ flat_map (record_bytes n) l) distinct ∙ ap (λ l. l ++ r) numbers in
    let whole : f ≡ (((a ++ t) ++ m) ++ r) ++ name_bytes n = e4 ∙ ap (λ l. d ++ name_bytes l) named ∙ ap (λ l. l ++ name_bytes n) records in
    whole ∙ joined a t m r (name_bytes n)
  where
    joined : (a t m r n : List ℕ) → (((a ++ t) ++ m) ++ r) ++ n ≡ a ++ (t ++ m ++ r ++ n)
    joined a t m r n = simp append_assoc refl
