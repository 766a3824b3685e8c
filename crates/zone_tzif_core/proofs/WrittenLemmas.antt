-- The file that is written for a value denotes it.
use Rattle.std.proofs.Common.{◌≡◌, ℕ, zero, suc, ◌+◌, ◌<◌, ◌≤◌, ◌^◌, ℤ, pos, neg_ℤ, Bool, true, false, cond, not, ◌&&◌, ◌||◌, List, [], ◌∷◌, ◌++◌, length, map, get_or, replicate, Option, Some, None, slice_get, refl, sym, ap, subst, ◌∙◌, arith, nat_eq, nat_le, append_assoc, append-nil, length-append, bytes_eq, int_le, find, FitsSigned, to_z, of_z}
use Rattle.std.proofs.lemmas.{Bool.{and_parts, and_from, or_left, or_right, not-false, leb-true, false≢true}, Bool.Decides.{nat_tests, Decides-int_eq}, Int.{ints, to_z-of_z}, List.{length-map, get_or-map}, List.Sums.{AllPass-from_list_all}}
use Rattle.std.proofs.lemmas.{Option.{slice_get_within}, List.Elements.{All-append}, List.Folds.{list_any-append, find_at}, Nat.{from_be_bytes-to_be_bytes_4, from_be_bytes-to_be_bytes_8}, Slice.Eq.{bytes_eq-Decides}}
use Rattle.std.proofs.Math.Facts.{Fits-of_z, Fits-lt-pow}
use Rattle.std.specs.{Int.{w32, w64}, Bool.{beq}, Ordering.{int_eq}, List.{list_all, list_any, flat_map}, Str.{IsUtf8}}
use Rattle.zone_tzif_core.specs.{Zones.{KindValue, ZoneValue, greatest_utoff, is_small, rises}, Numbers.{count_of, four_of, eight_of, count_bytes, four_bytes, eight_bytes}, Format.{header_of, begins_well, block_len, suits, is_one_line}}
use Rattle.zone_tzif_core.specs.Denotes.{IsHeader, IsKind, AreKinds, no_kind, a_kind, AreShifts, no_shift, a_shift, IsBlock, Denotes}
use Rattle.zone_tzif_core.specs.Tzif.{is_same, added, each_once, kinds_of, names_of, name_bytes, name_place, kind_number, version_byte, header_bytes, record_bytes, block_bytes, tzif_by, are_times, are_names, write_fault, IsValue, IsTzif, IsTzifBy}
use Rattle.zone_tzif_core.specs.declared.{header.Header.{Header}, values.Version.{Version}, values.Version.TheVariants.{Two, Three}, values.WriteFault.{WriteFault}}

small_four : (x : ℤ) → FitsSigned w32 x → of_z w32 x < 2 ^ 32
small_four x fits = Fits-lt-pow (Fits-of_z fits)

small_eight : (x : ℤ) → FitsSigned w64 x → of_z w64 x < 2 ^ 64
small_eight x fits = Fits-lt-pow (Fits-of_z fits)

counted : (n : ℕ) (rest : List ℕ) → n < 2 ^ 32 → count_of (count_bytes n ++ rest) ≡ n
unfolding count_of count_bytes
counted n rest few = from_be_bytes-to_be_bytes_4 n few

abbrev header_made : Version → ℕ → ℕ → ℕ → ℕ → ℕ → ℕ → Header
header_made v a b l t k c = record { version = version_byte v; isut = a; isstd = b; leap = l; time = t; kind = k; char = c }

header_says : (v : Version) (t k c : ℕ) → t < 2 ^ 32 → k < 2 ^ 32 → c < 2 ^ 32 → header_of (header_bytes v t k c) ≡ header_made v 0 0 0 t k c
unfolding header_of header_bytes count_bytes count_of
header_says v t k c few_times few_kinds few_chars =
    let times = from_be_bytes-to_be_bytes_4 t few_times in
    let kinds = from_be_bytes-to_be_bytes_4 k few_kinds in
    let chars = from_be_bytes-to_be_bytes_4 c few_chars in
    ap (λ x. header_made v 0 0 0 x (count_of (count_bytes k)) (count_of (count_bytes c))) times ∙ ap (λ x. header_made v 0 0 0 t x (count_of (count_bytes c))) kinds ∙ ap (λ x. header_made v 0 0 0 t k x) chars

header_is : (v : Version) (t k c : ℕ) → t < 2 ^ 32 → k < 2 ^ 32 → c < 2 ^ 32 → IsHeader (header_bytes v t k c) (header_made v 0 0 0 t k c)
unfolding header_bytes count_bytes begins_well
header_is v t k c few_times few_kinds few_chars = record {
  long = refl;
  begins = refl;
  read = header_says v t k c few_times few_kinds few_chars;
}

-- what is among the items stays among them
any_stays : {A : Type 0} (same : A → A → Bool) (p : A → Bool) (items rest : List A) → list_any p items ≡ true → list_any p (each_once same items rest) ≡ true
any_stays same p items [] there = there
any_stays same p items (x ∷ rest) there = any_stays same p (added same items x) rest (by_test (list_any (same x) items) refl)
  where
    by_test : (t : Bool) → list_any (same x) items ≡ t → list_any p (cond t items (items ++ x ∷ [])) ≡ true
    by_test true e = there
    by_test false e = list_any-append p items (x ∷ []) ∙ or_left _ _ there

-- each item of the source is among the distinct ones
among : {A : Type 0} (same : A → A → Bool) → ((x : A) → same x x ≡ true) → (items source : List A) (i : ℕ) (d : A) → i < length source → list_any (same (get_or source i d)) (each_once same items source) ≡ true
among same itself items [] i d within = absurd (omega arith)
among same itself items (x ∷ source) zero d within = any_stays same (same x) (added same items x) source (by_test (list_any (same x) items) refl)
  where
    by_test : (t : Bool) → list_any (same x) items ≡ t → list_any (same x) (cond t items (items ++ x ∷ [])) ≡ true
    by_test true e = e
    by_test false e = list_any-append (same x) items (x ∷ []) ∙ or_right _ _ (or_left _ _ (itself x))
among same itself items (x ∷ source) (suc i) d within = among same itself (added same items x) source i d (omega arith)

-- what holds of the source holds of the distinct items
kept_all : {A : Type 0} (p : A → Type 0) (same : A → A → Bool) (items source : List A) → ((k : ℕ) (d : A) → k < length items → p (get_or items k d)) → ((k : ℕ) (d : A) → k < length source → p (get_or source k d)) → (k : ℕ) (d : A) → k < length (each_once same items source) → p (get_or (each_once same items source) k d)
kept_all p same items [] had has = had
kept_all p same items (x ∷ source) had has = kept_all p same (added same items x) source (by_test (list_any (same x) items)) (λ k d within. has (suc k) d (omega arith))
  where
    by_test : (t : Bool) → (k : ℕ) (d : _) → k < length (cond t items (items ++ x ∷ [])) → p (get_or (cond t items (items ++ x ∷ [])) k d)
    by_test true = had
    by_test false = All-append p items (x ∷ []) had (λ k d within. subst (λ n. p (get_or (x ∷ []) n d)) (let none : 0 ≡ k = omega arith in none) (has 0 d (omega arith)))

-- a name with a zero after it stands at that place
record Placed (names : List (List ℕ)) (name : List ℕ) (place : ℕ) : Type 0 where
  before : List ℕ
  after : List ℕ
  whole : flat_map (λ n. n ++ 0 ∷ []) names ≡ before ++ (name ++ 0 ∷ after)
  starts : length before ≡ place

placed : (names : List (List ℕ)) (name : List ℕ) → list_any (bytes_eq name) names ≡ true → Placed names name (name_place names name)
unfolding name_place
placed [] name there = absurd (false≢true there)
placed (other ∷ names) name there = by_test (bytes_eq name other) refl there (placed names name)
  where
    by_test : (t : Bool) → bytes_eq name other ≡ t → (t || list_any (bytes_eq name) names) ≡ true → (list_any (bytes_eq name) names ≡ true → Placed names name (name_place names name)) → Placed (other ∷ names) name (cond t 0 (length other + 1 + name_place names name))
    by_test true e there more = record {
      before = [];
      after = flat_map (λ n. n ++ 0 ∷ []) names;
      whole = append_assoc other (0 ∷ []) (flat_map (λ n. n ++ 0 ∷ []) names) ∙ ap (λ l. l ++ 0 ∷ flat_map (λ n. n ++ 0 ∷ []) names) (sym ((bytes_eq-Decides name other).0 e));
      starts = refl;
    }
    by_test false e there more =
        let rest = more there in
        record {
          before = (other ++ 0 ∷ []) ++ rest.before;
          after = rest.after;
          whole = ap (λ l. (other ++ 0 ∷ []) ++ l) rest.whole ∙ sym (append_assoc (other ++ 0 ∷ []) rest.before (name ++ 0 ∷ rest.after));
          starts = omega (arith, length-append (other ++ 0 ∷ []) rest.before, length-append other (0 ∷ []), rest.starts);
        }

-- what all names pass, a name among them passes
all_at : (test : List ℕ → Bool) (names : List (List ℕ)) (name : List ℕ) → list_all test names ≡ true → list_any (bytes_eq name) names ≡ true → test name ≡ true
all_at test [] name all there = absurd (false≢true there)
all_at test (other ∷ names) name all there = by_test (bytes_eq name other) refl there (all_at test names name (and_parts (test other) _ all).1)
  where
    by_test : (t : Bool) → bytes_eq name other ≡ t → (t || list_any (bytes_eq name) names) ≡ true → (list_any (bytes_eq name) names ≡ true → test name ≡ true) → test name ≡ true
    by_test true e there more = subst (λ l. test l ≡ true) (sym ((bytes_eq-Decides name other).0 e)) (and_parts (test other) _ all).0
    by_test false e there more = more there

small_fits : (x : ℤ) → is_small x ≡ true → FitsSigned w32 x
small_fits x small =
    let parts = and_parts (int_le (neg_ℤ (pos greatest_utoff)) x) _ small in
    grind (arith, ints, parts.0, parts.1)

four_again : (x : ℤ) (rest : List ℕ) → FitsSigned w32 x → four_of (four_bytes x ++ rest) ≡ x
unfolding four_of four_bytes
four_again x rest fits = ap (to_z w32) (from_be_bytes-to_be_bytes_4 (of_z w32 x) (small_four x fits)) ∙ to_z-of_z w32 x fits

pub eight_again : (x : ℤ) → FitsSigned w64 x → eight_of (eight_bytes x) ≡ x
unfolding eight_of eight_bytes
eight_again x fits = ap (to_z w64) (from_be_bytes-to_be_bytes_8 (of_z w64 x) (small_eight x fits)) ∙ to_z-of_z w64 x fits

flag_of : Bool → ℕ
flag_of b = cond b 1 0

kind_written : (names : List (List ℕ)) (kind : KindValue) → is_small kind.utoff ≡ true → list_any (bytes_eq kind.name) names ≡ true → list_all (λ c. not (nat_eq c 0)) kind.name ≡ true → IsUtf8 kind.name → IsKind (name_bytes names) (record_bytes names kind) kind
unfolding record_bytes four_bytes name_bytes
kind_written names kind small there no_zero text =
    let place = placed names kind.name there in
    record {
      long = refl;
      offset = four_again kind.utoff _ (small_fits kind.utoff small);
      small = small;
      flag = flag_small kind.is_dst;
      is_dst = flag_back kind.is_dst;
      named = record {
        before = place.before;
        after = place.after;
        whole = place.whole;
        starts = place.starts;
        no_zero = no_zero;
        text = text;
      };
    }
  where
    flag_small : (b : Bool) → cond b 1 0 ≤ 1
    flag_small true = omega arith
    flag_small false = omega arith

    flag_back : (b : Bool) → nat_eq (cond b 1 0) 1 ≡ b
    flag_back true = refl
    flag_back false = refl

kinds_written : (names : List (List ℕ)) (kinds : List KindValue) → ((k : ℕ) (d : KindValue) → k < length kinds → IsKind (name_bytes names) (record_bytes names (get_or kinds k d)) (get_or kinds k d)) → AreKinds (name_bytes names) (flat_map (record_bytes names) kinds) kinds
kinds_written names [] are = no_kind
kinds_written names (kind ∷ kinds) are = a_kind (are 0 kind (omega arith)) (kinds_written names kinds (λ k d within. are (suc k) d (omega arith)))

same_kind : (a b : KindValue) → is_same a b ≡ true → a ≡ b
same_kind a b e =
    let outer = and_parts (int_eq a.utoff b.utoff && beq a.is_dst b.is_dst) _ e in
    let front = and_parts (int_eq a.utoff b.utoff) _ outer.0 in
    let utoff = (Decides-int_eq a.utoff b.utoff).0 front.0 in
    let is_dst = same_flag a.is_dst b.is_dst front.1 in
    let name = (bytes_eq-Decides a.name b.name).0 outer.1 in
    ap (λ x. made x a.is_dst a.name) utoff ∙ ap (λ x. made b.utoff x a.name) is_dst ∙ ap (made b.utoff b.is_dst) name
  where
    made : ℤ → Bool → List ℕ → KindValue
    made u d n = record { utoff = u; is_dst = d; name = n }

    same_flag : (a b : Bool) → beq a b ≡ true → a ≡ b
    same_flag true true e = refl
    same_flag false false e = refl
    same_flag true false e = absurd (false≢true e)
    same_flag false true e = absurd (false≢true e)

numbered : (kinds : List KindValue) (kind : KindValue) → list_any (is_same kind) kinds ≡ true → slice_get kinds (kind_number kinds kind) ≡ Some kind
unfolding kind_number
numbered kinds kind there = sym (find_at (is_same kind) kinds) ∙ found kinds there
  where
    found : (kinds : List KindValue) → list_any (is_same kind) kinds ≡ true → find (is_same kind) kinds ≡ Some kind
    found [] there = absurd (false≢true there)
    found (other ∷ kinds) there = by_test (is_same kind other) refl there (found kinds)
      where
        by_test : (t : Bool) → is_same kind other ≡ t → (t || list_any (is_same kind) kinds) ≡ true → (list_any (is_same kind) kinds ≡ true → find (is_same kind) kinds ≡ Some kind) → cond t (Some other) (find (is_same kind) kinds) ≡ Some kind
        by_test true e there more = ap Some (sym (same_kind kind other e))
        by_test false e there more = more there

pub eight_long : (x : ℤ) → length (eight_bytes x) ≡ 8
unfolding eight_bytes
eight_long x = refl

shifts_written : (kinds : List KindValue) (shifts : List (ℤ × KindValue)) → ((k : ℕ) (d : ℤ × KindValue) → k < length shifts → FitsSigned w64 (get_or shifts k d).0) → ((k : ℕ) (d : ℤ × KindValue) → k < length shifts → list_any (is_same (get_or shifts k d).1) kinds ≡ true) → AreShifts 8 eight_of kinds (flat_map (λ shift. eight_bytes shift.0) shifts) (map (λ shift. kind_number kinds shift.1) shifts) shifts
shifts_written kinds [] fit there = no_shift
shifts_written kinds (shift ∷ shifts) fit there =
    let more = shifts_written kinds shifts (λ k d within. fit (suc k) d (omega arith)) (λ k d within. there (suc k) d (omega arith)) in
    let found = numbered kinds shift.1 (there 0 shift (omega arith)) in
    subst (λ t. AreShifts 8 eight_of kinds (eight_bytes shift.0 ++ flat_map (λ shift. eight_bytes shift.0) shifts) (kind_number kinds shift.1 ∷ map (λ shift. kind_number kinds shift.1) shifts) ((t, shift.1) ∷ shifts)) (eight_again shift.0 (fit 0 shift (omega arith)))
    (a_shift (eight_bytes shift.0) (eight_long shift.0) found more)

bytes_itself : (xs : List ℕ) → bytes_eq xs xs ≡ true
bytes_itself xs = (bytes_eq-Decides xs xs).1 refl

kind_itself : (kind : KindValue) → is_same kind kind ≡ true
kind_itself kind = and_from _ _ (and_from _ _ ((Decides-int_eq kind.utoff kind.utoff).1 refl) (flag_itself kind.is_dst)) (bytes_itself kind.name)
  where
    flag_itself : (b : Bool) → beq b b ≡ true
    flag_itself true = refl
    flag_itself false = refl

-- no fault where none of the tests holds
no_fault : (b : Bool) (fault : WriteFault) (more : Option WriteFault) → cond b (Some fault) more ≡ None → (b ≡ false) × (more ≡ None)
no_fault true fault more e = absurd cc
no_fault false fault more e = (refl, e)

pub record Checks (zone : ZoneValue) : Type 0 where
  pub rising : rises zone.rest ≡ true
  pub few_times : length zone.rest < 2 ^ 32
  pub few_kinds : length (kinds_of zone) ≤ 256
  pub no_zeros : list_all (λ name. list_all (λ c. not (nat_eq c 0)) name) (names_of (kinds_of zone)) ≡ true
  pub few_bytes : length (name_bytes (names_of (kinds_of zone))) ≤ 256
  pub small : list_all (λ kind. is_small kind.utoff) (kinds_of zone) ≡ true
  pub line : is_one_line zone.footer ≡ true

pub checks : (zone : ZoneValue) → write_fault zone ≡ None → Checks zone
unfolding write_fault are_times are_names
checks zone e =
    let kinds = kinds_of zone in
    let names = names_of kinds in
    let clean = list_all (λ name. list_all (λ c. not (nat_eq c 0)) name) names in
    let times = no_fault (not (are_times zone.rest)) _ _ e in
    let types = no_fault (not (nat_le (length kinds) 256)) _ _ times.1 in
    let name = no_fault (not (are_names names)) _ _ types.1 in
    let offset = no_fault (not (list_all (λ kind. is_small kind.utoff) kinds)) _ _ name.1 in
    let footer = no_fault (not (is_one_line zone.footer)) _ _ offset.1 in
    let both = and_parts (rises zone.rest) (nat_le (length zone.rest) 4294967295) (not-false (are_times zone.rest) times.0) in
    let named = and_parts clean (nat_le (length (name_bytes names)) 256) (not-false (are_names names) name.0) in
    let few_times : length zone.rest ≤ 4294967295 = leb-true (length zone.rest) 4294967295 both.1 in
    record {
      rising = both.0;
      few_times = omega (arith, few_times);
      few_kinds = leb-true (length kinds) 256 (not-false (nat_le (length kinds) 256) types.0);
      no_zeros = named.0;
      few_bytes = leb-true (length (name_bytes names)) 256 named.1;
      small = not-false _ offset.0;
      line = not-false _ footer.0;
    }

-- the first item stays the first
first_stays : {A : Type 0} (same : A → A → Bool) (x : A) (items rest : List A) → slice_get (each_once same (x ∷ items) rest) 0 ≡ Some x
first_stays same x items [] = refl
first_stays {A} same x items (y ∷ rest) = by_test (list_any (same y) (x ∷ items)) (λ more. first_stays same x more rest)
  where
    by_test : (t : Bool) → ((more : List A) → slice_get (each_once same (x ∷ more) rest) 0 ≡ Some x) → slice_get (each_once same (cond t (x ∷ items) ((x ∷ items) ++ y ∷ [])) rest) 0 ≡ Some x
    by_test true stays = stays items
    by_test false stays = stays (items ++ y ∷ [])

first_is : (zone : ZoneValue) → slice_get (kinds_of zone) 0 ≡ Some zone.first
unfolding kinds_of
first_is zone = first_stays is_same zone.first [] (map (λ shift. shift.1) zone.rest)

-- each kind of the zone is among its distinct kinds
pub kind_among : (zone : ZoneValue) (k : ℕ) (d : ℤ × KindValue) → k < length zone.rest → list_any (is_same (get_or zone.rest k d).1) (kinds_of zone) ≡ true
unfolding kinds_of
kind_among zone k d within =
    let read : get_or (map (λ shift. shift.1) zone.rest) k d.1 ≡ (get_or zone.rest k d).1 = get_or-map (λ shift. shift.1) zone.rest k d d.1 within in
    let long : length (map (λ shift. shift.1) zone.rest) ≡ length zone.rest = length-map _ _ in
    subst (λ kind. list_any (is_same kind) (each_once is_same [] (zone.first ∷ map (λ shift. shift.1) zone.rest)) ≡ true) read
    (among is_same kind_itself [] (zone.first ∷ map (λ shift. shift.1) zone.rest) (suc k) d.1 (omega (arith, long, within)))

pub name_among : (kinds : List KindValue) (k : ℕ) (d : KindValue) → k < length kinds → list_any (bytes_eq (get_or kinds k d).name) (names_of kinds) ≡ true
unfolding names_of
name_among kinds k d within =
    let read : get_or (map (λ kind. kind.name) kinds) k d.name ≡ (get_or kinds k d).name = get_or-map (λ kind. kind.name) kinds k d d.name within in
    let long : length (map (λ kind. kind.name) kinds) ≡ length kinds = length-map _ _ in
    subst (λ name. list_any (bytes_eq name) (each_once bytes_eq [] (map (λ kind. kind.name) kinds)) ≡ true) read
    (among bytes_eq bytes_itself [] (map (λ kind. kind.name) kinds) k d.name (omega (arith, long, within)))

texts_are : (zone : ZoneValue) → IsValue zone → (k : ℕ) (d : KindValue) → k < length (kinds_of zone) → IsUtf8 (get_or (kinds_of zone) k d).name
unfolding kinds_of
texts_are zone is = kept_all (λ kind. IsUtf8 kind.name) is_same [] (zone.first ∷ map (λ shift. shift.1) zone.rest) (λ k d within. absurd (omega arith)) source
  where
    source : (k : ℕ) (d : KindValue) → k < length (zone.first ∷ map (λ shift. shift.1) zone.rest) → IsUtf8 (get_or (zone.first ∷ map (λ shift. shift.1) zone.rest) k d).name
    source zero d within = is.first_text
    source (suc k) d within =
        let long : length (map (λ shift. shift.1) zone.rest) ≡ length zone.rest = length-map _ _ in
        let inside : k < length zone.rest = omega (arith, long, within) in
        subst (λ kind. IsUtf8 kind.name) (sym (get_or-map (λ shift. shift.1) zone.rest k (pos 0, d) d inside)) (is.texts k (pos 0, d) inside)

suited : (v : Version) (t k c : ℕ) → 1 ≤ k → 1 ≤ c → suits 52 (version_byte v) (header_made v 0 0 0 t k c) ≡ true
unfolding suits
suited v t k c some_kind some_char = by_version v
  where
    kinds : nat_le 1 k ≡ true
    kinds = grind (arith, nat_tests)

    chars : nat_le 1 c ≡ true
    chars = grind (arith, nat_tests)

    by_version : (v : Version) → suits 52 (version_byte v) (header_made v 0 0 0 t k c) ≡ true
    by_version Two = rw (kinds, chars) refl
    by_version Three = rw (kinds, chars) refl

skipped_length : (v : Version) → length {A = ℕ} (replicate 7 0) ≡ block_len (header_made v 0 0 0 0 1 1)
unfolding block_len
skipped_length v = refl

some_bytes : (names : List (List ℕ)) (name : List ℕ) → list_any (bytes_eq name) names ≡ true → 1 ≤ length (name_bytes names)
unfolding name_bytes
some_bytes names name there =
    let place = placed names name there in
    omega (arith, ap length place.whole, length-append place.before (name ++ 0 ∷ place.after), length-append name (0 ∷ place.after))

written_block : (v : Version) (zone : ZoneValue) → IsValue zone → (c : Checks zone) → (says : Header) → says ≡ header_made v 0 0 0 (length zone.rest) (length (kinds_of zone)) (length (name_bytes (names_of (kinds_of zone)))) → IsBlock 8 eight_of says (block_bytes (kinds_of zone) zone.rest) (kinds_of zone) zone.rest
unfolding block_bytes
written_block v zone is c says e =
    let kinds = kinds_of zone in
    let names = names_of kinds in
    record {
      times = flat_map (λ shift. eight_bytes shift.0) zone.rest;
      numbers = map (λ shift. kind_number kinds shift.1) zone.rest;
      records = flat_map (record_bytes names) kinds;
      names = name_bytes names;
      flags = [];
      whole = sym (append-nil _);
      time_count = length-map _ _ ∙ sym (ap (λ h. h.time) e);
      kind_count = sym (ap (λ h. h.kind) e);
      char_count = sym (ap (λ h. h.char) e);
      flag_count = sym (ap (λ h. h.isstd + h.isut) e);
      are_kinds = kinds_written names kinds (λ k d within.
          let there = name_among kinds k d within in
          kind_written names (get_or kinds k d) (AllPass-from_list_all (λ kind. is_small kind.utoff) kinds c.small k d within) there (all_at (λ name. list_all (λ b. not (nat_eq b 0)) name) names (get_or kinds k d).name c.no_zeros there) (texts_are zone is k d within));
      are_shifts = shifts_written kinds zone.rest is.times (kind_among zone);
    }

-- what is written denotes its value
pub each_denotes : (v : Version) (bytes : List ℕ) (zone : ZoneValue) → IsTzifBy v bytes zone → Denotes bytes zone
unfolding tzif_by
each_denotes v bytes zone is =
    let c = checks zone is.writable in
    let kinds = kinds_of zone in
    let names = names_of kinds in
    let first = first_is zone in
    let some : 0 < length kinds = slice_get_within kinds 0 zone.first first in
    let there = name_among kinds 0 zone.first some in
    let chars = some_bytes names (get_or kinds 0 zone.first).name there in
    let few : length kinds < 2 ^ 32 = omega (arith, c.few_kinds) in
    let fewer : length (name_bytes names) < 2 ^ 32 = omega (arith, c.few_bytes) in
    record {
      head = header_bytes v 0 1 1;
      skipped = replicate 7 0;
      second_head = header_bytes v (length zone.rest) (length kinds) (length (name_bytes names));
      block = block_bytes kinds zone.rest;
      first_says = header_made v 0 0 0 0 1 1;
      says = header_made v 0 0 0 (length zone.rest) (length kinds) (length (name_bytes names));
      kinds = kinds;
      whole = is.written;
      first_header = header_is v 0 1 1 (omega arith) (omega arith) (omega arith);
      first_length = skipped_length v;
      second_header = header_is v (length zone.rest) (length kinds) (length (name_bytes names)) c.few_times few fewer;
      suited = suited v (length zone.rest) (length kinds) (length (name_bytes names)) (omega (arith, some)) chars;
      block_is = written_block v zone is.value c _ refl;
      rising = c.rising;
      first_kind = first;
      one_line = c.line;
      text = is.value.footer;
    }

pub written_denotes : (bytes : List ℕ) (zone : ZoneValue) → IsTzif bytes zone → Denotes bytes zone
written_denotes = each_denotes Two

-- a name's place is a byte
pub place_small : (names : List (List ℕ)) (name : List ℕ) → list_any (bytes_eq name) names ≡ true → length (name_bytes names) ≤ 256 → name_place names name < 256
unfolding name_bytes
place_small names name there few =
    let place = placed names name there in
    omega (arith, few, place.starts, ap length place.whole, length-append place.before (name ++ 0 ∷ place.after), length-append name (0 ∷ place.after))
