-- What is read from a file is what it denotes.
use Rattle.std.proofs.Common.{◌≡◌, ℕ, zero, suc, ◌+◌, ◌-◌, ◌*◌, ◌<◌, ◌≤◌, ℤ, Bool, true, false, cond, not, ◌&&◌, List, [], ◌∷◌, ◌++◌, length, take, drop, get_or, Option, Some, None, option_map, option_and_then, slice_get, slice_range, refl, sym, ap, subst, ◌∙◌, arith, nat_eq, nat_le, nat_lt, append_assoc, append-nil, ltb-true, length-drop, take_while}
use Rattle.std.proofs.lemmas.{Bool.{and_parts}, Bool.Decides.{nat_tests}, List.{take-append-drop, length-take-le, nil_from_length, drop_more, drop_all}, List.Sums.{prefix_len_stops, take_while-cons}, Option.{cond_some, same_Some}, Str.{IsUtf8-from_is_utf8}}
use Rattle.std.proofs.Math.Nat.{mul-zero}
use Rattle.std.specs.{List.{list_all, prefix_len}, Str.{IsUtf8, is_utf8}}
use Rattle.zone_tzif_core.specs.{Zones.{KindValue, ZoneValue, is_small, rises}, Numbers.{four_of}, Format.{begins_well, block_len, is_only, suits, is_one_line}}
use Rattle.zone_tzif_core.specs.Reading.{Cuts, cut, header_at, text_in, between, end_in, footer_in, before_zero, name_in, kind_in, kinds_in, shifts_in, block_in, second_in, parts_in, said_parts, joined_in, said_in, time_of, time_size, zone_in}
use Rattle.zone_tzif_core.specs.{Denotes.{IsHeader, IsName, IsKind, AreKinds, no_kind, a_kind, AreShifts, no_shift, a_shift, IsZoneFile, Says, zone_file, old_file}, declared.header.Header.{Header}}
use Rattle.zone_tzif_core.proofs.AgainLemmas.{IsRead}

pub bind_some : {A B : Type 0} (f : A → Option B) (o : Option A) (y : B) → option_and_then f o ≡ Some y → (x : A) × (o ≡ Some x) × (f x ≡ Some y)
bind_some f (Some x) y e = (x, refl, e)
bind_some f None y e = absurd cc

map_some : {A B : Type 0} (f : A → B) (o : Option A) (y : B) → option_map f o ≡ Some y → (x : A) × (o ≡ Some x) × (f x ≡ y)
map_some f (Some x) y e = (x, refl, same_Some _ _ e)
map_some f None y e = absurd cc

-- what a branch gives that else gives nothing
chosen : {A : Type 0} (b : Bool) (o : Option A) (y : A) → cond b o None ≡ Some y → (b ≡ true) × (o ≡ Some y)
chosen true o y e = (refl, e)
chosen false o y e = absurd cc

cut_found : (n : ℕ) (bytes : List ℕ) (y : List ℕ × List ℕ) → cut n bytes ≡ Some y → (bytes ≡ y.0 ++ y.1) × (length y.0 ≡ n)
unfolding cut
cut_found n bytes y e =
    let both = cond_some (nat_le n (length bytes)) _ y e in
    let enough : n ≤ length bytes = grind (arith, nat_tests, both.0) in
    let front : take n bytes ≡ y.0 = ap (λ (p : List ℕ × List ℕ). p.0) both.1 in
    let back : drop n bytes ≡ y.1 = ap (λ (p : List ℕ × List ℕ). p.1) both.1 in
    (sym (take-append-drop n bytes) ∙ ap (λ l. l ++ drop n bytes) front ∙ ap (λ l. y.0 ++ l) back, ap length (sym front) ∙ length-take-le n bytes enough)

pub header_found : (bytes : List ℕ) (y : Header × List ℕ) → header_at bytes ≡ Some y → (head : List ℕ) × (bytes ≡ head ++ y.1) × IsHeader head y.0
unfolding header_at
header_found bytes y e =
    let head = bind_some _ (cut 44 bytes) y e in
    let parts = cut_found 44 bytes head.0 head.1 in
    let both = cond_some (begins_well head.0.0) _ y head.2 in (
      head.0.0,
      parts.0 ∙ ap (λ (p : Header × List ℕ). head.0.0 ++ p.1) both.1,
      record {
        long = parts.1;
        begins = both.0;
        read = ap (λ (p : Header × List ℕ). p.0) both.1;
      },
    )

text_found : (bytes text : List ℕ) → text_in bytes ≡ Some text → (bytes ≡ text) × IsUtf8 text
unfolding text_in
text_found bytes text e =
    let both = cond_some (is_utf8 bytes) bytes text e in
    (both.1, subst IsUtf8 both.1 (IsUtf8-from_is_utf8 bytes both.0))

-- what passes at the front passes
front_passes : (p : ℕ → Bool) (bytes : List ℕ) → list_all p (take_while p bytes) ≡ true
front_passes p [] = refl
front_passes p (c ∷ bytes) = rw take_while-cons (by_test (p c) refl (front_passes p bytes))
  where
    by_test : (t : Bool) → p c ≡ t → list_all p (take_while p bytes) ≡ true → list_all p (cond t (c ∷ take_while p bytes) []) ≡ true
    by_test true e more = rw e more
    by_test false e more = refl

-- what stands before the first zero
zero_found : (bytes : List ℕ) → prefix_len (λ c. not (nat_eq c 0)) bytes < length bytes → (bytes ≡ take (prefix_len (λ c. not (nat_eq c 0)) bytes) bytes ++ 0 ∷ drop (prefix_len (λ c. not (nat_eq c 0)) bytes + 1) bytes) × (list_all (λ c. not (nat_eq c 0)) (take (prefix_len (λ c. not (nat_eq c 0)) bytes) bytes) ≡ true)
zero_found bytes within =
    let n = prefix_len (λ c. not (nat_eq c 0)) bytes in
    let stop : get_or bytes n 0 ≡ 0 = grind (arith, nat_tests, prefix_len_stops (λ c. not (nat_eq c 0)) bytes 0 within) in
    (sym (take-append-drop n bytes) ∙ ap (λ l. take n bytes ++ l) (drop_more bytes n 0 within ∙ ap (λ c. c ∷ drop (n + 1) bytes) stop), front_passes (λ c. not (nat_eq c 0)) bytes)

before_zero_found : (bytes name : List ℕ) → before_zero bytes ≡ Some name → (after : List ℕ) × (bytes ≡ name ++ 0 ∷ after) × (list_all (λ c. not (nat_eq c 0)) name ≡ true)
unfolding before_zero
before_zero_found bytes name e =
    let n = prefix_len (λ c. not (nat_eq c 0)) bytes in
    let found = map_some (λ n. take n bytes) (cond (nat_lt n (length bytes)) (Some n) None) name e in
    let place = cond_some (nat_lt n (length bytes)) n found.0 found.1 in
    let zero_is = zero_found bytes (ltb-true _ _ place.0) in
    let same : take n bytes ≡ name = ap (λ k. take k bytes) place.1 ∙ found.2 in
    (drop (n + 1) bytes, zero_is.0 ∙ ap (λ l. l ++ 0 ∷ drop (n + 1) bytes) same, subst (λ l. list_all (λ c. not (nat_eq c 0)) l ≡ true) same zero_is.1)

name_found : (names : List ℕ) (place : ℕ) (name : List ℕ) → name_in names place ≡ Some name → IsName names place name
unfolding name_in
name_found names place name e =
    let parts = bind_some _ (cut place names) name e in
    let front = cut_found place names parts.0 parts.1 in
    let zero_is = bind_some _ (before_zero parts.0.1) name parts.2 in
    let text = text_found zero_is.0 name zero_is.2 in
    let ends = before_zero_found parts.0.1 zero_is.0 zero_is.1 in
    record {
      before = parts.0.0;
      after = ends.0;
      whole = front.0 ∙ ap (λ l. parts.0.0 ++ l) ends.1 ∙ ap (λ l. parts.0.0 ++ (l ++ 0 ∷ ends.0)) text.0;
      starts = front.1;
      no_zero = subst (λ l. list_all (λ c. not (nat_eq c 0)) l ≡ true) text.0 ends.2;
      text = text.1;
    }

-- its name stands at the place that the record says
pub named_found : (names bytes : List ℕ) (kind : KindValue) → kind_in names bytes ≡ Some kind → IsName names (get_or bytes 5 0) kind.name
unfolding kind_in
named_found names bytes kind e =
    let step = chosen (is_small (four_of bytes) && nat_le (get_or bytes 4 0) 1) _ kind e in
    let name = bind_some _ (name_in names (get_or bytes 5 0)) kind step.1 in
    subst (λ (k : KindValue). IsName names (get_or bytes 5 0) k.name) (same_Some _ kind name.2) (name_found names (get_or bytes 5 0) name.0 name.1)

kind_found : (names bytes : List ℕ) (kind : KindValue) → length bytes ≡ 6 → kind_in names bytes ≡ Some kind → IsKind names bytes kind
unfolding kind_in
kind_found names bytes kind long e =
    let step = chosen (is_small (four_of bytes) && nat_le (get_or bytes 4 0) 1) _ kind e in
    let tests = and_parts (is_small (four_of bytes)) _ step.0 in
    let name = bind_some _ (name_in names (get_or bytes 5 0)) kind step.1 in
    let same = same_Some _ kind name.2 in
    record {
      long = long;
      offset = ap (λ (k : KindValue). k.utoff) same;
      small = subst (λ (k : KindValue). is_small k.utoff ≡ true) same tests.0;
      flag = grind (arith, nat_tests, tests.1);
      is_dst = ap (λ (k : KindValue). k.is_dst) same;
      named = named_found names bytes kind e;
    }

kinds_found : (names : List ℕ) (n : ℕ) (records : List ℕ) (kinds : List KindValue) → length records ≡ 6 * n → kinds_in names n records ≡ Some kinds → AreKinds names records kinds × (length kinds ≡ n)
unfolding kinds_in
kinds_found names zero records kinds long e =
    let none = same_Some [] kinds e in
    (subst (λ l. AreKinds names l kinds) (sym (nil_from_length records long)) (subst (λ l. AreKinds names [] l) none no_kind), ap length (sym none))
kinds_found names (suc n) records kinds long e =
    let kind = bind_some _ (kind_in names (take 6 records)) kinds e in
    let more = bind_some _ (kinds_in names n (drop 6 records)) kinds kind.2 in
    let same = same_Some (kind.0 ∷ more.0) kinds more.2 in
    let enough : 6 ≤ length records = omega (arith, long) in
    let left : length (drop 6 records) ≡ 6 * n = omega (arith, long, length-drop 6 records) in
    let rest = kinds_found names n (drop 6 records) more.0 left more.1 in
    let is = kind_found names (take 6 records) kind.0 (length-take-le 6 records enough) kind.1 in
    let all : AreKinds names records (kind.0 ∷ more.0) = subst (λ l. AreKinds names l (kind.0 ∷ more.0)) (take-append-drop 6 records) (a_kind is rest.0) in
    let size : length (kind.0 ∷ more.0) ≡ suc n = omega (arith, rest.1) in
    (subst (λ l. AreKinds names records l) same all, ap length (sym same) ∙ size)

-- the bytes of the first of times, and those of the others
first_time : (wide : Bool) (n long : ℕ) → long ≡ time_size wide * suc n → (time_size wide ≤ long) × (long - time_size wide ≡ time_size wide * n)
first_time true n long e = (omega (arith, e), omega (arith, e))
first_time false n long e = (omega (arith, e), omega (arith, e))

shifts_found : (wide : Bool) (kinds : List KindValue) (times numbers : List ℕ) (shifts : List (ℤ × KindValue)) → length times ≡ time_size wide * length numbers
    → shifts_in wide kinds times numbers ≡ Some shifts → AreShifts (time_size wide) (time_of wide) kinds times numbers shifts
unfolding shifts_in
shifts_found wide kinds times [] shifts long e =
    subst (λ l. AreShifts (time_size wide) (time_of wide) kinds l [] shifts) (sym (nil_from_length times (long ∙ mul-zero (time_size wide))))
    (subst (λ l. AreShifts (time_size wide) (time_of wide) kinds [] [] l) (same_Some [] shifts e) no_shift)
shifts_found wide kinds times (number ∷ numbers) shifts long e =
    let size = time_size wide in
    let kind = bind_some _ (slice_get kinds number) shifts e in
    let more = bind_some _ (shifts_in wide kinds (drop size times) numbers) shifts kind.2 in
    let same = same_Some ((time_of wide (take size times), kind.0) ∷ more.0) shifts more.2 in
    let fits = first_time wide (length numbers) (length times) long in
    let rest = shifts_found wide kinds (drop size times) numbers more.0 (length-drop size times ∙ fits.1) more.1 in
    let all : AreShifts size (time_of wide) kinds times (number ∷ numbers) ((time_of wide (take size times), kind.0) ∷ more.0) =
    subst (λ l. AreShifts size (time_of wide) kinds l (number ∷ numbers) ((time_of wide (take size times), kind.0) ∷ more.0)) (take-append-drop size times)
    (a_shift (take size times) (length-take-le size times fits.0) kind.1 rest) in
    subst (λ l. AreShifts size (time_of wide) kinds times (number ∷ numbers) l) same all

two_ends : (bytes : List ℕ) → 2 ≤ length bytes → get_or bytes 0 0 ≡ 10 → get_or bytes (length bytes - 1) 0 ≡ 10 → bytes ≡ 10 ∷ slice_range bytes 1 (length bytes - 1) ++ 10 ∷ []
two_ends [] some first last = absurd (omega arith)
two_ends (c ∷ rest) some first last =
    let m = length rest - 1 in
    let size : length (c ∷ rest) - 1 - 1 ≡ m = omega arith in
    let place : length (c ∷ rest) - 1 ≡ suc m = omega arith in
    let end : get_or rest m 0 ≡ 10 = sym (ap (λ n. get_or (c ∷ rest) n 0) place) ∙ last in
    let inside : m < length rest = omega arith in
    let over : drop (m + 1) rest ≡ [] = drop_all (m + 1) rest (omega arith) in
    let back : drop m rest ≡ 10 ∷ [] = drop_more rest m 0 inside ∙ ap (λ b. b ∷ drop (m + 1) rest) end ∙ ap (λ l. 10 ∷ l) over in
    let whole : rest ≡ take m rest ++ 10 ∷ [] = sym (take-append-drop m rest) ∙ ap (λ l. take m rest ++ l) back in
    ap (λ b. b ∷ rest) first ∙ ap (λ l. 10 ∷ l) (whole ∙ ap (λ n. take n rest ++ 10 ∷ []) (sym size))

between_found : (bytes inner : List ℕ) → between bytes ≡ Some inner → bytes ≡ 10 ∷ inner ++ 10 ∷ []
unfolding between
between_found bytes inner e =
    let tests = cond_some (nat_le 2 (length bytes) && nat_eq (get_or bytes 0 0) 10 && nat_eq (get_or bytes (length bytes - 1) 0) 10) _ inner e in
    let outer = and_parts (nat_le 2 (length bytes) && nat_eq (get_or bytes 0 0) 10) _ tests.0 in
    let front = and_parts (nat_le 2 (length bytes)) _ outer.0 in
    let some : 2 ≤ length bytes = grind (arith, nat_tests, front.0) in
    let first : get_or bytes 0 0 ≡ 10 = grind (arith, nat_tests, front.1) in
    let last : get_or bytes (length bytes - 1) 0 ≡ 10 = grind (arith, nat_tests, outer.1) in
    two_ends bytes some first last ∙ ap (λ l. 10 ∷ l ++ 10 ∷ []) tests.1

footer_found : (bytes footer : List ℕ) → footer_in bytes ≡ Some footer → (bytes ≡ 10 ∷ footer ++ 10 ∷ []) × (is_one_line footer ≡ true) × IsUtf8 footer
unfolding footer_in
footer_found bytes footer e =
    let inner = bind_some _ (between bytes) footer e in
    let line = chosen (is_one_line inner.0) _ footer inner.2 in
    let text = text_found inner.0 footer line.1 in
    (between_found bytes inner.0 inner.1 ∙ ap (λ l. 10 ∷ l ++ 10 ∷ []) text.0, subst (λ l. is_one_line l ≡ true) text.0 line.0, text.1)

-- a cut of what is left is a cut of the whole
joined : (front next rest : List ℕ) {bytes left : List ℕ} → bytes ≡ front ++ left → left ≡ next ++ rest → bytes ≡ (front ++ next) ++ rest
joined front next rest a b = a ∙ ap (λ l. front ++ l) b ∙ sym (append_assoc front next rest)

-- the parts of a block, and what follows it
pub record IsCut (says : Header) (bytes : List ℕ) (cuts : Cuts) : Type 0 where
  pub flags : List ℕ
  pub end : List ℕ
  pub whole : bytes ≡ (cuts.times ++ cuts.numbers ++ cuts.records ++ cuts.names ++ flags) ++ end
  pub ends : end_in cuts.wide end ≡ Some cuts.footer
  pub count : cuts.kinds ≡ says.kind
  pub time_long : length cuts.times ≡ time_size cuts.wide * says.time
  pub time_count : length cuts.numbers ≡ says.time
  pub kind_long : length cuts.records ≡ 6 * says.kind
  pub char_count : length cuts.names ≡ says.char
  pub flag_count : length flags ≡ says.isstd + says.isut

pub block_found : (wide : Bool) (says : Header) (bytes : List ℕ) (cuts : Cuts) → block_in wide says bytes ≡ Some cuts → IsCut says bytes cuts × (cuts.wide ≡ wide)
unfolding block_in
block_found wide says bytes cuts e =
    let times = bind_some _ (cut (time_size wide * says.time) bytes) cuts e in
    let numbers = bind_some _ (cut says.time times.0.1) cuts times.2 in
    let records = bind_some _ (cut (6 * says.kind) numbers.0.1) cuts numbers.2 in
    let names = bind_some _ (cut says.char records.0.1) cuts records.2 in
    let flags = bind_some _ (cut (says.isstd + says.isut) names.0.1) cuts names.2 in
    let footer = bind_some _ (end_in wide flags.0.1) cuts flags.2 in
    let a = cut_found _ bytes times.0 times.1 in
    let b = cut_found _ times.0.1 numbers.0 numbers.1 in
    let c = cut_found _ numbers.0.1 records.0 records.1 in
    let d = cut_found _ records.0.1 names.0 names.1 in
    let f = cut_found _ names.0.1 flags.0 flags.1 in
    subst (λ (cuts : Cuts). IsCut says bytes cuts × (cuts.wide ≡ wide)) (same_Some _ cuts footer.2) (
      record {
        flags = flags.0.0;
        end = flags.0.1;
        whole = joined _ _ _ (joined _ _ _ (joined _ _ _ (joined _ _ _ a.0 b.0) c.0) d.0) f.0;
        ends = footer.1;
        count = refl;
        time_long = a.1;
        time_count = b.1;
        kind_long = c.1;
        char_count = d.1;
        flag_count = f.1;
      },
      refl,
    )

-- a block whose parts have a value
pub value_found : (wide : Bool) (says : Header) (bytes : List ℕ) (cuts : Cuts) (zone : ZoneValue) → block_in wide says bytes ≡ Some cuts
    → joined_in cuts ≡ Some zone → IsRead wide says bytes zone
unfolding joined_in
value_found wide says bytes cuts zone e value =
    let both = block_found wide says bytes cuts e in
    let d = both.0 in
    let kinds = bind_some _ (kinds_in cuts.names cuts.kinds cuts.records) zone value in
    let front = bind_some _ (slice_get kinds.0 0) zone kinds.2 in
    let shifts = bind_some _ (shifts_in cuts.wide kinds.0 cuts.times cuts.numbers) zone front.2 in
    let rising = cond_some (rises shifts.0) _ zone shifts.2 in
    let records : length cuts.records ≡ 6 * cuts.kinds = omega (arith, d.kind_long, d.count) in
    let times = d.time_long ∙ ap (λ n. time_size cuts.wide * n) (sym d.time_count) in
    let are = kinds_found cuts.names cuts.kinds cuts.records kinds.0 records kinds.1 in
    subst (λ w. IsRead w says bytes zone) both.1 (subst (IsRead cuts.wide says bytes) rising.1 (record {
      block = cuts.times ++ cuts.numbers ++ cuts.records ++ cuts.names ++ d.flags;
      end = d.end;
      kinds = kinds.0;
      whole = d.whole;
      block_is = record {
        times = cuts.times;
        numbers = cuts.numbers;
        records = cuts.records;
        names = cuts.names;
        flags = d.flags;
        whole = refl;
        time_count = d.time_count;
        kind_count = are.1 ∙ d.count;
        char_count = d.char_count;
        flag_count = d.flag_count;
        are_kinds = are.0;
        are_shifts = shifts_found cuts.wide kinds.0 cuts.times cuts.numbers shifts.0 times shifts.1;
      };
      ends = d.ends;
      rising = rising.0;
      first_kind = front.1;
    }))

-- what is read of two headers is denoted
two_found : (last : ℕ) (head bytes rest : List ℕ) (first : Header) (cuts : Cuts) (zone : ZoneValue) → bytes ≡ head ++ rest → IsHeader head first
    → second_in last first rest ≡ Some cuts → joined_in cuts ≡ Some zone → IsZoneFile last bytes zone
unfolding second_in
two_found last head bytes rest first cuts zone split is e value =
    let skipped = bind_some _ (cut (block_len first) rest) cuts e in
    let second = bind_some _ (header_at skipped.0.1) cuts skipped.2 in
    let suited = chosen (suits last first.version second.0.0) _ cuts second.2 in
    let b = cut_found (block_len first) rest skipped.0 skipped.1 in
    let c = header_found skipped.0.1 second.0 second.1 in
    let d = value_found true second.0.0 second.0.1 cuts zone suited.1 value in
    let f = footer_found d.end zone.footer d.ends in
    record {
      head = head;
      skipped = skipped.0.0;
      second_head = c.0;
      block = d.block;
      first_says = first;
      says = second.0.0;
      kinds = d.kinds;
      whole = joined _ _ _ (joined _ _ _ (joined _ _ _ split b.0) c.1) d.whole ∙ ap (λ l. (head ++ skipped.0.0 ++ c.0 ++ d.block) ++ l) f.0
          ∙ sym (append_assoc (head ++ skipped.0.0 ++ c.0 ++ d.block) (10 ∷ zone.footer) (10 ∷ []));
      first_header = is;
      first_length = b.1;
      second_header = c.2;
      suited = suited.0;
      block_is = d.block_is;
      rising = d.rising;
      first_kind = d.first_kind;
      one_line = f.1;
      text = f.2;
    }

pub denoted_found : (last : ℕ) (bytes : List ℕ) (zone : ZoneValue) → zone_in last bytes ≡ Some zone → IsZoneFile last bytes zone
unfolding zone_in parts_in
denoted_found last bytes zone e =
    let cuts = bind_some _ (parts_in last bytes) zone e in
    let first = bind_some _ (header_at bytes) cuts.0 cuts.1 in
    let a = header_found bytes first.0 first.1 in
    two_found last a.0 bytes first.0.1 first.0.0 cuts.0 zone a.1 a.2 first.2 cuts.2

-- nothing follows the block of a file of version 1
nothing_after : (end footer : List ℕ) → end_in false end ≡ Some footer → (end ≡ []) × (footer ≡ [])
nothing_after [] footer e = (refl, sym (same_Some [] footer e))
nothing_after (c ∷ end) footer e = absurd cc

-- what is read of a file of any version is said
pub said_found : (bytes : List ℕ) (zone : ZoneValue) → said_in bytes ≡ Some zone → Says bytes zone
unfolding said_in said_parts
said_found bytes zone e =
    let cuts = bind_some _ (said_parts bytes) zone e in
    let first = bind_some _ (header_at bytes) cuts.0 cuts.1 in
    let a = header_found bytes first.0 first.1 in
    by_test first.0.0 first.0.1 a.0 a.1 a.2 cuts.0 cuts.2 (is_only first.0.0) refl first.2
  where
    by_test : (says : Header) (rest head : List ℕ) → bytes ≡ head ++ rest → IsHeader head says → (cuts : Cuts) → joined_in cuts ≡ Some zone → (t : Bool) → is_only says ≡ t
        → cond t (block_in false says rest) (second_in 255 says rest) ≡ Some cuts → Says bytes zone
    by_test says rest head split is cuts value false only e = zone_file (two_found 255 head bytes rest says cuts zone split is e value)
    by_test says rest head split is cuts value true only e =
        let d = value_found false says rest cuts zone e value in
        let none = nothing_after d.end zone.footer d.ends in
        old_file (record {
          head = head;
          block = d.block;
          says = says;
          kinds = d.kinds;
          whole = split ∙ ap (λ l. head ++ l) (d.whole ∙ ap (λ l. d.block ++ l) none.0 ∙ append-nil d.block);
          header = is;
          only = only;
          block_is = d.block_is;
          rising = d.rising;
          first_kind = d.first_kind;
          no_footer = none.1;
        })
