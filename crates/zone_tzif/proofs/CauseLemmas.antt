-- Spans that are kept, each kind and each name once, and what refuses a file.
use Rattle.std.proofs.Common.{◌≡◌, ◌≢◌, ℕ, zero, suc, ◌+◌, ◌-◌, ◌<◌, ◌≤◌, ℤ, pos, int_lt, Bool, true, false, cond, ◌&&◌, List, [], ◌∷◌, ◌++◌, length, drop, map, get_or, nat_le, Some, None, refl, sym, ap, ◌∙◌, arith, length-append, length-drop}
use Rattle.std.proofs.lemmas.{Bool.Decides.{nat_tests}, Simd.{map-map}, List.{drop_more, drop_all, length-map}}
use Rattle.std.specs.{Prelude.{bytes_eq}, List.{list_all, list_any, slice_index_or}}
use Rattle.zone_spans.specs.Entries.{Entry}
use Rattle.tz_lookup.specs.{Sets.{shift_of, shifts_of}, Spans.{shift_at}, declared.set.FixedTimespanSet.{FixedTimespanSet}}
use Rattle.zone_tzif_core.specs.{Tzif.{added, are_names, are_times, each_once, first_fault, is_same, kinds_of, name_bytes, names_of, write_fault}, Zones.{KindValue, go_up, rises}}
use Rattle.zone_tzif_core.specs.declared.values.WriteFault.TheVariants as write
use Rattle.zone_tzif.specs.{Causes.{kind_in, name_in, names_in}, Values.{change_by, kind_by, value_by, value_of}, declared.convert.Saves.{Saves}, declared.convert.Saves.TheVariants.{Above}}

-- ---- items that are kept once

-- with the next item
pub once_more : {A : Type 0} (same : A → A → Bool) (items grown left rest whole : List A) (x : A) → left ≡ x ∷ rest → grown ≡ added same items x
    → each_once same items left ≡ whole → each_once same grown rest ≡ whole
once_more same items grown left rest whole x front at is = ap (λ l. each_once same l rest) at ∙ sym (ap (each_once same items) front) ∙ is

longer : {A : Type 0} (same : A → A → Bool) (items : List A) (x : A) → length items ≤ length (added same items x)
longer same items x = by_test (list_any (same x) items)
  where
    by_test : (t : Bool) → length items ≤ length (cond t items (items ++ x ∷ []))
    by_test true = omega arith
    by_test false = omega (arith, length-append items (x ∷ []))

-- none is lost
pub once_longer : {A : Type 0} (same : A → A → Bool) (items left : List A) → length items ≤ length (each_once same items left)
once_longer same items [] = omega arith
once_longer same items (x ∷ left) = omega (arith, longer same items x, once_longer same (added same items x) left)

-- ---- tests of numbered items, from a place on

abbrev pub AnyLeft : {A : Type 0} → (ℕ → A) → (A → Bool) → List ℕ → ℕ → Type 0
AnyLeft view test numbers i = list_any test (map view (drop i numbers)) ≡ list_any test (map view numbers)

abbrev pub AllLeft : {A : Type 0} → (ℕ → A) → (A → Bool) → List ℕ → ℕ → Type 0
AllLeft view test numbers i = list_all test (map view (drop i numbers)) ≡ list_all test (map view numbers)

-- ---- the kinds of a set

abbrev pub entry_kinds : Saves → List Entry → List KindValue
entry_kinds saves entries = map (λ change. change.1) (map (change_by saves) entries)

abbrev pub all_kinds : Saves → FixedTimespanSet → List KindValue
all_kinds saves set = kind_by saves set.first ∷ entry_kinds saves set.others

entry_left : (saves : Saves) (entries : List Entry) (default : Entry) (i : ℕ) → i < length entries
    → drop i (entry_kinds saves entries) ≡ kind_by saves (slice_index_or entries i default).1 ∷ drop (suc i) (entry_kinds saves entries)
entry_left saves [] default i l = absurd (omega (arith, l))
entry_left saves (e ∷ es) default zero l = refl
entry_left saves (e ∷ es) default (suc i) l = entry_left saves es default i (omega (arith, l))

kind_left : (saves : Saves) (set : FixedTimespanSet) (k : ℕ) → k ≤ length set.others
    → drop k (all_kinds saves set) ≡ kind_in saves set k ∷ drop (suc k) (all_kinds saves set)
kind_left saves set zero l = refl
kind_left saves set (suc i) l = entry_left saves set.others (pos 0, set.first) i (omega (arith, l))

next : (n : ℕ) → suc n ≡ n + 1
next n = omega arith

-- the kinds of the spans so far, and those that are left, are all
abbrev pub KindsSoFar : Saves → FixedTimespanSet → ℕ → List ℕ → Type 0
KindsSoFar saves set k numbers = each_once is_same (map (kind_in saves set) numbers) (drop k (all_kinds saves set)) ≡ kinds_of (value_by saves set [])

module _ (saves : Saves) (set : FixedTimespanSet) where
  pub kinds_begin : (numbers : List ℕ) → numbers ≡ [] → KindsSoFar saves set 0 numbers
  unfolding kinds_of value_by
  kinds_begin numbers none = ap (λ l. each_once is_same (map (kind_in saves set) l) (all_kinds saves set)) none

  pub kinds_more : (k : ℕ) (numbers grown : List ℕ) → k ≤ length set.others
      → map (kind_in saves set) grown ≡ added is_same (map (kind_in saves set) numbers) (kind_in saves set k) → KindsSoFar saves set k numbers
      → KindsSoFar saves set (k + 1) grown
  kinds_more k numbers grown l more is =
      once_more is_same _ _ (drop k (all_kinds saves set)) (drop (k + 1) (all_kinds saves set)) _ (kind_in saves set k)
      (kind_left saves set k l ∙ ap (λ n. kind_in saves set k ∷ drop n (all_kinds saves set)) (next k)) more is

  pub kinds_many : (k : ℕ) (numbers : List ℕ) → k ≤ length set.others
      → 256 < length (added is_same (map (kind_in saves set) numbers) (kind_in saves set k)) → KindsSoFar saves set k numbers
      → 256 < length (kinds_of (value_by saves set []))
  kinds_many k numbers l many is =
      let all = ap length (once_more is_same _ _ (drop k (all_kinds saves set)) (drop (suc k) (all_kinds saves set)) _ (kind_in saves set k)
      (kind_left saves set k l) refl is) in
      omega (arith, many, all, once_longer is_same (added is_same (map (kind_in saves set) numbers) (kind_in saves set k)) (drop (suc k) (all_kinds saves set)))

  pub kinds_end : (k : ℕ) (numbers : List ℕ) → length set.others < k → KindsSoFar saves set k numbers
      → map (kind_in saves set) numbers ≡ kinds_of (value_by saves set [])
  kinds_end k numbers over is =
      let one : length (entry_kinds saves set.others) ≡ length (map (change_by saves) set.others) = length-map _ _ in
      let two : length (map (change_by saves) set.others) ≡ length set.others = length-map _ _ in
      sym (ap (each_once is_same (map (kind_in saves set) numbers)) (drop_all k (all_kinds saves set) (omega (arith, one, two, over)))) ∙ is

  -- names of kinds are those of spans
  pub names_are : (kinds : List ℕ) → names_of (map (kind_in saves set) kinds) ≡ names_in set kinds
  unfolding names_of
  names_are kinds = ap (each_once bytes_eq []) (map-map (λ (kind : KindValue). kind.name) (kind_in saves set) kinds)

-- ---- their names

abbrev pub NamesSoFar : FixedTimespanSet → List ℕ → ℕ → List ℕ → Type 0
NamesSoFar set kinds i names = each_once bytes_eq (map (name_in set) names) (map (name_in set) (drop i kinds)) ≡ names_in set kinds

module _ (set : FixedTimespanSet) (kinds : List ℕ) (i : ℕ) (names : List ℕ) where
  pub names_end : length kinds ≤ i → NamesSoFar set kinds i names → map (name_in set) names ≡ names_in set kinds
  names_end over is = sym (ap (λ l. each_once bytes_eq (map (name_in set) names) (map (name_in set) l)) (drop_all i kinds over)) ∙ is

-- ---- what they take

-- the bytes of the names that are left against the room that is left
abbrev pub FitsSoFar : (ℕ → List ℕ) → List ℕ → ℕ → ℕ → Type 0
FitsSoFar view numbers i left = nat_le (length (name_bytes (map view (drop i numbers)))) left ≡ nat_le (length (name_bytes (map view numbers))) 256

one_name : (name : List ℕ) (names : List (List ℕ)) → length (name_bytes (name ∷ names)) ≡ length name + 1 + length (name_bytes names)
unfolding name_bytes
one_name name names = omega (arith, length-append (name ++ 0 ∷ []) (name_bytes names), length-append name (0 ∷ []))

module _ (view : ℕ → List ℕ) (numbers : List ℕ) (i n d left : ℕ) (within : i < length numbers) (at : n ≡ get_or numbers i d) (is : FitsSoFar view numbers i left) where
  fits_front : map view (drop i numbers) ≡ view n ∷ map view (drop (i + 1) numbers)
  fits_front = ap (map view) (drop_more numbers i d within ∙ ap (λ y. y ∷ drop (i + 1) numbers) (sym at))

  taken : length (name_bytes (map view (drop i numbers))) ≡ length (view n) + 1 + length (name_bytes (map view (drop (i + 1) numbers)))
  taken = ap (λ l. length (name_bytes l)) fits_front ∙ one_name (view n) (map view (drop (i + 1) numbers))

  pub fits_not : (size : ℕ) → size ≡ length (view n) → left ≤ size → false ≡ nat_le (length (name_bytes (map view numbers))) 256
  fits_not size same over =
      let out : false ≡ nat_le (length (name_bytes (map view (drop i numbers)))) left = grind (arith, nat_tests, taken, same, over) in
      out ∙ is

  pub fits_more : (size after : ℕ) → size ≡ length (view n) → size < left → after ≡ left - (size + 1) → FitsSoFar view numbers (i + 1) after
  fits_more size after same room less =
      let here : nat_le (length (name_bytes (map view (drop (i + 1) numbers)))) after ≡ nat_le (length (name_bytes (map view (drop i numbers)))) left =
      grind (arith, nat_tests, taken, same, room, less) in
      here ∙ is

pub fits_end : (view : ℕ → List ℕ) (numbers : List ℕ) (i left : ℕ) → length numbers ≤ i → FitsSoFar view numbers i left
    → true ≡ nat_le (length (name_bytes (map view numbers))) 256
unfolding name_bytes
fits_end view numbers i left over is =
    let none : true ≡ nat_le 0 left = grind (arith, nat_tests) in
    none ∙ sym (ap (λ l. nat_le (length (name_bytes (map view l))) left) (drop_all i numbers over)) ∙ is

-- ---- the times

abbrev pub times_of : List Entry → List ℤ
times_of entries = map (λ change. change.0) (map (change_by Above) entries)

time_left : (entries : List Entry) (i : ℕ) → i < length entries
    → drop i (times_of entries) ≡ (shift_at (map shift_of entries) i).0 ∷ drop (suc i) (times_of entries)
time_left [] i l = absurd (omega (arith, l))
time_left (e ∷ es) zero l = refl
time_left (e ∷ es) (suc i) l = time_left es i (omega (arith, l))

-- the times rise where they do from the last one seen
abbrev pub RiseSoFar : List Entry → ℕ → Type 0
RiseSoFar entries i = go_up (drop (i - 1) (times_of entries)) ≡ go_up (times_of entries)

up_pair : (times : List ℤ) (x y : ℤ) (rest : List ℤ) → times ≡ x ∷ y ∷ rest → go_up times ≡ (int_lt x y && go_up (y ∷ rest))
up_pair times x y rest e = rw e refl

up_step : (entries : List Entry) (k : ℕ) → k + 1 < length entries → go_up (drop k (times_of entries))
    ≡ (int_lt (shift_at (map shift_of entries) k).0 (shift_at (map shift_of entries) (k + 1)).0 && go_up (drop (k + 1) (times_of entries)))
up_step entries k within =
    let x = (shift_at (map shift_of entries) k).0 in
    let y = (shift_at (map shift_of entries) (k + 1)).0 in
    let here = time_left entries k (omega arith) ∙ ap (λ n. x ∷ drop n (times_of entries)) (next k) in
    let there = time_left entries (k + 1) within in
    up_pair (drop k (times_of entries)) x y (drop (suc (k + 1)) (times_of entries)) (here ∙ ap (λ l. x ∷ l) there)
    ∙ ap (λ l. int_lt x y && go_up l) (sym there)

module _ (set : FixedTimespanSet) (i : ℕ) (some : 1 ≤ i) (within : i < length set.others) (is : RiseSoFar set.others i) (b : Bool)
    (test : b ≡ int_lt (shift_at (shifts_of set) (i - 1)).0 (shift_at (shifts_of set) (i - 1 + 1)).0) where
  rise_step : b && go_up (drop i (times_of set.others)) ≡ go_up (times_of set.others)
  rise_step =
      let back : i - 1 + 1 ≡ i = omega arith in
      ap (λ t. t && go_up (drop i (times_of set.others))) test
      ∙ ap (λ n. int_lt (shift_at (shifts_of set) (i - 1)).0 (shift_at (shifts_of set) (i - 1 + 1)).0 && go_up (drop n (times_of set.others))) (sym back)
      ∙ sym (up_step set.others (i - 1) (omega (arith, within, some))) ∙ is

  pub rise_not : false ≡ b → false ≡ rises (value_of set []).rest
  unfolding value_by
  rise_not falls = ap (λ t. t && go_up (drop i (times_of set.others))) falls ∙ rise_step

  pub rise_more : true ≡ b → RiseSoFar set.others (i + 1)
  rise_more up =
      let back : i + 1 - 1 ≡ i = omega arith in
      ap (λ n. go_up (drop n (times_of set.others))) back ∙ ap (λ t. t && go_up (drop i (times_of set.others))) up ∙ rise_step

up_short : (times : List ℤ) → length times ≤ 1 → true ≡ go_up times
up_short [] l = refl
up_short (x ∷ []) l = refl
up_short (x ∷ y ∷ times) l = absurd (omega (arith, l))

pub rise_end : (set : FixedTimespanSet) (i : ℕ) → 1 ≤ i → length set.others ≤ i → RiseSoFar set.others i → true ≡ rises (value_of set []).rest
unfolding value_by
rise_end set i some over is =
    let one : length (times_of set.others) ≡ length (map (change_by Above) set.others) = length-map _ _ in
    let two : length (map (change_by Above) set.others) ≡ length set.others = length-map _ _ in
    up_short (drop (i - 1) (times_of set.others)) (omega (arith, one, two, some, over, length-drop (i - 1) (times_of set.others))) ∙ is

pub times_are : (set : FixedTimespanSet) (r f : Bool) (count : ℕ) → r ≡ rises (value_of set []).rest → count ≡ length set.others → f ≡ nat_le count 4294967295
    → (r && f) ≡ are_times (value_of set []).rest
unfolding are_times value_by
times_are set r f count rise long few =
    let two : length (map (change_by Above) set.others) ≡ length set.others = length-map _ _ in
    (λ k. rise k && (few ∙ ap (λ n. nat_le n 4294967295) (long ∙ sym two)) k)

same_seconds : (saves : Saves) (entries : List Entry) → map (λ change. change.0) (map (change_by saves) entries) ≡ times_of entries
same_seconds saves [] = refl
same_seconds saves (e ∷ es) = ap (λ l. e.0 ∷ l) (same_seconds saves es)

-- whatever saving is daylight saving time
pub same_times : (saves : Saves) (set : FixedTimespanSet) → are_times (value_by saves set []).rest ≡ are_times (value_of set []).rest
unfolding are_times value_by
same_times saves set =
    let one : length (map (change_by saves) set.others) ≡ length set.others = length-map _ _ in
    let two : length (map (change_by Above) set.others) ≡ length set.others = length-map _ _ in
    (λ k. go_up (same_seconds saves set.others k) && nat_le ((one ∙ sym two) k) 4294967295)

-- ---- the cause

-- one that is refused neither for an offset nor for the footer is refused by the first of the other tests
by_tests : (t y n o f : Bool) → first_fault t y n o f ≢ Some write.Offset → first_fault t y n o f ≢ Some write.Footer → t ≡ true → y ≡ true → n ≡ true
    → first_fault t y n o f ≡ None
by_tests true true true true true offset footer a b c = refl
by_tests true true true true false offset footer a b c = absurd (footer refl)
by_tests true true true false f offset footer a b c = absurd (offset refl)
by_tests true true false o f offset footer a b c = absurd cc
by_tests true false n o f offset footer a b c = absurd cc
by_tests false y n o f offset footer a b c = absurd cc

module _ (saves : Saves) (set : FixedTimespanSet) (footer : List ℕ) where
  pub times_refuse : false ≡ are_times (value_by saves set []).rest → write_fault (value_by saves set footer) ≡ Some write.Times
  unfolding write_fault value_by
  times_refuse fall = rw (← fall) refl

  pub kinds_refuse : are_times (value_by saves set []).rest ≡ true → 256 < length (kinds_of (value_by saves set [])) → write_fault (value_by saves set footer) ≡ Some write.Types
  unfolding write_fault value_by kinds_of
  kinds_refuse times many =
      let more : nat_le (length (kinds_of (value_by saves set []))) 256 ≡ false = grind (arith, nat_tests, many) in
      rw (times, more) refl

  pub names_refuse : are_times (value_by saves set []).rest ≡ true → (kinds : List KindValue) → kinds ≡ kinds_of (value_by saves set []) → length kinds ≤ 256
      → false ≡ are_names (names_of kinds) → write_fault (value_by saves set footer) ≡ Some write.Names
  unfolding write_fault value_by kinds_of
  names_refuse times kinds are few named =
      let less : nat_le (length (kinds_of (value_by saves set []))) 256 ≡ true = grind (arith, nat_tests, few, ap length are) in
      let refused : are_names (names_of (kinds_of (value_by saves set []))) ≡ false = sym (named ∙ ap (λ k. are_names (names_of k)) are) in
      rw (times, less, refused) refl

  pub none_refuses : are_times (value_by saves set []).rest ≡ true → (kinds : List KindValue) → kinds ≡ kinds_of (value_by saves set []) → length kinds ≤ 256
      → true ≡ are_names (names_of kinds) → write_fault (value_by saves set footer) ≢ Some write.Offset → write_fault (value_by saves set footer) ≢ Some write.Footer
      → write_fault (value_by saves set footer) ≡ None
  unfolding write_fault value_by kinds_of
  none_refuses times kinds are few named offset line =
      let less : nat_le (length (kinds_of (value_by saves set []))) 256 ≡ true = grind (arith, nat_tests, few, ap length are) in
      let named_is : are_names (names_of (kinds_of (value_by saves set []))) ≡ true = sym (named ∙ ap (λ k. are_names (names_of k)) are) in
      by_tests _ _ _ _ _ offset line times less named_is
