-- Parts that pass have a value, and others have none.
use Rattle.std.proofs.Common.{◌≡◌, ℕ, zero, suc, ◌+◌, ◌-◌, ◌*◌, ◌<◌, ◌≤◌, ℤ, int_lt, Bool, true, false, cond, ◌&&◌, List, [], ◌∷◌, length, map, take, drop, get_or, Option, Some, None, is_some, option_map, option_and_then, slice_get, refl, sym, ap, ◌∙◌, arith, length-drop, nat_le, nat_lt}
use Rattle.std.proofs.lemmas.{Bool.Decides.{nat_tests}, List.{drop-drop}, Option.{cond_some, same_Some}}
use Rattle.std.specs.List.{list_all}
use Rattle.zone_tzif_core.specs.{Check.{passes, times_in}, Reading.{Cuts, kind_in, kinds_in, shifts_in, joined_in, said_in, said_parts, time_of, time_size}, Shown.{FaultsExactly}, Zones.{KindValue, ZoneValue, go_up, rises}}
use Rattle.zone_tzif_core.specs.declared.values.ReadFault.TheVariants.{Refused, NoMemory}
use Rattle.zone_tzif_core.proofs.{FoundLemmas.{bind_some}, LoopLemmas.{RiseFrom, up_short, up_step}}

-- two answers are there where each is
both : {A B C : Type 0} (f : A → B → C) (a : Option A) (b : Option B) → is_some (option_and_then (λ x. option_and_then (λ y. Some (f x y)) b) a) ≡ (is_some a && is_some b)
both f (Some x) (Some y) = refl
both f (Some x) None = refl
both f None b = refl

-- a test of what is there is the test of what it shows
pub seen : {A B : Type 0} (f : A → B) (o : Option A) (shown : Option B) (t : Bool) → option_map f o ≡ shown → is_some o ≡ t → t ≡ is_some shown
seen f (Some x) shown t e is = sym is ∙ ap is_some e
seen f None shown t e is = sym is ∙ ap is_some e

-- the kinds of one record more
kinds_step : (names : List ℕ) (n m : ℕ) (bytes rest : List ℕ) → n ≡ suc m → rest ≡ drop 6 bytes
    → is_some (kinds_in names n bytes) ≡ (is_some (kind_in names (take 6 bytes)) && is_some (kinds_in names m rest))
unfolding kinds_in
kinds_step names n m bytes rest count front = rw (count, front) (both (λ kind kinds. kind ∷ kinds) (kind_in names (take 6 bytes)) (kinds_in names m (drop 6 bytes)))

-- whether the records from one on are kinds
abbrev pub AreFrom : List ℕ → ℕ → List ℕ → ℕ → Type 0
AreFrom names count records i = is_some (kinds_in names (count - i) (drop (6 * i) records)) ≡ is_some (kinds_in names count records)

step : (names : List ℕ) (count : ℕ) (records : List ℕ) (i : ℕ) → i < count
    → is_some (kinds_in names (count - i) (drop (6 * i) records))
    ≡ (is_some (kind_in names (take (6 * i + 6 - 6 * i) (drop (6 * i) records))) && is_some (kinds_in names (count - (i + 1)) (drop (6 * (i + 1)) records)))
step names count records i within =
    let left : count - i ≡ suc (count - (i + 1)) = omega arith in
    let six : 6 ≡ 6 * i + 6 - 6 * i = omega arith in
    let next : 6 * i + 6 ≡ 6 * (i + 1) = omega arith in
    let rest : drop (6 * (i + 1)) records ≡ drop 6 (drop (6 * i) records) = sym (drop-drop 6 (6 * i) records ∙ ap (λ n. drop n records) next) in
    kinds_step names (count - i) (count - (i + 1)) (drop (6 * i) records) (drop (6 * (i + 1)) records) left rest
    ∙ ap (λ n. is_some (kind_in names (take n (drop (6 * i) records))) && is_some (kinds_in names (count - (i + 1)) (drop (6 * (i + 1)) records))) six

pub kinds_kept : (names : List ℕ) (count : ℕ) (records : List ℕ) (i : ℕ) → i < count
    → true ≡ is_some (kind_in names (take (6 * i + 6 - 6 * i) (drop (6 * i) records))) → AreFrom names count records i → AreFrom names count records (i + 1)
kinds_kept names count records i within is had =
    ap (λ t. t && is_some (kinds_in names (count - (i + 1)) (drop (6 * (i + 1)) records))) is ∙ sym (step names count records i within) ∙ had

pub kinds_refused : (names : List ℕ) (count : ℕ) (records : List ℕ) (i : ℕ) → i < count
    → false ≡ is_some (kind_in names (take (6 * i + 6 - 6 * i) (drop (6 * i) records))) → AreFrom names count records i → false ≡ is_some (kinds_in names count records)
kinds_refused names count records i within is had =
    ap (λ t. t && is_some (kinds_in names (count - (i + 1)) (drop (6 * (i + 1)) records))) is ∙ sym (step names count records i within) ∙ had

pub kinds_end : (names : List ℕ) (count : ℕ) (records : List ℕ) (i : ℕ) → count ≤ i → AreFrom names count records i → true ≡ is_some (kinds_in names count records)
unfolding kinds_in
kinds_end names count records i over had =
    let none : count - i ≡ 0 = omega (arith, over) in
    sym (ap (λ n. is_some (kinds_in names n (drop (6 * i) records))) none) ∙ had

times_long : (wide : Bool) (count : ℕ) (times : List ℕ) → length (times_in wide count times) ≡ count
unfolding times_in
times_long wide zero times = refl
times_long wide (suc n) times = ap suc (times_long wide n (drop (time_size wide) times))

next_place : (wide : Bool) (k : ℕ) → time_size wide + time_size wide * k ≡ time_size wide * suc k
next_place true k = omega arith
next_place false k = omega arith

first_place : (wide : Bool) → time_size wide * 0 ≡ 0
first_place true = refl
first_place false = refl

-- the time at a place
pub time_is : (wide : Bool) (count : ℕ) (times : List ℕ) (place : ℕ) (d : ℤ) → place < count
    → time_of wide (take (time_size wide) (drop (time_size wide * place) times)) ≡ get_or (times_in wide count times) place d
unfolding times_in
time_is wide zero times place d within = absurd (omega (arith, within))
time_is wide (suc n) times zero d within = ap (λ k. time_of wide (take (time_size wide) (drop k times))) (first_place wide)
time_is wide (suc n) times (suc k) d within =
    let size = time_size wide in
    ap (λ l. time_of wide (take size l)) (ap (λ m. drop m times) (sym (next_place wide k)) ∙ sym (drop-drop (size * k) size times))
    ∙ time_is wide n (drop size times) k d (omega (arith, within))

-- the bytes of a time are there
pub within_times : (wide : Bool) (count place long : ℕ) → long ≡ time_size wide * count → place < count → time_size wide * place + time_size wide ≤ long
within_times true count place long e within = omega (arith, e, within)
within_times false count place long e within = omega (arith, e, within)

rise_step : (wide : Bool) (count : ℕ) (times : List ℕ) (i : ℕ) (x y : ℤ) → 1 ≤ i → i < count
    → x ≡ time_of wide (take (time_size wide) (drop (time_size wide * (i - 1)) times)) → y ≡ time_of wide (take (time_size wide) (drop (time_size wide * i) times))
    → go_up (drop (i - 1) (times_in wide count times)) ≡ (int_lt x y && go_up (drop i (times_in wide count times)))
rise_step wide count times i x y some within first second =
    up_step (times_in wide count times) i x y x some (omega (arith, within, times_long wide count times))
    (first ∙ time_is wide count times (i - 1) x (omega (arith, within))) (second ∙ time_is wide count times i x within)

pub rise_kept : (wide : Bool) (count : ℕ) (times : List ℕ) (i : ℕ) (x y : ℤ) → 1 ≤ i → i < count
    → x ≡ time_of wide (take (time_size wide) (drop (time_size wide * (i - 1)) times)) → y ≡ time_of wide (take (time_size wide) (drop (time_size wide * i) times))
    → true ≡ int_lt x y → RiseFrom (times_in wide count times) i → RiseFrom (times_in wide count times) (i + 1)
rise_kept wide count times i x y some within first second before had =
    let now : i + 1 - 1 ≡ i = omega arith in
    ap (λ n. go_up (drop n (times_in wide count times))) now ∙ ap (λ t. t && go_up (drop i (times_in wide count times))) before
    ∙ sym (rise_step wide count times i x y some within first second) ∙ had

pub rise_refused : (wide : Bool) (count : ℕ) (times : List ℕ) (i : ℕ) (x y : ℤ) → 1 ≤ i → i < count
    → x ≡ time_of wide (take (time_size wide) (drop (time_size wide * (i - 1)) times)) → y ≡ time_of wide (take (time_size wide) (drop (time_size wide * i) times))
    → false ≡ int_lt x y → RiseFrom (times_in wide count times) i → false ≡ go_up (times_in wide count times)
rise_refused wide count times i x y some within first second before had =
    ap (λ t. t && go_up (drop i (times_in wide count times))) before ∙ sym (rise_step wide count times i x y some within first second) ∙ had

pub rise_end : (wide : Bool) (count : ℕ) (times : List ℕ) (i : ℕ) → 1 ≤ i → count ≤ i → RiseFrom (times_in wide count times) i → true ≡ go_up (times_in wide count times)
rise_end wide count times i some over had =
    up_short (drop (i - 1) (times_in wide count times)) (omega (arith, length-drop (i - 1) (times_in wide count times), times_long wide count times)) ∙ had

-- so many kinds
kinds_count : (names : List ℕ) (n : ℕ) (records : List ℕ) (kinds : List KindValue) → kinds_in names n records ≡ Some kinds → length kinds ≡ n
unfolding kinds_in
kinds_count names zero records kinds e = ap length (sym (same_Some [] kinds e))
kinds_count names (suc n) records kinds e =
    let kind = bind_some _ (kind_in names (take 6 records)) kinds e in
    let more = bind_some _ (kinds_in names n (drop 6 records)) kinds kind.2 in
    ap length (sym (same_Some (kind.0 ∷ more.0) kinds more.2)) ∙ ap suc (kinds_count names n (drop 6 records) more.0 more.1)

got : {A : Type 0} (xs : List A) (n : ℕ) → is_some (slice_get xs n) ≡ nat_lt n (length xs)
got [] n = grind (arith, nat_tests)
got (x ∷ xs) zero = grind (arith, nat_tests)
got (x ∷ xs) (suc n) = got xs n ∙ next n (length xs)
  where
    next : (n m : ℕ) → nat_lt n m ≡ nat_lt (suc n) (suc m)
    next n m = grind (arith, nat_tests)

-- there are changes where each number is that of a kind
shifts_pass : (wide : Bool) (kinds : List KindValue) (times numbers : List ℕ)
    → is_some (shifts_in wide kinds times numbers) ≡ list_all (λ number. nat_lt number (length kinds)) numbers
unfolding shifts_in
shifts_pass wide kinds times [] = refl
shifts_pass wide kinds times (number ∷ numbers) =
    let left = drop (time_size wide) times in
    let more = shifts_pass wide kinds left numbers in
    both (λ kind shifts. (time_of wide (take (time_size wide) times), kind) ∷ shifts) (slice_get kinds number) (shifts_in wide kinds left numbers)
    ∙ (λ i. got kinds number i && more i)

-- and their times are those of the bytes
shifts_times : (wide : Bool) (kinds : List KindValue) (times numbers : List ℕ) (shifts : List (ℤ × KindValue)) → shifts_in wide kinds times numbers ≡ Some shifts
    → map (λ shift. shift.0) shifts ≡ times_in wide (length numbers) times
unfolding shifts_in times_in
shifts_times wide kinds times [] shifts e = ap (map (λ shift. shift.0)) (sym (same_Some [] shifts e))
shifts_times wide kinds times (number ∷ numbers) shifts e =
    let time = time_of wide (take (time_size wide) times) in
    let left = drop (time_size wide) times in
    let kind = bind_some _ (slice_get kinds number) shifts e in
    let more = bind_some _ (shifts_in wide kinds left numbers) shifts kind.2 in
    ap (map (λ shift. shift.0)) (sym (same_Some ((time, kind.0) ∷ more.0) shifts more.2))
    ∙ ap (λ l. time ∷ l) (shifts_times wide kinds left numbers more.0 more.1)

never : (t : Bool) → (t && false) ≡ false
never true = refl
never false = refl

always : (t : Bool) → (t && true) ≡ t
always true = refl
always false = refl

chosen_is : {A : Type 0} (t : Bool) (x : A) → is_some (cond t (Some x) None) ≡ t
chosen_is true x = refl
chosen_is false x = refl

-- parts have a value exactly where they pass
pub joined_passes : (parts : Cuts) → passes parts ≡ is_some (joined_in parts)
unfolding joined_in
joined_passes parts = by_kinds (kinds_in parts.names parts.kinds parts.records) refl
  where
    rise : Bool
    rise = go_up (times_in parts.wide (length parts.numbers) parts.times)

    value : KindValue → List (ℤ × KindValue) → ZoneValue
    value kind shifts = record { first = kind; rest = shifts; footer = parts.footer }

    all : ℕ → Bool
    all count = list_all (λ number. nat_lt number count) parts.numbers

    by_shifts : (kind : KindValue) (kinds : List KindValue) → kinds_in parts.names parts.kinds parts.records ≡ Some (kind ∷ kinds)
        → (shifts : Option (List (ℤ × KindValue))) → shifts_in parts.wide (kind ∷ kinds) parts.times parts.numbers ≡ shifts
        → passes parts ≡ is_some (option_and_then (λ s. cond (rises s) (Some (value kind s)) None) shifts)
    by_shifts kind kinds e shifts f =
        let count : parts.kinds ≡ suc (length kinds) = sym (kinds_count parts.names parts.kinds parts.records (kind ∷ kinds) e) in
        let numbers = ap all count ∙ sym (shifts_pass parts.wide (kind ∷ kinds) parts.times parts.numbers) ∙ ap is_some f in
        let some : nat_le 1 parts.kinds ≡ true = grind (arith, nat_tests, count) in
        let whole : passes parts ≡ (rise && is_some shifts) =
        (λ i. rise && some i && numbers i && is_some (e i)) ∙ always (rise && true && is_some shifts) ∙ ap (λ t. t && is_some shifts) (always rise) in
        whole ∙ end shifts f
      where
        end : (shifts : Option (List (ℤ × KindValue))) → shifts_in parts.wide (kind ∷ kinds) parts.times parts.numbers ≡ shifts
            → (rise && is_some shifts) ≡ is_some (option_and_then (λ s. cond (rises s) (Some (value kind s)) None) shifts)
        end None f = never rise
        end (Some s) f = always rise ∙ ap go_up (sym (shifts_times parts.wide (kind ∷ kinds) parts.times parts.numbers s f)) ∙ sym (chosen_is (rises s) (value kind s))

    by_kinds : (kinds : Option (List KindValue)) → kinds_in parts.names parts.kinds parts.records ≡ kinds → passes parts ≡ is_some (joined_in parts)
    by_kinds None e = (λ i. rise && nat_le 1 parts.kinds && all parts.kinds && is_some (e i)) ∙ never (rise && nat_le 1 parts.kinds && all parts.kinds) ∙ rw e refl
    by_kinds (Some []) e =
        let count : parts.kinds ≡ 0 = sym (kinds_count parts.names parts.kinds parts.records [] e) in
        (λ i. rise && nat_le 1 (count i) && all (count i) && is_some (e i)) ∙ always (rise && false && all 0) ∙ ap (λ t. t && all 0) (never rise) ∙ rw e refl
    by_kinds (Some (kind ∷ kinds)) e = by_shifts kind kinds e (shifts_in parts.wide (kind ∷ kinds) parts.times parts.numbers) refl ∙ rw e refl

footer_kept : (parts : Cuts) (zone : ZoneValue) → joined_in parts ≡ Some zone → zone.footer ≡ parts.footer
unfolding joined_in
footer_kept parts zone e =
    let kinds = bind_some _ (kinds_in parts.names parts.kinds parts.records) zone e in
    let first = bind_some _ (slice_get kinds.0 0) zone kinds.2 in
    let shifts = bind_some _ (shifts_in parts.wide kinds.0 parts.times parts.numbers) zone first.2 in
    sym (ap (λ (z : ZoneValue). z.footer) (cond_some (rises shifts.0) _ zone shifts.2).1)

-- and their footer is its footer
joined_footer : (parts : Cuts) (test : Bool) → test ≡ passes parts → cond test (Some parts.footer) None ≡ option_map (λ zone. zone.footer) (joined_in parts)
joined_footer parts test is = by_value test (joined_in parts) refl (is ∙ joined_passes parts)
  where
    by_value : (test : Bool) (value : Option ZoneValue) → joined_in parts ≡ value → test ≡ is_some value
        → cond test (Some parts.footer) None ≡ option_map (λ zone. zone.footer) value
    by_value true (Some zone) e is = ap Some (sym (footer_kept parts zone e))
    by_value false (Some zone) e is = absurd cc
    by_value true None e is = absurd cc
    by_value false None e is = refl

pub said_footer : (bytes : List ℕ) (parts : Cuts) (test : Bool) → Some parts ≡ said_parts bytes → test ≡ passes parts
    → cond test (Some parts.footer) None ≡ option_map (λ zone. zone.footer) (said_in bytes)
unfolding said_in
said_footer bytes parts test e is = rw (← e) (joined_footer parts test is)

pub said_none : (bytes : List ℕ) → None ≡ said_parts bytes → None ≡ option_map (λ zone. zone.footer) (said_in bytes)
unfolding said_in
said_none bytes e = rw (← e) refl

-- want of memory is told where they have a value
pub wanting : (parts : Cuts) (test : Bool) → test ≡ passes parts → FaultsExactly (cond test NoMemory Refused) (joined_in parts)
wanting parts true is = is ∙ joined_passes parts
wanting parts false is = none_where (joined_in parts) (is ∙ joined_passes parts)
  where
    none_where : {A : Type 0} (o : Option A) → false ≡ is_some o → None ≡ o
    none_where None e = refl
    none_where (Some x) e = absurd cc
