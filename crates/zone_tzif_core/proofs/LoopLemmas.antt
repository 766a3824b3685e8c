-- What the loops read so far, and what is left.
use Rattle.std.proofs.Common.{◌≡◌, ℕ, suc, ◌+◌, ◌-◌, ◌*◌, ◌<◌, ◌≤◌, ℤ, int_lt, Bool, true, false, ◌&&◌, List, [], ◌∷◌, ◌++◌, length, map, take, drop, get_or, Option, Some, None, option_map, option_and_then, slice_get, refl, sym, ap, ◌∙◌, arith, add-one, append_assoc, append-nil, length-drop}
use Rattle.std.proofs.{lemmas.List.{map-append, drop_more, drop-drop, get_or-map, length-map}, Math.Nat.{mul-suc}}
use Rattle.zone_tzif_core.specs.{Zones.{KindValue, go_up}, ZoneFiles.{change_with, changes_with, kind_numbered}, Reading.{kind_in, kinds_in, shifts_in, time_of, time_size}, Shown.{Faults}, declared.values.ReadFault.{ReadFault}}
use Rattle.zone_tzif_core.specs.declared.values.ReadFault.TheVariants.{Refused, NoMemory}

-- one more item is found
moved : {A : Type 0} (so_far : List A) (x : A) (left : Option (List A)) → option_map (λ more. so_far ++ more) (option_and_then (λ more. Some (x ∷ more)) left) ≡ option_map (λ more. (so_far ++ x ∷ []) ++ more) left
moved so_far x (Some more) = ap Some (sym (append_assoc so_far (x ∷ []) more))
moved so_far x None = refl

pub kinds_more : (names : List ℕ) (n m : ℕ) (bytes rest : List ℕ) (so_far : List KindValue) (kind : KindValue) → n ≡ suc m → rest ≡ drop 6 bytes → Some kind ≡ kind_in names (take 6 bytes) → option_map (λ more. so_far ++ more) (kinds_in names n bytes) ≡ option_map (λ more. (so_far ++ kind ∷ []) ++ more) (kinds_in names m rest)
unfolding kinds_in
kinds_more names n m bytes rest so_far kind count front found = rw (count, ← found, front) (moved so_far kind (kinds_in names m (drop 6 bytes)))

pub kinds_none : (names : List ℕ) (n m : ℕ) (bytes : List ℕ) (so_far : List KindValue) (whole : Option (List KindValue)) → n ≡ suc m → option_map (λ more. so_far ++ more) (kinds_in names n bytes) ≡ whole → None ≡ kind_in names (take 6 bytes) → None ≡ whole
unfolding kinds_in
kinds_none names n m bytes so_far whole count is refused = let e : kinds_in names n bytes ≡ None = rw (count, ← refused) refl in ap (option_map (λ more. so_far ++ more)) (sym e) ∙ is

pub kinds_end : (names : List ℕ) (n : ℕ) (bytes : List ℕ) (so_far : List KindValue) (whole : Option (List KindValue)) → n ≡ 0 → option_map (λ more. so_far ++ more) (kinds_in names n bytes) ≡ whole → Some so_far ≡ whole
unfolding kinds_in
kinds_end names n bytes so_far whole count is = let e : kinds_in names n bytes ≡ Some [] = rw count refl in ap Some (sym (append-nil so_far)) ∙ sym (ap (option_map (λ more. so_far ++ more)) e) ∙ is

shifts_more : (wide : Bool) (kinds : List KindValue) (times later numbers left : List ℕ) (number : ℕ) (so_far : List (ℤ × KindValue)) (kind : KindValue)
    → left ≡ number ∷ numbers → later ≡ drop (time_size wide) times → Some kind ≡ slice_get kinds number
    → option_map (λ more. so_far ++ more) (shifts_in wide kinds times left)
    ≡ option_map (λ more. (so_far ++ (time_of wide (take (time_size wide) times), kind) ∷ []) ++ more) (shifts_in wide kinds later numbers)
unfolding shifts_in
shifts_more wide kinds times later numbers left number so_far kind front time found =
    rw (front, ← found, time) (moved so_far (time_of wide (take (time_size wide) times), kind) (shifts_in wide kinds (drop (time_size wide) times) numbers))

shifts_none : (wide : Bool) (kinds : List KindValue) (times numbers left : List ℕ) (number : ℕ) (so_far : List (ℤ × KindValue)) (whole : Option (List (ℤ × KindValue)))
    → left ≡ number ∷ numbers → option_map (λ more. so_far ++ more) (shifts_in wide kinds times left) ≡ whole → None ≡ slice_get kinds number → None ≡ whole
unfolding shifts_in
shifts_none wide kinds times numbers left number so_far whole front is refused =
    let e : shifts_in wide kinds times left ≡ None = rw (front, ← refused) refl in ap (option_map (λ more. so_far ++ more)) (sym e) ∙ is

pub shifts_end : (wide : Bool) (kinds : List KindValue) (times left : List ℕ) (so_far : List (ℤ × KindValue)) (whole : Option (List (ℤ × KindValue)))
    → left ≡ [] → option_map (λ more. so_far ++ more) (shifts_in wide kinds times left) ≡ whole → Some so_far ≡ whole
unfolding shifts_in
shifts_end wide kinds times left so_far whole over is =
    let e : shifts_in wide kinds times left ≡ Some [] = rw over refl in ap Some (sym (append-nil so_far)) ∙ sym (ap (option_map (λ more. so_far ++ more)) e) ∙ is

-- a fault that a step tells is the whole's
pub fault_passes : {W X : Type 0} (fault : ReadFault) (step : Option W) (whole : Option X) → Faults fault step → (None ≡ step → None ≡ whole) → Faults fault whole
fault_passes Refused step whole told then = then told
fault_passes NoMemory step whole told then = tt

-- the kinds so far and those that are left make those of all records
abbrev pub KindsSoFar : {K : Type 0} → (K → KindValue) → List ℕ → ℕ → List ℕ → ℕ → List K → Type 0
KindsSoFar shown names count records i kinds = option_map (λ more. map shown kinds ++ more) (kinds_in names (count - i) (drop (6 * i) records)) ≡ kinds_in names count records

pub kinds_kept : {K : Type 0} (shown : K → KindValue) (names : List ℕ) (count : ℕ) (records : List ℕ) (i : ℕ) (kinds grown : List K) (kind : K) → i < count → grown ≡ kinds ++ kind ∷ [] → Some (shown kind) ≡ kind_in names (take (6 * i + 6 - 6 * i) (drop (6 * i) records)) → KindsSoFar shown names count records i kinds → KindsSoFar shown names count records (i + 1) grown
kinds_kept shown names count records i kinds grown kind within items told is =
    let left : count - i ≡ suc (count - (i + 1)) = omega arith in
    let six : 6 * i + 6 - 6 * i ≡ 6 = omega arith in
    let next : 6 * i + 6 ≡ 6 * (i + 1) = omega arith in
    let rest : drop (6 * (i + 1)) records ≡ drop 6 (drop (6 * i) records) = sym (drop-drop 6 (6 * i) records ∙ ap (λ n. drop n records) next) in
    let all : map shown grown ≡ map shown kinds ++ shown kind ∷ [] = ap (map shown) items ∙ map-append shown kinds (kind ∷ []) in
    let found : Some (shown kind) ≡ kind_in names (take 6 (drop (6 * i) records)) = told ∙ ap (λ n. kind_in names (take n (drop (6 * i) records))) six in
    ap (λ front. option_map (λ more. front ++ more) (kinds_in names (count - (i + 1)) (drop (6 * (i + 1)) records))) all
    ∙ sym (kinds_more names (count - i) (count - (i + 1)) (drop (6 * i) records) (drop (6 * (i + 1)) records) (map shown kinds) (shown kind) left rest found) ∙ is

pub kinds_refused : {K : Type 0} (shown : K → KindValue) (names : List ℕ) (count : ℕ) (records : List ℕ) (i : ℕ) (kinds : List K) → i < count → KindsSoFar shown names count records i kinds → None ≡ kind_in names (take (6 * i + 6 - 6 * i) (drop (6 * i) records)) → None ≡ kinds_in names count records
kinds_refused shown names count records i kinds within is refused =
    let left : count - i ≡ suc (count - (i + 1)) = omega arith in
    let six : 6 * i + 6 - 6 * i ≡ 6 = omega arith in
    kinds_none names (count - i) (count - (i + 1)) (drop (6 * i) records) (map shown kinds) _ left is (refused ∙ ap (λ n. kind_in names (take n (drop (6 * i) records))) six)

-- the times so far and those that are left make those of all numbers
abbrev pub ShiftsSoFar : Bool → List KindValue → List ℕ → List ℕ → ℕ → List (ℤ × ℕ) → Type 0
ShiftsSoFar wide kinds times numbers i shifts =
    option_map (λ more. changes_with kinds shifts ++ more) (shifts_in wide kinds (drop (time_size wide * i) times) (drop i numbers)) ≡ shifts_in wide kinds times numbers

pub shifts_kept : (wide : Bool) (kinds : List KindValue) (times numbers : List ℕ) (i : ℕ) (shifts grown : List (ℤ × ℕ)) (shift : ℤ × ℕ) → i < length numbers
    → grown ≡ shifts ++ shift ∷ [] → shift.0 ≡ time_of wide (take (time_size wide) (drop (time_size wide * i) times))
    → Some (kind_numbered kinds shift.1) ≡ slice_get kinds (get_or numbers i 0)
    → ShiftsSoFar wide kinds times numbers i shifts → ShiftsSoFar wide kinds times numbers (i + 1) grown
shifts_kept wide kinds times numbers i shifts grown shift within items read told is =
    let size = time_size wide in
    let here = drop (size * i) times in
    let next : size * i + size ≡ size * (i + 1) = sym (mul-suc size i) ∙ ap (λ n. size * n) (sym (add-one i)) in
    let rest : drop (size * (i + 1)) times ≡ drop size here = sym (drop-drop size (size * i) times ∙ ap (λ n. drop n times) next) in
    let all : changes_with kinds grown ≡ changes_with kinds shifts ++ (time_of wide (take size here), kind_numbered kinds shift.1) ∷ [] =
    ap (changes_with kinds) items ∙ map-append (change_with kinds) shifts (shift ∷ []) ∙ ap (λ t. changes_with kinds shifts ++ (t, kind_numbered kinds shift.1) ∷ []) read in
    ap (λ front. option_map (λ more. front ++ more) (shifts_in wide kinds (drop (size * (i + 1)) times) (drop (i + 1) numbers))) all
    ∙ sym (shifts_more wide kinds here (drop (size * (i + 1)) times) (drop (i + 1) numbers) (drop i numbers) (get_or numbers i 0) (changes_with kinds shifts) (kind_numbered kinds shift.1) (drop_more numbers i 0 within) rest told) ∙ is

pub shifts_refused : (wide : Bool) (kinds : List KindValue) (times numbers : List ℕ) (i : ℕ) (shifts : List (ℤ × ℕ)) → i < length numbers
    → ShiftsSoFar wide kinds times numbers i shifts → None ≡ slice_get kinds (get_or numbers i 0) → None ≡ shifts_in wide kinds times numbers
shifts_refused wide kinds times numbers i shifts within is refused =
    shifts_none wide kinds (drop (time_size wide * i) times) (drop (i + 1) numbers) (drop i numbers) (get_or numbers i 0) (changes_with kinds shifts) _ (drop_more numbers i 0 within) is refused

-- two neighbours, and the rest
up_pair : (times : List ℤ) (x y : ℤ) (rest : List ℤ) → times ≡ x ∷ y ∷ rest → go_up times ≡ (int_lt x y && go_up (y ∷ rest))
up_pair times x y rest e = rw e refl

-- the times rise where they do from the last one seen
abbrev pub RiseFrom : List ℤ → ℕ → Type 0
RiseFrom times i = go_up (drop (i - 1) times) ≡ go_up times

pub up_step : (times : List ℤ) (i : ℕ) (x y d : ℤ) → 1 ≤ i → i < length times → x ≡ get_or times (i - 1) d → y ≡ get_or times i d → go_up (drop (i - 1) times) ≡ (int_lt x y && go_up (drop i times))
up_step times i x y d some within first second =
    let next : i - 1 + 1 ≡ i = omega arith in
    let here : drop (i - 1) times ≡ x ∷ drop i times = drop_more times (i - 1) d (omega arith) ∙ ap (λ z. z ∷ drop (i - 1 + 1) times) (sym first) ∙ ap (λ n. x ∷ drop n times) next in
    let there : drop i times ≡ y ∷ drop (i + 1) times = drop_more times i d within ∙ ap (λ z. z ∷ drop (i + 1) times) (sym second) in
    up_pair (drop (i - 1) times) x y (drop (i + 1) times) (here ∙ ap (λ l. x ∷ l) there) ∙ ap (λ l. int_lt x y && go_up l) (sym there)

-- a time of the list
abbrev times_of : {V : Type 0} → List (ℤ × V) → List ℤ
times_of shifts = map (λ shift. shift.0) shifts

time_at : {V : Type 0} (shifts : List (ℤ × V)) (i : ℕ) (x : ℤ × V) (d : ℤ) → i < length shifts → x ≡ get_or shifts i x → x.0 ≡ get_or (times_of shifts) i d
time_at shifts i x d within is = ap (λ s. s.0) is ∙ sym (get_or-map (λ shift. shift.0) shifts i x d within)

step : {V : Type 0} (shifts : List (ℤ × V)) (i : ℕ) (x y : ℤ × V) → 1 ≤ i → i < length shifts → x ≡ get_or shifts (i - 1) x → y ≡ get_or shifts i y → go_up (drop (i - 1) (times_of shifts)) ≡ (int_lt x.0 y.0 && go_up (drop i (times_of shifts)))
step shifts i x y some within first second =
    let long : length (times_of shifts) ≡ length shifts = length-map _ _ in
    up_step (times_of shifts) i x.0 y.0 x.0 some (omega (arith, long, within)) (time_at shifts (i - 1) x x.0 (omega (arith, within)) first) (time_at shifts i y x.0 within second)

pub rises_kept : {V : Type 0} (shifts : List (ℤ × V)) (i : ℕ) (x y : ℤ × V) → 1 ≤ i → i < length shifts → x ≡ get_or shifts (i - 1) x → y ≡ get_or shifts i y → true ≡ int_lt x.0 y.0 → RiseFrom (times_of shifts) i → RiseFrom (times_of shifts) (i + 1)
rises_kept shifts i x y some within first second before is =
    let now : i + 1 - 1 ≡ i = omega arith in
    ap (λ n. go_up (drop n (times_of shifts))) now ∙ ap (λ b. b && go_up (drop i (times_of shifts))) before ∙ sym (step shifts i x y some within first second) ∙ is

pub rises_refused : {V : Type 0} (shifts : List (ℤ × V)) (i : ℕ) (x y : ℤ × V) → 1 ≤ i → i < length shifts → x ≡ get_or shifts (i - 1) x → y ≡ get_or shifts i y → false ≡ int_lt x.0 y.0 → RiseFrom (times_of shifts) i → false ≡ go_up (times_of shifts)
rises_refused shifts i x y some within first second before is =
    ap (λ b. b && go_up (drop i (times_of shifts))) before ∙ sym (step shifts i x y some within first second) ∙ is

pub up_short : (times : List ℤ) → length times ≤ 1 → true ≡ go_up times
up_short [] few = refl
up_short (x ∷ []) few = refl
up_short (x ∷ y ∷ rest) few = absurd (omega arith)

pub rises_end : {V : Type 0} (shifts : List (ℤ × V)) (i : ℕ) → 1 ≤ i → length shifts ≤ i → RiseFrom (times_of shifts) i → true ≡ go_up (times_of shifts)
rises_end shifts i some over is =
    let long : length (times_of shifts) ≡ length shifts = length-map _ _ in
    up_short (drop (i - 1) (times_of shifts)) (omega (arith, length-drop (i - 1) (times_of shifts), long)) ∙ is
