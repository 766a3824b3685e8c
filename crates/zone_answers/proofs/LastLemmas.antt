-- A request for an instant whose line's last digits are others asks for another instant.
use Rattle.std.proofs.Common.{◌≡◌, ℕ, ◌+◌, ◌-◌, ◌*◌, ◌<◌, ◌≤◌, Bool, true, false, not, ◌&&◌, cond, List, [], ◌∷◌, ◌++◌, length, take, drop, Option, Some, None, option_map, ℤ, pos, neg_ℤ, ◌+ℤ◌, ◌<ℤ◌, ◌≤ℤ◌, eqb, nat_lt, nat_le, ◌^◌, lit<, refl, sym, ap, ◌∙◌, subst, arith, length-append, length-drop}
use Rattle.std.proofs.lemmas.{Bool.{and_parts, and_from, ltb-true, leb-true, true≢false}, Int.{ints}, Int.Digits.{digits_value-lt}, List.{drop-append-le, drop-drop, take-append-drop, take-append-le}, List.Folds.{list_all-append, prefix_len-append}, Option.{none-some}, Str.Parse.{digit_from_value}}
use Rattle.std.proofs.Math.Nat.{pow-le-pow_right}
use Rattle.std.specs.{Prelude.{bytes_eq, codes}, Char.{digit_value, is_digit}, List.{after_first, before_first, list_all, position_or_len}, Str.Parse.{digits_value, digits_value_after}}
use Rattle.civil_base.specs.LocalTimes.{local_time_in}
use Rattle.zone_answers.proofs.RequestLemmas.{digits_from}
use Rattle.zone_answers.specs.{Requests.{Request, at, local, is_negative, is_number, is_space, nanoseconds_in, request_of, request_with}, SameDays.{AreLast, last_of}}

-- ---- the first space, where one lies in front of the last digits

abbrev IsIn : (ℕ → Bool) → List ℕ → Type 0
IsIn p front = position_or_len p front < length front

same_place : (p : ℕ → Bool) (front xs : List ℕ) → IsIn p front → position_or_len p (front ++ xs) ≡ position_or_len p front
same_place p front xs inside =
    prefix_len-append (λ x. not (p x)) front xs ∙ ap (λ b. cond b (length front + position_or_len p xs) (position_or_len p front)) (differ _ _ inside)
  where
    differ : (a b : ℕ) → a < b → eqb a b ≡ false
    differ a b l = grind arith

before_same : (p : ℕ → Bool) (front xs : List ℕ) → IsIn p front → before_first p (front ++ xs) ≡ before_first p front
before_same p front xs inside =
    ap (λ k. take k (front ++ xs)) (same_place p front xs inside) ∙ take-append-le (position_or_len p front) front xs (omega (arith, inside))

after_same : (p : ℕ → Bool) (front xs : List ℕ) → IsIn p front → after_first p (front ++ xs) ≡ after_first p front ++ xs
after_same p front xs inside =
    ap (λ k. drop (k + 1) (front ++ xs)) (same_place p front xs inside) ∙ drop-append-le (position_or_len p front + 1) front xs (omega (arith, inside))

-- more than the last digits are left behind it
lies_in : (p : ℕ → Bool) (front xs : List ℕ) → 0 < length xs → length xs ≤ length (after_first p (front ++ xs)) → IsIn p front
lies_in p front xs some left = by_place (eqb (position_or_len p front) (length front)) refl
  where
    whole : position_or_len p (front ++ xs) ≡ cond (eqb (position_or_len p front) (length front)) (length front + position_or_len p xs) (position_or_len p front)
    whole = prefix_len-append (λ x. not (p x)) front xs

    early : position_or_len p (front ++ xs) < length front
    early = omega (arith, some, left, length-drop (position_or_len p (front ++ xs) + 1) (front ++ xs), length-append front xs)

    by_place : (b : Bool) → eqb (position_or_len p front) (length front) ≡ b → IsIn p front
    by_place true e = absurd (omega (arith, early, whole ∙ ap (λ b. cond b (length front + position_or_len p xs) (position_or_len p front)) e))
    by_place false e = subst (λ k. k < length front) (whole ∙ ap (λ b. cond b (length front + position_or_len p xs) (position_or_len p front)) e) early

-- ---- the number of digits, the last of which are others

same_sum : (bs cs : List ℕ) → length bs ≡ length cs → (x y z w : ℕ) → x + y ≡ z + w
    → digits_value_after 10 x bs + digits_value_after 10 y cs ≡ digits_value_after 10 z bs + digits_value_after 10 w cs
same_sum [] [] e x y z w h = h
same_sum [] (c ∷ cs) e x y z w h = absurd (omega (arith, e))
same_sum (b ∷ bs) [] e x y z w h = absurd (omega (arith, e))
same_sum (b ∷ bs) (c ∷ cs) e x y z w h =
    same_sum bs cs (omega (arith, e)) (x * 10 + digit_value b) (y * 10 + digit_value c) (z * 10 + digit_value b) (w * 10 + digit_value c) (omega (arith, h))

value_after : (n : ℕ) (ds bs : List ℕ) → digits_value_after 10 n (ds ++ bs) ≡ digits_value_after 10 (digits_value_after 10 n ds) bs
value_after n [] bs = refl
value_after n (d ∷ ds) bs = value_after (n * 10 + digit_value d) ds bs

other_value : (front last next : List ℕ) → length last ≡ length next
    → digits_value 10 (front ++ next) + digits_value 10 last ≡ digits_value 10 next + digits_value 10 (front ++ last)
other_value front last next long =
    let v = digits_value 10 front in
    ap (λ n. n + digits_value 10 last) (value_after 0 front next) ∙ same_sum next last (sym long) v 0 0 v (omega arith)
    ∙ ap (λ n. digits_value 10 next + n) (sym (value_after 0 front last))

-- ---- a number above zero

-- what its text is
record IsPlain (text : List ℕ) (n : ℤ) : Type 0 where
  plain : is_negative text ≡ false
  number : is_number text ≡ true
  value : n ≡ pos (digits_value 10 text)

instant_or : ℤ → Option ℤ → ℤ
instant_or n None = n
instant_or n (Some m) = m

same_instant : (m n : ℤ) → Some m ≡ Some n → m ≡ n
unfolding instant_or
same_instant m n e = ap (instant_or n) e

is_plain : (text : List ℕ) (n : ℤ) → nanoseconds_in text ≡ Some n → pos 0 <ℤ n → IsPlain text n
unfolding nanoseconds_in
is_plain text n is above = by_sign (is_negative text) refl
  where
    without : Bool → List ℕ
    without b = cond b (drop 1 text) text

    by_number : (b c : Bool) → is_negative text ≡ b → is_number (without b) ≡ c
        → cond c (Some (cond b (neg_ℤ (pos (digits_value 10 (without b)))) (pos (digits_value 10 (without b))))) None ≡ Some n → IsPlain text n
    by_number b false e f g = absurd (none-some _ g)
    by_number true true e f g = absurd (omega (arith, ints, above, same_instant _ _ g))
    by_number false true e f g = record { plain = e; number = f; value = sym (same_instant _ _ g) }

    by_sign : (b : Bool) → is_negative text ≡ b → IsPlain text n
    by_sign b e = by_number b (is_number (without b)) e refl
        (subst (λ c. cond (is_number (without c)) (Some (cond c (neg_ℤ (pos (digits_value 10 (without c)))) (pos (digits_value 10 (without c))))) None ≡ Some n) e is)

plain_read : (text : List ℕ) → is_negative text ≡ false → is_number text ≡ true → nanoseconds_in text ≡ Some (pos (digits_value 10 text))
unfolding nanoseconds_in
plain_read text plain number = by_sign (is_negative text) plain
  where
    without : Bool → List ℕ
    without b = cond b (drop 1 text) text

    by_sign : (b : Bool) → b ≡ false
        → cond (is_number (without b)) (Some (cond b (neg_ℤ (pos (digits_value 10 (without b)))) (pos (digits_value 10 (without b))))) None
        ≡ Some (pos (digits_value 10 text))
    by_sign true e = absurd (true≢false e)
    by_sign false e = ap (λ c. cond c (Some (pos (digits_value 10 text))) None) number

abbrev pub all_digits : List ℕ → Bool
all_digits ds = list_all (λ c. is_digit c 10) ds

not_minus : (front last next : List ℕ) → length next ≡ length last → 0 < length last → all_digits next ≡ true
    → is_negative (front ++ last) ≡ false → is_negative (front ++ next) ≡ false
not_minus (c ∷ front) last next long some digits is = is
not_minus [] last [] long some digits is = absurd (omega (arith, long, some))
not_minus [] last (d ∷ next) long some digits is =
    differ d (digit_from_value d (ltb-true _ 10 (and_parts (is_digit d 10) _ digits).0)).0
  where
    differ : (d : ℕ) → 48 ≤ d → eqb d 45 ≡ false
    differ d l = grind arith

still_number : (front last next : List ℕ) → length next ≡ length last → all_digits next ≡ true → is_number (front ++ last) ≡ true
    → is_number (front ++ next) ≡ true
still_number front last next long digits is =
    let parts = and_parts (nat_lt 0 (length (front ++ last)) && nat_le (length (front ++ last)) 30) _ is in
    let same : length (front ++ next) ≡ length (front ++ last) = omega (arith, long, length-append front next, length-append front last) in
    let begin = and_parts (all_digits front) (all_digits last) (sym (list_all-append (λ c. is_digit c 10) front last) ∙ parts.1) in
    and_from _ _ (ap (λ n. nat_lt 0 n && nat_le n 30) same ∙ parts.0)
    (list_all-append (λ c. is_digit c 10) front next ∙ and_from _ _ begin.0 digits)

-- other last digits are another number
other_number : (front last next : List ℕ) (n : ℤ) → nanoseconds_in (front ++ last) ≡ Some n → pos 0 <ℤ n → length next ≡ length last
    → 0 < length last → all_digits next ≡ true → nanoseconds_in (front ++ next) ≡ Some (pos (digits_value 10 (front ++ next)))
other_number front last next n is above long some digits =
    let it = is_plain (front ++ last) n is above in
    plain_read (front ++ next) (not_minus front last next long some digits it.plain) (still_number front last next long digits it.number)

-- ---- the request

-- it asks for an instant
IsAt : Option Request → Type 0
IsAt None = ⊥
IsAt (Some (at name n)) = Unit {0}
IsAt (Some (local name n)) = ⊥

name_or : Option Request → List ℕ
name_or None = []
name_or (Some (at name n)) = name
name_or (Some (local name n)) = name

number_or : Option Request → ℤ
number_or None = pos 0
number_or (Some (at name n)) = n
number_or (Some (local name n)) = n

record AsksAt (w nm v wanted : List ℕ) (n : ℤ) : Type 0 where
  word : bytes_eq w (codes "at") ≡ true
  name : nm ≡ wanted
  value : nanoseconds_in v ≡ Some n

asks_at : (word name value wanted : List ℕ) (n : ℤ) → request_with word name value ≡ Some (at wanted n) → AsksAt word name value wanted n
unfolding request_with IsAt name_or number_or
asks_at word name value wanted n is = by_word (bytes_eq word (codes "at")) refl (bytes_eq word (codes "local")) (nanoseconds_in value) refl is
  where
    no_local : (o : Option ℤ) → option_map (local name) o ≡ Some (at wanted n) → ⊥
    no_local None e = none-some _ e
    no_local (Some m) e = subst IsAt (sym e) tt

    by_word : (b : Bool) → bytes_eq word (codes "at") ≡ b → (c : Bool) (o : Option ℤ) → nanoseconds_in value ≡ o
        → cond b (option_map (at name) o) (cond c (option_map (local name) (local_time_in value)) None) ≡ Some (at wanted n)
        → AsksAt word name value wanted n
    by_word true e c None f g = absurd (none-some _ g)
    by_word true e c (Some m) f g = record { word = e; name = ap name_or g; value = f ∙ ap Some (ap number_or g) }
    by_word false e true o f g = absurd (no_local (local_time_in value) g)
    by_word false e false o f g = absurd (none-some _ g)

at_again : (word name value : List ℕ) (n : ℤ) → bytes_eq word (codes "at") ≡ true → nanoseconds_in value ≡ Some n
    → request_with word name value ≡ Some (at name n)
unfolding request_with
at_again word name value n is reads =
    ap (λ b. cond b (option_map (at name) (nanoseconds_in value))
    (cond (bytes_eq word (codes "local")) (option_map (local name) (local_time_in value)) None)) is ∙ ap (option_map (at name)) reads

word_of : List ℕ → List ℕ
word_of line = before_first is_space line

rest_of : List ℕ → List ℕ
rest_of line = after_first is_space line

record ReadsAt (line wanted : List ℕ) (n : ℤ) : Type 0 where
  named : nat_lt 0 (length (word_of (rest_of line))) ≡ true
  asks : AsksAt (word_of line) (word_of (rest_of line)) (rest_of (rest_of line)) wanted n

reads_at : (line wanted : List ℕ) (n : ℤ) → request_of line ≡ Some (at wanted n) → ReadsAt line wanted n
unfolding request_of word_of rest_of
reads_at line wanted n is = by_name (nat_lt 0 (length (word_of (rest_of line)))) refl is
  where
    by_name : (b : Bool) → nat_lt 0 (length (word_of (rest_of line))) ≡ b
        → cond b (request_with (word_of line) (word_of (rest_of line)) (rest_of (rest_of line))) None ≡ Some (at wanted n) → ReadsAt line wanted n
    by_name true e g = record { named = e; asks = asks_at (word_of line) (word_of (rest_of line)) (rest_of (rest_of line)) wanted n g }
    by_name false e g = absurd (none-some _ g)

reads_again : (line name : List ℕ) (n : ℤ) → ReadsAt line name n → request_of line ≡ Some (at name n)
unfolding request_of word_of rest_of
reads_again line name n is =
    ap (λ b. cond b (request_with (word_of line) (word_of (rest_of line)) (rest_of (rest_of line))) None) is.named
    ∙ at_again (word_of line) (word_of (rest_of line)) (rest_of (rest_of line)) n is.asks.word is.asks.value ∙ ap (λ m. Some (at m n)) is.asks.name

-- a number of fifteen digits or more
long_value : (text : List ℕ) (n : ℤ) → nanoseconds_in text ≡ Some n → pos (10 ^ 14) ≤ℤ n → 14 < length text
long_value text n is large = by_length (nat_le (length text) 14) refl
  where
    it : IsPlain text n
    it = is_plain text n is (omega (arith, ints, large))

    digits : all_digits text ≡ true
    digits = (and_parts (nat_lt 0 (length text) && nat_le (length text) 30) _ it.number).1

    by_length : (b : Bool) → nat_le (length text) 14 ≡ b → 14 < length text
    by_length true e =
        let most : 10 ^ length text ≤ 10 ^ 14 = pow-le-pow_right (lit< tt) (leb-true _ _ e) in
        absurd (omega (arith, ints, large, it.value, digits_value-lt 10 text (digits_from text digits), most))
    by_length false e = grind (arith, e)

-- what a late instant's line ends with
pub record EndsInDigits (line : List ℕ) : Type 0 where
  pub long : 14 < length line
  pub last : AreLast (last_of line)

-- a line that asks for a late instant ends in the digits of its number
pub late_digits : (line wanted : List ℕ) (n : ℤ) → request_of line ≡ Some (at wanted n) → pos (10 ^ 14) ≤ℤ n → EndsInDigits line
unfolding rest_of
late_digits line wanted n is large = record {
  long = omega (arith, long, whole);
  last = record { count = omega (arith, long, whole, length-drop (length line - 14) line); digits = ap all_digits same ∙ last };
}
  where
    value : List ℕ
    value = rest_of (rest_of line)

    reads : nanoseconds_in value ≡ Some n
    reads = (reads_at line wanted n is).asks.value

    long : 14 < length value
    long = long_value value n reads large

    digits : all_digits value ≡ true
    digits = (and_parts (nat_lt 0 (length value) && nat_le (length value) 30) _ (is_plain value n reads (omega (arith, ints, large))).number).1

    first : ℕ
    first = position_or_len is_space line + 1

    second : ℕ
    second = position_or_len is_space (rest_of line) + 1

    whole : length value + first + second ≡ length line
    whole = omega (arith, long, length-drop second (rest_of line), length-drop first line)

    same : last_of line ≡ last_of value
    same =
        ap (λ k. drop k line) (omega (arith, long, whole))
        ∙ sym (drop-drop (second + (length value - 14)) first line) ∙ sym (drop-drop (length value - 14) second (rest_of line))

    last : all_digits (last_of value) ≡ true
    last =
        (and_parts (all_digits (take (length value - 14) value)) _ (sym (list_all-append (λ c. is_digit c 10) (take (length value - 14) value) (last_of value))
        ∙ ap all_digits (take-append-drop (length value - 14) value) ∙ digits)).1

pub record IsOther (front last next wanted : List ℕ) (n : ℤ) : Type 0 where
  pub number : ℤ
  pub reads : request_of (front ++ next) ≡ Some (at wanted number)
  pub sum : number +ℤ pos (digits_value 10 last) ≡ n +ℤ pos (digits_value 10 next)

-- with other last digits it asks for another instant of the same zone
pub other_request : (front last next wanted : List ℕ) (n : ℤ) → request_of (front ++ last) ≡ Some (at wanted n) → pos (10 ^ 14) ≤ℤ n
    → length last ≡ 14 → length next ≡ 14 → all_digits next ≡ true → IsOther front last next wanted n
unfolding word_of rest_of
other_request front last next wanted n is large count other digits = record {
  number = pos (digits_value 10 (value ++ next));
  reads = reads_again (front ++ next) wanted _ (record {
    named = ap (λ t. nat_lt 0 (length t)) (name_same next ∙ sym (name_same last)) ∙ its.named;
    asks = record {
      word = ap (λ t. bytes_eq t (codes "at")) (before_same is_space front next first ∙ sym (before_same is_space front last first)) ∙ its.asks.word;
      name = name_same next ∙ sym (name_same last) ∙ its.asks.name;
      value = ap nanoseconds_in (value_same next) ∙ number;
    };
  });
  sum = omega (arith, ints, plain.value, other_value value last next (count ∙ sym other));
}
  where
    its : ReadsAt (front ++ last) wanted n
    its = reads_at (front ++ last) wanted n is

    long : 14 < length (rest_of (rest_of (front ++ last)))
    long = long_value (rest_of (rest_of (front ++ last))) n its.asks.value large

    first : IsIn is_space front
    first = lies_in is_space front last (omega (arith, count)) (omega (arith, count, long, length-drop (position_or_len is_space (rest_of (front ++ last)) + 1) (rest_of (front ++ last))))

    rest : List ℕ
    rest = rest_of front

    second : IsIn is_space rest
    second = lies_in is_space rest last (omega (arith, count)) (omega (arith, count, long, ap (λ t. length (rest_of t)) (after_same is_space front last first)))

    value : List ℕ
    value = rest_of rest

    name_same : (xs : List ℕ) → word_of (rest_of (front ++ xs)) ≡ word_of rest
    name_same xs = ap word_of (after_same is_space front xs first) ∙ before_same is_space rest xs second

    value_same : (xs : List ℕ) → rest_of (rest_of (front ++ xs)) ≡ value ++ xs
    value_same xs = ap rest_of (after_same is_space front xs first) ∙ after_same is_space rest xs second

    reads : nanoseconds_in (value ++ last) ≡ Some n
    reads = ap nanoseconds_in (sym (value_same last)) ∙ its.asks.value

    above : pos 0 <ℤ n
    above = omega (arith, ints, large)

    plain : IsPlain (value ++ last) n
    plain = is_plain (value ++ last) n reads above

    number : nanoseconds_in (value ++ next) ≡ Some (pos (digits_value 10 (value ++ next)))
    number = other_number value last next n reads above (other ∙ sym count) (omega (arith, count)) digits
