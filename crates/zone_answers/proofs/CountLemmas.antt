-- The number of zones that a word asks for: the definition finds exactly it, and so does what `parse` reads.
use Rattle.std.proofs.{Common.{◌≡◌, ℕ, ◌^◌, ◌<◌, ◌≤◌, ◌&&◌, ◌↔◌, Bool, true, false, cond, List, [], ◌∷◌, Option, Some, None, Result, Ok, Err, refl, ap, ◌∙◌, subst, arith, nat_le, lit<}, lemmas.Bool.{and_parts, and_from, both_ways, leb-true, le-leb}}
use Rattle.std.proofs.lemmas.{Fmt.{decimal_is_IsNumeral, parse-decimal}, Option.{none-some}, Slice.Eq.{bytes_eq-Decides}}
use Rattle.std.specs.{Prelude.{bytes_eq, codes, decimal, option_map}, Bool.{then_some}, Option.{MatchOption, unwrap_or}, Result.{result_ok}, Str.Parse.{digits_value, ParsesUnsigned}}
use Rattle.zone_answers.specs.{Counts.{IsCount, is_count, count_in, most_zones}, Words.{generate, count_of, task_in, task_of_two}}

holds : (n : ℕ) (text : List ℕ) → is_count n text ≡ true → IsCount n text
holds n text is =
    let outer = and_parts (nat_le 1 n && nat_le n most_zones) _ is in
    let inner = and_parts (nat_le 1 n) _ outer.0 in
    record { least = leb-true _ _ inner.0; most = leb-true _ _ inner.1; spelled = (bytes_eq-Decides text (decimal n)).0 outer.1 }

passes : (n : ℕ) (text : List ℕ) → IsCount n text → is_count n text ≡ true
passes n text is =
    and_from (nat_le 1 n && nat_le n most_zones) _ (and_from (nat_le 1 n) _ (le-leb _ _ is.least) (le-leb _ _ is.most))
    ((bytes_eq-Decides text (decimal n)).1 is.spelled)

is_small : (n : ℕ) → n ≤ most_zones → n < 2 ^ 64
is_small n h = let room : most_zones < 2 ^ 64 = lit< tt in omega (arith, h, room)

-- a number's decimal text is read as it
value_is : (n : ℕ) (text : List ℕ) → IsCount n text → digits_value 10 text ≡ n
value_is n text is = ap (digits_value 10) is.spelled ∙ (decimal_is_IsNumeral n (is_small n is.most)).1

-- the number that is found is the one whose decimal text this is, and there is no other
pub count_is : (text : List ℕ) (n : ℕ) → (count_in text ≡ Some n) ↔ IsCount n text
unfolding count_in
count_is text n = (to (is_count (digits_value 10 text) text) refl, from)
  where
    to : (b : Bool) → is_count (digits_value 10 text) text ≡ b → cond b (Some (digits_value 10 text)) None ≡ Some n → IsCount n text
    to true is found =
        let same : digits_value 10 text ≡ n = ap (λ o. unwrap_or o 0) found in subst (λ m. IsCount m text) same (holds (digits_value 10 text) text is)
    to false is found = absurd (none-some _ found)

    from : IsCount n text → cond (is_count (digits_value 10 text) text) (Some (digits_value 10 text)) None ≡ Some n
    from is =
        ap (λ m. cond (is_count m text) (Some m) None) (value_is n text is) ∙ ap (λ b. cond b (Some n) None) (passes n text is)

-- what `parse` reads is the number that is found, where its decimal text is the text
pub count_read : {E : Type 0} (text : List ℕ) (r : Result ℕ E) → ParsesUnsigned 64 10 text r →
    MatchOption (result_ok r) (None ≡ count_in text) (λ n. then_some (is_count n text) n ≡ count_in text)
unfolding count_in
count_read {E} text (Ok n) read = by_found (is_count (digits_value 10 text) text) refl
  where
    found : ℕ
    found = digits_value 10 text

    by_read : (b : Bool) → is_count n text ≡ b → is_count found text ≡ false → then_some b n ≡ None
    by_read false is none = refl
    by_read true is none =
        let same : is_count found text ≡ is_count n text = ap (λ m. is_count m text) (value_is n text (holds n text is)) in
        absurd (both_ways (is_count found text) none (same ∙ is))

    by_found : (b : Bool) → is_count found text ≡ b → then_some (is_count n text) n ≡ cond b (Some found) None
    by_found true is =
        let count = holds found text is in
        let read_so = parse-decimal {E = E} 64 found text (Ok n) (is_small found count.most) (is_small found count.most) count.spelled read in
        let same : n ≡ found = ap (λ r. unwrap_or (result_ok r) 0) read_so in ap (λ m. then_some (is_count m text) m) same ∙ ap (λ b. then_some b found) is
    by_found false is = by_read (is_count n text) refl is
count_read {E} text (Err e) unread = by_found (is_count (digits_value 10 text) text) refl
  where
    found : ℕ
    found = digits_value 10 text

    by_found : (b : Bool) → is_count found text ≡ b → None ≡ cond b (Some found) None
    by_found true is =
        let count = holds found text is in
        let read_so = parse-decimal {E = E} 64 found text (Err e) (is_small found count.most) (is_small found count.most) count.spelled unread in
        absurd (cc)
    by_found false is = refl

-- what two words ask for is from 1 to 1000
few_of_two : (option text : List ℕ) (n : ℕ) → task_of_two option text ≡ Some (generate n) → n ≤ most_zones
few_of_two option text n asks = by_option (bytes_eq option (codes "--generate")) asks
  where
    by_count : (o : Option ℕ) → count_in text ≡ o → option_map generate o ≡ Some (generate n) → n ≤ most_zones
    by_count None is asks = absurd (none-some _ asks)
    by_count (Some m) is asks =
        let same : m ≡ n = ap (λ o. unwrap_or (count_of o) 0) asks in let most = ((count_is text m).0 is).most in omega (arith, same, most)

    by_option : (b : Bool) → cond b (option_map generate (count_in text)) None ≡ Some (generate n) → n ≤ most_zones
    by_option true asks = by_count (count_in text) refl asks
    by_option false asks = absurd (none-some _ asks)

-- and so is what any words ask for
pub asks_few : (words : List (List ℕ)) (n : ℕ) → task_in words ≡ Some (generate n) → n ≤ most_zones
asks_few [] n asks = absurd (none-some _ asks)
asks_few (name ∷ []) n asks = absurd (no_number (ap count_of asks))
  where
    no_number : None ≡ Some n → ⊥
    no_number e = none-some _ e
asks_few (option ∷ text ∷ []) n asks = few_of_two option text n asks
asks_few (option ∷ text ∷ word ∷ words) n asks = absurd (none-some _ asks)
