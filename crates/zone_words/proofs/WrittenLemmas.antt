-- The pieces of which texts are written.
use Rattle.std.proofs.Common.{◌≡◌, refl, ap, ◌∙◌, arith, ℕ, ◌+◌, ◌-◌, ◌<◌, ◌≤◌, Bool, true, false, ◌&&◌}
use Rattle.std.proofs.{Common.{List, [], ◌∷◌, ◌++◌, length, take, drop, get_or, length-append, append_assoc, ◌≢◌, ◌/◌, ◌%◌, ℤ, pos, int_lt, unsigned_abs, if◌then◌else◌, to_z, of_z, to_z-of_z, FitsSigned, w32}, lemmas.Bool.Decides.{nat_tests}}
use Rattle.std.proofs.lemmas.List.{take_at, drop_at, take_more}
use Rattle.std.specs.List.{list_all}
use Rattle.basics.specs.Dates.{year_of}
use Rattle.civil_base.specs.{Clock.{nanosecond_of}, Layout.{digit, local_text, time_text, nine_digits, year_sign, date_digits, day_part, time_part}, LayoutLaws.{unsigned_text, local_text-sign, unsigned_text-shape}}
use Rattle.zone_words.specs.Written.{is_zero, shortest, pointed, fraction_text, clock_text, moment_text, seconds_shown, offset_shown}

and_true : (t : Bool) → t && true ≡ t
and_true true = refl
and_true false = refl

and_false : (t : Bool) → t && false ≡ false
and_false true = refl
and_false false = refl

and_last : (t a b d : Bool) → a ≡ b && d → t && a ≡ (t && b) && d
and_last true a b d e = e
and_last false a b d e = refl

all_snoc : (xs : List ℕ) (c : ℕ) → list_all is_zero (xs ++ c ∷ []) ≡ list_all is_zero xs && is_zero c
all_snoc [] c = and_true (is_zero c)
all_snoc (x ∷ xs) c = and_last (is_zero x) _ _ _ (all_snoc xs c)

-- a zero at the end is left out
pub snoc_zero : (xs : List ℕ) (c : ℕ) → is_zero c ≡ true → shortest (xs ++ c ∷ []) ≡ shortest xs
snoc_zero [] c is = rw is refl
snoc_zero (x ∷ xs) c is =
    let same : list_all is_zero (xs ++ c ∷ []) ≡ list_all is_zero xs = all_snoc xs c ∙ ap (λ t. list_all is_zero xs && t) is ∙ and_true (list_all is_zero xs) in
    rw (same, snoc_zero xs c is) refl

-- any other digit keeps all before it
pub snoc_other : (xs : List ℕ) (c : ℕ) → is_zero c ≡ false → shortest (xs ++ c ∷ []) ≡ xs ++ c ∷ []
snoc_other [] c is = rw is refl
snoc_other (x ∷ xs) c is =
    let same : list_all is_zero (xs ++ c ∷ []) ≡ false = all_snoc xs c ∙ ap (λ t. list_all is_zero xs && t) is ∙ and_false (list_all is_zero xs) in
    rw (same, and_false (is_zero x), snoc_other xs c is) refl

time_length : (t : ℕ) → length (32 ∷ time_text t) ≡ 19
unfolding time_text
time_length t = refl

-- a local text is a date, a space, and 18 bytes of a time
local_cut : (x : ℤ) → (take (length (local_text x) - 19) (local_text x) ≡ year_sign (year_of (day_part x)) ++ date_digits (day_part x))
    × (drop (length (local_text x) - 19) (local_text x) ≡ 32 ∷ time_text (time_part x))
unfolding local_text
local_cut x =
    let front = year_sign (year_of (day_part x)) ++ date_digits (day_part x) in
    let back = 32 ∷ time_text (time_part x) in
    let long : length back ≡ 19 = time_length (time_part x) in
    let at : length (front ++ back) - 19 ≡ length front = omega (arith, length-append front back, long) in
    (rw at (take_at front back (length front) refl), rw at (drop_at front back (length front) refl))

pub date_cut : (x : ℤ) (text : List ℕ) → local_text x ≡ text → take (length text - 19) text ≡ year_sign (year_of (day_part x)) ++ date_digits (day_part x)
date_cut x text e = rw (← e) (local_cut x).0

clock_of : (t : ℕ) → take 8 (drop 1 (32 ∷ time_text t)) ≡ clock_text t
unfolding time_text clock_text
clock_of t = refl

pub clock_cut : (x : ℤ) (text : List ℕ) → local_text x ≡ text → take 8 (drop 1 (drop (length text - 19) text)) ≡ clock_text (time_part x)
clock_cut x text e = rw (← e, (local_cut x).1) (clock_of (time_part x))

digits_of : (t : ℕ) → take (length (32 ∷ time_text t) - 10) (drop 10 (32 ∷ time_text t)) ≡ nine_digits (nanosecond_of t)
unfolding time_text
digits_of t = refl

pub digits_cut : (x : ℤ) (text : List ℕ) → local_text x ≡ text
    → take (length (drop (length text - 19) text) - 10) (drop 10 (drop (length text - 19) text)) ≡ nine_digits (nanosecond_of (time_part x))
digits_cut x text e = rw (← e, (local_cut x).1) (digits_of (time_part x))

pub local_long : (x : ℤ) → 29 ≤ length (local_text x)
local_long x = omega (arith, ap length (local_text-sign x), length-append (year_sign (year_of (day_part x))) (unsigned_text x), (unsigned_text-shape x).0)

pub kept_other : (ds : List ℕ) (p kept : ℕ) → p < length ds → get_or ds p 0 ≢ 48 → kept ≡ p + 1 → shortest (take (p + 1) ds) ≡ take kept ds
kept_other ds p kept inside other e =
    let is : is_zero (get_or ds p 0) ≡ false = grind (arith, nat_tests) in
    rw (e, take_more ds p 0 inside) (snoc_other (take p ds) (get_or ds p 0) is)

pub kept_zero : (ds : List ℕ) (p k kept : ℕ) → p < length ds → get_or ds p 0 ≡ 48 → shortest (take p ds) ≡ take k ds → kept ≡ k
    → shortest (take (p + 1) ds) ≡ take kept ds
kept_zero ds p k kept inside zero so_far e =
    let is : is_zero (get_or ds p 0) ≡ true = grind (arith, nat_tests) in
    rw (e, take_more ds p 0 inside, snoc_zero (take p ds) (get_or ds p 0) is) so_far

pub moment_written : (x : ℤ) (c : ℕ) (D C F a b d whole : List ℕ) → D ≡ year_sign (year_of (day_part x)) ++ date_digits (day_part x)
    → C ≡ clock_text (time_part x) → F ≡ nine_digits (nanosecond_of (time_part x)) → a ≡ D → b ≡ a ++ c ∷ [] → d ≡ b ++ C
    → whole ≡ d ++ pointed (shortest F) → whole ≡ moment_text c x
unfolding moment_text fraction_text
moment_written x c D C F a b d whole dated clock fraction e f g h = rw (h, g, f, e, dated, clock, fraction) (simp append_assoc)

pub offset_written : (o : ℤ) (n s h i m k : ℕ) (start part whole : List ℕ) → n ≡ unsigned_abs o → s ≡ (if int_lt o (pos 0) then 45 else 43)
    → h ≡ digit (n / 3600) 10 → i ≡ digit (n / 3600) 1 → m ≡ digit (n / 60 % 60) 10 → k ≡ digit (n / 60 % 60) 1
    → part ≡ start ++ s ∷ h ∷ i ∷ 58 ∷ m ∷ k ∷ [] → whole ≡ part ++ seconds_shown (n % 60) → whole ≡ start ++ offset_shown o
unfolding offset_shown
offset_written o n s h i m k start part whole size sign e1 e2 e3 e4 front back = rw (back, front, sign, e1, e2, e3, e4, size) (append_assoc start _ _)

pub size_is : (o s : ℤ) (n : ℕ) → FitsSigned w32 o → s ≡ o → n ≡ unsigned_abs (to_z w32 (of_z w32 s)) → n ≡ unsigned_abs o
size_is o s n f e k = rw (e, to_z-of_z f) at k
