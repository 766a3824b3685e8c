-- What sound lines have.
use Rattle.std.proofs.{lemmas.List.{drop_all}, Math.Bool.{or-true}}
use Rattle.std.proofs.Common.{add-one, drop, get_or, length, slice_get, ◌≡◌, ℕ, zero, suc, ◌+◌, ◌<◌, inl, inr, Bool, true, false, not, ◌&&◌, ◌||◌, List, [], ◌∷◌, Option, Some, None, ℤ, pos, All, IsTrue, refl, sym, ap, ◌∙◌, subst, arith}
use Rattle.std.proofs.Math.Nat.{eq-or-lt_of_le}
use Rattle.std.specs.{List.{list_all, list_any}, Option.{option_map_or}}
use Rattle.zone_table.specs.{LineBounds.{are_small_seconds}, Days.{has_day_of_month}, Ends.{end_day, end_year, is_dated_year}, declared.change.ChangeTime.{ChangeTime}, Bounds.{is_bounded_info, is_bounded_rule, is_bounded_saving}, Moments.{applies_to_year, has_years}, declared.rule.RuleInfo.{RuleInfo}, declared.zone.Saving.{Saving}, declared.zone.Saving.TheVariants.{NoSaving, OneOff, Multiple}}
use Rattle.zone_spans.specs.{Bounds.{IsSound, can_fire, has_moment, is_bounded_line, is_end}, Faults.{ends_outside, is_outside, some_year}, Lines.{Line, fixed_saving}, Years.{earliest_year}}
use Rattle.zone_spans.proofs.{BoundLemmas.{both, first, second}, FoundLemmas.{from_here}}

pub neither_left : (a b : Bool) → (a || b) ≡ false → a ≡ false
neither_left true b h = h
neither_left false b h = refl

pub neither_right : (a b : Bool) → (a || b) ≡ false → b ≡ false
neither_right true b h = cc
neither_right false b h = h

pub is_not : (a : Bool) → not a ≡ false → a ≡ true
is_not true h = refl
is_not false h = cc

inside : (a i : Bool) → IsTrue (not (a && not i)) → a ≡ true → IsTrue i
inside true true h e = refl
inside true false h e = cc
inside false i h e = cc

-- a rule that applies to the year has a moment in it
pub fires_in : (year : ℤ) (r : RuleInfo) → IsTrue (can_fire year r) → applies_to_year r year ≡ true → IsTrue (has_moment year r)
unfolding can_fire is_outside
fires_in year r can applies =
    both (is_bounded_rule r) _ (first (is_bounded_rule r) (has_years r) (first (is_bounded_rule r && has_years r) _ can))
    (inside (applies_to_year r year) _ (second (is_bounded_rule r && has_years r) _ can) applies)

pub has_years_of : (year : ℤ) (r : RuleInfo) → IsTrue (can_fire year r) → IsTrue (has_years r)
unfolding can_fire
has_years_of year r can = second (is_bounded_rule r) (has_years r) (first (is_bounded_rule r && has_years r) _ can)

-- what holds in none of the years holds in no one of them
no_year : (test : ℤ → Bool) (n i : ℕ) → i < n → some_year test n ≡ false → test (pos (earliest_year + i)) ≡ false
unfolding some_year
no_year test zero i l none = absurd (omega arith)
no_year test (suc n) i l none =
    elim (eq-or-lt_of_le {n = i} {m = n} (omega (arith, l))) [
      | inl same ↦ ap (λ k. test (pos (earliest_year + k))) same ∙ neither_right (some_year test n) (test (pos (earliest_year + n))) none
      | inr less ↦ no_year test n i less (neither_left (some_year test n) (test (pos (earliest_year + n))) none)
    ]

all_can_fire : (n i : ℕ) → i < n → (rules : List RuleInfo) → IsTrue (list_all is_bounded_rule rules) → IsTrue (list_all has_years rules)
    → list_any (λ rule. some_year (is_outside rule) n) rules ≡ false → IsTrue (list_all (can_fire (pos (earliest_year + i))) rules)
unfolding can_fire
all_can_fire n i l [] bounded years none = refl
all_can_fire n i l (r ∷ rs) bounded years none =
    let year = pos (earliest_year + i) in
    let stays = no_year (is_outside r) n i l (neither_left (some_year (is_outside r) n) _ none) in
    both (can_fire year r) _
    (both (is_bounded_rule r && has_years r) _
    (both (is_bounded_rule r) (has_years r) (first (is_bounded_rule r) _ bounded) (first (has_years r) _ years)) (ap not stays))
    (all_can_fire n i l rs (second (is_bounded_rule r) _ bounded) (second (has_years r) _ years)
    (neither_right (some_year (is_outside r) n) _ none))

-- each rule of a sound line has its moment in each of the years
pub sound_rules : {years : ℕ} (line : Line) → IsSound years line → (i : ℕ) → i < years
    → IsTrue (list_all (can_fire (pos (earliest_year + i))) line.rules)
unfolding is_bounded_line
sound_rules {years} line sound i l =
    all_can_fire years i l line.rules
    (second (is_bounded_info line.info) (list_all is_bounded_rule line.rules)
    (first (is_bounded_info line.info && list_all is_bounded_rule line.rules) _ sound.bounded))
    (is_not _ sound.years) sound.days

pub end_dated : (end : Option ChangeTime) → IsTrue (option_map_or (λ e. has_day_of_month (end_day e)) end true)
    → option_map_or (λ e. not (is_dated_year (end_year e))) end false ≡ false → option_map_or ends_outside end false ≡ false
    → IsTrue (is_end end)
end_dated None day year stays = refl
end_dated (Some e) day year stays =
    both (is_dated_year (end_year e) && has_day_of_month (end_day e)) _ (both (is_dated_year (end_year e)) _ (is_not _ year) day)
    (is_not _ stays)

-- the end of a sound line has a day
pub sound_end : {years : ℕ} (line : Line) → IsSound years line → IsTrue (is_end line.end)
unfolding is_bounded_line
sound_end line sound =
    end_dated line.end (second (is_bounded_info line.info && list_all is_bounded_rule line.rules) _ sound.bounded) sound.year sound.end

pub bounded_offset : (line : Line) → IsTrue (is_bounded_line line) → IsTrue (are_small_seconds line.info.offset)
unfolding is_bounded_line
bounded_offset line bounded =
    let info = first (is_bounded_info line.info) _ (first (is_bounded_info line.info && list_all is_bounded_rule line.rules) _ bounded) in
    first (are_small_seconds line.info.offset) _ (first (are_small_seconds line.info.offset && _) _ info)

saving_small : (saving : Saving) → IsTrue (is_bounded_saving saving) → IsTrue (are_small_seconds (fixed_saving saving))
saving_small NoSaving small = refl
saving_small (OneOff seconds) small = small
saving_small (Multiple name) small = refl

pub bounded_saving : (line : Line) → IsTrue (is_bounded_line line) → IsTrue (are_small_seconds (fixed_saving line.info.saving))
unfolding is_bounded_line
bounded_saving line bounded =
    let info = first (is_bounded_info line.info) _ (first (is_bounded_info line.info && list_all is_bounded_rule line.rules) _ bounded) in
    saving_small line.info.saving
    (second (are_small_seconds line.info.offset) _ (first (are_small_seconds line.info.offset && is_bounded_saving
    line.info.saving) _ info))

-- what stands first in bounded lines is bounded
pub first_bounded : (lines : List Line) (line : Line) → Some line ≡ slice_get lines 0 → IsTrue (list_all is_bounded_line lines)
    → IsTrue (is_bounded_line line)
first_bounded [] line e all = cc
first_bounded (l ∷ ls) line e all =
    let same : l ≡ line = cc in subst (λ x. IsTrue (is_bounded_line x)) same (first (is_bounded_line l) _ all)

-- what holds in one of the years
pub year_at : (test : ℤ → Bool) (n i : ℕ) → i < n → test (pos (earliest_year + i)) ≡ true → true ≡ some_year test n
unfolding some_year
year_at test zero i l met = absurd (omega arith)
year_at test (suc n) i l met =
    elim (eq-or-lt_of_le {n = i} {m = n} (omega (arith, l))) [
      | inl same ↦ sym (ap (λ b. some_year test n || b) (ap (λ k. test (pos (earliest_year + k))) (sym same) ∙ met) ∙ or-true (some_year test n))
      | inr less ↦ sym (ap (λ b. b || test (pos (earliest_year + n))) (sym (year_at test n i less met)))
    ]

pub year_more : (test : ℤ → Bool) (n : ℕ) → some_year test n ≡ false → test (pos (earliest_year + n)) ≡ false → some_year test (n + 1) ≡ false
unfolding some_year
year_more test n none here = ap (some_year test) (add-one n) ∙ (λ i. none i || here i)

pub no_years : (test : ℤ → Bool) → some_year test 0 ≡ false
unfolding some_year
no_years test = refl

-- a search from the left: here it is met, or it is looked for behind
pub any_here : {X : Type 0} (p : X → Bool) (xs : List X) (i : ℕ) (x : X) → i < length xs → x ≡ get_or xs i x
    → list_any p (drop i xs) ≡ list_any p xs
    → p x ≡ true → true ≡ list_any p xs
any_here p xs i x l is before met =
    let met_here = ap (λ b. b || list_any p (drop (i + 1) xs)) met in
    sym (sym before ∙ ap (list_any p) (from_here xs i x l is) ∙ met_here)

pub any_behind : {X : Type 0} (p : X → Bool) (xs : List X) (i : ℕ) (x : X) → i < length xs → x ≡ get_or xs i x
    → list_any p (drop i xs) ≡ list_any p xs
    → p x ≡ false → list_any p (drop (i + 1) xs) ≡ list_any p xs
any_behind p xs i x l is before fails =
    ap (λ b. b || list_any p (drop (i + 1) xs)) (sym fails) ∙ ap (list_any p) (sym (from_here xs i x l is)) ∙ before

pub any_nowhere : {X : Type 0} (p : X → Bool) (xs : List X) → list_any p (drop (length xs) xs) ≡ list_any p xs → false ≡ list_any p xs
any_nowhere p xs before =
    let done : drop (length xs) xs ≡ [] = drop_all (length xs) xs (omega arith) in
    ap (list_any p) (sym done) ∙ before

-- where a test passes at none it fails at each
pub none_at : {X : Type 0} (p : X → Bool) (xs : List X) → list_any p xs ≡ false → All (λ x. p x ≡ false) xs
none_at p [] none k d l = absurd (omega (arith, l))
none_at p (y ∷ ys) none zero d l = neither_left (p y) _ none
none_at p (y ∷ ys) none (suc k) d l = none_at p ys (neither_right (p y) _ none) k d (omega (arith, l))

pub bounded_day : (line : Line) → IsTrue (is_bounded_line line) → IsTrue (option_map_or (λ e. has_day_of_month (end_day e)) line.end true)
unfolding is_bounded_line
bounded_day line bounded = second (is_bounded_info line.info && list_all is_bounded_rule line.rules) _ bounded

pub bounded_rules : (line : Line) → IsTrue (is_bounded_line line) → IsTrue (list_all is_bounded_rule line.rules)
unfolding is_bounded_line
bounded_rules line bounded =
    second (is_bounded_info line.info) (list_all is_bounded_rule line.rules)
    (first (is_bounded_info line.info && list_all is_bounded_rule line.rules) _ bounded)
