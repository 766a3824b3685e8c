-- What is laid out so far, and what is left of a line.
use Rattle.std.proofs.{Common.{◌≡◌, ℕ, List, [], ◌∷◌, ◌++◌, true, false, ◌||◌, not, refl, sym, ap, ◌∙◌, append_assoc, append-nil, drop, length, get_or, drop-cons, subst, ◌<◌, ◌≤◌, ◌+◌, arith}, lemmas.List.{drop_all}}
use Rattle.std.specs.{Prelude.{flat_map}, List.{list_any}}
use Rattle.zone_plain_lines.specs.{Quotes.{mark, laid, laid_out, kept, after, begins_comment, closes_nothing, is_outside, is_mark_of_nothing, place_after, has_bad_quotes}, declared.quotes.Place.{Place}, declared.quotes.Place.TheVariants.{Outside}}

-- what was written, and what is to come from a place on
pub record IsSoFar (line text : List ℕ) (place : Place) (rest : List ℕ) : Type 0 where
  pub written : text ++ flat_map laid (kept place rest) ≡ laid_out line
  pub nothing : list_any is_mark_of_nothing (kept place rest) ≡ list_any is_mark_of_nothing (kept Outside line)
  pub stands : place_after place (kept place rest) ≡ place_after Outside (kept Outside line)

pub begins : (line : List ℕ) → IsSoFar line [] Outside line
unfolding laid_out
begins line = record { written = refl; nothing = refl; stands = refl }

-- a byte that begins no comment is kept
taken : (place : Place) (c : ℕ) (rest : List ℕ) → begins_comment place c ≡ false → kept place (c ∷ rest) ≡ mark place c ∷ kept (after place c) rest
taken place c rest e = rw e refl

-- and one that does is not
left_out : (place : Place) (c : ℕ) (rest : List ℕ) → begins_comment place c ≡ true → kept place (c ∷ rest) ≡ []
left_out place c rest e = rw e refl

-- one byte more, which begins no comment and doesn't close quotes of nothing
pub goes_on : (line text : List ℕ) (place : Place) (c : ℕ) (rest : List ℕ) → begins_comment place c ≡ false → closes_nothing place c ≡ false
    → IsSoFar line text place (c ∷ rest) → IsSoFar line (text ++ laid (mark place c)) (after place c) rest
goes_on line text place c rest no_comment something so_far = record {
  written = append_assoc text (laid (mark place c)) _
      ∙ ap (λ marks. text ++ flat_map laid marks) (sym (taken place c rest no_comment)) ∙ so_far.written;
  nothing = ap (λ b. b || list_any is_mark_of_nothing (kept (after place c) rest)) (sym something)
      ∙ ap (list_any is_mark_of_nothing) (sym (taken place c rest no_comment)) ∙ so_far.nothing;
  stands = ap (place_after place) (sym (taken place c rest no_comment)) ∙ so_far.stands;
}

-- a comment begins
pub at_comment : (line text : List ℕ) (place : Place) (c : ℕ) (rest : List ℕ) → begins_comment place c ≡ true
    → IsSoFar line text place (c ∷ rest) → IsSoFar line text place []
at_comment line text place c rest comment so_far = record {
  written = ap (λ marks. text ++ flat_map laid marks) (sym (left_out place c rest comment)) ∙ so_far.written;
  nothing = ap (list_any is_mark_of_nothing) (sym (left_out place c rest comment)) ∙ so_far.nothing;
  stands = ap (place_after place) (sym (left_out place c rest comment)) ∙ so_far.stands;
}

-- nothing is left
pub all_written : (line text : List ℕ) (place : Place) → IsSoFar line text place [] → text ≡ laid_out line
all_written line text place so_far = sym (append-nil text) ∙ so_far.written

pub quotes_end : (line text : List ℕ) (place : Place) → IsSoFar line text place [] → has_bad_quotes (kept Outside line) ≡ not (is_outside place)
unfolding has_bad_quotes
quotes_end line text place so_far = rw (← so_far.nothing, ← so_far.stands) refl

-- quotes close of which nothing stands between
pub bad : (line text : List ℕ) (place : Place) (c : ℕ) (rest : List ℕ) → begins_comment place c ≡ false → closes_nothing place c ≡ true
    → IsSoFar line text place (c ∷ rest) → has_bad_quotes (kept Outside line) ≡ true
unfolding has_bad_quotes
bad line text place c rest no_comment nothing so_far = rw found refl
  where
    found : list_any is_mark_of_nothing (kept Outside line) ≡ true
    found = sym so_far.nothing ∙ ap (list_any is_mark_of_nothing) (taken place c rest no_comment)
        ∙ ap (λ b. b || list_any is_mark_of_nothing (kept (after place c) rest)) nothing

drop_step : (xs : List ℕ) (i : ℕ) → i < length xs → drop i xs ≡ get_or xs i 0 ∷ drop (i + 1) xs
drop_step xs i inside = grind (arith, drop-cons)

-- the next byte, where there is one
pub at_byte : (line text : List ℕ) (place : Place) (i : ℕ) → i < length line → IsSoFar line text place (drop i line)
    → IsSoFar line text place (get_or line i 0 ∷ drop (i + 1) line)
at_byte line text place i inside so_far =
    subst (IsSoFar line text place) (drop_step line i inside) so_far

-- and where there is none
pub at_end : (line text : List ℕ) (place : Place) (i : ℕ) → length line ≤ i → IsSoFar line text place (drop i line) → IsSoFar line text place []
at_end line text place i past so_far = subst (IsSoFar line text place) (drop_all i line past) so_far
