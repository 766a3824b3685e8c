-- What replies see of a zone.
use Rattle.std.{proofs.Common.{◌≡◌, ◌≤◌, ℕ, zero, suc, ℤ, pos, ◌-ℤ◌, List, [], ◌∷◌, ◌++◌, length, map, filter, Bool, cond, refl, ap, sym, ◌∙◌, arith, true, false}, specs.Prelude.{int_le, int_lt}, proofs.lemmas.Int.{ints}}
use Rattle.basics.specs.ComparisonLaws.{lt_pass, lt_fail, le_from_pass, le_from_fail}
use Rattle.civil_base.specs.{DateTimes.{instant}, declared.offset_date_time.OffsetDateTime.{OffsetDateTime}}
use Rattle.zone_spans.specs.{Entries.{Entry, total}, Schedules.{instants}}
use Rattle.tz_lookup.specs.{InForce.{all_in_force, in_force, shown_of}, Sets.{span_in, total_of_span}, declared.set.FixedTimespanSet.{FixedTimespanSet}}
use Rattle.sefunjaro.{specs.Changes.{last_span, span_before}, specs.Replies.{span_on}, specs.Rooms.{filled}, proofs.ChangeLemmas.{by_place}}

-- the total of a span by its number
pub total_is : (set : FixedTimespanSet) (k : ℕ) → k ≤ length set.others → total_of_span set k ≡ total (span_in set k)
total_is set zero l = refl
total_is set (suc k) l = ap (λ s. s.1) (by_place set set.others k (pos 0, set.first) (omega (arith, l))).1

-- a second up to another but one lies before it
one_before : (s second : ℤ) → int_lt s second ≡ int_le s (second -ℤ pos 1)
one_before s second =
    elim (int_le s (second -ℤ pos 1)) as (λ b. int_le s (second -ℤ pos 1) ≡ b → int_lt s second ≡ b) [
      | true ↦ λ e. lt_pass s second (omega (arith, ints, le_from_pass s (second -ℤ pos 1) e))
      | false ↦ λ e. lt_fail s second (omega (arith, ints, le_from_fail s (second -ℤ pos 1) e))
    ] refl

same_filter : (p q : ℤ → Bool) → ((s : ℤ) → p s ≡ q s) → (es : List Entry) → filter (λ e. p e.0) es ≡ filter (λ e. q e.0) es
same_filter p q h [] = refl
same_filter p q h (e ∷ es) = (λ i. cond (h e.0 i) (e ∷ same_filter p q h es i) (same_filter p q h es i))

-- what is in force just before a second is what is in force a second before
pub until_is : (set : FixedTimespanSet) (second : ℤ) → span_before set second ≡ span_on set (second -ℤ pos 1)
unfolding span_before span_on
until_is set second =
    ap (last_span set.first) (same_filter (λ s. int_lt s second) (λ s. int_le s (second -ℤ pos 1)) (λ s. one_before s second) set.others)

-- room for as many as there are is filled with them
pub filled_all : {A : Type 0} → (xs room : List A) → length room ≡ length xs → filled xs room ≡ xs
unfolding filled
filled_all [] [] e = refl
filled_all [] (r ∷ room) e = absurd (omega (arith, e))
filled_all (x ∷ xs) [] e = absurd (omega (arith, e))
filled_all (x ∷ xs) (r ∷ room) e = ap (λ l. x ∷ l) (filled_all xs room (omega (arith, e)))

firsts : (total : ℤ → ℤ) (ts : List ℤ) → map (λ (s : ℤ × ℤ). s.0) (map (in_force total) ts) ≡ ts
firsts total [] = refl
firsts total (t ∷ ts) = ap (λ l. t ∷ l) (firsts total ts)

instants_shown : (ds : List OffsetDateTime) → map (λ (s : ℤ × ℤ). s.0) (map shown_of ds) ≡ map instant ds
unfolding shown_of
instants_shown [] = refl
instants_shown (d ∷ ds) = ap (λ l. instant d ∷ l) (instants_shown ds)

-- the instants of date-times that are all those of a local time
pub dates_of : (total : ℤ → ℤ) (x : ℤ) (ds : List OffsetDateTime) → map shown_of ds ≡ all_in_force total x → map instant ds ≡ instants total x
unfolding all_in_force
dates_of total x ds e = sym (instants_shown ds) ∙ ap (map (λ (s : ℤ × ℤ). s.0)) e ∙ firsts total (instants total x)

moved_on : {A B : Type 0} → (show : A → B) (x : A) (rest ys : List A) → map show (ys ++ (x ∷ [])) ++ map show rest ≡ map show ys ++ (show x ∷ map show rest)
moved_on show x rest [] = refl
moved_on show x rest (y ∷ ys) = ap (λ l. show y ∷ l) (moved_on show x rest ys)

-- one more of a list, and what is left
pub pushed : {A B : Type 0} → (show : A → B) (found left rest new : List A) (x : A) (all : List B) → map show found ++ map show left ≡ all → left ≡ x ∷ rest
    → new ≡ found ++ (x ∷ []) → map show new ++ map show rest ≡ all
pushed show found left rest new x all met next put =
    ap (λ l. map show l ++ map show rest) put ∙ moved_on show x rest found ∙ ap (λ l. map show found ++ map show l) (sym next) ∙ met
