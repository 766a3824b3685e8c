-- A zone whose last line has no lasting rule, or no rules at all, has the same entries over more years.
use Rattle.std.{proofs.{Common.{◌≡◌, List, [], ◌∷◌, None, ℤ, pos, refl, ℕ, zero, suc, Bool, ap, ◌∙◌, arith, ◌≤ℤ◌, ◌+◌, ◌≤◌, true, false, ◌++◌, length, map, filter, sym, append-nil, inl, inr, not, ◌&&◌, Option}, lemmas.Bool.{cases_Bool}}, specs.List.{list_any}}
use Rattle.basics.specs.SignedLaws.{signed}
use Rattle.zone_table.specs.declared.rule.RuleInfo.{RuleInfo}
use Rattle.zone_spans.specs.{Entries.{entry_of, start_entry, entries_from_over, entries_of_over}, Firings.{fired, year_firings, Fired}, Lines.{Line, is_ruled}, Listing.{listed_firings}, Years.{earliest_year}, GoesOn.{is_still}}
use Rattle.zone_spans.specs.{Later.{firings_from, first_fired, start_after}, Settled.{are_settled, is_lasting}, LaterLaws.{firings_of_years-split}}
use Rattle.tz_ever.proofs.cycle.{FiringLemmas.{year_firings-settled}, FitLemmas.{or_first, or_second}, TestLemmas.{not_true}, ZoneLemmas.{AllEnd, IsEndless, entries_from_over-split, entries_of_over-endless}}

year_firings-quiet : (y offset saving : ℤ) (rules : List RuleInfo) → are_settled rules ≡ true → pos 2100 ≤ℤ y
    → filter is_lasting rules ≡ [] → year_firings y offset None saving rules ≡ ([], saving)
unfolding fired
year_firings-quiet y offset saving rules settled late none =
    year_firings-settled y offset saving rules settled late ∙ ap (λ rs. fired (length rs) y offset None saving rs) none

firings_from-quiet : (place k : ℕ) (offset saving : ℤ) (rules : List RuleInfo) → are_settled rules ≡ true → 300 ≤ place
    → filter is_lasting rules ≡ [] → firings_from place offset rules saving k ≡ ([], saving)
unfolding firings_from
firings_from-quiet place zero offset saving rules settled late none = refl
firings_from-quiet place (suc k) offset saving rules settled late none =
    rw (
      firings_from-quiet place k offset saving rules settled late none,
      year_firings-quiet (pos (earliest_year + (k + place))) offset saving rules settled (omega (arith, signed)) none,
    )

first_fired-quiet : (line : Line) (place k : ℕ) → are_settled line.rules ≡ true → 300 ≤ place → filter is_lasting line.rules ≡ []
    → first_fired line (k + place) ≡ first_fired line place
first_fired-quiet line place k settled late none =
    let begun = first_fired line place in
    firings_of_years-split place k line.info.offset line.rules
    ∙ ap (λ (f : Fired). (begun.0 ++ f.0, f.1)) (firings_from-quiet place k line.info.offset begun.1 line.rules settled late none)
    ∙ (λ i. (append-nil begun.0 i, begun.1))

-- of a last line without a lasting rule
entries_of_over-quiet : (last : Line) (start : Option ℤ) (place k : ℕ) → 300 ≤ place → IsEndless last → are_settled last.rules ≡ true
    → filter is_lasting last.rules ≡ [] → entries_of_over (k + place) last start ≡ entries_of_over place last start
entries_of_over-quiet last start place k late endless settled none =
    let same = ap (λ (f : Fired). f.0) (first_fired-quiet last place k settled late none) in
    entries_of_over-endless (k + place) last start endless
    ∙ (λ i. map (entry_of last) (listed_firings start (same i)) ++ start_entry last start (same i))
    ∙ sym (entries_of_over-endless place last start endless)

-- of a last line that isn't ruled
entries_of_over-fixed : (last : Line) (start : Option ℤ) (place k : ℕ) → is_ruled last.info.saving ≡ false
    → entries_of_over (k + place) last start ≡ entries_of_over place last start
unfolding entries_of_over
entries_of_over-fixed last start place k fixed = rw fixed

none_kept : {X : Type 0} (test : X → Bool) (xs : List X) → list_any test xs ≡ false → filter test xs ≡ []
none_kept test [] h = refl
none_kept test (x ∷ xs) h =
    let others = none_kept test xs (or_second (test x) (list_any test xs) h) in
    rw (or_first (test x) (list_any test xs) h) others

not_and : (a b : Bool) → not (a && b) ≡ true → a ≡ true → b ≡ false
not_and true b h is = not_true b h
not_and false b h is = absurd cc

entries_of_over-still : (last : Line) (start : Option ℤ) (place k : ℕ) → 300 ≤ place → last.end ≡ None → are_settled last.rules ≡ true
    → is_still last ≡ true → entries_of_over (k + place) last start ≡ entries_of_over place last start
entries_of_over-still last start place k late endless settled still =
    elim (cases_Bool (is_ruled last.info.saving)) [
      | inl ruled ↦ entries_of_over-quiet last start place k late (record { ruled = ruled; endless = endless }) settled
          (none_kept is_lasting last.rules (not_and (is_ruled last.info.saving) (list_any is_lasting last.rules) still ruled))
      | inr fixed ↦ entries_of_over-fixed last start place k fixed
    ]

pub entries_from_over-still : (lines : List Line) (last : Line) (place k : ℕ) → 300 ≤ place → AllEnd lines → last.end ≡ None
    → are_settled last.rules ≡ true → is_still last ≡ true
    → entries_from_over (k + place) None (lines ++ (last ∷ [])) ≡ entries_from_over place None (lines ++ (last ∷ []))
entries_from_over-still lines last place k late ended endless settled still =
    entries_from_over-split (k + place) None lines last (omega (arith, late)) ended
    ∙ ap (λ l. entries_from_over 300 None lines ++ l)
    (entries_of_over-still last (start_after None lines) place k late endless settled still)
    ∙ sym (entries_from_over-split place None lines last late ended)
