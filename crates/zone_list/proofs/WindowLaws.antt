-- Windows that meet join: a window can be cut in two and put together again.
use Rattle.std.{specs.Prelude.{◌≡◌, ℕ, suc, Bool, true, false, List, [], ◌∷◌, ◌++◌, length, map, ℤ, ◌≤ℤ◌, ◌<ℤ◌, int_lt, refl}, proofs.Common.{cond, sym, ap, ◌∙◌, arith, ◌&&◌, ◌<◌}, proofs.lemmas.Int.{ints}}
use Rattle.basics.specs.ComparisonLaws.{le_pass, le_fail, lt_pass, lt_fail, lt_from_pass, lt_from_fail}
use Rattle.zone_spans.specs.Entries.{Entry}
use Rattle.tz_lookup.specs.{Sets.{shift_of, shifts_of}, Spans.{shift_at, TimesDontFall}, declared.set.FixedTimespanSet.{FixedTimespanSet}}
use Rattle.zone_list.specs.Windows.{is_within, within, window}

-- no entry lies before the second
abbrev pub AreFrom : ℤ → List Entry → Type 0
AreFrom second [] = Unit {0}
AreFrom second (entry ∷ entries) = (second ≤ℤ entry.0) × AreFrom second entries

-- no entry lies before one that stands before it
abbrev pub Rise : List Entry → Type 0
Rise [] = Unit {0}
Rise (entry ∷ entries) = AreFrom entry.0 entries × Rise entries

are_from : (second : ℤ) (entries : List Entry) → ((j : ℕ) → j < length (map shift_of entries) → second ≤ℤ (shift_at (map shift_of entries) j).0)
    → AreFrom second entries
are_from second [] each = tt
are_from second (entry ∷ entries) each = (each 0 (omega arith), are_from second entries (λ j below. each (suc j) (omega (arith, below))))

pub rise : (entries : List Entry) → TimesDontFall (map shift_of entries) → Rise entries
rise [] times = tt
rise (entry ∷ entries) times = (
  are_from entry.0 entries (λ j below. times 0 (suc j) (omega arith) (omega (arith, below))),
  rise entries (λ i j order below. times (suc i) (suc j) (omega (arith, order)) (omega (arith, below))),
)

pub from_earlier : (first second : ℤ) (entries : List Entry) → first ≤ℤ second → AreFrom second entries → AreFrom first entries
from_earlier first second [] order from = tt
from_earlier first second (entry ∷ entries) order from = (omega (arith, ints, order, from.0), from_earlier first second entries order from.1)

-- whether an entry lies within, by where it lies
pub lies_before : (from to : ℤ) (entry : Entry) → entry.0 <ℤ from → is_within from to entry ≡ false
lies_before from to entry before = ap (λ b. b && int_lt entry.0 to) (le_fail from entry.0 before)

pub lies_after : (from to : ℤ) (entry : Entry) → from ≤ℤ entry.0 → to ≤ℤ entry.0 → is_within from to entry ≡ false
lies_after from to entry begun ended = (λ i. le_pass from entry.0 begun i && lt_fail entry.0 to ended i)

pub lies_within : (from to : ℤ) (entry : Entry) → from ≤ℤ entry.0 → entry.0 <ℤ to → is_within from to entry ≡ true
lies_within from to entry begun lasts = (λ i. le_pass from entry.0 begun i && lt_pass entry.0 to lasts i)

-- one entry that lies within, and one that doesn't
pub one_more : (from to : ℤ) (entry : Entry) (entries : List Entry) → is_within from to entry ≡ true
    → within from to (entry ∷ entries) ≡ entry ∷ within from to entries
one_more from to entry entries is = ap (λ b. cond b (entry ∷ within from to entries) (within from to entries)) is

pub no_more : (from to : ℤ) (entry : Entry) (entries : List Entry) → is_within from to entry ≡ false
    → within from to (entry ∷ entries) ≡ within from to entries
no_more from to entry entries is = ap (λ b. cond b (entry ∷ within from to entries) (within from to entries)) is

-- from the end of a window on, none lies within
pub none_within : (from to : ℤ) (entries : List Entry) → AreFrom from entries → AreFrom to entries → within from to entries ≡ []
none_within from to [] begun ended = refl
none_within from to (entry ∷ entries) begun ended =
    no_more from to entry entries (lies_after from to entry begun.0 ended.0) ∙ none_within from to entries begun.1 ended.1

-- where no entry lies before a second, a window from it on is one from an earlier second on
same_from : (first second to : ℤ) (entries : List Entry) → first ≤ℤ second → AreFrom second entries
    → within second to entries ≡ within first to entries
same_from first second to [] order from = refl
same_from first second to (entry ∷ entries) order from =
    λ i. cond (same i) (entry ∷ same_from first second to entries order from.1 i) (same_from first second to entries order from.1 i)
  where
    begun : first ≤ℤ entry.0
    begun = omega (arith, ints, order, from.0)

    same : is_within second to entry ≡ is_within first to entry
    same = (λ i. (le_pass second entry.0 from.0 ∙ sym (le_pass first entry.0 begun)) i && int_lt entry.0 to)

join : (a b c : ℤ) (entries : List Entry) → a ≤ℤ b → b ≤ℤ c → Rise entries
    → within a b entries ++ within b c entries ≡ within a c entries
join a b c [] ab bc rises = refl
join a b c (entry ∷ entries) ab bc rises = by_end (join a b c entries ab bc rises.1) (int_lt entry.0 b) refl
  where
    by_start : within a b entries ++ within b c entries ≡ within a c entries → (t : Bool) → int_lt entry.0 a ≡ t → entry.0 <ℤ b
        → within a b (entry ∷ entries) ++ within b c (entry ∷ entries) ≡ within a c (entry ∷ entries)
    by_start more true is early =
        let before : entry.0 <ℤ a = lt_from_pass entry.0 a is in
        (λ i. no_more a b entry entries (lies_before a b entry before) i ++ no_more b c entry entries (lies_before b c entry early) i)
        ∙ more ∙ sym (no_more a c entry entries (lies_before a c entry before))
    by_start more false is early =
        let begun : a ≤ℤ entry.0 = lt_from_fail entry.0 a is in
        let lasts : entry.0 <ℤ c = omega (arith, ints, early, bc) in
        (λ i. one_more a b entry entries (lies_within a b entry begun early) i ++ no_more b c entry entries (lies_before b c entry early) i)
        ∙ ap (λ es. entry ∷ es) more ∙ sym (one_more a c entry entries (lies_within a c entry begun lasts))

    by_end : within a b entries ++ within b c entries ≡ within a c entries → (t : Bool) → int_lt entry.0 b ≡ t
        → within a b (entry ∷ entries) ++ within b c (entry ∷ entries) ≡ within a c (entry ∷ entries)
    by_end more true is = by_start more (int_lt entry.0 a) refl (lt_from_pass entry.0 b is)
    by_end more false is =
        let late : b ≤ℤ entry.0 = lt_from_fail entry.0 b is in
        let from : AreFrom b (entry ∷ entries) = (late, from_earlier b entry.0 entries late rises.0) in
        ap (λ es. es ++ within b c (entry ∷ entries)) (none_within a b (entry ∷ entries) (from_earlier a b (entry ∷ entries) ab from) from)
        ∙ same_from a b c (entry ∷ entries) ab from

-- the entries from a to b followed by those from b to c are those from a to c
pub windows_join : (set : FixedTimespanSet) (a b c : ℤ) → TimesDontFall (shifts_of set) → a ≤ℤ b → b ≤ℤ c
    → window set a b ++ window set b c ≡ window set a c
unfolding window
windows_join set a b c times ab bc = join a b c set.others ab bc (rise set.others times)
