-- The firings of settled rules in a year from 2100 on are those of the year 400 years later, a cycle later.
use Rattle.std.proofs.{Common.{◌≡◌, List, [], ◌∷◌, None, ℤ, pos, refl, ℕ, zero, suc, ap, ◌∙◌, arith, ◌≤ℤ◌, ◌+◌, ◌≤◌, true, ◌++◌, length, filter, sym, append-nil, int_lt, append_assoc}, lemmas.Int.{ints}, lemmas.List.{map-append}}
use Rattle.basics.specs.SignedLaws.{signed}
use Rattle.zone_table.specs.{Moments.{moment}, declared.rule.RuleInfo.{RuleInfo}}
use Rattle.zone_spans.specs.{Firings.{earliest, fired, year_firings, is_earlier}, Years.{earliest_year}, Cycle.{fired_on, firing_on, next_cycle, seconds_on}, Later.{firings_from}, Settled.{are_settled, is_lasting}}
use Rattle.tz_ever.proofs.cycle.{MomentLemmas.{moment-repeats}, SettledLemmas.{applying-settled}}

pub before_on : (a b : ℤ) → int_lt (seconds_on a) (seconds_on b) ≡ int_lt a b
before_on a b = grind (arith, ints)

is_earlier-repeats : (y offset saving : ℤ) (a b : RuleInfo) → pos 0 ≤ℤ y
    → is_earlier (next_cycle y) offset saving a b ≡ is_earlier y offset saving a b
is_earlier-repeats y offset saving a b h =
    (λ i. int_lt (moment-repeats a y offset saving h i) (moment-repeats b y offset saving h i))
    ∙ before_on (moment a y offset saving) (moment b y offset saving)

pub earliest-repeats : (y offset saving : ℤ) (r : RuleInfo) (rs : List RuleInfo) → pos 0 ≤ℤ y
    → earliest (next_cycle y) offset saving r rs ≡ earliest y offset saving r rs
unfolding earliest
earliest-repeats y offset saving r [] h = refl
earliest-repeats y offset saving r (q ∷ qs) h =
    rw (earliest-repeats y offset saving q qs h, is_earlier-repeats y offset saving (earliest y offset saving q qs).0 r h)

pub fired-repeats : (n : ℕ) (y offset saving : ℤ) (rules : List RuleInfo) → pos 0 ≤ℤ y
    → fired n (next_cycle y) offset None saving rules ≡ fired_on (fired n y offset None saving rules)
unfolding fired
fired-repeats zero y offset saving rules h = refl
fired-repeats (suc n) y offset saving [] h = refl
fired-repeats (suc n) y offset saving (r ∷ rs) h =
    let next = earliest y offset saving r rs in
    rw (
      earliest-repeats y offset saving r rs h,
      moment-repeats next.0 y offset saving h,
      fired-repeats n y offset next.0.time_to_add next.1 h,
    )

-- the lasting rules alone fire from 2100 on
pub year_firings-settled : (y offset saving : ℤ) (rules : List RuleInfo) → are_settled rules ≡ true → pos 2100 ≤ℤ y
    → year_firings y offset None saving rules ≡ fired (length (filter is_lasting rules)) y offset None saving (filter is_lasting rules)
unfolding year_firings
year_firings-settled y offset saving rules settled late =
    ap (λ rs. fired (length rs) y offset None saving rs) (applying-settled rules y settled late)

pub year_firings-repeats : (y offset saving : ℤ) (rules : List RuleInfo) → are_settled rules ≡ true → pos 2100 ≤ℤ y
    → year_firings (next_cycle y) offset None saving rules ≡ fired_on (year_firings y offset None saving rules)
year_firings-repeats y offset saving rules settled late =
    let rs = filter is_lasting rules in
    year_firings-settled (next_cycle y) offset saving rules settled (omega (arith, signed))
    ∙ fired-repeats (length rs) y offset saving rs (omega (arith, signed))
    ∙ ap fired_on (sym (year_firings-settled y offset saving rules settled late))

-- from the year 2100 on, which is the 300th place, the firings of any number of years repeat in the next cycle
pub firings_from-repeats : (place k : ℕ) (offset saving : ℤ) (rules : List RuleInfo) → are_settled rules ≡ true → 300 ≤ place
    → firings_from (place + 400) offset rules saving k ≡ fired_on (firings_from place offset rules saving k)
unfolding firings_from
firings_from-repeats place zero offset saving rules settled late = refl
firings_from-repeats place (suc k) offset saving rules settled late =
    let before = firings_from place offset rules saving k in
    let year = pos (earliest_year + (k + place)) in
    let later : pos (earliest_year + (k + (place + 400))) ≡ next_cycle year = omega (arith, signed) in
    let here = year_firings year offset None before.1 rules in
    rw (
      firings_from-repeats place k offset saving rules settled late,
      later,
      year_firings-repeats year offset before.1 rules settled (omega (arith, signed)),
    )
    (λ i. (sym (map-append firing_on before.0 here.0) i, here.1))

-- more years from a place on are those years after the first of them
pub firings_from-split : (place j k : ℕ) (offset saving : ℤ) (rules : List RuleInfo)
    → firings_from place offset rules saving (k + j) ≡ (
      (firings_from place offset rules saving j).0 ++
          (firings_from (j + place) offset rules (firings_from place offset rules saving j).1 k).0,
      (firings_from (j + place) offset rules (firings_from place offset rules saving j).1 k).1,
    )
unfolding firings_from
firings_from-split place j zero offset saving rules =
    let same : 0 + j ≡ j = omega arith in
    let begun = firings_from place offset rules saving j in
    ap (firings_from place offset rules saving) same ∙ (λ i. (sym (append-nil begun.0) i, begun.1))
firings_from-split place j (suc k) offset saving rules =
    let next : suc k + j ≡ suc (k + j) = omega arith in
    let begun = firings_from place offset rules saving j in
    let more = firings_from (j + place) offset rules begun.1 k in
    let here = year_firings (pos (earliest_year + (k + (j + place)))) offset None more.1 rules in
    let year : k + j + place ≡ k + (j + place) = omega arith in
    rw (next, firings_from-split place j k offset saving rules, year) (λ i. (append_assoc begun.0 more.0 here.0 i, here.1))
