-- Where the saving is the same on both sides of a cycle, all that fires later repeats; and rules of one clock see to that.
use Rattle.std.proofs.{Common.{◌≡◌, refl, [], ◌∷◌, map, true, false, pos, List, ◌++◌, arith, ◌≤◌, ℤ, ◌∙◌, sym, ℕ, ◌+◌, ◌≤ℤ◌, None, suc, ap, length, filter, int_lt, cond}, lemmas.Int.{ints}}
use Rattle.basics.specs.SignedLaws.{signed}
use Rattle.zone_table.specs.{declared.time.TimeType.{TimeType, TheVariants.{Wall, UTC, Standard}}, Moments.{instant_of, moment}, declared.rule.RuleInfo.{RuleInfo}}
use Rattle.zone_spans.specs.{Firings.{earliest, fired, year_firings, Fired, is_earlier, firings_of_years}, Years.{earliest_year}, Cycle.{firing_on, next_cycle}, Later.{firings_from}, Settled.{HaveClock, are_settled, is_lasting}}
use Rattle.zone_spans.specs.LaterLaws.{firings_of_years-split}
use Rattle.tz_ever.proofs.cycle.FiringLemmas.{firings_from-repeats, year_firings-repeats, year_firings-settled}

-- the saving in force after the first years up to that place is the same a cycle later
abbrev pub IsSeam : ℤ → List RuleInfo → ℕ → Type 0
IsSeam offset rules place = (firings_of_years offset None rules (place + 400)).1 ≡ (firings_of_years offset None rules place).1

-- all years past a cycle fire as those of the cycle before
pub firings-repeat : (place k : ℕ) (offset : ℤ) (rules : List RuleInfo) → are_settled rules ≡ true → 300 ≤ place
    → IsSeam offset rules place
    → firings_of_years offset None rules (k + (place + 400)) ≡ (
      (firings_of_years offset None rules (place + 400)).0 ++
          map firing_on (firings_from place offset rules (firings_of_years offset None rules place).1 k).0,
      (firings_from place offset rules (firings_of_years offset None rules place).1 k).1,
    )
firings-repeat place k offset rules settled late seam =
    let begun = firings_of_years offset None rules (place + 400) in
    firings_of_years-split (place + 400) k offset rules
    ∙ ap (λ (f : Fired). (begun.0 ++ f.0, f.1)) (ap (λ s. firings_from (place + 400) offset rules s k) seam
    ∙ firings_from-repeats place k offset (firings_of_years offset None rules place).1 rules settled late)

-- the seam holds at each later place too
pub seam-stays : (place k : ℕ) (offset : ℤ) (rules : List RuleInfo) → are_settled rules ≡ true → 300 ≤ place
    → IsSeam offset rules place → IsSeam offset rules (k + place)
seam-stays place k offset rules settled late seam =
    let same : k + place + 400 ≡ k + (place + 400) = omega arith in
    ap (λ n. (firings_of_years offset None rules n).1) same
    ∙ ap (λ (f : Fired). f.1) (firings-repeat place k offset rules settled late seam)
    ∙ ap (λ (f : Fired). f.1) (sym (firings_of_years-split place k offset rules))

order-by_clock : (clock : TimeType) (a b offset s t : ℤ)
    → int_lt (instant_of clock a offset s) (instant_of clock b offset s) ≡ int_lt (instant_of clock a offset t) (instant_of clock b offset t)
unfolding instant_of
order-by_clock UTC a b offset s t = refl
order-by_clock Standard a b offset s t = refl
order-by_clock Wall a b offset s t = grind (arith, ints)

is_earlier-by_clock : (clock : TimeType) (y offset s t : ℤ) (a b : RuleInfo) → a.time_type ≡ clock → b.time_type ≡ clock
    → is_earlier y offset s a b ≡ is_earlier y offset t a b
unfolding moment
is_earlier-by_clock clock y offset s t a b ea eb = rw (ea, eb) (order-by_clock clock _ _ offset s t)

-- what is chosen and what is left have the clock
abbrev pub HasClock : TimeType → RuleInfo × List RuleInfo → Type 0
HasClock clock e = (e.0.time_type ≡ clock) × HaveClock clock e.1

earliest-has_clock : (clock : TimeType) (y offset s : ℤ) (r : RuleInfo) (rs : List RuleInfo) → HaveClock clock (r ∷ rs)
    → HasClock clock (earliest y offset s r rs)
unfolding earliest
earliest-has_clock clock y offset s r [] have = (have.0, tt)
earliest-has_clock clock y offset s r (q ∷ qs) have =
    let later = earliest y offset s q qs in
    let kept : HasClock clock later = earliest-has_clock clock y offset s q qs have.1 in
    elim (is_earlier y offset s later.0 r) as (λ b. HasClock clock (cond b (later.0, r ∷ later.1) (r, q ∷ qs))) [
      | true ↦ (kept.0, (have.0, kept.1))
      | false ↦ (have.0, have.1)
    ]

earliest-by_clock : (clock : TimeType) (y offset s t : ℤ) (r : RuleInfo) (rs : List RuleInfo) → HaveClock clock (r ∷ rs)
    → earliest y offset s r rs ≡ earliest y offset t r rs
unfolding earliest
earliest-by_clock clock y offset s t r [] have = refl
earliest-by_clock clock y offset s t r (q ∷ qs) have =
    let kept = earliest-has_clock clock y offset t q qs have.1 in
    rw (
      earliest-by_clock clock y offset s t q qs have.1,
      is_earlier-by_clock clock y offset s t (earliest y offset t q qs).0 r kept.0 have.0,
    )

-- what fires first decides the saving after the year, whatever was in force before
pub fired-after_first : (n : ℕ) (y offset s t : ℤ) (r : RuleInfo) (rs : List RuleInfo)
    → earliest y offset s r rs ≡ earliest y offset t r rs
    → (fired (suc n) y offset None s (r ∷ rs)).1 ≡ (fired (suc n) y offset None t (r ∷ rs)).1
unfolding fired
fired-after_first n y offset s t r rs same = ap (λ (e : RuleInfo × List RuleInfo). (fired n y offset None e.0.time_to_add e.1).1) same

fired-by_clock : (clock : TimeType) (y offset s t : ℤ) (rules : List RuleInfo) → HaveClock clock rules → 1 ≤ length rules
    → (fired (length rules) y offset None s rules).1 ≡ (fired (length rules) y offset None t rules).1
fired-by_clock clock y offset s t [] have some = absurd (omega arith)
fired-by_clock clock y offset s t (r ∷ rs) have some =
    fired-after_first (length rs) y offset s t r rs (earliest-by_clock clock y offset s t r rs have)

-- with one lasting rule or more, all of one clock, the saving after a year does not depend on the saving before it
pub year_saving-by_clock : (clock : TimeType) (y offset s t : ℤ) (rules : List RuleInfo) → are_settled rules ≡ true → pos 2100 ≤ℤ y
    → HaveClock clock (filter is_lasting rules) → 1 ≤ length (filter is_lasting rules)
    → (year_firings y offset None s rules).1 ≡ (year_firings y offset None t rules).1
year_saving-by_clock clock y offset s t rules settled late have some =
    ap (λ (f : Fired). f.1) (year_firings-settled y offset s rules settled late)
    ∙ fired-by_clock clock y offset s t (filter is_lasting rules) have some
    ∙ ap (λ (f : Fired). f.1) (sym (year_firings-settled y offset t rules settled late))

-- so the seam holds from the end of 2100 on
pub seam-by_clock : (clock : TimeType) (place : ℕ) (offset : ℤ) (rules : List RuleInfo) → are_settled rules ≡ true → 300 ≤ place
    → HaveClock clock (filter is_lasting rules) → 1 ≤ length (filter is_lasting rules) → IsSeam offset rules (suc place)
unfolding firings_of_years
seam-by_clock clock place offset rules settled late have some =
    let next : suc place + 400 ≡ suc (place + 400) = omega arith in
    let year = pos (earliest_year + place) in
    let later : pos (earliest_year + (place + 400)) ≡ next_cycle year = omega (arith, signed) in
    let s = (firings_of_years offset None rules (place + 400)).1 in
    let t = (firings_of_years offset None rules place).1 in
    let here : pos 2100 ≤ℤ year = omega (arith, signed) in
    ap (λ n. (firings_of_years offset None rules n).1) next
    ∙ ap (λ y. (year_firings y offset None s rules).1) later
    ∙ ap (λ (f : Fired). f.1) (year_firings-repeats year offset s rules settled here)
    ∙ year_saving-by_clock clock year offset s t rules settled here have some
