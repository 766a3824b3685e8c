-- What a test over the entries of one cycle says of all years past it: they are in order, and behind what stands before them.
use Rattle.std.proofs.{Common.{◌≡◌, List, [], ◌∷◌, Some, None, ℤ, refl, ℕ, zero, suc, ap, ◌∙◌, arith, ◌+◌, ◌≤◌, true, false, ◌++◌, map, sym, ◌-◌, ◌*◌, inl, inr, int_lt, Option, subst}, lemmas.Bool.{cases_lt}, lemmas.Int.{ints}, lemmas.List.{map-append}}
use Rattle.zone_spans.specs.{Entries.{entry_of, is_sooner, Entry}, Firings.{Fired, Firing}, Lines.{Line}, Cycle.{entry_on, seconds_on}, Later.{firings_from, first_fired, later_entries, later_fired}, Settled.{are_settled}, LaterLaws.{firings_of_years-split}}
use Rattle.tz_ever.proofs.cycle.{FiringLemmas.{before_on, firings_from-repeats, firings_from-split}, SeamLemmas.{IsSeam}, SortLemmas.{AllAreBelow, NoneIsBelow, Precede, RiseAbove}, ZoneLemmas.{ArePast, entries_on}}

-- none comes before that second
abbrev pub AllFrom : ℤ → List Entry → Type 0
AllFrom low [] = Unit {0}
AllFrom low (e ∷ es) = (int_lt e.0 low ≡ false) × AllFrom low es

-- none comes after that second
abbrev pub AllTo : ℤ → List Entry → Type 0
AllTo high [] = Unit {0}
AllTo high (e ∷ es) = (int_lt high e.0 ≡ false) × AllTo high es

-- all come before that second
abbrev pub AllUnder : ℤ → List Entry → Type 0
AllUnder high [] = Unit {0}
AllUnder high (e ∷ es) = (int_lt e.0 high ≡ true) × AllUnder high es

-- none comes before one in front of it
abbrev pub Rising : List Entry → Type 0
Rising [] = Unit {0}
Rising (e ∷ es) = NoneIsBelow is_sooner e es × Rising es

pub chain : (a b c : ℤ) → int_lt b a ≡ false → int_lt c b ≡ false → int_lt c a ≡ false
chain a b c h k = grind (arith, ints)

pub chain_under : (a b c : ℤ) → int_lt a b ≡ true → int_lt c b ≡ false → int_lt a c ≡ true
chain_under a b c h k = grind (arith, ints)

pub later_second : (a : ℤ) → int_lt (seconds_on a) a ≡ false
later_second a = grind (arith, ints)

pub none_below-from : (x : Entry) (low : ℤ) (gs : List Entry) → int_lt low x.0 ≡ false → AllFrom low gs → NoneIsBelow is_sooner x gs
none_below-from x low [] h from = tt
none_below-from x low (g ∷ gs) h from = (chain x.0 low g.0 h from.0, none_below-from x low gs h from.1)

none_below-append : (x : Entry) (es gs : List Entry) → NoneIsBelow is_sooner x es → NoneIsBelow is_sooner x gs → NoneIsBelow is_sooner x (es ++ gs)
none_below-append x [] gs h k = k
none_below-append x (e ∷ es) gs h k = (h.0, none_below-append x es gs h.1 k)

rising-append : (high : ℤ) (es gs : List Entry) → Rising es → AllTo high es → Rising gs → AllFrom high gs → Rising (es ++ gs)
rising-append high [] gs rising to rising_gs from = rising_gs
rising-append high (e ∷ es) gs rising to rising_gs from = (
  none_below-append e es gs rising.0 (none_below-from e high gs to.0 from),
  rising-append high es gs rising.1 to.1 rising_gs from,
)

from-append : (low : ℤ) (es gs : List Entry) → AllFrom low es → AllFrom low gs → AllFrom low (es ++ gs)
from-append low [] gs h k = k
from-append low (e ∷ es) gs h k = (h.0, from-append low es gs h.1 k)

pub from-lower : (low high : ℤ) (es : List Entry) → int_lt high low ≡ false → AllFrom high es → AllFrom low es
from-lower low high [] h from = tt
from-lower low high (e ∷ es) h from = (chain low high e.0 h from.0, from-lower low high es h from.1)

-- the first part of a list in order
none_below-front : (x : Entry) (es gs : List Entry) → NoneIsBelow is_sooner x (es ++ gs) → NoneIsBelow is_sooner x es
none_below-front x [] gs h = tt
none_below-front x (e ∷ es) gs h = (h.0, none_below-front x es gs h.1)

rising-front : (es gs : List Entry) → Rising (es ++ gs) → Rising es
rising-front [] gs h = tt
rising-front (e ∷ es) gs h = (none_below-front e es gs h.0, rising-front es gs h.1)

from-front : (low : ℤ) (es gs : List Entry) → AllFrom low (es ++ gs) → AllFrom low es
from-front low [] gs h = tt
from-front low (e ∷ es) gs h = (h.0, from-front low es gs h.1)

-- a cycle later
none_below-on : (x : Entry) (es : List Entry) → NoneIsBelow is_sooner x es → NoneIsBelow is_sooner (entry_on x) (map entry_on es)
none_below-on x [] h = tt
none_below-on x (e ∷ es) h = (before_on e.0 x.0 ∙ h.0, none_below-on x es h.1)

pub rising-on : (es : List Entry) → Rising es → Rising (map entry_on es)
rising-on [] h = tt
rising-on (e ∷ es) h = (none_below-on e es h.0, rising-on es h.1)

pub from-on : (low : ℤ) (es : List Entry) → AllFrom low es → AllFrom (seconds_on low) (map entry_on es)
from-on low [] h = tt
from-on low (e ∷ es) h = (before_on e.0 low ∙ h.0, from-on low es h.1)

-- ---- the entries of more years than a cycle
pub later_entries-front : (line : Line) (place j k : ℕ) → later_entries line place (k + j) ≡ later_entries line place j ++
    map (entry_of line) (firings_from (j + place) line.info.offset line.rules
    (firings_from place line.info.offset line.rules (first_fired line place).1 j).1 k).0
later_entries-front line place j k =
    let s = (first_fired line place).1 in
    let here = firings_from place line.info.offset line.rules s j in
    ap (λ (f : Fired). map (entry_of line) f.0) (firings_from-split place j k line.info.offset s line.rules)
    ∙ map-append (entry_of line) here.0 (firings_from (j + place) line.info.offset line.rules here.1 k).0

-- after a cycle the saving is that at its beginning
pub saving-turns : (line : Line) (place : ℕ) → IsSeam line.info.offset line.rules place
    → (firings_from place line.info.offset line.rules (first_fired line place).1 400).1 ≡ (first_fired line place).1
saving-turns line place seam =
    let same : 400 + place ≡ place + 400 = omega arith in
    sym (ap (λ (f : Fired). f.1) (firings_of_years-split place 400 line.info.offset line.rules))
    ∙ ap (λ n. (first_fired line n).1) same ∙ seam

pub later_entries-cycle : (line : Line) (place k : ℕ) → are_settled line.rules ≡ true → 300 ≤ place
    → IsSeam line.info.offset line.rules place
    → later_entries line place (k + 400) ≡ later_entries line place 400 ++ map entry_on (later_entries line place k)
later_entries-cycle line place k settled late seam =
    let s = (first_fired line place).1 in
    let same : 400 + place ≡ place + 400 = omega arith in
    let first = later_entries line place 400 in
    later_entries-front line place 400 k
    ∙ ap (λ z. first ++ map (entry_of line) (firings_from (400 + place) line.info.offset line.rules z k).0) (saving-turns line place seam)
    ∙ ap (λ n. first ++ map (entry_of line) (firings_from n line.info.offset line.rules s k).0) same
    ∙ ap (λ (f : Fired). first ++ map (entry_of line) f.0) (firings_from-repeats place k line.info.offset s line.rules settled late)
    ∙ ap (λ l. first ++ l) (entries_on line (later_fired line place k))

-- ---- the test: the entries of one cycle rise, from a second up to that second a cycle later
pub record IsInOrder (line : Line) (place : ℕ) (low : ℤ) : Type 0 where
  pub rising : Rising (later_entries line place 400)
  pub from : AllFrom low (later_entries line place 400)
  pub to : AllTo (seconds_on low) (later_entries line place 400)

InOrder : ℤ → List Entry → Type 0
InOrder low es = Rising es × AllFrom low es

in_order-in_cycles : (line : Line) (place : ℕ) (low : ℤ) → are_settled line.rules ≡ true → 300 ≤ place
    → IsSeam line.info.offset line.rules place → IsInOrder line place low
    → (cycles k : ℕ) → k ≤ cycles * 400 → InOrder low (later_entries line place k)
unfolding InOrder firings_from
in_order-in_cycles line place low settled late seam test zero k few =
    let none : 0 ≡ k = omega arith in
    subst (λ n. Rising (later_entries line place n) × AllFrom low (later_entries line place n)) none (tt, tt)
in_order-in_cycles line place low settled late seam test (suc cycles) k few =
    elim (cases_lt k 400) [
      | inl within ↦
          let rest : 400 ≡ 400 - k + k = omega arith in
          let split = ap (later_entries line place) rest ∙ later_entries-front line place k (400 - k) in (
            rising-front (later_entries line place k) _ (subst Rising split test.rising),
            from-front low (later_entries line place k) _ (subst (AllFrom low) split test.from),
          )
      | inr past ↦
          let before = in_order-in_cycles line place low settled late seam test cycles (k - 400) (omega arith) in
          let es = later_entries line place (k - 400) in
          let rest : k - 400 + 400 ≡ k = omega arith in
          let split = sym (later_entries-cycle line place (k - 400) settled late seam) ∙ ap (later_entries line place) rest in
          let behind = from-on low es before.1 in (
            subst Rising split (rising-append (seconds_on low) (later_entries line place 400) (map entry_on es) test.rising test.to
                (rising-on es before.0) behind),
            subst (AllFrom low) split (from-append low (later_entries line place 400) (map entry_on es) test.from
                (from-lower low (seconds_on low) (map entry_on es) (later_second low) behind)),
          )
    ]

-- so all years past the place are in order
pub in_order-for_ever : (line : Line) (place : ℕ) (low : ℤ) → are_settled line.rules ≡ true → 300 ≤ place
    → IsSeam line.info.offset line.rules place → IsInOrder line place low
    → (k : ℕ) → Rising (later_entries line place k) × AllFrom low (later_entries line place k)
unfolding InOrder
in_order-for_ever line place low settled late seam test k =
    in_order-in_cycles line place low settled late seam test k k (omega arith)

-- ---- what the premises of a zone that goes on ask
abbrev pub StartsUnder : Option ℤ → ℤ → Type 0
StartsUnder None low = Unit {0}
StartsUnder (Some start) low = int_lt start low ≡ true

pub past-from : (line : Line) (start : Option ℤ) (low : ℤ) (fs : List Firing) → StartsUnder start low → AllFrom low (map (entry_of line) fs)
    → ArePast start fs
past-from line None low fs h from = tt
past-from line (Some start) low [] h from = refl
past-from line (Some start) low (f ∷ fs) h from =
    rw (chain_under start low f.time h from.0) (past-from line (Some start) low fs h from.1)

pub precede-from : (low : ℤ) (xs gs : List Entry) → AllTo low xs → AllFrom low gs → Precede is_sooner xs gs
precede-from low [] gs to from = tt
precede-from low (x ∷ xs) gs to from = (none_below-from x low gs to.0 from, precede-from low xs gs to.1 from)

all_below-under : (low : ℤ) (g : Entry) (ys : List Entry) → int_lt g.0 low ≡ false → AllUnder low ys → AllAreBelow is_sooner g ys
all_below-under low g [] h under = tt
all_below-under low g (y ∷ ys) h under = (chain_under y.0 low g.0 under.0 h, all_below-under low g ys h under.1)

pub rise-from : (low : ℤ) (ys gs : List Entry) → AllUnder low ys → Rising gs → AllFrom low gs → RiseAbove is_sooner ys gs
rise-from low ys [] under rising from = tt
rise-from low ys (g ∷ gs) under rising from = (all_below-under low g ys from.0 under, rising.0, rise-from low ys gs under rising.1 from.1)
