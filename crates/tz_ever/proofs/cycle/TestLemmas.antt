-- What the tests of a zone that goes on say.
use Rattle.std.proofs.{Common.{◌≡◌, List, [], ◌∷◌, Some, None, ℤ, pos, refl, Bool, ap, arith, ◌+ℤ◌, ◌*ℤ◌, true, false, ◌++◌, not, ◌&&◌, int_le, int_lt, Option, cond, int_eq, ◌<ℤ◌, is_some}, lemmas.Bool.{and_parts}, lemmas.Int.{ints}}
use Rattle.std.specs.{List.{list_all}, Option.{option_map_or}}
use Rattle.basics.specs.{ComparisonLaws.{eq_from_pass}, SignedLaws.{signed}}
use Rattle.zone_spans.specs.{Collapse.{is_no_later, is_same_span, kept_of, kept_with}, Entries.{is_sooner, Entry, total}, LaterLaws.{ends-by}, Lines.{Line}, Cycle.{entry_on, seconds_on}}
use Rattle.zone_spans.specs.GoesOn.{are_cycle_later, dont_fall, ends_by_then, front_of, is_apart, is_cycle_later, is_in_order, last_of}
use Rattle.tz_ever.proofs.cycle.{OrderLemmas.{AllFrom, AllTo, Rising, StartsUnder, from-lower, none_below-from}, SortLemmas.{AllAreBelow}, SpanLemmas.{same_span}, StableLemmas.{NoneHasCome}, ZoneLemmas.{AllEnd, AreEnds}}

pub not_true : (b : Bool) → not b ≡ true → b ≡ false
not_true true h = absurd cc
not_true false h = refl

pub some_found : {X : Type 0} (o : Option X) → is_some o ≡ true → (x : X) × (o ≡ Some x)
some_found None h = absurd cc
some_found (Some x) h = (x, refl)

-- the lines are those but the last, and the last
pub is_split : (lines : List Line) (last : Line) → last_of lines ≡ Some last → lines ≡ front_of lines ++ (last ∷ [])
unfolding last_of front_of
is_split [] last is = absurd cc
is_split (line ∷ []) last is = let same : line ≡ last = cc in (λ i. same i ∷ [])
is_split (line ∷ next ∷ lines) last is = ap (λ l. line ∷ l) (is_split (next ∷ lines) last is)

pub all_end : (lines : List Line) → list_all (λ (line : Line). ends_by_then line.end) lines ≡ true → AllEnd lines
all_end [] h = tt
all_end (line ∷ lines) h =
    let both = and_parts (ends_by_then line.end) (list_all (λ (line : Line). ends_by_then line.end) lines) h in
    (ends-by line.end both.0, all_end lines both.1)

-- ---- in order
not_itself : (a : ℤ) → int_lt a a ≡ false
not_itself a = grind (arith, ints)

in_turn : (e : Entry) (es : List Entry) → dont_fall (e ∷ es) ≡ true → AllFrom e.0 es × Rising (e ∷ es)
unfolding dont_fall
in_turn e [] h = (tt, (tt, tt))
in_turn e (g ∷ es) h =
    let both = and_parts (not (is_sooner g e)) (dont_fall (g ∷ es)) h in
    let here = not_true (is_sooner g e) both.0 in
    let others = in_turn g es both.1 in
    let from : AllFrom e.0 (g ∷ es) = (here, from-lower e.0 g.0 es here others.0) in
    (from, (none_below-from e e.0 (g ∷ es) (not_itself e.0) from, others.1))

to_all : (high : ℤ) (es : List Entry) → list_all (λ (g : Entry). not (int_lt high g.0)) es ≡ true → AllTo high es
to_all high [] h = tt
to_all high (e ∷ es) h =
    let both = and_parts (not (int_lt high e.0)) (list_all (λ (g : Entry). not (int_lt high g.0)) es) h in
    (not_true (int_lt high e.0) both.0, to_all high es both.1)

starts_under : (start : Option ℤ) (low : ℤ) → option_map_or (λ s. int_lt s low) start true ≡ true → StartsUnder start low
starts_under None low h = tt
starts_under (Some s) low h = h

-- what the order of a cycle says of its first second
pub record IsOrder (start : Option ℤ) (before es : List Entry) : Type 0 where
  pub low : ℤ
  pub rising : Rising es
  pub from : AllFrom low es
  pub to : AllTo (seconds_on low) es
  pub starts : StartsUnder start low
  pub behind : AllTo low before
  pub begins : (t : ℤ) → NoneHasCome t es → t <ℤ (low *ℤ pos 1000000000)
  pub apart : (k j : Entry) (ks : List Entry) → is_apart (k ∷ j ∷ ks) es ≡ true → int_le (low +ℤ total k.1) (k.0 +ℤ total j.1) ≡ false

ahead_of : (x t : ℤ) → int_le (x *ℤ pos 1000000000) t ≡ false → t <ℤ (x *ℤ pos 1000000000)
ahead_of x t h = omega (arith, signed, h)

pub order_of : (start : Option ℤ) (before es : List Entry) → is_in_order start before es ≡ true → IsOrder start before es
unfolding is_in_order
order_of start before [] h = absurd cc
order_of start before (e ∷ es) h =
    let fall = dont_fall (e ∷ es) in
    let within = list_all (λ (g : Entry). not (int_lt (seconds_on e.0) g.0)) (e ∷ es) in
    let under = option_map_or (λ s. int_lt s e.0) start true in
    let others = list_all (λ (g : Entry). not (int_lt e.0 g.0)) before in
    let last = and_parts (fall && within && under) others h in
    let third = and_parts (fall && within) under last.0 in
    let two = and_parts fall within third.0 in
    let turn = in_turn e es two.0 in
    record {
      low = e.0;
      rising = turn.1;
      from = (not_itself e.0, turn.0);
      to = to_all (seconds_on e.0) (e ∷ es) two.1;
      starts = starts_under start e.0 third.1;
      behind = to_all e.0 before last.1;
      begins = λ t none. ahead_of e.0 t none.0;
      apart = λ k j ks test. not_true (is_no_later e k j) test;
    }

-- ---- the two latest
cycle_later : (l k : Entry) → is_cycle_later l k ≡ true → l ≡ entry_on k
cycle_later l k h =
    let both = and_parts (int_eq l.0 (seconds_on k.0)) (is_same_span l.1 k.1) h in
    let time = eq_from_pass l.0 (seconds_on k.0) both.0 in
    let span = same_span l.1 k.1 both.1 in
    (λ i. (time i, span i))

pub ends_of : (there here : List Entry) → are_cycle_later there here ≡ true → AreEnds there here
ends_of [] here h = absurd cc
ends_of (l ∷ []) here h = absurd cc
ends_of (l ∷ m ∷ later) [] h = absurd cc
ends_of (l ∷ m ∷ later) (k ∷ []) h = absurd cc
ends_of (l ∷ m ∷ later) (k ∷ j ∷ ks) h =
    let both = and_parts (is_cycle_later l k) (is_cycle_later m j) h in
    let one = cycle_later l k both.0 in
    let two = cycle_later m j both.1 in
    record {
      latest = k;
      second = j;
      before = ks;
      between = later;
      here_is = refl;
      there_is = λ i. one i ∷ two i ∷ later;
    }

-- ---- entries before a second
kept_with-below : (x e : Entry) (ks : List Entry) → AllAreBelow is_sooner x ks → is_sooner e x ≡ true
    → AllAreBelow is_sooner x (kept_with ks e)
unfolding kept_with
kept_with-below x e [] all h = (h, tt)
kept_with-below x e (k ∷ []) all h =
    elim (is_same_span e.1 k.1) as (λ b. AllAreBelow is_sooner x (cond b (k ∷ []) (e ∷ k ∷ []))) [
      | true ↦ all
      | false ↦ (h, all)
    ]
kept_with-below x e (k ∷ j ∷ ks) all h =
    elim (is_no_later e k j) as (λ p. AllAreBelow is_sooner x (cond p ((k.0, e.1) ∷ j ∷ ks)
    (cond (is_same_span e.1 k.1) (k ∷ j ∷ ks) (e ∷ k ∷ j ∷ ks)))) [
      | true ↦ (all.0, all.1)
      | false ↦ elim (is_same_span e.1 k.1) as (λ q. AllAreBelow is_sooner x (cond q (k ∷ j ∷ ks) (e ∷ k ∷ j ∷ ks))) [
        | true ↦ all
        | false ↦ (h, all)
      ]
    ]

pub kept_of-below : (x : Entry) (es ks : List Entry) → AllAreBelow is_sooner x ks → AllAreBelow is_sooner x es
    → AllAreBelow is_sooner x (kept_of ks es)
unfolding kept_of
kept_of-below x [] ks all es_all = all
kept_of-below x (e ∷ es) ks all es_all =
    kept_of-below x es (kept_with ks e) (kept_with-below x e ks all es_all.0) es_all.1

pub all_early : (x : Entry) (es : List Entry) → list_all (λ (e : Entry). int_lt e.0 x.0) es ≡ true → AllAreBelow is_sooner x es
all_early x [] h = tt
all_early x (e ∷ es) h =
    let both = and_parts (int_lt e.0 x.0) (list_all (λ (g : Entry). int_lt g.0 x.0) es) h in (both.0, all_early x es both.1)
