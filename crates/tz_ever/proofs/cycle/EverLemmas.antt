-- A zone that is tested over one cycle goes on for ever: the total of each later cycle is that of the first.
use Rattle.std.proofs.{Common.{◌≡◌, refl, [], ◌∷◌, map, true, false, pos, List, ◌++◌, arith, ◌≤◌, ℤ, ◌∙◌, sym, ℕ, ◌+◌, Some, None, ap, find, int_lt, Option, subst, cond, int_eq}, lemmas.List.{map-append}, lemmas.List.Folds.{find-append}}
use Rattle.std.specs.Option.{option_or}
use Rattle.zone_spans.specs.{Collapse.{is_no_later, is_same_span, kept_of, kept_with}, Entries.{entry_of, start_entry, Entry, entries_from_over, sorted_entries_over}, Firings.{Fired, Firing}, Lines.{Line}, Listing.{listed_firings}}
use Rattle.zone_spans.specs.{declared.span.FixedTimespan.{FixedTimespan}, Cycle.{entry_on, instant_on, seconds_on}, Later.{begun_entries, first_fired, later_entries, later_fired, listed_entries, start_after}, Settled.{are_settled}}
use Rattle.zone_spans.specs.LaterLaws.{firings_of_years-split}
use Rattle.tz_ever.specs.InForce.{has_come}
use Rattle.tz_ever.proofs.cycle.{FiringLemmas.{before_on}, OrderLemmas.{AllFrom, AllTo, AllUnder, IsInOrder, Rising, StartsUnder, chain, chain_under, from-on, in_order-for_ever, later_second, past-from, precede-from, rise-from, rising-on}}
use Rattle.tz_ever.proofs.cycle.{SeamLemmas.{IsSeam, seam-stays}, ZoneLemmas.{AddsBehind, AllEnd, AreEnds, EndsSaving, IsCycle, IsEndless, later_entries-repeat, listed-more, span-repeats, span_in, start-more}}

-- what is tested at a place: all of it over lists that are worked out
pub record IsTested (lines : List Line) (last : Line) (place : ℕ) : Type 0 where
  pub late : 300 ≤ place
  pub ended : AllEnd lines
  pub endless : IsEndless last
  pub settled : are_settled last.rules ≡ true
  pub seam : IsSeam last.info.offset last.rules place
  pub ends : EndsSaving (first_fired last place).0
  pub low : ℤ
  pub in_order : IsInOrder last place low
  pub starts : StartsUnder (start_after None lines) low
  pub front : AllTo low (entries_from_over 300 None lines ++ listed_entries last (start_after None lines) place)
  pub begun : AllUnder low (begun_entries last (start_after None lines) place)

pub adds_behind : (lines : List Line) (last : Line) (place : ℕ) → IsTested lines last place → AddsBehind lines last place
adds_behind lines last place test =
    let orders = in_order-for_ever last place test.low test.settled test.late test.seam test.in_order in
    let start = start_after None lines in
    record {
      late = test.late;
      ended = test.ended;
      endless = test.endless;
      settled = test.settled;
      ends = test.ends;
      past = λ k. past-from last start test.low (later_fired last place k) test.starts (orders k).1;
      precede = λ k. precede-from test.low (entries_from_over 300 None lines ++ listed_entries last start place)
          (later_entries last place k) test.front (orders k).1;
      rise = λ k. rise-from test.low (begun_entries last start place) (later_entries last place k) test.begun (orders k).0 (orders k).1;
    }

to-on : (high : ℤ) (es : List Entry) → AllTo high es → AllTo (seconds_on high) (map entry_on es)
to-on high [] h = tt
to-on high (e ∷ es) h = (before_on high e.0 ∙ h.0, to-on high es h.1)

to-higher : (low high : ℤ) (es : List Entry) → int_lt high low ≡ false → AllTo low es → AllTo high es
to-higher low high [] h to = tt
to-higher low high (e ∷ es) h to = (chain e.0 low high to.0 h, to-higher low high es h to.1)

to-append : (high : ℤ) (es gs : List Entry) → AllTo high es → AllTo high gs → AllTo high (es ++ gs)
to-append high [] gs h k = k
to-append high (e ∷ es) gs h k = (h.0, to-append high es gs h.1 k)

under-higher : (low high : ℤ) (es : List Entry) → int_lt high low ≡ false → AllUnder low es → AllUnder high es
under-higher low high [] h under = tt
under-higher low high (e ∷ es) h under = (chain_under e.0 low high under.0 h, under-higher low high es h under.1)

starts-higher : (start : Option ℤ) (low high : ℤ) → int_lt high low ≡ false → StartsUnder start low → StartsUnder start high
starts-higher None low high h under = tt
starts-higher (Some start) low high h under = chain_under start low high under h

append_three : {X : Type 0} (xs ys zs : List X) → (xs ++ ys) ++ zs ≡ xs ++ (ys ++ zs)
append_three [] ys zs = refl
append_three (x ∷ xs) ys zs = ap (λ l. x ∷ l) (append_three xs ys zs)

found_before : {X : Type 0} (a b : Option X) (x : X) → a ≡ Some x → option_or a b ≡ Some x
found_before a b x is = rw is

-- what is tested at a place holds a cycle later
pub tested-stays : (lines : List Line) (last : Line) (place : ℕ) → IsTested lines last place → IsTested lines last (place + 400)
tested-stays lines last place test =
    let same : 400 + place ≡ place + 400 = omega arith in
    let start = start_after None lines in
    let fs = (first_fired last place).0 in
    let gs = later_fired last place 400 in
    let orders = in_order-for_ever last place test.low test.settled test.late test.seam test.in_order in
    let past = past-from last start test.low gs test.starts (orders 400).1 in
    let more : (first_fired last (place + 400)).0 ≡ fs ++ gs =
    ap (λ n. (first_fired last n).0) (sym same) ∙ ap (λ (f : Fired). f.0) (firings_of_years-split place 400 last.info.offset last.rules) in
    let repeated : map entry_on (later_entries last place 400) ≡ later_entries last (place + 400) 400 =
    sym (later_entries-repeat last place 400 test.settled test.late test.seam) in
    let listed : listed_entries last start (place + 400) ≡ listed_entries last start place ++ later_entries last place 400 =
    ap (λ l. map (entry_of last) (listed_firings start l)) more ∙ ap (map (entry_of last)) (listed-more start fs gs past)
    ∙ map-append (entry_of last) (listed_firings start fs) gs in
    let begun : begun_entries last start place ≡ begun_entries last start (place + 400) =
    sym (ap (start_entry last start) more ∙ start-more last start fs gs past test.ends) in
    let front = entries_from_over 300 None lines in
    let here : (front ++ listed_entries last start place) ++ later_entries last place 400 ≡ front ++ listed_entries last start (place + 400) =
    append_three front (listed_entries last start place) (later_entries last place 400) ∙ ap (λ l. front ++ l) (sym listed) in
    let higher = later_second test.low in
    record {
      late = omega (arith, test.late);
      ended = test.ended;
      endless = test.endless;
      settled = test.settled;
      seam = subst (IsSeam last.info.offset last.rules) same (seam-stays place 400 last.info.offset last.rules test.settled test.late test.seam);
      ends = record {
        one = test.ends.one;
        found = ap (find (λ (g : Firing). int_eq g.rule.time_to_add (pos 0))) more
            ∙ find-append (λ (g : Firing). int_eq g.rule.time_to_add (pos 0)) fs gs
            ∙ found_before _ (find (λ (g : Firing). int_eq g.rule.time_to_add (pos 0)) gs) test.ends.one test.ends.found;
      };
      low = seconds_on test.low;
      in_order = record {
        rising = subst Rising repeated (rising-on (later_entries last place 400) test.in_order.rising);
        from = subst (AllFrom (seconds_on test.low)) repeated (from-on test.low (later_entries last place 400) test.in_order.from);
        to = subst (AllTo (seconds_on (seconds_on test.low))) repeated (to-on (seconds_on test.low) (later_entries last place 400) test.in_order.to);
      };
      starts = starts-higher start test.low (seconds_on test.low) higher test.starts;
      front = subst (AllTo (seconds_on test.low)) here (to-append (seconds_on test.low) (front ++ listed_entries last start place)
          (later_entries last place 400) (to-higher test.low (seconds_on test.low) _ higher test.front) test.in_order.to);
      begun = subst (AllUnder (seconds_on test.low)) begun (under-higher test.low (seconds_on test.low) _ higher test.begun);
    }

-- ---- a cycle whose ends have the same two entries, a cycle apart
pub record IsTurning (lines : List Line) (last : Line) (place : ℕ) : Type 0 where
  pub tested : IsTested lines last place
  pub ends : AreEnds (kept_of [] (sorted_entries_over (place + 400) (lines ++ (last ∷ [])))) (kept_of [] (sorted_entries_over place (lines ++ (last ∷ []))))
  pub open ends use *

pub cycle_of : (lines : List Line) (last : Line) (place : ℕ) → IsTurning lines last place → IsCycle lines last place
cycle_of lines last place turn = record {
  here = adds_behind lines last place turn.tested;
  there = adds_behind lines last (place + 400) (tested-stays lines last place turn.tested);
  seam = turn.tested.seam;
  ends = turn.ends;
}

-- two entries or more are kept where two were
pub record IsTwo (es : List Entry) : Type 0 where
  pub one : Entry
  pub two : Entry
  pub others : List Entry
  pub all : es ≡ one ∷ two ∷ others

pub two_kept : (es : List Entry) (k j : Entry) (ks : List Entry) → IsTwo (kept_of (k ∷ j ∷ ks) es)
unfolding kept_of kept_with
two_kept [] k j ks = record { one = k; two = j; others = ks; all = refl }
two_kept (e ∷ es) k j ks =
    elim (is_no_later e k j) as (λ p. IsTwo (kept_of (cond p ((k.0, e.1) ∷ j ∷ ks) (cond (is_same_span e.1 k.1) (k ∷ j ∷ ks) (e ∷ k ∷ j ∷ ks))) es)) [
      | true ↦ two_kept es (k.0, e.1) j ks
      | false ↦ elim (is_same_span e.1 k.1) as (λ q. IsTwo (kept_of (cond q (k ∷ j ∷ ks) (e ∷ k ∷ j ∷ ks)) es)) [
        | true ↦ two_kept es k j ks
        | false ↦ two_kept es e k (j ∷ ks)
      ]
    ]

-- a cycle later
pub span-turns : (k : ℕ) (lines : List Line) (last : Line) (place : ℕ) (first : FixedTimespan) (t : ℤ) (turn : IsTurning lines last place)
    → has_come t turn.second ≡ true
    → span_in first (sorted_entries_over (k + (place + 400)) (lines ++ (last ∷ []))) (instant_on t)
    ≡ span_in first (sorted_entries_over (k + place) (lines ++ (last ∷ []))) t
unfolding cycle_of
span-turns k lines last place first t turn come = span-repeats lines last place k first first t (cycle_of lines last place turn) come
