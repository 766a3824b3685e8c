-- What a zone that goes on is: still, or turning at the end of 2099.
use Rattle.std.proofs.{Common.{◌≡◌, List, [], ◌∷◌, Some, None, ℤ, pos, refl, Bool, arith, ◌*ℤ◌, true, false, ◌++◌, not, ◌&&◌, ◌||◌, find, option_map, int_lt, Option, subst, int_eq, ◌<ℤ◌, is_none, is_some}, lemmas.Bool.{and_parts}}
use Rattle.std.specs.List.{list_all, list_any}
use Rattle.basics.specs.{Sorted.{stable_sort}, ComparisonLaws.{eq_from_pass}}
use Rattle.zone_table.specs.declared.change.ChangeTime.{ChangeTime}
use Rattle.zone_spans.specs.{Entries.{is_sooner, start_entry, Entry, fixed_span, at_start, span_of, entries_from_over, sorted_entries_over}, Firings.{Firing}, Lines.{Line, is_ruled}, Listing.{start_firing}, declared.span.FixedTimespan.{FixedTimespan}}
use Rattle.zone_spans.specs.{GoesOn.{are_cycle_later, cycle_entries, ends_by_then, is_apart, is_before_2101, is_in_order, is_still, kept_over, last_goes_on, some_leaves, turns}, Later.{begun_entries, first_fired, start_after}}
use Rattle.zone_spans.specs.Settled.{are_settled, is_lasting}
use Rattle.tz_ever.proofs.cycle.{BackLemmas.{IsApart}, EverLemmas.{IsTurning}, OrderLemmas.{AllTo, AllUnder, StartsUnder}, SortLemmas.{AllAreBelow, AllAreBelow-sorted}, StableLemmas.{NoneHasCome}}
use Rattle.tz_ever.proofs.cycle.{TestLemmas.{all_early, all_end, ends_of, kept_of-below, not_true, order_of, some_found}, ZoneLemmas.{AllEnd, IsEndless, entries_from_over-first}}

-- what is asked of any last line
pub record IsGoing (front : List Line) (last : Line) : Type 0 where
  pub ended : AllEnd front
  pub endless : last.end ≡ None
  pub settled : are_settled last.rules ≡ true
  pub stays : some_leaves last.rules ≡ false
  pub early : list_all is_before_2101 (entries_from_over 300 None (front ++ (last ∷ []))) ≡ true
  pub kind : is_still last || turns front last ≡ true

no_end : (end : Option ChangeTime) → is_none end ≡ true → end ≡ None
no_end None h = refl
no_end (Some end) h = absurd cc

pub going_of : (front : List Line) (last : Line) → last_goes_on front last ≡ true → IsGoing front last
unfolding last_goes_on
going_of front last h =
    let ended = list_all (λ (line : Line). ends_by_then line.end) front in
    let endless = is_none last.end in
    let lasts = is_none last.info.end_time in
    let settled = are_settled last.rules in
    let stays = not (some_leaves last.rules) in
    let early = list_all is_before_2101 (entries_from_over 300 None (front ++ (last ∷ []))) in
    let kind = and_parts (ended && endless && lasts && settled && stays && early) (is_still last || turns front last) h in
    let sixth = and_parts (ended && endless && lasts && settled && stays) early kind.0 in
    let fifth = and_parts (ended && endless && lasts && settled) stays sixth.0 in
    let fourth = and_parts (ended && endless && lasts) settled fifth.0 in
    let third = and_parts (ended && endless) lasts fourth.0 in
    let second = and_parts ended endless third.0 in
    record {
      ended = all_end front second.0;
      endless = no_end last.end second.1;
      settled = fourth.1;
      stays = not_true (some_leaves last.rules) fifth.1;
      early = sixth.1;
      kind = kind.1;
    }

-- ---- the kinds
pub record IsTurned (front : List Line) (last : Line) : Type 0 where
  pub turn : IsTurning front last 300
  pub apart : IsApart turn
  pub begins : (t : ℤ) → NoneHasCome t (cycle_entries last) → t <ℤ (turn.tested.low *ℤ pos 1000000000)
  pub early : int_lt turn.second.0 (pos 4133980800) ≡ true

begun_under : (last : Line) (start : Option ℤ) (low : ℤ) (fs : List Firing) → StartsUnder start low → AllUnder low (start_entry last start fs)
begun_under last None low fs h = tt
begun_under last (Some s) low fs h = by_option (option_map (span_of last) (start_firing s fs))
  where
    by_option : (o : Option FixedTimespan) → AllUnder low (at_start (Some s) o)
    by_option None = tt
    by_option (Some span) = (h, tt)

to-front : (high : ℤ) (es gs : List Entry) → AllTo high (es ++ gs) → AllTo high es
to-front high [] gs h = tt
to-front high (e ∷ es) gs h = (h.0, to-front high es gs h.1)

-- the second of the two latest comes before 2101
second_early : (front : List Line) (last : Line) (k j : Entry) (ks : List Entry)
    → list_all is_before_2101 (entries_from_over 300 None (front ++ (last ∷ []))) ≡ true
    → kept_over 300 (front ++ (last ∷ [])) ≡ k ∷ j ∷ ks → int_lt j.0 (pos 4133980800) ≡ true
unfolding sorted_entries_over
second_early front last k j ks early is =
    let x : Entry = (pos 4133980800, fixed_span last) in
    let zone = front ++ (last ∷ []) in
    let all = all_early x (entries_from_over 300 None zone) early in
    let sorted = AllAreBelow-sorted is_sooner x (entries_from_over 300 None zone) all in
    let kept : AllAreBelow is_sooner x (k ∷ j ∷ ks) =
    subst (AllAreBelow is_sooner x) is (kept_of-below x (stable_sort is_sooner (entries_from_over 300 None zone)) [] tt sorted) in
    kept.1.0

ruled_of : (last : Line) → is_still last ≡ false → is_ruled last.info.saving ≡ true
ruled_of last h = first_of (is_ruled last.info.saving) (list_any is_lasting last.rules) h
  where
    first_of : (a b : Bool) → not (a && b) ≡ false → a ≡ true
    first_of true b h = refl
    first_of false b h = absurd cc

pub turned_of : (front : List Line) (last : Line) → IsGoing front last → is_still last ≡ false → turns front last ≡ true → IsTurned front last
unfolding turns
turned_of front last going not_still h =
    let zone = front ++ (last ∷ []) in
    let start = start_after None front in
    let seam = int_eq (first_fired last 700).1 (first_fired last 300).1 in
    let ends = is_some (find (λ (f : Firing). int_eq f.rule.time_to_add (pos 0)) (first_fired last 300).0) in
    let order = is_in_order start (entries_from_over 300 None zone) (cycle_entries last) in
    let alike = are_cycle_later (kept_over 700 zone) (kept_over 300 zone) in
    let apart = is_apart (kept_over 300 zone) (cycle_entries last) in
    let last_two = and_parts (seam && ends && order && alike) apart h in
    let fourth = and_parts (seam && ends && order) alike last_two.0 in
    let third = and_parts (seam && ends) order fourth.0 in
    let second = and_parts seam ends third.0 in
    let endless : IsEndless last = record { ruled = ruled_of last not_still; endless = going.endless } in
    let found = some_found (find (λ (f : Firing). int_eq f.rule.time_to_add (pos 0)) (first_fired last 300).0) second.1 in
    let is_order = order_of start (entries_from_over 300 None zone) (cycle_entries last) third.1 in
    let behind = subst (AllTo is_order.low) (entries_from_over-first front last 300 (omega arith) going.ended endless) is_order.behind in
    let both = ends_of (kept_over 700 zone) (kept_over 300 zone) fourth.1 in
    record {
      turn = record {
        tested = record {
          late = omega arith;
          ended = going.ended;
          endless = endless;
          settled = going.settled;
          seam = eq_from_pass (first_fired last 700).1 (first_fired last 300).1 second.0;
          ends = record { one = found.0; found = found.1 };
          low = is_order.low;
          in_order = record { rising = is_order.rising; from = is_order.from; to = is_order.to };
          starts = is_order.starts;
          front = to-front is_order.low _ (begun_entries last start 300) behind;
          begun = begun_under last start is_order.low (first_fired last 300).0 is_order.starts;
        };
        ends = both;
      };
      apart = is_order.apart both.latest both.second both.before
          (subst (λ kept. is_apart kept (cycle_entries last) ≡ true) both.here_is last_two.1);
      begins = is_order.begins;
      early = second_early front last both.latest both.second both.before going.early both.here_is;
    }
