-- Local times that clocks skip.
use Rattle.std.proofs.{Common.{length, ◌≡◌, ◌+◌, ℕ, Bool, false, filter, Option, ℤ, pos, ◌+ℤ◌, ◌-ℤ◌, ◌*ℤ◌, ◌≤ℤ◌, ◌<ℤ◌, int_le, int_lt, sym, ap, ◌∙◌, subst, arith}, lemmas.Int.{ints}, lemmas.List.{length-map}}
use Rattle.civil_base.specs.{Instants.{instant_at, local_at, nanos_of, seconds_of}, Ranges.{IsOffset}, RangeLaws.{offset_least, offset_greatest}}
use Rattle.zone_spans.specs.Schedules.{instants}
use Rattle.tz_lookup.specs.{InForce.{all_in_force, in_force}, InstantLaws.{instants_are}, SecondLaws.{IsSecond, second_is, one_second}}
use Rattle.sefunjaro.specs.{Gaps.{IsSkippedBy}, GapPlaces.{nth_offset, HoldsSeconds, IsNeverRead}}

reads : (x k total : ℤ) → total ≡ k → (instant_at x k +ℤ pos 1000000000 *ℤ total) ≡ x
reads x k total e = omega (arith, ints, e)

less_from : (a k : ℤ) → int_lt k a ≡ false → (a ≡ k → ⊥) → a <ℤ k
less_from a k h n = grind (arith, ints)

-- where the local time is never shown, less is in force than an offset that isn't passed
pub falls_short : (total : ℤ → ℤ) (x k : ℤ) → IsNeverRead total x → false ≡ int_lt k (total (instant_at x k)) → total (instant_at x k) <ℤ k
unfolding IsNeverRead
falls_short total x k never h =
    less_from (total (instant_at x k)) k (sym h) (λ e. never (instant_at x k) (reads x k (total (instant_at x k)) e))

pub above : (o : ℤ) → IsOffset o → nth_offset 0 <ℤ o
above o h = omega (arith, ints, offset_least o h)

pub below : (o : ℤ) → IsOffset o → o <ℤ nth_offset 187200
below o h = omega (arith, ints, offset_greatest o h)

next_place : (place p : ℕ) → place ≡ p + 1 → nth_offset place ≡ nth_offset p +ℤ pos 1
next_place place p e = omega (arith, ints, e)

-- an instant of a second, and one just before it
same_second : (total : ℤ → ℤ) (t s : ℤ) → HoldsSeconds total → IsSecond t s → total t ≡ total (nanos_of s)
unfolding HoldsSeconds
same_second total t s holds h = holds t ∙ ap (λ u. total (nanos_of u)) (one_second t (seconds_of t) s (second_is t) h)

earlier_second : (x k l s : ℤ) → l ≡ k +ℤ pos 1 → IsSecond (instant_at x k) s → IsSecond (instant_at x l) (s -ℤ pos 1)
earlier_second x k l s e h = record { low = omega (arith, ints, e, h.low); high = omega (arith, ints, e, h.high) }

just_before : (s : ℤ) → IsSecond (nanos_of s -ℤ pos 1) (s -ℤ pos 1)
just_before s = record { low = omega (arith, ints); high = omega (arith, ints) }

is_behind : (x k l a s : ℤ) → l ≡ k +ℤ pos 1 → IsSecond (instant_at x k) s → a <ℤ l → local_at (nanos_of s) a ≤ℤ x
is_behind x k l a s e h less = omega (arith, ints, e, h.low, less)

is_ahead : (x k b s : ℤ) → IsSecond (instant_at x k) s → k <ℤ b → x <ℤ local_at (nanos_of s) b
is_ahead x k b s h more = omega (arith, ints, h.high, more)

pub skipped_by : (total : ℤ → ℤ) (x : ℤ) (place p : ℕ) (second before after : ℤ) → HoldsSeconds total → place ≡ p + 1
    → second ≡ seconds_of (instant_at x (nth_offset p)) → before ≡ total (instant_at x (nth_offset place))
    → after ≡ total (instant_at x (nth_offset p)) → total (instant_at x (nth_offset place)) <ℤ nth_offset place
    → nth_offset p <ℤ total (instant_at x (nth_offset p)) → IsSkippedBy total x (record { second = second; before = before; after = after })
skipped_by total x place p second before after holds e s b a less more =
    let k = nth_offset p in let l = nth_offset place in let step = next_place place p e in
    let here : IsSecond (instant_at x k) second = subst (IsSecond (instant_at x k)) (sym s) (second_is (instant_at x k)) in
    let there : IsSecond (instant_at x l) (second -ℤ pos 1) = earlier_second x k l second step here in record {
      before = b ∙ same_second total (instant_at x l) (second -ℤ pos 1) holds there
          ∙ sym (same_second total (nanos_of second -ℤ pos 1) (second -ℤ pos 1) holds (just_before second));
      after = a ∙ same_second total (instant_at x k) second holds here;
      behind = is_behind x k l before second step here (subst (λ o. o <ℤ l) (sym b) less);
      ahead = is_ahead x k after second here (subst (λ o. k <ℤ o) (sym a) more);
    }

-- a local time without an instant is never shown
pub never_read : (total : ℤ → ℤ) (x : ℤ) → ((t : ℤ) → IsOffset (total t)) → length (all_in_force total x) ≡ 0 → IsNeverRead total x
unfolding IsNeverRead all_in_force
never_read total x range none t e =
    let found = ((instants_are total x range).exact t).1 e in
    absurd (omega (arith, found.1, none, length-map (instants total x) (in_force total)))

passes : (x s shown a : ℤ) → IsSecond x shown → (s +ℤ a) ≤ℤ shown → local_at (nanos_of s) a ≤ℤ x
passes x s shown a h le = omega (arith, ints, h.low, le)

stays : (x s shown a : ℤ) → IsSecond x shown → shown <ℤ (s +ℤ a) → x <ℤ local_at (nanos_of s) a
stays x s shown a h lt = omega (arith, ints, h.high, lt)

-- a change at the end of seconds throughout which one total is in force, where clocks go on from up to a local time to past it
pub skipped_at : (total : ℤ → ℤ) (x shown second from until before after : ℤ) → HoldsSeconds total → shown ≡ seconds_of x
    → from ≤ℤ second → second <ℤ until → ((u : ℤ) → from ≤ℤ u → u <ℤ until → total (nanos_of u) ≡ before) → total (nanos_of until) ≡ after
    → (until +ℤ before) ≤ℤ shown → shown <ℤ (until +ℤ after) → IsSkippedBy total x (record { second = until; before = before; after = after })
skipped_at total x shown second from until before after holds is begun later same next behind ahead =
    let here : IsSecond x shown = subst (IsSecond x) (sym is) (second_is x) in record {
      before = sym (same (until -ℤ pos 1) (omega (arith, ints, begun, later)) (omega (arith, ints)))
          ∙ sym (same_second total (nanos_of until -ℤ pos 1) (until -ℤ pos 1) holds (just_before until));
      after = sym next;
      behind = passes x until shown before here behind;
      ahead = stays x until shown after here ahead;
    }
