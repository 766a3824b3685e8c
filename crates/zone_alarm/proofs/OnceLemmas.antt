-- A day rings once, at the first instant of its time, and two days share no instant.
use Rattle.std.proofs.{Common.{◌≡◌, ◌≢◌, ℕ, zero, suc, ◌+◌, ◌<◌, List, [], ◌∷◌, map, Option, Some, None, IfSome, ℤ, pos, ◌+ℤ◌, ◌*ℤ◌, refl, sym, ap, ◌∙◌, arith}, lemmas.Int.{ints}, lemmas.List.Elements.{All-cons, All-map}, lemmas.List.Kept.{AllPairs-cons}}
use Rattle.std.proofs.lemmas.Option.{none-some}
use Rattle.std.specs.{Prelude.{All, AllPairs, Contains}, List.{range_with_len, slice_get}}
use Rattle.civil_base.specs.Ranges.{IsOffset}
use Rattle.zone_spans.specs.Schedules.{instants}
use Rattle.tz_lookup.specs.{InForce.{in_force, all_in_force, AreInstants}, InstantLaws.{instants_are}, RisingLaws.{contains_head, head_least}}
use Rattle.zone_alarm.specs.{RingsOnce.{IsRead, IsFirst, RingsOnce, AreApart}, Rings.{time_on, day_ring, ring_on, rings}}

none_among : (t : ℤ) → Contains [] t → ⊥
none_among t (k, within, e) = absurd (omega (arith, within))

-- by the list of the instants
gap_of : (total : ℤ → ℤ) (x : ℤ) (ts : List ℤ) → AreInstants total x ts → slice_get (map (in_force total) ts) 0 ≡ None
    → (t : ℤ) → ¬ IsRead total x t
gap_of total x [] are none t read = none_among t ((are.exact t).1 read)
gap_of total x (s ∷ ss) are none t read = absurd (none-some _ (sym none))

first_of : (total : ℤ → ℤ) (x : ℤ) (ts : List ℤ) → AreInstants total x ts → IfSome (slice_get (map (in_force total) ts) 0) (IsFirst total x)
first_of total x [] are = tt
first_of total x (s ∷ ss) are = record {
  read = (are.exact s).0 (contains_head s ss);
  offset = refl;
  earliest = λ t read. head_least s ss t are.rising ((are.exact t).1 read);
}

pub rings_once : (total : ℤ → ℤ) → ((t : ℤ) → IsOffset (total t)) → (at : ℕ) (day : ℤ) → RingsOnce total at (day_ring total at day)
unfolding ring_on all_in_force
rings_once total small at day = record {
  gap = gap_of total (time_on day at) (instants total (time_on day at)) (instants_are total (time_on day at) small);
  first = first_of total (time_on day at) (instants total (time_on day at)) (instants_are total (time_on day at) small);
}

apart_of : (total : ℤ → ℤ) (x y : ℤ) (o p : Option (ℤ × ℤ)) → x ≢ y → IfSome o (IsFirst total x) → IfSome p (IsFirst total y)
    → IfSome o (λ r. IfSome p (λ s. r.0 ≢ s.0))
apart_of total x y None p other first second = tt
apart_of total x y (Some r) None other first second = tt
apart_of total x y (Some r) (Some s) other first second =
    λ same. other (sym first.read ∙ ap (λ t. t +ℤ pos 1000000000 *ℤ total t) same ∙ second.read)

other_times : (first : ℤ) (at i j : ℕ) → i < j → time_on (first +ℤ pos i) at ≢ time_on (first +ℤ pos j) at
other_times first at i j below same = absurd (omega (arith, ints, below, same))

days_apart : (total : ℤ → ℤ) → ((t : ℤ) → IsOffset (total t)) → (at : ℕ) (first : ℤ) (i j : ℕ) → i < j
    → AreApart (day_ring total at (first +ℤ pos i)) (day_ring total at (first +ℤ pos j))
days_apart total small at first i j below =
    apart_of total (time_on (first +ℤ pos i) at) (time_on (first +ℤ pos j) at) _ _ (other_times first at i j below)
    (rings_once total small at (first +ℤ pos i)).first (rings_once total small at (first +ℤ pos j)).first

-- numbers that are counted up
all_above : (a b n : ℕ) → a < b → All (λ k. a < k) (range_with_len b n)
all_above a b zero below = λ k d within. absurd (omega (arith, within))
all_above a b (suc n) below = All-cons (λ k. a < k) b (range_with_len (b + 1) n) below (all_above a (b + 1) n (omega (arith, below)))

pairs_counted : {X : Type 0} (R : X → X → Type 0) (f : ℕ → X) (a n : ℕ) → ((i j : ℕ) → i < j → R (f i) (f j))
    → AllPairs R (map f (range_with_len a n))
pairs_counted R f a zero each = λ i j d below within. absurd (omega (arith, within))
pairs_counted R f a (suc n) each =
    AllPairs-cons R (f a) (map f (range_with_len (a + 1) n))
    (All-map (R (f a)) f (range_with_len (a + 1) n) (λ k d within. each a _ (all_above a (a + 1) n (omega arith) k d within)))
    (pairs_counted R f (a + 1) n each)

pub all_once : (total : ℤ → ℤ) → ((t : ℤ) → IsOffset (total t)) → (at : ℕ) (first : ℤ) (days : ℕ)
    → All (RingsOnce total at) (rings total at first days)
unfolding rings
all_once total small at first days =
    All-map (RingsOnce total at) (λ n. day_ring total at (first +ℤ pos n)) (range_with_len 0 days)
    (λ k d within. rings_once total small at _)

pub all_apart : (total : ℤ → ℤ) → ((t : ℤ) → IsOffset (total t)) → (at : ℕ) (first : ℤ) (days : ℕ)
    → AllPairs AreApart (rings total at first days)
unfolding rings
all_apart total small at first days = pairs_counted AreApart (λ n. day_ring total at (first +ℤ pos n)) 0 days (days_apart total small at first)
