-- Entries that climb from one second to another, cut at a second, and repeated a cycle later each time.
use Rattle.std.proofs.{Common.{◌≡◌, ℕ, zero, suc, ◌*◌, ◌<◌, true, false, cond, List, [], ◌∷◌, ◌++◌, map, ℤ, pos, ◌+ℤ◌, ◌-ℤ◌, ◌*ℤ◌, ◌≤ℤ◌, ◌<ℤ◌, int_le, int_lt, refl, sym, ap, ◌∙◌, subst, arith, inl, inr}, lemmas.Bool.{cases_Bool}}
use Rattle.basics.specs.{ComparisonLaws.{le_fail, le_from_lt, le_itself, le_le, le_pass, lt_fail, lt_from_fail, lt_from_pass}, SignedLaws.{signed}}
use Rattle.zone_spans.specs.{Cycle.{entry_on, instant_on, seconds_on}, Entries.{Entry}, declared.span.FixedTimespan.{FixedTimespan}}
use Rattle.tz_ever.{specs.InForce.{span_by}, specs.Unrolled.{again, entries_before, entries_from}, proofs.cycle.SpanLemmas.{span_by-more, span_by-on}}

-- none comes before the first second or before the one in front of it, and all before the other second
abbrev pub Climb : ℤ → List Entry → ℤ → Type 0
Climb low [] high = low ≤ℤ high
Climb low (e ∷ es) high = (low ≤ℤ e.0) × (e.0 <ℤ high) × Climb e.0 es high

pub climb_ends : (low : ℤ) (es : List Entry) (high : ℤ) → Climb low es high → low ≤ℤ high
climb_ends low [] high h = h
climb_ends low (e ∷ es) high h = le_le _ _ _ h.0 (climb_ends e.0 es high h.2)

pub climb_lower : (lower low : ℤ) (es : List Entry) (high : ℤ) → lower ≤ℤ low → Climb low es high → Climb lower es high
climb_lower lower low [] high l h = le_le _ _ _ l h
climb_lower lower low (e ∷ es) high l h = (le_le _ _ _ l h.0, h.1, h.2)

below_higher : (a b c : ℤ) → a <ℤ b → b ≤ℤ c → a <ℤ c
below_higher a b c h k = omega (arith, signed, h, k)

pub climb_higher : (low : ℤ) (es : List Entry) (high higher : ℤ) → high ≤ℤ higher → Climb low es high → Climb low es higher
climb_higher low [] high higher l h = le_le _ _ _ h l
climb_higher low (e ∷ es) high higher l h = (h.0, below_higher _ _ _ h.1 l, climb_higher e.0 es high higher l h.2)

pub climb_join : (low : ℤ) (es : List Entry) (middle : ℤ) (gs : List Entry) (high : ℤ) → Climb low es middle → Climb middle gs high
    → Climb low (es ++ gs) high
climb_join low [] middle gs high h k = climb_lower low middle gs high h k
climb_join low (e ∷ es) middle gs high h k =
    (h.0, below_higher _ _ _ h.1 (climb_ends middle gs high k), climb_join e.0 es middle gs high h.2 k)

le_on : (a b : ℤ) → a ≤ℤ b → seconds_on a ≤ℤ seconds_on b
le_on a b h = omega (arith, signed, h)

lt_on : (a b : ℤ) → a <ℤ b → seconds_on a <ℤ seconds_on b
lt_on a b h = omega (arith, signed, h)

pub climb_on : (low : ℤ) (es : List Entry) (high : ℤ) → Climb low es high → Climb (seconds_on low) (map entry_on es) (seconds_on high)
climb_on low [] high h = le_on _ _ h
climb_on low (e ∷ es) high h = (le_on _ _ h.0, lt_on _ _ h.1, climb_on e.0 es high h.2)

-- so many cycles later
abbrev pub later : ℕ → ℤ → ℤ
later n a = a +ℤ pos (n * 12622780800)

none_later : (a : ℤ) → a ≤ℤ later 0 a
none_later a = omega (arith, signed)

one_later : (n : ℕ) (a : ℤ) → later n (seconds_on a) ≡ later (suc n) a
one_later n a = omega (arith, signed)

-- what climbs through a cycle climbs on through so many
pub climb_again : (n : ℕ) (low : ℤ) (es : List Entry) → Climb low es (seconds_on low)
    → Climb (seconds_on low) (again n es) (later n (seconds_on low))
unfolding again
climb_again zero low es h = none_later (seconds_on low)
climb_again (suc n) low es h =
    climb_join (seconds_on low) (map entry_on es) (seconds_on (seconds_on low)) (again n (map entry_on es)) _ (climb_on low es _ h)
    (subst (Climb (seconds_on (seconds_on low)) (again n (map entry_on es))) (one_later n (seconds_on low))
    (climb_again n (seconds_on low) (map entry_on es) (climb_on low es _ h)))

-- ---- cut at a second
pub before_step : (s : ℤ) (e : Entry) (es : List Entry)
    → entries_before s (e ∷ es) ≡ cond (int_lt e.0 s) (e ∷ entries_before s es) (entries_before s es)
unfolding entries_before
before_step s e es = refl

from_step : (s : ℤ) (e : Entry) (es : List Entry)
    → entries_from s (e ∷ es) ≡ cond (int_le s e.0) (e ∷ entries_from s es) (entries_from s es)
unfolding entries_from
from_step s e es = refl

-- a list that is cut in two: what comes before the second climbs to it, and the rest from it
pub record IsCutAt (s low : ℤ) (es : List Entry) (high : ℤ) : Type 0 where
  pub joined : es ≡ entries_before s es ++ entries_from s es
  pub before : Climb low (entries_before s es) s
  pub after : Climb s (entries_from s es) high

pub above_all : (s low : ℤ) (es : List Entry) (high : ℤ) → s ≤ℤ low → Climb low es high → (entries_before s es ≡ []) × (entries_from s es ≡ es)
above_all s low [] high l h = unfold entries_before in unfold entries_from in (refl, refl)
above_all s low (e ∷ es) high l h =
    let here : s ≤ℤ e.0 = le_le _ _ _ l h.0 in
    let others = above_all s e.0 es high here h.2 in (
      before_step s e es ∙ ap (λ b. cond b (e ∷ entries_before s es) (entries_before s es)) (lt_fail _ _ here) ∙ others.0,
      from_step s e es ∙ ap (λ b. cond b (e ∷ entries_from s es) (entries_from s es)) (le_pass _ _ here) ∙ ap (λ l. e ∷ l) others.1,
    )

cut_above : (s low : ℤ) (es : List Entry) (high : ℤ) → low ≤ℤ s → Climb s es high → IsCutAt s low es high
cut_above s low es high l h =
    let is = above_all s s es high (le_itself s) h in
    record {
      joined = (λ i. (sym is.0 i) ++ (sym is.1 i));
      before = subst (λ l. Climb low l s) (sym is.0) l;
      after = subst (λ l. Climb s l high) (sym is.1) h;
    }

pub cut_at : (s low : ℤ) (es : List Entry) (high : ℤ) → low ≤ℤ s → s ≤ℤ high → Climb low es high → IsCutAt s low es high
cut_at s low [] high l k h = unfold entries_before in unfold entries_from in record { joined = refl; before = l; after = k }
cut_at s low (e ∷ es) high l k h = elim (cases_Bool (int_lt e.0 s)) [
  | inl is ↦
      let early : e.0 <ℤ s = lt_from_pass _ _ is in
      let cut = cut_at s e.0 es high (le_from_lt _ _ early) k h.2 in
      let before : entries_before s (e ∷ es) ≡ e ∷ entries_before s es =
      before_step s e es ∙ ap (λ b. cond b (e ∷ entries_before s es) (entries_before s es)) is in
      let from : entries_from s (e ∷ es) ≡ entries_from s es =
      from_step s e es ∙ ap (λ b. cond b (e ∷ entries_from s es) (entries_from s es)) (le_fail _ _ early) in
      record {
        joined = ap (λ l. e ∷ l) cut.joined ∙ (λ i. (sym before i) ++ (sym from i));
        before = subst (λ l. Climb low l s) (sym before) (h.0, early, cut.before);
        after = subst (λ l. Climb s l high) (sym from) cut.after;
      }
  | inr is ↦ cut_above s low (e ∷ es) high l (climb_lower s e.0 (e ∷ es) high (lt_from_fail _ _ is) (le_itself e.0, h.1, h.2))
]

-- ---- what is in force
none_yet : (t low : ℤ) (x : ℤ) → t <ℤ (low *ℤ pos 1000000000) → low ≤ℤ x → int_le (x *ℤ pos 1000000000) t ≡ false
none_yet t low x h k = le_fail (x *ℤ pos 1000000000) t (omega (arith, signed))

pub none_come : (t : ℤ) (first : FixedTimespan) (low : ℤ) (es : List Entry) (high : ℤ) → Climb low es high → t <ℤ (low *ℤ pos 1000000000)
    → span_by first es t ≡ first
unfolding span_by
none_come t first low [] high h early = refl
none_come t first low (e ∷ es) high h early =
    let not_come = none_yet t low e.0 early h.0 in
    ap (λ b. span_by (cond b e.1 first) es t) not_come ∙ none_come t first e.0 es high h.2 (lower t low e.0 early h.0)
  where
    lower : (t low x : ℤ) → t <ℤ (low *ℤ pos 1000000000) → low ≤ℤ x → t <ℤ (x *ℤ pos 1000000000)
    lower t low x h k = omega (arith, signed)

come_by : (t high x : ℤ) → (high *ℤ pos 1000000000 -ℤ pos 1000000000) ≤ℤ t → x <ℤ high → int_le (x *ℤ pos 1000000000) t ≡ true
come_by t high x h k = le_pass (x *ℤ pos 1000000000) t (omega (arith, signed))

-- once all have come nothing changes
pub all_come : (t u : ℤ) (first : FixedTimespan) (low : ℤ) (es : List Entry) (high : ℤ) → Climb low es high
    → (high *ℤ pos 1000000000 -ℤ pos 1000000000) ≤ℤ t → (high *ℤ pos 1000000000 -ℤ pos 1000000000) ≤ℤ u
    → span_by first es t ≡ span_by first es u
unfolding span_by
all_come t u first low [] high h late late_u = refl
all_come t u first low (e ∷ es) high h late late_u =
    ap (λ b. span_by (cond b e.1 first) es t) (come_by t high e.0 late h.1)
    ∙ all_come t u e.1 e.0 es high h.2 late late_u
    ∙ ap (λ b. span_by (cond b e.1 first) es u) (sym (come_by u high e.0 late_u h.1))

-- an instant of the cycle that is the kth after one from a second on
pub record IsLater (k : ℕ) (low t : ℤ) : Type 0 where
  pub from : (later k low *ℤ pos 1000000000) ≤ℤ t
  pub before : t <ℤ (later (suc k) low *ℤ pos 1000000000)

-- so many cycles before
abbrev pub earlier : ℕ → ℤ → ℤ
earlier k t = t -ℤ pos (k * 12622780800000000000)

one_on : (k : ℕ) (t : ℤ) → earlier k t ≡ instant_on (earlier (suc k) t)
one_on k t = omega (arith, signed)

none_on : (t : ℤ) → t ≡ instant_on (earlier 1 t)
none_on t = omega (arith, signed)

shown_on : (first : FixedTimespan) (es : List Entry) (k : ℕ) (t : ℤ)
    → span_by first (map entry_on es) (earlier k t) ≡ span_by first es (earlier (suc k) t)
shown_on first es k t = ap (span_by first (map entry_on es)) (one_on k t) ∙ span_by-on es first (earlier (suc k) t)

-- the end of a cycle leaves in force what was in force before it
abbrev pub Leaves : FixedTimespan → ℤ → List Entry → Type 0
Leaves first high es = (u : ℤ) → (high *ℤ pos 1000000000 -ℤ pos 1000000000) ≤ℤ u → span_by first es u ≡ first

leaves_on : (first : FixedTimespan) (high : ℤ) (es : List Entry) → Leaves first high es → Leaves first (seconds_on high) (map entry_on es)
leaves_on first high es leaves u late =
    ap (span_by first (map entry_on es)) (none_on u) ∙ span_by-on es first (earlier 1 u) ∙ leaves (earlier 1 u) (omega (arith, signed))

within_next : (low t : ℤ) → IsLater 1 low t → t <ℤ (seconds_on (seconds_on low) *ℤ pos 1000000000)
within_next low t is = let before = is.before in omega (arith, signed)

past_next : (k : ℕ) (low t : ℤ) → IsLater (suc (suc k)) low t
    → (seconds_on (seconds_on low) *ℤ pos 1000000000 -ℤ pos 1000000000) ≤ℤ t
past_next k low t is = let from = is.from in omega (arith, signed)

from_next : (k : ℕ) (low t : ℤ) → IsLater (suc k) low t → IsLater k (seconds_on low) t
from_next k low t is =
    let from = is.from in
    let before = is.before in
    record { from = omega (arith, signed); before = omega (arith, signed) }

-- in each later cycle they show what they show in the first
pub again_shows : (n k : ℕ) (first : FixedTimespan) (low : ℤ) (es : List Entry) (t : ℤ) → k < n → Climb low es (seconds_on low)
    → Leaves first (seconds_on low) es → IsLater (suc k) low t → span_by first (again n es) t ≡ span_by first es (earlier (suc k) t)
unfolding again
again_shows zero k first low es t few h leaves is = absurd (omega arith)
again_shows (suc n) zero first low es t few h leaves is =
    let next = map entry_on es in
    span_by-more next (again n next) first t
    ∙ none_come t (span_by first next t) (seconds_on (seconds_on low)) (again n next) _ (climb_again n (seconds_on low) next (climb_on low es _ h)) (within_next low t is)
    ∙ ap (span_by first next) (none_on t) ∙ span_by-on es first (earlier 1 t)
again_shows (suc n) (suc k) first low es t few h leaves is =
    let next = map entry_on es in
    span_by-more next (again n next) first t
    ∙ ap (λ s. span_by s (again n next) t) (leaves_on first (seconds_on low) es leaves t (past_next k low t is))
    ∙ again_shows n k first (seconds_on low) next t (omega arith) (climb_on low es _ h) (leaves_on first (seconds_on low) es leaves)
    (from_next (suc k) low t is)
    ∙ shown_on first es (suc k) t
