-- The entries of a set by their places.
use Rattle.std.proofs.{Common.{◌≡◌, ◌+◌, ◌<◌, ℕ, zero, suc, ℤ, pos, true, List, [], ◌∷◌, ◌++◌, length, map, drop, refl, sym, ap, ◌∙◌, append_assoc, arith}, lemmas.Bool.{and_parts}, lemmas.List.{map-append}, lemmas.Option.{none-some}}
use Rattle.std.specs.{Prelude.{Option, Some, None}, List.{list_all, slice_get, slice_index_or}}
use Rattle.civil_base.specs.Ranges.{is_offset}
use Rattle.zone_spans.specs.Entries.{Entry, total}
use Rattle.tz_lookup.specs.{Sets.{schedule_of, shift_of, shifts_of, span_in, IsAccepted}, Spans.{shift_at}, declared.set.FixedTimespanSet.{FixedTimespanSet}}
use Rattle.zone_tzif_core.specs.Zones.{KindValue}
use Rattle.zone_tzif.{specs.Values.{change_by, kind_by}, specs.declared.convert.Saves.{Saves}, proofs.TotalLemmas.{entries_small}}

small_at : (entries : List Entry) (i : ℕ) (default : Entry) → is_offset (total default.1) ≡ true
    → list_all (λ (entry : Entry). is_offset (total entry.1)) entries ≡ true → is_offset (total (slice_index_or entries i default).1) ≡ true
small_at [] i default first all = first
small_at (e ∷ es) zero default first all = (and_parts (is_offset (total e.1)) _ all).0
small_at (e ∷ es) (suc i) default first all = small_at es i default first (and_parts (is_offset (total e.1)) _ all).1

-- the total of each span of an accepted set is an offset
pub span_small : (set : FixedTimespanSet) (k : ℕ) → IsAccepted (schedule_of set) → is_offset (total (span_in set k)) ≡ true
span_small set zero accepted = (and_parts (is_offset (total set.first)) _ accepted.range).0
span_small set (suc i) accepted =
    let parts = and_parts (is_offset (total set.first)) _ accepted.range in
    small_at set.others i (pos 0, set.first) parts.0 (entries_small set.others parts.1)

pub by_place : (saves : Saves) (entries : List Entry) (k : ℕ) (default : Entry) → k < length entries
    → (slice_get (map (change_by saves) entries) k ≡ Some (change_by saves (slice_index_or entries k default)))
    × (shift_at (map shift_of entries) k ≡ shift_of (slice_index_or entries k default))
by_place saves [] k default l = absurd (omega (arith, l))
by_place saves (e ∷ es) zero default l = (refl, refl)
by_place saves (e ∷ es) (suc k) default l = by_place saves es k default (omega (arith, l))

next : (n : ℕ) → suc n ≡ n + 1
next n = omega arith

-- what stands at a place is its time with its span as a kind
pub change_is : (saves : Saves) (set : FixedTimespanSet) (k : ℕ) (time : ℤ) (kind : KindValue) → k < length set.others → time ≡ (shift_at (shifts_of set) k).0
    → kind ≡ kind_by saves (span_in set (k + 1)) → slice_get (map (change_by saves) set.others) k ≡ Some (time, kind)
change_is saves set k time kind l at is =
    let found = by_place saves set.others k (pos 0, set.first) l in
    let t = at ∙ ap (λ s. s.0) found.1 in
    let s = is ∙ ap (λ n. kind_by saves (span_in set n)) (sym (next k)) in
    found.0 ∙ ap Some (λ i. (sym t i, sym s i))

abbrev inside : {A : Type 0} → A → Option A → A
inside x (Some y) = y
inside x None = x

left_at : {A : Type 0} → (all : List A) (place : ℕ) (x : A) → slice_get all place ≡ Some x → drop place all ≡ x ∷ drop (suc place) all
left_at [] place x e = absurd (none-some _ e)
left_at (y ∷ ys) zero x e = ap (λ a. a ∷ ys) (ap (inside x) e)
left_at (y ∷ ys) (suc place) x e = left_at ys place x e

-- with one more those so far and those that are left make the whole
pub one_more : {A B : Type 0} (view : B → A) (so_far new : List B) (all : List A) (place : ℕ) (x : B) → map view so_far ++ drop place all ≡ all
    → slice_get all place ≡ Some (view x) → new ≡ so_far ++ x ∷ [] → map view new ++ drop (place + 1) all ≡ all
one_more view so_far new all place x whole at more =
    ap (λ l. map view l ++ drop (place + 1) all) more
    ∙ ap (λ l. l ++ drop (place + 1) all) (map-append view so_far (x ∷ []))
    ∙ append_assoc (map view so_far) (view x ∷ []) (drop (place + 1) all)
    ∙ ap (λ n. map view so_far ++ view x ∷ drop n all) (sym (next place))
    ∙ ap (λ l. map view so_far ++ l) (sym (left_at all place (view x) at))
    ∙ whole
