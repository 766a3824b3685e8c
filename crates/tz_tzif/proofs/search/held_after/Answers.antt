-- The kind after so many changes.
use Rattle.std.{proofs.Common.{◌≡◌, ℕ, zero, suc, ◌-◌, ◌<◌, true, List, [], ◌∷◌, length, take, get_or, ℤ, refl, arith, ◌∙◌, pos, sym, ap, subst}, specs.List.{list_all}, proofs.lemmas.Bool.{and_parts}}
use Rattle.zone_tzif_core.specs.{Totals.{last_kind}, Zones.{KindValue, is_small}, ZoneFiles.{unnumbered, zone_seen}}
use Rattle.tz_tzif.proofs.search.held_after.Goals as goal

last_of : (first : KindValue) (changes : List (ℤ × KindValue)) (n : ℕ) (d : ℤ × KindValue) → n < length changes
    → last_kind first (take (suc n) changes) ≡ (get_or changes n d).1
last_of first [] n d l = absurd (omega (arith, l))
last_of first (change ∷ changes) zero d l = refl
last_of first (change ∷ changes) (suc n) d l = last_of change.1 changes n d (omega (arith, l))

small_at : (changes : List (ℤ × KindValue)) (n : ℕ) (d : ℤ × KindValue) → n < length changes
    → list_all (λ change. is_small change.1.utoff) changes ≡ true → is_small (get_or changes n d).1.utoff ≡ true
small_at [] n d l h = absurd (omega (arith, l))
small_at (change ∷ changes) zero d l h = (and_parts (is_small change.1.utoff) _ h).0
small_at (change ∷ changes) (suc n) d l h = small_at changes n d (omega (arith, l)) (and_parts (is_small change.1.utoff) _ h).1

not_none : (n : ℕ) → (n ≡ 0 → ⊥) → suc (n - 1) ≡ n
not_none zero h = absurd (h refl)
not_none (suc n) h = omega arith

pub held_of-requires-else-count-eq0 : goal.held_of-requires-else-count-eq0
held_of-requires-else-count-eq0 c =
    let zone = zone_seen c.args.zone.now in
    let some = not_none c.args.count c.if-count-eq0.false in
    let both = and_parts (is_small zone.first.utoff) _ c.requires.small in
    subst (λ (kind : KindValue). is_small kind.utoff ≡ true) (sym c.kind_at.ensures)
    (small_at zone.rest (c.args.count - 1) (pos 0, unnumbered) (omega (arith, c.requires.within, some)) both.1)

pub returns-else-count-eq0 : goal.returns-else-count-eq0
returns-else-count-eq0 c =
    let zone = zone_seen c.args.zone.now in
    let some = not_none c.args.count c.if-count-eq0.false in
    c.held_of-else-count-eq0.ensures ∙ c.kind_at.ensures
    ∙ sym (last_of zone.first zone.rest (c.args.count - 1) (pos 0, unnumbered) (omega (arith, c.requires.within, some)))
    ∙ ap (λ n. last_kind zone.first (take n zone.rest)) some
