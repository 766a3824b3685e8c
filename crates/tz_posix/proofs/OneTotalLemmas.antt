-- A string gives an instant one total.
use Rattle.std.proofs.{Common.{◌≡◌, ℕ, ◌<◌, Bool, true, List, Option, None, is_some, ℤ, pos, int_lt, inl, inr, sym, ap, ◌∙◌, arith}, lemmas.Bool.{cases_lt}, lemmas.Int.{ints}}
use Rattle.tz_lookup.specs.{InForce.{GivesAt}, Sets.{span_in}, Spans.{IsCut, Shift}, declared.set.FixedTimespanSet.{FixedTimespanSet}}
use Rattle.tz_posix.specs.PosixZones.{Given, Gives, GivesTotal, PosixZone, either, borrowed, fixed, ruled, zone}

-- no span ends before another begins at a second that both are in force at
not_less : (shifts : List Shift) (k l : ℕ) (s : ℤ) → IsCut shifts k s → IsCut shifts l s → k < l → ⊥
not_less shifts k l s here there less =
    omega (arith, ints, here.after k (omega arith) (omega (arith, there.within)), there.before k less)

one_span : (shifts : List Shift) (k l : ℕ) (s : ℤ) → IsCut shifts k s → IsCut shifts l s → k ≡ l
one_span shifts k l s here there =
    elim (cases_lt k l) [
      | inl less ↦ absurd (not_less shifts k l s here there less)
      | inr more ↦ elim (cases_lt l k) [
        | inl less ↦ absurd (not_less shifts l k s there here less)
        | inr same ↦ omega arith
      ]
    ]

one_saving : (set : FixedTimespanSet) (t : ℤ) (name other : List ℕ) (x y : Bool) → GivesAt set t name x → GivesAt set t other y → x ≡ y
one_saving set t name other x y a b =
    a.saves
    ∙ ap (λ k. int_lt (pos 0) (span_in set k).dst_offset) (one_span _ a.span b.span _ a.in_force b.in_force)
    ∙ sym b.saves

pub one_total : (tz : PosixZone) (t : ℤ) (x y : Given) → Gives tz t x → Gives tz t y → x.total ≡ y.total
one_total (zone set) t x y a b = a.0 ∙ sym b.0
one_total (fixed standard) t x y a b = a.0.0 ∙ sym b.0.0
one_total (ruled standard saving start end) t x y a b = a.total ∙ sym b.total
one_total (borrowed standard saving other) t x y a b =
    a.is.0
    ∙ ap (λ holds. (either standard saving holds).total) (one_saving other t a.its_name b.its_name x.saving y.saving a.saves b.saves)
    ∙ sym b.is.0

-- so where nothing is shared, it doesn't give the other total
pub not_shared : (tz : PosixZone) (t total other : ℤ) (given : Given) (result : Option ℤ) → Gives tz t given → total ≡ given.total
    → (other ≡ total → is_some result ≡ true) → result ≡ None → GivesTotal tz t other → ⊥
not_shared tz t total other given result gives is same none found =
    let one = sym found.is ∙ one_total tz t found.given given found.gives gives ∙ sym is in
    let no = sym (ap is_some none) ∙ same one in
    cc
