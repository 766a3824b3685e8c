-- What the collapse keeps, for every list of entries.
use Rattle.std.proofs.{Common.{◌≡◌, true, false, cond, List, [], ◌∷◌, ◌++◌, reverse, ℤ, ◌+ℤ◌, ◌<ℤ◌, ◌≤ℤ◌, refl, sym, ap, ◌∙◌, subst, append_assoc}, lemmas.List.{reverse-append, append-nil}}
use Rattle.basics.specs.ComparisonLaws.{le_from_fail, le_itself, le_le}
use Rattle.zone_spans.specs.{declared.span.FixedTimespan.{FixedTimespan}, Entries.{Entry, total}, Collapse.{is_same_span, is_no_later, kept_with, kept_of, without_first, collapsed, LocalEndsRise, EntryTimesDontFall}}

-- the same, of a list with its latest entry first
abbrev Falls : List Entry → Type 0
Falls [] = Unit {0}
Falls (c ∷ []) = Unit {0}
Falls (c ∷ b ∷ []) = Unit {0}
Falls (c ∷ b ∷ a ∷ es) = ((b.0 +ℤ total a.1) <ℤ (c.0 +ℤ total b.1)) × Falls (b ∷ a ∷ es)

-- an entry more, above two
pushed : (e k j : Entry) (ks : List Entry) → is_no_later e k j ≡ false → Falls (k ∷ j ∷ ks) → Falls (e ∷ k ∷ j ∷ ks)
pushed e k j ks h f = (le_from_fail _ _ h, f)

-- the latest entry takes a span
respanned_falls : (e k j : Entry) (ks : List Entry) → Falls (k ∷ j ∷ ks) → Falls ((k.0, e.1) ∷ j ∷ ks)
respanned_falls e k j [] f = tt
respanned_falls e k j (i ∷ ks) f = f

falls_with : (ks : List Entry) (e : Entry) → Falls ks → Falls (kept_with ks e)
unfolding kept_with
falls_with [] e f = tt
falls_with (k ∷ []) e f = elim (is_same_span e.1 k.1) as (λ b. Falls (cond b (k ∷ []) (e ∷ k ∷ []))) [ true ↦ tt | false ↦ tt ]
falls_with (k ∷ j ∷ ks) e f =
    elim (is_no_later e k j) as (λ b. is_no_later e k j ≡ b → Falls
    (cond b ((k.0, e.1) ∷ j ∷ ks) (cond (is_same_span e.1 k.1) (k ∷ j ∷ ks) (e ∷ k ∷ j ∷ ks)))) [
      | true ↦ λ h. respanned_falls e k j ks f
      | false ↦ λ h. elim (is_same_span e.1 k.1) as (λ b. Falls
          (cond b (k ∷ j ∷ ks) (e ∷ k ∷ j ∷ ks))) [ true ↦ f | false ↦ pushed e k j ks h f ]
    ] refl

falls_of : (es ks : List Entry) → Falls ks → Falls (kept_of ks es)
unfolding kept_of
falls_of [] ks f = f
falls_of (e ∷ es) ks f = falls_of es (kept_with ks e) (falls_with ks e f)

-- the latest first, put in front of others the other way round
abbrev onto : List Entry → List Entry → List Entry
onto [] acc = acc
onto (k ∷ ks) acc = onto ks (k ∷ acc)

onto_is : (ks acc : List Entry) → onto ks acc ≡ reverse ks ++ acc
onto_is [] acc = refl
onto_is (k ∷ ks) acc = onto_is ks (k ∷ acc) ∙ sym (append_assoc (reverse ks) (k ∷ []) acc)
    ∙ ap (λ (xs : List Entry). xs ++ acc) (sym (reverse-append (k ∷ []) ks))

reversed : (ks : List Entry) → onto ks [] ≡ reverse ks
reversed ks = onto_is ks [] ∙ append-nil (reverse ks)

-- the two latest, in front of what follows them
abbrev Joins : List Entry → List Entry → Type 0
Joins [] acc = LocalEndsRise acc
Joins (k ∷ []) acc = LocalEndsRise (k ∷ acc)
Joins (k ∷ j ∷ ks) acc = LocalEndsRise (j ∷ k ∷ acc)

rise_onto : (ks acc : List Entry) → Falls ks → Joins ks acc → LocalEndsRise (onto ks acc)
rise_onto [] acc f r = r
rise_onto (k ∷ []) acc f r = r
rise_onto (k ∷ j ∷ []) acc f r = r
rise_onto (k ∷ j ∷ i ∷ ks) acc f r = rise_onto (j ∷ i ∷ ks) (k ∷ acc) f.1 (f.0, r)

joins_none : (ks : List Entry) → Joins ks []
joins_none [] = tt
joins_none (k ∷ []) = tt
joins_none (k ∷ j ∷ ks) = tt

rise_tail : (e : Entry) (es : List Entry) → LocalEndsRise (e ∷ es) → LocalEndsRise es
rise_tail e [] r = tt
rise_tail e (a ∷ []) r = tt
rise_tail e (a ∷ b ∷ es) r = r.1

rise_without : (first : FixedTimespan) (es : List Entry) → LocalEndsRise es → LocalEndsRise (without_first first es)
unfolding without_first
rise_without first [] r = tt
rise_without first (e ∷ es) r = elim (is_same_span e.1 first) as
    (λ b. LocalEndsRise (cond b es (e ∷ es))) [ true ↦ rise_tail e es r | false ↦ r ]

-- the local ends of the kept spans after the first strictly rise, whatever the entries
pub local_ends_rise : (first : FixedTimespan) (entries : List Entry) → LocalEndsRise (collapsed first entries)
unfolding collapsed
local_ends_rise first entries =
    let kept = kept_of [] entries in
    let rises : LocalEndsRise (reverse kept) = subst LocalEndsRise (reversed kept)
    (rise_onto kept [] (falls_of entries [] tt) (joins_none kept)) in
    rise_without first (reverse kept) rises

-- times at or above t that don't fall, and times at or below t that don't rise
abbrev RiseFrom : ℤ → List Entry → Type 0
RiseFrom t [] = Unit {0}
RiseFrom t (e ∷ es) = (t ≤ℤ e.0) × RiseFrom e.0 es

abbrev pub FallFrom : ℤ → List Entry → Type 0
FallFrom t [] = Unit {0}
FallFrom t (e ∷ es) = (e.0 ≤ℤ t) × FallFrom e.0 es

rise_from : (e : Entry) (es : List Entry) → EntryTimesDontFall (e ∷ es) → RiseFrom e.0 es
rise_from e [] r = tt
rise_from e (a ∷ es) r = (r.0, rise_from a es r.1)

times_rise : (t : ℤ) (es : List Entry) → RiseFrom t es → EntryTimesDontFall es
times_rise t [] r = tt
times_rise t (e ∷ []) r = tt
times_rise t (e ∷ a ∷ es) r = (r.1.0, times_rise e.0 (a ∷ es) r.1)

fall_higher : (s t : ℤ) (ks : List Entry) → s ≤ℤ t → FallFrom s ks → FallFrom t ks
fall_higher s t [] h f = tt
fall_higher s t (k ∷ ks) h f = (le_le k.0 s t f.0 h, f.1)

fall_with : (t : ℤ) (ks : List Entry) (e : Entry) → t ≤ℤ e.0 → FallFrom t ks → FallFrom e.0 (kept_with ks e)
unfolding kept_with
fall_with t [] e h f = (le_itself e.0, tt)
fall_with t (k ∷ []) e h f =
    let far = le_le k.0 t e.0 f.0 h in
    elim (is_same_span e.1 k.1) as (λ b. FallFrom e.0 (cond b (k ∷ []) (e ∷ k ∷ []))) [
      | true ↦ (far, tt)
      | false ↦
          (le_itself e.0, (far, tt))
    ]
fall_with t (k ∷ j ∷ ks) e h f =
    let far = le_le k.0 t e.0 f.0 h in
    elim (is_no_later e k j) as (λ b. FallFrom e.0 (cond b ((k.0, e.1) ∷ j ∷ ks)
    (cond (is_same_span e.1 k.1) (k ∷ j ∷ ks) (e ∷ k ∷ j ∷ ks)))) [
      | true ↦ (far, f.1)
      | false ↦ elim (is_same_span e.1 k.1) as (λ b. FallFrom e.0 (cond b (k ∷ j ∷ ks) (e ∷ k ∷ j ∷ ks))) [
        | true ↦
            (far, f.1)
        | false ↦ (le_itself e.0, (far, f.1))
      ]
    ]

-- some time bounds what is kept
abbrev Fall : List Entry → Type 0
Fall ks = (t : ℤ) × FallFrom t ks

fall_of : (t : ℤ) (es ks : List Entry) → RiseFrom t es → FallFrom t ks → Fall (kept_of ks es)
unfolding kept_of
fall_of t [] ks r f = (t, f)
fall_of t (e ∷ es) ks r f = fall_of e.0 es (kept_with ks e) r.1 (fall_with t ks e r.0 f)

rise_lower : (s t : ℤ) (es : List Entry) → s ≤ℤ t → RiseFrom t es → RiseFrom s es
rise_lower s t [] h r = tt
rise_lower s t (e ∷ es) h r = (le_le s t e.0 h r.0, r.1)

times_onto : (t : ℤ) (ks acc : List Entry) → FallFrom t ks → RiseFrom t acc → EntryTimesDontFall (onto ks acc)
times_onto t [] acc f r = times_rise t acc r
times_onto t (k ∷ ks) acc f r = times_onto k.0 ks (k ∷ acc) f.1 (le_itself k.0, rise_lower k.0 t acc f.0 r)

pub times_of_reversed : (t : ℤ) (ks : List Entry) → FallFrom t ks → EntryTimesDontFall (reverse ks)
times_of_reversed t ks f = subst EntryTimesDontFall (reversed ks) (times_onto t ks [] f tt)

times_without : (first : FixedTimespan) (es : List Entry) → EntryTimesDontFall es → EntryTimesDontFall (without_first first es)
unfolding without_first
times_without first [] r = tt
times_without first (e ∷ []) r = elim (is_same_span e.1 first) as (λ b. EntryTimesDontFall (cond b [] (e ∷ []))) [ true ↦ tt | false ↦ tt ]
times_without first (e ∷ a ∷ es) r = elim (is_same_span e.1 first) as
    (λ b. EntryTimesDontFall (cond b (a ∷ es) (e ∷ a ∷ es))) [ true ↦ r.1 | false ↦ r ]

-- times that don't fall before don't fall after
pub times_still_rise : (first : FixedTimespan) (entries : List Entry) → EntryTimesDontFall entries → EntryTimesDontFall (collapsed first entries)
unfolding collapsed kept_of without_first
times_still_rise first [] r = tt
times_still_rise first (e ∷ es) r =
    let kept = kept_of [] (e ∷ es) in
    let fall : Fall kept = fall_of e.0 (e ∷ es) [] (le_itself e.0, rise_from e es r) tt in
    let rises : EntryTimesDontFall (reverse kept) = subst EntryTimesDontFall (reversed kept) (times_onto fall.0 kept [] fall.1 tt) in
    times_without first (reverse kept) rises
