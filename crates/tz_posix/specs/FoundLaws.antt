-- What is read is spelled.
use Rattle.std.proofs.Common.{◌≡◌, ℕ, ◌<◌, ◌≤◌, Bool, true, false, cond, ◌⊎◌, inl, inr, List, [], ◌∷◌, ◌++◌, length, Option, Some, None, refl, sym, ap, subst, ◌∙◌, arith, nat_lt, nat_eq, nat_le, take_while, eqb-true, ltb-true, append_assoc, append-nil}
use Rattle.std.proofs.lemmas.{Bool.{and_parts}, Bool.Decides.{nat_tests}, List.{take-append-drop, nil_from_length}, List.Sums.{take_while-cons}, Option.{cond_some, same_Some, none-some}}
use Rattle.std.specs.{Char.{is_ascii_digit, is_ascii_alphabetic}, List.{prefix_len, list_all}, Option.{option_map_or}, Str.Parse.{digits_value}}
use Rattle.basics.specs.{LogicLaws.{map_some, bind_some}, Marks.{after_mark}, Numbers.{value_in}}
use Rattle.tz_posix.specs.Marks.{colon, plus_sign, comma, minus_sign, dot, slash, less, greater, letter_J, letter_M}
use Rattle.tz_posix.specs.Reading.{after_run, number_at, part_at, seconds_at, clock_time_at, offset_at, sign_at, letters_at, enclosed_at, name_at, day_at, weekday_at, date_at, date_time_at, moment_at, rule_in, is_over, own_offset_at, own_rule_in, dst_in, short_in, expanded_in, entry_in, AreRead, Takes, takes}
use Rattle.tz_posix.specs.Spells.{Optional, absent, present, SpellsNumber, SpellsTime, hours, minutes, seconds, SpellsOffset, bare, plus, minus, is_enclosed, SpellsName, enclosed, letters, SpellsDate, julian, counted, weekday, SpellsMoment, date, timed, SpellsRule, rule, SpellsDst, dst, SpellsIn, TimeRange, short_form, full_form}
use Rattle.tz_posix.specs.{Values.{DstPart, Value, short, expanded}, declared.time.Time.{Time}, declared.time.Offset.{Offset}, declared.date.Date.{Date}, declared.date.Date.TheVariants.{J, N, M}, declared.values.Rule.{Rule}}

-- what passes at the front passes
pub run_passes : (p : ℕ → Bool) (text : List ℕ) → list_all p (take_while p text) ≡ true
run_passes p [] = refl
run_passes p (b ∷ text) = rw take_while-cons (by_test (p b) refl (run_passes p text))
  where
    by_test : (t : Bool) → p b ≡ t → list_all p (take_while p text) ≡ true → list_all p (cond t (b ∷ take_while p text) []) ≡ true
    by_test true e more = rw e more
    by_test false e more = refl

pub takes_as : {V : Type 0} {Is : List ℕ → V → Type 0} {text : List ℕ} {x y : V × List ℕ} → Some x ≡ Some y → Takes Is text x.0 x.1
    → Takes Is text y.0 y.1
takes_as {V} {Is} {text} {x} {y} e t = subst (λ (p : V × List ℕ). Takes Is text p.0 p.1) (same_Some x y e) t

pub chosen : {A : Type 0} (b : Bool) (x y z : A) → cond b x y ≡ z → ((b ≡ true) × (x ≡ z)) ⊎ ((b ≡ false) × (y ≡ z))
chosen true x y z e = inl (refl, e)
chosen false x y z e = inr (refl, e)

pub mark_found : (mark : ℕ) (text rest : List ℕ) → after_mark mark text ≡ Some rest → text ≡ mark ∷ rest
mark_found mark [] rest e = absurd cc
mark_found mark (c ∷ text) rest e =
    let both = cond_some (nat_eq c mark) text rest e in
    let same = eqb-true c mark both.0 in
    cc

-- a text with a mark at its front, or another
pub marked : {B : Type 0} (f : List ℕ → B) (mark : ℕ) (text : List ℕ) (d y : B) → option_map_or f (after_mark mark text) d ≡ y
    → ((rest : List ℕ) × (text ≡ mark ∷ rest) × (f rest ≡ y)) ⊎ (d ≡ y)
marked f mark text d y e = by_mark (after_mark mark text) refl e
  where
    by_mark : (r : Option (List ℕ)) → after_mark mark text ≡ r → option_map_or f r d ≡ y
        → ((rest : List ℕ) × (text ≡ mark ∷ rest) × (f rest ≡ y)) ⊎ (d ≡ y)
    by_mark (Some rest) is e = inl (rest, mark_found mark text rest is, e)
    by_mark None is e = inr e

number_found : (bits : ℕ) (text : List ℕ) (y : ℕ × List ℕ) → number_at bits text ≡ Some y → Takes (SpellsNumber bits) text y.0 y.1
unfolding number_at value_in
number_found bits text y e =
    let run = take_while is_ascii_digit text in
    let step = bind_some _ _ y e in
    let value = cond_some _ (digits_value 10 run) step.0 step.1 in
    let tests = and_parts (nat_lt 0 (length run)) _ value.0 in
    let is : SpellsNumber bits run step.0 = record {
      some = ltb-true _ _ tests.0;
      digits = run_passes is_ascii_digit text;
      value = value.1;
      fits = rw (← value.1) (ltb-true _ _ tests.1);
    } in
    takes_as step.2
    (subst (λ t. Takes (SpellsNumber bits) t step.0 (after_run is_ascii_digit text))
    (take-append-drop (prefix_len is_ascii_digit text) text) (takes is))

data IsPart : List ℕ → Option ℕ → List ℕ → Type 0 where
  no_part : {rest : List ℕ} → IsPart rest None rest
  a_part : {b rest : List ℕ} {m : ℕ} → SpellsNumber 8 b m → IsPart (colon ∷ b ++ rest) (Some m) rest

some_part : {text rest : List ℕ} {m : ℕ} → Takes (SpellsNumber 8) text m rest → IsPart (colon ∷ text) (Some m) rest
some_part (takes m) = a_part m

part_found : (text : List ℕ) (y : Option ℕ × List ℕ) → part_at text ≡ Some y → IsPart text y.0 y.1
unfolding part_at
part_found text y e = elim (marked _ colon text _ (Some y) e) [
  | inl found ↦
      let number = bind_some _ (number_at 8 found.0) y found.2 in
      subst (λ p. IsPart text p.0 p.1) (same_Some _ y number.2) (rw found.1 (some_part (number_found 8 found.0 number.0 number.1)))
  | inr other ↦ subst (λ p. IsPart text p.0 p.1) (same_Some _ y other) no_part
]

time_after : {a b q rest : List ℕ} {h m : ℕ} {ss : Option ℕ} → SpellsNumber 8 a h → SpellsNumber 8 b m → IsPart q ss rest
    → Takes SpellsTime (a ++ (colon ∷ (b ++ q))) (record { hh = h; mm = Some m; ss = ss }) rest
time_after {a} {b} h m (no_part {rest}) = rw (← append_assoc a (colon ∷ b) rest) (takes (minutes h m))
time_after {a} {b} h m (a_part {b = c} {rest} s) =
    rw (← append_assoc a (colon ∷ b) (colon ∷ (c ++ rest)), ← append_assoc (a ++ (colon ∷ b)) (colon ∷ c) rest) (takes (seconds h m s))

time_built : {text r q : List ℕ} {h : ℕ} {mm : Option ℕ} → Takes (SpellsNumber 8) text h r → IsPart r mm q → (y : Option ℕ × List ℕ)
    → seconds_at mm q ≡ Some y → Takes SpellsTime text (record { hh = h; mm = mm; ss = y.0 }) y.1
time_built (takes {front} {value = n} h) (no_part {rest}) y e =
    subst (λ (p : Option ℕ × List ℕ). Takes SpellsTime (front ++ rest) (record { hh = n; mm = None; ss = p.0 }) p.1) (same_Some _ y e)
    (takes (hours h))
time_built (takes h) (a_part {rest = rest} m) y e = time_after h m (part_found rest y e)

pub time_found : (text : List ℕ) (y : Time × List ℕ) → clock_time_at text ≡ Some y → Takes SpellsTime text y.0 y.1
unfolding clock_time_at
time_found text y e =
    let h = bind_some _ (number_at 8 text) y e in
    let m = bind_some _ (part_at h.0.1) y h.2 in
    let s = bind_some _ (seconds_at m.0.0 m.0.1) y m.2 in
    takes_as s.2 (time_built (number_found 8 text h.0 h.1) (part_found h.0.1 m.0 m.1) s.0 s.1)

-- the sign, and what follows it
data IsSigned : List ℕ → Bool → List ℕ → Type 0 where
  unsigned : {text : List ℕ} → IsSigned text true text
  with_plus : {text : List ℕ} → IsSigned (plus_sign ∷ text) true text
  with_minus : {text : List ℕ} → IsSigned (minus_sign ∷ text) false text

sign_found : (text : List ℕ) → IsSigned text (sign_at text).0 (sign_at text).1
unfolding sign_at
sign_found text = elim (marked (λ rest. (false, rest)) minus_sign text _ (sign_at text) refl) [
  | inl found ↦ subst (λ (p : Bool × List ℕ). IsSigned text p.0 p.1) found.2 (rw found.1 with_minus)
  | inr other ↦ subst (λ (p : Bool × List ℕ). IsSigned text p.0 p.1) other (elim (marked (λ rest. rest) plus_sign text text _ refl) [
    | inl found ↦ rw (← found.2) (subst (λ t. IsSigned t true found.0) (sym found.1) with_plus)
    | inr same ↦ rw (← same) unsigned
  ])
]

offset_built : {text rest r : List ℕ} {positive : Bool} {t : Time} → IsSigned text positive rest → Takes SpellsTime rest t r
    → Takes SpellsOffset text (record { positive = positive; time = t }) r
offset_built unsigned (takes t) = takes (bare t)
offset_built with_plus (takes t) = takes (plus t)
offset_built with_minus (takes t) = takes (minus t)

pub offset_found : (text : List ℕ) (y : Offset × List ℕ) → offset_at text ≡ Some y → Takes SpellsOffset text y.0 y.1
unfolding offset_at
offset_found text y e =
    let t = bind_some _ (clock_time_at (sign_at text).1) y e in
    takes_as t.2 (offset_built (sign_found text) (time_found (sign_at text).1 t.0 t.1))

enclosed_built : (name rest : List ℕ) → 0 < length name → list_all is_enclosed name ≡ true
    → Takes SpellsName (less ∷ (name ++ (greater ∷ rest))) name rest
enclosed_built name rest more inside = rw (← append_assoc name (greater ∷ []) rest) (takes (enclosed more inside))

enclosed_found : (text : List ℕ) (y : List ℕ × List ℕ) → enclosed_at text ≡ Some y → Takes SpellsName (less ∷ text) y.0 y.1
unfolding enclosed_at
enclosed_found text y e =
    let name = take_while is_enclosed text in
    elim (chosen (nat_eq (length name) 0) None _ (Some y) e) [
      | inl empty ↦ absurd (none-some y empty.1)
      | inr more ↦
          let step = map_some _ (after_mark greater (after_run is_enclosed text)) y more.1 in
          let whole : name ++ (greater ∷ step.0) ≡ text = ap (λ t. name ++ t) (sym (mark_found greater _ step.0 step.1))
          ∙ take-append-drop (prefix_len is_enclosed text) text in
          let filled : 0 < length name = grind (arith, nat_tests, more.0) in
          subst (λ (p : List ℕ × List ℕ). Takes SpellsName (less ∷ text) p.0 p.1) step.2
          (subst (λ t. Takes SpellsName (less ∷ t) name step.0) whole (enclosed_built name step.0 filled (run_passes is_enclosed text)))
    ]

letters_found : (text : List ℕ) (y : List ℕ × List ℕ) → letters_at text ≡ Some y → Takes SpellsName text y.0 y.1
unfolding letters_at
letters_found text y e =
    let name = take_while is_ascii_alphabetic text in
    let both = cond_some _ (name, after_run is_ascii_alphabetic text) y e in
    let tests = and_parts (nat_le 3 (length name)) _ both.0 in
    let fewest : 3 ≤ length name = grind (arith, nat_tests, tests.0) in
    let most : length name ≤ 16 = grind (arith, nat_tests, tests.1) in
    subst (λ (p : List ℕ × List ℕ). Takes SpellsName text p.0 p.1) both.1
    (subst (λ t. Takes SpellsName t name (after_run is_ascii_alphabetic text))
    (take-append-drop (prefix_len is_ascii_alphabetic text) text)
    (takes (letters fewest most (run_passes is_ascii_alphabetic text))))

pub name_found : (text : List ℕ) (y : List ℕ × List ℕ) → name_at text ≡ Some y → Takes SpellsName text y.0 y.1
unfolding name_at
name_found text y e = elim (marked enclosed_at less text (letters_at text) (Some y) e) [
  | inl found ↦ rw found.1 (enclosed_found found.0 y found.2)
  | inr other ↦ letters_found text y other
]

two_marks : {a b c rest : List ℕ} {m n d : ℕ} → SpellsNumber 8 a m → SpellsNumber 8 b n → SpellsNumber 8 c d
    → Takes SpellsDate (letter_M ∷ (a ++ (dot ∷ (b ++ (dot ∷ (c ++ rest)))))) (M m n d) rest
two_marks {a} {b} {c} {rest} m n d =
    rw (← append_assoc a (dot ∷ b) (dot ∷ (c ++ rest)), ← append_assoc (a ++ (dot ∷ b)) (dot ∷ c) rest) (takes (weekday m n d))

weekday_built : {text p q r s rest : List ℕ} {m n d : ℕ} → Takes (SpellsNumber 8) text m p → p ≡ dot ∷ q → Takes (SpellsNumber 8) q n r
    → r ≡ dot ∷ s → Takes (SpellsNumber 8) s d rest → Takes SpellsDate (letter_M ∷ text) (M m n d) rest
weekday_built (takes {front = a} m) e (takes {front = b} n) f (takes d) = rw (e, f) (two_marks m n d)

weekday_found : (text : List ℕ) (y : Date × List ℕ) → weekday_at text ≡ Some y → Takes SpellsDate (letter_M ∷ text) y.0 y.1
unfolding weekday_at
weekday_found text y e =
    let m = bind_some _ (number_at 8 text) y e in
    let p = bind_some _ (after_mark dot m.0.1) y m.2 in
    let n = bind_some _ (number_at 8 p.0) y p.2 in
    let q = bind_some _ (after_mark dot n.0.1) y n.2 in
    let d = bind_some _ (number_at 8 q.0) y q.2 in
    takes_as d.2 (weekday_built (number_found 8 text m.0 m.1) (mark_found dot m.0.1 p.0 p.1) (number_found 8 p.0 n.0 n.1)
    (mark_found dot n.0.1 q.0 q.1) (number_found 8 q.0 d.0 d.1))

julian_built : {text rest : List ℕ} {n : ℕ} → Takes (SpellsNumber 16) text n rest → Takes SpellsDate (letter_J ∷ text) (J n) rest
julian_built (takes n) = takes (julian n)

counted_built : {text rest : List ℕ} {n : ℕ} → Takes (SpellsNumber 16) text n rest → Takes SpellsDate text (N n) rest
counted_built (takes n) = takes (counted n)

pub date_found : (text : List ℕ) (y : Date × List ℕ) → date_at text ≡ Some y → Takes SpellsDate text y.0 y.1
unfolding date_at
date_found text y e = elim (marked (day_at J) letter_J text _ (Some y) e) [
  | inl found ↦
      let n = map_some _ (number_at 16 found.0) y found.2 in
      subst (λ (p : Date × List ℕ). Takes SpellsDate text p.0 p.1) n.2 (rw found.1 (julian_built (number_found 16 found.0 n.0 n.1)))
  | inr other ↦ elim (marked weekday_at letter_M text (day_at N text) (Some y) other) [
    | inl found ↦ rw found.1 (weekday_found found.0 y found.2)
    | inr plain ↦
        let n = map_some _ (number_at 16 text) y plain in
        subst (λ (p : Date × List ℕ). Takes SpellsDate text p.0 p.1) n.2 (counted_built (number_found 16 text n.0 n.1))
  ]
]

offset_there : {text rest : List ℕ} {o : Offset} → Takes SpellsOffset text o rest → Takes (Optional SpellsOffset) text (Some o) rest
offset_there (takes o) = takes (present o)

pub own_offset_found : (text : List ℕ) (y : Option Offset × List ℕ) → own_offset_at text ≡ Some y → Takes (Optional SpellsOffset) text y.0 y.1
unfolding own_offset_at
own_offset_found text y e = elim (chosen (is_over text) _ _ (Some y) e) [
  | inl over ↦ takes_as over.1 (takes absent)
  | inr more ↦
      let o = map_some _ (offset_at text) y more.1 in
      subst (λ (p : Option Offset × List ℕ). Takes (Optional SpellsOffset) text p.0 p.1) o.2 (offset_there (offset_found text o.0 o.1))
]

short_built : {text name rest : List ℕ} → Takes SpellsName text name rest → rest ≡ [] → SpellsName text name
short_built (takes {front = a} name) e = rw (e, append-nil a) name

short_found : (text name : List ℕ) → short_in text ≡ Some name → SpellsName text name
unfolding short_in
short_found text name e =
    let found = bind_some _ (name_at text) name e in
    let last = cond_some (nat_eq (length found.0.1) 0) found.0.0 name found.2 in
    subst (SpellsName text) last.1 (short_built (name_found text found.0 found.1) (nil_from_length found.0.1 (eqb-true _ 0 last.0)))

date_alone : {T : Type 0} {range : TimeRange T} {text rest : List ℕ} {d : Date} → Takes SpellsDate text d rest → Takes (SpellsMoment range) text (d, None) rest
date_alone (takes d) = takes (date d)

date_timed : {T : Type 0} {range : TimeRange T} {text r q rest : List ℕ} {d : Date} {t : T} → Takes SpellsDate text d r → r ≡ slash ∷ q → Takes range.IsTime q t rest
    → Takes (SpellsMoment range) text (d, Some t) rest
date_timed (takes {front = a} d) e (takes {front = b} {rest = rest} t) = rw (e, ← append_assoc a (slash ∷ b) rest) (takes (timed d t))

rule_built : {T : Type 0} {range : TimeRange T} {whole text p q r : List ℕ} {s e : Date × Option T} → whole ≡ comma ∷ text → Takes (SpellsMoment range) text s p → p ≡ comma ∷ q
    → Takes (SpellsMoment range) q e r → r ≡ [] → SpellsRule range whole (record { start = s; end = e })
rule_built start (takes s) first (takes {front = b} e) last = rw (start, first, last, append-nil b) (rule s e)

dst_built : {T : Type 0} {range : TimeRange T} {text p q name : List ℕ} {o : Option Offset} {r : Option (Rule T)} → Takes SpellsName text name p → Takes (Optional SpellsOffset) p o q
    → Optional (SpellsRule range) q r → SpellsDst range text (record { name = name; offset = o; rule = r })
dst_built (takes {front = a} name) (takes {front = b} {rest = q} o) r = rw (← append_assoc a b q) (dst name o r)

full_built : {T : Type 0} {range : TimeRange T} {text p q name : List ℕ} {o : Offset} {d : Option (DstPart T)} → Takes SpellsName text name p → Takes SpellsOffset p o q
    → Optional (SpellsDst range) q d → SpellsIn range text (expanded (record { name = name; offset = o }) d)
full_built (takes {front = a} name) (takes {front = b} {rest = q} o) d = rw (← append_assoc a b q) (full_form name o d)

-- with times that are read so
module _ {T : Type 0} {range : TimeRange T} {time_at : List ℕ → Option (T × List ℕ)} (reads : AreRead range time_at) where
  moment_found : (text : List ℕ) (y : (Date × Option T) × List ℕ) → moment_at time_at text ≡ Some y → Takes (SpellsMoment range) text y.0 y.1
  unfolding moment_at
  moment_found text y e =
      let d = bind_some _ (date_at text) y e in
      let whole = date_found text d.0 d.1 in
      elim (marked (date_time_at time_at d.0.0) slash d.0.1 _ (Some y) d.2) [
        | inl found ↦
            let t = map_some _ (time_at found.0) y found.2 in
            subst (λ (p : (Date × Option T) × List ℕ). Takes (SpellsMoment range) text p.0 p.1) t.2
            (date_timed whole found.1 (reads.found found.0 t.0 t.1))
        | inr other ↦ takes_as other (date_alone whole)
      ]

  rule_found : (text : List ℕ) (y : Rule T) → rule_in time_at text ≡ Some y → SpellsRule range text y
  unfolding rule_in
  rule_found text y e =
      let first = bind_some _ (after_mark comma text) y e in
      let s = bind_some _ (moment_at time_at first.0) y first.2 in
      let second = bind_some _ (after_mark comma s.0.1) y s.2 in
      let t = bind_some _ (moment_at time_at second.0) y second.2 in
      let last = cond_some (nat_eq (length t.0.1) 0) _ y t.2 in
      let empty = nil_from_length t.0.1 (eqb-true _ 0 last.0) in
      subst (SpellsRule range text) last.1
      (rule_built (mark_found comma text first.0 first.1) (moment_found first.0 s.0 s.1) (mark_found comma s.0.1 second.0 second.1)
      (moment_found second.0 t.0 t.1) empty)

  own_rule_found : (text : List ℕ) (y : Option (Rule T)) → own_rule_in time_at text ≡ Some y → Optional (SpellsRule range) text y
  unfolding own_rule_in
  own_rule_found text y e = elim (chosen (nat_eq (length text) 0) _ _ (Some y) e) [
    | inl empty ↦ rw (nil_from_length text (eqb-true _ 0 empty.0)) (subst (Optional (SpellsRule range) []) (same_Some _ y empty.1) absent)
    | inr more ↦
        let r = map_some _ (rule_in time_at text) y more.1 in
        subst (Optional (SpellsRule range) text) r.2 (present (rule_found text r.0 r.1))
  ]

  dst_found : (text : List ℕ) (y : Option (DstPart T)) → dst_in time_at text ≡ Some y → Optional (SpellsDst range) text y
  unfolding dst_in
  dst_found text y e = elim (chosen (nat_eq (length text) 0) _ _ (Some y) e) [
    | inl empty ↦ rw (nil_from_length text (eqb-true _ 0 empty.0)) (subst (Optional (SpellsDst range) []) (same_Some _ y empty.1) absent)
    | inr more ↦
        let name = bind_some _ (name_at text) y more.1 in
        let o = bind_some _ (own_offset_at name.0.1) y name.2 in
        let r = bind_some _ (own_rule_in time_at o.0.1) y o.2 in
        subst (Optional (SpellsDst range) text) (same_Some _ y r.2)
        (present (dst_built (name_found text name.0 name.1) (own_offset_found name.0.1 o.0 o.1) (own_rule_found o.0.1 r.0 r.1)))
  ]

  full_found : (text : List ℕ) (y : Value T) → expanded_in time_at text ≡ Some y → SpellsIn range text y
  unfolding expanded_in
  full_found text y e =
      let name = bind_some _ (name_at text) y e in
      let o = bind_some _ (offset_at name.0.1) y name.2 in
      let d = bind_some _ (dst_in time_at o.0.1) y o.2 in
      subst (SpellsIn range text) (same_Some _ y d.2)
      (full_built (name_found text name.0 name.1) (offset_found name.0.1 o.0 o.1) (dst_found o.0.1 d.0 d.1))

  -- what is read is spelled
  pub entry_found : (text : List ℕ) (y : Value T) → entry_in time_at text ≡ Some y → SpellsIn range text y
  unfolding entry_in
  entry_found text y e = elim (marked _ colon text (expanded_in time_at text) (Some y) e) [
    | inl found ↦
        let name = map_some short (short_in found.0) y found.2 in
        subst (SpellsIn range text) name.2 (rw found.1 (short_form (short_found found.0 name.0 name.1)))
    | inr other ↦ full_found text y other
  ]
