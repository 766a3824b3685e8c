-- The earliest of a year's rules is the first of their fronts.
use Rattle.std.proofs.Common.{pos, ◌≡◌, ℕ, ◌+◌, ◌<◌, ◌≤◌, Bool, true, false, not, ◌&&◌, ◌||◌, ◌+ℤ◌, ◌-ℤ◌, cond, List, [], ◌∷◌, ◌++◌, length, map, filter, ◌⊎◌, inl, inr, Option, Some, None, ℤ, int_lt, nat_lt, IfSome, append_assoc, append-nil, refl, sym, ap, ◌∙◌, arith}
use Rattle.std.proofs.lemmas.{Int.{ints}, List.{length-map}, Bool.Decides.{nat_tests}}
use Rattle.std.specs.{Cmp.{IsStrictWeakOrder}, List.{AllByRecursion}}
use Rattle.basics.specs.{Sorted.{stable_sort}, LogicLaws.{every_weaker}}
use Rattle.zone_table.specs.{declared.{time.TimeType.{TimeType}, time.TimeType.TheVariants.{Wall, Standard, UTC}, change.ChangeTime.{ChangeTime}}, declared.rule.RuleInfo.{RuleInfo}, Moments.{instant_of, moment}}
use Rattle.zone_spans.specs.{Firings.{Fired, Firing, earliest, fired, is_earlier, is_over, year_firings}, Fronts.{first_of, firing_of, fronts_of, has_mark, head_of, is_below, fires_sooner, left, next_firing, same_mark, sooner, tail_of}}
use Rattle.zone_spans.specs.{Placed.{Placed, placed_from, time_of}, declared.front.YearRules.{YearRules}}
use Rattle.zone_spans.proofs.{FiringLemmas.{int_lt_chain, int_lt_one_way}, Picks.{all_filter, all_sorted, pick, pick_least, pick_length, pick_others, pick_sorted}, PlacedLemmas.{IsAt, Rises, all_at, placed_most, placed_rises, placed_rules}}

-- those of a mark in order
abbrev front : TimeType → List Placed → List Placed
front mark ps = stable_sort is_below (filter (has_mark mark) ps)

abbrev is_less : ℤ → ℤ → Placed → Placed → Bool
is_less offset saving a b = int_lt (time_of offset saving a) (time_of offset saving b)

less_ranks : (offset saving : ℤ) → IsStrictWeakOrder (is_less offset saving)
less_ranks offset saving = record {
  one_way = λ x y h. int_lt_one_way (time_of offset saving x) (time_of offset saving y) h;
  chain = λ x y z h k. int_lt_chain (time_of offset saving x) (time_of offset saving y) (time_of offset saving z) h k;
}

-- within a mark the order of moments is that of local seconds
lt_less : (a b o : ℤ) → int_lt a b ≡ int_lt (a -ℤ o) (b -ℤ o)
lt_less a b o = grind (arith, ints)

mark_is : (n m : TimeType) → same_mark n m ≡ true → m ≡ n
mark_is Wall Wall h = refl
mark_is Standard Standard h = refl
mark_is UTC UTC h = refl
mark_is _ _ h = cc

same_shift : (mark : TimeType) (a b offset saving : ℤ) → int_lt a b ≡ int_lt (instant_of mark a offset saving) (instant_of mark b offset saving)
unfolding instant_of
same_shift Wall a b offset saving = lt_less a b (offset +ℤ saving)
same_shift Standard a b offset saving = lt_less a b offset
same_shift UTC a b offset saving = refl

alike : (mark : TimeType) (offset saving : ℤ) (x y : Placed) → has_mark mark x ≡ true → has_mark mark y ≡ true
    → is_below x y ≡ is_less offset saving x y
alike mark offset saving x y h k =
    same_shift mark x.local y.local offset saving
    ∙ (λ i. int_lt (instant_of (sym (mark_is mark x.rule.time_type h) i) x.local offset saving)
    (instant_of (sym (mark_is mark y.rule.time_type k) i) y.local offset saving))

by_local : (mark : TimeType) (local offset saving : ℤ)
    → instant_of mark (instant_of mark local (pos 0) (pos 0)) offset saving ≡ instant_of mark local offset saving
unfolding instant_of
by_local UTC local offset saving = refl
by_local Standard local offset saving = omega (arith, ints)
by_local Wall local offset saving = omega (arith, ints)

time_is : (year offset saving : ℤ) (p : Placed) → IsAt year p → time_of offset saving p ≡ moment p.rule year offset saving
unfolding moment
time_is year offset saving p h =
    ap (λ l. instant_of p.rule.time_type l offset saving) h ∙ by_local p.rule.time_type _ offset saving

-- the pick by rules alone
pick_rules : (year offset saving : ℤ) (r : Placed) (rs : List Placed) → IsAt year r → AllByRecursion (IsAt year) rs
    → earliest year offset saving r.rule (map (λ p. p.rule) rs)
    ≡ ((pick (is_less offset saving) r rs).0.rule, map (λ p. p.rule) (pick (is_less offset saving) r rs).1)
unfolding earliest
pick_rules year offset saving r [] at all = refl
pick_rules year offset saving r (q ∷ qs) at all =
    let later = pick (is_less offset saving) q qs in
    let there = (pick_others (is_less offset saving) (IsAt year) q qs all.0 all.1).0 in
    ap (λ (l : RuleInfo × List RuleInfo). cond (is_earlier year offset saving l.0 r.rule) (l.0, r.rule ∷ l.1) (r.rule, q.rule ∷ map (λ p. p.rule) qs))
    (pick_rules year offset saving q qs all.0 all.1)
    ∙ (λ i. cond {A = RuleInfo × List RuleInfo} (int_lt (sym (time_is year offset saving later.0 there) i) (sym (time_is year offset saving r at) i))
    (later.0.rule, r.rule ∷ map (λ p. p.rule) later.1) (r.rule, q.rule ∷ map (λ p. p.rule) qs))
    ∙ elim (is_less offset saving later.0 r) as (λ b.
    cond {A = RuleInfo × List RuleInfo} b (later.0.rule, r.rule ∷ map (λ p. p.rule) later.1) (r.rule, q.rule ∷ map (λ p. p.rule) qs)
    ≡ (
      (cond {A = Placed × List Placed} b (later.0, r ∷ later.1) (r, q ∷ qs)).0.rule,
      map (λ p. p.rule) (cond {A = Placed × List Placed} b (later.0, r ∷ later.1) (r, q ∷ qs)).1,
    )) [
      | true ↦ refl
      | false ↦ refl
    ]

rises_others : (offset saving : ℤ) (r : Placed) (rs : List Placed) → Rises (r ∷ rs) → Rises (pick (is_less offset saving) r rs).1
rises_others offset saving r [] up = tt
rises_others offset saving r (q ∷ qs) up =
    let later = pick (is_less offset saving) q qs in
    elim (is_less offset saving later.0 r) as (λ b. Rises (cond {A = Placed × List Placed} b (later.0, r ∷ later.1) (r, q ∷ qs)).1) [
      | true ↦ ((pick_others (is_less offset saving) (λ p. r.place < p.place) q qs up.0.0 up.0.1).1, rises_others offset saving q qs up.1)
      | false ↦ up.1
    ]

less_sooner : (offset saving : ℤ) (x r : Placed) → is_less offset saving x r ≡ true → fires_sooner offset saving x r ≡ true
less_sooner offset saving x r h =
    ap (λ t. t || (not (is_less offset saving r x) && nat_lt x.place r.place)) h

tie_sooner : (s t : ℤ) (i j : ℕ) → int_lt t s ≡ false → i < j → (int_lt s t || (not (int_lt t s) && nat_lt i j)) ≡ true
tie_sooner s t i j h k = grind (arith, nat_tests)

ties_sooner : (offset saving : ℤ) (r : Placed) (xs : List Placed) → AllByRecursion (λ z. is_less offset saving z r ≡ false) xs
    → AllByRecursion (λ z. r.place < z.place) xs → AllByRecursion (λ z. fires_sooner offset saving r z ≡ true) xs
ties_sooner offset saving r [] h k = tt
ties_sooner offset saving r (x ∷ xs) h k =
    (tie_sooner (time_of offset saving r) (time_of offset saving x) r.place x.place h.0 k.0, ties_sooner offset saving r xs h.1 k.1)

-- the earliest is sooner than each of the others
pick_soonest : (offset saving : ℤ) (r : Placed) (rs : List Placed) → Rises (r ∷ rs)
    → AllByRecursion (λ z. fires_sooner offset saving (pick (is_less offset saving) r rs).0 z ≡ true) (pick (is_less offset saving) r rs).1
pick_soonest offset saving r [] up = tt
pick_soonest offset saving r (q ∷ qs) up =
    let less = is_less offset saving in
    let later = pick less q qs in
    let least = pick_least less (less_ranks offset saving) q qs in
    elim (less later.0 r) as (λ b. less later.0 r ≡ b
    → AllByRecursion (λ z. fires_sooner offset saving (cond {A = Placed × List Placed} b (later.0, r ∷ later.1) (r, q ∷ qs)).0 z ≡ true)
    (cond {A = Placed × List Placed} b (later.0, r ∷ later.1) (r, q ∷ qs)).1) [
      | true ↦ λ h. (less_sooner offset saving later.0 r h, pick_soonest offset saving q qs up.1)
      | false ↦ λ h. ties_sooner offset saving r (q ∷ qs)
          (every_weaker (λ z. less z later.0 ≡ false) (λ z. less z r ≡ false)
          (λ z k. (less_ranks offset saving).chain z later.0 r k h) (q ∷ qs) least) up.0
    ] refl

-- the earliest is the first of its front, and the other fronts are as they were
front_pick : (mark : TimeType) (offset saving : ℤ) (r : Placed) (rs : List Placed)
    → front mark (r ∷ rs) ≡ cond (has_mark mark (pick (is_less offset saving) r rs).0)
    ((pick (is_less offset saving) r rs).0 ∷ front mark (pick (is_less offset saving) r rs).1)
    (front mark (pick (is_less offset saving) r rs).1)
front_pick mark offset saving r rs =
    pick_sorted (is_less offset saving) (less_ranks offset saving) is_below (has_mark mark) (alike mark offset saving) r rs

left_by : (b : Bool) (x : Placed) (xs ys : List Placed) → ys ≡ cond b (x ∷ xs) xs → cond b (tail_of ys) ys ≡ xs
left_by true x xs ys h = ap tail_of h
left_by false x xs ys h = h

-- and where it fires the fronts are those of the others
front_left : (offset saving : ℤ) (r : Placed) (rs : List Placed)
    → left (pick (is_less offset saving) r rs).0.rule.time_type (fronts_of (r ∷ rs)) ≡ fronts_of (pick (is_less offset saving) r rs).1
front_left offset saving r rs =
    let mark = (pick (is_less offset saving) r rs).0.rule.time_type in
    let by = λ (m : TimeType). left_by (same_mark m mark) _ _ (front m (r ∷ rs)) (front_pick m offset saving r rs) in
    λ i. record { wall = by Wall i; standard = by Standard i; utc = by UTC i }

-- of two heads the one that is sooner
one_way : (s t : ℤ) (i j : ℕ) → (int_lt s t || (not (int_lt t s) && nat_lt i j)) ≡ true
    → (int_lt t s || (not (int_lt s t) && nat_lt j i)) ≡ false
one_way s t i j h = grind (arith, ints, nat_tests)

keeps : (offset saving : ℤ) (x : Placed) (a : Option Placed) → IfSome a (λ z. fires_sooner offset saving x z ≡ true)
    → sooner offset saving (Some x) a ≡ Some x
keeps offset saving x None h = refl
keeps offset saving x (Some z) h =
    ap (λ b. cond b (Some z) (Some x))
    (one_way (time_of offset saving x) (time_of offset saving z) x.place z.place h)

takes : (offset saving : ℤ) (x : Placed) (a : Option Placed) → IfSome a (λ z. fires_sooner offset saving x z ≡ true)
    → sooner offset saving a (Some x) ≡ Some x
takes offset saving x None h = refl
takes offset saving x (Some z) h = ap (λ b. cond b (Some x) (Some z)) h

either_way : (offset saving : ℤ) (P : Placed → Type 0) (a b : Option Placed) → IfSome a P → IfSome b P
    → IfSome (sooner offset saving a b) P
either_way offset saving P a None h k = h
either_way offset saving P None (Some y) h k = k
either_way offset saving P (Some x) (Some y) h k =
    elim (fires_sooner offset saving y x) as (λ b. IfSome (cond b (Some y) (Some x)) P) [ true ↦ k | false ↦ h ]

head_all : (P : Placed → Type 0) (xs : List Placed) → AllByRecursion P xs → IfSome (head_of xs) P
head_all P [] h = tt
head_all P (x ∷ xs) h = h.0

front_all : (P : Placed → Type 0) (mark : TimeType) (xs : List Placed) → AllByRecursion P xs → IfSome (head_of (front mark xs)) P
front_all P mark xs h = head_all P _ (all_sorted P is_below (filter (has_mark mark) xs) (all_filter P (has_mark mark) xs h))

three : (mark : TimeType) (offset saving : ℤ) (x : Placed) (rest : List Placed)
    → AllByRecursion (λ z. fires_sooner offset saving x z ≡ true) rest
    → first_of offset saving (record {
      wall = cond (same_mark Wall mark) (x ∷ front Wall rest) (front Wall rest);
      standard = cond (same_mark Standard mark) (x ∷ front Standard rest) (front Standard rest);
      utc = cond (same_mark UTC mark) (x ∷ front UTC rest) (front UTC rest);
    }) ≡ Some x
three Wall offset saving x rest h =
    let P : Placed → Type 0 = λ z. fires_sooner offset saving x z ≡ true in
    keeps offset saving x _ (either_way offset saving P _ _ (front_all P Standard rest h) (front_all P UTC rest h))
three Standard offset saving x rest h =
    let P : Placed → Type 0 = λ z. fires_sooner offset saving x z ≡ true in
    ap (sooner offset saving (head_of (front Wall rest))) (keeps offset saving x _ (front_all P UTC rest h))
    ∙ takes offset saving x _ (front_all P Wall rest h)
three UTC offset saving x rest h =
    let P : Placed → Type 0 = λ z. fires_sooner offset saving x z ≡ true in
    ap (sooner offset saving (head_of (front Wall rest))) (takes offset saving x _ (front_all P Standard rest h))
    ∙ takes offset saving x _ (front_all P Wall rest h)

-- the earliest of all is the first of the three fronts
first_is : (offset saving : ℤ) (r : Placed) (rs : List Placed) → Rises (r ∷ rs)
    → first_of offset saving (fronts_of (r ∷ rs)) ≡ Some (pick (is_less offset saving) r rs).0
first_is offset saving r rs up =
    let next = pick (is_less offset saving) r rs in
    let by = λ (m : TimeType). front_pick m offset saving r rs in
    (λ i. first_of offset saving (record { wall = by Wall i; standard = by Standard i; utc = by UTC i }))
    ∙ three next.0.rule.time_type offset saving next.0 next.1 (pick_soonest offset saving r rs up)

-- what the rules of these places fire
abbrev owed : ℤ → ℤ → Option ChangeTime → ℤ → List Placed → Fired
owed year offset end saving ps = let rs = map (λ p. p.rule) ps in fired (length rs) year offset end saving rs

none_owed : (year offset : ℤ) (end : Option ChangeTime) (saving : ℤ) → owed year offset end saving [] ≡ ([], saving)
unfolding fired
none_owed year offset end saving = refl

-- the earliest fires, unless it is over by then, and then the others
some_owed : (year offset : ℤ) (end : Option ChangeTime) (saving : ℤ) (r : Placed) (rs : List Placed) → IsAt year r → AllByRecursion (IsAt year) rs
    → let next = pick (is_less offset saving) r rs in
    let time = time_of offset saving next.0 in
    let later = owed year offset end next.0.rule.time_to_add next.1 in
    owed year offset end saving (r ∷ rs)
    ≡ cond (is_over end offset saving time) ([], saving) (record { time = time; rule = next.0.rule } ∷ later.0, later.1)
unfolding fired
some_owed year offset end saving r rs at all =
    let next = pick (is_less offset saving) r rs in
    let still = pick_others (is_less offset saving) (IsAt year) r rs at all in
    let then = λ (time : ℤ) (rule : RuleInfo) (later : Fired).
    cond {A = Fired} (is_over end offset saving time) ([], saving) (record { time = time; rule = rule } ∷ later.0, later.1) in
    let many : length (map (λ p. p.rule) rs) ≡ length (map (λ p. p.rule) next.1) = map_length rs next.1 (sym (pick_length (is_less offset saving) r rs)) in
    ap (λ (l : RuleInfo × List RuleInfo). then (moment l.0 year offset saving) l.0 (fired (length (map (λ p. p.rule) rs)) year offset end l.0.time_to_add l.1))
    (pick_rules year offset saving r rs at all)
    ∙ (λ i. then (sym (time_is year offset saving next.0 still.0) i) next.0.rule
    (fired (many i) year offset end next.0.rule.time_to_add (map (λ p. p.rule) next.1)))
  where
    map_length : (ps qs : List Placed) → length ps ≡ length qs → length (map (λ p. p.rule) ps) ≡ length (map (λ p. p.rule) qs)
    map_length ps qs same = length-map ps (λ (p : Placed). p.rule) ∙ same ∙ sym (length-map qs (λ (p : Placed). p.rule))

-- what has fired of a year, and the fronts of what is left, these at most so many rules, make up the whole
pub record IsLeft (year offset : ℤ) (end : Option ChangeTime) (count : ℕ) (items : List Firing) (saving : ℤ) (fronts : YearRules) (whole : Fired)
    (rest : List Placed) : Type 0 where
  pub are : fronts ≡ fronts_of rest
  pub rises : Rises rest
  pub at : AllByRecursion (IsAt year) rest
  pub most : length rest ≤ count
  pub fires : items ++ (owed year offset end saving rest).0 ≡ whole.0
  pub last : (owed year offset end saving rest).1 ≡ whole.1

abbrev pub Owes : ℤ → ℤ → Option ChangeTime → ℕ → List Firing → ℤ → YearRules → Fired → Type 0
Owes year offset end count items saving fronts whole = (rest : List Placed) × IsLeft year offset end count items saving fronts whole rest

-- what fires where something does
fires_one : (b : Bool) (f g : Firing) → Some f ≡ cond b None (Some g) → (b ≡ false) × (g ≡ f)
fires_one true f g h = absurd cc
fires_one false f g h = (refl, cc)

over : (b : Bool) (g : Firing) (later : Fired) (saving : ℤ) → None ≡ cond b None (Some g) → cond {A = Fired} b ([], saving) later ≡ ([], saving)
over true g later saving h = refl
over false g later saving h = absurd cc

done : {items : List Firing} {saving : ℤ} {whole due : Fired} → due ≡ ([], saving) → items ++ due.0 ≡ whole.0 → due.1 ≡ whole.1
    → (items ≡ whole.0) × (saving ≡ whole.1)
done {items} is fires last = (sym (append-nil items) ∙ ap (λ (l : Fired). items ++ l.0) (sym is) ∙ fires, ap (λ (l : Fired). l.1) (sym is) ∙ last)

module _ (year offset : ℤ) (end : Option ChangeTime) (whole : Fired) where
  pub owes_begun : (rules : List RuleInfo) (count : ℕ) (items : List Firing) (saving : ℤ) (fronts : YearRules)
      → length rules ≤ count → fronts ≡ fronts_of (placed_from year 0 rules)
      → whole ≡ (items ++ (year_firings year offset end saving rules).0, (year_firings year offset end saving rules).1)
      → Owes year offset end count items saving fronts whole
  unfolding year_firings
  owes_begun rules count items saving fronts le are is =
      let due = ap (λ rs. fired (length rs) year offset end saving rs) (placed_rules year 0 rules) in (
        placed_from year 0 rules,
        record {
          are = are;
          rises = placed_rises year 0 rules;
          at = all_at year 0 rules;
          most = omega (arith, le, placed_most year 0 rules);
          fires = ap (λ (l : Fired). items ++ l.0) due ∙ ap (λ (l : Fired). l.0) (sym is);
          last = ap (λ (l : Fired). l.1) due ∙ ap (λ (l : Fired). l.1) (sym is);
        },
      )

  -- one more fires
  pub owes_next : (count count' : ℕ) (items items' : List Firing) (saving saving' : ℤ) (fronts fronts' : YearRules) (f : Firing)
      → Owes year offset end count items saving fronts whole → Some f ≡ next_firing end offset saving fronts → count ≤ count' + 1
      → items' ≡ items ++ f ∷ [] → saving' ≡ f.rule.time_to_add → fronts' ≡ left f.rule.time_type fronts
      → Owes year offset end count' items' saving' fronts' whole
  owes_next count count' items items' saving saving' fronts fronts' f ([], o) next le items_is saving_is fronts_is =
      absurd (some_none (next ∙ ap (next_firing end offset saving) o.are))
    where
      some_none : Some f ≡ None → ⊥
      some_none h = cc
  owes_next count count' items items' saving saving' fronts fronts' f (r ∷ rs, o) next le items_is saving_is fronts_is =
      let picked = pick (is_less offset saving) r rs in
      let x = picked.0 in
      let g : Firing = record { time = time_of offset saving x; rule = x.rule } in
      let is = fires_one (is_over end offset saving g.time) f g
      (next ∙ ap (next_firing end offset saving) o.are ∙ ap (firing_of end offset saving) (first_is offset saving r rs o.rises)) in
      let it : f ≡ g = sym is.1 in
      let later = owed year offset end x.rule.time_to_add picked.1 in
      let due : owed year offset end saving (r ∷ rs) ≡ (g ∷ later.0, later.1) =
      some_owed year offset end saving r rs o.at.0 o.at.1 ∙ ap (λ b. cond {A = Fired} b ([], saving) (g ∷ later.0, later.1)) is.0 in
      let then : owed year offset end saving' picked.1 ≡ later = ap (λ s. owed year offset end s picked.1) (saving_is ∙ ap (λ (h : Firing). h.rule.time_to_add) it) in (
        picked.1,
        record {
          are = fronts_is ∙ (λ i. left (it i).rule.time_type (o.are i)) ∙ front_left offset saving r rs;
          rises = rises_others offset saving r rs o.rises;
          at = (pick_others (is_less offset saving) (IsAt year) r rs o.at.0 o.at.1).1;
          most = omega (arith, o.most, le, pick_length (is_less offset saving) r rs);
          fires = (λ i. (items_is ∙ ap (λ h. items ++ h ∷ []) it) i ++ (then i).0) ∙ append_assoc items (g ∷ []) later.0
              ∙ ap (λ (l : Fired). items ++ l.0) (sym due) ∙ o.fires;
          last = ap (λ (l : Fired). l.1) then ∙ ap (λ (l : Fired). l.1) (sym due) ∙ o.last;
        },
      )

  -- nothing fires any more
  pub owes_none : (count : ℕ) (items : List Firing) (saving : ℤ) (fronts : YearRules)
      → Owes year offset end count items saving fronts whole → (count ≡ 0) ⊎ (None ≡ next_firing end offset saving fronts)
      → (items ≡ whole.0) × (saving ≡ whole.1)
  owes_none count items saving fronts ([], o) none = done (none_owed year offset end saving) o.fires o.last
  owes_none count items saving fronts (r ∷ rs, o) (inl no_more) = absurd (omega (arith, o.most, no_more))
  owes_none count items saving fronts (r ∷ rs, o) (inr none) =
      let x = (pick (is_less offset saving) r rs).0 in
      done (some_owed year offset end saving r rs o.at.0 o.at.1
      ∙ over (is_over end offset saving (time_of offset saving x)) (record { time = time_of offset saving x; rule = x.rule }) _ saving
      (none ∙ ap (next_firing end offset saving) o.are ∙ ap (firing_of end offset saving) (first_is offset saving r rs o.rises))) o.fires o.last
