-- Where names lead, however many links are followed.
use Rattle.std.proofs.{Common.{◌≡◌, ℕ, zero, suc, ◌≤◌, ◌<◌, List, [], ◌∷◌, length, Bool, true, false, cond, Option, Some, None, refl, sym, ap, ◌∙◌, subst, arith, rules}, lemmas.Option.{same_Some}}
use Rattle.std.specs.{Prelude.{bytes_eq, option_and_then, ◌||◌}, Option.{option_or}, Cmp.Lexicographic.{bytes_decides}}
use Rattle.zone_table.specs.{LogicLaws.{no_case}, Values.{LineValue, space, link}}
use Rattle.zone_plain.{proofs.Clean.{new_name, names_by, has}, specs.Declares.{has_zone, target_of}, specs.Leads.{leads, leads_to, zone_behind}}

no_some : {A : Type 0} {x : List ℕ} → None ≡ Some x → A
no_some h = search rules

-- the others of a list
abbrev others : List ℕ → List (List ℕ) → List (List ℕ)
others x [] = []
others x (y ∷ ys) = cond (bytes_eq x y) (others x ys) (y ∷ others x ys)

-- what points on, but from one name
abbrev cut : List ℕ → (List ℕ → Option (List ℕ)) → List ℕ → Option (List ℕ)
cut gone target x = cond (bytes_eq gone x) None (target x)

has-others : (x : List ℕ) (ys : List (List ℕ)) (q : List ℕ) → bytes_eq x q ≡ false → has ys q ≡ true → has (others x ys) q ≡ true
has-others x [] q apart h = h
has-others x (y ∷ ys) q apart h =
    elim (bytes_eq x y) as (λ b. bytes_eq x y ≡ b → has (cond b (others x ys) (y ∷ others x ys)) q ≡ true) [
      | true ↦ λ same. has-others x ys q apart (sym (ap (λ b. b || has ys q) (ap (λ t. bytes_eq t q) (sym ((bytes_decides x y).0 same)) ∙ apart)) ∙ h)
      | false ↦ λ other. elim (bytes_eq y q) as (λ b. (b || has ys q) ≡ true → (b || has (others x ys) q) ≡ true) [
        | true ↦ λ _. refl
        | false ↦ λ more. has-others x ys q apart more
      ] h
    ] refl

length-others : (x : List ℕ) (ys : List (List ℕ)) → length (others x ys) ≤ length ys
length-others x [] = omega arith
length-others x (y ∷ ys) =
    let fewer = length-others x ys in
    elim (bytes_eq x y) as (λ b. length (cond b (others x ys) (y ∷ others x ys)) ≤ suc (length ys)) [
      | true ↦ omega (arith, fewer)
      | false ↦ omega (arith, fewer)
    ]

fewer-others : (x : List ℕ) (ys : List (List ℕ)) → has ys x ≡ true → length (others x ys) < length ys
fewer-others x [] h = no_case h
fewer-others x (y ∷ ys) h =
    let fewer = length-others x ys in
    elim (bytes_eq x y) as (λ b. bytes_eq x y ≡ b → length (cond b (others x ys) (y ∷ others x ys)) < suc (length ys)) [
      | true ↦ λ same. omega (arith, fewer)
      | false ↦ λ apart. on apart (fewer-others x ys)
    ] refl
  where
    turned : bytes_eq x y ≡ false → bytes_eq y x ≡ true → ⊥
    turned apart same = no_case (sym apart ∙ (bytes_decides x y).1 (sym ((bytes_decides y x).0 same)))

    on : bytes_eq x y ≡ false → (has ys x ≡ true → length (others x ys) < length ys) → length (y ∷ others x ys) < suc (length ys)
    on apart less =
        let rest = less (elim (bytes_eq y x) as (λ b. bytes_eq y x ≡ b → (b || has ys x) ≡ true → has ys x ≡ true) [
          | true ↦ λ same _. absurd (turned apart same)
          | false ↦ λ _ more. more
        ] refl h) in
        omega (arith, rest)

module _ (is_zone : List ℕ → Bool) where
  -- at a zone nothing is followed
  pub at_zone : (target : List ℕ → Option (List ℕ)) (n : ℕ) (name : List ℕ) → is_zone name ≡ true → leads is_zone target n name ≡ Some name
  at_zone target zero name is = ap (λ b. cond b (Some name) None) is
  at_zone target (suc n) name is = ap (λ b. cond b (Some name) (option_and_then (leads is_zone target n) (target name))) is

  past : (target : List ℕ → Option (List ℕ)) (n : ℕ) (name : List ℕ) → is_zone name ≡ false
      → leads is_zone target (suc n) name ≡ option_and_then (leads is_zone target n) (target name)
  past target n name is = ap (λ b. cond b (Some name) (option_and_then (leads is_zone target n) (target name))) is

  -- past what is no zone
  pub stuck : (target : List ℕ → Option (List ℕ)) (name : List ℕ) → is_zone name ≡ false → leads is_zone target 0 name ≡ None
  stuck target name is = ap (λ b. cond b (Some name) None) is

  pub followed : (target : List ℕ → Option (List ℕ)) (n : ℕ) (name t : List ℕ) → is_zone name ≡ false → target name ≡ Some t
      → leads is_zone target (suc n) name ≡ leads is_zone target n t
  followed target n name t is to = past target n name is ∙ ap (option_and_then (leads is_zone target n)) to

  pub dead_end : (target : List ℕ → Option (List ℕ)) (n : ℕ) (name : List ℕ) → is_zone name ≡ false → target name ≡ None
      → leads is_zone target n name ≡ None
  dead_end target zero name is to = stuck target name is
  dead_end target (suc n) name is to = past target n name is ∙ ap (option_and_then (leads is_zone target n)) to

  -- a name that leads to a zone is one, or points on
  record Goes (target : List ℕ → Option (List ℕ)) (n : ℕ) (name z : List ℕ) : Type 0 where
    pub no_zone : is_zone name ≡ false
    pub next : List ℕ
    pub points : target name ≡ Some next
    pub steps : ℕ
    pub one_less : n ≡ suc steps
    pub on : leads is_zone target steps next ≡ Some z

  way : (target : List ℕ → Option (List ℕ)) (n : ℕ) (name z : List ℕ) → is_zone name ≡ false → leads is_zone target n name ≡ Some z → Goes target n name z
  way target zero name z is h = no_some (sym (stuck target name is) ∙ h)
  way target (suc n) name z is h = by (target name) refl
    where
      by : (o : Option (List ℕ)) → target name ≡ o → Goes target (suc n) name z
      by None to = no_some (sym (dead_end target (suc n) name is to) ∙ h)
      by (Some t) to = record {
        no_zone = is;
        next = t;
        points = to;
        steps = n;
        one_less = refl;
        on = sym (followed target n name t is to) ∙ h;
      }

  -- with more links the answer stays
  pub rises : (target : List ℕ → Option (List ℕ)) (n m : ℕ) (name z : List ℕ) → n ≤ m → leads is_zone target n name ≡ Some z
      → leads is_zone target m name ≡ Some z
  rises target zero m name z few h =
      elim (is_zone name) as (λ b. is_zone name ≡ b → leads is_zone target m name ≡ Some z) [
        | true ↦ λ is. at_zone target m name is ∙ sym (at_zone target 0 name is) ∙ h
        | false ↦ λ is. no_some (sym (stuck target name is) ∙ h)
      ] refl
  rises target (suc n) zero name z few h = absurd (omega (arith, few))
  rises target (suc n) (suc m) name z few h = by (is_zone name) (target name) refl refl (λ t. rises target n m t z (omega (arith, few)))
    where
      by : (b : Bool) (o : Option (List ℕ)) → is_zone name ≡ b → target name ≡ o
          → ((t : List ℕ) → leads is_zone target n t ≡ Some z → leads is_zone target m t ≡ Some z) → leads is_zone target (suc m) name ≡ Some z
      by true o is to more = at_zone target (suc m) name is ∙ sym (at_zone target (suc n) name is) ∙ h
      by false None is to more = no_some (sym (dead_end target (suc n) name is to) ∙ h)
      by false (Some t) is to more = followed target m name t is to ∙ more t (sym (followed target n name t is to) ∙ h)

  uncut : (target : List ℕ → Option (List ℕ)) (gone : List ℕ) (n : ℕ) (name z : List ℕ) → leads is_zone (cut gone target) n name ≡ Some z
      → leads is_zone target n name ≡ Some z
  uncut target gone zero name z h = h
  uncut target gone (suc n) name z h =
      elim (is_zone name) as (λ b. is_zone name ≡ b → leads is_zone target (suc n) name ≡ Some z) [
        | true ↦ λ is. at_zone target (suc n) name is ∙ sym (at_zone (cut gone target) (suc n) name is) ∙ h
        | false ↦ λ is. by is (way (cut gone target) (suc n) name z is h) (λ t. uncut target gone n t z)
      ] refl
    where
      kept : (b : Bool) (t : List ℕ) → cond b None (target name) ≡ Some t → target name ≡ Some t
      kept true t e = no_some e
      kept false t e = e

      by : is_zone name ≡ false → Goes (cut gone target) (suc n) name z
          → ((t : List ℕ) → leads is_zone (cut gone target) n t ≡ Some z → leads is_zone target n t ≡ Some z)
          → leads is_zone target (suc n) name ≡ Some z
      by is goes more =
          let n_is : n ≡ goes.steps = omega (arith, goes.one_less) in
          followed target n name goes.next is (kept (bytes_eq gone name) goes.next goes.points)
          ∙ more goes.next (subst (λ m. leads is_zone (cut gone target) m goes.next ≡ Some z) (sym n_is) goes.on)

  -- it passes by no link of that name, or leads on from there
  data Passes (target : List ℕ → Option (List ℕ)) (gone : List ℕ) (n : ℕ) (name z : List ℕ) : Type 0 where
    beside : leads is_zone (cut gone target) n name ≡ Some z → Passes target gone n name z
    over : (j : ℕ) → j ≤ n → leads is_zone target j gone ≡ Some z → Passes target gone n name z

  passes : (target : List ℕ → Option (List ℕ)) (gone : List ℕ) (n : ℕ) (name z : List ℕ) → leads is_zone target n name ≡ Some z
      → Passes target gone n name z
  passes target gone zero name z h = beside h
  passes target gone (suc n) name z h =
      by (is_zone name) (bytes_eq gone name) (target name) refl refl refl (λ t. passes target gone n t z)
    where
      on : (t : List ℕ) → is_zone name ≡ false → bytes_eq gone name ≡ false → target name ≡ Some t → Passes target gone n t z
          → Passes target gone (suc n) name z
      on t is apart to (beside p) =
          beside (followed (cut gone target) n name t is (ap (λ b. cond b None (target name)) apart ∙ to) ∙ p)
      on t is apart to (over j few p) = over j (omega (arith, few)) p

      by : (b same : Bool) (o : Option (List ℕ)) → is_zone name ≡ b → bytes_eq gone name ≡ same → target name ≡ o
          → ((t : List ℕ) → leads is_zone target n t ≡ Some z → Passes target gone n t z) → Passes target gone (suc n) name z
      by true same o is e to more = beside (at_zone (cut gone target) (suc n) name is ∙ sym (at_zone target (suc n) name is) ∙ h)
      by false true o is e to more =
          over (suc n) (omega arith) (ap (leads is_zone target (suc n)) ((bytes_decides gone name).0 e) ∙ h)
      by false false None is e to more = no_some (sym (dead_end target (suc n) name is to) ∙ h)
      by false false (Some t) is e to more = on t is e to (more t (sym (followed target n name t is to) ∙ h))

  -- so it leads there by a way that doesn't come back
  record Once (target : List ℕ → Option (List ℕ)) (name z : List ℕ) : Type 0 where
    pub next : List ℕ
    pub points : target name ≡ Some next
    pub steps : ℕ
    pub on : leads is_zone (cut name target) steps next ≡ Some z

  once : (target : List ℕ → Option (List ℕ)) (bound n : ℕ) (name z : List ℕ) → n ≤ bound → is_zone name ≡ false
      → leads is_zone target n name ≡ Some z → Once target name z
  once target zero n name z few is h =
      let none : n ≡ 0 = omega (arith, few) in
      no_some (sym (stuck target name is) ∙ subst (λ m. leads is_zone target m name ≡ Some z) none h)
  once target (suc bound) n name z few is h =
      by (way target n name z is h) (λ j less. once target bound j name z less is)
    where
      at : (goes : Goes target n name z) → ((j : ℕ) → j ≤ bound → leads is_zone target j name ≡ Some z → Once target name z)
          → Passes target name goes.steps goes.next z → Once target name z
      at goes again (beside p) = record { next = goes.next; points = goes.points; steps = goes.steps; on = p }
      at goes again (over j less p) = again j (omega (arith, less, few, goes.one_less)) p

      by : Goes target n name z → ((j : ℕ) → j ≤ bound → leads is_zone target j name ≡ Some z → Once target name z) → Once target name z
      by goes again = at goes again (passes target name goes.steps goes.next z goes.on)

  -- the names from which something points on are all in the list
  abbrev Covers : List (List ℕ) → (List ℕ → Option (List ℕ)) → Type 0
  Covers names target = (x t : List ℕ) → target x ≡ Some t → has names x ≡ true

  covers_others : (names : List (List ℕ)) (target : List ℕ → Option (List ℕ)) (gone : List ℕ) → Covers names target
      → Covers (others gone names) (cut gone target)
  covers_others names target gone covers x t e = by (bytes_eq gone x) refl e
    where
      by : (b : Bool) → bytes_eq gone x ≡ b → cond b None (target x) ≡ Some t → has (others gone names) x ≡ true
      by true same e = no_some e
      by false apart e = has-others gone names x apart (covers x t e)

  -- as many links as there are names are enough
  enough_by : (bound : ℕ) (names : List (List ℕ)) (target : List ℕ → Option (List ℕ)) → length names ≤ bound → Covers names target
      → (n : ℕ) (name z : List ℕ) → leads is_zone target n name ≡ Some z → leads is_zone target (length names) name ≡ Some z
  enough_by zero names target few covers n name z h =
      elim (is_zone name) as (λ b. is_zone name ≡ b → leads is_zone target (length names) name ≡ Some z) [
        | true ↦ λ is. at_zone target (length names) name is ∙ sym (at_zone target n name is) ∙ h
        | false ↦ λ is. by names few covers (once target n n name z (omega arith) is h)
      ] refl
    where
      by : (names : List (List ℕ)) → length names ≤ 0 → Covers names target → Once target name z → leads is_zone target (length names) name ≡ Some z
      by [] few covers way = no_case (covers name way.next way.points)
      by (x ∷ names) few covers way = absurd (omega (arith, few))
  enough_by (suc bound) names target few covers n name z h =
      elim (is_zone name) as (λ b. is_zone name ≡ b → leads is_zone target (length names) name ≡ Some z) [
        | true ↦ λ is. at_zone target (length names) name is ∙ sym (at_zone target n name is) ∙ h
        | false ↦ λ is. by is (once target n n name z (omega arith) is h) (fewer-others name names)
            (λ less t m. enough_by bound (others name names) (cut name target) less (covers_others names target name covers) m t z)
      ] refl
    where
      last : (m : ℕ) → m < length names → is_zone name ≡ false → (t : List ℕ) → target name ≡ Some t
          → leads is_zone target m t ≡ Some z → leads is_zone target (length names) name ≡ Some z
      last m less is t points p =
          rises target (suc m) (length names) name z (omega (arith, less)) (followed target m name t is points ∙ p)

      by : is_zone name ≡ false → Once target name z → (has names name ≡ true → length (others name names) < length names)
          → (length (others name names) ≤ bound → (t : List ℕ) (m : ℕ) → leads is_zone (cut name target) m t ≡ Some z
          → leads is_zone (cut name target) (length (others name names)) t ≡ Some z)
          → leads is_zone target (length names) name ≡ Some z
      by is way fewer again =
          let less = fewer (covers name way.next way.points) in
          last (length (others name names)) less is way.next way.points
          (uncut target name (length (others name names)) way.next z (again (omega (arith, less, few)) way.next way.steps way.on))

  enough : (names : List (List ℕ)) (target : List ℕ → Option (List ℕ)) → Covers names target
      → (n : ℕ) (name z : List ℕ) → leads is_zone target n name ≡ Some z → leads is_zone target (length names) name ≡ Some z
  enough names target covers = enough_by (length names) names target (omega arith) covers

  same_zone : (a b : List ℕ) → is_zone a ≡ true → Some a ≡ Some b → is_zone b ≡ true
  same_zone a b is e = ap is_zone (sym (same_Some a b e)) ∙ is

  -- where a name leads is a zone
  at_last : (target : List ℕ → Option (List ℕ)) (n : ℕ) (name z : List ℕ) → leads is_zone target n name ≡ Some z → is_zone z ≡ true
  at_last target zero name z h =
      elim (is_zone name) as (λ b. is_zone name ≡ b → is_zone z ≡ true) [
        | true ↦ λ is. same_zone name z is (sym (at_zone target 0 name is) ∙ h)
        | false ↦ λ is. no_some (sym (stuck target name is) ∙ h)
      ] refl
  at_last target (suc n) name z h =
      elim (is_zone name) as (λ b. is_zone name ≡ b → is_zone z ≡ true) [
        | true ↦ λ is. same_zone name z is (sym (at_zone target (suc n) name is) ∙ h)
        | false ↦ λ is. by (way target (suc n) name z is h) (λ t. at_last target n t z)
      ] refl
    where
      by : Goes target (suc n) name z → ((t : List ℕ) → leads is_zone target n t ≡ Some z → is_zone z ≡ true) → is_zone z ≡ true
      by goes more =
          let n_is : n ≡ goes.steps = omega (arith, goes.one_less) in
          more goes.next (subst (λ m. leads is_zone target m goes.next ≡ Some z) (sym n_is) goes.on)

-- the new names of links
abbrev new_names : List LineValue → List (List ℕ)
new_names = names_by new_name

few_names : (values : List LineValue) → length (new_names values) ≤ length values
few_names [] = omega arith
few_names (space ∷ vs) = let few = few_names vs in omega (arith, few)
few_names (_ ∷ vs) = let few = few_names vs in omega (arith, few)

named : (values : List LineValue) (x t : List ℕ) → target_of values x ≡ Some t → has (new_names values) x ≡ true
named [] x t e = no_some e
named (link existing new ∷ vs) x t e = by (bytes_eq new x) e (named vs x t)
  where
    by : (b : Bool) → option_or (cond b (Some existing) None) (target_of vs x) ≡ Some t
        → (target_of vs x ≡ Some t → has (new_names vs) x ≡ true) → (b || has (new_names vs) x) ≡ true
    by true e more = refl
    by false e more = more e
named (_ ∷ vs) x t e = named vs x t e

-- where a name leads by any number of links, that zone is behind it
pub is_behind : (values : List LineValue) (n : ℕ) (name z : List ℕ) → leads_to values n name ≡ Some z → zone_behind values name ≡ Some z
unfolding zone_behind
is_behind values n name z h =
    rises (has_zone values) (target_of values) (length (new_names values)) (length values) name z (few_names values)
    (enough (has_zone values) (new_names values) (target_of values) (named values) n name z h)

-- what is behind a name is a zone of the source
pub is_zone_behind : (values : List LineValue) (name z : List ℕ) → zone_behind values name ≡ Some z → has_zone values z ≡ true
unfolding zone_behind
is_zone_behind values name z h = at_last (has_zone values) (target_of values) (length values) name z h

-- a zone is behind its own name
pub behind_itself : (values : List LineValue) (name : List ℕ) → has_zone values name ≡ true → zone_behind values name ≡ Some name
unfolding zone_behind
behind_itself values name is = at_zone (has_zone values) (target_of values) (length values) name is

-- behind a link is what is behind its target
pub behind_link : (values : List LineValue) (name t : List ℕ) → has_zone values name ≡ false → target_of values name ≡ Some t
    → zone_behind values name ≡ zone_behind values t
unfolding zone_behind
behind_link values name t is to = by (zone_behind values name) (zone_behind values t) refl refl
  where
    on : (z : List ℕ) → zone_behind values t ≡ Some z → zone_behind values name ≡ Some z
    on z h = is_behind values (suc (length values)) name z (followed (has_zone values) (target_of values) (length values) name t is to ∙ h)

    back : (z : List ℕ) → zone_behind values name ≡ Some z → zone_behind values t ≡ Some z
    back z h =
        is_behind values (length values) t z
        (sym (followed (has_zone values) (target_of values) (length values) name t is to)
        ∙ rises (has_zone values) (target_of values) (length values) (suc (length values)) name z (omega arith) h)

    by : (a b : Option (List ℕ)) → zone_behind values name ≡ a → zone_behind values t ≡ b → zone_behind values name ≡ zone_behind values t
    by None None e f = e ∙ sym f
    by None (Some z) e f = on z f ∙ sym f
    by (Some z) b e f = e ∙ sym (back z e)
