-- The only instant of a local time that lies well within a stretch.
use Rattle.std.{proofs.Common.{◌≡◌, [], ◌∷◌, map, ℤ, pos, ◌+ℤ◌, ◌-ℤ◌, ◌*ℤ◌, ◌≤ℤ◌, ◌<ℤ◌, refl, sym, ap, ◌∙◌, subst, arith}, specs.Prelude.{Contains}, proofs.lemmas.Int.{ints}}
use Rattle.civil_base.specs.{Instants.{instant_at, nanos_of, seconds_of}, Ranges.{IsOffset}, RangeLaws.{offset_least, offset_greatest}}
use Rattle.tz_lookup.specs.{InForce.{all_in_force, in_force, AreInstants}, InstantLaws.{from_reading, instants_one, reads_back}, RisingLaws.{contains_head, cases_more}, SecondLaws.{second_is}, Stretches.{IsKnown}}
use Rattle.sefunjaro.specs.{Asked.{reading_of}, Found.{by_fold, found_of, IsFound, IsFoundOf}, GapPlaces.{HoldsSeconds}, Steadiness.{IsSteady}, declared.found.FoldRule.{FoldRule}, declared.found.FoldRule.TheVariants.{First, Second}}
use Rattle.sefunjaro.specs.declared.{found.GapRule.{GapRule}, zone.Reading.{Reading}}
use Rattle.sefunjaro.proofs.FoundLemmas.{second_by}

module _ (total : ℤ → ℤ) (x from until o : ℤ) (holds : (t : ℤ) → total t ≡ total (nanos_of (seconds_of t))) (range : (t : ℤ) → IsOffset (total t))
    (known : (u : ℤ) → from ≤ℤ u → u <ℤ until → total (nanos_of u) ≡ o)
    (begun : from ≤ℤ (seconds_of x -ℤ o -ℤ pos 187200)) (lasts : (seconds_of x -ℤ o +ℤ pos 187200) <ℤ until) where
  -- seconds of an instant that is read as x by some offset
  near : (t p : ℤ) → IsOffset o → IsOffset p → t ≡ instant_at x p → total t ≡ o
  near t p mine other is =
      let here = second_is t in
      let shown = second_is x in
      holds t ∙ known (seconds_of t)
      (omega (arith, ints, begun, is, here.low, here.high, shown.low, shown.high, offset_least p other, offset_greatest p other, offset_least o mine, offset_greatest o mine))
      (omega (arith, ints, lasts, is, here.low, here.high, shown.low, shown.high, offset_least p other, offset_greatest p other, offset_least o mine, offset_greatest o mine))

  mine : IsOffset o
  mine = subst IsOffset (known (seconds_of x -ℤ o) (omega (arith, ints, begun)) (omega (arith, ints, lasts))) (range (nanos_of (seconds_of x -ℤ o)))

  at : total (instant_at x o) ≡ o
  at = near (instant_at x o) o mine mine refl

  reads : (t : ℤ) → Contains (instant_at x o ∷ []) t → (t +ℤ pos 1000000000 *ℤ total t) ≡ x
  reads t c = cases_more (instant_at x o) [] t c (λ e. subst (λ s. (s +ℤ pos 1000000000 *ℤ total s) ≡ x) e (reads_back x o (total (instant_at x o)) (instant_at x o) at refl))
      (λ d. absurd (omega (arith, d.1)))

  is_one : (t : ℤ) → (t +ℤ pos 1000000000 *ℤ total t) ≡ x → Contains (instant_at x o ∷ []) t
  is_one t r =
      let same = near t (total t) mine (range t) (from_reading x t (total t) r) in
      let there : t ≡ instant_at x o = from_reading x t (total t) r ∙ ap (instant_at x) same in
      subst (λ s. Contains (instant_at x o ∷ []) s) (sym there) (contains_head (instant_at x o) [])

  are : AreInstants total x (instant_at x o ∷ [])
  are = record { rising = λ i j d l m. absurd (omega (arith, l, m)); exact = λ t. (reads t, is_one t) }

  pub only : all_in_force total x ≡ (instant_at x o, o) ∷ []
  unfolding all_in_force
  only = ap (map (in_force total)) (instants_one total x (instant_at x o ∷ []) range are) ∙ ap (λ p. (instant_at x o, p) ∷ []) at

found_by : (fold : FoldRule) (r : Reading) → found_of r 1 ≡ found_of (by_fold fold r []) 1
found_by First r = refl
found_by Second r = refl

-- so it is what is found by any rules
pub found_only : (total : ℤ → ℤ) (x second from until o : ℤ) (fold : FoldRule) (gap : GapRule) → IsSteady total
    → IsKnown total (record { from = from; until = until; offset = o }) → second ≡ seconds_of (instant_at x o)
    → from ≤ℤ (second -ℤ pos 187200) → (second +ℤ pos 187200) <ℤ until → IsFound total fold gap x (record { second = second; offset = o; kind = 1 })
unfolding HoldsSeconds
found_only total x second from until o fold gap steady known is begun lasts =
    let back = is ∙ sym (second_by x o) in
    subst (λ shown. IsFoundOf total fold gap x (map reading_of shown) (record { second = second; offset = o; kind = 1 }))
    (sym (only total x from until o steady.seconds steady.range known (omega (arith, ints, begun, back)) (omega (arith, ints, lasts, back))))
    ((λ i. record { second = is i; offset = o; kind = 1 }) ∙ found_by fold (record { second = seconds_of (instant_at x o); offset = o }))
