use Rattle.std.{proofs.Common.{◌≡◌, ℤ, false, subst, to_z-of_z}, specs.Prelude.{IfOk, IsErrOf}}
use Rattle.tz_lookup.specs.declared.set.FixedTimespanSet.{FixedTimespanSet}
use Rattle.zone_list.specs.{Ranges.{all_have_dates}, Rows.{rows}, Windows.{window}, declared.listing.ListFault.TheVariants.{Range}}
use Rattle.sefunjaro.proofs.zone.OpenZone.lines_within.Goals as goal

moved : (P : FixedTimespanSet → ℤ → ℤ → Type 0) (a b : FixedTimespanSet) (f g t u : ℤ) → a ≡ b → f ≡ g → t ≡ u → P a f t → P b g u
moved P a b f g t u set from to h = subst (λ s. P s g u) set (subst (λ x. P a x u) from (subst (λ y. P a f y) to h))

pub returns-clause-lines : goal.returns-clause-lines
returns-clause-lines c =
    let result = c.lines_of.result in
    moved (λ set from to. IfOk result (λ listing. listing ≡ rows (window set from to))) _ _ _ _ _ _
    c.new.ensures.seen (to_z-of_z c.ranges.from) (to_z-of_z c.ranges.to) c.lines_of.ensures.lines

pub returns-clause-range : goal.returns-clause-range
returns-clause-range c =
    let result = c.lines_of.result in
    moved (λ set from to. IsErrOf result Range → all_have_dates (window set from to) ≡ false) _ _ _ _ _ _
    c.new.ensures.seen (to_z-of_z c.ranges.from) (to_z-of_z c.ranges.to) c.lines_of.ensures.range
