use Rattle.std.proofs.Common.{◌≡◌, ℤ, Err, ap, ◌∙◌, sym, to_z-of_z}
use Rattle.zone_list.specs.{Ranges.{all_have_dates}, Windows.{window}}
use Rattle.sefunjaro.specs.Zones.{spans_in}
use Rattle.sefunjaro.proofs.zone.OpenZone.lines.Goals as goal

same_of : {X : Type 0} (f : ℤ → ℤ → X) (a b c d : ℤ) → c ≡ a → d ≡ b → f a b ≡ f c d
same_of f a b c d p q = λ i. f (sym p i) (sym q i)

pub returns-in-Err-Range-clause-err : goal.returns-in-Err-Range-clause-err
returns-in-Err-Range-clause-err c =
    same_of (λ from to. all_have_dates (window (spans_in c.args.self.now) from to)) c.args.from c.args.to _ _ (to_z-of_z c.ranges.from) (to_z-of_z c.ranges.to)
    ∙ c.in-Err-Range.ensures.range (ap Err c.in-Err-Range.field-0-is)
