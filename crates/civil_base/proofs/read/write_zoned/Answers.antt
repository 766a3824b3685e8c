use Rattle.std.proofs.Common.{arith, ℕ, ◌++◌, ◌∷◌, length, ap, ◌∙◌, length-append}
use Rattle.civil_base.{specs.Layout.{local_text, zoned_text, offset_text}, specs.DateTimes.{instant, offset_of, local_of}, proofs.DateTimeLemmas.{local-instant}, specs.TextLaws.{zoned_text-same}}
use Rattle.civil_base.proofs.read.write_zoned.Goals as goal

pub returns-clause-text : goal.returns-clause-text
unfolding zoned_text
returns-clause-text c =
    let value = c.args.value.now in
    let local = c.put_local-end.ensures.text ∙ ap local_text c.local.ensures in
    let offset = c.spaced_offset.ensures.text ∙ ap (λ o. 32 ∷ offset_text o) c.offset.ensures in
    rw (local-instant value) (c.put.ensures.text ∙ ap (λ t. t ++ c.spaced_offset.result) local
    ∙ ap (λ t. local_text (local_of value) ++ t) offset)

pub returns-clause-length : goal.returns-clause-length
unfolding zoned_text
returns-clause-length c =
    let value = c.args.value.now in
    let local = c.put_local-end.ensures.end ∙ ap (λ x. length (local_text x)) c.local.ensures in
    let offset = c.spaced_offset.ensures.text ∙ ap (λ o. 32 ∷ offset_text o) c.offset.ensures in
    rw (local-instant value) (omega (arith, local, ap length offset, c.put.ensures.end, length-append {A = ℕ}))

pub returns-clause-years : goal.returns-clause-years
returns-clause-years c =
    rw (local-instant c.args.value.now, ← c.local.ensures) c.put_local-end.ensures.years

pub returns-clause-only : goal.returns-clause-only
returns-clause-only c = λ t o years offset text.
    let value = c.args.value.now in
    let its_offset = rw c.offset.ensures at c.spaced_offset.ensures.bound in
    zoned_text-same t o (instant value) (offset_of value) years offset (returns-clause-years c) its_offset text
