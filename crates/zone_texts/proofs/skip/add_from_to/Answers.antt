use Rattle.std.{proofs.Common.{◌≡◌, ℕ, List, ◌++◌, Result, Ok, Err, ℤ, to_z, of_z, to_z-of_z, FitsSigned, w64, append_assoc, ap, ◌∙◌}, specs.Prelude.{codes, if◌then◌else◌}, specs.Result.{is_ok, OnOk}}
use Rattle.zone_words.specs.Written.{offset_shown}
use Rattle.zone_texts.specs.Skips.{after_of, before_of, from_to_text}
use Rattle.zone_texts.proofs.skip.add_from_to.Goals as goal

-- two texts, each before one that is told by another name, if the last was added
four : {T E : Type 0} → (r : Result T E) (old first second third new a b c d : List ℕ) {x y : List ℕ} → first ≡ old ++ a → x ≡ b → y ≡ d
    → second ≡ first ++ x → third ≡ second ++ c → new ≡ (if is_ok r then third ++ y else third) → OnOk r (new ≡ old ++ (((a ++ b) ++ c) ++ d))
four (Err e) old first second third new a b c d p f g q s t = tt
four (Ok x) old first second third new a b c d p f g q s t =
    t ∙ ap (λ l. third ++ l) g ∙ ap (λ l. l ++ d) (s ∙ ap (λ l. l ++ c) (q ∙ ap (λ l. first ++ l) f ∙ ap (λ l. l ++ b) p ∙ append_assoc old a b)
    ∙ append_assoc old (a ++ b) c) ∙ append_assoc old ((a ++ b) ++ c) d

-- what is shown of an offset, as the code passes the second
shown : (offset : ℤ → ℤ) (second told : ℤ) → FitsSigned w64 second → told ≡ offset (to_z w64 (of_z w64 second)) → offset_shown told ≡ offset_shown (offset second)
shown offset second told fits is = ap offset_shown (is ∙ ap offset (to_z-of_z fits))

pub returns : goal.returns
unfolding from_to_text
returns g c =
    let view = g.Z.ReplyZone.view c.args.zone.now in
    four c.add_offset-2.result c.args.into.now.items c.add_bytes.new.into.items c.add_offset.new.into.items c.add_bytes-2.new.into.items
    c.add_offset-2.new.into.items (codes ", from ") _ (codes " to ") _ c.in_ok-add_bytes.ensures.ok
    (shown (before_of view) c.args.second c.before_of.result c.ranges.second c.before_of.ensures)
    (shown (after_of view) c.args.second c.after_of.result c.ranges.second c.after_of.ensures)
    c.in_ok-add_offset.ensures.items c.in_ok-add_bytes-2.ensures.ok c.add_offset-2.ensures.items
