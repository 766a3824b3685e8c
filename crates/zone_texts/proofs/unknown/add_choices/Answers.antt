use Rattle.std.proofs.{Common.{◌≡◌, ℕ, ◌+◌, ◌-◌, ◌<◌, List, [], ◌++◌, length, map, drop, slice_index_or, Bor, append_assoc, length-drop, ap, sym, ◌∙◌, arith}, lemmas.List.{at_drop_more, length-map}}
use Rattle.zone_texts.specs.Unknown.{choices_text, separator}
use Rattle.zone_texts.proofs.unknown.add_choices.Goals as goal

-- one name more, before so many others
one_more : (names : List (Bor (List ℕ))) (n others : ℕ) (d : Bor (List ℕ)) (now named new old : List ℕ) → n < length names → others + (n + 1) ≡ length names
    → named ≡ now ++ (slice_index_or names n d).now → new ≡ named ++ separator others
    → now ++ choices_text (map (λ name. name.now) (drop n names)) ≡ old → new ++ choices_text (map (λ name. name.now) (drop (n + 1) names)) ≡ old
one_more names n others d now named new old l left first second was =
    let text : List (Bor (List ℕ)) → List ℕ = λ names. choices_text (map (λ name. name.now) names) in
    let name = (slice_index_or names n d).now in
    let count : length (map (λ name. name.now) (drop (n + 1) names)) ≡ others =
    length-map {A = Bor (List ℕ)} {B = List ℕ} (drop (n + 1) names) (λ name. name.now) ∙ omega (arith, length-drop (n + 1) names) in
    ap (λ t. t ++ text (drop (n + 1) names)) (second ∙ ap (λ t. t ++ separator others) first ∙ append_assoc now name (separator others))
    ∙ append_assoc now (name ++ separator others) (text (drop (n + 1) names))
    ∙ ap (λ t. now ++ (name ++ separator t ++ text (drop (n + 1) names))) (sym count)
    ∙ ap (λ t. now ++ t) (sym (at_drop_more text names n d l)) ∙ was

pub loop-name-preserved : goal.loop-name-preserved
loop-name-preserved c =
    let now = c.loop-name.into.items in
    record {
      left = omega arith;
      text = one_more c.args.names.now c.loop-name.name-index (c.loop-name.others - 1) (record { ref_ptr = (0, 0); now = [] }) now
          c.extend_from_slice.new.self.items _ _ c.loop-name-test.true (omega arith)
          (c.in_ok-extend_from_slice.ensures.items ∙ ap (λ t. now ++ t) c.as_bytes.ensures.value)
          (c.in_ok-extend_from_slice-2.ensures.items ∙ ap (λ t. c.extend_from_slice.new.self.items ++ t) c.separator.ensures) c.loop-name.invariant.text;
    }
