use Rattle.std.proofs.{Common.{◌∙◌, ◌++◌, ◌∷◌, ◌<◌, [], sym, ap, map, take, length, arith}, lemmas.List.{map-append, take_more}}
use Rattle.zone_plain.proofs.whole.slices.Goals as goal

pub loop-place-preserved : goal.loop-place-preserved
loop-place-preserved c =
    let inside : c.loop-place.place < length c.args.lines.now = omega (arith, c.loop-place-test.true, c.len-place-end.ensures) in
    ap (map (λ line. line.now)) c.in_ok-push.ensures.items
    ∙ map-append (λ line. line.now) c.loop-place.slices.items (c.line_at.result ∷ [])
    ∙ ap (λ lines. lines ++ c.line_at.result.now ∷ []) c.loop-place.invariant
    ∙ ap (λ line. take c.loop-place.place c.args.lines.now ++ line ∷ []) c.line_at.ensures
    ∙ sym (take_more c.args.lines.now c.loop-place.place [] inside)
