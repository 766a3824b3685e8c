use Rattle.std.{proofs.Common.{◌≡◌, ◌++◌, length, take, drop, ap, ◌∙◌, arith}, specs.Prelude.{min}, proofs.lemmas.List.{take_min, drop_min}}
use Rattle.sefunjaro.proofs.RoomLemmas.{filled_is}
use Rattle.sefunjaro.proofs.room.fill.Goals as goal

pub returns-clause-room : goal.returns-clause-room
returns-clause-room g c =
    let xs = c.args.items.now in let room = c.args.room.now in let n = c.min-count.result in
    let other : min (length room) (length xs) ≡ min (length xs) (length room) = omega arith in
    ap (λ l. l ++ drop n room) c.copy_from_slice.ensures.after
    ∙ ap (λ k. take k xs ++ drop k room) c.min-count.ensures
    ∙ ap (λ l. l ++ drop (min (length room) (length xs)) room) (take_min (length room) xs)
    ∙ ap (λ l. take (length room) xs ++ l) (ap (λ k. drop k room) other ∙ drop_min (length xs) room)
    ∙ filled_is xs room
