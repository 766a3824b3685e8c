use Rattle.std.proofs.Common.{◌≡◌, ◌∙◌, ◌+◌, ◌∷◌, ◌++◌, [], length, ap, arith, length-append}
use Rattle.civil_base.specs.{Instants.{instant_at}, Layout.{local_text, offset_text, zoned_text}, LayoutLaws.{offset_text-length}}
use Rattle.sefunjaro.{specs.Rooms.{filled_at, filled_from}, proofs.RoomLemmas.{from_behind, from_more}, proofs.ShownLemmas.{text_by_local}}
use Rattle.sefunjaro.proofs.shown.put_line.Goals as goal

pub returns-clause-room : goal.returns-clause-room
returns-clause-room c =
    let local = local_text c.args.local.now in let east = 32 ∷ offset_text c.args.east.now.offset in
    let place = c.args.place in let room = c.args.room.now in let n = c.write_local-length.result in
    let long = c.write_local-length.ensures.length in
    let ten : length east ≡ 10 = omega (arith, offset_text-length c.args.east.now.offset) in
    let both : c.fill_from-2.new.room ≡ filled_from place (local ++ east) room =
    c.fill_from-2.ensures
    ∙ ap (λ xs. filled_from (place + n) xs c.fill_from.new.room) c.requires.east
    ∙ ap (filled_from (place + n) east) (c.fill_from.ensures ∙ ap (λ xs. filled_from place xs room) c.write_local-length.ensures.text)
    ∙ ap (λ k. filled_from (place + k) east (filled_from place local room)) long
    ∙ from_behind place local east room in
    c.put.ensures
    ∙ ap (filled_at (place + n + 10) 10) both
    ∙ ap (λ k. filled_at k 10 (filled_from place (local ++ east) room)) (omega (arith, long, ten, length-append local east))
    ∙ from_more place (local ++ east) 10 room
    ∙ ap (λ xs. filled_from place (xs ++ 10 ∷ []) room) (text_by_local c.args.local.now c.args.east.now.offset)

pub returns-clause-length : goal.returns-clause-length
returns-clause-length c =
    let local = local_text c.args.local.now in let east = 32 ∷ offset_text c.args.east.now.offset in
    let text = zoned_text (instant_at c.args.local.now c.args.east.now.offset) c.args.east.now.offset in
    let ten : length east ≡ 10 = omega (arith, offset_text-length c.args.east.now.offset) in
    omega (
      arith,
      length-append text (10 ∷ []),
      length-append local east,
      ten,
      c.write_local-length.ensures.length,
      ap length (text_by_local c.args.local.now c.args.east.now.offset),
    )
