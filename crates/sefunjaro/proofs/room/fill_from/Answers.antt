use Rattle.std.proofs.Common.{arith}
use Rattle.sefunjaro.proofs.RoomLemmas.{from_parts, none_from}
use Rattle.sefunjaro.proofs.room.fill_from.Goals as goal

pub returns-then-place-room : goal.returns-then-place-room
returns-then-place-room g c = from_parts c.args.place c.args.items.now c.args.room.now c.fill.new.room c.fill.ensures.room

pub returns-else-place-room : goal.returns-else-place-room
returns-else-place-room g c = none_from c.args.place c.args.items.now c.args.room.now (omega (arith, c.if-place-room.false))
