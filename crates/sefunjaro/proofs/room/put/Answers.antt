use Rattle.std.proofs.Common.{arith}
use Rattle.sefunjaro.proofs.RoomLemmas.{set_is, past_is}
use Rattle.sefunjaro.proofs.room.put.Goals as goal

pub returns-then-place-room : goal.returns-then-place-room
returns-then-place-room g c = set_is c.args.room.now c.args.place c.args.item

pub returns-else-place-room : goal.returns-else-place-room
returns-else-place-room g c = past_is c.args.room.now c.args.place c.args.item (omega (arith, c.if-place-room.false))
