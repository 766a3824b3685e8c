use Rattle.std.proofs.{Common.{sym, arith}, lemmas.List.{take_all, drop_all, length-take-le, take_rest}}
use Rattle.zone_words.proofs.fronts.cut_front.Goals as goal

pub slice_bounds-result-end-else-line-le-ROOM : goal.slice_bounds-result-end-else-line-le-ROOM
slice_bounds-result-end-else-line-le-ROOM c = sym (length-take-le 4098 c.args.line.now (omega arith))

pub returns-then-line-le-ROOM-clause-front : goal.returns-then-line-le-ROOM-clause-front
returns-then-line-le-ROOM-clause-front c = sym (take_all 4098 c.args.line.now (omega arith))

pub returns-then-line-le-ROOM-clause-rest : goal.returns-then-line-le-ROOM-clause-rest
returns-then-line-le-ROOM-clause-rest c = sym (drop_all 4098 c.args.line.now (omega arith))

pub returns-else-line-le-ROOM-clause-within : goal.returns-else-line-le-ROOM-clause-within
returns-else-line-le-ROOM-clause-within c = omega (arith, length-take-le 4098 c.args.line.now (omega arith))

pub returns-else-line-le-ROOM-clause-rest : goal.returns-else-line-le-ROOM-clause-rest
returns-else-line-le-ROOM-clause-rest c = take_rest c.args.line.now 4098
