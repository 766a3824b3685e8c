use Rattle.std.proofs.{Common.{◌+◌}, lemmas.List.{take_rest}}
use Rattle.zone_words.proofs.CutLemmas.{found_at, not_found}
use Rattle.zone_words.proofs.requests.cut_line.Goals as goal

pub returns-in-Some : goal.returns-in-Some
returns-in-Some c = rw (take_rest c.args.bytes.now (c.in-Some.end + 1)) (found_at c.args.bytes.now c.in-Some.end c.in-Some.ensures)

pub returns-in-None : goal.returns-in-None
returns-in-None c = not_found c.args.bytes.now c.in-None.ensures
