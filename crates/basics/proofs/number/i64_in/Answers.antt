use Rattle.std.proofs.Common.{◌∙◌}
use Rattle.basics.proofs.NumberLemmas.{signed_read}
use mir.Syntax.{w64}
use Rattle.basics.proofs.number.i64_in.Goals as goal

pub returns : goal.returns
returns c = c.ok.ensures.value ∙ signed_read w64 c.args.text.now c.parse.result c.parse.ensures.value.0
