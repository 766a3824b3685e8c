use Rattle.std.proofs.Common.{◌∙◌}
use Rattle.basics.proofs.NumberLemmas.{digits_read}
use Rattle.basics.proofs.number.u8_of_digits.Goals as goal

pub returns : goal.returns
returns c = c.ok.ensures.value ∙ digits_read 8 c.args.digits.now c.parse.result c.parse.ensures.value.0 c.requires
