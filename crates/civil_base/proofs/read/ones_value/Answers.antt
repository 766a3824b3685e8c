use Rattle.civil_base.proofs.TableLemmas.{ones-value}
use Rattle.civil_base.proofs.read.ones_value.Goals as goal

pub returns-clause-digit : goal.returns-clause-digit
returns-clause-digit c = (ones-value c.args.byte c.ranges.byte.fits).digit

pub returns-clause-other : goal.returns-clause-other
returns-clause-other c = (ones-value c.args.byte c.ranges.byte.fits).other

pub returns-clause-one : goal.returns-clause-one
returns-clause-one c = (ones-value c.args.byte c.ranges.byte.fits).one

pub returns-clause-most : goal.returns-clause-most
returns-clause-most c = (ones-value c.args.byte c.ranges.byte.fits).most
