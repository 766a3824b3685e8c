use Rattle.civil_base.proofs.TableLemmas.{tens-value}
use Rattle.civil_base.proofs.read.tens_value.Goals as goal

pub returns-clause-digit : goal.returns-clause-digit
returns-clause-digit c = (tens-value c.args.byte c.ranges.byte.fits).digit

pub returns-clause-other : goal.returns-clause-other
returns-clause-other c = (tens-value c.args.byte c.ranges.byte.fits).other

pub returns-clause-whole : goal.returns-clause-whole
returns-clause-whole c = (tens-value c.args.byte c.ranges.byte.fits).whole

pub returns-clause-most : goal.returns-clause-most
returns-clause-most c = (tens-value c.args.byte c.ranges.byte.fits).most
