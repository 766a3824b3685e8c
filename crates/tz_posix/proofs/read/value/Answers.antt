use Rattle.tz_posix.specs.EntryLaws.{exact}
use Rattle.tz_posix.proofs.read.value.Goals as goal

pub returns : goal.returns
returns g c = record { exact = exact g.met.T.RuleTime.reads c.args.text.now c.whole.result c.whole.ensures }
