use Rattle.zone_words.proofs.FrontLemmas.{fronts_close}
use Rattle.zone_words.proofs.fronts.LineRewritesFilter.close.Goals as goal

pub returns-clause-output : goal.returns-clause-output
returns-clause-output g c =
    fronts_close (g.R.Rewriter.rewritten c.args.self.now.rewriter) c.args.self.now.held c.args.output.now.items c.pass_last.new.output.items c.in_ok-pass_last.ensures.text
