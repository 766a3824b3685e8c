use Rattle.tz_posix.specs.Shown.{tz_shown}
use Rattle.tz_tzif.proofs.FooterReadLemmas.{exact}
use Rattle.tz_tzif.proofs.read.footer_text.Goals as goal

pub returns-in-Some : goal.returns-in-Some
returns-in-Some c = record {
  exact = exact c.args.text.now (tz_shown c.in-Some.read) c.footer_of.result c.in-Some.ensures.exact c.footer_of.ensures;
}
