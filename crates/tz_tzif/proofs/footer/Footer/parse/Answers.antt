use Rattle.tz_tzif.{specs.Shown.{text_shown}, proofs.FooterReadLemmas.{refused}}
use Rattle.tz_tzif.proofs.footer.Footer.parse.Goals as goal

pub returns-in-Err : goal.returns-in-Err
returns-in-Err c =
    refused c.args.text.now (text_shown c.in-Some.read) c.check.result c.in-Err._error c.in-Err.is c.check.ensures c.in-Some.ensures.exact
