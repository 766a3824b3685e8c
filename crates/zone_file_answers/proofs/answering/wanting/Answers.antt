use Rattle.std.proofs.Common.{option_map}
use Rattle.tz_tzif.specs.FooterShown.{footer_shown}
use Rattle.zone_file_answers.proofs.ResponseLemmas.{has_file, no_footer}
use Rattle.zone_file_answers.proofs.answering.wanting.Goals as goal

pub returns-in_default : goal.returns-in_default
returns-in_default c = λ requests total is. c.in_default.ensures.exact is.value is.says

pub returns-in-Some-read_footer : goal.returns-in-Some-read_footer
returns-in-Some-read_footer c = λ requests.
    has_file c.args.file.now c.in-Some.footer.now (option_map footer_shown c.in-Some-read_footer.field-0) c.in-Some.ensures.exact
    (λ zone says. (c.said_bounds.ensures.rising c.args.file.now zone says, c.said_bounds.ensures.small c.args.file.now zone says)) c.in-Some-read_footer.ensures

pub returns-in-None : goal.returns-in-None
returns-in-None c = λ requests.
    no_footer c.args.file.now c.in-Some.footer.now (c.one_saying.ensures c.args.file.now) c.in-Some.ensures.exact
    (λ zone says. (c.said_bounds.ensures.rising c.args.file.now zone says, c.said_bounds.ensures.small c.args.file.now zone says)) c.in-None.ensures
