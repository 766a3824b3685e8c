use Rattle.std.proofs.Common.{◌≡◌, ◌∙◌, sym, ap}
use Rattle.tz_tzif.specs.{FooterForce.{standard_total}, Shown.{text_shown}, Values.{FooterValue}}
use Rattle.sefunjaro.proofs.FileLemmas.{standard_of, told}
use Rattle.sefunjaro.proofs.file.standard_of.Goals as goal

pub returns-in-Some-footer_text : goal.returns-in-Some-footer_text
returns-in-Some-footer_text c =
    let text = c.args.text.now in let parsed = c.in-Some.ensures in let value = parsed.value in let read = c.in-Some-footer_text.read in
    let same : value ≡ text_shown read = c.one_footer.ensures text value (text_shown read) parsed.is.spelled c.in-Some-footer_text.ensures.exact in
    told text read.std.name.now value c.offsets.result.0 c.standard_kind.result parsed.is (ap (λ (v : FooterValue). v.standard.name) (sym same))
    (c.offsets.ensures.standard ∙ ap standard_total (sym parsed.stands) ∙ standard_of value)
    c.standard_kind.ensures.kind c.standard_kind.ensures.small c.standard_kind.ensures.err
