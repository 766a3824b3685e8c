use Rattle.std.{proofs.Common.{sym, ◌∙◌, ap, not}, specs.Str.{is_utf8}}
use Rattle.zone_plain_lines.{specs.SaidLaws.{no_text}, proofs.MeantLemmas.{IsGood, bad_quotes, laid_no_text, told_meant}}
use Rattle.zone_plain_lines.proofs.meant.line_meant.Goals as goal

pub returns-then-not-is_text : goal.returns-then-not-is_text
returns-then-not-is_text c = no_text _ _ (sym c.is_text.ensures ∙ c.if-not-is_text.true)

pub returns-then-not-branch : goal.returns-then-not-branch
returns-then-not-branch c =
    bad_quotes _ _ (sym c.is_text.ensures ∙ c.if-not-is_text.false) (c.in_ok-lay_out.ensures.quotes ∙ ap not c.if-not-branch.true)

pub returns-in-None : goal.returns-in-None
returns-in-None c =
    let good : IsGood c.args.line.now = record {
      text = sym c.is_text.ensures ∙ c.if-not-is_text.false;
      quotes = c.in_ok-lay_out.ensures.quotes ∙ ap not c.if-not-branch.false;
    } in
    let laid = c.as_slice.ensures.value ∙ c.in_ok-lay_out.ensures.text c.if-not-branch.false in
    laid_no_text _ _ good (ap is_utf8 (sym laid) ∙ c.in-None.ensures.none)

pub returns : goal.returns
returns c =
    let good : IsGood c.args.line.now = record {
      text = sym c.is_text.ensures ∙ c.if-not-is_text.false;
      quotes = c.in_ok-lay_out.ensures.quotes ∙ ap not c.if-not-branch.false;
    } in
    let laid = c.as_slice.ensures.value ∙ c.in_ok-lay_out.ensures.text c.if-not-branch.false in
    told_meant c.args.is_open c.args.line.now _ c.parsed.result good (ap is_utf8 (sym laid) ∙ c.in-Some.ensures.text.1)
    (c.in-Some.ensures.text.0 ∙ laid) c.parsed.ensures
