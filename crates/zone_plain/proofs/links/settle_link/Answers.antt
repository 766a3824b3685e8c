use Rattle.std.{proofs.Common.{sym, ◌∙◌, ap, map}, specs.Prelude.{Ok}}
use Rattle.zone_plain.{specs.Stands.{line_at_place}, proofs.LinkLemmas.{is_declared, link_is_zone, link_refused, link_unsaid, link_said, link_text}}
use Rattle.zone_plain.proofs.links.settle_link.Goals as goal
use Rattle.zone_table.specs.Values.{line_value}

pub returns-then-contains_key-clause-err : goal.returns-then-contains_key-clause-err
returns-then-contains_key-clause-err c values before here =
    link_is_zone values before _ _ (sym (is_declared _ values _ _ here.declared c.contains_key.ensures) ∙ c.if-contains_key.true)

pub returns-in-Err-clause-err : goal.returns-in-Err-clause-err
returns-in-Err-clause-err c values before here =
    link_refused values before _ _ c.in-Err.refused
    (sym (is_declared _ values _ _ here.declared c.contains_key.ensures) ∙ c.if-contains_key.false)
    (c.in-Err.ensures.err values before here)

pub returns-then-not-is_said-clause-err : goal.returns-then-not-is_said-clause-err
returns-then-not-is_said-clause-err c values before here =
    link_unsaid values before _ _ (line_value c.line_of-led.result)
    (sym (is_declared _ values _ _ here.declared c.contains_key.ensures) ∙ c.if-contains_key.false)
    ((c.in-Ok.ensures.ok values before here).0 ∙ ap Ok (sym (c.line_of-led.ensures
    ∙ ap (λ names. line_at_place (map (λ one. one.now) names) c.in-Ok.place c.args.link.now.new.now) c.as_slice.ensures.value)))
    (sym c.in-Ok-write_said.ensures.said ∙ c.if-not-is_said.true)

pub returns-clause-ok : goal.returns-clause-ok
returns-clause-ok c values before here =
    let found = c.in-Ok.ensures.ok values before here in (
      link_said values before _ _ (line_value c.line_of-led.result)
          (sym (is_declared _ values _ _ here.declared c.contains_key.ensures) ∙ c.if-contains_key.false)
          (found.0 ∙ ap Ok (sym (c.line_of-led.ensures
          ∙ ap (λ names. line_at_place (map (λ one. one.now) names) c.in-Ok.place c.args.link.now.new.now) c.as_slice.ensures.value))) (sym c.in-Ok-write_said.ensures.said ∙ c.if-not-is_said.false),
      found.1,
    )

pub returns-clause-text : goal.returns-clause-text
returns-clause-text c = link_text _ (line_value c.line_of-led.result) c.in-Ok-write_said.ensures.text
