use Rattle.std.{proofs.Common.{rules, ◌≡◌, ℕ, true, false, List, sym, ap, ◌∙◌}, specs.List.{list_any}}
use Rattle.zone_table.{specs.Formats.{format_of, has_placeholder, is_slash}, specs.declared.zone.Format.TheVariants.{Constant, Placeholder}, proofs.SlashLemmas.{passes_nowhere}}
use Rattle.zone_table.proofs.zone.Format.new.Goals as goal

placeholder : (template text : List ℕ) → list_any is_slash template ≡ false → text ≡ template
    → has_placeholder template ≡ true → Placeholder text ≡ format_of template
unfolding format_of
placeholder template text whole same there = rw (whole, there) (ap Placeholder same)

constant : (template text : List ℕ) → list_any is_slash template ≡ false → text ≡ template
    → has_placeholder template ≡ false → Constant text ≡ format_of template
unfolding format_of
constant template text whole same there = rw (whole, there) (ap Constant same)

pub returns-then-has_placeholder : goal.returns-then-has_placeholder
returns-then-has_placeholder c =
    placeholder _ _ (passes_nowhere is_slash c.args.template.now (search rules)) c.in_ok-text.ensures
    (sym c.has_placeholder.ensures ∙ c.if-has_placeholder.true)

pub returns-else-has_placeholder : goal.returns-else-has_placeholder
returns-else-has_placeholder c =
    constant _ _ (passes_nowhere is_slash c.args.template.now (search rules)) c.in_ok-text.ensures
    (sym c.has_placeholder.ensures ∙ c.if-has_placeholder.false)
