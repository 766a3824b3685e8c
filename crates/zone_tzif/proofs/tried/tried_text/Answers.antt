use borrow.Author.Rules.{to_z-of_z_to}
use Rattle.std.proofs.Common.{◌≡◌, ◌++◌, IfOk, string_bytes, true, w64, rules, sym, ap, ◌∙◌, subst}
use Rattle.zone_spans.specs.{Entries.{total}, declared.span.FixedTimespan.{FixedTimespan}}
use Rattle.zone_tail.specs.{Tails.{can_be_written}, Texts.{name_text, offset_text}}
use Rattle.zone_tzif.{specs.Tried.{tried_for}, proofs.FormLemmas.{other_fails, steady_written, total_of_span-is, yearly_written}}
use Rattle.zone_tzif.proofs.tried.tried_text.Goals as goal

pub steady_text-requires : goal.steady_text-requires
steady_text-requires g c =
    let set = g.S.SpanTable.seen c.args.set.now in
    let shows = rw c.in-Steady.is at c.requires.form in
    let is = to_z-of_z_to w64 c.total_of.result _ (search rules) (c.total_of.ensures.total ∙ total_of_span-is set c.in-Steady.span shows.1) in
    subst (λ t. can_be_written t ≡ true) (sym is) (steady_written set _ shows.0 c.requires.none)

pub returns-in-Steady : goal.returns-in-Steady
unfolding tried_for
returns-in-Steady g c =
    let set = g.S.SpanTable.seen c.args.set.now in
    let shows = rw c.in-Steady.is at c.requires.form in
    let is = to_z-of_z_to w64 c.total_of.result _ (search rules) (c.total_of.ensures.total ∙ total_of_span-is set c.in-Steady.span shows.1) in
    let name = c.as_str.ensures ∙ ap (λ (s : FixedTimespan). s.name) c.span.ensures in
    subst (λ more. IfOk c.steady_text.result (λ text. string_bytes text ≡ more))
    ((λ i. name_text (name i) ++ offset_text (is i)) ∙ sym (ap (λ form. tried_for form c.args.number) shows.0)) c.steady_text.ensures

pub yearly_text-requires-clause-placed : goal.yearly_text-requires-clause-placed
yearly_text-requires-clause-placed g c = let shows = rw c.in-Yearly.is at c.requires.form in shows.1

pub yearly_text-requires-clause-written : goal.yearly_text-requires-clause-written
yearly_text-requires-clause-written g c =
    let shows = rw c.in-Yearly.is at c.requires.form in
    yearly_written (g.S.SpanTable.seen c.args.set.now) _ _ shows.0 c.requires.none

pub returns-in-Yearly : goal.returns-in-Yearly
returns-in-Yearly g c =
    let shows = rw c.in-Yearly.is at c.requires.form in
    subst (λ more. IfOk c.yearly_text.result (λ text. string_bytes text ≡ more))
    (sym (ap (λ form. tried_for form c.args.number) shows.0)) c.yearly_text.ensures

pub unreachable-requires : goal.unreachable-requires
unreachable-requires g c =
    let shows = rw c.in-Other.is at c.requires.form in
    other_fails (g.S.SpanTable.seen c.args.set.now) shows c.requires.none
