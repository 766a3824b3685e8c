use Rattle.std.proofs.Common.{ℤ, cond, FitsSigned, w64, rules, to_z-of_z, sym, ap, ◌∙◌}
use Rattle.tz_tzif.specs.{FooterShown.{held_shown, zone_shown}, FooterForce.{held_at}}
use Rattle.tz_tzif.proofs.footer.Footer.next_change.Goals as goal

pub returns-in-None-clause-same : goal.returns-in-None-clause-same
unfolding held_at
returns-in-None-clause-same c t begun before =
    let held = λ (s : ℤ). ap (λ saving. held_at (zone_shown (held_shown c.args.self.now.standard) saving) s) c.in-None.is in
    held t ∙ sym (held c.args.second)

pub returns-in-Some-clause-same : goal.returns-in-Some-clause-same
unfolding held_at
returns-in-Some-clause-same c t begun before =
    let standard = held_shown c.args.self.now.standard in
    let saving = held_shown c.in-Some.saving.held in
    let fits : FitsSigned w64 c.next_change.result = search rules in
    let held = λ (s : ℤ). ap (λ y. held_at (zone_shown standard y) s) c.in-Some.is in
    let same = rw (c.offset.ensures, c.offset-in-Some.ensures, to_z-of_z c.ranges.second) at c.next_change.ensures.same in
    held t ∙ ap (λ b. cond b saving standard) (same t begun (rw (to_z-of_z fits) at before)) ∙ sym (held c.args.second)
