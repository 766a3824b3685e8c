use Rattle.std.proofs.Common.{◌≡◌, None, option_map, subst}
use Rattle.tz_posix.specs.Shown.{std_shown}
use Rattle.tz_tzif.{specs.Ranges.{footer_miss}, specs.Shown.{saving_shown}, proofs.RangeLemmas.{standard_offset, saving_parts}}
use Rattle.tz_tzif.proofs.footer.Footer.of.Goals as goal

pub to_utc_offset-offset-requires : goal.to_utc_offset-offset-requires
to_utc_offset-offset-requires c =
    standard_offset (std_shown c.args.text.now.std) (option_map saving_shown c.args.text.now.dst) c.requires

pub of-requires-clause-own : goal.of-requires-clause-own
of-requires-clause-own c =
    let standard = std_shown c.args.text.now.std in
    (saving_parts standard (saving_shown c.in-Some.saving)
    (subst (λ o. footer_miss (record { standard = standard; saving = option_map saving_shown o }) ≡ None) c.in-Some.is c.requires)).0

pub of-requires-clause-rule : goal.of-requires-clause-rule
of-requires-clause-rule c =
    let standard = std_shown c.args.text.now.std in
    (saving_parts standard (saving_shown c.in-Some.saving)
    (subst (λ o. footer_miss (record { standard = standard; saving = option_map saving_shown o }) ≡ None) c.in-Some.is c.requires)).1
