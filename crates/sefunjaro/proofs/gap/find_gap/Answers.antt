use Rattle.std.proofs.Common.{◌-◌, to_z-of_z, FitsSigned, w32, w64, ap, ◌∙◌, arith, rules}
use Rattle.civil_base.specs.Instants.{seconds_of}
use Rattle.sefunjaro.proofs.GapLemmas.{skipped_by}
use Rattle.sefunjaro.proofs.gap.find_gap.Goals as goal

pub returns : goal.returns
returns g c =
    let total = g.T.TimeZone.total_at c.args.zone.now in
    let place = c.skipped-place.result in
    let second : FitsSigned w64 c.unix_timestamp.result = search rules in
    let before : FitsSigned w32 c.total_at.result = search rules in
    let after : FitsSigned w32 c.total_at-2.result = search rules in
    skipped_by total c.args.local.now place (place - 1) _ _ _ c.requires.seconds (omega (arith, c.skipped-place.ensures.first))
    (to_z-of_z second ∙ c.unix_timestamp.ensures.value ∙ ap seconds_of c.date_at-date.ensures)
    (to_z-of_z before ∙ c.total_at.ensures ∙ ap total c.date_at.ensures)
    (to_z-of_z after ∙ c.total_at-2.ensures ∙ ap total c.date_at-date.ensures)
    c.skipped-place.ensures.less c.skipped-place.ensures.more
