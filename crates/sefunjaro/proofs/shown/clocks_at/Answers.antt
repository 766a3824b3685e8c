use Rattle.std.proofs.Common.{◌∙◌, sym}
use Rattle.sefunjaro.proofs.ShownLemmas.{all_shown}
use Rattle.sefunjaro.specs.Zones.{kept_total}
use Rattle.sefunjaro.proofs.shown.clocks_at.Goals as goal

pub fill_clocks-requires : goal.fill_clocks-requires
fill_clocks-requires c =
    all_shown (kept_total c.args.zone.now) c.args.seconds.now (sym c.unshown_place.ensures ∙ c.in-None.is)
