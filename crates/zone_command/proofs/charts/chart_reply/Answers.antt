use Rattle.std.proofs.{Common.{Ok, ap, map, sym, ◌∙◌}, lemmas.Result.{err_from_is_err_and}}
use Rattle.zone_command.{specs.Named.{named_view}, proofs.ChartLemmas.{charted_as, untold}}
use Rattle.zone_command.proofs.charts.chart_reply.Goals as goal
use Rattle.zone_texts.specs.SeenZones.{named}
use Rattle.zone_words.specs.Shown.{word_shown}

pub returns : goal.returns
returns g c =
    let of = named (named_view g.S.Zone.ReplyZone.view) in
    charted_as (g.S.ZoneSource.found c.args.source.now) (map word_shown c.args.names.now) c.args.year c.format.result.now (map of c.deref.result.now)
    c.chart_of-text.result c.told.result (c.in_ok-zones.ensures.ok ∙ ap (λ zones. Ok (map of zones)) (sym c.deref.ensures.value)) c.format.ensures.text
    c.chart_of-text.ensures.ok c.chart_of-text.ensures.err c.told.ensures

pub returns-in_err-zones : goal.returns-in_err-zones
returns-in_err-zones g c =
    let p = err_from_is_err_and c.from_residual.result c.from_residual.ensures.1 in
    rw (p.1, p.2) (untold (g.S.ZoneSource.found c.args.source.now) (map word_shown c.args.names.now) c.args.year _ c.in_err-zones.ensures.err)
