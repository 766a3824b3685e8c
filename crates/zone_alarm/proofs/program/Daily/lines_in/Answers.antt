use Rattle.std.proofs.Common.{None, Some, cond, map, ap, sym, ◌∙◌, codes}
use Rattle.zone_source.specs.LineLists.{ended}
use Rattle.zone_alarm.specs.{RingLines.{ring_line}, Rings.{ends_in_years, rings}, Shown.{ring_shown}}
use Rattle.zone_alarm.proofs.program.Daily.lines_in.Goals as goal

pub returns-in_ok-lines_of-in-Ok : goal.returns-in_ok-lines_of-in-Ok
returns-in_ok-lines_of-in-Ok g c =
    let days = c.args.self.now.days in
    let ends = ap (λ day. ends_in_years day days) (sym c.date.ensures.value) ∙ c.in-Ok.ensures.ok in (
      ap (λ b. cond b None (Some (codes "range"))) ends,
      c.into_bytes.ensures ∙ ap ended (c.in_ok-lines_of-in-Ok.ensures ∙ ap (λ l. map ring_line (map ring_shown l)) c.deref.ensures.value
          ∙ ap (map ring_line) (c.in-Ok.ensures.rings
          ∙ (λ i. rings (g.T.TimeZone.total_at c.args.zone.now) (c.time.ensures i) (c.date.ensures.value i) days))),
    )
