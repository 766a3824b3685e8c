use Rattle.std.{proofs.Common.{List, sym, ◌∙◌, subst, pos}, specs.Prelude.{All}}
use Rattle.zone_spans.specs.Entries.{Entry}
use Rattle.tz_lookup.{specs.Sets.{IsSpanTime}, proofs.{OrderLemmas.{if_false}, SetLemmas.{all_shifts}}}
use Rattle.tz_lookup.proofs.set.accept.Goals as goal

abbrev AllTimes : List Entry → Type 0
AllTimes es = All (λ (e : Entry). IsSpanTime e.0) es

pub returns-then-not-has_span_times : goal.returns-then-not-has_span_times
returns-then-not-has_span_times c =
    let set = c.args.set.now in
    let both = all_shifts (λ s. IsSpanTime s.0) set.others (pos 0, set.first) in (
      sym c.has_offsets.ensures ∙ c.if-not-has_offsets.false,
      c.times_do_not_fall.ensures.0 c.if-not-times_do_not_fall.false,
      (λ h. if_false c.has_span_times.result c.has_span_times.ensures.1 c.if-not-has_span_times.true
          (subst AllTimes (sym c.entries.ensures) (both.0 h))),
    )

pub returns-else-not-has_span_times : goal.returns-else-not-has_span_times
returns-else-not-has_span_times c =
    let set = c.args.set.now in
    let both = all_shifts (λ s. IsSpanTime s.0) set.others (pos 0, set.first) in
    record {
      range = sym c.has_offsets.ensures ∙ c.if-not-has_offsets.false;
      times = c.times_do_not_fall.ensures.0 c.if-not-times_do_not_fall.false;
      bound = both.1 (subst AllTimes c.entries.ensures (c.has_span_times.ensures.0 c.if-not-has_span_times.false));
    }
