use Rattle.std.{proofs.Common.{◌≡◌, map, ap, ◌∙◌}, proofs.lemmas.Result.{IfOk-weaker}}
use Rattle.civil_base.specs.DateTimes.{instant}
use Rattle.tz_ever.specs.{Asked.{asked_recurrence, asked_set}, Recurrences.{zone_total}}
use Rattle.zone_spans.specs.Schedules.{instants}
use Rattle.tz_lookup.specs.InForce.{all_in_force, shown_of}
use Rattle.sefunjaro.{specs.Zones.{total_in}, proofs.ReplyLemmas.{dates_of}}
use Rattle.sefunjaro.proofs.replies.OpenZoneReplyZone.instants.Goals as goal

pub returns : goal.returns
returns c =
    let totals : zone_total (asked_recurrence c.new.result) (asked_set c.new.result) ≡ total_in c.args.self.now = λ i. zone_total (c.new.ensures.recurrence i) (c.new.ensures.set i) in
    IfOk-weaker c.instants_of.result
    (λ v. map shown_of v.items ≡ all_in_force (zone_total (asked_recurrence c.new.result) (asked_set c.new.result)) c.args.local.now)
    (λ v. map instant v.items ≡ instants (total_in c.args.self.now) c.args.local.now)
    (λ v e. dates_of (total_in c.args.self.now) c.args.local.now v.items (e ∙ ap (λ t. all_in_force t c.args.local.now) totals)) c.instants_of.ensures
