use Rattle.std.{proofs.Common.{◌≡◌, ◌∙◌, to_z, of_z, to_z-of_z, true, FitsSigned, w32, rules, ap, subst}, specs.Arc.{arc_value}}
use Rattle.civil_base.specs.DateTimes.{instant}
use Rattle.sefunjaro_c.{specs.{Held.{Seen}, declared.opened.Opened.TheVariants.{Zone}, Answers.{Where}, Times.{is_instant, nanos_at}}, proofs.{AskedLemmas.{of_zone, where_true}, ShownLemmas.{seen_map}}}
use Rattle.sefunjaro_c.proofs.zones.offset_at.Goals as goal

pub returns-in-Some-clause-answer : goal.returns-in-Some-clause-answer
returns-in-Some-clause-answer c =
    let s = c.args.second in let n = c.args.nanosecond in let t = instant c.in-Some.at in let zone = arc_value c.in-Zone.zone in
    let same = to_z-of_z c.ranges.second in let known = c.in-Some.ensures.some in let found = c.offset_at.result in
    let fits : FitsSigned w32 found = search rules in
    let offset = to_z w32 (of_z w32 found) in let kept = offset ≡ c.args.offset.now in
    of_zone c.args.opened.now (Zone c.in-Zone.zone) 0 kept
    (λ held. Where (is_instant s n) 0 kept (Seen held (λ total _. offset ≡ total (nanos_at s n)))) c.in-Zone.is
    (where_true (is_instant s n) kept (Seen zone (λ total _. offset ≡ total (nanos_at s n))) (subst (λ u. is_instant u n ≡ true) same known.0)
    (seen_map zone (λ total _. found ≡ total t) (λ total _. offset ≡ total (nanos_at s n))
    (λ total gives h. to_z-of_z fits ∙ h ∙ ap total (known.1 ∙ ap (λ u. nanos_at u n) same))
    (subst (λ z. Seen z (λ total _. found ≡ total t)) c.deref.ensures c.offset_at.ensures)))
