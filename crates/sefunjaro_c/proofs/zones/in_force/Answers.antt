use Rattle.std.{proofs.Common.{◌≡◌, ◌∙◌, to_z-of_z, true, ap, subst}, specs.Arc.{arc_value}}
use Rattle.civil_base.specs.DateTimes.{instant}
use Rattle.sefunjaro.specs.Answered.{IsInForce}
use Rattle.sefunjaro_c.{specs.{Held.{Seen}, declared.opened.Opened.TheVariants.{Zone}, Answers.{Where}, Times.{is_instant, nanos_at}}, proofs.{AskedLemmas.{of_zone, where_true}, ShownLemmas.{seen_map}}}
use Rattle.sefunjaro_c.proofs.zones.in_force.Goals as goal

pub returns-in-Some-clause-answer : goal.returns-in-Some-clause-answer
returns-in-Some-clause-answer c =
    let s = c.args.second in let n = c.args.nanosecond in let t = instant c.in-Some.at in let zone = arc_value c.in-Zone.zone in
    let same = to_z-of_z c.ranges.second in let known = c.in-Some.ensures.some in
    let found = c.in_force.result in let old = c.args.name.now in let new = c.in_force.new.room in let kept = new ≡ old in
    of_zone c.args.opened.now (Zone c.in-Zone.zone) 0 kept
    (λ held. Where (is_instant s n) 0 kept (Seen held (λ total gives. IsInForce total gives (nanos_at s n) found old new))) c.in-Zone.is
    (where_true (is_instant s n) kept (Seen zone (λ total gives. IsInForce total gives (nanos_at s n) found old new))
    (subst (λ u. is_instant u n ≡ true) same known.0)
    (seen_map zone (λ total gives. IsInForce total gives t found old new) (λ total gives. IsInForce total gives (nanos_at s n) found old new)
    (λ total gives h. subst (λ u. IsInForce total gives u found old new) (known.1 ∙ ap (λ u. nanos_at u n) same) h)
    (subst (λ z. Seen z (λ total gives. IsInForce total gives t found old new)) c.deref.ensures (record { offset = c.in_force.ensures.offset; named = c.in_force.ensures.name }))))
