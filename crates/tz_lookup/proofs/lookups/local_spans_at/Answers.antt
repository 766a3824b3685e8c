use Rattle.std.proofs.{Common.{◌+◌, length, w64, to_z, of_z, arith, refl, sym, ◌∙◌, subst}, lemmas.Int.{to_z-of_z}}
use Rattle.tz_lookup.{specs.Sets.{schedule_of, shifts_of, IsNear}, proofs.OrderLemmas.{goes_up, none_lies, none_near}}
use Rattle.tz_lookup.proofs.lookups.local_spans_at.Goals as goal

pub binary_search-requires-clause-sorted : goal.binary_search-requires-clause-sorted
binary_search-requires-clause-sorted g c =
    let zone = schedule_of (g.T.SpanTable.seen c.args.set.now) in
    let all = goes_up zone (to_z w64 (of_z w64 c.args.second)) (length zone.shifts + 1) refl c.requires.orderly in
    let inside = c.requires.near.within in
    record {
      before = λ i j l m n e. all.before i j (omega arith) m (omega (arith, n, inside)) e;
      after = λ i j l m n e. all.after i j (omega arith) m (omega (arith, n, inside)) e;
    }

pub returns-in-None-clause-exact : goal.returns-in-None-clause-exact
returns-in-None-clause-exact g c = λ x at.
    none_lies (schedule_of (g.T.SpanTable.seen c.args.set.now)) x (to_z w64 (of_z w64 c.args.second))
    (at ∙ sym (to_z-of_z w64 c.args.second c.ranges.second)) c.requires.accepted
    (none_near (g.T.SpanTable.seen c.args.set.now) c.requires.accepted c.args.low c.args.high (to_z w64 (of_z w64 c.args.second))
    (subst (IsNear (shifts_of (g.T.SpanTable.seen c.args.set.now)) c.args.low c.args.high)
    (sym (to_z-of_z w64 c.args.second c.ranges.second)) c.requires.near) c.in-None.ensures.found)
