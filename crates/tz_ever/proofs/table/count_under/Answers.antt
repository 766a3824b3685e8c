use Rattle.std.proofs.{Common.{◌≡◌, ◌-ℤ◌, pos, to_z, of_z, w64, arith, subst}, lemmas.List.{length-map}}
use Rattle.basics.specs.SignedLaws.{signed, signed_casts}
use Rattle.tz_lookup.specs.{Sets.{shift_of, shifts_of}, Spans.{IsCut}}
use Rattle.tz_ever.proofs.{TableLemmas.{count_is}, UnrolledShows.{least, past_greatest, set_climbs}}
use Rattle.tz_ever.proofs.table.count_under.Goals as goal

pub returns : goal.returns
returns g c =
    let set = g.S.SpanTable.seen c.args.set.now in
    let k = c.span_between.result in
    let low = c.requires.second.0 in
    let high = c.requires.second.1 in
    let before : to_z w64 (of_z w64 (to_z w64 (of_z w64 c.args.second) -ℤ pos 1)) ≡ c.args.second -ℤ pos 1 = omega (arith, signed_casts, low, high) in
    let cut = subst (IsCut (shifts_of set) k) before c.span_between.ensures.cut in
    let size = length-map set.others shift_of in
    count_is c.args.second least set.others past_greatest k (set_climbs set c.requires.accepted) (omega (arith, cut.within, size))
    (λ j l. omega (arith, signed, cut.before j l)) (λ l. omega (arith, signed, cut.after k (omega arith) (omega (arith, l, size))))
