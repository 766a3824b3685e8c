use mir.Syntax.{w128}
use Rattle.std.{proofs.Common.{◌≡◌, pos, ◌+ℤ◌, ◌*ℤ◌, to_z-of_z, FitsSigned, w64, ap, ◌∙◌, arith, rules}, specs.Prelude.{unsigned_abs}, specs.Int.{int_rem_euclid}, proofs.lemmas.Int.{ints}}
use Rattle.civil_base.specs.{DateTimes.{instant}, Instants.{seconds_of}}
use Rattle.sefunjaro_c.{specs.Times.{nanos_at}, proofs.TextLemmas.{in_parts, size_is}}
use Rattle.sefunjaro_c.proofs.zones.parts_of.Goals as goal

pub returns-clause-instant : goal.returns-clause-instant
returns-clause-instant c =
    let second : FitsSigned w64 c.unix_timestamp.result = search rules in
    let nanos : FitsSigned w128 c.unix_timestamp_nanos-nanos.result = search rules in
    let left : FitsSigned w128 c.rem_euclid.result = search rules in
    let t = instant c.args.read.now in let r = c.rem_euclid.result in
    let part : r ≡ int_rem_euclid t (pos 1000000000) =
    c.rem_euclid.ensures.value ∙ ap (λ n. int_rem_euclid n (pos 1000000000)) (to_z-of_z nanos ∙ c.unix_timestamp_nanos-nanos.ensures.value) in
    (λ i. nanos_at ((to_z-of_z second ∙ c.unix_timestamp.ensures.value) i) (unsigned_abs (to_z-of_z left i)))
    ∙ ap (λ z. seconds_of t *ℤ pos 1000000000 +ℤ z) (size_is r (omega (arith, ints, c.rem_euclid.ensures.lower_bound)))
    ∙ in_parts t r part
