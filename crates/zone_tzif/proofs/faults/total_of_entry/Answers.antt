use Rattle.std.proofs.Common.{◌≡◌, suc, ◌+◌, FitsSigned, w64, rules, to_z-of_z, ap, ◌∙◌, arith}
use Rattle.tz_lookup.specs.Sets.{total_of_span}
use Rattle.zone_tzif.proofs.FormLemmas.{total_of_span-is}
use Rattle.zone_tzif.proofs.faults.total_of_entry.Goals as goal

pub returns-clause-is : goal.returns-clause-is
returns-clause-is g c =
    let set = g.S.SpanTable.seen c.args.set.now in
    let fits : FitsSigned w64 c.total_of.result = search rules in
    let next : c.args.entry + 1 ≡ suc c.args.entry = omega arith in
    to_z-of_z fits ∙ c.total_of.ensures.total ∙ ap (total_of_span set) next ∙ total_of_span-is set (suc c.args.entry) (omega (arith, c.requires.within))
