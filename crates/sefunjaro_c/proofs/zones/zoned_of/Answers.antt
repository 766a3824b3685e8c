use Rattle.std.proofs.Common.{sym, subst}
use Rattle.civil_base.specs.{DateTimes.{offset_of}, ReadAs.{IsReadAs}}
use Rattle.sefunjaro_c.specs.Times.{nanos_at}
use Rattle.sefunjaro_c.proofs.zones.zoned_of.Goals as goal

pub returns-in-Some : goal.returns-in-Some
returns-in-Some c =
    let read = c.in-Some.read in let parts = c.parts_of in record {
      named = subst (IsReadAs c.args.text.now (nanos_at parts.result.second parts.result.nanosecond)) (sym parts.ensures.offset)
          (subst (λ t. IsReadAs c.args.text.now t (offset_of read)) (sym parts.ensures.instant) c.in-Some.ensures.exact);
      part = parts.ensures.part;
    }
