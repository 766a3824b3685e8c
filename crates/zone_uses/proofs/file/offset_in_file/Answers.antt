use Rattle.std.proofs.{Common.{◌∙◌, ℕ, ℤ, List, FitsSigned, rules, subst, sym, to_z-of_z, w32, arith}, lemmas.Int.{ints}}
use Rattle.civil_base.specs.{DateTimes.{instant, offset_of}, Instants.{local_at, seconds_of}, RangeLaws.{offset_greatest, offset_least, years_begin, years_end}, Ranges.{IsInYears, IsOffset}}
use Rattle.tz_lookup.specs.SecondLaws.{second_is}
use Rattle.tz_tzif.specs.Years.{HasDate}
use Rattle.sefunjaro.specs.{Errors.{of_opened_file}, Files.{IsFileFault}, declared.file.FileFault.{FileFault}, declared.file.FileFault.TheVariants.{Refused, Footer, NoMemory}}
use Rattle.zone_uses.specs.Causes.{IsFileCause}
use Rattle.zone_uses.proofs.file.offset_in_file.Goals as goal

-- an instant with a date by clocks less than 26 hours from UTC
has_date : (t o : ℤ) → IsInYears (local_at t o) → IsOffset o → HasDate (seconds_of t)
has_date t o years range =
    let here = second_is t in record {
      first = omega (arith, ints, years_begin (local_at t o) years, offset_greatest o range, here.high);
      last = omega (arith, ints, years_end (local_at t o) years, offset_least o range, here.low);
    }

cause_of : (bytes : List ℕ) (fault : FileFault) → IsFileFault bytes fault → IsFileCause bytes (of_opened_file fault)
cause_of bytes Refused h = h
cause_of bytes Footer h = h
cause_of bytes NoMemory h = h

pub returns-in-Ok-clause-given : goal.returns-in-Ok-clause-given
returns-in-Ok-clause-given c =
    let file = c.in-Ok.ensures in
    let t = instant c.args.at.now in let o = offset_of c.args.at.now in
    let nanos = c.unix_timestamp_nanos-nanos.ensures in
    let fits : FitsSigned w32 c.offset_at.result = search rules in
    record {
      value = file.value;
      footer = file.shows.footer;
      is_file = file.told;
      says = file.shows.accepted.says;
      is = to_z-of_z fits ∙ c.offset_at.ensures ∙ file.shows.total t (has_date t o (subst (λ n. IsInYears (local_at n o)) nanos.value nanos.years) nanos.offset);
    }

pub returns-in-Err-clause-err : goal.returns-in-Err-clause-err
returns-in-Err-clause-err c =
    subst (IsFileCause c.args.bytes.now) (sym c.into.ensures) (cause_of c.args.bytes.now c.in-Err.fault c.in-Err.ensures)
