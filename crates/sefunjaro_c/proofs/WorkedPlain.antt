-- Worked examples: faults of sources in any form as they are told. The numbers are those of the header.
use Rattle.std.{proofs.Common.{◌≡◌, refl}, specs.Prelude.{Some, Err}}
use Rattle.zone_plain_lines.specs.declared.cause.PlainCause.TheVariants as cause
use Rattle.zone_plain_lines.specs.LineFaults.{at, bad_line}
use Rattle.zone_plain_lines.specs.LineFaults as refused
use Rattle.sefunjaro.specs.declared.any_source.AnySourceFault.TheVariants as opening
use Rattle.sefunjaro_c.specs.AnySources.{any_told, form_due}

-- the line of the source and its cause; no line is to blame for a form that is too long
fifth_line_bad_month : form_due (Err (bad_line (at 5 cause.Month))) ≡ Some (record { status = 14; cause = 9; line = 5 })
fifth_line_bad_month = refl

too_much_to_write : form_due (Err refused.too_long) ≡ Some (record { status = 14; cause = 21; line = 0 })
too_much_to_write = refl

told_line : any_told (opening.Line 5 cause.Month) ≡ record { status = 14; cause = 9; line = 5 }
told_line = refl

told_long_form : any_told opening.PlainTooLong ≡ record { status = 14; cause = 21; line = 0 }
told_long_form = refl

told_long_text : any_told opening.TooLong ≡ record { status = 3; cause = 0; line = 0 }
told_long_text = refl
