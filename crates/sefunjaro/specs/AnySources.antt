-- Sources in any form, and why one isn't opened.
use Rattle.std.specs.Prelude.{◌≡◌, ◌<◌, ◌≤◌, ℕ, List, None, Ok, Err, length}
use Rattle.zone_plain.specs.Plain.{plain_of}
use Rattle.zone_plain_lines.specs.LineFaults.{at, bad_line, too_long}
use Rattle.zone_source.specs.{Releases.{release_of}, Faults.{source_fault}, Zones.{values_of}, declared.error.SourceError.{SourceError}}
use Rattle.zone_table.specs.Tables.{IsTableOf}
use Rattle.sefunjaro.specs.{Faults.{IsFirstFault}, Sources.{table_in, release_in}, declared.any_source.AnySourceFault.{AnySourceFault}, declared.any_source.AnySourceFault.TheVariants.{TooLong, Line, PlainTooLong, Plain, NoMemory}}
use Rattle.sefunjaro.specs.declared.source.OpenSource.{OpenSource}

-- the source is that of a text in plain form, which has no fault
pub record IsSourceOfForm (form : List ℕ) (source : OpenSource) : Type 0 where
  pub short : length form ≤ 16777216
  pub valid : source_fault form ≡ None
  pub table : IsTableOf (table_in source) (values_of form)
  pub release : release_in source ≡ release_of form

-- the source is that of the plain form of a text
pub record IsAnySource (text : List ℕ) (source : OpenSource) : Type 0 where
  pub short : length text ≤ 16777216
  pub form : List ℕ
  pub written : plain_of text ≡ Ok form
  pub opened : IsSourceOfForm form source

-- the plain form of a text has this first fault
pub record HasFormFault (text : List ℕ) (error : SourceError) : Type 0 where
  pub form : List ℕ
  pub written : plain_of text ≡ Ok form
  pub short : length form ≤ 16777216
  pub fault : IsFirstFault form error

-- it is too long, or has no plain form for this, or one with this first fault; of a text that isn't too long, want of memory may come in
-- place of any fault
abbrev pub IsAnyFault : List ℕ → AnySourceFault → Type 0
IsAnyFault text TooLong = 16777216 < length text
IsAnyFault text (Line n c) = (length text ≤ 16777216) × (plain_of text ≡ Err (bad_line (at n c)))
IsAnyFault text PlainTooLong = (length text ≤ 16777216) × (plain_of text ≡ Err too_long)
IsAnyFault text (Plain error) = (length text ≤ 16777216) × HasFormFault text error
IsAnyFault text NoMemory = length text ≤ 16777216

-- what is told where a text is the plain form
abbrev pub IsFormFault : List ℕ → AnySourceFault → Type 0
IsFormFault form TooLong = ⊥
IsFormFault form (Line n c) = ⊥
IsFormFault form PlainTooLong = ⊥
IsFormFault form (Plain error) = IsFirstFault form error
IsFormFault form NoMemory = Unit {0}
