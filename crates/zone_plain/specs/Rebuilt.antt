-- A source of what is written.
use Rattle.std.specs.Prelude.{◌≡◌, ℕ, List, ◌++◌, Ok}
use Rattle.zone_source.specs.{Releases.{release_of}, Zones.{values_of}}
use Rattle.zone_plain.specs.{Heads.{head_values}, LineValues.{meant_in}, ReadBack.{IsReadBack}, WrittenLines.{JoinAlike, in_parts}}

-- the lines of the bytes say what was written, by parts, behind the line of the release, and mean the same as a source in any form, and have the rulesets, the zones and the links of
-- it; and the bytes name the release that the source names
pub record IsRebuilt (source bytes : List ℕ) : Type 0 where
  pub back : IsReadBack source bytes
  pub lines : values_of bytes ≡ head_values (release_of source) ++ in_parts back.out
  pub means : meant_in bytes ≡ Ok (head_values (release_of source) ++ in_parts back.out)
  pub alike : JoinAlike (values_of bytes) back.out
  pub release : release_of bytes ≡ release_of source
