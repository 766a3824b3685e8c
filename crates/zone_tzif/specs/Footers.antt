-- Texts that are footers, and where they say a set's offset.
use Rattle.std.specs.Prelude.{◌≡◌, ℕ, ℤ, ◌<ℤ◌, false, List, None}
use Rattle.civil_base.specs.Instants.{seconds_of}
use Rattle.tz_tzif.specs.{FooterForce.{FooterZone}, Standing.{StandsFor}}
use Rattle.tz_lookup.specs.declared.set.FixedTimespanSet.{FixedTimespanSet}
use Rattle.zone_tail.specs.Tails.{end_of_last_year, tail_fault}
use Rattle.zone_tzif.specs.Files.{is_contradicted}

-- it stands for something
pub record IsFooterText (text : List ℕ) : Type 0 where
  pub zone : FooterZone
  pub stands : StandsFor text zone

-- An instant at which a set's consistent file says the set's offset by its footer too: any, where no string carries the set on or the
-- string may say otherwise as a footer; else one before the end of the last year.
pub record IsSaid (set : FixedTimespanSet) (t : ℤ) : Type 0 where
  pub within : is_contradicted set ≡ false → tail_fault set ≡ None → seconds_of t <ℤ end_of_last_year set
