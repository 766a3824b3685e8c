-- Worked rows: the last year of a zone of a source whose changes come again, and of one whose changes don't; and of a file's zone.
use Rattle.std.proofs.Common.{◌≡◌, pos, refl}
use Rattle.tz_ever.specs.declared.recurrence.Recurrence.TheVariants.{Never, Later, Always}
use Rattle.sefunjaro.specs.{Zones.{last_year}, declared.zone.Origin.TheVariants.{Source, File}}

of_one_that_ends : last_year Source Never ≡ pos 2099
of_one_that_ends = refl

of_one_that_goes_on : last_year Source Later ≡ pos 9999
of_one_that_goes_on = refl

of_one_without_an_end : last_year Source Always ≡ pos 9999
of_one_without_an_end = refl

of_a_file : last_year File Never ≡ pos 9999
of_a_file = refl
