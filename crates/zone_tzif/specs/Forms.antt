-- What was found of the entries of 2102.
use Rattle.std.specs.Prelude.{◌≡◌, ℕ, ◌<◌, ◌≤◌, ◌&&◌, length, true}
use Rattle.tz_lookup.specs.{Sets.{span_in}, declared.set.FixedTimespanSet.{FixedTimespanSet}}
use Rattle.zone_tail.specs.Shapes.{entry_in}
use Rattle.zone_tail.specs.LastYear as year
use Rattle.zone_tzif.specs.{Tried.{is_of_year}, declared.form.Form.{Form}, declared.form.Form.TheVariants.{Steady, Yearly, Other}}

pub record ArePlaced (set : FixedTimespanSet) (start end : ℕ) : Type 0 where
  pub start_within : start < length set.others
  pub end_within : end < length set.others
  pub start_bound : start < 18446744073709551615
  pub end_bound : end < 18446744073709551615
  pub of_year : is_of_year (entry_in set start) && is_of_year (entry_in set end) ≡ true

-- this is how the code tells a form
abbrev pub Shows : FixedTimespanSet → year.Form → Form → Type 0
Shows set form (Steady k) = (form ≡ year.steady (span_in set k)) × (k ≤ length set.others)
Shows set form (Yearly start end) = (form ≡ year.yearly (entry_in set start) (entry_in set end)) × ArePlaced set start end
Shows set form Other = form ≡ year.other
