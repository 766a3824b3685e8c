-- Firings that may take the place of others.
use Rattle.std.specs.Prelude.{◌≡◌, List, ◌++◌, Option, ℤ}
use Rattle.zone_spans.specs.{Entries.{start_entry}, Firings.{Firing}, Lines.{Line}, Listing.{listed_firings}}

-- whatever follows, a line with that start lists the same, and has the same entry at its start
pub record StandsFor (start : Option ℤ) (fired due : List Firing) : Type 0 where
  pub lists : (more : List Firing) → listed_firings start (fired ++ more) ≡ listed_firings start (due ++ more)
  pub starts : (line : Line) (more : List Firing) → start_entry line start (fired ++ more) ≡ start_entry line start (due ++ more)
