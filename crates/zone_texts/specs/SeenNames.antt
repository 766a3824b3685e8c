-- What is seen of a name of a source.
use Rattle.std.specs.Prelude.{ℕ, List, Option, option_map}
use Rattle.zone_texts.specs.declared.entry.NameEntry.{NameEntry}

-- a name, and the zone that it leads to where it is a link
pub record NameSeen : Type 0 where
  pub name : List ℕ
  pub zone : Option (List ℕ)

abbrev pub name_seen : NameEntry → NameSeen
name_seen entry = record { name = entry.name.now; zone = option_map (λ zone. zone.now) entry.zone }
