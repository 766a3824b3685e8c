-- What is seen of a zone whose kinds are kept once.
use Rattle.std.specs.Prelude.{◌≡◌, ℕ, ℤ, pos, false, List, [], map, Result, slice_index_or, string_bytes}
use Rattle.zone_tzif_core.specs.{Shown.{ReadsAs}, Stored.{stored_kind}, Zones.{KindValue, ZoneValue}, declared.values.ReadFault.{ReadFault}, declared.zone_file.ZoneFile.{ZoneFile}}

-- what a number past all kinds would stand for: no change has one
abbrev pub unnumbered : KindValue
unnumbered = record { utoff = pos 0; is_dst = false; name = [] }

abbrev pub kind_numbered : List KindValue → ℕ → KindValue
kind_numbered kinds n = slice_index_or kinds n unnumbered

-- each time with the kind that has its number
abbrev pub change_with : List KindValue → ℤ × ℕ → ℤ × KindValue
change_with kinds change = (change.0, kind_numbered kinds change.1)

abbrev pub changes_with : List KindValue → List (ℤ × ℕ) → List (ℤ × KindValue)
changes_with kinds changes = map (change_with kinds) changes

-- the zone of kinds, changes and a footer: the kind with the number 0 is the first
abbrev pub file_with : List KindValue → List (ℤ × ℕ) → List ℕ → ZoneValue
file_with kinds changes footer = record { first = kind_numbered kinds 0; rest = changes_with kinds changes; footer = footer }

abbrev pub kinds_kept : ZoneFile → List KindValue
kinds_kept file = map (stored_kind file.names.items) file.kinds.items

abbrev pub zone_seen : ZoneFile → ZoneValue
zone_seen file = file_with (kinds_kept file) file.changes.items (string_bytes file.footer)

-- a zone of the result is what the bytes are
abbrev pub ReadsFile : (ZoneValue → Type 0) → Result ZoneFile ReadFault → Type 0
ReadsFile = ReadsAs zone_seen

-- a zone that the bytes are has this footer
pub record HasFooter (Is : ZoneValue → Type 0) (footer : List ℕ) : Type 0 where
  pub zone : ZoneValue
  pub told : Is zone
  pub ends : zone.footer ≡ footer
