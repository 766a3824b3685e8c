-- Zones by their names: offsets, and what the source has.
use Rattle.std.specs.{Prelude.{ℕ, List, Result, Ok, Err}, Option.{option_map_or}}
use Rattle.zone_texts.specs.{Fixed.{fixed_view}, Views.{ZoneView}}
use Rattle.zone_command.specs.{Offsets.{offset_in}, Refusals.{name_words}, declared.named.NamedZone.{NamedZone}, declared.named.NamedZone.TheVariants.{Fixed, Found as In}}

-- what is seen of the zone that a name finds, or the words that tell why it finds none
abbrev pub Found : Type 0
Found = Result ZoneView (List ℕ)

abbrev pub named_view : {Z : Type 0} → (Z → ZoneView) → NamedZone Z → ZoneView
named_view view (Fixed zone) = fixed_view zone.offset zone.name.now
named_view view (In zone) = view zone

-- with the name in front of these words
abbrev pub told_of : List ℕ → Found → Found
told_of name (Ok view) = Ok view
told_of name (Err why) = Err (name_words name why)

-- an offset comes before all names of the source
abbrev pub named_in : (List ℕ → Found) → List ℕ → Found
named_in found name = option_map_or (λ offset. Ok (fixed_view offset name)) (offset_in name) (told_of name (found name))
