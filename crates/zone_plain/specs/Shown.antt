-- What the code's values show.
use Rattle.std.specs.Prelude.{ℕ, List}
use Rattle.zone_plain.specs.{Written.{Part, Rules, Zones, Links}, declared.parts.Parts.{Parts}, declared.asked.Around.{Around}, declared.asked.Pair.{Pair}, declared.asked.Asked.{Asked}}
use Rattle.zone_plain.specs.Formats as of_format
use Rattle.zone_plain.specs.Pairs as of_pair
use Rattle.zone_plain.specs.declared.asked.Asked.TheVariants as code

abbrev pub parts_shown : Around → of_format.Around
parts_shown parts = of_format.around parts.before.now parts.after.now

abbrev pub pair_shown : Pair → of_pair.Pair
pair_shown pair = of_pair.pair_of pair.rules.now pair.offset

abbrev pub asked_shown : Asked → of_pair.Asked
asked_shown code.Nothing = of_pair.nothing
asked_shown (code.Total parts total) = of_pair.total (parts_shown parts) total
asked_shown (code.Under parts pair) = of_pair.under (parts_shown parts) (pair_shown pair)

abbrev pub text_in : Parts → Part → List ℕ
text_in parts Rules = parts.rules.items
text_in parts Zones = parts.zones.items
text_in parts Links = parts.links.items
