-- How many instants a local time has, in a word.
use Rattle.std.specs.Prelude.{ℕ, ◌==◌, List, codes, if◌then◌else◌}
use Rattle.zone_texts.specs.declared.kind.Kind.{Kind, TheVariants.{One, Gap, Fold, More}}

abbrev pub kind_of : ℕ → Kind
kind_of count = if count == 0 then Gap else (if count == 1 then One else (if count == 2 then Fold else More))

abbrev pub kind_text : Kind → List ℕ
kind_text One = codes "one"
kind_text Gap = codes "gap"
kind_text Fold = codes "fold"
kind_text More = codes "more"
