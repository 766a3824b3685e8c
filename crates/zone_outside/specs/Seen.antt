-- What is seen of the outside: of a shelf, of an input, of an output.
use Rattle.std.specs.Prelude.{◌≡◌, ℕ, List, ◌++◌, Option, Some, IfSome}
use Rattle.zone_outside.specs.{Outside.{GrewByPrefix}, declared.outside.Source.{Ghosts as SourceOf}, declared.outside.Sink.{Ghosts as SinkOf}}

-- a shelf: the texts that it tells, what is left of the one that was fetched, what it gave, and its faults
pub record ShelfSeen : Type 0 where
  pub told : List ℕ → Option (List ℕ)
  pub left : Option (List ℕ)
  pub given : ℕ
  pub faults : ℕ

pub record InputSeen : Type 0 where
  pub left : Option (List ℕ)
  pub given : ℕ
  pub faults : ℕ

pub record OutputSeen : Type 0 where
  pub taken : Option (List ℕ)
  pub faults : ℕ

abbrev pub shelf_seen : {H : Type 0} → SourceOf H → H → ShelfSeen
shelf_seen of shelf = record { told = of.told shelf; left = of.left shelf; given = of.given shelf; faults = of.faults shelf }

abbrev pub input_seen : {I : Type 0} → SourceOf I → I → InputSeen
input_seen of input = record { left = of.left input; given = of.given input; faults = of.faults input }

abbrev pub output_seen : {O : Type 0} → SinkOf O → O → OutputSeen
output_seen of output = record { taken = of.taken output; faults = of.faults output }

-- where the output tells what it has taken, that grew by these bytes
abbrev pub Grew : OutputSeen → OutputSeen → List ℕ → Type 0
Grew before now bytes = IfSome before.taken (λ had. now.taken ≡ Some (had ++ bytes))

-- it grew by a first part of these bytes
abbrev pub GrewBySome : OutputSeen → OutputSeen → List ℕ → Type 0
GrewBySome before now bytes = IfSome before.taken (λ had. GrewByPrefix had now.taken bytes)
