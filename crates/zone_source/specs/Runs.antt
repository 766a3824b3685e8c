-- How a run over a file ends, with the requests of an input or without.
use Rattle.std.specs.Prelude.{◌≡◌, ◌≢◌, ◌⊎◌, ◌↔◌, ℕ, ◌+◌, ◌<◌, ◌≤◌, List, [], length, Option, Some, None, option_map, IfSome, IsSome, IsNone}
use Rattle.zone_outside.specs.{Limit.{text_limit}, Outside.{Rose, TooMuch}, Seen.{ShelfSeen, InputSeen, OutputSeen, shelf_seen, input_seen, output_seen, Grew, GrewBySome}, declared.outside.Source.{Ghosts as SourceOf}, declared.outside.Sink.{Ghosts as SinkOf}}
use Rattle.zone_source.specs.{Statuses.{EndsBy, IsPastLimit, IsWritten, IsSilent}, declared.running.Status.{Status}}
use Rattle.zone_source.specs.declared.running.Status.TheVariants as status

-- what is seen of the outside of a run
pub record Seen : Type 0 where
  pub shelf : ShelfSeen
  pub input : InputSeen
  pub output : OutputSeen

abbrev pub run_seen : {H I O : Type 0} → SourceOf H → SourceOf I → SinkOf O → H → I → O → Seen
run_seen of_shelf of_input of_output shelf input output = record {
  shelf = shelf_seen of_shelf shelf;
  input = input_seen of_input input;
  output = output_seen of_output output;
}

-- an input that holds nothing, and never fails
abbrev pub no_input : InputSeen
no_input = record { left = Some []; given = 0; faults = 0 }

-- of a run without an input
abbrev pub seen : {H O : Type 0} → SourceOf H → SinkOf O → H → O → Seen
seen of_shelf of_output shelf output = record {
  shelf = shelf_seen of_shelf shelf;
  input = no_input;
  output = output_seen of_output output;
}

-- no count of faults rose
pub record NoneFailed (before now : Seen) : Type 0 where
  pub shelf : ¬ (Rose before.shelf.faults now.shelf.faults)
  pub input : ¬ (Rose before.input.faults now.input.faults)
  pub output : ¬ (Rose before.output.faults now.output.faults)

-- what a program writes of a text and its requests, from what the output had to what it has: all lines, the line of a fault, a first
-- part of what is due; and how it ends where no call fails
pub record Writes : Type 1 where
  pub lines : List ℕ → List ℕ → OutputSeen → OutputSeen → Type 0
  pub fault : List ℕ → List ℕ → OutputSeen → OutputSeen → Type 0
  pub part : List ℕ → List ℕ → OutputSeen → OutputSeen → Type 0
  pub ends : List ℕ → List ℕ → Status → Type 0

-- where a file is named and the shelf tells its text
abbrev pub IfText : Option (List ℕ) → ShelfSeen → (List ℕ → Type 0) → Type 0
IfText name shelf P = IfSome name (λ file. IfSome (shelf.told file) P)

-- where the input tells its text too
abbrev pub IfTold : Option (List ℕ) → Seen → (List ℕ → List ℕ → Type 0) → Type 0
IfTold name outside P = IfText name outside.shelf (λ text. IfSome outside.input.left (P text))

-- how a run ended whose words are in no form, or name this file if they name one
pub record EndsOver (writes : Writes) (NoForm : Type 0) (name : Option (List ℕ)) (before now : Seen) (end : Status) : Type 0 where
  -- 1 exactly where the words are in no form, and nothing is read or written
  pub words : (end ≡ status.Words) ↔ NoForm
  pub untouched : end ≡ status.Words → now ≡ before
  -- the input is touched only where the shelf's text was read to its end
  pub order : (now.input ≡ before.input) ⊎ IfText name before.shelf (λ text. now.shelf.left ≡ Some [])
  -- 0, 2 and 4: where a file is read, both texts were read to their end before anything was written
  pub shelf_ended : IsWritten end → IfText name before.shelf (λ text. now.shelf.left ≡ Some [])
  pub input_ended : IsWritten end → IfSome name (λ file. IfSome before.input.left (λ requests. now.input.left ≡ Some []))
  -- 0 and 2: what is due was written
  pub done : end ≡ status.Done → IfTold name before (λ text requests. writes.lines text requests before.output now.output)
  pub refused : end ≡ status.Fault → IfTold name before (λ text requests. writes.fault text requests before.output now.output)
  -- 3 and 4: a call failed; 3 before the input is touched or by it; 4 after a first part of what is due
  pub read : end ≡ status.Read →
      (Rose before.shelf.faults now.shelf.faults × (now.input ≡ before.input)) ⊎ Rose before.input.faults now.input.faults
  pub write : end ≡ status.Write → Rose before.output.faults now.output.faults
  pub prefix : end ≡ status.Write → IfTold name before (λ text requests. writes.part text requests before.output now.output)
  -- 6: too much was given; then nothing but 6 or want of memory is answered
  pub too_long : end ≡ status.TooLong →
      (TooMuch text_limit before.shelf.given now.shelf.given × (now.input ≡ before.input))
      ⊎ TooMuch text_limit before.input.given now.input.given
  pub too_much : (before.shelf.given + text_limit < now.shelf.given) ⊎ (before.input.given + text_limit < now.input.given) → IsPastLimit end
  -- nothing is written but by 0, 2 and 4
  pub silent : IsSilent end → now.output ≡ before.output
  -- where the texts are told and no call fails, the status is by what they say or by the lengths, or memory ran out
  pub complete : NoneFailed before now → IfTold name before (λ text requests.
      length text ≤ text_limit → length requests ≤ text_limit → writes.ends text requests end)
  pub past_limit : NoneFailed before now → IfTold name before (λ text requests.
      (text_limit < length text) ⊎ (text_limit < length requests) → IsPastLimit end)

-- where no call fails, a run may end after the lines, after the line of a fault, and for want of memory
pub record EndsWell (writes : Writes) : Type 0 where
  pub lines : (text requests : List ℕ) (before now : OutputSeen) → writes.lines text requests before now
      → writes.ends text requests status.Done
  pub fault : (text requests : List ℕ) (before now : OutputSeen) → writes.fault text requests before now
      → writes.ends text requests status.Fault
  pub memory : (text requests : List ℕ) → writes.ends text requests status.NoMemory

-- what a program without an input does with what its words ask: the file that it reads, and over the text of that why there is no
-- answer, and the bytes that are due
pub record Work (T C : Type 0) : Type 0 where
  pub file : T → List ℕ
  pub cause : T → List ℕ → Option C
  pub due : T → List ℕ → List ℕ

-- what it writes: the answer where there is no cause, and the line of the cause where there is one; the status is by the cause
abbrev pub writes_asked : {T C : Type 0} → Work T C → Option T → Writes
writes_asked work task = record {
  lines = λ source _ before now. IfSome task (λ t. (work.cause t source ≡ None) × Grew before now (work.due t source));
  fault = λ source _ before now. IfSome task (λ t. IsSome (work.cause t source) × Grew before now (work.due t source));
  part = λ source _ before now. IfSome task (λ t. GrewBySome before now (work.due t source));
  ends = λ source _ end. IfSome task (λ t. EndsBy (work.cause t source) end);
}

-- how its run ended whose words ask this
abbrev pub EndsOf : {T C : Type 0} → Work T C → Option T → Seen → Seen → Status → Type 0
EndsOf work task before now end = EndsOver (writes_asked work task) (IsNone task) (option_map work.file task) before now end

-- how a run ended over a text under every name and an output, which both never fail: not for a failed call, but by the words, the
-- cause and the length alone, or for want of memory
pub record EndsSurely {T C : Type 0} (work : Work T C) (task : Option T) (text : List ℕ) (end : Status) : Type 0 where
  pub read : end ≢ status.Read
  pub write : end ≢ status.Write
  pub words : (end ≡ status.Words) ↔ IsNone task
  pub complete : IfSome task (λ t. length text ≤ text_limit → EndsBy (work.cause t text) end)
  pub past_limit : IfSome task (λ t. text_limit < length text → IsPastLimit end)
