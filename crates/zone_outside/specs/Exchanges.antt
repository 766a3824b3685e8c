-- What an object that is source and sink does, in the order of its calls.
use Rattle.std.specs.{Prelude.{◌≡◌, ℕ, List, [], ◌∷◌, ◌++◌, map, take, Option, Some, IfSome, Result, MatchResult}, List.{flat_map}}
use Rattle.zone_outside.specs.Outside.{HasCause, Reads}

-- a read that gave these bytes, none at the end, or a write that took these
pub data Event : Type 0 where
  was_read : List ℕ → Event
  was_written : List ℕ → Event

-- what it did so far and the bytes still to come, where it tells these, and how often its reads and its writes have failed
pub record ExchangeSeen : Type 0 where
  pub done : Option (List Event)
  pub left : Option (List ℕ)
  pub read_faults : ℕ
  pub write_faults : ℕ

-- where it tells what it did, that grew by this
abbrev pub Does : Option (List Event) → Option (List Event) → Event → Type 0
Does before now event = IfSome before (λ had. now ≡ Some (had ++ event ∷ []))

-- an accepted read is done, and consumes of what is left; a refused one changes the count of failed reads alone
pub record Receives {E : Type 0} (before now : ExchangeSeen) (into : List ℕ) (result : Result ℕ E) : Type 0 where
  pub done : MatchResult result (λ n. Does before.done now.done (was_read (take n into))) (λ _. now.done ≡ before.done)
  pub bytes : Reads before.left now.left into result
  pub cause : HasCause before.read_faults now.read_faults result
  pub writes : now.write_faults ≡ before.write_faults

-- an accepted write is done; a refused one changes the count of failed writes alone
pub record Sends {E : Type 0} (before now : ExchangeSeen) (piece : List ℕ) (result : Result ℕ E) : Type 0 where
  pub done : MatchResult result (λ n. Does before.done now.done (was_written (take n piece))) (λ _. now.done ≡ before.done)
  pub left : now.left ≡ before.left
  pub cause : HasCause before.write_faults now.write_faults result
  pub reads : now.read_faults ≡ before.read_faults

-- all that was read, and all that was written
abbrev pub received : List Event → List ℕ
received [] = []
received (was_read bytes ∷ events) = bytes ++ received events
received (was_written bytes ∷ events) = received events

abbrev pub sent : List Event → List ℕ
sent [] = []
sent (was_read bytes ∷ events) = sent events
sent (was_written bytes ∷ events) = bytes ++ sent events

-- these bytes were written, in some parts, and nothing was read
pub record Wrote (before now : ExchangeSeen) (bytes : List ℕ) : Type 0 where
  pub parts : List (List ℕ)
  pub whole : flat_map (λ part. part) parts ≡ bytes
  pub done : IfSome before.done (λ had. now.done ≡ Some (had ++ map was_written parts))
  pub left : now.left ≡ before.left
  pub reads : now.read_faults ≡ before.read_faults

-- a first part of these bytes was
pub record WrotePart (before now : ExchangeSeen) (bytes : List ℕ) : Type 0 where
  pub part : List ℕ
  pub rest : List ℕ
  pub parts : bytes ≡ part ++ rest
  pub wrote : Wrote before now part

-- the faults of the real one
pub record ExchangeFaults : Type 0 where
  pub read_faults : ℕ
  pub write_faults : ℕ
