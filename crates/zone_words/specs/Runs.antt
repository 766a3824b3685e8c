-- How a run of a filter over an exchange ends.
use Rattle.std.specs.Prelude.{◌≡◌, ℕ, ◌≤◌, Bool, true, false, ◌||◌, List, [], ◌∷◌, ◌++◌, length, Option, Some, IfSome}
use Rattle.zone_outside.specs.{Exchanges.{Event, was_read, was_written, ExchangeSeen, received, sent, Wrote, WrotePart}, Outside.{Rose, last_count}}
use Rattle.zone_words.specs.{Filters.{Made, in_all, fails_in_all}, declared.running.StreamEnd.{StreamEnd}, declared.running.StreamEnd.TheVariants.{Done, Fault, Read, Write, NoMemory, TooLong}}

-- after these bytes were read and those were written: whenever a read is asked, what is written is what is due of the bytes read by then
abbrev pub InOrder : (List ℕ → List ℕ) → List ℕ → List ℕ → List Event → Type 0
InOrder due fed written [] = Unit {0}
InOrder due fed written (was_read bytes ∷ events) = (written ≡ due fed) × InOrder due (fed ++ bytes) written events
InOrder due fed written (was_written bytes ∷ events) = InOrder due fed (written ++ bytes) events

-- the exchange did this since it had done that: it read what was fed and wrote what was written, in order
pub record Did (due : List ℕ → List ℕ) (had : List Event) (done : Option (List Event)) (fed written : List ℕ) : Type 0 where
  pub events : List Event
  pub grew : done ≡ Some (had ++ events)
  pub order : InOrder due [] [] events
  pub reads : received events ≡ fed
  pub writes : sent events ≡ written

-- what was fed is the front of these bytes, and the rest is still to come
pub record Took (left : List ℕ) (now : Option (List ℕ)) (fed : List ℕ) : Type 0 where
  pub rest : List ℕ
  pub parts : left ≡ fed ++ rest
  pub left_is : now ≡ Some rest

-- a run so far: what it was fed and what was written, where the exchange tells these
pub record SoFar (made : Made) (before now : ExchangeSeen) (fed written : List ℕ) : Type 0 where
  pub done : IfSome before.done (λ had. Did made.so_far had now.done fed written)
  pub input : IfSome before.left (λ left. Took left now.left fed)

-- what is written at the end, of what was fed
abbrev pub IsDue : Made → List ℕ → List ℕ → StreamEnd → Type 0
-- all, and no fault is in it, or one is
IsDue made fed written Done = (written ≡ in_all made fed) × (fails_in_all made fed ≡ false)
IsDue made fed written Fault = (written ≡ in_all made fed) × (fails_in_all made fed ≡ true)
-- all that was due when the refused read was asked
IsDue made fed written Read = written ≡ made.so_far fed
-- a first part
IsDue made fed written Write = (rest : List ℕ) × (in_all made fed ≡ written ++ rest)
-- what was due before the last piece
IsDue made fed written NoMemory = (front piece : List ℕ) × (fed ≡ front ++ piece) × (written ≡ made.so_far front)
-- more bytes than a count has
IsDue made fed written TooLong = (written ≡ made.so_far fed) × (last_count ≤ length fed)

-- why it ended
abbrev pub HasEnded : ExchangeSeen → ExchangeSeen → StreamEnd → Type 0
-- the input was read to its end
HasEnded before now Done = IfSome before.left (λ left. now.left ≡ Some [])
HasEnded before now Fault = IfSome before.left (λ left. now.left ≡ Some [])
-- a call was refused
HasEnded before now Read = Rose before.read_faults now.read_faults
HasEnded before now Write = Rose before.write_faults now.write_faults
HasEnded before now NoMemory = Unit {0}
HasEnded before now TooLong = Unit {0}

-- how a run ended over an exchange that was seen so before and is seen so now
pub record Ends (made : Made) (before now : ExchangeSeen) (end : StreamEnd) : Type 0 where
  pub fed : List ℕ
  pub written : List ℕ
  pub so_far : SoFar made before now fed written
  pub due : IsDue made fed written end
  pub cause : HasEnded before now end

-- behind these bytes a piece was fed, and what is due now was written
pub record Steps (made : Made) (fed piece : List ℕ) (before now : ExchangeSeen) (fault : Bool) : Type 0 where
  pub more : List ℕ
  pub due : made.so_far (fed ++ piece) ≡ made.so_far fed ++ more
  pub faults : made.fails (fed ++ piece) ≡ (made.fails fed || fault)
  pub wrote : Wrote before now more
  pub writes : before.write_faults ≤ now.write_faults

-- or not: memory ran out, or a write was refused
abbrev pub Stops : Made → List ℕ → List ℕ → ExchangeSeen → ExchangeSeen → StreamEnd → Type 0
Stops made fed piece before now NoMemory = now ≡ before
Stops made fed piece before now Write =
    (more : List ℕ) × (made.so_far (fed ++ piece) ≡ made.so_far fed ++ more) × WrotePart before now more × Rose before.write_faults now.write_faults
Stops made fed piece before now Done = ⊥
Stops made fed piece before now Fault = ⊥
Stops made fed piece before now Read = ⊥
Stops made fed piece before now TooLong = ⊥

-- behind these bytes the input ended, and the rest was written
abbrev pub Finishes : Made → List ℕ → ExchangeSeen → ExchangeSeen → StreamEnd → Type 0
Finishes made fed before now Done = Wrote before now (made.at_end fed) × (fails_in_all made fed ≡ false)
Finishes made fed before now Fault = Wrote before now (made.at_end fed) × (fails_in_all made fed ≡ true)
Finishes made fed before now Write = WrotePart before now (made.at_end fed) × Rose before.write_faults now.write_faults
Finishes made fed before now NoMemory = now ≡ before
Finishes made fed before now Read = ⊥
Finishes made fed before now TooLong = ⊥
