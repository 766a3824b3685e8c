-- A run over an exchange, call by call.
use Rattle.std.proofs.Common.{◌≡◌, refl, sym, ap, ◌∙◌, subst, arith, ℕ, ◌+◌, ◌<◌, ◌≤◌, Bool, false, ◌||◌, List, [], ◌∷◌, ◌++◌, map, take, length, Option, Some, None, IfSome, Ok, Err, append_assoc, append-nil, length-append}
use Rattle.std.proofs.lemmas.List.{length-take-le}
use Rattle.std.specs.List.{flat_map}
use Rattle.zone_outside.specs.{Exchanges.{Event, was_read, was_written, ExchangeSeen, Does, Receives, received, sent, Wrote}, Outside.{Consumes, Rose, last_count}, declared.outside.Failed.{Failed}}
use Rattle.zone_words.specs.{Filters.{Made, BeginsEmpty, in_all}, Runs.{InOrder, Did, Took, SoFar, Ends, HasEnded, IsDue, Steps, Stops, Finishes}, declared.running.StreamEnd.{StreamEnd}, declared.running.StreamEnd.TheVariants.{Done, Fault, Read, Write, NoMemory, TooLong}}
use Rattle.zone_words.specs.declared.running.StreamEnd.TheVariants as status

received_more : (events more : List Event) → received (events ++ more) ≡ received events ++ received more
received_more [] more = refl
received_more (was_read bytes ∷ events) more = ap (λ l. bytes ++ l) (received_more events more) ∙ sym (append_assoc bytes (received events) (received more))
received_more (was_written bytes ∷ events) more = received_more events more

sent_more : (events more : List Event) → sent (events ++ more) ≡ sent events ++ sent more
sent_more [] more = refl
sent_more (was_read bytes ∷ events) more = sent_more events more
sent_more (was_written bytes ∷ events) more = ap (λ l. bytes ++ l) (sent_more events more) ∙ sym (append_assoc bytes (sent events) (sent more))

received_writes : (parts : List (List ℕ)) → received (map was_written parts) ≡ []
received_writes [] = refl
received_writes (part ∷ parts) = received_writes parts

sent_writes : (parts : List (List ℕ)) → sent (map was_written parts) ≡ flat_map (λ part. part) parts
sent_writes [] = refl
sent_writes (part ∷ parts) = ap (λ l. part ++ l) (sent_writes parts)

order_read : (due : List ℕ → List ℕ) (fed written bytes : List ℕ) (events : List Event) → InOrder due fed written events →
    written ++ sent events ≡ due (fed ++ received events) → InOrder due fed written (events ++ was_read bytes ∷ [])
order_read due fed written bytes [] order is = (sym (append-nil written) ∙ is ∙ ap due (append-nil fed), tt)
order_read due fed written bytes (was_read b ∷ events) order is =
    (order.0, order_read due (fed ++ b) written bytes events order.1 (is ∙ ap due (sym (append_assoc fed b (received events)))))
order_read due fed written bytes (was_written b ∷ events) order is =
    order_read due fed (written ++ b) bytes events order (append_assoc written b (sent events) ∙ is)

order_writes : (due : List ℕ → List ℕ) (fed written : List ℕ) (parts : List (List ℕ)) (events : List Event) → InOrder due fed written events →
    InOrder due fed written (events ++ map was_written parts)
order_writes due fed written [] [] order = tt
order_writes due fed written (part ∷ parts) [] order = order_writes due fed (written ++ part) parts [] tt
order_writes due fed written parts (was_read b ∷ events) order = (order.0, order_writes due (fed ++ b) written parts events order.1)
order_writes due fed written parts (was_written b ∷ events) order = order_writes due fed (written ++ b) parts events order

did_read : (due : List ℕ → List ℕ) (first mid now : Option (List Event)) (fed written bytes : List ℕ) → IfSome first (λ had. Did due had mid fed written) →
    Does mid now (was_read bytes) → written ≡ due fed → IfSome first (λ had. Did due had now (fed ++ bytes) written)
did_read due None mid now fed written bytes did more is = tt
did_read due (Some had) mid now fed written bytes did more is =
    let step = subst (λ o. Does o now (was_read bytes)) did.grew more in
    let reached : [] ++ sent did.events ≡ due ([] ++ received did.events) = did.writes ∙ is ∙ ap due (sym did.reads) in
    record {
      events = did.events ++ was_read bytes ∷ [];
      grew = step ∙ ap Some (append_assoc had did.events (was_read bytes ∷ []));
      order = order_read due [] [] bytes did.events did.order reached;
      reads = received_more did.events (was_read bytes ∷ []) ∙ (λ i. did.reads i ++ append-nil bytes i);
      writes = sent_more did.events (was_read bytes ∷ []) ∙ append-nil (sent did.events) ∙ did.writes;
    }

did_write : (due : List ℕ → List ℕ) (first mid now : Option (List Event)) (fed written bytes : List ℕ) (parts : List (List ℕ)) →
    IfSome first (λ had. Did due had mid fed written) → IfSome mid (λ had. now ≡ Some (had ++ map was_written parts)) → flat_map (λ part. part) parts ≡ bytes →
    IfSome first (λ had. Did due had now fed (written ++ bytes))
did_write due None mid now fed written bytes parts did more whole = tt
did_write due (Some had) mid now fed written bytes parts did more whole =
    let step = subst (λ o. IfSome o (λ had. now ≡ Some (had ++ map was_written parts))) did.grew more in
    record {
      events = did.events ++ map was_written parts;
      grew = step ∙ ap Some (append_assoc had did.events (map was_written parts));
      order = order_writes due [] [] parts did.events did.order;
      reads = received_more did.events (map was_written parts) ∙ ap (λ l. received did.events ++ l) (received_writes parts)
          ∙ append-nil (received did.events) ∙ did.reads;
      writes = sent_more did.events (map was_written parts) ∙ (λ i. did.writes i ++ (sent_writes parts ∙ whole) i);
    }

took_read : (first mid now : Option (List ℕ)) (fed into : List ℕ) (n : ℕ) → IfSome first (λ left. Took left mid fed) →
    IfSome mid (λ bytes. Consumes bytes now into n) → IfSome first (λ left. Took left now (fed ++ take n into))
took_read None mid now fed into n took more = tt
took_read (Some left) mid now fed into n took more =
    let step = subst (λ o. IfSome o (λ bytes. Consumes bytes now into n)) took.left_is more in
    record {
      rest = step.rest;
      parts = took.parts ∙ ap (λ l. fed ++ l) step.parts ∙ sym (append_assoc fed (take n into) step.rest);
      left_is = step.left_is;
    }

-- a read of nothing is the end
took_end : (first mid now : Option (List ℕ)) (fed into : List ℕ) (n : ℕ) → n ≡ 0 → IfSome first (λ left. Took left mid fed) →
    IfSome mid (λ bytes. Consumes bytes now into n) → IfSome first (λ left. now ≡ Some [])
took_end None mid now fed into n zero took more = tt
took_end (Some left) mid now fed into n zero took more =
    let step = subst (λ o. IfSome o (λ bytes. Consumes bytes now into n)) took.left_is more in
    step.left_is ∙ ap Some (step.ended zero)

after_read : {made : Made} {before mid now : ExchangeSeen} {fed : List ℕ} (into : List ℕ) (n : ℕ) → SoFar made before mid fed (made.so_far fed) →
    Receives {E = Failed} mid now into (Ok n) → SoFar made before now (fed ++ take n into) (made.so_far fed)
after_read {made} {before} {mid} {now} {fed} into n run receives = record {
  done = did_read made.so_far before.done mid.done now.done fed (made.so_far fed) (take n into) run.done receives.done refl;
  input = took_read before.left mid.left now.left fed into n run.input receives.bytes;
}

after_write : {made : Made} {before mid now : ExchangeSeen} {fed written bytes : List ℕ} → SoFar made before mid fed written → Wrote mid now bytes →
    SoFar made before now fed (written ++ bytes)
after_write {made} {before} {mid} {now} {fed} {written} {bytes} run wrote = record {
  done = did_write made.so_far before.done mid.done now.done fed written bytes wrote.parts run.done wrote.done wrote.whole;
  input = subst (λ o. IfSome before.left (λ left. Took left o fed)) (sym wrote.left) run.input;
}

-- of what was fed all that is due is written
pub record Fed (made : Made) (was_fed : List ℕ → Type 0) (before now : ExchangeSeen) (reads : ℕ) (fault : Bool) : Type 0 where
  pub fed : List ℕ
  pub is : was_fed fed
  pub many : reads ≤ length fed
  pub fails : fault ≡ made.fails fed
  pub so_far : SoFar made before now fed (made.so_far fed)
  pub read_faults : before.read_faults ≤ now.read_faults
  pub write_faults : before.write_faults ≤ now.write_faults

start_did : (due : List ℕ → List ℕ) (done : Option (List Event)) → due [] ≡ [] → IfSome done (λ had. Did due had done [] (due []))
start_did due None is = tt
start_did due (Some had) is = record { events = []; grew = ap Some (sym (append-nil had)); order = tt; reads = refl; writes = sym is }

start_took : (left : Option (List ℕ)) → IfSome left (λ l. Took l left [])
start_took None = tt
start_took (Some left) = record { rest = left; parts = refl; left_is = refl }

pub starts : (made : Made) (was_fed : List ℕ → Type 0) (before : ExchangeSeen) → BeginsEmpty made → was_fed [] → Fed made was_fed before before 0 false
starts made was_fed before empty is = record {
  fed = [];
  is = is;
  many = omega arith;
  fails = sym empty.no_fault;
  so_far = record { done = start_did made.so_far before.done empty.nothing; input = start_took before.left };
  read_faults = omega arith;
  write_faults = omega arith;
}

rose_later : (before mid now : ℕ) → before ≤ mid → Rose mid now → Rose before now
rose_later before mid now later rose = grind (arith, later, rose)

-- a read is refused
pub ends_read : {made : Made} {was_fed : List ℕ → Type 0} {before mid now : ExchangeSeen} {into : List ℕ} {reads : ℕ} {fault : Bool} {error : Failed} →
    Fed made was_fed before mid reads fault → Receives {E = Failed} mid now into (Err error) → Ends made before now status.Read
ends_read {made} {was_fed} {before} {mid} {now} run receives = record {
  fed = run.fed;
  written = made.so_far run.fed;
  so_far = record {
    done = subst (λ o. IfSome before.done (λ had. Did made.so_far had o run.fed (made.so_far run.fed))) (sym receives.done) run.so_far.done;
    input = subst (λ o. IfSome before.left (λ left. Took left o run.fed)) (sym receives.bytes) run.so_far.input;
  };
  due = refl;
  cause = rose_later before.read_faults mid.read_faults now.read_faults run.read_faults receives.cause.failed;
}

-- too much was read
pub ends_long : {made : Made} {was_fed : List ℕ → Type 0} {before now : ExchangeSeen} {reads : ℕ} {fault : Bool} →
    Fed made was_fed before now reads fault → last_count ≤ reads → Ends made before now status.TooLong
ends_long {made} run many = record { fed = run.fed; written = made.so_far run.fed; so_far = run.so_far; due = (refl, omega (arith, run.many)); cause = tt }

-- all that is due is written
all_written : (made : Made) (before mid now : ExchangeSeen) (fed : List ℕ) (end : StreamEnd) → SoFar made before mid fed (made.so_far fed) →
    Wrote mid now (made.at_end fed) → IsDue made fed (in_all made fed) end → HasEnded before now end → Ends made before now end
all_written made before mid now fed end run wrote due cause =
    record { fed = fed; written = in_all made fed; so_far = after_write run wrote; due = due; cause = cause }

-- the end was read, and the rest is written or not
finishing : (made : Made) (before mid now : ExchangeSeen) (fed : List ℕ) (end : StreamEnd) → SoFar made before mid fed (made.so_far fed) →
    before.write_faults ≤ mid.write_faults → IfSome before.left (λ left. mid.left ≡ Some []) → Finishes made fed mid now end → Ends made before now end
finishing made before mid now fed Done run later ended (wrote, none) =
    all_written made before mid now fed Done run wrote (refl, none) (subst (λ o. IfSome before.left (λ left. o ≡ Some [])) (sym wrote.left) ended)
finishing made before mid now fed Fault run later ended (wrote, some) =
    all_written made before mid now fed Fault run wrote (refl, some) (subst (λ o. IfSome before.left (λ left. o ≡ Some [])) (sym wrote.left) ended)
finishing made before mid now fed Write run later ended (part, rose) = record {
  fed = fed;
  written = made.so_far fed ++ part.part;
  so_far = after_write run part.wrote;
  due = (part.rest, ap (λ l. made.so_far fed ++ l) part.parts ∙ sym (append_assoc (made.so_far fed) part.part part.rest));
  cause = rose_later before.write_faults mid.write_faults now.write_faults later rose;
}
finishing made before mid now fed NoMemory run later ended same = record {
  fed = fed;
  written = made.so_far fed;
  so_far = subst (λ seen. SoFar made before seen fed (made.so_far fed)) (sym same) run;
  due = (fed, [], sym (append-nil fed), refl);
  cause = tt;
}
finishing made before mid now fed Read run later ended none = absurd none
finishing made before mid now fed TooLong run later ended none = absurd none

pub finishes : {made : Made} {was_fed : List ℕ → Type 0} {before mid then now : ExchangeSeen} {into : List ℕ} {n reads : ℕ} {fault : Bool} {end : StreamEnd} →
    (run : Fed made was_fed before mid reads fault) → Receives {E = Failed} mid then into (Ok n) → n ≡ 0 → Finishes made run.fed then now end → Ends made before now end
finishes {made} {was_fed} {before} {mid} {then} {now} {into} {n} {end = end} run receives zero done =
    let same : run.fed ++ take n into ≡ run.fed = ap (λ k. run.fed ++ take k into) zero ∙ append-nil run.fed in
    let later : before.write_faults ≤ then.write_faults = omega (arith, run.write_faults, receives.writes) in
    finishing made before then now run.fed end (subst (λ fed. SoFar made before then fed (made.so_far run.fed)) same (after_read into n run.so_far receives))
    later (took_end before.left mid.left then.left run.fed into n zero run.so_far.input receives.bytes) done

stopping : (made : Made) (before mid now : ExchangeSeen) (fed piece : List ℕ) (end : StreamEnd) → SoFar made before mid (fed ++ piece) (made.so_far fed) →
    before.write_faults ≤ mid.write_faults → Stops made fed piece mid now end → Ends made before now end
stopping made before mid now fed piece NoMemory run later same = record {
  fed = fed ++ piece;
  written = made.so_far fed;
  so_far = subst (λ seen. SoFar made before seen (fed ++ piece) (made.so_far fed)) (sym same) run;
  due = (fed, piece, refl, refl);
  cause = tt;
}
stopping made before mid now fed piece Write run later (more, is, part, rose) = record {
  fed = fed ++ piece;
  written = made.so_far fed ++ part.part;
  so_far = after_write run part.wrote;
  due = (
    part.rest ++ made.at_end (fed ++ piece),
    ap (λ l. l ++ made.at_end (fed ++ piece)) (is ∙ ap (λ l. made.so_far fed ++ l) part.parts ∙ sym (append_assoc (made.so_far fed) part.part part.rest))
        ∙ append_assoc (made.so_far fed ++ part.part) part.rest (made.at_end (fed ++ piece)),
  );
  cause = rose_later before.write_faults mid.write_faults now.write_faults later rose;
}
stopping made before mid now fed piece Done run later none = absurd none
stopping made before mid now fed piece Fault run later none = absurd none
stopping made before mid now fed piece Read run later none = absurd none
stopping made before mid now fed piece TooLong run later none = absurd none

pub stops : {made : Made} {was_fed : List ℕ → Type 0} {before mid then now : ExchangeSeen} {into piece : List ℕ} {n reads : ℕ} {fault : Bool} {end : StreamEnd} →
    (run : Fed made was_fed before mid reads fault) → Receives {E = Failed} mid then into (Ok n) → piece ≡ take n into → Stops made run.fed piece then now end
    → Ends made before now end
stops {made} {was_fed} {before} {mid} {then} {now} {into} {piece} {n} {end = end} run receives is done =
    let later : before.write_faults ≤ then.write_faults = omega (arith, run.write_faults, receives.writes) in
    stopping made before then now run.fed (take n into) end (after_read into n run.so_far receives) later (subst (λ p. Stops made run.fed p then now end) is done)

-- a piece was fed
pub steps : {made : Made} {was_fed now_fed : List ℕ → Type 0} {before mid then now : ExchangeSeen} {into piece : List ℕ} {n reads : ℕ} {fault faulty either : Bool} →
    (run : Fed made was_fed before mid reads fault) → Receives {E = Failed} mid then into (Ok n) → piece ≡ take n into → 0 < n → n ≤ length into →
    now_fed (run.fed ++ piece) → Steps made run.fed piece then now faulty → either ≡ (fault || faulty) → Fed made now_fed before now (reads + 1) either
steps {made} {was_fed} {now_fed} {before} {mid} {then} {now} {into} {piece} {n} {reads} {fault} {faulty} {either} run receives is some within fed step is_either = record {
  fed = run.fed ++ piece;
  is = fed;
  many =
      let size : length piece ≡ n = ap length is ∙ length-take-le n into within in
      omega (arith, run.many, size, length-append run.fed piece);
  fails = is_either ∙ ap (λ b. b || faulty) run.fails ∙ sym step.faults;
  so_far =
      let read : SoFar made before then (run.fed ++ piece) (made.so_far run.fed) =
      subst (λ p. SoFar made before then (run.fed ++ p) (made.so_far run.fed)) (sym is) (after_read into n run.so_far receives) in
      subst (SoFar made before now (run.fed ++ piece)) (sym step.due) (after_write read step.wrote);
  read_faults = omega (arith, run.read_faults, receives.cause.later, step.wrote.reads);
  write_faults = omega (arith, run.write_faults, receives.writes, step.writes);
}

-- memory runs out before the first call
pub ends_unbegun : (made : Made) (before : ExchangeSeen) → BeginsEmpty made → Ends made before before status.NoMemory
ends_unbegun made before empty =
    record { fed = []; written = made.so_far []; so_far = record { done = start_did made.so_far before.done empty.nothing; input = start_took before.left }; due = ([], [], refl, refl); cause = tt }
