-- Writes one after another.
use Rattle.std.proofs.{Common.{◌≡◌, ℕ, ◌+◌, List, [], ◌∷◌, ◌++◌, map, take, drop, Option, Some, None, IfSome, sym, ap, ◌∙◌, subst, arith, append_assoc, append-nil}, lemmas.Grind.{flat_map-append}}
use Rattle.std.proofs.lemmas.List.{map-append, take-take, drop-take, take-append-drop}
use Rattle.zone_outside.specs.Exchanges.{Event, was_written, ExchangeSeen, Does, Wrote, WrotePart}

done_more : (before mid now : Option (List Event)) (parts : List (List ℕ)) (piece : List ℕ) →
    IfSome before (λ had. mid ≡ Some (had ++ map was_written parts)) → Does mid now (was_written piece) →
    IfSome before (λ had. now ≡ Some (had ++ map was_written (parts ++ piece ∷ [])))
done_more None mid now parts piece h more = tt
done_more (Some had) mid now parts piece h more =
    let step = subst (λ o. Does o now (was_written piece)) h more in
    step ∙ ap Some (append_assoc had (map was_written parts) (was_written piece ∷ []) ∙ ap (λ l. had ++ l) (sym (map-append was_written parts (piece ∷ []))))

wrote_more : {before mid now : ExchangeSeen} {bytes : List ℕ} (piece : List ℕ) → Wrote before mid bytes → Does mid.done now.done (was_written piece) →
    now.left ≡ mid.left → now.read_faults ≡ mid.read_faults → Wrote before now (bytes ++ piece)
wrote_more {before} {mid} {now} {bytes} piece wrote more left reads = record {
  parts = wrote.parts ++ piece ∷ [];
  whole = flat_map-append (λ part. part) wrote.parts (piece ∷ []) ∙ (λ i. wrote.whole i ++ append-nil piece i);
  done = done_more before.done mid.done now.done wrote.parts piece wrote.done more;
  left = left ∙ wrote.left;
  reads = reads ∙ wrote.reads;
}

-- after the first bytes, the next n
pub wrote_next : {before mid now : ExchangeSeen} (bytes piece : List ℕ) (at n : ℕ) → piece ≡ drop at bytes → Wrote before mid (take at bytes) →
    Does mid.done now.done (was_written (take n piece)) → now.left ≡ mid.left → now.read_faults ≡ mid.read_faults → Wrote before now (take (at + n) bytes)
wrote_next {before} {mid} {now} bytes piece at n is wrote more left reads =
    let parts : take at bytes ++ take n (drop at bytes) ≡ take (at + n) bytes =
    (λ i. sym (take-take at (at + n) bytes (omega arith)) i ++ sym (drop-take at n bytes) i) ∙ take-append-drop at (take (at + n) bytes) in
    subst (Wrote before now) (ap (λ l. take at bytes ++ take n l) is ∙ parts) (wrote_more (take n piece) wrote more left reads)

-- what a refused write leaves
pub wrote_part : {before mid now : ExchangeSeen} (bytes : List ℕ) (at : ℕ) → Wrote before mid (take at bytes) → now.done ≡ mid.done → now.left ≡ mid.left →
    now.read_faults ≡ mid.read_faults → WrotePart before now bytes
wrote_part {before} {mid} {now} bytes at wrote done left reads = record {
  part = take at bytes;
  rest = drop at bytes;
  parts = sym (take-append-drop at bytes);
  wrote = record {
    parts = wrote.parts;
    whole = wrote.whole;
    done = subst (λ o. IfSome before.done (λ had. o ≡ Some (had ++ map was_written wrote.parts))) (sym done) wrote.done;
    left = left ∙ wrote.left;
    reads = reads ∙ wrote.reads;
  };
}
