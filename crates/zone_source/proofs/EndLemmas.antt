-- How a run ends after both of its texts were read, or the first of them.
use Rattle.std.proofs.{Common.{◌≡◌, ◌⊎◌, ◌+◌, ◌<◌, ◌≤◌, ℕ, List, [], length, Some, IfSome, IsNone, refl, inl, inr}, lemmas.Option.{IfSome_then}}
use Rattle.zone_outside.specs.{Limit.{text_limit}, Outside.{Counted, Rose, TooMuch}, declared.outside.ReadEnd.{ReadEnd}}
use Rattle.zone_outside.specs.declared.outside.ReadEnd.TheVariants as read
use Rattle.zone_source.specs.{Statuses.{IsPastLimit, IsSilent, IsWritten, status_of}, Runs.{IfTold, NoneFailed, Seen, Writes, EndsOver, EndsWell}, Responses.{Responds}, declared.running.Status.{Status}}
use Rattle.zone_source.proofs.TextReadLemmas.{Read, BothRead, NotRead, where_told, neither_more, neither_long, if_told, too_short, no_more_failed, read_not_ended, too_long_not_ended, no_memory_not_ended}
use Rattle.zone_source.specs.declared.running.Status.TheVariants as status
use Rattle.zone_source.specs.declared.running.Answered.TheVariants as answered

-- by what is known of each reading
pub both_of : {name : List ℕ} {before now : Seen} {text requests : List ℕ} → IfSome (before.shelf.told name) (λ t. (text ≡ t) × (now.shelf.left ≡ Some []))
    → length text ≤ text_limit → Counted before.shelf.given now.shelf.given (length text)
    → IfSome before.input.left (λ t. (requests ≡ t) × (now.input.left ≡ Some [])) → length requests ≤ text_limit
    → Counted before.input.given now.input.given (length requests) → BothRead name before now text requests
both_of bytes within given more short got = record {
  shelf = record { text = bytes; within = within; given = given };
  input = record { text = more; within = short; given = got };
}

-- a status by which something is written
abbrev IsOther : Status → Type 0
IsOther end = (end ≡ status.Words → ⊥) × (end ≡ status.Read → ⊥) × (end ≡ status.NoMemory → ⊥) × (end ≡ status.TooLong → ⊥)

not_silent : (end : Status) → IsOther end → IsSilent end → ⊥
not_silent end others (inl e) = others.0 e
not_silent end others (inr (inl e)) = others.1 e
not_silent end others (inr (inr (inl e))) = others.2 e
not_silent end others (inr (inr (inr e))) = others.3 e

-- what holds of a status at which both texts were read, and its own fields
pub record EndsRead (writes : Writes) (before now : Seen) (text requests : List ℕ) (end : Status) : Type 0 where
  pub complete : NoneFailed before now → writes.ends text requests end
  pub done : end ≡ status.Done → writes.lines text requests before.output now.output
  pub refused : end ≡ status.Fault → writes.fault text requests before.output now.output
  pub write : end ≡ status.Write → Rose before.output.faults now.output.faults × writes.part text requests before.output now.output
  pub others : IsOther end

both_read : (writes : Writes) (name : List ℕ) (before now : Seen) (text requests : List ℕ) (end : Status) → BothRead name before now text requests
    → EndsRead writes before now text requests end → EndsOver writes (IsNone (Some name)) (Some name) before now end
both_read writes name before now text requests end both own = record {
  words = (λ e. absurd (own.others.0 e), λ e. absurd (cc));
  untouched = λ e. absurd (own.others.0 e);
  order = inr (IfSome_then (before.shelf.told name) both.shelf.text (λ _ h. h.1));
  shelf_ended = λ _. IfSome_then (before.shelf.told name) both.shelf.text (λ _ h. h.1);
  input_ended = λ _. IfSome_then before.input.left both.input.text (λ _ h. h.1);
  done = λ e. told _ (own.done e);
  refused = λ e. told _ (own.refused e);
  read = λ e. absurd (own.others.1 e);
  write = λ e. (own.write e).0;
  prefix = λ e. told _ (own.write e).1;
  too_long = λ e. absurd (own.others.3 e);
  too_much = λ more. absurd (neither_more both more);
  silent = λ silent. absurd (not_silent end own.others silent);
  complete = λ none. told _ (λ _ _. own.complete none);
  past_limit = λ _. told _ (λ long. absurd (neither_long text requests both.shelf.within both.input.within long));
}
  where
    told : (P : List ℕ → List ℕ → Type 0) → P text requests → IfTold (Some name) before P
    told P h = where_told (before.shelf.told name) before.input.left _ _ text requests P both.shelf.text both.input.text h

-- every line was written
pub done_ends : (writes : Writes) → EndsWell writes → (name : List ℕ) (before now : Seen) (text requests : List ℕ) → BothRead name before now text requests →
    Responds writes text requests before.output now.output answered.Done → EndsOver writes (IsNone (Some name)) (Some name) before now status.Done
done_ends writes well name before now text requests both wrote = both_read writes name before now text requests status.Done both (record {
  complete = λ _. well.lines text requests _ _ wrote;
  done = λ _. wrote;
  refused = λ e. absurd (cc);
  write = λ e. absurd (cc);
  others = (λ e. cc, λ e. cc, λ e. cc, λ e. cc);
})

-- the line of the fault was written
pub fault_ends : (writes : Writes) → EndsWell writes → (name : List ℕ) (before now : Seen) (text requests : List ℕ) → BothRead name before now text requests →
    Responds writes text requests before.output now.output answered.Fault → EndsOver writes (IsNone (Some name)) (Some name) before now status.Fault
fault_ends writes well name before now text requests both wrote = both_read writes name before now text requests status.Fault both (record {
  complete = λ _. well.fault text requests _ _ wrote;
  done = λ e. absurd (cc);
  refused = λ _. wrote;
  write = λ e. absurd (cc);
  others = (λ e. cc, λ e. cc, λ e. cc, λ e. cc);
})

-- the output failed
pub failed_ends : (writes : Writes) → EndsWell writes → (name : List ℕ) (before now : Seen) (text requests : List ℕ) → BothRead name before now text requests →
    Responds writes text requests before.output now.output answered.Failed → EndsOver writes (IsNone (Some name)) (Some name) before now status.Write
failed_ends writes well name before now text requests both wrote = both_read writes name before now text requests status.Write both (record {
  complete = λ none. absurd (none.output wrote.0);
  done = λ e. absurd (cc);
  refused = λ e. absurd (cc);
  write = λ _. wrote;
  others = (λ e. cc, λ e. cc, λ e. cc, λ e. cc);
})

-- what holds of a status at which the input was not read to its end, and its own fields
pub record EndsUnread (writes : Writes) (name : List ℕ) (before now : Seen) (end : Status) : Type 0 where
  pub others : (end ≡ status.Words → ⊥) × (end ≡ status.Done → ⊥) × (end ≡ status.Fault → ⊥) × (end ≡ status.Write → ⊥)
  pub unwritten : IsWritten end → ⊥
  pub read : end ≡ status.Read → Rose before.input.faults now.input.faults
  pub too_long : end ≡ status.TooLong → TooMuch text_limit before.input.given now.input.given
  pub too_much : (before.shelf.given + text_limit < now.shelf.given) ⊎ (before.input.given + text_limit < now.input.given) → IsPastLimit end
  pub complete : NoneFailed before now → IfTold (Some name) before (λ text requests.
      length text ≤ text_limit → length requests ≤ text_limit → writes.ends text requests end)
  pub past_limit : NoneFailed before now → IfTold (Some name) before (λ text requests.
      (text_limit < length text) ⊎ (text_limit < length requests) → IsPastLimit end)

first_read : (writes : Writes) (name : List ℕ) (before now : Seen) (text : List ℕ) (end : Status)
    → Read (before.shelf.told name) now.shelf.left before.shelf.given now.shelf.given text → now.output ≡ before.output
    → EndsUnread writes name before now end → EndsOver writes (IsNone (Some name)) (Some name) before now end
first_read writes name before now text end first same own = record {
  words = (λ e. absurd (own.others.0 e), λ e. absurd (cc));
  untouched = λ e. absurd (own.others.0 e);
  order = inr (IfSome_then (before.shelf.told name) first.text (λ _ h. h.1));
  shelf_ended = λ _. IfSome_then (before.shelf.told name) first.text (λ _ h. h.1);
  input_ended = λ e. absurd (own.unwritten e);
  done = λ e. absurd (own.others.1 e);
  refused = λ e. absurd (own.others.2 e);
  read = λ e. inr (own.read e);
  write = λ e. absurd (own.others.3 e);
  prefix = λ e. absurd (own.others.3 e);
  too_long = λ e. inr (own.too_long e);
  too_much = own.too_much;
  silent = λ _. same;
  complete = own.complete;
  past_limit = own.past_limit;
}

-- the input was not read to its end
pub input_ends : (writes : Writes) → EndsWell writes → (name : List ℕ) (before now : Seen) (text : List ℕ) (end : ReadEnd) →
    Read (before.shelf.told name) now.shelf.left before.shelf.given now.shelf.given text → NotRead before.input now.input end
    → now.output ≡ before.output →
    EndsOver writes (IsNone (Some name)) (Some name) before now (status_of end)
input_ends writes well name before now text read.Failed first second same = first_read writes name before now text status.Read first same (record {
  others = (λ e. cc, λ e. cc, λ e. cc, λ e. cc);
  unwritten = read_not_ended;
  read = λ _. second.failed refl;
  too_long = λ e. absurd (cc);
  too_much = λ more. absurd (no_more_failed name before now text first second more);
  complete = λ none. absurd (none.input (second.failed refl));
  past_limit = λ none. absurd (none.input (second.failed refl));
})
input_ends writes well name before now text read.TooLong first second same = first_read writes name before now text status.TooLong first same (record {
  others = (λ e. cc, λ e. cc, λ e. cc, λ e. cc);
  unwritten = too_long_not_ended;
  read = λ e. absurd (cc);
  too_long = λ _. second.long refl;
  too_much = λ _. inl refl;
  complete = λ _. if_told (before.shelf.told name) before.input.left _ (λ _ r there _ short. absurd (too_short second r there short));
  past_limit = λ _. if_told (before.shelf.told name) before.input.left _ (λ _ _ _ _. inl refl);
})
input_ends writes well name before now text read.NoMemory first second same = first_read writes name before now text status.NoMemory first same (record {
  others = (λ e. cc, λ e. cc, λ e. cc, λ e. cc);
  unwritten = no_memory_not_ended;
  read = λ e. absurd (cc);
  too_long = λ e. absurd (cc);
  too_much = λ _. inr refl;
  complete = λ _. if_told (before.shelf.told name) before.input.left _ (λ t r _ _ _. well.memory t r);
  past_limit = λ _. if_told (before.shelf.told name) before.input.left _ (λ _ _ _ _. inr refl);
})
