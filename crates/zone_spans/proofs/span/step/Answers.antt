use Rattle.std.proofs.Common.{◌≡◌, ℕ, ◌+◌, ◌-◌, ◌<◌, Bool, true, false, length, get_or, List, sym, ap, ◌∙◌, arith}
use Rattle.zone_spans.specs.{Collapse.{is_same_span, is_no_later}, Entries.{Entry}}
use Rattle.zone_spans.proofs.StepLemmas.{respan_step, drop_step, keep_step, read_at, zero_entry}
use Rattle.zone_spans.proofs.span.step.Goals.{else-kept-ge2-via-then-kept-ge2+else-is_no_later, else-kept-ge2-via-else-kept-ge2, else-kept-ge1-via-then-kept-ge1+else-is_same_span, else-kept-ge1-via-else-kept-ge1}
use Rattle.zone_spans.proofs.span.step.Goals as goal

-- the test of what was read, at the places
late_at : (xs : List Entry) (i p q : ℕ) (e k j : Entry) (b : Bool) → i < length xs → p < length xs → q < length xs
    → e ≡ get_or xs i e → k ≡ get_or xs p k → j ≡ get_or xs q j → is_no_later e k j ≡ b
    → (d : Entry) → is_no_later (get_or xs i d) (get_or xs p d) (get_or xs q d) ≡ b
late_at xs i p q e k j b li lp lq hi hp hq h d = (λ t. is_no_later (read_at xs i e d li hi t) (read_at xs p k d lp hp t)
    (read_at xs q j d lq hq t)) ∙ h

same_at : (xs : List Entry) (i p : ℕ) (e k : Entry) (b : Bool) → i < length xs → p < length xs → e ≡ get_or xs i e
    → k ≡ get_or xs p k → is_same_span e.1 k.1 ≡ b
    → (d : Entry) → is_same_span (get_or xs i d).1 (get_or xs p d).1 ≡ b
same_at xs i p e k b li lp hi hp h d = (λ t. is_same_span (read_at xs i e d li hi t).1 (read_at xs p k d lp hp t).1) ∙ h

pub returns-then-is_no_later-clause-step : goal.returns-then-is_no_later-clause-step
returns-then-is_no_later-clause-step c =
    let xs = c.args.rest.now in
    let n = c.args.kept in
    let late = late_at xs c.args.from (n - 1) (n - 2) c.index.result.now c.index-then-kept-ge2.result.now
    c.index-then-kept-ge2-2.result.now true c.requires.within (omega arith) (omega arith)
    c.index.ensures c.index-then-kept-ge2.ensures c.index-then-kept-ge2-2.ensures (sym c.is_no_later.ensures ∙ c.if-is_no_later.true) in
    respan_step xs c.respan.new.rest n (n - 1) (n - 2) c.args.from c.index.result.now (omega arith)
    (omega arith) c.requires.order c.requires.within late c.respan.ensures.put

-- where two are kept the entry is later, by either way to the second test
later_of : (xs : List Entry) (n i p q : ℕ) (d : Entry) → ((d : Entry)
    → is_no_later (get_or xs i d) (get_or xs (n - 1) d) (get_or xs (n - 2) d) ≡ false) → n ≡ p + 1 → p ≡ q + 1
    → is_no_later (get_or xs i d) (get_or xs p d) (get_or xs q d) ≡ false
later_of xs n i p q d h e f =
    let at : n - 1 ≡ p = omega arith in
    let at' : n - 2 ≡ q = omega arith in
    (λ t. is_no_later (get_or xs i d) (get_or xs (sym at t) d) (get_or xs (sym at' t) d)) ∙ h d

pub returns-then-is_same_span-clause-step : goal.returns-then-is_same_span-clause-step
returns-then-is_same_span-clause-step c =
    let xs = c.args.rest.now in
    let n = c.args.kept in
    let same = same_at xs c.args.from (n - 1) c.index-then-kept-ge1.result.now c.index-then-kept-ge1-2.result.now true
    c.requires.within (omega arith)
    c.index-then-kept-ge1.ensures c.index-then-kept-ge1-2.ensures (sym c.is_same_span.ensures ∙ c.if-is_same_span.true) in
    let later : (p q : ℕ) (d : Entry) → n ≡ p + 1 → p ≡ q + 1
    → is_no_later (get_or xs c.args.from d) (get_or xs p d) (get_or xs q d) ≡ false =
    elim c.else-kept-ge2.branch [
      | else-kept-ge2-via-then-kept-ge2+else-is_no_later w ↦ λ p q d e f. later_of xs n c.args.from p q d
          (late_at xs c.args.from (n - 1) (n - 2) w.index.result.now w.index-then-kept-ge2.result.now
          w.index-then-kept-ge2-2.result.now false c.requires.within (omega arith) (omega arith)
          w.index.ensures w.index-then-kept-ge2.ensures w.index-then-kept-ge2-2.ensures
          (sym w.is_no_later.ensures ∙ w.if-is_no_later.false)) e f
      | else-kept-ge2-via-else-kept-ge2 w ↦ λ p q d e f. absurd (omega (arith, e, f))
    ] in
    let at : n ≡ n - 1 + 1 = omega arith in
    drop_step xs n (n - 1) c.args.from at c.requires.order c.requires.within same (λ q d f. later (n - 1) q d at f)

pub returns-clause-step : goal.returns-clause-step
returns-clause-step c =
    let xs = c.args.rest.now in
    let n = c.args.kept in
    let later : (p q : ℕ) (d : Entry) → n ≡ p + 1 → p ≡ q + 1
    → is_no_later (get_or xs c.args.from d) (get_or xs p d) (get_or xs q d) ≡ false =
    elim c.else-kept-ge2.branch [
      | else-kept-ge2-via-then-kept-ge2+else-is_no_later w ↦ λ p q d e f. later_of xs n c.args.from p q d
          (late_at xs c.args.from (n - 1) (n - 2) w.index.result.now w.index-then-kept-ge2.result.now
          w.index-then-kept-ge2-2.result.now false c.requires.within (omega arith) (omega arith)
          w.index.ensures w.index-then-kept-ge2.ensures w.index-then-kept-ge2-2.ensures
          (sym w.is_no_later.ensures ∙ w.if-is_no_later.false)) e f
      | else-kept-ge2-via-else-kept-ge2 w ↦ λ p q d e f. absurd (omega (arith, e, f))
    ] in
    let other : (p : ℕ) (d : Entry) → n ≡ p + 1 → is_same_span (get_or xs c.args.from d).1 (get_or xs p d).1 ≡ false =
    elim c.else-kept-ge1.branch [
      | else-kept-ge1-via-then-kept-ge1+else-is_same_span w ↦ λ p d e.
          let at : n - 1 ≡ p = omega (arith, e) in
          ap (λ k. is_same_span (get_or xs c.args.from d).1 (get_or xs k d).1) (sym at)
          ∙ same_at xs c.args.from (n - 1) w.index-then-kept-ge1.result.now w.index-then-kept-ge1-2.result.now false
          c.requires.within (omega arith)
          w.index-then-kept-ge1.ensures w.index-then-kept-ge1-2.ensures (sym w.is_same_span.ensures ∙ w.if-is_same_span.false) d
      | else-kept-ge1-via-else-kept-ge1 w ↦ λ p d e. absurd (omega (arith, e))
    ] in
    let z = zero_entry in
    keep_step xs c.keep.new.rest n c.args.from z c.requires.order c.requires.within other later c.keep.ensures.put
