-- Accepted calls of an exchange in memory, one after another.
use Rattle.std.proofs.Common.{◌≡◌, refl, sym, ap, ◌∙◌, arith, ℕ, ◌+◌, ◌≤◌, Bool, true, false, List, [], ◌∷◌, ◌++◌, length, take, drop, Option, Some, length-drop}
use Rattle.std.proofs.lemmas.List.{drop-drop, take_all, take_at, take-append-le, drop-append-le, take-append-drop, nil_from_length, length-take-le}
use Rattle.zone_outside.specs.{Exchanges.{Event, was_read, was_written, sent}, Marks.{events_of, size_read, size_written}, Outside.{Consumes}}

read_next : (marks : List (Bool × ℕ)) (input taken : List ℕ) (n : ℕ) →
    events_of (marks ++ (false, n) ∷ []) input taken ≡ events_of marks input taken ++ was_read (take n (drop (size_read marks) input)) ∷ []
read_next [] input taken n = refl
read_next ((false, k) ∷ marks) input taken n =
    ap (λ events. was_read (take k input) ∷ events) (read_next marks (drop k input) taken n
    ∙ ap (λ l. events_of marks (drop k input) taken ++ was_read (take n l) ∷ []) (drop-drop (size_read marks) k input))
read_next ((true, k) ∷ marks) input taken n = ap (λ events. was_written (take k taken) ∷ events) (read_next marks input (drop k taken) n)

written_next : (marks : List (Bool × ℕ)) (input taken part : List ℕ) (n : ℕ) → size_written marks ≡ length taken → n ≡ length part →
    events_of (marks ++ (true, n) ∷ []) input (taken ++ part) ≡ events_of marks input taken ++ was_written part ∷ []
written_next [] input taken part n size is =
    let none : taken ≡ [] = nil_from_length taken (sym size) in
    ap (λ l. was_written (take n (l ++ part)) ∷ []) none ∙ ap (λ l. was_written l ∷ []) (take_all n part (omega (arith, is)))
written_next ((false, k) ∷ marks) input taken part n size is = ap (λ events. was_read (take k input) ∷ events) (written_next marks (drop k input) taken part n size is)
written_next ((true, k) ∷ marks) input taken part n size is =
    let within : k ≤ length taken = omega (arith, size) in
    let rest : size_written marks ≡ length (drop k taken) = omega (arith, size, length-drop k taken) in
    (λ i. was_written (take-append-le k taken part within i) ∷ events_of (marks ++ (true, n) ∷ []) input (drop-append-le k taken part within i))
    ∙ ap (λ events. was_written (take k taken) ∷ events) (written_next marks input (drop k taken) part n rest is)

pub read_sizes : (marks : List (Bool × ℕ)) (n : ℕ) → (size_read (marks ++ (false, n) ∷ []) ≡ size_read marks + n) × (size_written (marks ++ (false, n) ∷ []) ≡ size_written marks)
read_sizes [] n = (omega arith, refl)
read_sizes ((false, k) ∷ marks) n = let more = read_sizes marks n in (omega (arith, more.0), more.1)
read_sizes ((true, k) ∷ marks) n = let more = read_sizes marks n in (more.0, ap (λ m. k + m) more.1)

pub written_sizes : (marks : List (Bool × ℕ)) (n : ℕ) → (size_read (marks ++ (true, n) ∷ []) ≡ size_read marks) × (size_written (marks ++ (true, n) ∷ []) ≡ size_written marks + n)
written_sizes [] n = (refl, omega arith)
written_sizes ((false, k) ∷ marks) n = let more = written_sizes marks n in (ap (λ m. k + m) more.0, more.1)
written_sizes ((true, k) ∷ marks) n = let more = written_sizes marks n in (more.0, omega (arith, more.1))

-- all that was written
pub sent_all : (marks : List (Bool × ℕ)) (input taken : List ℕ) → size_written marks ≡ length taken → sent (events_of marks input taken) ≡ taken
sent_all [] input taken size = sym (nil_from_length taken (sym size))
sent_all ((false, k) ∷ marks) input taken size = sent_all marks (drop k input) taken size
sent_all ((true, k) ∷ marks) input taken size =
    let rest : size_written marks ≡ length (drop k taken) = omega (arith, size, length-drop k taken) in
    ap (λ l. take k taken ++ l) (sent_all marks input (drop k taken) rest) ∙ take-append-drop k taken

consumed_front : (bytes into : List ℕ) (left : Option (List ℕ)) (n : ℕ) → Consumes bytes left into n → n ≤ length into → take n bytes ≡ take n into
consumed_front bytes into left n step within = ap (take n) step.parts ∙ take_at (take n into) step.rest n (length-take-le n into within)

-- a read, told by its marks
pub told_read : (marks marks_now : List (Bool × ℕ)) (input taken into : List ℕ) (left : Option (List ℕ)) (at n : ℕ) (done : List Event) → events_of marks input taken ≡ done →
    marks_now ≡ marks ++ (false, n) ∷ [] → size_read marks ≡ at → Consumes (drop at input) left into n → n ≤ length into →
    Some (events_of marks_now input taken) ≡ Some (done ++ was_read (take n into) ∷ [])
told_read marks marks_now input taken into left at n done was is size step within =
    ap Some (ap (λ m. events_of m input taken) is ∙ read_next marks input taken n
    ∙ (λ i. was i ++ was_read ((ap (λ k. take n (drop k input)) size ∙ consumed_front (drop at input) into left n step within) i) ∷ []))

-- and a write
pub told_write : (marks marks_now : List (Bool × ℕ)) (input taken taken_now part : List ℕ) (n : ℕ) (done : List Event) → events_of marks input taken ≡ done →
    marks_now ≡ marks ++ (true, n) ∷ [] → taken_now ≡ taken ++ part → size_written marks ≡ length taken → n ≡ length part →
    Some (events_of marks_now input taken_now) ≡ Some (done ++ was_written part ∷ [])
told_write marks marks_now input taken taken_now part n done was is grew size len =
    ap Some ((λ i. events_of (is i) input (grew i)) ∙ written_next marks input taken part n size len ∙ ap (λ d. d ++ was_written part ∷ []) was)
