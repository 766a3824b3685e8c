-- Orders of calls, and ends, worked by hand; what is due of bytes is these bytes.
use Rattle.std.proofs.Common.{◌≡◌, refl, ℕ, List, [], ◌∷◌, true, false}
use Rattle.zone_outside.specs.Exchanges.{was_read, was_written}
use Rattle.zone_words.specs.{Filters.{Made}, Runs.{InOrder, IsDue}}
use Rattle.zone_words.specs.declared.running.StreamEnd.TheVariants as status

-- in two parts, before more is read; nothing has to be written after the last read
in_time : InOrder (λ bytes. bytes) [] [] (was_read (1 ∷ 2 ∷ []) ∷ was_written (1 ∷ []) ∷ was_written (2 ∷ []) ∷ was_read [] ∷ was_read (3 ∷ []) ∷ [])
in_time = (refl, (refl, (refl, tt)))

late : ¬ (InOrder (λ bytes. bytes) [] [] (was_read (1 ∷ []) ∷ was_read [] ∷ was_written (1 ∷ []) ∷ []))
late = λ order. let none : ◌≡◌ {A = List ℕ} [] (1 ∷ []) = order.1.0 in cc

early : ¬ (InOrder (λ bytes. bytes) [] [] (was_written (1 ∷ []) ∷ was_read (1 ∷ []) ∷ []))
early = λ order. let one : ◌≡◌ {A = List ℕ} (1 ∷ []) [] = order.0 in cc

-- of bytes these bytes are due, and at the end a 9, which is a fault
ends_by_nine : Made
ends_by_nine = record { so_far = λ bytes. bytes; at_end = λ bytes. 9 ∷ []; fails = λ bytes. false; fails_at_end = λ bytes. true }

fault : IsDue ends_by_nine (1 ∷ []) (1 ∷ 9 ∷ []) status.Fault
unfolding ends_by_nine
fault = (refl, refl)

not_done : ¬ (IsDue ends_by_nine (1 ∷ []) (1 ∷ 9 ∷ []) status.Done)
unfolding ends_by_nine
not_done = λ due. let is : true ≡ false = due.1 in cc

cut_short : ¬ (IsDue ends_by_nine (1 ∷ []) (1 ∷ []) status.Fault)
unfolding ends_by_nine
cut_short = λ due. let is : ◌≡◌ {A = List ℕ} (1 ∷ []) (1 ∷ 9 ∷ []) = due.0 in cc

refused_read : IsDue ends_by_nine (1 ∷ []) (1 ∷ []) status.Read
unfolding ends_by_nine
refused_read = refl
