-- The candidate that is chosen.
use Rattle.std.specs.Prelude.{ℕ, ◌<◌, ◌≤◌, List, length, slice_index_or, ℤ, pos}
use Rattle.zone_spans.specs.Schedules.{Schedule}
use Rattle.zone_tail.specs.{Agreement.{Agrees, IsWalked}, Candidates.{IsAllowed}, declared.candidate.Candidate.{Candidate}, declared.candidate.Candidate.TheVariants.{Fixed}}

abbrev pub candidate_at : List Candidate → ℕ → Candidate
candidate_at candidates i = slice_index_or candidates i (Fixed (pos 0))

-- Candidate i agrees from span k on, no candidate does from an earlier span that is allowed, and none before i from k on.
pub record IsChoice (candidates : List Candidate) (zone : Schedule) (last : ℤ) (i k : ℕ) : Type 0 where
  pub within : i < length candidates
  pub allowed : IsAllowed (candidate_at candidates i) zone k
  pub agrees : Agrees (candidate_at candidates i) zone last k
  pub none_earlier : (j m : ℕ) → j < length candidates → m < k → IsAllowed (candidate_at candidates j) zone m
      → Agrees (candidate_at candidates j) zone last m → ⊥
  pub first : (j : ℕ) → j < i → IsAllowed (candidate_at candidates j) zone k → Agrees (candidate_at candidates j) zone last k → ⊥

-- candidate j was walked no further than `from`, and less far where it comes before the best
pub record IsNoBetter (candidates : List Candidate) (zone : Schedule) (last : ℤ) (best from j : ℕ) : Type 0 where
  pub steps : ℕ
  pub walked : IsWalked (candidate_at candidates j) zone last steps
  pub least : from ≤ steps
  pub first : j < best → from < steps

-- of the first n candidates the best is the first that was walked furthest
pub record IsBest (candidates : List Candidate) (zone : Schedule) (last : ℤ) (n best from : ℕ) : Type 0 where
  pub within : best < n
  pub walked : IsWalked (candidate_at candidates best) zone last from
  pub others : (j : ℕ) → j < n → IsNoBetter candidates zone last best from j
