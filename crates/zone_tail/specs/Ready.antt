-- What is known of the candidates of a set whose tail has no fault.
use Rattle.std.specs.Prelude.{◌≡◌, ℕ, ◌<◌, ◌≤◌, true, IsTrue, List, length, All, ℤ}
use Rattle.zone_spans.specs.Schedules.{Schedule}
use Rattle.tz_lookup.specs.{Sets.{schedule_of}, declared.set.FixedTimespanSet.{FixedTimespanSet}}
use Rattle.zone_tail.specs.{Agreement.{Agrees}, Candidates.{IsAllowed, IsLast, IsSoundCandidate}, Choices.{candidate_at, IsChoice}, LastYear.{form}, Settled.{Settles}, Tails.{can_be_written, candidates, end_of_last_year, is_name, names_of}}
use Rattle.zone_tail.specs.declared.candidate.Candidate.{Candidate, TheVariants.{Fixed, Ruled}}

-- from this span on every candidate agrees
pub record AllAgree (list : List Candidate) (zone : Schedule) (last : ℤ) : Type 0 where
  pub span : ℕ
  pub each : (j : ℕ) → j < length list → IsAllowed (candidate_at list j) zone span × Agrees (candidate_at list j) zone last span

-- last: the second at which the last year ends, or another by which the same is chosen
pub record IsReadyList (set : FixedTimespanSet) (last : ℤ) (list : List Candidate) : Type 0 where
  pub some : 0 < length list
  pub sound : All IsSoundCandidate list
  pub ends : All (λ candidate. IsLast candidate last) list
  pub closes : All (λ candidate. IsLast candidate (end_of_last_year set)) list
  pub settle : All (Settles set) list
  pub agree : AllAgree list (schedule_of set) last
  pub same : (i k : ℕ) → IsChoice list (schedule_of set) last i k → IsChoice list (schedule_of set) (end_of_last_year set) i k

abbrev pub IsReady : FixedTimespanSet → ℤ → Type 0
IsReady set last = IsReadyList set last (candidates set)

-- the standard offset and the total of daylight saving time can be written
pub record CanWriteRule (offset total : ℤ) : Type 0 where
  pub standard : IsTrue (can_be_written offset)
  pub saving : IsTrue (can_be_written total)

abbrev pub CanBeWritten : Candidate → Type 0
CanBeWritten (Fixed total) = IsTrue (can_be_written total)
CanBeWritten (Ruled rule) = CanWriteRule rule.standard rule.saving

-- the names that its text has can be written
abbrev pub IsNamedBy : List ℕ → List ℕ → Candidate → Type 0
IsNamedBy standard saving (Fixed total) = is_name standard ≡ true
IsNamedBy standard saving (Ruled rule) = (is_name standard ≡ true) × (is_name saving ≡ true)

-- the candidate that is given, and the span from which on it agrees
pub record IsChosen (set : FixedTimespanSet) (candidate : Candidate) (span : ℕ) : Type 0 where
  pub index : ℕ
  pub choice : IsChoice (candidates set) (schedule_of set) (end_of_last_year set) index span
  pub is : candidate ≡ candidate_at (candidates set) index
  pub within : span ≤ length set.others
  pub sound : IsSoundCandidate candidate
  pub closes : IsLast candidate (end_of_last_year set)
  pub settles : Settles set candidate
  pub written : CanBeWritten candidate
  pub named : IsNamedBy (names_of (form set)).0 (names_of (form set)).1 candidate
