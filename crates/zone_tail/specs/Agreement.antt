-- A candidate that gives the totals of a zone from a span on.
use Rattle.std.specs.Prelude.{◌≡◌, ℕ, suc, ◌+◌, ◌≤◌, length, ℤ, ◌<ℤ◌}
use Rattle.civil_base.specs.Instants.{seconds_of}
use Rattle.zone_spans.specs.Schedules.{Schedule, total_at}
use Rattle.tz_lookup.specs.Spans.{total_of, total_from}
use Rattle.zone_tail.specs.{Candidates.{candidate_total, total_by, IsAllowed}, Totals.{HasBegun, Lasts}, declared.candidate.Candidate.{Candidate}}

-- last: the second at which the last year ends
module _ (candidate : Candidate) (zone : Schedule) (last : ℤ) where
  -- at every instant from the beginning of span k up to the end of the last year
  pub record Agrees (k : ℕ) : Type 0 where
    pub alike : (t : ℤ) → HasBegun zone.shifts k (seconds_of t) → seconds_of t <ℤ last → candidate_total candidate t ≡ total_at zone t

  -- The same by seconds: throughout span k, as far as the last year goes, and from its beginning on.
  pub record AgreesIn (k : ℕ) : Type 0 where
    pub alike : (s : ℤ) → HasBegun zone.shifts k s → Lasts zone.shifts k s → s <ℤ last → total_by candidate s ≡ total_of zone.first zone.shifts k

  pub record AgreesFrom (k : ℕ) : Type 0 where
    pub alike : (s : ℤ) → HasBegun zone.shifts k s → s <ℤ last → total_by candidate s ≡ total_from zone.first zone.shifts s

  -- the spans from n on are allowed and agree; the span before them is not, or does not
  pub record IsWalked (n : ℕ) : Type 0 where
    pub within : n ≤ length zone.shifts + 1
    pub later : (k : ℕ) → n ≤ k → k ≤ length zone.shifts → IsAllowed candidate zone k × AgreesFrom k
    pub stops : (k : ℕ) → suc k ≡ n → IsAllowed candidate zone k → AgreesIn k → ⊥
