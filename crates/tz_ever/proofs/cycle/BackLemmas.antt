-- What a set of one cycle past the place says of every instant after it: brought back by whole cycles, the total is that of the set.
use Rattle.std.proofs.Common.{◌≡◌, [], ◌∷◌, false, pos, List, ◌++◌, ℤ, ◌+ℤ◌, ◌*ℤ◌, ℕ, ◌+◌, int_le, ◌<ℤ◌}
use Rattle.zone_spans.specs.{Entries.{total, sorted_entries_over}, Lines.{Line}, declared.span.FixedTimespan.{FixedTimespan}}
use Rattle.tz_ever.proofs.cycle.{EverLemmas.{IsTurning}, StableLemmas.{span-stable}, ZoneLemmas.{span_in}}

-- no entry from the place on can take the place of the latest one before it
abbrev pub IsApart : {lines : List Line} {last : Line} {place : ℕ} → IsTurning lines last place → Type 0
IsApart turn = int_le (turn.tested.low +ℤ total turn.latest.1) (turn.latest.0 +ℤ total turn.second.1) ≡ false

-- up to the first entry from the place on, today's set has it
pub span-as_before : (k : ℕ) (lines : List Line) (last : Line) (place : ℕ) (first : FixedTimespan) (t : ℤ) (turn : IsTurning lines last place)
    → IsApart turn → t <ℤ (turn.tested.low *ℤ pos 1000000000)
    → span_in first (sorted_entries_over (k + place) (lines ++ (last ∷ []))) t ≡ span_in first (sorted_entries_over place (lines ++ (last ∷ []))) t
span-as_before k lines last place first t turn apart early =
    span-stable lines last place k first t turn.tested turn.latest turn.second turn.before turn.here_is apart early
