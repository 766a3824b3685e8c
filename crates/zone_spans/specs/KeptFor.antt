-- What is kept for lines of a ruleset under an offset.
use Rattle.std.specs.Prelude.{◌≡◌, ℕ, ◌≤◌}
use Rattle.zone_spans.specs.{Kept.{AreSummaries}, Lines.{Line}, declared.kept.Kept.{Kept}}

-- its summaries are those of its rules under its offset
abbrev pub IsKept : Kept → Type 0
IsKept kept = AreSummaries kept.offset kept.rules.now kept.summaries.quiet kept.summaries.years.items

-- the line, which expands so many years, has its rules and its offset
pub record IsFor (line : Line) (years : ℕ) (kept : Kept) : Type 0 where
  pub offset : kept.offset ≡ line.info.offset
  pub rules : kept.rules.now ≡ line.rules
  pub quiet : kept.summaries.quiet ≤ years
