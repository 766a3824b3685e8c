-- The lines of a source with each link led to its zone, or why they are refused.
use Rattle.std.specs.Prelude.{ℕ, suc, ◌+◌, List, [], ◌∷◌, ◌++◌, Bool, false, not, Option, Some, None, Result, Ok, Err, length, nat_lt, bytes_eq, if◌then◌else◌}
use Rattle.zone_outside.specs.Limit.{text_limit}
use Rattle.zone_table.specs.{Values.{SavingValue, multiple, LineValue, space, zone, continuation, link}, Results.{◌>>=◌}}
use Rattle.zone_plain_lines.specs.{declared.cause.PlainCause.{PlainCause}, PlainTexts.{plain_text}, LineFaults.{Refusal, too_long, numbered, by_line, onto}, Said.{if_said}}
use Rattle.zone_plain_lines.specs.declared.cause.PlainCause.TheVariants as cause
use Rattle.zone_plain.specs.{Declares.{has_zone, has_ruleset, target_of}, Leads.{zone_behind}}

-- RULES names a ruleset of which there is no rule
abbrev pub lacks_rules : List LineValue → SavingValue → Bool
lacks_rules values (multiple name) = not (has_ruleset values name)
lacks_rules values _ = false

-- a link to the zone behind its target
abbrev pub link_to : Option (List ℕ) → List ℕ → Result LineValue PlainCause
link_to None new = Err cause.Target
link_to (Some name) new = Ok (link name new)

-- a link, by the target of an earlier one of its new name: the same link again is written no second time
abbrev pub link_after : List LineValue → Option (List ℕ) → List ℕ → List ℕ → Result LineValue PlainCause
link_after values None existing new = link_to (zone_behind values existing) new
link_after values (Some earlier) existing new = if bytes_eq earlier existing then Ok space else Err cause.DuplicateLink

-- a link becomes this, if the plain form can say it
unfoldable pub settled_link : List LineValue → List LineValue → List ℕ → List ℕ → Result LineValue PlainCause
settled_link values before existing new =
    if has_zone values new then Err cause.LinkIsZone else (do
      found ← link_after values (target_of before new) existing new
      if_said found)

-- what becomes of a line, in a source of these values and after those before it
unfoldable pub settled_line : List LineValue → List LineValue → LineValue → Result LineValue PlainCause
settled_line values before (continuation info) =
    if lacks_rules values info.saving then Err cause.UnknownRuleset else Ok (continuation info)
settled_line values before (zone name info) =
    if lacks_rules values info.saving then Err cause.UnknownRuleset
    else if has_zone before name then Err cause.DuplicateZone
    else Ok (zone name info)
settled_line values before (link existing new) = settled_link values before existing new
settled_line values before v = Ok v

-- how many bytes a link takes with its line feed
abbrev pub link_size : LineValue → ℕ
link_size (link existing new) = length (plain_text (link existing new)) + 1
link_size _ = 0

-- what becomes of the lines from the nth on, where the links before them take so many bytes
unfoldable pub settled_from : List LineValue → List LineValue → ℕ → ℕ → List LineValue → Result (List LineValue) Refusal
settled_from values before n size [] = Ok []
settled_from values before n size (v ∷ vs) = do
  w ← by_line (numbered n (settled_line values before v))
  if nat_lt text_limit (size + link_size w) then Err too_long else onto w (settled_from values (before ++ v ∷ []) (suc n) (size + link_size w) vs)

-- what becomes of a source's lines, in order
unfoldable pub settled : List LineValue → Result (List LineValue) Refusal
settled values = settled_from values [] 1 0 values
