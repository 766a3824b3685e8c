-- Worked rows: where names lead, and what becomes of lines.
use Rattle.std.{proofs.Common.{◌≡◌, List, [], ◌∷◌, None, Ok, Err, refl}, specs.Prelude.{codes}}
use Rattle.zone_table.specs.{Values.{InfoValue, RuleValue, LineValue, multiple, space, zone, continuation, rule, link}, declared.time.TimeSpec.{TimeSpec}}
use Rattle.zone_plain_lines.specs.declared.cause.PlainCause.TheVariants as cause
use Rattle.zone_plain.specs.{Declares.{target_of}, Leads.{zone_behind}, Settled.{link_after, settled_link, settled_line}}

module _ (info : InfoValue) (offset : TimeSpec) where
  -- `L B C` and `L A B` before the zone A: two links to A
  abbrev two : List LineValue
  two = link (codes "B") (codes "C") ∷ link (codes "A") (codes "B") ∷ zone (codes "A") info ∷ []

  c_to_a : link_after two None (codes "B") (codes "C") ≡ Ok (link (codes "A") (codes "C"))
  unfolding zone_behind
  c_to_a = refl

  b_to_a : link_after two None (codes "A") (codes "B") ≡ Ok (link (codes "A") (codes "B"))
  unfolding zone_behind
  b_to_a = refl

  -- a circle, a link to itself, and a link to nothing
  abbrev circle : List LineValue
  circle = zone (codes "A") info ∷ link (codes "B") (codes "C") ∷ link (codes "C") (codes "B") ∷ link (codes "D") (codes "D") ∷ link (codes "X") (codes "E") ∷ []

  in_a_circle : settled_link circle [] (codes "B") (codes "C") ≡ Err cause.Target
  unfolding zone_behind settled_link
  in_a_circle = refl

  to_itself : settled_link circle [] (codes "D") (codes "D") ≡ Err cause.Target
  unfolding zone_behind settled_link
  to_itself = refl

  to_nothing : settled_link circle [] (codes "X") (codes "E") ≡ Err cause.Target
  unfolding zone_behind settled_link
  to_nothing = refl

  -- the same link twice is nothing, one with another target is refused, also where both lead to one zone
  twice : link_after two (target_of (link (codes "A") (codes "B") ∷ []) (codes "B")) (codes "A") (codes "B") ≡ Ok space
  twice = refl

  two_targets : settled_link two (link (codes "A") (codes "B") ∷ []) (codes "C") (codes "B") ≡ Err cause.DuplicateLink
  unfolding settled_link
  two_targets = refl

  -- a link with the name of a zone, that stands before it or after
  zone_before : settled_link (zone (codes "A") info ∷ link (codes "A") (codes "A") ∷ []) (zone (codes "A") info ∷ []) (codes "A") (codes "A") ≡ Err cause.LinkIsZone
  unfolding settled_link
  zone_before = refl

  zone_after : settled_link (link (codes "B") (codes "A") ∷ zone (codes "A") info ∷ []) [] (codes "B") (codes "A") ≡ Err cause.LinkIsZone
  unfolding settled_link
  zone_after = refl

  -- a line under the ruleset r
  abbrev ruled : InfoValue
  ruled = record { utc_offset = offset; saving = multiple (codes "r"); format = codes "X"; time = None }

  no_ruleset : settled_line two [] (zone (codes "A") ruled) ≡ Err cause.UnknownRuleset
  unfolding settled_line
  no_ruleset = refl

  no_ruleset_further : settled_line two [] (continuation ruled) ≡ Err cause.UnknownRuleset
  unfolding settled_line
  no_ruleset_further = refl

  -- the ruleset may stand after the zone; a zone of that name may not stand before it
  ruleset_after : (one : RuleValue) → settled_line (zone (codes "A") ruled ∷ rule (record one { name = codes "r" }) ∷ []) [] (zone (codes "A") ruled) ≡ Ok (zone (codes "A") ruled)
  unfolding settled_line
  ruleset_after one = refl

  zone_twice : (one : RuleValue) → settled_line (rule (record one { name = codes "r" }) ∷ two) (zone (codes "A") info ∷ []) (zone (codes "A") ruled) ≡ Err cause.DuplicateZone
  unfolding settled_line
  zone_twice one = refl
