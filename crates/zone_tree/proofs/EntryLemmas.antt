-- The entry of a name, by what was found of it.
use Rattle.std.{proofs.Common.{◌≡◌, ℕ, List, cond, Err, sym, ap, ◌∙◌}, specs.Prelude.{IsTrue}}
use Rattle.tz_lookup.specs.{Compiles.{spans_of, IsCompiledAs, IsTooFar}, Sets.{schedule_of}, declared.set.FixedTimespanSet.{FixedTimespanSet}}
use Rattle.zone_run.specs.Causes.{named}
use Rattle.zone_spans.specs.Schedules.{totals_of, is_in_offset_range}
use Rattle.zone_tree.specs.{Contents.{Found, file_unless, is_marked, zone_content}, declared.refusal.Why.TheVariants.{OffsetRange}}

-- the zone that was found was compiled to this set, which can be looked up
pub record Compiled (name : List ℕ) (found : Found) (set : FixedTimespanSet) : Type 0 where
  pub is_named : set.name ≡ name
  pub spans : IsCompiledAs set found
  pub small : IsTrue (is_in_offset_range (schedule_of set))

pub content_is : (name : List ℕ) (found : Found) (set : FixedTimespanSet) → Compiled name found set
    → zone_content name found ≡ file_unless (is_marked set) set
unfolding totals_of
content_is name found set is =
    ap (zone_content name) is.spans
    ∙ ap (λ b. cond b (file_unless (is_marked (named name (spans_of set))) (named name (spans_of set))) (Err OffsetRange)) is.small
    ∙ ap (λ n. file_unless (is_marked (named n (spans_of set))) (named n (spans_of set))) (sym is.is_named)

pub too_far : (name : List ℕ) (found : Found) → IsTooFar found → zone_content name found ≡ Err OffsetRange
too_far name found far =
    ap (zone_content name) far.is_found
    ∙ ap (λ b. cond b (file_unless (is_marked (named name far.set)) (named name far.set)) (Err OffsetRange)) far.far
