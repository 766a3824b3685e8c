use Rattle.std.{proofs.Common.{◌≡◌, ◌<◌, ◌≤◌, ◌<ℤ◌, ℕ, length, map, drop}, specs.Prelude.{filter, int_lt}}
use Rattle.tz_lookup.specs.{Sets.{shifts_of}, Spans.{shift_at}}
use Rattle.sefunjaro.specs.Changes.{change_of, changes_of, settled_changes}
use Rattle.sefunjaro.proofs.changes.next_change.Given as goal

-- the changes after the second are those that are left
abbrev pub invariant-loop-place : goal.invariant-loop-place
invariant-loop-place g l =
    let set = g.S.SpanTable.seen l.set in record {
      later : (j : ℕ) → l.place ≤ j → j < length set.others → l.second <ℤ (shift_at (shifts_of set) j).0;
      left : filter (λ change. int_lt l.second change.second) (changes_of set)
          ≡ filter (λ change. int_lt l.second change.second) (settled_changes (drop l.place (map (change_of set) set.others)));
    }
