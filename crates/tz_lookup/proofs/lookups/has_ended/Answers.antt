use Rattle.std.{proofs.Common.{◌≡◌, ℕ, ◌<◌, ◌≤◌, Bool, w64, SFits, rules, int_le, ltb, length, ◌∙◌, arith}, specs.Prelude.{◌&&◌}, proofs.lemmas.Bool.Decides.{nat_tests}, proofs.lemmas.Int.{to_z-of_z}}
use Rattle.tz_lookup.{specs.Sets.{shifts_of}, proofs.SetLemmas.{count_same}}
use Rattle.tz_lookup.proofs.lookups.has_ended.Goals as goal

inside : (i n : ℕ) (b : Bool) → i < n → b ≡ (ltb i n && b)
inside i n b h = grind (arith, nat_tests)

outside : (i m n : ℕ) (b : Bool) → n ≡ m → m ≤ i → ltb i m ≡ (ltb i n && b)
outside i m n b e h = grind (arith, nat_tests)

pub end_of-requires : goal.end_of-requires
end_of-requires g c = record { accepted = c.requires.accepted; within = omega arith }

pub returns-then-index-entry_count : goal.returns-then-index-entry_count
returns-then-index-entry_count g c =
    let fits : SFits w64 c.end_of.result = search rules in
    (λ i. int_le ((to_z-of_z w64 _ fits ∙ c.end_of.ensures) i) (to_z-of_z w64 _ c.ranges.second i))
    ∙ inside c.args.index (length (shifts_of (g.T.SpanTable.seen c.args.set.now))) _
    (omega (arith, count_same (g.T.SpanTable.seen c.args.set.now)))

pub returns-else-index-entry_count : goal.returns-else-index-entry_count
returns-else-index-entry_count g c =
    outside c.args.index _ _ _ (omega (arith, count_same (g.T.SpanTable.seen c.args.set.now))) c.if-index-entry_count.false
