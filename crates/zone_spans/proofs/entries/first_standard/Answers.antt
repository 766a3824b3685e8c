use Rattle.std.proofs.{Common.{rules, ◌≡◌, find, Option, Some, option_map, IfSome, IsTrue, ap, sym, ◌∙◌, subst}, lemmas.Iterator.{YieldsList-from_slice}, lemmas.Iterator.Search.{find_from_yields_List}}
use Rattle.zone_spans.{specs.declared.span.FixedTimespan.{FixedTimespan}, specs.Bounds.{is_bounded_entry, is_bounded_span, is_small}, specs.Entries.{Entry, is_standard}, proofs.BoundLemmas.{second}, proofs.FoundLemmas.{found_passes}}
use Rattle.zone_spans.proofs.entries.first_standard.Goals as goal

pub returns-in_ok-copy-in-Some-clause-bounded : goal.returns-in_ok-copy-in-Some-clause-bounded
returns-in_ok-copy-in-Some-clause-bounded c =
    let es = c.args.entries.now in
    let entry = c.in-Some.entry in
    let found : option_map (λ e. e.now) c.find.result ≡ find is_standard es =
    find_from_yields_List is_standard _ _ c.find.result c.find.ensures.ran (YieldsList-from_slice es c.iter.ensures.rest) (λ x b q k. search rules) in
    let first : Some entry.now ≡ find is_standard es = ap (option_map (λ e. e.now)) (sym c.in-Some.is) ∙ found in
    let here : IsTrue (is_bounded_entry entry.now) =
    subst (λ (o : Option Entry). IfSome o (λ e. IsTrue (is_bounded_entry e))) (sym first) (found_passes is_standard is_bounded_entry es c.requires) in
    subst (λ (s : FixedTimespan). IsTrue (is_bounded_span s)) (sym c.in_ok-copy-in-Some.ensures) (second (is_small entry.now.0) _ here)
