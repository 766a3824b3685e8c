use Rattle.std.{proofs.Common.{◌≡◌, ◌<◌, ℕ, Bool, List, length, get_or, Ok, IfOk, IfErr, ap, sym, subst, ◌∙◌, arith}, specs.Prelude.{bytes_eq}}
use Rattle.zone_tree.{specs.ArchiveEntries.{of_file}, specs.EverTold.{made_shown}, specs.Told.{IsWhy}, specs.declared.ever.Made.{Made}, proofs.EverLemmas.{content_found, content_more}}
use Rattle.zone_tree.proofs.ever.EverFilesZoneFiles.file.Goals as goal

-- one of those that were made, as it is looked at, and whether it has the name
seen : (slice items : List Made) (i : ℕ) (x : Made) (name : List ℕ) (same : Bool) → slice ≡ items → x ≡ get_or slice i x → i < length slice
    → same ≡ bytes_eq name x.name.now → (x ≡ get_or items i x) × (i < length items) × (bytes_eq name (get_or items i x).name.now ≡ same)
seen slice items i x name same is at within test =
    let here : x ≡ get_or items i x = subst (λ l. x ≡ get_or l i x) is at in
    (here, omega (arith, within, ap length is), sym (test ∙ ap (λ (m : Made). bytes_eq name m.name.now) here))

pub returns-then-eq-clause-ok : goal.returns-then-eq-clause-ok
returns-then-eq-clause-ok c =
    let here = seen _ c.args.self.now.made.items c.loop-made.made-index c.made-item.result c.args.name.now _ c.as_slice-made-items.ensures.value c.made-item.is c.loop-made-test.true c.if-eq.ensures in
    subst (λ content. IfOk c.file_again.result (λ file. content ≡ Ok (of_file file.items)))
    (ap (λ (m : Made). (made_shown m).1) here.0 ∙ content_found c.args.self.now.made.items c.loop-made.made-index c.made-item.result c.args.name.now here.1 c.loop-made.invariant here.2) c.file_again.ensures.ok

pub returns-then-eq-clause-err : goal.returns-then-eq-clause-err
returns-then-eq-clause-err c =
    let here = seen _ c.args.self.now.made.items c.loop-made.made-index c.made-item.result c.args.name.now _ c.as_slice-made-items.ensures.value c.made-item.is c.loop-made-test.true c.if-eq.ensures in
    subst (λ content. IfErr c.file_again.result (IsWhy content))
    (ap (λ (m : Made). (made_shown m).1) here.0 ∙ content_found c.args.self.now.made.items c.loop-made.made-index c.made-item.result c.args.name.now here.1 c.loop-made.invariant here.2) c.file_again.ensures.err

pub loop-made-preserved : goal.loop-made-preserved
loop-made-preserved c =
    let here = seen _ c.args.self.now.made.items c.loop-made.made-index c.made-item.result c.args.name.now _ c.as_slice-made-items.ensures.value c.made-item.is c.loop-made-test.true c.if-eq.ensures in
    content_more c.args.self.now.made.items c.loop-made.made-index c.made-item.result c.args.name.now here.1 c.loop-made.invariant here.2
