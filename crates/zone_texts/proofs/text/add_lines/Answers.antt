use Rattle.std.{proofs.Common.{ℕ, List, []}, specs.Prelude.{None, option_map}}
use Rattle.zone_texts.{specs.{SeenNames.{name_seen, NameSeen}, Texts.{line_text}}, proofs.RangeLemmas.{all_shown, shown_more}}
use Rattle.zone_texts.proofs.text.add_lines.Goals as goal

pub loop-entry-preserved : goal.loop-entry-preserved
loop-entry-preserved c =
    let text : NameSeen → List ℕ = line_text c.args.form (option_map (λ word. word.now) c.args.word) in
    shown_more text name_seen c.args.into.now.items c.loop-entry.into.items _ c.args.entries.now c.loop-entry.entry-index
    (record { name = record { ref_ptr = (0, 0); now = [] }; zone = None }) c.loop-entry-test.true c.loop-entry.invariant c.in_ok-add_line.ensures

pub returns : goal.returns
returns c =
    let text : NameSeen → List ℕ = line_text c.args.form (option_map (λ word. word.now) c.args.word) in
    all_shown text name_seen c.args.into.now.items c.loop-entry.into.items c.args.entries.now c.loop-entry.entry-index c.loop-entry-test.false
    c.loop-entry.invariant
