use Rattle.std.{proofs.Common.{◌≡◌, ◌+◌, drop}, specs.Char.{eq_ignore_ascii_case}, specs.List.{common_prefix_len}}
use Rattle.zone_texts.proofs.edit.same_in_front.Given as goal

abbrev pub invariant-loop-index : goal.invariant-loop-index
invariant-loop-index l =
    common_prefix_len eq_ignore_ascii_case l.a l.b ≡ l.index + common_prefix_len eq_ignore_ascii_case (drop l.index l.a) (drop l.index l.b)
