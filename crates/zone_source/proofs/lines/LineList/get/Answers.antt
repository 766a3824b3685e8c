use Rattle.std.proofs.{Common.{sym, arith, ap, ◌≤◌, ◌<◌, length}, lemmas.Option.{slice_get_past}}
use Rattle.zone_source.proofs.LineListLemmas.{line_at, lies_within, length_lines}
use Rattle.zone_source.proofs.lines.LineList.get.Goals as goal

pub returns-then-i-ends : goal.returns-then-i-ends
returns-then-i-ends c =
    let past : length c.args.self.now ≤ c.args.i =
    omega (
      arith,
      length_lines 0 c.self.inside.ends.items c.self.inside.bytes.items,
      ap length c.as_slice-ends.ensures.value,
      ap length c.self.view_is,
    ) in
    sym (slice_get_past c.args.self.now c.args.i past)

pub line_between-requires : goal.line_between-requires
line_between-requires c =
    let ends = c.self.inside.ends.items in
    let there : c.args.i < length ends = omega (arith, ap length c.as_slice-ends.ensures.value) in
    let lies = lies_within 0 ends c.self.inside.bytes.items c.args.i c.self.invariant there in
    record {
      rises = rw (c.start_of-start.ensures, c.as_slice-ends.ensures.value) lies.rises;
      within = rw (c.as_slice-ends.ensures.value, c.as_slice.ensures.value) lies.bound;
    }

pub returns : goal.returns
returns c =
    let ends = c.self.inside.ends.items in
    let there : c.args.i < length ends = omega (arith, ap length c.as_slice-ends.ensures.value) in
    rw (
      ← c.self.view_is,
      line_at 0 ends c.self.inside.bytes.items c.args.i there,
      c.line_between.ensures,
      c.start_of-start.ensures,
      c.as_slice-ends.ensures.value,
      c.as_slice.ensures.value,
    )
