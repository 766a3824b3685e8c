use Rattle.std.proofs.{Common.{◌≡◌, ◌-ℤ◌, ◌<ℤ◌, suc, ◌+◌, arith, rules, w64, to_z-of_z, FitsSigned, ap, ◌∙◌}, lemmas.Int.{ints}}
use Rattle.basics.specs.ComparisonLaws.{lt_from_pass, lt_from_fail}
use Rattle.tz_lookup.specs.{Sets.{shifts_of}, Spans.{shift_at}}
use Rattle.zone_tail.{specs.LastYear.{year_begin, year_end}, proofs.ShapeLemmas.{steady, pair, other}, proofs.last_year.shape_of.Goals.{else-end-begin-eq2-via-then-end-begin-eq2+else-time, else-end-begin-eq2-via-else-end-begin-eq2}}
use Rattle.zone_tail.proofs.last_year.shape_of.Goals as goal

pub returns-then-begin-end : goal.returns-then-begin-end
returns-then-begin-end g c =
    let begins = rw (to_z-of_z c.ranges.offset) at c.entries_before-begin.ensures in
    let ends = rw (to_z-of_z c.ranges.offset) at c.entries_before-end.ensures in
    let order : (year_begin -ℤ c.args.offset) <ℤ (year_end -ℤ c.args.offset) = omega (arith, ints) in
    steady (g.S.SpanTable.seen c.args.set.now) (year_begin -ℤ c.args.offset) (year_end -ℤ c.args.offset) _ _ begins ends order (omega arith)

pub returns-then-time : goal.returns-then-time
returns-then-time g c =
    let fits : FitsSigned w64 c.time.result = search rules in
    let fits_next : FitsSigned w64 c.time-then-end-begin-eq2.result = search rules in
    let b = c.entries_before-begin.result in
    let begins = rw (to_z-of_z c.ranges.offset) at c.entries_before-begin.ensures in
    let ends = rw (to_z-of_z c.ranges.offset) at c.entries_before-end.ensures in
    let is : c.entries_before-end.result ≡ suc (suc b) = omega arith in
    let next : b + 1 ≡ suc b = omega arith in
    let order : (shift_at (shifts_of (g.S.SpanTable.seen c.args.set.now)) b).0 <ℤ (shift_at (shifts_of (g.S.SpanTable.seen c.args.set.now)) (suc b)).0 =
    lt_from_pass _ _ (rw (to_z-of_z fits ∙ c.time.ensures, to_z-of_z fits_next ∙ c.time-then-end-begin-eq2.ensures ∙ ap (λ n. (shift_at (shifts_of (g.S.SpanTable.seen c.args.set.now)) n).0) next) at c.if-time.true) in
    pair (g.S.SpanTable.seen c.args.set.now) (year_begin -ℤ c.args.offset) (year_end -ℤ c.args.offset) b _ begins ends (b + 1) is next (omega arith) order

pub returns-else-end-begin-eq2 : goal.returns-else-end-begin-eq2
returns-else-end-begin-eq2 g c =
    let b = c.entries_before-begin.result in
    let begins = rw (to_z-of_z c.ranges.offset) at c.entries_before-begin.ensures in
    let ends = rw (to_z-of_z c.ranges.offset) at c.entries_before-end.ensures in
    other (g.S.SpanTable.seen c.args.set.now) (year_begin -ℤ c.args.offset) (year_end -ℤ c.args.offset) _ _ begins ends (omega arith)
    (λ is. elim c.else-end-begin-eq2.branch [
      | else-end-begin-eq2-via-then-end-begin-eq2+else-time w ↦
          (let fits : FitsSigned w64 w.time.result = search rules in
          let fits_next : FitsSigned w64 w.time-then-end-begin-eq2.result = search rules in
          let next : b + 1 ≡ suc b = omega arith in
          lt_from_fail _ _ (rw (to_z-of_z fits ∙ w.time.ensures, to_z-of_z fits_next ∙ w.time-then-end-begin-eq2.ensures ∙ ap (λ n. (shift_at (shifts_of (g.S.SpanTable.seen c.args.set.now)) n).0) next) at w.if-time.false))
      | else-end-begin-eq2-via-else-end-begin-eq2 w ↦ absurd (omega (arith, is))
    ])
