use Rattle.std.proofs.Common.{rules, arith, ◌≡◌, ◌+◌, ◌*◌, ◌/◌, ◌%◌, nat_eq, pos, to_z-of_z, FitsSigned, w32, ap, ◌∙◌, unsigned_abs, get_or, int_lt}
use Rattle.civil_base.{specs.Layout.{offset_text}, specs.RangeLaws.{offset_size}, specs.Offsets.{signed_by}, specs.OffsetLaws.{signed_by-size, minus_is}, proofs.FoundLemmas.{result_ok-found}}
use Rattle.civil_base.proofs.read.parse_offset.Goals as goal

pub returns : goal.returns
unfolding offset_text
returns c = record {
  found = λ o within text.
      let size = unsigned_abs o in
      let small = offset_size o within in
      let hours = c.two-hours.ensures.value (size / 3600) (omega arith) (ap (λ l. get_or l 2 0) text) (ap (λ l. get_or l 3 0) text) in
      let minutes = c.two-minutes.ensures.value (size / 60 % 60) (omega arith) (ap (λ l. get_or l 5 0) text) (ap (λ l. get_or l 6 0) text) in
      let seconds = c.two-seconds.ensures.value (size % 60) (omega arith) (ap (λ l. get_or l 8 0) text) (ap (λ l. get_or l 9 0) text) in
      let sign = ap (λ l. nat_eq (get_or l 1 0) 45) text ∙ minus_is (int_lt o (pos 0)) in
      let whole : (c.from.result * 60 + c.from-2.result) * 60 + c.from-3.result ≡ size = omega arith in
      let value = c.signed.ensures ∙ ap (λ t. signed_by t ((c.from.result * 60 + c.from-2.result) * 60 + c.from-3.result)) sign
      ∙ ap (signed_by (int_lt o (pos 0))) whole ∙ signed_by-size o in
      let f : FitsSigned w32 c.signed.result = search rules in
      let made = rw (to_z-of_z f, value) at c.from_whole_seconds.ensures in
      c.ok.ensures.value ∙ result_ok-found c.from_whole_seconds.result o (made.accepts ∙ within) made.value;
}
