use Rattle.std.proofs.{Common.{arith, ◌≡◌, ◌≤◌, ℕ, ◌-◌, ◌∷◌, List, length, take, ℤ, sym, ap, ◌∙◌, drop, length-append}, lemmas.List.{take_at, drop_at}}
use Rattle.basics.specs.SignedLaws.{signed}
use Rattle.civil_base.{specs.Instants.{local_at}, specs.Layout.{local_text, offset_text, zoned_text}, proofs.FoundLemmas.{not_none, same_some}, proofs.DateTimeLemmas.{instant-parts}, specs.LayoutLaws.{offset_text-length}}
use Rattle.civil_base.proofs.read.parse_zoned.Goals as goal

-- the two parts of a zoned text
record IsSplit (t o : ℤ) (bytes : List ℕ) : Type 0 where
  pub enough : 10 ≤ length bytes
  pub front : take (length bytes - 10) bytes ≡ local_text (local_at t o)
  pub back : drop (length bytes - 10) bytes ≡ 32 ∷ offset_text o

split : (t o : ℤ) (bytes : List ℕ) → zoned_text t o ≡ bytes → IsSplit t o bytes
unfolding zoned_text
split t o bytes text =
    let local = local_text (local_at t o) in
    let offset = 32 ∷ offset_text o in
    let long = sym (ap length text) ∙ length-append local offset in
    let tail = offset_text-length o in
    let cut : length local ≡ length bytes - 10 = omega arith in
    record {
      enough = omega arith;
      front = ap (take (length bytes - 10)) (sym text) ∙ take_at local offset (length bytes - 10) cut;
      back = ap (drop (length bytes - 10)) (sym text) ∙ drop_at local offset (length bytes - 10) cut;
    }

pub returns-then-bytes-lt10 : goal.returns-then-bytes-lt10
returns-then-bytes-lt10 c = record {
  found = λ t o years offset text.
      let parts = split t o c.args.bytes.now text in
      omega arith;
}

pub returns-in_err-local : goal.returns-in_err-local
returns-in_err-local c = record {
  found = λ t o years offset text.
      let parts = split t o c.args.bytes.now text in
      let local = c.parse_local.ensures.found (local_at t o) years (sym (c.split_at.ensures.front ∙ parts.front)) in
      absurd (not_none c.parse_local.result (local_at t o) local c.in_err-local.was);
}

pub returns-in_err-offset : goal.returns-in_err-offset
returns-in_err-offset c = record {
  found = λ t o years offset text.
      let parts = split t o c.args.bytes.now text in
      let found = c.parse_offset.ensures.found o offset (c.split_at.ensures.back ∙ parts.back) in
      absurd (not_none c.parse_offset.result o found c.in_err-offset.was);
}

pub returns : goal.returns
returns c = record {
  found = λ t o years offset text.
      let parts = split t o c.args.bytes.now text in
      let local = same_some c.parse_local.result c.in_ok-local.local (local_at t o) c.in_ok-local.was
      (c.parse_local.ensures.found (local_at t o) years (sym (c.split_at.ensures.front ∙ parts.front))) in
      let moved = same_some c.parse_offset.result c.in_ok-offset.offset o c.in_ok-offset.was
      (c.parse_offset.ensures.found o offset (c.split_at.ensures.back ∙ parts.back)) in
      let value = c.assume_offset.result in
      let its_offset = c.assume_offset.ensures.offset ∙ moved in
      let its_local = c.assume_offset.ensures.local ∙ local in
      (omega (arith, signed, instant-parts value, its_offset, its_local), its_offset);
}
