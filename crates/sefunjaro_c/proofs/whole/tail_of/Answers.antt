use Rattle.std.proofs.Common.{◌∙◌, inl, length, string_bytes, sym, ap, subst}
use Rattle.tz_posix.specs.Spells.{Spells}
use Rattle.sefunjaro.specs.Rooms.{filled}
use Rattle.sefunjaro_c.proofs.whole.tail_of.Goals as goal

pub returns-in-Ok-clause-answer : goal.returns-in-Ok-clause-answer
returns-in-Ok-clause-answer c =
    let carries = c.in-Ok.ensures.read in
    inl (
      c.plain_fault.ensures,
      record {
        from = _;
        text = string_bytes c.in-Ok.tail.text;
        tail = c.in-Ok.ensures.told;
        carries = carries;
        room = c.fill.ensures.room ∙ ap (λ bytes. filled bytes c.args.text.now) c.as_bytes.ensures.value;
        length = c.fill.ensures.count ∙ ap length c.as_bytes.ensures.value;
        named = c.has_posix_names.ensures carries.value (subst (λ text. Spells text carries.value) (sym c.as_str.ensures.value) carries.spelled);
      },
    )
