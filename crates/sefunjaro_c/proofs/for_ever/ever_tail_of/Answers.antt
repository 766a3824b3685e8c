use Rattle.std.proofs.Common.{◌∙◌, inl, length, string_bytes, sym, ap, subst}
use Rattle.sefunjaro.specs.{PosixNames.{IsSpelled}, Rooms.{filled}}
use Rattle.tz_posix.specs.Spells.{Spells}
use Rattle.sefunjaro_c.proofs.for_ever.ever_tail_of.Goals as goal

pub returns-in-Ok-clause-answer : goal.returns-in-Ok-clause-answer
returns-in-Ok-clause-answer c =
    inl (
      c.plain_fault.ensures,
      record {
        from = _;
        text = string_bytes c.in-Ok.tail.text;
        tail = c.in-Ok.ensures;
        room = c.fill.ensures.room ∙ ap (λ bytes. filled bytes c.args.text.now) c.as_bytes.ensures.value;
        length = c.fill.ensures.count ∙ ap length c.as_bytes.ensures.value;
        posix = record {
          read = λ yes. subst IsSpelled c.as_str.ensures.value (c.is_posix_string.ensures.read yes);
          told = λ value spells. c.is_posix_string.ensures.told value (subst (λ text. Spells text value) (sym c.as_str.ensures.value) spells);
        };
      },
    )
