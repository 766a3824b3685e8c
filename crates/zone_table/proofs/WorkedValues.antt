-- What the code's values of lines show, at worked rows: each text stands in its own place.
use Rattle.std.{proofs.Common.{◌≡◌, ℕ, List, [], ◌∷◌, map, Some, refl, pos}, specs.Prelude.{codes}, specs.Borrow.{Bor}}
use Rattle.zone_table.specs.{Seconds.{with_type}, Values.{no_saving, one_off, multiple, space, zone, continuation, rule, link, line_value, saving_value}, declared.change.ChangeTime.TheVariants.{UntilYear}, declared.day.DaySpec.TheVariants.{Ordinal}, declared.{line.Rule.{Rule}, line.ZoneInfo.{ZoneInfo}, month.Month.TheVariants.{March}, time.TimeSpec.TheVariants.{Hours}, time.TimeType.TheVariants.{Standard}, year.Year.TheVariants.{Maximum, Number}}}
use Rattle.zone_table.specs.declared.line.Line.TheVariants as code
use Rattle.zone_table.specs.declared.line.Saving.TheVariants as saving

-- a text of a line, wherever it lies
abbrev at : ℕ → List ℕ → Bor (List ℕ)
at place text = record { ref_ptr = (0, place); now = text }

-- `Rule US 2007 max - Mar 8 2s 1 D`
abbrev a_rule : Rule
a_rule = record {
  name = at 5 (codes "US");
  from_year = Number (pos 2007);
  to_year = Some Maximum;
  month = March;
  day = Ordinal (pos 8);
  time = with_type (Hours (pos 2)) Standard;
  time_to_add = Hours (pos 1);
  letters = Some (at 29 (codes "D"));
}

-- `5 US E%sT 2007`
abbrev an_info : ZoneInfo
an_info = record {
  utc_offset = Hours (pos 5);
  saving = saving.Multiple (at 2 (codes "US"));
  format = at 5 (codes "E%sT");
  time = Some (UntilYear (Number (pos 2007)));
}

-- of a link the name that stands comes first, as in the line
lines : map line_value (code.Space ∷ code.Link (record { existing = at 5 (codes "A"); new = at 7 (codes "B") })
    ∷ code.Continuation an_info ∷ code.Zone (record { name = at 5 (codes "Z"); info = an_info }) ∷ code.Rule a_rule ∷ [])
    ≡ space ∷ link (codes "A") (codes "B")
    ∷ continuation (record { utc_offset = Hours (pos 5); saving = multiple (codes "US"); format = codes "E%sT"; time = Some (UntilYear (Number (pos 2007))) })
    ∷ zone (codes "Z") (record { utc_offset = Hours (pos 5); saving = multiple (codes "US"); format = codes "E%sT"; time = Some (UntilYear (Number (pos 2007))) })
    ∷ rule (record {
      name = codes "US";
      from_year = Number (pos 2007);
      to_year = Some Maximum;
      month = March;
      day = Ordinal (pos 8);
      time = with_type (Hours (pos 2)) Standard;
      time_to_add = Hours (pos 1);
      letters = Some (codes "D");
    }) ∷ []
lines = refl

other_savings : map saving_value (saving.NoSaving ∷ saving.OneOff (Hours (pos 1)) ∷ []) ≡ no_saving ∷ one_off (Hours (pos 1)) ∷ []
other_savings = refl
