-- Names that are offsets, in seconds east of UTC, and names that are none; a line of a fault.
use Rattle.std.{proofs.Common.{◌≡◌, refl, map, ℕ, ℤ, List, [], ◌∷◌, ◌++◌, Option, Some, None, pos, neg_ℤ}, specs.Prelude.{codes}}
use Rattle.basics.specs.Numbers.{value_in}
use Rattle.zone_command.specs.{Offsets.{two_in, size_in, offset_in}, Refusals.{fault_words, name_words, told_line}}
use Rattle.zone_texts.specs.declared.fault.ReplyFault.TheVariants.{Skipped, Untold}

abbrev offsets : List (List ℕ × Option ℤ)
offsets =
    (codes "UTC", Some (pos 0)) ∷ (codes "+02:00", Some (pos 7200)) ∷ (codes "-03:30", Some (neg_ℤ (pos 12600))) ∷
    (codes "+23:59", Some (pos 86340)) ∷ (codes "-00:01", Some (neg_ℤ (pos 60))) ∷ (codes "-00:00", Some (pos 0)) ∷
    (codes "+24:00", None) ∷ (codes "+02:60", None) ∷ (codes "+2:00", None) ∷ (codes "02:00", None) ∷ (codes "+0200", None) ∷
    (codes "+02:00:00", None) ∷ (codes "+02:00 ", None) ∷ (codes "+-2:00", None) ∷ (codes "utc", None) ∷ (codes "", None) ∷
    (codes "Europe/Paris", None) ∷ []

worked_offsets : map (λ row. offset_in row.0) offsets ≡ map (λ row. row.1) offsets
unfolding value_in two_in size_in offset_in
worked_offsets = refl

worked_line : told_line (name_words (codes "x") (fault_words Untold)) ≡ (codes "zone: " ++ 34 ∷ 120 ∷ 34 ∷ []) ++ codes ": the zone's rules end before that year" ++ 10 ∷ []
worked_line = refl

-- a name with a quote and a line feed stays one line, between its quotes
worked_name : name_words (34 ∷ 97 ∷ 10 ∷ []) (codes "w") ≡ (34 ∷ codes "\\\"a\\n") ++ 34 ∷ codes ": w"
worked_name = refl

worked_skip : fault_words Skipped ≡ codes "clocks skip this local time"
worked_skip = refl
