-- A footer is not empty.
use Rattle.std.proofs.{Common.{◌≡◌, ℕ, ◌<◌, List, [], ◌++◌, length, ap, arith}, lemmas.List.{length-append}}
use Rattle.tz_posix.specs.{Spells.{SpellsName, enclosed, letters, SpellsIn, short_form, full_form, signed_times}, Values.{Value}, declared.time.Offset.{Offset}}
use Rattle.tz_tzif.specs.{FooterForce.{FooterZone}, Standing.{StandsFor}}

named : {text name : List ℕ} → SpellsName text name → 0 < length text
named (enclosed h k) = omega arith
named (letters h k l) = omega (arith, h)

some_text : {text : List ℕ} {value : Value Offset} → SpellsIn signed_times text value → 0 < length text
some_text (short_form name) = omega arith
some_text (full_form {a} {b} {c} name offset saving) =
    omega (arith, named name, length-append (a ++ b) c, length-append a b)

pub no_text : {text : List ℕ} {zone : FooterZone} → StandsFor text zone → text ≡ [] → ⊥
no_text stands e = absurd (omega (arith, some_text stands.is.spelled, ap length e))
