-- Numbers, cut texts and paths at worked rows.
use Rattle.std.{proofs.Common.{◌≡◌, [], ◌∷◌, map, true, false, Some, None, refl, pos, negsuc, ◌^◌}, specs.Prelude.{codes}}
use Rattle.basics.specs.{Marks.{after_mark, before_mark, cut}, Numbers.{is_numeral, signed_in, value_in}, Paths.{has_parts}}

-- ---- numbers

-- the bytes before `0` and after `9`, a sign, a space and a digit that is not of ASCII (U+0660)
numerals : map is_numeral (codes "" ∷ codes "0" ∷ codes "9" ∷ codes "007" ∷ codes "/" ∷ codes ":" ∷ codes "+5" ∷ codes "1 " ∷ codes "1a2" ∷ (217 ∷ 160 ∷ []) ∷ [])
    ≡ false ∷ true ∷ true ∷ true ∷ false ∷ false ∷ false ∷ false ∷ false ∷ false ∷ []
numerals = refl

values_of_8_bits : map (value_in 8) (codes "" ∷ codes "0" ∷ codes "7" ∷ codes "010" ∷ codes "255" ∷ codes "0000255" ∷ codes "256" ∷ codes "999" ∷ [])
    ≡ None ∷ Some 0 ∷ Some 7 ∷ Some 10 ∷ Some 255 ∷ Some 255 ∷ None ∷ None ∷ []
unfolding value_in
values_of_8_bits = refl

values_of_16_bits : map (value_in 16) (codes "" ∷ codes "256" ∷ codes "65535" ∷ codes "65536" ∷ []) ≡ None ∷ Some 256 ∷ Some 65535 ∷ None ∷ []
unfolding value_in
values_of_16_bits = refl

signed_of_8_bits : map (signed_in (2 ^ 7))
    (codes "127" ∷ codes "128" ∷ codes "-128" ∷ codes "-129" ∷ codes "+5" ∷ codes "-0" ∷ codes "-007" ∷ codes "0" ∷ [])
    ≡ Some (pos 127) ∷ None ∷ Some (negsuc 127) ∷ None ∷ Some (pos 5) ∷ Some (pos 0) ∷ Some (negsuc 6) ∷ Some (pos 0) ∷ []
unfolding signed_in
signed_of_8_bits = refl

-- no digit, two signs, a sign behind, and what is no digit
not_signed : map (signed_in (2 ^ 7)) (codes "" ∷ codes "+" ∷ codes "-" ∷ codes "--1" ∷ codes "+-1" ∷ codes "5-" ∷ codes " 5" ∷ codes "5a" ∷ codes "0x7" ∷ [])
    ≡ None ∷ None ∷ None ∷ None ∷ None ∷ None ∷ None ∷ None ∷ None ∷ []
unfolding signed_in
not_signed = refl

signed_of_64_bits : map (signed_in (2 ^ 63))
    (codes "9223372036854775807" ∷ codes "9223372036854775808" ∷ codes "-9223372036854775808" ∷ codes "-9223372036854775809" ∷ [])
    ≡ Some (pos 9223372036854775807) ∷ None ∷ Some (negsuc 9223372036854775807) ∷ None ∷ []
unfolding signed_in
signed_of_64_bits = refl

-- ---- marks: none, in front, at the end, in the middle, twice, and alone

after_marks : map (after_mark 58) (codes "" ∷ codes "ab" ∷ codes ":ab" ∷ codes "ab:" ∷ codes "a:b" ∷ codes "::a" ∷ codes ":" ∷ [])
    ≡ None ∷ None ∷ Some (codes "ab") ∷ None ∷ None ∷ Some (codes ":a") ∷ Some [] ∷ []
after_marks = refl

before_marks : map (before_mark 58) (codes "" ∷ codes "ab" ∷ codes ":ab" ∷ codes "ab:" ∷ codes "a:b" ∷ codes "a::" ∷ codes ":" ∷ [])
    ≡ None ∷ None ∷ None ∷ Some (codes "ab") ∷ None ∷ Some (codes "a:") ∷ Some [] ∷ []
before_marks = refl

cuts : map (cut 58) (codes "" ∷ codes "ab" ∷ codes ":ab" ∷ codes "ab:" ∷ codes "a:b" ∷ codes "a:b:c" ∷ codes ":" ∷ [])
    ≡ None ∷ None ∷ Some ([], codes "ab") ∷ Some (codes "ab", []) ∷ Some (codes "a", codes "b") ∷ Some (codes "a", codes "b:c") ∷ Some ([], []) ∷ []
cuts = refl

-- ---- paths

paths : map has_parts (codes "A" ∷ codes "A/.B/..C/D." ∷ codes "..." ∷ codes "" ∷ codes "/A" ∷ codes "A/" ∷ codes "A//B" ∷ codes "." ∷ codes "A/./B"
    ∷ codes "../x" ∷ codes "A/.." ∷ [])
    ≡ true ∷ true ∷ true ∷ false ∷ false ∷ false ∷ false ∷ false ∷ false ∷ false ∷ false ∷ []
paths = refl
