-- The definitions on worked rows.
use Rattle.std.specs.Prelude.{◌≡◌, [], ◌∷◌, map, pos, negsuc, Some, None, true, false, codes, refl}
use Rattle.zone_table.specs.{Formats.{format_of, filled, has_placeholder, abbreviation, is_constant, constant_text}, declared.zone.Format.TheVariants.{Constant, Alternate, Placeholder}}

placeholder_named : format_of (codes "E%sT") ≡ Placeholder (codes "E%sT")
unfolding format_of has_placeholder
placeholder_named = refl

first_slash_cuts : format_of (codes "GMT/BST/%s") ≡ Alternate (codes "GMT") (codes "BST/%s")
unfolding format_of has_placeholder
first_slash_cuts = refl

constant_named : format_of (codes "%T") ≡ Constant (codes "%T")
unfolding format_of has_placeholder
constant_named = refl

letters_stand : abbreviation (Placeholder (codes "E%sT")) (pos 3600) (Some (codes "D")) ≡ codes "EDT"
unfolding abbreviation filled
letters_stand = refl

every_placeholder : filled (codes "ab") (codes "%s%s") ≡ codes "abab"
unfolding filled
every_placeholder = refl

-- letters are not read for a `%s` of their own
letters_stay : filled (codes "s%") (codes "%%s") ≡ codes "%s%"
unfolding filled
letters_stay = refl

no_letters : abbreviation (Placeholder (codes "%%sT%")) (pos 0) None ≡ codes "%T%"
unfolding abbreviation filled
no_letters = refl

-- a saving below 0 is one, as in Dublin's winter
negative_saving : abbreviation (Alternate (codes "IST") (codes "GMT")) (negsuc 3599) None ≡ codes "GMT"
unfolding abbreviation
negative_saving = refl

no_saving_is_standard : abbreviation (Alternate (codes "IST") (codes "GMT")) (pos 0) None ≡ codes "IST"
unfolding abbreviation
no_saving_is_standard = refl

saving_decides : abbreviation (Alternate (codes "GMT") (codes "BST")) (pos 3600) (Some (codes "S")) ≡ codes "BST"
unfolding abbreviation
saving_decides = refl

-- a format that is always the same stays under a saving with letters too
constant_stays : abbreviation (Constant (codes "UTC")) (pos 3600) (Some (codes "S")) ≡ codes "UTC"
unfolding abbreviation
constant_stays = refl

-- the others are not always the same
constants : map is_constant (Constant (codes "UTC") ∷ Alternate (codes "GMT") (codes "BST") ∷ Placeholder (codes "E%sT") ∷ []) ≡ true ∷ false ∷ false ∷ []
constants = refl

text_of_constant : constant_text (Constant (codes "UTC")) ≡ codes "UTC"
text_of_constant = refl
