-- Which changed files are read, and as what.
use Rattle.std.proofs.Common.{◌≡◌, ℕ, pos, negsuc, true, false, List, [], ◌∷◌, ◌++◌, map, take, drop, replicate, Option, Some, None, option_map, Err, refl}
use lib.Utf8.{encode}
use Rattle.std.specs.{Prelude.{codes}, Str.{is_utf8, chars}}
use Rattle.zone_tzif_core.specs.{Denotes.{Denotes, Says}, Format.{header_of, begins_well, block_len, is_only, suits}, Numbers.{count_of, four_of, eight_of}}
use Rattle.zone_tzif_core.specs.{Reading.{cut, header_at, text_in, between, footer_in, block_in, second_in, parts_in, before_zero, name_in, kind_in, kinds_in, shifts_in, joined_in, said_in, said_parts, zone_in}, Profile.{ReadsWritten}, Shown.{Reads}}
use Rattle.zone_tzif_core.specs.{ZoneFiles.{ReadsFile}, Zones.{KindValue}, declared.values.ReadFault.TheVariants.{NoMemory}}
use Rattle.zone_tzif_core.proofs.{ExactLemmas.{denoted, refused, what_is_said}, WorkedFiles.{a_kind, changing, fixed, fixed_file, changing_file, head, patched, of_version, standard}}

abbrev first_read : List ℕ → Option KindValue
first_read file = option_map (λ zone. zone.first) (zone_in 52 file)

-- bytes put in at a place
abbrev with : List ℕ → ℕ → List ℕ → List ℕ
with file place bytes = take place file ++ bytes ++ drop place file

-- a version byte `1`, version 5, two versions; a leap second; no kind; no name; `TZif` misspelled; no last byte, one byte more
no_file : map (zone_in 52)
    (of_version 49 ∷ of_version 53 ∷ patched fixed_file 4 51 ∷ patched fixed_file 82 1 ∷ patched fixed_file 90 0 ∷ patched fixed_file 94 0
    ∷ patched fixed_file 0 116 ∷ patched fixed_file 54 70 ∷ take 114 fixed_file ∷ (fixed_file ++ 10 ∷ []) ∷ []) ≡ replicate 10 None
unfolding zone_in parts_in joined_in block_in second_in footer_in between text_in header_at cut header_of begins_well block_len suits kinds_in shifts_in kind_in name_in before_zero count_of four_of eight_of is_utf8 chars encode
no_file = refl

-- where nothing is denoted or said, no memory is wanting
no_want : (¬ (Reads (Denotes []) (Err NoMemory))) × (¬ (ReadsFile (Says []) (Err NoMemory))) × (¬ (ReadsWritten [] (Err NoMemory)))
unfolding zone_in parts_in said_in said_parts header_at cut
no_want = (
  λ some. refused _ (denoted []) refl some.0 some.1,
  λ some. refused _ (what_is_said []) refl some.0 some.1,
  λ some. refused _ (denoted []) refl some.0 some.1,
)

-- the offset's bounds, `is_dst` of 1 and of 2, places of the name: one in it, its zero byte, one past the last; a name without a zero
-- byte; a name and a footer that are not UTF-8; a footer with an LF, with a zero byte
records : map first_read
    (patched (patched (patched fixed_file 96 1) 97 109) 98 159 ∷ patched (patched (patched fixed_file 96 1) 97 109) 98 160
    ∷ patched (patched (patched (patched fixed_file 95 255) 96 254) 97 146) 98 97 ∷ patched (patched (patched (patched fixed_file 95 255) 96 254) 97 146) 98 96
    ∷ patched fixed_file 99 1 ∷ patched fixed_file 99 2 ∷ patched fixed_file 100 1 ∷ patched fixed_file 100 3 ∷ patched fixed_file 100 4
    ∷ patched fixed_file 104 65 ∷ patched fixed_file 101 255 ∷ patched fixed_file 106 255 ∷ patched fixed_file 106 10 ∷ patched fixed_file 106 0 ∷ [])
    ≡ Some (a_kind (pos 93599) false (codes "TST")) ∷ None ∷ Some (a_kind (negsuc 93598) false (codes "TST")) ∷ None
    ∷ Some (a_kind (pos 5400) true (codes "TST")) ∷ None ∷ Some (a_kind (pos 5400) false (codes "ST")) ∷ Some (a_kind (pos 5400) false []) ∷ None
    ∷ None ∷ None ∷ None ∷ None ∷ None ∷ []
unfolding zone_in parts_in joined_in block_in second_in footer_in between text_in header_at cut header_of begins_well block_len suits kinds_in shifts_in kind_in name_in before_zero count_of four_of eight_of is_utf8 chars encode
records = refl

-- of four kinds: four bytes of each flag, and one; a time equal to the one before; a kind's number that there isn't
blocks : map (zone_in 52)
    (with (patched changing_file 74 4) 170 (1 ∷ 2 ∷ 3 ∷ 4 ∷ []) ∷ with (patched changing_file 78 4) 170 (1 ∷ 2 ∷ 3 ∷ 4 ∷ [])
    ∷ with (patched changing_file 74 1) 170 (1 ∷ []) ∷ with (patched changing_file 78 1) 170 (1 ∷ []) ∷ patched changing_file 118 5 ∷ patched changing_file 127 4 ∷ [])
    ≡ Some changing ∷ Some changing ∷ None ∷ None ∷ None ∷ None ∷ []
unfolding zone_in parts_in joined_in block_in second_in footer_in between text_in header_at cut header_of begins_well block_len suits kinds_in shifts_in kind_in name_in before_zero count_of four_of eight_of is_utf8 chars encode
blocks = refl

-- each count of a header stands in its place, and each entry takes its bytes in a first block
counts : map (λ bytes. block_len (header_of (codes "TZif2" ++ replicate 15 0 ++ bytes)))
    ((0 ∷ 0 ∷ 0 ∷ 1 ∷ 0 ∷ 0 ∷ 0 ∷ 10 ∷ 0 ∷ 0 ∷ 0 ∷ 100 ∷ 0 ∷ 0 ∷ 3 ∷ 232 ∷ 0 ∷ 0 ∷ 39 ∷ 16 ∷ 0 ∷ 1 ∷ 134 ∷ 160 ∷ []) ∷ []) ≡ 165811 ∷ []
unfolding header_of block_len count_of
counts = refl

-- to a reader of later versions version 5 is version 4; a version byte `1`, two versions and a leap second are none to it either
later_read : map (zone_in 255) (of_version 50 ∷ of_version 52 ∷ of_version 53 ∷ of_version 255 ∷ of_version 49 ∷ patched fixed_file 4 51 ∷ patched fixed_file 82 1 ∷ [])
    ≡ Some fixed ∷ Some fixed ∷ Some fixed ∷ Some fixed ∷ None ∷ None ∷ None ∷ []
unfolding zone_in parts_in joined_in block_in second_in footer_in between text_in header_at cut header_of begins_well block_len suits kinds_in shifts_in kind_in name_in before_zero count_of four_of eight_of is_utf8 chars encode
later_read = refl

-- files of version 1: one kind for good; and four kinds, times of both signs and the last one of four bytes, and flags of both sorts
abbrev old_fixed : List ℕ
old_fixed = head (codes "TZif" ++ 0 ∷ []) (replicate 19 0 ++ 1 ∷ 0 ∷ 0 ∷ 0 ∷ 4 ∷ []) ++ (0 ∷ 0 ∷ 21 ∷ 24 ∷ 0 ∷ 0 ∷ []) ++ codes "TST" ++ 0 ∷ []

abbrev old_changing : List ℕ
old_changing = head (codes "TZif" ++ 0 ∷ []) (0 ∷ 0 ∷ 0 ∷ 4 ∷ 0 ∷ 0 ∷ 0 ∷ 4 ∷ 0 ∷ 0 ∷ 0 ∷ 0 ∷ 0 ∷ 0 ∷ 0 ∷ 4 ∷ 0 ∷ 0 ∷ 0 ∷ 4 ∷ 0 ∷ 0 ∷ 0 ∷ 15 ∷ [])
    ++ (158 ∷ 166 ∷ 30 ∷ 112 ∷ 0 ∷ 0 ∷ 0 ∷ 5 ∷ 0 ∷ 0 ∷ 0 ∷ 6 ∷ 127 ∷ 255 ∷ 255 ∷ 255 ∷ []) ++ (1 ∷ 2 ∷ 1 ∷ 3 ∷ [])
    ++ (255 ∷ 255 ∷ 186 ∷ 158 ∷ 0 ∷ 0 ∷ 255 ∷ 255 ∷ 185 ∷ 176 ∷ 0 ∷ 4 ∷ 255 ∷ 255 ∷ 199 ∷ 192 ∷ 1 ∷ 8 ∷ 0 ∷ 0 ∷ 14 ∷ 16 ∷ 0 ∷ 12 ∷ [])
    ++ codes "LMT" ++ 0 ∷ codes "EST" ++ 0 ∷ codes "EDT" ++ 0 ∷ codes "ST" ++ 0 ∷ 1 ∷ 0 ∷ 1 ∷ 0 ∷ 0 ∷ 1 ∷ 0 ∷ 0 ∷ []

-- what Python's `zoneinfo` finds in them, and no footer; a file of two headers says what it said
old_read : map said_in (old_fixed ∷ old_changing ∷ fixed_file ∷ changing_file ∷ of_version 53 ∷ [])
    ≡ Some (record { first = a_kind (pos 5400) false (codes "TST"); rest = []; footer = [] })
    ∷ Some (record {
      first = a_kind (negsuc 17761) false (codes "LMT");
      rest = (negsuc 1633280399, standard) ∷ (pos 5, a_kind (negsuc 14399) true (codes "EDT")) ∷ (pos 6, standard) ∷ (pos 2147483647, a_kind (pos 3600) false (codes "ST")) ∷ [];
      footer = [];
    }) ∷ Some fixed ∷ Some changing ∷ Some fixed ∷ []
unfolding said_in said_parts is_only zone_in parts_in joined_in block_in second_in footer_in between text_in header_at cut header_of begins_well block_len suits kinds_in shifts_in kind_in name_in before_zero count_of four_of eight_of is_utf8 chars encode
old_read = refl

-- the version byte 1, and `1`; one byte more, and one less; an empty footer; a leap second; no kind; times that fall; a kind that there
-- isn't; a second header
no_old : map said_in
    (patched old_fixed 4 1 ∷ patched old_fixed 4 49 ∷ (old_fixed ++ 0 ∷ []) ∷ take 53 old_fixed ∷ (old_fixed ++ 10 ∷ 10 ∷ [])
    ∷ (patched old_fixed 31 1 ++ replicate 8 0) ∷ (patched old_fixed 39 0) ∷ patched old_changing 44 0 ∷ patched old_changing 60 4 ∷ patched fixed_file 4 0 ∷ [])
    ≡ replicate 10 None
unfolding said_in said_parts is_only zone_in parts_in joined_in block_in second_in footer_in between text_in header_at cut header_of begins_well block_len suits kinds_in shifts_in kind_in name_in before_zero count_of four_of eight_of is_utf8 chars encode
no_old = refl
