-- Files at worked values, which Python's `zoneinfo` reads as written here.
use Rattle.std.proofs.Common.{◌≡◌, ℕ, ◌+◌, ℤ, pos, negsuc, Bool, true, false, List, [], ◌∷◌, ◌++◌, map, take, drop, replicate, Some, refl}
use lib.Utf8.{encode}
use Rattle.std.specs.{Prelude.{codes}, Str.{is_utf8, chars}}
use Rattle.zone_tzif_core.specs.{Format.{header_of, begins_well, block_len, suits}, Numbers.{count_of, four_of, eight_of, count_bytes, four_bytes, eight_bytes}}
use Rattle.zone_tzif_core.specs.Reading.{cut, header_at, text_in, between, footer_in, block_in, second_in, parts_in, before_zero, name_in, kind_in, kinds_in, shifts_in, joined_in, zone_in}
use Rattle.zone_tzif_core.specs.{Tzif.{kinds_of, names_of, name_bytes, name_place, kind_number, header_bytes, record_bytes, block_bytes, tzif, tzif_by}, Zones.{KindValue, ZoneValue}, declared.values.Version.TheVariants.{Three}}

abbrev pub a_kind : ℤ → Bool → List ℕ → KindValue
a_kind utoff is_dst name = record { utoff = utoff; is_dst = is_dst; name = name }

-- one kind for good
abbrev pub fixed : ZoneValue
fixed = record { first = a_kind (pos 5400) false (codes "TST"); rest = []; footer = codes "TST-1:30" }

abbrev pub standard : KindValue
standard = a_kind (negsuc 17999) false (codes "EST")

-- four kinds, of which one is used twice, and the last one's name ends another's; times of both signs, and one past 2^32
abbrev pub changing : ZoneValue
changing = record {
  first = a_kind (negsuc 17761) false (codes "LMT");
  rest = (negsuc 2717650799, standard) ∷ (pos 5, a_kind (negsuc 14399) true (codes "EDT")) ∷ (pos 6, standard) ∷ (pos 4294967301, a_kind (pos 3600) false (codes "ST")) ∷ [];
  footer = [];
}

-- a header that begins with these bytes, and its counts
abbrev pub head : List ℕ → List ℕ → List ℕ
head begins counts = begins ++ replicate 15 0 ++ counts

abbrev pub front : List ℕ
front = head (codes "TZif2") (replicate 19 0 ++ 1 ∷ 0 ∷ 0 ∷ 0 ∷ 1 ∷ []) ++ replicate 7 0

abbrev pub fixed_file : List ℕ
fixed_file = front ++ head (codes "TZif2") (replicate 19 0 ++ 1 ∷ 0 ∷ 0 ∷ 0 ∷ 4 ∷ []) ++ (0 ∷ 0 ∷ 21 ∷ 24 ∷ 0 ∷ 0 ∷ []) ++ codes "TST" ++ 0 ∷ 10 ∷ codes "TST-1:30" ++ 10 ∷ []

abbrev pub changing_file : List ℕ
changing_file = front ++ head (codes "TZif2") (replicate 15 0 ++ 4 ∷ 0 ∷ 0 ∷ 0 ∷ 4 ∷ 0 ∷ 0 ∷ 0 ∷ 15 ∷ [])
    ++ (255 ∷ 255 ∷ 255 ∷ 255 ∷ 94 ∷ 3 ∷ 240 ∷ 144 ∷ 0 ∷ 0 ∷ 0 ∷ 0 ∷ 0 ∷ 0 ∷ 0 ∷ 5 ∷ 0 ∷ 0 ∷ 0 ∷ 0 ∷ 0 ∷ 0 ∷ 0 ∷ 6 ∷ 0 ∷ 0 ∷ 0 ∷ 1 ∷ 0 ∷ 0 ∷ 0 ∷ 5 ∷ [])
    ++ (1 ∷ 2 ∷ 1 ∷ 3 ∷ [])
    ++ (255 ∷ 255 ∷ 186 ∷ 158 ∷ 0 ∷ 0 ∷ 255 ∷ 255 ∷ 185 ∷ 176 ∷ 0 ∷ 4 ∷ 255 ∷ 255 ∷ 199 ∷ 192 ∷ 1 ∷ 8 ∷ 0 ∷ 0 ∷ 14 ∷ 16 ∷ 0 ∷ 12 ∷ [])
    ++ codes "LMT" ++ 0 ∷ codes "EST" ++ 0 ∷ codes "EDT" ++ 0 ∷ codes "ST" ++ 0 ∷ 10 ∷ 10 ∷ []

written : map tzif (fixed ∷ changing ∷ []) ≡ fixed_file ∷ changing_file ∷ []
unfolding tzif_by header_bytes block_bytes kinds_of names_of name_bytes record_bytes kind_number name_place count_bytes four_bytes eight_bytes
written = refl

-- a file with another byte at a place
abbrev pub patched : List ℕ → ℕ → ℕ → List ℕ
patched file place byte = take place file ++ byte ∷ drop (place + 1) file

-- both version bytes
abbrev pub of_version : ℕ → List ℕ
of_version version = patched (patched fixed_file 4 version) 55 version

-- the other version differs in both
third : tzif_by Three fixed ≡ of_version 51
unfolding tzif_by header_bytes block_bytes kinds_of names_of name_bytes record_bytes kind_number name_place count_bytes four_bytes eight_bytes
third = refl

read_back : map (zone_in 52) (fixed_file ∷ changing_file ∷ of_version 51 ∷ of_version 52 ∷ patched fixed_file 5 1 ∷ patched fixed_file 44 9 ∷ [])
    ≡ Some fixed ∷ Some changing ∷ Some fixed ∷ Some fixed ∷ Some fixed ∷ Some fixed ∷ []
unfolding zone_in parts_in joined_in block_in second_in footer_in between text_in header_at cut header_of begins_well block_len suits kinds_in shifts_in kind_in name_in before_zero count_of four_of eight_of is_utf8 chars encode
read_back = refl
