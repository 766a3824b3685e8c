-- The one file that is written for a value.
use Rattle.std.specs.Prelude.{◌≡◌, ℕ, ◌+◌, ◌<◌, ◌==◌, not, ℤ, Bool, ◌&&◌, if◌then◌else◌, List, [], ◌∷◌, ◌++◌, length, map, bytes_eq, nat_le, replicate, slice_index_or, IsUtf8, FitsSigned, Option, Some, None, Result, Ok, Err}
use Rattle.std.specs.{List.{list_any, list_all, flat_map, position_or_len}, Bool.{beq}, Int.{w64}, Ordering.{int_eq}}
use Rattle.zone_tzif_core.specs.{Zones.{KindValue, ZoneValue, is_small, rises}, Numbers.{count_bytes, four_bytes, eight_bytes}, Format.{is_one_line}, declared.values.Version.{Version}, declared.values.Version.TheVariants.{Two, Three}}
use Rattle.zone_tzif_core.specs.declared.values.WriteFault.{WriteFault, TheVariants.{Times, Types, Names, Offset, Footer, NoMemory}}

-- the two kinds are one
abbrev pub is_same : KindValue → KindValue → Bool
is_same a b = int_eq a.utoff b.utoff && beq a.is_dst b.is_dst && bytes_eq a.name b.name

-- the items with one more, where it is not among them
abbrev pub added : {A : Type 0} → (A → A → Bool) → List A → A → List A
added same items item = if list_any (same item) items then items else items ++ item ∷ []

-- those items and what follows, each once, in order of first use
abbrev pub each_once : {A : Type 0} → (A → A → Bool) → List A → List A → List A
each_once same items [] = items
each_once same items (x ∷ rest) = each_once same (added same items x) rest

-- the distinct kinds in order of first use
unfoldable pub kinds_of : ZoneValue → List KindValue
kinds_of zone = each_once is_same [] (zone.first ∷ map (λ shift. shift.1) zone.rest)

-- the distinct names in the order of the kinds
unfoldable pub names_of : List KindValue → List (List ℕ)
names_of kinds = each_once bytes_eq [] (map (λ kind. kind.name) kinds)

-- each name followed by a zero
unfoldable pub name_bytes : List (List ℕ) → List ℕ
name_bytes names = flat_map (λ name. name ++ 0 ∷ []) names

-- where the name begins among the names' bytes
unfoldable pub name_place : List (List ℕ) → List ℕ → ℕ
name_place [] name = 0
name_place (other ∷ names) name = if bytes_eq name other then 0 else length other + 1 + name_place names name

-- the number of the kind
unfoldable pub kind_number : List KindValue → KindValue → ℕ
kind_number kinds kind = position_or_len (is_same kind) kinds

-- `2` or `3`
abbrev pub version_byte : Version → ℕ
version_byte Two = 50
version_byte Three = 51

unfoldable pub header_bytes : Version → ℕ → ℕ → ℕ → List ℕ
header_bytes version times kinds chars =
    84 ∷ 90 ∷ 105 ∷ 102 ∷ version_byte version ∷ replicate 15 0 ++ count_bytes 0 ++ count_bytes 0 ++ count_bytes 0 ++ count_bytes times ++ count_bytes kinds ++ count_bytes chars

unfoldable pub record_bytes : List (List ℕ) → KindValue → List ℕ
record_bytes names kind = four_bytes kind.utoff ++ (if kind.is_dst then 1 else 0) ∷ name_place names kind.name ∷ []

-- the second block
unfoldable pub block_bytes : List KindValue → List (ℤ × KindValue) → List ℕ
block_bytes kinds shifts =
    flat_map (λ shift. eight_bytes shift.0) shifts ++ map (λ shift. kind_number kinds shift.1) shifts
    ++ flat_map (record_bytes (names_of kinds)) kinds ++ name_bytes (names_of kinds)

-- the file of a version
unfoldable pub tzif_by : Version → ZoneValue → List ℕ
tzif_by version zone =
    header_bytes version 0 1 1 ++ replicate 7 0
    ++ header_bytes version (length zone.rest) (length (kinds_of zone)) (length (name_bytes (names_of (kinds_of zone))))
    ++ block_bytes (kinds_of zone) zone.rest ++ 10 ∷ zone.footer ++ 10 ∷ []

abbrev pub tzif : ZoneValue → List ℕ
tzif = tzif_by Two

-- the times strictly rise and are 4,294,967,295 at most
unfoldable pub are_times : List (ℤ × KindValue) → Bool
are_times shifts = rises shifts && nat_le (length shifts) 4294967295

-- no name has a zero, and all with their zeros take 256 bytes at most
unfoldable pub are_names : List (List ℕ) → Bool
are_names names = list_all (λ name. list_all (λ c. not (c == 0)) name) names && nat_le (length (name_bytes names)) 256

-- the first test that does not hold
abbrev pub first_fault : Bool → Bool → Bool → Bool → Bool → Option WriteFault
first_fault times types names offsets footer =
    if not times then Some Times
    else (if not types then Some Types
    else (if not names then Some Names
    else (if not offsets then Some Offset
    else (if not footer then Some Footer else None))))

-- why a value is not written
unfoldable pub write_fault : ZoneValue → Option WriteFault
write_fault zone = first_fault (are_times zone.rest) (nat_le (length (kinds_of zone)) 256) (are_names (names_of (kinds_of zone)))
    (list_all (λ kind. is_small kind.utoff) (kinds_of zone)) (is_one_line zone.footer)

-- each time has 64 bits
abbrev pub TimesFit : List (ℤ × KindValue) → Type 0
TimesFit shifts = (k : ℕ) (d : ℤ × KindValue) → k < length shifts → FitsSigned w64 (slice_index_or shifts k d).0

-- what the code's own values meet: texts are UTF-8, and a time has 64 bits
pub record IsValue (zone : ZoneValue) : Type 0 where
  pub first_text : IsUtf8 zone.first.name
  pub texts : (k : ℕ) (d : ℤ × KindValue) → k < length zone.rest → IsUtf8 (slice_index_or zone.rest k d).1.name
  pub times : TimesFit zone.rest
  pub footer : IsUtf8 zone.footer

-- the bytes are the file of that version that is written for the value
pub record IsTzifBy (version : Version) (bytes : List ℕ) (zone : ZoneValue) : Type 0 where
  pub value : IsValue zone
  pub writable : write_fault zone ≡ None
  pub written : bytes ≡ tzif_by version zone

abbrev pub IsTzif : List ℕ → ZoneValue → Type 0
IsTzif = IsTzifBy Two

-- a writer refuses for the first cause that holds
abbrev pub IsCause : WriteFault → Option WriteFault → Type 0
IsCause NoMemory fault = Unit {0}
IsCause Times fault = Some Times ≡ fault
IsCause Types fault = Some Types ≡ fault
IsCause Names fault = Some Names ≡ fault
IsCause Offset fault = Some Offset ≡ fault
IsCause Footer fault = Some Footer ≡ fault

-- what a writer of a version gives for a value
abbrev pub WritesBy : {V : Type 0} → Version → (V → List ℕ) → ZoneValue → Result V WriteFault → Type 0
WritesBy version bytes zone (Ok file) = (None ≡ write_fault zone) × (bytes file ≡ tzif_by version zone)
WritesBy version bytes zone (Err fault) = IsCause fault (write_fault zone)

abbrev pub Writes : {V : Type 0} → (V → List ℕ) → ZoneValue → Result V WriteFault → Type 0
Writes = WritesBy Two
