-- What a file says, part by part.
use Rattle.std.specs.{Prelude.{◌≡◌, ℕ, ◌+◌, ◌≤◌, ◌==◌, not, ℤ, true, List, [], ◌∷◌, ◌++◌, length, Some, slice_get, slice_index}, List.{list_all}, Str.{IsUtf8}}
use Rattle.zone_tzif_core.specs.{Zones.{KindValue, ZoneValue, is_small, rises}, Numbers.{four_of, eight_of}, Format.{header_of, begins_well, block_len, suits, is_only, is_one_line}, declared.header.Header.{Header}}

-- 44 bytes that begin with `TZif`; the 15 bytes after the version are any
pub record IsHeader (bytes : List ℕ) (says : Header) : Type 0 where
  pub long : length bytes ≡ 44
  pub begins : begins_well bytes ≡ true
  pub read : header_of bytes ≡ says

-- the name: the bytes from its place up to the first zero
pub record IsName (names : List ℕ) (place : ℕ) (name : List ℕ) : Type 0 where
  pub before : List ℕ
  pub after : List ℕ
  pub whole : names ≡ before ++ (name ++ 0 ∷ after)
  pub starts : length before ≡ place
  pub no_zero : list_all (λ c. not (c == 0)) name ≡ true
  pub text : IsUtf8 name

-- six bytes: the offset, whether it is daylight saving time, the place of the name
pub record IsKind (names : List ℕ) (bytes : List ℕ) (kind : KindValue) : Type 0 where
  pub long : length bytes ≡ 6
  pub offset : four_of bytes ≡ kind.utoff
  pub small : is_small kind.utoff ≡ true
  pub flag : slice_index bytes 4 ≤ 1
  pub is_dst : (slice_index bytes 4 == 1) ≡ kind.is_dst
  pub named : IsName names (slice_index bytes 5) kind.name

-- a record for each kind
pub data AreKinds (names : List ℕ) : List ℕ → List KindValue → Type 0 where
  no_kind : AreKinds names [] []
  a_kind : {bytes records : List ℕ} {kind : KindValue} {kinds : List KindValue} → IsKind names bytes kind →
      AreKinds names records kinds → AreKinds names (bytes ++ records) (kind ∷ kinds)

-- so many bytes and a kind's number for each time
pub data AreShifts (size : ℕ) (time_of : List ℕ → ℤ) (kinds : List KindValue) : List ℕ → List ℕ → List (ℤ × KindValue) → Type 0 where
  no_shift : AreShifts size time_of kinds [] [] []
  a_shift : (time : List ℕ) {times numbers : List ℕ} {number : ℕ} {kind : KindValue} {shifts : List (ℤ × KindValue)} → length time ≡ size →
      slice_get kinds number ≡ Some kind → AreShifts size time_of kinds times numbers shifts →
      AreShifts size time_of kinds (time ++ times) (number ∷ numbers) ((time_of time, kind) ∷ shifts)

-- a block whose times have so many bytes
pub record IsBlock (size : ℕ) (time_of : List ℕ → ℤ) (says : Header) (bytes : List ℕ) (kinds : List KindValue) (shifts : List (ℤ × KindValue)) : Type 0 where
  pub times : List ℕ
  pub numbers : List ℕ
  pub records : List ℕ
  pub names : List ℕ
  pub flags : List ℕ
  pub whole : bytes ≡ times ++ numbers ++ records ++ names ++ flags
  pub time_count : length numbers ≡ says.time
  pub kind_count : length kinds ≡ says.kind
  pub char_count : length names ≡ says.char
  pub flag_count : length flags ≡ says.isstd + says.isut
  pub are_kinds : AreKinds names records kinds
  pub are_shifts : AreShifts size time_of kinds times numbers shifts

-- the bytes are a header, its block of any bytes, a header, its block, an LF, the footer and an LF, of version 2 to the last one
pub record IsZoneFile (last : ℕ) (bytes : List ℕ) (zone : ZoneValue) : Type 0 where
  pub head : List ℕ
  pub skipped : List ℕ
  pub second_head : List ℕ
  pub block : List ℕ
  pub first_says : Header
  pub says : Header
  pub kinds : List KindValue
  pub whole : bytes ≡ head ++ skipped ++ second_head ++ block ++ 10 ∷ zone.footer ++ 10 ∷ []
  pub first_header : IsHeader head first_says
  pub first_length : length skipped ≡ block_len first_says
  pub second_header : IsHeader second_head says
  pub suited : suits last first_says.version says ≡ true
  pub block_is : IsBlock 8 eight_of says block kinds zone.rest
  pub rising : rises zone.rest ≡ true
  pub first_kind : slice_get kinds 0 ≡ Some zone.first
  pub one_line : is_one_line zone.footer ≡ true
  pub text : IsUtf8 zone.footer

-- of version 2 to 4
abbrev pub Denotes : List ℕ → ZoneValue → Type 0
Denotes bytes zone = IsZoneFile 52 bytes zone

-- the bytes are one header, that of version 1, and its block, whose times have four bytes; so there is no footer
pub record IsOldFile (bytes : List ℕ) (zone : ZoneValue) : Type 0 where
  pub head : List ℕ
  pub block : List ℕ
  pub says : Header
  pub kinds : List KindValue
  pub whole : bytes ≡ head ++ block
  pub header : IsHeader head says
  pub only : is_only says ≡ true
  pub block_is : IsBlock 4 four_of says block kinds zone.rest
  pub rising : rises zone.rest ≡ true
  pub first_kind : slice_get kinds 0 ≡ Some zone.first
  pub no_footer : zone.footer ≡ []

-- of any version: a later version than 4 is taken as that
pub data Says (bytes : List ℕ) (zone : ZoneValue) : Type 0 where
  zone_file : IsZoneFile 255 bytes zone → Says bytes zone
  old_file : IsOldFile bytes zone → Says bytes zone
