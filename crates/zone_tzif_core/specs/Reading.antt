-- The parts of a file, as the code cuts them.
use Rattle.std.specs.Prelude.{◌≡◌, ℕ, zero, suc, ℤ, Bool, true, false, ◌+◌, ◌-◌, ◌*◌, ◌==◌, ◌&&◌, List, [], ◌∷◌, length, take, drop, Option, Some, None, option_map, option_and_then, nat_le, if◌then◌else◌, slice_index, slice_get, slice_range, position}
use Rattle.std.specs.{Str.{is_utf8}, Borrow.{Bor}}
use Rattle.zone_tzif_core.specs.{declared.header.Header.{Header}, declared.parts.Parts.{Parts}, Format.{begins_well, header_of, block_len, suits, is_only, is_one_line}, Numbers.{four_of, eight_of}, Zones.{KindValue, ZoneValue, is_small, rises}}

infixl 10 ◌>>=◌
abbrev pub ◌>>=◌ : {A B : Type 0} → Option A → (A → Option B) → Option B
o >>= f = option_and_then f o

abbrev pub cut_as : Option (Bor (List ℕ) × Bor (List ℕ)) → Option (List ℕ × List ℕ)
cut_as result = option_map (λ x. (x.0.now, x.1.now)) result

-- the first n bytes, and the rest
unfoldable pub cut : ℕ → List ℕ → Option (List ℕ × List ℕ)
cut n bytes = if nat_le n (length bytes) then Some (take n bytes, drop n bytes) else None

abbrev pub header_as : Option (Header × Bor (List ℕ)) → Option (Header × List ℕ)
header_as result = option_map (λ x. (x.0, x.1.now)) result

unfoldable pub header_at : List ℕ → Option (Header × List ℕ)
header_at bytes = do
  head ← cut 44 bytes
  if begins_well head.0 then Some (header_of head.0, head.1) else None

unfoldable pub text_in : List ℕ → Option (List ℕ)
text_in bytes = if is_utf8 bytes then Some bytes else None

-- the bytes between a first and a last LF
unfoldable pub between : List ℕ → Option (List ℕ)
between bytes =
    if nat_le 2 (length bytes) && slice_index bytes 0 == 10 && slice_index bytes (length bytes - 1) == 10
    then Some (slice_range bytes 1 (length bytes - 1)) else None

-- the footer between two LFs
unfoldable pub footer_in : List ℕ → Option (List ℕ)
footer_in bytes = do
  inner ← between bytes
  if is_one_line inner then text_in inner else None

-- the bytes of a time: eight, or four in a file of version 1
abbrev pub time_size : Bool → ℕ
time_size true = 8
time_size false = 4

abbrev pub time_of : Bool → List ℕ → ℤ
time_of true = eight_of
time_of false = four_of

-- the parts of a block, and the footer
pub record Cuts : Type 0 where
  pub wide : Bool
  pub kinds : ℕ
  pub times : List ℕ
  pub numbers : List ℕ
  pub records : List ℕ
  pub names : List ℕ
  pub footer : List ℕ

abbrev pub parts_shown : Parts → Cuts
parts_shown p = record {
  wide = p.wide;
  kinds = p.kinds;
  times = p.times.now;
  numbers = p.numbers.now;
  records = p.records.now;
  names = p.names.now;
  footer = p.footer.now;
}

-- six bytes for each kind, and a time for each number
pub record AreCounted (parts : Cuts) : Type 0 where
  pub records : length parts.records ≡ 6 * parts.kinds
  pub times : length parts.times ≡ time_size parts.wide * length parts.numbers

-- what follows a block: the footer, or nothing in a file of version 1
abbrev pub end_in : Bool → List ℕ → Option (List ℕ)
end_in true bytes = footer_in bytes
end_in false [] = Some []
end_in false (c ∷ bytes) = None

-- the block of a header, and what follows it
unfoldable pub block_in : Bool → Header → List ℕ → Option Cuts
block_in wide h bytes = do
  times ← cut (time_size wide * h.time) bytes
  numbers ← cut h.time times.1
  records ← cut (6 * h.kind) numbers.1
  names ← cut h.char records.1
  flags ← cut (h.isstd + h.isut) names.1
  footer ← end_in wide flags.1
  Some (record { wide = wide; kinds = h.kind; times = times.0; numbers = numbers.0; records = records.0; names = names.0; footer = footer })

-- what follows the first of two headers, of a version up to the last one
unfoldable pub second_in : ℕ → Header → List ℕ → Option Cuts
second_in last first bytes = do
  block ← cut (block_len first) bytes
  second ← header_at block.1
  if suits last first.version second.0 then block_in true second.0 second.1 else None

-- a whole file of two headers
unfoldable pub parts_in : ℕ → List ℕ → Option Cuts
parts_in last bytes = do
  first ← header_at bytes
  second_in last first.0 first.1

-- a whole file of any version
unfoldable pub said_parts : List ℕ → Option Cuts
said_parts bytes = do
  first ← header_at bytes
  if is_only first.0 then block_in false first.0 first.1 else second_in 255 first.0 first.1

-- the bytes before the first zero
unfoldable pub before_zero : List ℕ → Option (List ℕ)
before_zero bytes = option_map (λ n. take n bytes) (position (λ c. c == 0) bytes)

-- the name at a place of the names
unfoldable pub name_in : List ℕ → ℕ → Option (List ℕ)
name_in names place = do
  parts ← cut place names
  name ← before_zero parts.1
  text_in name

-- the kind that a record of six bytes is
unfoldable pub kind_in : List ℕ → List ℕ → Option KindValue
kind_in names bytes =
    if is_small (four_of bytes) && nat_le (slice_index bytes 4) 1 then (do
      name ← name_in names (slice_index bytes 5)
      Some (record { utoff = four_of bytes; is_dst = slice_index bytes 4 == 1; name = name })) else None

-- the kinds that so many records are
unfoldable pub kinds_in : List ℕ → ℕ → List ℕ → Option (List KindValue)
kinds_in names zero bytes = Some []
kinds_in names (suc n) bytes = do
  kind ← kind_in names (take 6 bytes)
  kinds ← kinds_in names n (drop 6 bytes)
  Some (kind ∷ kinds)

-- the times with their kinds, by the kinds' numbers
unfoldable pub shifts_in : Bool → List KindValue → List ℕ → List ℕ → Option (List (ℤ × KindValue))
shifts_in wide kinds times [] = Some []
shifts_in wide kinds times (number ∷ numbers) = do
  kind ← slice_get kinds number
  shifts ← shifts_in wide kinds (drop (time_size wide) times) numbers
  Some ((time_of wide (take (time_size wide) times), kind) ∷ shifts)

-- the value of the parts
unfoldable pub joined_in : Cuts → Option ZoneValue
joined_in parts = do
  kinds ← kinds_in parts.names parts.kinds parts.records
  first ← slice_get kinds 0
  shifts ← shifts_in parts.wide kinds parts.times parts.numbers
  if rises shifts then Some (record { first = first; rest = shifts; footer = parts.footer }) else None

-- the value that a whole file is read as, of two headers
unfoldable pub zone_in : ℕ → List ℕ → Option ZoneValue
zone_in last bytes = do
  parts ← parts_in last bytes
  joined_in parts

-- and of any version
unfoldable pub said_in : List ℕ → Option ZoneValue
said_in bytes = do
  parts ← said_parts bytes
  joined_in parts
