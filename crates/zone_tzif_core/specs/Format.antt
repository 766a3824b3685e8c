-- The words of the format: what a header says, and how much follows it.
use Rattle.std.specs.{Prelude.{ℕ, ◌+◌, ◌*◌, ◌==◌, Bool, ◌&&◌, ◌||◌, not, List, drop, nat_le, slice_index}, List.{list_all}}
use Rattle.zone_tzif_core.specs.{declared.header.Header.{Header}, Numbers.{count_of}}

-- `TZif`
unfoldable pub begins_well : List ℕ → Bool
begins_well bytes = slice_index bytes 0 == 84 && slice_index bytes 1 == 90 && slice_index bytes 2 == 105 && slice_index bytes 3 == 102

-- what the 44 bytes of a header say
unfoldable pub header_of : List ℕ → Header
header_of head = record {
  version = slice_index head 4;
  isut = count_of (drop 20 head);
  isstd = count_of (drop 24 head);
  leap = count_of (drop 28 head);
  time = count_of (drop 32 head);
  kind = count_of (drop 36 head);
  char = count_of (drop 40 head);
}

-- how many bytes a first block takes
unfoldable pub block_len : Header → ℕ
block_len h = 5 * h.time + 6 * h.kind + h.char + 8 * h.leap + h.isstd + h.isut

-- no leap second, some kind and some character, and of either sort of flags none or one for each kind
abbrev pub is_sound : Header → Bool
is_sound h = h.leap == 0 && nat_le 1 h.kind && nat_le 1 h.char && (h.isstd == 0 || h.isstd == h.kind) && (h.isut == 0 || h.isut == h.kind)

-- whether a second header may stand after a first one of that version, which is 2 to the last one that is taken
unfoldable pub suits : ℕ → ℕ → Header → Bool
suits last version h = h.version == version && nat_le 50 version && nat_le version last && is_sound h

-- whether a header is the only one of its file: that of version 1, whose byte is zero
unfoldable pub is_only : Header → Bool
is_only h = h.version == 0 && is_sound h

-- no byte is an LF or zero
abbrev pub is_one_line : List ℕ → Bool
is_one_line bytes = list_all (λ c. not (c == 10) && not (c == 0)) bytes
