-- Spans by their numbers, as kinds of a file, each once.
use Rattle.std.specs.Prelude.{◌≡◌, ℕ, ◌<◌, Bool, true, false, List, [], bytes_eq, length, map, Option, Some, None}
use Rattle.arrayvec.specs.ArrayVec.{ArrayVec}
use Rattle.tz_lookup.specs.{Sets.{span_in}, declared.set.FixedTimespanSet.{FixedTimespanSet}}
use Rattle.zone_tzif_core.specs.{Tzif.{added, each_once, is_same, kinds_of}, Zones.{KindValue}}
use Rattle.zone_tzif.specs.{Values.{kind_by, value_by}, declared.convert.Saves.{Saves}}

-- the kind of a span
abbrev pub kind_in : Saves → FixedTimespanSet → ℕ → KindValue
kind_in saves set number = kind_by saves (span_in set number)

-- and its name
abbrev pub name_in : FixedTimespanSet → ℕ → List ℕ
name_in set number = (span_in set number).name

-- the names of spans, each once
abbrev pub names_in : FixedTimespanSet → List ℕ → List (List ℕ)
names_in set numbers = each_once bytes_eq [] (map (name_in set) numbers)

-- the spans have one more, where its kind is not among theirs; or more than 256 they would be
abbrev pub AddsKind : Saves → FixedTimespanSet → List ℕ → ℕ → List ℕ → Bool → Type 0
AddsKind saves set before span after true = map (kind_in saves set) after ≡ added is_same (map (kind_in saves set) before) (kind_in saves set span)
AddsKind saves set before span after false = 256 < length (added is_same (map (kind_in saves set) before) (kind_in saves set span))

-- the distinct kinds are those of these spans, or there are more than 256
abbrev pub AreKinds : Saves → FixedTimespanSet → Option (ArrayVec ℕ) → Type 0
AreKinds saves set (Some numbers) = map (kind_in saves set) numbers.items ≡ kinds_of (value_by saves set [])
AreKinds saves set None = 256 < length (kinds_of (value_by saves set []))
