-- What is written, stage by stage.
use Rattle.std.proofs.{Common.{◌≡◌, ◌<◌, ◌≤◌, ℕ, List, ◌++◌, length, Ok, Err, refl, sym}, lemmas.Bool.{le-ltb, lt-ltb}}
use Rattle.zone_table.specs.Values.{LineValue}
use Rattle.zone_plain_lines.specs.LineFaults.{too_long}
use Rattle.zone_plain.specs.{WrittenOut.{IsWrittenAs}, Settled.{settled}, Plain.{if_short}, Told.{with_lines}}

-- what is written behind a head, before its length is told
pub all_written : (head : List ℕ) (values linked out : List LineValue) (body : List ℕ) → settled values ≡ Ok linked → out ≡ linked → IsWrittenAs out body
    → with_lines head values ≡ if_short (head ++ body)
all_written head values linked out body led spelled is = rw (led, sym spelled, is.spelled, is.wrote) refl

pub past_limit : (bytes : List ℕ) → 16777216 < length bytes → if_short bytes ≡ Err too_long
past_limit bytes long = rw (lt-ltb 16777216 (length bytes) long) refl

pub in_limit : (bytes : List ℕ) → length bytes ≤ 16777216 → if_short bytes ≡ Ok bytes
in_limit bytes short = rw (le-ltb 16777216 (length bytes) short) refl
