-- Where the first LF was looked for.
use Rattle.std.proofs.{Common.{◌≡◌, get_or, arith, ℕ, suc, ◌+◌, ◌<◌, false, List, length, take, drop, Some, None, length-drop, add-one}, lemmas.Bool.{false_from_ne_true}}
use Rattle.memchr.specs.Find.{IsFirstByte, is_byte}
use Rattle.zone_words.{proofs.LineLemmas.{first_cut, no_cut}, specs.{Cuts.{IsCut, IsUncut}, Lines.{is_line_feed}}}

pub not_found : (bytes : List ℕ) → IsFirstByte (is_byte 10) bytes None → IsUncut bytes
not_found bytes nowhere =
    let none : (j : ℕ) → j < length bytes → is_line_feed (get_or bytes j 0) ≡ false =
    λ j below. false_from_ne_true _ (nowhere j (omega arith) below) in
    record { lines = λ begun. (no_cut begun bytes none).0; tail = λ begun. (no_cut begun bytes none).1 }

pub found_at : (bytes : List ℕ) (place : ℕ) → IsFirstByte (is_byte 10) bytes (Some place)
    → IsCut bytes (take place bytes) (drop (place + 1) bytes)
found_at bytes place first =
    let before : (j : ℕ) → j < place → is_line_feed (get_or bytes j 0) ≡ false =
    λ j below. false_from_ne_true _ (first.0.before j (omega arith) below) in
    let within = first.0.high in
    rw add-one (record {
      lines = λ begun. (first_cut begun bytes place within before first.1).0;
      tail = λ begun. (first_cut begun bytes place within before first.1).1;
      less = omega (arith, length-drop (suc place) bytes);
    })
