-- What a file denotes is read from it.
use Rattle.std.proofs.Common.{◌≡◌, ℕ, ◌+◌, ◌-◌, ◌*◌, ℤ, Bool, true, false, not, List, [], ◌∷◌, ◌++◌, length, take, get_or, Some, option_and_then, slice_get, slice_range, refl, sym, ap, ◌∙◌, arith, nat_eq, nat_le, nat_lt, append_assoc, append-nil, length-append}
use Rattle.std.proofs.{lemmas.Bool.{and_parts}, lemmas.Bool.Decides.{nat_tests}, lemmas.List.{take_at, drop_at}, Math.Nat.{mul-suc, mul-zero}, Math.Seq.{get_or-append_seam}, lemmas.Str.{is_utf8-from_IsUtf8}}
use Rattle.std.specs.{List.{list_all, prefix_len}, Str.{IsUtf8}}
use Rattle.zone_tzif_core.specs.{Zones.{KindValue, ZoneValue, rises}, Format.{is_one_line, is_only, suits}}
use Rattle.zone_tzif_core.specs.Reading.{cut, header_at, text_in, between, end_in, footer_in, before_zero, name_in, kind_in, kinds_in, shifts_in, block_in, second_in, parts_in, said_parts, joined_in, said_in, time_of, time_size, zone_in}
use Rattle.zone_tzif_core.specs.{Denotes.{IsHeader, IsName, IsKind, AreKinds, no_kind, a_kind, AreShifts, no_shift, a_shift, IsBlock, IsZoneFile, Says, zone_file, old_file}, declared.header.Header.{Header}}

pub cut_again : (n : ℕ) (front rest : List ℕ) → length front ≡ n → cut n (front ++ rest) ≡ Some (front, rest)
unfolding cut
cut_again n front rest long =
    let enough : nat_le n (length (front ++ rest)) ≡ true = grind (arith, nat_tests, length-append front rest) in
    rw (enough, take_at front rest n long, drop_at front rest n long) refl

pub header_again : (head rest : List ℕ) (says : Header) → IsHeader head says → header_at (head ++ rest) ≡ Some (says, rest)
unfolding header_at
header_again head rest says is = rw (cut_again 44 head rest is.long, is.begins, is.read) refl

text_again : (bytes : List ℕ) → IsUtf8 bytes → text_in bytes ≡ Some bytes
unfolding text_in
text_again bytes is = rw (is_utf8-from_IsUtf8 bytes is) refl

zero_at : (name after : List ℕ) → list_all (λ c. not (nat_eq c 0)) name ≡ true → prefix_len (λ c. not (nat_eq c 0)) (name ++ 0 ∷ after) ≡ length name
zero_at [] after passes = refl
zero_at (c ∷ name) after passes =
    let both = and_parts (not (nat_eq c 0)) _ passes in
    let more = zero_at name after both.1 in
    rw both.0 (omega arith)

before_zero_again : (name after : List ℕ) → list_all (λ c. not (nat_eq c 0)) name ≡ true → before_zero (name ++ 0 ∷ after) ≡ Some name
unfolding before_zero
before_zero_again name after passes =
    let found : nat_lt (length name) (length (name ++ 0 ∷ after)) ≡ true = grind (arith, nat_tests, length-append name (0 ∷ after)) in
    rw (zero_at name after passes, found) (ap Some (take_at name (0 ∷ after) (length name) refl))

name_again : (names name : List ℕ) (place : ℕ) → IsName names place name → name_in names place ≡ Some name
unfolding name_in
name_again names name place is =
    rw (is.whole, cut_again place is.before (name ++ 0 ∷ is.after) is.starts, before_zero_again name is.after is.no_zero) (text_again name is.text)

kind_again : (names bytes : List ℕ) (kind : KindValue) → IsKind names bytes kind → kind_in names bytes ≡ Some kind
unfolding kind_in
kind_again names bytes kind is =
    let flag : nat_le (get_or bytes 4 0) 1 ≡ true = grind (arith, nat_tests, is.flag) in
    rw (is.offset, is.small, flag, is.is_dst, name_again names kind.name _ is.named) refl

kinds_again : {names records : List ℕ} {kinds : List KindValue} → AreKinds names records kinds → kinds_in names (length kinds) records ≡ Some kinds
unfolding kinds_in
kinds_again no_kind = refl
kinds_again {names} (a_kind {bytes} {records} {kind} {kinds} is are) =
    rw (take_at bytes records 6 is.long, drop_at bytes records 6 is.long, kind_again names bytes kind is, kinds_again are) refl

shifts_again : (wide : Bool) {kinds : List KindValue} {times numbers : List ℕ} {shifts : List (ℤ × KindValue)}
    → AreShifts (time_size wide) (time_of wide) kinds times numbers shifts → shifts_in wide kinds times numbers ≡ Some shifts
unfolding shifts_in
shifts_again wide no_shift = refl
shifts_again wide (a_shift time {times} long found are) =
    rw (take_at time times (time_size wide) long, drop_at time times (time_size wide) long, found, shifts_again wide are) refl

footer_again : (footer : List ℕ) → is_one_line footer ≡ true → IsUtf8 footer → footer_in (10 ∷ footer ++ 10 ∷ []) ≡ Some footer
unfolding footer_in between
footer_again footer one text =
    let bytes : List ℕ = (10 ∷ footer) ++ 10 ∷ [] in
    let long : length bytes ≡ length footer + 2 = omega (arith, length-append (10 ∷ footer) (10 ∷ [])) in
    let place : length bytes - 1 ≡ length (10 ∷ footer) = omega (arith, long) in
    let last : get_or bytes (length bytes - 1) 0 ≡ 10 = ap (λ n. get_or bytes n 0) place ∙ get_or-append_seam (10 ∷ footer) 10 [] 0 in
    let size : length bytes - 1 - 1 ≡ length footer = omega (arith, long) in
    let inner : slice_range bytes 1 (length bytes - 1) ≡ footer = ap (λ n. take n (footer ++ 10 ∷ [])) size ∙ take_at footer (10 ∷ []) (length footer) refl in
    let enough : nat_le 2 (length bytes) ≡ true = grind (arith, nat_tests, long) in
    rw (enough, last, inner, one) (text_again footer text)

kinds_long : {names records : List ℕ} {kinds : List KindValue} → AreKinds names records kinds → length records ≡ 6 * length kinds
kinds_long no_kind = refl
kinds_long (a_kind {bytes} {records} is are) = omega (arith, length-append bytes records, is.long, kinds_long are)

shifts_long : {size : ℕ} {time_of : List ℕ → ℤ} {kinds : List KindValue} {times numbers : List ℕ} {shifts : List (ℤ × KindValue)}
    → AreShifts size time_of kinds times numbers shifts → length times ≡ size * length numbers
shifts_long {size} no_shift = sym (mul-zero size)
shifts_long {size} (a_shift time {times} {numbers} long found are) =
    omega (arith, length-append time times, long, shifts_long are, mul-suc size (length numbers))

-- a block with a value, and what follows it
pub record IsRead (wide : Bool) (says : Header) (bytes : List ℕ) (zone : ZoneValue) : Type 0 where
  pub block : List ℕ
  pub end : List ℕ
  pub kinds : List KindValue
  pub whole : bytes ≡ block ++ end
  pub block_is : IsBlock (time_size wide) (time_of wide) says block kinds zone.rest
  pub ends : end_in wide end ≡ Some zone.footer
  pub rising : rises zone.rest ≡ true
  pub first_kind : slice_get kinds 0 ≡ Some zone.first

pub value_again : (wide : Bool) (says : Header) (bytes : List ℕ) (zone : ZoneValue) → IsRead wide says bytes zone
    → option_and_then joined_in (block_in wide says bytes) ≡ Some zone
unfolding block_in joined_in
value_again wide says bytes zone is =
    let b = is.block_is in
    let times : length b.times ≡ time_size wide * says.time = shifts_long b.are_shifts ∙ ap (λ n. time_size wide * n) b.time_count in
    let records : length b.records ≡ 6 * says.kind = omega (arith, kinds_long b.are_kinds, b.kind_count) in
    rw (is.whole, b.whole, append_assoc, append_assoc, append_assoc, append_assoc)
    (rw (cut_again _ b.times _ times, cut_again _ b.numbers _ b.time_count, cut_again _ b.records _ records, cut_again _ b.names _ b.char_count, cut_again _ b.flags _ b.flag_count, is.ends)
    (rw (← b.kind_count, kinds_again b.are_kinds, is.first_kind, shifts_again wide b.are_shifts, is.rising) refl))

-- what two headers say is read
two_again : (last : ℕ) (bytes : List ℕ) (zone : ZoneValue) (is : IsZoneFile last bytes zone)
    → (header_at bytes ≡ Some (is.first_says, is.skipped ++ (is.second_head ++ (is.block ++ (10 ∷ zone.footer ++ 10 ∷ [])))))
    × (option_and_then joined_in (second_in last is.first_says (is.skipped ++ (is.second_head ++ (is.block ++ (10 ∷ zone.footer ++ 10 ∷ []))))) ≡ Some zone)
unfolding second_in
two_again last bytes zone is =
    let tail : List ℕ = 10 ∷ zone.footer ++ 10 ∷ [] in
    let value = value_again true is.says (is.block ++ tail) zone (record {
      block = is.block;
      end = tail;
      kinds = is.kinds;
      whole = refl;
      block_is = is.block_is;
      ends = footer_again zone.footer is.one_line is.text;
      rising = is.rising;
      first_kind = is.first_kind;
    }) in (
      rw (is.whole, append_assoc, append_assoc, append_assoc, append_assoc) (header_again is.head (is.skipped ++ (is.second_head ++ (is.block ++ tail))) is.first_says is.first_header),
      rw (cut_again _ is.skipped (is.second_head ++ (is.block ++ tail)) is.first_length, header_again is.second_head (is.block ++ tail) is.says is.second_header, is.suited) value,
    )

-- what a file denotes is read from it
pub denoted_again : (last : ℕ) (bytes : List ℕ) (zone : ZoneValue) → IsZoneFile last bytes zone → zone_in last bytes ≡ Some zone
unfolding zone_in parts_in
denoted_again last bytes zone is = let two = two_again last bytes zone is in rw two.0 two.1

-- a header that has a second one after it is not the only one
not_only : (last : ℕ) (first says : Header) → suits last first.version says ≡ true → is_only first ≡ false
unfolding suits is_only
not_only last first says suited = by_test (nat_eq first.version 0) refl
  where
    by_test : (t : Bool) → nat_eq first.version 0 ≡ t → is_only first ≡ false
    by_test true e = absurd (grind (arith, nat_tests, suited, e))
    by_test false e = rw e refl

-- and what a file of any version says
pub said_again : (bytes : List ℕ) (zone : ZoneValue) → Says bytes zone → said_in bytes ≡ Some zone
unfolding said_in said_parts
said_again bytes zone (zone_file is) =
    let two = two_again 255 bytes zone is in
    rw (two.0, not_only 255 is.first_says is.says is.suited) two.1
said_again bytes zone (old_file is) =
    let value = value_again false is.says is.block zone (record {
      block = is.block;
      end = [];
      kinds = is.kinds;
      whole = sym (append-nil is.block);
      block_is = is.block_is;
      ends = ap Some (sym is.no_footer);
      rising = is.rising;
      first_kind = is.first_kind;
    }) in
    rw (is.whole, header_again is.head is.block is.says is.header, is.only) value
