-- A block whose parts are all there, and one whose parts aren't.
use Rattle.std.proofs.{Common.{◌≡◌, ℕ, ◌+◌, ◌*◌, ◌-◌, ◌<◌, ◌≤◌, Bool, true, List, length, take, drop, Option, Some, None, option_map, option_and_then, refl, ap, ◌∙◌, arith, nat_le, length-append, length-drop}, lemmas.Bool.Decides.{nat_tests}}
use Rattle.std.proofs.lemmas.List.{take_all}
use Rattle.zone_tzif_core.{specs.Reading.{Cuts, cut, block_in, end_in, time_size}, specs.declared.header.Header.{Header}, proofs.FoundLemmas.{block_found}}

-- some part wants bytes
pub block_short : (wide : Bool) (h : Header) (bytes : List ℕ) (size : ℕ) → size ≡ time_size wide * h.time
    → length bytes < size + h.time + 6 * h.kind + h.char + (h.isstd + h.isut) → None ≡ block_in wide h bytes
block_short wide h bytes size size_is short = by_case (block_in wide h bytes) refl
  where
    by_case : (o : Option Cuts) → block_in wide h bytes ≡ o → None ≡ o
    by_case None e = refl
    by_case (Some cuts) e =
        let found = block_found wide h bytes cuts e in
        let is = found.0 in
        let time_long : length cuts.times ≡ size = rw (size_is, is.time_long, found.1) refl in
        let long = ap length is.whole in
        absurd (omega (arith, length-append {A = ℕ}, long, short, time_long, is.time_count, is.kind_long, is.char_count, is.flag_count))

abbrev pub parts_of : Bool → Header → List ℕ → List ℕ → List ℕ → List ℕ → List ℕ → Cuts
parts_of wide h times numbers records names footer = record {
  wide = wide;
  kinds = h.kind;
  times = times;
  numbers = numbers;
  records = records;
  names = names;
  footer = footer;
}

cut_some : (n : ℕ) (bytes : List ℕ) → n ≤ length bytes → cut n bytes ≡ Some (take n bytes, drop n bytes)
unfolding cut
cut_some n bytes fits = let enough : nat_le n (length bytes) ≡ true = grind (arith, nat_tests, fits) in rw enough refl

map_then : {A B : Type 0} (f : A → B) (o : Option A) → option_map f o ≡ option_and_then (λ x. Some (f x)) o
map_then f None = refl
map_then f (Some x) = refl

-- no part wants any
pub block_cut : (wide : Bool) (h : Header) (bytes : List ℕ) (size : ℕ) (times rest numbers rest2 records rest3 names rest4 : List ℕ)
    → size ≡ time_size wide * h.time → size + h.time + 6 * h.kind + h.char + (h.isstd + h.isut) ≤ length bytes
    → times ≡ take size bytes → rest ≡ drop size bytes → numbers ≡ take h.time rest → rest2 ≡ drop h.time rest
    → records ≡ take (6 * h.kind) rest2 → rest3 ≡ drop (6 * h.kind) rest2 → names ≡ take h.char rest3 → rest4 ≡ drop h.char rest3
    → option_map (parts_of wide h times numbers records names) (end_in wide (take (length rest4 - (h.isstd + h.isut)) (drop (h.isstd + h.isut) rest4))) ≡ block_in wide h bytes
unfolding block_in
block_cut wide h bytes size times rest numbers rest2 records rest3 names rest4 is fits t r n r2 k r3 m r4 =
    let long : length rest ≡ length bytes - size = ap length r ∙ length-drop size bytes in
    let long2 : length rest2 ≡ length rest - h.time = ap length r2 ∙ length-drop h.time rest in
    let long3 : length rest3 ≡ length rest2 - 6 * h.kind = ap length r3 ∙ length-drop (6 * h.kind) rest2 in
    let long4 : length rest4 ≡ length rest3 - h.char = ap length r4 ∙ length-drop h.char rest3 in
    let one : size ≤ length bytes = omega (arith, fits) in
    let two : h.time ≤ length rest = omega (arith, fits, long) in
    let three : 6 * h.kind ≤ length rest2 = omega (arith, fits, long, long2) in
    let four : h.char ≤ length rest3 = omega (arith, fits, long, long2, long3) in
    let five : h.isstd + h.isut ≤ length rest4 = omega (arith, fits, long, long2, long3, long4) in
    let all : take (length rest4 - (h.isstd + h.isut)) (drop (h.isstd + h.isut) rest4) ≡ drop (h.isstd + h.isut) rest4 =
    take_all _ _ (omega (arith, length-drop (h.isstd + h.isut) rest4)) in
    rw (all, ← is, cut_some size bytes one, ← t, ← r, cut_some h.time rest two, ← n, ← r2, cut_some (6 * h.kind) rest2 three, ← k, ← r3, cut_some h.char rest3 four, ← m, ← r4, cut_some (h.isstd + h.isut) rest4 five)
    (map_then (parts_of wide h times numbers records names) (end_in wide (drop (h.isstd + h.isut) rest4)))
