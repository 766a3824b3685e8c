-- The width of what is padded: under an ASCII fill each fill character is one byte.
use Rattle.std.{specs.Prelude.{◌≡◌, ℕ, zero, suc, ◌+◌, ◌-◌, ◌<◌, ◌≤◌, List, [], ◌∷◌, ◌++◌, length, unwrap_or, refl}, specs.List.{repeat}, proofs.Common.{arith, ap, length-append}, proofs.lemmas.Str.{encode_ascii}}
use Rattle.pad_fmt.specs.{Options.{Options}, Padding.{requested, shortfall, part_before, fills, padded}, declared.options.Alignment.{Alignment}, declared.options.Alignment.TheVariants.{Left, Center, Right}}

pub length-repeat_byte : (n b : ℕ) → length (repeat n (b ∷ [])) ≡ n
length-repeat_byte zero b = refl
length-repeat_byte (suc n) b = ap suc (length-repeat_byte n b)

length-fills : (f : Options) (n : ℕ) → f.fill < 128 → length (fills f n) ≡ n
length-fills f n ascii = rw (encode_ascii f.fill ascii) (length-repeat_byte n f.fill)

part_before_within : (side : Alignment) (padding : ℕ) → part_before side padding ≤ padding
part_before_within Left padding = omega arith
part_before_within Center padding = omega arith
part_before_within Right padding = omega arith

pub length-padded : (own_side : Alignment) (f : Options) (width : ℕ) (text : List ℕ) → f.fill < 128
    → length (padded own_side f width text) ≡ length text + (requested f - width)
unfolding padded
length-padded own_side f width text ascii =
    let padding : ℕ = shortfall f width in
    let before : ℕ = part_before (unwrap_or f.align own_side) padding in
    let within : before ≤ padding = part_before_within (unwrap_or f.align own_side) padding in
    rw (
      length-append (fills f before) (text ++ fills f (padding - before)),
      length-append text (fills f (padding - before)),
      length-fills f before ascii,
      length-fills f (padding - before) ascii,
    ) (omega arith)
