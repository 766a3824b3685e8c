-- Padding to a requested width.
use Rattle.std.specs.{Prelude.{◌≡◌, ℕ, ◌-◌, ◌/◌, List, ◌++◌, length, unwrap_or, max, encode_utf8}, List.{repeat}}
use Rattle.pad_fmt.specs.{Options.{Options}, declared.options.Alignment.{Alignment}, declared.options.Alignment.TheVariants.{Left, Center, Right}}

-- the requested width, where none is as good as 0
abbrev pub requested : Options → ℕ
requested f = unwrap_or f.width 0

-- the greater of this width and the requested one
abbrev pub padded_width : ℕ → Options → ℕ
padded_width width f = max width (requested f)

-- the bytes are as many as the padded width says
abbrev pub HasPaddedWidth : List ℕ → ℕ → Options → Type 0
HasPaddedWidth bytes width f = length bytes ≡ padded_width width f

-- how many fill characters a text of this width lacks
abbrev pub shortfall : Options → ℕ → ℕ
shortfall f width = requested f - width

-- how many of them stand before the text: none, half rounded down, or all
abbrev pub part_before : Alignment → ℕ → ℕ
part_before Left padding = 0
part_before Center padding = padding / 2
part_before Right padding = padding

-- so many fill characters
abbrev pub fills : Options → ℕ → List ℕ
fills f count = repeat count (encode_utf8 f.fill)

-- the text and the fill that it lacks, aligned as requested, or to its own side where no alignment is
unfoldable pub padded : Alignment → Options → ℕ → List ℕ → List ℕ
padded own_side f width text =
    let padding = shortfall f width in
    let before = part_before (unwrap_or f.align own_side) padding in
    fills f before ++ (text ++ fills f (padding - before))
