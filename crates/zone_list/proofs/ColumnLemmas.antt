-- A column's text, padded on its side: how long it is, and that it is what the definitions say.
use Rattle.std.{proofs.Common.{◌≡◌, ℕ, ◌+◌, ◌-◌, List, ◌++◌, length, ap, ◌∙◌, arith, lit<}, specs.Prelude.{encode_utf8}, specs.Fmt.{char_count}, proofs.lemmas.List.{append-nil}, proofs.lemmas.Str.{encode_ascii}, specs.List.{repeat}}
use Rattle.pad_fmt.specs.{Padding.{padded}, PaddingLaws.{length-padded}, declared.options.Alignment.{Alignment}, declared.options.Alignment.TheVariants.{Left, Right}}
use Rattle.zone_list.specs.{Columns.{on_side}, Rows.{on_the_left, on_the_right, spaces}}

pub length_column : (side : Alignment) (width count : ℕ) (text : List ℕ)
    → length (padded Left (on_side side width) count text) ≡ length text + (width - count)
length_column side width count text = length-padded Left (on_side side width) count text (lit< tt)

pub left_is : (width : ℕ) (text : List ℕ) → padded Left (on_side Left width) (char_count text) text ≡ on_the_left width text
unfolding padded
left_is width text = λ i. text ++ repeat (count i) (encode_ascii 32 (lit< tt) i)
  where
    count : (width - char_count text) - 0 ≡ width - char_count text
    count = omega arith

pub right_is : (width : ℕ) (text : List ℕ) → padded Left (on_side Right width) (char_count text) text ≡ on_the_right width text
unfolding padded
right_is width text =
    (λ i. repeat (width - char_count text) (encode_ascii 32 (lit< tt) i) ++ (text ++ repeat (none i) (encode_utf8 32)))
    ∙ ap (λ t. spaces (width - char_count text) ++ t) (append-nil text)
  where
    none : (width - char_count text) - (width - char_count text) ≡ 0
    none = omega arith
