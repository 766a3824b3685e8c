-- What a look-up of a file by its place says of the texts by name.
use Rattle.std.proofs.{Common.{◌≡◌, ℕ, zero, suc, ◌+◌, ◌<◌, Bool, true, false, not, cond, List, [], ◌∷◌, length, Option, Some, None, option_map, MatchOption, String, Vec, refl, ap, ◌∙◌, arith, nat_eq, string_bytes}, lemmas.Bool.{ltb-true, ltb-false}}
use Rattle.std.proofs.lemmas.Option.{slice_get_past}
use Rattle.std.specs.{Prelude.{nat_lt, slice_get, position, find}, List.{position_or_len}, declared.alloc.Global.{Global}}
use lib.Pointwise.{pointwise}
use Rattle.zone_outside.specs.Memory.{files_of, text_of, text_at}

abbrev File : Type 0
File = String Global × Vec ℕ Global

is_named : List ℕ → File → Bool
is_named name file = pointwise nat_eq (string_bytes file.0) name

-- the first file of a name stands at the first place that passes
text_found : (files : List File) (name : List ℕ) →
    text_of (files_of files) name ≡ option_map (λ file. file.1.items)
    (slice_get files (position_or_len (λ file. pointwise nat_eq (string_bytes file.0) name) files))
text_found [] name = refl
text_found (file ∷ files) name = by_head (pointwise nat_eq (string_bytes file.0) name) refl (text_found files name)
  where
    by_head : (b : Bool) → pointwise nat_eq (string_bytes file.0) name ≡ b →
        (text_of (files_of files) name ≡ option_map (λ file. file.1.items)
        (slice_get files (position_or_len (λ file. pointwise nat_eq (string_bytes file.0) name) files))) →
        option_map (λ file. file.1) (cond b (Some (string_bytes file.0, file.1.items))
        (find (λ file. pointwise nat_eq file.0 name) (files_of files)))
        ≡ option_map (λ file. file.1.items) (slice_get (file ∷ files)
        (cond (not b) (1 + position_or_len (λ file. pointwise nat_eq (string_bytes file.0) name) files) 0))
    by_head true e more = refl
    by_head false e more = rw one_more more
      where
        one_more : 1 + position_or_len (λ file. pointwise nat_eq (string_bytes file.0) name) files
            ≡ suc (position_or_len (λ file. pointwise nat_eq (string_bytes file.0) name) files)
        one_more = omega arith

some_text : (files : List File) (at : ℕ) → at < length files → option_map (λ file. file.1.items) (slice_get files at)
    ≡ Some (text_at files at)
some_text [] at h = absurd (omega arith)
some_text (file ∷ files) zero h = refl
some_text (file ∷ files) (suc at) h = some_text files at (omega arith)

-- what the place of a name says of its text
pub placed : (files : List File) (name : List ℕ) (place : Option ℕ) → place
    ≡ position (λ file. pointwise nat_eq (string_bytes file.0) name) files →
    MatchOption place (text_of (files_of files) name ≡ None) (λ at. (at < length files)
    × (text_of (files_of files) name ≡ Some (text_at files at)))
placed files name place is =
    rw is (by_place (position_or_len (λ file. pointwise nat_eq (string_bytes file.0) name) files) (text_found files name)
    (nat_lt (position_or_len (λ file. pointwise nat_eq (string_bytes file.0) name) files) (length files)) refl)
  where
    by_place : (first : ℕ) → text_of (files_of files) name ≡ option_map (λ file. file.1.items) (slice_get files first)
        → (b : Bool) → nat_lt first (length files) ≡ b →
        MatchOption (cond b (Some first) None) (text_of (files_of files) name ≡ None)
        (λ at. (at < length files) × (text_of (files_of files) name ≡ Some (text_at files at)))
    by_place first found true e = (ltb-true _ _ e, found ∙ some_text files first (ltb-true _ _ e))
    by_place first found false e = found ∙ ap (option_map (λ file. file.1.items)) (slice_get_past files first (ltb-false _ _ e))
