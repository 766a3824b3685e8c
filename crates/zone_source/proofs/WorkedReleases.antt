-- Worked rows: the releases that first lines name.
use Rattle.std.{proofs.Common.{◌≡◌, [], ◌∷◌, ◌++◌, map, Some, None, refl}, specs.Prelude.{codes}, specs.Str.{is_utf8, chars}}
use lib.Utf8.{encode}
use Rattle.zone_source.specs.{Lines.{lines_of}, Releases.{named_by, release_of, line_naming}}

-- as it stands, with the spaces in it
named : map named_by (codes "# version 2026b" ∷ codes "# version 2026b-12-g0123abc-dirty" ∷ codes "# version 2026b or so " ∷ codes "# version  x" ∷ codes "# version ~" ∷ [])
    ≡ Some (codes "2026b") ∷ Some (codes "2026b-12-g0123abc-dirty") ∷ Some (codes "2026b or so ") ∷ Some (codes " x") ∷ Some (codes "~") ∷ []
unfolding named_by is_utf8 chars encode
named = refl

-- nothing behind it, another line, other white space, a control character in it
nameless : map named_by (codes "# version " ∷ codes "# version" ∷ [] ∷ codes "#version 2026b" ∷ codes " # version 2026b" ∷ codes "# Version 2026b" ∷ codes "# versions 2026b"
    ∷ (codes "# version" ++ 9 ∷ codes "2026b") ∷ (codes "# version 2026b" ++ 9 ∷ []) ∷ (codes "# version " ++ 31 ∷ []) ∷ (codes "# version " ++ 127 ∷ []) ∷ [])
    ≡ None ∷ None ∷ None ∷ None ∷ None ∷ None ∷ None ∷ None ∷ None ∷ None ∷ None ∷ []
unfolding named_by is_utf8 chars encode
nameless = refl

-- the first line alone, without the carriage return at its end, with or without a line feed
first_lines : map release_of ((codes "# version 2026b\nRule" ∷ codes "# version 2026b" ∷ (codes "# version 2026b" ++ 13 ∷ 10 ∷ []) ∷ codes "\n# version 2026b\n" ∷ codes "# a\n# version 2026b\n" ∷ [] ∷ []))
    ≡ Some (codes "2026b") ∷ Some (codes "2026b") ∷ Some (codes "2026b") ∷ None ∷ None ∷ None ∷ []
unfolding release_of named_by lines_of is_utf8 chars encode
first_lines = refl

written : line_naming (codes "2026b") ≡ codes "# version 2026b"
written = refl
