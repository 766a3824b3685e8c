-- What requests ask, and texts with bars between them, worked out.
use Rattle.std.{proofs.Common.{◌≡◌, ℕ, List, [], ◌∷◌, ◌++◌, map, Some, None, refl, pos, negsuc}, specs.Prelude.{codes, option_map}}
use Rattle.civil_base.specs.LocalTimes.{local_time_in}
use Rattle.zone_answers.specs.{Due.{shown_at, with_bars}, Requests.{at, local, request_of, request_with, nanoseconds_in}}

-- none, one, two and three instants
bars : map with_bars ([] ∷ (codes "a" ∷ []) ∷ (codes "a" ∷ codes "b" ∷ []) ∷ (codes "a" ∷ codes "b" ∷ codes "c" ∷ []) ∷ [])
    ≡ codes "none" ∷ codes "a" ∷ codes "a | b" ∷ codes "a | b | c" ∷ []
bars = refl

asked : map request_of
    (codes "at A 0" ∷ codes "at A -5" ∷ codes "at A -0" ∷ codes "at A/B 007" ∷ codes "at A 999999999999999999999999999999" ∷ [])
    ≡ Some (at (codes "A") (pos 0)) ∷ Some (at (codes "A") (negsuc 4)) ∷ Some (at (codes "A") (pos 0)) ∷ Some (at (codes "A/B") (pos 7))
    ∷ Some (at (codes "A") (pos 999999999999999999999999999999)) ∷ []
unfolding request_of request_with nanoseconds_in
asked = refl

in_no_form : map request_of
    (codes "" ∷ codes "at" ∷ codes "at A" ∷ codes "at A " ∷ codes "at  A 0" ∷ codes "at A 0 " ∷ codes "at A  0" ∷ codes " at A 0"
    ∷ codes "At A 0" ∷ codes "at A +0" ∷ codes "at A -" ∷ codes "at A --1" ∷ codes "at A 0x1"
    ∷ codes "at A 9999999999999999999999999999999" ∷ codes "what A 0" ∷ [])
    ≡ None ∷ None ∷ None ∷ None ∷ None ∷ None ∷ None ∷ None ∷ None ∷ None ∷ None ∷ None ∷ None ∷ None ∷ None ∷ []
unfolding request_of request_with nanoseconds_in
in_no_form = refl

-- a tab parts no words: it is a part of the name, or of a word that is none
tabs : map request_of
    ((codes "at A" ++ 9 ∷ codes "B 0") ∷ (codes "at" ++ 9 ∷ codes "A 0") ∷ (codes "at A" ++ 9 ∷ codes "0") ∷ (codes "at A 0" ++ 9 ∷ [])
    ∷ (codes "at A " ++ 9 ∷ codes "0") ∷ (9 ∷ codes "at A 0") ∷ [])
    ≡ Some (at (codes "A" ++ 9 ∷ codes "B") (pos 0)) ∷ None ∷ None ∷ None ∷ None ∷ None ∷ []
unfolding request_of request_with nanoseconds_in
tabs = refl

-- whatever text stands where a local time is wanted
module _ (text : List ℕ) where
  locals : request_of (codes "local A/B " ++ text) ≡ option_map (local (codes "A/B")) (local_time_in text)
  unfolding request_of request_with
  locals = refl

  other_words : map request_of ((codes "Local A " ++ text) ∷ (codes "LOCAL A " ++ text) ∷ (codes "locals A " ++ text) ∷ (codes "local  " ++ text) ∷ [])
      ≡ None ∷ None ∷ None ∷ None ∷ []
  unfolding request_of request_with
  other_words = refl

-- an instant is shown at the offset in force
at_an_instant : shown_at (λ t. pos 3600) (at (codes "A") (pos 5)) ≡ (pos 5, pos 3600) ∷ []
unfolding shown_at
at_an_instant = refl
