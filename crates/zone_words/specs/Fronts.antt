-- Lines of any length of which only the front is rewritten.
use Rattle.std.{specs.Prelude.{ℕ, ◌≡◌, false, List, [], ◌∷◌, ◌++◌, length, take, drop, nat_le, if◌then◌else◌}, specs.List.{flat_map}, proofs.Common.{refl}}
use Rattle.zone_words.specs.{Filters.{Made, BeginsEmpty}, Lines.{lines_behind, open_behind, whole_lines, open_line, last_line}, Room.{room}}

-- the front rewritten, and the rest as it is
abbrev pub rewritten_line : ℕ → (List ℕ → List ℕ) → List ℕ → List ℕ
rewritten_line width rewritten line = rewritten (take width line) ++ drop width line

-- the same of a line that an LF ends
abbrev pub ended_line : ℕ → (List ℕ → List ℕ) → List ℕ → List ℕ
ended_line width rewritten line = rewritten_line width rewritten line ++ 10 ∷ []

-- of an open line all that has come is due, once its front has
abbrev pub begun_line : ℕ → (List ℕ → List ℕ) → List ℕ → List ℕ
begun_line width rewritten line = if nat_le width (length line) then rewritten_line width rewritten line else []

-- a last line without an LF: what is due besides
abbrev pub closed_line : ℕ → (List ℕ → List ℕ) → List ℕ → List ℕ
closed_line width rewritten line = if nat_le width (length line) then [] else flat_map (rewritten_line width rewritten) (last_line line)

-- each line as soon as its front or its LF has come
abbrev pub fronts_rewritten : (List ℕ → List ℕ) → Made
fronts_rewritten rewritten = record {
  so_far = λ bytes. flat_map (ended_line room rewritten) (whole_lines bytes) ++ begun_line room rewritten (open_line bytes);
  at_end = λ bytes. closed_line room rewritten (open_line bytes);
  fails = λ bytes. false;
  fails_at_end = λ bytes. false;
}

pub fronts_begin_empty : (rewritten : List ℕ → List ℕ) → BeginsEmpty (fronts_rewritten rewritten)
unfolding lines_behind open_behind
fronts_begin_empty rewritten = record { nothing = refl; no_fault = refl }

-- what goes out as an open line of this front grows, and as an LF ends it
abbrev pub passed : ℕ → (List ℕ → List ℕ) → List ℕ → List ℕ → List ℕ
passed width rewritten held more = if nat_le width (length held) then more else begun_line width rewritten (held ++ more)

abbrev pub passed_end : ℕ → (List ℕ → List ℕ) → List ℕ → List ℕ → List ℕ
passed_end width rewritten held line = if nat_le width (length held) then line ++ 10 ∷ [] else ended_line width rewritten (held ++ line)

-- what is due of bytes behind an open line
abbrev pub due_behind : ℕ → (List ℕ → List ℕ) → List ℕ → List ℕ → List ℕ
due_behind width rewritten begun bytes =
    flat_map (ended_line width rewritten) (lines_behind begun bytes) ++ begun_line width rewritten (open_behind begun bytes)

-- behind an open line of which this is held, a piece came up to what is left of it: what went out since
pub record PassedBehind (rewritten : List ℕ → List ℕ) (begun piece held rest output output_now : List ℕ) : Type 0 where
  pub line : List ℕ
  pub is : held ≡ take room line
  pub more : List ℕ
  pub added : output_now ≡ output ++ more
  pub due : (later : List ℕ) → due_behind room rewritten line rest ≡ begun_line room rewritten line ++ later →
      due_behind room rewritten begun piece ≡ begun_line room rewritten begun ++ (more ++ later)
  pub tail : open_behind line rest ≡ open_behind begun piece

-- whatever open line that was
abbrev pub Passes : (List ℕ → List ℕ) → List ℕ → List ℕ → List ℕ → List ℕ → List ℕ → List ℕ → Type 0
Passes rewritten held piece held_now rest output output_now =
    (begun : List ℕ) → held ≡ take room begun → PassedBehind rewritten begun piece held_now rest output output_now

-- and when all of the piece came
pub record PassedAll (rewritten : List ℕ → List ℕ) (begun piece held output output_now : List ℕ) : Type 0 where
  pub is : held ≡ take room (open_behind begun piece)
  pub more : List ℕ
  pub added : output_now ≡ output ++ more
  pub due : due_behind room rewritten begun piece ≡ begun_line room rewritten begun ++ more

abbrev pub PassesAll : (List ℕ → List ℕ) → List ℕ → List ℕ → List ℕ → List ℕ → List ℕ → Type 0
PassesAll rewritten held piece held_now output output_now =
    (begun : List ℕ) → held ≡ take room begun → PassedAll rewritten begun piece held_now output output_now
