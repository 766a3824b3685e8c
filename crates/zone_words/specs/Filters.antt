-- What turns an input that comes in pieces into an output.
use Rattle.std.{specs.Prelude.{◌≡◌, ℕ, Bool, false, ◌||◌, List, [], ◌++◌}, proofs.Common.{refl}}
use Rattle.zone_words.specs.{Lines.{lines_behind, whole_lines, open_line, last_line}, Replies.{Replies, answers, any_fails}}

-- what is written once these bytes have come, and what besides where the input ends then; and whether a fault is in either
pub record Made : Type 0 where
  pub so_far : List ℕ → List ℕ
  pub at_end : List ℕ → List ℕ
  pub fails : List ℕ → Bool
  pub fails_at_end : List ℕ → Bool

-- all that is made of a whole input
abbrev pub in_all : Made → List ℕ → List ℕ
in_all made input = made.so_far input ++ made.at_end input

abbrev pub fails_in_all : Made → List ℕ → Bool
fails_in_all made input = made.fails input || made.fails_at_end input

-- nothing is written of no bytes
pub record BeginsEmpty (made : Made) : Type 0 where
  pub nothing : made.so_far [] ≡ []
  pub no_fault : made.fails [] ≡ false

-- behind these bytes a piece came, and the output grew by what is due now
pub record Grows (made : Made) (fed piece output output_now : List ℕ) (fault : Bool) : Type 0 where
  pub more : List ℕ
  pub added : output_now ≡ output ++ more
  pub due : made.so_far (fed ++ piece) ≡ made.so_far fed ++ more
  pub faults : made.fails (fed ++ piece) ≡ (made.fails fed || fault)

-- behind these bytes the input ended
pub record Closes (made : Made) (fed output output_now : List ℕ) (fault : Bool) : Type 0 where
  pub added : output_now ≡ output ++ made.at_end fed
  pub faults : fault ≡ made.fails_at_end fed

-- the responses to requests: to each line as soon as it is whole
abbrev pub replied : Replies → Made
replied replies = record {
  so_far = λ bytes. answers replies (whole_lines bytes);
  at_end = λ bytes. answers replies (last_line (open_line bytes));
  fails = λ bytes. any_fails replies (whole_lines bytes);
  fails_at_end = λ bytes. any_fails replies (last_line (open_line bytes));
}

-- of which nothing is due of no bytes
pub begins_empty : (replies : Replies) → BeginsEmpty (replied replies)
unfolding lines_behind
begins_empty replies = record { nothing = refl; no_fault = refl }
