-- A line that is a text of what it asks, whatever the requests.
use Rattle.std.{proofs.Common.{◌≡◌, ℕ, List, true, Option, Some, sym, ap, ◌∙◌}, specs.Str.{is_utf8}}

-- the line is a text, and is read as this
pub record Asks {A : Type 0} (read : List ℕ → Option A) (line : List ℕ) (request : A) : Type 0 where
  pub text : is_utf8 line ≡ true
  pub reads : read line ≡ Some request

pub asks : {A : Type 0} (read : List ℕ → Option A) (line text : List ℕ) (request : A) → is_utf8 line ≡ true → text ≡ line
    → Some request ≡ read text → Asks read line request
asks read line text request is same reads = record { text = is; reads = ap read (sym same) ∙ sym reads }
