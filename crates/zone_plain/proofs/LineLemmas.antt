-- What a line means, step by step.
use Rattle.std.{proofs.Common.{◌≡◌, ℕ, List, [], ◌∷◌, ◌++◌, Bool, false, true≢false, cond, Ok, Err, sym, ap, subst, ◌∙◌}, specs.Prelude.{Option, Some, None, is_some, option_map, option_to_list}}
use Rattle.zone_table.specs.{Values.{LineValue, line_value, space}, declared.line.Line.{Line}, declared.line.Line.TheVariants.{Space}, Results.{◌>>=◌}}
use Rattle.zone_plain_lines.specs.declared.cause.PlainCause.TheVariants as cause
use Rattle.zone_plain_lines.specs.{Said.{is_said, if_said}, Told.{IsToldBy, IsRefused}, declared.error.Refused.{Refused}, declared.error.Refused.TheVariants.{Cause, NoMemory}, Renamed.{renamed}, PlainTexts.{plain_text}}
use Rattle.zone_plain.specs.{LineValues.{line_meaning, named}, Told.{IsAddedLine, added_line}}

-- the cause that was told of a line
pub told_refused : (mark : List ℕ) (is_open : Bool) (line : List ℕ) (r : Refused) → IsToldBy {A = Line} line_value (Err r) (line_meaning is_open line)
    → IsRefused (added_line mark is_open line) r
told_refused mark is_open line (Cause c) h = ap (λ m. ◌>>=◌ m (named mark)) h
told_refused mark is_open line NoMemory h = tt

pub unsaid : (mark : List ℕ) (is_open : Bool) (line : List ℕ) (v w : LineValue) → line_meaning is_open line ≡ Ok v → w ≡ renamed mark v
    → is_said w ≡ false → added_line mark is_open line ≡ Err cause.Unsayable
unsaid mark is_open line v w meant same unread =
    ap (λ m. ◌>>=◌ m (named mark)) meant ∙ ap if_said (sym same) ∙ ap (λ b. cond b (Ok w) (Err cause.Unsayable)) unread

-- the empty text of a line that says nothing was added, where it can be said
pub blank_added : (old new : List (List ℕ)) (mark : List ℕ) (said : Bool) (meant : Line) → meant ≡ Space → said ≡ is_said space → new ≡ old ++ [] ∷ []
    → IsAddedLine old new (renamed mark (line_value meant)) said
unfolding plain_text
blank_added old new mark said meant is told added =
    subst (λ m. IsAddedLine old new (renamed mark (line_value m)) said) (sym is) (record { told = told; added = λ _. added })

-- no name begins with `_` where nothing stands behind one
pub none_behind : {A : Type 0} (f : A → List ℕ) (found : Option A) (rests : List (List ℕ)) → option_to_list (option_map f found) ≡ rests
    → is_some found ≡ false → rests ≡ []
none_behind f None rests is none = sym is
none_behind f (Some rest) rests is none = absurd (true≢false none)
