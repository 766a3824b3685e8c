-- The targets of links with a line more.
use Rattle.std.{proofs.Common.{◌≡◌, ℕ, List, [], ◌∷◌, ◌++◌, Option, None, Some, refl, ap, ◌∙◌}, specs.Option.{option_or}}
use Rattle.zone_table.specs.Values.{LineValue}
use Rattle.zone_plain.specs.Declares.{target_by, target_of}

pub or_none : (o : Option (List ℕ)) → option_or o None ≡ o
or_none None = refl
or_none (Some x) = refl

-- the first of three that is there
pub or_assoc : (a b c : Option (List ℕ)) → option_or a (option_or b c) ≡ option_or (option_or a b) c
or_assoc None b c = refl
or_assoc (Some x) b c = refl

-- a line more
pub target-more : (vs : List LineValue) (v : LineValue) (name : List ℕ)
    → target_of (vs ++ v ∷ []) name ≡ option_or (target_of vs name) (target_by v name)
target-more [] v name = or_none (target_by v name)
target-more (w ∷ vs) v name =
    ap (option_or (target_by w name)) (target-more vs v name) ∙ or_assoc (target_by w name) (target_of vs name) (target_by v name)

-- a line that is no link
pub target-other : (vs : List LineValue) (v : LineValue) → ((name : List ℕ) → target_by v name ≡ None) → (name : List ℕ)
    → target_of (vs ++ v ∷ []) name ≡ target_of vs name
target-other vs v none name = target-more vs v name ∙ ap (option_or (target_of vs name)) (none name) ∙ or_none (target_of vs name)
