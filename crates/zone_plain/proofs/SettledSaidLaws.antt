-- What becomes of lines that can be said can be said.
use Rattle.std.proofs.{Common.{◌≡◌, ℕ, suc, ◌+◌, List, [], ◌∷◌, ◌++◌, All, Bool, true, false, cond, Result, Ok, Err, IfOk, nat_lt}, lemmas.List.Elements.{All-nil, All-cons, All-head, All-tail}}
use Rattle.zone_outside.specs.Limit.{text_limit}
use Rattle.zone_table.specs.{Values.{LineValue, zone, continuation, link}, Results.{◌>>=◌}}
use Rattle.zone_plain_lines.specs.{declared.cause.PlainCause.{PlainCause}, MeantLaws.{then_ok, any_ok, either}, LineFaults.{too_long, numbered, by_line, onto}, Said.{is_said, if_said}}
use Rattle.zone_plain_lines.specs.declared.cause.PlainCause.TheVariants as cause
use Rattle.zone_plain.specs.{Declares.{has_zone, target_of}, Settled.{lacks_rules, link_after, settled_link, settled_line, link_size, settled_from, settled}}

abbrev pub IsSaid : LineValue → Type 0
IsSaid v = is_said v ≡ true

-- what passes the test of it is said
pub if_said_is : (v : LineValue) → IfOk (if_said v) IsSaid
if_said_is v = either IsSaid (is_said v) (Ok v) (Err cause.Unsayable) (λ said. said) (λ _. tt)

-- a value that is said, before others
pub onto_said : {E : Type 0} (v : LineValue) (r : Result (List LineValue) E) → IsSaid v → IfOk r (All IsSaid) → IfOk (onto v r) (All IsSaid)
onto_said v (Ok vs) said all = All-cons IsSaid v vs said all
onto_said v (Err e) said all = tt

link_said : (values before : List LineValue) (existing new : List ℕ) → IfOk (settled_link values before existing new) IsSaid
unfolding settled_link
link_said values before existing new =
    either IsSaid (has_zone values new) _ _ (λ _. tt)
    (λ _. then_ok _ IsSaid (link_after values (target_of before new) existing new) if_said (any_ok _) (λ found _. if_said_is found))

line_said : (values before : List LineValue) (v : LineValue) → IsSaid v → IfOk (settled_line values before v) IsSaid
unfolding settled_line
line_said values before (continuation info) said = either IsSaid (lacks_rules values info.saving) _ _ (λ _. tt) (λ _. said)
line_said values before (zone name info) said =
    either IsSaid (lacks_rules values info.saving) _ _ (λ _. tt) (λ _. either IsSaid (has_zone before name) _ _ (λ _. tt) (λ _. said))
line_said values before (link existing new) said = link_said values before existing new
line_said values before _ said = said

said_from : (values before : List LineValue) (n size : ℕ) (vs : List LineValue) → All IsSaid vs
    → IfOk (settled_from values before n size vs) (All IsSaid)
unfolding settled_from
said_from values before n size [] all = All-nil IsSaid
said_from values before n size (v ∷ vs) all =
    by (settled_line values before v) (line_said values before v (All-head IsSaid v vs all))
    (λ w. said_from values (before ++ v ∷ []) (suc n) (size + link_size w) vs (All-tail IsSaid v vs all))
  where
    by : (r : Result LineValue PlainCause) → IfOk r IsSaid
        → ((w : LineValue) → IfOk (settled_from values (before ++ v ∷ []) (suc n) (size + link_size w) vs) (All IsSaid))
        → IfOk (◌>>=◌ (by_line (numbered n r)) (λ w. cond (nat_lt text_limit (size + link_size w)) (Err too_long)
        (onto w (settled_from values (before ++ v ∷ []) (suc n) (size + link_size w) vs)))) (All IsSaid)
    by (Err e) said more = tt
    by (Ok w) said more = small (nat_lt text_limit (size + link_size w))
      where
        small : (b : Bool) → IfOk (cond b (Err too_long) (onto w (settled_from values (before ++ v ∷ []) (suc n) (size + link_size w) vs))) (All IsSaid)
        small true = tt
        small false = onto_said w (settled_from values (before ++ v ∷ []) (suc n) (size + link_size w) vs) said (more w)

-- of lines that are said each link that is written, and each line that stays, is said
pub settled_said : (values : List LineValue) → All IsSaid values → IfOk (settled values) (All IsSaid)
unfolding settled
settled_said values all = said_from values [] 1 0 values all
