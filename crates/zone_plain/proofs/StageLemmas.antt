-- The lines that were settled, and those that are left.
use Rattle.std.proofs.Common.{◌≡◌, ℕ, suc, ◌+◌, ◌-◌, ◌≤◌, ◌<◌, List, [], ◌∷◌, ◌++◌, map, length, take, drop, get_or, true, false, nat_lt, Result, Ok, Err, refl, sym, ap, ◌∙◌, subst, arith, append_assoc, append-nil}
use Rattle.std.proofs.lemmas.{List.{drop_all, drop_more, get_or-map, take_more}, Bool.{ltb-false, le-ltb, lt-ltb}}
use Rattle.std.specs.{Prelude.{is_some}, FinMap.{get, empty, get-empty}}
use Rattle.basics.specs.Keyed.{text_cmp}
use Rattle.zone_outside.specs.Limit.{text_limit}
use Rattle.zone_table.specs.{Values.{LineValue, line_value, space}, declared.line.Line.{Line}, declared.line.Line.TheVariants.{Space}}
use Rattle.zone_plain_lines.specs.{declared.cause.PlainCause.{PlainCause}, LineFaults.{Refusal, bad_line, too_long, at, onto, IsFaultOf}, Told.{fault_at, IsRefused}, declared.error.Refused.{Refused}, declared.error.Refused.TheVariants.{Cause, NoMemory}}
use Rattle.zone_plain.specs.{Settled.{link_size, settled_line, settled_from, settled}, Stands.{names_of, IsDeclared, IsKept, IsAt}, declared.links.Declared.{Declared}, declared.links.Seen.{Seen}}

pub first_at : (d : Declared) (s : Seen) (values : List LineValue) (limit : ℕ) → s.zones ≡ empty → s.targets ≡ empty → s.known ≡ empty
    → IsDeclared d values → limit ≡ length values → IsAt d s limit values []
first_at d s values limit zones targets known declared few = record {
  declared = declared;
  few = few;
  seen = record {
    zones = λ name. ap is_some (ap (λ m. get m name) zones ∙ get-empty text_cmp name);
    targets = λ name. ap (λ m. get m name) targets ∙ get-empty text_cmp name;
    known = λ name. subst (IsKept (names_of d) values name) (sym (ap (λ m. get m name) known ∙ get-empty text_cmp name)) tt;
  };
}

-- these values come before those that are found
abbrev pub prepend : List LineValue → Result (List LineValue) Refusal → Result (List LineValue) Refusal
prepend ws (Ok vs) = Ok (ws ++ vs)
prepend ws (Err e) = Err e

prepend_none : (r : Result (List LineValue) Refusal) → prepend [] r ≡ r
prepend_none (Ok vs) = refl
prepend_none (Err e) = refl

prepend_one : (ws : List LineValue) (w : LineValue) (r : Result (List LineValue) Refusal) → prepend ws (onto w r) ≡ prepend (ws ++ w ∷ []) r
prepend_one ws w (Ok vs) = ap Ok (sym (append_assoc ws (w ∷ []) vs))
prepend_one ws w (Err e) = refl

-- the lines before this place became these
pub record Settling (d : Declared) (s : Seen) (limit : ℕ) (values ws : List LineValue) (place size : ℕ) : Type 0 where
  pub here : IsAt d s limit values (take place values)
  pub goes_on : prepend ws (settled_from values (take place values) (place + 1) size (drop place values)) ≡ settled values
  pub small : nat_lt text_limit size ≡ false

pub nothing_settled : (d : Declared) (s : Seen) (limit : ℕ) (values : List LineValue) → IsAt d s limit values [] → Settling d s limit values [] 0 0
unfolding settled
nothing_settled d s limit values here = record { here = here; goes_on = prepend_none _; small = refl }

goes : (values before : List LineValue) (n size : ℕ) (v w : LineValue) (vs : List LineValue) → settled_line values before v ≡ Ok w
    → nat_lt text_limit (size + link_size w) ≡ false
    → settled_from values before n size (v ∷ vs) ≡ onto w (settled_from values (before ++ v ∷ []) (suc n) (size + link_size w) vs)
unfolding settled_from
goes values before n size v w vs is small = rw (is, small) refl

pub one_settled : (d : Declared) (s new : Seen) (limit : ℕ) (values ws : List LineValue) (place size size_now : ℕ) (w : LineValue)
    → place < length values → Settling d s limit values ws place size
    → settled_line values (take place values) (get_or values place space) ≡ Ok w → size_now ≡ size + link_size w
    → nat_lt text_limit size_now ≡ false → IsAt d new limit values (take place values ++ get_or values place space ∷ [])
    → Settling d new limit values (ws ++ w ∷ []) (place + 1) size_now
one_settled d s new limit values ws place size size_now w inside so_far is sized small here =
    let taken = take_more values place space inside in
    let on : settled_from values (take place values) (place + 1) size (drop place values)
    ≡ onto w (settled_from values (take (place + 1) values) (suc (place + 1)) size_now (drop (place + 1) values)) =
    ap (settled_from values (take place values) (place + 1) size) (drop_more values place space inside)
    ∙ goes values (take place values) (place + 1) size (get_or values place space) w (drop (place + 1) values) is
    (ap (nat_lt text_limit) (sym sized) ∙ small)
    ∙ (λ i. onto w (settled_from values (sym taken i) (suc (place + 1)) (sym sized i) (drop (place + 1) values))) in
    record {
      here = subst (IsAt d new limit values) (sym taken) here;
      goes_on =
          ap (λ n. prepend (ws ++ w ∷ []) (settled_from values (take (place + 1) values) n size_now (drop (place + 1) values))) (later place)
          ∙ sym (prepend_one ws w _) ∙ ap (prepend ws) (sym on) ∙ so_far.goes_on;
      small = small;
    }
  where
    later : (place : ℕ) → place + 1 + 1 ≡ suc (place + 1)
    later place = omega arith

stops : (values before : List LineValue) (n size : ℕ) (v : LineValue) (vs : List LineValue) (c : PlainCause) → settled_line values before v ≡ Err c
    → settled_from values before n size (v ∷ vs) ≡ Err (bad_line (at n c))
unfolding settled_from
stops values before n size v vs c is = rw is refl

pub refused_here : (d : Declared) (s : Seen) (limit : ℕ) (values ws : List LineValue) (place size : ℕ) (r : Refused) → place < length values
    → Settling d s limit values ws place size → IsRefused (settled_line values (take place values) (get_or values place space)) r
    → IsFaultOf (settled values) (fault_at (place + 1) r)
refused_here d s limit values ws place size (Cause c) inside so_far is =
    sym so_far.goes_on
    ∙ ap (prepend ws) (ap (settled_from values (take place values) (place + 1) size) (drop_more values place space inside)
    ∙ stops values (take place values) (place + 1) size (get_or values place space) (drop (place + 1) values) c is)
refused_here d s limit values ws place size NoMemory inside so_far is = tt

overflows : (values before : List LineValue) (n size : ℕ) (v w : LineValue) (vs : List LineValue) → settled_line values before v ≡ Ok w
    → nat_lt text_limit (size + link_size w) ≡ true → settled_from values before n size (v ∷ vs) ≡ Err too_long
unfolding settled_from
overflows values before n size v w vs is large = rw (is, large) refl

pub too_long_here : (d : Declared) (s : Seen) (limit : ℕ) (values ws : List LineValue) (place size : ℕ) (w : LineValue) → place < length values
    → Settling d s limit values ws place size → settled_line values (take place values) (get_or values place space) ≡ Ok w
    → nat_lt text_limit (size + link_size w) ≡ true → settled values ≡ Err too_long
too_long_here d s limit values ws place size w inside so_far is large =
    sym so_far.goes_on
    ∙ ap (prepend ws) (ap (settled_from values (take place values) (place + 1) size) (drop_more values place space inside)
    ∙ overflows values (take place values) (place + 1) size (get_or values place space) w (drop (place + 1) values) is large)

pub all_settled : (d : Declared) (s : Seen) (limit : ℕ) (values ws : List LineValue) (place size : ℕ) → length values ≤ place
    → Settling d s limit values ws place size → settled values ≡ Ok ws
unfolding settled_from
all_settled d s limit values ws place size past so_far =
    sym so_far.goes_on
    ∙ ap (λ vs. prepend ws (settled_from values (take place values) (place + 1) size vs)) (drop_all place values past)
    ∙ ap Ok (append-nil ws)

pub size_is_small : (d : Declared) (s : Seen) (limit : ℕ) (values ws : List LineValue) (place size : ℕ)
    → Settling d s limit values ws place size → size ≤ 16777216
size_is_small d s limit values ws place size so_far = not_more size so_far.small
  where
    not_more : (n : ℕ) → nat_lt 16777216 n ≡ false → n ≤ 16777216
    not_more n small = ltb-false 16777216 n small

-- the line at a place
pub line_at : (lines : List Line) (place : ℕ) → place < length lines → line_value (get_or lines place Space) ≡ get_or (map line_value lines) place space
line_at lines place inside = sym (get_or-map line_value lines place Space space inside)

-- and stay few with others for which there is room, or not
pub still_small : (size added : ℕ) → size ≤ 16777216 → added ≤ 16777216 - size → nat_lt 16777216 (size + added) ≡ false
still_small size added few room = le-ltb 16777216 (size + added) (omega (arith, few, room))

pub large_now : (size added : ℕ) → size ≤ 16777216 → 16777216 - size < added → nat_lt 16777216 (size + added) ≡ true
large_now size added few past = lt-ltb 16777216 (size + added) (omega (arith, few, past))
