-- Lines cut at their LFs, joined again, and short for long ones.
use Rattle.std.proofs.Common.{◌≡◌, refl, sym, ap, ◌∙◌, arith, ℕ, zero, suc, ◌+◌, ◌-◌, ◌<◌, ◌≤◌, Bool, true, false, cond, ◌||◌, List, [], ◌∷◌, ◌++◌, length, take, drop, map, get_or, nat_lt, nat_eq, min, append_assoc, append-nil}
use Rattle.std.proofs.{lemmas.Bool.{ltb-true, ltb-false}, lemmas.Bool.Decides.{nat_tests}, lemmas.List.{take_all, length-take-le, take_min}, Math.Nat.{min_comm}, Math.Seq.{take-append-add}}
use Rattle.std.specs.{List.{flat_map, list_any}, Prelude.{slice_index}, Str.Lines.{strip_carriage_return}}
use Rattle.zone_words.specs.{Lines.{is_line_feed, lines_behind, open_behind}, Replies.{Replies, answer, fails}}

-- the first line ends at the first LF
pub first_cut : (begun bytes : List ℕ) (k : ℕ) → k < length bytes → ((j : ℕ) → j < k → is_line_feed (get_or bytes j 0) ≡ false) →
    is_line_feed (get_or bytes k 0) ≡ true →
    (lines_behind begun bytes ≡ (begun ++ take k bytes) ∷ lines_behind [] (drop (suc k) bytes))
    × (open_behind begun bytes ≡ open_behind [] (drop (suc k) bytes))
unfolding lines_behind open_behind
first_cut begun [] k within none at = absurd (omega arith)
first_cut begun (c ∷ bytes) zero within none at = rw (at, append-nil begun) (refl, refl)
first_cut begun (c ∷ bytes) (suc k) within none at =
    let other : is_line_feed c ≡ false = none 0 (omega arith) in
    let more = first_cut (begun ++ c ∷ []) bytes k (omega arith) (λ j h. none (suc j) (omega arith)) at in
    rw (other, ← append_assoc begun (c ∷ []) (take k bytes)) more

-- without an LF no line is whole
pub no_cut : (begun bytes : List ℕ) → ((j : ℕ) → j < length bytes → is_line_feed (get_or bytes j 0) ≡ false) →
    (lines_behind begun bytes ≡ []) × (open_behind begun bytes ≡ begun ++ bytes)
unfolding lines_behind open_behind
no_cut begun [] none = (refl, sym (append-nil begun))
no_cut begun (c ∷ bytes) none =
    let other : is_line_feed c ≡ false = none 0 (omega arith) in
    let more = no_cut (begun ++ c ∷ []) bytes (λ j h. none (suc j) (omega arith)) in
    rw other (more.0, more.1 ∙ append_assoc begun (c ∷ []) bytes)

-- bytes that come in two pieces
pub lines_join : (begun first then : List ℕ) →
    (lines_behind begun (first ++ then) ≡ lines_behind begun first ++ lines_behind (open_behind begun first) then)
    × (open_behind begun (first ++ then) ≡ open_behind (open_behind begun first) then)
unfolding lines_behind open_behind
lines_join begun [] then = (refl, refl)
lines_join begun (c ∷ first) then = by_head (is_line_feed c) (lines_join [] first then) (lines_join (begun ++ c ∷ []) first then)
  where
    Joins : List ℕ → List ℕ → Type 0
    Joins begun first = (lines_behind begun (first ++ then) ≡ lines_behind begun first ++ lines_behind (open_behind begun first) then)
        × (open_behind begun (first ++ then) ≡ open_behind (open_behind begun first) then)

    by_head : (b : Bool) →
        (lines_behind [] (first ++ then) ≡ lines_behind [] first ++ lines_behind (open_behind [] first) then)
        × (open_behind [] (first ++ then) ≡ open_behind (open_behind [] first) then) →
        (lines_behind (begun ++ c ∷ []) (first ++ then) ≡ lines_behind (begun ++ c ∷ []) first ++ lines_behind (open_behind (begun ++ c ∷ []) first) then)
        × (open_behind (begun ++ c ∷ []) (first ++ then) ≡ open_behind (open_behind (begun ++ c ∷ []) first) then) →
        (cond b (begun ∷ lines_behind [] (first ++ then)) (lines_behind (begun ++ c ∷ []) (first ++ then))
        ≡ cond b (begun ∷ lines_behind [] first) (lines_behind (begun ++ c ∷ []) first)
        ++ lines_behind (cond b (open_behind [] first) (open_behind (begun ++ c ∷ []) first)) then)
        × (cond b (open_behind [] (first ++ then)) (open_behind (begun ++ c ∷ []) (first ++ then))
        ≡ open_behind (cond b (open_behind [] first) (open_behind (begun ++ c ∷ []) first)) then)
    by_head true ended more = (ap (λ lines. begun ∷ lines) ended.0, ended.1)
    by_head false ended more = more

pub take_front : (n : ℕ) (front more : List ℕ) → take n (take n front ++ more) ≡ take n (front ++ more)
take_front zero front more = refl
take_front (suc n) [] more = refl
take_front (suc n) (c ∷ front) more = ap (λ l. c ∷ l) (take_front n front more)

-- of an open line only its front matters to what is held
pub open_short : (n : ℕ) (begun bytes : List ℕ) → take n (open_behind (take n begun) bytes) ≡ take n (open_behind begun bytes)
unfolding open_behind
open_short n begun [] = take_take n begun
  where
    take_take : (n : ℕ) (l : List ℕ) → take n (take n l) ≡ take n l
    take_take zero l = refl
    take_take (suc n) [] = refl
    take_take (suc n) (c ∷ l) = ap (λ l. c ∷ l) (take_take n l)
open_short n begun (c ∷ bytes) = by_head (is_line_feed c)
    (sym (open_short n (take n begun ++ c ∷ []) bytes)
    ∙ ap (λ front. take n (open_behind front bytes)) (take_front n begun (c ∷ [])) ∙ open_short n (begun ++ c ∷ []) bytes)
  where
    by_head : (b : Bool) →
        take n (open_behind (take n begun ++ c ∷ []) bytes) ≡ take n (open_behind (begun ++ c ∷ []) bytes) →
        take n (cond b (open_behind [] bytes) (open_behind (take n begun ++ c ∷ []) bytes))
        ≡ take n (cond b (open_behind [] bytes) (open_behind (begun ++ c ∷ []) bytes))
    by_head true more = refl
    by_head false more = more

-- and to the lines, where only the front of each matters
pub lines_short : (n : ℕ) (begun bytes : List ℕ) →
    map (take n) (lines_behind (take n begun) bytes) ≡ map (take n) (lines_behind begun bytes)
unfolding lines_behind
lines_short n begun [] = refl
lines_short n begun (c ∷ bytes) = by_head (is_line_feed c) (take_take n begun)
    (sym (lines_short n (take n begun ++ c ∷ []) bytes)
    ∙ ap (λ front. map (take n) (lines_behind front bytes)) (take_front n begun (c ∷ [])) ∙ lines_short n (begun ++ c ∷ []) bytes)
  where
    take_take : (n : ℕ) (l : List ℕ) → take n (take n l) ≡ take n l
    take_take zero l = refl
    take_take (suc n) [] = refl
    take_take (suc n) (c ∷ l) = ap (λ l. c ∷ l) (take_take n l)

    by_head : (b : Bool) → take n (take n begun) ≡ take n begun →
        map (take n) (lines_behind (take n begun ++ c ∷ []) bytes) ≡ map (take n) (lines_behind (begun ++ c ∷ []) bytes) →
        map (take n) (cond b (take n begun ∷ lines_behind [] bytes) (lines_behind (take n begun ++ c ∷ []) bytes))
        ≡ map (take n) (cond b (begun ∷ lines_behind [] bytes) (lines_behind (begun ++ c ∷ []) bytes))
    by_head true same more = ap (λ l. l ∷ map (take n) (lines_behind [] bytes)) same
    by_head false same more = more

stripped : (line : List ℕ) → length line ≤ length (strip_carriage_return line) + 1
stripped line = by_last (nat_eq (slice_index line (length line - 1)) 13)
  where
    by_last : (b : Bool) → length line ≤ length (cond b (take (length line - 1) line) line) + 1
    by_last true = omega (arith, length-take-le (length line - 1) line (omega arith))
    by_last false = omega arith

-- a line of two bytes more than the limit is too long, whatever follows
long_stripped : (limit : ℕ) (line : List ℕ) → limit + 2 ≤ length line → nat_lt limit (length (strip_carriage_return line)) ≡ true
long_stripped limit line long =
    let some : limit < length (strip_carriage_return line) = omega (arith, stripped line) in
    grind (arith, nat_tests, some)

-- so what is told of every line that is too long is told of its front
by_front : {A : Type 0} (told : List ℕ → A) (limit : ℕ) (line : List ℕ) (long : A)
    → ((l : List ℕ) → nat_lt limit (length (strip_carriage_return l)) ≡ true → told l ≡ long) → told (take (limit + 2) line) ≡ told line
by_front {A} told limit line long is_long = by_size (nat_lt (limit + 2) (length line)) refl
  where
    by_size : (b : Bool) → nat_lt (limit + 2) (length line) ≡ b → told (take (limit + 2) line) ≡ told line
    by_size true e =
        let more = ltb-true _ _ e in
        let front : length (take (limit + 2) line) ≡ limit + 2 = length-take-le (limit + 2) line (omega arith) in
        is_long (take (limit + 2) line) (long_stripped limit (take (limit + 2) line) (omega arith)) ∙ sym (is_long line (long_stripped limit line (omega arith)))
    by_size false e = ap told (take_all (limit + 2) line (omega (arith, ltb-false _ _ e)))

pub answer_short : (limit : ℕ) (replies : Replies) (line : List ℕ) → answer limit replies (take (limit + 2) line) ≡ answer limit replies line
answer_short limit replies line = by_front (answer limit replies) limit line replies.to_long (λ l e. rw e refl)

pub fails_short : (limit : ℕ) (replies : Replies) (line : List ℕ) → fails limit replies (take (limit + 2) line) ≡ fails limit replies line
fails_short limit replies line = by_front (fails limit replies) limit line true (λ l e. rw e refl)

all_short : {A : Type 0} (f : List ℕ → List A) (n : ℕ) → ((line : List ℕ) → f (take n line) ≡ f line) →
    (lines : List (List ℕ)) → flat_map f (map (take n) lines) ≡ flat_map f lines
all_short f n short [] = refl
all_short f n short (line ∷ lines) = (λ i. short line i ++ all_short f n short lines i)

any_short : (f : List ℕ → Bool) (n : ℕ) → ((line : List ℕ) → f (take n line) ≡ f line) →
    (lines : List (List ℕ)) → list_any f (map (take n) lines) ≡ list_any f lines
any_short f n short [] = refl
any_short f n short (line ∷ lines) = (λ i. short line i || any_short f n short lines i)

-- so what is told of lines is the same behind what is held of the open one
told_behind : {A : Type 0} (told : List (List ℕ) → A) (n : ℕ) → ((lines : List (List ℕ)) → told (map (take n) lines) ≡ told lines)
    → (begun bytes : List ℕ) → told (lines_behind (take n begun) bytes) ≡ told (lines_behind begun bytes)
told_behind told n short begun bytes =
    sym (short (lines_behind (take n begun) bytes)) ∙ ap told (lines_short n begun bytes) ∙ short (lines_behind begun bytes)

pub answers_behind : (limit : ℕ) (replies : Replies) (begun bytes : List ℕ) →
    flat_map (answer limit replies) (lines_behind (take (limit + 2) begun) bytes) ≡ flat_map (answer limit replies) (lines_behind begun bytes)
answers_behind limit replies =
    told_behind (flat_map (answer limit replies)) (limit + 2) (all_short (answer limit replies) (limit + 2) (answer_short limit replies))

pub fails_behind : (limit : ℕ) (replies : Replies) (begun bytes : List ℕ) →
    list_any (fails limit replies) (lines_behind (take (limit + 2) begun) bytes) ≡ list_any (fails limit replies) (lines_behind begun bytes)
fails_behind limit replies =
    told_behind (list_any (fails limit replies)) (limit + 2) (any_short (fails limit replies) (limit + 2) (fails_short limit replies))

-- as much of a piece as there is room for
pub held_front : (held more : List ℕ) (room : ℕ) → length held ≤ room → held ++ take (min (length more) (room - length held)) more ≡ take room (held ++ more)
held_front held more room within =
    let size : room ≡ length held + (room - length held) = omega arith in
    let some : take (min (length more) (room - length held)) more ≡ take (room - length held) more =
    ap (λ n. take n more) (min_comm (length more) (room - length held)) ∙ take_min (room - length held) more in
    ap (λ l. held ++ l) some ∙ sym (take-append-add held more (room - length held)) ∙ ap (λ n. take n (held ++ more)) (sym size)
