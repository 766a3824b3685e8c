-- Each instant that is shown of a request that is not refused is read back.
use Rattle.std.proofs.{Common.{◌≡◌, ℕ, zero, suc, Bool, true, false, cond, List, [], ◌∷◌, length, map, filter, Option, Some, None, option_map, Ok, refl, sym, ap, ◌∙◌, subst, arith, ℤ}, lemmas.Bool.{and_parts}, lemmas.Bool.Decides.{Decides-int_eq}}
use Rattle.std.proofs.lemmas.{Int.{ints}, List.Elements.{All-append}}
use Rattle.std.specs.{Prelude.{All, bytes_eq, codes, nat_lt}, List.{before_first, after_first, flat_map}, Ordering.{int_eq}}
use Rattle.civil_base.specs.{Instants.{instant_at, local_at}, LocalTimes.{is_text_of, time_with, local_time_in}, Ranges.{is_in_years, is_offset}, ReadAsLaws.{zoned_text-read}}
use Rattle.zone_spans.specs.Schedules.{offsets, instants}
use Rattle.tz_lookup.specs.InForce.{in_force, all_in_force}
use Rattle.zone_answers.specs.{Requests.{Request, at, local, name_of, is_space, nanoseconds_in, request_of, request_with}, AskedLaws.{Asks}, Due.{shown_at, shown_for}, Faults.{has_dates}, Found.{Found}, ReadBack.{IsReadBack}}
use Rattle.zone_answers.proofs.RefusalLemmas.{shown_is}

-- the local time of a request lies in the years
HasYears : Option Request → Type 0
HasYears (Some (local name time)) = is_in_years time ≡ true
HasYears (Some (at name instant)) = Unit {0}
HasYears None = Unit {0}

local_years : (text name : List ℕ) → HasYears (option_map (local name) (local_time_in text))
unfolding HasYears local_time_in
local_years text name = by_test (is_text_of text (time_with text)) refl
  where
    by_test : (b : Bool) → is_text_of text (time_with text) ≡ b → HasYears (option_map (local name) (cond b (Some (time_with text)) None))
    by_test false is = tt
    by_test true is = (and_parts (is_in_years (time_with text)) _ is).0

at_years : (name : List ℕ) (o : Option ℤ) → HasYears (option_map (at name) o)
unfolding HasYears
at_years name None = tt
at_years name (Some x) = tt

request_years : (line : List ℕ) → HasYears (request_of line)
unfolding HasYears request_of request_with
request_years line = by_name (nat_lt 0 (length name))
  where
    rest : List ℕ
    rest = after_first is_space line

    name : List ℕ
    name = before_first is_space rest

    value : List ℕ
    value = after_first is_space rest

    by_word : (a b : Bool)
        → HasYears (cond a (option_map (at name) (nanoseconds_in value)) (cond b (option_map (local name) (local_time_in value)) None))
    by_word true b = at_years name (nanoseconds_in value)
    by_word false true = local_years value name
    by_word false false = tt

    by_name : (b : Bool) → HasYears (cond b
        (cond (bytes_eq (before_first is_space line) (codes "at")) (option_map (at name) (nanoseconds_in value))
        (cond (bytes_eq (before_first is_space line) (codes "local")) (option_map (local name) (local_time_in value)) None)) None)
    by_name true = by_word (bytes_eq (before_first is_space line) (codes "at")) (bytes_eq (before_first is_space line) (codes "local"))
    by_name false = tt

-- an instant at which an offset is in force, by its local time
read_at : (total : ℤ → ℤ) (x o : ℤ) → is_in_years x ≡ true → is_offset (total (instant_at x o)) ≡ true → total (instant_at x o) ≡ o
    → IsReadBack (in_force total (instant_at x o))
read_at total x o years small same =
    zoned_text-read (instant_at x o) (total (instant_at x o)) (ap is_in_years (back x o (total (instant_at x o)) same) ∙ years) small
  where
    back : (x o p : ℤ) → p ≡ o → local_at (instant_at x o) p ≡ x
    back x o p e = omega (arith, ints, e)

one_back : (shown : ℤ × ℤ) → IsReadBack shown → All IsReadBack (shown ∷ [])
one_back shown back zero d within = back
one_back shown back (suc k) d within = absurd (omega arith)

pub none_back : All IsReadBack []
none_back k d within = absurd (omega arith)

-- each instant of a local time
each_back : (total : ℤ → ℤ) (x : ℤ) → is_in_years x ≡ true → ((t : ℤ) → is_offset (total t) ≡ true) → (os : List ℤ) →
    All IsReadBack (map (in_force total) (map (instant_at x) (filter (λ o. int_eq (total (instant_at x o)) o) os)))
each_back total x years small [] = none_back
each_back total x years small (o ∷ os) = by_test (int_eq (total (instant_at x o)) o) refl (each_back total x years small os)
  where
    left : List ℤ
    left = filter (λ o. int_eq (total (instant_at x o)) o) os

    by_test : (b : Bool) → int_eq (total (instant_at x o)) o ≡ b → All IsReadBack (map (in_force total) (map (instant_at x) left)) →
        All IsReadBack (map (in_force total) (map (instant_at x) (cond b (o ∷ left) left)))
    by_test false is rest = rest
    by_test true is rest =
        All-append IsReadBack (in_force total (instant_at x o) ∷ []) (map (in_force total) (map (instant_at x) left))
        (one_back (in_force total (instant_at x o))
        (read_at total x o years (small (instant_at x o)) ((Decides-int_eq (total (instant_at x o)) o).0 is))) rest

-- what answers a request at a zone whose totals are offsets, where it has its dates
at_zone : (request : Request) (total : ℤ → ℤ) → HasYears (Some request) → ((t : ℤ) → is_offset (total t) ≡ true)
    → has_dates total request ≡ true → All IsReadBack (shown_at total request)
unfolding HasYears shown_at has_dates all_in_force instants
at_zone (at name instant) total years small dates =
    one_back _ (zoned_text-read instant (total instant) (and_parts (is_in_years instant) _ dates).1 (small instant))
at_zone (local name time) total years small dates = each_back total time years small offsets

-- what is shown by a line that asks it
pub line_back : (names : List ℕ → Found) (line : List ℕ) (request : Request) (total : ℤ → ℤ) → Asks request_of line request
    → names (name_of request) ≡ Ok total → ((t : ℤ) → is_offset (total t) ≡ true) → has_dates total request ≡ true
    → All IsReadBack (shown_for names line)
line_back names line request total is found small dates =
    rw (shown_is names line request total is found)
    (at_zone request total (subst HasYears is.reads (request_years line)) small dates)

-- what lines show is read back where the first one's is and the others' are
pub lines_back : (names : List ℕ → Found) (line : List ℕ) (left rest : List (List ℕ)) → left ≡ line ∷ rest
    → All IsReadBack (shown_for names line) → All IsReadBack (flat_map (shown_for names) rest) → All IsReadBack (flat_map (shown_for names) left)
lines_back names line left rest is first others =
    subst (λ lines. All IsReadBack (flat_map (shown_for names) lines)) (sym is)
    (All-append IsReadBack (shown_for names line) (flat_map (shown_for names) rest) first others)
