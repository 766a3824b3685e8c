-- A source that needs nothing is written line by line.
use Rattle.std.proofs.{Common.{◌≡◌, ℕ, suc, List, [], ◌∷◌, ◌++◌, ◌≤◌, All, Bool, true, false, cond, not, nat_lt, length, map, None, Some, Result, Ok, Err, IfOk, refl, ap, ◌∙◌, append-nil, subst}, lemmas.Bool.{le-ltb}, lemmas.List.Elements.{All-head, All-tail}}
use Rattle.zone_line.specs.Fields.{is_ruleset_name}
use Rattle.zone_outside.specs.Limit.{text_limit}
use Rattle.zone_source.specs.Lines.{lines_of}
use Rattle.zone_table.specs.{Values.{SavingValue, multiple, LineValue, zone, continuation, rule}, Results.{◌>>=◌}}
use Rattle.zone_plain_lines.specs.{declared.cause.PlainCause.{PlainCause}, LineFaults.{LineFault, at, bad_line, too_long, numbered, onto}, Said.{if_said}, Names.{said_name}, NameLaws.{stays_so}, Renamed.{saved_by, ruleset_of, saving_by, under, renamed}}
use Rattle.zone_plain_lines.specs.declared.cause.PlainCause.TheVariants as cause
use Rattle.zone_plain.specs.{Needs.{IsPlain}, Settled.{settled}, Made.{changed_by, changed, is_changed_said, name_in, made_for, made}, Pairs.{Pair, joined_by, pairs_from}, WrittenOut.{made_size, refused_from, written_unless, written_out}, Heads.{head_of}}
use Rattle.zone_plain.specs.{Kept.{HasNoOffsets}, LineValues.{line_meaning, is_open_after, values_from, meant_in, mark_in, named, values_in}, Named.{IsSaidAsMeant}, Plain.{plain_of}, Written.{written}}
use Rattle.zone_plain.proofs.CleanLaws.{plain_stays}

no_pairs : (pairs : List Pair) (values : List LineValue) → HasNoOffsets values → pairs_from pairs values ≡ pairs
unfolding pairs_from
no_pairs pairs [] none = refl
no_pairs pairs (v ∷ values) none = ap (λ a. pairs_from (joined_by a pairs) values) none.0 ∙ no_pairs pairs values none.1

all_stay : (name_of : Pair → List ℕ) (values : List LineValue) → HasNoOffsets values → map (changed name_of) values ≡ values
all_stay name_of [] none = refl
all_stay name_of (v ∷ values) none =
    ap (λ a. changed_by name_of a v ∷ map (changed name_of) values) none.0 ∙ ap (λ vs. v ∷ vs) (all_stay name_of values none.1)

none_refused : (all : List LineValue) (n : ℕ) (values : List LineValue) → HasNoOffsets values → refused_from text_limit all n [] values ≡ None
unfolding refused_from
none_refused all n [] none = refl
none_refused all n (v ∷ values) none =
    ap (λ a. cond (not (is_changed_said all (name_in all) a v)) (Some (bad_line (at n cause.Unsayable)))
    (cond (nat_lt text_limit (made_size all (joined_by a []))) (Some too_long) (refused_from text_limit all (suc n) (joined_by a []) values))) none.0
    ∙ none_refused all (suc n) values none.1

none_made : (values : List LineValue) → HasNoOffsets values → made values ≡ []
unfolding made
none_made values none = ap (made_for values) (no_pairs [] values none)

-- lines without `%z` stay as they are
out_stays : (values : List LineValue) → HasNoOffsets values → written_out values ≡ Ok values
unfolding written_out
out_stays values none =
    ap (written_unless values) (none_refused values 1 values none)
    ∙ ap Ok ((λ i. all_stay (name_in values) values none i ++ none_made values none i) ∙ append-nil values)

saving_stays : (mark : List ℕ) (saving : SavingValue) → is_ruleset_name (saved_by saving) ≡ true → saving_by saving (said_name mark (saved_by saving)) ≡ saving
saving_stays mark (multiple name) said = ap multiple (stays_so mark name said)
saving_stays mark _ said = refl

-- a line whose ruleset has a name that can be said stays
name_stays : (mark : List ℕ) (v : LineValue) → is_ruleset_name (ruleset_of v) ≡ true → renamed mark v ≡ v
name_stays mark (zone name info) said =
    ap (λ s. zone name (record { utc_offset = info.utc_offset; saving = s; format = info.format; time = info.time })) (saving_stays mark info.saving said)
name_stays mark (continuation info) said =
    ap (λ s. continuation (record { utc_offset = info.utc_offset; saving = s; format = info.format; time = info.time })) (saving_stays mark info.saving said)
name_stays mark (rule r) said = ap (under (rule r)) (stays_so mark r.name said)
name_stays mark _ said = refl

named_stays : (mark : List ℕ) (v : LineValue) → IsSaidAsMeant v → named mark v ≡ Ok v
named_stays mark v said = ap if_said (name_stays mark v said.name) ∙ ap (λ b. cond b (Ok v) (Err cause.Unsayable)) said.said

all_named : (mark : List ℕ) (is_open : Bool) (n : ℕ) (lines : List (List ℕ))
    → IfOk (values_from Ok is_open n lines) (λ meant. All IsSaidAsMeant meant → values_from (named mark) is_open n lines ≡ Ok meant)
unfolding values_from
all_named mark true n [] = tt
all_named mark false n [] = λ said. refl
all_named mark is_open n (line ∷ lines) =
    by (line_meaning is_open line) (λ v. all_named mark (is_open_after is_open v) (suc n) lines)
  where
    rest : (v : LineValue) (r : Result (List LineValue) LineFault)
        → IfOk r (λ meant. All IsSaidAsMeant meant → values_from (named mark) (is_open_after is_open v) (suc n) lines ≡ Ok meant)
        → IfOk (onto v r) (λ meant. All IsSaidAsMeant meant
        → ◌>>=◌ (numbered n (named mark v)) (λ w. onto w (values_from (named mark) (is_open_after is_open v) (suc n) lines)) ≡ Ok meant)
    rest v (Err e) more = tt
    rest v (Ok meant) more = λ said.
        ap (λ r. ◌>>=◌ (numbered n r) (λ w. onto w (values_from (named mark) (is_open_after is_open v) (suc n) lines)))
        (named_stays mark v (All-head IsSaidAsMeant v meant said))
        ∙ ap (onto v) (more (All-tail IsSaidAsMeant v meant said))

    by : (r : Result LineValue PlainCause)
        → ((v : LineValue) → IfOk (values_from Ok (is_open_after is_open v) (suc n) lines)
        (λ meant. All IsSaidAsMeant meant → values_from (named mark) (is_open_after is_open v) (suc n) lines ≡ Ok meant))
        → IfOk (◌>>=◌ (numbered n r) (λ v. ◌>>=◌ (numbered n (Ok v)) (λ w. onto w (values_from Ok (is_open_after is_open v) (suc n) lines))))
        (λ meant. All IsSaidAsMeant meant → ◌>>=◌ (numbered n r) (λ v. ◌>>=◌ (numbered n (named mark v))
        (λ w. onto w (values_from (named mark) (is_open_after is_open v) (suc n) lines))) ≡ Ok meant)
    by (Err e) more = tt
    by (Ok v) more = rest v (values_from Ok (is_open_after is_open v) (suc n) lines) (more v)

-- where each name can be said, the values of a source are what it means, with its own names
pub names_stay : (source : List ℕ) (meant : List LineValue) → meant_in source ≡ Ok meant → All IsSaidAsMeant meant → values_in source ≡ Ok meant
unfolding values_in meant_in
names_stay source meant means said =
    subst (λ r. IfOk r (λ meant. All IsSaidAsMeant meant → values_in source ≡ Ok meant)) means (all_named (mark_in source) false 1 (lines_of source)) said

-- values that stay are written as they are, behind the line of the release
pub kept_by : (source head : List ℕ) (values : List LineValue) → head_of source ≡ Ok head → values_in source ≡ Ok values → settled values ≡ Ok values
    → HasNoOffsets values → length (head ++ written values) ≤ text_limit → plain_of source ≡ Ok (head ++ written values)
unfolding plain_of
kept_by source head values heads meant stay none short =
    rw (heads, meant, stay, out_stays values none, le-ltb text_limit (length (head ++ written values)) short) refl

-- behind the line of the release each rule, each zone with its continuations and each link is written, in order and with the source's names
pub plain_is_kept : (source head : List ℕ) (meant : List LineValue) → head_of source ≡ Ok head → meant_in source ≡ Ok meant → All IsSaidAsMeant meant → IsPlain meant → HasNoOffsets meant
    → length (head ++ written meant) ≤ text_limit → plain_of source ≡ Ok (head ++ written meant)
plain_is_kept source head meant heads means said plain none short =
    kept_by source head meant heads (names_stay source meant means said) (plain_stays meant plain) none short
