-- Fronts of lines that come in pieces.
use Rattle.std.proofs.{Common.{◌≡◌, refl, sym, ap, ◌∙◌, arith, ℕ, ◌+◌, ◌-◌, ◌<◌, ◌≤◌, Bool, true, false, List, [], ◌∷◌, ◌++◌, take, drop, length, nat_le}, Common.{append_assoc, append-nil, length-append}, lemmas.Bool.Decides.{nat_tests}}
use Rattle.std.proofs.{lemmas.Grind.{flat_map-append}, lemmas.List.{take_all, drop_all, length-take-le, take-append-le, drop-append-le}, Math.Seq.{drop-append-add}}
use Rattle.std.specs.List.{flat_map}
use Rattle.zone_words.{proofs.LineLemmas.{lines_join, take_front}, specs.{Cuts.{IsCut, IsUncut}, Filters.{Grows, Closes}, Fronts.{rewritten_line, ended_line, begun_line, closed_line, passed, passed_end, due_behind, Passes, PassesAll, fronts_rewritten}, Lines.{lines_behind, open_behind, whole_lines, open_line}, Room.{room}}}

le_true : (a b : ℕ) → a ≤ b → nat_le a b ≡ true
le_true a b h = grind (arith, nat_tests, h)

le_false : (a b : ℕ) → b < a → nat_le a b ≡ false
le_false a b h = grind (arith, nat_tests, h)

from_true : (a b : ℕ) → nat_le a b ≡ true → a ≤ b
from_true a b e = grind (arith, nat_tests, e)

from_false : (a b : ℕ) → nat_le a b ≡ false → b < a
from_false a b e = grind (arith, nat_tests, e)

-- a front that is whole once a piece came
pub grown : (width : ℕ) (f : List ℕ → List ℕ) (held more : List ℕ) (free : ℕ) → free ≡ width - length held → 0 < free → free ≤ length more →
    passed width f held more ≡ f (take width (held ++ more)) ++ drop free more
grown width f held more free is some enough =
    let size = length-append held more in
    let few = le_false width (length held) (omega (arith, is)) in
    let whole = le_true width (length (held ++ more)) (omega (arith, size, is)) in
    let at : width ≡ length held + free = omega (arith, is) in
    rw (few, whole) (ap (λ k. f (take width (held ++ more)) ++ drop k (held ++ more)) at ∙ ap (λ l. f (take width (held ++ more)) ++ l) (drop-append-add held more free))

-- a last line is its front
pub closed_short : (width : ℕ) (f : List ℕ → List ℕ) (line : List ℕ) → 0 < length line → length line < width → closed_line width f line ≡ f line
closed_short width f [] some short = absurd (omega arith)
closed_short width f (c ∷ line) some short =
    let few = le_false width (length (c ∷ line)) short in
    let within : length (c ∷ line) ≤ width = omega arith in
    rw few (append-nil (f (take width (c ∷ line)) ++ drop width (c ∷ line))
    ∙ (λ i. f (take_all width (c ∷ line) within i) ++ drop_all width (c ∷ line) within i) ∙ append-nil (f (c ∷ line)))

-- what is due besides at the end of a line
pub ended : (width : ℕ) (f : List ℕ → List ℕ) (held line : List ℕ) → 0 < length held →
    (passed width f held line ++ closed_line width f (take width (held ++ line))) ++ 10 ∷ [] ≡ passed_end width f held line
ended width f [] line some = absurd (omega arith)
ended width f (c ∷ held) line some = by_size (nat_le width (length (c ∷ held))) refl (nat_le width (length ((c ∷ held) ++ line))) refl
  where
    full : width ≤ length ((c ∷ held) ++ line) → closed_line width f (take width ((c ∷ held) ++ line)) ≡ []
    full long =
        let size = length-take-le width ((c ∷ held) ++ line) long in
        rw (le_true width (length (take width ((c ∷ held) ++ line))) (omega (arith, size))) refl

    by_size : (a : Bool) → nat_le width (length (c ∷ held)) ≡ a → (b : Bool) → nat_le width (length ((c ∷ held) ++ line)) ≡ b →
        (passed width f (c ∷ held) line ++ closed_line width f (take width ((c ∷ held) ++ line))) ++ 10 ∷ [] ≡ passed_end width f (c ∷ held) line
    by_size true e b h =
        let long : width ≤ length ((c ∷ held) ++ line) = omega (arith, length-append (c ∷ held) line, from_true _ _ e) in
        rw (full long, e) (ap (λ l. l ++ 10 ∷ []) (append-nil line))
    by_size false e true h = rw (full (from_true _ _ h), e, h) (ap (λ l. l ++ 10 ∷ []) (append-nil (rewritten_line width f ((c ∷ held) ++ line))))
    by_size false e false h =
        let within : length ((c ∷ held) ++ line) ≤ width = omega (arith, from_false _ _ h) in
        let short : closed_line width f ((c ∷ held) ++ line) ≡ rewritten_line width f ((c ∷ held) ++ line) ++ [] = rw h refl in
        let whole = ap (closed_line width f) (take_all width ((c ∷ held) ++ line) within) ∙ short ∙ append-nil (rewritten_line width f ((c ∷ held) ++ line)) in
        let none : passed width f (c ∷ held) line ≡ [] = rw (e, h) refl in
        let all : passed_end width f (c ∷ held) line ≡ rewritten_line width f ((c ∷ held) ++ line) ++ 10 ∷ [] = rw e refl in
        (λ i. (none i ++ whole i) ++ 10 ∷ []) ∙ sym all

-- what goes out of an open line of which the front is held is what is due of it
grow_behind : (width : ℕ) (f : List ℕ → List ℕ) (held line more : List ℕ) → held ≡ take width line →
    begun_line width f (line ++ more) ≡ begun_line width f line ++ passed width f held more
grow_behind width f held line more is = by_size (nat_le width (length line)) refl
  where
    by_size : (b : Bool) → nat_le width (length line) ≡ b → begun_line width f (line ++ more) ≡ begun_line width f line ++ passed width f held more
    by_size true e =
        let long = from_true _ _ e in
        let whole = le_true width (length (line ++ more)) (omega (arith, length-append line more)) in
        let size : length held ≡ width = ap length is ∙ length-take-le width line long in
        let full = le_true width (length held) (omega (arith, size)) in
        rw (e, whole, full) ((λ i. f (take-append-le width line more long i) ++ drop-append-le width line more long i)
        ∙ sym (append_assoc (f (take width line)) (drop width line) more))
    by_size false e =
        let within : length line ≤ width = omega (arith, from_false _ _ e) in
        let same : held ≡ line = is ∙ take_all width line within in
        rw (same, e) refl

end_behind : (width : ℕ) (f : List ℕ → List ℕ) (held line more : List ℕ) → held ≡ take width line →
    begun_line width f line ++ passed_end width f held more ≡ ended_line width f (line ++ more)
end_behind width f held line more is = by_size (nat_le width (length line)) refl
  where
    by_size : (b : Bool) → nat_le width (length line) ≡ b → begun_line width f line ++ passed_end width f held more ≡ ended_line width f (line ++ more)
    by_size true e =
        let long = from_true _ _ e in
        let size : length held ≡ width = ap length is ∙ length-take-le width line long in
        let full = le_true width (length held) (omega (arith, size)) in
        rw (e, full) (sym (append_assoc (f (take width line) ++ drop width line) more (10 ∷ []))
        ∙ ap (λ l. l ++ 10 ∷ []) (append_assoc (f (take width line)) (drop width line) more
        ∙ (λ i. f (sym (take-append-le width line more long) i) ++ sym (drop-append-le width line more long) i)))
    by_size false e =
        let within : length line ≤ width = omega (arith, from_false _ _ e) in
        let same : held ≡ line = is ∙ take_all width line within in
        rw (same, e) refl

closed_held : (width : ℕ) (f : List ℕ → List ℕ) (held line : List ℕ) → held ≡ take width line → closed_line width f held ≡ closed_line width f line
closed_held width f held line is = by_size (nat_le width (length line)) refl
  where
    by_size : (b : Bool) → nat_le width (length line) ≡ b → closed_line width f held ≡ closed_line width f line
    by_size true e =
        let size : length held ≡ width = ap length is ∙ length-take-le width line (from_true _ _ e) in
        rw (e, le_true width (length held) (omega (arith, size))) refl
    by_size false e =
        let within : length line ≤ width = omega (arith, from_false _ _ e) in
        ap (closed_line width f) (is ∙ take_all width line within)

-- a piece begins, one of its lines ends, and its rest stays open
pub passes_none : (f : List ℕ → List ℕ) (held piece output : List ℕ) → Passes f held piece held piece output output
passes_none f held piece output = λ begun is. record {
  line = begun;
  is = is;
  more = [];
  added = sym (append-nil output);
  due = λ later d. d;
  tail = refl;
}

pub passes_line : (f : List ℕ → List ℕ) (first piece held held_now rest output mid now line after : List ℕ) → Passes f first piece held rest output mid →
    IsCut rest line after → held_now ≡ [] → now ≡ mid ++ passed_end room f held line → Passes f first piece held_now after output now
passes_line f first piece held held_now rest output mid now line after passes cut none grew = λ begun is.
    let p = passes begun is in
    let out = passed_end room f held line in
    let whole : (later : List ℕ) → due_behind room f [] after ≡ later → due_behind room f p.line rest ≡ begun_line room f p.line ++ (out ++ later) = λ later d.
    (λ i. flat_map (ended_line room f) (cut.lines p.line i) ++ begun_line room f (cut.tail p.line i))
    ∙ append_assoc (ended_line room f (p.line ++ line)) (flat_map (ended_line room f) (lines_behind [] after)) (begun_line room f (open_behind [] after))
    ∙ (λ i. sym (end_behind room f held p.line line p.is) i ++ d i) ∙ append_assoc (begun_line room f p.line) out later in
    record {
      line = [];
      is = none;
      more = p.more ++ out;
      added = grew ∙ ap (λ l. l ++ out) p.added ∙ append_assoc output p.more out;
      due = λ later d. p.due (out ++ later) (whole later d) ∙ ap (λ l. begun_line room f begun ++ l) (sym (append_assoc p.more out later));
      tail = sym (cut.tail p.line) ∙ p.tail;
    }

pub passes_all : (f : List ℕ → List ℕ) (first piece held held_now rest output mid now : List ℕ) → Passes f first piece held rest output mid →
    IsUncut rest → held_now ≡ take room (held ++ rest) → now ≡ mid ++ passed room f held rest → PassesAll f first piece held_now output now
passes_all f first piece held held_now rest output mid now passes uncut holds grew = λ begun is.
    let p = passes begun is in
    let out = passed room f held rest in
    let due : due_behind room f p.line rest ≡ begun_line room f p.line ++ out =
    (λ i. flat_map (ended_line room f) (uncut.lines p.line i) ++ begun_line room f (uncut.tail p.line i)) ∙ grow_behind room f held p.line rest p.is in
    record {
      is = holds ∙ ap (λ l. take room (l ++ rest)) p.is ∙ take_front room p.line rest ∙ ap (take room) (sym (uncut.tail p.line) ∙ p.tail);
      more = p.more ++ out;
      added = grew ∙ ap (λ l. l ++ out) p.added ∙ append_assoc output p.more out;
      due = p.due out due;
    }

-- so the output grows by what is due
pub fronts_fed : (f : List ℕ → List ℕ) (held held_now piece output output_now : List ℕ) → PassesAll f held piece held_now output output_now →
    (fed : List ℕ) → held ≡ take 4098 (open_line fed) → held_now ≡ take 4098 (open_line (fed ++ piece))
fronts_fed f held held_now piece output output_now passes fed is = (passes (open_line fed) is).is ∙ ap (take 4098) (sym (lines_join [] fed piece).1)

pub fronts_grow : (f : List ℕ → List ℕ) (held held_now piece output output_now : List ℕ) → PassesAll f held piece held_now output output_now →
    (fed : List ℕ) → held ≡ take 4098 (open_line fed) → Grows (fronts_rewritten f) fed piece output output_now false
fronts_grow f held held_now piece output output_now passes fed is =
    let p = passes (open_line fed) is in
    let joins = lines_join [] fed piece in
    record {
      more = p.more;
      added = p.added;
      due = (λ i. (ap (flat_map (ended_line room f)) joins.0 ∙ flat_map-append (ended_line room f) (whole_lines fed) (lines_behind (open_line fed) piece)) i
          ++ begun_line room f (joins.1 i))
          ∙ append_assoc (flat_map (ended_line room f) (whole_lines fed)) _ _ ∙ ap (λ l. flat_map (ended_line room f) (whole_lines fed) ++ l) p.due
          ∙ sym (append_assoc (flat_map (ended_line room f) (whole_lines fed)) (begun_line room f (open_line fed)) p.more);
      faults = refl;
    }

pub fronts_close : (f : List ℕ → List ℕ) (held output output_now : List ℕ) → output_now ≡ output ++ closed_line room f held →
    (fed : List ℕ) → held ≡ take 4098 (open_line fed) → Closes (fronts_rewritten f) fed output output_now false
fronts_close f held output output_now added fed is = record {
  added = added ∙ ap (λ l. output ++ l) (closed_held room f held (open_line fed) is);
  faults = refl;
}
