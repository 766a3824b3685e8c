-- The kinds and the numbers so far, with one entry more.
use Rattle.std.proofs.{Common.{◌≡◌, ◌<◌, ◌+◌, ℕ, zero, suc, List, [], ◌∷◌, ◌++◌, length, map, get_or, ℤ, refl, sym, ap, ◌∙◌, subst, ⊎_elim, arith}, lemmas.Bool.{cases_lt}, lemmas.List.{length_push, map-append}}
use Rattle.zone_spans.specs.{Entries.{Entry}, declared.span.FixedTimespan.{FixedTimespan}}
use Rattle.tz_lookup.{specs.{declared.set.FixedTimespanSet.{FixedTimespanSet}, Kinds.{kind_in, with_kind, with_kinds}, Compact.{entries_seen, set_seen, StandFor}}, proofs.{CompactLemmas.{seen_more, seen_same}, KindLemmas.{kind_stays, kinds_grow}}}

pub with_kinds_more : (kinds spans : List FixedTimespan) (span : FixedTimespan) → with_kinds kinds (spans ++ span ∷ []) ≡ with_kind (with_kinds kinds spans) span
unfolding with_kinds
with_kinds_more kinds [] span = refl
with_kinds_more kinds (s ∷ spans) span = with_kinds_more (with_kind kinds s) spans span

get_more : (numbers : List ℕ) (number i : ℕ) → i < length numbers → get_or (numbers ++ number ∷ []) i 0 ≡ get_or numbers i 0
get_more [] number i l = absurd (omega (arith, l))
get_more (n ∷ numbers) number zero l = refl
get_more (n ∷ numbers) number (suc i) l = get_more numbers number i (omega (arith, l))

get_last : (numbers : List ℕ) (number : ℕ) → get_or (numbers ++ number ∷ []) (length numbers) 0 ≡ number
get_last [] number = refl
get_last (n ∷ numbers) number = get_last numbers number

pub first_stands : (start : FixedTimespan) (number : ℕ) (kinds : List FixedTimespan) → kinds ≡ with_kind [] start → number < length kinds
    → kind_in kinds number ≡ start → StandFor start [] kinds number [] []
unfolding with_kinds entries_seen
first_stands start number kinds is within kind = record {
  have = record { begins = within; each = λ i l. absurd (omega (arith, l)); all = refl };
  begins = kind;
  stand = refl;
  distinct = is;
}

pub one_more : (start : FixedTimespan) (entries : List Entry) (kinds more : List FixedTimespan) (first number : ℕ) (times : List ℤ) (numbers : List ℕ)
    (time : ℤ) (span : FixedTimespan) → StandFor start entries kinds first times numbers → more ≡ with_kind kinds span → number < length more
    → kind_in more number ≡ span → StandFor start (entries ++ (time, span) ∷ []) more first (times ++ time ∷ []) (numbers ++ number ∷ [])
one_more start entries kinds more first number times numbers time span so is within kind =
    let grows : (n : ℕ) → n < length kinds → n < length more = λ n l. subst (λ ks. n < length ks) (sym is) (kinds_grow kinds span n l) in
    let stays : (n : ℕ) → n < length kinds → kind_in more n ≡ kind_in kinds n = λ n l. ap (λ ks. kind_in ks n) is ∙ kind_stays kinds span n l in
    record {
      have = record {
        begins = grows first so.have.begins;
        each = λ i l.
            ⊎_elim {C = get_or (numbers ++ number ∷ []) i 0 < length more}
            (λ less. subst (λ n. n < length more) (sym (get_more numbers number i less)) (grows (get_or numbers i 0) (so.have.each i less)))
            (λ same. let this : i ≡ length numbers = omega (arith, l, length_push numbers number) in
            subst (λ n. n < length more) (sym (ap (λ j. get_or (numbers ++ number ∷ []) j 0) this ∙ get_last numbers number)) within)
            (cases_lt i (length numbers));
        all = length_push numbers number ∙ ap (λ n. n + 1) so.have.all ∙ sym (length_push times time);
      };
      begins = stays first so.have.begins ∙ so.begins;
      stand =
          seen_more more times numbers time number so.have.all
          ∙ (λ i. seen_same kinds more times numbers (λ j l. stays (get_or numbers j 0) (so.have.each j l)) i ++ (time, kind i) ∷ [])
          ∙ ap (λ es. es ++ (time, span) ∷ []) so.stand;
      distinct =
          is ∙ ap (λ ks. with_kind ks span) so.distinct
          ∙ sym (with_kinds_more [] (start ∷ map (λ (e : Entry). e.1) entries) span)
          ∙ ap (λ spans. with_kinds [] (start ∷ spans)) (sym (map-append (λ (e : Entry). e.1) entries ((time, span) ∷ [])));
    }

-- the set that they stand for, under its name
pub ended : (set : FixedTimespanSet) (name : List ℕ) (kinds : List FixedTimespan) (first : ℕ) (times : List ℤ) (numbers : List ℕ)
    → name ≡ set.name → StandFor set.first set.others kinds first times numbers → set_seen name kinds first times numbers ≡ set
ended set name kinds first times numbers named so =
    (λ j. record { name = named j; first = so.begins j; others = so.stand j })
