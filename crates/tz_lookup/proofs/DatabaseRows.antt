-- What a database is defined by, at worked rows and by laws.
use Rattle.std.proofs.{Common.{◌≡◌, ◌++◌, ℕ, Bool, true, false, List, [], ◌∷◌, map, refl, sym, ap, ◌∙◌, ℤ, pos}, Math.Bool.{and-false, and-or_distrib_left, and-true}, lemmas.List.Folds.{list_any-append}}
use Rattle.std.specs.{Prelude.{◌&&◌, ◌||◌, filter, Option, Some, None, Ok, Err, codes, is_some, option_and_then, if◌then◌else◌}, declared.cmp.Ordering.TheVariants.{Less, Equal, Greater}, FinMap.{get, keys, contains_key-keys}, List.{list_any}}
use Rattle.std.specs.{Option.{option_or}, Ordering.{eq_by_cmp, is_eq}, Str.{bytes_eq}}
use Rattle.basics.specs.{InOrderLaws.{any-in_order}, Keyed.{text_cmp}}
use Rattle.zone_spans.specs.{Schedules.{totals_of}, declared.fault.SpanFault.TheVariants.{MissingUntil, NoStandardSpan}}
use Rattle.zone_spans.specs.declared.span.FixedTimespanSet as spans
use Rattle.zone_table.specs.declared.table.Table.{Table}
use Rattle.tz_lookup.{specs.{Databases.{resolves, names_of, refusal_of, first_refused, has_part}, declared.compile.ZoneFault.{ZoneFault, TheVariants.{UnknownZone, Schedule, OffsetRange}}}, proofs.DatabaseLemmas.{any-filter, text_same}}

-- ---- parts of names

parts : map (λ part. has_part part (codes "America/New_York")) (codes "York" ∷ codes "America" ∷ codes "/" ∷ codes "New_York" ∷ [] ∷ [])
    ≡ true ∷ true ∷ true ∷ true ∷ true ∷ []
parts = refl

-- a part stands in one piece, in the same case, and is no longer than the text
no_parts : map (λ part. has_part part (codes "A/York")) (codes "york" ∷ codes "AYork" ∷ codes "Yorks" ∷ codes "A/York/B" ∷ [])
    ≡ false ∷ false ∷ false ∷ false ∷ []
no_parts = refl

nothing_has_parts : map (λ part. has_part part []) ([] ∷ codes "A" ∷ []) ≡ true ∷ false ∷ []
nothing_has_parts = refl

-- ---- why a name is refused

-- a set with one span of that offset and saving
abbrev fixed_at : ℤ → ℤ → spans.FixedTimespanSet
fixed_at offset saving = record { first = record { utc_offset = offset; dst_offset = saving; name = codes "T" }; rest = [] }

refusals : map refusal_of
    (None ∷ Some (Err MissingUntil) ∷ Some (Ok (fixed_at (pos 90000) (pos 3600))) ∷ Some (Ok (fixed_at (pos 90000) (pos 3599))) ∷ [])
    ≡ Some UnknownZone ∷ Some (Schedule MissingUntil) ∷ Some OffsetRange ∷ None ∷ []
unfolding totals_of
refusals = refl

-- the second name and the third are refused
abbrev two_refused : List ℕ → Option ZoneFault
two_refused name = if bytes_eq name (codes "B") then Some (Schedule NoStandardSpan) else if bytes_eq name (codes "C") then Some OffsetRange else None

first_of_two : first_refused two_refused (codes "A" ∷ codes "B" ∷ codes "C" ∷ []) ≡ Some (codes "B", Schedule NoStandardSpan)
first_of_two = refl

none_refused : first_refused two_refused (codes "A" ∷ codes "D" ∷ []) ≡ None
none_refused = refl

-- ---- names

module _ (table : Table) (name existing : List ℕ) where
  -- a link that leads to a zone finds it, and one that leads nowhere finds nothing
  link_resolves : get table.zonesets name ≡ None → get table.links name ≡ Some existing
      → resolves table name ≡ is_some (get table.zonesets existing)
  link_resolves no_zone link = rw (no_zone, link) refl

  -- nor does a name that is neither a zone's nor a link's
  nothing_resolves : get table.zonesets name ≡ None → get table.links name ≡ None → resolves table name ≡ false
  nothing_resolves no_zone no_link = rw (no_zone, no_link) refl

-- a test of a name passes at that name alone
same_test : (p : List ℕ → Bool) (name x : List ℕ) → (p x && eq_by_cmp text_cmp name x) ≡ (p name && eq_by_cmp text_cmp name x)
same_test p name x =
    elim (text_cmp name x) as (λ r. text_cmp name x ≡ r → (p x && is_eq r) ≡ (p name && is_eq r)) [
      | Less ↦ λ e. and-false (p x) ∙ sym (and-false (p name))
      | Equal ↦ λ e. ap (λ n. p n && true) (sym (text_same name x e))
      | Greater ↦ λ e. and-false (p x) ∙ sym (and-false (p name))
    ] refl

any-same : (p : List ℕ → Bool) (name : List ℕ) (xs : List (List ℕ))
    → list_any (λ x. p x && eq_by_cmp text_cmp name x) xs ≡ (p name && list_any (eq_by_cmp text_cmp name) xs)
any-same p name [] = sym (and-false (p name))
any-same p name (x ∷ xs) =
    (λ i. same_test p name x i || any-same p name xs i) ∙ sym (and-or_distrib_left (p name) (eq_by_cmp text_cmp name x) (list_any (eq_by_cmp text_cmp name) xs))

-- what is found is found under a zone's name or a link's
only_keys : {Z : Type 0} (zone : Option Z) (link : Option (List ℕ)) (find : List ℕ → Option Z)
    → (is_some (option_or zone (option_and_then find link)) && (is_some zone || is_some link)) ≡ is_some (option_or zone (option_and_then find link))
only_keys (Some zone) link find = refl
only_keys None None find = refl
only_keys None (Some existing) find = and-true (is_some (find existing))

-- a name is among a table's names exactly where it finds a zone
each_that_resolves : (table : Table) (name : List ℕ) → list_any (eq_by_cmp text_cmp name) (names_of table) ≡ resolves table name
unfolding names_of
each_that_resolves table name =
    let all = keys table.zonesets ++ keys table.links in
    any-in_order text_same (eq_by_cmp text_cmp name) (filter (resolves table) all)
    ∙ any-filter (resolves table) (eq_by_cmp text_cmp name) all
    ∙ any-same (resolves table) name all
    ∙ ap (λ b. resolves table name && b) (list_any-append (eq_by_cmp text_cmp name) (keys table.zonesets) (keys table.links))
    ∙ (λ i. resolves table name && (sym (contains_key-keys table.zonesets name) i || sym (contains_key-keys table.links name) i))
    ∙ only_keys (get table.zonesets name) (get table.links name) (get table.zonesets)
