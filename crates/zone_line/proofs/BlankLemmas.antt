-- Lines that are blank by their bytes alone: the pattern matches an empty line, and a comment from the first byte on to the end.
use Rattle.std.proofs.{Common.{◌≡◌, ◌==◌, ◌≤◌, ◌&&◌, ◌||◌, ℕ, ◌+◌, true, false, nat_le, List, [], ◌∷◌, length, drop, length-drop, IsUtf8, refl, sym, ap, ◌∙◌, subst, inl, inr, arith, true≢false, ne_eqb, eqb-true}, lemmas.Bool.{and_parts, cases_eq}, lemmas.Bool.Decides.{nat_tests}, lemmas.List.Folds.{list_all-append}, lemmas.Option.{slice_get_past}, lemmas.Str.{IsUtf8-nil, IsUtf8-past_char, IsCharBoundary-start, drop_past_char}}
use Rattle.std.specs.{Char.{IsScalar, encode_utf8, len_utf8}, Str.{all_scalars, encode_utf8_all}, List.{list_all}}
use Rattle.regex_hir.specs.{Looks.{holds, holds_between}, Matches.{Matches, one_round, next_round}, Re.{Re, empty, literal, byte_in, char_in, look, cat, alt, group, plus}, Text.{has_bytes_at}}
use Rattle.regex_hir.proofs.{TextLemmas.{byte_before-zero, has_bytes_at_from, char_at_from, char_at_fits}, Utf8Lemmas.{InScalarRange-of_IsScalar}}
use Rattle.regex_syntax.proofs.SetLemmas.{in_ranges-members}
use Rattle.regex.{specs.Patterns.{Range, Start, End, in_ranges, members, is_space_char}, proofs.ForCallers.{find_str_complete}, proofs.OnLiterals.{regex_on_literals}}
use Rattle.zone_line.specs.{Kinds.{is_blank, is_no_feed, is_plainly_blank}, Patterns.{pattern_of, match_in}, Texts.{empty_text}}

-- `.`, which stands for every character but a line feed
abbrev dots : List Range
dots = members (λ c. nat_le c 0x10_FFFF && is_no_feed c)

-- such a class with `*`
abbrev many : List Range → Re
many ranges = alt (plus true (char_in ranges)) empty

-- `(#.*)`
abbrev comment : Re
comment = group 1 (alt (cat (literal (35 ∷ [])) (cat (many dots) empty)) (byte_in []))

-- what the pattern is read as
abbrev blank : Re
blank = alt (cat (look Start) (cat (many (members is_space_char))
    (cat (alt (cat comment empty) empty) (cat (look End) empty)))) (byte_in [])

blank_is : pattern_of empty_text ≡ blank
unfolding pattern_of regex_on_literals
blank_is = refl

is_dot : (c : ℕ) → IsScalar c → is_no_feed c ≡ true → in_ranges dots c ≡ true
is_dot c scalar h =
    let within = InScalarRange-of_IsScalar c scalar in
    in_ranges-members _ c ∙ grind (arith, nat_tests)

-- one more round
longer : (line : List ℕ) (ranges : List Range) (i l j : ℕ) → Matches line (many ranges) i l → Matches line (char_in ranges) l j →
    Matches line (many ranges) i j
longer line ranges i l j (inl rounds) one = inl (next_round l j rounds one)
longer line ranges i l j (inr here) one = inl (one_round j (subst (λ k. Matches line (char_in ranges) k j) here one))

-- a character whose bytes stay on the line
char_stays : (c : ℕ) → list_all is_no_feed (encode_utf8 c) ≡ true → is_no_feed c ≡ true
unfolding encode_utf8
char_stays c h = elim (cases_eq c 10) [
  | inl is ↦ absurd (true≢false (sym (rw is at h)))
  | inr other ↦ rw (ne_eqb c 10 other)
]

-- such characters match up to the end
to_the_end : (line : List ℕ) (i l : ℕ) → Matches line (many dots) i l → l ≤ length line → (cs : List ℕ) → all_scalars cs ≡ true →
    drop l line ≡ encode_utf8_all cs → list_all is_no_feed (encode_utf8_all cs) ≡ true → Matches line (many dots) i (length line)
to_the_end line i l m le [] scalar e h =
    let ends : l ≡ length line = omega (arith, ap length e, length-drop l line) in
    subst (λ k. Matches line (many dots) i k) ends m
to_the_end line i l m le (c ∷ cs) scalar e h =
    let each = and_parts _ _ scalar in
    let both = and_parts _ _ (sym (list_all-append is_no_feed (encode_utf8 c) (encode_utf8_all cs)) ∙ h) in
    let found = char_at_from line l c (encode_utf8_all cs) each.0 e in
    to_the_end line i (l + len_utf8 c)
    (longer line dots i l (l + len_utf8 c) m (c, found, is_dot c each.0 (char_stays c both.0), refl))
    (char_at_fits line l c found) cs each.1 (drop_past_char line (encode_utf8_all cs) l c e) both.1

comment_to_the_end : (line : List ℕ) → IsUtf8 line → (rest : List ℕ) → line ≡ 35 ∷ rest → list_all is_no_feed line ≡ true →
    Matches line (many dots) 1 (length line)
unfolding encode_utf8
comment_to_the_end line utf8 rest e h =
    let text = IsUtf8-past_char line rest 35 utf8 e in
    let after : drop 1 line ≡ encode_utf8_all text.0 = ap (drop 1) e ∙ sym text.1.1 in
    let stay : list_all is_no_feed (encode_utf8_all text.0) ≡ true = rw text.1.1 (rw e at h) in
    to_the_end line 1 1 (inr refl) (omega (arith, ap length e)) text.0 text.1.0 after stay

matched : (line : List ℕ) → IsUtf8 line → Matches line blank 0 (length line) → is_blank line ≡ true
unfolding is_blank match_in
matched line utf8 m = rw blank_is (find_str_complete blank line 0 0 (length line) (omega arith) (IsCharBoundary-start line utf8) m)

starts : (line : List ℕ) → holds Start line 0 ≡ true
unfolding holds holds_between
starts line = rw (byte_before-zero line)

ends : (line : List ℕ) → holds End line (length line) ≡ true
unfolding holds holds_between
ends line = rw (slice_get_past line (length line) (omega arith))

empty_is_blank : is_blank [] ≡ true
empty_is_blank =
    matched [] IsUtf8-nil (inl (0, (starts [], refl), (0, inr refl, (0, inr refl, (0, (ends [], refl), refl)))))

comment_is_blank : (line rest : List ℕ) → IsUtf8 line → line ≡ 35 ∷ rest → list_all is_no_feed line ≡ true → is_blank line ≡ true
comment_is_blank line rest utf8 e h =
    let mark : has_bytes_at line 0 (35 ∷ []) ≡ true = has_bytes_at_from line 0 (35 ∷ []) rest e in
    let n = length line in
    matched line utf8 (inl (
      0,
      (starts line, refl),
      (
        0,
        inr refl,
        (n, inl (n, inl (1, (mark, refl), (n, comment_to_the_end line utf8 rest e h, refl)), refl), (n, (ends line, refl), refl)),
      ),
    ))

-- what the bytes tell is so by the pattern
pub plainly : (line : List ℕ) → IsUtf8 line → is_plainly_blank line ≡ true → is_blank line ≡ true
unfolding is_plainly_blank
plainly [] utf8 h = empty_is_blank
plainly (byte ∷ rest) utf8 h =
    let line = byte ∷ rest in
    let filled : (length line == 0) ≡ false = ne_eqb _ 0 (omega arith) in
    let both = and_parts _ _ (ap (λ b. b || (byte == 35 && list_all is_no_feed line)) (sym filled) ∙ h) in
    comment_is_blank line rest utf8 (ap (λ b. b ∷ rest) (eqb-true byte 35 both.0)) both.1
