-- The lines of a zone, one by one.
use Rattle.std.proofs.{Common.{◌≡◌, ℕ, zero, suc, ◌+◌, ◌<◌, ◌≤◌, true, ◌&&◌, List, [], ◌∷◌, ◌++◌, length, get_or, drop, Option, None, IsTrue, refl, sym, ap, ◌∙◌, arith}, lemmas.List.{append_assoc}, lemmas.List.Elements.{All-drop}}
use Rattle.std.proofs.lemmas.List.{Folds.{list_all-append}, Sums.{AllPass-from_list_all, list_all-from_AllPass}}
use Rattle.std.specs.{List.{list_all}, Option.{option_map_or}}
use Rattle.zone_table.specs.{LineBounds.{are_small_seconds}, Days.{has_day_of_month}, Ends.{end_day}, declared.change.ChangeTime.{ChangeTime}, Bounds.{is_bounded_info, is_bounded_rule, is_bounded_saving}, declared.rule.RuleInfo.{RuleInfo}, declared.zone.ZoneInfo.{ZoneInfo}}
use Rattle.zone_spans.{specs.Bounds.{is_bounded_line}, specs.Lines.{Line, Rulesets, end_before, rules_named, zone_lines}, proofs.BoundLemmas.{both, first, second}, proofs.FoundLemmas.{from_here}}

-- the last line has no end
pub end_last : (infos : List ZoneInfo) (i : ℕ) → i < length infos → length infos ≤ i + 1 → None ≡ end_before (drop i infos)
end_last [] i l m = absurd (omega arith)
end_last (x ∷ []) zero l m = refl
end_last (x ∷ y ∷ zs) zero l m = absurd (omega (arith, m))
end_last (x ∷ xs) (suc i) l m = end_last xs i (omega (arith, l)) (omega (arith, m))

pub lines_more : (rulesets : Rulesets) (ls ls' : List Line) (infos : List ZoneInfo) (i : ℕ) (info : ZoneInfo) (rules : List RuleInfo)
    (end : Option ChangeTime) (all : List Line) → i < length infos → info ≡ get_or infos i info → rules ≡ rules_named rulesets info.saving
    → end ≡ end_before (drop i infos) → ls' ≡ ls ++ record { info = info; rules = rules; end = end } ∷ []
    → ls ++ zone_lines rulesets (drop i infos) ≡ all → ls' ++ zone_lines rulesets (drop (i + 1) infos) ≡ all
unfolding zone_lines
lines_more rulesets ls ls' infos i info rules end all l is named ends pushed before =
    let here = from_here infos i info l is in
    let end_is = ends ∙ ap end_before here in
    let later = zone_lines rulesets (drop (i + 1) infos) in
    ap (λ xs. xs ++ later) pushed
    ∙ append_assoc ls (record { info = info; rules = rules; end = end } ∷ []) later
    ∙ (λ k. ls ++ record { info = info; rules = named k; end = end_is k } ∷ later)
    ∙ ap (λ xs. ls ++ zone_lines rulesets xs) (sym here) ∙ before

bounded_end : (infos : List ZoneInfo) → IsTrue (list_all is_bounded_info infos)
    → IsTrue (option_map_or (λ end. has_day_of_month (end_day end)) (end_before infos) true)
bounded_end [] all = refl
bounded_end (info ∷ []) all = refl
bounded_end (info ∷ next ∷ infos) all =
    second (are_small_seconds info.offset && is_bounded_saving info.saving) _ (first (is_bounded_info info) _ all)

-- a line of bounded parts is bounded
pub line_bounded : (infos : List ZoneInfo) (i : ℕ) (info : ZoneInfo) (rules : List RuleInfo) (end : Option ChangeTime) → i < length infos
    → info ≡ get_or infos i info → end ≡ end_before (drop i infos) → IsTrue (list_all is_bounded_info infos)
    → IsTrue (list_all is_bounded_rule rules)
    → IsTrue (is_bounded_line (record { info = info; rules = rules; end = end }))
unfolding is_bounded_line
line_bounded infos i info rules end l is ends all small =
    let pass = AllPass-from_list_all is_bounded_info infos all in
    let here : IsTrue (is_bounded_info info) = ap is_bounded_info is ∙ pass i info l in
    let behind = list_all-from_AllPass is_bounded_info (drop i infos) (All-drop (λ x. is_bounded_info x ≡ true) i infos pass) in
    both (is_bounded_info info && list_all is_bounded_rule rules) _ (both (is_bounded_info info) _ here small)
    (ap (λ e. option_map_or (λ end. has_day_of_month (end_day end)) e true) ends ∙ bounded_end (drop i infos) behind)

pub one_line_more : (ls : List Line) (line : Line) → IsTrue (list_all is_bounded_line ls) → IsTrue (is_bounded_line line)
    → IsTrue (list_all is_bounded_line (ls ++ line ∷ []))
one_line_more ls line all here =
    list_all-append is_bounded_line ls (line ∷ []) ∙ both (list_all is_bounded_line ls) _ all (both (is_bounded_line line) _ here refl)
