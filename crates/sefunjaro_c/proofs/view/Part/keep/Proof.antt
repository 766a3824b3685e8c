-- The address moves from one struct to the other, with what it owns.
use Rattle.std.proofs.Common.{List, [], ◌∷◌, ◌++◌, refl, sym, subst}
use mir.Val.{Val}
use base.Logic.{SProp, ent, emp, id⊢}
use base.Fml.{Fml, ftrue, fsep}
use prog.Wp.{WpFn}
use contract.Running.{tables}
use types.Kit.{‵, raw, ◌⊛◌, ◌$◌, ◌∵◌, !, qed, keep, move, join, split, fsplit, fjoin, suffices, done}
use types.Part.{whole, sub, agg}
use types.Run.{stop, fld, no_more, and_then, of_opd, returns, enter}
use types.ByLocal.{alloc_all, pass_all, free_all, look_at, get, get_in, sets}
use denote.Exit.{yes}
use denote.RawPtr.{Ptr}
use denote.Signature.{plain}
use denote.Steps.{nothing}
use denote.Triple.Walked.{says, Stays, stay_dropped, walk_of, ends_at, Goes-dropped}
use Rattle.std.{proofs.raw_atomic.Walks.{proved_at}, specs.Prelude.{Some}}
use Rattle.sefunjaro_c.{specs.Loans.{part_owns}, proofs.{Addresses.{address_fits, made, opened, word, word_fits}, view.Part.keep.Statement.{statement}}}
use Rattle.sefunjaro_c.specs.contracts.view.Reading as Reading
use Rattle.sefunjaro_c.specs.contracts.view.Part.keep as F
use Rattle.sefunjaro_c.proofs.view.Part.keep.Code as code

abbrev stays : Stays F.ended.signature.params F.ended.kept
stays = (stay_dropped (plain (λ _. Reading.the_row)) yes, tt)

pub keep_spec : {M : Type 1} → statement M
keep_spec 𝓤 𝓛 𝓜 𝓡 wired =
    let clauses = F.clauses 𝓛 𝓜.mem 𝓡.returns in let 𝓣 = tables 𝓤 𝓛.H 𝓜 𝓡 𝓡.env in let From = Reading.the_row in
    proved_at 𝓛 F.ended stays clauses 𝓜 𝓡 (Goes-dropped 𝓛 0 (plain (λ _. From)) yes (λ κs x f. refl), tt) F.Key.name code.function (code.unfolded 𝓤 𝓛.H 𝓜 𝓡 wired) (λ y are.
    let d = y.0.3.0 in let at : Ptr = d.at in let owned : Fml = part_owns at d.opened d.loan in let words = y.0.4.0 in
    let Post : Val → SProp 𝓤 = (walk_of 𝓛 F.ended stays clauses).post y in let Runs : List Val → SProp 𝓤 = λ vs. WpFn 𝓤 𝓛.H 𝓣.C 𝓣.Λ code.function (vs ++ []) Post in
    qed 𝓛 ((‵ ftrue ⊛ ‵ (fsep (From.own_val d words) ftrue)) ∷ raw (emp 𝓤) ∷ []) ∵ split ! $ move ! (1 ∷ []) $ fsplit ! $
    opened ! at owned words (λ is_word.
    suffices ! (Runs (word at ∷ [])) (subst (λ vs. ent 𝓤 (Runs (word at ∷ [])) (Runs vs)) (sym is_word) (id⊢ 𝓤 _)) $
    enter ! _ _ _ _ _ $ alloc_all ! (λ locals. pass_all ! refl (word_fits at, tt) $
    sets ! (of_opd ! (get_in ! (fld ! refl (stop !)) (sub ! 0 refl (whole !)))) refl (address_fits at) $ sets ! (of_opd ! (get ! refl)) refl (address_fits at) $
    sets ! (agg ! (and_then ! (get ! refl) (no_more !))) refl (word_fits at) $ returns ! (look_at ! 0 refl) $ free_all ! refl $
    made ! at owned $ keep ! (0 ∷ []) $
    suffices ! _ (ends_at 𝓛 F.ended stays clauses y (word at) (record { at = at; opened = Some d.opened; loan = d.loan }) (tt, tt) (tt, tt)) $ says ! (refl, refl) $
    nothing ! $ nothing ! $ fjoin ! $ join ! $ nothing ! $ join ! $ done !)))
