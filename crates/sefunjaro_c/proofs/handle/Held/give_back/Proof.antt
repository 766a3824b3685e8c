-- What is owned at the address is what std makes a box of.
use Rattle.std.proofs.Common.{◌≡◌, List, [], ◌∷◌, ◌++◌, refl, sym, ap, ◌∙◌, subst, true}
use lib.Dec.{T}
use mir.Val.{Val, has_ty, WT}
use base.Logic.{SProp, ent, emp, id⊢}
use base.Fraction.{full_share}
use base.Fml.{ftrue, fsep, flft}
use prog.Wp.{WpFn}
use contract.Monad.{fact, fact_i}
use contract.BorrowLft.{◌⊑◌, ⊑_refl}
use contract.Running.{tables}
use types.Kit.{‵, raw, ◌⊛◌, some, later, at_ret, ◌$◌, ◌∵◌, !, qed, move, keep, drop, use0, use1, join, split, pick, rewrite, fsplit, fjoin, feq_i, suffices, await, done}
use types.Part.{whole, sub}
use types.Run.{stop, fld, no_more, and_then, of_opd, returns, enter, first, blocks, exec}
use types.ByLocal.{alloc_all, pass_all, free_all, look_at, get, get_in, sets, lands_last, env}
use denote.Exit.{yes}
use denote.RawPtr.{Ptr, ptr_val}
use denote.Signature.{plain}
use denote.Steps.{nothing, heard, only}
use denote.Param.NoDrop.{glues}
use denote.Triple.Call.{calls_at_last}
use denote.Triple.Clauses.{Lasts, lasts}
use denote.Triple.Spec.{triple_of}
use denote.Triple.Table.{framed}
use denote.Triple.Walked.{says, Stays, stay_dropped, walk_of, ends_at, Goes-dropped}
use Rattle.std.{proofs.alloc.Calls.{handle_tells}, proofs.raw_atomic.Walks.{proved_at}, proofs.BoxSteps.Steps.{box_out, box_in}, proofs.impls.GlobalAllocator.TheImpl.Met.{passed}, specs.Prelude.{Some, is_some}, proofs.boxed.Box.from_raw.Met.{met}}
use Rattle.std.proofs.BoxSteps.Form as box
use Rattle.std.specs.contracts.alloc.Global as Global
use Rattle.std.specs.contracts.boxed.Box.from_raw as boxed_again
use Rattle.sefunjaro_c.{proofs.{Destruct++none.drop.Code.{code as nothing_dropped}, Addresses.{a_box, address_fits, held_there, no_drop, opened, word, word_fits}, handle.Held.give_back.Statement.{statement}}, specs.Handles.{owned_at}}
use Rattle.sefunjaro_c.specs.contracts.handle.Held as Held
use Rattle.sefunjaro_c.specs.contracts.handle.Held.give_back as F
use Rattle.sefunjaro_c.proofs.handle.Held.give_back.Code as code

abbrev stays : Stays F.ended.signature.params F.ended.kept
stays = (stay_dropped (plain (λ _. Held.the_row)) yes, (stay_dropped (plain (λ _. Global.the_row)) yes, tt))

pub give_back_spec : {M : Type 1} → statement M
unfolding nothing_dropped
give_back_spec 𝓤 𝓛 𝓜 𝓡 wired =
    let clauses = F.clauses 𝓛 𝓜.mem 𝓡.returns in let 𝓣 = tables 𝓤 𝓛.H 𝓜 𝓡 𝓡.env in
    let E : box.Bx = a_box in let heap = E.al in
    let G = triple_of 𝓛 (boxed_again.signature E.row heap.row heap.g heap.d heap.drops) (boxed_again.spec E.row heap.row heap.g heap.d heap.drops 𝓛 𝓜.mem 𝓡.returns) in
    let forever = [] ⊑ heap.row.lives in let lasts_on = [] ⊑ E.row.lives in let Given = boxed_again.ended E.row heap.row heap.g heap.d heap.drops in
    proved_at 𝓛 F.ended stays clauses 𝓜 𝓡 (Goes-dropped 𝓛 0 (plain (λ _. Held.the_row)) yes (λ κs x f. refl), (Goes-dropped 𝓛 0 (plain (λ _. Global.the_row)) yes (λ κs x f. refl), tt))
    F.Key.name code.function (code.unfolded 𝓤 𝓛.H 𝓜 𝓡 wired) (λ y are.
    let d = y.0.3.0 in let a = y.0.3.1.0 in let at : Ptr = d.at in let words = y.0.4.0 in let handle = y.0.4.1.0 in
    let Post : Val → SProp 𝓤 = (walk_of 𝓛 F.ended stays clauses).post y in
    let Runs : List Val → List Val → SProp 𝓤 = λ vs us. WpFn 𝓤 𝓛.H 𝓣.C 𝓣.Λ code.function (vs ++ (us ++ [])) Post in
    qed 𝓛 ((‵ ftrue ⊛ ‵ (fsep (Held.the_row.own_val d words) (fsep (Global.the_row.own_val a handle) ftrue))) ∷ (raw (fact 𝓤 (is_some d.opened ≡ true))) ∷ []) ∵
    move ! (1 ∷ []) $ heard ! (is_some d.opened ≡ true) (λ some'. split ! $ drop ! $ fsplit ! $
    opened ! at (owned_at at d.opened) words (λ is_word. held_there ! at d.opened some' (λ value is_value.
    -- [what is owned; the allocator]
    move ! (1 ∷ []) $ fsplit ! $ handle_tells heap ! a handle (λ h is_handle fits.
    -- [the allocator; nothing; what is owned]
    let asks : G.Ghost = ((([], ([], tt)), (full_share, (full_share, tt)), tt, (a, (at, tt)), (h ∷ [], (ptr_val at ∷ [], tt))), value) in
    feq_i ! (List Val) (ptr_val at ∷ []) (ptr_val at ∷ []) refl $ move ! (0 ∷ 2 ∷ []) $ fjoin ! $ move ! (1 ∷ 0 ∷ []) $ fjoin ! $
    nothing ! $ use0 𝓛 (‵ (flft [] full_share)) (𝓛.lfts.lft-nil full_share) $ join ! $ use0 𝓛 (‵ (flft [] full_share)) (𝓛.lfts.lft-nil full_share) $ join ! $ join ! $
    move ! (1 ∷ []) $ use0 𝓛 (raw (fact 𝓤 forever)) (fact_i 𝓤 forever (emp 𝓤) (⊑_refl [])) $ join ! $ use0 𝓛 (raw (fact 𝓤 lasts_on)) (fact_i 𝓤 lasts_on (emp 𝓤) (⊑_refl [])) $ join ! $
    move ! (1 ∷ 0 ∷ []) $ join ! $ use1 𝓛 (raw (G.pre asks)) (id⊢ 𝓤 _) $
    suffices ! (Runs (word at ∷ []) (h ∷ [])) (subst (λ (vs : List Val × List Val). ent 𝓤 (Runs (word at ∷ []) (h ∷ [])) (Runs vs.0 vs.1)) (λ i. (sym is_word i, sym is_handle i)) (id⊢ 𝓤 _)) $
    enter ! _ _ _ _ _ $ alloc_all ! (λ locals. pass_all ! refl (word_fits at, (fits, tt)) $
    sets ! (of_opd ! (get_in ! (fld ! refl (stop !)) (sub ! 0 refl (whole !)))) refl (address_fits at) $
    first ! $ blocks ! $ sets ! (of_opd ! (get ! refl)) refl (address_fits at) $
    calls_at_last ! (framed 𝓤 𝓛.H 𝓜 𝓣) G
    (met 𝓤 𝓛 𝓜 𝓡 (code.calls-std_alloc::boxed::Box::from_raw 𝓡.env wired) E.row heap.row E.laws heap.laws heap.g heap.d heap.drops
    (passed 𝓡.env (code.calls-std_heap::GlobalAllocator::allocate 𝓡.env wired) (code.calls-std_heap::GlobalAllocator::deallocate 𝓡.env wired) (code.calls-std_heap::GlobalAllocator::grow 𝓡.env wired) (code.calls-std_heap::GlobalAllocator::shrink 𝓡.env wired) _ 𝓤 𝓛 𝓜 𝓡)
    (glues no_drop 𝓡.env (code.calls-sefunjaro_c::Destruct++none::drop 𝓡.env wired) heap.row heap.laws _ 𝓤 𝓛 𝓜 𝓡))
    asks (and_then ! (get ! refl) (and_then ! (get ! refl) (no_more !))) (λ u.
    use1 𝓛 (later (some (λ (r : box.D E). ((‵ (flft [] full_share) ⊛ ‵ (flft [] full_share) ⊛ ‵ ftrue) ⊛ ‵ ((box.B E).own_val r (u ∷ []))) ⊛
    some (λ (ends : Lasts Given ([], ([], tt)) (a, (at, tt))). ‵ (lasts Given ([], ([], tt)) (a, (at, tt)) ends) ⊛ (raw (fact 𝓤 (r.value ≡ value)) ⊛ raw (fact 𝓤 (r.alloc ≡ a))))))) (id⊢ 𝓤 _) $
    await ! tt $ pick ! (λ r. split ! $ split ! $ drop ! $ move ! (1 ∷ []) $ pick ! (λ ends. split ! $ drop ! $ split ! $ heard ! (r.value ≡ value) (λ same. drop ! $
    box_out E ! r (u ∷ []) (λ b o h' at' is_box fits'. box_in E ! r b o r.value at' refl $ rewrite ! 0 (λ (vs : List Val). ‵ ((box.B E).own_val r vs)) (sym is_box) refl $
    let typed : T (has_ty (box.box_ty E) u) × WT u = subst (λ (v : Val). T (has_ty (box.box_ty E) v) × WT v) (sym (ap only is_box)) (box.box_typed E h' b o fits') in
    lands_last ! refl typed $ exec ! 𝓣.C 𝓣.Λ (env code.Mir.locals locals) code.Mir.t-3 (at_ret _ Post) $
    sets ! (of_opd ! (get ! refl)) refl typed $ returns ! (look_at ! 0 refl) $ free_all ! refl $ keep ! (0 ∷ []) $
    suffices ! _ (ends_at 𝓛 F.ended stays clauses y u r (tt, (tt, tt)) (tt, (tt, tt))) $ says ! (is_value ∙ ap Some (sym same)) $
    nothing ! $ nothing ! $ fjoin ! $ nothing ! $ fjoin ! $ join ! $ nothing ! $ join ! $ done !)))))))))))
