-- Std gives the address of what is in a box, and the struct takes it.
use Rattle.std.proofs.Common.{List, [], ◌∷◌, ◌++◌, refl, sym, ap, subst}
use mir.Syntax.{Args, a_type, dcons, dnil}
use mir.MapTy.{inst_fn}
use mir.Val.{Val}
use base.Logic.{SProp, ent, emp, id⊢}
use base.Fraction.{full_share}
use base.Fml.{ftrue, fsep, flft}
use prog.Wp.{WpFn}
use contract.Monad.{fact, fact_i}
use contract.BorrowLft.{◌⊑◌, ⊑_refl}
use contract.Running.{tables}
use types.Kit.{‵, raw, ◌⊛◌, some, later, ◌$◌, ◌∵◌, !, qed, move, drop, use0, use1, join, split, pick, fsplit, fjoin, feq_l, suffices, await, done}
use types.Part.{agg}
use types.Run.{of_opd, no_more, and_then, returns, enter}
use types.ByLocal.{alloc_all, pass_all, free_all, look_at, get, sets, lands_as}
use denote.RattleType.{RattleType}
use denote.Builtin.{RawPtr}
use denote.RawPtr.{Ptr}
use denote.Exit.{no}
use denote.Param.{param, bounded}
use denote.Param.NoDrop.{glues}
use denote.Signature.{plain}
use denote.Steps.{nothing, only}
use denote.Triple.Call.{calls_at}
use denote.Triple.Clauses.{Lasts, lasts}
use denote.Triple.Spec.{triple_of}
use denote.Triple.Table.{framed}
use denote.Triple.Walked.{says, Stays, stay_dropped, walk_of, ends_at}
use Rattle.std.{proofs.alloc.Calls.{Al, Goes-blank}, proofs.raw_atomic.Walks.{proved_at}, proofs.BoxSteps.Steps.{box_out, box_in}, proofs.impls.GlobalAllocator.TheImpl.Met.{passed}, specs.Box.Ownership.{box_owns}, proofs.boxed.Box.into_raw.Met.{met}}
use Rattle.std.proofs.BoxSteps.Form as box
use Rattle.std.specs.contracts.alloc.Global as Global
use Rattle.std.specs.contracts.boxed.Box as Box
use Rattle.std.specs.contracts.boxed.Box.into_raw as given_out
use Rattle.sefunjaro_c.{specs.{Heap.{token}, contracts.handle.Unboxed.of.Key.{name as #self}}, proofs.{Destruct++none.drop.Code.{code as nothing_dropped}, Addresses.{address_fits, from_heap, made, no_drop, word, word_fits}, handle.Unboxed.of.Statement.{statement}}}
use Rattle.sefunjaro_c.specs.contracts.handle.Unboxed.of as F
use Rattle.sefunjaro_c.proofs.handle.Unboxed.of.Code as code

pub of_spec : {M : Type 1} → statement M
unfolding nothing_dropped
of_spec 𝓤 𝓛 𝓜 𝓡 wired Row laws dropped glued =
    let heap : Al = from_heap in
    let E : box.Bx = record { row = Row; laws = laws; al = heap } in
    let Boxed : RattleType = Box.the_row (param 0 Row) Global.the_row heap.g in let Value : RattleType = param 0 Row in
    let End = F.ended Row dropped in let clauses = F.clauses Row dropped 𝓛 𝓜.mem 𝓡.returns in let 𝓣 = tables 𝓤 𝓛.H 𝓜 𝓡 𝓡.env in
    let passed_on : Args = bounded (a_type ∷ []) (Row, tt) (dcons dropped dnil) in let body = inst_fn passed_on code.function in
    let stays : Stays End.signature.params End.kept = (stay_dropped (plain (λ _. Boxed)) no, tt) in
    proved_at 𝓛 End stays clauses 𝓜 𝓡 (Goes-blank 𝓛 1 (plain (λ _. Boxed)) no (λ κs x f. tt), tt) (#self passed_on) body (code.unfolded 𝓤 𝓛.H 𝓜 𝓡 wired (Row, tt) dropped) (λ y are.
    let κ = y.0.0.0 in let q = y.0.1.0 in let v = y.0.3.0 in let words = y.0.4.0 in let Post : Val → SProp 𝓤 = (walk_of 𝓛 End stays clauses).post y in
    let Given = given_out.ended Row heap.row heap.g heap.d heap.drops dropped in let lives = κ ⊑ Row.lives in let forever = [] ⊑ heap.row.lives in let lasting : forever = ⊑_refl [] in
    let G = triple_of 𝓛 (given_out.signature Row heap.row heap.g heap.d heap.drops dropped) (given_out.spec Row heap.row heap.g heap.d heap.drops dropped 𝓛 𝓜.mem 𝓡.returns) in
    qed 𝓛 (((‵ (flft κ q) ⊛ ‵ ftrue) ⊛ ‵ (fsep (Boxed.own_val v words) ftrue)) ∷ (raw (fact 𝓤 lives) ⊛ ‵ ftrue) ∷ []) ∵
    split ! $ split ! $ move ! (2 ∷ 0 ∷ []) $ fsplit ! $ box_out E ! v words (λ b o h at is_word fits. box_in E ! v b o v.value at refl $
    let boxed : Val = box.word E h b o in let typed = box.box_typed E h b o fits in
    let asks : G.Ghost = (((κ, ([], tt)), (q, (full_share, tt)), tt, (v, tt), (boxed ∷ [], tt)), tt) in
    -- [the box; nothing; the token; nothing; that the type outlives it]
    fjoin ! $ move ! (1 ∷ []) $ use0 𝓛 (‵ (flft [] full_share)) (𝓛.lfts.lft-nil full_share) $
    move ! (0 ∷ 3 ∷ []) $ join ! $ move ! (1 ∷ 0 ∷ []) $ join ! $ join ! $
    move ! (1 ∷ []) $ split ! $ move ! (1 ∷ []) $ use0 𝓛 (raw (fact 𝓤 forever)) (fact_i 𝓤 forever (emp 𝓤) lasting) $ join ! $ move ! (1 ∷ 0 ∷ []) $ join ! $
    move ! (1 ∷ 0 ∷ []) $ join ! $ use1 𝓛 (raw (G.pre asks)) (id⊢ 𝓤 _) $
    suffices ! (WpFn 𝓤 𝓛.H 𝓣.C 𝓣.Λ body (boxed ∷ []) Post) (subst (λ (us : List Val). ent 𝓤 (WpFn 𝓤 𝓛.H 𝓣.C 𝓣.Λ body (boxed ∷ []) Post) (WpFn 𝓤 𝓛.H 𝓣.C 𝓣.Λ body (us ++ []) Post)) (sym is_word) (id⊢ 𝓤 _)) $
    enter ! _ _ _ _ _ $ alloc_all ! (λ locals. pass_all ! refl (typed, tt) $ sets ! (of_opd ! (get ! refl)) refl typed $
    calls_at ! (framed 𝓤 𝓛.H 𝓜 𝓣) G
    (met 𝓤 𝓛 𝓜 𝓡 (code.calls-std_alloc::boxed::Box::into_raw 𝓡.env wired) Row heap.row laws heap.laws heap.g heap.d heap.drops dropped
    (passed 𝓡.env (code.calls-std_heap::GlobalAllocator::allocate 𝓡.env wired) (code.calls-std_heap::GlobalAllocator::deallocate 𝓡.env wired) (code.calls-std_heap::GlobalAllocator::grow 𝓡.env wired) (code.calls-std_heap::GlobalAllocator::shrink 𝓡.env wired) _ 𝓤 𝓛 𝓜 𝓡)
    (glues no_drop 𝓡.env (code.calls-sefunjaro_c::Destruct++none::drop 𝓡.env wired) heap.row heap.laws _ 𝓤 𝓛 𝓜 𝓡) glued)
    asks (and_then ! (get ! refl) (no_more !)) (λ u.
    use1 𝓛 (later (some (λ (at : Ptr). ((‵ (flft κ q) ⊛ ‵ (flft [] full_share) ⊛ ‵ ftrue) ⊛ ‵ (RawPtr.own_val at (u ∷ []))) ⊛
    some (λ (ends : Lasts Given (κ, ([], tt)) (v, tt)). ‵ (lasts Given (κ, ([], tt)) (v, tt) ends) ⊛ ‵ (box_owns token Value at v.value))))) (id⊢ 𝓤 _) $
    await ! tt $ pick ! (λ at'. split ! $ split ! $ move ! (1 ∷ []) $ feq_l ! (λ is_address. move ! (1 ∷ []) $ pick ! (λ ends. split ! $ drop ! $
    -- [what lies at the address; the tokens]
    lands_as ! (ap only is_address) refl (address_fits at') $ sets ! (agg ! (and_then ! (get ! refl) (no_more !))) refl (word_fits at') $
    returns ! (look_at ! 0 refl) $ free_all ! refl $
    made ! at' (box_owns token Value at' v.value) $ move ! (1 ∷ []) $ split ! $ move ! (1 ∷ []) $ drop ! $
    suffices ! _ (ends_at 𝓛 End stays clauses y (word at') (record { address = at'; value = v.value }) (tt, tt) (tt, tt)) $ says ! refl $
    nothing ! $ move ! (1 ∷ 0 ∷ []) $ join ! $ nothing ! $ nothing ! $ fjoin ! $ move ! (0 ∷ 2 ∷ []) $ join ! $ move ! (1 ∷ 0 ∷ []) $ join ! $ done !)))))))
