-- What reads holds one address. It is read through the `&`, and the value that is lent there is seen for as long as the `&` lasts.
use Rattle.std.proofs.Common.{◌≡◌, ℕ, List, [], ◌∷◌, ◌++◌, refl, sym, ap, ◌∙◌}
use mir.Syntax.{Body, named, place, assign, rv_opd, copy, seq, return}
use mir.Val.{Val, vptr, vstruct, vcons, vnil, of_list}
use base.Logic.{SProp, emp}
use base.Fml.{Fml, Lft, ftrue, flft, fhide}
use contract.Monad.{fact}
use contract.Running.{tables}
use types.Kit.{‵, raw, ◌⊛◌, at_ret, ◌$◌, ◌∵◌, !, qed, move, keep, use1, split, join, fsplit, fjoin, feq_i, rewrite, suffices, done}
use types.Run.{stop, fld, hop, addr, of_opd, first, blocks, exec, returns, enter}
use types.Part.{look_in, sub, whole}
use types.ByLocal.{alloc_all, pass_all, free_all, look_at, get, through, sets, sets_last, env}
use denote.Exit.{yes}
use denote.RattleType.{RattleType, owns}
use denote.Memory.{cell_at, hidden_shr}
use denote.Laws.{Is, shows}
use denote.Builtin.{RefOf}
use denote.Signature.{types_at, plain}
use denote.Steps.{nothing, peeks, looks, shuts, heard}
use denote.Opens.{hide, unhide}
use denote.RawPtr.{Ptr, InBlock, block_of, count_of, at_block}
use denote.Ref.{shr_vals, shr_Tells}
use denote.Copied.{Struct-Copied}
use denote.Struct.Struct.{Struct}
use denote.Struct.Laws.{RawPtr-copy}
use denote.Struct.Owning.{shape}
use denote.Struct.Lending.{in_block_says, lent_out}
use denote.Triple.Walked.{says, Stays, stay_dropped, walk_of, ends_at, Goes-dropped}
use Rattle.std.proofs.raw_atomic.Walks.{proved}
use Rattle.sefunjaro_c.proofs.{Addresses.{word}, view.Reading.get.Statement.{statement}}
use Rattle.sefunjaro_c.specs.contracts.view.Reading as C
use Rattle.sefunjaro_c.specs.contracts.view.Reading.get as F
use Rattle.sefunjaro_c.proofs.view.Reading.get.Code as code

-- the struct of one address that memory has
abbrev One : RattleType
One = Struct (shape C.the_type)

abbrev stays : Stays F.ended.signature.params F.ended.kept
stays = (stay_dropped (RefOf (0 ∷ []) tt (plain (λ _. C.the_row)) (λ _. tt)) yes, tt)

-- the code from the address on: it is the answer
abbrev answered : Body
answered = seq (assign (place 0 []) (rv_opd (copy (place 2 [])))) return

-- the machine value of that struct is the address
its_word : (at : Ptr) (values : List Val) → Is One (at, tt) values → values ≡ word at ∷ []
its_word at values is = is.1.0 ∙ ap (λ (fields : List Val). vstruct (of_list (fields ++ [])) ∷ []) is.1.1.0

pub get_spec : {M : Type 1} → statement M
get_spec {M} 𝓤 𝓛 𝓜 𝓡 wired =
    let clauses = F.clauses 𝓛 𝓜.mem 𝓡.returns in let 𝓣 = tables 𝓤 𝓛.H 𝓜 𝓡 𝓡.env in
    let goes = Goes-dropped 𝓛 1 (RefOf (0 ∷ []) tt (plain (λ _. C.the_row)) (λ _. tt)) yes (λ κs x f. refl) in
    proved 𝓛 F.ended stays clauses 𝓜 𝓡 (goes, tt) F.Key.name code.function
    (code.unfolded 𝓤 𝓛.H 𝓜 𝓡 wired) (λ κs. (shr_vals, tt)) (λ κs. (shr_Tells (named 0) κs.0 C.the_row, tt)) (λ κs qs bounds asked ghosts are.
    let life : Lft = κs.0 in let reading : C.the_row.Denot = asked.0.now in
    let block : ℕ = asked.0.ref_ptr.0 in let offset : ℕ = asked.0.ref_ptr.1 in
    let at : Ptr = reading.at in let lent_block : ℕ = block_of at in let lent_offset : ℕ = count_of at in
    let y : (walk_of 𝓛 F.ended stays clauses).Ghost = ((κs, qs, bounds, asked, (vptr block offset ∷ [], tt)), ghosts) in
    let Post : Val → SProp 𝓤 = (walk_of 𝓛 F.ended stays clauses).post y in
    let lent : Fml = C.the_lent reading at life in
    qed 𝓛 (((‵ (flft life qs.0) ⊛ ‵ ftrue) ⊛ ‵ (owns (types_at F.ended.signature.params κs) asked y.0.4)) ∷ raw (emp 𝓤) ∷ []) ∵
    split ! $ split ! $ move ! (2 ∷ []) $ fsplit ! $ fsplit ! $ keep ! (1 ∷ 3 ∷ 4 ∷ []) $
    enter ! 𝓣.C 𝓣.Λ code.function (vptr block offset ∷ []) Post $ alloc_all ! (λ locals. pass_all ! refl ((tt, tt), tt) $
    -- what the `&` has: the fields of the struct, and what is lent at the address, which is that of a block
    use1 𝓛 (‵ (hidden_shr One life (at, tt) block offset) ⊛ ‵ (fhide lent)) (lent_out 𝓛 C.struct C.the_codes C.the_heap C.the_lent life reading block offset) $
    split ! $ move ! (1 ∷ []) $ unhide ! $ fsplit ! $ use1 𝓛 (raw (fact 𝓤 (InBlock at))) (in_block_says 𝓛 at) $ heard ! (InBlock at) (λ in_block. hide ! $
    move ! (1 ∷ 2 ∷ []) $
    -- the fields are looked at, and shut again once the address is read
    looks ! tt One ((Struct-Copied 𝓛 (shape C.the_type) (refl, tt) (RawPtr-copy.copied M 𝓤 𝓛, tt)).opens) (at, tt) block offset (λ share values.
    move ! (1 ∷ []) $ peeks ! One (Is One) (shows 𝓛 One) (at, tt) values (λ is.
    let is_word : values ≡ vstruct (vcons (vptr lent_block lent_offset) vnil) ∷ [] =
    its_word at values is ∙ ap (λ (pointer : Ptr). word pointer ∷ []) (at_block at in_block) in
    rewrite ! 1 (λ (us : List Val). ‵ (cell_at share One.mir us block offset)) is_word refl $
    first ! $ blocks ! $ sets_last ! (addr ! (through ! refl (fld ! refl (hop ! (look_in ! 1 (sub ! 0 refl (whole !))) (stop !))))) refl (tt, tt) $
    exec ! 𝓣.C 𝓣.Λ (env code.function.locals locals) answered (at_ret (env code.function.locals locals) Post) $
    sets ! (of_opd ! (get ! refl)) refl (tt, tt) $
    rewrite ! 1 (λ (us : List Val). ‵ (cell_at share One.mir us block offset)) (sym is_word) refl $
    move ! (1 ∷ 0 ∷ 2 ∷ []) $ shuts ! tt One share (at, tt) values block offset $
    returns ! (look_at ! 0 refl) $ free_all ! refl $ keep ! (2 ∷ 0 ∷ 3 ∷ []) $
    suffices ! _ (ends_at 𝓛 F.ended stays clauses y (vptr lent_block lent_offset) (record { ref_ptr = (lent_block, lent_offset); now = reading.opened }) (tt, tt) (tt, tt)) $
    says ! refl $ feq_i ! (List Val) (vptr lent_block lent_offset ∷ []) (vptr lent_block lent_offset ∷ []) refl $
    fjoin ! $ nothing ! $ nothing ! $ fjoin ! $ join ! $ move ! (1 ∷ 2 ∷ []) $ join ! $ join ! $ done !)))))
