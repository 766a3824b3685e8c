-- A `&` to what reads has a `&` to what is lent: as long as the part of the loan is borrowed, the loan lasts.
use mathlib.Core.List.{[], ◌∷◌, ◌++◌}
use base.Logic.{sep, wand, apply∗}
use base.Before.{before}
use base.Fml.{fbor, flft}
use contract.BorrowLft.{meet_⊑_left}
use types.Logic.{sem, lfts}
use types.Kit.{‵, raw, ◌⊛◌, later, ◌$◌, ◌∵◌, !, qed, move, keep, use0, use1, use2, split, fsplit, await, updating, now, done}
use types.Na.{before-Incl, before_lent}
use types.Tokens.{bor_fracture}
use denote.Sharing.{one, said, beside}
use denote.Param.Shared.{copy_shared}
use denote.Struct.Field.{RawPtr-field}
use denote.Struct.Laws.{RawPtr-copy}
use denote.Struct.Lending.{lent_at, lent_at_shr_laws, Lends-both, of_Lends}
use Rattle.sefunjaro_c.proofs.view.Reading.TheLaw.Statement.{statement}
use Rattle.sefunjaro_c.specs.contracts.opened.Opened as Opened
use Rattle.sefunjaro_c.proofs.opened.Opened.TheLaws as opened_laws
use Rattle.sefunjaro_c.specs.contracts.view.Reading as C

pub shares : statement
shares =
    of_Lends C.struct C.the_codes C.the_heap C.the_lent
    (λ d p. lent_at_shr_laws Opened.the_row opened_laws.the_row_laws.shr_laws d.at d.opened)
    (copy_shared RawPtr-field RawPtr-copy, tt) (λ M 𝓤 𝓛 d p κ ts inc sp.
    let life = d.loan.0 in let q = d.loan.1 in let L = lent_at Opened.the_row d.at d.opened in let laws = lent_at_shr_laws Opened.the_row opened_laws.the_row_laws.shr_laws d.at d.opened in
    let P = L life in let back = 𝓛.H.⇛ (sep 𝓤 (𝓛.A.bor κ P) (lfts 𝓛 ts)) in
    qed 𝓛 (‵ (fbor κ (C.the_heap d)) ∷ raw (lfts 𝓛 ts) ∷ []) ∵ updating ! $
    use2 𝓛 (later (‵ (beside (one (λ r. flft life r)) (said P) κ) ⊛ raw (lfts 𝓛 ts)))
    (Lends-both 𝓛 (flft life q) P (one (λ r. flft life r)) (said P) C.the_row.lives
    (λ κ' ts' inc' sp'. qed 𝓛 (‵ (fbor κ' (flft life q)) ∷ raw (lfts 𝓛 ts') ∷ []) ∵ updating ! $ bor_fracture ! tt (λ r. flft life r) q $ now ! $ done !)
    (λ κ' ts' inc' sp'. qed 𝓛 (‵ (fbor κ' P) ∷ raw (lfts 𝓛 ts') ∷ []) ∵ updating ! $
    use2 𝓛 (later (‵ P ⊛ raw (wand 𝓤 (sem 𝓛 P) (𝓛.H.⇛ (sep 𝓤 (𝓛.A.bor κ' P) (lfts 𝓛 ts')))))) (𝓛.more.bor_acc_by κ' ts' P sp') $ await ! tt $ split ! $
    use1 𝓛 (‵ P ⊛ ‵ P) (laws.contraction M 𝓤 𝓛 life) $ split ! $ move ! (0 ∷ 2 ∷ []) $
    use2 𝓛 (later (‵ (fbor κ' P) ⊛ raw (lfts 𝓛 ts'))) (apply∗ 𝓤 (sem 𝓛 P) (𝓛.H.⇛ (sep 𝓤 (𝓛.A.bor κ' P) (lfts 𝓛 ts')))) $ await ! tt $ split ! $ keep ! (2 ∷ 1 ∷ []) $ now ! $ done !)
    κ ts inc sp) $ await ! tt $ split ! $ fsplit ! $
    use0 𝓛 (‵ (before (life ++ κ) life)) (before-Incl 𝓛 (life ++ κ) life (meet_⊑_left life κ)) $ move ! (1 ∷ 0 ∷ []) $
    use2 𝓛 (‵ (before κ life)) (before_lent 𝓛 κ life life) $
    use2 𝓛 (‵ (L κ)) (laws.mono M 𝓤 𝓛 κ life) $ now ! $ done !)
