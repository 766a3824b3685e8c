-- What C owes for a call that reads can be had from what `open` gave it: the value is lent, the loan is cut into parts, one for
-- each call that runs, the parts are one loan again, and once it is ended what `close` asks for is there again.
use Rattle.std.proofs.Common.{ℕ, [], ◌∷◌}
use base.Fraction.{full_share}
use base.Logic.{ent, sep, ex}
use base.Fml.{Lft, Share, Fml, fsep, flft, flent, Incl-refl}
use base.Share
use base.Share.{halves}
use seplogic.Ra.Ura.{Ura}
use contract.BorrowLft.{⊑_static}
use types.Logic.{Logic, sem}
use types.Kit.{‵, ◌⊛◌, later, ◌$◌, ◌∵◌, !, qed, move, keep, use1, use2, split, join, fsplit, fjoin, show, await, updating, now, done}
use types.Tokens.{lft_new, lft_end, lent_back, bor_new}
use denote.RawPtr.{Ptr, lies_at}
use denote.Memory.{lone}
use denote.Struct.Lending.{lent_at, lent_at_shr_laws, Lends-lies}
use mir.Raw.{raw as bare}
use Rattle.std.specs.Box.Ownership.{box_owns}
use Rattle.sefunjaro_c.specs.{Heap.{token}, Loans.{part_owns}}
use Rattle.sefunjaro_c.specs.contracts.opened.Opened as Opened
use Rattle.sefunjaro_c.proofs.opened.Opened.TheLaws as opened_laws

-- what ends a loan: the value comes back with its end, and the right to free its block
abbrev pub rest : Ptr → Opened.the_row.Denot → Lft → Fml
rest at value life = fsep (flent life (lies_at Opened.the_row full_share at value)) (token (bare (lone Opened.the_row.mir)) at)

module _ {M : Type 1} {𝓤 : Ura M} (𝓛 : Logic 𝓤) (at : Ptr) (value : Opened.the_row.Denot) where
  pub lends : ent 𝓤 (sem 𝓛 (box_owns token Opened.the_row at value)) (𝓛.H.⇛ (ex 𝓤 (λ (a : ℕ). sep 𝓤 (sem 𝓛 (part_owns at value (a ∷ [], full_share))) (sem 𝓛 (rest at value (a ∷ []))))))
  lends = qed 𝓛 (‵ (box_owns token Opened.the_row at value) ∷ []) ∵ updating ! $ fsplit ! $
      lft_new ! tt (λ a. let life : Lft = a ∷ [] in move ! (1 ∷ []) $ bor_new ! tt life $ move ! (0 ∷ 2 ∷ []) $
      use2 𝓛 (later (‵ (lent_at Opened.the_row at value life) ⊛ ‵ (flft life full_share)))
      (Lends-lies 𝓛 Opened.the_row Opened.the_row.lives at value (opened_laws.the_row_laws.shares 𝓛 value) life ((life, full_share) ∷ []) (⊑_static life) (Incl-refl life)) $ await ! tt $ split ! $
      move ! (1 ∷ 0 ∷ []) $ fjoin ! $ move ! (1 ∷ 2 ∷ []) $ fjoin ! $ move ! (1 ∷ 0 ∷ []) $ join ! $
      now ! $ show ! (λ (z : ℕ). sep 𝓤 (sem 𝓛 (part_owns at value (z ∷ [], full_share))) (sem 𝓛 (rest at value (z ∷ [])))) a $ done !)

  pub cut : (life : Lft) (q : Share) → ent 𝓤 (sem 𝓛 (part_owns at value (life, q))) (sep 𝓤 (sem 𝓛 (part_owns at value (life, Share.left q))) (sem 𝓛 (part_owns at value (life, Share.right q))))
  cut life q = let laws = lent_at_shr_laws Opened.the_row opened_laws.the_row_laws.shr_laws at value in let L = lent_at Opened.the_row at value life in
      qed 𝓛 (‵ (part_owns at value (life, q)) ∷ []) ∵ fsplit ! $
      use1 𝓛 (‵ (flft life (Share.left q)) ⊛ ‵ (flft life (Share.right q))) (𝓛.lfts.lft_cut life q (Share.left q) (Share.right q) (halves q)) $ split ! $ move ! (2 ∷ []) $
      use1 𝓛 (‵ L ⊛ ‵ L) (laws.contraction M 𝓤 𝓛 life) $ split ! $ move ! (2 ∷ 0 ∷ []) $ fjoin ! $ move ! (2 ∷ 1 ∷ []) $ fjoin ! $ move ! (1 ∷ 0 ∷ []) $ done !

  pub joins : (life : Lft) (q : Share) → ent 𝓤 (sep 𝓤 (sem 𝓛 (part_owns at value (life, Share.left q))) (sem 𝓛 (part_owns at value (life, Share.right q)))) (sem 𝓛 (part_owns at value (life, q)))
  joins life q = qed 𝓛 (‵ (part_owns at value (life, Share.left q)) ∷ ‵ (part_owns at value (life, Share.right q)) ∷ []) ∵ fsplit ! $ move ! (2 ∷ []) $ fsplit ! $ move ! (2 ∷ 0 ∷ []) $
      use2 𝓛 (‵ (flft life q)) (𝓛.lfts.lft_glue life q (Share.left q) (Share.right q) (halves q)) $ keep ! (0 ∷ 1 ∷ []) $ fjoin ! $ done !

  pub ends : (a : ℕ) → ent 𝓤 (sep 𝓤 (sem 𝓛 (part_owns at value (a ∷ [], full_share))) (sem 𝓛 (rest at value (a ∷ [])))) (𝓛.H.⇛ (sem 𝓛 (box_owns token Opened.the_row at value)))
  ends a = qed 𝓛 (‵ (part_owns at value (a ∷ [], full_share)) ∷ ‵ (rest at value (a ∷ [])) ∷ []) ∵ updating ! $ fsplit ! $ lft_end ! tt $ move ! (2 ∷ []) $ fsplit ! $
      move ! (2 ∷ 0 ∷ []) $ lent_back ! tt $ keep ! (0 ∷ 1 ∷ []) $ fjoin ! $ now ! $ done !
