-- A struct of one address: its machine value, and what it owns. Assumes `Logic`.
use Rattle.std.proofs.{Common.{◌≡◌, List, [], ◌∷◌, ◌++◌, refl, sym, subst, true, ◌&&◌, lit<}, alloc.Calls.{Al}, BoxSteps.Form.{Bx}}
use Rattle.std.specs.{contracts.impls.GlobalAllocator.TheImpl.{ghosts, dict}, Prelude.{Option, Some, None, is_some}, Box.Ownership.{box_owns}}
use Rattle.std.specs.contracts.alloc.Global as heap
use Rattle.std.proofs.alloc.Global.TheLaws as heap_laws
use Rattle.sefunjaro_c.specs.{Heap.{token}, Handles.{owned_at}, Loans.{Loan, loan_owns, part_owns}}
use Rattle.sefunjaro_c.specs.contracts.opened.Opened as Opened
use Rattle.sefunjaro_c.proofs.opened.Opened.TheLaws as opened_laws
use seplogic.Ra.Ura.{Ura}
use lib.Dec.{T}
use mir.Syntax.{Symbol, impl, tnil, tcons, dnil, ty_ptr}
use mir.Val.{Val, of_list, vstruct, vcons, vnil, has_ty, WT}
use base.Fml.{Fml, ftrue, fsep, feq, fex}
use types.Logic.{Logic}
use types.Kit.{Item, Goal, Seq, Step, step, ‵, ◌$◌, fsplit, fjoin, fpick, fpack, feq_i, feq_l, drop}
use denote.RattleType.{RattleType, Valss}
use denote.Builtin.{RawPtr}
use denote.RawPtr.{Ptr, block_ptr, null_ptr, ptr_val}
use denote.Exit.{no}
use denote.Param.{arg, layout}
use denote.Param.Laws.{arg_laws}
use mir.Raw.{raw as bare}
use denote.Steps.{nothing}

-- the one field of such a struct
abbrev pub word : Ptr → Val
word at = vstruct (vcons (ptr_val at) vnil)

-- an address fits its type, and so does the struct
pub address_fits : (at : Ptr) → T (has_ty ty_ptr (ptr_val at)) × WT (ptr_val at)
address_fits (block_ptr block offset) = (tt, tt)
address_fits null_ptr = (tt, record { fits = lit< tt })

pub word_fits : (at : Ptr) → T (has_ty ty_ptr (ptr_val at) && true) × (WT (ptr_val at) × Unit {0})
word_fits (block_ptr block offset) = (tt, (tt, tt))
word_fits null_ptr = (tt, (record { fits = lit< tt }, tt))

-- the heap has nothing to drop
abbrev pub no_drop : Symbol
no_drop = "sefunjaro_c::Destruct++none::drop"

-- the heap as calls pass it
abbrev pub the_heap : RattleType
the_heap = arg (bare (layout heap.the_row)) no heap.the_row

abbrev pub from_heap : Al
from_heap = record {
  row = the_heap;
  laws = arg_laws (bare (layout heap.the_row)) no heap.the_row heap_laws.the_row_laws refl;
  g = ghosts;
  d = dict;
  drops = impl (no_drop ∷ []) (tcons (layout the_heap) tnil) dnil;
}

-- a box of what is opened
abbrev pub a_box : Bx
a_box = record {
  row = arg (bare (layout Opened.the_row)) no Opened.the_row;
  laws = arg_laws (bare (layout Opened.the_row)) no Opened.the_row opened_laws.the_row_laws refl;
  al = from_heap;
}

-- the struct at its machine values, with what it owns besides
abbrev pub with_address : Ptr → Fml → List Val → Fml
with_address at owned words =
    fsep (fex (Valss (RawPtr ∷ [])) (λ fields. fsep (feq (List Val) words (vstruct (of_list (fields.0 ++ [])) ∷ [])) (fsep (feq (List Val) fields.0 (ptr_val at ∷ [])) ftrue))) owned

module _ {M : Type 1} {𝓤 : Ura M} {𝓛 : Logic 𝓤} {K : Type 0} {Γ : List (Item 𝓤)} {G : Goal 𝓤 𝓛.H} where
  -- such a struct is taken apart
  pub opened : K → (at : Ptr) (owned : Fml) (words : List Val) → (words ≡ word at ∷ [] → Seq K 𝓛 (‵ owned ∷ Γ) G) → Seq K 𝓛 (‵ (with_address at owned words) ∷ Γ) G
  opened k at owned words next =
      fsplit k $ fpick k (λ fields. fsplit k $ feq_l k (λ whole. fsplit k $ feq_l k (λ field. drop k $
      next (subst (λ (vs : List Val). words ≡ vstruct (of_list (vs ++ [])) ∷ []) field whole))))

  -- and made
  pub made : K → (at : Ptr) (owned : Fml) → Step K 𝓛 (‵ (with_address at owned (word at ∷ [])) ∷ Γ) G (‵ owned ∷ Γ) G
  made k at owned = step (λ rest.
      nothing k $ feq_i k (List Val) (ptr_val at ∷ []) (ptr_val at ∷ []) refl $ fjoin k $
      feq_i k (List Val) (word at ∷ []) (word at ∷ []) refl $ fjoin k $
      fpack k (Valss (RawPtr ∷ [])) (λ fields. fsep (feq (List Val) (word at ∷ []) (vstruct (of_list (fields.0 ++ [])) ∷ [])) (fsep (feq (List Val) fields.0 (ptr_val at ∷ [])) ftrue)) (ptr_val at ∷ [], tt) $
      fjoin k $ rest)

  -- what is held has an owner
  pub held_there : K → (at : Ptr) (held : Option Opened.the_row.Denot) → is_some held ≡ true
      → ((value : Opened.the_row.Denot) → held ≡ Some value → Seq K 𝓛 (‵ (box_owns token Opened.the_row at value) ∷ Γ) G)
      → Seq K 𝓛 (‵ (owned_at at held) ∷ Γ) G
  held_there k at None some next = absurd (subst T (sym some) tt)
  held_there k at (Some value) some next = next value refl

  -- and what is lent has a value
  pub lent_there : K → (at : Ptr) (held : Option Opened.the_row.Denot) (loan : Loan) → is_some held ≡ true
      → ((value : Opened.the_row.Denot) → held ≡ Some value → Seq K 𝓛 (‵ (part_owns at value loan) ∷ Γ) G)
      → Seq K 𝓛 (‵ (loan_owns at held loan) ∷ Γ) G
  lent_there k at None loan some next = absurd (subst T (sym some) tt)
  lent_there k at (Some value) loan some next = next value refl
