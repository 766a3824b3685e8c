-- A null address owns nothing.
use Rattle.std.proofs.Common.{[], ◌∷◌, refl}
use base.Logic.{emp}
use types.Kit.{raw, ◌$◌, ◌∵◌, !, qed, keep, join, suffices, done}
use types.Part.{agg}
use types.Run.{enter, lit, no_more, and_then, returns}
use types.ByLocal.{alloc_all, pass_all, free_all, look_at, sets}
use denote.RawPtr.{null_ptr}
use denote.Steps.{nothing}
use denote.Triple.Entry.{on_entry}
use denote.Triple.Walked.{says, Stays, walk_of, ends_at}
use Rattle.std.{proofs.raw_atomic.Walks.{proved}, specs.Prelude.{None}}
use Rattle.sefunjaro_c.{specs.Handles.{owned_at}, proofs.{Addresses.{made, word, word_fits}, handle.Held.nothing.Statement.{statement}}}
use Rattle.sefunjaro_c.specs.contracts.handle.Held.nothing as F
use Rattle.sefunjaro_c.proofs.handle.Held.nothing.Code as code

abbrev stays : Stays F.ended.signature.params F.ended.kept
stays = tt

pub nothing_spec : {M : Type 1} → statement M
nothing_spec 𝓤 𝓛 𝓜 𝓡 wired =
    let clauses = F.clauses 𝓛 𝓜.mem 𝓡.returns in
    proved 𝓛 F.ended stays clauses 𝓜 𝓡 tt F.Key.name code.function (code.unfolded 𝓤 𝓛.H 𝓜 𝓡 wired) (λ κs. tt) (λ κs. tt) (λ κs qs bounds given asked are.
    let y : (walk_of 𝓛 F.ended stays clauses).Ghost = ((κs, qs, bounds, given, tt), tt) in
    qed 𝓛 (raw (on_entry 𝓛 F.signature κs qs given tt) ∷ raw (emp 𝓤) ∷ []) ∵
    enter ! _ _ _ _ _ $ alloc_all ! (λ locals. pass_all ! refl tt $
    sets ! (agg ! (and_then ! (lit ! tt) (no_more !))) refl (word_fits null_ptr) $ returns ! (look_at ! 0 refl) $ free_all ! refl $ keep ! [] $
    nothing ! $ made ! null_ptr (owned_at null_ptr None) $
    suffices ! _ (ends_at 𝓛 F.ended stays clauses y (word null_ptr) (record { at = null_ptr; opened = None }) tt tt) $ says ! refl $
    nothing ! $ join ! $ nothing ! $ join ! $ done !))
