-- What is refused, and what is opened.
use Rattle.std.{proofs.Common.{◌≡◌, ◌<◌, ◌≤◌, ℕ, true, false, cond, List, length, inl, inr, refl, sym, ap, ◌∙◌, subst, arith}, proofs.lemmas.Bool.{lt-ltb, le-ltb}, specs.Prelude.{Option, Some, None, option_map}, specs.Str.{is_utf8}}
use Rattle.zone_source.specs.{Faults.{SourceFault, source_fault}, Told.{told_by_source}}
use Rattle.zone_source.specs.Faults as source
use Rattle.zone_table.specs.declared.table.Table.{Table}
use Rattle.tz_lookup.specs.{Compiles.{compiled_in, IsZoneFault}, declared.compile.ZoneFault.{ZoneFault}, Databases.{refusal_of, zone_refusal}}
use Rattle.tz_lookup.specs.declared.compile.ZoneFault.TheVariants as zone
use Rattle.sefunjaro.specs.{Faults.{IsOpenFault}, declared.source.OpenFault.{OpenFault}, declared.source.OpenSource.{OpenSource}, declared.zone.OpenZone.{OpenZone}}
use Rattle.sefunjaro.specs.declared.source.OpenFault.TheVariants as opening
use Rattle.sefunjaro_c.specs.{Held.{IsSource, IsZone}, Statuses.{not_text, too_long}, declared.opened.Opened.{Opened}, declared.opened.Opened.TheVariants.{Source, Zone}, Faults.{fault_told, told_or_memory, opening_told, zone_told, plain, source_due, zone_due, IsRefused}}

pub told_positive : (fault : SourceFault) → 0 < (fault_told fault).status
told_positive (source.not_text n) = omega arith
told_positive (source.bad_line n fault) = omega arith
told_positive (source.bad_join n kind) = omega arith

-- a text that isn't too long
short_due : (text : List ℕ) (found : Option SourceFault) → length text ≤ 16777216 → source_fault text ≡ found
    → source_due text ≡ option_map fault_told found
unfolding source_due
short_due text found h e =
    ap (λ b. cond b (Some (plain too_long)) (option_map fault_told (source_fault text))) (le-ltb 16777216 (length text) h)
    ∙ ap (option_map fault_told) e

pub none_due : (text : List ℕ) → length text ≤ 16777216 → source_fault text ≡ None → source_due text ≡ None
none_due text h e = short_due text None h e

told_refused : (text : List ℕ) (found : Option SourceFault) → length text ≤ 16777216 → source_fault text ≡ found
    → IsRefused (source_due text) (told_or_memory found)
told_refused text None h e = record { told = inl refl; refused = omega arith }
told_refused text (Some fault) h e = record { told = inr (short_due text (Some fault) h e); refused = told_positive fault }

pub source_refused : (text : List ℕ) (fault : OpenFault) → IsOpenFault text fault → IsRefused (source_due text) (opening_told fault)
unfolding source_due
source_refused text opening.TooLong h = record {
  told = inr (ap (λ b. cond b (Some (plain too_long)) (option_map fault_told (source_fault text))) (lt-ltb 16777216 (length text) h));
  refused = omega arith;
}
source_refused text (opening.Source error) h = told_refused text (told_by_source error) h.0 h.1.first
source_refused text opening.NoMemory h = record { told = inl refl; refused = omega arith }

-- a name that is text
text_due : (table : Table) (name : List ℕ) (fault : ZoneFault) → is_utf8 name ≡ true → refusal_of (compiled_in table name) ≡ Some fault
    → zone_due table name ≡ Some (zone_told fault)
unfolding zone_due zone_refusal
text_due table name fault h e =
    ap (λ b. cond b (option_map zone_told (refusal_of (compiled_in table name))) (Some (plain not_text))) h ∙ ap (option_map zone_told) e

pub zone_refused : (table : Table) (name : List ℕ) (fault : ZoneFault) → is_utf8 name ≡ true → IsZoneFault (compiled_in table name) fault
    → IsRefused (zone_due table name) (zone_told fault)
zone_refused table name zone.UnknownZone h e = record { told = inr (text_due table name zone.UnknownZone h (ap refusal_of e)); refused = omega arith }
zone_refused table name (zone.Schedule fault) h e =
    record { told = inr (text_due table name (zone.Schedule fault) h (ap refusal_of e.0)); refused = omega arith }
zone_refused table name zone.OffsetRange h e = record {
  told = inr (text_due table name zone.OffsetRange h (ap refusal_of e.is_found ∙ ap (λ b. cond b None (Some zone.OffsetRange)) e.far));
  refused = omega arith;
}
zone_refused table name zone.NoMemory h e = record { told = inl refl; refused = omega arith }

pub no_text : (table : Table) (name : List ℕ) → is_utf8 name ≡ false → IsRefused (zone_due table name) (plain not_text)
unfolding zone_due
no_text table name h = record {
  told = inr (ap (λ b. cond b (option_map zone_told (zone_refusal table name)) (Some (plain not_text))) h);
  refused = omega arith;
}

-- what is held is the source with that property
pub held_source : (P : OpenSource → Type 0) (source : OpenSource) (opened : Opened) → P source → IsSource (λ held. held ≡ source) opened
    → IsSource P opened
held_source P source (Source held) p e = subst P (sym e) p
held_source P source (Zone shared) p e = absurd e

pub held_zone : (P : OpenZone → Type 0) (zone : OpenZone) (opened : Opened) → P zone → IsZone (λ held. held ≡ zone) opened → IsZone P opened
held_zone P zone (Zone shared) p e = subst P (sym e) p
held_zone P zone (Source held) p e = absurd e
