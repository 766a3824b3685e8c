use Rattle.std.{proofs.Common.{◌≡◌, ℕ, List, true, false, cond, sym, ap, ◌∙◌}, specs.Prelude.{None}, specs.Str.{is_utf8}}
use Rattle.civil_base.specs.LocalTimes.{local_time_in}
use Rattle.sefunjaro_c.specs.Read.{local_in}
use Rattle.sefunjaro_c.proofs.zones.local_in.Goals as goal

has_local : (text : List ℕ) → is_utf8 text ≡ true → local_in text ≡ local_time_in text
unfolding local_in
has_local text h = ap (λ b. cond b (local_time_in text) None) h

no_local : (text : List ℕ) → is_utf8 text ≡ false → local_in text ≡ None
unfolding local_in
no_local text h = ap (λ b. cond b (local_time_in text) None) h

pub returns-in-Some : goal.returns-in-Some
returns-in-Some c =
    let text = c.in-Some.ensures.text in
    c.read_local.ensures.value ∙ ap local_time_in text.0 ∙ sym (has_local c.args.text.now text.1)

pub returns-in-None : goal.returns-in-None
returns-in-None c = sym (no_local c.args.text.now c.in-None.ensures.none)
