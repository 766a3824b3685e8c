use Rattle.std.{proofs.Common.{subst}, specs.Prelude.{MatchOption}}
use Rattle.sefunjaro_c.{specs.Read.{IsInstantOf, IsNoZonedText}, proofs.TextLemmas.{no_text}}
use Rattle.sefunjaro_c.proofs.zones.zoned_in.Goals as goal

pub returns-in-Some : goal.returns-in-Some
returns-in-Some c =
    subst (λ bytes. MatchOption c.zoned_of.result (IsNoZonedText bytes) (IsInstantOf bytes)) c.in-Some.ensures.text.0 c.zoned_of.ensures

pub returns-in-None : goal.returns-in-None
returns-in-None c = λ t o years range e. no_text c.args.text.now t o c.in-None.ensures.none e
