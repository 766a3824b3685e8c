use Rattle.std.{proofs.Common.{◌≡◌, ℕ, List, refl, ap, ◌∙◌}, proofs.lemmas.Result.{err_from_is_err_and}, specs.Prelude.{Option, Some, None, Err, IfSome, codes}}
use Rattle.zone_command.specs.Ends.{file_of}
use Rattle.zone_command.proofs.find.source_file.Goals as goal

-- want of memory is no failure
pub returns-in_err-from_str-in-Some-clause-unnamed : goal.returns-in_err-from_str-in-Some-clause-unnamed
returns-in_err-from_str-in-Some-clause-unnamed g c =
    let p = err_from_is_err_and c.from_residual.result c.from_residual.ensures.1 in
    λ h. cc (p.1, p.2, h)

pub returns-in_err-from_str-in-Some-clause-failed : goal.returns-in_err-from_str-in-Some-clause-failed
returns-in_err-from_str-in-Some-clause-failed g c =
    let p = err_from_is_err_and c.from_residual.result c.from_residual.ensures.1 in
    λ h. cc (p.1, p.2, h)

pub returns-in_err-from_str-in-None-clause-failed : goal.returns-in_err-from_str-in-None-clause-failed
returns-in_err-from_str-in-None-clause-failed g c =
    let p = err_from_is_err_and c.from_residual-in_err-from_str-in-None.result c.from_residual-in_err-from_str-in-None.ensures.1 in
    λ h. cc (p.1, p.2, h)

pub returns-in_err-value-in-None-clause-failed : goal.returns-in_err-value-in-None-clause-failed
returns-in_err-value-in-None-clause-failed g c =
    let p = err_from_is_err_and c.from_residual-in_err-value-in-None.result c.from_residual-in_err-value-in-None.ensures.1 in
    λ h. c.in_err-value-in-None.ensures.failed (ap Err (cc (p.1, p.2, h)))

pub returns-in_ok-from_str-in-Some-clause-ok : goal.returns-in_ok-from_str-in-Some-clause-ok
returns-in_ok-from_str-in-Some-clause-ok g c = rw c.in-Some.is (c.in_ok-from_str-in-Some.ensures.ok, refl)

-- the file of what the variable is told as
unnamed : (told : Option (List ℕ → Option (List ℕ))) (key file name : List ℕ) (value : Option (List ℕ)) → IfSome told (λ tells. value ≡ tells key)
    → file ≡ name → name ≡ file_of value → IfSome told (λ tells. file ≡ file_of (tells key))
unnamed None key file name value has is of = tt
unnamed (Some tells) key file name value has is of = is ∙ of ∙ ap file_of has

pub returns-in_ok-from_str-in-None-clause-ok : goal.returns-in_ok-from_str-in-None-clause-ok
returns-in_ok-from_str-in-None-clause-ok g c =
    rw c.in-None.is (unnamed (g.V.Environment.told c.args.environment.now) (codes "SEFUNJARO_TZDATA") _ c.file_of.result.now _
    c.in_ok-value-in-None.ensures.value c.in_ok-from_str-in-None.ensures.ok c.file_of.ensures)
