use Rattle.std.proofs.Common.{inr, refl, subst, sym, arith}
use Rattle.sefunjaro.specs.{Posix.{IsPosixFault}, declared.file.PosixFault.TheVariants.{NoMemory}}
use Rattle.sefunjaro_c.specs.Files.{IsPosixRefused}
use Rattle.sefunjaro_c.proofs.files.open_posix.Goals as goal

pub returns-in-Err-zone-clause-err : goal.returns-in-Err-zone-clause-err
returns-in-Err-zone-clause-err c =
    let of_text = c.in-Ok.ensures in
    subst (IsPosixRefused c.args.text.now) (sym c.posix_fault.ensures)
    (record {
      told = inr (record {
        cause = NoMemory;
        holds = subst (λ t. IsPosixFault t NoMemory) c.in-Some.ensures.text.0 (of_text.value, of_text.is);
        told = refl;
      });
      refused = omega arith;
    })
