-- Fields of logs, and times that can't be told.
use Rattle.std.{proofs.Common.{◌≡◌, refl, map, [], ◌∷◌, Some, None, Ok, Err}, specs.Prelude.{codes}}
use Rattle.zone_words.specs.declared.answer_form.AnswerForm.TheVariants.{People, Rfc3339, Epoch, Json}
use Rattle.zone_texts.specs.declared.fault.ReplyFault.TheVariants.{OutOfYears, Skipped, Untold}
use Rattle.zone_command.specs.LogTexts.{field_of, log_form, text_of}

fields : map field_of (None ∷ Some 1 ∷ Some 4096 ∷ Some 4097 ∷ Some 65535 ∷ []) ≡ 0 ∷ 1 ∷ 4096 ∷ 4096 ∷ 4096 ∷ []
fields = refl

forms : map log_form (People ∷ Rfc3339 ∷ Epoch ∷ Json ∷ []) ≡ People ∷ Rfc3339 ∷ Epoch ∷ Rfc3339 ∷ []
forms = refl

texts : map text_of (Ok (codes "a") ∷ Err OutOfYears ∷ Err Untold ∷ Err Skipped ∷ []) ≡ Some (codes "a") ∷ None ∷ None ∷ None ∷ []
texts = refl
