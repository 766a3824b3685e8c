-- Memory that runs out where a failure is told.
use Rattle.std.{proofs.Common.{◌≡◌, inl, inr, refl, Bool, true, false, List, ℕ, ℤ, Option, Some, None, Ok, Err}, specs.Prelude.{IfSome, MatchOption}}
use Rattle.zone_command.specs.{Bare.{bare}, Due.{Answers, Makings}, Ends.{InSeen, failed, IsBare, IsCause, IsFound, IsFoundOver, IsOver, IsOverAt, IsShort, ClockFailed, EnvironmentFailed}, Failures.{Failure, no_memory}, Times.{asks_now}}
use Rattle.zone_outside.specs.Seen.{ShelfSeen}
use Rattle.zone_words.specs.{Faults.{Reading}, Tasks.{WordsAsked}}

-- over a file
over : (due : Answers) (makes : Makings) (asked : WordsAsked) (at : ℤ) (file : List ℕ) (before now : ShelfSeen) (f : Failure)
    → IsOver due makes asked at file before now (failed f) → IsOver due makes asked at file before now (failed no_memory)
over due makes asked at file before now f is = elim is [
  | inl answers ↦ inl (answers.0, tt)
  | inr serves ↦ inr (serves.0, tt)
]

over_at : (due : Answers) (makes : Makings) (asked : WordsAsked) (before now : InSeen) (f : Failure)
    → IsOverAt due makes asked before now (failed f) → IsOverAt due makes asked before now (failed no_memory)
over_at due makes asked before now f is = record {
  at = is.at;
  told = is.told;
  unasked = is.unasked;
  file = is.file;
  named = is.named;
  over = over due makes asked is.at is.file before.shelf now.shelf f is.over;
  read = is.read;
}

-- before it
whatever : {A P : Type 0} (o : Option A) → P → IfSome o (λ _. P)
whatever None p = record {}
whatever (Some x) p = p

unnamed : {A : Type 0} (P : Type 0) (o : Option A) → o ≡ None → IfSome o (λ _. P)
unnamed P None is = record {}
unnamed P (Some x) is = absurd cc

by_clock : (asked : WordsAsked) (before now : InSeen) (f : Failure) → ClockFailed asked before now (failed f) → IsShort asked before now (failed no_memory)
by_clock asked before now f is = record {
  outcome_is = refl;
  unasked = λ e. absurd (apart (asks_now asked.task) is.asks e);
  named = whatever asked.source is.environment;
  shelf = is.shelf;
}
  where
    apart : (b : Bool) → b ≡ true → b ≡ false → ⊥
    apart b is other = absurd cc

by_environment : (asked : WordsAsked) (before now : InSeen) (f : Failure) → EnvironmentFailed asked before now (failed f)
    → IsShort asked before now (failed no_memory)
by_environment asked before now f is = record {
  outcome_is = refl;
  unasked = is.unasked;
  named = unnamed _ asked.source is.unnamed;
  shelf = is.shelf;
}

found_over : (due : Answers) (makes : Makings) (asked : WordsAsked) (before now : InSeen) (f : Failure)
    → IsFoundOver due makes asked before now (failed f) → IsFoundOver due makes asked before now (failed no_memory)
found_over due makes asked before now f is = elim is [
  | inl over ↦ inl (over_at due makes asked before now f over)
  | inr other ↦ elim other [
    | inl clock ↦ inr (inr (inr (by_clock asked before now f clock)))
    | inr more ↦ elim more [
      | inl environment ↦ inr (inr (inr (by_environment asked before now f environment)))
      | inr short ↦ inr (inr (inr (record { outcome_is = refl; unasked = short.unasked; named = short.named; shelf = short.shelf })))
    ]
  ]
]

found : (due : Answers) (makes : Makings) (asked : WordsAsked) (before now : InSeen) (f : Failure)
    → IsFound due makes asked before now (failed f) → IsFound due makes asked before now (failed no_memory)
found due makes asked before now f is = by_text (bare asked.task) is
  where
    by_text : (text : Option (List ℕ)) → MatchOption text (IsFoundOver due makes asked before now (failed f)) (λ t. IsBare t before now (failed f))
        → MatchOption text (IsFoundOver due makes asked before now (failed no_memory)) (λ t. IsBare t before now (failed no_memory))
    by_text None over = found_over due makes asked before now f over
    by_text (Some text) told = (inr refl, told.1)

-- want of memory has the cause that the failure had, which wasn't told
pub short : (due : Answers) (makes : Makings) (read : Reading WordsAsked) (before now : InSeen) (f : Failure)
    → IsCause due makes read before now (failed f) → IsCause due makes read before now (failed no_memory)
short due makes (Ok asked) before now f is = elim is [
  | inl over ↦ inl (found due makes asked before now f over)
  | inr other ↦ elim other [
    | inl refused ↦ inr (inr (refl, refused.1))
    | inr none ↦ inr (inr (refl, none.1))
  ]
]
short due makes (Err fault) before now f is = elim is [
  | inl over ↦ absurd over
  | inr other ↦ elim other [
    | inl refused ↦ inr (inr (refl, refused.1))
    | inr none ↦ inr (inr (refl, none.1))
  ]
]
