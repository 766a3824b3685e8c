use Rattle.std.{proofs.Common.{ℕ, List, ◌≡◌, ◌∙◌, sym, ap, Option, Some, None}, specs.Int.{w128, to_be_bytes}}
use Rattle.civil_items.{specs.Codes.{code, code_bytes, Decodes}, specs.declared.config.Config.{Config}, proofs.CodeLemmas.{bytes_of_code}}
use Rattle.civil_items.proofs.config.Config.decode.Goals as goal

-- the bytes of the number are those of each configuration that it stands for
same_bytes : (n : ℕ) (bytes : List ℕ) (config : Config) → code config ≡ n → bytes ≡ to_be_bytes w128 n
    → code_bytes config ≡ bytes
same_bytes n bytes config e b = sym (bytes_of_code config) ∙ ap (to_be_bytes w128) e ∙ sym b

undecoded : (n : ℕ) (answer : Option Config) → answer ≡ None
    → ((config : Config) → code config ≡ n → None ≡ Some config) → Decodes n answer
undecoded n answer e h = rw e (record { only_codes = tt; every_code = h })

pub returns-in_err-config : goal.returns-in_err-config
returns-in_err-config c = undecoded _ _ c.from_residual.ensures
    (λ config e. let found = c.config_in.ensures config (same_bytes _ _ config e c.to_be_bytes.ensures) in
    cc (found, c.in_err-config.was))

pub returns-then-encode-encoded : goal.returns-then-encode-encoded
returns-then-encode-encoded c = record {
  only_codes = sym c.encode.ensures ∙ c.if-encode-encoded.true;
  every_code = λ config e.
      let found = c.config_in.ensures config (same_bytes _ _ config e c.to_be_bytes.ensures) in
      cc (found, c.in_ok-config.was);
}

pub returns-else-encode-encoded : goal.returns-else-encode-encoded
returns-else-encode-encoded c = record {
  only_codes = tt;
  every_code = λ config e.
      let found = c.config_in.ensures config (same_bytes _ _ config e c.to_be_bytes.ensures) in
      let same : c.in_ok-config.config ≡ config = cc (found, c.in_ok-config.was) in
      absurd (c.if-encode-encoded.false (c.encode.ensures ∙ ap code same ∙ e));
}
