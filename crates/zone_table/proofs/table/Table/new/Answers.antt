use Rattle.std.{proofs.Common.{ap, ◌∙◌}, specs.FinMap.{get, get-empty}}
use Rattle.basics.specs.Keyed.{text_cmp}
use Rattle.zone_table.proofs.table.Table.new.Goals as goal

pub returns : goal.returns
returns c = record {
  rulesets = λ name. ap (λ m. get m name) c.new.ensures ∙ get-empty text_cmp name;
  zonesets = λ name. ap (λ m. get m name) c.new-2.ensures ∙ get-empty text_cmp name;
  links = λ name. ap (λ m. get m name) c.new-3.ensures ∙ get-empty text_cmp name;
}
