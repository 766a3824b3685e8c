use Rattle.tz_posix.proofs.RealPairLemmas.{lord_howe_agrees, lord_howe_same, lord_howe_south, lord_howe_spelled, moldova_agrees, moldova_north, moldova_same, moldova_spelled, new_york_agrees, new_york_north, new_york_same, new_york_spelled}
use Rattle.tz_posix.proofs.laws.real_pairs_agree.Goals as goal

pub returns : goal.returns
returns c = record {
  new_york_text = new_york_spelled;
  new_york_conditions = λ rulesets line d s is. (new_york_same rulesets line d s is, new_york_north rulesets line d s is);
  new_york = new_york_agrees;
  lord_howe_text = lord_howe_spelled;
  lord_howe_conditions = λ rulesets line d s is. (lord_howe_same rulesets line d s is, lord_howe_south rulesets line d s is);
  lord_howe = lord_howe_agrees;
  moldova_text = moldova_spelled;
  moldova_conditions = λ rulesets line d s is. (moldova_same rulesets line d s is, moldova_north rulesets line d s is);
  moldova = moldova_agrees;
}
