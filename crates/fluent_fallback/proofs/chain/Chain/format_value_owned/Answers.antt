use Rattle.fluent_fallback.proofs.First.{owned}
use Rattle.fluent_fallback.proofs.chain.Chain.format_value_owned.Goals as goal

pub returns-in-Ok : goal.returns-in-Ok
returns-in-Ok g c = record {
  within = λ few. owned _ _ _ _ _ _ (c.in-Ok.ensures.text.within few) c.into_owned.ensures.ok;
  whole = owned _ _ _ _ _ _ c.in-Ok.ensures.text.whole c.into_owned.ensures.ok;
  prefix = c.in-Ok.ensures.text.prefix;
}
