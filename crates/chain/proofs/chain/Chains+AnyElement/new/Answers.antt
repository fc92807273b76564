use Rattle.chain.proofs.Standing.{all_named}
use Rattle.chain.proofs.chain.Chains+AnyElement.new.Goals as goal

pub returns-clause-lists : goal.returns-clause-lists
returns-clause-lists c = all_named _ _ _ _ c.over.ensures.stands
