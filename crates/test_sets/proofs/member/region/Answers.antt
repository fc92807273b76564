use Rattle.test_sets.proofs.Members.{region_here}
use Rattle.test_sets.proofs.member.region.Goals as goal

pub returns : goal.returns
returns c = region_here c.args.members.now c.args.k _ c.requires
