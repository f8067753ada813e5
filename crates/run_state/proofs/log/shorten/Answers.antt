use Rattle.run_state.proofs.Stores.{shortened}
use Rattle.run_state.proofs.log.shorten.Goals as goal

pub returns : goal.returns
returns c = shortened c.args.log.now.whole c.args.log.now.replaced c.take_back.new.store c.in_ok-whole.whole c.args.store.now c.requires c.in_ok-whole.ensures c.take_back.ensures.store
