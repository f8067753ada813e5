use Rattle.std.proofs.Common.{refl}
use Rattle.class_tables.proofs.StoreLaws.{number_put}
use Rattle.class_tables.proofs.store.Store.put_number.Goals as goal

pub returns-clause-puts : goal.returns-clause-puts
returns-clause-puts c = number_put c.args.self.now _ c.args.map c.args.number c.in_ok-made.made refl c.in_ok-made.ensures.ok
