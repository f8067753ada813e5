use Rattle.std.proofs.Common.{refl, suc, arith, length, ◌≡◌, ◌+◌}
use Rattle.class_tables.proofs.StoreLaws.{entry_put}
use Rattle.class_tables.proofs.store.Store.put_entry.Goals as goal

pub returns-clause-puts : goal.returns-clause-puts
returns-clause-puts c =
    entry_put c.args.self.now _ c.args.map c.args.key c.in_ok-made.made refl c.args.entry _
    (let e : c.len-count.result + 1 ≡ suc (length c.args.self.now.entries.items) = omega (arith, c.len-count.ensures) in e) c.in_ok-push.ensures.items c.in_ok-made.ensures.ok c.requires
