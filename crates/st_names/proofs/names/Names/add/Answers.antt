use Rattle.std.proofs.Common.{◌≡◌, None, ◌∙◌}
use Rattle.std.specs.Str.{bytes_eq}
use Rattle.std.specs.Map.{lookup}
use Rattle.indexmap.proofs.CallerLemmas.{insert_entry-new}
use Rattle.st_names.proofs.NameLaws.{fresh}
use Rattle.st_names.proofs.names.Names.add.Goals as goal

pub returns-in-Ok-clause-ok : goal.returns-in-Ok-clause-ok
returns-in-Ok-clause-ok g c =
    let none : lookup (bytes_eq c.args.key) c.self.inside.pairs.entries ≡ None = rw c.self.view_is (fresh c.args.self.now c.args.key c.in_default.ensures.place) in
    (c.len-n.ensures.len, rw (← c.self.view_is) (c.in-Ok.ensures.entries ∙ insert_entry-new bytes_eq c.self.inside.pairs c.args.key c.args.value none))
