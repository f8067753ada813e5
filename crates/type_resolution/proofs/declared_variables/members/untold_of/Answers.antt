use Rattle.std.proofs.Common.{map, ap, ◌∙◌}
use Rattle.st_unit_rules.specs.declaration_list.Written.{written_of}
use Rattle.declared_symbols.specs.untold_names.Untold.{untold_members}
use Rattle.type_resolution.proofs.declared_variables.members.untold_of.Goals as goal

pub returns : goal.returns
returns c = c.in_ok-untold.ensures ∙ ap (λ xs. untold_members 0 0 (map written_of xs)) c.deref.ensures.value ∙ ap (untold_members 0 0) c.in_ok-written.ensures.written
