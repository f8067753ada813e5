use Rattle.std.proofs.Common.{[]}
use Rattle.name_laws.proofs.Fields.{field_shown}
use Rattle.name_laws.proofs.Found.{looked_up}
use Rattle.name_laws.proofs.laws.name_laws.Goals as goal

pub returns : goal.returns
returns c = record {
  methods = λ decls p h c name id l e. let r = looked_up decls p h c name id l e in (r.method.shown, r.method.shown_there, r.is);
  fields = λ decls p h all n name f e. let r = field_shown decls p h all [] n name f e in (r.kind, r.told, r.is);
}
