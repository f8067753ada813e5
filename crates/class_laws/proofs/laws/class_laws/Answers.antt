use Rattle.class_laws.proofs.Above
use Rattle.class_laws.proofs.Derived.{derived_begins}
use Rattle.class_laws.proofs.Parameters.{locals_apart, bodies_apart}
use Rattle.class_laws.proofs.laws.class_laws.Goals as goal

pub returns : goal.returns
returns c = record {
  upward = λ p c d t h k. Above.upward p c d t h k;
  methods_above = λ p c name r h. Above.methods_above p c name r h;
  bodies_own = λ p c r h. Above.bodies_own p c r h;
  bases = λ p c d h. Above.bases p c d h;
  chains = λ p free c d h. Above.chains p free c d h;
  variables_above = λ p free c d k v h e. Above.variables_above p free c d k v h e;
  derived = λ p free c d k j f g h. derived_begins p free c d k j f g h;
  locals_apart = locals_apart;
  bodies_apart = λ k l vs. bodies_apart vs k l;
}
