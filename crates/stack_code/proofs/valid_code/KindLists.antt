-- Lists of kinds with the top first and with the top last.
use Rattle.std.proofs.Common.{◌≡◌, List, sym, ap, ◌∙◌, reverse}
use Rattle.std.specs.Prelude.{Option, Some}
use Rattle.std.proofs.lemmas.List.{reverse-reverse}
use Rattle.stack_code.specs.declared.op.Kind.{Kind}
use Rattle.stack_code.specs.Validity.{listed}

pub unturned : (xs ys : List Kind) → reverse xs ≡ reverse ys → xs ≡ ys
unturned xs ys e = sym (reverse-reverse xs) ∙ ap reverse e ∙ reverse-reverse ys

-- a list that is there is the one that is looked for, or not
pub listed_is : (o : Option (Option (List Kind))) (list kinds : List Kind) → o ≡ Some (Some list) → (list ≡ kinds → listed o ≡ Some (reverse kinds)) × (listed o ≡ Some (reverse kinds) → list ≡ kinds)
listed_is o list kinds is = (λ e. ap listed is ∙ ap (λ l. Some (reverse l)) e, λ e. unturned list kinds (let f : Some (reverse list) ≡ Some (reverse kinds) = sym (ap listed is) ∙ e in cc))
