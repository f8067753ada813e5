-- The code's values as the meaning's.
use Rattle.std.specs.Prelude.{◌≡◌, ℕ, ℤ, List, [], ◌∷◌, map, Option}
use Rattle.std.proofs.Common.{sym, ◌∙◌, ap}
use Rattle.st_tree.specs.declared.path.Path.{Path}
use Rattle.st_values.specs.Value.{Value, number, reference, array, structure, instance, Values, no_values, value_then, Members, no_members, member_then}
use Rattle.value_trees.specs.declared.value.Value.TheOpen.{Value-F, Member-F}
use Rattle.value_trees.specs.declared.value.Value.TheFolds.{fold-Value, fold-Member, fold-roll-Value, fold_out-Member}
use Rattle.value_trees.specs.declared.value.Value.{Value as CodeValue}
use Rattle.value_trees.specs.declared.value.Value.TheVariants as code
use Rattle.value_trees.specs.declared.value.Member.{Member as CodeMember}

abbrev pub listed : List Value → Values
listed [] = no_values
listed (v ∷ vs) = value_then v (listed vs)

abbrev pub named : List (List ℕ × Value) → Members
named [] = no_members
named (m ∷ ms) = member_then m.0 m.1 (named ms)

abbrev pub value_level : Value-F Value (List ℕ × Value) → Value
value_level (Value-F.Number n) = number n
value_level (Value-F.Reference o) = reference o
value_level (Value-F.Array low vs) = array low (listed vs)
value_level (Value-F.Structure n ms) = structure n (named ms)
value_level (Value-F.Instance n ms) = instance n (named ms)

abbrev pub member_level : Member-F Value (List ℕ × Value) → List ℕ × Value
member_level m = (m.name, m.value)

unfoldable pub value_of : CodeValue → Value
value_of = fold-Value Value (List ℕ × Value) value_level member_level

unfoldable pub member_of : CodeMember → List ℕ × Value
member_of = fold-Member Value (List ℕ × Value) value_level member_level

abbrev pub values_of : List CodeValue → Values
values_of vs = listed (map value_of vs)

abbrev pub members_of : List CodeMember → Members
members_of ms = named (map member_of ms)

pub value-Number : (n : ℤ) → value_of (code.Number n) ≡ number n
unfolding value_of member_of
value-Number n = ap value_of (sym (code.rolls-Number n)) ∙ fold-roll-Value _ _ value_level member_level (Value-F.Number n)

pub value-Reference : (o : Option Path) → value_of (code.Reference o) ≡ reference o
unfolding value_of member_of
value-Reference o = ap value_of (sym (code.rolls-Reference o)) ∙ fold-roll-Value _ _ value_level member_level (Value-F.Reference o)

pub value-Array : (low : ℤ) (vs : List CodeValue) → value_of (code.Array low vs) ≡ array low (values_of vs)
unfolding value_of member_of
value-Array low vs = ap value_of (sym (code.rolls-Array low vs)) ∙ fold-roll-Value _ _ value_level member_level (Value-F.Array low vs)

pub value-Structure : (n : List ℕ) (ms : List CodeMember) → value_of (code.Structure n ms) ≡ structure n (members_of ms)
unfolding value_of member_of
value-Structure n ms = ap value_of (sym (code.rolls-Structure n ms)) ∙ fold-roll-Value _ _ value_level member_level (Value-F.Structure n ms)

pub value-Instance : (n : List ℕ) (ms : List CodeMember) → value_of (code.Instance n ms) ≡ instance n (members_of ms)
unfolding value_of member_of
value-Instance n ms = ap value_of (sym (code.rolls-Instance n ms)) ∙ fold-roll-Value _ _ value_level member_level (Value-F.Instance n ms)

pub member-is : (m : CodeMember) → member_of m ≡ (m.name, value_of m.value)
unfolding value_of member_of
member-is m = fold_out-Member _ _ value_level member_level m

pub ruleset value_views = (value-Number, value-Reference, value-Array, value-Structure, value-Instance, member-is)
