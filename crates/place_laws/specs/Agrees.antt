-- A scope of the rules and one of the meaning that agree: what the rules tell of names, the program has.
use Rattle.std.specs.Prelude.{◌≡◌, ◌&&◌, ℕ, pos, Bool, true, false, List, [], ◌∷◌, Option, Some, None, IsTrue, slice_get}
use Rattle.st_types.specs.declared.st_type.StType.{StType}
use Rattle.st_types.specs.declared.st_type.StType.TheVariants as type
use Rattle.st_tree.specs.declared.program.Note.{Note}
use Rattle.st_tree.specs.declared.program.Target.{Target}
use Rattle.st_tree.specs.declared.program.Target.TheVariants as target
use Rattle.st_tree.specs.declared.expression.Root.{Root}
use Rattle.st_tree.specs.Expression.{Expression, Selectors}
use Rattle.st_rules.specs.declared.ids.MethodId.{MethodId}
use Rattle.st_rules.specs.declared.ids.PrototypeId.{PrototypeId}
use Rattle.st_rules.specs.declared.names.DeclaredVariable.{DeclaredVariable}
use Rattle.st_rules.specs.declared.names.DeclaredRoutine.{DeclaredRoutine}
use Rattle.st_rules.specs.declared.names.DeclaredField.{DeclaredField}
use Rattle.st_rules.specs.declared.signature.ResultType.{ResultType}
use Rattle.st_rules.specs.declared.signature.ResultType.TheVariants as outcome
use Rattle.st_rules.specs.Classes.{base_of, lookup}
use Rattle.st_rules.specs.Interfaces.{interface_lookup}
use Rattle.st_rules.specs.Kinds.{is_assignable, is_bindable}
use Rattle.st_rules.specs.Places.{name_out_of_access, is_told, super_standing, place_type}
use Rattle.st_rules.specs.Calls.{block_parameters, has_in_outs}
use Rattle.st_rules.specs.Scope.{Scope as RulesScope, Meant, a_variable, a_function, an_enumerator, sought, dot_qualifier, type_qualifier, of_untold, value_of, instance_variable, field_named, method_routine, prototype_routine, is_block_at}
use Rattle.st_rules.specs.Scope as scope
use Rattle.st_values.specs.Program.{Parameter, Routine, Program, conforms}
use Rattle.st_meaning.specs.st_frame.Footprint.{Enters}
use Rattle.st_meaning.specs.st_frame.Promise.Types.{NumberIs, IsHeld, IsNamed, Widens, Serves}
use Rattle.st_meaning.specs.st_frame.Promise.Names.{Scope, VariableIs, NameIs}
use Rattle.st_meaning.specs.st_frame.Promise.Places.{FieldIs, MemberIs}
use Rattle.st_meaning.specs.st_frame.Promise.Calls.{recipient_variable, Suits, Leaves, MayTake, MayLeave, IsLiving, IsFound, Answers, SameInOuts, ResultIs}
use Rattle.st_meaning.specs.st_frame.Use.{Called, the_function, a_method_of, a_method_from, a_body_of, the_body_from, called_parameters}

-- ---- what is declared as a parameter, and what stands for it

-- by what is declared alone
pub record Declares (v : DeclaredVariable) (q : Parameter) : Type 0 where
  pub kind : StType
  pub told : v.kind ≡ Some kind
  pub sort : q.sort ≡ v.sort

-- and with what stands in a routine
pub record Fills (p : Program) (x : Routine) (v : DeclaredVariable) (q : Parameter) : Type 0 where
  pub declares : Declares v q
  pub plain : v.constant ≡ false
  pub there : VariableIs (recipient_variable p x q.to) declares.kind

-- of a routine that may be entered, or by what is declared alone
abbrev pub FillsBy : Program → Option Routine → DeclaredVariable → Parameter → Type 0
FillsBy p None v q = Declares v q
FillsBy p (Some x) v q = Fills p x v q

abbrev pub GivesBy : Program → Option Routine → Option Parameter → Expression Note → Type 0
GivesBy p None o e = MayTake o e
GivesBy p (Some x) o e = Suits p x o e

abbrev pub LeavesBy : Program → Option Routine → Option Parameter → StType → Type 0
LeavesBy p None o t = MayLeave o t
LeavesBy p (Some x) o t = Leaves p x o t

-- these parameters stand first
abbrev pub TakesBy : Program → Option Routine → List DeclaredVariable → List Parameter → Type 0
TakesBy p w [] qs = Unit {0}
TakesBy p w (v ∷ vs) [] = ⊥
TakesBy p w (v ∷ vs) (q ∷ qs) = FillsBy p w v q × TakesBy p w vs qs

abbrev pub Gives : Routine → ResultType → Type 0
Gives x outcome.Nothing = Unit {0}
Gives x (outcome.Written None) = ⊥
Gives x (outcome.Written (Some t)) = ResultIs x t

abbrev pub ToldOutcome : ResultType → Type 0
ToldOutcome outcome.Nothing = Unit {0}
ToldOutcome (outcome.Written None) = ⊥
ToldOutcome (outcome.Written (Some t)) = Unit {0}

-- the parameters that are called are as they are declared, and those of a routine that may be entered begin with them
pub record Runs (p : Program) (k : Called) (vs : List DeclaredVariable) (o : ResultType) : Type 0 where
  pub found : IsFound p k
  pub told : ToldOutcome o
  pub declared : TakesBy p None vs (called_parameters p (Some k))
  pub enters : (x : Routine) (n : Enters p k x) → IsLiving p n → Answers p k (λ y. TakesBy p (Some y) vs (called_parameters p (Some k)) × Gives y o) x

-- ---- names

-- of a constant or an enumerator: nothing stands behind it
abbrev pub IsPlain : StType → Type 0
IsPlain (type.Elementary e) = Unit {0}
IsPlain (type.Enumeration n) = Unit {0}
IsPlain _ = ⊥

abbrev pub ConstantIs : Program → Target → StType → Type 0
ConstantIs p (target.Constant z) t = NumberIs p t z × IsPlain t
ConstantIs p _ t = ⊥

-- what a variable's name is noted to mean
abbrev pub HasPlace : Target → Type 0
HasPlace (target.Local n) = Unit {0}
HasPlace (target.Variable k) = Unit {0}
HasPlace (target.Region r) = Unit {0}
HasPlace _ = ⊥

abbrev pub OneOf : Bool → Type 0 → Type 0 → Type 0
OneOf true A B = A
OneOf false A B = B

pub record EntryIs (p : Program) (g : Scope) (v : DeclaredVariable) : Type 0 where
  pub kind : StType
  pub told : v.kind ≡ Some kind
  pub means : OneOf v.constant (ConstantIs p v.target kind) (NameIs p g v.target kind × HasPlace v.target)

-- a method that is declared, by its number
pub record MethodIs (s : RulesScope) (p : Program) (k : Called) (id : MethodId) : Type 0 where
  pub routine : DeclaredRoutine
  pub declared : method_routine s id ≡ Some routine
  pub runs : Runs p k routine.parameters routine.outcome

pub record PrototypeIs (s : RulesScope) (p : Program) (k : Called) (id : PrototypeId) : Type 0 where
  pub routine : DeclaredRoutine
  pub declared : prototype_routine s id ≡ Some routine
  pub runs : Runs p k routine.parameters routine.outcome

abbrev pub MeantIs : RulesScope → Program → Scope → List ℕ → Option Meant → Type 0
MeantIs s p g name None = Unit {0}
MeantIs s p g name (Some (a_variable c v)) = EntryIs p g v
MeantIs s p g name (Some (scope.a_method id)) = (c : ℕ) × (s.class ≡ Some c) × (g.this ≡ Some c) × MethodIs s p (a_method_of (type.Instance c) name) id
MeantIs s p g name (Some (a_function k r)) = Runs p (the_function k) r.parameters r.outcome
MeantIs s p g name (Some (an_enumerator n k)) = NumberIs p (type.Enumeration n) (pos k)

-- ---- parts

pub record FieldAgrees (p : Program) (n : ℕ) (f : ℕ × DeclaredField) : Type 0 where
  pub kind : StType
  pub told : f.1.kind ≡ Some kind
  pub is : FieldIs p (type.Structure n) f.0 kind

pub record MemberAgrees (p : Program) (c : ℕ) (v : DeclaredVariable) : Type 0 where
  pub kind : StType
  pub told : v.kind ≡ Some kind
  pub number : ℕ
  pub target : v.target ≡ target.Variable number
  pub is : MemberIs p (type.Instance c) number kind

-- ---- all of it

pub record Agrees (s : RulesScope) (p : Program) (g : Scope) : Type 0 where
  pub name : (l : ℕ) (called : Bool) (name : List ℕ) → name_out_of_access s l (sought s called name) ≡ [] → MeantIs s p g name (sought s called name)
  -- the type that qualifies is told
  pub dot : (name : List ℕ) → dot_qualifier s name ≡ of_untold → ⊥
  pub hash : (name : List ℕ) → type_qualifier s name ≡ of_untold → ⊥
  pub this : (c : ℕ) → s.class ≡ Some c → g.this ≡ Some c
  pub base : (c b : ℕ) → s.class ≡ Some c → base_of s.classes c ≡ Some b → IsTrue (conforms p c (type.Instance b))
  pub bases : (c : ℕ) → s.class ≡ Some c → (d : _) × (slice_get s.classes c ≡ Some d)
  pub super : (c : ℕ) → s.class ≡ Some c → is_told s (super_standing s (Some c)) ≡ true
  pub field : (n : ℕ) (name : List ℕ) (f : ℕ × DeclaredField) → field_named s n name ≡ Some f → FieldAgrees p n f
  pub member : (c : ℕ) (name : List ℕ) (m : ℕ × DeclaredVariable) → instance_variable s c name ≡ Some m → MemberAgrees p c m.1
  pub value : (n : ℕ) (name : List ℕ) (k : ℕ) → value_of s n name ≡ Some k → NumberIs p (type.Enumeration n) (pos k)
  -- a reference or an interface that a place has is there
  pub named : (r : Root ℕ) (ss : Selectors ℕ) (t : StType) → place_type s r ss ≡ Some t → IsHeld t → IsNamed p t
  -- what may be given, and bound
  pub widens : (t u : StType) → is_assignable s.classes s.interfaces t u ≡ true → Widens p t u
  pub serves : (t u : StType) → is_bindable s.classes s.interfaces t u ≡ true → Serves p t u
  -- what may be called behind a place
  pub method : (c : ℕ) (name : List ℕ) (id : MethodId) → lookup s.classes c name ≡ Some id → MethodIs s p (a_method_of (type.Instance c) name) id × MethodIs s p (a_method_from c name) id
  pub prototype : (i : ℕ) (name : List ℕ) (id : PrototypeId) → interface_lookup s.interfaces i name ≡ Some id → PrototypeIs s p (a_method_of (type.Interface i) name) id
  pub body : (c : ℕ) → is_block_at s c ≡ true → Runs p (a_body_of (type.Instance c)) (block_parameters s c) outcome.Nothing
  pub base_body : (c b : ℕ) → s.class ≡ Some c → base_of s.classes c ≡ Some b → is_block_at s b ≡ true → (s.in_method && has_in_outs s b) ≡ false → Runs p (the_body_from b) [] outcome.Nothing × SameInOuts p g.locals b
