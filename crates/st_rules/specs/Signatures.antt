-- Signatures of methods: the result type and the inputs, outputs and in-outs, in the order of the text, with names, types and initial
-- values (IEC 61131-3:2013, 6.6.5.4). What a written type means, and what an initial value is worth, are parameters.
use Rattle.std.specs.Prelude.{ℕ, Bool, true, false, not, ◌&&◌, ◌||◌, codes, List, [], ◌∷◌, map, flat_map, Option, Some, None, IsSome, IsNone, option_and_then, slice_get, if◌then◌else◌}
use Rattle.plc_text.specs.Words.{same}
use Rattle.st_types.specs.declared.elem.Elem.TheVariants.{Bool as BOOL}
use Rattle.st_types.specs.declared.st_type.StType.{StType}
use Rattle.st_types.specs.declared.st_type.StType.TheVariants.{Elementary}
use Rattle.st_tree.specs.declared.name.Name.{Name}
use Rattle.st_tree.specs.declared.initial.Init.{Init}
use Rattle.st_tree.specs.declared.type_spec.TypeSpec.{TypeSpec}
use Rattle.st_tree.specs.declared.declaration.SectionSort.{SectionSort}
use Rattle.st_tree.specs.declared.declaration.SectionSort.TheVariants as sort
use Rattle.st_tree.specs.declared.declaration.Item.{Item}
use Rattle.st_tree.specs.declared.declaration.Section.{Section}
use Rattle.st_rules.specs.declared.ids.MethodId.{MethodId}
use Rattle.st_rules.specs.declared.ids.PrototypeId.{PrototypeId}
use Rattle.st_rules.specs.declared.signature.ResultType.{ResultType}
use Rattle.st_rules.specs.declared.signature.ResultType.TheVariants.{Nothing, Written}
use Rattle.st_rules.specs.declared.signature.Parameter.{Parameter}
use Rattle.st_rules.specs.declared.signature.Signature.{Signature}
use Rattle.st_rules.specs.declared.signature.Signatures.{Signatures}
use Rattle.st_rules.specs.Modifiers.{is_constant}
use Rattle.st_rules.specs.Types.{same_type}

-- ---- the signature of a method as it is written

-- VAR_INPUT, VAR_OUTPUT and VAR_IN_OUT
abbrev pub is_parameter_sort : SectionSort → Bool
is_parameter_sort sort.Input = true
is_parameter_sort sort.Output = true
is_parameter_sort sort.InOut = true
is_parameter_sort _ = false

module _ {A V : Type 0} (type : TypeSpec A → Option StType) (value : TypeSpec A → Option (Init A) → Option V) where
  -- an in-out has no initial value
  abbrev pub initial_value : SectionSort → Item A → Option V
  initial_value sort.InOut i = None
  initial_value _ i = value i.kind i.initial

  abbrev pub parameter : SectionSort → Item A → Name → Parameter V
  parameter s i n = record { sort = s; name = n.text; kind = type i.kind; initial = initial_value s i }

  -- what a section declares for the signature: nothing where it declares constants
  abbrev pub section_parameters : Section A → List (Parameter V)
  section_parameters s = if is_parameter_sort s.sort && not (is_constant s.modifiers) then flat_map (λ i. map (parameter s.sort i) i.names) s.items else []

  abbrev pub result_type : Option (TypeSpec A) → ResultType
  result_type None = Nothing
  result_type (Some spec) = Written (type spec)

  abbrev pub signature : Option (TypeSpec A) → List (Section A) → Signature V
  signature result sections = record { result = result_type result; parameters = flat_map section_parameters sections }

-- ---- equal signatures

-- what cannot be told differs from nothing
abbrev pub same_if_told : {X : Type 0} → (X → X → Bool) → Option X → Option X → Bool
same_if_told same_told (Some a) (Some b) = same_told a b
same_if_told same_told _ _ = true

abbrev pub same_sort : SectionSort → SectionSort → Bool
same_sort sort.Var sort.Var = true
same_sort sort.Input sort.Input = true
same_sort sort.Output sort.Output = true
same_sort sort.InOut sort.InOut = true
same_sort sort.Temp sort.Temp = true
same_sort sort.External sort.External = true
same_sort sort.Global sort.Global = true
same_sort _ _ = false

abbrev pub same_result : ResultType → ResultType → Bool
same_result Nothing Nothing = true
same_result (Written a) (Written b) = same_if_told same_type a b
same_result _ _ = false

module _ {V : Type 0} (same_value : V → V → Bool) where
  abbrev pub same_parameter : Parameter V → Parameter V → Bool
  same_parameter p q = same_sort p.sort q.sort && same p.name q.name && same_if_told same_type p.kind q.kind && same_if_told same_value p.initial q.initial

  abbrev pub same_parameters : List (Parameter V) → List (Parameter V) → Bool
  same_parameters [] [] = true
  same_parameters (p ∷ ps) (q ∷ qs) = same_parameter p q && same_parameters ps qs
  same_parameters _ _ = false

  abbrev pub same_signature : Signature V → Signature V → Bool
  same_signature a b = same_result a.result b.result && same_parameters a.parameters b.parameters

  -- both are there, and they are not equal
  abbrev pub differ : Option (Signature V) → Option (Signature V) → Bool
  differ (Some a) (Some b) = not (same_signature a b)
  differ _ _ = false

-- ---- signatures of which all can be told

abbrev pub IsToldResult : ResultType → Type 0
IsToldResult Nothing = Unit {0}
IsToldResult (Written o) = IsSome o

-- an in-out has no initial value
abbrev pub IsToldValue : {V : Type 0} → SectionSort → Option V → Type 0
IsToldValue sort.InOut o = IsNone o
IsToldValue _ o = IsSome o

pub record IsToldParameter {V : Type 0} (p : Parameter V) : Type 0 where
  pub kind : IsSome p.kind
  pub initial : IsToldValue p.sort p.initial

abbrev pub AreTold : {V : Type 0} → List (Parameter V) → Type 0
AreTold [] = Unit {0}
AreTold (p ∷ ps) = IsToldParameter p × AreTold ps

pub record IsTold {V : Type 0} (s : Signature V) : Type 0 where
  pub result : IsToldResult s.result
  pub parameters : AreTold s.parameters

-- ---- signatures by number

abbrev pub signature_of : {V : Type 0} → Signatures V → MethodId → Option (Signature V)
signature_of all id = option_and_then (λ methods. slice_get methods id.method) (slice_get all.methods id.class)

abbrev pub prototype_signature : {V : Type 0} → Signatures V → PrototypeId → Option (Signature V)
prototype_signature all id = option_and_then (λ methods. slice_get methods id.method) (slice_get all.prototypes id.interface)

-- ---- methods that run at the beginning and the end of an instance

abbrev pub hook_input : {V : Type 0} → V → List ℕ → Parameter V
hook_input falsehood name = record { sort = sort.Input; name = name; kind = Some (Elementary BOOL); initial = Some falsehood }

abbrev pub hook_with : {V : Type 0} → List (Parameter V) → Signature V
hook_with inputs = record { result = Written (Some (Elementary BOOL)); parameters = inputs }

abbrev pub init_inputs : {V : Type 0} → V → List (Parameter V)
init_inputs falsehood = hook_input falsehood (codes "BINITRETAINS") ∷ hook_input falsehood (codes "BINCOPYCODE") ∷ []

abbrev pub exit_inputs : {V : Type 0} → V → List (Parameter V)
exit_inputs falsehood = hook_input falsehood (codes "BINCOPYCODE") ∷ []

-- the signature that FB_init, FB_exit and FB_reinit have; no other name asks for one
abbrev pub hook_signature : {V : Type 0} → V → List ℕ → Option (Signature V)
hook_signature falsehood name =
    if same name (codes "FB_INIT") then Some (hook_with (init_inputs falsehood))
    else if same name (codes "FB_EXIT") then Some (hook_with (exit_inputs falsehood))
    else if same name (codes "FB_REINIT") then Some (hook_with [])
    else None

abbrev pub is_hook : List ℕ → Bool
is_hook name = same name (codes "FB_INIT") || same name (codes "FB_EXIT") || same name (codes "FB_REINIT")
