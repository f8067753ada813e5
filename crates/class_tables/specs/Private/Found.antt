-- What is found in the parts of tables.
use Rattle.std.specs.Prelude.{ℕ, ◌+◌, nat_eq, nat_lt, Bool, false, not, ◌&&◌, if◌then◌else◌, List, length, Option, Some, None, option_map, option_and_then, slice_get, [], unwrap_or}
use Rattle.std.specs.List.{list_any}
use Rattle.std.specs.Map.{keys_of}
use Rattle.st_rules.specs.declared.ids.MethodId.{MethodId}
use Rattle.st_rules.specs.declared.modifiers.Access.TheVariants.{Public}
use Rattle.st_rules.specs.Modifiers.{same_access}
use Rattle.st_rules.specs.Named.{first_place}
use Rattle.st_rules.specs.Numbered.{passes_if_there}
use Rattle.graph_reach.specs.Reach.{reaches}
use Rattle.class_rows.specs.declared.unit_names.UnitNames.{UnitNames}
use Rattle.class_rows.specs.declared.rows.MethodRow.{MethodRow}
use Rattle.class_rows.specs.declared.rows.ClassRow.{ClassRow}
use Rattle.class_rows.specs.declared.rows.InterfaceRow.{InterfaceRow}
use Rattle.class_rows.specs.declared.rows.UnitRows.{UnitRows}
use Rattle.class_tables.specs.declared.store.Entry.{Entry}
use Rattle.class_tables.specs.declared.absorb.State.{State}
use Rattle.class_tables.specs.declared.settle.Settled.{Settled}
use Rattle.class_tables.specs.Private.Absorb.{row_at}
use Rattle.class_tables.specs.Private.Store.{entry_of, is_in}

abbrev pub state_at : Settled → ℕ → Option State
state_at settled class = slice_get settled.states.items class

-- what a class has for the name with the number
abbrev pub with_entry : {X : Type 0} → Settled → ℕ → (State → Entry → X) → ℕ → Option X
with_entry settled class gives n = option_and_then (λ s. option_map (gives s) (entry_of settled.store s.methods n)) (state_at settled class)

abbrev pub method : UnitNames → Settled → ℕ → List ℕ → Option MethodId
method names settled class name = option_and_then (λ n. with_entry settled class (λ s e. e.id) n) (first_place name (keys_of names.methods))

abbrev pub slot_in : ℕ → State → Entry → ℕ
slot_in n state entry = if state.ends then entry.slot else n

abbrev pub slot : UnitNames → Settled → ℕ → List ℕ → Option ℕ
slot names settled class name = option_and_then (λ n. with_entry settled class (slot_in n) n) (first_place name (keys_of names.methods))

abbrev pub above_in : Settled → ℕ → ℕ → Option State → Bool
above_in settled class other None = nat_eq class other
above_in settled class other (Some s) = is_in settled.store s.above other

abbrev pub has_above : Settled → ℕ → ℕ → Bool
has_above settled class other = if nat_lt other (length settled.states.items) then above_in settled class other (state_at settled class) else nat_eq class other

abbrev pub has_abstract : Settled → ℕ → Bool
has_abstract settled class = passes_if_there (λ s. not (nat_eq s.abstracts 0)) (state_at settled class)

abbrev pub is_public : UnitRows → MethodId → Bool
is_public rows id = passes_if_there (λ (m : MethodRow). same_access m.access Public) (row_at rows.classes id)

abbrev pub has_extends : UnitRows → ℕ → Bool
has_extends rows class = passes_if_there (λ (row : ClassRow). row.has_extends) (slice_get rows.classes class)

-- the line of a class that is not abstract
abbrev pub line_of : ClassRow → Option ℕ
line_of row = if row.is_abstract then None else Some row.line

abbrev pub concrete_line : UnitRows → ℕ → Option ℕ
concrete_line rows class = option_and_then line_of (slice_get rows.classes class)

abbrev pub interface_line : UnitRows → ℕ → Option ℕ
interface_line rows interface = option_map (λ (row : InterfaceRow). row.line) (slice_get rows.interfaces interface)

abbrev pub extended : UnitRows → ℕ → List ℕ
extended rows interface = unwrap_or (option_map (λ (row : InterfaceRow). row.extended) (slice_get rows.interfaces interface)) []

abbrev pub conforms_to : UnitRows → List (List ℕ) → ℕ → ℕ → Bool
conforms_to rows reach class interface = if nat_lt class (length rows.classes) && nat_lt interface (length rows.interfaces) then reaches reach (length rows.interfaces + class) interface else false

abbrev pub extends : UnitRows → List (List ℕ) → ℕ → ℕ → Bool
extends rows reach interface other = if nat_lt interface (length rows.interfaces) && nat_lt other (length rows.interfaces) then reaches reach interface other else nat_eq interface other

abbrev pub lies_on_cycle : UnitRows → List (List ℕ) → ℕ → Bool
lies_on_cycle rows reach interface = list_any (λ other. extends rows reach other interface) (extended rows interface)
