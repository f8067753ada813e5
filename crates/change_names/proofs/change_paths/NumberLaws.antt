-- The tables of the variables of lists, and the fields of shapes by number and by name.
use Rattle.std.proofs.Common.{◌≡◌, ◌≤◌, ◌<◌, ℕ, zero, suc, ◌+◌, Bool, true, false, List, [], ◌∷◌, ◌++◌, length, get_or, Option, Some, None, refl, sym, ap, ◌∙◌, arith, Bor}
use Rattle.std.proofs.lemmas.Option.{slice_get_past, slice_get_read, slice_get-map}
use Rattle.std.specs.Prelude.{slice_get, option_map, if◌then◌else◌}
use Rattle.plc_text.specs.Words.{same}
use Rattle.st_rules.specs.Named.{first_place}
use Rattle.st_values.specs.Program.{Program, class_variables}
use Rattle.st_values.specs.Shape.{Shape, Array, Structure, Instance, Fields, no_fields, field_then, field, shape_part}
use Rattle.st_values.specs.Shape as plain
use Rattle.st_values.specs.Value.{◌>>=◌}
use Rattle.st_tree.specs.declared.path.Step.TheVariants as step
use Rattle.program_tables.specs.declared.st_initial.variables.Variable as held
use Rattle.program_tables.specs.st_initial.Members.{items_at, list_at}
use Rattle.program_tables.specs.st_initial.Variables.{variables_of, fields_at}
use Rattle.st_values.specs.View.{program_of}
use Rattle.change_names.specs.Pairs.{or_none}
use Rattle.st_change.specs.From.{Way, by_name, by_index, Pairs, pairs_of, structure_pairs, field_name, field_number, field_named, part_by, step_of}
use Rattle.change_names.specs.change_pairs.Places.{Table, first_where}
use Rattle.change_names.proofs.change_pairs.PlaceLaws.{FromHere, from_all}
use Rattle.shape_trees.specs.declared.shape.Shape.{Shape as CodeShape}
use Rattle.shape_trees.specs.declared.shape.Shape.TheVariants as code
use Rattle.shape_trees.specs.declared.shape.Field.{Field as CodeField}
use Rattle.shape_trees.specs.Numbers.{names_of, is_numbered}
use Rattle.shape_trees.specs.Shape.{fields_of, shape_of, field-is, shape-Structure, shape-Instance}
use Rattle.shape_trees.proofs.NumberLaws.{field_names, structure_numbers, class_numbers}
use Rattle.change_names.specs.declared.change_paths.change.Change.{Change}
use Rattle.change_names.specs.declared.change_paths.numbers.FieldNumbers.{FieldNumbers}
use Rattle.change_names.specs.declared.change_paths.which.Which.{Which}
use Rattle.change_names.specs.declared.change_paths.which.Which.TheVariants as which
use Rattle.change_names.specs.change_paths.Change.{IsChange}
use Rattle.change_names.specs.change_paths.Private.Programs.{program_at, numbers_at}
use Rattle.change_names.specs.change_paths.Numbers.{found_at, AreFieldNumbers}
use Rattle.change_names.specs.change_paths.Private.Places.{FindsIn, FindIn}
use Rattle.change_names.specs.change_paths.Private.Walk.{number_in}
use Rattle.change_names.proofs.change_paths.SoFarLaws.{SoFar, one_so_far, all_so_far}

-- ---- tables

by_names : (name : List ℕ) (vs : List held.Variable) → first_where (λ v. same v.name.now name) vs ≡ first_place name (names_of (variables_of vs))
by_names name [] = refl
by_names name (v ∷ vs) = ap (λ o. if same v.name.now name then Some 0 else option_map suc o) (by_names name vs)

pub places_found : (vs : List held.Variable) (i : ℕ) (table : Table) → i ≡ 0 → FromHere (λ name v. same v.name.now name) vs i table → FindsIn table vs
places_found vs i table e so_far = let f = from_all (λ name v. same v.name.now name) vs i table e so_far in record { by = λ name. f.by name ∙ by_names name vs }

-- the table of a list
pub record IsTable (lists : List (List held.Variable)) (k : ℕ) (o : Option Table) : Type 0 where
  pub by : (name : List ℕ) → found_at o name ≡ first_place name (names_of (list_at lists k))

pub table_next : (lists : List (List held.Variable)) (k : ℕ) (all new : List Table) (table : Table) (vs : List held.Variable) → k < length lists → vs ≡ get_or lists k vs → SoFar (IsTable lists) k all → FindsIn table vs → new ≡ all ++ table ∷ [] → SoFar (IsTable lists) (k + 1) new
table_next lists k all new table vs l is so_far found e =
    one_so_far (IsTable lists) k all new table so_far e
    (record { by = λ name. found.by name ∙ ap (λ o. first_place name (names_of (variables_of (items_at o)))) (sym (slice_get_read lists (length lists) k vs refl l is)) })

pub tables_found : (lists : List (List held.Variable)) (n : ℕ) (tables : List Table) → length lists ≤ n → SoFar (IsTable lists) n tables → FindIn lists tables
tables_found lists n tables l so_far = record { by = λ k name. (all_so_far (IsTable lists) n tables so_far (λ j h. none j h) k).by name }
  where
    none : (j : ℕ) → n ≤ j → IsTable lists j None
    none j h = record { by = λ name. sym (ap (λ o. first_place name (names_of (variables_of (items_at o)))) (slice_get_past lists j (omega (arith, l, h)))) }

-- ---- fields by name

pub numbered_by : (fs : List CodeField) (name : List ℕ) → field_number (fields_of fs) name ≡ first_place name (field_names fs)
numbered_by [] name = refl
numbered_by (f ∷ fs) name =
    ap (λ (n : List ℕ). if same n name then Some 0 else option_map suc (field_number (fields_of fs) name)) (ap (λ x. x.0.name) (field-is f))
    ∙ ap (λ o. if same f.variable.name.now name then Some 0 else option_map suc o) (numbered_by fs name)

module _ (p : Program) where
  pub structure_number : (n : ℕ) (name : Bor (List ℕ)) (fs : List CodeField) (wanted : List ℕ) (o : Option ℕ) → is_numbered p (code.Structure n name fs) ≡ true → o ≡ first_place wanted (names_of (fields_at p n)) → o ≡ number_in (shape_of (code.Structure n name fs)) wanted
  structure_number n name fs wanted o h e =
      let k = structure_numbers p n name fs h in
      e ∙ ap (first_place wanted) (sym k.names) ∙ sym (numbered_by fs wanted) ∙ ap (λ sh. number_in sh wanted) (sym (shape-Structure n name fs))

  pub class_number : (c : ℕ) (name : Bor (List ℕ)) (fs : List CodeField) (wanted : List ℕ) (o : Option ℕ) → is_numbered p (code.Instance c name fs) ≡ true → o ≡ first_place wanted (names_of (class_variables p c)) → o ≡ number_in (shape_of (code.Instance c name fs)) wanted
  class_number c name fs wanted o h e =
      let k = class_numbers p c name fs h in
      e ∙ ap (first_place wanted) (sym k.names) ∙ sym (numbered_by fs wanted) ∙ ap (λ sh. number_in sh wanted) (sym (shape-Instance c name fs))

pub name_at : (fs : List CodeField) (k : ℕ) → field_name (fields_of fs) k ≡ option_map (λ f. f.variable.name.now) (slice_get fs k)
name_at [] k = refl
name_at (f ∷ fs) zero = ap (λ x. Some x.0.name) (field-is f)
name_at (f ∷ fs) (suc k) = name_at fs k

-- ---- ways

pub step_by_name : (sh : Shape) (name : List ℕ) (o : Option ℕ) → o ≡ number_in sh name → option_map step.Field o ≡ step_of sh (by_name name)
step_by_name (plain.Elementary e) name o h = ap (option_map step.Field) h
step_by_name (plain.Enumeration n values) name o h = ap (option_map step.Field) h
step_by_name (plain.Reference c n) name o h = ap (option_map step.Field) h
step_by_name (plain.Interface c n) name o h = ap (option_map step.Field) h
step_by_name (Array low n sh) name o h = ap (option_map step.Field) h
step_by_name (Structure n fs) name o h = ap (option_map step.Field) h
step_by_name (Instance c n fs) name o h = ap (option_map step.Field) h

in_fields : (fs : Fields) (name : List ℕ) → field_named fs name ≡ (field_number fs name >>= λ k. field fs k)
in_fields no_fields name = refl
in_fields (field_then v sh fs) name = by (in_fields fs name) (same v.name name)
  where
    behind : (o : Option ℕ) → (o >>= λ k. field fs k) ≡ (option_map suc o >>= λ k. field (field_then v sh fs) k)
    behind None = refl
    behind (Some k) = refl

    by : field_named fs name ≡ (field_number fs name >>= λ k. field fs k) → (b : Bool) → (if b then Some sh else field_named fs name) ≡ ((if b then Some 0 else option_map suc (field_number fs name)) >>= λ k. field (field_then v sh fs) k)
    by h true = refl
    by h false = h ∙ behind (field_number fs name)

steps_on : (o : Option ℕ) (sh : Shape) (f : ℕ → Option Shape) → ((k : ℕ) → f k ≡ shape_part sh (step.Field k)) → (o >>= f) ≡ (option_map step.Field o >>= λ s. shape_part sh s)
steps_on None sh f h = refl
steps_on (Some k) sh f h = h k

-- the part to which a way leads is that of its step
pub by_step : (sh : Shape) (w : Way) → part_by sh w ≡ (step_of sh w >>= λ s. shape_part sh s)
by_step (plain.Elementary e) (by_name f) = refl
by_step (plain.Elementary e) (by_index i) = refl
by_step (plain.Enumeration n values) (by_name f) = refl
by_step (plain.Enumeration n values) (by_index i) = refl
by_step (plain.Reference c n) (by_name f) = refl
by_step (plain.Reference c n) (by_index i) = refl
by_step (plain.Interface c n) (by_name f) = refl
by_step (plain.Interface c n) (by_index i) = refl
by_step (Array low n sh) (by_name f) = refl
by_step (Array low n sh) (by_index i) = refl
by_step (Structure n fs) (by_name f) = in_fields fs f ∙ steps_on (field_number fs f) (Structure n fs) (field fs) (λ k. refl)
by_step (Structure n fs) (by_index i) = refl
by_step (Instance c n fs) (by_name f) = in_fields fs f ∙ steps_on (field_number fs f) (Instance c n fs) (field fs) (λ k. refl)
by_step (Instance c n fs) (by_index i) = refl

-- ---- tables of the two programs

numbers_are : (c : Change) → IsChange c → (w : Which) → AreFieldNumbers (program_at c w) (numbers_at c w)
numbers_are c h which.Old = h.old_numbers
numbers_are c h which.New = h.new_numbers

module _ (c : Change) (h : IsChange c) (of : Which) (sh : CodeShape) (numbered : is_numbered (program_at c of) sh ≡ true) (numbers : FieldNumbers) (mine : numbers ≡ numbers_at c of) (wanted : List ℕ) (tables : List Table) (o : Option ℕ) where
  pub structure_there : (n : ℕ) (name : Bor (List ℕ)) (fs : List CodeField) → sh ≡ code.Structure n name fs → tables ≡ numbers.structures.items → o ≡ found_at (slice_get tables n) wanted → o ≡ number_in (shape_of sh) wanted
  structure_there n name fs e t f =
      structure_number (program_at c of) n name fs wanted o (ap (is_numbered (program_at c of)) (sym e) ∙ numbered)
      (f ∙ ap (λ xs. found_at (slice_get xs n) wanted) (t ∙ ap (λ (x : FieldNumbers). x.structures.items) mine) ∙ (numbers_are c h of).structures n wanted)
      ∙ ap (λ x. number_in (shape_of x) wanted) (sym e)

  pub class_there : (k : ℕ) (name : Bor (List ℕ)) (fs : List CodeField) → sh ≡ code.Instance k name fs → tables ≡ numbers.classes.items → o ≡ found_at (slice_get tables k) wanted → o ≡ number_in (shape_of sh) wanted
  class_there k name fs e t f =
      class_number (program_at c of) k name fs wanted o (ap (is_numbered (program_at c of)) (sym e) ∙ numbered)
      (f ∙ ap (λ xs. found_at (slice_get xs k) wanted) (t ∙ ap (λ (x : FieldNumbers). x.classes.items) mine) ∙ (numbers_are c h of).classes k wanted)
      ∙ ap (λ x. number_in (shape_of x) wanted) (sym e)

name_after : {X Y : Type 0} (f : List ℕ → Y) (name : X → List ℕ) (o : Option X) → option_map (λ x. f (name x)) o ≡ option_map f (option_map name o)
name_after f name None = refl
name_after f name (Some x) = refl

module _ (c : Change) (h : IsChange c) (sh : CodeShape) (numbered : is_numbered (program_of c.new.program.now) sh ≡ true) (tables : List Pairs) (o : Option Pairs) where
  abbrev old : Program
  old = program_of c.old.program.now

  abbrev new : Program
  new = program_of c.new.program.now

  pub structure_pairs_there : (n : ℕ) (name : Bor (List ℕ)) (fs : List CodeField) → sh ≡ code.Structure n name fs → tables ≡ c.names.now.structures.items → o ≡ slice_get tables n → or_none o ≡ pairs_of old new (shape_of sh)
  structure_pairs_there n name fs e t f =
      let k = structure_numbers new n name fs (ap (is_numbered new) (sym e) ∙ numbered) in
      ap or_none
      (f ∙ ap (λ xs. slice_get xs n) (t ∙ h.names.structures) ∙ slice_get-map (λ x. structure_pairs old new x.name) new.types n
      ∙ name_after (structure_pairs old new) (λ x. x.name) (slice_get new.types n)
      ∙ ap (option_map (structure_pairs old new)) k.called)
      ∙ ap (pairs_of old new) (sym (ap shape_of e ∙ shape-Structure n name fs))

  pub class_pairs_there : (k : ℕ) (name : Bor (List ℕ)) (fs : List CodeField) → sh ≡ code.Instance k name fs → tables ≡ c.names.now.classes.items → o ≡ slice_get tables k → or_none o ≡ pairs_of old new (shape_of sh)
  class_pairs_there k name fs e t f =
      ap or_none (f ∙ ap (λ xs. slice_get xs k) t) ∙ h.names.classes k ∙ ap (pairs_of old new) (sym (ap shape_of e ∙ shape-Instance k name fs))
