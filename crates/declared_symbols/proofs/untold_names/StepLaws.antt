-- What one more name adds to what is declared.
use Rattle.std.proofs.Common.{◌≡◌, ℕ, suc, ◌+◌, ◌<◌, ◌≤◌, Bool, true, false, List, [], ◌∷◌, ◌++◌, map, drop, length, get_or, refl, sym, ap, ◌∙◌}
use Rattle.std.specs.Prelude.{if◌then◌else◌, not}
use Rattle.std.proofs.lemmas.List.{append_assoc, append-nil, map-append}
use Rattle.st_rules.proofs.ListLaws.{drop-at, drop-end}
use Rattle.st_tree.specs.declared.declaration.Member.{Member}
use Rattle.st_tree.specs.declared.declaration.Member.TheVariants as member
use Rattle.st_tree.specs.declared.declaration.TypeDecl.{TypeDecl}
use Rattle.st_tree.specs.declared.unit.Decl.{Decl}
use Rattle.st_tree.specs.declared.unit.Decl.TheVariants as declaration
use Rattle.st_tree.specs.declared.program.Target.{Target}
use Rattle.st_tree.specs.declared.program.Target.TheVariants as target
use Rattle.st_rules.specs.declared.names.DeclaredVariable.{DeclaredVariable}
use Rattle.st_rules.specs.Classes.{methods_in}
use Rattle.st_rules.specs.declared.names.DeclaredGlobal.{DeclaredGlobal}
use Rattle.st_rules.specs.declared.names.DeclaredGlobal.TheVariants as global
use Rattle.st_unit_rules.specs.declared_names.Declarations.{entries_in}
use Rattle.st_unit_rules.specs.declared_names.Variables.{Written, is_parameter_written, is_kept_written, is_body_written}
use Rattle.st_unit_rules.specs.declared.declaration_list.written.WrittenName.{WrittenName}
use Rattle.st_unit_rules.specs.declaration_list.Written.{written_of}
use Rattle.declared_symbols.specs.untold_names.Untold.{untold_variable, member_target, number_behind, untold_members, untold_parameters, untold_method, untold_type, untold_types, untold_parts, untold_interfaces, region_target, untold_variables}

pub one_added : {X : Type 0} (new old : List X) (x y : X) (xs ys : List X) → new ≡ old ++ x ∷ [] → x ≡ y → xs ≡ ys → new ++ xs ≡ old ++ y ∷ ys
one_added new old x y xs ys h e f = ap (λ zs. zs ++ xs) h ∙ append_assoc old (x ∷ []) xs ∙ ap (λ z. old ++ z ∷ xs) e ∙ ap (λ zs. old ++ y ∷ zs) f

pub member_added : (new old : List DeclaredVariable) (v : DeclaredVariable) (w : Written) (k l m n : ℕ) (t : Target) (b c : Bool) (ws : List Written) → t ≡ member_target k l w → v ≡ untold_variable t w → new ≡ old ++ v ∷ []
    → b ≡ is_kept_written w → m ≡ number_behind b k → c ≡ is_body_written w → n ≡ number_behind c l → new ++ untold_members m n ws ≡ old ++ untold_members k l (w ∷ ws)
member_added new old v w k l m n t b c ws e f h p q r s =
    one_added new old v (untold_variable (member_target k l w) w) (untold_members m n ws) (untold_members (number_behind (is_kept_written w) k) (number_behind (is_body_written w) l) ws) h
    (f ∙ ap (λ x. untold_variable x w) e)
    (ap (λ x. untold_members x n ws) (q ∙ ap (λ x. number_behind x k) p) ∙ ap (λ x. untold_members (number_behind (is_kept_written w) k) x ws) (s ∙ ap (λ x. number_behind x l) r))

pub parameter_added : (new old : List DeclaredVariable) (v : DeclaredVariable) (w : Written) (p n : ℕ) (b : Bool) (ws : List Written) → b ≡ is_parameter_written w → b ≡ true → v ≡ untold_variable (target.Local p) w → new ≡ old ++ v ∷ []
    → n ≡ number_behind true p → new ++ untold_parameters n ws ≡ old ++ untold_parameters p (w ∷ ws)
parameter_added new old v w p n b ws e c f h s =
    one_added new old v (untold_variable (target.Local p) w) (untold_parameters n ws) (untold_parameters (suc p) ws) h f (ap (λ x. untold_parameters x ws) s)
    ∙ ap (λ x. old ++ (if x then untold_variable (target.Local p) w ∷ untold_parameters (suc p) ws else untold_parameters p ws)) (sym c ∙ e)

pub no_parameter : (old : List DeclaredVariable) (w : Written) (p : ℕ) (b : Bool) (ws : List Written) → b ≡ is_parameter_written w → b ≡ false → old ++ untold_parameters p ws ≡ old ++ untold_parameters p (w ∷ ws)
no_parameter old w p b ws e c = ap (λ x. old ++ (if x then untold_variable (target.Local p) w ∷ untold_parameters (suc p) ws else untold_parameters p ws)) (sym c ∙ e)

pub variable_added : (new old : List DeclaredGlobal) (v : DeclaredVariable) (w : Written) (r n : ℕ) (t : Target) (b : Bool) (ws : List Written) → t ≡ region_target r w → v ≡ untold_variable t w → new ≡ old ++ global.Variable v ∷ []
    → b ≡ not w.constant → n ≡ number_behind b r → new ++ untold_variables n ws ≡ old ++ untold_variables r (w ∷ ws)
variable_added new old v w r n t b ws e f h p q =
    one_added new old (global.Variable v) (global.Variable (untold_variable (region_target r w) w)) (untold_variables n ws) (untold_variables (number_behind (not w.constant) r) ws) h
    (ap global.Variable (f ∙ ap (λ x. untold_variable x w) e)) (ap (λ x. untold_variables x ws) (q ∙ ap (λ x. number_behind x r) p))

-- the rest of the names, by one name and those behind it
pub written_at : (xs : List WrittenName) (i : ℕ) (x : WrittenName) → i < length xs → x ≡ get_or xs i x → map written_of (drop i xs) ≡ written_of x ∷ map written_of (drop (i + 1) xs)
written_at xs i x h e = ap (λ ys. map written_of ys) (drop-at xs i x h e)

-- ---- lists that items give one after the other

module _ {X Y : Type 0} (gives : List X → List Y) where
  pub split_next : ((x : X) (xs : List X) → gives (x ∷ xs) ≡ gives (x ∷ []) ++ gives xs) → (xs : List X) (i : ℕ) (x : X) (old new : List Y) → i < length xs → x ≡ get_or xs i x → new ≡ old ++ gives (x ∷ [])
      → old ++ gives (drop i xs) ≡ gives xs → new ++ gives (drop (i + 1) xs) ≡ gives xs
  split_next split xs i x old new h e f k =
      ap (λ ys. ys ++ gives (drop (i + 1) xs)) f
      ∙ append_assoc old (gives (x ∷ [])) (gives (drop (i + 1) xs))
      ∙ ap (λ ys. old ++ ys) (sym (split x (drop (i + 1) xs)))
      ∙ ap (λ ys. old ++ gives ys) (sym (drop-at xs i x h e))
      ∙ k

  pub split_ended : gives [] ≡ [] → (xs : List X) (i : ℕ) (old : List Y) → length xs ≤ i → old ++ gives (drop i xs) ≡ gives xs → old ≡ gives xs
  split_ended none xs i old h k = sym (append-nil old) ∙ ap (λ ys. old ++ ys) (sym none) ∙ ap (λ ys. old ++ gives ys) (sym (drop-end xs i h)) ∙ k

pub methods_split : (m : Member ℕ) (ms : List (Member ℕ)) → map untold_method (methods_in (m ∷ ms)) ≡ map untold_method (methods_in (m ∷ [])) ++ map untold_method (methods_in ms)
methods_split (member.Method m) ms = refl
methods_split (member.Section s) ms = refl

pub types_split : (d : Decl ℕ) (ds : List (Decl ℕ)) → untold_types (d ∷ ds) ≡ untold_types (d ∷ []) ++ untold_types ds
types_split (declaration.Types l ts) ds = ap (λ xs. xs ++ untold_types ds) (sym (append-nil (map (λ t. untold_type t.name) ts)))
types_split (declaration.Class c) ds = refl
types_split (declaration.Interface i) ds = refl
types_split (declaration.Globals s) ds = refl
types_split (declaration.Function f) ds = refl
types_split (declaration.Program p) ds = refl
types_split (declaration.Configuration c) ds = refl

pub parts_split : (d : Decl ℕ) (ds : List (Decl ℕ)) → map (λ t. untold_parts t.body) (entries_in (d ∷ ds)) ≡ map (λ t. untold_parts t.body) (entries_in (d ∷ [])) ++ map (λ t. untold_parts t.body) (entries_in ds)
parts_split (declaration.Types l ts) ds =
    map-append (λ (t : TypeDecl ℕ). untold_parts t.body) ts (entries_in ds)
    ∙ ap (λ xs. map (λ (t : TypeDecl ℕ). untold_parts t.body) xs ++ map (λ (t : TypeDecl ℕ). untold_parts t.body) (entries_in ds)) (sym (append-nil ts))
parts_split (declaration.Class c) ds = refl
parts_split (declaration.Interface i) ds = refl
parts_split (declaration.Globals s) ds = refl
parts_split (declaration.Function f) ds = refl
parts_split (declaration.Program p) ds = refl
parts_split (declaration.Configuration c) ds = refl

pub interfaces_split : (d : Decl ℕ) (ds : List (Decl ℕ)) → untold_interfaces (d ∷ ds) ≡ untold_interfaces (d ∷ []) ++ untold_interfaces ds
interfaces_split (declaration.Types l ts) ds = refl
interfaces_split (declaration.Class c) ds = refl
interfaces_split (declaration.Interface i) ds = refl
interfaces_split (declaration.Globals s) ds = refl
interfaces_split (declaration.Function f) ds = refl
interfaces_split (declaration.Program p) ds = refl
interfaces_split (declaration.Configuration c) ds = refl
