-- Tables of names.
use Rattle.std.specs.Prelude.{◌≡◌, ℕ, ◌+◌, nat_eq, Bool, true, false, ◌&&◌, if◌then◌else◌, List, [], ◌∷◌, Option, Some, None}
use Rattle.std.specs.Cmp.Lexicographic.{pointwise}
use Rattle.std.specs.HashMap.{HashMap, get}
use Rattle.std.specs.declared.hash.FoldHasher.{FoldHasher}
use Rattle.std.specs.declared.hash.BuildHasherDefault.{BuildHasherDefault}
use Rattle.plc_text.specs.Words.{same}
use Rattle.st_tree.specs.declared.declaration.ClassDecl.{ClassDecl}
use Rattle.st_tree.specs.declared.declaration.InterfaceDecl.{InterfaceDecl}
use Rattle.st_tree.specs.declared.declaration.Member.{Member}
use Rattle.st_tree.specs.declared.declaration.Member.TheVariants as member
use Rattle.st_tree.specs.declared.declaration.ProgramDecl.{ProgramDecl}
use Rattle.st_tree.specs.declared.program.Note.{Note}

-- a table of places by name
abbrev pub Table : Type 0
Table = HashMap (List ℕ) ℕ (BuildHasherDefault FoldHasher)

abbrev pub found_in : Table → List ℕ → Option ℕ
found_in table name = get (pointwise nat_eq) table name

module _ {X : Type 0} (name_of : X → List ℕ) (test : X → Bool) where
  -- the place of the first of the name that passes, where the list begins at place i
  abbrev pub first_from : ℕ → List X → List ℕ → Option ℕ
  first_from i [] name = None
  first_from i (x ∷ xs) name = if test x && same (name_of x) name then Some i else first_from (i + 1) xs name

  -- the table finds what the search finds, where the list begins at this place
  pub record IsTableOf (first : ℕ) (table : Table) (xs : List X) : Type 0 where
    pub finds : (name : List ℕ) → found_in table name ≡ first_from first xs name

abbrev pub class_name : ClassDecl Note → List ℕ
class_name d = d.name.text

abbrev pub program_name : ProgramDecl Note → List ℕ
program_name d = d.name.text

abbrev pub interface_name : InterfaceDecl Note → List ℕ
interface_name d = d.name.text

abbrev pub is_method : Member Note → Bool
is_method (member.Method m) = true
is_method (member.Section s) = false

abbrev pub method_name : Member Note → List ℕ
method_name (member.Method m) = m.name.text
method_name (member.Section s) = []

-- each table is one of the methods among the members of its class
abbrev pub AreMemberTables : List Table → List (ClassDecl Note) → Type 0
AreMemberTables [] [] = Unit {0}
AreMemberTables (t ∷ ts) (d ∷ ds) = IsTableOf method_name is_method 0 t d.members × AreMemberTables ts ds
AreMemberTables _ _ = ⊥
