-- One declaration more, with its tree.
use Rattle.std.proofs.Common.{◌≡◌, ℕ, zero, suc, ◌+◌, List, [], ◌∷◌, ◌++◌, length, refl, sym, ap, ◌∙◌, subst, arith}
use Rattle.std.specs.Prelude.{Bool, false, filter}
use Rattle.st_tree.specs.declared.declaration.ClassDecl.{ClassDecl}
use Rattle.st_tree.specs.declared.declaration.FunctionDecl.{FunctionDecl}
use Rattle.st_tree.specs.declared.declaration.InterfaceDecl.{InterfaceDecl}
use Rattle.st_tree.specs.declared.declaration.ProgramDecl.{ProgramDecl}
use Rattle.st_tree.specs.declared.declaration.TypeDecl.{TypeDecl}
use Rattle.st_tree.specs.declared.program.Note.{Note}
use Rattle.st_tree.specs.declared.unit.Decl.{Decl}
use Rattle.st_unit_rules.specs.declared_names.Declarations.{Declaration, Global, a_class, a_configuration, a_function, a_global, a_program, an_entry, an_interface, is_class, name_of}
use Rattle.check_names.specs.declarations_before.Before.{StandsBefore}
use Rattle.check_names.proofs.declarations_before.BeforeLaws.{counted_more}
use Rattle.check_names.specs.declared.declarations_before.before.DeclarationsBefore.{DeclarationsBefore}
use Rattle.check_names.specs.declarations_before.Private.Counts.{one_if}
use Rattle.st_unit_rules.specs.passing_laws.Passing.{At, no_declarations, with_any}
use Rattle.st_unit_rules.specs.Checked.{Each, EachFrom, TypedClass, TypedEntry, TypedFunction, TypedInterface, TypedProgram}
use Rattle.st_check_decl.specs.declared.checked_declarations.so_far.CheckedSoFar.{CheckedSoFar}
use Rattle.st_check_decl.specs.declared.checked_declarations.trees.Trees.{Trees}
use Rattle.st_check_decl.specs.checked_declarations.SoFar.{Passed}

each_behind : {A B : Type 0} (R : A → B → Type 0) (xs : List A) (ys : List B) (x : A) (y : B) → Each R xs ys → R x y → Each R (xs ++ x ∷ []) (ys ++ y ∷ [])
each_behind R [] [] x y h r = (r, tt)
each_behind R (u ∷ us) (v ∷ vs) x y h r = (h.0, each_behind R us vs x y h.1 r)
each_behind R [] (v ∷ vs) x y h r = absurd h
each_behind R (u ∷ us) [] x y h r = absurd h

each_more : {A B : Type 0} (R : A → B → Type 0) (xs : List A) (ys zs : List B) (x : A) (y : B) → zs ≡ ys ++ y ∷ [] → Each R xs ys → R x y → Each R (xs ++ x ∷ []) zs
each_more R xs ys zs x y e h r = subst (λ us. Each R (xs ++ x ∷ []) us) (sym e) (each_behind R xs ys x y h r)

from_more : {A B : Type 0} (R : ℕ → A → B → Type 0) (n : ℕ) (xs : List A) (ys : List B) (x : A) (y : B) → EachFrom R n xs ys → R (n + length xs) x y → EachFrom R n (xs ++ x ∷ []) (ys ++ y ∷ [])
from_more R n [] [] x y h r = (subst (λ k. R k x y) (let e : n + 0 ≡ n = omega arith in e) r, tt)
from_more R n (u ∷ us) (v ∷ vs) x y h r = (h.0, from_more R (suc n) us vs x y h.1 (subst (λ k. R k x y) (let e : n + suc (length us) ≡ suc n + length us = omega arith in e) r))
from_more R n [] (v ∷ vs) x y h r = absurd h
from_more R n (u ∷ us) [] x y h r = absurd h

length_more : {A : Type 0} (xs : List A) (x : A) → length (xs ++ x ∷ []) ≡ 1 + length xs
length_more [] x = refl
length_more (y ∷ ys) x = let h : length (ys ++ x ∷ []) ≡ 1 + length ys = length_more ys x in omega (arith, h)

-- what is no class leaves their number
same_count : (es : List Declaration) (d : Declaration) → is_class d ≡ false → length (filter is_class (es ++ d ∷ [])) ≡ length (filter is_class es)
same_count es d k = counted_more is_class es d ∙ ap (λ (t : Bool). one_if t + length (filter is_class es)) k ∙ (let z : 0 + length (filter is_class es) ≡ length (filter is_class es) = omega arith in z)

module _ (decls : List (Decl ℕ)) (old new : CheckedSoFar) (a : At) (p : Passed old decls a) where
  abbrev Before : Declaration → Type 0
  Before d = StandsBefore new.before (a.earlier ++ d ∷ []) (a.names ++ (name_of d).text ∷ [])

  pub entry_passed : (t : TypeDecl ℕ) (y : TypeDecl Note) → Before (an_entry t) → new.trees ≡ record old.trees { types = old.trees.types ++ y ∷ [] } → TypedEntry decls t y → Passed new decls (with_any a (an_entry t))
  entry_passed t y b e r = record {
    before = b;
    class_count = same_count a.earlier (an_entry t) refl ∙ p.class_count;
    types = each_more (TypedEntry decls) a.types old.trees.types new.trees.types t y (ap (λ x. x.types) e) p.types r;
    classes = subst (λ (ys : List (ClassDecl Note)). EachFrom (TypedClass decls) 0 a.classes ys) (sym (ap (λ x. x.classes) e)) p.classes;
    interfaces = subst (λ (ys : List (InterfaceDecl Note)). Each (TypedInterface decls) a.interfaces ys) (sym (ap (λ x. x.interfaces) e)) p.interfaces;
    functions = subst (λ (ys : List (FunctionDecl Note)). Each (TypedFunction decls) a.functions ys) (sym (ap (λ x. x.functions) e)) p.functions;
    programs = subst (λ (ys : List (ProgramDecl Note)). Each (TypedProgram decls) a.programs ys) (sym (ap (λ x. x.programs) e)) p.programs;
  }

  pub interface_passed : (t : InterfaceDecl ℕ) (y : InterfaceDecl Note) → Before (an_interface t) → new.trees ≡ record old.trees { interfaces = old.trees.interfaces ++ y ∷ [] } → TypedInterface decls t y → Passed new decls (with_any a (an_interface t))
  interface_passed t y b e r = record {
    before = b;
    class_count = same_count a.earlier (an_interface t) refl ∙ p.class_count;
    types = subst (λ (ys : List (TypeDecl Note)). Each (TypedEntry decls) a.types ys) (sym (ap (λ x. x.types) e)) p.types;
    classes = subst (λ (ys : List (ClassDecl Note)). EachFrom (TypedClass decls) 0 a.classes ys) (sym (ap (λ x. x.classes) e)) p.classes;
    interfaces = each_more (TypedInterface decls) a.interfaces old.trees.interfaces new.trees.interfaces t y (ap (λ x. x.interfaces) e) p.interfaces r;
    functions = subst (λ (ys : List (FunctionDecl Note)). Each (TypedFunction decls) a.functions ys) (sym (ap (λ x. x.functions) e)) p.functions;
    programs = subst (λ (ys : List (ProgramDecl Note)). Each (TypedProgram decls) a.programs ys) (sym (ap (λ x. x.programs) e)) p.programs;
  }

  pub function_passed : (t : FunctionDecl ℕ) (y : FunctionDecl Note) → Before (a_function t) → new.trees ≡ record old.trees { functions = old.trees.functions ++ y ∷ [] } → TypedFunction decls t y → Passed new decls (with_any a (a_function t))
  function_passed t y b e r = record {
    before = b;
    class_count = same_count a.earlier (a_function t) refl ∙ p.class_count;
    types = subst (λ (ys : List (TypeDecl Note)). Each (TypedEntry decls) a.types ys) (sym (ap (λ x. x.types) e)) p.types;
    classes = subst (λ (ys : List (ClassDecl Note)). EachFrom (TypedClass decls) 0 a.classes ys) (sym (ap (λ x. x.classes) e)) p.classes;
    interfaces = subst (λ (ys : List (InterfaceDecl Note)). Each (TypedInterface decls) a.interfaces ys) (sym (ap (λ x. x.interfaces) e)) p.interfaces;
    functions = each_more (TypedFunction decls) a.functions old.trees.functions new.trees.functions t y (ap (λ x. x.functions) e) p.functions r;
    programs = subst (λ (ys : List (ProgramDecl Note)). Each (TypedProgram decls) a.programs ys) (sym (ap (λ x. x.programs) e)) p.programs;
  }

  pub program_passed : (t : ProgramDecl ℕ) (y : ProgramDecl Note) → Before (a_program t) → new.trees ≡ record old.trees { programs = old.trees.programs ++ y ∷ [] } → TypedProgram decls t y → Passed new decls (with_any a (a_program t))
  program_passed t y b e r = record {
    before = b;
    class_count = same_count a.earlier (a_program t) refl ∙ p.class_count;
    types = subst (λ (ys : List (TypeDecl Note)). Each (TypedEntry decls) a.types ys) (sym (ap (λ x. x.types) e)) p.types;
    classes = subst (λ (ys : List (ClassDecl Note)). EachFrom (TypedClass decls) 0 a.classes ys) (sym (ap (λ x. x.classes) e)) p.classes;
    interfaces = subst (λ (ys : List (InterfaceDecl Note)). Each (TypedInterface decls) a.interfaces ys) (sym (ap (λ x. x.interfaces) e)) p.interfaces;
    functions = subst (λ (ys : List (FunctionDecl Note)). Each (TypedFunction decls) a.functions ys) (sym (ap (λ x. x.functions) e)) p.functions;
    programs = each_more (TypedProgram decls) a.programs old.trees.programs new.trees.programs t y (ap (λ x. x.programs) e) p.programs r;
  }

  -- the number of a class is that of the classes before it
  pub class_number : (n : ℕ) → n ≡ length (filter is_class a.earlier) → n ≡ length a.classes
  class_number n e = e ∙ p.class_count

  pub class_passed : (n : ℕ) (t : ClassDecl ℕ) (y : ClassDecl Note) → n ≡ length (filter is_class a.earlier) → Before (a_class t) → new.trees ≡ record old.trees { classes = old.trees.classes ++ y ∷ [] } → TypedClass decls n t y → Passed new decls (with_any a (a_class t))
  class_passed n t y m b e r = record {
    before = b;
    class_count = counted_more is_class a.earlier (a_class t) ∙ ap (λ k. 1 + k) p.class_count ∙ sym (length_more a.classes t);
    types = subst (λ (ys : List (TypeDecl Note)). Each (TypedEntry decls) a.types ys) (sym (ap (λ x. x.types) e)) p.types;
    classes = subst (λ (ys : List (ClassDecl Note)). EachFrom (TypedClass decls) 0 (a.classes ++ t ∷ []) ys) (sym (ap (λ x. x.classes) e))
        (from_more (TypedClass decls) 0 a.classes old.trees.classes t y p.classes (subst (λ k. TypedClass decls k t y) (class_number n m ∙ (let z : length a.classes ≡ 0 + length a.classes = omega arith in z)) r));
    interfaces = subst (λ (ys : List (InterfaceDecl Note)). Each (TypedInterface decls) a.interfaces ys) (sym (ap (λ x. x.interfaces) e)) p.interfaces;
    functions = subst (λ (ys : List (FunctionDecl Note)). Each (TypedFunction decls) a.functions ys) (sym (ap (λ x. x.functions) e)) p.functions;
    programs = subst (λ (ys : List (ProgramDecl Note)). Each (TypedProgram decls) a.programs ys) (sym (ap (λ x. x.programs) e)) p.programs;
  }

  -- what has no tree of its own
  pub plain_passed : (d : Declaration) (b : At) → Before d → new.trees ≡ old.trees → is_class d ≡ false → b ≡ record a { earlier = a.earlier ++ d ∷ []; names = a.names ++ (name_of d).text ∷ []; regions = b.regions } → Passed new decls b
  plain_passed d b s e k q = subst (λ (z : At). Passed new decls z) (sym q) (record {
    before = s;
    class_count = same_count a.earlier d k ∙ p.class_count;
    types = subst (λ (ys : List (TypeDecl Note)). Each (TypedEntry decls) a.types ys) (sym (ap (λ x. x.types) e)) p.types;
    classes = subst (λ (ys : List (ClassDecl Note)). EachFrom (TypedClass decls) 0 a.classes ys) (sym (ap (λ x. x.classes) e)) p.classes;
    interfaces = subst (λ (ys : List (InterfaceDecl Note)). Each (TypedInterface decls) a.interfaces ys) (sym (ap (λ x. x.interfaces) e)) p.interfaces;
    functions = subst (λ (ys : List (FunctionDecl Note)). Each (TypedFunction decls) a.functions ys) (sym (ap (λ x. x.functions) e)) p.functions;
    programs = subst (λ (ys : List (ProgramDecl Note)). Each (TypedProgram decls) a.programs ys) (sym (ap (λ x. x.programs) e)) p.programs;
  })

pub nothing_passed : (x : CheckedSoFar) → StandsBefore x.before [] [] → x.trees.types ≡ [] → x.trees.classes ≡ [] → x.trees.interfaces ≡ [] → x.trees.functions ≡ [] → x.trees.programs ≡ [] → (decls : List (Decl ℕ)) → Passed x decls no_declarations
nothing_passed x b t k i f p decls = record {
  before = b;
  class_count = refl;
  types = subst (λ (ys : List (TypeDecl Note)). Each (TypedEntry decls) [] ys) (sym t) tt;
  classes = subst (λ (ys : List (ClassDecl Note)). EachFrom (TypedClass decls) 0 [] ys) (sym k) tt;
  interfaces = subst (λ (ys : List (InterfaceDecl Note)). Each (TypedInterface decls) [] ys) (sym i) tt;
  functions = subst (λ (ys : List (FunctionDecl Note)). Each (TypedFunction decls) [] ys) (sym f) tt;
  programs = subst (λ (ys : List (ProgramDecl Note)). Each (TypedProgram decls) [] ys) (sym p) tt;
}
