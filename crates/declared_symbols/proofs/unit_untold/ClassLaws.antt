-- Classes one by one.
use Rattle.std.proofs.Common.{◌≡◌, ℕ, suc, ◌+◌, ◌<◌, ◌≤◌, List, [], ◌∷◌, ◌++◌, map, drop, length, get_or, refl, sym, ap, ◌∙◌}
use Rattle.std.proofs.lemmas.List.{append_assoc, append-nil}
use Rattle.st_rules.proofs.ListLaws.{drop-at, drop-end}
use Rattle.st_tree.specs.declared.declaration.ClassDecl.{ClassDecl}
use Rattle.st_tree.specs.declared.unit.Decl.{Decl}
use Rattle.st_rules.specs.declared.names.DeclaredClass.{DeclaredClass}
use Rattle.st_rules.specs.declared.names.DeclaredNames.{DeclaredNames}
use Rattle.st_rules.specs.Classes.{classes_in}
use Rattle.st_unit_rules.specs.declared_names.Declarations.{entries_in}
use Rattle.st_unit_rules.specs.declared_names.UnitNames.{names_told, no_names}
use Rattle.declared_symbols.specs.untold_names.Untold.{untold_class, untold_types, untold_parts, untold_classes, untold_interfaces, untold_globals, untold_names}
use Rattle.declared_symbols.proofs.untold_names.UntoldLaws.{untold_laws}
use Rattle.declared_symbols.specs.unit_untold.Private.Counts.{kept_above, body_above, class_at, classes_from}

pub class_is : (decls : List (Decl ℕ)) (c k l : ℕ) (d : ClassDecl ℕ) (x : DeclaredClass) (old new : List DeclaredClass) → k ≡ kept_above decls c → l ≡ body_above decls c → x ≡ untold_class k l d → new ≡ old ++ x ∷ []
    → new ≡ old ++ class_at decls c d ∷ []
class_is decls c k l d x old new e f g h = h ∙ ap (λ y. old ++ y ∷ []) (g ∙ ap (λ n. untold_class n l d) e ∙ ap (λ n. untold_class (kept_above decls c) n d) f)

pub class_added : (decls : List (Decl ℕ)) (c after : ℕ) (d : ClassDecl ℕ) (old new : List DeclaredClass) (ds : List (ClassDecl ℕ)) → after ≡ suc c → new ≡ old ++ class_at decls c d ∷ []
    → new ++ classes_from decls after ds ≡ old ++ classes_from decls c (d ∷ ds)
class_added decls c after d old new ds e h =
    ap (λ n. new ++ classes_from decls n ds) e ∙ ap (λ xs. xs ++ classes_from decls (suc c) ds) h ∙ append_assoc old (class_at decls c d ∷ []) (classes_from decls (suc c) ds)

pub classes_next : (all : List (Decl ℕ)) (ds : List (Decl ℕ)) (i : ℕ) (d : Decl ℕ) (number after : ℕ) (old new whole : List DeclaredClass) → i < length ds → d ≡ get_or ds i d
    → new ++ classes_from all after (classes_in (drop (i + 1) ds)) ≡ old ++ classes_from all number (classes_in (d ∷ drop (i + 1) ds))
    → old ++ classes_from all number (classes_in (drop i ds)) ≡ whole → new ++ classes_from all after (classes_in (drop (i + 1) ds)) ≡ whole
classes_next all ds i d number after old new whole l e f h = f ∙ ap (λ xs. old ++ classes_from all number (classes_in xs)) (sym (drop-at ds i d l e)) ∙ h

pub classes_ended : (all : List (Decl ℕ)) (ds : List (Decl ℕ)) (i number : ℕ) (list whole : List DeclaredClass) → length ds ≤ i → list ++ classes_from all number (classes_in (drop i ds)) ≡ whole → list ≡ whole
classes_ended all ds i number list whole l h = sym (append-nil list) ∙ ap (λ xs. list ++ classes_from all number (classes_in xs)) (sym (drop-end ds i l)) ∙ h

names_are : (decls : List (Decl ℕ)) (n : DeclaredNames) → n.types ≡ untold_types decls → n.parts ≡ map (λ t. untold_parts t.body) (entries_in decls) → n.classes ≡ untold_classes decls → n.interfaces ≡ untold_interfaces decls → n.globals ≡ untold_globals 0 0 decls
    → n ≡ untold_names decls
unfolding untold_names
names_are decls n a b c d e = λ i. record { types = a i; parts = b i; classes = c i; interfaces = d i; globals = e i }

pub all_untold : (decls : List (Decl ℕ)) (n : DeclaredNames) → n.types ≡ untold_types decls → n.parts ≡ map (λ t. untold_parts t.body) (entries_in decls) → n.classes ≡ untold_classes decls → n.interfaces ≡ untold_interfaces decls → n.globals ≡ untold_globals 0 0 decls
    → n ≡ names_told decls 0
all_untold decls n a b c d e = names_are decls n a b c d e ∙ sym (untold_laws.names decls (no_names decls))
