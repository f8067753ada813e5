-- Classes are declared one after the other, with the numbers that they have where nothing is told.
use Rattle.std.proofs.Common.{◌≡◌, ℕ, zero, suc, ◌+◌, ◌<◌, ◌≤◌, List, [], ◌∷◌, ◌++◌, map, take, drop, length, get_or, Option, Some, None, refl, sym, ap, ◌∙◌, subst, arith, append-nil}
use Rattle.std.specs.Prelude.{slice_get, flat_map, filter}
use Rattle.std.proofs.lemmas.List.{append_assoc}
use Rattle.st_tree.specs.declared.declaration.ClassDecl.{ClassDecl}
use Rattle.st_tree.specs.declared.declaration.Member.{Member}
use Rattle.st_tree.specs.declared.unit.Decl.{Decl}
use Rattle.st_tree.specs.declared.unit.Decl.TheVariants as declaration
use Rattle.st_rules.specs.declared.names.DeclaredNames.{DeclaredNames}
use Rattle.st_rules.specs.declared.names.DeclaredClass.{DeclaredClass}
use Rattle.st_rules.specs.declared.names.DeclaredVariable.{DeclaredVariable}
use Rattle.st_rules.specs.declared.names.DeclaredRoutine.{DeclaredRoutine}
use Rattle.st_rules.specs.Classes.{classes_in, methods_in, chain}
use Rattle.st_rules.specs.Numbered.{each_numbered}
use Rattle.st_rules.specs.Scope.{Scope}
use Rattle.st_rules.proofs.ListLaws.{drop-at, drop-end, take-at}
use Rattle.st_unit_rules.specs.declared_names.Variables.{Written, sections_written, sections_in, is_kept_written, is_body_written, members_declared}
use Rattle.st_unit_rules.specs.declared_names.UnitNames.{names_from, no_names, names_told, class_scope, class_declared, method_declared, written_by, written_above}
use Rattle.declared_symbols.specs.untold_names.Untold.{untold_members, untold_class, untold_classes, untold_names, declared_by, declared_above}
use Rattle.declared_symbols.proofs.untold_names.UntoldLaws.{untold_laws}
use Rattle.symbol_table.specs.declared.unit_names.known.Known.{Known}
use Rattle.symbol_table.specs.unit_names.Private.Known.{decls_of, names_of, classes_from, IsClassAt, AddsClass}

some-same : {X : Type 0} {x y : X} → Some x ≡ Some y → x ≡ y
some-same h = cc

none-some : {X : Type 0} {x : X} → None ≡ Some x → ⊥
none-some h = cc

-- ---- the class of a number

numbered-at : {X Y : Type 0} (f : ℕ → X → Y) (n : ℕ) (xs : List X) (c : ℕ) (x : X) → slice_get xs c ≡ Some x → slice_get (each_numbered (λ m y. f m y ∷ []) n xs) c ≡ Some (f (n + c) x)
numbered-at f n [] c x e = absurd (none-some e)
numbered-at f n (y ∷ xs) zero x e = ap (λ z. Some (f n z)) (some-same e) ∙ ap (λ m. Some (f m x)) (plain n)
  where
    plain : (n : ℕ) → n ≡ n + zero
    plain n = omega arith
numbered-at f n (y ∷ xs) (suc c) x e = numbered-at f (suc n) xs c x e ∙ ap (λ m. Some (f m x)) (shifted n c)
  where
    shifted : (n c : ℕ) → suc n + c ≡ n + suc c
    shifted n c = omega arith

by-same : (o : Option (ClassDecl ℕ)) (decls : List (Decl ℕ)) (a : DeclaredNames) → declared_by decls o ≡ written_by decls a o
by-same None decls a = refl
by-same (Some d) decls a = refl

flat-same : {X Y : Type 0} (f g : X → List Y) → ((x : X) → f x ≡ g x) → (xs : List X) → flat_map f xs ≡ flat_map g xs
flat-same f g e [] = refl
flat-same f g e (x ∷ xs) = ap (λ ys. ys ++ flat_map f xs) (e x) ∙ ap (λ ys. g x ++ ys) (flat-same f g e xs)

above-same : (decls : List (Decl ℕ)) (a : DeclaredNames) (c : ℕ) → declared_above decls c ≡ written_above decls a c
above-same decls a c = flat-same (λ b. declared_by decls (slice_get (classes_in decls) b)) (λ b. written_by decls a (slice_get (classes_in decls) b)) (λ b. by-same (slice_get (classes_in decls) b) decls a) _

-- the variables of a class with nothing told
untold-at : (decls : List (Decl ℕ)) (u : DeclaredNames) (c : ℕ) (d : ClassDecl ℕ) (x : DeclaredClass) → u ≡ names_told decls 0 → slice_get (classes_in decls) c ≡ Some d → slice_get u.classes c ≡ Some x
    → x.variables ≡ untold_members (length (filter is_kept_written (declared_above decls c))) (length (filter is_body_written (declared_above decls c))) (sections_written (sections_in d.members))
unfolding untold_names
untold-at decls u c d x e h k =
    let f : u.classes ≡ untold_classes decls = ap (λ (n : DeclaredNames). n.classes) (e ∙ untold_laws.names decls (no_names decls)) in
    let g = numbered-at (λ m y. untold_class (length (filter is_kept_written (declared_above decls m))) (length (filter is_body_written (declared_above decls m))) y) 0 (classes_in decls) c d h in
    let p : zero + c ≡ c = omega arith in
    let q = some-same (sym k ∙ ap (λ xs. slice_get xs c) f ∙ g) in
    ap (λ (y : DeclaredClass). y.variables) q
    ∙ ap (λ m. untold_members (length (filter is_kept_written (declared_above decls m))) (length (filter is_body_written (declared_above decls m))) (sections_written (sections_in d.members))) p

pub class_is : (decls : List (Decl ℕ)) (a u : DeclaredNames) (c : ℕ) (d : ClassDecl ℕ) (x : DeclaredClass) (s : Scope) (vs : List DeclaredVariable) (ms : List DeclaredRoutine) (y : DeclaredClass) → u ≡ names_told decls 0 → slice_get (classes_in decls) c ≡ Some d
    → slice_get u.classes c ≡ Some x → s ≡ class_scope decls a c
    → ((k l : ℕ) → x.variables ≡ untold_members k l (sections_written (sections_in d.members)) → vs ≡ members_declared s k l (sections_in d.members)) → ms ≡ map (method_declared decls a c) (methods_in d.members)
    → y ≡ record { sort = d.sort; variables = vs; methods = ms } → y ≡ class_declared decls a c d
class_is decls a u c d x s vs ms y e h k f v m q =
    let p = v _ _ (untold-at decls u c d x e h k) in
    q
    ∙ ap (λ ws. record { sort = d.sort; variables = ws; methods = ms }) (p ∙ ap (λ t. members_declared t (length (filter is_kept_written (declared_above decls c))) (length (filter is_body_written (declared_above decls c))) (sections_in d.members)) f
    ∙ ap (λ ws. members_declared (class_scope decls a c) (length (filter is_kept_written ws)) (length (filter is_body_written ws)) (sections_in d.members)) (above-same decls a c))
    ∙ ap (λ rs. record { sort = d.sort; variables = members_declared (class_scope decls a c) (length (filter is_kept_written (written_above decls a c))) (length (filter is_body_written (written_above decls a c))) (sections_in d.members); methods = rs }) m

-- the same of what the code lends
pub class_lent : (decls : List (Decl ℕ)) (a u : DeclaredNames) (c : ℕ) (d : ClassDecl ℕ) (x : DeclaredClass) (s : Scope) (us : List DeclaredVariable) (mm : List (Member ℕ)) (vs : List DeclaredVariable) (ms : List DeclaredRoutine) → u ≡ names_told decls 0
    → slice_get (classes_in decls) c ≡ Some d → slice_get u.classes c ≡ Some x → s ≡ class_scope decls a c → us ≡ x.variables → mm ≡ d.members
    → ((k l : ℕ) → us ≡ untold_members k l (sections_written (sections_in mm)) → vs ≡ members_declared s k l (sections_in mm)) → ms ≡ map (method_declared decls a c) (methods_in mm)
    → record { sort = d.sort; variables = vs; methods = ms } ≡ class_declared decls a c d
class_lent decls a u c d x s us mm vs ms e h k f p q v m =
    class_is decls a u c d x s vs ms (record { sort = d.sort; variables = vs; methods = ms }) e h k f
    (λ i j g. v i j (p ∙ g ∙ ap (λ ns. untold_members i j (sections_written (sections_in ns))) (sym q)) ∙ ap (λ ns. members_declared s i j (sections_in ns)) q)
    (m ∙ ap (λ ns. map (method_declared decls a c) (methods_in ns)) q) refl

-- ---- one after the other

classes-append : (ds es : List (Decl ℕ)) → classes_in (ds ++ es) ≡ classes_in ds ++ classes_in es
classes-append [] es = refl
classes-append (declaration.Class c ∷ ds) es = ap (λ cs. c ∷ cs) (classes-append ds es)
classes-append (declaration.Types l ts ∷ ds) es = classes-append ds es
classes-append (declaration.Globals s ∷ ds) es = classes-append ds es
classes-append (declaration.Interface i ∷ ds) es = classes-append ds es
classes-append (declaration.Function f ∷ ds) es = classes-append ds es
classes-append (declaration.Program p ∷ ds) es = classes-append ds es
classes-append (declaration.Configuration c ∷ ds) es = classes-append ds es

numbered-append : {X Y : Type 0} (f : ℕ → X → List Y) (n : ℕ) (xs ys : List X) → each_numbered f n (xs ++ ys) ≡ each_numbered f n xs ++ each_numbered f (n + length xs) ys
numbered-append f n [] ys = ap (λ m. each_numbered f m ys) (plain n)
  where
    plain : (n : ℕ) → n ≡ n + 0
    plain n = omega arith
numbered-append f n (x ∷ xs) ys =
    ap (λ zs. f n x ++ zs) (numbered-append f (suc n) xs ys)
    ∙ ap (λ m. f n x ++ (each_numbered f (suc n) xs ++ each_numbered f m ys)) (shifted n (length xs))
    ∙ sym (append_assoc (f n x) (each_numbered f (suc n) xs) (each_numbered f (n + suc (length xs)) ys))
  where
    shifted : (n k : ℕ) → suc n + k ≡ n + suc k
    shifted n k = omega arith

-- what is declared so far, and what the rest declares
pub record ClassesTo (k : Known) (decls : List (Decl ℕ)) (now : List DeclaredClass) (number i : ℕ) : Type 0 where
  pub classes : now ++ classes_from k number (classes_in (drop i decls)) ≡ classes_from k 0 (classes_in decls)
  pub count : number ≡ length (classes_in (take i decls))

pub classes_begun : (k : Known) (decls : List (Decl ℕ)) → ClassesTo k decls [] 0 0
classes_begun k decls = record { classes = refl; count = refl }

length-append : {X : Type 0} (xs ys : List X) → length (xs ++ ys) ≡ length xs + length ys
length-append [] ys = plain (length ys)
  where
    plain : (n : ℕ) → n ≡ 0 + n
    plain n = omega arith
length-append (x ∷ xs) ys = more (length (xs ++ ys)) (length xs) (length ys) (length-append xs ys)
  where
    more : (a b c : ℕ) → a ≡ b + c → suc a ≡ suc b + c
    more a b c h = omega (arith, h)

pub classes_next : (k : Known) (decls : List (Decl ℕ)) (now more : List DeclaredClass) (number after i : ℕ) (d : Decl ℕ) → i < length decls → d ≡ get_or decls i d → AddsClass k number after d now more → ClassesTo k decls now number i
    → ClassesTo k decls more after (i + 1)
classes_next k decls now more number after i d l e g c = record {
  classes =
      ap (λ xs. xs ++ classes_from k after (classes_in (drop (i + 1) decls))) g.classes
      ∙ append_assoc now (classes_from k number (classes_in (d ∷ []))) (classes_from k after (classes_in (drop (i + 1) decls)))
      ∙ ap (λ n. now ++ (classes_from k number (classes_in (d ∷ [])) ++ classes_from k n (classes_in (drop (i + 1) decls)))) g.number
      ∙ ap (λ xs. now ++ xs) (sym (numbered-append (λ c e. class_declared (decls_of k) (names_of k) c e ∷ []) number (classes_in (d ∷ [])) (classes_in (drop (i + 1) decls))))
      ∙ ap (λ xs. now ++ classes_from k number xs) (sym (classes-append (d ∷ []) (drop (i + 1) decls)))
      ∙ ap (λ xs. now ++ classes_from k number (classes_in xs)) (sym (drop-at decls i d l e))
      ∙ c.classes;
  count =
      g.number ∙ ap (λ n. n + length (classes_in (d ∷ []))) c.count
      ∙ sym (length-append (classes_in (take i decls)) (classes_in (d ∷ [])))
      ∙ ap length (sym (classes-append (take i decls) (d ∷ [])))
      ∙ ap (λ xs. length (classes_in xs)) (sym (take-at decls i d l e));
}

pub classes_ended : (k : Known) (decls : List (Decl ℕ)) (now : List DeclaredClass) (number i : ℕ) → length decls ≤ i → ClassesTo k decls now number i → now ≡ classes_from k 0 (classes_in decls)
classes_ended k decls now number i l c = sym (append-nil now) ∙ ap (λ xs. now ++ classes_from k number (classes_in xs)) (sym (drop-end decls i l)) ∙ c.classes

get-middle : {X : Type 0} (xs ys : List X) (x : X) → slice_get (xs ++ x ∷ ys) (length xs) ≡ Some x
get-middle [] ys x = refl
get-middle (y ∷ xs) ys x = get-middle xs ys x

take-drop : {X : Type 0} (n : ℕ) (xs : List X) → take n xs ++ drop n xs ≡ xs
take-drop zero xs = refl
take-drop (suc n) [] = refl
take-drop (suc n) (x ∷ xs) = ap (λ ys. x ∷ ys) (take-drop n xs)

pub is_class_at : (k : Known) (decls all : List (Decl ℕ)) (now : List DeclaredClass) (number i : ℕ) (d : Decl ℕ) → decls ≡ all → i < length decls → d ≡ get_or decls i d → ClassesTo k decls now number i → IsClassAt all number d
is_class_at k decls all now number i d q l e c = record { there = λ x f. there x f }
  where
    split : classes_in decls ≡ classes_in (take i decls) ++ classes_in (d ∷ drop (i + 1) decls)
    split = ap classes_in (sym (take-drop i decls) ∙ ap (λ xs. take i decls ++ xs) (drop-at decls i d l e)) ∙ classes-append (take i decls) (d ∷ drop (i + 1) decls)

    there : (x : ClassDecl ℕ) → d ≡ declaration.Class x → slice_get (classes_in all) number ≡ Some x
    there x f =
        ap (λ ds. slice_get (classes_in ds) number) (sym q)
        ∙ ap (λ n. slice_get (classes_in decls) n) c.count
        ∙ ap (λ xs. slice_get xs (length (classes_in (take i decls)))) (split ∙ ap (λ y. classes_in (take i decls) ++ classes_in (y ∷ drop (i + 1) decls)) f)
        ∙ get-middle (classes_in (take i decls)) (classes_in (drop (i + 1) decls)) x

pub class_added : (k : Known) (old new : List DeclaredClass) (n m : ℕ) (c : ClassDecl ℕ) → new ≡ old ++ class_declared (decls_of k) (names_of k) n c ∷ [] → m ≡ suc n → AddsClass k n m (declaration.Class c) old new
class_added k old new n m c h e = record { classes = h; number = e ∙ more n }
  where
    more : (n : ℕ) → suc n ≡ n + 1
    more n = omega arith

nothing-added : (k : Known) (old : List DeclaredClass) (n : ℕ) (d : Decl ℕ) → classes_in (d ∷ []) ≡ [] → AddsClass k n n d old old
nothing-added k old n d e = record { classes = sym (append-nil old) ∙ ap (λ cs. old ++ classes_from k n cs) (sym e); number = plain n ∙ ap (λ (cs : List (ClassDecl ℕ)). n + length cs) (sym e) }
  where
    plain : (n : ℕ) → n ≡ n + 0
    plain n = omega arith

pub types_add_none : (k : Known) (old : List DeclaredClass) (n l : ℕ) (ts : _) → AddsClass k n n (declaration.Types l ts) old old
types_add_none k old n l ts = nothing-added k old n (declaration.Types l ts) refl

pub globals_add_none : (k : Known) (old : List DeclaredClass) (n : ℕ) (s : _) → AddsClass k n n (declaration.Globals s) old old
globals_add_none k old n s = nothing-added k old n (declaration.Globals s) refl

pub interface_adds_none : (k : Known) (old : List DeclaredClass) (n : ℕ) (i : _) → AddsClass k n n (declaration.Interface i) old old
interface_adds_none k old n i = nothing-added k old n (declaration.Interface i) refl

pub function_adds_none : (k : Known) (old : List DeclaredClass) (n : ℕ) (f : _) → AddsClass k n n (declaration.Function f) old old
function_adds_none k old n f = nothing-added k old n (declaration.Function f) refl

pub program_adds_none : (k : Known) (old : List DeclaredClass) (n : ℕ) (p : _) → AddsClass k n n (declaration.Program p) old old
program_adds_none k old n p = nothing-added k old n (declaration.Program p) refl

pub configuration_adds_none : (k : Known) (old : List DeclaredClass) (n : ℕ) (c : _) → AddsClass k n n (declaration.Configuration c) old old
configuration_adds_none k old n c = nothing-added k old n (declaration.Configuration c) refl
