-- The region of a global from its parts.
use Rattle.std.proofs.Common.{◌≡◌, ℕ, List, Bool, true, false, Option, Some, None, refl, sym, ap, ◌∙◌, subst, append-nil}
use Rattle.std.specs.Prelude.{if◌then◌else◌, option_map, [], ◌∷◌, ◌++◌}
use Rattle.plc_text.specs.Words.{same}
use Rattle.st_types.specs.declared.st_type.StType.{StType}
use Rattle.st_tree.specs.declared.marks.Marks.{Marks}
use Rattle.st_tree.specs.declared.name.Name.{Name}
use Rattle.st_tree.specs.declared.program.RegionDecl.{RegionDecl}
use Rattle.st_tree.specs.declared.unit.Decl.{Decl}
use Rattle.st_tree.specs.Initial.{initial_of}
use Rattle.st_rules.specs.Expressions.{told}
use Rattle.st_rules.specs.Scope.{Scope}
use Rattle.st_unit_rules.specs.declared_names.Declarations.{Region, of_global, region_of_global}
use Rattle.st_unit_rules.specs.declared_names.Variables.{Written}
use Rattle.st_unit_rules.specs.declared_names.WrittenTypes.{type_written}
use Rattle.st_unit_rules.specs.Checked.{Each, TypedRegion, GlobalRegion, is_first_name, marks_of}
use Rattle.st_unit_rules.specs.DeclarationRules.{unit}
use Rattle.st_unit_rules.specs.Initials.{typed_initial}
use Rattle.check_declared_variables.proofs.variable_rules.ItemLaws.{given_typed}
use Rattle.check_regions.specs.declared.region_rules.taken.TakenRegions.{TakenRegions}
use Rattle.check_regions.specs.region_rules.Taken.{Holds}
use Rattle.global_rules.specs.declared.globals.CheckedRegions.{CheckedRegions}
use Rattle.global_rules.specs.Globals.{HasRegions, made}
use Rattle.global_rules.specs.Private.Regions.{IsRegion}
use Rattle.global_rules.specs.Private.Globals.{region_when}

-- ---- marks

module _ (w : Written) (names : List Name) (b : Bool) (f : (ds : List (Decl ℕ)) → b ≡ is_first_name ds names w.name.text) (n : names ≡ w.item.names) where
  first_is : (decls : List (Decl ℕ)) → b ≡ is_first_name decls w.item.names w.name.text
  first_is decls = f decls ∙ ap (λ ns. is_first_name decls ns w.name.text) n

  pub all_marks : (m : Marks) → b ≡ true → m ≡ w.item.marks → (decls : List (Decl ℕ)) → m ≡ marks_of decls w
  all_marks m t e decls = e ∙ ap (λ (x : Bool). if x then w.item.marks else record w.item.marks { renamed_from = None }) (sym t ∙ first_is decls)

  pub other_marks : (copy m : Marks) → b ≡ false → copy ≡ w.item.marks → m ≡ record copy { renamed_from = None } → (decls : List (Decl ℕ)) → m ≡ marks_of decls w
  other_marks copy m t e r decls =
      r ∙ ap (λ (x : Marks). record x { renamed_from = None }) e ∙ ap (λ (x : Bool). if x then w.item.marks else record w.item.marks { renamed_from = None }) (sym t ∙ first_is decls)

-- ---- the region

module _ (decls : List (Decl ℕ)) (s : Scope) (kind : Option StType) (w : Written) (e : s ≡ unit decls) (k : kind ≡ type_written (unit decls) w.item.kind) where
  region_is : (r : RegionDecl) → IsRegion r s kind w → GlobalRegion decls w r
  region_is r h = record {
    name = h.name;
    program = h.program;
    kind = h.kind ∙ ap told k;
    marks = h.marks decls;
    initial = given_typed (unit decls) kind w.item.kind w.item.initial r.initial k (subst (λ (x : Scope). option_map initial_of r.initial ≡ option_map (typed_initial x kind) (option_map initial_of w.item.initial)) e h.initial);
    address = h.address;
  }

  pub has_region : (b : Bool) (o : Option RegionDecl) → region_when b o s kind w → Each (TypedRegion decls) (if b then [] else of_global w ∷ []) (made o)
  has_region true o h = subst (λ (x : Option RegionDecl). Each (TypedRegion decls) [] (made x)) (sym h) tt
  has_region false None h = absurd h
  has_region false (Some r) h = (region_is r h, tt)

pub constant_region : (o : Option RegionDecl) (s : Scope) (kind : Option StType) (w : Written) (b : Bool) → b ≡ w.constant → b ≡ true → o ≡ None → region_when w.constant o s kind w
constant_region o s kind w b e h n = subst (λ (c : Bool). region_when c o s kind w) (sym h ∙ e) n

pub variable_region : (o : Option RegionDecl) (r : RegionDecl) (s : Scope) (kind : Option StType) (w : Written) (b : Bool) → b ≡ w.constant → b ≡ false → o ≡ Some r → IsRegion r s kind w → region_when w.constant o s kind w
variable_region o r s kind w b e h n i = subst (λ (c : Bool). region_when c o s kind w) (sym h ∙ e) (subst (λ (x : Option RegionDecl). region_when false x s kind w) (sym n) i)

pub nothing_made : (rs qs : List RegionDecl) (o : Option RegionDecl) → o ≡ None → qs ≡ rs → qs ≡ rs ++ made o
nothing_made rs qs o e h = h ∙ sym (append-nil rs) ∙ ap (λ (x : Option RegionDecl). rs ++ made x) (sym e)

pub one_made : (rs qs : List RegionDecl) (o : Option RegionDecl) (r : RegionDecl) → o ≡ Some r → qs ≡ rs ++ r ∷ [] → qs ≡ rs ++ made o
one_made rs qs o r e h = h ∙ ap (λ (x : Option RegionDecl). rs ++ made x) (sym e)

each_append : {A B : Type 0} (R : A → B → Type 0) (xs us : List A) (ys vs : List B) → Each R xs ys → Each R us vs → Each R (xs ++ us) (ys ++ vs)
each_append R [] us [] vs h k = k
each_append R (x ∷ xs) us (y ∷ ys) vs h k = (h.0, each_append R xs us ys vs h.1 k)
each_append R [] us (y ∷ ys) vs h k = absurd h
each_append R (x ∷ xs) us [] vs h k = absurd h

pub regions_more : (old new : CheckedRegions) (decls : List (Decl ℕ)) (before : List Region) (w : Written) (o : Option RegionDecl) → Holds new.taken decls (before ++ region_of_global w) → Each (TypedRegion decls) (region_of_global w) (made o)
    → new.regions ≡ old.regions ++ made o → HasRegions old decls before → HasRegions new decls (before ++ region_of_global w)
regions_more old new decls before w o t r e h = record {
  taken-is = t;
  trees = subst (λ (ys : List RegionDecl). Each (TypedRegion decls) (before ++ region_of_global w) ys) (sym e) (each_append (TypedRegion decls) before (region_of_global w) old.regions (made o) h.trees r);
}

pub none_yet : (r : CheckedRegions) → ((decls : List (Decl ℕ)) → Holds r.taken decls []) → r.regions ≡ [] → (decls : List (Decl ℕ)) → HasRegions r decls []
none_yet r t e decls = record {
  taken-is = t decls;
  trees = subst (λ (ys : List RegionDecl). Each (TypedRegion decls) [] ys) (sym e) tt;
}
