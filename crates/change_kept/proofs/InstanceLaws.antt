-- The instances that are found so far, and those that are left.
use Rattle.std.proofs.Common.{◌≡◌, ◌≤◌, ◌<◌, ℕ, zero, suc, ◌+◌, ◌-◌, ℤ, pos, Bool, true, false, List, [], ◌∷◌, ◌++◌, length, drop, get_or, append_assoc, append-nil, Option, Some, None, refl, sym, ap, ap₂, ◌∙◌, arith, add-one, subst, Bor}
use Rattle.std.proofs.lemmas.List.{map-append, length-map}
use Rattle.std.proofs.lemmas.Option.{slice_get_read}
use Rattle.std.specs.Prelude.{◌+ℤ◌, not, if◌then◌else◌, option_map, slice_get}
use Rattle.st_tree.specs.declared.path.Path.{Path}
use Rattle.st_tree.specs.declared.path.Step.TheVariants as step
use Rattle.st_rules.proofs.ListLaws.{drop-at, drop-end}
use Rattle.st_tree.specs.declared.program.Program.{Program as CheckedProgram}
use Rattle.st_values.specs.View.{program_of, region_of}
use Rattle.st_values.specs.Program.{Class, Region, Program, class_at}
use Rattle.st_values.specs.Shape.{Shape, Elementary, Enumeration, Reference, Interface, Array, Structure, Instance, Fields, no_fields, region_shape}
use Rattle.st_change.specs.Hook.{class_name}
use Rattle.st_change.specs.Instances.{Member, further, along_elements, walk_region, of_regions}
use Rattle.reference_hooks.specs.declared.hooks.Instance.{Instance as CodeInstance}
use Rattle.reference_hooks.specs.Hooks.{member_of}
use Rattle.shape_trees.specs.declared.shape.Shape.{Shape as CodeShape}
use Rattle.shape_trees.specs.declared.shape.Shape.TheVariants as code
use Rattle.shape_trees.specs.declared.shape.Field.{Field as CodeField}
use Rattle.shape_trees.specs.Numbers.{is_numbered, is_numbered_at, are_numbered}
use Rattle.shape_trees.specs.Shape.{shape_of, fields_of, field-is, shape-Elementary, shape-Enumeration, shape-Reference, shape-Interface, shape-Array, shape-Structure, shape-Instance}
use Rattle.shape_trees.specs.Unfolding.{joined, AreShapes}
use Rattle.shape_trees.proofs.NumberLaws.{structure_numbers, class_numbers, element_numbered, field_numbered}
use Rattle.change_kept.specs.declared.instances.Owner.{Owner}
use Rattle.change_kept.specs.declared.instances.Owner.TheVariants as owner
use Rattle.change_kept.specs.Private.Instances.{is_first, in_shape, in_fields, all_of, AddsShape, AddsFields, AddsElements, AddsRegion}

-- ---- shapes without parts

module _ (o : Owner) (q : Path) (xs : List CodeInstance) where
  adds_none : (sh : CodeShape) → in_shape o (shape_of sh) q ≡ [] → AddsShape o sh q xs xs
  adds_none sh h = record { by = λ p n. sym (ap (λ ys. all_of p xs ++ ys) h ∙ append-nil (all_of p xs)) }

  bare_elementary : (w : Owner) (e : _) → in_shape w (Elementary e) q ≡ []
  bare_elementary owner.First e = refl
  bare_elementary owner.Last e = refl

  bare_enumeration : (w : Owner) (n : List ℕ) (vs : List (List ℕ)) → in_shape w (Enumeration n vs) q ≡ []
  bare_enumeration owner.First n vs = refl
  bare_enumeration owner.Last n vs = refl

  bare_reference : (w : Owner) (c : ℕ) (n : List ℕ) → in_shape w (Reference c n) q ≡ []
  bare_reference owner.First c n = refl
  bare_reference owner.Last c n = refl

  bare_interface : (w : Owner) (c : ℕ) (n : List ℕ) → in_shape w (Interface c n) q ≡ []
  bare_interface owner.First c n = refl
  bare_interface owner.Last c n = refl

  pub adds_elementary : (sh : CodeShape) (e : _) → sh ≡ code.Elementary e → AddsShape o sh q xs xs
  adds_elementary sh e h = adds_none sh (ap (λ x. in_shape o x q) (ap shape_of h ∙ shape-Elementary e) ∙ bare_elementary o e)

  pub adds_enumeration : (sh : CodeShape) (name : _) (values : _) → sh ≡ code.Enumeration name values → AddsShape o sh q xs xs
  adds_enumeration sh name values h = adds_none sh (ap (λ x. in_shape o x q) (ap shape_of h ∙ shape-Enumeration name values) ∙ bare_enumeration o name.now _)

  pub adds_reference : (sh : CodeShape) (c : ℕ) (name : Bor (List ℕ)) → sh ≡ code.Reference c name → AddsShape o sh q xs xs
  adds_reference sh c name h = adds_none sh (ap (λ x. in_shape o x q) (ap shape_of h ∙ shape-Reference c name) ∙ bare_reference o c name.now)

  pub adds_interface : (sh : CodeShape) (c : ℕ) (name : Bor (List ℕ)) → sh ≡ code.Interface c name → AddsShape o sh q xs xs
  adds_interface sh c name h = adds_none sh (ap (λ x. in_shape o x q) (ap shape_of h ∙ shape-Interface c name) ∙ bare_interface o c name.now)

-- ---- shapes with parts

in_array : (o : Owner) (q : Path) (low : ℤ) (n : ℕ) (sh : Shape) → in_shape o (Array low n sh) q ≡ along_elements (in_shape o sh) q low n
in_array owner.First q low n sh = refl
in_array owner.Last q low n sh = refl

in_structure : (o : Owner) (q : Path) (name : List ℕ) (fs : Fields) → in_shape o (Structure name fs) q ≡ in_fields o fs q 0
in_structure owner.First q name fs = refl
in_structure owner.Last q name fs = refl

-- the name of a class
abbrev name_in : Option Class → List ℕ
name_in None = []
name_in (Some k) = k.name

class_called : (p : Program) (c : ℕ) (name : List ℕ) → option_map (λ k. k.name) (class_at p c) ≡ Some name → class_name p c ≡ name
class_called p c name e = written ∙ by (class_at p c) e
  where
    or_nothing : Option (List ℕ) → List ℕ
    or_nothing None = []
    or_nothing (Some n) = n

    by : (o : Option Class) → option_map (λ k. k.name) o ≡ Some name → name_in o ≡ name
    by None h = absurd cc
    by (Some k) h = ap or_nothing h

    written : class_name p c ≡ name_in (class_at p c)
    written = refl

module _ (o : Owner) (sh : CodeShape) (q : Path) (xs : List CodeInstance) where
  pub adds_array : (low : ℤ) (n : ℕ) (element inner : CodeShape) (ys : List CodeInstance) → sh ≡ code.Array low n element → inner ≡ element → AddsElements o inner q low n xs ys → AddsShape o sh q xs ys
  adds_array low n element inner ys e i added = record {
    by = λ p h.
        added.by p (ap (is_numbered p) i ∙ element_numbered p low n element (ap (is_numbered p) (sym e) ∙ h))
        ∙ ap (λ x. all_of p xs ++ along_elements (in_shape o (shape_of x)) q low n) i
        ∙ ap (λ zs. all_of p xs ++ zs) (sym (ap (λ x. in_shape o x q) (ap shape_of e ∙ shape-Array low n element) ∙ in_array o q low n (shape_of element)));
  }

  pub adds_structure : (n : ℕ) (name : Bor (List ℕ)) (fs gs : List CodeField) (ys : List CodeInstance) → sh ≡ code.Structure n name fs → gs ≡ fs → AddsFields o gs q xs ys → AddsShape o sh q xs ys
  adds_structure n name fs gs ys e i added = record {
    by = λ p h.
        added.by p (ap (are_numbered p) i ∙ (structure_numbers p n name fs (ap (is_numbered p) (sym e) ∙ h)).below)
        ∙ ap (λ us. all_of p xs ++ in_fields o (fields_of us) q 0) i
        ∙ ap (λ zs. all_of p xs ++ zs) (sym (ap (λ x. in_shape o x q) (ap shape_of e ∙ shape-Structure n name fs) ∙ in_structure o q name.now (fields_of fs)));
  }

module _ (sh : CodeShape) (q : Path) (xs ys zs us : List CodeInstance) (c : ℕ) (name : Bor (List ℕ)) (fs gs : List CodeField) where
  abbrev own : CodeInstance
  own = record { path = q; class = c }

  abbrev owning : Member
  owning = record { path = q; class = c; name = name.now }

  owner_is : (p : Program) → sh ≡ code.Instance c name fs → is_numbered p sh ≡ true → member_of p own ≡ owning
  owner_is p e h = ap (λ (n : List ℕ). record { path = q; class = c; name = n }) (class_called p c name.now (class_numbers p c name fs (ap (is_numbered p) (sym e) ∙ h)).called)

  wanted_once : (p : Program) (a : Bool) (before after : List CodeInstance) → a ≡ true → after ≡ before ++ (if a then own ∷ [] else []) → all_of p after ≡ all_of p before ++ member_of p own ∷ []
  wanted_once p a before after e h = ap (all_of p) (h ∙ ap (λ b. before ++ (if b then own ∷ [] else [])) e) ∙ map-append (member_of p) before (own ∷ [])

  not_wanted : (p : Program) (a : Bool) (before after : List CodeInstance) → a ≡ false → after ≡ before ++ (if a then own ∷ [] else []) → all_of p after ≡ all_of p before
  not_wanted p a before after e h = ap (all_of p) (h ∙ ap (λ b. before ++ (if b then own ∷ [] else [])) e ∙ append-nil before)

  fields_added : (o : Owner) (p : Program) → sh ≡ code.Instance c name fs → gs ≡ fs → AddsFields o gs q ys zs → is_numbered p sh ≡ true → all_of p zs ≡ all_of p ys ++ in_fields o (fields_of fs) q 0
  fields_added o p e i added h =
      added.by p (ap (are_numbered p) i ∙ (class_numbers p c name fs (ap (is_numbered p) (sym e) ∙ h)).below) ∙ ap (λ ws. all_of p ys ++ in_fields o (fields_of ws) q 0) i

  shape_is : (o : Owner) → sh ≡ code.Instance c name fs → in_shape o (shape_of sh) q ≡ in_shape o (Instance c name.now (fields_of fs)) q
  shape_is o e = ap (λ x. in_shape o x q) (ap shape_of e ∙ shape-Instance c name fs)

  pub adds_instance : (o : Owner) (a b : Bool) → sh ≡ code.Instance c name fs → gs ≡ fs → a ≡ is_first o → b ≡ not a → ys ≡ xs ++ (if a then own ∷ [] else []) → AddsFields o gs q ys zs → us ≡ zs ++ (if b then own ∷ [] else []) → AddsShape o sh q xs us
  adds_instance owner.First a b e i f g first added last = record {
    by = λ p h.
        not_wanted p b zs us (g ∙ ap not f) last ∙ fields_added owner.First p e i added h
        ∙ ap (λ ws. ws ++ in_fields owner.First (fields_of fs) q 0) (wanted_once p a xs ys f first)
        ∙ append_assoc (all_of p xs) (member_of p own ∷ []) (in_fields owner.First (fields_of fs) q 0)
        ∙ ap (λ m. all_of p xs ++ m ∷ in_fields owner.First (fields_of fs) q 0) (owner_is p e h)
        ∙ ap (λ ws. all_of p xs ++ ws) (sym (shape_is owner.First e));
  }
  adds_instance owner.Last a b e i f g first added last = record {
    by = λ p h.
        wanted_once p b zs us (g ∙ ap not f) last
        ∙ ap (λ ws. ws ++ member_of p own ∷ []) (fields_added owner.Last p e i added h ∙ ap (λ ws. ws ++ in_fields owner.Last (fields_of fs) q 0) (not_wanted p a xs ys f first))
        ∙ append_assoc (all_of p xs) (in_fields owner.Last (fields_of fs) q 0) (member_of p own ∷ [])
        ∙ ap (λ m. all_of p xs ++ (in_fields owner.Last (fields_of fs) q 0 ++ m ∷ [])) (owner_is p e h)
        ∙ ap (λ ws. all_of p xs ++ ws) (sym (shape_is owner.Last e));
  }

-- ---- fields

joins : (a b c d x y : List Member) → a ≡ b ++ x → b ++ (x ++ y) ≡ c ++ d → a ++ y ≡ c ++ d
joins a b c d x y e h = ap (λ us. us ++ y) e ∙ append_assoc b x y ∙ h

first_fields : (o : Owner) (q : Path) (k : ℕ) (x : CodeField) (fs : List CodeField) → in_fields o (fields_of (x ∷ fs)) q k ≡ in_shape o (shape_of x.shape) (further q (step.Field k)) ++ in_fields o (fields_of fs) q (suc k)
first_fields owner.First q k x fs = ap (λ sh. in_shape owner.First sh (further q (step.Field k)) ++ in_fields owner.First (fields_of fs) q (suc k)) (ap (λ y. y.1) (field-is x))
first_fields owner.Last q k x fs = ap (λ sh. in_shape owner.Last sh (further q (step.Field k)) ++ in_fields owner.Last (fields_of fs) q (suc k)) (ap (λ y. y.1) (field-is x))

no_fields_left : (o : Owner) (q : Path) (k : ℕ) → in_fields o no_fields q k ≡ []
no_fields_left owner.First q k = refl
no_fields_left owner.Last q k = refl

-- what is left, behind what was found, makes the whole
pub record FieldsLeft (o : Owner) (fs : List CodeField) (q : Path) (k : ℕ) (before now : List CodeInstance) : Type 0 where
  pub by : (p : Program) → are_numbered p fs ≡ true → all_of p now ++ in_fields o (fields_of (drop k fs)) q k ≡ all_of p before ++ in_fields o (fields_of fs) q 0

module _ (o : Owner) (fs : List CodeField) (q : Path) (before : List CodeInstance) where
  pub fields_begun : FieldsLeft o fs q 0 before before
  fields_begun = record { by = λ p h. refl }

  pub fields_next : (k : ℕ) (x : CodeField) (now after : List CodeInstance) → k < length fs → x ≡ get_or fs k x → FieldsLeft o fs q k before now → AddsShape o x.shape (further q (step.Field k)) now after → FieldsLeft o fs q (k + 1) before after
  fields_next k x now after l is left added = record {
    by = λ p h.
        joins (all_of p after) (all_of p now) (all_of p before) (in_fields o (fields_of fs) q 0) (in_shape o (shape_of x.shape) (further q (step.Field k))) (in_fields o (fields_of (drop (k + 1) fs)) q (k + 1))
        (added.by p (field_numbered p fs k x h (slice_get_read fs (length fs) k x refl l is)))
        (ap (λ us. all_of p now ++ us)
        (ap (λ j. in_shape o (shape_of x.shape) (further q (step.Field k)) ++ in_fields o (fields_of (drop (k + 1) fs)) q j) (add-one k)
        ∙ sym (first_fields o q k x (drop (k + 1) fs)) ∙ ap (λ us. in_fields o (fields_of us) q k) (sym (drop-at fs k x l is)))
        ∙ left.by p h);
  }

  pub fields_ended : (k : ℕ) (now : List CodeInstance) → length fs ≤ k → FieldsLeft o fs q k before now → AddsFields o fs q before now
  fields_ended k now l left = record {
    by = λ p h.
        sym (append-nil (all_of p now)) ∙ ap (λ us. all_of p now ++ us) (sym (ap (λ us. in_fields o (fields_of us) q k) (drop-end fs k l) ∙ no_fields_left o q k)) ∙ left.by p h;
  }

-- ---- elements

pub record ElementsLeft (o : Owner) (sh : CodeShape) (q : Path) (low i : ℤ) (count left : ℕ) (before now : List CodeInstance) : Type 0 where
  pub by : (p : Program) → is_numbered p sh ≡ true → all_of p now ++ along_elements (in_shape o (shape_of sh)) q i left ≡ all_of p before ++ along_elements (in_shape o (shape_of sh)) q low count

module _ (o : Owner) (sh : CodeShape) (q : Path) (low : ℤ) (count : ℕ) (before : List CodeInstance) where
  pub elements_begun : ElementsLeft o sh q low low count count before before
  elements_begun = record { by = λ p h. refl }

  pub elements_next : (i : ℤ) (left : ℕ) (now after : List CodeInstance) → 0 < left → ElementsLeft o sh q low i count left before now → AddsShape o sh (further q (step.Element i)) now after → ElementsLeft o sh q low (i +ℤ pos 1) count (left - 1) before after
  elements_next i zero now after l h added = absurd (omega arith)
  elements_next i (suc left) now after l so_far added =
      let m : left ≡ suc left - 1 = omega arith in
      subst (λ (k : ℕ). ElementsLeft o sh q low (i +ℤ pos 1) count k before after) m (record {
        by = λ p h.
            joins (all_of p after) (all_of p now) (all_of p before) (along_elements (in_shape o (shape_of sh)) q low count) (in_shape o (shape_of sh) (further q (step.Element i))) (along_elements (in_shape o (shape_of sh)) q (i +ℤ pos 1) left) (added.by p h)
            (so_far.by p h);
      })

  pub elements_ended : (i : ℤ) (left : ℕ) (now : List CodeInstance) → left ≤ 0 → ElementsLeft o sh q low i count left before now → AddsElements o sh q low count before now
  elements_ended i zero now l so_far = record { by = λ p h. sym (append-nil (all_of p now)) ∙ so_far.by p h }
  elements_ended i (suc left) now l so_far = absurd (omega arith)

-- ---- regions

module _ (wanted : Bool) (o : Owner) (shapes : List (Option CodeShape)) (r : ℕ) (xs : List CodeInstance) where
  abbrev in_region : Program → List Member
  in_region p = walk_region (in_shape o) (region_shape p r) r

  pub region_unwanted : wanted ≡ false → AddsRegion wanted o shapes r xs xs
  region_unwanted e = record { by = λ p s. sym (ap (λ b. all_of p xs ++ (if b then in_region p else [])) e ∙ append-nil (all_of p xs)) }

  pub region_bare : joined (slice_get shapes r) ≡ None → AddsRegion wanted o shapes r xs xs
  region_bare e = record {
    by = λ p s.
        sym (ap (λ x. all_of p xs ++ (if wanted then walk_region (in_shape o) x r else [])) (sym (s.by r) ∙ ap (option_map shape_of) e) ∙ ap (λ ys. all_of p xs ++ ys) (either wanted) ∙ append-nil (all_of p xs));
  }
    where
      nothing : List Member
      nothing = []

      either : (b : Bool) → (if b then nothing else nothing) ≡ nothing
      either true = refl
      either false = refl

  pub region_added : (sh inner : CodeShape) (q : Path) (ys : List CodeInstance) → wanted ≡ true → joined (slice_get shapes r) ≡ Some sh → inner ≡ sh → q ≡ record { region = r; steps = [] } → AddsShape o inner q xs ys → AddsRegion wanted o shapes r xs ys
  region_added sh inner q ys w e i f added = record {
    by = λ p s.
        added.by p (ap (is_numbered p) i ∙ sym (ap (is_numbered_at p) e) ∙ s.numbered r)
        ∙ ap₂ (λ (x : CodeShape) (z : Path). all_of p xs ++ in_shape o (shape_of x) z) i f
        ∙ ap (λ x. all_of p xs ++ walk_region (in_shape o) x r) (sym (ap (option_map shape_of) e) ∙ s.by r)
        ∙ ap (λ b. all_of p xs ++ (if b then in_region p else [])) (sym w);
  }

behind_one : (xs : List Region) (r : ℕ) → r < length xs → (x : Region) × (drop r xs ≡ x ∷ drop (r + 1) xs)
behind_one [] r l = absurd (omega arith)
behind_one (x ∷ xs) zero l = (x, refl)
behind_one (x ∷ xs) (suc r) l =
    let one = behind_one xs r (omega arith) in
    let e : suc (r + 1) ≡ suc r + 1 = omega arith in
    (one.0, one.1 ∙ ap (λ k. one.0 ∷ drop k (x ∷ xs)) e)

-- how many regions there are
pub regions_within : (p : CheckedProgram) (r n : ℕ) → r < n → n ≡ length p.regions → r < length (program_of p).regions
regions_within p r n l e = subst (λ (m : ℕ). r < m) (e ∙ sym (length-map p.regions region_of)) l

pub regions_past : (p : CheckedProgram) (r n : ℕ) → n ≤ r → n ≡ length p.regions → length (program_of p).regions ≤ r
regions_past p r n l e = subst (λ (m : ℕ). m ≤ r) (e ∙ sym (length-map p.regions region_of)) l

-- what is left of the regions
pub record RegionsLeft (p : Program) (test : ℕ → Bool) (o : Owner) (r : ℕ) (now : List CodeInstance) : Type 0 where
  pub is : all_of p now ++ of_regions p test (in_shape o) r (drop r p.regions) ≡ of_regions p test (in_shape o) 0 p.regions

module _ (p : Program) (test : ℕ → Bool) (o : Owner) where
  pub regions_begun : RegionsLeft p test o 0 []
  regions_begun = record { is = refl }

  pub regions_next : (r n : ℕ) (wanted : Bool) (shapes : List (Option CodeShape)) (now after : List CodeInstance) → r < length p.regions → n ≡ r → wanted ≡ test n → AreShapes p shapes → RegionsLeft p test o r now → AddsRegion wanted o shapes n now after → RegionsLeft p test o (r + 1) after
  regions_next r n wanted shapes now after l e w s left added =
      let one = behind_one p.regions r l in
      let here : all_of p after ≡ all_of p now ++ (if test r then walk_region (in_shape o) (region_shape p r) r else []) =
      added.by p s ∙ ap₂ (λ (b : Bool) (k : ℕ). all_of p now ++ (if b then walk_region (in_shape o) (region_shape p k) k else [])) (w ∙ ap test e) e in
      record {
        is =
            ap (λ us. us ++ of_regions p test (in_shape o) (r + 1) (drop (r + 1) p.regions)) here
            ∙ append_assoc (all_of p now) (if test r then walk_region (in_shape o) (region_shape p r) r else []) (of_regions p test (in_shape o) (r + 1) (drop (r + 1) p.regions))
            ∙ ap (λ k. all_of p now ++ ((if test r then walk_region (in_shape o) (region_shape p r) r else []) ++ of_regions p test (in_shape o) k (drop (r + 1) p.regions))) (add-one r)
            ∙ ap (λ us. all_of p now ++ of_regions p test (in_shape o) r us) (sym one.1)
            ∙ left.is;
      }

  pub regions_ended : (r : ℕ) (now : List CodeInstance) → length p.regions ≤ r → RegionsLeft p test o r now → all_of p now ≡ of_regions p test (in_shape o) 0 p.regions
  regions_ended r now l left = sym (append-nil (all_of p now)) ∙ ap (λ us. all_of p now ++ of_regions p test (in_shape o) r us) (sym (drop-end p.regions r l)) ∙ left.is
