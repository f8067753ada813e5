-- The variables of a class and the locals of its body, by the numbers that they are declared with: those of its bases come first.
use Rattle.std.proofs.Common.{◌≡◌, ℕ, ◌+◌, Bool, true, false, List, [], ◌∷◌, ◌++◌, reverse, length, Some, refl, sym, ap, ◌∙◌, subst, arith, append-nil}
use Rattle.std.specs.Prelude.{not, ◌&&◌, filter, flat_map, drop, slice_get}
use Rattle.std.proofs.lemmas.List.{reverse-append}
use Rattle.std.proofs.lemmas.List.Elements.{filter-append}
use Rattle.std.proofs.lemmas.Option.{slice_get_within}
use Rattle.st_tree.specs.declared.declaration.ClassDecl.{ClassDecl}
use Rattle.st_tree.specs.declared.declaration.SectionSort.{SectionSort}
use Rattle.st_tree.specs.declared.declaration.SectionSort.TheVariants as sort
use Rattle.st_tree.specs.declared.program.Note.{Note}
use Rattle.st_tree.specs.declared.program.Program.{Program as Checked}
use Rattle.st_tree.specs.declared.unit.Decl.{Decl}
use Rattle.st_rules.specs.Chains.{is_among}
use Rattle.st_rules.specs.Classes.{classes_in, chain}
use Rattle.st_rules.specs.Scope.{is_external, is_body_sort}
use Rattle.st_unit_rules.specs.declared_names.UnitNames.{unit_names, class_scope, class_declared, written_by, written_above}
use Rattle.st_unit_rules.specs.declared_names.Variables as written
use Rattle.st_unit_rules.specs.declared_names.Variables.{Written, sections_written, is_kept_written, is_body_written}
use Rattle.st_unit_rules.specs.Checked.{Each, TypedClass, IsChecked}
use Rattle.st_values.specs.Program.{Variable, class_at, chain_of, own_of, own_variables, class_variables}
use Rattle.st_values.specs.View.{is_kept, is_of_body, those, variables_in, sections_in, declared_by, declared_along, program_of}
use Rattle.resolution_order.specs.told_laws.ToldLaws.{Every}
use Rattle.accepted_texts.specs.formed_units.Formed.{IsFormed}
use Rattle.accepted_texts.proofs.unfolding_laws.ListLaws.{There, Behind, all_behind, behind_part, if_there, from_get, each_long, front_get}
use Rattle.accepted_texts.proofs.unfolding_laws.ChainLaws.{chain_there, chain_same, sections_typed, class_seen}
use Rattle.accepted_texts.proofs.sized_units.Variables.{IsOf, is_variable, test_twice, all_of, those_of, kept_of}
use Rattle.class_laws.proofs.Above.{NoCycle, EndsWith, chain_ends}
use Rattle.name_laws.proofs.Rows.{from_behind, MemberRow, members_seen}
use Rattle.name_laws.proofs.Stands.{sections_inside, members_inside, class_formed}

body_sorts : (c : Bool) (so : SectionSort) → ((not c && not (is_external so)) && is_of_body so) ≡ (is_body_sort so && not c)
body_sorts true sort.Var = refl
body_sorts true sort.Input = refl
body_sorts true sort.Output = refl
body_sorts true sort.InOut = refl
body_sorts true sort.Temp = refl
body_sorts true sort.Global = refl
body_sorts true sort.External = refl
body_sorts false sort.Var = refl
body_sorts false sort.Input = refl
body_sorts false sort.Output = refl
body_sorts false sort.InOut = refl
body_sorts false sort.Temp = refl
body_sorts false sort.Global = refl
body_sorts false sort.External = refl

-- ---- what classes have, one behind the other

abbrev pub along : (ℕ → List Variable) → List ℕ → List Variable
along f [] = []
along f (c ∷ cs) = f c ++ along f cs

along_append : (f : ℕ → List Variable) (cs ds : List ℕ) → along f (cs ++ ds) ≡ along f cs ++ along f ds
along_append f [] ds = refl
along_append f (c ∷ cs) ds = ap (λ l. f c ++ l) (along_append f cs ds) ∙ assoc (f c) (along f cs) (along f ds)
  where
    assoc : (xs ys zs : List Variable) → xs ++ (ys ++ zs) ≡ (xs ++ ys) ++ zs
    assoc [] ys zs = refl
    assoc (x ∷ xs) ys zs = ap (λ l. x ∷ l) (assoc xs ys zs)

length_append : (xs ys : List Variable) → length (xs ++ ys) ≡ length xs + length ys
length_append [] ys = omega arith
length_append (x ∷ xs) ys = let k = length_append xs ys in omega (arith, k)

along_long : (f : ℕ → List Variable) (cs : List ℕ) → length (along f (reverse cs)) ≡ length (along f cs)
along_long f [] = refl
along_long f (c ∷ cs) =
    let a : length (along f (reverse (c ∷ cs))) ≡ length (along f (reverse cs ++ c ∷ [])) = ap (λ l. length (along f l)) (reverse-append (c ∷ []) cs) in
    let b : length (along f (reverse cs ++ c ∷ [])) ≡ length (along f (reverse cs) ++ along f (c ∷ [])) = ap length (along_append f (reverse cs) (c ∷ [])) in
    let d = length_append (along f (reverse cs)) (along f (c ∷ [])) in
    let e = length_append (f c) [] in
    let g = length_append (f c) (along f cs) in
    let k = along_long f cs in
    omega (arith, a, b, d, e, g, k)

-- those of the last class stand behind those of the others
last_behind : (f : ℕ → List Variable) (c : ℕ) (above : List ℕ) (n : ℕ) → n ≡ length (along f above) → Behind Variable (along f (reverse (c ∷ above))) (f c) n
last_behind f c above n e =
    let whole : along f (reverse (c ∷ above)) ≡ along f (reverse above) ++ f c =
    ap (along f) (reverse-append (c ∷ []) above) ∙ (along_append f (reverse above) (c ∷ []) ∙ ap (λ l. along f (reverse above) ++ l) (append-nil (f c))) in
    let long = along_long f above in
    let z : 0 + length (along f (reverse above)) ≡ n = omega (arith, e, long) in
    subst (Behind Variable (along f (reverse (c ∷ above))) (f c)) z
    (behind_part (along f (reverse (c ∷ above))) (along f (reverse above)) (f c) 0 (subst (λ l. Behind Variable (along f (reverse (c ∷ above))) l 0) whole (all_behind (along f (reverse (c ∷ above))))))

chain_first : (classes : List (ClassDecl ℕ)) (c : ℕ) → chain classes c ≡ c ∷ drop 1 (chain classes c)
unfolding chain
chain_first classes c = refl

-- a class by the numbers of both
module _ (decls : List (Decl ℕ)) (p : Checked) (checked : IsChecked decls p) where
  pub class_typed : (c : ℕ) (d : ClassDecl ℕ) → slice_get (classes_in decls) c ≡ Some d → (y : ClassDecl Note) × (slice_get p.classes c ≡ Some y) × TypedClass decls c d y
  class_typed c d e =
      let z : 0 + c ≡ c = omega arith in
      let y = if_there (TypedClass decls (0 + c)) (slice_get (classes_in decls) c) (slice_get p.classes c) d e (from_get (TypedClass decls) 0 (classes_in decls) p.classes c checked.classes) in
      (y.0, y.1, subst (λ n. TypedClass decls n d y.0) z y.2)

  abbrev pub kept_by : ℕ → List Variable
  kept_by c = own_of (class_at (program_of p) c)

  abbrev pub local_by : ℕ → List Variable
  local_by c = those is_of_body (declared_by (slice_get p.classes c))

  -- the locals of the body of a class
  abbrev pub body_locals : ℕ → List Variable
  body_locals c = those is_of_body (declared_along p.classes (reverse (chain p.classes c)))

  kept_along : (cs : List ℕ) → own_variables (program_of p) cs ≡ along kept_by cs
  kept_along [] = refl
  kept_along (c ∷ cs) = ap (λ l. kept_by c ++ l) (kept_along cs)

  local_along : (cs : List ℕ) → those is_of_body (declared_along p.classes cs) ≡ along local_by cs
  local_along [] = refl
  local_along (c ∷ cs) = filter-append (λ (v : Variable). is_of_body v.sort) (declared_by (slice_get p.classes c)) (declared_along p.classes cs) ∙ ap (λ l. local_by c ++ l) (local_along cs)

  -- ---- what a class itself has

  kept_each : (c : ℕ) (d : ClassDecl ℕ) → slice_get (classes_in decls) c ≡ Some d → Each (IsOf (class_scope decls (unit_names decls) c)) (kept_by c) (filter is_kept_written (sections_written (written.sections_in d.members)))
  kept_each c d e =
      let y = class_typed c d e in
      let own : kept_by c ≡ those is_kept (variables_in (sections_in (y.0).members)) = ap own_of (class_seen p c y.0 y.1) in
      subst (λ vs. Each (IsOf (class_scope decls (unit_names decls) c)) vs (filter is_kept_written (sections_written (written.sections_in d.members)))) (sym own)
      (kept_of (class_scope decls (unit_names decls) c) (written.sections_in d.members) (sections_in (y.0).members) (sections_typed decls c d.members (y.0).members (y.2).members))

  local_each : (c : ℕ) (d : ClassDecl ℕ) → slice_get (classes_in decls) c ≡ Some d → Each (IsOf (class_scope decls (unit_names decls) c)) (local_by c) (filter is_body_written (sections_written (written.sections_in d.members)))
  local_each c d e =
      let y = class_typed c d e in
      let s = class_scope decls (unit_names decls) c in
      let xs = written.sections_in d.members in
      let ys = sections_in (y.0).members in
      let own : local_by c ≡ those is_of_body (variables_in ys) = ap (λ o. those is_of_body (declared_by o)) y.1 in
      subst (λ vs. Each (IsOf s) vs (filter is_body_written (sections_written xs))) (sym own)
      (subst (Each (IsOf s) (those is_of_body (variables_in ys)))
      (test_twice is_variable (λ (u : Written). is_of_body u.sort) is_body_written (λ u. body_sorts u.constant u.sort) (sections_written xs))
      (those_of s is_of_body (variables_in ys) (filter is_variable (sections_written xs)) (all_of s xs ys (sections_typed decls c d.members (y.0).members (y.2).members))))

  -- ---- how many the bases have

  module _ (test : Written → Bool) (f : ℕ → List Variable) (each : (c : ℕ) (d : ClassDecl ℕ) → slice_get (classes_in decls) c ≡ Some d → Each (IsOf (class_scope decls (unit_names decls) c)) (f c) (filter test (sections_written (written.sections_in d.members)))) where
    above_long : (cs : List ℕ) → Every (There (ClassDecl ℕ) (classes_in decls)) cs → length (filter test (flat_map (λ b. written_by decls (unit_names decls) (slice_get (classes_in decls) b)) cs)) ≡ length (along f cs)
    above_long [] h = refl
    above_long (b ∷ cs) h =
        let here = (h.0).item in
        let own = written_by decls (unit_names decls) (slice_get (classes_in decls) b) in
        let rest = flat_map (λ c. written_by decls (unit_names decls) (slice_get (classes_in decls) c)) cs in
        let a : length (filter test own) ≡ length (filter test (sections_written (written.sections_in here.members))) = ap (λ o. length (filter test (written_by decls (unit_names decls) o))) (h.0).there in
        let e = each_long (IsOf (class_scope decls (unit_names decls) b)) (f b) (filter test (sections_written (written.sections_in here.members))) (each b here (h.0).there) in
        let s : length (filter test (own ++ rest)) ≡ length (filter test own ++ filter test rest) = ap length (filter-append test own rest) in
        let t = written_append (filter test own) (filter test rest) in
        let u = length_append (f b) (along f cs) in
        let k = above_long cs h.1 in
        omega (arith, a, e, s, t, u, k)
      where
        written_append : (xs ys : List Written) → length (xs ++ ys) ≡ length xs + length ys
        written_append [] ys = omega arith
        written_append (x ∷ xs) ys = let k = written_append xs ys in omega (arith, k)

  bases_there : (c : ℕ) (d : ClassDecl ℕ) → slice_get (classes_in decls) c ≡ Some d → Every (There (ClassDecl ℕ) (classes_in decls)) (drop 1 (chain (classes_in decls) c))
  bases_there c d e = (subst (Every (There (ClassDecl ℕ) (classes_in decls))) (chain_first (classes_in decls) c) (chain_there (classes_in decls) c (slice_get_within (classes_in decls) c d e))).1

  variables_are : (c : ℕ) (d : ClassDecl ℕ) → slice_get (classes_in decls) c ≡ Some d → class_variables (program_of p) c ≡ along kept_by (reverse (c ∷ drop 1 (chain (classes_in decls) c)))
  unfolding class_variables
  variables_are c d e =
      let y = class_typed c d e in
      let x : chain_of (class_at (program_of p) c) ≡ c ∷ drop 1 (chain (classes_in decls) c) =
      ap chain_of (class_seen p c y.0 y.1) ∙ (chain_same decls (classes_in decls) p.classes checked.classes c ∙ chain_first (classes_in decls) c) in
      ap (λ cs. own_variables (program_of p) (reverse cs)) x ∙ kept_along (reverse (c ∷ drop 1 (chain (classes_in decls) c)))

  locals_are : (c : ℕ) → body_locals c ≡ along local_by (reverse (c ∷ drop 1 (chain (classes_in decls) c)))
  locals_are c =
      ap (λ cs. those is_of_body (declared_along p.classes (reverse cs))) (chain_same decls (classes_in decls) p.classes checked.classes c ∙ chain_first (classes_in decls) c)
      ∙ local_along (reverse (c ∷ drop 1 (chain (classes_in decls) c)))

  -- ---- what a class declares

  pub class_rows : (most : ℕ) → IsFormed most decls → (c : ℕ) (d : ClassDecl ℕ) → slice_get (classes_in decls) c ≡ Some d
      → Each (MemberRow (class_scope decls (unit_names decls) c) (class_variables (program_of p) c) (body_locals c)) (sections_written (written.sections_in d.members)) (class_declared decls (unit_names decls) c d).variables
  class_rows most well c d e =
      let y = class_typed c d e in
      let s = class_scope decls (unit_names decls) c in
      let xs = written.sections_in d.members in
      let ys = sections_in (y.0).members in
      let above = drop 1 (chain (classes_in decls) c) in
      let k = length (filter is_kept_written (written_above decls (unit_names decls) c)) in
      let l = length (filter is_body_written (written_above decls (unit_names decls) c)) in
      let own : kept_by c ≡ those is_kept (variables_in ys) = ap own_of (class_seen p c y.0 y.1) in
      let mine : local_by c ≡ those is_of_body (variables_in ys) = ap (λ o. those is_of_body (declared_by o)) y.1 in
      let kept = subst (λ all. Behind Variable all (kept_by c) k) (sym (variables_are c d e)) (last_behind kept_by c above k (above_long is_kept_written kept_by kept_each above (bases_there c d e))) in
      let local = subst (λ all. Behind Variable all (local_by c) l) (sym (locals_are c)) (last_behind local_by c above l (above_long is_body_written local_by local_each above (bases_there c d e))) in
      members_seen s (class_variables (program_of p) c) (body_locals c) k l (sections_written xs) (variables_in ys) (sections_inside xs (members_inside d.members (class_formed most decls well c d e).members))
      (all_of s xs ys (sections_typed decls c d.members (y.0).members (y.2).members))
      (from_behind (class_variables (program_of p) c) (those is_kept (variables_in ys)) k (subst (λ vs. Behind Variable (class_variables (program_of p) c) vs k) own kept))
      (from_behind (body_locals c) (those is_of_body (variables_in ys)) l (subst (λ vs. Behind Variable (body_locals c) vs l) mine local))

  -- ---- a class has what its bases have

  front_along : (cs ds : List ℕ) → EndsWith p cs ds → (k : ℕ) (v : Variable) → slice_get (along local_by (reverse ds)) k ≡ Some v → slice_get (along local_by (reverse cs)) k ≡ Some v
  front_along cs ds h k v e =
      subst (λ l. slice_get (along local_by (reverse l)) k ≡ Some v) (sym h.is)
      (subst (λ l. slice_get (along local_by l) k ≡ Some v) (sym (reverse-append h.front ds))
      (subst (λ l. slice_get l k ≡ Some v) (sym (along_append local_by (reverse ds) (reverse h.front))) (front_get (along local_by (reverse ds)) (along local_by (reverse h.front)) k v e)))

  pub locals_above : NoCycle p → (c d k : ℕ) (v : Variable) → is_among d (chain p.classes c) ≡ true → slice_get (body_locals d) k ≡ Some v → slice_get (body_locals c) k ≡ Some v
  locals_above free c d k v h e =
      subst (λ l. slice_get l k ≡ Some v) (sym (local_along (reverse (chain p.classes c))))
      (front_along (chain p.classes c) (chain p.classes d) (chain_ends p free c d h) k v (subst (λ l. slice_get l k ≡ Some v) (local_along (reverse (chain p.classes d))) e))
