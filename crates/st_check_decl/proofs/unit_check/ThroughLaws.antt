-- Declarations passed one after the other: what is left, and what it says of all.
use Rattle.std.proofs.Common.{◌≡◌, ◌⊎◌, inl, inr, ℕ, ◌+◌, ◌<◌, ◌≤◌, List, [], ◌∷◌, ◌++◌, Option, drop, length, get_or, map, refl, sym, ap, ◌∙◌, subst}
use Rattle.plc_text.specs.declared.code.Code.{Code}
use Rattle.st_tree.specs.declared.declaration.TypeDecl.{TypeDecl}
use Rattle.st_tree.specs.declared.unit.Decl.{Decl}
use Rattle.st_rules.proofs.ListLaws.{drop-at, drop-end}
use Rattle.st_unit_rules.specs.declared_names.Declarations.{Declaration, an_entry}
use Rattle.st_check_decl.specs.declared.checked_declarations.so_far.Bad.{Bad}
use Rattle.st_check_decl.specs.declared.checked_declarations.so_far.Bad.TheVariants as bad
use Rattle.st_check_decl.specs.declared.checked_declarations.so_far.CheckedSoFar.{CheckedSoFar}
use Rattle.st_check_decl.specs.checked_declarations.SoFar.{Breaks, Passed}
use Rattle.st_unit_rules.specs.passing_laws.Passing.{At, AllGood, OneBad, faults_here, with_any, with_each}
use Rattle.st_unit_rules.specs.passing_laws.PassingLaws.{SaysOf}
use Rattle.st_check_decl.specs.unit_check.Private.Progress.{AllFail, AllPass}
use Rattle.st_check_decl.specs.unit_check.Private.Refused.{IfRule}

module _ (decls : List (Decl ℕ)) where
  -- from a with these declarations one came to b with the rest
  pub record Through (a : At) (ds : List Declaration) (b : At) (rest : List Declaration) : Type 0 where
    pub good : AllGood decls b rest → AllGood decls a ds
    pub bad : (code : Code) (declaration : List ℕ) (line : ℕ) → OneBad decls (SaysOf code declaration line) b rest → OneBad decls (SaysOf code declaration line) a ds
    pub all : with_each b rest ≡ with_each a ds

  pub through_begun : (a : At) (ds : List Declaration) → Through a ds a ds
  through_begun a ds = record { good = λ h. h; bad = λ c d l h. h; all = refl }

  pub through_next : (a : At) (ds : List Declaration) (b : At) (d : Declaration) (rest : List Declaration) → Through a ds b (d ∷ rest) → faults_here decls b d ≡ [] → Through a ds (with_any b d) rest
  through_next a ds b d rest t e = record { good = λ h. t.good (e, h); bad = λ c n l h. t.bad c n l (inr (e, h)); all = t.all }

  -- ---- any declarations

  pub record Went (x y : CheckedSoFar) (ds rest : List Declaration) : Type 0 where
    pub went : (a : At) → Passed x decls a → (b : At) × Passed y decls b × Through a ds b rest

  pub went_begun : (x : CheckedSoFar) (ds : List Declaration) → Went x x ds ds
  went_begun x ds = record { went = λ a p. (a, p, through_begun a ds) }

  pub went_next : (x y z : CheckedSoFar) (ds : List Declaration) (d : Declaration) (rest : List Declaration) → Went x y ds (d ∷ rest) → ((a : At) → Passed y decls a → (faults_here decls a d ≡ []) × Passed z decls (with_any a d)) → Went x z ds rest
  went_next x y z ds d rest w step = record {
    went = λ a p.
        let r = w.went a p in
        let s = step r.0 r.1 in
        (with_any r.0 d, s.1, through_next a ds r.0 d rest r.2 s.0);
  }

  pub went_ended : (x y : CheckedSoFar) (ds rest : List Declaration) → rest ≡ [] → Went x y ds rest → AllPass x y decls ds
  went_ended x y ds rest e w = subst (λ (r : List Declaration). Went x y ds r → AllPass x y decls ds) (sym e) (λ v. record {
    good = λ a p. (v.went a p).2.good tt;
    passed = λ a p. let r = v.went a p in subst (λ (b : At). Passed y decls b) r.2.all r.1;
  }) w

  pub went_bad : (x y : CheckedSoFar) (ds : List Declaration) (d : Declaration) (rest : List Declaration) (b : Bad) → Went x y ds (d ∷ rest) → ((a : At) → Passed y decls a → Breaks b decls a d) → AllFail b x decls ds
  went_bad x y ds d rest bad.NoMemory w h = record { one = λ a p. tt }
  went_bad x y ds d rest (bad.Rule declaration code line) w h = record { one = λ a p. let r = w.went a p in r.2.bad code declaration line (inl (h r.0 r.1)) }

  -- ---- one declaration

  pub one_passes : (x y : CheckedSoFar) (d : Declaration) → ((a : At) → Passed x decls a → (faults_here decls a d ≡ []) × Passed y decls (with_any a d)) → AllPass x y decls (d ∷ [])
  one_passes x y d h = record { good = λ a p. ((h a p).0, tt); passed = λ a p. (h a p).1 }

  pub one_fails : (b : Bad) (x : CheckedSoFar) (d : Declaration) → ((a : At) → Passed x decls a → Breaks b decls a d) → AllFail b x decls (d ∷ [])
  one_fails bad.NoMemory x d h = record { one = λ a p. tt }
  one_fails (bad.Rule declaration code line) x d h = record { one = λ a p. inl (h a p) }

  -- ---- a list of entries

  pub entries_next : (x y z : CheckedSoFar) (ts : List (TypeDecl ℕ)) (i : ℕ) (t : TypeDecl ℕ) → i < length ts → t ≡ get_or ts i t → Went x y (map an_entry ts) (map an_entry (drop i ts))
      → ((a : At) → Passed y decls a → (faults_here decls a (an_entry t) ≡ []) × Passed z decls (with_any a (an_entry t))) → Went x z (map an_entry ts) (map an_entry (drop (i + 1) ts))
  entries_next x y z ts i t l e w step = went_next x y z (map an_entry ts) (an_entry t) (map an_entry (drop (i + 1) ts)) (subst (λ (us : List (TypeDecl ℕ)). Went x y (map an_entry ts) (map an_entry us)) (drop-at ts i t l e) w) step

  pub entries_bad : (x y : CheckedSoFar) (ts : List (TypeDecl ℕ)) (i : ℕ) (t : TypeDecl ℕ) (b : Bad) → i < length ts → t ≡ get_or ts i t → Went x y (map an_entry ts) (map an_entry (drop i ts)) → ((a : At) → Passed y decls a → Breaks b decls a (an_entry t))
      → AllFail b x decls (map an_entry ts)
  entries_bad x y ts i t b l e w h = went_bad x y (map an_entry ts) (an_entry t) (map an_entry (drop (i + 1) ts)) b (subst (λ (us : List (TypeDecl ℕ)). Went x y (map an_entry ts) (map an_entry us)) (drop-at ts i t l e) w) h

  pub entries_ended : (x y : CheckedSoFar) (ts : List (TypeDecl ℕ)) (i : ℕ) → length ts ≤ i → Went x y (map an_entry ts) (map an_entry (drop i ts)) → AllPass x y decls (map an_entry ts)
  entries_ended x y ts i l w = went_ended x y (map an_entry ts) (map an_entry (drop i ts)) (ap (map an_entry) (drop-end ts i l)) w
