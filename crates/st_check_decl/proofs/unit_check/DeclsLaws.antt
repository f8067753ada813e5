-- The declarations of the text, one after the other.
use Rattle.std.proofs.Common.{◌≡◌, inl, inr, ℕ, ◌+◌, ◌<◌, ◌≤◌, List, [], ◌∷◌, drop, length, get_or, refl, ◌∙◌, sym, subst}
use Rattle.plc_text.specs.declared.code.Code.{Code}
use Rattle.st_tree.specs.declared.unit.Decl.{Decl}
use Rattle.st_rules.proofs.ListLaws.{drop-at, drop-end}
use Rattle.st_check_decl.specs.declared.checked_declarations.so_far.Bad.{Bad}
use Rattle.st_check_decl.specs.declared.checked_declarations.so_far.Bad.TheVariants as bad
use Rattle.st_unit_rules.specs.passing_laws.Passing.{At, AllDeclsGood, OneDeclBad, after_all, after_decl, no_declarations}
use Rattle.st_unit_rules.specs.passing_laws.PassingLaws.{SaysOf, all_of}
use Rattle.st_unit_rules.proofs.passing_laws.AllLaws.{laws}
use Rattle.st_unit_rules.specs.UnitRefusal.{IsFirstBad}
use Rattle.st_check_decl.specs.declared.unit_check.progress.Progress.{Progress}
use Rattle.st_check_decl.specs.unit_check.Private.Progress.{DeclFails, DeclPasses, DeclsFail, DeclsPass, Reached}
use Rattle.st_check_decl.specs.unit_check.Private.Refused.{IfRule}

module _ (decls : List (Decl ℕ)) where
  -- from a with these declarations one came to b with the rest
  pub record DeclsThrough (a : At) (ds : List (Decl ℕ)) (b : At) (rest : List (Decl ℕ)) : Type 0 where
    pub good : AllDeclsGood decls b rest → AllDeclsGood decls a ds
    pub bad : (code : Code) (declaration : List ℕ) (line : ℕ) → OneDeclBad decls (SaysOf code declaration line) b rest → OneDeclBad decls (SaysOf code declaration line) a ds
    pub all : after_all b rest ≡ after_all a ds

  pub record DeclsWent (p q : Progress) (ds rest : List (Decl ℕ)) : Type 0 where
    pub went : (a : At) → Reached p decls a → (b : At) × Reached q decls b × DeclsThrough a ds b rest

  pub decls_begun : (p : Progress) (ds : List (Decl ℕ)) → DeclsWent p p ds ds
  decls_begun p ds = record { went = λ a r. (a, r, record { good = λ h. h; bad = λ c d l h. h; all = refl }) }

  next_of : (p q r : Progress) (ds : List (Decl ℕ)) (d : Decl ℕ) (rest : List (Decl ℕ)) → DeclsWent p q ds (d ∷ rest) → DeclPasses q r decls d → DeclsWent p r ds rest
  next_of p q r ds d rest w h = record {
    went = λ a s.
        let g = w.went a s in (
          after_decl g.0 d,
          h.reached g.0 g.1,
          record {
            good = λ k. g.2.good (h.good g.0 g.1, k);
            bad = λ c n l k. g.2.bad c n l (inr (h.good g.0 g.1, k));
            all = g.2.all;
          },
        );
  }

  pub decls_next : (p q r : Progress) (ds : List (Decl ℕ)) (i : ℕ) (d : Decl ℕ) → i < length ds → d ≡ get_or ds i d → DeclsWent p q ds (drop i ds) → DeclPasses q r decls d → DeclsWent p r ds (drop (i + 1) ds)
  decls_next p q r ds i d l e w h = next_of p q r ds d (drop (i + 1) ds) (subst (λ (xs : List (Decl ℕ)). DeclsWent p q ds xs) (drop-at ds i d l e) w) h

  all_passed : (p q : Progress) (ds : List (Decl ℕ)) → DeclsWent p q ds [] → DeclsPass p q decls ds
  all_passed p q ds w = record {
    good = λ a r. (w.went a r).2.good tt;
    reached = λ a r. let g = w.went a r in subst (λ (b : At). Reached q decls b) g.2.all g.1;
  }

  pub decls_ended : (p q : Progress) (ds : List (Decl ℕ)) (i : ℕ) → length ds ≤ i → DeclsWent p q ds (drop i ds) → DeclsPass p q decls ds
  decls_ended p q ds i l w = all_passed p q ds (subst (λ (xs : List (Decl ℕ)). DeclsWent p q ds xs) (drop-end ds i l) w)

  bad_of : (b : Bad) (p q : Progress) (ds : List (Decl ℕ)) (d : Decl ℕ) (rest : List (Decl ℕ)) → DeclsWent p q ds (d ∷ rest) → DeclFails b q decls d → DeclsFail b p decls ds
  bad_of bad.NoMemory p q ds d rest w h = record { one = λ a r. tt }
  bad_of (bad.Rule declaration code line) p q ds d rest w h = record { one = λ a r. let g = w.went a r in g.2.bad code declaration line (inl (h.one g.0 g.1)) }

  pub decls_bad : (b : Bad) (p q : Progress) (ds : List (Decl ℕ)) (i : ℕ) (d : Decl ℕ) → i < length ds → d ≡ get_or ds i d → DeclsWent p q ds (drop i ds) → DeclFails b q decls d → DeclsFail b p decls ds
  decls_bad b p q ds i d l e w h = bad_of b p q ds d (drop (i + 1) ds) (subst (λ (xs : List (Decl ℕ)). DeclsWent p q ds xs) (drop-at ds i d l e) w) h

-- ---- the whole unit

module _ (decls ds : List (Decl ℕ)) (p : Progress) (begun : (xs : List (Decl ℕ)) → Reached p xs no_declarations) (unit : ds ≡ decls) where
  pub unit_passed : (q : Progress) → DeclsPass p q decls ds → AllDeclsGood ds no_declarations ds × Reached q ds (all_of ds)
  unit_passed q h =
      let k : DeclsPass p q ds ds = subst (λ (xs : List (Decl ℕ)). DeclsPass p q xs ds) (sym unit) h in
      (k.good no_declarations (begun ds), k.reached no_declarations (begun ds))

  refused : (b : Bad) → DeclsFail b p ds ds → IfRule b (IsFirstBad ds)
  refused bad.NoMemory h = tt
  refused (bad.Rule declaration code line) h = laws.bad ds code declaration line (h.one no_declarations (begun ds))

  pub unit_failed : (b : Bad) → DeclsFail b p decls ds → IfRule b (IsFirstBad ds)
  unit_failed b h = refused b (subst (λ (xs : List (Decl ℕ)). DeclsFail b p xs ds) (sym unit) h)

pub unit_no_memory : (ds : List (Decl ℕ)) (b : Bad) → b ≡ bad.NoMemory → IfRule b (IsFirstBad ds)
unit_no_memory ds bad.NoMemory e = tt
unit_no_memory ds (bad.Rule declaration code line) e = absurd (cc)
