-- Globals passed one after the other, each with what it breaks.
use Rattle.std.proofs.Common.{◌≡◌, inl, ℕ, ◌+◌, ◌<◌, ◌≤◌, List, [], ◌∷◌, Option, drop, length, get_or, map, refl, subst}
use Rattle.plc_text.specs.declared.code.Code.{Code}
use Rattle.st_tree.specs.declared.unit.Decl.{Decl}
use Rattle.st_tree.specs.declared.unit.Unit.{Unit as ProgramText}
use Rattle.st_rules.specs.Faults.{least}
use Rattle.st_rules.proofs.ListLaws.{drop-at, drop-end}
use Rattle.st_unit_rules.specs.declared_names.Declarations.{Global, a_global}
use Rattle.st_unit_rules.specs.declared.declaration_list.written.WrittenName.{WrittenName}
use Rattle.st_unit_rules.specs.declaration_list.Written.{global_of}
use Rattle.st_check_decl.specs.declared.checked_declarations.so_far.Bad.{Bad}
use Rattle.st_check_decl.specs.declared.checked_declarations.so_far.Bad.TheVariants as bad
use Rattle.st_check_decl.specs.declared.checked_declarations.so_far.CheckedSoFar.{CheckedSoFar}
use Rattle.st_check_decl.specs.checked_declarations.SoFar.{Breaks, Passed}
use Rattle.global_rules.specs.Sections.{AreFaults}
use Rattle.st_unit_rules.specs.passing_laws.Passing.{At, faults_here, with_any}
use Rattle.st_unit_rules.specs.DeclarationRules.{global_faults}
use Rattle.st_check_decl.specs.unit_check.Private.Progress.{GlobalsFail, GlobalsPass}
use Rattle.st_check_decl.proofs.unit_check.ThroughLaws.{Through, through_begun, through_next}

module _ (decls : List (Decl ℕ)) (x : CheckedSoFar) (faults : List (Option (Code × ℕ))) (gs : List Global) where
  pub record GlobalsWent (y : CheckedSoFar) (fs : List (Option (Code × ℕ))) (rest : List Global) : Type 0 where
    pub went : (a : At) → Passed x decls a → AreFaults decls a.regions gs faults → (b : At) × Passed y decls b × AreFaults decls b.regions rest fs × Through decls a (map a_global gs) b (map a_global rest)

  globals_begun : GlobalsWent x faults gs
  globals_begun = record { went = λ a p h. (a, p, h, through_begun decls a (map a_global gs)) }

  globals_next : (y z : CheckedSoFar) (f : Option (Code × ℕ)) (fs : List (Option (Code × ℕ))) (g : Global) (rest : List Global) → GlobalsWent y (f ∷ fs) (g ∷ rest)
      → ((a : At) → Passed y decls a → f ≡ least (global_faults decls a.regions g) → (faults_here decls a (a_global g) ≡ []) × Passed z decls (with_any a (a_global g))) → GlobalsWent z fs rest
  globals_next y z f fs g rest w step = record {
    went = λ a p h.
        let r = w.went a p h in
        let s = step r.0 r.1 r.2.0 in
        (with_any r.0 (a_global g), s.1, r.2.1, through_next decls a (map a_global gs) r.0 (a_global g) (map a_global rest) r.3 s.0);
  }

  globals_ended : (y : CheckedSoFar) (fs : List (Option (Code × ℕ))) → GlobalsWent y fs [] → GlobalsPass x y decls faults gs
  globals_ended y [] w = record {
    good = λ a p h. (w.went a p h).3.good tt;
    passed = λ a p h. let r = w.went a p h in subst (λ (b : At). Passed y decls b) r.3.all r.1;
  }
  globals_ended y (f ∷ fs) w = record {
    good = λ a p h. absurd (w.went a p h).2;
    passed = λ a p h. absurd (w.went a p h).2;
  }

  -- more names than faults cannot be
  globals_short : (y : CheckedSoFar) (g : Global) (rest : List Global) → GlobalsWent y [] (g ∷ rest) → GlobalsPass x y decls faults gs
  globals_short y g rest w = record {
    good = λ a p h. absurd (w.went a p h).2;
    passed = λ a p h. absurd (w.went a p h).2;
  }

  globals_bad : (y : CheckedSoFar) (f : Option (Code × ℕ)) (fs : List (Option (Code × ℕ))) (g : Global) (rest : List Global) (b : Bad) → GlobalsWent y (f ∷ fs) (g ∷ rest)
      → ((a : At) → Passed y decls a → f ≡ least (global_faults decls a.regions g) → Breaks b decls a (a_global g)) → GlobalsFail b x decls faults gs
  globals_bad y f fs g rest bad.NoMemory w h = record { one = λ a p k. tt }
  globals_bad y f fs g rest (bad.Rule declaration code line) w h = record { one = λ a p k. let r = w.went a p k in r.3.bad code declaration line (inl (h r.0 r.1 r.2.0)) }

-- ---- the names, as the code lends them

nothing : (fs : List (Option (Code × ℕ))) → length fs ≡ 0 → fs ≡ []
nothing [] e = refl
nothing (f ∷ fs) e = absurd (cc)

module _ (decls : List (Decl ℕ)) (x : CheckedSoFar) (faults : List (Option (Code × ℕ))) (ws : List WrittenName) where
  abbrev pub NamesWent : CheckedSoFar → List (Option (Code × ℕ)) → ℕ → Type 0
  NamesWent y left i = GlobalsWent decls x faults (map global_of ws) y left (map global_of (drop i ws))

  pub names_begun : NamesWent x faults 0
  names_begun = globals_begun decls x faults (map global_of ws)

  module _ (y : CheckedSoFar) (left behind : List (Option (Code × ℕ))) (f : Option (Code × ℕ)) (i : ℕ) (n : WrittenName) (l : i < length ws) (e : n ≡ get_or ws i n) (parts : left ≡ f ∷ behind) (w : NamesWent y left i) where
    here : GlobalsWent decls x faults (map global_of ws) y (f ∷ behind) (global_of n ∷ map global_of (drop (i + 1) ws))
    here = subst (λ (fs : List (Option (Code × ℕ))). GlobalsWent decls x faults (map global_of ws) y fs (global_of n ∷ map global_of (drop (i + 1) ws))) parts
        (subst (λ (us : List WrittenName). GlobalsWent decls x faults (map global_of ws) y left (map global_of us)) (drop-at ws i n l e) w)

    pub names_next : (z : CheckedSoFar) → ((a : At) → Passed y decls a → f ≡ least (global_faults decls a.regions (global_of n)) → (faults_here decls a (a_global (global_of n)) ≡ []) × Passed z decls (with_any a (a_global (global_of n)))) → NamesWent z behind (i + 1)
    names_next z step = globals_next decls x faults (map global_of ws) y z f behind (global_of n) (map global_of (drop (i + 1) ws)) here step

    pub names_bad : (b : Bad) → ((a : At) → Passed y decls a → f ≡ least (global_faults decls a.regions (global_of n)) → Breaks b decls a (a_global (global_of n))) → GlobalsFail b x decls faults (map global_of ws)
    names_bad b h = globals_bad decls x faults (map global_of ws) y f behind (global_of n) (map global_of (drop (i + 1) ws)) b here h

  pub names_short : (y : CheckedSoFar) (left : List (Option (Code × ℕ))) (i : ℕ) (n : WrittenName) → i < length ws → n ≡ get_or ws i n → length left ≡ 0 → NamesWent y left i → GlobalsPass x y decls faults (map global_of ws)
  names_short y left i n l e empty w =
      globals_short decls x faults (map global_of ws) y (global_of n) (map global_of (drop (i + 1) ws))
      (subst (λ (fs : List (Option (Code × ℕ))). GlobalsWent decls x faults (map global_of ws) y fs (global_of n ∷ map global_of (drop (i + 1) ws))) (nothing left empty)
      (subst (λ (us : List WrittenName). GlobalsWent decls x faults (map global_of ws) y left (map global_of us)) (drop-at ws i n l e) w))

  pub names_ended : (y : CheckedSoFar) (left : List (Option (Code × ℕ))) (i : ℕ) → length ws ≤ i → NamesWent y left i → GlobalsPass x y decls faults (map global_of ws)
  names_ended y left i l w = globals_ended decls x faults (map global_of ws) y left (subst (λ (us : List WrittenName). GlobalsWent decls x faults (map global_of ws) y left (map global_of us)) (drop-end ws i l) w)

-- ---- the same by what is lent

module _ (g t : ProgramText) (x : CheckedSoFar) (fs gs : List (Option (Code × ℕ))) (ws us : List WrittenName) (unit : g ≡ t) (faults : gs ≡ fs) (names : us ≡ ws) where
  pub pass_as : (y : CheckedSoFar) → GlobalsPass x y g.decls gs (map global_of us) → GlobalsPass x y t.decls fs (map global_of ws)
  pass_as y h =
      subst (λ (u : ProgramText). GlobalsPass x y u.decls fs (map global_of ws)) unit
      (subst (λ (hs : List (Option (Code × ℕ))). GlobalsPass x y g.decls hs (map global_of ws)) faults (subst (λ (vs : List WrittenName). GlobalsPass x y g.decls gs (map global_of vs)) names h))

  pub fail_as : (b : Bad) → GlobalsFail b x g.decls gs (map global_of us) → GlobalsFail b x t.decls fs (map global_of ws)
  fail_as b h =
      subst (λ (u : ProgramText). GlobalsFail b x u.decls fs (map global_of ws)) unit
      (subst (λ (hs : List (Option (Code × ℕ))). GlobalsFail b x g.decls hs (map global_of ws)) faults (subst (λ (vs : List WrittenName). GlobalsFail b x g.decls gs (map global_of vs)) names h))
