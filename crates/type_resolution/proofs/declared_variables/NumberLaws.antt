-- What names declare, numbered one after the other, is what their sections declare.
use Rattle.std.proofs.Common.{◌≡◌, ℕ, suc, ◌+◌, ℤ, Bool, true, false, List, [], ◌∷◌, ◌++◌, ◌<◌, ◌≤◌, map, drop, get_or, length, Option, Some, None, refl, sym, ap, ◌∙◌, arith}
use Rattle.std.specs.Prelude.{if◌then◌else◌, ◌&&◌, ◌||◌, not, filter}
use Rattle.std.proofs.lemmas.List.{append_assoc, append-nil}
use Rattle.st_rules.proofs.ListLaws.{drop-at, drop-end}
use Rattle.st_tree.specs.declared.declaration.Section.{Section}
use Rattle.st_tree.specs.declared.declaration.SectionSort.{SectionSort}
use Rattle.st_tree.specs.declared.declaration.SectionSort.TheVariants as sort
use Rattle.st_tree.specs.declared.program.Target.{Target}
use Rattle.st_tree.specs.declared.program.Target.TheVariants as target
use Rattle.st_tree.specs.declared.type_spec.TypeSpec.{TypeSpec}
use Rattle.st_rules.specs.declared.names.DeclaredVariable.{DeclaredVariable}
use Rattle.st_rules.specs.declared.names.DeclaredGlobal.{DeclaredGlobal}
use Rattle.st_rules.specs.declared.names.DeclaredGlobal.TheVariants as global
use Rattle.st_rules.specs.Scope.{Scope, is_instance_sort, is_body_sort}
use Rattle.st_rules.specs.Signatures.{is_parameter_sort}
use Rattle.st_unit_rules.specs.declared_names.Variables.{Written, sections_written, is_parameter_written, is_kept_written, is_body_written, constant_target, constant_of, declared_with, declared_each, member_targets, members_declared, local_targets, result_declared, result_count, locals_declared, routine_locals}
use Rattle.declared_symbols.specs.untold_names.Untold.{member_target, number_behind, untold_members, regions_of}
use Rattle.type_resolution.specs.declared.declared_variables.names.ToldName.{ToldName as Held}
use Rattle.type_resolution.specs.declared_variables.Globals.{globals_in, AddsGlobals}
use Rattle.type_resolution.specs.declared_variables.Private.Told.{ToldName, told_as, told_of, variable_of, meant_by, told_like, is_other_written, local_target, locals_told, globals_told, regions_behind}

one-added : (new old : List DeclaredVariable) (x y : DeclaredVariable) (xs ys : List DeclaredVariable) → new ≡ old ++ x ∷ [] → x ≡ y → xs ≡ ys → new ++ xs ≡ old ++ y ∷ ys
one-added new old x y xs ys h e f = ap (λ zs. zs ++ xs) h ∙ append_assoc old (x ∷ []) xs ∙ ap (λ z. old ++ z ∷ xs) e ∙ ap (λ zs. old ++ y ∷ zs) f

-- ---- members

-- the next variable of the instance has number k, the next local of the body number l
abbrev members_told : ℕ → ℕ → List ToldName → List DeclaredVariable
members_told k l [] = []
members_told k l (t ∷ ts) =
    variable_of (meant_by t (member_target k l t.written)) t ∷ members_told (number_behind (is_kept_written t.written) k) (number_behind (is_body_written t.written) l) ts

module _ (s : Scope) where
  one-member : (w : Written) (ws : List Written) (c : Bool) (x : SectionSort) (k l : ℕ) (rest : ℕ → ℕ → List Target)
      → declared_each s
      (if c then constant_target (constant_of s w) ∷ rest k l else if is_instance_sort x then target.Variable k ∷ rest (suc k) l else if is_body_sort x then target.Local l ∷ rest k (suc l) else target.Nothing ∷ rest k l) (w ∷ ws)
      ≡ (declared_with s
      (if c then constant_target (if c then constant_of s w else None) else (if is_instance_sort x && not c then target.Variable k else if is_body_sort x && not c then target.Local l else target.Nothing)) w
      ∷ declared_each s (rest (number_behind (is_instance_sort x && not c) k) (number_behind (is_body_sort x && not c) l)) ws)
  one-member w ws true sort.Var k l rest = refl
  one-member w ws true sort.Input k l rest = refl
  one-member w ws true sort.Output k l rest = refl
  one-member w ws true sort.InOut k l rest = refl
  one-member w ws true sort.Temp k l rest = refl
  one-member w ws true sort.External k l rest = refl
  one-member w ws true sort.Global k l rest = refl
  one-member w ws false sort.Var k l rest = refl
  one-member w ws false sort.Input k l rest = refl
  one-member w ws false sort.Output k l rest = refl
  one-member w ws false sort.InOut k l rest = refl
  one-member w ws false sort.Temp k l rest = refl
  one-member w ws false sort.External k l rest = refl
  one-member w ws false sort.Global k l rest = refl

  members-each : (k l : ℕ) (ws : List Written) → declared_each s (member_targets s k l ws) ws ≡ members_told k l (map (told_of s) ws)
  members-each k l [] = refl
  members-each k l (w ∷ ws) =
      one-member w ws w.constant w.sort k l (λ m n. member_targets s m n ws)
      ∙ ap (λ vs. variable_of (meant_by (told_of s w) (member_target k l w)) (told_of s w) ∷ vs) (members-each (number_behind (is_kept_written w) k) (number_behind (is_body_written w) l) ws)

members-like : (s : Scope) (k l : ℕ) (ws : List Written) → told_like (untold_members k l ws) (map (told_of s) ws) ≡ members_told k l (map (told_of s) ws)
members-like s k l [] = refl
members-like s k l (w ∷ ws) =
    ap (λ vs. variable_of (meant_by (told_of s w) (member_target k l w)) (told_of s w) ∷ vs) (members-like s (number_behind (is_kept_written w) k) (number_behind (is_body_written w) l) ws)

pub members_are : (s : Scope) (k l : ℕ) (ss : List (Section ℕ)) (ts : List ToldName) (us vs : List DeclaredVariable) → vs ≡ told_like us ts → ts ≡ map (told_of s) (sections_written ss) → us ≡ untold_members k l (sections_written ss)
    → vs ≡ members_declared s k l ss
members_are s k l ss ts us vs h e f =
    h ∙ ap (λ xs. told_like xs ts) f ∙ ap (told_like (untold_members k l (sections_written ss))) e ∙ members-like s k l (sections_written ss) ∙ sym (members-each s k l (sections_written ss))

pub like_next : (us : List DeclaredVariable) (names : List Held) (i : ℕ) (u : DeclaredVariable) (t : Held) (old new : List DeclaredVariable) → i < length us → u ≡ get_or us i u → i < length names → t ≡ get_or names i t
    → new ≡ old ++ variable_of (meant_by (told_as t) u.target) (told_as t) ∷ [] → old ++ told_like (drop i us) (map told_as (drop i names)) ≡ told_like us (map told_as names)
    → new ++ told_like (drop (i + 1) us) (map told_as (drop (i + 1) names)) ≡ told_like us (map told_as names)
like_next us names i u t old new l e m f h k =
    ap (λ xs. xs ++ told_like (drop (i + 1) us) (map told_as (drop (i + 1) names))) h
    ∙ append_assoc old (variable_of (meant_by (told_as t) u.target) (told_as t) ∷ []) (told_like (drop (i + 1) us) (map told_as (drop (i + 1) names)))
    ∙ ap (λ xs. old ++ told_like xs (told_as t ∷ map told_as (drop (i + 1) names))) (sym (drop-at us i u l e))
    ∙ ap (λ xs. old ++ told_like (drop i us) (map told_as xs)) (sym (drop-at names i t m f))
    ∙ k

like-nothing : (ts : List ToldName) → told_like [] ts ≡ []
like-nothing [] = refl
like-nothing (t ∷ ts) = refl

like-ended : (us : List DeclaredVariable) → told_like us [] ≡ []
like-ended [] = refl
like-ended (u ∷ us) = refl

pub like_short : (us : List DeclaredVariable) (names : List Held) (i : ℕ) (old : List DeclaredVariable) → length us ≤ i → old ++ told_like (drop i us) (map told_as (drop i names)) ≡ told_like us (map told_as names) → old ≡ told_like us (map told_as names)
like_short us names i old l k =
    sym (append-nil old) ∙ ap (λ xs. old ++ xs) (sym (like-nothing (map told_as (drop i names)))) ∙ ap (λ xs. old ++ told_like xs (map told_as (drop i names))) (sym (drop-end us i l)) ∙ k

pub like_all : (us : List DeclaredVariable) (names : List Held) (i : ℕ) (old : List DeclaredVariable) → length names ≤ i → old ++ told_like (drop i us) (map told_as (drop i names)) ≡ told_like us (map told_as names) → old ≡ told_like us (map told_as names)
like_all us names i old l k = sym (append-nil old) ∙ ap (λ xs. old ++ xs) (sym (like-ended (drop i us))) ∙ ap (λ xs. old ++ told_like (drop i us) (map told_as xs)) (sym (drop-end names i l)) ∙ k

-- ---- locals

pub local_added : (new old : List DeclaredVariable) (v : DeclaredVariable) (t : ToldName) (k l m n : ℕ) (x : Target) (b c : Bool) (ts : List ToldName) → x ≡ local_target k l t.written → v ≡ variable_of (meant_by t x) t
    → new ≡ old ++ v ∷ [] → b ≡ is_parameter_written t.written → m ≡ number_behind b k → c ≡ is_other_written t.written → n ≡ number_behind c l → new ++ locals_told m n ts ≡ old ++ locals_told k l (t ∷ ts)
local_added new old v t k l m n x b c ts e f h p q r s =
    one-added new old v (variable_of (meant_by t (local_target k l t.written)) t) (locals_told m n ts) (locals_told (number_behind (is_parameter_written t.written) k) (number_behind (is_other_written t.written) l) ts) h
    (f ∙ ap (λ y. variable_of (meant_by t y) t) e)
    (ap (λ y. locals_told y n ts) (q ∙ ap (λ y. number_behind y k) p) ∙ ap (λ y. locals_told (number_behind (is_parameter_written t.written) k) y ts) (s ∙ ap (λ y. number_behind y l) r))

module _ (s : Scope) where
  one-local : (w : Written) (ws : List Written) (c : Bool) (x : SectionSort) (p q : ℕ) (rest : ℕ → ℕ → List Target)
      → declared_each s
      (if c then constant_target (constant_of s w) ∷ rest p q
      else if is_parameter_sort x then target.Local p ∷ rest (suc p) q
      else if is_instance_sort x then target.Local q ∷ rest p (suc q)
      else if is_body_sort x then target.Local q ∷ rest p (suc q)
      else target.Nothing ∷ rest p q) (w ∷ ws)
      ≡ (declared_with s
      (if c then constant_target (if c then constant_of s w else None)
      else (if is_parameter_sort x && not c then target.Local p else if (is_instance_sort x || is_body_sort x) && not (is_parameter_sort x) && not c then target.Local q else target.Nothing)) w
      ∷ declared_each s (rest (number_behind (is_parameter_sort x && not c) p) (number_behind ((is_instance_sort x || is_body_sort x) && not (is_parameter_sort x) && not c) q)) ws)
  one-local w ws true sort.Var p q rest = refl
  one-local w ws true sort.Input p q rest = refl
  one-local w ws true sort.Output p q rest = refl
  one-local w ws true sort.InOut p q rest = refl
  one-local w ws true sort.Temp p q rest = refl
  one-local w ws true sort.External p q rest = refl
  one-local w ws true sort.Global p q rest = refl
  one-local w ws false sort.Var p q rest = refl
  one-local w ws false sort.Input p q rest = refl
  one-local w ws false sort.Output p q rest = refl
  one-local w ws false sort.InOut p q rest = refl
  one-local w ws false sort.Temp p q rest = refl
  one-local w ws false sort.External p q rest = refl
  one-local w ws false sort.Global p q rest = refl

  locals-each : (p q : ℕ) (ws : List Written) → declared_each s (local_targets s p q ws) ws ≡ locals_told p q (map (told_of s) ws)
  locals-each p q [] = refl
  locals-each p q (w ∷ ws) =
      one-local w ws w.constant w.sort p q (λ m n. local_targets s m n ws)
      ∙ ap (λ vs. variable_of (meant_by (told_of s w) (local_target p q w)) (told_of s w) ∷ vs) (locals-each (number_behind (is_parameter_written w) p) (number_behind (is_other_written w) q) ws)

  written-again : (ws : List Written) → map (λ (t : ToldName). t.written) (map (told_of s) ws) ≡ ws
  written-again [] = refl
  written-again (w ∷ ws) = ap (λ xs. w ∷ xs) (written-again ws)

  pub locals_are : (name : List ℕ) (of : Option (TypeSpec ℕ)) (ss : List (Section ℕ)) (before vs : List DeclaredVariable) (ts : List ToldName) (p q : ℕ) → before ≡ result_declared s name of → ts ≡ map (told_of s) (sections_written ss)
      → p ≡ result_count s of → q ≡ p + length (filter is_parameter_written (map (λ t. t.written) ts)) → vs ≡ before ++ locals_told p q ts → vs ≡ routine_locals s name of ss
  unfolding routine_locals
  locals_are name of ss before vs ts p q b e f g h =
      let ws = sections_written ss in
      let i : q ≡ result_count s of + length (filter is_parameter_written ws) = g ∙ ap (λ n. n + length (filter is_parameter_written (map (λ (t : ToldName). t.written) ts))) f ∙ ap (λ us. result_count s of + length (filter is_parameter_written (map (λ (t : ToldName). t.written) us))) e ∙ ap (λ us. result_count s of + length (filter is_parameter_written us)) (written-again ws) in
      h
      ∙ ap (λ us. us ++ locals_told p q ts) b
      ∙ ap (λ n. result_declared s name of ++ locals_told n q ts) f
      ∙ ap (λ n. result_declared s name of ++ locals_told (result_count s of) n ts) i
      ∙ ap (λ us. result_declared s name of ++ locals_told (result_count s of) (result_count s of + length (filter is_parameter_written ws)) us) e
      ∙ ap (λ us. result_declared s name of ++ us) (sym (locals-each (result_count s of) (result_count s of + length (filter is_parameter_written ws)) ws))

-- ---- globals

pub global_added : (new old : List DeclaredGlobal) (v : DeclaredVariable) (t : ToldName) (r n : ℕ) (b c : Bool) (ts : List ToldName) → v ≡ variable_of (meant_by t (target.Region r)) t → new ≡ old ++ global.Variable v ∷ []
    → c ≡ (t.written).constant → b ≡ not c → n ≡ number_behind b r
    → (new ++ globals_told n ts ≡ old ++ globals_told r (t ∷ ts)) × (regions_behind n ts ≡ regions_behind r (t ∷ ts))
global_added new old v t r n b c ts f h d e p =
    let q : n ≡ number_behind (not (t.written).constant) r = p ∙ ap (λ x. number_behind x r) (e ∙ ap not d) in (
      ap (λ zs. zs ++ globals_told n ts) h
          ∙ append_assoc old (global.Variable v ∷ []) (globals_told n ts)
          ∙ ap (λ z. old ++ global.Variable z ∷ globals_told n ts) f
          ∙ ap (λ m. old ++ global.Variable (variable_of (meant_by t (target.Region r)) t) ∷ globals_told m ts) q,
      ap (λ m. regions_behind m ts) q,
    )

module _ (s : Scope) where
  one-global : (w : Written) (c : Bool) (r : ℕ) (rest : ℕ → List DeclaredGlobal)
      → (if c then global.Variable (declared_with s (constant_target (constant_of s w)) w) ∷ rest r else global.Variable (declared_with s (target.Region r) w) ∷ rest (suc r))
      ≡ (global.Variable (declared_with s (if c then constant_target (if c then constant_of s w else None) else target.Region r) w) ∷ rest (number_behind (not c) r))
  one-global w true r rest = refl
  one-global w false r rest = refl

  globals-each : (r : ℕ) (ws : List Written) → globals_in s r ws ≡ globals_told r (map (told_of s) ws)
  globals-each r [] = refl
  globals-each r (w ∷ ws) =
      one-global w w.constant r (λ m. globals_in s m ws)
      ∙ ap (λ vs. global.Variable (variable_of (meant_by (told_of s w) (target.Region r)) (told_of s w)) ∷ vs) (globals-each (number_behind (not w.constant) r) ws)

  regions-each : (r : ℕ) (ws : List Written) → regions_behind r (map (told_of s) ws) ≡ regions_of r ws
  regions-each r [] = refl
  regions-each r (w ∷ ws) = regions-each (number_behind (not w.constant) r) ws

pub globals_are : (s : Scope) (ws : List Written) (old new : List DeclaredGlobal) (r n : ℕ) (ts : List ToldName) → ts ≡ map (told_of s) ws → new ≡ old ++ globals_told r ts → n ≡ regions_behind r ts → AddsGlobals s old new r n ws
globals_are s ws old new r n ts e h k = record {
  globals = h ∙ ap (λ us. old ++ globals_told r us) e ∙ ap (λ us. old ++ us) (sym (globals-each s r ws));
  regions = k ∙ ap (regions_behind r) e ∙ regions-each s r ws;
}

-- ---- one after the other

pub record GlobalsTo (names : List Held) (old now : List DeclaredGlobal) (first region i : ℕ) : Type 0 where
  pub globals : now ++ globals_told region (map told_as (drop i names)) ≡ old ++ globals_told first (map told_as names)
  pub regions : regions_behind region (map told_as (drop i names)) ≡ regions_behind first (map told_as names)

pub globals_begun : (names : List Held) (old : List DeclaredGlobal) (first : ℕ) → GlobalsTo names old old first first 0
globals_begun names old first = record { globals = refl; regions = refl }

pub globals_next : (names : List Held) (old now more : List DeclaredGlobal) (first region after i : ℕ) (name : Held) → i < length names → name ≡ get_or names i name
    → ((ts : List ToldName) → (more ++ globals_told after ts ≡ now ++ globals_told region (told_as name ∷ ts)) × (regions_behind after ts ≡ regions_behind region (told_as name ∷ ts)))
    → GlobalsTo names old now first region i → GlobalsTo names old more first after (i + 1)
globals_next names old now more first region after i name l e f g = record {
  globals = (f (map told_as (drop (i + 1) names))).0 ∙ ap (λ xs. now ++ globals_told region (map told_as xs)) (sym (drop-at names i name l e)) ∙ g.globals;
  regions = (f (map told_as (drop (i + 1) names))).1 ∙ ap (λ xs. regions_behind region (map told_as xs)) (sym (drop-at names i name l e)) ∙ g.regions;
}

pub globals_ended : (names : List Held) (old now : List DeclaredGlobal) (first region i : ℕ) → length names ≤ i → GlobalsTo names old now first region i
    → (now ≡ old ++ globals_told first (map told_as names)) × (region ≡ regions_behind first (map told_as names))
globals_ended names old now first region i l g = (
  sym (append-nil now) ∙ ap (λ xs. now ++ globals_told region (map told_as xs)) (sym (drop-end names i l)) ∙ g.globals,
  ap (λ xs. regions_behind region (map told_as xs)) (sym (drop-end names i l)) ∙ g.regions,
)
