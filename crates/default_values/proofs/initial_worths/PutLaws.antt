-- Lists that are put together from their ends, step by step.
use Rattle.std.proofs.Common.{◌≡◌, ℕ, zero, suc, ◌<◌, ◌≤◌, List, [], ◌∷◌, ◌++◌, Option, Some, None, refl, sym, ap, ◌∙◌, subst, arith}
use Rattle.std.specs.Prelude.{option_map}
use Rattle.st_tree.specs.declared.declaration.TypeDecl.{TypeDecl}
use Rattle.st_rules.specs.Scope.{Scope}
use Rattle.st_unit_rules.specs.Worth.{Worth, Worths, no_worths, worth_then, some_parts, worth_before}
use Rattle.default_values.specs.declared.worth_numbers.node.Node.{Node}
use Rattle.default_values.specs.declared.worth_numbers.numbers.Listed.{Listed}
use Rattle.default_values.specs.worth_numbers.Numbers.{Grows, HasWorth, AreWorths, HasParts, IsListed, worths_before, GivesEmpty, GivesLonger, GivesWhole}
use Rattle.default_values.proofs.worth_numbers.TableLaws.{grows_self, grows_through, list_stays, worth_stays, worths_stay}
use Rattle.default_values.specs.given_values.Lists.{repeat_before}
use Rattle.default_values.proofs.given_values.PartLaws.{repeat_none, untold_repeat}
use Rattle.default_values.specs.declared.initial_worths.structures.Structure.{Structure}
use Rattle.default_values.specs.declared.initial_worths.structures.Group.{Group}
use Rattle.default_values.specs.initial_worths.Structures.{IsTold, IsGroup, AreGroups, IsStructure, AreStructures}
use Rattle.default_values.specs.initial_worths.Found.{Finds}
use Rattle.default_values.specs.initial_worths.Private.Puts.{IsToldList, Puts, IsEnd, PutsTo}

-- ---- tables that grow

module _ (old new : List Node) (g : Grows old new) where
  pub told_stays : (r : Option ℕ) (o : Option Worth) → IsTold old r o → IsTold new r o
  told_stays None None h = tt
  told_stays None (Some w) h = absurd h
  told_stays (Some k) None h = absurd h
  told_stays (Some k) (Some w) h = worth_stays old new g k w h

  pub parts_stay : (l : Listed) (ws : Worths) → HasParts old l ws → HasParts new l ws
  parts_stay l ws h = record {
    parts = h.parts;
    listed = record { behind = h.listed.behind; lists = list_stays old new g l.rest h.listed.behind h.listed.lists; run = h.listed.run; is = h.listed.is };
    each = worths_stay old new g h.parts ws h.each;
  }

  module _ (unit : Scope) (entries : List (TypeDecl ℕ)) where
    pub group_stays : (k : ℕ) (x : Group) → IsGroup old unit entries k x → IsGroup new unit entries k x
    group_stays k x h = record { kind = h.kind; worth = told_stays x.worth _ h.worth }

    pub groups_stay : (k : ℕ) (xs : List Group) → AreGroups old unit entries k xs → AreGroups new unit entries k xs
    groups_stay k [] h = tt
    groups_stay k (x ∷ xs) h = (λ some. group_stays k x (h.0 some), groups_stay k xs h.1)

    pub structures_stay : (most : ℕ) (xs : List Structure) → AreStructures old unit entries most xs → AreStructures new unit entries most xs
    structures_stay most xs a = record {
      long = a.long;
      each = λ n x e. let h = a.each n x e in record { steps = h.steps; declared = h.declared; groups = λ k l m. groups_stay k x.groups.items (h.groups k l m) };
    }

-- ---- fewer steps

pub structures_less : (nodes : List Node) (unit : Scope) (entries : List (TypeDecl ℕ)) (less most : ℕ) (xs : List Structure) → less ≤ most → AreStructures nodes unit entries most xs → AreStructures nodes unit entries less xs
structures_less nodes unit entries less most xs l a = record {
  long = a.long;
  each = λ n x e. let h = a.each n x e in record { steps = h.steps; declared = h.declared; groups = λ k w m. h.groups k w (omega (arith, l, m)) };
}

-- ---- many of one worth

pub told_repeat : (n : ℕ) (w : Worth) (ws : Worths) → repeat_before n (Some w) (Some ws) ≡ Some (worths_before n w ws)
told_repeat zero w ws = refl
told_repeat (suc n) w ws = ap (worth_before (Some w)) (told_repeat n w ws)

module _ (Known : Scope → List (TypeDecl ℕ) → Type 0) (behind : Listed) (times : ℕ) (worth : Scope → List (TypeDecl ℕ) → Option Worth) where
  pub put_none_of_many : (nodes : List Node) → times ≡ 0 → Puts nodes nodes Known behind (Some behind) (λ u e o. repeat_before times (worth u e) o)
  put_none_of_many nodes z = record {
    grows = grows_self nodes;
    told = λ u e known ws h. subst (λ (n : ℕ). IsToldList nodes (Some behind) (repeat_before n (worth u e) (Some ws))) (sym z) h;
  }

  module _ (old mid : List Node) (g : Grows old mid) where
    untold_many : (u : Scope) (e : List (TypeDecl ℕ)) (ws : Worths) → 0 < times → (w : Option Worth) → IsTold mid None w → IsToldList mid None (repeat_before times w (Some ws))
    untold_many u e ws some None h = subst (λ (o : Option Worths). IsToldList mid None o) (sym (untold_repeat times (Some ws) some)) tt
    untold_many u e ws some (Some w) h = absurd h

    pub put_untold : 0 < times → ((u : Scope) (e : List (TypeDecl ℕ)) → Known u e → IsTold mid None (worth u e)) → Puts old mid Known behind None (λ u e o. repeat_before times (worth u e) o)
    put_untold some t = record { grows = g; told = λ u e known ws h. untold_many u e ws some (worth u e) (t u e known) }

  told_many : (old mid new : List Node) (g : Grows old mid) (k : ℕ) (l : Listed) → GivesLonger mid new times k behind l → (ws : Worths) → HasParts old behind ws → (w : Option Worth) → IsTold mid (Some k) w → IsToldList new (Some l) (repeat_before times w (Some ws))
  told_many old mid new g k l p ws h None t = absurd t
  told_many old mid new g k l p ws h (Some w) t =
      subst (λ (o : Option Worths). IsToldList new (Some l) o) (sym (told_repeat times w ws)) (p.worths w ws t (parts_stay old mid g behind ws h))

  pub put_told : (old mid new : List Node) (k : ℕ) (l : Listed) → Grows old mid → GivesLonger mid new times k behind l → ((u : Scope) (e : List (TypeDecl ℕ)) → Known u e → IsTold mid (Some k) (worth u e))
      → Puts old new Known behind (Some l) (λ u e o. repeat_before times (worth u e) o)
  put_told old mid new k l g p t = record {
    grows = grows_through old mid new g p.grows;
    told = λ u e known ws h. told_many old mid new g k l p ws h (worth u e) (t u e known);
  }

-- ---- loops

module _ (Known : Scope → List (TypeDecl ℕ) → Type 0) (total : Scope → List (TypeDecl ℕ) → Option Worths) where
  module _ (before after : Scope → List (TypeDecl ℕ) → Option Worths → Option Worths) (put : Scope → List (TypeDecl ℕ) → Option Worths → Option Worths)
      (steps : (u : Scope) (e : List (TypeDecl ℕ)) (o : Option Worths) → before u e o ≡ after u e (put u e o)) where
    told_next : (new : List Node) (m : Listed) (u : Scope) (e : List (TypeDecl ℕ)) (o p : Option Worths) → IsToldList new (Some m) p → total u e ≡ before u e o → p ≡ put u e o → IsEnd new m (total u e) (after u e)
    told_next new m u e o None h t q = absurd h
    told_next new m u e o (Some ws) h t q = record { worths = ws; parts = h; same = t ∙ steps u e o ∙ ap (after u e) (sym q) }

    pub next : (old mid new : List Node) (Now : Scope → List (TypeDecl ℕ) → Type 0) (l m : Listed) → PutsTo old mid Known l total before → ((u : Scope) (e : List (TypeDecl ℕ)) → Known u e → Now u e)
        → Puts mid new Now l (Some m) put → PutsTo old new Known m total after
    next old mid new Now l m so_far knows p = record {
      grows = grows_through old mid new so_far.grows p.grows;
      end = λ u e known. let x = so_far.end u e known in told_next new m u e (Some x.worths) (put u e (Some x.worths)) (p.told u e (knows u e known) x.worths x.parts) x.same refl;
    }

    told_stop : (new : List Node) (o p : Option Worths) → IsToldList new None p → p ≡ o → o ≡ None
    told_stop new o None h q = sym q
    told_stop new o (Some ws) h q = absurd h

    pub stopped : (old mid new : List Node) (Now : Scope → List (TypeDecl ℕ) → Type 0) (l : Listed) → PutsTo old mid Known l total before → ((u : Scope) (e : List (TypeDecl ℕ)) → Known u e → Now u e)
        → ((u : Scope) (e : List (TypeDecl ℕ)) → after u e None ≡ None) → Puts mid new Now l None put → (u : Scope) (e : List (TypeDecl ℕ)) → Known u e → total u e ≡ None
    stopped old mid new Now l so_far knows none p u e known =
        let x = so_far.end u e known in
        x.same ∙ steps u e (Some x.worths) ∙ ap (after u e) (told_stop new (put u e (Some x.worths)) (put u e (Some x.worths)) (p.told u e (knows u e known) x.worths x.parts) refl) ∙ none u e

module _ (Known : Scope → List (TypeDecl ℕ) → Type 0) (total : Scope → List (TypeDecl ℕ) → Option Worths → Option Worths) (behind : Listed) (old : List Node) where
  -- for each list behind
  abbrev pub Goes : List Node → Listed → (Scope → List (TypeDecl ℕ) → Option Worths → Option Worths) → Type 0
  Goes now l before = (ws : Worths) → PutsTo old now (λ u e. Known u e × HasParts old behind ws) l (λ u e. total u e (Some ws)) before

  pub goes_first : (before : Scope → List (TypeDecl ℕ) → Option Worths → Option Worths) → ((u : Scope) (e : List (TypeDecl ℕ)) (o : Option Worths) → total u e o ≡ before u e o) → Goes old behind before
  goes_first before same ws = record { grows = grows_self old; end = λ u e known. record { worths = ws; parts = known.1; same = same u e (Some ws) } }

  module _ (before after put : Scope → List (TypeDecl ℕ) → Option Worths → Option Worths) (steps : (u : Scope) (e : List (TypeDecl ℕ)) (o : Option Worths) → before u e o ≡ after u e (put u e o))
      (mid new : List Node) (Now : Scope → List (TypeDecl ℕ) → Type 0) (l : Listed) (knows : Grows old mid → (u : Scope) (e : List (TypeDecl ℕ)) → Known u e → Now u e) (so_far : Goes mid l before) where
    pub goes_on : (m : Listed) → Puts mid new Now l (Some m) put → Goes new m after
    goes_on m p ws =
        next (λ u e. Known u e × HasParts old behind ws) (λ u e. total u e (Some ws)) before after put steps old mid new Now l m (so_far ws) (λ u e known. knows (so_far ws).grows u e known.0) p

    pub goes_no_more : ((u : Scope) (e : List (TypeDecl ℕ)) → after u e None ≡ None) → Puts mid new Now l None put → Puts old new Known behind None total
    goes_no_more none p = record {
      grows = grows_through old mid new (so_far no_worths).grows p.grows;
      told = λ u e known ws h.
          let q = stopped (λ u e. Known u e × HasParts old behind ws) (λ u e. total u e (Some ws)) before after put steps old mid new Now l (so_far ws) (λ u e known. knows (so_far ws).grows u e known.0) none p u e (known, h) in
          subst (λ (o : Option Worths). IsToldList new None o) (sym q) tt;
    }

  pub goes_all : (now : List Node) (l : Listed) (before : Scope → List (TypeDecl ℕ) → Option Worths → Option Worths) → Goes now l before → ((u : Scope) (e : List (TypeDecl ℕ)) (o : Option Worths) → before u e o ≡ o) → Puts old now Known behind (Some l) total
  goes_all now l before so_far none = record {
    grows = (so_far no_worths).grows;
    told = λ u e known ws h.
        let x = (so_far ws).end u e (known, h) in
        subst (λ (o : Option Worths). IsToldList now (Some l) o) (sym (x.same ∙ none u e (Some x.worths))) x.parts;
  }
