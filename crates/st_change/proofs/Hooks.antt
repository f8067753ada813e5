-- The hooks of a first load and of a change are those of instances, each on one of its class.
use Rattle.std.proofs.Common.{◌≡◌, ℕ, Bool, true, false, List, [], ◌∷◌, ◌++◌, Option, Some, None, refl, sym, ap, ◌∙◌, subst, inl, inr}
use Rattle.std.specs.Prelude.{◌⊎◌, ◌||◌, if◌then◌else◌, nat_eq, reverse, is_some}
use Rattle.std.proofs.lemmas.Bool.{eq-eqb}
use Rattle.std.proofs.lemmas.Grind.{reverse_onto}
use Rattle.st_types.specs.declared.st_type.StType.TheVariants as type
use Rattle.st_rules.specs.Chains.{is_among}
use Rattle.st_values.specs.Program.{Class, Routine, Program, class_at, chain_of, conforming, conforms, own_method}
use Rattle.st_meaning.specs.st_frame.Footprint.{Has}
use Rattle.st_meaning.specs.st_frame.Good.{Names}
use Rattle.st_meaning.specs.st_frame.Promise.Declarations.{Each}
use Rattle.st_change.specs.Instances.{Member, members_first, owner_first, of_regions}
use Rattle.st_change.specs.Hook.{Hook, When, at_init, at_exit, at_reinit, hook_name, declares_hook, hooks_along, init_hooks, exit_hooks, first_only, reinit_hooks, init_flags, routine_of, chain}
use Rattle.st_change.specs.Change.{first_inits, leaving, coming, goes_on, comes_from, exits, inits, reinits}
use Rattle.st_change.specs.Counterpart.{kept, was_kept}
use Rattle.st_change.specs.StoreLaws.{IsHook}
use Rattle.st_change.proofs.Members.{each_both, each_if, IsMember, members_are, owners_are, regions_are}

-- ---- a chain

among : (c : ℕ) (cs : List ℕ) → Has cs c → is_among c cs ≡ true
among c [] h = absurd h
among c (d ∷ cs) (inl e) = ap (λ b. b || is_among c cs) (eq-eqb c d e)
among c (d ∷ cs) (inr h) = by (nat_eq c d) (among c cs h)
  where
    by : (b : Bool) → is_among c cs ≡ true → b || is_among c cs ≡ true
    by true e = refl
    by false e = e

-- each class of a list is of this chain
abbrev AllIn : List ℕ → List ℕ → Type 0
AllIn cs chain = Each (λ c. Has chain c) cs

widen : (d : ℕ) (chain cs : List ℕ) → AllIn cs chain → AllIn cs (d ∷ chain)
widen d chain [] h = tt
widen d chain (c ∷ cs) h = (inr h.0, widen d chain cs h.1)

all_in : (chain : List ℕ) → AllIn chain chain
all_in [] = tt
all_in (c ∷ cs) = (inl refl, widen c cs cs (all_in cs))

reverse_in : (chain cs : List ℕ) → AllIn cs chain → AllIn (reverse cs) chain
reverse_in chain [] h = tt
reverse_in chain (c ∷ cs) h = subst (λ ys. AllIn ys chain) (sym (reverse_onto cs c [])) (each_both (λ c. Has chain c) (reverse cs) (c ∷ []) (reverse_in chain cs h.1) (h.0, tt))

some_of : {A : Type 0} (o : Option A) → is_some o ≡ true → (a : A) × (o ≡ Some a)
some_of None e = cc
some_of (Some a) e = (a, refl)

-- ---- hooks of instances

module _ (p : Program) where
  conforms_above : (c k : ℕ) (o : Option Class) → Has (chain_of o) c → conforming (type.Instance c) o ≡ true
  conforms_above c k None h = absurd h
  conforms_above c k (Some x) h = among c x.chain h

  is_above : (k c : ℕ) → Has (chain_of (class_at p k)) c → conforms p k (type.Instance c) ≡ true
  unfolding conforms
  is_above k c h = conforms_above c k (class_at p k) h

  along : (w : When) (m : Member) (flags : List Bool) (cs : List ℕ) → IsMember p m → AllIn cs (chain_of (class_at p m.class)) → Each (IsHook p) (hooks_along p w m.path flags cs)
  along w m flags [] n h = tt
  along w m flags (c ∷ cs) n h = each_both (IsHook p) _ (hooks_along p w m.path flags cs) (by (declares_hook p w c) refl) (along w m flags cs n h.1)
    where
      by : (b : Bool) → declares_hook p w c ≡ b → Each (IsHook p) (if b then record { path = m.path; class = c; when = w; flags = flags } ∷ [] else [])
      by true e =
          let r = some_of (own_method p (hook_name w) c) e in
          (record { names = record { class = m.class; name = m.name; fields = n.0; there = n.1; meets = is_above m.class c h.0 }; routine = r.0; there = r.1 }, tt)
      by false e = tt

  init_on : (flags : List Bool) (m : Member) → IsMember p m → Each (IsHook p) (init_hooks p flags m)
  init_on flags m n = along at_init m flags (reverse (chain p m.class)) n (reverse_in (chain p m.class) (chain p m.class) (all_in (chain p m.class)))

  exit_on : (flags : List Bool) (m : Member) → IsMember p m → Each (IsHook p) (exit_hooks p flags m)
  exit_on flags m n = along at_exit m flags (chain p m.class) n (all_in (chain p m.class))

  first_on : (hs : List Hook) → Each (IsHook p) hs → Each (IsHook p) (first_only hs)
  first_on [] h = tt
  first_on (x ∷ xs) h = (h.0, tt)

  reinit_on : (m : Member) → IsMember p m → Each (IsHook p) (reinit_hooks p m)
  reinit_on m n = first_on _ (along at_reinit m [] (chain p m.class) n (all_in (chain p m.class)))

  firsts_on : (ms : List Member) → Each (IsMember p) ms → Each (IsHook p) (first_inits p ms)
  firsts_on [] h = tt
  firsts_on (m ∷ ms) h = each_both (IsHook p) (init_hooks p (init_flags false) m) (first_inits p ms) (init_on (init_flags false) m h.0) (firsts_on ms h.1)

  pub starts_are : Each (IsHook p) (first_inits p (of_regions p (λ r. true) members_first 0 p.regions))
  starts_are = firsts_on _ (regions_are p (λ r. true) members_first (members_are p) p.regions 0)

-- ---- a change

module _ (old new : Program) where
  exits_on : (ms : List Member) → Each (IsMember old) ms → Each (IsHook old) (exits old new ms)
  exits_on [] h = tt
  exits_on (m ∷ ms) h = each_both (IsHook old) (exit_hooks old (goes_on old new m ∷ []) m) (exits old new ms) (exit_on old (goes_on old new m ∷ []) m h.0) (exits_on ms h.1)

  inits_on : (ms : List Member) → Each (IsMember new) ms → Each (IsHook new) (inits old new ms)
  inits_on [] h = tt
  inits_on (m ∷ ms) h = each_both (IsHook new) (init_hooks new (init_flags (comes_from old new m)) m) (inits old new ms) (init_on new (init_flags (comes_from old new m)) m h.0) (inits_on ms h.1)

  reinits_on : (ms : List Member) → Each (IsMember new) ms → Each (IsHook new) (reinits old new ms)
  reinits_on [] h = tt
  reinits_on (m ∷ ms) h = each_both (IsHook new) _ (reinits old new ms) (each_if (IsHook new) (comes_from old new m) (reinit_hooks new m) (reinit_on new m h.0)) (reinits_on ms h.1)

  pub exits_are : Each (IsHook old) (exits old new (leaving old new))
  exits_are = exits_on _ (regions_are old _ owner_first (owners_are old) old.regions 0)

  pub inits_are : Each (IsHook new) (inits old new (coming old new))
  inits_are = inits_on _ (regions_are new _ members_first (members_are new) new.regions 0)

  pub reinits_are : Each (IsHook new) (reinits old new (coming old new))
  reinits_are = reinits_on _ (regions_are new _ members_first (members_are new) new.regions 0)
