-- What a type holds, by its variants.
use Rattle.std.proofs.Common.{◌≡◌, ℕ, ℤ, Option, Some, None, sym, ap, ◌∙◌}
use Rattle.std.specs.Prelude.{int_le, if◌then◌else◌}
use Rattle.st_types.specs.declared.elem.Elem.{Elem}
use Rattle.st_types.specs.declared.st_type.StType.{StType, out-StType, roll-StType}
use Rattle.st_types.specs.declared.st_type.StType.TheVariants as type
use Rattle.st_types.specs.declared.st_type.StType.TheOpen.{StType-F}
use Rattle.st_types.specs.declared.st_type.StType.TheFolds.{fold-roll-StType, ind-StType}
use Rattle.region_instances.specs.declared.held.Held.{Held}
use Rattle.region_instances.specs.declared.held.Held.TheVariants as held
use Rattle.region_instances.specs.Private.Held.{held_of, held_at_level}

pub held-Elementary : (e : Elem) → held_of (type.Elementary e) ≡ None
unfolding held_of
held-Elementary e = ap held_of (sym (type.rolls-Elementary e)) ∙ fold-roll-StType (Option Held) held_at_level (StType-F.Elementary e)

pub held-Enumeration : (n : ℕ) → held_of (type.Enumeration n) ≡ None
unfolding held_of
held-Enumeration n = ap held_of (sym (type.rolls-Enumeration n)) ∙ fold-roll-StType (Option Held) held_at_level (StType-F.Enumeration n)

pub held-Structure : (n : ℕ) → held_of (type.Structure n) ≡ Some (held.Structure n)
unfolding held_of
held-Structure n = ap held_of (sym (type.rolls-Structure n)) ∙ fold-roll-StType (Option Held) held_at_level (StType-F.Structure n)

pub held-Array : (low high : ℤ) (of : StType) → held_of (type.Array low high of) ≡ (if int_le low high then held_of of else None)
unfolding held_of
held-Array low high of = ap held_of (sym (type.rolls-Array low high of)) ∙ fold-roll-StType (Option Held) held_at_level (StType-F.Array low high of)

pub held-Instance : (n : ℕ) → held_of (type.Instance n) ≡ Some (held.Class n)
unfolding held_of
held-Instance n = ap held_of (sym (type.rolls-Instance n)) ∙ fold-roll-StType (Option Held) held_at_level (StType-F.Instance n)

pub held-Reference : (n : ℕ) → held_of (type.Reference n) ≡ None
unfolding held_of
held-Reference n = ap held_of (sym (type.rolls-Reference n)) ∙ fold-roll-StType (Option Held) held_at_level (StType-F.Reference n)

pub held-Interface : (n : ℕ) → held_of (type.Interface n) ≡ None
unfolding held_of
held-Interface n = ap held_of (sym (type.rolls-Interface n)) ∙ fold-roll-StType (Option Held) held_at_level (StType-F.Interface n)

pub ruleset held_views = (held-Elementary, held-Enumeration, held-Structure, held-Array, held-Instance, held-Reference, held-Interface)

-- by the outside of the type
abbrev pub held_outside : StType-F StType → Option Held
held_outside (StType-F.Instance c) = Some (held.Class c)
held_outside (StType-F.Structure n) = Some (held.Structure n)
held_outside (StType-F.Array low high of) = if int_le low high then held_of of else None
held_outside _ = None

held_rolled : (o : StType-F StType) → held_of (roll-StType o) ≡ held_outside (out-StType (roll-StType o))
held_rolled (StType-F.Elementary e) = ap held_of (type.rolls-Elementary e) ∙ held-Elementary e ∙ sym (ap held_outside (ap out-StType (type.rolls-Elementary e) ∙ type.outs-Elementary e))
held_rolled (StType-F.Enumeration n) = ap held_of (type.rolls-Enumeration n) ∙ held-Enumeration n ∙ sym (ap held_outside (ap out-StType (type.rolls-Enumeration n) ∙ type.outs-Enumeration n))
held_rolled (StType-F.Structure n) = ap held_of (type.rolls-Structure n) ∙ held-Structure n ∙ sym (ap held_outside (ap out-StType (type.rolls-Structure n) ∙ type.outs-Structure n))
held_rolled (StType-F.Array low high of) = ap held_of (type.rolls-Array low high of) ∙ held-Array low high of ∙ sym (ap held_outside (ap out-StType (type.rolls-Array low high of) ∙ type.outs-Array low high of))
held_rolled (StType-F.Instance c) = ap held_of (type.rolls-Instance c) ∙ held-Instance c ∙ sym (ap held_outside (ap out-StType (type.rolls-Instance c) ∙ type.outs-Instance c))
held_rolled (StType-F.Reference c) = ap held_of (type.rolls-Reference c) ∙ held-Reference c ∙ sym (ap held_outside (ap out-StType (type.rolls-Reference c) ∙ type.outs-Reference c))
held_rolled (StType-F.Interface i) = ap held_of (type.rolls-Interface i) ∙ held-Interface i ∙ sym (ap held_outside (ap out-StType (type.rolls-Interface i) ∙ type.outs-Interface i))

held_opened : (t : StType) → held_of t ≡ held_outside (out-StType t)
held_opened t = ind-StType (λ u. held_of u ≡ held_outside (out-StType u)) (λ o inner is. held_rolled o) t

pub held_at : (t : StType) (o : StType-F StType) → out-StType t ≡ o → held_of t ≡ held_outside o
held_at t o e = held_opened t ∙ ap held_outside e
