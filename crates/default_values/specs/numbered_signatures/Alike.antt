-- Signatures that tell values in two ways, and nothing else otherwise.
use Rattle.std.specs.Prelude.{◌≡◌, List, [], ◌∷◌, Option, Some, None}
use Rattle.st_rules.specs.declared.signature.Parameter.{Parameter}
use Rattle.st_rules.specs.declared.signature.Signature.{Signature}
use Rattle.st_rules.specs.declared.signature.Signatures.{Signatures}

abbrev pub IsAlikeIfTold : {X Y : Type 0} → (X → Y → Type 0) → Option X → Option Y → Type 0
IsAlikeIfTold R None None = Unit {0}
IsAlikeIfTold R (Some x) (Some y) = R x y
IsAlikeIfTold R _ _ = ⊥

abbrev pub AreAlike : {X Y : Type 0} → (X → Y → Type 0) → List X → List Y → Type 0
AreAlike R [] [] = Unit {0}
AreAlike R (x ∷ xs) (y ∷ ys) = R x y × AreAlike R xs ys
AreAlike R _ _ = ⊥

module _ {V W : Type 0} (Tells : V → W → Type 0) where
  pub record IsAlikeParameter (p : Parameter V) (q : Parameter W) : Type 0 where
    pub sort : p.sort ≡ q.sort
    pub name : p.name ≡ q.name
    pub kind : p.kind ≡ q.kind
    pub initial : IsAlikeIfTold Tells p.initial q.initial

  pub record IsAlike (a : Signature V) (b : Signature W) : Type 0 where
    pub result : a.result ≡ b.result
    pub parameters : AreAlike IsAlikeParameter a.parameters b.parameters

  pub record AreAllAlike (a : Signatures V) (b : Signatures W) : Type 0 where
    pub methods : AreAlike (AreAlike IsAlike) a.methods b.methods
    pub prototypes : AreAlike (AreAlike IsAlike) a.prototypes b.prototypes
    pub falsehood : Tells a.falsehood b.falsehood
