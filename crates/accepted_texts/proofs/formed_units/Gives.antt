-- What a phrase gives of what it spells, where each lexeme before it is formed and there are at most so many.
use Rattle.std.proofs.Common.{◌≡◌, ◌≤◌, ℕ, List, [], ◌∷◌, length, subst, inl, inr, arith}
use Rattle.st_tree.specs.declared.terminal.Terminal.{Terminal}
use Rattle.st_tree.specs.declared.terminal.Terminal.TheVariants as x
use Rattle.st_tree.specs.declared.marks.Marks.{Marks}
use Rattle.st_tree.specs.declared.name.Name.{Name}
use Rattle.st_tree.specs.Grammar.{Lexeme, Phrase, ◌⋆◌, nothing, lexeme, sign, spelled, word, at, name, marked, optional, each}
use Rattle.accepted_texts.specs.formed_units.Formed.{Every, NotEmpty, FormedName, FormedAddress}

-- a lexeme is not empty, and only the address of a single bit has a point
pub record FormedLexeme (t : Lexeme) : Type 0 where
  pub some : NotEmpty t.text
  pub address : t.terminal ≡ x.Address → FormedAddress t.text

module _ (most : ℕ) where
  abbrev pub Fine : List Lexeme → Type 0
  Fine ts = Every FormedLexeme ts × (length ts ≤ most)

  abbrev pub Gives : Phrase → Type 0 → Type 0
  Gives P X = (ts rest : List Lexeme) → Fine ts → P ts rest → Fine rest × X

  pub then : (P Q : Phrase) (X Y : Type 0) → Gives P X → Gives Q Y → Gives (P ⋆ Q) (X × Y)
  then P Q X Y f g ts rest h w = let a = f ts w.0 h w.1 in let b = g w.0 rest a.0 w.2 in (b.0, (a.1, b.1))

  pub means : (P : Phrase) (X Y : Type 0) → (X → Y) → Gives P X → Gives P Y
  means P X Y m f ts rest h w = let a = f ts rest h w in (a.0, m a.1)

  pub nothing_gives : Gives nothing (Unit {0})
  nothing_gives ts rest h w = (subst Fine w h, tt)

  pub lexeme_gives : (C : Lexeme → Type 0) (X : Type 0) → ((t : Lexeme) → FormedLexeme t → C t → X) → Gives (lexeme C) X
  lexeme_gives C X f ts rest h w =
      let g = subst Fine w.2 h in
      ((g.0.1, let l = g.1 in omega (arith, l)), f w.0 g.0.0 w.1)

  pub sign_gives : (s : Terminal) → Gives (sign s) (Unit {0})
  sign_gives s = lexeme_gives (λ t. t.terminal ≡ s) (Unit {0}) (λ t n c. tt)

  pub spelled_gives : (s : Terminal) (text : List ℕ) → Gives (spelled s text) (NotEmpty text)
  spelled_gives s text = lexeme_gives (λ t. (t.terminal ≡ s) × (t.text ≡ text)) (NotEmpty text) (λ t n c. subst (λ z. NotEmpty z) c.1 n.some)

  pub address_spelled : (text : List ℕ) → Gives (spelled x.Address text) (FormedAddress text)
  address_spelled text = lexeme_gives (λ t. (t.terminal ≡ x.Address) × (t.text ≡ text)) (FormedAddress text) (λ t n c. subst FormedAddress c.1 (n.address c.0))

  pub at_gives : (l : ℕ) (P : Phrase) (X : Type 0) → Gives P X → Gives (at l P) X
  at_gives l P X f ts rest h w = f ts rest h w.1

  pub marked_gives : (m : Marks) (P : Phrase) (X : Type 0) → Gives P X → Gives (marked m P) X
  marked_gives m P X f ts rest h w = f ts rest h w.1

  pub word_gives : (n : List ℕ) → Gives (word n) (NotEmpty n)
  word_gives n = spelled_gives x.Word n

  pub name_gives : (n : Name) → Gives (name n) (FormedName n)
  name_gives n = at_gives n.line (word n.text) (FormedName n) (word_gives n.text)

  pub optional_gives : (s : Terminal) → Gives (optional s) (Unit {0})
  optional_gives s ts rest h (inl w) = sign_gives s ts rest h w
  optional_gives s ts rest h (inr w) = (subst Fine w.0 h, tt)

  pub each_gives : {X : Type 0} (P : X → Phrase) (R : X → Type 0) → ((y : X) → Gives (P y) (R y)) → (ys : List X) → Gives (each P ys) (Every R ys)
  each_gives P R f [] ts rest h w = nothing_gives ts rest h w
  each_gives P R f (y ∷ ys) ts rest h w = let a = f y ts w.0 h w.1 in let b = each_gives P R f ys w.0 rest a.0 w.2 in (b.0, (a.1, b.1))
