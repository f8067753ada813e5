-- What the grammar gives of a unit beyond a tree of any form: sections stand where they may, enumerations have values, brackets have an
-- index, only the address of a single bit has a point, and no name is empty.
use Rattle.std.specs.Prelude.{◌≡◌, ◌≤◌, ◌⊎◌, ℕ, false, true, List, [], ◌∷◌, ◌++◌, map, length, Option, Some, None}
use Rattle.plc_text.specs.Text.{folded}
use Rattle.st_tree.specs.declared.address.Width.TheVariants as width
use Rattle.st_tree.specs.declared.name.Name.{Name}
use Rattle.st_tree.specs.declared.expression.Root.{Root}
use Rattle.st_tree.specs.declared.expression.Root.TheVariants as roots
use Rattle.st_tree.specs.declared.initial.Init.{Init}
use Rattle.st_tree.specs.declared.type_spec.ArraySpec.{ArraySpec}
use Rattle.st_tree.specs.declared.type_spec.Bounds.{Bounds}
use Rattle.st_tree.specs.declared.type_spec.SimpleSpec.{SimpleSpec}
use Rattle.st_tree.specs.declared.type_spec.SimpleSpec.TheVariants as simple
use Rattle.st_tree.specs.declared.type_spec.TypeSpec.{TypeSpec}
use Rattle.st_tree.specs.declared.declaration.Item.{Item}
use Rattle.st_tree.specs.declared.declaration.Section.{Section}
use Rattle.st_tree.specs.declared.declaration.FieldGroup.{FieldGroup}
use Rattle.st_tree.specs.declared.declaration.TypeBody.{TypeBody}
use Rattle.st_tree.specs.declared.declaration.TypeBody.TheVariants as type
use Rattle.st_tree.specs.declared.declaration.TypeDecl.{TypeDecl}
use Rattle.st_tree.specs.declared.declaration.Prototype.{Prototype}
use Rattle.st_tree.specs.declared.declaration.InterfaceDecl.{InterfaceDecl}
use Rattle.st_tree.specs.declared.declaration.Method.{Method}
use Rattle.st_tree.specs.declared.declaration.Member.{Member}
use Rattle.st_tree.specs.declared.declaration.Member.TheVariants as members
use Rattle.st_tree.specs.declared.declaration.ClassDecl.{ClassDecl}
use Rattle.st_tree.specs.declared.declaration.FunctionDecl.{FunctionDecl}
use Rattle.st_tree.specs.declared.declaration.ProgramDecl.{ProgramDecl}
use Rattle.st_tree.specs.declared.configuration.Configuration.{Configuration}
use Rattle.st_tree.specs.declared.configuration.Resource.{Resource}
use Rattle.st_tree.specs.declared.unit.Decl.{Decl}
use Rattle.st_tree.specs.declared.unit.Decl.TheVariants as decls
use Rattle.st_tree.specs.declared.unit.Unit.{Unit as ProgramText}
use Rattle.st_tree.specs.declared.token.TokenKind.TheVariants as token
use Rattle.st_tree.specs.Address.{width_of, bit_of}
use Rattle.st_tree.specs.Token.{Token, Tokens}
use Rattle.st_tree.specs.Reads.{lexemes}
use Rattle.st_tree.specs.Declarations.{is_global, Derives}
use Rattle.st_tree.specs.Expression.{Expression, Int, Typed, Time, True, False, Null, Place, Call, Enumerator, Ref, Now, Paren, Not, Negate, Chain, Expressions, no_expressions, expression_then, Selector, Field, Index, Selectors, no_selectors, selector_then, Argument, Positional, Input, Output, Arguments, no_arguments, argument_then, Tails, no_tails, tail_then, expression_of}
use Rattle.st_tree.specs.Expression as tree
use Rattle.st_tree.specs.Initial as init
use Rattle.st_tree.specs.Initial.{Initial, Part, Parts, no_parts, part_then, FieldInits, no_fields, field_then, initial_of}
use Rattle.st_tree.specs.Statement as stmt
use Rattle.st_tree.specs.Statement.{Statement, Statements, no_statements, statement_then, Branches, no_branches, branch_then, Cases, no_cases, case_then, Otherwise, statements_of}

abbrev pub Every : {X : Type 0} → (X → Type 0) → List X → Type 0
Every P [] = Unit {0}
Every P (x ∷ xs) = P x × Every P xs

abbrev pub NotEmpty : {X : Type 0} → List X → Type 0
NotEmpty [] = ⊥
NotEmpty (x ∷ xs) = Unit {0}

abbrev pub IfThere : {X : Type 0} → (X → Type 0) → Option X → Type 0
IfThere P None = Unit {0}
IfThere P (Some x) = P x

-- ---- expressions

-- names are not empty
abbrev pub FormedRoot : Root ℕ → Type 0
FormedRoot (roots.Name l n) = NotEmpty n
FormedRoot _ = Unit {0}

abbrev mutual
  pub Formed : Expression ℕ → Type 0
  Formed (Place a r ss) = FormedRoot r × FormedAlong ss
  Formed (Call a r ss xs) = FormedRoot r × (FormedAlong ss × FormedArguments xs)
  Formed (Ref a r ss) = FormedRoot r × FormedAlong ss
  Formed (Enumerator a t b n) = NotEmpty t × NotEmpty n
  Formed (Paren a e) = Formed e
  Formed (Not a e) = Formed e
  Formed (Negate a e) = Formed e
  Formed (Chain a e ts) = Formed e × FormedTails ts
  Formed _ = Unit {0}

  pub FormedTails : Tails ℕ → Type 0
  FormedTails no_tails = Unit {0}
  FormedTails (tail_then a o e ts) = Formed e × FormedTails ts

  pub FormedEach : Expressions ℕ → Type 0
  FormedEach no_expressions = Unit {0}
  FormedEach (expression_then e es) = Formed e × FormedEach es

  pub FormedAlong : Selectors ℕ → Type 0
  FormedAlong no_selectors = Unit {0}
  FormedAlong (selector_then x ss) = FormedSelector x × FormedAlong ss

  -- an index has an expression
  pub FormedSelector : Selector ℕ → Type 0
  FormedSelector (Index l no_expressions) = ⊥
  FormedSelector (Index l (expression_then e es)) = Formed e × FormedEach es
  FormedSelector (Field l n) = NotEmpty n
  FormedSelector (tree.Target l) = Unit {0}

  pub FormedArguments : Arguments ℕ → Type 0
  FormedArguments no_arguments = Unit {0}
  FormedArguments (argument_then x xs) = FormedArgument x × FormedArguments xs

  pub FormedArgument : Argument ℕ → Type 0
  FormedArgument (Positional e) = Formed e
  FormedArgument (Input a name e) = NotEmpty name × Formed e
  FormedArgument (Output a name b r ss) = NotEmpty name × (FormedRoot r × FormedAlong ss)

-- ---- types and initial values

pub record FormedBounds (b : Bounds ℕ) : Type 0 where
  pub low : Formed (expression_of b.low)
  pub high : Formed (expression_of b.high)

-- ARRAY has a range
pub record FormedArray (a : ArraySpec ℕ) : Type 0 where
  pub some : NotEmpty a.bounds
  pub bounds : Every FormedBounds a.bounds

abbrev pub FormedElement : SimpleSpec ℕ → Type 0
FormedElement (simple.Elementary l k) = Unit {0}
FormedElement (simple.Named l n) = NotEmpty n
FormedElement (simple.Reference l k n) = NotEmpty n

pub record FormedType (t : TypeSpec ℕ) : Type 0 where
  pub arrays : Every FormedArray t.arrays
  pub element : FormedElement t.element

abbrev mutual
  pub FormedInitial : Initial ℕ → Type 0
  FormedInitial (init.Value e) = Formed e
  FormedInitial (init.Array l ps) = FormedParts ps
  FormedInitial (init.Fields l fs) = FormedFields fs

  pub FormedParts : Parts ℕ → Type 0
  FormedParts no_parts = Unit {0}
  FormedParts (part_then p ps) = FormedPart p × FormedParts ps

  pub FormedPart : Part ℕ → Type 0
  FormedPart (init.One i) = FormedInitial i
  FormedPart (init.Repeated l n i) = FormedInitial i

  pub FormedFields : FieldInits ℕ → Type 0
  FormedFields no_fields = Unit {0}
  FormedFields (field_then l n i fs) = NotEmpty n × (FormedInitial i × FormedFields fs)

-- ---- statements

abbrev mutual
  pub FormedStatement : Statement ℕ → Type 0
  FormedStatement (stmt.Assign l a r ss e) = FormedRoot r × (FormedAlong ss × Formed e)
  FormedStatement (stmt.Attempt l a r ss e) = FormedRoot r × (FormedAlong ss × Formed e)
  FormedStatement (stmt.Call l a r ss xs) = FormedRoot r × (FormedAlong ss × FormedArguments xs)
  FormedStatement (stmt.If l bs other) = FormedBranches bs × FormedOtherwise other
  FormedStatement (stmt.Case l e cs other) = Formed e × (FormedCases cs × FormedOtherwise other)
  FormedStatement (stmt.For l a n from to by ss) = NotEmpty n × (Formed from × (Formed to × (IfThere Formed by × FormedBody ss)))
  FormedStatement (stmt.While l e ss) = Formed e × FormedBody ss
  FormedStatement (stmt.Repeat l ss e) = FormedBody ss × Formed e
  FormedStatement _ = Unit {0}

  pub FormedBody : Statements ℕ → Type 0
  FormedBody no_statements = Unit {0}
  FormedBody (statement_then x ss) = FormedStatement x × FormedBody ss

  pub FormedBranches : Branches ℕ → Type 0
  FormedBranches no_branches = Unit {0}
  FormedBranches (branch_then e ss bs) = Formed e × (FormedBody ss × FormedBranches bs)

  pub FormedOtherwise : Otherwise ℕ → Type 0
  FormedOtherwise stmt.Nothing = Unit {0}
  FormedOtherwise (stmt.Else ss) = FormedBody ss

  -- a row of CASE has a label
  pub FormedCases : Cases ℕ → Type 0
  FormedCases no_cases = Unit {0}
  FormedCases (case_then ls ss cs) = NotEmpty ls × (FormedBody ss × FormedCases cs)

-- ---- declarations

abbrev pub FormedName : Name → Type 0
FormedName n = NotEmpty n.text

abbrev pub FormedStart : Option (Init ℕ) → Type 0
FormedStart o = IfThere (λ i. FormedInitial (initial_of i)) o

abbrev pub FormedResult : Option (TypeSpec ℕ) → Type 0
FormedResult o = IfThere FormedType o

-- a list of names has one
pub record FormedNames (ns : List Name) : Type 0 where
  pub some : NotEmpty ns
  pub each : Every FormedName ns

-- a single bit, or no number behind a point
abbrev pub FormedAddress : List ℕ → Type 0
FormedAddress text = (width_of text ≡ width.Bit) ⊎ (bit_of text ≡ 0)

pub record FormedItem (x : Item ℕ) : Type 0 where
  pub names : FormedNames x.names
  pub address : IfThere FormedAddress x.address
  pub kind : FormedType x.kind
  pub initial : FormedStart x.initial

pub record FormedSection (x : Section ℕ) : Type 0 where
  pub items : Every FormedItem x.items

-- a section of variables is no VAR_GLOBAL
pub record FormedVars (x : Section ℕ) : Type 0 where
  pub local : is_global x.sort ≡ false
  pub section : FormedSection x

-- a section of globals is one
pub record FormedGlobals (x : Section ℕ) : Type 0 where
  pub global : is_global x.sort ≡ true
  pub section : FormedSection x

pub record FormedGroup (g : FieldGroup ℕ) : Type 0 where
  pub names : FormedNames g.names
  pub kind : FormedType g.kind
  pub initial : FormedStart g.initial

-- an enumeration has a value, and at most `most`
abbrev pub FormedTypeBody : ℕ → TypeBody ℕ → Type 0
FormedTypeBody most (type.Alias t) = FormedType t
FormedTypeBody most (type.Enumeration ns) = FormedNames ns × (length ns ≤ most)
FormedTypeBody most (type.Structure gs) = Every FormedGroup gs

pub record FormedEntry (most : ℕ) (t : TypeDecl ℕ) : Type 0 where
  pub name : FormedName t.name
  pub body : FormedTypeBody most t.body

pub record FormedPrototype (m : Prototype ℕ) : Type 0 where
  pub name : FormedName m.name
  pub result : FormedResult m.result
  pub sections : Every FormedVars m.sections

pub record FormedInterface (d : InterfaceDecl ℕ) : Type 0 where
  pub name : FormedName d.name
  pub methods : Every FormedPrototype d.methods

pub record FormedMethod (m : Method ℕ) : Type 0 where
  pub name : FormedName m.name
  pub result : FormedResult m.result
  pub sections : Every FormedVars m.sections
  pub body : FormedBody (statements_of m.body)

abbrev pub FormedMember : Member ℕ → Type 0
FormedMember (members.Section s) = FormedVars s
FormedMember (members.Method m) = FormedMethod m

-- a CLASS has no body
pub record FormedClass (d : ClassDecl ℕ) : Type 0 where
  pub name : FormedName d.name
  pub members : Every FormedMember d.members
  pub body : FormedBody (statements_of d.body)

pub record FormedFunction (f : FunctionDecl ℕ) : Type 0 where
  pub name : FormedName f.name
  pub result : FormedResult f.result
  pub sections : Every FormedVars f.sections
  pub body : FormedBody (statements_of f.body)

pub record FormedProgram (d : ProgramDecl ℕ) : Type 0 where
  pub name : FormedName d.name
  pub sections : Every FormedVars d.sections
  pub body : FormedBody (statements_of d.body)

pub record FormedConfiguration (c : Configuration ℕ) : Type 0 where
  pub name : FormedName c.name
  pub globals : Every FormedGlobals c.globals
  pub resource : IfThere (λ (r : Resource ℕ). Every FormedGlobals r.globals) c.resource

-- ---- units

abbrev pub FormedDecl : ℕ → Decl ℕ → Type 0
FormedDecl most (decls.Types l ts) = Every (FormedEntry most) ts
FormedDecl most (decls.Globals s) = FormedGlobals s
FormedDecl most (decls.Interface d) = FormedInterface d
FormedDecl most (decls.Class d) = FormedClass d
FormedDecl most (decls.Function f) = FormedFunction f
FormedDecl most (decls.Program d) = FormedProgram d
FormedDecl most (decls.Configuration c) = FormedConfiguration c

-- all declarations of a unit are; no enumeration has more than so many values
abbrev pub IsFormed : ℕ → List (Decl ℕ) → Type 0
IsFormed most ds = Every (FormedDecl most) ds

-- ---- laws

-- a token is not empty, and only the address of a single bit has a point
pub record FormedToken (t : Token) : Type 0 where
  pub some : NotEmpty t.text
  pub address : t.kind ≡ token.Address → FormedAddress (folded t.text)

abbrev pub AreFormed : List Token → Type 0
AreFormed ts = Every FormedToken ts

pub record FormedLaws : Type 0 where
  -- the tokens of a text are formed, and at most as many as its bytes
  pub tokens : (text : List ℕ) (tokens : List Token) → Tokens text tokens → AreFormed tokens × (length tokens ≤ length text)
  -- a unit that tokens spell is formed
  pub formed : (most : ℕ) (tokens : List Token) (unit : ProgramText) → AreFormed tokens → length tokens ≤ most → Derives (lexemes tokens) unit → IsFormed most unit.decls
  -- so is the unit of a text
  pub text : (most : ℕ) (text : List ℕ) (tokens : List Token) (unit : ProgramText) → Tokens text tokens → length text ≤ most → Derives (lexemes tokens) unit → IsFormed most unit.decls
  -- and that of a text of which other tokens with the same words are read, as the prelude's
  pub changed : (most : ℕ) (text : List ℕ) (tokens : List Token) (f : Token → Token) (unit : ProgramText) → ((t : Token) → ((f t).kind ≡ t.kind) × ((f t).text ≡ t.text)) → Tokens text tokens → length text ≤ most → Derives (lexemes (map f tokens)) unit → IsFormed most unit.decls
  -- one behind the other
  pub joined : (most : ℕ) (ds es : List (Decl ℕ)) → IsFormed most ds → IsFormed most es → IsFormed most (ds ++ es)
