-- The same for sections of variables.
use Rattle.std.proofs.Common.{◌≡◌, Bool, true, false, ◌||◌, List, [], ◌∷◌, Option, Some, None, drop, refl, sym, ◌∙◌, ap}
use Rattle.std.specs.Prelude.{is_some, IfSome, IfNone}
use borrow.Author.Tests.{clash}
use Rattle.std.specs.Option.{option_map_or}
use Rattle.st_tree.specs.declared.terminal.Terminal.{Terminal}
use Rattle.st_tree.specs.declared.terminal.Terminal.TheVariants as x
use Rattle.st_tree.specs.declared.name.Name.{Name}
use Rattle.st_tree.specs.declared.marks.Marks.{Marks}
use Rattle.st_tree.specs.declared.declaration.Modifier.{Modifier}
use Rattle.st_tree.specs.declared.declaration.Modifier.TheVariants as modifier
use Rattle.st_tree.specs.declared.declaration.SectionSort.{SectionSort}
use Rattle.st_tree.specs.declared.declaration.SectionSort.TheVariants as sort
use Rattle.st_tree.specs.Grammar.{Lexeme, Phrase, ◌⋆◌, sign, marked, HasMarks}
use Rattle.st_tree.specs.Declarations as d
use Rattle.st_parser_expr.specs.Private.Promises.{next_terminal, MarksOf}
use Rattle.st_parser_decl.specs.declared.section.Words.{Words}
use Rattle.st_parser_decl.specs.declared.section.Words.TheVariants as words
use Rattle.st_parser_decl.specs.Private.Form.{Form, one_of, nullable, starts}
use Rattle.st_parser_decl.specs.Private.Rules as w
use Rattle.st_parser_decl.specs.Private.Promises.{first_in, Parses}
use Rattle.st_parser_decl.specs.Private.Sections.{modifier_of, allowed, in_words, one_word, sort_of}
use Rattle.st_parser_decl.proofs.Steps.{first_is, parses_word, as_phrase}

-- ---- modifiers

pub word_takes : (v : Words) → nullable (one_word v) ≡ false
word_takes words.Keep = refl
word_takes words.Section = refl
word_takes words.Class = refl
word_takes words.Method = refl

pub word_begins : (v : Words) (ts : List Lexeme) → first_in (starts (one_word v)) ts ≡ first_in (in_words v) ts
word_begins v [] = refl
word_begins words.Keep (t ∷ ts) = refl
word_begins words.Section (t ∷ ts) = refl
word_begins words.Class (t ∷ ts) = refl
word_begins words.Method (t ∷ ts) = refl

-- a terminal may stand there just where it is a modifier that may
pub word_allowed : (v : Words) (t : Terminal) → in_words v t ≡ option_map_or (allowed v) (modifier_of t) false
word_allowed words.Keep x.Constant = refl
word_allowed words.Keep _ = refl
word_allowed words.Section x.Constant = refl
word_allowed words.Section _ = refl
word_allowed words.Class x.Constant = refl
word_allowed words.Class _ = refl
word_allowed words.Method x.Constant = refl
word_allowed words.Method _ = refl

modifier_is : (m : Modifier) → modifier_of (d.modifier_terminal m) ≡ Some m
modifier_is modifier.Constant = refl
modifier_is _ = refl

allowed_in : (v : Words) (m : Modifier) → allowed v m ≡ true → in_words v (d.modifier_terminal m) ≡ true
allowed_in v m h = word_allowed v (d.modifier_terminal m) ∙ ap (λ o. option_map_or (allowed v) o false) (modifier_is m) ∙ h

pub word_is : (v : Words) (m : Modifier) (ts : List Lexeme) → allowed v m ≡ true → next_terminal ts ≡ Some (d.modifier_terminal m) → first_in (starts (one_word v)) ts ≡ true
word_is v m ts h next = word_begins v ts ∙ first_is (in_words v) (d.modifier_terminal m) ts next ∙ allowed_in v m h

pub word_parses : (v : Words) (m : Modifier) (ts us : List Lexeme) → allowed v m ≡ true → next_terminal ts ≡ Some (d.modifier_terminal m) → us ≡ drop 1 ts → Parses (d.modifier_in (allowed v) m) (one_word v) ts us
word_parses v m ts us h next same = as_phrase (λ c. (h, c)) (at v (allowed_in v m h))
  where
    at : (v : Words) → in_words v (d.modifier_terminal m) ≡ true → Parses (sign (d.modifier_terminal m)) (one_word v) ts us
    at words.Keep is = parses_word w.is_keep x.Constant refl _ ts us is next same
    at words.Section is = parses_word w.is_section_word x.Constant refl _ ts us is next same
    at words.Class is = parses_word w.is_class_word x.Abstract refl _ ts us is next same
    at words.Method is = parses_word w.is_method_word x.Abstract refl _ ts us is next same

-- no modifier, or one that may not stand there
pub no_modifier : (v : Words) (ts : List Lexeme) (t : Terminal) → next_terminal ts ≡ Some t → modifier_of t ≡ None → first_in (in_words v) ts ≡ false
no_modifier v ts t next h = first_is (in_words v) t ts next ∙ word_allowed v t ∙ ap (λ o. option_map_or (allowed v) o false) h

pub not_allowed : (v : Words) (ts : List Lexeme) (t : Terminal) (m : Modifier) → next_terminal ts ≡ Some t → modifier_of t ≡ Some m → allowed v m ≡ false → first_in (in_words v) ts ≡ false
not_allowed v ts t m next h not = first_is (in_words v) t ts next ∙ word_allowed v t ∙ ap (λ o. option_map_or (allowed v) o false) h ∙ not

pub modifier_back : (t : Terminal) (m : Modifier) → modifier_of t ≡ Some m → d.modifier_terminal m ≡ t
modifier_back x.Constant m h = let same : modifier.Constant ≡ m = cc in ap d.modifier_terminal (sym same)
modifier_back x.Retain m h = let same : modifier.Retain ≡ m = cc in ap d.modifier_terminal (sym same)
modifier_back x.NonRetain m h = let same : modifier.NonRetain ≡ m = cc in ap d.modifier_terminal (sym same)
modifier_back x.Persistent m h = let same : modifier.Persistent ≡ m = cc in ap d.modifier_terminal (sym same)
modifier_back x.Public m h = let same : modifier.Public ≡ m = cc in ap d.modifier_terminal (sym same)
modifier_back x.Protected m h = let same : modifier.Protected ≡ m = cc in ap d.modifier_terminal (sym same)
modifier_back x.Private m h = let same : modifier.Private ≡ m = cc in ap d.modifier_terminal (sym same)
modifier_back x.Internal m h = let same : modifier.Internal ≡ m = cc in ap d.modifier_terminal (sym same)
modifier_back x.Abstract m h = let same : modifier.Abstract ≡ m = cc in ap d.modifier_terminal (sym same)
modifier_back x.Final m h = let same : modifier.Final ≡ m = cc in ap d.modifier_terminal (sym same)
modifier_back x.Override m h = let same : modifier.Override ≡ m = cc in ap d.modifier_terminal (sym same)
modifier_back _ m h = absurd (clash (ap is_some h))

-- ---- the sort of a section

pub sort_back : (t : Terminal) (s : SectionSort) → sort_of t ≡ Some s → (d.is_global s ≡ false) × (d.section_terminal s ≡ t)
sort_back x.Var s h = let same : sort.Var ≡ s = cc in (ap d.is_global (sym same), ap d.section_terminal (sym same))
sort_back x.VarInput s h = let same : sort.Input ≡ s = cc in (ap d.is_global (sym same), ap d.section_terminal (sym same))
sort_back x.VarOutput s h = let same : sort.Output ≡ s = cc in (ap d.is_global (sym same), ap d.section_terminal (sym same))
sort_back x.VarInOut s h = let same : sort.InOut ≡ s = cc in (ap d.is_global (sym same), ap d.section_terminal (sym same))
sort_back x.VarTemp s h = let same : sort.Temp ≡ s = cc in (ap d.is_global (sym same), ap d.section_terminal (sym same))
sort_back x.VarExternal s h = let same : sort.External ≡ s = cc in (ap d.is_global (sym same), ap d.section_terminal (sym same))
sort_back _ s h = absurd (clash (ap is_some h))

no_section : (t : Terminal) → sort_of t ≡ None → w.is_section t ≡ false
no_section x.Var h = cc
no_section x.VarInput h = cc
no_section x.VarOutput h = cc
no_section x.VarInOut h = cc
no_section x.VarTemp h = cc
no_section x.VarExternal h = cc
no_section _ h = refl

pub no_sort : (ts : List Lexeme) (t : Terminal) → next_terminal ts ≡ Some t → sort_of t ≡ None → first_in w.is_section ts ≡ false
no_sort ts t next h = first_is w.is_section t ts next ∙ no_section t h

-- what comes of a terminal
pub sorted : (ts : List Lexeme) (t : Terminal) (o : Option SectionSort) → next_terminal ts ≡ Some t → o ≡ sort_of t → IfSome o (λ s. (d.is_global s ≡ false) × (next_terminal ts ≡ Some (d.section_terminal s)))
sorted ts t None next e = tt
sorted ts t (Some s) next e = let back = sort_back t s (sym e) in (back.0, next ∙ ap Some (sym back.1))

pub unsorted : (ts : List Lexeme) (t : Terminal) (o : Option SectionSort) → next_terminal ts ≡ Some t → o ≡ sort_of t → IfNone o (first_in w.is_section ts ≡ false)
unsorted ts t None next e = no_sort ts t next (sym e)
unsorted ts t (Some s) next e = tt

pub sort_begins : (s : SectionSort) → d.is_global s ≡ false → w.is_section (d.section_terminal s) ≡ true
sort_begins sort.Global h = cc
sort_begins _ h = refl

pub vars_begin : (ts : List Lexeme) → first_in (starts w.vars) ts ≡ first_in w.is_section ts
unfolding w.vars
vars_begin [] = refl
vars_begin (t ∷ ts) = or_false (w.is_section t.terminal)
  where
    or_false : (v : Bool) → v || false ≡ v
    or_false true = refl
    or_false false = refl

-- a section begins with its word
pub vars_next : (s : SectionSort) (ts : List Lexeme) → d.is_global s ≡ false → next_terminal ts ≡ Some (d.section_terminal s) → first_in (starts w.vars) ts ≡ true
vars_next s ts h next = vars_begin ts ∙ first_is w.is_section (d.section_terminal s) ts next ∙ sort_begins s h

pub sort_parses : (s : SectionSort) (ts us : List Lexeme) → d.is_global s ≡ false → next_terminal ts ≡ Some (d.section_terminal s) → us ≡ drop 1 ts → Parses (sign (d.section_terminal s)) (one_of w.is_section x.Var refl) ts us
sort_parses s ts us h next same = parses_word w.is_section x.Var refl (d.section_terminal s) ts us (sort_begins s h) next same

-- ---- marks

pub parses_marked : {Q : Phrase} {a : Form} {ts rest : List Lexeme} (ns : List Name) (marks : Marks) → MarksOf ts marks → Parses (d.names ns ⋆ Q) a ts rest → Parses (marked marks (d.names ns ⋆ Q)) a ts rest
parses_marked {ts = ts} ns marks h r = as_phrase (λ c. (at ns ts h c.0 c.1, c)) r
  where
    at : (ns : List Name) (ts : List Lexeme) → MarksOf ts marks → (m : List Lexeme) → d.names ns ts m → HasMarks marks ts
    at [] ts h m c = absurd c
    at (n ∷ ns) [] h m c = absurd c.1.0
    at (n ∷ ns) (t ∷ ts) h m c = h
