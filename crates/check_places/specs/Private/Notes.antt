-- Notes of names by the cases that the code tells apart.
use Rattle.std.specs.Prelude.{ℕ, Bool, true, false, List, if◌then◌else◌}
use Rattle.st_tree.specs.declared.program.Note.{Note}
use Rattle.st_tree.specs.declared.program.Target.{Target}
use Rattle.st_tree.specs.declared.program.Target.TheVariants.{Nothing}
use Rattle.st_tree.specs.Expression.{Selector, Field, Index, Selectors, no_selectors, selector_then}
use Rattle.st_tree.specs.Expression as tree
use Rattle.st_rules.specs.Scope.{Scope, no_qualifier, sought, dot_qualifier}
use Rattle.st_rules.specs.Places.{Standing, untold, a_value, own_instance, no_base, an_enumeration, part_of}
use Rattle.st_rules.specs.Calls.{conversion_named}
use Rattle.st_rules.specs.Expressions.{called_note, qualifier_note, part_target}
use Rattle.check_places.specs.Private.Places.{is_bare, begins_with_field}

abbrev pub bare_note : Scope → Bool → ℕ → List ℕ → Note
bare_note s called l name = if called then called_note s l (conversion_named name) (sought s true name) else qualifier_note l no_qualifier (sought s false name)

abbrev pub root_note : Scope → Bool → ℕ → List ℕ → Selectors ℕ → Note
root_note s called l name ss =
    if is_bare ss then bare_note s called l name
    else (if begins_with_field ss then qualifier_note l (dot_qualifier s name) (sought s false name) else qualifier_note l no_qualifier (sought s false name))

-- what one selector behind the name of an enumeration means
abbrev pub named_target : Scope → Standing → Selector ℕ → Target
named_target s b (Field k n) = part_target (part_of s b false n)
named_target s b (Index k es) = Nothing
named_target s b (tree.Target k) = Nothing

abbrev pub enumeration_target : Scope → Standing → Selector ℕ → Target
enumeration_target s (an_enumeration n) x = named_target s (an_enumeration n) x
enumeration_target s untold x = Nothing
enumeration_target s (a_value t) x = Nothing
enumeration_target s (own_instance c) x = Nothing
enumeration_target s no_base x = Nothing

abbrev pub qualified_target : Scope → Standing → Selectors ℕ → Target
qualified_target s b no_selectors = Nothing
qualified_target s b (selector_then x ss) = if is_bare ss then enumeration_target s b x else Nothing
