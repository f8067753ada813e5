-- The code's uses as those of the definition.
use Rattle.std.specs.Prelude.{List, map}
use Rattle.st_meaning.specs.st_frame.Use.{Called, the_function, a_method_of, a_method_from, a_body_of, the_body_from, Owner, the_region, the_instances, Use, names, follows, calls, changes}
use Rattle.routine_tables.specs.Tables.{Holds}
use Rattle.routine_tables.specs.signature_tables.Tables.{Declares}
use Rattle.body_uses.specs.declared.uses.Called.{Called as CodeCalled}
use Rattle.body_uses.specs.declared.uses.Called.TheVariants as called
use Rattle.body_uses.specs.declared.uses.Owner.{Owner as CodeOwner}
use Rattle.body_uses.specs.declared.uses.Owner.TheVariants as owner
use Rattle.body_uses.specs.declared.uses.Use.{Use as CodeUse}
use Rattle.body_uses.specs.declared.uses.Use.TheVariants as code
use Rattle.body_uses.specs.declared.calls.Callables.{Callables}

abbrev pub called_of : CodeCalled → Called
called_of (called.Function k) = the_function k
called_of (called.MethodOf t name) = a_method_of t.now name.now
called_of (called.MethodFrom d name) = a_method_from d name.now
called_of (called.BodyOf t) = a_body_of t.now
called_of (called.BodyFrom d) = the_body_from d

abbrev pub owner_of : CodeOwner → Owner
owner_of (owner.Region r) = the_region r
owner_of (owner.Instances t) = the_instances t.now

abbrev pub use_of : CodeUse → Use
use_of (code.Names r) = names r
use_of (code.Follows t) = follows t.now
use_of (code.Calls c) = calls (called_of c)
use_of (code.Changes o) = changes (owner_of o)

abbrev pub uses_of : List CodeUse → List Use
uses_of us = map use_of us

-- the tables tell what each routine of the program, and each method of its interfaces, may be given
pub record Knows (c : Callables) : Type 0 where
  pub routines : Holds c.tables.now c.routines.now
  pub signatures : Declares c.tables.now c.signatures.now
