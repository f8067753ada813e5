use Rattle.std.proofs.Common.{ℕ, List, sym, ◌∙◌, subst}
use Rattle.st_values.specs.View.{program_of}
use Rattle.std.specs.HashSet.{contains}
use Rattle.st_meaning.specs.st_frame.Footprint.{Has}
use Rattle.footprints.specs.reached_routines.Families.{same_family}
use Rattle.footprints.specs.Private.Holders.{holders_at}
use Rattle.footprints.specs.Private.Puts.{Puts, Via}
use Rattle.footprints.proofs.WalkLaws.{not_fresh, kind_found, kind_known, followed_more}
use Rattle.footprints.proofs.walk.put_kind.Goals as goal

pub returns-in_ok-put_classes-in-Some-clause-followed : goal.returns-in_ok-put_classes-in-Some-clause-followed
returns-in_ok-put_classes-in-Some-clause-followed c =
    followed_more (program_of c.args.t.now.program.now) c.args.t.now.holders.items c.args.kind.now c.in-Some.family (sym c.family_of.ensures ∙ c.in-Some.is) c.args.walk.now.followed c.insert.new.self
    (c.in_ok-insert-in-Some.ensures.updates.0) c.args.walk.now.marks.keys c.put_classes.new.marks.keys
    (kind_found (program_of c.args.t.now.program.now) c.args.t.now.holders.items c.args.kind.now c.args.t.now.conformers c.of.result.now c.args.walk.now.marks.keys c.put_classes.new.marks.keys c.requires.tables.conformers c.of.ensures
    (subst (λ (lists : List (List ℕ)). Puts (Via c.of.result.now (λ d r. Has (holders_at lists d) r)) c.args.walk.now.marks.keys c.put_classes.new.marks.keys) c.as_slice.ensures.value c.in_ok-put_classes-in-Some.ensures))
    c.requires.followed

pub returns-else-branch-clause-puts : goal.returns-else-branch-clause-puts
returns-else-branch-clause-puts c =
    kind_known (program_of c.args.t.now.program.now) c.args.t.now.holders.items c.args.kind.now c.in-Some.family (sym c.family_of.ensures ∙ c.in-Some.is) c.args.walk.now.followed c.args.walk.now.marks.keys
    (not_fresh (contains same_family c.args.walk.now.followed c.in-Some.family) c.in_ok-insert-in-Some.field-0 c.in_ok-insert-in-Some.ensures.added c.if-branch.false) c.requires.followed
