use Rattle.std.proofs.Common.{◌≡◌, ap, ◌∙◌, ◌++◌, ◌∷◌, []}
use Rattle.std.specs.Prelude.{◌||◌}
use Rattle.check_regions.specs.shared_bits.Taken.{marked}
use Rattle.check_regions.specs.shared_bits.Private.Spans.{any_from, shares}
use Rattle.check_regions.proofs.shared_bits.BitLaws.{marks_next, shares_next}
use Rattle.check_regions.proofs.shared_bits.table.take_span.Goals as goal

pub returns-clause-takes : goal.returns-clause-takes
returns-clause-takes c =
    let s : c.any_taken-taken.result ≡ any_from c.args.span.start c.args.span.width (marked c.args.table.now.items) = c.any_taken-taken.ensures ∙ ap (λ t. any_from c.args.span.start c.args.span.width (marked t)) c.deref.ensures.value in
    record {
      marks = λ taken m. marks_next c.args.table.now.items c.fill.new.table.items taken c.args.span m c.fill.ensures.each;
      told = λ taken rest m. ap (λ b. b || shares (taken ++ c.args.span ∷ []) rest) c.either.ensures ∙ shares_next c.args.table.now.items c.args.shared c.any_taken-taken.result taken rest c.args.span m s;
    }
