use Rattle.std.proofs.Common.{◌≡◌, true}
use Rattle.st_types.specs.Private.Reached.{reached}
use Rattle.st_types.proofs.WideningLaws.{reaches_of, reached_of}
use Rattle.st_types.proofs.widening.reaches.Goals as goal

pub returns : goal.returns
returns c = (
  λ yes. (let h : reached c.args.from c.args.to ≡ true = cc in reaches_of _ _ h),
  λ path. (let h : reached c.args.from c.args.to ≡ true = reached_of _ _ path in cc),
)
