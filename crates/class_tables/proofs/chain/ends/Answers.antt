use Rattle.std.proofs.Common.{◌≡◌, ◌-◌, suc, length, arith, sym, ◌∙◌, ap}
use Rattle.std.specs.Option.{is_none}
use Rattle.class_tables.specs.Private.Chain.{base_in}
use Rattle.class_tables.proofs.EndLaws.{ends-last, none-is}
use Rattle.class_tables.proofs.chain.ends.Goals as goal

pub returns : goal.returns
returns c =
    let e : length c.args.classes.now ≡ suc (length c.args.classes.now - 1) = omega (arith, c.if-count-eq0.false) in
    none-is _ _ c.is_none.ensures ∙ ap is_none c.base.ensures ∙ sym (ends-last (base_in c.args.rows.now) c.args.classes.now (length c.args.classes.now - 1) e)
