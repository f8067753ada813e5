-- The unit of a source is formed: the declarations of the prelude, and those of the source behind them.
use Rattle.std.proofs.Common.{◌≡◌, ◌≤◌, ℕ, List, ◌++◌, length, refl, sym, subst, arith}
use Rattle.st_tree.specs.declared.unit.Decl.{Decl}
use Rattle.st_tree.specs.declared.unit.Unit.{Unit as ProgramText}
use Rattle.st_tree.specs.Token.{Token}
use Rattle.st_prelude.specs.Blocks.{standard_blocks}
use Rattle.st_prelude.specs.Prelude.{IsPrelude, without_line}
use Rattle.accepted_texts.specs.st_accepted.Accepted.{most_bytes, IsUnit}
use Rattle.accepted_texts.proofs.told_units.Good.{told_unit_laws}
use Rattle.accepted_texts.specs.formed_units.Formed.{IsFormed}
use Rattle.accepted_texts.proofs.formed_units.Texts.{formed_laws}
use Rattle.accepted_texts.specs.formed_texts.FormedTexts.{FormedTextLaws}
use Rattle.accepted_texts.proofs.formed_texts.Units.{formed_unit}

module _ (most : ℕ) where
  prelude_formed : (text : List ℕ) (unit : ProgramText) → length text ≤ most → IsPrelude text unit → IsFormed most unit.decls
  prelude_formed text unit l h = formed_laws.changed most text h.tokens without_line unit (λ t. (refl, refl)) h.tokens-are l h.derived

  whole_formed : (prelude text : List ℕ) (whole : ProgramText) → length prelude ≤ most → most_bytes ≤ most → IsUnit prelude text whole → IsFormed most whole.decls
  whole_formed prelude text whole l m u =
      let b = u.fits in
      let own = formed_laws.text most text u.tokens u.unit u.tokens-are (omega (arith, b, m)) u.reads.derived in
      let p = u.with_prelude in
      subst (IsFormed most) (sym p.before) (formed_laws.joined most p.prelude.decls u.unit.decls (prelude_formed prelude p.prelude l p.is-prelude) own)

standard_length : length standard_blocks ≡ 2535
unfolding standard_blocks
standard_length = refl

pub formed_text_laws : FormedTextLaws
formed_text_laws = record {
  formed = λ most prelude text whole l m u. whole_formed most prelude text whole l m u;
  standard = λ text whole u. let e = standard_length in whole_formed most_bytes standard_blocks text whole (omega (arith, e)) (omega arith) u;
  arguments = formed_unit;
  told = λ most decls h good. told_unit_laws.all_is_told decls good (formed_unit most decls h);
}
