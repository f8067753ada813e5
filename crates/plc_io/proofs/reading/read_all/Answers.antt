use Rattle.std.proofs.Common.{◌≡◌, ◌∙◌, ◌+◌, ◌++◌, Err, Ok, sym, ap, subst, length, vec_len, arith, length-append}
use Rattle.std.proofs.lemmas.Result.{err_from_is_err_and}
use Rattle.std.proofs.KnownBytes.{Consumes-trans}
use Rattle.std.specs.Io.KnownBytes.{Consumes}
use Rattle.plc_io.specs.Faults.{Rose}
use Rattle.plc_io.proofs.Consumed as consumed
use Rattle.plc_io.proofs.reading.read_all.Goals as goal

pub returns-in_err-read_piece-clause-gone : goal.returns-in_err-read_piece-clause-gone
returns-in_err-read_piece-clause-gone g c =
    let e = c.in_err-read_piece.ensures.err in
    let both = Consumes-trans (g.S.Source.left c.args.src.now) (g.S.Source.left c.pieces.src) (g.S.Source.left c.read_piece.new.src) c.pieces.bytes.items e.0 c.pieces.invariant.read e.1 in
    consumed.gone _ _ (c.pieces.bytes.items ++ e.0) both

pub returns-in_err-read_piece-clause-too_long : goal.returns-in_err-read_piece-clause-too_long
returns-in_err-read_piece-clause-too_long g c =
    let e = c.in_err-read_piece.ensures.err in
    let both = Consumes-trans (g.S.Source.left c.args.src.now) (g.S.Source.left c.pieces.src) (g.S.Source.left c.read_piece.new.src) c.pieces.bytes.items e.0 c.pieces.invariant.read e.1 in
    let len : length (c.pieces.bytes.items ++ e.0) ≡ vec_len c.pieces.bytes + length e.0 = length-append c.pieces.bytes.items e.0 ∙ ap (λ n. n + length e.0) (sym c.pieces.bytes.ok.0) in
    let p = err_from_is_err_and c.from_residual-in_err-read_piece.result c.from_residual-in_err-read_piece.ensures.1 in
    rw (p.1, p.2) (consumed.too_long _ _ (c.pieces.bytes.items ++ e.0) (vec_len c.pieces.bytes + length e.0) c.args.limit c.in_err-read_piece.field-0.0 both len e.2)

pub returns-in_err-read_piece-clause-no_more : goal.returns-in_err-read_piece-clause-no_more
returns-in_err-read_piece-clause-no_more g c =
    let e = c.in_err-read_piece.ensures.err in
    let both = Consumes-trans (g.S.Source.left c.args.src.now) (g.S.Source.left c.pieces.src) (g.S.Source.left c.read_piece.new.src) c.pieces.bytes.items e.0 c.pieces.invariant.read e.1 in
    let len : length (c.pieces.bytes.items ++ e.0) ≡ vec_len c.pieces.bytes + length e.0 = length-append c.pieces.bytes.items e.0 ∙ ap (λ n. n + length e.0) (sym c.pieces.bytes.ok.0) in
    consumed.at_most _ _ (c.pieces.bytes.items ++ e.0) (vec_len c.pieces.bytes + length e.0) c.args.limit both len e.3

pub returns-in_err-read_piece-clause-complete : goal.returns-in_err-read_piece-clause-complete
returns-in_err-read_piece-clause-complete g c = λ none.
    let e = c.in_err-read_piece.ensures.err in
    let both = Consumes-trans (g.S.Source.left c.args.src.now) (g.S.Source.left c.pieces.src) (g.S.Source.left c.read_piece.new.src) c.pieces.bytes.items e.0 c.pieces.invariant.read e.1 in
    let len : length (c.pieces.bytes.items ++ e.0) ≡ vec_len c.pieces.bytes + length e.0 = length-append c.pieces.bytes.items e.0 ∙ ap (λ n. n + length e.0) (sym c.pieces.bytes.ok.0) in
    let p = err_from_is_err_and c.from_residual-in_err-read_piece.result c.from_residual-in_err-read_piece.ensures.1 in
    rw (p.1, p.2)
    (consumed.answered (g.S.Source.left c.args.src.now) (g.S.Source.left c.read_piece.new.src) (c.pieces.bytes.items ++ e.0) (vec_len c.pieces.bytes + length e.0) c.args.limit c.in_err-read_piece.field-0.0
    (Rose (g.S.Source.faults c.args.src.now) (g.S.Source.faults c.read_piece.new.src)) both len
    (λ is. consumed.rose_later (g.S.Source.faults c.args.src.now) (g.S.Source.faults c.pieces.src) (g.S.Source.faults c.read_piece.new.src) c.pieces.invariant.later (c.in_err-read_piece.ensures.cause (ap Err is)))
    e.2 none)

pub pieces-preserved : goal.pieces-preserved
pieces-preserved g c =
    let more = c.in_ok-read_piece.ensures.more in
    let both = Consumes-trans (g.S.Source.left c.args.src.now) (g.S.Source.left c.pieces.src) (g.S.Source.left c.read_piece.new.src) c.pieces.bytes.items more.0 c.pieces.invariant.read more.2 in
    let before = c.pieces.invariant.later in
    let after = c.in_ok-read_piece.ensures.later in
    record {
      read = subst (λ z. Consumes (g.S.Source.left c.args.src.now) (g.S.Source.left c.read_piece.new.src) z) (sym more.1) both;
      within = c.in_ok-read_piece.ensures.within;
      room = c.pieces.invariant.room;
      later = omega (arith, before, after);
    }

pub returns-clause-all : goal.returns-clause-all
returns-clause-all g c =
    let more = c.in_ok-read_piece.ensures.more in
    consumed.all_read (g.S.Source.left c.args.src.now) (g.S.Source.left c.pieces.src) (g.S.Source.left c.read_piece.new.src) c.pieces.bytes.items more.0 c.read_piece.new.bytes.items
    c.pieces.invariant.read more.2 (c.in_ok-read_piece.ensures.end (ap Ok c.if-branch.false)) more.1

pub returns-clause-gone : goal.returns-clause-gone
returns-clause-gone g c =
    let more = c.in_ok-read_piece.ensures.more in
    let both = Consumes-trans (g.S.Source.left c.args.src.now) (g.S.Source.left c.pieces.src) (g.S.Source.left c.read_piece.new.src) c.pieces.bytes.items more.0 c.pieces.invariant.read more.2 in
    consumed.gone _ _ (c.pieces.bytes.items ++ more.0) both
