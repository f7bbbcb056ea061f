use Rattle.std.proofs.Common.{arith, sym, le-ltb}
use Rattle.std.proofs.lemmas.Result.{err_from_is_err_and}
use Rattle.net_tree.specs.Types as ty
use Rattle.net_tree.specs.View.{type_name_of}
use Rattle.net_exprs.specs.Fitting.{fits_type}
use Rattle.net_exprs.specs.Types.{base_at, type_at}
use Rattle.net_exprs.proofs.Answering.{fails_up}
use Rattle.net_exprs.proofs.ArrayFits.{too_many, unfit_rank}
use Rattle.net_exprs.proofs.Ranks.{base_misfits, rank_misfits, ranks_begin}
use Rattle.net_exprs.proofs.types.read_type.Goals as goal

pub returns-in_err-ty-clause-answers : goal.returns-in_err-ty-clause-answers
returns-in_err-ty-clause-answers c =
    let p = err_from_is_err_and c.from_residual.result c.from_residual.ensures.1 in
    rw (p.1, p.2) (fails_up fits_type fits_type (base_at c.args.text.now) (type_at c.args.text.now) c.in_err-ty.field-0.0 (base_misfits c.args.text.now) c.in_err-ty.ensures.answers)

pub ranks-init : goal.ranks-init
ranks-init c = record {
  left = ranks_begin c.args.text.now (type_name_of c.in_ok-ty.ty) c.in_ok-ty.rest.now c.in_ok-ty.ensures.answers;
  shorter = c.in_ok-ty.ensures.shorter;
  held = c.in_ok-ty.ensures.held;
  arrays = sym c.in_ok-ty.ensures.plain;
  most = omega arith;
}

pub returns-in_default-try_from-clause-answers : goal.returns-in_default-try_from-clause-answers
returns-in_default-try_from-clause-answers c =
    rank_misfits c.args.text.now (type_name_of c.ranks.ty) c.ranks.rest.now c.in-Some.rank c.in-Some.beyond.now c.ranks.invariant.left (sym c.in-Some.ensures.rank) c.in-Some.ensures.shorter
    (unfit_rank (type_name_of c.ranks.ty) c.in-Some.rank (le-ltb c.in-Some.rank 256 (omega (arith, c.in_default-try_from.ensures))))

pub returns-then-arrays-eq-MOST_NESTED-clause-answers : goal.returns-then-arrays-eq-MOST_NESTED-clause-answers
returns-then-arrays-eq-MOST_NESTED-clause-answers c =
    rank_misfits c.args.text.now (type_name_of c.ranks.ty) c.ranks.rest.now c.in-Some.rank c.in-Some.beyond.now c.ranks.invariant.left (sym c.in-Some.ensures.rank) c.in-Some.ensures.shorter
    (too_many (ty.array_of (type_name_of c.ranks.ty) c.in-Some.rank) (omega (arith, c.ranks.invariant.arrays, c.if-arrays-eq-MOST_NESTED.true)))
