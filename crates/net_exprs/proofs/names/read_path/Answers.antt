use Rattle.std.proofs.Common.{arith, sym}
use Rattle.std.proofs.lemmas.Result.{err_from_is_err_and}
use Rattle.net_exprs.specs.Fitting.{fits_name, fits_path}
use Rattle.net_exprs.specs.Names.{name_at, path_at}
use Rattle.net_exprs.proofs.Answering.{fails_up}
use Rattle.net_exprs.proofs.Paths.{path_fits, path_goes_on, path_misfits}
use Rattle.net_exprs.proofs.names.read_path.Goals as goal

pub returns-in_err-name-clause-answers : goal.returns-in_err-name-clause-answers
returns-in_err-name-clause-answers c =
    let p = err_from_is_err_and c.from_residual.result c.from_residual.ensures.1 in
    rw (p.1, p.2)
    (fails_up fits_name fits_path (name_at c.names.rest.now) (path_at c.args.text.now) c.in_err-name.field-0.0
    (path_misfits c.args.text.now c.names.names c.names.rest.now c.names.invariant.left) c.in_err-name.ensures.answers)

pub names-preserved : goal.names-preserved
names-preserved c = record {
  left = rw c.in_ok-push.ensures.ok
      (path_goes_on c.args.text.now c.names.names c.names.rest.now c.in_ok-name.name c.in_ok-name.behind.now c.in-Some.more.now c.names.invariant.left c.in_ok-name.ensures.answers
      c.in_ok-name.ensures.shorter (sym c.in-Some.ensures.rest) c.in-Some.ensures.shorter);
  shorter = omega (arith, c.in-Some.ensures.shorter, c.in_ok-name.ensures.shorter, c.names.invariant.shorter);
  held = rw c.in_ok-push.ensures.ok (path_fits c.names.names c.in_ok-name.name c.names.invariant.held c.in_ok-name.ensures.held);
}
