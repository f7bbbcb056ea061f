use Rattle.std.proofs.Common.{ap, ◌∙◌}
use Rattle.bound_tree.proofs.Views.{lib_shown}
use Rattle.bound_tree.specs.Tree.{typed, library}
use Rattle.bound_tree.specs.View.{exprs_of}
use Rattle.typing_rows.specs.Library.{result_type}
use Rattle.vb_tree.specs.BoundView.{type_of}
use Rattle.expression_words.specs.Flaws.{known}
use Rattle.expression_words.specs.LibraryCalls.{first_type, result_or_nothing}
use Rattle.expression_words.proofs.library_calls.call_over_exprs.Goals as goal

pub returns : goal.returns
returns c =
    ap (λ t. known (typed (type_of c.type_over-ty.result) t)) (lib_shown c.args.call c.args.exprs)
    ∙ ap (λ ty. known (typed ty (library c.args.call (exprs_of c.args.exprs.items)))) c.type_over-ty.ensures
    ∙ ap (λ es. known (typed (result_or_nothing (result_type c.args.call (first_type (exprs_of es)))) (library c.args.call (exprs_of c.args.exprs.items)))) c.deref.ensures.value
