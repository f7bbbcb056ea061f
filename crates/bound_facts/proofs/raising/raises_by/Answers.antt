use Rattle.std.proofs.Common.{sym, ap, ◌∙◌}
use Rattle.std.specs.Prelude.{not}
use Rattle.bound_tree.specs.View.{exprs_of, term_of}
use Rattle.bound_tree.proofs.Views.{lib_shown}
use Rattle.bound_facts.specs.CanRaise.{is_calm_lib, raises_by}
use Rattle.bound_facts.proofs.raising.raises_by.Goals as goal

pub returns-in-Lib : goal.returns-in-Lib
returns-in-Lib c =
    ap not (c.is_calm_lib.ensures ∙ ap (λ xs. is_calm_lib c.in-Lib.function (exprs_of xs)) c.deref-in-Lib.ensures.value)
    ∙ ap raises_by (sym (ap term_of c.in-Lib.is ∙ lib_shown c.in-Lib.function c.in-Lib.args))
