-- The lists in a tree of the code are those of its plain tree.
use Rattle.std.proofs.Common.{◌≡◌, List, [], ◌∷◌, map, refl, sym, ap, ◌∙◌, Global}
use Rattle.std.specs.Prelude.{Vec}
use Rattle.net_tree.specs.declared.expression.NetExpr.{NetExpr, Row_of-NetExpr, end_of-NetExpr, more_of-NetExpr, items-the_row-NetExpr, items_shown-the_row-NetExpr-0, items_hidden-the_row-NetExpr-0}
use Rattle.net_tree.specs.declared.expression.NetExpr.TheBlock as e
use Rattle.net_tree.specs.Tree.{next_exp}
use Rattle.net_tree.specs.View.{exp_of, exps_of, exps_in_row}
use Rattle.net_tree.specs.Expressions.{exp_text, exp_texts}

row_listed : {n : _} (k : Row_of-NetExpr n) → exps_in_row k ≡ exps_of (items-the_row-NetExpr n k)
row_listed end_of-NetExpr = refl
row_listed (more_of-NetExpr a rest) = ap (next_exp (exp_of a)) (row_listed rest)

pub exps_shown : (shape : _) (k : Row_of-NetExpr _) → exps_in_row k ≡ exps_of (e.shown-the_row-NetExpr-0 shape k).items
exps_shown shape k = row_listed k ∙ ap exps_of (sym (items_shown-the_row-NetExpr-0 shape k))

pub exps_hidden : (v : Vec NetExpr Global) → exps_in_row (e.hidden-the_row-NetExpr-0 v) ≡ exps_of v.items
exps_hidden v = row_listed (e.hidden-the_row-NetExpr-0 v) ∙ ap exps_of (items_hidden-the_row-NetExpr-0 v)

-- the texts of a list's expressions
pub texts_listed : (items : List NetExpr) → exp_texts (exps_of items) ≡ map (λ a. exp_text (exp_of a)) items
texts_listed [] = refl
texts_listed (a ∷ more) = ap (λ texts. exp_text (exp_of a) ∷ texts) (texts_listed more)
