use Rattle.std.proofs.Common.{arith, ap, sym, ◌∙◌}
use Rattle.net_tree.specs.View.{type_name_of}
use Rattle.net_exprs.specs.Fitting.{fits_path, fits_type}
use Rattle.net_exprs.specs.Names.{path_at}
use Rattle.net_exprs.specs.Types.{base_at, basic_type_of}
use Rattle.net_exprs.proofs.Answering.{fails_up}
use Rattle.net_exprs.proofs.Ranks.{basic_is_word, path_type_misfits}
use Rattle.net_exprs.proofs.types.read_base.Goals as goal

pub returns-in-Some-clause-shorter : goal.returns-in-Some-clause-shorter
returns-in-Some-clause-shorter c = omega (arith, c.word_at.ensures.lengths, basic_is_word c.word_at.result.0.now (type_name_of c.in-Some.ty) (sym c.in-Some.ensures.type_of_word))

pub returns-in-Err-clause-answers : goal.returns-in-Err-clause-answers
returns-in-Err-clause-answers c =
    let none = ap basic_type_of (sym c.word_at.ensures.word) ∙ sym c.in_default.ensures.type_of_word in
    fails_up fits_path fits_type (path_at c.args.text.now) (base_at c.args.text.now) c.in-Err.e (path_type_misfits c.args.text.now none) c.in-Err.ensures.answers
