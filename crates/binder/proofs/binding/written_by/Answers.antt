use Rattle.std.proofs.Common.{◌∙◌, ap, subst, sym}
use Rattle.bound_tree.specs.Tree.{Declarations}
use Rattle.name_tables.specs.Tables.{AreTables}
use Rattle.binder.specs.View.{front_of}
use Rattle.binder.proofs.binding.written_by.Goals as goal

pub returns : goal.returns
returns c =
    let same = c.written_ref.ensures ∙ ap (λ (D : Declarations). front_of D c.args.names c.args.vars) c.of-d.ensures in
    record {
      shown = same;
      tables = subst (λ (D : Declarations). AreTables c.args.plan.now.names D) (sym same) c.requires.names;
    }
