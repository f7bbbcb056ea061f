use Rattle.std.proofs.Common.{◌∙◌, ap, map}
use Rattle.vb_tree.specs.Tree.{Module}
use Rattle.vb_tree.specs.View.{module_of}
use Rattle.name_tables.specs.Scopes.{has_key}
use Rattle.name_tables.specs.Places.{keyed}
use Rattle.name_tables.specs.Rows.{class_row, classes_in}
use Rattle.name_tables.proofs.TableRows.{class_at, rows_placed}
use Rattle.name_tables.proofs.tables.class_places.Goals as goal

pub returns : goal.returns
returns c = λ key.
    c.in_ok-places_of.ensures 0 key
    ∙ rows_placed 0 key c.deref.result.now class_row (classes_in (map module_of c.args.modules.now)) (λ (m : Module). has_key key m.name) (ap (map keyed) c.deref.ensures.value ∙ c.in_ok-rows.ensures) (class_at key)
