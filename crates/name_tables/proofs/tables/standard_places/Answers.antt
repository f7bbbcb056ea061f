use Rattle.std.proofs.Common.{◌∙◌, ap, map}
use Rattle.vb_tree.specs.View.{module_of}
use Rattle.name_tables.specs.Scopes.{is_standard_name}
use Rattle.name_tables.specs.Places.{keyed}
use Rattle.name_tables.specs.Rows.{standard_row}
use Rattle.name_tables.proofs.TableRows.{standard_at, rows_placed}
use Rattle.name_tables.proofs.tables.standard_places.Goals as goal

pub returns : goal.returns
returns c = λ key.
    c.in_ok-places_of.ensures 0 key
    ∙ rows_placed 0 key c.deref.result.now standard_row (map module_of c.args.modules.now) (is_standard_name key) (ap (map keyed) c.deref.ensures.value ∙ c.in_ok-rows.ensures) (standard_at key)
