use Rattle.std.proofs.Common.{◌∙◌, ap, map}
use Rattle.std.specs.Prelude.{◌&&◌}
use Rattle.bound_tree.specs.declared.declared.NamedEntry.{NamedEntry}
use Rattle.name_tables.specs.Scopes.{has_key, in_module}
use Rattle.name_tables.specs.Places.{keyed}
use Rattle.name_tables.specs.Rows.{member_row}
use Rattle.name_tables.proofs.TableRows.{member_at, rows_placed}
use Rattle.name_tables.proofs.tables.member_places.Goals as goal

pub returns : goal.returns
returns c = λ file key.
    c.in_ok-places_of.ensures file key
    ∙ rows_placed file key c.deref.result.now member_row c.args.names.now (λ (e : NamedEntry). in_module file e.scope && has_key key e.name) (ap (map keyed) c.deref.ensures.value ∙ c.in_ok-rows.ensures) (member_at file key)
