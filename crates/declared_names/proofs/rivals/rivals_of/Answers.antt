use Rattle.std.proofs.Common.{map, subst}
use Rattle.declared_names.specs.Rivals.{AreFirst, AreMembers, field_row, local_row}
use Rattle.declared_names.specs.View.{procedure_of, variable_of}
use Rattle.declared_names.proofs.rivals.rivals_of.Goals as goal

pub returns-in-Ok-member_places : goal.returns-in-Ok-member_places
returns-in-Ok-member_places c = record {
  locals = subst (AreFirst c.in_ok-locals.locals local_row) c.as_slice.ensures c.in_ok-locals.ensures;
  members = subst (AreMembers c.in-Ok-member_places.members (map procedure_of c.args.d.now.procs)) c.as_slice-3.ensures c.in-Ok-member_places.ensures;
  fields = subst (λ vs. AreFirst c.in-Ok.fields field_row (map variable_of vs)) c.as_slice-2.ensures c.in-Ok.ensures;
}
