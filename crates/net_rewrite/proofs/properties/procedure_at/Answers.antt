use Rattle.written_members.specs.Statements.{declared_in}
use Rattle.net_rewrite.proofs.Positions.{lent_procedure}
use Rattle.net_rewrite.proofs.properties.procedure_at.Goals as goal

pub returns : goal.returns
returns c = lent_procedure c.get.result c.declared.result.now (declared_in c.args.site.now.statements.now) c.args.number c.get.ensures c.declared.ensures
