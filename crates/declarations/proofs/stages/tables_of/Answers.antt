use Rattle.std.proofs.Common.{subst}
use Rattle.bound_tree.specs.Tree.{Declarations}
use Rattle.name_tables.specs.Tables.{AreTables}
use Rattle.expression_words.specs.MemberTables.{AreMemberTables}
use Rattle.declarations.proofs.stages.tables_of.Goals as goal

pub returns-in-Ok-make : goal.returns-in-Ok-make
returns-in-Ok-make c = record {
  tables = subst (λ (D : Declarations). AreTables c.in-Ok-make.tables D) c.declared-declared.ensures c.in-Ok-make.ensures;
  member_tables = subst (λ (D : Declarations). AreMemberTables c.in-Ok.made D) c.declared-declared.ensures c.in-Ok.ensures;
  facts = c.in_ok-facts.ensures;
  members = c.in_ok-members.ensures;
}
