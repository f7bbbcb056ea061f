-- What the structs of the code stand for.
use Rattle.std.specs.Prelude.{List, map, Vec}
use Rattle.std.proofs.Common.{Global}
use Rattle.vb_tree.specs.View.{member_of}
use Rattle.bound_tree.specs.declared.lines.LineRef.{LineRef}
use Rattle.bound_tree.specs.Lines.{lines_of}
use Rattle.bound_tree.specs.Tree.{Program}
use Rattle.bound_tree.specs.View.{shown_line}
use Rattle.written_rows.specs.View.{facts_of}
use Rattle.written_trees.specs.Names.{Scope}
use Rattle.written_trees.specs.Placing.{Numbers, Placed}
use Rattle.written_trees.specs.Prologues.{Code}
use Rattle.written_members.specs.declared.code_line.Code as code_line
use Rattle.written_members.specs.declared.placing.Numbers as numbers
use Rattle.written_members.specs.declared.placing.Placed as placed
use Rattle.written_members.specs.declared.site.Site.{Site}
use Rattle.written_members.specs.Statements.{IsNoted, declared_in}

abbrev pub code_of : code_line.Code → Code
code_of c = (c.rules, shown_line c.line)

abbrev pub numbers_of : numbers.Numbers → Numbers
numbers_of at = record { statement = at.statement; procedure = at.procedure; user_type = at.user_type; enum = at.enumeration }

abbrev pub placed_of : placed.Placed → Placed
placed_of p = record {
  at = numbers_of p.at;
  earlier = p.earlier.now;
  own = p.own.now;
  inside = p.inside.now;
  member = member_of p.member.now;
}

abbrev pub scope_at : Site → Scope
scope_at s = record { declarations = declared_in s.statements.now; facts = facts_of s.facts.now; file = s.file; procedure = s.procedure }

-- what is asked of it
abbrev pub IsSite : Site → Type 0
IsSite s = IsNoted s.statements.now

-- a project with the code lines of its procedures
abbrev pub program_at : Site → List (Vec LineRef Global) → Program
program_at s bodies = record { declarations = declared_in s.statements.now; bodies = map lines_of bodies }
