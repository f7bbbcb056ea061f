-- The procedures of a project with their code lines.
use Rattle.std.specs.Prelude.{List, [], ◌∷◌}
use Rattle.std.specs.List.{flat_map}
use Rattle.vb_tree.specs.FlatLines.{flat_lines, code_lines}
use Rattle.vb_tree.specs.Tree.{Line, Nodes, Member, alone, group, proc, Module, Project}

abbrev pub procedures_in : Member → List Nodes
procedures_in (alone l) = []
procedures_in (group head lines close) = []
procedures_in (proc head body close) = body ∷ []

-- the bodies of the procedures in project order, by which procedures are numbered from 0
abbrev pub procedures_of : Project → List Nodes
procedures_of P = flat_map (λ (m : Module). flat_map procedures_in m.members) P.modules

-- the code lines of a body in order
abbrev pub code_of : Nodes → List Line
code_of body = code_lines (flat_lines body)
