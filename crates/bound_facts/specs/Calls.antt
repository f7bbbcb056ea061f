-- Which procedure leads directly to which: by a call, the use of a part of a property, or the creation of an object whose
-- class has an initializer.
use Rattle.std.specs.Prelude.{ℕ, List, [], ◌∷◌, Option, Some, None, length}
use Rattle.std.specs.List.{flat_map}
use Rattle.reach_table.specs.Chains.{Chain}
use Rattle.bound_tree.specs.Tree.{Expr, Line, Declarations, Program}
use Rattle.bound_facts.specs.Items.{project_items}
use Rattle.bound_facts.specs.Leading.{within, LeadsTo}
use Rattle.bound_facts.specs.Members.{initializer}
use Rattle.bound_facts.specs.Node.{called, created}
use Rattle.bound_facts.specs.Parts.{line_uses}

abbrev pub initializer_of : Declarations → Option ℕ → Option ℕ
initializer_of D None = None
initializer_of D (Some c) = initializer D c

-- the procedure that a node enters by making an object
abbrev pub initialized : Declarations → Expr → Option ℕ
initialized D e = initializer_of D (created D e)

abbrev pub pair_to : ℕ → Option ℕ → List (ℕ × ℕ) → List (ℕ × ℕ)
pair_to i None more = more
pair_to i (Some p) more = (i, p) ∷ more

abbrev pub node_calls : Declarations → ℕ → Expr → List (ℕ × ℕ)
node_calls D i e = pair_to i (called e) (pair_to i (initialized D e) [])

abbrev pub line_calls : Declarations → ℕ → Line → List (ℕ × ℕ)
line_calls D i l = flat_map (node_calls D i) (line_uses l)

abbrev pub calls : Program → List (ℕ × ℕ)
calls P = project_items (line_calls P.declarations) P.bodies

abbrev pub count_procedures : Program → ℕ
count_procedures P = length P.declarations.procs

abbrev pub count_variables : Program → ℕ
count_variables P = length P.declarations.vars

-- a chain of calls and creations, perhaps an empty one, leads from one procedure to another
abbrev pub Reaches : Program → ℕ → ℕ → Type 0
Reaches P p q = Chain (within (count_procedures P) (calls P)) p q

-- one leads from a procedure to one of a list
abbrev pub ReachesOne : Program → List ℕ → ℕ → Type 0
ReachesOne P list p = LeadsTo (count_procedures P) (calls P) list p
