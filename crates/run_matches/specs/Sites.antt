-- Where the procedures of a project stand, and what their lines declare.
use Rattle.std.specs.Prelude.{ℕ, zero, suc, Bool, cond, nat_eq, Option, Some, None, List, [], ◌∷◌, ◌++◌, map, slice_get}
use Rattle.std.specs.List.{flat_map}
use Rattle.vb_tree.specs.FlatLines.{flat_lines}
use Rattle.vb_tree.specs.Tree.{Form, Module, Member, alone, group, proc, Nodes}
use Rattle.vb_tree.specs.Tree as source
use Rattle.bound_tree.specs.Tree.{Variable, Constant, Declarations}
use Rattle.vb_tree.specs.Blocks.{is_code}
use Rattle.written_trees.specs.Placing.{Numbers, Placed, placed_members, behind_members}
use Rattle.written_trees.specs.Projects.{first_numbers, next_module}
use Rattle.written_trees.specs.Prologues.{variables_of, constants_of, declares, is_static}

-- ---- procedures

-- a procedure: its module, with the number of that in project order; its place among the members there; and its lines
pub record Site : Type 0 where
  pub home : ℕ
  pub source_module : Module
  pub placed : Placed
  pub head : source.Line
  pub body : Nodes
  pub close : source.Line

abbrev pub member_sites : (home : ℕ) → Module → Placed → Member → List Site
member_sites home m p (alone l) = []
member_sites home m p (group head lines close) = []
member_sites home m p (proc head body close) = record { home = home; source_module = m; placed = p; head = head; body = body; close = close } ∷ []

-- those of a module whose members have numbers from these on
abbrev pub module_sites : (home : ℕ) → Numbers → Module → List Site
module_sites home at m = flat_map (λ (p : Placed). member_sites home m p p.member) (placed_members at m.comments m.members)

abbrev pub sites_from : (home : ℕ) → Numbers → List Module → List Site
sites_from home at [] = []
sites_from home at (m ∷ ms) = module_sites home at m ++ sites_from (suc home) (next_module (behind_members at m.members)) ms

-- the procedures in project order, by which they are numbered from 0
abbrev pub sites : Declarations → List Site
sites D = sites_from 0 first_numbers D.project.modules

abbrev pub site_of : Declarations → (procedure : ℕ) → Option Site
site_of D p = slice_get (sites D) p

-- ---- what the lines of a procedure declare

abbrev pub site_lines : Site → List source.Line
site_lines s = flat_lines s.body

-- the statement of its first line
abbrev pub first_statement : Site → ℕ
first_statement s = suc s.placed.at.statement

-- the statement of a code line by its number, counted from 1, among lines of which the first is the statement n
abbrev pub code_statement : (n : ℕ) → List source.Line → (number : ℕ) → Option ℕ
code_statement n [] k = None
code_statement n (l ∷ ls) zero = None
code_statement n (l ∷ ls) (suc k) = cond (is_code l.form) (cond (nat_eq k 0) (Some n) (code_statement (suc n) ls k)) (code_statement (suc n) ls (suc k))

abbrev pub statement_of : Site → (number : ℕ) → Option ℕ
statement_of s number = code_statement (first_statement s) (site_lines s) number

-- a variable or a constant, with its number
pub data Own : Type 0 where
  own_variable : ℕ → Variable → Own
  own_constant : ℕ → Constant → Own

abbrev pub own_name : Own → List ℕ
own_name (own_variable v x) = x.name
own_name (own_constant c x) = x.name

abbrev pub own_variables : List (ℕ × Variable) → List Own
own_variables vs = map (λ (v : ℕ × Variable). own_variable v.0 v.1) vs

abbrev pub own_constants : List (ℕ × Constant) → List Own
own_constants cs = map (λ (c : ℕ × Constant). own_constant c.0 c.1) cs

abbrev pub statement_owns : Declarations → (file statement : ℕ) → List Own
statement_owns D file n = own_variables (variables_of D file n) ++ own_constants (constants_of D file n)

-- of lines that are numbered from a statement, those that pass
abbrev pub owns_from : Declarations → (file : ℕ) → (Form → Bool) → (statement : ℕ) → List source.Line → List Own
owns_from D file test n [] = []
owns_from D file test n (l ∷ ls) = cond (test l.form) (statement_owns D file n) [] ++ owns_from D file test (suc n) ls

-- what a procedure declares, then the variables that no line declares, at the lines of their first uses
abbrev pub owns_of : Declarations → Site → List Own
owns_of D s =
    owns_from D s.source_module.file declares (first_statement s) (site_lines s) ++ owns_from D s.source_module.file is_code (first_statement s) (site_lines s)

abbrev pub variable_number : Own → List ℕ
variable_number (own_variable v x) = v ∷ []
variable_number (own_constant c x) = []

abbrev pub variable_numbers : List Own → List ℕ
variable_numbers os = flat_map variable_number os

-- the variables but Statics, and the Statics
abbrev pub local_number : Own → List ℕ
local_number (own_variable v x) = cond (is_static x.owner) [] (v ∷ [])
local_number (own_constant c x) = []

abbrev pub static_number : Own → List ℕ
static_number (own_variable v x) = cond (is_static x.owner) (v ∷ []) []
static_number (own_constant c x) = []

abbrev pub local_numbers : List Own → List ℕ
local_numbers os = flat_map local_number os

abbrev pub static_numbers : List Own → List ℕ
static_numbers os = flat_map static_number os
