-- Where names lead to a variable of a standard module: tests on the program alone, which pass wherever no rule on names is broken.
use Rattle.std.specs.Prelude.{ℕ, zero, suc, Bool, true, false, cond, not, ◌&&◌, ◌||◌, nat_eq, position, Option, Some, None, option_and_then, List, [], ◌∷◌, ◌++◌, codes, map, slice_get}
use Rattle.std.specs.List.{list_all, list_any}
use Rattle.up_base.specs.Names.{is_same_name}
use Rattle.vb_tree.specs.declared.declared.Owner.{Owner}
use Rattle.vb_tree.specs.declared.declared.Owner.TheVariants as owner
use Rattle.vb_tree.specs.declared.declared.VarId.{VarId}
use Rattle.vb_tree.specs.ProjectLines.{is_reserved}
use Rattle.vb_tree.specs.Tree.{Form, Module, Member, alone, group, proc}
use Rattle.vb_tree.specs.Tree as source
use Rattle.bound_tree.specs.Tree.{Variable, Procedure, Declarations}
use Rattle.bound_facts.specs.SelfMade.{is_number}
use Rattle.written_trees.specs.Arguments.{is_property_kind}
use Rattle.written_trees.specs.Heads.{is_function}
use Rattle.written_trees.specs.Names.{module_at, is_standard_module, module_name, variable_name_of, procedure_name}
use Rattle.written_trees.specs.Placing.{Numbers, Placed, placed_members, behind_members}
use Rattle.written_trees.specs.Projects.{first_numbers, next_module}
use Rattle.written_trees.specs.Prologues.{variables_of, constants_of}
use Rattle.written_trees.specs.Properties.{separate_name}
use Rattle.vb6_run.specs.Programs.{is_static_of}
use Rattle.vb6_run.specs.Runnables.{is_class_file}
use Rattle.net_run.specs.Shapes.{first_from}
use Rattle.run_matches.specs.Sites.{Site, site_of, Own, own_variable, own_constant, own_name, own_variables, own_constants, owns_of}

-- ---- what a module declares under names

abbrev pub line_owns : Declarations → (file statement : ℕ) → Form → List Own
line_owns D file n (source.variables word declarators) = own_variables (variables_of D file n)
line_owns D file n (source.constants visibility items) = own_constants (constants_of D file n)
line_owns D file n _ = []

-- the constants of an Enum, whose lines are numbered from n
abbrev pub enum_owns : Declarations → (file statement : ℕ) → List source.Line → List Own
enum_owns D file n [] = []
enum_owns D file n (l ∷ ls) = own_constants (constants_of D file n) ++ enum_owns D file (suc n) ls

abbrev pub member_owns : Declarations → (file : ℕ) → Placed → Member → List Own
member_owns D file p (alone l) = line_owns D file p.at.statement l.form
member_owns D file p (group head lines close) = enum_owns D file (suc p.at.statement) lines
member_owns D file p (proc head body close) = []

-- a part of a property goes by the name of the first part, or by its own where it is written apart
abbrev pub names_by : (property : Bool) → Procedure → (first : List ℕ) → List (List ℕ)
names_by false q first = q.name ∷ []
names_by true q first = first ∷ separate_name q.kind first ∷ []

abbrev pub procedure_names : Declarations → (procedure : ℕ) → Option Procedure → List (List ℕ)
procedure_names D p None = []
procedure_names D p (Some q) = names_by (is_property_kind q.kind) q (procedure_name D p)

abbrev pub member_names : Declarations → Placed → Member → List (List ℕ)
member_names D p (alone l) = []
member_names D p (group head lines close) = []
member_names D p (proc head body close) = procedure_names D p.at.procedure (slice_get D.procs p.at.procedure)

abbrev pub is_other : List ℕ → List ℕ → Bool
is_other name n = not (is_same_name n name)

-- another name, or the variable of a number
abbrev pub is_other_own : (name : List ℕ) → (except : Option ℕ) → Own → Bool
is_other_own name except (own_variable u x) = is_number except u || is_other name x.name
is_other_own name except (own_constant c x) = is_other name x.name

abbrev pub is_other_member : Declarations → (name : List ℕ) → (except : Option ℕ) → (file : ℕ) → Placed → Bool
is_other_member D name except file p =
    list_all (is_other_own name except) (member_owns D file p p.member) && list_all (is_other name) (member_names D p p.member)

abbrev pub is_variable_of : (variable : ℕ) → Own → Bool
is_variable_of v (own_variable u x) = nat_eq v u
is_variable_of v (own_constant c x) = false

abbrev pub declares_in : Declarations → (variable file : ℕ) → Placed → Bool
declares_in D v file p = list_any (is_variable_of v) (member_owns D file p p.member)

-- ---- modules

-- the module of a number with its members, of modules whose members have numbers from these on
abbrev pub placed_from : Numbers → List Module → (home : ℕ) → Option (Module × List Placed)
placed_from at [] k = None
placed_from at (m ∷ ms) zero = Some (m, placed_members at m.comments m.members)
placed_from at (m ∷ ms) (suc k) = placed_from (next_module (behind_members at m.members)) ms k

abbrev pub placed_module : Declarations → (home : ℕ) → Option (Module × List Placed)
placed_module D home = placed_from first_numbers D.project.modules home

-- a standard module that declares the variable, and nothing else of its name
abbrev pub declares_alone : Declarations → (variable : ℕ) → (name : List ℕ) → Module × List Placed → Bool
declares_alone D v name m =
    not m.0.class && (list_any (declares_in D v m.0.file) m.1 && list_all (is_other_member D name (Some v) m.0.file) m.1)

abbrev pub declares_none : Declarations → (name : List ℕ) → Option (Module × List Placed) → Bool
declares_none D name None = false
declares_none D name (Some m) = list_all (is_other_member D name None m.0.file) m.1

abbrev pub is_of_module : (file : ℕ) → Owner → Bool
is_of_module file (owner.Module f) = nat_eq f file
is_of_module file (owner.Local p) = false
is_of_module file (owner.Static p) = false
is_of_module file (owner.Value p) = false
is_of_module file (owner.Reference p) = false
is_of_module file (owner.Answer p) = false
is_of_module file (owner.Field t) = false

-- no other variable whose owner passes, of variables that are numbered from k, has the name
abbrev pub others_differ : (Owner → Bool) → (variable : ℕ) → (name : List ℕ) → (k : ℕ) → List Variable → Bool
others_differ test v name k [] = true
others_differ test v name k (x ∷ xs) = (nat_eq v k || not (test x.owner && is_same_name x.name name)) && others_differ test v name (suc k) xs

-- ---- procedures

-- what a procedure declares under names: its parameters, its result, and what its lines declare
abbrev pub frame_names : Declarations → Site → Procedure → List (List ℕ)
frame_names D s q =
    map (λ (v : VarId). variable_name_of (slice_get D.vars v.0)) q.params
    ++ (cond (is_function q.kind) (q.name ∷ []) [] ++ map own_name (owns_of D s))

-- no name of the source begins with a low line; those of counters that are written for replaced heads do
abbrev pub begins_low : List ℕ → Bool
begins_low [] = false
begins_low (c ∷ cs) = is_same_name (codes "_") (c ∷ [])

abbrev pub is_free_in : Declarations → Site → Procedure → (name : List ℕ) → Bool
is_free_in D s q name = not (begins_low name) && list_all (is_other name) (frame_names D s q)

-- From a procedure the module's name leads to the module, and in the module itself the variable's name to the variable.
abbrev pub leads_from : Declarations → (name of : List ℕ) → (file home : ℕ) → Option Site → Option Procedure → Bool
leads_from D name of file home None q = false
leads_from D name of file home (Some s) None = false
leads_from D name of file home (Some s) (Some q) =
    is_free_in D s q of
    && (declares_none D of (placed_module D s.home)
    && cond (nat_eq s.source_module.file file) (nat_eq s.home home && is_free_in D s q name) true)

-- ---- the whole

-- a module is the standard module of a number
abbrev pub is_module : (home : ℕ) → Option (ℕ × Module) → Bool
is_module home None = false
is_module home (Some found) = nat_eq found.0 home && not found.1.class

abbrev pub leads_to_member : Declarations → (procedure variable : ℕ) → (name : List ℕ) → (file home : ℕ) → Option (Module × List Placed) → Bool
leads_to_member D p v name file home None = false
leads_to_member D p v name file home (Some m) =
    not (is_class_file D file)
    && (declares_alone D v name m
    && (is_module home (first_from (λ (n : Module). is_same_name n.name m.0.name) 0 D.project.modules)
    && (others_differ (is_of_module file) v name 0 D.vars && leads_from D name m.0.name file home (site_of D p) (slice_get D.procs p))))

abbrev pub leads_to_home : Declarations → (procedure variable : ℕ) → (name : List ℕ) → (file : ℕ) → Option ℕ → Bool
leads_to_home D p v name file None = false
leads_to_home D p v name file (Some home) = leads_to_member D p v name file home (placed_module D home)

-- from the procedure, names lead to the variable of the standard module of a file
abbrev pub names_lead : Declarations → (procedure variable : ℕ) → (name : List ℕ) → (file : ℕ) → Bool
names_lead D p v name file =
    (is_standard_module (module_at D.project file) && not (is_reserved (module_name D file)))
    && leads_to_home D p v name file (position (λ (m : Module). nat_eq m.file file) D.project.modules)

-- ---- variables of classes

-- a class that declares the variable, and nothing else of its name
abbrev pub keeps_alone : Declarations → (variable : ℕ) → (name : List ℕ) → Option (Module × List Placed) → Bool
keeps_alone D v name None = false
keeps_alone D v name (Some m) =
    m.0.class && (list_any (declares_in D v m.0.file) m.1 && list_all (is_other_member D name (Some v) m.0.file) m.1)

-- the class of a file declares the variable alone, and no other variable of it has the name
abbrev pub is_alone_field : Declarations → (variable : ℕ) → (name : List ℕ) → (file : ℕ) → Bool
is_alone_field D v name file =
    is_class_file D file
    && (keeps_alone D v name (option_and_then (placed_module D) (position (λ (m : Module). nat_eq m.file file) D.project.modules))
    && others_differ (is_of_module file) v name 0 D.vars)

abbrev pub is_free_from : Declarations → (name : List ℕ) → (file : ℕ) → Option Site → Option Procedure → Bool
is_free_from D name file None q = false
is_free_from D name file (Some s) None = false
is_free_from D name file (Some s) (Some q) = (nat_eq s.source_module.file file && nat_eq q.module_number file) && is_free_in D s q name

-- in a procedure of the class itself, its name leads to the variable
abbrev pub field_leads : Declarations → (procedure variable : ℕ) → (name : List ℕ) → (file : ℕ) → Bool
field_leads D p v name file = is_alone_field D v name file && is_free_from D name file (site_of D p) (slice_get D.procs p)

-- ---- Statics

abbrev pub is_outer : Declarations → Option Procedure → Bool
is_outer D None = false
is_outer D (Some q) = not (is_class_file D q.module_number)

-- no other Static of the procedure has the name
abbrev pub is_alone_static : Declarations → (procedure variable : ℕ) → (name : List ℕ) → Bool
is_alone_static D p v name = others_differ (is_static_of p) v name 0 D.vars
