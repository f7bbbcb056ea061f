-- What the frame of a procedure has, which names a module has, and whether a procedure that is called is found by its name.
use Rattle.std.specs.Prelude.{ℕ, zero, suc, ◌+◌, Bool, true, false, not, cond, ◌&&◌, ◌||◌, nat_eq, nat_lt, Option, Some, None, List, [], ◌∷◌, ◌++◌, map, slice_get}
use Rattle.std.specs.Cmp.Lexicographic.{pointwise}
use Rattle.std.specs.List.{flat_map}
use Rattle.up_base.specs.Names.{is_same_name, lower_case}
use Rattle.vb_tree.specs.declared.declared.VarId.{VarId}
use Rattle.vb_tree.specs.Tree.{Module, Member, alone, group, proc}
use Rattle.vb_tree.specs.Tree as source
use Rattle.bound_tree.specs.Tree.{Variable, Procedure, Declarations}
use Rattle.bound_facts.specs.SelfMade.{is_number, module_of}
use Rattle.written_trees.specs.Arguments.{is_property_kind}
use Rattle.written_trees.specs.Names.{first_name, is_foreign, module_name, procedure_name}
use Rattle.written_trees.specs.Placing.{Numbers, Placed, behind_members, is_type_head, placed_members}
use Rattle.written_trees.specs.Projects.{first_numbers, next_module}
use Rattle.written_trees.specs.Prologues.{constants_of, one_if}
use Rattle.written_trees.specs.Properties.{is_counted, separate_name}
use Rattle.vb6_run.specs.Runnables.{is_class_file}
use Rattle.net_run.specs.Shapes.{first_from}
use Rattle.run_matches.specs.Sites.{Own, Site, own_constants, own_name, own_variable, owns_of, statement_owns}

-- ---- the frame of a procedure

abbrev pub own_of_some : ℕ → Option Variable → List Own
own_of_some v None = []
own_of_some v (Some x) = own_variable v x ∷ []

abbrev pub own_at : Declarations → VarId → List Own
own_at D v = own_of_some v.0 (slice_get D.vars v.0)

abbrev pub parameter_owns : Declarations → List VarId → List Own
parameter_owns D vs = flat_map (own_at D) vs

abbrev pub answer_owns : Declarations → Option VarId → List Own
answer_owns D None = []
answer_owns D (Some v) = own_at D v

-- the parameters, the result variable, and what the lines declare
abbrev pub frame_owns : Declarations → Option Procedure → Site → List Own
frame_owns D None s = owns_of D s
frame_owns D (Some x) s = parameter_owns D x.params ++ (answer_owns D x.answer ++ owns_of D s)

-- the names of a frame but for that of the result variable, which a call of the procedure by its name doesn't mean
abbrev pub other_names : Declarations → Option Procedure → Site → List (List ℕ)
other_names D None s = map own_name (owns_of D s)
other_names D (Some x) s = map own_name (parameter_owns D x.params) ++ map own_name (owns_of D s)

abbrev pub result_name : Option Procedure → List (List ℕ)
result_name None = []
result_name (Some x) = x.name ∷ []

-- ---- the names of a module

-- those of the lines of an Enum, which are numbered from n
abbrev pub enum_names : Declarations → (file n : ℕ) → List source.Line → List (List ℕ)
enum_names D file n [] = []
enum_names D file n (l ∷ ls) = map own_name (own_constants (constants_of D file n)) ++ enum_names D file (suc n) ls

-- a later part of a property stands in the first one
abbrev pub is_inner : Declarations → (procedure : ℕ) → Procedure → Bool
is_inner D p q = is_counted D p q && not (nat_eq q.first.0 p)

-- a part of a property may stand by itself
abbrev pub part_names : Declarations → (procedure : ℕ) → Procedure → List (List ℕ)
part_names D p q = cond (is_inner D p q) [] (procedure_name D p ∷ []) ++ separate_name q.kind (procedure_name D p) ∷ []

abbrev pub procedure_names : Declarations → (procedure : ℕ) → Option Procedure → List (List ℕ)
procedure_names D p None = []
procedure_names D p (Some q) = cond (is_property_kind q.kind) (part_names D p q) (q.name ∷ [])

abbrev pub names_at : Declarations → (file : ℕ) → Numbers → Member → List (List ℕ)
names_at D file at (alone l) = map own_name (statement_owns D file at.statement)
names_at D file at (group head lines close) = cond (is_type_head head.form) [] (enum_names D file (suc at.statement) lines)
names_at D file at (proc head body close) = procedure_names D at.procedure (slice_get D.procs at.procedure)

-- of a module whose members have numbers from these on
abbrev pub names_from : Declarations → Numbers → Module → List (List ℕ)
names_from D at m = flat_map (λ (p : Placed). names_at D m.file p.at p.member) (placed_members at m.comments m.members)

-- of the module of a number, of modules whose members have numbers from these on
abbrev pub names_among : Declarations → Numbers → List Module → (home : ℕ) → List (List ℕ)
names_among D at [] home = []
names_among D at (m ∷ ms) zero = names_from D at m
names_among D at (m ∷ ms) (suc home) = names_among D (next_module (behind_members at m.members)) ms home

abbrev pub names_in : Declarations → (home : ℕ) → List (List ℕ)
names_in D home = names_among D first_numbers D.project.modules home

-- ---- names among others

abbrev pub count_named : List ℕ → List (List ℕ) → ℕ
count_named name [] = 0
count_named name (n ∷ ns) = one_if (is_same_name n name) + count_named name ns

abbrev pub is_nowhere : List ℕ → List (List ℕ) → Bool
is_nowhere name names = nat_eq (count_named name names) 0

abbrev pub is_once : List ℕ → List (List ℕ) → Bool
is_once name names = nat_lt (count_named name names) 2

abbrev pub begins_below : List ℕ → Bool
begins_below [] = true
begins_below (c ∷ cs) = nat_eq c 95

-- names of the source don't begin with the character that written counters begin with
abbrev pub is_source_name : List ℕ → Bool
is_source_name name = not (begins_below (lower_case name))

-- ---- where a procedure is found

abbrev pub is_that_place : {A : Type 0} → ℕ → Option (ℕ × A) → Bool
is_that_place home None = false
is_that_place home (Some found) = nat_eq found.0 home

-- the first module of a name is the one of a number
abbrev pub is_first_module : Declarations → List ℕ → (home : ℕ) → Bool
is_first_module D name home = is_that_place home (first_from (λ (m : Module). is_same_name m.name name) 0 D.project.modules)

-- by its name alone: no variable has it, and no other member of the module
abbrev pub is_found_here : Declarations → (others : List (List ℕ)) → (from to : Site) → List ℕ → Bool
is_found_here D others s t name =
    nat_eq s.home t.home && (is_source_name name && (is_nowhere name others && is_once name (names_in D t.home)))

-- behind the name of its module, which no variable has, and no member of the module where it is called
abbrev pub is_found_behind : Declarations → (all : List (List ℕ)) → (from to : Site) → List ℕ → Bool
is_found_behind D all s t name =
    is_source_name t.source_module.name
    && (is_nowhere t.source_module.name all
    && (is_nowhere t.source_module.name (names_in D s.home)
    && (is_first_module D t.source_module.name t.home && (not t.source_module.class && is_once name (names_in D t.home)))))

-- one of a standard module, from any procedure
abbrev pub is_found_outside : Declarations → (caller : Option Procedure) → (from : Site) → Procedure → (to : Site) → Bool
is_found_outside D o s y t =
    pointwise nat_eq (module_name D y.module_number) t.source_module.name
    && (not (is_class_file D y.module_number)
    && ((is_foreign D s.source_module.file y.module_number || is_found_here D (other_names D o s) s t y.name)
    && is_found_behind D (result_name o ++ other_names D o s) s t y.name))

-- one of a class, from procedures of the class itself, by its name alone
abbrev pub is_found_inside : Declarations → (caller : Option Procedure) → (from : Site) → Procedure → (to : Site) → (qualified : Bool) → Bool
is_found_inside D o s y t qualified =
    (not qualified && (nat_eq s.source_module.file y.module_number && is_number (module_of o) y.module_number))
    && is_found_here D (other_names D o s) s t y.name

abbrev pub is_found : Declarations → (caller : Option Procedure) → (from : Site) → Option Procedure → Option Site → (qualified : Bool) → Bool
is_found D o s None to qualified = false
is_found D o s (Some y) None qualified = false
is_found D o s (Some y) (Some t) qualified =
    pointwise nat_eq (first_name D (Some y)) y.name
    && cond t.source_module.class (is_found_inside D o s y t qualified) (is_found_outside D o s y t)
