-- The code lines of a program stand where its modules' lines do, and so do variables that no line declares.
use Rattle.std.proofs.Common.{ℕ, ◌+◌, Bool, true, false, cond, List, [], ◌∷◌, ◌++◌, map, length, Option, Some, None, slice_get}
use Rattle.std.specs.List.{AllByRecursion as Each, filter, flat_map}
use Rattle.up_base.specs.declared.place.Place.{Place}
use Rattle.vb_tree.specs.declared.declared.ProcId.{ProcId}
use Rattle.vb_tree.specs.Blocks.{is_code}
use Rattle.vb_tree.specs.FlatLines.{flat_lines, member_lines, middle_lines, node_lines}
use Rattle.vb_tree.specs.Tree.{Node, line, block, Nodes, no_nodes, next_node, Middles, no_middles, next_middle, Member, alone, group, proc, Module, Project}
use Rattle.vb_tree.specs.Tree as source
use Rattle.bound_tree.specs.Tree.{Declarations, Line, Variable}
use Rattle.typing_rows.specs.declared.cases.CaseType.{CaseType}
use Rattle.typing_rows.specs.declared.cases.CaseType.TheVariants.{Open}
use Rattle.expression_words.specs.Meanings.{Scope, Kept, no_with}
use Rattle.binder.specs.Bodies.{Inside, bound_if, bound_line, bound_middles, bound_node, bound_nodes, common_type, kept_inside}
use Rattle.binder.specs.ImplicitLocals.{Home, Implicit, Locals, Placed, Word, all_variables, homes, homes_in, homes_of, implicit_at, implicit_in, implicit_words, is_among, is_explicit, is_missing, line_words, locals_from, locals_of, placed, placed_from, procedure_id, project_locals, variable_of, variables_in, with_new, written_scope}
use Rattle.binder.specs.Programs.{all_bodies, all_declarations, bodies_from, body_with, inside}
use Rattle.issue_places.proofs.Each.{each_append, each_flat, each_given, each_left, each_map, each_right}
use Rattle.issue_places.proofs.Standing.{LinesStand, ModulesStand}
use Rattle.issue_places.proofs.Settled.{DeclarationsStand}

-- ---- procedures

abbrev HomeStands : (Place → Type 0) → Home → Type 0
HomeStands F h = LinesStand F (flat_lines h.body)

home_stands : (F : Place → Type 0) (file n : ℕ) (m : Member) → LinesStand F (member_lines m) → Each (HomeStands F) (homes_of file n m)
home_stands F file n (alone l) h = tt
home_stands F file n (group head lines close) h = tt
home_stands F file n (proc head body close) h = (each_left (λ (l : source.Line). F l.place) (flat_lines body) (close ∷ []) h.1, tt)

homes_stand : (F : Place → Type 0) (file n : ℕ) (ms : List Member) → LinesStand F (flat_map member_lines ms) → Each (HomeStands F) (homes_in file n ms)
homes_stand F file n [] h = tt
homes_stand F file n (m ∷ ms) h =
    let later = n + length (member_lines m) in
    each_append (HomeStands F) (homes_of file n m) (homes_in file later ms)
    (home_stands F file n m (each_left (λ (l : source.Line). F l.place) (member_lines m) (flat_map member_lines ms) h))
    (homes_stand F file later ms (each_right (λ (l : source.Line). F l.place) (member_lines m) (flat_map member_lines ms) h))

modules_homes : (F : Place → Type 0) (ms : List Module) → ModulesStand F ms → Each (HomeStands F) (flat_map (λ (m : Module). homes_in m.file 0 m.members) ms)
modules_homes F [] h = tt
modules_homes F (m ∷ ms) h =
    each_append (HomeStands F) (homes_in m.file 0 m.members) (flat_map (λ (k : Module). homes_in k.file 0 k.members) ms) (homes_stand F m.file 0 m.members h.0) (modules_homes F ms h.1)

-- ---- variables that no line declares

abbrev PlacedStand : (Place → Type 0) → List Placed → Type 0
PlacedStand F ls = Each (λ (l : Placed). F l.line.place) ls

one_placed : (F : Place → Type 0) (b : Bool) (l : Placed) (ls : List Placed) → F l.line.place → PlacedStand F ls → PlacedStand F (cond b (l ∷ ls) ls)
one_placed F true l ls h k = (h, k)
one_placed F false l ls h k = k

placed_stand : (F : Place → Type 0) (n : ℕ) (ls : List source.Line) → LinesStand F ls → PlacedStand F (placed_from n ls)
placed_stand F n [] h = tt
placed_stand F n (l ∷ ls) h = one_placed F (is_code l.form) (record { line = l; statement = n }) (placed_from (n + 1) ls) h.0 (placed_stand F (n + 1) ls h.1)

abbrev ImplicitsStand : (Place → Type 0) → List Implicit → Type 0
ImplicitsStand F xs = Each (λ (x : Implicit). F x.place) xs

either_stand : (F : Place → Type 0) (b : Bool) (xs ys : List Implicit) → ImplicitsStand F xs → ImplicitsStand F ys → ImplicitsStand F (cond b xs ys)
either_stand F true xs ys h k = h
either_stand F false xs ys h k = k

words_stand : (F : Place → Type 0) (S : Scope) (p : ProcId) (l : Placed) (ws : List Word) → F l.line.place → ImplicitsStand F (implicit_words S p l ws)
words_stand F S p l ws h = each_given (λ (x : Implicit). F x.place) (implicit_at S.site.file p l) (λ w. h) (filter (is_missing S) ws)

line_stands : (F : Place → Type 0) (S : Scope) (p : ProcId) (explicit : Bool) (l : Placed) → F l.line.place → ImplicitsStand F (implicit_in S p explicit l)
line_stands F S p explicit l h = either_stand F explicit [] (implicit_words S p l (line_words l.line.form)) tt (words_stand F S p l (line_words l.line.form) h)

lines_stand : (F : Place → Type 0) (S : Scope) (p : ProcId) (explicit : Bool) (ls : List Placed) → PlacedStand F ls → ImplicitsStand F (flat_map (implicit_in S p explicit) ls)
lines_stand F S p explicit [] h = tt
lines_stand F S p explicit (l ∷ ls) h =
    each_append (λ (x : Implicit). F x.place) (implicit_in S p explicit l) (flat_map (implicit_in S p explicit) ls) (line_stands F S p explicit l h.0) (lines_stand F S p explicit ls h.1)

new_stand : (F : Place → Type 0) (all xs : List Implicit) → ImplicitsStand F all → ImplicitsStand F xs → ImplicitsStand F (with_new all xs)
new_stand F all [] h k = h
new_stand F all (x ∷ xs) h k =
    new_stand F (cond (is_among all x) all (all ++ x ∷ [])) xs
    (either_stand F (is_among all x) all (all ++ x ∷ []) h (each_append (λ (y : Implicit). F y.place) all (x ∷ []) h (k.0, tt))) k.1

variables_stand : (F : Place → Type 0) (S : Scope) (p : ProcId) (explicit : Bool) (ls : List Placed) → PlacedStand F ls → ImplicitsStand F (variables_in S p explicit ls)
variables_stand F S p explicit ls h = new_stand F [] (flat_map (implicit_in S p explicit) ls) tt (lines_stand F S p explicit ls h)

abbrev LocalsStand : (Place → Type 0) → Locals → Type 0
LocalsStand F l = ImplicitsStand F l.variables

home_locals : (F : Place → Type 0) (D : Declarations) (p : ProcId) (first : ℕ) (h : Home) → HomeStands F h → LocalsStand F (locals_of D p first h)
home_locals F D p first h s = variables_stand F (written_scope D h.file p) p (is_explicit D h) (placed h) (placed_stand F h.first (flat_lines h.body) s)

locals_stand : (F : Place → Type 0) (D : Declarations) (p first : ℕ) (hs : List Home) → Each (HomeStands F) hs → Each (LocalsStand F) (locals_from D p first hs)
locals_stand F D p first [] h = tt
locals_stand F D p first (x ∷ hs) h =
    (home_locals F D (procedure_id p) first x h.0, locals_stand F D (p + 1) (first + length (locals_of D (procedure_id p) first x).variables) hs h.1)

locals_all : (F : Place → Type 0) (ls : List Locals) → Each (LocalsStand F) ls → ImplicitsStand F (all_variables ls)
locals_all F ls h = each_flat (λ (x : Implicit). F x.place) (λ (l : Locals). l.variables) ls h

implicits_stand : (F : Place → Type 0) (D : Declarations) → DeclarationsStand F D → ImplicitsStand F (all_variables (project_locals D))
implicits_stand F D h = locals_all F (project_locals D) (locals_stand F D 0 (length D.vars) (homes D.project) (modules_homes F D.project.modules h.modules))

pub all_stand : (F : Place → Type 0) (D : Declarations) → DeclarationsStand F D → DeclarationsStand F (all_declarations D)
all_stand F D h = record {
  modules = h.modules;
  vars = each_append (λ (v : Variable). F v.place) D.vars (map (variable_of D) (all_variables (project_locals D))) h.vars
      (each_map (λ (v : Variable). F v.place) (λ (x : Implicit). F x.place) (variable_of D) (λ x s. s) (all_variables (project_locals D)) (implicits_stand F D h));
  consts = h.consts;
  procs = h.procs;
  types = h.types;
  enums = h.enums;
}

-- ---- code lines

abbrev pub CodeStands : (Place → Type 0) → List Line → Type 0
CodeStands F ls = Each (λ (l : Line). F l.source.place) ls

kept_line : (F : Place → Type 0) (b : Bool) (l : Line) → F l.source.place → CodeStands F (cond b (l ∷ []) [])
kept_line F true l h = (h, tt)
kept_line F false l h = tt

if_stands : (F : Place → Type 0) (I : Inside) (k : Kept) (cases : CaseType) (n : ℕ) (l : source.Line) → F l.place → CodeStands F (bound_if I k cases n l)
if_stands F I k cases n l h = kept_line F (is_code l.form) (bound_line I k cases n l) h

mutual
  nodes_stand : (F : Place → Type 0) (I : Inside) (k : Kept) (n : ℕ) (ns : Nodes) → LinesStand F (flat_lines ns) → CodeStands F (bound_nodes I k n ns)
  nodes_stand F I k n no_nodes h = tt
  nodes_stand F I k n (next_node a rest) h =
      let later = n + length (bound_node I k n a) in
      each_append (λ (l : Line). F l.source.place) (bound_node I k n a) (bound_nodes I k later rest)
      (node_stands F I k n a (each_left (λ (l : source.Line). F l.place) (node_lines a) (flat_lines rest) h))
      (nodes_stand F I k later rest (each_right (λ (l : source.Line). F l.place) (node_lines a) (flat_lines rest) h))

  node_stands : (F : Place → Type 0) (I : Inside) (k : Kept) (n : ℕ) (a : Node) → LinesStand F (node_lines a) → CodeStands F (bound_node I k n a)
  node_stands F I k n (line l) h = if_stands F I k Open n l h.0
  node_stands F I k n (block head body ms close) h =
      let cases = common_type I k n head.form body ms in
      let inner = kept_inside I k n head.form in
      let first = bound_if I k cases n head in
      let at_body = n + length first in
      let second = bound_nodes I inner at_body body in
      let at_parts = at_body + length second in
      let third = bound_middles I inner cases at_parts ms in
      let front = first ++ (second ++ third) in
      let inside_lines = each_left (λ (l : source.Line). F l.place) (flat_lines body ++ middle_lines ms) (close ∷ []) h.1 in
      let last = each_right (λ (l : source.Line). F l.place) (flat_lines body ++ middle_lines ms) (close ∷ []) h.1 in
      each_append (λ (l : Line). F l.source.place) front (bound_if I k Open (n + length front) close)
      (each_append (λ (l : Line). F l.source.place) first (second ++ third) (if_stands F I k cases n head h.0)
      (each_append (λ (l : Line). F l.source.place) second third
      (nodes_stand F I inner at_body body (each_left (λ (l : source.Line). F l.place) (flat_lines body) (middle_lines ms) inside_lines))
      (middles_stand F I inner cases at_parts ms (each_right (λ (l : source.Line). F l.place) (flat_lines body) (middle_lines ms) inside_lines))))
      (if_stands F I k Open (n + length front) close last.0)

  middles_stand : (F : Place → Type 0) (I : Inside) (k : Kept) (cases : CaseType) (n : ℕ) (ms : Middles) → LinesStand F (middle_lines ms) → CodeStands F (bound_middles I k cases n ms)
  middles_stand F I k cases n no_middles h = tt
  middles_stand F I k cases n (next_middle l body more) h =
      let first = bound_if I k cases n l in
      let at_body = n + length first in
      let second = bound_nodes I k at_body body in
      let front = first ++ second in
      each_append (λ (x : Line). F x.source.place) front (bound_middles I k cases (n + length front) more)
      (each_append (λ (x : Line). F x.source.place) first second (if_stands F I k cases n l h.0)
      (nodes_stand F I k at_body body (each_left (λ (x : source.Line). F x.place) (flat_lines body) (middle_lines more) h.1)))
      (middles_stand F I k cases (n + length front) more (each_right (λ (x : source.Line). F x.place) (flat_lines body) (middle_lines more) h.1))

body_stands : (F : Place → Type 0) (written all : Declarations) (p : ProcId) (h : Home) (o : Option Locals) → HomeStands F h → Each (CodeStands F) (body_with written all p h o)
body_stands F written all p h None s = tt
body_stands F written all p h (Some l) s = (nodes_stand F (inside written all p h l) no_with 0 h.body s, tt)

from_stand : (F : Place → Type 0) (written all : Declarations) (ls : List Locals) (p : ℕ) (hs : List Home) → Each (HomeStands F) hs → Each (CodeStands F) (bodies_from written all ls p hs)
from_stand F written all ls p [] h = tt
from_stand F written all ls p (x ∷ hs) h =
    each_append (CodeStands F) (body_with written all (procedure_id p) x (slice_get ls p)) (bodies_from written all ls (p + 1) hs)
    (body_stands F written all (procedure_id p) x (slice_get ls p) h.0) (from_stand F written all ls (p + 1) hs h.1)

pub bodies_stand : (F : Place → Type 0) (D : Declarations) → ModulesStand F D.project.modules → Each (CodeStands F) (all_bodies D)
bodies_stand F D h = from_stand F D (all_declarations D) (project_locals D) 0 (homes D.project) (modules_homes F D.project.modules h)
