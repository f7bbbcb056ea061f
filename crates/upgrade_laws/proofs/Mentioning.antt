-- A bound line mentions the variables that it uses.
use Rattle.std.proofs.Common.{◌≡◌, ℕ, ◌+◌, Bool, true, false, List, [], ◌∷◌, ◌++◌, length, Option, Some, None, slice_get, sym, subst}
use Rattle.std.specs.Prelude.{cond}
use Rattle.std.specs.List.{AllByRecursion as Each, Contains, flat_map}
use Rattle.std.proofs.lemmas.List.Elements.{Contains-append_left, Contains-append_right}
use Rattle.vb_tree.specs.Blocks.{is_code}
use Rattle.vb_tree.specs.Tree.{Middles, Node, Nodes, block, line, next_middle, next_node, no_middles, no_nodes, Project}
use Rattle.vb_tree.specs.Tree as source
use Rattle.bound_tree.specs.declared.body.Bound.{Bound}
use Rattle.bound_tree.specs.declared.body.Mention.{Mention}
use Rattle.bound_tree.specs.declared.body.Mention.TheVariants as mention
use Rattle.bound_tree.specs.Tree.{Declarations, Expr, Line, Program, Term, typed, variable}
use Rattle.bound_tree.specs.View.{program_of}
use Rattle.bound_facts.specs.Nodes.{line_nodes, nodes}
use Rattle.typing_rows.specs.declared.cases.CaseType.{CaseType}
use Rattle.typing_rows.specs.declared.cases.CaseType.TheVariants.{Open}
use Rattle.expression_words.specs.Flaws.{Typed, known, unknown}
use Rattle.expression_words.specs.Meanings.{Kept, Scope, no_with}
use Rattle.binder.specs.Bodies.{Inside, bound_if, bound_line, bound_middles, bound_node, bound_nodes, common_type, kept_inside, scope_at}
use Rattle.binder.specs.ImplicitLocals.{Home, Locals, homes, procedure_id, project_locals}
use Rattle.binder.specs.Lines.{settled, settled_at, settled_from, typed_parts}
use Rattle.binder.specs.Mentions.{line_mentions, node_mentions, own_mentions, typed_mentions}
use Rattle.binder.specs.Parts.{Part, parts}
use Rattle.binder.specs.Programs.{all_declarations, bodies_from, body_with, inside}
use Rattle.broken_rules.specs.View.{IsBoundTo}
use Rattle.upgrade_laws.specs.Mentioned.{MentionsVariables}
use Rattle.upgrade_laws.proofs.Lists.{each_append, each_contained, each_flat, each_got, here}

-- all mentions of a list are among others
abbrev AreAmong : List Mention → List Mention → Type 0
AreAmong given all = (m : Mention) → Contains given m → Contains all m

abbrev IsMentionedIn : List Mention → Term → Type 0
IsMentionedIn all (variable v qualified) = Contains all (mention.Var v)
IsMentionedIn all _ = Unit {0}

-- a node that is a variable is mentioned
abbrev IsMentioned : List Mention → Expr → Type 0
IsMentioned all (typed ty t) = IsMentionedIn all t

-- ---- expressions

one_mentioned : (D : Declarations) (all : List Mention) (e : Expr) → AreAmong (node_mentions D e) all → IsMentioned all e
one_mentioned D all (typed ty (variable v qualified)) h = h (mention.Var v) (here (mention.Var v) [])
one_mentioned D all (typed ty _) h = tt

nodes_mentioned : (D : Declarations) (all : List Mention) (es : List Expr) → AreAmong (flat_map (node_mentions D) es) all → Each (IsMentioned all) es
nodes_mentioned D all [] h = tt
nodes_mentioned D all (e ∷ es) h = (
  one_mentioned D all e (λ m i. h m (Contains-append_left (node_mentions D e) (flat_map (node_mentions D) es) m i)),
  nodes_mentioned D all es (λ m i. h m (Contains-append_right (node_mentions D e) (flat_map (node_mentions D) es) m i)),
)

-- those of an expression
abbrev AreMentioned : List Mention → Expr → Type 0
AreMentioned all e = Each (IsMentioned all) (nodes e)

-- what is kept as it is written uses no variable
settled_mentioned : (S : Scope) (all : List Mention) (p : Part) (t : Typed) → AreAmong (typed_mentions S.declarations t) all → AreMentioned all (settled S p t)
settled_mentioned S all p (known e) h = nodes_mentioned S.declarations all (nodes e) h
settled_mentioned S all p (unknown f) h = (tt, tt)

part_mentioned : (S : Scope) (all : List Mention) (o : Option Part) (t : Typed) → AreAmong (typed_mentions S.declarations t) all
    → Each (AreMentioned all) (settled_at S o t)
part_mentioned S all None t h = tt
part_mentioned S all (Some p) t h = (settled_mentioned S all p t h, tt)

parts_mentioned : (S : Scope) (all : List Mention) (ps : List Part) (i : ℕ) (ts : List Typed) → AreAmong (flat_map (typed_mentions S.declarations) ts) all
    → Each (AreMentioned all) (settled_from S ps i ts)
parts_mentioned S all ps i [] h = tt
parts_mentioned S all ps i (t ∷ ts) h =
    let rest : List Mention = flat_map (typed_mentions S.declarations) ts in
    each_append (AreMentioned all) (settled_at S (slice_get ps i) t) (settled_from S ps (i + 1) ts)
    (part_mentioned S all (slice_get ps i) t (λ m k. h m (Contains-append_left (typed_mentions S.declarations t) rest m k)))
    (parts_mentioned S all ps (i + 1) ts (λ m k. h m (Contains-append_right (typed_mentions S.declarations t) rest m k)))

-- ---- lines

abbrev LineMentions : Line → Type 0
LineMentions l = Each (IsMentioned l.bindings.mentions) (line_nodes l)

line_mentioned : (I : Inside) (k : Kept) (c : CaseType) (n : ℕ) (l : source.Line) → LineMentions (bound_line I k c n l)
line_mentioned I k c n l =
    let S : Scope = scope_at I k n in
    let ts : List Typed = typed_parts S c (parts l.form) in
    let all : List Mention = line_mentions S l.form ts in
    each_flat (IsMentioned all) nodes (settled_from S (parts l.form) 0 ts)
    (parts_mentioned S all (parts l.form) 0 ts (λ m i. Contains-append_left (flat_map (typed_mentions S.declarations) ts) (own_mentions S l.form) m i))

if_mentioned : (b : Bool) (l : Line) → LineMentions l → Each LineMentions (cond b (l ∷ []) [])
if_mentioned true l h = (h, tt)
if_mentioned false l h = tt

one_line : (I : Inside) (k : Kept) (c : CaseType) (n : ℕ) (l : source.Line) → Each LineMentions (bound_if I k c n l)
one_line I k c n l = if_mentioned (is_code l.form) (bound_line I k c n l) (line_mentioned I k c n l)

mutual
  body_mentioned : (I : Inside) (k : Kept) (n : ℕ) (body : Nodes) → Each LineMentions (bound_nodes I k n body)
  body_mentioned I k n no_nodes = tt
  body_mentioned I k n (next_node a rest) =
      each_append LineMentions (bound_node I k n a) (bound_nodes I k (n + length (bound_node I k n a)) rest)
      (node_mentioned I k n a) (body_mentioned I k (n + length (bound_node I k n a)) rest)

  node_mentioned : (I : Inside) (k : Kept) (n : ℕ) (a : Node) → Each LineMentions (bound_node I k n a)
  node_mentioned I k n (line l) = one_line I k Open n l
  node_mentioned I k n (block head body ms close) =
      let cases = common_type I k n head.form body ms in
      let inner = kept_inside I k n head.form in
      let first = bound_if I k cases n head in
      let second = bound_nodes I inner (n + length first) body in
      let third = bound_middles I inner cases (n + length first + length second) ms in
      each_append LineMentions (first ++ (second ++ third)) (bound_if I k Open (n + length (first ++ (second ++ third))) close)
      (each_append LineMentions first (second ++ third) (one_line I k cases n head)
      (each_append LineMentions second third (body_mentioned I inner (n + length first) body) (middles_mentioned I inner cases (n + length first + length second) ms)))
      (one_line I k Open (n + length (first ++ (second ++ third))) close)

  middles_mentioned : (I : Inside) (k : Kept) (c : CaseType) (n : ℕ) (ms : Middles) → Each LineMentions (bound_middles I k c n ms)
  middles_mentioned I k c n no_middles = tt
  middles_mentioned I k c n (next_middle l body more) =
      let first = bound_if I k c n l in
      let ls = first ++ bound_nodes I k (n + length first) body in
      each_append LineMentions ls (bound_middles I k c (n + length ls) more)
      (each_append LineMentions first (bound_nodes I k (n + length first) body) (one_line I k c n l) (body_mentioned I k (n + length first) body))
      (middles_mentioned I k c (n + length ls) more)

-- ---- programs

with_mentioned : (W A : Declarations) (p : ℕ) (h : Home) (o : Option Locals) → Each (Each LineMentions) (body_with W A (procedure_id p) h o)
with_mentioned W A p h None = tt
with_mentioned W A p h (Some l) = (body_mentioned (inside W A (procedure_id p) h l) no_with 0 h.body, tt)

bodies_mentioned : (W A : Declarations) (ls : List Locals) (p : ℕ) (hs : List Home) → Each (Each LineMentions) (bodies_from W A ls p hs)
bodies_mentioned W A ls p [] = tt
bodies_mentioned W A ls p (h ∷ hs) =
    each_append (Each LineMentions) (body_with W A (procedure_id p) h (slice_get ls p)) (bodies_from W A ls (p + 1) hs)
    (with_mentioned W A p h (slice_get ls p)) (bodies_mentioned W A ls (p + 1) hs)

pub mentions_have_variables : (P : Project) (b : Bound) → IsBoundTo P b → (p n : ℕ) (lines : List Line) (l : Line)
    → slice_get (program_of b).bodies p ≡ Some lines → slice_get lines n ≡ Some l → MentionsVariables l
mentions_have_variables P b is p n lines l at_p at_n v ty qualified i =
    let D : Declarations = is.declarations in
    let all : Each (Each LineMentions) (program_of b).bodies =
    subst (λ (Q : Program). Each (Each LineMentions) Q.bodies) (sym is.program)
    (bodies_mentioned D (all_declarations D) (project_locals D) 0 (homes D.project)) in
    each_contained (IsMentioned l.bindings.mentions) (line_nodes l) (typed ty (variable v qualified)) i
    (each_got LineMentions lines n l at_n (each_got (Each LineMentions) (program_of b).bodies p lines at_p all))
