-- The code lines of a procedure, each with what is bound in it. What a line means depends on the blocks round it: on what the innermost
-- With keeps, and for a Case on the common type of its Select Case.
use Rattle.std.specs.Prelude.{ℕ, ◌+◌, cond, Option, Some, None, List, [], ◌∷◌, ◌++◌, length, slice_get}
use Rattle.vb_tree.specs.Blocks.{is_code}
use Rattle.vb_tree.specs.FlatLines.{code_lines, flat_lines}
use Rattle.vb_tree.specs.Tree.{Form, select, with_head, Node, line, block, Nodes, no_nodes, next_node, Middles, no_middles, next_middle, Exp}
use Rattle.vb_tree.specs.Tree as source
use Rattle.bound_tree.specs.Tree.{Bindings, Declarations, Line}
use Rattle.bound_facts.specs.Node.{root, type_at}
use Rattle.name_tables.specs.declared.uses.Site.{Site}
use Rattle.typing_rows.specs.declared.cases.CaseType.{CaseType}
use Rattle.typing_rows.specs.declared.cases.CaseType.TheVariants.{Open}
use Rattle.typing_rows.specs.Cases.{common_with}
use Rattle.expression_words.specs.Flaws.{Typed, known, unknown, on_known}
use Rattle.expression_words.specs.Converting.{plain}
use Rattle.expression_words.specs.Meanings.{Scope, Kept, no_with, keeps, keeps_unknown}
use Rattle.bound_exprs.specs.Resolved.{resolved}
use Rattle.binder.specs.declared.parts.Task.{Task}
use Rattle.binder.specs.declared.parts.Task.TheVariants as task
use Rattle.binder.specs.Parts.{Part, parts}
use Rattle.binder.specs.Lines.{line_rules, settled_from, typed_parts}
use Rattle.binder.specs.Mentions.{line_mentions}

-- a procedure: all declarations, those that lines declare, where it stands, its code lines, and for each of them the number of the first
-- implicit local that only later lines use
pub record Inside : Type 0 where
  pub declarations : Declarations
  pub written : Declarations
  pub site : Site
  pub lines : List source.Line
  pub laters : List ℕ

abbrev pub or_zero : Option ℕ → ℕ
or_zero None = 0
or_zero (Some n) = n

-- where the code line n stands, counted from 0
abbrev pub scope_at : Inside → Kept → (n : ℕ) → Scope
scope_at I k n = record { declarations = I.declarations; written = I.written; later = or_zero (slice_get I.laters n); site = I.site; kept = k; missing = 3 }

-- ---- lines

-- by the parts of a line, and what they are
abbrev pub bindings_by : Inside → Scope → Form → List Part → List Typed → Bindings
bindings_by I S f ps ts = record { exprs = settled_from S ps 0 ts; rules = line_rules S I.lines f ts; mentions = line_mentions S f ts }

abbrev pub bindings : Inside → CaseType → Scope → Form → Bindings
bindings I cases S f = bindings_by I S f (parts f) (typed_parts S cases (parts f))

abbrev pub bound_line : Inside → Kept → CaseType → (n : ℕ) → source.Line → Line
bound_line I k cases n l = record { source = l; bindings = bindings I cases (scope_at I k n) l.form }

-- a line, where it is a code line
abbrev pub bound_if : Inside → Kept → CaseType → (n : ℕ) → source.Line → List Line
bound_if I k cases n l = cond (is_code l.form) (bound_line I k cases n l ∷ []) []

-- ---- blocks

abbrev pub kept_of : Typed → Kept
kept_of (known e) = keeps (type_at e) (root e)
kept_of (unknown f) = keeps_unknown f.cause

-- what the innermost With keeps inside of a block whose head is line n
abbrev pub kept_inside : Inside → Kept → (n : ℕ) → Form → Kept
kept_inside I k n (with_head e) = kept_of (resolved (scope_at I k n) e)
kept_inside I k n _ = k

abbrev pub with_type : CaseType → Typed → CaseType
with_type c (known e) = common_with c (type_at e ∷ [])
with_type c (unknown f) = c

-- a common type with one more expression, which gives way to its default member; one without a type is left out
abbrev pub with_choice : Scope → CaseType → Task → Exp → CaseType
with_choice S c task.Choice e = with_type c (on_known (plain S.declarations) (resolved S e))
with_choice S c _ e = c

abbrev pub with_choices : Scope → CaseType → List Part → CaseType
with_choices S c [] = c
with_choices S c (p ∷ ps) = with_choices S (with_choice S c p.task p.exp) ps

abbrev pub with_line : Inside → Kept → (n : ℕ) → CaseType → Form → CaseType
with_line I k n c f = with_choices (scope_at I k n) c (parts f)

abbrev pub count : List source.Line → ℕ
count lines = length (code_lines lines)

-- with those of the lines that part a block, the first of which is line n
abbrev pub with_middles : Inside → Kept → (n : ℕ) → CaseType → Middles → CaseType
with_middles I k n c no_middles = c
with_middles I k n c (next_middle l body more) =
    with_middles I k (n + count (l ∷ []) + count (flat_lines body)) (with_line I k n c l.form) more

-- the common type of a Select Case whose head is line n
abbrev pub common_type : Inside → Kept → (n : ℕ) → Form → Nodes → Middles → CaseType
common_type I k n (select e) body ms = with_middles I k (n + 1 + count (flat_lines body)) (with_line I k n Open (select e)) ms
common_type I k n _ body ms = Open

-- ---- bodies

abbrev mutual
  -- the code lines of a body, the first of which is line n
  pub bound_nodes : Inside → Kept → (n : ℕ) → Nodes → List Line
  bound_nodes I k n no_nodes = []
  bound_nodes I k n (next_node a rest) =
      let ls = bound_node I k n a in
      ls ++ bound_nodes I k (n + length ls) rest

  pub bound_node : Inside → Kept → (n : ℕ) → Node → List Line
  bound_node I k n (line l) = bound_if I k Open n l
  bound_node I k n (block head body ms close) =
      let cases = common_type I k n head.form body ms in
      let inner = kept_inside I k n head.form in
      let first = bound_if I k cases n head in
      let second = bound_nodes I inner (n + length first) body in
      let ls = first ++ (second ++ bound_middles I inner cases (n + length first + length second) ms) in
      ls ++ bound_if I k Open (n + length ls) close

  pub bound_middles : Inside → Kept → CaseType → (n : ℕ) → Middles → List Line
  bound_middles I k cases n no_middles = []
  bound_middles I k cases n (next_middle l body more) =
      let first = bound_if I k cases n l in
      let ls = first ++ bound_nodes I k (n + length first) body in
      ls ++ bound_middles I k cases (n + length ls) more

-- the code lines of a procedure
abbrev pub bound_body : Inside → Nodes → List Line
bound_body I body = bound_nodes I no_with 0 body
