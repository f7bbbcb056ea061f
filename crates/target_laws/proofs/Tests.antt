-- Which written lines compute something for their blocks, form by form.
use Rattle.std.proofs.Common.{◌≡◌, ◌≤◌, ℕ, suc, ◌+◌, true, false, not, List, [], ◌∷◌, map, length, Option, Some, None, refl, sym, ap, ◌∙◌}
use Rattle.std.specs.Prelude.{slice_get}
use Rattle.up_base.proofs.Lists.{all_first, all_rest}
use Rattle.vb_tree.specs.FlatLines.{code_lines, flat_lines}
use Rattle.vb_tree.specs.Tree.{Form, Nodes}
use Rattle.vb_tree.specs.Tree as source
use Rattle.bound_tree.specs.declared.rule_set.RuleSet.{RuleSet}
use Rattle.bound_tree.specs.Labels.{Label, labels}
use Rattle.bound_tree.specs.Targets.{Step, aims_from, steps}
use Rattle.bound_tree.specs.Tree.{Expr, Line, Program}
use Rattle.net_tree.specs.declared.declaration.NetClose.{NetClose}
use Rattle.net_tree.specs.FlatLines as net_flat
use Rattle.net_tree.specs.Tree as net
use Rattle.vb6_run.specs.Forms.{SourceLine, body_of, tests_in, with_aims}
use Rattle.vb6_run.specs.Lines.{lines_in, source_lines}
use Rattle.net_run.specs.Lines.{NetLine}
use Rattle.net_run.specs.Members.{Code}
use Rattle.net_run.specs.Program as net_program
use Rattle.net_run.specs.Program.{flat}
use Rattle.net_run.specs.Steps as net_steps
use Rattle.net_run.specs.Steps.{tests}
use Rattle.written_trees.specs.Bodies.{inside_procedure, procedure_with, replaced_in}
use Rattle.written_trees.specs.Bodies as bound
use Rattle.written_trees.specs.Lines.{flagged_line, line_by, line_of, replaced_by, written_line}
use Rattle.written_trees.specs.Names.{Scope}
use Rattle.written_trees.specs.Placing.{Placed}
use Rattle.written_trees.specs.Prologues as prologues
use Rattle.written_trees.specs.Prologues.{code_sets}
use Rattle.target_laws.specs.Kept.{code_of, keep_tests, keeps_tests, keeps_tests_by, written_from}
use Rattle.target_laws.proofs.Bodies.{enough_sets, lines_in_order, second_parts}
use Rattle.target_laws.proofs.Plain.{assigned, called, erased, object_set}

flagged_kept : (n k : ℕ) (f : Form) (es : List Expr) → keeps_tests_by (Some n) f es ≡ true → tests (flagged_line n k f) ≡ tests_in f
flagged_kept n k (source.for_each name suffix items) es h = absurd (cc h)
flagged_kept n k _ es h = refl

flagged_lost : (n k : ℕ) (f : Form) (es : List Expr) → keeps_tests_by (Some n) f es ≡ false → tests (flagged_line n k f) ≡ not (tests_in f)
flagged_lost n k (source.for_each name suffix items) es h = refl
flagged_lost n k _ es h = absurd (cc h)

form_kept : (S : Scope) (labels : List (Option Label)) (f : Form) (es : List Expr) → keeps_tests_by None f es ≡ true → tests (line_of S labels f es) ≡ tests_in f
form_kept S labels (source.assign target value) es h = (assigned S es).is_untested
form_kept S labels (source.set target value) es h = (object_set S es).is_untested
form_kept S labels (source.call callee) es h = (called S es).is_untested
form_kept S labels (source.invoke callee args) es h = (called S es).is_untested
form_kept S labels (source.erase array) es h = (erased S es).is_untested
form_kept S labels (source.for_head counter start limit step) [] h = absurd (cc h)
form_kept S labels (source.for_head counter start limit step) (a ∷ []) h = absurd (cc h)
form_kept S labels (source.for_head counter start limit step) (a ∷ b ∷ []) h = absurd (cc h)
form_kept S labels (source.for_head counter start limit step) (a ∷ b ∷ c ∷ es) h = refl
form_kept S labels _ es h = refl

form_lost : (S : Scope) (labels : List (Option Label)) (f : Form) (es : List Expr) → keeps_tests_by None f es ≡ false → tests (line_of S labels f es) ≡ not (tests_in f)
form_lost S labels (source.for_head counter start limit step) [] h = refl
form_lost S labels (source.for_head counter start limit step) (a ∷ []) h = refl
form_lost S labels (source.for_head counter start limit step) (a ∷ b ∷ []) h = refl
form_lost S labels (source.for_head counter start limit step) (a ∷ b ∷ c ∷ es) h = absurd (cc h)
form_lost S labels _ es h = absurd (cc h)

kept_by : (S : Scope) (labels : List (Option Label)) (k : ℕ) (f : Form) (es : List Expr) (o : Option ℕ) → keeps_tests_by o f es ≡ true → tests (line_by S labels k f es o) ≡ tests_in f
kept_by S labels k f es None h = form_kept S labels f es h
kept_by S labels k f es (Some n) h = flagged_kept n k f es h

lost_by : (S : Scope) (labels : List (Option Label)) (k : ℕ) (f : Form) (es : List Expr) (o : Option ℕ) → keeps_tests_by o f es ≡ false → tests (line_by S labels k f es o) ≡ not (tests_in f)
lost_by S labels k f es None h = form_lost S labels f es h
lost_by S labels k f es (Some n) h = flagged_lost n k f es h

pub tests_kept : (S : Scope) (labels : List (Option Label)) (rules : RuleSet) (k : ℕ) (l : Line) → keeps_tests rules l ≡ true
    → tests (written_line S labels rules k l) ≡ tests_in l.source.form
tests_kept S labels rules k l h = kept_by S labels k l.source.form l.bindings.exprs (replaced_by rules) h

pub tests_lost : (S : Scope) (labels : List (Option Label)) (rules : RuleSet) (k : ℕ) (l : Line) → keeps_tests rules l ≡ false
    → tests (written_line S labels rules k l) ≡ not (tests_in l.source.form)
tests_lost S labels rules k l h = lost_by S labels k l.source.form l.bindings.exprs (replaced_by rules) h

-- ---- the lines of a procedure

written_tests : (all : List Step) (n : ℕ) (ls : List net.Line) → map (λ (l : NetLine). l.tests) (flat ls (aims_from all n (map net_steps.step_of ls))) ≡ map tests ls
written_tests all n [] = refl
written_tests all n (l ∷ ls) = ap (λ more. tests l ∷ more) (written_tests all (suc n) ls)

source_tests : (all : List Step) (n : ℕ) (ls : List Line) → map (λ (l : SourceLine). l.tests) (with_aims ls (aims_from all n (steps (source_lines ls)))) ≡ map (λ (l : Line). tests_in l.source.form) ls
source_tests all n [] = refl
source_tests all n (l ∷ ls) = ap (λ more. tests_in l.source.form ∷ more) (source_tests all (suc n) ls)

all_kept : (S : Scope) (ls : List (Option Label)) (k : ℕ) (code : List prologues.Code) → keep_tests code ≡ true
    → map tests (written_from S ls k code) ≡ map (λ (c : prologues.Code). tests_in c.1.source.form) code
all_kept S ls k [] h = refl
all_kept S ls k (c ∷ code) h =
    let keeps = λ (c : prologues.Code). keeps_tests c.0 c.1 in
    let one = tests_kept S ls c.0 (suc k) c.1 (all_first keeps c code h) in
    let more = all_kept S ls (k + replaced_in (c ∷ [])) code (all_rest keeps c code h) in
    λ i. one i ∷ more i

pub same_tests : (P : Program) (S : Scope) (p : Placed) (body : Nodes) (head : net.Head) (close : NetClose) (c : Code)
    → c.procedure ≡ procedure_with P S p body head close
    → length (lines_in (slice_get P.bodies p.at.procedure)) ≤ length (code_lines (flat_lines body))
    → keep_tests (code_of P S p body) ≡ true
    → map (λ (l : NetLine). l.tests) (net_program.body_of c) ≡ map (λ (l : SourceLine). l.tests) (body_of (bound.lines_in (slice_get P.bodies p.at.procedure)))
same_tests P S p body head close c is few keep =
    let ls = net_flat.code_lines c.procedure in
    let sources = bound.lines_in (slice_get P.bodies p.at.procedure) in
    written_tests (map net_steps.step_of ls) 1 ls
    ∙ ap (λ (q : net.Procedure). map tests (net_flat.code_lines q)) is
    ∙ ap (map tests) (lines_in_order P S p body head close)
    ∙ all_kept (inside_procedure S p.at.procedure) (labels (flat_lines body)) 0 (code_of P S p body) keep
    ∙ second_parts (λ (l : Line). tests_in l.source.form) (code_sets S p.at.procedure (suc p.at.statement) 0 (flat_lines body)) sources (enough_sets P S p body few)
    ∙ sym (source_tests (steps (source_lines sources)) 1 sources)
