-- Control goes to the same numbers.
use Rattle.std.proofs.Common.{◌≡◌, ◌≤◌, ℕ, suc, ◌+◌, true, List, [], ◌∷◌, map, length, Option, refl, sym, ap, ◌∙◌}
use Rattle.std.specs.Prelude.{slice_get}
use Rattle.up_base.proofs.Lists.{all_first, all_rest}
use Rattle.vb_tree.specs.FlatLines.{code_lines, flat_lines}
use Rattle.vb_tree.specs.Tree.{Nodes}
use Rattle.bound_tree.specs.Labels.{Label, labels}
use Rattle.bound_tree.specs.Targets.{Step, step_of, steps, aims_at, aims_from, aims_of}
use Rattle.bound_tree.specs.Tree.{Line, Program}
use Rattle.net_tree.specs.declared.declaration.NetClose.{NetClose}
use Rattle.net_tree.specs.FlatLines as net_flat
use Rattle.net_tree.specs.Tree as net
use Rattle.written_trees.specs.Bodies.{inside_procedure, procedure_with, replaced_in}
use Rattle.written_trees.specs.Bodies as bound
use Rattle.written_trees.specs.Names.{Scope}
use Rattle.written_trees.specs.Placing.{Placed}
use Rattle.written_trees.specs.Prologues as prologues
use Rattle.written_trees.specs.Prologues.{code_sets}
use Rattle.vb6_run.specs.Forms.{SourceLine, body_of, with_aims}
use Rattle.vb6_run.specs.Lines.{lines_in, source_lines}
use Rattle.net_run.specs.Lines.{NetLine}
use Rattle.net_run.specs.Members.{Code}
use Rattle.net_run.specs.Program as net_program
use Rattle.net_run.specs.Program.{flat}
use Rattle.net_run.specs.Steps as net_steps
use Rattle.target_laws.specs.Kept.{code_of, keep_steps, keeps_step, written_from}
use Rattle.target_laws.proofs.Bodies.{enough_sets, lines_in_order, second_parts}
use Rattle.target_laws.proofs.Steps.{step_kept}

-- ---- lines have the aims that they are given

written_aims : (all : List Step) (n : ℕ) (ls : List net.Line) → map (λ (l : NetLine). l.aims) (flat ls (aims_from all n (map net_steps.step_of ls))) ≡ aims_from all n (map net_steps.step_of ls)
written_aims all n [] = refl
written_aims all n (l ∷ ls) = ap (λ more. aims_at all n (net_steps.step_of l) ∷ more) (written_aims all (suc n) ls)

source_aims : (all : List Step) (n : ℕ) (ls : List Line) → map (λ (l : SourceLine). l.aims) (with_aims ls (aims_from all n (steps (source_lines ls)))) ≡ aims_from all n (steps (source_lines ls))
source_aims all n [] = refl
source_aims all n (l ∷ ls) = ap (λ more. aims_at all n (step_of l.source.form) ∷ more) (source_aims all (suc n) ls)

-- ---- steps

steps_kept : (S : Scope) (ls : List (Option Label)) (k : ℕ) (code : List prologues.Code) → keep_steps code ≡ true
    → map net_steps.step_of (written_from S ls k code) ≡ map (λ (c : prologues.Code). step_of c.1.source.form) code
steps_kept S ls k [] h = refl
steps_kept S ls k (c ∷ code) h =
    let keeps = λ (c : prologues.Code). keeps_step c.0 c.1 in
    let one = step_kept S ls c.0 (suc k) c.1 (all_first keeps c code h) in
    let more = steps_kept S ls (k + replaced_in (c ∷ [])) code (all_rest keeps c code h) in
    λ i. one i ∷ more i

bound_steps : (ls : List Line) → map (λ (l : Line). step_of l.source.form) ls ≡ steps (source_lines ls)
bound_steps [] = refl
bound_steps (l ∷ ls) = ap (λ more. step_of l.source.form ∷ more) (bound_steps ls)

same_steps : (P : Program) (S : Scope) (p : Placed) (body : Nodes) (head : net.Head) (close : NetClose)
    → length (lines_in (slice_get P.bodies p.at.procedure)) ≤ length (code_lines (flat_lines body))
    → keep_steps (code_of P S p body) ≡ true
    → map net_steps.step_of (net_flat.code_lines (procedure_with P S p body head close)) ≡ steps (source_lines (bound.lines_in (slice_get P.bodies p.at.procedure)))
same_steps P S p body head close few keep =
    let ls = bound.lines_in (slice_get P.bodies p.at.procedure) in
    ap (map net_steps.step_of) (lines_in_order P S p body head close)
    ∙ steps_kept (inside_procedure S p.at.procedure) (labels (flat_lines body)) 0 (code_of P S p body) keep
    ∙ second_parts (λ (l : Line). step_of l.source.form) (code_sets S p.at.procedure (suc p.at.statement) 0 (flat_lines body)) ls (enough_sets P S p body few)
    ∙ bound_steps ls

pub same_aims : (P : Program) (S : Scope) (p : Placed) (body : Nodes) (head : net.Head) (close : NetClose) (c : Code)
    → c.procedure ≡ procedure_with P S p body head close
    → length (lines_in (slice_get P.bodies p.at.procedure)) ≤ length (code_lines (flat_lines body))
    → keep_steps (code_of P S p body) ≡ true
    → map (λ (l : NetLine). l.aims) (net_program.body_of c) ≡ map (λ (l : SourceLine). l.aims) (body_of (bound.lines_in (slice_get P.bodies p.at.procedure)))
same_aims P S p body head close c is few keep =
    let ls = net_flat.code_lines c.procedure in
    let sources = bound.lines_in (slice_get P.bodies p.at.procedure) in
    let same = ap (λ (q : net.Procedure). map net_steps.step_of (net_flat.code_lines q)) is ∙ same_steps P S p body head close few keep in
    written_aims (map net_steps.step_of ls) 1 ls ∙ ap aims_of same ∙ sym (source_aims (steps (source_lines sources)) 1 sources)
