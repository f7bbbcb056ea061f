-- The lines of a written procedure are what is written for its lines, by their numbers, and control goes where it goes in the source.
use Rattle.std.proofs.Common.{◌≡◌, ◌≤◌, ℕ, zero, suc, ◌+◌, Bool, true, List, [], ◌∷◌, ◌++◌, map, length, Option, Some, None, refl, sym, ap, ◌∙◌, subst}
use Rattle.std.specs.Prelude.{slice_get}
use Rattle.std.specs.List.{list_all}
use Rattle.vb_tree.specs.Blocks.{is_code}
use Rattle.vb_tree.specs.FlatLines.{code_lines, flat_lines}
use Rattle.vb_tree.specs.Tree.{Form}
use Rattle.vb_tree.specs.Tree as source
use Rattle.bound_tree.specs.declared.rule_set.RuleSet.{RuleSet}
use Rattle.bound_tree.specs.Labels.{Label, labels}
use Rattle.bound_tree.specs.RuleSets.{both}
use Rattle.bound_tree.specs.Targets.{Aims, Step, aims_from, steps}
use Rattle.bound_tree.specs.Tree.{Expr, Line, Program}
use Rattle.net_tree.specs.declared.declaration.NetClose.{NetClose}
use Rattle.net_tree.specs.FlatLines as net_flat
use Rattle.net_tree.specs.Tree as net
use Rattle.written_trees.specs.Bodies.{inside_procedure, procedure_with, replaced_in}
use Rattle.written_trees.specs.Bodies as bound
use Rattle.written_trees.specs.Facts.{line_set}
use Rattle.written_trees.specs.Lines.{line_by, line_of, replaced_by, written_line}
use Rattle.written_trees.specs.Names.{Scope}
use Rattle.written_trees.specs.Prologues as prologues
use Rattle.written_trees.specs.Prologues.{code_sets, one_if, set_if, statement_set}
use Rattle.run_base.specs.Machines.{line_at, line_in}
use Rattle.vb6_run.specs.Forms.{SourceLine, body_of, with_aims}
use Rattle.vb6_run.specs.Lines.{lines_in, source_lines}
use Rattle.vb6_run.specs.Programs.{machine_of}
use Rattle.net_run.specs.Lines.{NetLine}
use Rattle.net_run.specs.Members.{Code, code_at, codes_of}
use Rattle.net_run.specs.Program as net_program
use Rattle.net_run.specs.Program.{flat}
use Rattle.net_run.specs.Steps as net_steps
use Rattle.run_matches.specs.Covered.{keeps_blocks, keeps_blocks_in}
use Rattle.run_matches.specs.Sites.{Site, first_statement, site_lines}
use Rattle.run_matches.specs.Upgrades.{Upgrade, runnable_of}
use Rattle.run_statements.specs.Kept.{IsUnreplaced}
use Rattle.run_statements.specs.Written.{HasBody, IsWritten, WrittenLine, site_scope}
use Rattle.target_laws.specs.Kept.{AreBound, code_of, keep_steps, keep_tests, keeps_step, keeps_step_by, keeps_tests, keeps_tests_by, written_from}
use Rattle.target_laws.proofs.Bodies.{enough_lines, enough_sets, lines_in_order}
use Rattle.placing_laws.specs.Control.{AimsAreSame, TestsAreSame}
use Rattle.run_statements.specs.Kept.{LinesAreWritten, NoFurtherLines}
use Rattle.placing_laws.proofs.Lists.{none_behind, none_under, same_item, some_behind, some_under, zip_all, zip_item, zip_none}
use Rattle.placing_laws.proofs.Members.{site_number}

-- ---- what keeps its blocks

keeps_steps_of : (o : Option ℕ) (f : Form) (es : List Expr) → keeps_blocks_in f es ≡ true → keeps_step_by o f es ≡ true
keeps_steps_of (Some n) f es h = refl
keeps_steps_of None (source.for_head counter start limit step) [] h = absurd (cc h)
keeps_steps_of None (source.for_head counter start limit step) (a ∷ []) h = absurd (cc h)
keeps_steps_of None (source.for_head counter start limit step) (a ∷ b ∷ []) h = absurd (cc h)
keeps_steps_of None (source.for_head counter start limit step) (a ∷ b ∷ c ∷ es) h = refl
keeps_steps_of None (source.for_each name suffix items) es h = absurd (cc h)
keeps_steps_of None _ es h = refl

keeps_tests_of : (o : Option ℕ) (f : Form) (es : List Expr) → keeps_blocks_in f es ≡ true → keeps_tests_by o f es ≡ true
keeps_tests_of (Some n) (source.for_each name suffix items) es h = absurd (cc h)
keeps_tests_of (Some n) _ es h = refl
keeps_tests_of None (source.for_head counter start limit step) [] h = absurd (cc h)
keeps_tests_of None (source.for_head counter start limit step) (a ∷ []) h = absurd (cc h)
keeps_tests_of None (source.for_head counter start limit step) (a ∷ b ∷ []) h = absurd (cc h)
keeps_tests_of None (source.for_head counter start limit step) (a ∷ b ∷ c ∷ es) h = refl
keeps_tests_of None (source.for_each name suffix items) es h = absurd (cc h)
keeps_tests_of None _ es h = refl

-- ---- lines by their numbers

-- as many lines are flat as there are written ones
flat_forms : (all : List Step) (n : ℕ) (ls : List net.Line) → map (λ (l : NetLine). l.form) (flat ls (aims_from all n (map net_steps.step_of ls))) ≡ ls
flat_forms all n [] = refl
flat_forms all n (l ∷ ls) = ap (λ more. l ∷ more) (flat_forms all (suc n) ls)

source_forms : (all : List Step) (n : ℕ) (ls : List Line) → map (λ (l : SourceLine). l.form) (with_aims ls (aims_from all n (steps (source_lines ls)))) ≡ ls
source_forms all n [] = refl
source_forms all n (l ∷ ls) = ap (λ more. l ∷ more) (source_forms all (suc n) ls)

written_at : (S : Scope) (ls : List (Option Label)) (k : ℕ) (code : List prologues.Code) (i : ℕ) (c : prologues.Code) → slice_get code i ≡ Some c
    → (j : ℕ) × (slice_get (written_from S ls k code) i ≡ Some (written_line S ls c.0 j c.1))
written_at S ls k [] i c e = absurd (cc e)
written_at S ls k (d ∷ code) zero c e = (suc k, ap (λ (z : prologues.Code). Some (written_line S ls z.0 (suc k) z.1)) (same_item d c e))
written_at S ls k (d ∷ code) (suc i) c e = written_at S ls (k + replaced_in (d ∷ [])) code i c e

none_written : (S : Scope) (ls : List (Option Label)) (k : ℕ) (code : List prologues.Code) (i : ℕ) → slice_get code i ≡ None
    → slice_get (written_from S ls k code) i ≡ None
none_written S ls k [] i e = refl
none_written S ls k (d ∷ code) zero e = absurd (cc e)
none_written S ls k (d ∷ code) (suc i) e = none_written S ls (k + replaced_in (d ∷ [])) code i e

-- the rules of lines are the same inside of the procedure
pub sets_inside : (S : Scope) (q p n i : ℕ) (ls : List source.Line) → code_sets (inside_procedure S q) p n i ls ≡ code_sets S p n i ls
sets_inside S q p n i [] = refl
sets_inside S q p n i (l ∷ ls) =
    ap (λ more. set_if (is_code l.form) (both (line_set S.facts p i) (statement_set S.declarations S.facts S.file n)) ++ more)
    (sets_inside S q p (suc n) (i + one_if (is_code l.form)) ls)

unreplaced : (S : Scope) (ls : List (Option Label)) (rules : RuleSet) (k : ℕ) (l : Line) → replaced_by rules ≡ None
    → written_line S ls rules k l ≡ line_of S ls l.source.form l.bindings.exprs
unreplaced S ls rules k l e = ap (line_by S ls k l.source.form l.bindings.exprs) e

-- ---- the lines of both machines

source_line : (U : Upgrade) (p k : ℕ) (lines : List Line) → slice_get U.program.bodies p ≡ Some lines
    → line_at (machine_of (runnable_of U)) p (suc k) ≡ slice_get (body_of lines) k
source_line U p k lines e = ap (λ (o : Option (List SourceLine)). line_in o (suc k)) (some_under body_of U.program.bodies p lines e)

target_line : (U : Upgrade) (number k : ℕ) (c : Code) → code_at U.written number ≡ Some c
    → line_at (net_program.machine_of U.written) number (suc k) ≡ slice_get (net_program.body_of c) k
target_line U number k c e = ap (λ (o : Option (List NetLine)). line_in o (suc k)) (some_under net_program.body_of (codes_of U.written) number c e)

no_line_before : (o : Option (List NetLine)) → line_in o 0 ≡ None
no_line_before None = refl
no_line_before (Some lines) = refl

-- ---- a procedure

pub are_bound : (P : Program) (s : Site) → HasBody P s.placed.at.procedure s → AreBound P s.placed s.body
are_bound P s b = ap lines_in b.are_lines ∙ b.sources

module _ (P : Program) (S : Scope) (s : Site) (b : HasBody P s.placed.at.procedure s) (head : net.Head) (close : NetClose) (c : Code)
    (is : c.procedure ≡ procedure_with P S s.placed s.body head close) where
  few : length (lines_in (slice_get P.bodies s.placed.at.procedure)) ≤ length (code_lines (flat_lines s.body))
  few = enough_lines P s.placed s.body (are_bound P s b)

  bound_lines : bound.lines_in (slice_get P.bodies s.placed.at.procedure) ≡ b.lines
  bound_lines = ap bound.lines_in b.are_lines

  net_forms : map (λ (l : NetLine). l.form) (net_program.body_of c)
      ≡ written_from (inside_procedure S s.placed.at.procedure) (labels (site_lines s)) 0 (code_of P S s.placed s.body)
  net_forms =
      let ls = net_flat.code_lines c.procedure in
      flat_forms (map net_steps.step_of ls) 1 ls ∙ ap net_flat.code_lines is ∙ lines_in_order P S s.placed s.body head close

  -- what is written for the line of a number, counted from 0
  record Here (k : ℕ) (l : Line) : Type 0 where
    rules : RuleSet
    are_rules : slice_get (code_sets S s.placed.at.procedure (suc s.placed.at.statement) 0 (flat_lines s.body)) k ≡ Some rules
    replaced : ℕ
    line : NetLine
    is_line : slice_get (net_program.body_of c) k ≡ Some line
    form : line.form ≡ written_line (inside_procedure S s.placed.at.procedure) (labels (site_lines s)) rules replaced l

  here : (k : ℕ) (l : Line) → slice_get b.lines k ≡ Some l → Here k l
  here k l e =
      let sets = code_sets S s.placed.at.procedure (suc s.placed.at.statement) 0 (flat_lines s.body) in
      let lines = bound.lines_in (slice_get P.bodies s.placed.at.procedure) in
      let z = zip_item sets lines k l (enough_sets P S s.placed s.body few) (ap (λ (ls : List Line). slice_get ls k) bound_lines ∙ e) in
      let w = written_at (inside_procedure S s.placed.at.procedure) (labels (site_lines s)) 0 (code_of P S s.placed s.body) k (z.0, l) z.2 in
      let r =
      some_behind (λ (n : NetLine). n.form) (net_program.body_of c) k (written_line (inside_procedure S s.placed.at.procedure) (labels (site_lines s)) z.0 w.0 l)
      (ap (λ (ls : List net.Line). slice_get ls k) net_forms ∙ w.1) in
      record { rules = z.0; are_rules = z.1; replaced = w.0; line = r.0; is_line = r.1; form = r.2 }

  nothing_here : (k : ℕ) → slice_get b.lines k ≡ None → slice_get (net_program.body_of c) k ≡ None
  nothing_here k e =
      let sets = code_sets S s.placed.at.procedure (suc s.placed.at.statement) 0 (flat_lines s.body) in
      let lines = bound.lines_in (slice_get P.bodies s.placed.at.procedure) in
      let z = zip_none sets lines k (ap (λ (ls : List Line). slice_get ls k) bound_lines ∙ e) in
      none_behind (λ (n : NetLine). n.form) (net_program.body_of c) k
      (ap (λ (ls : List net.Line). slice_get ls k) net_forms
      ∙ none_written (inside_procedure S s.placed.at.procedure) (labels (site_lines s)) 0 (code_of P S s.placed s.body) k z)

  -- what control does at both
  module _ (keeps : list_all keeps_blocks b.lines ≡ true) (k : ℕ) (l : SourceLine) (e : slice_get (body_of b.lines) k ≡ Some l) (n : NetLine)
      (f : slice_get (net_program.body_of c) k ≡ Some n) where
    keep : list_all keeps_blocks (bound.lines_in (slice_get P.bodies s.placed.at.procedure)) ≡ true
    keep = ap (list_all keeps_blocks) bound_lines ∙ keeps

    aims_here : AimsAreSame → n.aims ≡ l.aims
    aims_here same_aims =
        let sets = code_sets S s.placed.at.procedure (suc s.placed.at.statement) 0 (flat_lines s.body) in
        let lines = bound.lines_in (slice_get P.bodies s.placed.at.procedure) in
        let kept : keep_steps (code_of P S s.placed s.body) ≡ true =
        zip_all (λ (d : prologues.Code). keeps_step d.0 d.1) keeps_blocks
        (λ rules z h. keeps_steps_of (replaced_by rules) z.source.form z.bindings.exprs h) sets lines keep in
        same_item n.aims l.aims
        (sym (some_under (λ (z : NetLine). z.aims) (net_program.body_of c) k n f)
        ∙ ap (λ (zs : List Aims). slice_get zs k) (same_aims P S s.placed s.body head close c is few kept)
        ∙ ap (λ (ls : List Line). slice_get (map (λ (z : SourceLine). z.aims) (body_of ls)) k) bound_lines
        ∙ some_under (λ (z : SourceLine). z.aims) (body_of b.lines) k l e)

    tests_here : TestsAreSame → n.tests ≡ l.tests
    tests_here same_tests =
        let sets = code_sets S s.placed.at.procedure (suc s.placed.at.statement) 0 (flat_lines s.body) in
        let lines = bound.lines_in (slice_get P.bodies s.placed.at.procedure) in
        let kept : keep_tests (code_of P S s.placed s.body) ≡ true =
        zip_all (λ (d : prologues.Code). keeps_tests d.0 d.1) keeps_blocks
        (λ rules z h. keeps_tests_of (replaced_by rules) z.source.form z.bindings.exprs h) sets lines keep in
        same_item n.tests l.tests
        (sym (some_under (λ (z : NetLine). z.tests) (net_program.body_of c) k n f)
        ∙ ap (λ (zs : List Bool). slice_get zs k) (same_tests P S s.placed s.body head close c is few kept)
        ∙ ap (λ (ls : List Line). slice_get (map (λ (z : SourceLine). z.tests) (body_of ls)) k) bound_lines
        ∙ some_under (λ (z : SourceLine). z.tests) (body_of b.lines) k l e)

-- ---- lines that are written

bound_line : (lines : List Line) (k : ℕ) (l : SourceLine) → slice_get (body_of lines) k ≡ Some l → slice_get lines k ≡ Some l.form
bound_line lines k l e =
    ap (λ (ls : List Line). slice_get ls k) (sym (source_forms (steps (source_lines lines)) 1 lines))
    ∙ some_under (λ (z : SourceLine). z.form) (body_of lines) k l e

no_bound_line : (lines : List Line) (k : ℕ) → slice_get (body_of lines) k ≡ None → slice_get lines k ≡ None
no_bound_line lines k e =
    ap (λ (ls : List Line). slice_get ls k) (sym (source_forms (steps (source_lines lines)) 1 lines))
    ∙ none_under (λ (z : SourceLine). z.form) (body_of lines) k e

-- the line of a number in the procedure p
abbrev LineAt : Upgrade → Site → (written k : ℕ) → SourceLine → (p : ℕ) → Type 0
LineAt U s written k l p =
    HasBody U.program p s → line_at (machine_of (runnable_of U)) p (suc k) ≡ Some l
    → ((lines : List Line) → slice_get U.program.bodies p ≡ Some lines → list_all keeps_blocks lines ≡ true)
    → IsUnreplaced U p s k → WrittenLine U p s written (suc k) l

line_written : AimsAreSame → TestsAreSame → (U : Upgrade) (s : Site) (written k : ℕ) (l : SourceLine) (c : Code) (head : net.Head) (close : NetClose) → code_at U.written written ≡ Some c
    → c.procedure ≡ procedure_with U.program (site_scope U s) s.placed s.body head close → LineAt U s written k l s.placed.at.procedure
line_written same_aims same_tests U s written k l c head close there is b e keeps rules =
    let P = U.program in
    let S = site_scope U s in
    let p = s.placed.at.procedure in
    let at = sym (source_line U p k b.lines b.are_lines) ∙ e in
    let h = here P S s b head close c is k l.form (bound_line b.lines k l at) in
    let kept = keeps b.lines b.are_lines in
    let quiet =
    rules h.rules (ap (λ (sets : List RuleSet). slice_get sets k) (sets_inside S p p (first_statement s) 0 (site_lines s)) ∙ h.are_rules) in
    record {
      line = h.line;
      is_line = target_line U written k c there ∙ h.is_line;
      form = h.form ∙ unreplaced (inside_procedure S p) (labels (site_lines s)) h.rules h.replaced l.form quiet;
      aims = aims_here P S s b head close c is kept k l at h.line h.is_line same_aims;
      tests = tests_here P S s b head close c is kept k l at h.line h.is_line same_tests;
    }

pub lines_are_written : AimsAreSame → TestsAreSame → (U : Upgrade) → IsWritten U → LinesAreWritten U
lines_are_written same_aims same_tests U w p s x site W k l e keeps rules =
    subst (LineAt U s W.number k l) (site_number U.program.declarations p s site)
    (line_written same_aims same_tests U s W.number k l W.code W.head W.close W.is_code W.is_written) (w.bodies p s site) e keeps rules

-- ---- no others

abbrev NothingAt : Upgrade → Site → Code → (k p : ℕ) → Type 0
NothingAt U s c k p = HasBody U.program p s → line_at (machine_of (runnable_of U)) p (suc k) ≡ None → slice_get (net_program.body_of c) k ≡ None

nothing_written : (U : Upgrade) (s : Site) (k : ℕ) (c : Code) (head : net.Head) (close : NetClose)
    → c.procedure ≡ procedure_with U.program (site_scope U s) s.placed s.body head close → NothingAt U s c k s.placed.at.procedure
nothing_written U s k c head close is b e =
    nothing_here U.program (site_scope U s) s b head close c is k
    (no_bound_line b.lines k (sym (source_line U s.placed.at.procedure k b.lines b.are_lines) ∙ e))

pub no_further_lines : (U : Upgrade) → IsWritten U → NoFurtherLines U
no_further_lines U w p s x site there W zero e = no_line_before (slice_get (map net_program.body_of (codes_of U.written)) W.number)
no_further_lines U w p s x site there W (suc k) e =
    target_line U W.number k W.code W.is_code
    ∙ subst (NothingAt U s W.code k) (site_number U.program.declarations p s site)
    (nothing_written U s k W.code W.head W.close W.is_written) (w.bodies p s site) e
