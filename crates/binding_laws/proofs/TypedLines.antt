-- All lines of a bound project are well typed.
use Rattle.std.proofs.Common.{◌≡◌, ℕ, ℤ, zero, suc, ◌+◌, Bool, true, false, cond, List, [], ◌∷◌, ◌++◌, map, length, Option, Some, None, refl, sym, ap, subst, true≢false, not, ◌&&◌}
use Rattle.std.specs.Prelude.{◌||◌, slice_get}
use Rattle.std.specs.List.{flat_map, list_all}
use Rattle.up_base.proofs.Lists.{all_append, all_first, all_rest}
use Rattle.up_base.proofs.Tests.{and_true, not_true}
use Rattle.vb_tree.specs.BoundTree.{Ty}
use Rattle.vb_tree.specs.BoundTree as types
use Rattle.vb_tree.specs.Blocks.{is_code}
use Rattle.vb_tree.specs.declared.declared.ProcId.{ProcId}
use Rattle.vb_tree.specs.declared.expression.UnOp.TheVariants as u
use Rattle.vb_tree.specs.declared.token.Literal6.TheVariants as literal
use Rattle.vb_tree.specs.Tree.{CaseItem, Exp, Form, Project, Node, line, block, Nodes, no_nodes, next_node, Middles, no_middles, next_middle}
use Rattle.vb_tree.specs.Tree as source
use Rattle.bound_tree.specs.Tree.{Declarations, Expr, Line, Procedure, Program}
use Rattle.bound_facts.specs.Locks.{is_same_type}
use Rattle.bound_facts.specs.Node.{type_at}
use Rattle.bound_facts.specs.Parts.{resizes}
use Rattle.typing_rows.specs.declared.cases.CaseType.{CaseType}
use Rattle.typing_rows.specs.declared.conversions.Conversion.{Conversion}
use Rattle.typing_rows.specs.declared.conversions.Conversion.TheVariants.{Stands, To, Breaks}
use Rattle.typing_rows.specs.declared.conversions.Conversion.TheVariants as conversions
use Rattle.typing_rows.specs.Cases.{case_converts}
use Rattle.typing_rows.specs.Conversions.{assigned, condition, index, limit, printed, set_to}
use Rattle.expression_words.specs.Flaws as flaws
use Rattle.expression_words.specs.Flaws.{Typed, known}
use Rattle.expression_words.specs.Converting.{wanted}
use Rattle.expression_words.specs.Meanings.{Meaning, Scope}
use Rattle.bound_exprs.specs.Resolved.{meaning, resolved}
use Rattle.declarations.specs.ConstantExpressions.{currency_number, minus_of, or_resolved, plain_number, resolved_as}
use Rattle.binder.specs.declared.parts.Task.{Task}
use Rattle.binder.specs.declared.parts.Task.TheVariants as task
use Rattle.binder.specs.Parts.{Part, case_parts, lookup_of, part, parts, redim_parts}
use Rattle.binder.specs.Lines.{asked, flawed_where, set_value, settled, settled_at, settled_from, target_type, typed_as, typed_part, typed_parts, used, used_as}
use Rattle.binder.specs.Bodies.{Inside, bindings, bound_body, bound_if, bound_line, bound_middles, bound_node, bound_nodes, common_type, kept_inside, scope_at}
use Rattle.binder.specs.ImplicitLocals.{Home, Locals, homes, procedure_id, project_locals}
use Rattle.binder.specs.Programs.{all_bodies, all_declarations, bodies_from, body_with, bound_program, inside}
use Rattle.expression_words.specs.Meanings.{Kept, no_with}
use Rattle.typing_rows.specs.declared.cases.CaseType.TheVariants.{Open}
use Rattle.run_base.specs.Machines.{enters}
use Rattle.vb6_run.specs.Programs.{run6}
use Rattle.vb6_run.specs.Runnables.{Runnable, declarations_of}
use Rattle.vb6_run.specs.Store.{Memory, SourceGiven}
use Rattle.run_matches.specs.Covered.{IsCovered}
use Rattle.typing_laws.specs.Calls.{AreLoud, HaveResults, IsReady, AreFlat}
use Rattle.typing_laws.specs.Frames.{AreGiven, IsSound, anywhere, ground}
use Rattle.typing_laws.specs.Leaving.{started}
use Rattle.typing_laws.specs.Results.{IsRunResult}
use Rattle.typing_laws.proofs.Runs.{run_result}
use Rattle.typing_laws.specs.Typed.{are_typed_lines, assigns_typed, bounds_typed, exprs_typed, fits_type, names_arrays, tests_typed, is_typed, is_typed_bound, is_typed_resize, is_typed_line, is_typed_procedure, is_unknown, taken, takes}
use Rattle.bound_tree.specs.declared.marks.Marks.{Marks}
use Rattle.declarations.specs.Finals.{IsDeclared}
use Rattle.binding_laws.specs.Typing.{HasTypes}
use Rattle.binding_laws.proofs.DeclaredResults.{declared_have_results}
use Rattle.binding_laws.proofs.AssignedTypes.{IsTaken, assigned_taken}
use Rattle.binding_laws.proofs.TypedParts.{AllHave, over_known, wanted_typed}
use Rattle.binding_laws.proofs.FittingTypes.{IsFit, over_wanted_fit}
use Rattle.binding_laws.proofs.TypedBounds.{no_more, resizes_typed, settled_each}
use Rattle.binding_laws.proofs.TypedTargets.{counter_typed, let_typed, set_typed, statement_typed}
use Rattle.binding_laws.proofs.TypedWords.{HasMeaning, meaning_typed, resolved_typed, valued_typed}

-- ---- the parts of a line

-- what names an array
abbrev names_array : Task → Bool
names_array task.Array = true
names_array _ = false

abbrev is_plain_part : Part → Bool
is_plain_part p = not (names_array p.task)

cases_plain : (items : List CaseItem) → list_all is_plain_part (flat_map case_parts items) ≡ true
cases_plain [] = refl
cases_plain (source.case_value e ∷ items) = cases_plain items
cases_plain (source.case_range e f ∷ items) = cases_plain items
cases_plain (source.case_is op e ∷ items) = cases_plain items

prints_plain : (items : List Exp) → list_all is_plain_part (map (part task.Printed) items) ≡ true
prints_plain [] = refl
prints_plain (e ∷ items) = prints_plain items

parts_plain : (f : Form) → names_arrays f ≡ false → list_all is_plain_part (parts f) ≡ true
parts_plain (source.case_line items) h =
    all_append is_plain_part (flat_map case_parts items) [] (cases_plain items) refl
parts_plain (source.debug_print items ended) h = prints_plain items
parts_plain (source.for_head counter first last None) h = refl
parts_plain (source.for_head counter first last (Some step)) h = refl
parts_plain (source.redim preserve items) h = absurd (true≢false h)
parts_plain (source.erase target) h = absurd (true≢false h)
parts_plain (source.for_each name suffix e) h = absurd (true≢false h)
parts_plain _ h = refl

-- ---- the expressions of a line

-- numbers with decimals
module _ (D : Declarations) where
  abbrev IsTypedSome : Option Expr → Type 0
  IsTypedSome None = Unit {0}
  IsTypedSome (Some x) = is_typed D x ≡ true

  minus_typed : (o : Option ℤ) → IsTypedSome (minus_of o)
  minus_typed None = tt
  minus_typed (Some z) = refl

  currency_typed : (e : Exp) → IsTypedSome (currency_number e)
  currency_typed (source.lit (literal.Plain z)) = refl
  currency_typed (source.paren e) = currency_typed e
  currency_typed (source.unary u.Neg e) = minus_typed (plain_number e)
  currency_typed _ = tt

module _ (S : Scope) where
  abbrev D : Declarations
  D = S.declarations

  asked_typed : (asks : Ty → Conversion) (t : Typed) → HasTypes D t → HasTypes D (asked S asks t)
  asked_typed asks t h = over_known D (wanted D asks) t h (wanted_typed D asks)

  or_typed : (e : Exp) (o : Option Expr) → IsTypedSome D o → HasTypes D (or_resolved S e o)
  or_typed e None h = resolved_typed S e
  or_typed e (Some x) h = h

  as_typed : (e : Exp) (target : Ty) → HasTypes D (resolved_as S e target)
  as_typed e types.currency = or_typed e (currency_number e) (currency_typed D e)
  as_typed e _ = resolved_typed S e

  set_value_typed : (target : Ty) (t : Typed) → HasTypes D t → HasTypes D (set_value S target t)
  set_value_typed target (known e) h = wanted_typed D (λ (s : Ty). set_to s target) e h
  set_value_typed target (flaws.unknown f) h = by (set_to types.unknown target)
    where
      by : (c : Conversion) → HasTypes D (flawed_where c (flaws.unknown f))
      by Stands = tt
      by (To u) = tt
      by conversions.ByDefault = tt
      by (Breaks rule) = tt

  used_typed : (t : Task) → names_array t ≡ false → (m : Meaning) → HasMeaning D m → HasTypes D (used_as D t m)
  used_typed task.LetTarget n m h = let_typed D m h
  used_typed task.SetTarget n m h = set_typed D m h
  used_typed task.Counter n m h = counter_typed D m h
  used_typed task.Callee n m h = statement_typed D m h
  used_typed task.Array n m h = absurd (true≢false n)
  used_typed _ n m h = valued_typed D m h

  use_typed : (t : Task) (e : Exp) → names_array t ≡ false → HasTypes D (used S t e)
  use_typed t e h = used_typed t h (meaning S (lookup_of t) e) (meaning_typed S (lookup_of t) e)

  task_typed : (cases : CaseType) (target : Ty) (t : Task) (e : Exp) → names_array t ≡ false → HasTypes D (typed_as S cases target t e)
  task_typed cases target task.LetValue e h = asked_typed (λ (s : Ty). assigned s target) (resolved_as S e target) (as_typed e target)
  task_typed cases target task.SetValue e h = set_value_typed target (resolved S e) (resolved_typed S e)
  task_typed cases target task.Limit e h = asked_typed (λ (s : Ty). limit s target) (resolved S e) (resolved_typed S e)
  task_typed cases target task.Condition e h = asked_typed condition (resolved S e) (resolved_typed S e)
  task_typed cases target task.Printed e h = asked_typed printed (resolved S e) (resolved_typed S e)
  task_typed cases target task.Bound e h = asked_typed index (resolved S e) (resolved_typed S e)
  task_typed cases target task.Choice e h = asked_typed (case_converts cases) (resolved S e) (resolved_typed S e)
  task_typed cases target task.LetTarget e h = use_typed task.LetTarget e h
  task_typed cases target task.SetTarget e h = use_typed task.SetTarget e h
  task_typed cases target task.Counter e h = use_typed task.Counter e h
  task_typed cases target task.Array e h = absurd (true≢false h)
  task_typed cases target task.Callee e h = use_typed task.Callee e h
  task_typed cases target task.Whole e h = use_typed task.Whole e h

  rest_typed : (cases : CaseType) (target : Ty) (ps : List Part) → list_all is_plain_part ps ≡ true → AllHave D (map (typed_part S cases target) ps)
  rest_typed cases target [] h = tt
  rest_typed cases target (p ∷ ps) h = (
    task_typed cases target p.task p.exp (not_true (names_array p.task) (all_first is_plain_part p ps h)),
    rest_typed cases target ps (all_rest is_plain_part p ps h),
  )

  parts_typed : (cases : CaseType) (ps : List Part) → list_all is_plain_part ps ≡ true → AllHave D (typed_parts S cases ps)
  parts_typed cases [] h = tt
  parts_typed cases (p ∷ ps) h = (
    task_typed cases types.unknown p.task p.exp (not_true (names_array p.task) (all_first is_plain_part p ps h)),
    rest_typed cases (target_type (typed_part S cases types.unknown p)) ps (all_rest is_plain_part p ps h),
  )

  settled_typed : (p : Part) (t : Typed) → HasTypes D t → is_typed D (settled S p t) ≡ true
  settled_typed p (known e) h = h
  settled_typed p (flaws.unknown f) h = refl

  settled_at_typed : (o : Option Part) (t : Typed) → HasTypes D t → list_all (is_typed D) (settled_at S o t) ≡ true
  settled_at_typed None t h = refl
  settled_at_typed (Some p) t h = and_true (is_typed D (settled S p t)) true (settled_typed p t h) refl

  all_settled : (ps : List Part) (i : ℕ) (ts : List Typed) → AllHave D ts → list_all (is_typed D) (settled_from S ps i ts) ≡ true
  all_settled ps i [] h = refl
  all_settled ps i (t ∷ ts) h =
      all_append (is_typed D) (settled_at S (slice_get ps i) t) (settled_from S ps (i + 1) ts) (settled_at_typed (slice_get ps i) t h.0) (all_settled ps (i + 1) ts h.1)

  -- ---- assignments

  unknown_takes : (a b : Bool) → a || (b || true) ≡ true
  unknown_takes true b = refl
  unknown_takes false true = refl
  unknown_takes false false = refl

  target_takes : (a b : Bool) → a || (true || b) ≡ true
  target_takes true b = refl
  target_takes false b = refl

  value_taken : (p q : Part) (to v : Typed) → IsTaken (target_type to) v → takes (type_at (settled S p to)) (type_at (settled S q v)) ≡ true
  value_taken p q (known x) (known e) h = h
  value_taken p q (known x) (flaws.unknown f) h = unknown_takes (is_same_type (taken (type_at x)) types.unknown) (is_unknown (type_at x))
  value_taken p q (flaws.unknown f) v h = target_takes (is_same_type types.unknown (type_at (settled S q v))) (is_unknown (type_at (settled S q v)))

  assigned_typed : (cases : CaseType) (f : Form) → assigns_typed f (settled_from S (parts f) 0 (typed_parts S cases (parts f))) ≡ true
  assigned_typed cases (source.assign target e) =
      let p : Part = record { task = task.LetTarget; exp = target } in
      let q : Part = record { task = task.LetValue; exp = e } in
      value_taken p q (used S task.LetTarget target) (typed_as S cases (target_type (used S task.LetTarget target)) task.LetValue e)
      (assigned_taken (target_type (used S task.LetTarget target)) D (resolved_as S e (target_type (used S task.LetTarget target))))
  assigned_typed cases _ = refl

  -- ---- conditions

  test_typed : (p : Part) (t : Typed) → IsFit types.boolean t → fits_type types.boolean (type_at (settled S p t)) ≡ true
  test_typed p (known e) h = h
  test_typed p (flaws.unknown f) h = refl

  one_tested : (cases : CaseType) (e : Exp)
      → fits_type types.boolean (type_at (settled S (part task.Condition e) (typed_as S cases types.unknown task.Condition e))) ≡ true
  one_tested cases e =
      test_typed (part task.Condition e) (typed_as S cases types.unknown task.Condition e) (over_wanted_fit types.boolean D (resolved S e))

  tested_typed : (cases : CaseType) (f : Form) → tests_typed f (settled_from S (parts f) 0 (typed_parts S cases (parts f))) ≡ true
  tested_typed cases (source.if_head e) = one_tested cases e
  tested_typed cases (source.line_if e) = one_tested cases e
  tested_typed cases (source.else_if e) = one_tested cases e
  tested_typed cases (source.do_while e) = one_tested cases e
  tested_typed cases (source.do_until e) = one_tested cases e
  tested_typed cases (source.loop_while e) = one_tested cases e
  tested_typed cases (source.loop_until e) = one_tested cases e
  tested_typed cases (source.while_head e) = one_tested cases e
  tested_typed cases _ = refl

  -- ---- bounds

  bound_typed : (cases : CaseType) (target : Ty) (e : Exp)
      → is_typed_bound D (settled S (part task.Bound e) (typed_part S cases target (part task.Bound e))) ≡ true
  bound_typed cases target e = by (typed_as S cases target task.Bound e) (over_wanted_fit types.long D (resolved S e)) (task_typed cases target task.Bound e refl)
    where
      by : (t : Typed) → IsFit types.long t → HasTypes D t → is_typed_bound D (settled S (part task.Bound e) t) ≡ true
      by (known x) fit h = and_true (fits_type types.long (type_at x)) (is_typed D x) fit h
      by (flaws.unknown f) fit h = refl

  bounds_have_types : (cases : CaseType) (f : Form) → bounds_typed D f (settled_from S (parts f) 0 (typed_parts S cases (parts f))) ≡ true
  bounds_have_types cases (source.redim preserve []) = refl
  bounds_have_types cases (source.redim preserve (i ∷ items)) =
      let ps : List Part = flat_map redim_parts (i ∷ items) in
      let target : Ty = target_type (typed_part S cases types.unknown (part task.Array i.array)) in
      subst (λ es. list_all (is_typed_resize D) (resizes (i ∷ items) es) ≡ true)
      (sym (settled_each S ps ps 0 (typed_part S cases target) (λ j. ap (λ n. slice_get ps n) (no_more j))))
      (resizes_typed D (λ p. settled S p (typed_part S cases target p)) (bound_typed cases target) (i ∷ items))
  bounds_have_types cases _ = refl

  exprs_have_types : (cases : CaseType) (f : Form) → exprs_typed D f (settled_from S (parts f) 0 (typed_parts S cases (parts f))) ≡ true
  exprs_have_types cases f = by (names_arrays f) refl
    where
      by : (b : Bool) → names_arrays f ≡ b → b || list_all (is_typed D) (settled_from S (parts f) 0 (typed_parts S cases (parts f))) ≡ true
      by true e = refl
      by false e = all_settled (parts f) 0 (typed_parts S cases (parts f)) (parts_typed cases (parts f) (parts_plain f e))

-- ---- bodies

module _ (I : Inside) where
  abbrev all_typed : List Line → Type 0
  all_typed ls = list_all (is_typed_line I.declarations) ls ≡ true

  if_typed : (k : Kept) (cases : CaseType) (n : ℕ) (l : source.Line) → all_typed (bound_if I k cases n l)
  if_typed k cases n l = by (is_code l.form)
    where
      typed_line : is_typed_line I.declarations (bound_line I k cases n l) ≡ true
      typed_line =
          let es = (bindings I cases (scope_at I k n) l.form).exprs in
          let bounds = bounds_typed I.declarations l.form es in
          let exprs = exprs_typed I.declarations l.form es in
          and_true (assigns_typed l.form es) (tests_typed l.form es && (bounds && exprs)) (assigned_typed (scope_at I k n) cases l.form)
          (and_true (tests_typed l.form es) (bounds && exprs) (tested_typed (scope_at I k n) cases l.form)
          (and_true bounds exprs (bounds_have_types (scope_at I k n) cases l.form) (exprs_have_types (scope_at I k n) cases l.form)))

      by : (b : Bool) → all_typed (cond b (bound_line I k cases n l ∷ []) [])
      by true = and_true (is_typed_line I.declarations (bound_line I k cases n l)) true typed_line refl
      by false = refl

  mutual
    nodes_typed : (k : Kept) (n : ℕ) (ns : Nodes) → all_typed (bound_nodes I k n ns)
    nodes_typed k n no_nodes = refl
    nodes_typed k n (next_node a rest) =
        let ls = bound_node I k n a in
        all_append (is_typed_line I.declarations) ls (bound_nodes I k (n + length ls) rest) (node_typed k n a) (nodes_typed k (n + length ls) rest)

    node_typed : (k : Kept) (n : ℕ) (a : Node) → all_typed (bound_node I k n a)
    node_typed k n (line l) = if_typed k Open n l
    node_typed k n (block head body ms close) =
        let cases = common_type I k n head.form body ms in
        let inner = kept_inside I k n head.form in
        let first = bound_if I k cases n head in
        let second = bound_nodes I inner (n + length first) body in
        let third = bound_middles I inner cases (n + length first + length second) ms in
        let ls = first ++ (second ++ third) in
        all_append (is_typed_line I.declarations) ls (bound_if I k Open (n + length ls) close)
        (all_append (is_typed_line I.declarations) first (second ++ third) (if_typed k cases n head)
        (all_append (is_typed_line I.declarations) second third (nodes_typed inner (n + length first) body)
        (middles_typed inner cases (n + length first + length second) ms)))
        (if_typed k Open (n + length ls) close)

    middles_typed : (k : Kept) (cases : CaseType) (n : ℕ) (ms : Middles) → all_typed (bound_middles I k cases n ms)
    middles_typed k cases n no_middles = refl
    middles_typed k cases n (next_middle l body more) =
        let first = bound_if I k cases n l in
        let second = bound_nodes I k (n + length first) body in
        let ls = first ++ second in
        all_append (is_typed_line I.declarations) ls (bound_middles I k cases (n + length ls) more)
        (all_append (is_typed_line I.declarations) first second (if_typed k cases n l) (nodes_typed k (n + length first) body))
        (middles_typed k cases (n + length ls) more)

-- ---- projects

module _ (written all : Declarations) where
  abbrev typed_body : List Line → Bool
  typed_body ls = list_all (is_typed_line all) ls

  body_typed : (p : ProcId) (h : Home) (o : Option Locals) → list_all typed_body (body_with written all p h o) ≡ true
  body_typed p h None = refl
  body_typed p h (Some l) = and_true (typed_body (bound_body (inside written all p h l) h.body)) true (nodes_typed (inside written all p h l) no_with 0 h.body) refl

  bodies_typed : (ls : List Locals) (p : ℕ) (hs : List Home) → list_all typed_body (bodies_from written all ls p hs) ≡ true
  bodies_typed ls p [] = refl
  bodies_typed ls p (h ∷ hs) =
      all_append typed_body (body_with written all (procedure_id p) h (slice_get ls p)) (bodies_from written all ls (p + 1) hs)
      (body_typed (procedure_id p) h (slice_get ls p)) (bodies_typed ls (p + 1) hs)

  body_at : (bodies : List (List Line)) (p : ℕ) → list_all typed_body bodies ≡ true → are_typed_lines all (slice_get bodies p) ≡ true
  body_at [] p h = refl
  body_at (x ∷ bodies) zero h = all_first typed_body x bodies h
  body_at (x ∷ bodies) (suc p) h = body_at bodies p (all_rest typed_body x bodies h)

pub lines_typed : (D : Declarations) (p : ℕ) → is_typed_procedure (bound_program D) p ≡ true
lines_typed D p =
    body_at D (all_declarations D) (all_bodies D) p (bodies_typed D (all_declarations D) (project_locals D) 0 (homes D.project))

-- what can be run of a bound program
pub ready_bound : (D : Declarations) (R : Runnable) (p : ℕ) → R.program ≡ bound_program D → IsCovered R.program p → AreFlat R p → HaveResults R p → AreLoud R p
    → IsReady R p
ready_bound D R p is covers flat results loud = record {
  covered = covers;
  flat = flat;
  typed = λ q c. subst (λ (P : Program). is_typed_procedure P q ≡ true) (sym is) (lines_typed D q);
  results = results;
  loud = loud;
}

pub bound_runs_leave : (P : Project) (D : Declarations) (M : Marks) (R : Runnable) (p n : ℕ) (x : Procedure) (me : Option ℕ) (args : List SourceGiven)
    (inputs : List (List ℕ)) (w : Memory) → IsDeclared P D M → R.program ≡ bound_program D → IsCovered R.program p → AreFlat R p → AreLoud R p
    → slice_get (declarations_of R).procs p ≡ Some x → IsSound (ground (declarations_of R) anywhere) w
    → AreGiven (ground (declarations_of R) anywhere) w x.params args
    → IsRunResult R (suc n) x args (enters p me [] args) (started inputs n w) (run6 R p me args inputs n w)
bound_runs_leave P D M R p n x me args inputs w declared is covers flat loud procedure sound given =
    run_result R p n x me args inputs w (ready_bound D R p is covers flat (declared_have_results P D M R p declared is) loud) procedure sound given
