-- A covered line leaves the variables of its frame as they are: facts of the source alone.
use Rattle.std.proofs.Common.{◌≡◌, refl, sym, ℕ, zero, suc, Bool, true, false, cond, true≢false, List, [], ◌∷◌, Option, Some, None}
use Rattle.vb_tree.specs.declared.form_parts.ExitKind.{ExitKind}
use Rattle.vb_tree.specs.declared.form_parts.ExitKind.TheVariants as leaving
use Rattle.vb_tree.specs.declared.value.Value6.{Value6}
use Rattle.vb_tree.specs.declared.value.Value6.TheVariants as v
use Rattle.vb_tree.specs.Tree.{CaseItem, Form}
use Rattle.vb_tree.specs.Tree as source
use Rattle.bound_tree.specs.Targets.{exit_to}
use Rattle.bound_tree.specs.Tree.{Expr}
use Rattle.run_base.specs.Frames.{Handler, none, next_line, at_line, to_line, resumed_at, Kept, keeps_nothing, keeps_limit, keeps_value, keeps_address}
use Rattle.run_base.specs.Machines.{behind_error, caught, go, handled, if_active, line_at, resume_at, stepped}
use Rattle.run_base.specs.Outcomes.{Output, Outcome, gives, raises, spent, outside, then, answered, some_of}
use Rattle.vb6_run.specs.Expressions.{Context, address_of, scalar_of, scalar_value, value_of, parts_of, type_shape, declared}
use Rattle.vb6_run.specs.Forms.{SourceLine, form_does, idle_machine}
use Rattle.vb6_run.specs.Lines.{branch, case_of, chosen, condition, counted, exit_does, for_does, for_from, goes_if, goes_on, handles_by, has_passed, items_text, keeping_limit, keeps_at, let_to, line_of_label, next_of, print, redim_does, set_to, some_fits, step_of, sum_of, when_done, with_one, with_address, with_does}
use Rattle.bound_facts.specs.Parts.{resizes}
use Rattle.vb6_run.specs.Arrays.{erase}
use Rattle.vb6_run.specs.Programs.{line_does, machine_of}
use Rattle.vb6_run.specs.Runnables.{Runnable}
use Rattle.vb6_run.specs.Store.{Address, Memory, SourceFrame, read, set_err, write, root, item, constant, make_with}
use Rattle.vb6_run.specs.Values.{Value}
use Rattle.agreeing_laws.specs.Promises.{Yields}
use Rattle.agreeing_laws.proofs.Outputs.{yields_then}
use Rattle.run_matches.specs.CoveredExprs.{Uses}
use Rattle.run_matches.specs.CoveredLines.{covers_condition, covers_form, covers_call}
use Rattle.run_matches.specs.Runs.{line_result}
use Rattle.vb_tree.specs.BoundTree.{Ty, user}
use Rattle.bound_facts.specs.Node.{type_at}

-- a frame with the variables of another
abbrev pub HasVars : SourceFrame → SourceFrame → Memory → Type 0
HasVars f g s = g.vars ≡ f.vars

leads_keep : (C : Context) (n : Option ℕ) (w : Memory) → Yields (HasVars C.frame) (goes_if C n w)
leads_keep C None w = tt
leads_keep C (Some n) w = refl

branch_keeps : (C : Context) (m n : Option ℕ) (x : Value6) (w : Memory) → Yields (HasVars C.frame) (branch C m n x w)
branch_keeps C m n (v.Boolean true) w = leads_keep C m w
branch_keeps C m n (v.Boolean false) w = leads_keep C n w
branch_keeps C m n _ w = tt

condition_keeps : (C : Context) (uses : Uses) (m n : Option ℕ) (es : List Expr) (w : Memory) → covers_condition uses es ≡ true
    → Yields (HasVars C.frame) (condition C m n es w)
condition_keeps C uses m n [] w h = absurd (true≢false (sym h))
condition_keeps C uses m n (e ∷ []) w h = yields_then (HasVars C.frame) (scalar_value C e w) (branch C m n) (λ x w. branch_keeps C m n x w)
condition_keeps C uses m n (e ∷ d ∷ es) w h = absurd (true≢false (sym h))

exit_keeps : (C : Context) (kind : ExitKind) (w : Memory) → Yields (HasVars C.frame) (exit_does C kind w)
exit_keeps C leaving.Sub w = leads_keep C (exit_to C.aims leaving.Sub) (set_err 0 w)
exit_keeps C leaving.Function w = leads_keep C (exit_to C.aims leaving.Function) (set_err 0 w)
exit_keeps C leaving.Property w = leads_keep C (exit_to C.aims leaving.Property) (set_err 0 w)
exit_keeps C leaving.For w = leads_keep C (exit_to C.aims leaving.For) w
exit_keeps C leaving.Do w = leads_keep C (exit_to C.aims leaving.Do) w

chosen_keeps : (C : Context) (t : Bool) (w : Memory) → Yields (HasVars C.frame) (chosen C t w)
chosen_keeps C true w = refl
chosen_keeps C false w = leads_keep C C.aims.otherwise w

case_keeps : (C : Context) (items : List CaseItem) (es : List Expr) (k : Kept Value Address) (w : Memory) → Yields (HasVars C.frame) (case_of C items es k w)
case_keeps C items es keeps_nothing w = tt
case_keeps C items es (keeps_limit a y s) w = tt
case_keeps C items es (keeps_value x) w =
    yields_then (HasVars C.frame) (then (scalar_of x w) (λ x w. some_fits C x items es w)) (chosen C) (λ t w. chosen_keeps C t w)
case_keeps C items es (keeps_address a) w = tt

counted_keeps : (C : Context) (inside behind : Option ℕ) (x y s : Value) (w : Memory) → Yields (HasVars C.frame) (counted C inside behind x y s w)
counted_keeps C inside behind x y s w =
    yields_then (HasVars C.frame) (scalar_of x w)
    (λ x w. then (scalar_of y w) (λ y w. then (scalar_of s w) (λ s w. then (answered (has_passed s x y) w) (branch C behind inside))))
    (λ x w. yields_then (HasVars C.frame) (scalar_of y w) (λ y w. then (scalar_of s w) (λ s w. then (answered (has_passed s x y) w) (branch C behind inside)))
    (λ y w. yields_then (HasVars C.frame) (scalar_of s w) (λ s w. then (answered (has_passed s x y) w) (branch C behind inside))
    (λ s w. yields_then (HasVars C.frame) (answered (has_passed s x y) w) (branch C behind inside) (λ t w. branch_keeps C behind inside t w))))

for_keeps : (C : Context) (e start limit : Expr) (steps : List Expr) (w : Memory) → Yields (HasVars C.frame) (for_does C (e ∷ start ∷ limit ∷ steps) w)
for_keeps C e start limit steps w =
    yields_then (HasVars C.frame) (value_of C start w)
    (λ x w. then (value_of C limit w) (λ y w. then (step_of C e steps w) (λ s w. for_from C e x y s w)))
    (λ x w. yields_then (HasVars C.frame) (value_of C limit w) (λ y w. then (step_of C e steps w) (λ s w. for_from C e x y s w))
    (λ y w. yields_then (HasVars C.frame) (step_of C e steps w) (λ s w. for_from C e x y s w)
    (λ s w. yields_then (HasVars C.frame) (address_of C e w)
    (λ a w. then (write C.frame.env x a w) (λ u w. counted (keeping_limit C a y s) (Some C.aims.after) C.aims.otherwise x y s w))
    (λ a w. yields_then (HasVars C.frame) (write C.frame.env x a w)
    (λ u w. counted (keeping_limit C a y s) (Some C.aims.after) C.aims.otherwise x y s w)
    (λ u w. counted_keeps (keeping_limit C a y s) (Some C.aims.after) C.aims.otherwise x y s w)))))

next_keeps : (C : Context) (k : Kept Value Address) (w : Memory) → Yields (HasVars C.frame) (next_of C k w)
next_keeps C keeps_nothing w = tt
next_keeps C (keeps_limit a y s) w =
    yields_then (HasVars C.frame) (read a w)
    (λ x w. then (sum_of x s w) (λ x w. then (write C.frame.env x a w) (λ u w. counted C C.aims.back (Some C.aims.after) x y s w)))
    (λ x w. yields_then (HasVars C.frame) (sum_of x s w)
    (λ x w. then (write C.frame.env x a w) (λ u w. counted C C.aims.back (Some C.aims.after) x y s w))
    (λ x w. yields_then (HasVars C.frame) (write C.frame.env x a w) (λ u w. counted C C.aims.back (Some C.aims.after) x y s w)
    (λ u w. counted_keeps C C.aims.back (Some C.aims.after) x y s w)))
next_keeps C (keeps_value x) w = tt
next_keeps C (keeps_address a) w = tt

some_keeps : (C : Context) (o : Option ℕ) (go : ℕ → Memory → Outcome Memory SourceFrame) (w : Memory)
    → ((n : ℕ) → Yields (HasVars C.frame) (go n w)) → Yields (HasVars C.frame) (some_of o go w)
some_keeps C None go w h = tt
some_keeps C (Some n) go w h = h n

active_keeps : (C : Context) (active : Bool) (go : Memory → Outcome Memory SourceFrame) (w : Memory) → Yields (HasVars C.frame) (go (set_err 0 w))
    → Yields (HasVars C.frame) (if_active (idle_machine C.runnable) C.frame active go w)
active_keeps C true go w h = h
active_keeps C false go w h = tt

at_error_keeps : (C : Context) (place : SourceLine → ℕ) (w : Memory)
    → Yields (HasVars C.frame)
    (if_active (idle_machine C.runnable) C.frame C.frame.active
    (some_of (line_at (idle_machine C.runnable) C.procedure C.frame.resume) (behind_error place C.frame)) w)
at_error_keeps C place w =
    active_keeps C C.frame.active (some_of (line_at (idle_machine C.runnable) C.procedure C.frame.resume) (behind_error place C.frame)) w
    (line_keeps_by (line_at (idle_machine C.runnable) C.procedure C.frame.resume) (set_err 0 w))
  where
    by : (b : Bool) (n : ℕ) (w : Memory) → Yields (HasVars C.frame) (cond b (outside []) (gives [] (resumed_at n C.frame) w))
    by true n w = tt
    by false n w = refl

    line_keeps_by : (o : Option SourceLine) (w : Memory) → Yields (HasVars C.frame) (some_of o (behind_error place C.frame) w)
    line_keeps_by None w = tt
    line_keeps_by (Some m) w = by m.tests (place m) w

call_keeps : (C : Context) (uses : Uses) (es : List Expr) (w : Memory) → covers_call uses es ≡ true
    → Yields (HasVars C.frame) (with_one es (λ e w. when_done C (parts_of C e w)) w)
call_keeps C uses [] w h = absurd (true≢false (sym h))
call_keeps C uses (e ∷ []) w h = yields_then (HasVars C.frame) (parts_of C e w) (λ x w. goes_on C w) (λ x w. refl)
call_keeps C uses (e ∷ d ∷ es) w h = absurd (true≢false (sym h))

address_keeps : (C : Context) (ty : Ty) (a : Address) (w : Memory) → Yields (HasVars C.frame) (with_address C ty a w)
address_keeps C ty (root s q) w = refl
address_keeps C ty (item e q j path) w = refl
address_keeps C ty (constant x) w =
    yields_then (HasVars C.frame) (make_with (type_shape (declared C) ty) x w) (λ a w. keeps_at C (keeps_address a) w) (λ a w. refl)

with_keeps : (C : Context) (e : Expr) (ty : Ty) (w : Memory) → Yields (HasVars C.frame) (with_does C e ty w)
with_keeps C e (user t) w =
    yields_then (HasVars C.frame) (address_of C e w) (with_address C (user t)) (λ a w. address_keeps C (user t) a w)
with_keeps C e _ w = yields_then (HasVars C.frame) (value_of C e w) (λ x w. keeps_at C (keeps_value x) w) (λ x w. refl)

form_keeps : (C : Context) (uses : Uses) (f : Form) (es : List Expr) (w : Memory) → covers_form uses f es ≡ true → Yields (HasVars C.frame) (form_does C f es w)
form_keeps C uses (source.assign target value) [] w h = absurd (true≢false (sym h))
form_keeps C uses (source.assign target value) (to ∷ []) w h = absurd (true≢false (sym h))
form_keeps C uses (source.assign target value) (to ∷ e ∷ []) w h =
    yields_then (HasVars C.frame) (then (value_of C e w) (let_to C to)) (λ x w. goes_on C w) (λ x w. refl)
form_keeps C uses (source.assign target value) (to ∷ e ∷ d ∷ es) w h = absurd (true≢false (sym h))
form_keeps C uses (source.set target value) [] w h = absurd (true≢false (sym h))
form_keeps C uses (source.set target value) (to ∷ []) w h = absurd (true≢false (sym h))
form_keeps C uses (source.set target value) (to ∷ e ∷ []) w h =
    yields_then (HasVars C.frame) (then (value_of C e w) (set_to C to)) (λ x w. goes_on C w) (λ x w. refl)
form_keeps C uses (source.set target value) (to ∷ e ∷ d ∷ es) w h = absurd (true≢false (sym h))
form_keeps C uses (source.call callee) es w h = call_keeps C uses es w h
form_keeps C uses (source.invoke callee args) es w h = call_keeps C uses es w h
form_keeps C uses (source.debug_print items ended) es w h =
    yields_then (HasVars C.frame) (then (items_text C es w) (print ended)) (λ x w. goes_on C w) (λ x w. refl)
form_keeps C uses (source.if_head e) es w h = condition_keeps C uses (Some C.aims.after) C.aims.otherwise es w h
form_keeps C uses (source.line_if e) es w h = condition_keeps C uses (Some C.aims.after) C.aims.otherwise es w h
form_keeps C uses (source.else_if e) es w h = condition_keeps C uses (Some C.aims.after) C.aims.otherwise es w h
form_keeps C uses source.else_line es w h = refl
form_keeps C uses source.end_if es w h = refl
form_keeps C uses (source.select e) [] w h = absurd (true≢false (sym h))
form_keeps C uses (source.select e) (x ∷ []) w h =
    yields_then (HasVars C.frame) (value_of C x w) (λ x w. keeps_at C (keeps_value x) w) (λ x w. refl)
form_keeps C uses (source.select e) (x ∷ y ∷ es) w h = absurd (true≢false (sym h))
form_keeps C uses (source.case_line items) es w h =
    some_keeps C C.aims.own (λ n w. case_of C items es (C.frame.kept n) w) w (λ n. case_keeps C items es (C.frame.kept n) w)
form_keeps C uses source.case_else es w h = refl
form_keeps C uses source.end_select es w h = refl
form_keeps C uses (source.for_head counter start limit step) [] w h = absurd (true≢false (sym h))
form_keeps C uses (source.for_head counter start limit step) (e ∷ []) w h = absurd (true≢false (sym h))
form_keeps C uses (source.for_head counter start limit step) (e ∷ x ∷ []) w h = absurd (true≢false (sym h))
form_keeps C uses (source.for_head counter start limit step) (e ∷ x ∷ y ∷ es) w h = for_keeps C e x y es w
form_keeps C uses (source.next name) es w h = some_keeps C C.aims.own (λ n w. next_of C (C.frame.kept n) w) w (λ n. next_keeps C (C.frame.kept n) w)
form_keeps C uses source.do_head es w h = refl
form_keeps C uses (source.do_while e) es w h = condition_keeps C uses (Some C.aims.after) C.aims.otherwise es w h
form_keeps C uses (source.do_until e) es w h = condition_keeps C uses C.aims.otherwise (Some C.aims.after) es w h
form_keeps C uses source.loop es w h = leads_keep C C.aims.back w
form_keeps C uses (source.loop_while e) es w h = condition_keeps C uses C.aims.back (Some C.aims.after) es w h
form_keeps C uses (source.loop_until e) es w h = condition_keeps C uses (Some C.aims.after) C.aims.back es w h
form_keeps C uses (source.while_head e) es w h = condition_keeps C uses (Some C.aims.after) C.aims.otherwise es w h
form_keeps C uses source.wend es w h = leads_keep C C.aims.back w
form_keeps C uses (source.with_head e) [] w h = absurd (true≢false (sym h))
form_keeps C uses (source.with_head e) (x ∷ []) w h = with_keeps C x (type_at x) w
form_keeps C uses (source.with_head e) (x ∷ y ∷ es) w h = absurd (true≢false (sym h))
form_keeps C uses source.end_with es w h = refl
form_keeps C uses (source.goto a) es w h = leads_keep C (line_of_label C a) w
form_keeps C uses (source.label a) es w h = refl
form_keeps C uses (source.on_error_goto a) es w h = some_keeps C (line_of_label C a) (λ n w. handles_by C (at_line n) w) w (λ n. refl)
form_keeps C uses source.on_error_goto_zero es w h = refl
form_keeps C uses source.on_error_resume_next es w h = refl
form_keeps C uses source.resume es w h = at_error_keeps C (λ m. C.frame.resume) w
form_keeps C uses source.resume_next es w h = at_error_keeps C (λ m. m.aims.after) w
form_keeps C uses (source.resume_at a) es w h =
    some_keeps C (line_of_label C a) (λ n w. resume_at (idle_machine C.runnable) n C.frame w) w
    (λ n. active_keeps C C.frame.active (λ w. gives [] (resumed_at n C.frame) w) w refl)
form_keeps C uses (source.exit kind) es w h = exit_keeps C kind w
form_keeps C uses (source.redim preserve items) es w h =
    yields_then (HasVars C.frame) (redim_does C preserve (resizes items es) w) (λ x w. goes_on C w) (λ x w. refl)
form_keeps C uses (source.erase target) [] w h = absurd (true≢false (sym h))
form_keeps C uses (source.erase target) (e ∷ []) w h =
    yields_then (HasVars C.frame) (then (address_of C e w) (erase C.frame.env)) (λ x w. goes_on C w) (λ x w. refl)
form_keeps C uses (source.erase target) (e ∷ d ∷ es) w h = absurd (true≢false (sym h))
form_keeps C uses _ es w h = absurd (true≢false (sym h))

module _ (R : Runnable) (f : SourceFrame) (l : SourceLine) where
  tests_keep : (b : Bool) (o : List Output) (w : Memory) → Yields (HasVars f) (cond b (outside o) (gives o (to_line l.aims.after f) w))
  tests_keep true o w = tt
  tests_keep false o w = refl

  caught_keeps : (active : Bool) (h : Handler) (o : List Output) (e : ℕ) (w : Memory) → Yields (HasVars f) (caught f l active h o e w)
  caught_keeps true h o e w = tt
  caught_keeps false none o e w = tt
  caught_keeps false next_line o e w = tests_keep l.tests o w
  caught_keeps false (at_line n) o e w = refl

  handled_keeps : (r : Outcome Memory SourceFrame) → Yields (HasVars f) r → Yields (HasVars f) (handled (machine_of R) f l r)
  handled_keeps (gives o g w) h = h
  handled_keeps (raises o e w) h = caught_keeps f.active f.handler o e ((machine_of R).set_err e w)
  handled_keeps (spent o w) h = tt
  handled_keeps (outside o) h = tt

  stepped_keeps : (n : ℕ) (does : Memory → Outcome Memory SourceFrame) (w : Memory) → ((w : Memory) → Yields (HasVars f) (does w))
      → Yields (HasVars f) (stepped (machine_of R) n does w)
  stepped_keeps zero does w h = tt
  stepped_keeps (suc n) does w h = h ((machine_of R).with_left n w)

  pub line_keeps : (uses : Uses) (p turns : ℕ) (w : Memory) → covers_form uses l.form.source.form l.form.bindings.exprs ≡ true
      → Yields (HasVars f) (line_result (machine_of R) turns p f l w)
  line_keeps uses p turns w h =
      stepped_keeps ((machine_of R).left w) (λ w. handled (machine_of R) f l ((machine_of R).line_does (go (machine_of R) turns) p f l w)) w
      (λ w. handled_keeps (line_does R (go (machine_of R) turns) p f l w)
      (form_keeps (record { runnable = R; oracle = go (machine_of R) turns; procedure = p; frame = f; aims = l.aims }) uses l.form.source.form l.form.bindings.exprs w h))
