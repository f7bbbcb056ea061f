-- How both sides come to what is called, and to its arguments.
use Rattle.std.proofs.Common.{◌≡◌, ◌⊎◌, inl, inr, refl, sym, ap, subst, ◌∙◌, ℕ, Bool, true, false, true≢false, not, ◌&&◌, Option, Some, None, List, []}
use Rattle.std.specs.Prelude.{slice_get}
use Rattle.up_base.proofs.Tests.{by_test}
use Rattle.vb_tree.specs.BoundTree.{Ty}
use Rattle.vb_tree.specs.declared.declared.ProcId.{ProcId}
use Rattle.bound_tree.specs.Tree.{Expr, typed, call, Object, no_object, of_object, Passed, no_passed, next_passed}
use Rattle.bound_facts.specs.Node.{class_in, type_at}
use Rattle.net_tree.specs.declared.declaration.NetPassing.{NetPassing}
use Rattle.net_tree.specs.Tree.{Exp, Exps, call_of, no_exps, path}
use Rattle.run_base.specs.Outcomes.{Outcome, after, gives, then}
use Rattle.vb6_run.specs.Expressions as source
use Rattle.vb6_run.specs.Expressions.{Context, Parts, Receiver, receiver, result_parts}
use Rattle.vb6_run.specs.Store.{Memory}
use Rattle.vb6_run.specs.Values.{Value}
use Rattle.net_run.specs.Calls.{Arguments, passings_at, procedure_does}
use Rattle.net_run.specs.Expressions as target
use Rattle.net_run.specs.Making.{Jobs}
use Rattle.net_run.specs.Names as net_names
use Rattle.net_run.specs.Names.{Reached, Scope, called, member_at, named, path_start, starts, to_procedure, to_property}
use Rattle.net_run.specs.Store as net
use Rattle.net_run.specs.Values as net_value
use Rattle.written_trees.specs.Arguments.{is_property}
use Rattle.written_trees.specs.Exprs.{callee_of, exp_of, has_none, is_bare, passed_of, reads_itself}
use Rattle.written_trees.specs.Exprs as written
use Rattle.written_trees.specs.Names as written_names
use Rattle.written_trees.specs.Names.{procedure_path}
use Rattle.run_matches.specs.CoveredExprs.{is_giving}
use Rattle.run_matches.specs.Upgrades.{Upgrade}
use Rattle.run_statements.specs.Ways.{IsWay, LeadsAlone, Way, as_get, as_procedure, as_set, callee_by, passings_by}
use Rattle.row_laws.proofs.Composing.{after_nil, then_assoc, then_gives}
use Rattle.agreeing_laws.proofs.Members.{member_behind}

-- a procedure that is no part of a property is called
pub callee_is : (T : written_names.Scope) (ty : Ty) (q : ProcId) (qualified : Bool) (of : Object) (args : Passed) → is_property T.declarations q.0 ≡ false
    → exp_of T (typed ty (call q qualified of args)) ≡ call_of (callee_of T q.0 qualified of) (passed_of T q.0 0 args)
callee_is T ty q qualified of args h =
    ap (λ b. written.called (b && (has_none args && not (reads_itself T q.0 qualified of))) (callee_of T q.0 qualified of) (passed_of T q.0 0 args)) h

-- What is written for a call suits the way of its procedure: a Get without arguments goes by its name alone, or stands before no arguments
-- as a call by itself does.
abbrev pub IsCalled : Scope → written_names.Scope → Way → (bare : Bool) → (callee : ℕ) → (qualified : Bool) → Object → Passed → Type 0
IsCalled S T as_procedure bare q qualified of args = bare ≡ false
IsCalled S T (as_get set) bare q qualified of args = ((args ≡ no_passed) × LeadsAlone S T q qualified of) ⊎ (bare ≡ false)
IsCalled S T (as_set get) bare q qualified of args = ⊥

pub none_passed : (args : Passed) → has_none args ≡ true → args ≡ no_passed
none_passed no_passed h = refl
none_passed (next_passed a rest) h = absurd (true≢false (sym h))

pub not_bare : (b c d : Bool) → b ≡ false → (c && (b && d)) ≡ false
not_bare b true d h = ap (λ z. z && d) h
not_bare b false d h = refl

module _ (U : Upgrade) (S : Scope) (T : written_names.Scope) (q : ℕ) (qualified : Bool) (of : Object) (args : Passed) where
  -- a procedure that gives is called before its arguments
  pub called_apart : (way : Way) → IsWay U S T way q qualified of args → is_giving (slice_get U.program.declarations.procs q) ≡ true
      → IsCalled S T way false q qualified of args
  called_apart as_procedure is giving = refl
  called_apart (as_get set) is giving = inr refl
  called_apart (as_set get) is giving = absurd (true≢false (sym giving ∙ is.1))

  -- and so it is as it is written
  pub called_as_written : T.declarations ≡ U.program.declarations → (way : Way) → IsWay U S T way q qualified of args
      → is_giving (slice_get U.program.declarations.procs q) ≡ true → IsCalled S T way (is_bare T q qualified of args) q qualified of args
  called_as_written same as_procedure is giving =
      ap (λ b. b && (has_none args && not (reads_itself T q qualified of))) (ap (λ D. is_property D q) same ∙ is)
  called_as_written same (as_get set) is giving =
      by_test (has_none args) (λ b. has_none args ≡ b → IsCalled S T (as_get set) (is_bare T q qualified of args) q qualified of args)
      (λ none e. inl (none_passed args none, (is.0.alone none).leads))
      (λ some e. inr (not_bare (has_none args) (is_property T.declarations q) (not (reads_itself T q qualified of)) some)) refl
  called_as_written same (as_set get) is giving = called_apart (as_set get) is giving

  -- what is no property is called as a procedure
  pub way_of_procedure : (way : Way) → IsWay U S T way q qualified of args → is_property U.program.declarations q ≡ false → way ≡ as_procedure
  way_of_procedure as_procedure is none = refl
  way_of_procedure (as_get set) is none = absurd (true≢false (sym is.0.property ∙ none))
  way_of_procedure (as_set get) is none = absurd (true≢false (sym is.0.property ∙ none))

-- ---- the target

abbrev at_parts : net.Address → net.Memory → Outcome net.Memory net_names.Parts
at_parts a w = gives [] (net_names.at_address a) w

-- an address that goes through the parts of an expression
through_parts : (r : Outcome net.Memory net.Address) → then (then r at_parts) target.finished ≡ r
through_parts r = then_assoc r at_parts target.finished ∙ then_gives r

module _ (S : Scope) (oracle : Jobs) where
  -- what is reached takes the arguments or stands alone, and then gives an address
  abbrev pub takes : (bare : Bool) → Exps → Reached → net.Memory → Outcome net.Memory net.Address
  takes true args r w = then (target.parts_by S oracle r w) target.finished
  takes false args r w =
      then (target.applied S oracle (λ m w. target.args_of S oracle m args w) (λ w. target.values_of S oracle args w) r w)
      (λ r w. then (target.parts_by S oracle r w) target.finished)

  abbrev does : List NetPassing → Exps → (object : Option net_value.Value) → (number : ℕ) → net.Memory → Outcome net.Memory net.Address
  does modes args object n w = then (target.args_of S oracle modes args w) (λ gs w. procedure_does S oracle object n gs w)

  -- a procedure is called with its arguments
  procedure_takes : (args : Exps) (object : Option net_value.Value) (n : ℕ) (w : net.Memory)
      → takes false args (named (to_procedure object n)) w ≡ does (passings_at S.project (Some n)) args object n w
  procedure_takes args object n w =
      let A = target.args_of S oracle (passings_at S.project (Some n)) args w in
      let take = λ (gs : Arguments) (w : net.Memory). gives [] (called (to_procedure object n) gs) w in
      let ends = λ (r : Reached) (w : net.Memory). then (target.parts_by S oracle r w) target.finished in
      then_assoc A take ends ∙ ap (λ k. then A k) (λ i gs w. after_nil (ends (called (to_procedure object n) gs) w) i)
      ∙ ap (λ k. then A k) (λ i gs w. through_parts (procedure_does S oracle object n gs w) i)

  -- so is a Get with its arguments
  property_takes : (args : Exps) (object : Option net_value.Value) (n : ℕ) (set : Option ℕ) (w : net.Memory)
      → takes false args (named (to_property object (Some n) set)) w ≡ does [] args object n w
  property_takes args object n set w =
      let A = target.args_of S oracle [] args w in
      let take = λ (gs : Arguments) (w : net.Memory). gives [] (called (to_property object (Some n) set) gs) w in
      let ends = λ (r : Reached) (w : net.Memory). then (target.parts_by S oracle r w) target.finished in
      then_assoc A take ends ∙ ap (λ k. then A k) (λ i gs w. after_nil (ends (called (to_property object (Some n) set) gs) w) i)
      ∙ ap (λ k. then A k) (λ i gs w. through_parts (procedure_does S oracle object n gs w) i)

  -- and one without arguments by its name alone
  get_takes : (bare : Bool) (object : Option net_value.Value) (n : ℕ) (set : Option ℕ) (w : net.Memory)
      → takes bare no_exps (named (to_property object (Some n) set)) w ≡ does [] no_exps object n w
  get_takes true object n set w = through_parts (procedure_does S oracle object n [] w) ∙ sym (after_nil (procedure_does S oracle object n [] w))
  get_takes false object n set w = ap (λ r. after [] r) (through_parts (procedure_does S oracle object n [] w))

  module _ (T : written_names.Scope) (q : ℕ) (qualified : Bool) (args : Passed) where
    abbrev passed : Exps
    passed = passed_of T q 0 args

    -- what is called by its name is called with its arguments
    pub named_does : (of : Object) (way : Way) (bare : Bool) → IsCalled S T way bare q qualified of args → (object : Option net_value.Value) (n : ℕ)
        (w : net.Memory)
        → takes bare (passed_of T q 0 args) (named (callee_by way object n)) w
        ≡ then (target.args_of S oracle (passings_by S.project way n) (passed_of T q 0 args) w) (λ gs w. procedure_does S oracle object n gs w)
    named_does of as_procedure bare is object n w =
        subst (λ b. takes b passed (named (to_procedure object n)) w ≡ does (passings_at S.project (Some n)) passed object n w) (sym is) (procedure_takes passed object n w)
    named_does of (as_get set) bare (inl is) object n w =
        subst (λ a. takes bare (passed_of T q 0 a) (named (to_property object (Some n) set)) w ≡ does [] (passed_of T q 0 a) object n w) (sym is.0)
        (get_takes bare object n set w)
    named_does of (as_get set) bare (inr is) object n w =
        subst (λ b. takes b passed (named (to_property object (Some n) set)) w ≡ does [] passed object n w) (sym is) (property_takes passed object n set w)
    named_does of (as_set get) bare is object n w = absurd is

    called_address : (bare : Bool) (e : Exp) (w : net.Memory)
        → target.address_of S oracle (written.called bare e passed) w ≡ then (target.reach S oracle (not bare) e w) (takes bare passed)
    called_address true e w = then_assoc (target.reach S oracle false e w) (target.parts_by S oracle) target.finished
    called_address false e w =
        let reached = target.reach S oracle true e w in
        let take = target.applied S oracle (λ m w. target.args_of S oracle m passed w) (λ w. target.values_of S oracle passed w) in
        then_assoc (then reached take) (target.parts_by S oracle) target.finished
        ∙ then_assoc reached take (λ r w. then (target.parts_by S oracle r w) target.finished)

    path_leads : (way : Way) (bare : Bool) → IsCalled S T way bare q qualified no_object args
        → path_start S (not bare) (procedure_path T qualified q) ≡ path_start S true (procedure_path T qualified q)
    path_leads as_procedure bare is = ap (λ b. path_start S (not b) (procedure_path T qualified q)) is
    path_leads (as_get set) true (inl is) = is.1
    path_leads (as_get set) false (inl is) = refl
    path_leads (as_get set) bare (inr is) = ap (λ b. path_start S (not b) (procedure_path T qualified q)) is
    path_leads (as_set get) bare is = absurd is

    pub call_address : (way : Way) (bare : Bool) → IsCalled S T way bare q qualified no_object args → (n : ℕ)
        → path_start S true (procedure_path T qualified q) ≡ starts (named (callee_by way None n)) [] → (w : net.Memory)
        → target.address_of S oracle (written.called bare (path (procedure_path T qualified q)) (passed_of T q 0 args)) w
        ≡ then (target.args_of S oracle (passings_by S.project way n) (passed_of T q 0 args) w) (λ gs w. procedure_does S oracle None n gs w)
    call_address way bare is n h w =
        called_address bare (path (procedure_path T qualified q)) w
        ∙ ap (λ s. then (target.started S oracle s w) (takes bare passed)) (path_leads way bare is ∙ h)
        ∙ after_nil (takes bare passed (named (callee_by way None n)) w) ∙ named_does no_object way bare is None n w

    -- behind an object its member takes them
    pub member_address : (bare : Bool) (e : Exp) (r : net.Memory → Outcome net.Memory Reached) (name : List ℕ) (w : net.Memory)
        → target.reach S oracle true e w ≡ target.reach S oracle false e w → target.reach S oracle false e w ≡ member_behind S oracle r name w
        → target.address_of S oracle (written.called bare e (passed_of T q 0 args)) w
        ≡ then (target.address_from S oracle (r w)) (λ a w. takes bare (passed_of T q 0 args) (member_at S a name w) w)
    member_address bare e r name w before h =
        called_address bare e w ∙ ap (λ z. then z (takes bare passed)) (alike bare ∙ h)
        ∙ then_assoc (target.address_from S oracle (r w)) (λ a w. gives [] (member_at S a name w) w) (takes bare passed)
        ∙ ap (λ k. then (target.address_from S oracle (r w)) k) (λ i a w. after_nil (takes bare passed (member_at S a name w) w) i)
      where
        alike : (b : Bool) → target.reach S oracle (not b) e w ≡ target.reach S oracle false e w
        alike true = refl
        alike false = before

-- ---- the source

abbrev pub back : Option Value → Memory → Outcome Memory Parts
back x w = gives [] (result_parts x) w

-- the procedure is entered behind its arguments
abbrev pub enters_with : Context → (procedure : ℕ) → Passed → Receiver → Memory → Outcome Memory Parts
enters_with C q args r w = then (source.args_of C q 0 args w) (λ gs w. then (source.entered C q r gs w) back)

-- the object is evaluated before the arguments
pub object_parts : (C : Context) (ty : Ty) (q : ProcId) (qualified : Bool) (e : Expr) (args : Passed) (w : Memory)
    → source.term_parts C ty (call q qualified (of_object e) args) w
    ≡ then (source.value_of C e w) (λ x w. enters_with C q.0 args (receiver (class_in (type_at e)) x) w)
object_parts C ty q qualified e args w =
    then_assoc (source.value_of C e w) (λ x w. gives [] (receiver (class_in (type_at e)) x) w) (enters_with C q.0 args)
    ∙ ap (λ k. then (source.value_of C e w) k) (λ i x w. after_nil (enters_with C q.0 args (receiver (class_in (type_at e)) x) w) i)
