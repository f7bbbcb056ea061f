-- A property without indexes takes its value where its object is calm and the value changes nothing.
use Rattle.std.proofs.Common.{◌≡◌, ◌∙◌, ◌⊎◌, refl, ap, ⊎_elim, ℕ, Bool, true, false, Some, List, [], ◌∷◌, ◌++◌, slice_get, true≢false, ◌&&◌}
use Rattle.vb_tree.specs.BoundTree as types
use Rattle.vb_tree.specs.BoundTree.{Ty}
use Rattle.vb_tree.specs.declared.declared.ProcId.{ProcId}
use Rattle.vb_tree.specs.declared.declared.ProcKind.TheVariants as kind
use Rattle.bound_tree.specs.Tree.{Declarations, Expr, typed, Term, call, with_object, of_object, no_passed}
use Rattle.bound_tree.specs.declared.expression.Root.{Root}
use Rattle.bound_facts.specs.Node.{type_at}
use Rattle.net_tree.specs.Tree as net
use Rattle.run_base.specs.Frames.{by_value}
use Rattle.run_base.specs.Outcomes.{Outcome, after, gives, outside, then}
use Rattle.written_trees.specs.Exprs.{called, callee_of, exp_of, is_bare, member_in}
use Rattle.written_trees.specs.Names.{Scope, procedure_name}
use Rattle.vb6_run.specs.Expressions as source
use Rattle.vb6_run.specs.Expressions.{Receiver, receiver, value_in}
use Rattle.vb6_run.specs.Forms.{SourceLine}
use Rattle.vb6_run.specs.Store.{Memory, SourceCalls, SourceFrame}
use Rattle.vb6_run.specs.Values.{scalar}
use Rattle.net_run.specs.Expressions as target
use Rattle.net_run.specs.Expressions.{reach}
use Rattle.net_run.specs.Lines.{NetFrame, NetLine, scope_of}
use Rattle.net_run.specs.Making.{Jobs}
use Rattle.net_run.specs.Members.{Code}
use Rattle.net_run.specs.Names as net_names
use Rattle.net_run.specs.Store as net_store
use Rattle.net_run.specs.Values as net_value
use Rattle.run_matches.specs.Agreeing.{Agrees}
use Rattle.run_matches.specs.CoveredExprs.{Uses, covers_object_term, is_calm_object, is_taking}
use Rattle.run_matches.specs.CoveredVariables.{covers_group_type, covers_type}
use Rattle.run_matches.specs.Frames.{OwnsAll}
use Rattle.run_matches.specs.Maps.{World}
use Rattle.run_matches.specs.Match.{MemoryMatch}
use Rattle.run_matches.specs.Pledges.{Later, Pledge, still}
use Rattle.run_matches.specs.Runs.{CallsAgree}
use Rattle.run_matches.specs.Upgrades.{Upgrade}
use Rattle.run_statements.specs.Frames.{AllCalled, AreReadable, ArePlaced, context_of, demands, type_shape, IsOpen}
use Rattle.run_statements.specs.Groups.{ValueMatch}
use Rattle.run_statements.specs.Properties.{MayFollow, PropertiesAreSet, SettersAgree}
use Rattle.run_statements.specs.Written.{Passes}
use Rattle.agreeing_laws.proofs.Lasting.{later_now}
use Rattle.line_laws.specs.Lasting.{GoOnMatching}
use Rattle.line_laws.proofs.CalmObjects.{calm_object}
use Rattle.line_laws.proofs.Targets.{SameStore, outside_stored}
use Rattle.line_laws.proofs.PropertyStores.{parts_known, taking_bare, taking_gives, taking_property}

module _ (U : Upgrade) (setters : SettersAgree U) (sets : PropertiesAreSet U) (K : Pledge) (p : ℕ) (f : SourceFrame) (g : NetFrame) (l : SourceLine)
    (k : NetLine) (c : Code) (T : Scope) (declared : T.declarations ≡ U.program.declarations) (oracle : SourceCalls) (net_oracle : Jobs)
    (is_open : IsOpen (scope_of U.written c g k)) (uses : Uses)
    (readable : AreReadable U T uses) (placed : ArePlaced U p f (scope_of U.written c g k) T uses) (agree : CallsAgree U (Passes U) oracle net_oracle)
    (w : World) (h : MemoryMatch U w) (G : GoOnMatching U K p f g w) (owns : OwnsAll U K p f) (ty : Ty) (q : ProcId) (qualified : Bool) (e : Expr)
    (takes : uses.takes q.0 0 (type_at e) ≡ true) (of_type : (covers_type (type_at e) ≡ true) ⊎ (covers_group_type U.program.declarations (type_at e) ≡ true))
    (of_class : ℕ) (t : Term) (covers : covers_object_term uses (types.class of_class) t ≡ true)
    (can : AllCalled (demands U K p l k (scope_of U.written c g k) T) (typed ty (call q qualified (of_object (typed (types.class of_class) t)) no_passed))) where
  abbrev C : source.Context
  C = context_of U oracle p f l

  abbrev S : net_names.Scope
  S = scope_of U.written c g k

  abbrev D : Declarations
  D = U.program.declarations

  abbrev object : Expr
  object = typed (types.class of_class) t

  abbrev property : Expr
  property = typed ty (call q qualified (of_object object) no_passed)

  abbrev Goes : Type 0
  Goes = SameStore U K w C S T net_oracle property e

  abbrev Valued : World → Type 0
  Valued u =
      Agrees U K u (λ v x y. ValueMatch U (type_shape U (type_at e)) v x y × MayFollow U K u v no_passed) (source.value_of C e u.src)
      (target.value_of S net_oracle (exp_of T e) u.net)

  abbrev Quiet : World → Type 0
  Quiet u =
      Agrees U (still K u) u (λ v x y. ValueMatch U (type_shape U (type_at e)) v x y) (source.value_of C e u.src)
      (target.value_of S net_oracle (exp_of T e) u.net)

  -- no object, which a With was to keep
  none_set : (r : Root) → t ≡ with_object r → ((s : Memory) → source.parts_of C object s ≡ outside []) → Valued w → Goes
  none_set r is none values =
      let name : List ℕ = procedure_name T.declarations q.0 in
      let taking : is_taking D 0 (type_at e) (slice_get D.procs q.0) ≡ true = (readable.takes q.0 0 (type_at e) takes).0 in
      let finds : Outcome Memory source.Parts → Outcome Memory Receiver =
      λ r. then (then r (value_in C object)) (λ z w. gives [] (receiver (Some of_class) z) w) in
      let bare : is_bare T q.0 qualified (of_object object) no_passed ≡ true =
      taking_bare U S T can.0.way q.0 qualified (of_object object) can.0.is_way (taking_property D 0 (type_at e) (slice_get D.procs q.0) taking)
      (taking_gives D 0 (type_at e) (slice_get D.procs q.0) taking) in
      let written : exp_of T property ≡ net.with_dot name =
      ap (λ b. called b (callee_of T q.0 qualified (of_object object)) net.no_exps) bare ∙ ap (λ z. member_in z (exp_of T object) name) is in
      outside_stored U K w h C S T net_oracle property e (λ v x y. ValueMatch U (type_shape U (type_at e)) v x y × MayFollow U K w v no_passed) values
      (net_names.member_at S S.around name w.net) (ap (λ a. reach S net_oracle false a w.net) written)
      (λ x s. ap (λ r. then (finds r) (λ r s. after [] (then (source.entered C q.0 r (by_value x ∷ []) s) (λ z s. gives [] tt s)))) (none s))

  -- a calm object, and a value that changes nothing
  pub object_set : is_calm_object uses object ≡ true → ((u : World) → Later U K w u → Valued u) → ((u : World) → Later U K w u → Quiet u) → Goes
  object_set calm values quiet =
      ⊎_elim
      (λ x.
      parts_known U setters sets K p f g l k c T declared oracle net_oracle is_open uses readable placed agree w h G owns ty q qualified no_passed e takes of_type
      (of_object object) covers refl refl can (receiver (Some of_class) (scalar (types.class of_class) x.0)) []
      (λ s stable. ap (λ r. then r (λ z w. gives [] (receiver (Some of_class) z) w)) (x.1 s stable)) (λ s stable. refl) values quiet)
      (λ x. none_set x.0 x.1 x.2 (values w (later_now U K w h)))
      (calm_object U K p f g l k c T declared oracle net_oracle uses readable placed w h (G w (later_now U K w h)) owns of_class t calm covers can.2)
