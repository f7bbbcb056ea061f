-- A condition goes where it goes in what is written for it.
use Rattle.std.proofs.Common.{◌≡◌, ◌∙◌, refl, sym, ap, subst, ℕ, Bool, true, false, Option}
use Rattle.vb_tree.specs.BoundTree.{Ty}
use Rattle.vb_tree.specs.declared.value.Value6.{Value6}
use Rattle.vb_tree.specs.declared.value.Value6.TheVariants as scalar6
use Rattle.bound_tree.specs.Tree.{Expr}
use Rattle.bound_facts.specs.Node.{type_at}
use Rattle.net_meaning.specs.declared.value.ValueN.{ValueN}
use Rattle.net_meaning.specs.declared.value.ValueN.TheVariants as net_scalar
use Rattle.net_meaning.specs.ValueMatch.{Matches, booleans, in_variant_boolean}
use Rattle.run_base.specs.Outcomes.{Outcome, then, answered}
use Rattle.written_trees.specs.Exprs.{exp_of}
use Rattle.written_trees.specs.Names.{Scope}
use Rattle.vb6_run.specs.Expressions as source
use Rattle.vb6_run.specs.Expressions.{scalar_of, value_in}
use Rattle.vb6_run.specs.Forms.{SourceLine}
use Rattle.vb6_run.specs.Lines.{branch, goes_if}
use Rattle.vb6_run.specs.Store.{Memory, SourceCalls, SourceFrame}
use Rattle.vb6_run.specs.Values.{scalar}
use Rattle.net_run.specs.Blocks.{boolean_of, condition}
use Rattle.net_run.specs.Expressions as target
use Rattle.net_run.specs.Lines.{NetFrame, NetLine, scope_of}
use Rattle.net_run.specs.Making.{Jobs}
use Rattle.net_run.specs.Members.{Code}
use Rattle.net_run.specs.Names as net_names
use Rattle.net_run.specs.Store as net_store
use Rattle.net_run.specs.Values as net_value
use Rattle.net_run.specs.Values.{single}
use Rattle.row_laws.proofs.Composing.{then_assoc}
use Rattle.run_matches.specs.Upgrades.{Upgrade}
use Rattle.run_matches.specs.Maps.{World}
use Rattle.run_matches.specs.Likeness.{LikeV, like_scalar, are_same}
use Rattle.run_matches.specs.Match.{MemoryMatch}
use Rattle.run_matches.specs.Pledges.{Pledge, Later}
use Rattle.run_matches.specs.Agreeing.{Agrees}
use Rattle.run_matches.specs.CoveredExprs.{Uses}
use Rattle.run_matches.specs.Frames.{FrameMatch}
use Rattle.run_statements.specs.Frames.{ArePlaced, ExpressionsAgree, IsOpen, ScalarMatch, context_of, AllCalled, demands, AreReadable}
use Rattle.run_statements.specs.Written.{Passes}
use Rattle.run_matches.specs.Runs.{CallsAgree}
use Rattle.agreeing_laws.proofs.Agreeing.{agrees_outside, left_alone, right_alone, then_agrees}
use Rattle.line_laws.proofs.Uses.{good_parts, is_good}

-- a value as a scalar, of what computes it
pub scalar_is : (C : source.Context) (e : Expr) (s : Memory) → source.scalar_value C e s ≡ then (source.value_of C e s) scalar_of
scalar_is C e s = sym (then_assoc (source.parts_of C e s) (value_in C e) scalar_of)

-- what matches a Boolean is the same one
pub same_boolean : (same : ℕ → ℕ → Bool) (ty : Ty) (b : Bool) (y : ValueN) → Matches same ty (scalar6.Boolean b) y → y ≡ net_scalar.Boolean b
same_boolean same _ _ _ (booleans b) = refl
same_boolean same _ _ _ (in_variant_boolean b) = refl

-- ---- where a truth leads

module _ (U : Upgrade) (K : Pledge) (R : World → SourceFrame → NetFrame → Type 0) (C : source.Context) (m n : Option ℕ)
    (go : Bool → net_store.Memory → Outcome net_store.Memory NetFrame) where
  -- both ways lead to the same
  abbrev pub BothLead : World → Type 0
  BothLead w = Agrees U K w R (goes_if C m w.src) (go true w.net) × Agrees U K w R (goes_if C n w.src) (go false w.net)

  truth_leads : (w : World) → BothLead w → (b : Bool)
      → Agrees U K w R (branch C m n (scalar6.Boolean b) w.src) (then (answered (boolean_of (single (net_scalar.Boolean b))) w.net) go)
  truth_leads w both true = right_alone U K w R (goes_if C m w.src) (go true w.net) both.0
  truth_leads w both false = right_alone U K w R (goes_if C n w.src) (go false w.net) both.1

  matched_leads : (w : World) → BothLead w → (ty : Ty) (z : Value6) (y : ValueN) → Matches (are_same w) ty z y
      → Agrees U K w R (branch C m n z w.src) (then (answered (boolean_of (single y)) w.net) go)
  matched_leads w both ty (scalar6.Boolean b) y x =
      subst (λ a. Agrees U K w R (branch C m n (scalar6.Boolean b) w.src) (then (answered (boolean_of (single a)) w.net) go))
      (sym (same_boolean (are_same w) ty b y x)) (truth_leads w both b)
  matched_leads w both ty _ y x = agrees_outside U K w R (then (answered (boolean_of (single y)) w.net) go)

  -- where the source's scalar is no Boolean, it is outside
  pub branch_leads : (w : World) → BothLead w → (ty : Ty) (z : Value6) (y : net_value.Value) → LikeV U w (scalar ty z) y
      → Agrees U K w R (branch C m n z w.src) (then (answered (boolean_of y) w.net) go)
  branch_leads w both _ _ _ (like_scalar ty z y x) = matched_leads w both ty z y x

-- ---- conditions

module _ (U : Upgrade) (expressions : ExpressionsAgree U) (K : Pledge) (p : ℕ) (f : SourceFrame) (g : NetFrame) (l : SourceLine) (k : NetLine) (c : Code) (T : Scope)
    (declared : T.declarations ≡ U.program.declarations) (oracle : SourceCalls) (net_oracle : Jobs) (is_open : IsOpen (scope_of U.written c g k)) (uses : Uses)
    (readable : AreReadable U T uses) (placed : ArePlaced U p f (scope_of U.written c g k) T uses) (agree : CallsAgree U (Passes U) oracle net_oracle) where
  abbrev C : source.Context
  C = context_of U oracle p f l

  abbrev S : net_names.Scope
  S = scope_of U.written c g k

  abbrev Can : Expr → Type 0
  Can e = AllCalled (demands U K p l k S T) e

  pub condition_agrees : (R : World → SourceFrame → NetFrame → Type 0) (w : World) → MemoryMatch U w → FrameMatch U K w p f g → (m n : Option ℕ)
      (go : Bool → net_store.Memory → Outcome net_store.Memory NetFrame) → ((w1 : World) → Later U K w w1 → BothLead U K R C m n go w1) → (e : Expr)
      → Can e → is_good uses e ≡ true
      → Agrees U K w R (then (source.scalar_value C e w.src) (branch C m n)) (then (condition S net_oracle (exp_of T e) w.net) go)
  condition_agrees R w h F m n go both e can well =
      let first : net_value.Value → net_store.Memory → Outcome net_store.Memory Bool = λ y t. answered (boolean_of y) t in
      subst (λ r. Agrees U K w R r (then (condition S net_oracle (exp_of T e) w.net) go))
      (sym (ap (λ r. then r (branch C m n)) (scalar_is C e w.src) ∙ then_assoc (source.value_of C e w.src) scalar_of (branch C m n)))
      (subst (λ r. Agrees U K w R (then (source.value_of C e w.src) (λ x s. then (scalar_of x s) (branch C m n))) r)
      (sym (then_assoc (target.value_of S net_oracle (exp_of T e) w.net) first go))
      (then_agrees U K w (ScalarMatch U (type_at e)) R (source.value_of C e w.src) (target.value_of S net_oracle (exp_of T e) w.net)
      (λ x s. then (scalar_of x s) (branch C m n)) (λ y t. then (first y t) go) h
      (expressions K w p f g oracle net_oracle l k c T uses e h F declared is_open readable placed agree can (good_parts uses e well).0 (good_parts uses e well).1)
      (λ x y w1 x_is later.
      subst (λ a. Agrees U K w1 R (then (scalar_of a w1.src) (branch C m n)) (then (first y w1.net) go)) (sym x_is.1)
      (left_alone U K w1 R (branch C m n x_is.0 w1.src) (then (first y w1.net) go)
      (branch_leads U K R C m n go w1 (both w1 later) (type_at e) x_is.0 y x_is.2)))))
