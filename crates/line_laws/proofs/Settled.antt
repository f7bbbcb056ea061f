-- Where what is written for the name of an array leads to its place by itself, and does nothing.
use Rattle.std.proofs.Common.{◌≡◌, ◌∙◌, ap, ℕ, Bool, false, cond, [], None, slice_get}
use Rattle.vb_tree.specs.BoundTree.{Ty}
use Rattle.vb_tree.specs.declared.declared.VarId.{VarId}
use Rattle.bound_tree.specs.Tree.{Declarations, typed, variable}
use Rattle.bound_facts.specs.Node.{auto_class, class_in}
use Rattle.net_tree.specs.Tree as net
use Rattle.run_base.specs.Outcomes.{gives}
use Rattle.written_trees.specs.Exprs.{exp_of, made_if}
use Rattle.written_trees.specs.Names.{Scope, variable_path}
use Rattle.vb6_run.specs.Store.{SourceFrame}
use Rattle.net_run.specs.Expressions as target
use Rattle.net_run.specs.Lines.{NetFrame, NetLine, scope_of}
use Rattle.net_run.specs.Making.{Jobs}
use Rattle.net_run.specs.Members.{Code}
use Rattle.net_run.specs.Names as net_names
use Rattle.net_run.specs.Names.{at_place}
use Rattle.net_run.specs.Store as net_store
use Rattle.run_matches.specs.Upgrades.{Upgrade}
use Rattle.run_matches.specs.Maps.{World}
use Rattle.run_matches.specs.Pledges.{Pledge}
use Rattle.run_matches.specs.Frames.{FrameMatch}
use Rattle.run_statements.specs.Frames.{IsKnown, IsPlaced}
use Rattle.line_laws.proofs.Placed.{IsNamedSo, PlacedVariable, placed_variable}
use Rattle.line_laws.proofs.Uses.{variable_reached}

-- it leads to an address, from any memory
pub record IsSettled (S : net_names.Scope) (oracle : Jobs) (e : net.Exp) : Type 0 where
  pub address : net_store.Address
  pub leads : (t : net_store.Memory) → target.reach S oracle false e t ≡ gives [] (at_place address) t

pub settled : (U : Upgrade) (K : Pledge) (w : World) (p : ℕ) (f : SourceFrame) (g : NetFrame) (k : NetLine) (c : Code) (T : Scope)
    → T.declarations ≡ U.program.declarations → (oracle : Jobs) → FrameMatch U K w p f g → (v : ℕ) (qualified : Bool)
    → IsNamedSo U.program.declarations v qualified → IsKnown U v → IsPlaced U p f (scope_of U.written c g k) T v → IsSettled (scope_of U.written c g k) oracle (net.path (variable_path T qualified v))
settled U K w p f g k c T declared oracle F v qualified so x placed =
    let S : net_names.Scope = scope_of U.written c g k in
    let y : PlacedVariable U K w f S T v = placed_variable U K w p f g k c T declared F v x placed in
    record { address = y.net_address; leads = λ t. variable_reached S oracle (variable_path T qualified v) y.net_address t (y.leads qualified so) }

-- for an array it is its path alone
pub known_path : (U : Upgrade) (T : Scope) → T.declarations ≡ U.program.declarations → (ty : Ty) (v : VarId) (qualified : Bool) → IsKnown U v.0
    → exp_of T (typed ty (variable v qualified)) ≡ net.path (variable_path T qualified v.0)
known_path U T e ty v qualified x =
    ap (λ m. made_if T.declarations m (net.path (variable_path T qualified v.0)))
    (ap (λ (d : Declarations). auto_class (slice_get d.vars v.0)) e ∙ (ap auto_class x.is_variable ∙ ap (λ b. cond b (class_in x.variable.ty) None) x.plain))
