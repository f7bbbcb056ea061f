-- Objects that are kept, and what is written for them.
use Rattle.std.proofs.Common.{◌≡◌, ◌∙◌, refl, sym, ap, subst, ℕ, [], Some}
use Rattle.vb_tree.specs.BoundTree as types
use Rattle.bound_tree.specs.Tree.{Term, typed}
use Rattle.run_base.specs.Outcomes.{Outcome, outside}
use Rattle.run_base.specs.Positions.{Position}
use Rattle.vb6_run.specs.Expressions as source
use Rattle.vb6_run.specs.Expressions.{Context}
use Rattle.vb6_run.specs.Shapes.{simple}
use Rattle.vb6_run.specs.Store.{root}
use Rattle.net_run.specs.Expressions as target
use Rattle.net_run.specs.Making.{Jobs}
use Rattle.net_run.specs.Names as net_names
use Rattle.net_run.specs.Shapes as shape
use Rattle.net_run.specs.Store as net
use Rattle.written_trees.specs.Names.{Scope}
use Rattle.run_matches.specs.Addresses.{Same, same_root}
use Rattle.run_matches.specs.Agreeing.{Agrees}
use Rattle.run_matches.specs.Likeness as likeness
use Rattle.run_matches.specs.Likeness.{SameShape}
use Rattle.run_matches.specs.Maps.{World}
use Rattle.run_matches.specs.Pledges.{Pledge}
use Rattle.run_matches.specs.Upgrades.{Upgrade, class_home}
use Rattle.run_statements.specs.Frames.{ScalarMatch}
use Rattle.run_statements.specs.Members.{ObjectMatch}
use Rattle.agreeing_laws.proofs.Members.{Reaches}
use Rattle.expression_laws.proofs.BeforeArguments.{IsBefore}
use Rattle.bound_tree.specs.Tree.{Expr}
use Rattle.bound_facts.specs.Node.{type_at}
use Rattle.run_base.specs.Outcomes.{gives, raises, spent, then}
use Rattle.vb6_run.specs.Expressions.{declared}
use Rattle.vb6_run.specs.Shapes.{Shape}
use Rattle.vb6_run.specs.Store as store
use Rattle.vb6_run.specs.Store.{Memory}
use Rattle.vb6_run.specs.Values.{is_of_shape}
use Rattle.net_run.specs.Values as net_value
use Rattle.run_matches.specs.Match.{MemoryMatch}
use Rattle.run_matches.specs.SoundShapes.{IsSoundShape}
use Rattle.run_statements.specs.Groups.{ValueMatch}
use Rattle.row_laws.proofs.Composing.{then_assoc}
use Rattle.agreeing_laws.proofs.Agreeing.{agrees_gives}
use Rattle.memory_laws.proofs.Groups.{groups_are_read}
use Rattle.expression_laws.proofs.Checks.{provided_agrees, source_then}
use Rattle.expression_laws.proofs.Nothings.{as_scalar}
use Rattle.expression_laws.proofs.Variables.{Checked}

-- the source is outside, or what is written reaches the object that the source finds
pub data ObjectIs (U : Upgrade) (K : Pledge) (C : Context) (S : net_names.Scope) (oracle : Jobs) (T : Scope) (w : World) (of_class : ℕ) (t : Term) : Type 0 where
  no_value : source.value_of C (typed (types.class of_class) t) w.src ≡ outside [] → ObjectIs U K C S oracle T w of_class t
  reached :
      (r : net.Memory → Outcome net.Memory net_names.Reached) → Reaches S oracle T (typed (types.class of_class) t) r
      → IsBefore S oracle T (typed (types.class of_class) t)
      → Agrees U K w (ObjectMatch U of_class) (source.value_of C (typed (types.class of_class) t) w.src) (target.address_from S oracle (r w.net))
      → ObjectIs U K C S oracle T w of_class t

-- a class is written as one
pub class_shaped : (U : Upgrade) (c : ℕ) (d : shape.Shape) → SameShape U (simple (types.class c)) d
    → (home : ℕ) × (class_home U c ≡ Some home) × (d ≡ shape.class home)
class_shaped U c _ (likeness.same_scalar _ t word) = absurd (cc word)
class_shaped U c _ (likeness.same_class _ home is) = (home, is, refl)

pub image_shaped : (U : Upgrade) (K : Pledge) (w : World) (c : ℕ) (q : Position) (b : net.Address) → Same U K w (root (simple (types.class c)) q) b
    → (home : ℕ) × (class_home U c ≡ Some home) × (net.shape_at b ≡ shape.class home)
image_shaped U K w c q _ (same_root _ d _ sh m r) = class_shaped U c d sh

-- ---- what is read

-- a value is read at its address
pub value_by_address : (C : Context) (e : Expr) (s : Memory)
    → source.value_of C e s ≡ then (source.address_of C e s) (λ a v. then (store.read a v) (Checked C (type_at e)))
value_by_address C e s =
    let r = source.parts_of C e s in
    ap (λ j. then r j) (λ i x v. then_assoc (source.finished x v) store.read (Checked C (type_at e)) i)
    ∙ sym (then_assoc r source.finished (λ a v. then (store.read a v) (Checked C (type_at e))))

-- what is read at an address is looked up there
looked_up : {A : Type 0} (U : Upgrade) (K : Pledge) (w : World) (R : World → A → net_value.Value → Type 0) (r : Outcome Memory A) (b : net.Address)
    → Agrees U K w R r (target.read b w.net) → Agrees U K w (λ v x a. (a ≡ b) × R v x (net.looked_up b v.net)) r (gives [] b w.net)
looked_up U K w R (gives o x s) b h = (h.0, h.1, (refl, h.2), h.3)
looked_up U K w R (raises o e s) b h = absurd h
looked_up U K w R (spent o s) b h = absurd h
looked_up U K w R (outside o) b h = h

-- an object is read where it stands
pub object_read : (U : Upgrade) (K : Pledge) (C : Context) (c : ℕ) (q : Position) (b : net.Address) (w : World) → IsSoundShape U (simple (types.class c))
    → MemoryMatch U w → Same U K w (root (simple (types.class c)) q) b
    → Agrees U K w (ObjectMatch U c) (then (store.read (root (simple (types.class c)) q) w.src) (Checked C (types.class c))) (gives [] b w.net)
object_read U K C c q b w sound start same =
    let s : Shape = simple (types.class c) in
    let there = image_shaped U K w c q b same in
    source_then U K w (λ v x a. (a ≡ b) × ValueMatch U s v x (net.looked_up b v.net)) (ObjectMatch U c) (store.read (root s q) w.src) (gives [] b w.net)
    (Checked C (types.class c)) start
    (looked_up U K w (ValueMatch U s) (store.read (root s q) w.src) b (groups_are_read U K w s q b sound start same))
    (λ x a v m later.
    provided_agrees U K v (ObjectMatch U c) (is_of_shape (source.type_shape (declared C) (types.class c)) x) x (gives [] a v.net) (λ ok.
    agrees_gives U K v (ObjectMatch U c) x a later.match (record {
      like = subst (λ z. ScalarMatch U (types.class c) v x (net.looked_up z v.net)) (sym m.0) (as_scalar U c v x (net.looked_up b v.net) m.1);
      home = there.0;
      is_home = there.1;
      shaped = ap net.shape_at m.0 ∙ there.2;
    })))
