-- What a call is for: no object, or one that is kept or given.
use Rattle.std.proofs.Common.{◌≡◌, sym, ℕ, true, ◌&&◌, ◌||◌, true≢false}
use Rattle.vb_tree.specs.BoundTree as types
use Rattle.vb_tree.specs.BoundTree.{Ty}
use Rattle.bound_tree.specs.Tree.{typed, Term, variable, field, call, me, with_object, Object, no_object, of_object, no_passed}
use Rattle.bound_facts.specs.Locks.{is_same_type}
use Rattle.bound_facts.specs.Node.{type_at}
use Rattle.vb6_run.specs.Expressions.{Context}
use Rattle.net_run.specs.Making.{Jobs}
use Rattle.net_run.specs.Names as net_names
use Rattle.written_trees.specs.Names.{Scope}
use Rattle.run_matches.specs.CoveredExprs.{Uses, covers_object, covers_receiver, has_member}
use Rattle.run_matches.specs.Maps.{World}
use Rattle.run_matches.specs.Pledges.{Pledge}
use Rattle.run_matches.specs.Upgrades.{Upgrade}
use Rattle.run_matches.specs.UserTypes.{is_class_type}
use Rattle.expression_laws.proofs.Me.{me_class}
use Rattle.expression_laws.proofs.ObjectMatches.{ObjectIs}
use Rattle.expression_laws.proofs.Types.{both_true, class_of}

pub data ReceiverIs (U : Upgrade) (K : Pledge) (C : Context) (S : net_names.Scope) (oracle : Jobs) (T : Scope) (w : World) : Object → Type 0 where
  for_none : ReceiverIs U K C S oracle T w no_object
  for_object : (c : ℕ) (t : Term) → ObjectIs U K C S oracle T w c t → ReceiverIs U K C S oracle T w (of_object (typed (types.class c) t))

-- an object is of a class
pub object_class : (uses : Uses) (ty : Ty) (t : Term) → covers_object uses (typed ty t) ≡ true → (c : ℕ) × (ty ≡ types.class c)
object_class uses ty (variable v qualified) h = class_of ty (both_true (is_class_type ty) ((uses.group v ty || uses.auto v ty) && uses.named v qualified) h).0
object_class uses ty (field e k) h =
    class_of ty (both_true (is_class_type ty) (has_member uses (type_at e) k (is_same_type ty) && covers_object uses e) h).0
object_class uses ty me h =
    let x = me_class uses.me ty h in
    (x.0, x.1)
object_class uses ty (call q qualified of no_passed) h =
    class_of ty (both_true (is_class_type ty) (uses.given ty && (uses.gives q.0 && (uses.results q.0 ty && covers_receiver uses of))) h).0
object_class uses ty (with_object r) h = class_of ty (both_true (is_class_type ty) (uses.given ty) h).0
object_class uses ty _ h = absurd (true≢false (sym h))
