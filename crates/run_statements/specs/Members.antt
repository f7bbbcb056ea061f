-- What becomes of variables of objects in frames and memories that match.
use Rattle.std.specs.Prelude.{◌≡◌, ◌⊎◌, ℕ, true, false, Some, [], ◌∷◌}
use Rattle.vb_tree.specs.BoundTree.{Ty, class}
use Rattle.vb_tree.specs.declared.value.Value6.{Value6}
use Rattle.bound_tree.specs.Tree.{typed, field, Term}
use Rattle.run_base.specs.Positions as position
use Rattle.run_base.specs.Positions.{Key, whole}
use Rattle.vb6_run.specs.Expressions as source
use Rattle.vb6_run.specs.Expressions.{at_field}
use Rattle.vb6_run.specs.Forms.{SourceLine}
use Rattle.vb6_run.specs.Shapes.{variable_shape}
use Rattle.vb6_run.specs.Store.{Address, root, SourceCalls, SourceFrame}
use Rattle.vb6_run.specs.Values.{Value, scalar}
use Rattle.net_run.specs.Expressions as target
use Rattle.net_run.specs.Lines.{NetFrame, NetLine, scope_of}
use Rattle.net_run.specs.Making.{Jobs}
use Rattle.net_run.specs.Members.{Code}
use Rattle.net_run.specs.Names as net_names
use Rattle.net_run.specs.Shapes as shape
use Rattle.net_run.specs.Store as net
use Rattle.net_run.specs.Values as net_value
use Rattle.written_trees.specs.Exprs.{exp_of}
use Rattle.written_trees.specs.Names.{Scope}
use Rattle.run_matches.specs.Addresses.{IsPlain, IsTarget, Same}
use Rattle.run_matches.specs.Agreeing.{Agrees}
use Rattle.run_matches.specs.CoveredExprs.{Uses, covers_object}
use Rattle.run_matches.specs.CoveredVariables.{covers_type}
use Rattle.run_matches.specs.Formed.{is_formed}
use Rattle.run_matches.specs.Frames.{FrameMatch}
use Rattle.run_matches.specs.Likeness.{LikeV, SameShape}
use Rattle.run_matches.specs.Maps.{World}
use Rattle.run_matches.specs.Match.{MemoryMatch}
use Rattle.run_matches.specs.Pledges.{Pledge}
use Rattle.run_matches.specs.Upgrades.{Upgrade, class_home, variable_key}
use Rattle.run_matches.specs.UserTypes.{is_class_type}
use Rattle.run_matches.specs.Runs.{CallsAgree}
use Rattle.run_statements.specs.Frames.{AllCalled, AreReadable, ArePlaced, IsMember, IsOpen, ScalarMatch, context_of, demands}
use Rattle.run_statements.specs.Written.{Passes}

-- The variable of an object on both sides, where it isn't seen yet whether there is an object.
pub record MemberMatch (U : Upgrade) (of_class variable : ℕ) (w : World) (x : source.Parts) (r : net_names.Parts) : Type 0 where
  pub object : Value6
  pub stands : x ≡ at_field (scalar (class of_class) object) of_class (variable_shape U.program.declarations variable) variable
  pub written : shape.Shape
  pub net_object : net_value.Value
  pub key : Key
  pub net_stands : r ≡ net_names.at_field written net_object key
  pub is_key : variable_key U variable ≡ Some key
  pub same : SameShape U (variable_shape U.program.declarations variable) written
  pub like : LikeV U w (scalar (class of_class) object) net_object

abbrev pub ReachedMember : Upgrade → (of_class variable : ℕ) → World → source.Parts → net_names.Reached → Type 0
ReachedMember U c v w x r = (ps : net_names.Parts) × (r ≡ net_names.found_at ps) × MemberMatch U c v w x ps

-- the parts of a variable of an object
abbrev pub MembersAgree : Upgrade → Type 1
MembersAgree U =
    (K : Pledge) (w : World) (p : ℕ) (f : SourceFrame) (g : NetFrame) (oracle : SourceCalls) (net_oracle : Jobs) (l : SourceLine) (k : NetLine) (c : Code)
    (T : Scope) (uses : Uses) (ty : Ty) (of_class i : ℕ) (t : Term) (member_type : Ty) (m : IsMember U of_class i member_type) → MemoryMatch U w
    → FrameMatch U K w p f g → T.declarations ≡ U.program.declarations → IsOpen (scope_of U.written c g k) → AreReadable U T uses
    → ArePlaced U p f (scope_of U.written c g k) T uses → CallsAgree U (Passes U) oracle net_oracle
    → AllCalled (demands U K p l k (scope_of U.written c g k) T) (typed (class of_class) t) → covers_object uses (typed (class of_class) t) ≡ true
    → Agrees U K w (ReachedMember U of_class m.number)
    (source.parts_of (context_of U oracle p f l) (typed ty (field (typed (class of_class) t) i)) w.src)
    (target.reach (scope_of U.written c g k) net_oracle false (exp_of T (typed ty (field (typed (class of_class) t) i))) w.net)

-- an object, and an address of its class at which what stands for it is looked up
pub record ObjectMatch (U : Upgrade) (of_class : ℕ) (w : World) (x : Value) (a : net.Address) : Type 0 where
  pub like : ScalarMatch U (class of_class) w x (net.looked_up a w.net)
  pub home : ℕ
  pub is_home : class_home U of_class ≡ Some home
  pub shaped : net.shape_at a ≡ shape.class home

-- an object that is kept or given, where it is written by itself
abbrev pub ObjectsAgree : Upgrade → Type 1
ObjectsAgree U =
    (K : Pledge) (w : World) (p : ℕ) (f : SourceFrame) (g : NetFrame) (oracle : SourceCalls) (net_oracle : Jobs) (l : SourceLine) (k : NetLine) (c : Code)
    (T : Scope) (uses : Uses) (of_class : ℕ) (t : Term) → MemoryMatch U w → FrameMatch U K w p f g → T.declarations ≡ U.program.declarations
    → IsOpen (scope_of U.written c g k) → AreReadable U T uses → ArePlaced U p f (scope_of U.written c g k) T uses → CallsAgree U (Passes U) oracle net_oracle
    → AllCalled (demands U K p l k (scope_of U.written c g k) T) (typed (class of_class) t) → covers_object uses (typed (class of_class) t) ≡ true
    → is_formed (typed (class of_class) t) ≡ true
    → Agrees U K w (ObjectMatch U of_class)
    (source.value_of (context_of U oracle p f l) (typed (class of_class) t) w.src)
    (target.address_of (scope_of U.written c g k) net_oracle (exp_of T (typed (class of_class) t)) w.net)

-- the address of a variable of an object that is there
pub record MemberFound (U : Upgrade) (K : Pledge) (variable : ℕ) (w : World) (a : Address) (b : net.Address) : Type 0 where
  pub object : ℕ
  pub stands : a ≡ root (variable_shape U.program.declarations variable) (whole (position.field object (variable ∷ [])))
  pub same : Same U K w a b
  pub target : IsTarget U a
  pub plain : IsPlain U w a

-- Where it is seen whether there is an object, both go on with its variable, or raise 91. The variable is a scalar of a covered type or an object.
abbrev pub MembersAreFoundBy : Upgrade → Pledge → Type 0
MembersAreFoundBy U K =
    (w : World) (of_class i : ℕ) (ty : Ty) (m : IsMember U of_class i ty) (x : source.Parts) (r : net_names.Parts)
    → (covers_type ty ≡ true) ⊎ (is_class_type ty ≡ true) → MemoryMatch U w → MemberMatch U of_class m.number w x r
    → Agrees U K w (MemberFound U K m.number) (source.finished x w.src) (target.finished r w.net)

abbrev pub MembersAreFound : Upgrade → Type 1
MembersAreFound U = (K : Pledge) → MembersAreFoundBy U K
