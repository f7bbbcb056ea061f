-- Places of user types, and what a With keeps: they are found on both sides, and stay so.
use Rattle.std.proofs.Common.{◌≡◌, ◌∙◌, ◌⊎◌, refl, ap, subst, inl, inr, ℕ, false, [], Some}
use Rattle.vb_tree.specs.BoundTree as types
use Rattle.vb_tree.specs.BoundTree.{Ty}
use Rattle.vb_tree.specs.declared.value.Value6.{Value6}
use Rattle.bound_tree.specs.Tree.{Expr, typed, with_object}
use Rattle.bound_tree.specs.declared.expression.Root as expression
use Rattle.run_base.specs.Outcomes.{gives, outside}
use Rattle.run_base.specs.Positions.{Position, Root}
use Rattle.vb6_run.specs.Expressions as source
use Rattle.vb6_run.specs.Expressions.{Context, at_address}
use Rattle.vb6_run.specs.Forms.{SourceLine}
use Rattle.vb6_run.specs.Shapes.{Shape, shape_by, user_shapes}
use Rattle.vb6_run.specs.Store.{Memory, SourceCalls, SourceFrame, constant, root}
use Rattle.vb6_run.specs.Values.{scalar}
use Rattle.net_run.specs.Lines.{NetFrame, NetLine, scope_of}
use Rattle.net_run.specs.Making.{Jobs}
use Rattle.net_run.specs.Members.{Code}
use Rattle.net_run.specs.Names as net_names
use Rattle.net_run.specs.Shapes as shape
use Rattle.net_run.specs.Store as net
use Rattle.net_run.specs.Values as net_value
use Rattle.written_trees.specs.Names.{Scope}
use Rattle.run_matches.specs.Addresses.{IsPlain, position_of}
use Rattle.run_matches.specs.CoveredExprs.{Uses}
use Rattle.run_matches.specs.Frames.{FrameMatch}
use Rattle.run_matches.specs.Likeness.{LikeV}
use Rattle.run_matches.specs.Maps.{World, is_auto_root}
use Rattle.run_matches.specs.Match.{MemoryMatch}
use Rattle.run_matches.specs.Pledges.{Later, Pledge}
use Rattle.run_matches.specs.Upgrades.{Upgrade, class_home}
use Rattle.run_statements.specs.Frames.{AreReadable, ArePlaced, StandsWithin, context_of}
use Rattle.agreeing_laws.specs.Promises.{Weaker}
use Rattle.agreeing_laws.proofs.FieldPlaces.{PlaceAbsent, PlaceFound}
use Rattle.agreeing_laws.proofs.Moves.{address_later, address_promised}
use Rattle.agreeing_laws.proofs.Scalars.{scalar_later}
use Rattle.agreeing_laws.proofs.WithPlaces.{IsWithObject, IsWithPlace, object_found, with_found}
use Rattle.expression_laws.specs.Images.{HaveImages}
use Rattle.expression_laws.proofs.Giving.{images_promised}
use Rattle.expression_laws.proofs.Images.{images_now}
use Rattle.expression_laws.proofs.LastingImages.{images_later, plain_later}
use Rattle.expression_laws.proofs.Me.{IsMe, me_later, me_now}
use Rattle.expression_laws.proofs.ModuleImages.{some_is}

-- what the source does with a place, in any memory; it stands in a variable that is no As New one
pub data PlaceIs (U : Upgrade) (K : Pledge) (C : Context) (S : net_names.Scope) (oracle : Jobs) (T : Scope) (w : World) (ty : Ty) (e : Expr) : Type 0 where
  missing : ((s : Memory) → source.parts_of C e s ≡ outside []) → PlaceIs U K C S oracle T w ty e
  placed : (r : Root) → is_auto_root U w.map r ≡ false → PlaceFound U K w C S oracle T r ty e → PlaceIs U K C S oracle T w ty e

-- an object that a With keeps, which stands on both sides
pub record IsKeptObject (U : Upgrade) (C : Context) (S : net_names.Scope) (w : World) (class : ℕ) (e : Expr) : Type 0 where
  pub object : Value6
  pub found : (s : Memory) → source.parts_of C e s ≡ gives [] (at_address (constant (scalar (types.class class) object))) s
  pub value : net_value.Value
  pub like : LikeV U w (scalar (types.class class) object) value
  pub home : ℕ
  pub is_home : class_home U class ≡ Some home
  pub around : S.around ≡ net.constant (shape.class home) value

pub data ObjectKept (U : Upgrade) (C : Context) (S : net_names.Scope) (w : World) (class : ℕ) (e : Expr) : Type 0 where
  none_kept : ((s : Memory) → source.parts_of C e s ≡ outside []) → ObjectKept U C S w class e
  kept : IsKeptObject U C S w class e → ObjectKept U C S w class e

-- what stands at a root is no As New variable where the root is none
pub root_plain : (U : Upgrade) (w : World) (s : Shape) (q : Position) (r : Root) → q.root ≡ r → is_auto_root U w.map r ≡ false → IsPlain U w (root s q)
root_plain U w s q r in_root plain z e =
    subst (λ (y : Position). is_auto_root U w.map y.root ≡ false) (some_is q z e) (ap (is_auto_root U w.map) in_root ∙ plain)

module _ (U : Upgrade) (p : ℕ) (f : SourceFrame) (g : NetFrame) (oracle : SourceCalls) (net_oracle : Jobs) (l : SourceLine) (k : NetLine) (c : Code)
    (T : Scope) (uses : Uses) where
  abbrev C : Context
  C = context_of U oracle p f l

  abbrev S : net_names.Scope
  S = scope_of U.written c g k

  abbrev Is : Pledge → World → Ty → Expr → Type 0
  Is K w ty e = PlaceIs U K C S net_oracle T w ty e

  -- variables that are used stand on both sides, and so do what a With keeps and Me
  pub record HavePlaces (K : Pledge) (w : World) : Type 0 where
    pub variables : HaveImages U K w f S T uses
    pub withs : (t : ℕ) (r : expression.Root) → StandsWithin U p l k (types.user t) r → PlaceIs U K C S net_oracle T w (types.user t) (typed (types.user t) (with_object r))
    pub objects : (class : ℕ) (r : expression.Root) → StandsWithin U p l k (types.class class) r → ObjectKept U C S w class (typed (types.class class) (with_object r))
    pub me : (class : ℕ) → uses.me ≡ Some class → IsMe U f S w class

  -- ---- later, and under another pledge

  is_later : (K : Pledge) (w v : World) (ty : Ty) (e : Expr) → Later U K w v → Is K w ty e → Is K v ty e
  is_later K w v ty e later (missing none) = missing none
  is_later K w v ty e later (placed r plain x) =
      let s : Shape = shape_by (user_shapes U.program.declarations) [] ty in
      placed r
      (subst (λ z. is_auto_root U v.map z ≡ false) x.in_root
      (plain_later U K w v (root s x.position) x.address later x.same (root_plain U w s x.position r x.in_root plain) x.position refl))
      (record {
        position = x.position;
        address = x.address;
        in_root = x.in_root;
        found = x.found;
        sound = x.sound;
        covers = x.covers;
        same = address_later U K w v (root s x.position) x.address later x.same;
        target = x.target;
        written = x.written;
      })

  is_promised : (K L : Pledge) (w : World) (ty : Ty) (e : Expr) → Weaker w K L → Is K w ty e → Is L w ty e
  is_promised K L w ty e less (missing none) = missing none
  is_promised K L w ty e less (placed r plain x) =
      placed r plain
      (record {
        position = x.position;
        address = x.address;
        in_root = x.in_root;
        found = x.found;
        sound = x.sound;
        covers = x.covers;
        same = address_promised U K L w w (root (shape_by (user_shapes U.program.declarations) [] ty) x.position) x.address less x.same;
        target = x.target;
        written = x.written;
      })

  object_later : (K : Pledge) (w v : World) (class : ℕ) (e : Expr) → Later U K w v → ObjectKept U C S w class e → ObjectKept U C S v class e
  object_later K w v class e later (none_kept none) = none_kept none
  object_later K w v class e later (kept x) =
      kept (record {
        object = x.object;
        found = x.found;
        value = x.value;
        like = scalar_later U K w v (types.class class) x.object x.value later x.like;
        home = x.home;
        is_home = x.is_home;
        around = x.around;
      })

  pub places_later : (K : Pledge) (w v : World) → MemoryMatch U w → Later U K w v → HavePlaces K w → HavePlaces K v
  places_later K w v start later have = record {
    variables = images_later U K w v f S T uses start later have.variables;
    withs = λ t r x. is_later K w v (types.user t) (typed (types.user t) (with_object r)) later (have.withs t r x);
    objects = λ class r x. object_later K w v class (typed (types.class class) (with_object r)) later (have.objects class r x);
    me = λ class used. me_later U f S class K w v later (have.me class used);
  }

  pub places_promised : (K L : Pledge) (w : World) → MemoryMatch U w → Weaker w K L → HavePlaces K w → HavePlaces L w
  places_promised K L w start less have = record {
    variables = images_promised U K L w start less f S T uses have.variables;
    withs = λ t r x. is_promised K L w (types.user t) (typed (types.user t) (with_object r)) less (have.withs t r x);
    objects = have.objects;
    me = have.me;
  }

  -- ---- where a line begins

  module _ (K : Pledge) (w : World) (frames : FrameMatch U K w p f g) where
    with_is : (t : ℕ) (r : expression.Root) → StandsWithin U p l k (types.user t) r → Is K w (types.user t) (typed (types.user t) (with_object r))
    with_is t r x =
        by (with_found U K w p f g frames oracle l k c net_oracle T t r x.head x.is_round x.line x.is_line x.covers x.is_head x.keeps x.kind x.same_aims)
      where
        by : IsWithPlace U K w p f g frames oracle l k c net_oracle T x.head t r ⊎ PlaceAbsent U C S net_oracle T (types.user t) (typed (types.user t) (with_object r))
            → Is K w (types.user t) (typed (types.user t) (with_object r))
        by (inl y) =
            placed y.root (subst (λ q. is_auto_root U w.map q ≡ false) y.place.in_root (y.plain y.place.position (ap position_of y.stands))) y.place
        by (inr y) = missing y.missing

    kept_is : (class : ℕ) (r : expression.Root) → StandsWithin U p l k (types.class class) r → ObjectKept U C S w class (typed (types.class class) (with_object r))
    kept_is class r x =
        by (object_found U K w p f g frames oracle l k c net_oracle T class r x.head x.is_round x.line x.is_line x.covers x.is_head x.keeps x.same_aims)
      where
        by : IsWithObject U K w p f g frames oracle l k c net_oracle T class r ⊎ ((s : Memory) → source.parts_of C (typed (types.class class) (with_object r)) s ≡ outside [])
            → ObjectKept U C S w class (typed (types.class class) (with_object r))
        by (inl y) = kept (record {
          object = y.object;
          found = y.found;
          value = y.value;
          like = y.like;
          home = y.home;
          is_home = y.is_home;
          around = y.around;
        })
        by (inr none) = none_kept none

    pub places_now : MemoryMatch U w → T.declarations ≡ U.program.declarations → AreReadable U T uses → ArePlaced U p f S T uses → HavePlaces K w
    places_now start declarations readable stands = record {
      variables = images_now U K w p f g S refl refl T declarations frames uses start readable stands;
      withs = with_is;
      objects = kept_is;
      me = λ class used. me_now U f S class K w p g frames refl (stands.me class used) (stands.here class used).is_home (stands.here class used).is_class;
    }
