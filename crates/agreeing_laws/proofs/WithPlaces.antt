-- What a covered With keeps is a place or an object on both sides, or nothing on either.
use Rattle.std.proofs.Common.{◌≡◌, ◌∙◌, ◌⊎◌, inl, inr, refl, sym, ap, subst, ℕ, Bool, true, Some, List, [], ◌∷◌, true≢false, eqb-true}
use Rattle.vb_tree.specs.BoundTree as types
use Rattle.vb_tree.specs.BoundTree.{Ty}
use Rattle.vb_tree.specs.declared.value.Value6.{Value6}
use Rattle.bound_tree.specs.Targets.{with_round}
use Rattle.bound_tree.specs.Tree.{Expr, typed, with_object, Line}
use Rattle.bound_tree.specs.declared.expression.Root as expression
use Rattle.bound_tree.specs.declared.expression.Root.TheVariants as at
use Rattle.bound_facts.proofs.Chains.{both_true}
use Rattle.bound_facts.specs.Locks.{is_same_type}
use Rattle.bound_facts.specs.Node as node
use Rattle.run_base.specs.Frames.{Kept, keeps_nothing, keeps_limit, keeps_value, keeps_address}
use Rattle.run_base.specs.Machines.{nth_line}
use Rattle.run_base.specs.Outcomes.{gives, outside, then, some_of}
use Rattle.run_base.specs.Positions.{Root}
use Rattle.vb6_run.specs.Expressions as source
use Rattle.vb6_run.specs.Expressions.{Context, at_address, kept_parts}
use Rattle.vb6_run.specs.Forms.{SourceLine}
use Rattle.vb6_run.specs.Shapes.{Shape, user_shapes}
use Rattle.vb6_run.specs.Store as store
use Rattle.vb6_run.specs.Store.{Address, Memory, SourceCalls, SourceFrame}
use Rattle.vb6_run.specs.Values.{Dimension, Value, Values, elements, scalar}
use Rattle.net_run.specs.Lines.{NetFrame, NetLine, around_by, kept_address, scope_of}
use Rattle.net_run.specs.Making.{Jobs}
use Rattle.net_run.specs.Members.{Code}
use Rattle.net_run.specs.Names as net_names
use Rattle.net_run.specs.Shapes as shape
use Rattle.net_run.specs.Store as net
use Rattle.net_run.specs.Values as net_value
use Rattle.written_trees.specs.Names.{Scope}
use Rattle.run_matches.specs.Addresses.{HasHome, IsPlain, IsTarget, KeptMatch, Same, both_nothing, both_limits, both_choices, both_objects, both_arrays, both_addresses}
use Rattle.run_matches.specs.CoveredVariables.{covers_user}
use Rattle.run_matches.specs.CoveredLines.{covers_line, is_same_root, is_with, keeps_by}
use Rattle.run_matches.specs.Frames.{FrameMatch, KeepsPlace, WithPlace, is_exact_head, lines_of}
use Rattle.run_matches.specs.Likeness.{LikeV}
use Rattle.run_matches.specs.Maps.{World}
use Rattle.run_matches.specs.Pledges.{Pledge}
use Rattle.run_matches.specs.Upgrades.{Upgrade, class_home, runnable_of}
use Rattle.agreeing_laws.proofs.FieldPlaces.{PlaceAbsent, PlaceFound}
use Rattle.agreeing_laws.proofs.Members.{LeadsTo, with_leads}

-- ---- the head

pub same_user : (t : ℕ) (ty : Ty) → is_same_type (types.user t) ty ≡ true → ty ≡ types.user t
same_user t (types.user u) e = ap types.user (sym (eqb-true t u e))
same_user t _ e = absurd (true≢false (sym e))

pub same_roots : (r s : expression.Root) → is_same_root r s ≡ true → r ≡ s
same_roots (at.Variable v) (at.Variable u) e = ap (λ n. at.Variable (record { 0 = n })) (eqb-true v.0 u.0 e)
same_roots at.Object at.Object e = refl
same_roots at.Temporary at.Temporary e = refl
same_roots _ _ e = absurd (true≢false (sym e))

pub class_is : (class : ℕ) (ty : Ty) → is_same_type (types.class class) ty ≡ true → ty ≡ types.class class
class_is class (types.class d) e = ap types.class (sym (eqb-true class d e))
class_is class _ e = absurd (true≢false (sym e))

-- the expression of a head that keeps what is of a type, and of a root
pub record IsHeadOf (es : List Expr) (ty : Ty) (r : expression.Root) : Type 0 where
  pub expression : Expr
  pub are : es ≡ expression ∷ []
  pub of_type : is_same_type ty (node.type_at expression) ≡ true
  pub of_root : r ≡ node.root expression

pub head_of : (es : List Expr) (ty : Ty) (r : expression.Root) → keeps_by es ty r ≡ true → IsHeadOf es ty r
head_of [] ty r h = absurd (true≢false (sym h))
head_of (e ∷ []) ty r h =
    let both = both_true (is_same_type ty (node.type_at e)) (is_same_root r (node.root e)) h in
    record { expression = e; are = refl; of_type = both.0; of_root = same_roots r (node.root e) both.1 }
head_of (e ∷ d ∷ es) ty r h = absurd (true≢false (sym h))

-- ---- what it keeps

no_address : (y : net_value.Value) (a : net.Address) → ◌≡◌ {A = Kept net_value.Value net.Address} (keeps_value y) (keeps_address a) → ⊥
no_address y a e = cc e

scalar_type : (s : Ty) (x : Value6) (t : Ty) (y : Value6) → ◌≡◌ {A = Value} (scalar s x) (scalar t y) → s ≡ t
scalar_type s x t y e = cc e

no_scalar : (d : Shape) (dims : List Dimension) (xs : Values) (t : Ty) (y : Value6) → ◌≡◌ {A = Value} (elements d dims xs) (scalar t y) → ⊥
no_scalar d dims xs t y e = cc e

module _ (U : Upgrade) (K : Pledge) (w : World) (p : ℕ) (f : SourceFrame) (g : NetFrame) (F : FrameMatch U K w p f g) (oracle : SourceCalls) (l : SourceLine)
    (k : NetLine) (c : Code) (net_oracle : Jobs) (T : Scope) where
  abbrev C : Context
  C = record { runnable = runnable_of U; oracle = oracle; procedure = p; frame = f; aims = l.aims }

  abbrev S : net_names.Scope
  S = scope_of U.written c g k

  -- the place that the head of a number keeps
  pub record IsWithPlace (head t : ℕ) (r : expression.Root) : Type 0 where
    pub kept : Address
    pub is_kept : f.kept head ≡ keeps_address kept
    pub root : Root
    pub place : PlaceFound U K w C S net_oracle T root (types.user t) (typed (types.user t) (with_object r))
    pub stands : kept ≡ store.root (user_shapes U.program.declarations t) place.position
    pub plain : IsPlain U w kept

  -- the object that a head keeps, which is looked up in its class
  pub record IsWithObject (class : ℕ) (r : expression.Root) : Type 0 where
    pub object : Value6
    pub found : (s : Memory) → source.parts_of C (typed (types.class class) (with_object r)) s ≡ gives [] (at_address (store.constant (scalar (types.class class) object))) s
    pub value : net_value.Value
    pub like : LikeV U w (scalar (types.class class) object) value
    pub home : ℕ
    pub is_home : class_home U class ≡ Some home
    pub around : S.around ≡ net.constant (shape.class home) value

  -- where the line stands in a With
  module _ (ty : Ty) (r : expression.Root) (head : ℕ) (is_round : with_round l.aims ≡ Some head) (aims : k.aims ≡ l.aims) where
    abbrev e : Expr
    e = typed ty (with_object r)

    around_is : (y : Kept net_value.Value net.Address) → g.kept head ≡ y → S.around ≡ kept_address y
    around_is y is = ap (λ a. around_by g (with_round a)) aims ∙ ap (around_by g) is_round ∙ ap kept_address is

    parts_are : (x : Kept Value Address) → f.kept head ≡ x → (s : Memory) → source.parts_of C e s ≡ then (kept_parts x s) (source.as_new C (with_object r))
    parts_are x is s =
        ap (λ o. then (some_of o (λ h w. kept_parts (f.kept h) w) s) (source.as_new C (with_object r))) is_round
        ∙ ap (λ z. then (kept_parts z s) (source.as_new C (with_object r))) is

    leads : (b : net.Address) → S.around ≡ b → LeadsTo S net_oracle T e b
    leads b is = subst (λ z. LeadsTo S net_oracle T e z) is (with_leads S net_oracle T ty r)

  -- which is covered, and on a user type
  module _ (t : ℕ) (r : expression.Root) (head : ℕ) (is_round : with_round l.aims ≡ Some head) (line : Line) (is_line : nth_line (lines_of U p) head ≡ Some line)
      (covers : covers_line U.program p line ≡ true) (is_head : is_with line.source.form ≡ true) (keeps : keeps_by line.bindings.exprs (types.user t) r ≡ true)
      (user : covers_user U.program.declarations t ≡ true)
      (aims : k.aims ≡ l.aims) where
    abbrev ty : Ty
    ty = types.user t

    abbrev Found : Type 0
    Found = IsWithPlace head t r ⊎ PlaceAbsent U C S net_oracle T ty (typed ty (with_object r))

    absent : (x : Kept Value Address) → f.kept head ≡ x → ((s : Memory) → kept_parts x s ≡ outside []) → S.around ≡ net.nowhere → Found
    absent x is none around = inr (record {
      missing = λ s. parts_are ty r head is_round aims x is s ∙ ap (λ z. then z (source.as_new C (with_object r))) (none s);
      covers = user;
      written = leads ty r head is_round aims net.nowhere around;
    })

    placed : (a : Address) (b : net.Address) → f.kept head ≡ keeps_address a → S.around ≡ b → WithPlace U K w t a b → Found
    placed a b is around x = inl (record {
      kept = a;
      is_kept = is;
      root = x.position.root;
      place = record {
        position = x.position;
        address = b;
        in_root = refl;
        found = λ s. parts_are ty r head is_round aims (keeps_address a) is s ∙ ap (λ z. gives [] (at_address z) s) x.stands;
        sound = x.sound;
        covers = user;
        same = subst (λ z. Same U K w z b) x.stands x.same;
        target = subst (λ z. IsTarget U z) x.stands x.target;
        written = leads ty r head is_round aims b around;
      };
      stands = x.stands;
      plain = x.plain;
    })

    by_kept : (exact : Bool) (d : Expr) → node.type_at d ≡ ty → (x : Kept Value Address) (y : Kept net_value.Value net.Address) → f.kept head ≡ x
        → g.kept head ≡ y → KeptMatch U K w exact x y → KeepsPlace U K w (d ∷ []) x y → Found
    by_kept exact d is_user _ _ is there both_nothing places =
        absent keeps_nothing is (λ s. refl) (around_is ty r head is_round aims keeps_nothing there)
    by_kept exact d is_user _ _ is there (both_limits a b tx tz y s z v same m n) places =
        absent (keeps_limit a (scalar tx y) (scalar tz s)) is (λ s. refl) (around_is ty r head is_round aims (keeps_limit b z v) there)
    by_kept exact d is_user _ _ is there (both_choices tx x y m) places = absurd (places.0 t is_user)
    by_kept exact d is_user _ _ is there (both_objects tx x s y m home) places = absurd (places.0 t is_user)
    by_kept exact d is_user _ _ is there (both_arrays e dims xs s y) places = absurd (places.0 t is_user)
    by_kept exact d is_user _ _ is there (both_addresses a b m) places =
        placed a b is (around_is ty r head is_round aims (keeps_address b) there) (places.0 t is_user)

    pub with_found : Found
    with_found =
        let h : IsHeadOf line.bindings.exprs ty r = head_of line.bindings.exprs ty r keeps in
        by_kept (is_exact_head U (nth_line (lines_of U p) head)) h.expression (same_user t (node.type_at h.expression) h.of_type) (f.kept head) (g.kept head)
        refl refl (F.kept head)
        (subst (λ es. KeepsPlace U K w es (f.kept head) (g.kept head)) h.are (F.covered_withs head line is_line covers is_head))

  -- or on an object
  module _ (class : ℕ) (r : expression.Root) (head : ℕ) (is_round : with_round l.aims ≡ Some head) (line : Line) (is_line : nth_line (lines_of U p) head ≡ Some line)
      (covers : covers_line U.program p line ≡ true) (is_head : is_with line.source.form ≡ true) (keeps : keeps_by line.bindings.exprs (types.class class) r ≡ true)
      (aims : k.aims ≡ l.aims) where
    abbrev tc : Ty
    tc = types.class class

    -- or there is none
    abbrev FoundObject : Type 0
    FoundObject = IsWithObject class r ⊎ ((s : Memory) → source.parts_of C (typed tc (with_object r)) s ≡ outside [])

    no_object : (x : Kept Value Address) → f.kept head ≡ x → ((s : Memory) → kept_parts x s ≡ outside []) → FoundObject
    no_object x is none = inr (λ s. parts_are tc r head is_round aims x is s ∙ ap (λ z. then z (source.as_new C (with_object r))) (none s))

    object_kept : (tx : Ty) (x : Value6) (d : shape.Shape) (y : net_value.Value) → f.kept head ≡ keeps_value (scalar tx x)
        → g.kept head ≡ keeps_address (net.constant d y) → LikeV U w (scalar tx x) y → HasHome U tx d → tx ≡ tc → FoundObject
    object_kept tx x d y is there like has same =
        let home : HasHome U tc d = subst (λ z. HasHome U z d) same has in
        inl (record {
          object = x;
          found = λ s.
              parts_are tc r head is_round aims (keeps_value (scalar tx x)) is s ∙ ap (λ z. gives [] (at_address (store.constant (scalar z x))) s) same;
          value = y;
          like = subst (λ z. LikeV U w (scalar z x) y) same like;
          home = home.0;
          is_home = home.1;
          around = around_is tc r head is_round aims (keeps_address (net.constant d y)) there ∙ ap (λ z. net.constant z y) home.2;
        })

    object_by : (exact : Bool) (d : Expr) → node.type_at d ≡ tc → (x : Kept Value Address) (y : Kept net_value.Value net.Address) → f.kept head ≡ x
        → g.kept head ≡ y → KeptMatch U K w exact x y → KeepsPlace U K w (d ∷ []) x y → FoundObject
    object_by exact d of _ _ is there both_nothing places = no_object keeps_nothing is (λ s. refl)
    object_by exact d of _ _ is there (both_limits a b tx tz y s z v same m n) places = no_object (keeps_limit a (scalar tx y) (scalar tz s)) is (λ s. refl)
    object_by exact d of _ _ is there (both_choices tx x y m) places = absurd (no_address y (places.1 class of).address (places.1 class of).is_kept)
    object_by exact d of _ _ is there (both_objects tx x s y m home) places =
        object_kept tx x s y is there m home (scalar_type tx x tc (places.1 class of).object (places.1 class of).is_object)
    object_by exact d of _ _ is there (both_arrays e dims xs s y) places = absurd (no_scalar e dims xs tc (places.1 class of).object (places.1 class of).is_object)
    object_by exact d of _ _ is there (both_addresses a b m) places = absurd (places.1 class of)

    pub object_found : FoundObject
    object_found =
        let h : IsHeadOf line.bindings.exprs tc r = head_of line.bindings.exprs tc r keeps in
        object_by (is_exact_head U (nth_line (lines_of U p) head)) h.expression (class_is class (node.type_at h.expression) h.of_type) (f.kept head) (g.kept head)
        refl refl (F.kept head)
        (subst (λ es. KeepsPlace U K w es (f.kept head) (g.kept head)) h.are (F.covered_withs head line is_line covers is_head))
