-- A field of a place of a user type is a place on both sides, to which the path leads that is written for it.
use Rattle.std.proofs.Common.{◌≡◌, refl, ap, subst, ◌∙◌, inl, inr, ℕ, zero, suc, Bool, true, false, cond, List, [], ◌∷◌, Option, Some, None, option_map, sym, true≢false}
use Rattle.std.specs.Prelude.{slice_get}
use Rattle.vb_tree.specs.BoundTree.{Ty}
use Rattle.vb_tree.specs.BoundTree as types
use Rattle.bound_tree.specs.Tree.{Declarations, Variable, Expr, typed, Term, field}
use Rattle.bound_facts.specs.Members.{field_of}
use Rattle.bound_facts.specs.Node.{auto_class, class_in, variable_number}
use Rattle.net_tree.specs.Tree.{path}
use Rattle.run_base.specs.Outcomes.{after, gives, outside, then, some_of}
use Rattle.run_base.specs.Positions.{Position, Root, inner}
use Rattle.vb6_run.specs.Expressions as source
use Rattle.vb6_run.specs.Expressions.{Context, Parts, at_address}
use Rattle.vb6_run.specs.Runnables.{declarations_of}
use Rattle.vb6_run.specs.Shapes.{Shape, simple, group, Shapes, no_shapes, next_shape, shape_at, shape_by, user_shapes}
use Rattle.vb6_run.specs.Store.{Address, root, item, Memory, field_address}
use Rattle.net_run.specs.Making.{Jobs}
use Rattle.net_run.specs.Names as net_names
use Rattle.net_run.specs.Names.{at_place}
use Rattle.net_run.specs.Shapes as shape
use Rattle.net_run.specs.Store as net
use Rattle.written_trees.specs.Exprs.{exp_of, made_if, member_of}
use Rattle.written_trees.specs.Names.{Scope, variable_name}
use Rattle.run_matches.specs.Addresses.{AllMatched, AllRanked, IsTarget, Same, same_item, same_root}
use Rattle.run_matches.specs.CoveredVariables.{covers_field_type, covers_place_type, covers_user}
use Rattle.run_matches.specs.Maps.{World, moved_at}
use Rattle.run_matches.specs.Likeness.{SameShape}
use Rattle.run_matches.specs.Pledges.{Pledge}
use Rattle.run_matches.specs.SoundShapes.{AreSoundShapes, IsField, IsSoundShape}
use Rattle.run_matches.specs.Upgrades.{Upgrade, field_name, is_flagged_some, runnable_of, type_of_some}
use Rattle.agreeing_laws.proofs.FieldNames.{is_first_named, name_itself}
use Rattle.agreeing_laws.proofs.Members.{LeadsTo, member_leads}
use Rattle.agreeing_laws.proofs.Fields.{GroupImage, SameField, group_parts, same_of_field}
use Rattle.agreeing_laws.proofs.UserShapes.{FieldShape, field_shape_is}

-- ---- addresses

root_shape : (z t : Shape) (p q : Position) → root z p ≡ root t q → z ≡ t
root_shape z t p q e = cc

root_position : (z t : Shape) (p q : Position) → root z p ≡ root t q → p ≡ q
root_position z t p q e = cc

pub group_image : (U : Upgrade) (K : Pledge) (w : World) (s : ℕ) (fs : Shapes) (q : Position) (a : Address) (b : net.Address) → a ≡ root (group s fs) q
    → Same U K w a b → GroupImage U w s fs b q
group_image U K w s fs q _ _ is (same_root z d p sh m r) =
    let shaped : z ≡ group s fs = root_shape z (group s fs) p q is in
    subst (λ y. GroupImage U w s fs (net.root d (moved_at U w.map p)) y) (root_position z (group s fs) p q is)
    (group_parts U K w s fs d p (subst (λ y. SameShape U y d) shaped sh) (subst (λ y. AllMatched U w y p) shaped m)
    (subst (λ y. AllRanked U w y d p) shaped r))
group_image U K w s fs q _ _ is (same_item e t d p k j inside keeps m has part sh) = absurd (cc is)

pub sound_field : (U : Upgrade) (t i k : ℕ) (fs : Shapes) (s : Shape) → AreSoundShapes U t i fs → shape_at fs k ≡ Some s → IsSoundShape U s
sound_field U t i k no_shapes s c e = cc
sound_field U t i zero (next_shape z rest) s c e = subst (λ y. IsSoundShape U y) (the_shape z s e) c.1
  where
    the_shape : (a b : Shape) → Some a ≡ Some b → a ≡ b
    the_shape a b e = cc
sound_field U t i (suc k) (next_shape z rest) s c e = sound_field U t (suc i) k rest s c.2 e

-- a field can be written where its variable can
pub field_target : (U : Upgrade) (s t : Shape) (q : Position) (j : ℕ) → IsTarget U (root s q) → IsTarget U (root t (inner q j))
field_target U s t q j (inl (inl x)) =
    inl (inl (record { place = x.place; shape = t; path = j ∷ x.path; stands = ap (λ z. root t (inner z j)) (root_position s x.shape q _ x.stands) }))
field_target U s t q j (inl (inr (inl x))) =
    inl (inr (inl (record {
      variable = x.variable;
      key = x.key;
      of_shape = t;
      path = j ∷ x.path;
      stands = ap (λ z. root t (inner z j)) (root_position s x.of_shape q _ x.stands);
      is_key = x.is_key;
      differs = x.differs;
    })))
field_target U s t q j (inl (inr (inr x))) =
    inl (inr (inr (record {
      object = x.object;
      variable = x.variable;
      key = x.key;
      of_shape = t;
      path = j ∷ x.path;
      stands = ap (λ z. root t (inner z j)) (root_position s x.of_shape q _ x.stands);
      is_key = x.is_key;
      differs = x.differs;
    })))
field_target U s t q j (inr x) = absurd (no_item x.stands)
  where
    no_item : {ty : Ty} {p : Position} {i : ℕ} → root s q ≡ item (simple ty) p i [] → ⊥
    no_item e = cc

-- a field of a type that is no class makes no object
pub no_object : (ty : Ty) (o : Option Variable) → type_of_some o ≡ Some ty → class_in ty ≡ None → auto_class o ≡ None
no_object ty None e none = cc
no_object ty (Some y) e none = ap (λ z. cond y.auto z None) (ap class_in (the_type y.ty ty e) ∙ none) ∙ none_both y.auto
  where
    the_type : (a b : Ty) → Some a ≡ Some b → a ≡ b
    the_type a b e = cc

    none_both : (b : Bool) → ◌≡◌ {A = Option ℕ} (cond b None None) None
    none_both true = refl
    none_both false = refl

-- ---- what is written

field_class : (U : Upgrade) (s j : ℕ) (fty : Ty) → IsField U s j fty → class_in fty ≡ None
    → auto_class (variable_number U.program.declarations.vars (field_of U.program.declarations (types.user s) j)) ≡ None
field_class U s j fty i none =
    ap (λ o. auto_class (variable_number U.program.declarations.vars o)) i.declares ∙ no_object fty (slice_get U.program.declarations.vars i.variable) i.is_type none

-- a field is written as a member
field_exp : (U : Upgrade) (T : Scope) → T.declarations ≡ U.program.declarations → (s j : ℕ) (fty : Ty) (tm : Term) (ty : Ty) → IsField U s j fty → class_in fty ≡ None
    → exp_of T (typed ty (field (typed (types.user s) tm) j))
    ≡ member_of (typed (types.user s) tm) (exp_of T (typed (types.user s) tm)) (field_name U s j)
field_exp U T declared s j fty tm ty i none =
    let e : Expr = typed (types.user s) tm in
    ap (λ (E : Declarations). made_if E (auto_class (variable_number E.vars (field_of E (types.user s) j)))
    (member_of e (exp_of T e) (variable_name E (field_of E (types.user s) j)))) declared
    ∙ ap (λ o. made_if U.program.declarations o (member_of e (exp_of T e) (field_name U s j))) (field_class U s j fty i none)

-- ---- places

-- what a field may hold may stand in a place
field_in_place : (D : Declarations) (ty : Ty) → covers_field_type (covers_user D) ty ≡ true → covers_place_type D ty ≡ true
field_in_place D types.boolean h = refl
field_in_place D types.byte h = refl
field_in_place D types.integer h = refl
field_in_place D types.long h = refl
field_in_place D types.currency h = refl
field_in_place D types.str h = refl
field_in_place D (types.user u) h = h
field_in_place D _ h = absurd (true≢false (sym h))

module _ (U : Upgrade) (K : Pledge) (w : World) (C : Context) (S : net_names.Scope) (oracle : Jobs) (T : Scope) (r : Root) where
  abbrev D : Declarations
  D = U.program.declarations

  abbrev shape_in : Ty → Shape
  shape_in ty = shape_by (user_shapes U.program.declarations) [] ty

  -- a place of a type in the variable at a root, whatever the memory; what is written for it leads to its image
  pub record PlaceFound (ty : Ty) (e : Expr) : Type 0 where
    pub position : Position
    pub address : net.Address
    pub in_root : position.root ≡ r
    pub found : (s : Memory) → source.parts_of C e s ≡ gives [] (at_address (root (shape_in ty) position)) s
    pub sound : IsSoundShape U (shape_in ty)
    pub covers : covers_place_type D ty ≡ true
    pub same : Same U K w (root (shape_in ty) position) address
    pub target : IsTarget U (root (shape_in ty) position)
    pub written : LeadsTo S oracle T e address

  module _ (runs : C.runnable ≡ runnable_of U) (declared : T.declarations ≡ U.program.declarations) (s j : ℕ) (tm : Term) (fty ty : Ty)
      (i : IsField U s j fty) (none : class_in fty ≡ None) (x : PlaceFound (types.user s) (typed (types.user s) tm)) where
    abbrev e : Expr
    e = typed (types.user s) tm

    abbrev the_field : Expr
    the_field = typed ty (field e j)

    shaped : FieldShape D s j fty
    shaped = field_shape_is D s j i.variable fty x.covers i.declares i.is_type

    stands : root (user_shapes D s) x.position ≡ root (group s shaped.shapes) x.position
    stands = ap (λ z. root z x.position) shaped.is_group

    image : GroupImage U w s shaped.shapes x.address x.position
    image = group_image U K w s shaped.shapes x.position (root (user_shapes D s) x.position) x.address stands x.same

    inside : SameField U K w s j (shape_in fty) image.written x.position
    inside =
        same_of_field U K w s j (shape_in fty) shaped.shapes image.written x.position name_itself image.same image.matched image.ranked shaped.is_shape
        (ap (is_flagged_some U) i.declares ∙ i.sound) (is_first_named U s j i.variable x.covers i.declares)

    abbrev name : List ℕ
    name = field_name U s j

    abbrev new : Address
    new = root (shape_in fty) (inner x.position j)

    abbrev there : net.Address
    there = net.root inside.shape (inner (moved_at U w.map x.position) j)

    reached : (t : net.Memory) → net_names.member_at S x.address name t ≡ at_place there
    reached t =
        ap (λ b. net_names.member_at S b name t) image.stands
        ∙ ap (λ o. at_place (net.inner_of (net.root (shape.structured image.home image.member image.written) (moved_at U w.map x.position)) o)) inside.found

    not_made : (p : Parts) (m : Memory) → source.as_new C (field e j) p m ≡ gives [] p m
    not_made p m =
        ap (λ R. source.made_for C (auto_class (variable_number (declarations_of R).vars (field_of (declarations_of R) (types.user s) j))) p m) runs
        ∙ ap (λ o. source.made_for C o p m) (field_class U s j fty i none)

    field_parts_are : (m : Memory) → source.parts_of C the_field m ≡ gives [] (at_address new) m
    field_parts_are m =
        ap (λ z. then (then z (source.field_parts C e j (types.user s))) (source.as_new C (field e j))) (x.found m)
        ∙ ap (λ o. then (after [] (after [] (some_of o (λ b v. gives [] (at_address b) v) m))) (source.as_new C (field e j)))
        (ap (λ z. field_address j z m.held) stands ∙ ap (λ o. option_map (λ z. root z (inner x.position j)) o) shaped.is_shape)
        ∙ ap (after []) (not_made (at_address new) m)

    pub field_found : PlaceFound fty the_field
    field_found = record {
      position = inner x.position j;
      address = there;
      in_root = x.in_root;
      found = field_parts_are;
      sound = sound_field U s 0 j shaped.shapes (shape_in fty) (subst (λ z. IsSoundShape U z) shaped.is_group x.sound) shaped.is_shape;
      covers = field_in_place D fty shaped.covers;
      same = inside.same;
      target = field_target U (group s shaped.shapes) (shape_in fty) x.position j (subst (λ z. IsTarget U z) stands x.target);
      written =
          member_leads S oracle T e x.address there x.written ty j name (field_exp U T declared s j fty tm ty i none) reached;
    }

-- where a With hasn't kept anything, the source is outside and the target nowhere
pub record PlaceAbsent (U : Upgrade) (C : Context) (S : net_names.Scope) (oracle : Jobs) (T : Scope) (ty : Ty) (e : Expr) : Type 0 where
  pub missing : (s : Memory) → source.parts_of C e s ≡ outside []
  pub covers : covers_place_type U.program.declarations ty ≡ true
  pub written : LeadsTo S oracle T e net.nowhere

-- so are the fields of what it would keep
pub field_absent : (U : Upgrade) (C : Context) (S : net_names.Scope) (oracle : Jobs) (T : Scope) → T.declarations ≡ U.program.declarations → (s j : ℕ) (tm : Term)
    (fty ty : Ty) → IsField U s j fty → class_in fty ≡ None → PlaceAbsent U C S oracle T (types.user s) (typed (types.user s) tm)
    → PlaceAbsent U C S oracle T fty (typed ty (field (typed (types.user s) tm) j))
field_absent U C S oracle T declared s j tm fty ty i none x =
    let e : Expr = typed (types.user s) tm in
    record {
      missing = λ m. ap (λ r. then (then r (source.field_parts C e j (types.user s))) (source.as_new C (field e j))) (x.missing m);
      covers = field_in_place U.program.declarations fty (field_shape_is U.program.declarations s j i.variable fty x.covers i.declares i.is_type).covers;
      written = member_leads S oracle T e net.nowhere net.nowhere x.written ty j (field_name U s j) (field_exp U T declared s j fty tm ty i none) (λ t. refl);
    }
