-- Places of user types and objects: variables, what a With keeps, and fields of these, are found on both sides whatever was done before.
use Rattle.std.proofs.Common.{◌≡◌, ◌∙◌, ◌⊎◌, refl, sym, ap, subst, inl, inr, ⊎_elim, ℕ, zero, suc, nat_eq, Bool, true, false, not, ◌&&◌, Option, Some, None, List, [], slice_get, true≢false}
use Rattle.std.proofs.lemmas.Bool.{or_right}
use Rattle.std.specs.Map.{lookup}
use Rattle.vb_tree.specs.BoundTree as types
use Rattle.vb_tree.specs.BoundTree.{Ty}
use Rattle.vb_tree.specs.declared.declared.VarId.{VarId}
use Rattle.vb_tree.specs.Tree.{Form}
use Rattle.vb_tree.specs.Tree as source_form
use Rattle.bound_tree.specs.Tree.{Declarations, Expr, Line, typed, Term, variable, field, with_object}
use Rattle.bound_tree.specs.declared.expression.Root as expression
use Rattle.bound_facts.proofs.Chains.{both_true}
use Rattle.bound_facts.specs.Effects.{is_outside}
use Rattle.bound_facts.specs.Node as node
use Rattle.bound_facts.specs.Node.{class_in}
use Rattle.bound_facts.specs.SelfMade.{is_mine}
use Rattle.run_base.specs.Outcomes.{after, gives, then, some_of}
use Rattle.run_base.specs.Frames.{keeps_address}
use Rattle.run_base.specs.Machines.{nth_line}
use Rattle.run_base.specs.Positions.{Position, Root, made, whole}
use Rattle.written_trees.specs.Names.{Scope, variable_path}
use Rattle.vb6_run.specs.Expressions as source
use Rattle.vb6_run.specs.Expressions.{at_address}
use Rattle.vb6_run.specs.Forms.{SourceLine}
use Rattle.vb6_run.specs.Lines.{let_to, store_at}
use Rattle.vb6_run.specs.Shapes.{Shape, shape_by, user_shapes}
use Rattle.vb6_run.specs.Store.{Address, root, Memory, SourceCalls, SourceFrame}
use Rattle.vb6_run.specs.Values.{Value}
use Rattle.net_run.specs.Expressions as target
use Rattle.net_run.specs.Lines.{NetFrame, NetLine, scope_of}
use Rattle.net_run.specs.Making.{Jobs}
use Rattle.net_run.specs.Members.{Code}
use Rattle.net_run.specs.Names as net_names
use Rattle.net_run.specs.Names.{at_place, starts}
use Rattle.net_run.specs.Shapes as shape
use Rattle.net_run.specs.Store as net_store
use Rattle.run_matches.specs.Addresses.{IsInPlace, IsTarget, Same, position_of, same_item, same_root}
use Rattle.run_matches.specs.CoveredVariables.{covers_group_type, covers_type}
use Rattle.run_matches.specs.CoveredExprs.{Uses, covers_base, covers_place, has_scalar, is_scalar_type, is_type}
use Rattle.run_matches.specs.CoveredLines.{is_with}
use Rattle.run_matches.specs.Frames.{FrameMatch, HasPlace, OwnsAll, StandsAs, is_own_first, is_own_head, is_own_line, is_own_of, lines_of}
use Rattle.run_matches.specs.Maps.{World, is_auto_root, moved_at}
use Rattle.run_matches.specs.Match.{MemoryMatch}
use Rattle.run_matches.specs.Pledges.{IsOld, Pledge}
use Rattle.run_matches.specs.SoundShapes.{IsField}
use Rattle.run_matches.specs.Upgrades.{Upgrade}
use Rattle.run_matches.specs.UserTypes.{is_user}
use Rattle.run_statements.specs.Frames.{AllCalled, AreReadable, ArePlaced, Demands, IsGroup, MayChange, StandsWithin, context_of, demands, type_shape}
use Rattle.agreeing_laws.proofs.FieldPaths.{path_more}
use Rattle.agreeing_laws.proofs.FieldPlaces.{PlaceAbsent, PlaceFound, field_absent, field_found}
use Rattle.agreeing_laws.proofs.Members.{is_alone, path_leads}
use Rattle.agreeing_laws.proofs.WithPlaces.{IsHeadOf, IsWithPlace, head_of, same_user, with_found}
use Rattle.agreeing_laws.proofs.UserShapes.{group_type_of}
use Rattle.line_laws.proofs.Bounds.{some_is}
use Rattle.line_laws.proofs.Elements.{known_address, known_auto}
use Rattle.line_laws.proofs.Flat.{flat_group, group_shape_is, group_stands}
use Rattle.line_laws.proofs.OwnTargets.{IsOwnTarget, OwnsObject, not_outside, target_changes}
use Rattle.line_laws.proofs.Placed.{FlatImages, PlacedVariable, not_auto, placed_variable}
use Rattle.line_laws.proofs.Settled.{known_path}
use Rattle.line_laws.proofs.Targets.{Target}

-- the image of a variable stands at a position
abbrev StandsAt : net_store.Address → Type 0
StandsAt b = (d : shape.Shape) × (q : Position) × (b ≡ net_store.root d q)

image_stands : (U : Upgrade) (K : Pledge) (w : World) (s : Shape) (q : Position) (a : Address) (b : net_store.Address) → a ≡ root s q → Same U K w a b → StandsAt b
image_stands U K w s q _ _ is (same_root t d p sh m r) = (d, moved_at U w.map p, refl)
image_stands U K w s q _ _ is (same_item e t d p k j inside keeps m has part sh) = absurd (cc is)

-- a scalar is of no class
no_class : (ty : Ty) → covers_type ty ≡ true → class_in ty ≡ None
no_class (types.class c) e = absurd (true≢false (sym e))
no_class _ e = refl

-- what stands in a variable that may change may change
place_change : (K : Pledge) (s : Shape) (q : Position) (r : Root) → q.root ≡ r → (K.steady → IsOld K r → ⊥) → MayChange K (root s q)
place_change K s q r in_root change steady z is old =
    change steady (subst (λ x. IsOld K x) (ap (λ (y : Position). y.root) (sym (some_is q z is)) ∙ in_root) old)

field_declared : (U : Upgrade) (T : Scope) (uses : Uses) → AreReadable U T uses → (s t j : ℕ) (o : Option Ty) → uses.field_type s j ≡ o
    → is_type (types.user t) o ≡ true → IsField U s j (types.user t)
field_declared U T uses readable s t j None is e = absurd (true≢false (sym e))
field_declared U T uses readable s t j (Some ty) is e = subst (λ z. IsField U s j z) (same_user t ty e) (readable.fields s j ty is)

-- the numbers of lines begin with 1
numbered : (ls : List Line) (h : ℕ) (x : Line) → nth_line ls h ≡ Some x → (n : ℕ) × (h ≡ suc n)
numbered ls zero x e = cc
numbered ls (suc n) x e = (n, refl)

own_with : (U : Upgrade) (p : ℕ) (form : Form) (es : List Expr) → is_with form ≡ true → is_own_head U p form es ≡ is_own_first U p es
own_with U p (source_form.with_head e) es h = refl
own_with U p _ es h = absurd (true≢false (sym h))

pub user_type : (ty : Ty) → is_user ty ≡ true → (t : ℕ) × (ty ≡ types.user t)
user_type (types.user t) is = (t, refl)
user_type _ is = absurd (true≢false (sym is))

-- what stands by itself is written
pub place_alone : (uses : Uses) (ty : Ty) (tm : Term) → covers_place uses (typed ty tm) ≡ true → is_alone (typed ty tm) ≡ true
place_alone uses ty (with_object r) covers = covers
place_alone uses ty _ covers = refl

-- what a procedure has made for itself
abbrev pub IsOwnRoot : Pledge → Root → Type 0
IsOwnRoot K r = ((n : ℕ) × (r ≡ made n)) × (IsOld K r → ⊥)

-- a place in a variable, which is the procedure's own, or its object's, where the expression says so
pub record Place (U : Upgrade) (K : Pledge) (p : ℕ) (w : World) (C : source.Context) (S : net_names.Scope) (T : Scope) (oracle : Jobs) (ty : Ty) (e : Expr) : Type 0 where
  pub root : Root
  pub place : PlaceFound U K w C S oracle T root ty e
  pub plain : is_auto_root U w.map root ≡ false
  pub own : is_outside U.program.declarations.vars p (node.root e) ≡ false → IsOwnRoot K root
  pub mine : is_mine U.program.declarations p e ≡ true → OwnsObject U K p C.frame → IsOld K root → ⊥

-- a place, or none in a With that hasn't kept one
abbrev pub Located : Upgrade → Pledge → (procedure : ℕ) → World → source.Context → net_names.Scope → Scope → Jobs → Ty → Expr → Type 0
Located U K p w C S T oracle ty e = Place U K p w C S T oracle ty e ⊎ PlaceAbsent U C S oracle T ty e

-- one of a scalar
pub record ScalarPlace (U : Upgrade) (K : Pledge) (p : ℕ) (w : World) (C : source.Context) (S : net_names.Scope) (T : Scope) (oracle : Jobs) (e : Expr) : Type 0 where
  pub of : Ty
  pub covers : covers_type of ≡ true
  pub place : Located U K p w C S T oracle of e

module _ (U : Upgrade) (K : Pledge) (p : ℕ) (f : SourceFrame) (g : NetFrame) (l : SourceLine) (k : NetLine) (c : Code) (T : Scope)
    (declared : T.declarations ≡ U.program.declarations) (oracle : SourceCalls) (net_oracle : Jobs) (uses : Uses) (readable : AreReadable U T uses)
    (placed : ArePlaced U p f (scope_of U.written c g k) T uses) (w : World) (h : MemoryMatch U w) (F : FrameMatch U K w p f g)
    (owns : OwnsAll U K p f) where
  abbrev C : source.Context
  C = context_of U oracle p f l

  abbrev S : net_names.Scope
  S = scope_of U.written c g k

  abbrev D : Declarations
  D = U.program.declarations

  abbrev Q : Demands
  Q = demands U K p l k S T

  abbrev At : Ty → Expr → Type 0
  At ty e = Located U K p w C S T net_oracle ty e

  -- ---- variables

  pub variable_place : (ty : Ty) (v : VarId) (qualified : Bool) → covers_place uses (typed ty (variable v qualified)) ≡ true
      → Place U K p w C S T net_oracle ty (typed ty (variable v qualified))
  variable_place ty v qualified covers =
      let both = both_true (uses.group v ty) (uses.named v qualified) covers in
      let r : IsGroup U v.0 ty = readable.groups v ty both.0 in
      let x : PlacedVariable U K w f S T v.0 = placed_variable U K w p f g k c T declared F v.0 r.known (placed.places v (inr (inr (inl (ty, both.0))))) in
      let i : FlatImages U K w v.0 x.address x.net_address = x.flat h (λ d same. flat_group U v.0 ty r) r.exact in
      let stands : x.address ≡ root (type_shape U ty) i.position =
      group_stands U (type_shape U ty) ty x.address i.position r.sound (group_type_of D ty r.covers) r.covers i.target
      (subst (λ s. StandsAs s x.address i.position) (group_shape_is U v.0 ty r) i.stands) in
      let b : StandsAt x.net_address = image_stands U K w (type_shape U ty) i.position x.address x.net_address stands i.same in
      record {
        root = i.position.root;
        place = record {
          position = i.position;
          address = x.net_address;
          in_root = refl;
          found = λ s.
              ap (λ o. then (some_of o (λ a s. gives [] (at_address a) s) s) (source.as_new C (variable v qualified))) x.found
              ∙ ap (λ m. after [] (source.made_for C m (at_address x.address) s)) (known_auto U v.0 r.known)
              ∙ ap (λ a. gives [] (at_address a) s) stands;
          sound = r.sound;
          covers = or_right (covers_type ty) (covers_group_type D ty) r.covers;
          same = subst (λ a. Same U K w a x.net_address) stands i.same;
          target = subst (λ a. IsTarget U a) stands i.target;
          written =
              path_leads S net_oracle T (typed ty (variable v qualified)) x.net_address (variable_path T qualified v.0)
              (known_path U T declared ty v qualified r.known) (λ name. refl)
              (λ more m.
              ap (λ z. target.started S net_oracle z m)
              (path_more S b.0 b.1 (variable_path T qualified v.0) more (x.leads qualified (placed.named v qualified both.1) ∙ ap (λ z. starts (at_place z) []) b.2)
              ∙ ap (λ z. starts (at_place z) more) (sym b.2)));
        };
        plain = x.plain (not_auto U v.0 r.known) i.position (ap position_of stands);
        own = λ inside.
            let own : is_own_of U p v.0 ≡ true = not_outside (is_own_of U p v.0) inside in
            let there : lookup (nat_eq v.0) f.vars ≡ Some x.address = sym (known_address U v.0 r.known p own f) ∙ x.found in
            let y : HasPlace U w v.0 x.address = F.own v.0 x.address there own in (
              (y.place, in_root_of x.address i.position (whole (made y.place)) (ap position_of stands) (ap position_of y.stands)),
              λ old. owns.variables v.0 x.address there own i.position (ap position_of stands) old,
            );
        mine = λ is object old.
            target_changes U K w p f g F owns S T v.0 r.known (placed.places v (inr (inr (inl (ty, both.0))))) (inr (is, object)) x.address x.found i.position
            (ap position_of stands) old;
      }
    where
      in_root_of : (a : Address) (q z : Position) → position_of a ≡ Some q → position_of a ≡ Some z → q.root ≡ z.root
      in_root_of a q z i j = ap (λ (y : Position). y.root) (some_is q z (sym i ∙ j))

  -- ---- what a With keeps

  module _ (t : ℕ) (r : expression.Root) (x : StandsWithin U p l k (types.user t) r) where
    abbrev e : Expr
    e = typed (types.user t) (with_object r)

    head : IsHeadOf x.line.bindings.exprs (types.user t) r
    head = head_of x.line.bindings.exprs (types.user t) r x.keeps

    number : (n : ℕ) × (x.head ≡ suc n)
    number = numbered (lines_of U p) x.head x.line x.is_line

    there : slice_get (lines_of U p) number.0 ≡ Some x.line
    there = subst (λ n. nth_line (lines_of U p) n ≡ Some x.line) number.1 x.is_line

    head_own : is_outside D.vars p r ≡ false → is_own_line U p x.line ≡ true
    head_own inside =
        own_with U p x.line.source.form x.line.bindings.exprs x.is_head ∙ ap (is_own_first U p) head.are
        ∙ ap not (ap (is_outside D.vars p) (sym head.of_root) ∙ inside)

    kept_own : (y : IsWithPlace U K w p f g F oracle l k c net_oracle T x.head t r) → is_outside D.vars p r ≡ false → IsOwnRoot K y.root
    kept_own y inside =
        let is : f.kept (suc number.0) ≡ keeps_address y.kept = subst (λ n. f.kept n ≡ keeps_address y.kept) number.1 y.is_kept in
        let z : IsInPlace y.kept = F.own_heads number.0 x.line y.kept there (head_own inside) is in
        let at : position_of y.kept ≡ Some y.place.position = ap position_of y.stands in (
          (
            z.place,
            sym y.place.in_root ∙ ap (λ (q : Position). q.root) (some_is y.place.position (record { root = made z.place; path = z.path }) (sym at ∙ ap position_of z.stands)),
          ),
          λ old. owns.heads number.0 x.line y.kept there (head_own inside) is y.place.position at (subst (λ q. IsOld K q) (sym y.place.in_root) old),
        )

    with_place : At (types.user t) e
    with_place =
        by (with_found U K w p f g F oracle l k c net_oracle T t r x.head x.is_round x.line x.is_line x.covers x.is_head x.keeps x.kind x.same_aims)
      where
        by : IsWithPlace U K w p f g F oracle l k c net_oracle T x.head t r ⊎ PlaceAbsent U C S net_oracle T (types.user t) e → At (types.user t) e
        by (inl y) = inl (record {
          root = y.root;
          place = y.place;
          plain = subst (λ q. is_auto_root U w.map q ≡ false) y.place.in_root (y.plain y.place.position (ap position_of y.stands));
          own = kept_own y;
          mine = λ is object old. true≢false (sym is);
        })
        by (inr y) = inr y

  -- ---- fields

  -- the field of a place
  field_place : (s j : ℕ) (tm : Term) (fty ty : Ty) → IsField U s j fty → class_in fty ≡ None → At (types.user s) (typed (types.user s) tm)
      → At fty (typed ty (field (typed (types.user s) tm) j))
  field_place s j tm fty ty i none (inl x) = inl (record {
    root = x.root;
    place = field_found U K w C S net_oracle T x.root refl declared s j tm fty ty i none x.place;
    plain = x.plain;
    own = x.own;
    mine = x.mine;
  })
  field_place s j tm fty ty i none (inr x) = inr (field_absent U C S net_oracle T declared s j tm fty ty i none x)

  -- what a field is asked of
  base_is : (t : ℕ) (tm : Term) → AllCalled Q (typed (types.user t) tm) → covers_base uses (typed (types.user t) tm) ≡ true
      → At (types.user t) (typed (types.user t) tm)
  base_is t (with_object r) can covers = with_place t r can
  base_is t (variable v qualified) can covers = inl (variable_place (types.user t) v qualified covers)
  base_is t (field (typed (types.user s) tm) j) can covers =
      let both = both_true (is_type (types.user t) (uses.field_type s j)) (covers_base uses (typed (types.user s) tm)) covers in
      field_place s j tm (types.user t) (types.user t) (field_declared U T uses readable s t j (uses.field_type s j) refl both.0) refl (base_is s tm can both.1)
  base_is t (field (typed _ tm) j) can covers = absurd (true≢false (sym covers))
  base_is t _ can covers = absurd (true≢false (sym covers))

  -- an object stands in no field
  pub place_is : (ty : Ty) (tm : Term) → AllCalled Q (typed ty tm) → covers_place uses (typed ty tm) ≡ true → At ty (typed ty tm)
  place_is ty (variable v qualified) can covers = inl (variable_place ty v qualified covers)
  place_is (types.user t) (field e j) can covers = base_is t (field e j) can covers
  place_is _ (field e j) can covers = absurd (true≢false (sym covers))
  place_is ty _ can covers = absurd (true≢false (sym covers))

  -- ---- scalars in places

  abbrev ScalarAt : Expr → Type 0
  ScalarAt e = ScalarPlace U K p w C S T net_oracle e

  scalar_in : (ty : Ty) (s j : ℕ) (tm : Term) → AllCalled Q (typed (types.user s) tm) → (o : Option Ty) → uses.field_type s j ≡ o → is_scalar_type o ≡ true
      → covers_base uses (typed (types.user s) tm) ≡ true → ScalarAt (typed ty (field (typed (types.user s) tm) j))
  scalar_in ty s j tm can None is scalar covers = absurd (true≢false (sym scalar))
  scalar_in ty s j tm can (Some of) is scalar covers = record {
    of = of;
    covers = scalar;
    place = field_place s j tm of ty (readable.fields s j of is) (no_class of scalar) (base_is s tm can covers);
  }

  pub scalar_place : (ty : Ty) (e : Expr) (j : ℕ) → AllCalled Q e → (has_scalar uses (node.type_at e) j && covers_base uses e) ≡ true
      → ScalarAt (typed ty (field e j))
  scalar_place ty (typed (types.user s) tm) j can covers =
      let both = both_true (is_scalar_type (uses.field_type s j)) (covers_base uses (typed (types.user s) tm)) covers in
      scalar_in ty s j tm can (uses.field_type s j) refl both.0 both.1
  scalar_place ty (typed _ tm) j can covers = absurd (true≢false (sym covers))

  -- ---- as targets

  -- a place that a steady procedure stores to in its own variables or in those of its object
  pub place_target : (ty : Ty) (e : Expr) → is_alone e ≡ true → (x : Place U K p w C S T net_oracle ty e)
      → ((y : Value) (s : Memory) → let_to C e y s ≡ then (source.address_of C e s) (store_at C e y))
      → IsOwnTarget U K p f e
      → Target U K w C S T net_oracle e (root (shape_by (user_shapes D) [] ty) x.place.position) x.place.address
  place_target ty e alone x lets inside = record {
    lets = lets;
    found = λ s. ap (λ r. then r source.finished) (x.place.found s);
    leads = x.place.written.reached alone;
    same = x.place.same;
    target = x.place.target;
    change = place_change K (shape_by (user_shapes D) [] ty) x.place.position x.root x.place.in_root (λ steady. ⊎_elim (λ y. (x.own y).1) (λ y. x.mine y.0 y.1) (inside steady));
  }
