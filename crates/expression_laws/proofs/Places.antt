-- Places: variables of user types and of classes, and fields of these that are of user types themselves.
use Rattle.std.proofs.Common.{◌≡◌, refl, sym, ap, subst, ◌∙◌, inl, inr, ℕ, Bool, true, false, List, [], ◌++◌, Option, Some, None, eqb-true, true≢false}
use Rattle.std.proofs.lemmas.Bool.{or_right}
use Rattle.std.specs.Prelude.{slice_get}
use Rattle.vb_tree.specs.BoundTree.{Ty}
use Rattle.vb_tree.specs.BoundTree as types
use Rattle.vb_tree.specs.declared.declared.VarId.{VarId}
use Rattle.bound_tree.specs.Tree.{Declarations, Expr, typed, Term, variable, field, with_object}
use Rattle.bound_facts.specs.Locks.{is_same_type}
use Rattle.bound_facts.specs.Node.{auto_class, class_in}
use Rattle.run_base.specs.Outcomes.{gives, then, some_of}
use Rattle.run_base.specs.Positions.{Position, Root}
use Rattle.vb6_run.specs.Expressions as source
use Rattle.vb6_run.specs.Expressions.{Context, at_address}
use Rattle.vb6_run.specs.Forms.{SourceLine}
use Rattle.vb6_run.specs.Runnables.{variable_address}
use Rattle.vb6_run.specs.Shapes.{Shape}
use Rattle.vb6_run.specs.Store.{Address, root, Memory, SourceCalls, SourceFrame}
use Rattle.net_run.specs.Expressions as target
use Rattle.net_run.specs.Lines.{NetFrame, NetLine, scope_of}
use Rattle.net_run.specs.Making.{Jobs}
use Rattle.net_run.specs.Members.{Code}
use Rattle.net_run.specs.Names as net_names
use Rattle.net_run.specs.Names.{at_place, path_start, starts}
use Rattle.net_run.specs.Shapes as shape
use Rattle.net_run.specs.Store as net
use Rattle.written_trees.specs.Exprs.{exp_of}
use Rattle.written_trees.specs.Names.{Scope, variable_path}
use Rattle.run_matches.specs.Addresses.{IsTarget, Same, same_item, same_root, position_of}
use Rattle.run_matches.specs.Agreeing.{Agrees}
use Rattle.run_matches.specs.CoveredExprs.{Uses, covers_base, covers_place, is_type}
use Rattle.run_matches.specs.CoveredVariables.{covers_group_type, covers_type}
use Rattle.run_matches.specs.Maps.{World, moved_at}
use Rattle.run_matches.specs.Pledges.{Pledge}
use Rattle.run_matches.specs.SoundShapes.{IsField}
use Rattle.run_matches.specs.Upgrades.{Upgrade}
use Rattle.run_statements.specs.Frames.{AllCalled, AreReadable, Demands, IsGroup, context_of, demands, type_shape}
use Rattle.run_statements.specs.Groups.{PlaceMatch}
use Rattle.agreeing_laws.proofs.Agreeing.{agrees_gives, agrees_outside}
use Rattle.expression_laws.specs.Images.{HasImage, HaveImages, IsImage}
use Rattle.expression_laws.specs.Statements.{PlacesAgreeBy}
use Rattle.expression_laws.proofs.Withs.{HavePlaces, PlaceIs, missing, placed, places_now, root_plain}
use Rattle.expression_laws.proofs.UsedShapes.{group_stands, not_auto}
use Rattle.expression_laws.proofs.Types.{both_true}
use Rattle.expression_laws.proofs.Variables.{known_exp, known_none}
use Rattle.agreeing_laws.proofs.FieldPaths.{path_more}
use Rattle.agreeing_laws.proofs.FieldPlaces.{PlaceFound, field_found}
use Rattle.agreeing_laws.proofs.Members.{is_alone, path_leads}

-- the image of a variable stands at a position
abbrev StandsAt : net.Address → Type 0
StandsAt b = (d : shape.Shape) × (q : Position) × (b ≡ net.root d q)

image_stands : (U : Upgrade) (K : Pledge) (w : World) (s : Shape) (q : Position) (a : Address) (b : net.Address) → a ≡ root s q → Same U K w a b → StandsAt b
image_stands U K w s q _ _ is (same_root t d p sh m r) = (d, moved_at U w.map p, refl)
image_stands U K w s q _ _ is (same_item e t d p k j inside keeps m has part sh) = absurd (cc is)

parts_source : (C : Context) (o : Option Address) (class : Option ℕ) → class ≡ None → (w : Memory)
    → then (some_of o (λ a w. gives [] (at_address a) w) w) (source.made_for C class) ≡ some_of o (λ a w. gives [] (at_address a) w) w
parts_source C None class e w = refl
parts_source C (Some a) class e w = ap (λ z. then (gives [] (at_address a) w) (source.made_for C z)) e

-- ---- what is declared

same_user : (t : ℕ) (ty : Ty) → is_same_type (types.user t) ty ≡ true → ty ≡ types.user t
same_user t (types.user u) e = ap types.user (sym (eqb-true t u e))
same_user t _ e = absurd (true≢false (sym e))

field_declared : (U : Upgrade) (T : Scope) (uses : Uses) → AreReadable U T uses → (s t j : ℕ) (o : Option Ty) → uses.field_type s j ≡ o
    → is_type (types.user t) o ≡ true → IsField U s j (types.user t)
field_declared U T uses readable s t j None is e = absurd (true≢false (sym e))
field_declared U T uses readable s t j (Some ty) is e = subst (λ z. IsField U s j z) (same_user t ty e) (readable.fields s j ty is)

module _ (U : Upgrade) (K : Pledge) (p : ℕ) (f : SourceFrame) (g : NetFrame) (oracle : SourceCalls) (net_oracle : Jobs) (l : SourceLine) (k : NetLine)
    (c : Code) (T : Scope) (uses : Uses) (same_declarations : T.declarations ≡ U.program.declarations) (readable : AreReadable U T uses) where
  abbrev C : Context
  C = context_of U oracle p f l

  abbrev S : net_names.Scope
  S = scope_of U.written c g k

  abbrev D : Declarations
  D = U.program.declarations

  abbrev Found : World → Root → Ty → Expr → Type 0
  Found w r ty e = PlaceFound U K w C S net_oracle T r ty e

  abbrev Is : World → Ty → Expr → Type 0
  Is w ty e = PlaceIs U K C S net_oracle T w ty e

  abbrev Q : Demands
  Q = demands U K p l k S T

  module _ (w : World) where
    -- ---- variables

    module _ (have : HaveImages U K w f S T uses) (ty : Ty) (v : VarId) (qualified : Bool) (covers : covers_place uses (typed ty (variable v qualified)) ≡ true) where
      abbrev the_variable : Expr
      the_variable = typed ty (variable v qualified)

      used : uses.group v ty ≡ true
      used = (both_true (uses.group v ty) (uses.named v qualified) covers).0

      of_type : IsGroup U v.0 ty
      of_type = readable.groups v ty used

      variable_parts : (o : Option Address) → variable_address D f v.0 ≡ o → (s : Memory)
          → source.parts_of C the_variable s ≡ some_of o (λ a w. gives [] (at_address a) w) s
      variable_parts o is s =
          parts_source C (variable_address D f v.0) (auto_class (slice_get D.vars v.0))
          (known_none D.vars v.0 of_type.known.variable of_type.known.is_variable of_type.known.plain) s
          ∙ ap (λ o. some_of o (λ a w. gives [] (at_address a) w) s) is

      module _ (a : Address) (at : variable_address D f v.0 ≡ Some a) where
        image : HasImage U K w S T (uses.named v) v.0 a
        image = have v a (inr (inr (inl (ty, used)))) at

        exact : IsImage U K w v.0 a image.address
        exact = image.image of_type.exact

        abbrev q : Position
        q = exact.position

        stands : a ≡ root (type_shape U ty) exact.position
        stands = group_stands U v.0 ty of_type a q exact.stands exact.target

        leads :
            (more : List (List ℕ)) (m : net.Memory) → target.started S net_oracle (path_start S false (variable_path T qualified v.0 ++ more)) m
            ≡ target.members_from S net_oracle (at_place image.address) more m
        leads more m =
            let b : StandsAt image.address = image_stands U K w (type_shape U ty) q a image.address stands exact.same in
            ap (λ z. target.started S net_oracle z m)
            (path_more S b.0 b.1 (variable_path T qualified v.0) more (image.found qualified (both_true (uses.group v ty) (uses.named v qualified) covers).1 ∙ ap (λ z. starts (at_place z) []) b.2)
            ∙ ap (λ z. starts (at_place z) more) (sym b.2))

        variable_found : Found w exact.position.root ty the_variable
        variable_found = record {
          position = q;
          address = image.address;
          in_root = refl;
          found = λ s. variable_parts (Some a) at s ∙ ap (λ z. gives [] (at_address z) s) stands;
          sound = of_type.sound;
          covers = or_right (covers_type ty) (covers_group_type D ty) of_type.covers;
          same = subst (λ z. Same U K w z image.address) stands exact.same;
          target = subst (λ z. IsTarget U z) stands exact.target;
          written =
              path_leads S net_oracle T the_variable image.address (variable_path T qualified v.0)
              (known_exp T ty v qualified of_type.known.variable
              (ap (λ E. slice_get E.vars v.0) same_declarations ∙ of_type.known.is_variable) of_type.known.plain)
              (λ name. refl) leads;
        }

        variable_placed : Is w ty the_variable
        variable_placed = placed exact.position.root (exact.plain (not_auto U v.0 of_type.known) q (ap position_of stands)) variable_found

      variable_is : Is w ty the_variable
      variable_is = by (variable_address D f v.0) refl
        where
          by : (o : Option Address) → variable_address D f v.0 ≡ o → Is w ty the_variable
          by None e = missing (variable_parts None e)
          by (Some a) e = variable_placed a e

    -- ---- fields

    -- a field of a place stands where the place does
    pub field_is : (s j : ℕ) (tm : Term) (fty ty : Ty) → IsField U s j fty → class_in fty ≡ None
        → PlaceIs U K (context_of U oracle p f l) (scope_of U.written c g k) net_oracle T w (types.user s) (typed (types.user s) tm)
        → PlaceIs U K (context_of U oracle p f l) (scope_of U.written c g k) net_oracle T w fty (typed ty (field (typed (types.user s) tm) j))
    field_is s j tm fty ty i none (missing h) =
        let e : Expr = typed (types.user s) tm in
        missing (λ m. ap (λ r. then (then r (source.field_parts C e j (types.user s))) (source.as_new C (field e j))) (h m))
    field_is s j tm fty ty i none (placed r plain x) =
        placed r plain (field_found U K w C S net_oracle T r refl same_declarations s j tm fty ty i none x)

    module _ (have : HavePlaces U p f g oracle net_oracle l k c T uses K w) where
      -- what a field is asked of
      pub base_is : (t : ℕ) (tm : Term) → AllCalled (demands U K p l k (scope_of U.written c g k) T) (typed (types.user t) tm)
          → covers_base uses (typed (types.user t) tm) ≡ true
          → PlaceIs U K (context_of U oracle p f l) (scope_of U.written c g k) net_oracle T w (types.user t) (typed (types.user t) tm)
      base_is t (with_object r) can covers = have.withs t r can
      base_is t (variable v qualified) can covers = variable_is have.variables (types.user t) v qualified covers
      base_is t (field (typed (types.user s) tm) j) can covers =
          let both = both_true (is_type (types.user t) (uses.field_type s j)) (covers_base uses (typed (types.user s) tm)) covers in
          field_is s j tm (types.user t) (types.user t) (field_declared U T uses readable s t j (uses.field_type s j) refl both.0) refl
          (base_is s tm can both.1)
      base_is t (field (typed _ tm) j) can covers = absurd (true≢false (sym covers))
      base_is t _ can covers = absurd (true≢false (sym covers))

      pub place_is : (ty : Ty) (tm : Term) → AllCalled (demands U K p l k (scope_of U.written c g k) T) (typed ty tm) → covers_place uses (typed ty tm) ≡ true
          → PlaceIs U K (context_of U oracle p f l) (scope_of U.written c g k) net_oracle T w ty (typed ty tm)
      place_is ty (variable v qualified) can covers = variable_is have.variables ty v qualified covers
      place_is (types.user t) (field d j) can covers = base_is t (field d j) can covers
      place_is _ (field d j) can covers = absurd (true≢false (sym covers))
      place_is ty _ can covers = absurd (true≢false (sym covers))

-- what stands by itself is written
pub place_alone : (uses : Uses) (ty : Ty) (tm : Term) → covers_place uses (typed ty tm) ≡ true → is_alone (typed ty tm) ≡ true
place_alone uses ty (with_object r) covers = covers
place_alone uses ty _ covers = refl

-- ---- the law

pub places_agree_by : (U : Upgrade) (K : Pledge) → PlacesAgreeBy U K
places_agree_by U K w p f g oracle net_oracle l k c T uses ty tm start frames declarations readable stands can covers =
    by
    (place_is U K p f g oracle net_oracle l k c T uses declarations readable w
    (places_now U p f g oracle net_oracle l k c T uses K w frames start declarations readable stands) ty tm can covers)
  where
    by : PlaceIs U K (context_of U oracle p f l) (scope_of U.written c g k) net_oracle T w ty (typed ty tm)
        → Agrees U K w (PlaceMatch U K ty) (source.address_of (context_of U oracle p f l) (typed ty tm) w.src)
        (target.address_of (scope_of U.written c g k) net_oracle (exp_of T (typed ty tm)) w.net)
    by (missing none) =
        subst (λ z. Agrees U K w (PlaceMatch U K ty) (then z source.finished)
        (target.address_of (scope_of U.written c g k) net_oracle (exp_of T (typed ty tm)) w.net)) (sym (none w.src))
        (agrees_outside U K w (PlaceMatch U K ty) (target.address_of (scope_of U.written c g k) net_oracle (exp_of T (typed ty tm)) w.net))
    by (placed r plain x) =
        subst (λ z. Agrees U K w (PlaceMatch U K ty) (then z source.finished)
        (target.address_of (scope_of U.written c g k) net_oracle (exp_of T (typed ty tm)) w.net)) (sym (x.found w.src))
        (subst (λ z. Agrees U K w (PlaceMatch U K ty) (gives [] (root (type_shape U ty) x.position) w.src)
        (target.address_from (scope_of U.written c g k) net_oracle z))
        (sym (x.written.reached (place_alone uses ty tm covers) w.net))
        (agrees_gives U K w (PlaceMatch U K ty) (root (type_shape U ty) x.position) x.address start
        (record {
          position = x.position;
          stands = refl;
          sound = x.sound;
          same = x.same;
          target = x.target;
          plain = root_plain U w (type_shape U ty) x.position r x.in_root plain;
        })))
