-- Variables that are used are images of each other.
use Rattle.std.proofs.Common.{◌≡◌, ◌⊎◌, true≢false, refl, sym, ap, subst, ◌∙◌, inl, inr, ⊎_elim, ℕ, Bool, true, false, cond, not, nat_eq, List, [], ◌∷◌, Some, Option, None}
use Rattle.std.specs.Prelude.{slice_get, is_some}
use Rattle.std.specs.Map.{lookup}
use Rattle.std.proofs.lemmas.Bool.{eqb-true}
use Rattle.vb_tree.specs.declared.declared.Owner.{Owner}
use Rattle.vb_tree.specs.declared.declared.Owner.TheVariants as owner
use Rattle.bound_tree.specs.Tree.{Variable, Declarations}
use Rattle.bound_facts.specs.Effects.{is_own_owner, is_own_variable}
use Rattle.bound_facts.specs.SelfMade.{module_of}
use Rattle.run_base.specs.Positions.{Key, Position, Root, field, made, shared, whole}
use Rattle.written_trees.specs.Names.{Scope, alone, owner_path, variable_path, variable_path_of, variable_name_of}
use Rattle.vb6_run.specs.Runnables.{owned_address, declared_address, variable_address, root_address, static_root}
use Rattle.vb6_run.specs.Programs.{is_static_of}
use Rattle.vb6_run.specs.Shapes.{variable_shape}
use Rattle.vb6_run.specs.Store.{Address, root, SourceFrame}
use Rattle.net_run.specs.Lines.{NetFrame}
use Rattle.net_run.specs.Names as net_names
use Rattle.net_run.specs.Names.{path_start, starts, at_place, frame_start, var_in}
use Rattle.net_run.specs.Store as net
use Rattle.run_matches.specs.Addresses.{IsTarget, Same, same_root, Bound, images, mirrored, position_of, is_element}
use Rattle.run_matches.specs.CoveredExprs.{Uses}
use Rattle.run_matches.specs.CoveredVariables.{covers_auto_owner}
use Rattle.run_matches.specs.Covered.{is_reference_in, is_reference_owner_of}
use Rattle.run_matches.specs.Frames.{FrameMatch, SameVariable, SameStatic, HasPlace, is_own_of, is_static_in, static_of, GivenAddress, is_reference_of, is_mirrored}
use Rattle.run_matches.specs.Maps.{World, IsMatched, has_counterpart, is_auto_root, is_auto_variable, key_or_none, moved_at, root_variable}
use Rattle.run_matches.specs.Match.{MemoryMatch, StoreMatch}
use Rattle.run_matches.specs.Pledges.{Pledge}
use Rattle.run_matches.specs.Upgrades.{Upgrade, variable_key}
use Rattle.run_statements.specs.Frames.{IsAutoOf, IsKnown, IsOwnStatic, IsGiven, IsPlaced, ArePlaced, AreReadable}
use Rattle.agreeing_laws.proofs.Moves.{matched_whole}
use Rattle.agreeing_laws.proofs.OwnObjects.{static_place}
use Rattle.expression_laws.specs.Images.{HasImage, HaveImages}
use Rattle.expression_laws.proofs.UsedShapes.{IsDeclared, UsedShape, declared_auto, declared_known, known_used, not_auto, shape_used, stands_as, static_ranked}
use Rattle.expression_laws.proofs.ModuleImages.{exactly, field_image, named_alone, shared_image, some_is}

exact_same : (U : Upgrade) (K : Pledge) (w : World) (exact : Bool) (a : Address) (b : net.Address) → exact ≡ true → Bound U K w exact a b → Same U K w a b
exact_same U K w _ _ _ e (images exact a b same) = same
exact_same U K w _ _ _ e (mirrored a b m) = absurd (cc e)

-- what can be changed is the same on both sides
changeable_same : (U : Upgrade) (K : Pledge) (w : World) (v : ℕ) (a : Address) (b : net.Address) → Bound U K w (not (is_mirrored U v)) a b
    → is_mirrored U v ≡ false → Same U K w a b
changeable_same U K w v a b bound e = exact_same U K w (not (is_mirrored U v)) a b (ap not e) bound

-- ---- the procedure's own

own_address : (D : Declarations) (f : SourceFrame) (p v : ℕ) (o : Owner) → is_own_owner p o ≡ true → owned_address D f v o ≡ lookup (nat_eq v) f.vars
own_address D f p v (owner.Module file) h = absurd (cc h)
own_address D f p v (owner.Local q) h = refl
own_address D f p v (owner.Static q) h = absurd (cc h)
own_address D f p v (owner.Value q) h = refl
own_address D f p v (owner.Reference q) h = absurd (cc h)
own_address D f p v (owner.Answer q) h = refl
own_address D f p v (owner.Field t) h = absurd (cc h)

own_path : (T : Scope) (qualified : Bool) (name : List ℕ) (p : ℕ) (o : Owner) → is_own_owner p o ≡ true → owner_path T qualified name o ≡ alone name
own_path T qualified name p (owner.Module file) h = absurd (cc h)
own_path T qualified name p (owner.Local q) h = refl
own_path T qualified name p (owner.Static q) h = absurd (cc h)
own_path T qualified name p (owner.Value q) h = refl
own_path T qualified name p (owner.Reference q) h = absurd (cc h)
own_path T qualified name p (owner.Answer q) h = refl
own_path T qualified name p (owner.Field t) h = absurd (cc h)

own_is : (U : Upgrade) (p v : ℕ) (x : Variable) → slice_get U.program.declarations.vars v ≡ Some x → is_own_of U p v ≡ true → is_own_owner p x.owner ≡ true
own_is U p v x e h = sym (ap (is_own_variable p) e) ∙ h

-- a name that stands for a variable of the frame leads to it
named_start : (S : net_names.Scope) (name : List ℕ) (b : net.Address) → var_in S.vars name ≡ Some b → path_start S false (name ∷ []) ≡ starts (at_place b) []
named_start S name b h = ap (frame_start S name []) h

-- ---- parameters by reference

given_address : (D : Declarations) (f : SourceFrame) (p v : ℕ) (o : Owner) → is_reference_owner_of p o ≡ true → owned_address D f v o ≡ lookup (nat_eq v) f.vars
given_address D f p v (owner.Reference q) h = refl
given_address D f p v _ h = absurd (cc h)

given_path : (T : Scope) (qualified : Bool) (name : List ℕ) (p : ℕ) (o : Owner) → is_reference_owner_of p o ≡ true → owner_path T qualified name o ≡ alone name
given_path T qualified name p (owner.Reference q) h = refl
given_path T qualified name p _ h = absurd (cc h)

given_is : (U : Upgrade) (p v : ℕ) (x : Variable) → slice_get U.program.declarations.vars v ≡ Some x → is_reference_of U p v ≡ true
    → is_reference_owner_of p x.owner ≡ true
given_is U p v x e h = sym (ap (is_reference_in p) e) ∙ h

-- no As New variable is one
no_reference : (U : Upgrade) (p v class : ℕ) → IsAutoOf U v class → is_reference_of U p v ≡ true → ⊥
no_reference U p v class r h = by r.variable.owner r.owner (given_is U p v r.variable r.is_variable h)
  where
    by : (o : Owner) → covers_auto_owner o ≡ true → is_reference_owner_of p o ≡ true → ⊥
    by (owner.Reference q) covers h = true≢false (sym covers)
    by _ covers h = true≢false (sym h)

-- ---- Statics of the procedure

key_present : (o : Option Key) → is_some o ≡ true → o ≡ Some (key_or_none o)
key_present None h = absurd (cc h)
key_present (Some k) h = refl

static_path : (T : Scope) (qualified : Bool) (name : List ℕ) (p : ℕ) (o : Owner) → is_static_of p o ≡ true → owner_path T qualified name o ≡ alone name
static_path T qualified name p (owner.Static q) h = refl
static_path T qualified name p _ h = absurd (cc h)

static_owner : (p : ℕ) (o : Owner) → is_static_of p o ≡ true → (q : ℕ) × (q ≡ p) × ((D : Declarations) (f : SourceFrame) (v : ℕ)
    → owned_address D f v o ≡ root_address D v (static_root D f.me v (module_of (slice_get D.procs q))))
static_owner p (owner.Static q) h = (q.0, sym (eqb-true p q.0 h), λ D f v. refl)
static_owner p _ h = absurd (cc h)

-- ---- those of all kinds

module _ (U : Upgrade) (K : Pledge) (w : World) (p : ℕ) (f : SourceFrame) (g : NetFrame) (S : net_names.Scope) (vars : S.vars ≡ g.vars) (same_me : S.me ≡ g.me) (T : Scope)
    (same_declarations : T.declarations ≡ U.program.declarations) (h : FrameMatch U K w p f g) where
  own_image : (named : (qualified : Bool) → Bool) (v : ℕ) → IsDeclared U v → is_own_of U p v ≡ true → (a : Address)
      → variable_address U.program.declarations f v ≡ Some a → HasImage U K w S T named v a
  own_image named v r own a is =
      let of : is_own_owner p r.variable.owner ≡ true = own_is U p v r.variable r.is_variable own in
      let at : lookup (nat_eq v) f.vars ≡ Some a =
      sym (ap (declared_address U.program.declarations f v) r.is_variable ∙ own_address U.program.declarations f p v r.variable.owner of) ∙ is in
      let same : SameVariable U K w v a g = h.vars v a at r.sound in
      let place : HasPlace U w v a = h.own v a at own in
      let name : var_in S.vars r.variable.name ≡ Some same.address =
      ap (λ xs. var_in xs r.variable.name) vars ∙ ap (λ o. var_in g.vars (variable_name_of o)) (sym r.is_variable) ∙ same.found in
      let path : (q : Bool) → variable_path T q v ≡ r.variable.name ∷ [] =
      λ q. ap (λ (E : Declarations). variable_path_of T q (slice_get E.vars v)) same_declarations ∙ ap (variable_path_of T q) r.is_variable
      ∙ own_path T q r.variable.name p r.variable.owner of in
      record {
        address = same.address;
        found = λ q so. ap (path_start S false) (path q) ∙ named_start S r.variable.name same.address name;
        bound = same.bound;
        of_scalars = inl (ap is_element place.stands);
        whole = λ relied. ap is_element place.stands;
        image = λ exact. record {
          same = changeable_same U K w v a same.address same.bound exact;
          target = inl (inl (record { place = place.place; shape = variable_shape U.program.declarations v; path = []; stands = place.stands }));
          plain = same.plain;
          position = whole (made place.place);
          auto = λ auto. ap (is_auto_variable U) place.declared ∙ auto;
          stands = stands_as (variable_shape U.program.declarations v) a (whole (made place.place)) place.stands;
          ranked = same.ranked;
        };
      }

  -- a Static at the root where it stands
  static_at : (named : (qualified : Bool) → Bool) → StoreMatch U w → (v : ℕ) → UsedShape U v (variable_shape U.program.declarations v) → IsDeclared U v
      → IsOwnStatic U p v → (q : Root) → root_variable w.map q ≡ Some v → (has_counterpart U w.map q ≡ true → is_some (variable_key U v) ≡ true)
      → static_root U.program.declarations f.me v (module_of (slice_get U.program.declarations.procs p)) ≡ Some q
      → ((key : Key) → variable_key U v ≡ Some key → ((u : ℕ) → variable_key U u ≡ Some key → v ≡ u)
      → IsTarget U (root (variable_shape U.program.declarations v) (whole q)))
      → (a : Address) → variable_address U.program.declarations f v ≡ Some a → HasImage U K w S T named v a
  static_at named start v used r s q declares keyed stands_at target a is =
      let D = U.program.declarations in
      let here : Position = whole q in
      let o = static_owner p s.variable.owner s.is_static in
      let there : variable_address D f v ≡ Some (root (variable_shape D v) here) =
      ap (declared_address D f v) s.is_variable ∙ o.2 D f v
      ∙ ap (λ n. root_address D v (static_root D f.me v (module_of (slice_get D.procs n)))) o.1
      ∙ ap (root_address D v) stands_at in
      let that : static_of U p f.me v ≡ Some q =
      ap (λ x. cond (is_static_in p x) (static_root D f.me v (module_of (slice_get D.procs p))) None) s.is_variable
      ∙ ap (λ b. cond b (static_root D f.me v (module_of (slice_get D.procs p))) None) s.is_static ∙ stands_at in
      let x : SameStatic U w v q g = h.statics v q that r.sound in
      let stands : a ≡ root (variable_shape D v) here = some_is a (root (variable_shape D v) here) (sym is ∙ there) in
      let address : net.Address = net.root x.written (moved_at U w.map here) in
      let name : var_in S.vars s.variable.name ≡ Some address =
      ap (λ xs. var_in xs s.variable.name) vars ∙ ap (λ o. var_in g.vars (variable_name_of o)) (sym s.is_variable) ∙ x.found in
      let path : (q : Bool) → variable_path T q v ≡ s.variable.name ∷ [] =
      λ q. ap (λ (E : Declarations). variable_path_of T q (slice_get E.vars v)) same_declarations ∙ ap (variable_path_of T q) s.is_variable
      ∙ static_path T q s.variable.name p s.variable.owner s.is_static in
      let same : Same U K w a address =
      subst (λ z. Same U K w z address) (sym stands) (same_root (variable_shape D v) x.written here x.same x.is_matched x.ranked) in
      let matched : IsMatched U w here = matched_whole U w (variable_shape D v) here x.is_matched in
      let key : variable_key U v ≡ Some (key_or_none (variable_key U v)) = key_present (variable_key U v) (keyed matched.counterpart) in
      record {
        address = address;
        found = λ q so. ap (path_start S false) (path q) ∙ named_start S s.variable.name address name;
        bound = exactly U K w v a address same;
        of_scalars = inl (ap is_element stands);
        whole = λ relied. ap is_element stands;
        image = λ exact. record {
          same = same;
          target =
              subst (λ z. IsTarget U z) (sym stands)
              (target (key_or_none (variable_key U v)) key (λ u e. s.differs (key_or_none (variable_key U v)) u key e));
          plain = λ plain z e.
              subst (λ (i : Position). is_auto_root U w.map i.root ≡ false) (some_is here z (sym (ap position_of stands) ∙ e))
              (ap (is_auto_variable U) declares ∙ plain);
          position = here;
          auto = λ auto. ap (is_auto_variable U) declares ∙ auto;
          stands = stands_as (variable_shape D v) a here stands;
          ranked = λ e rank shaped. static_ranked U w start v q declares (variable_shape D v) used x.written x.same e rank shaped matched x.ranked;
        };
      }

  -- in its standard module, or in the object of the frame
  static_image : (named : (qualified : Bool) → Bool) → StoreMatch U w → (v : ℕ) → UsedShape U v (variable_shape U.program.declarations v)
      → IsDeclared U v → IsOwnStatic U p v → (a : Address) → variable_address U.program.declarations f v ≡ Some a
      → HasImage U K w S T named v a
  static_image named start v used r s =
      let shape = variable_shape U.program.declarations v in
      ⊎_elim
      (λ m. static_at named start v used r s (shared (v ∷ [])) refl (λ c. c) m.1
      (λ key is differs. inl (inr (inl (record {
        variable = v;
        key = key;
        of_shape = shape;
        path = [];
        stands = refl;
        is_key = is;
        differs = differs;
      })))))
      (λ o. static_at named start v used r s (field o.0.object (v ∷ [])) refl (λ c. c) o.1
      (λ key is differs. inl (inr (inr (record {
        object = o.0.object;
        variable = v;
        key = key;
        of_shape = shape;
        path = [];
        stands = refl;
        is_key = is;
        differs = differs;
      })))))
      (static_place U w p v s.file f.me s.is_file h.own_object)

  given_image : (named : (qualified : Bool) → Bool) (v : ℕ) → IsKnown U v → IsGiven U p f v → (a : Address)
      → variable_address U.program.declarations f v ≡ Some a → HasImage U K w S T named v a
  given_image named v r x a is =
      let of : is_reference_owner_of p r.variable.owner ≡ true = given_is U p v r.variable r.is_variable x.reference in
      let at : lookup (nat_eq v) f.vars ≡ Some a =
      sym (ap (declared_address U.program.declarations f v) r.is_variable ∙ given_address U.program.declarations f p v r.variable.owner of) ∙ is in
      let same : SameVariable U K w v a g = h.vars v a at r.sound in
      let there : GivenAddress U v a = x.stands a at in
      let name : var_in S.vars r.variable.name ≡ Some same.address =
      ap (λ xs. var_in xs r.variable.name) vars ∙ ap (λ o. var_in g.vars (variable_name_of o)) (sym r.is_variable) ∙ same.found in
      let path : (q : Bool) → variable_path T q v ≡ r.variable.name ∷ [] =
      λ q. ap (λ (E : Declarations). variable_path_of T q (slice_get E.vars v)) same_declarations ∙ ap (variable_path_of T q) r.is_variable
      ∙ given_path T q r.variable.name p r.variable.owner of in
      record {
        address = same.address;
        found = λ q so. ap (path_start S false) (path q) ∙ named_start S r.variable.name same.address name;
        bound = same.bound;
        of_scalars = there.of_scalars;
        whole = there.whole;
        image = λ exact. record {
          same = changeable_same U K w v a same.address same.bound exact;
          target = (there.place exact).target;
          plain = same.plain;
          position = (there.place exact).position;
          auto = λ auto. absurd (true≢false (sym auto ∙ not_auto U v r));
          stands = (there.place exact).stands;
          ranked = same.ranked;
        };
      }

  -- variables that are used have images in frames that match
  pub images_now : (uses : Uses) → MemoryMatch U w → AreReadable U T uses → ArePlaced U p f S T uses → HaveImages U K w f S T uses
  images_now uses start readable placed v a used is = by (known_used U T uses readable v used) (placed.places v used)
    where
      declared : IsKnown U v.0 ⊎ ((class : ℕ) × IsAutoOf U v.0 class) → IsDeclared U v.0
      declared (inl r) = declared_known U v.0 r
      declared (inr r) = declared_auto U v.0 r.0 r.1

      by : (r : IsKnown U v.0 ⊎ ((class : ℕ) × IsAutoOf U v.0 class)) → IsPlaced U p f S T v.0 → HasImage U K w S T (uses.named v) v.0 a
      by r (inl own) = own_image (uses.named v) v.0 (declared r) own a is
      by r (inr (inl s)) = static_image (uses.named v) start.stores v.0 (shape_used U T uses readable v used) (declared r) s a is
      by r (inr (inr (inl s))) = shared_image U K w start.stores f S T v.0 (declared r) (shape_used U T uses readable v used) s (uses.named v) a is
      by (inl r) (inr (inr (inr (inl x)))) = given_image (uses.named v) v.0 r x a is
      by (inr r) (inr (inr (inr (inl x)))) = absurd (no_reference U p v.0 r.0 r.1 x.reference)
      by r (inr (inr (inr (inr s)))) =
          field_image U K w start.stores p f S T v.0 (declared r) (shape_used U T uses readable v used) s
          (h.own_object s.file s.own s.is_class) (same_me ∙ h.me) (uses.named v)
          (λ q so. named_alone U p S T v s q (placed.named v q so)) a is
