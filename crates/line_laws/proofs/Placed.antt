-- A variable that is placed is found on both sides, where it stands for itself if it holds no array.
use Rattle.std.proofs.Common.{◌≡◌, ◌∙◌, ◌⊎◌, inl, inr, ⊎_elim, refl, sym, ap, subst, ℕ, Bool, true, false, cond, not, ◌&&◌, nat_eq, Option, Some, None, option_map, List, [], ◌∷◌, slice_get, true≢false}
use Rattle.std.specs.Prelude.{is_some}
use Rattle.std.proofs.lemmas.Bool.{eq-eqb, eqb-true}
use Rattle.std.specs.Map.{lookup}
use Rattle.vb_tree.specs.declared.declared.Owner.{Owner}
use Rattle.vb_tree.specs.declared.declared.Owner.TheVariants as owner
use Rattle.bound_tree.specs.Tree.{Variable, Declarations}
use Rattle.bound_facts.specs.Effects.{is_own_owner, is_own_variable}
use Rattle.bound_facts.specs.SelfMade.{module_of}
use Rattle.run_base.specs.Positions.{Key, Position, Root, field, made, shared, whole}
use Rattle.written_trees.specs.Names.{Scope, alone, owner_path, variable_path, variable_path_of, variable_name_of}
use Rattle.vb6_run.specs.Programs.{is_local_of, is_module_variable, is_static_of}
use Rattle.vb6_run.specs.Runnables.{declared_address, object_root, owned_address, root_address, static_root, variable_address}
use Rattle.vb6_run.specs.Shapes.{variable_shape}
use Rattle.vb6_run.specs.Store.{Address, root, Held, SourceFrame}
use Rattle.net_run.specs.Lines.{NetFrame, NetLine, scope_of}
use Rattle.net_run.specs.Members.{Code}
use Rattle.net_run.specs.Names as net_names
use Rattle.net_run.specs.Names.{at_place, frame_start, own_field, path_start, starts, var_in}
use Rattle.net_run.specs.Shapes as shape
use Rattle.net_run.specs.Store as net
use Rattle.run_matches.specs.Addresses.{IsPlain, IsTarget, IsVariable, IsWhole, Same, is_element, same_root}
use Rattle.run_matches.specs.CoveredExprs.{is_relied_on}
use Rattle.run_matches.specs.CoveredVariables.{is_class_member, is_of_class}
use Rattle.run_matches.specs.CoveredLines.{is_local_in, is_passing_in, is_passing_of}
use Rattle.run_matches.specs.Covered.{is_reference_in, is_reference_owner_of}
use Rattle.run_matches.specs.Frames.{FrameMatch, GivenPlace, HasPlace, OwnObject, SameStatic, SameVariable, StandsAs, is_own_of, is_static_in, name_of, static_of, is_mirrored}
use Rattle.run_matches.specs.Kinds.{AreKinds}
use Rattle.run_matches.specs.Likeness.{SameShape}
use Rattle.run_matches.specs.Maps.{World, IsMade, is_auto_root, is_auto_variable, key_or_none, mark, moved_at, root_variable, has_counterpart}
use Rattle.run_matches.specs.Match.{HeldAs, MemoryMatch, is_class_variable}
use Rattle.run_matches.specs.Pledges.{Pledge}
use Rattle.run_matches.specs.Upgrades.{Upgrade, is_auto, is_flagged, is_that, variable_key}
use Rattle.run_statements.specs.Frames.{IsGiven, IsKnown, IsOwnField, IsOwnStatic, IsPlaced, IsShared}
use Rattle.agreeing_laws.proofs.Moves.{matched_whole}
use Rattle.agreeing_laws.proofs.OwnObjects.{static_place}
use Rattle.agreeing_laws.proofs.SoundParts.{all_matched_made, all_ranked_sound}
use Rattle.line_laws.proofs.Bounds.{exactly, some_is}
use Rattle.line_laws.proofs.Elements.{own_found, known_auto}
use Rattle.line_laws.proofs.Flat.{IsFlatVariable, stands_as}
use Rattle.line_laws.proofs.Uses.{given_address}

-- one of a class is named by itself
abbrev pub IsNamedSo : Declarations → (variable : ℕ) → (qualified : Bool) → Type 0
IsNamedSo D v qualified = not (qualified && is_class_member D (slice_get D.vars v)) ≡ true

-- the images of a variable without arrays, which can be written
pub record FlatImages (U : Upgrade) (K : Pledge) (w : World) (v : ℕ) (a : Address) (b : net.Address) : Type 0 where
  pub position : Position
  pub stands : StandsAs (variable_shape U.program.declarations v) a position
  pub same : Same U K w a b
  pub target : IsTarget U a
  pub auto : is_auto U v ≡ true → is_auto_root U w.map position.root ≡ true

-- a variable whose declaration carries no issue; an As New one isn't given by reference
pub record IsDeclared (U : Upgrade) (v : ℕ) : Type 0 where
  pub variable : Variable
  pub is_variable : slice_get U.program.declarations.vars v ≡ Some variable
  pub sound : is_flagged U v ≡ false
  pub unreferenced : is_auto U v ≡ true → (p : ℕ) → is_reference_owner_of p variable.owner ≡ true → ⊥

pub not_auto : (U : Upgrade) (v : ℕ) → IsKnown U v → is_auto U v ≡ false
not_auto U v x = ap is_some (known_auto U v x)

pub declared_known : (U : Upgrade) (v : ℕ) → IsKnown U v → IsDeclared U v
declared_known U v x = record {
  variable = x.variable;
  is_variable = x.is_variable;
  sound = x.sound;
  unreferenced = λ auto p of. true≢false (sym auto ∙ not_auto U v x);
}

-- what is known of a variable of such a shape as is written for it
abbrev pub IsFlatAs : Upgrade → (variable : ℕ) → Type 0
IsFlatAs U v = (d : shape.Shape) → SameShape U (variable_shape U.program.declarations v) d → IsFlatVariable U v

-- a variable on both sides
pub record PlacedVariable (U : Upgrade) (K : Pledge) (w : World) (f : SourceFrame) (S : net_names.Scope) (T : Scope) (v : ℕ) : Type 0 where
  pub address : Address
  pub net_address : net.Address
  pub found : variable_address U.program.declarations f v ≡ Some address
  pub leads :
      (qualified : Bool) → IsNamedSo U.program.declarations v qualified → path_start S false (variable_path T qualified v) ≡ starts (at_place net_address) []
  pub plain : is_auto U v ≡ false → IsPlain U w address
  pub whole : is_relied_on U.program v ≡ true → IsWhole address
  pub flat : MemoryMatch U w → IsFlatAs U v → is_mirrored U v ≡ false → FlatImages U K w v address net_address

-- ---- owners

-- a variable of the frame is written as its name
own_alone : (p : ℕ) (o : Owner) → is_own_owner p o ≡ true → (T : Scope) (qualified : Bool) (name : List ℕ) → owner_path T qualified name o ≡ alone name
own_alone p (owner.Local q) h T qualified name = refl
own_alone p (owner.Value q) h T qualified name = refl
own_alone p (owner.Answer q) h T qualified name = refl
own_alone p _ h T qualified name = absurd (true≢false (sym h))

given_alone : (p : ℕ) (o : Owner) → is_reference_owner_of p o ≡ true → (T : Scope) (qualified : Bool) (name : List ℕ) → owner_path T qualified name o ≡ alone name
given_alone p (owner.Reference q) h T qualified name = refl
given_alone p _ h T qualified name = absurd (true≢false (sym h))

static_alone : (p : ℕ) (o : Owner) → is_static_of p o ≡ true → (T : Scope) (qualified : Bool) (name : List ℕ) → owner_path T qualified name o ≡ alone name
static_alone p (owner.Static q) h T qualified name = refl
static_alone p _ h T qualified name = absurd (true≢false (sym h))

turned : (a b : ℕ) → nat_eq b a ≡ true → nat_eq a b ≡ true
turned a b e = eq-eqb a b (sym (eqb-true b a e))

-- the procedure's own are local variables, parameters and the result
own_owner_is : (p : ℕ) (o : Owner) → is_own_owner p o ≡ true → (is_local_of p o ≡ true) ⊎ (is_passing_of p o ≡ true)
own_owner_is p (owner.Local q) own = inl (turned p q.0 own)
own_owner_is p (owner.Value q) own = inr (turned p q.0 own)
own_owner_is p (owner.Answer q) own = inr (turned p q.0 own)
own_owner_is p _ own = absurd (true≢false (sym own))

own_is : (p : ℕ) (o : Option Variable) → is_own_variable p o ≡ true → (is_local_in p o ≡ true) ⊎ (is_passing_in p o ≡ true)
own_is p None own = absurd (true≢false (sym own))
own_is p (Some x) own = own_owner_is p x.owner own

given_owner_is : (p : ℕ) (o : Owner) → is_reference_owner_of p o ≡ true → is_passing_of p o ≡ true
given_owner_is p (owner.Reference q) given = given
given_owner_is p _ given = absurd (true≢false (sym given))

given_is : (p : ℕ) (o : Option Variable) → is_reference_in p o ≡ true → is_passing_in p o ≡ true
given_is p None given = absurd (true≢false (sym given))
given_is p (Some x) given = given_owner_is p x.owner given

static_owner : (p : ℕ) (o : Owner) → is_static_of p o ≡ true → (q : ℕ) × (q ≡ p) × ((D : Declarations) (f : SourceFrame) (v : ℕ)
    → owned_address D f v o ≡ root_address D v (static_root D f.me v (module_of (slice_get D.procs q))))
static_owner p (owner.Static q) h = (q.0, sym (eqb-true p q.0 h), λ D f v. refl)
static_owner p _ h = absurd (true≢false (sym h))

key_there : (o : Option Key) → is_some o ≡ true → o ≡ Some (key_or_none o)
key_there None e = absurd (true≢false (sym e))
key_there (Some k) e = refl

by_itself : (q of_class : Bool) → of_class ≡ true → not (q && of_class) ≡ true → q ≡ false
by_itself true of_class is so = absurd (true≢false (sym so ∙ ap not is))
by_itself false of_class is so = refl

-- what is laid holds what it declares
is_laid : (D : Declarations) (v : ℕ) (laid : Bool) (r : Root) (h : Position → Held) → laid ≡ true → HeldAs D v laid r h
    → AreKinds (variable_shape D v) (whole r) h
is_laid D v laid r h is (inl b) = absurd (true≢false (sym is ∙ b.1))
is_laid D v laid r h is (inr kind) = kind

-- a variable of the class of the procedure stands in its object
pub field_found : (U : Upgrade) (p : ℕ) (f : SourceFrame) (S : net_names.Scope) (T : Scope) (v : ℕ) → IsOwnField U p S T v → (o : ℕ) → f.me ≡ Some o
    → variable_address U.program.declarations f v ≡ Some (root (variable_shape U.program.declarations v) (whole (field o (v ∷ []))))
field_found U p f S T v s o is =
    let D : Declarations = U.program.declarations in
    ap (declared_address D f v) s.is_variable ∙ ap (owned_address D f v) s.is_owner
    ∙ (ap (λ b. root_address D v (cond b (object_root f.me v) (Some (shared (v ∷ []))))) s.is_class ∙ ap (λ m. root_address D v (object_root m v)) is)

-- a Static at the root where it stands
pub static_found : (U : Upgrade) (p : ℕ) (f : SourceFrame) (v : ℕ) (s : IsOwnStatic U p v) (r : Root)
    → static_root U.program.declarations f.me v (module_of (slice_get U.program.declarations.procs p)) ≡ Some r
    → variable_address U.program.declarations f v ≡ Some (root (variable_shape U.program.declarations v) (whole r))
static_found U p f v s r stands =
    let D : Declarations = U.program.declarations in
    let o = static_owner p s.variable.owner s.is_static in
    ap (declared_address D f v) s.is_variable ∙ o.2 D f v
    ∙ ap (λ q. root_address D v (static_root D f.me v (module_of (slice_get D.procs q)))) o.1 ∙ ap (root_address D v) stands

-- ---- where they are found

module _ (U : Upgrade) (K : Pledge) (w : World) (p : ℕ) (f : SourceFrame) (g : NetFrame) (k : NetLine) (c : Code) (T : Scope)
    (declared : T.declarations ≡ U.program.declarations) (F : FrameMatch U K w p f g) (v : ℕ) (x : IsDeclared U v) where
  abbrev D : Declarations
  D = U.program.declarations

  abbrev S : net_names.Scope
  S = scope_of U.written c g k

  abbrev At : Type 0
  At = PlacedVariable U K w f S T v

  -- a name of the frame
  named : (qualified : Bool) (b : net.Address) → owner_path T qualified x.variable.name x.variable.owner ≡ alone x.variable.name
      → var_in g.vars (name_of U v) ≡ Some b → path_start S false (variable_path T qualified v) ≡ starts (at_place b) []
  named qualified b path found =
      ap (path_start S false)
      (ap (λ (E : Declarations). variable_path_of T qualified (slice_get E.vars v)) declared ∙ (ap (variable_path_of T qualified) x.is_variable ∙ path))
      ∙ ap (frame_start S x.variable.name []) (ap (var_in g.vars) (sym (ap variable_name_of x.is_variable)) ∙ found)

  -- ---- variables of the frame

  of_frame : (a : Address) → lookup (nat_eq v) f.vars ≡ Some a → variable_address D f v ≡ lookup (nat_eq v) f.vars
      → ((qualified : Bool) → owner_path T qualified x.variable.name x.variable.owner ≡ alone x.variable.name)
      → (is_relied_on U.program v ≡ true → IsWhole a) → (place : is_mirrored U v ≡ false → GivenPlace U v a)
      → ((exact : is_mirrored U v ≡ false) → is_auto U v ≡ true → is_auto_root U w.map (place exact).position.root ≡ true) → At
  of_frame a found is path whole place auto =
      let s : SameVariable U K w v a g = F.vars v a found x.sound in
      record {
        address = a;
        net_address = s.address;
        found = is ∙ found;
        leads = λ q so. named q s.address (path q) s.found;
        plain = s.plain;
        whole = whole;
        flat = λ h flat exact. record {
          position = (place exact).position;
          stands = (place exact).stands;
          same = exactly U K w (not (is_mirrored U v)) a s.address (ap not exact) s.bound;
          target = (place exact).target;
          auto = auto exact;
        };
      }

  of_own : is_own_of U p v ≡ true → At
  of_own own =
      let a : (a : Address) × (lookup (nat_eq v) f.vars ≡ Some a) =
      ⊎_elim (λ y. F.has_locals v y) (λ y. F.has_passing v y) (own_is p (slice_get D.vars v) own) in
      let place : HasPlace U w v a.0 = F.own v a.0 a.1 own in
      of_frame a.0 a.1 (own_found U v x.variable x.is_variable p own f)
      (λ q. own_alone p x.variable.owner (sym (ap (is_own_variable p) x.is_variable) ∙ own) T q x.variable.name) (λ relied. ap is_element place.stands)
      (λ exact. record {
        position = whole (made place.place);
        stands = stands_as (variable_shape D v) a.0 (whole (made place.place)) place.stands;
        target = inl (inl (record { place = place.place; shape = variable_shape D v; path = []; stands = place.stands }));
      })
      (λ exact auto. ap (is_auto_variable U) place.declared ∙ auto)

  of_given : IsGiven U p f v → At
  of_given y =
      let a : (a : Address) × (lookup (nat_eq v) f.vars ≡ Some a) = F.has_passing v (given_is p (slice_get D.vars v) y.reference) in
      let of : is_reference_owner_of p x.variable.owner ≡ true = sym (ap (is_reference_in p) x.is_variable) ∙ y.reference in
      of_frame a.0 a.1 (ap (declared_address D f v) x.is_variable ∙ given_address D f v p x.variable.owner of)
      (λ q. given_alone p x.variable.owner of T q x.variable.name) (y.stands a.0 a.1).whole (y.stands a.0 a.1).place
      (λ exact auto. absurd (x.unreferenced auto p of))

  -- ---- those that stand at roots of their own

  module _ (r : Root) (declares : root_variable w.map r ≡ Some v) where
    abbrev here : Address
    here = root (variable_shape D v) (whole r)

    of_root : (b : net.Address) → variable_address D f v ≡ Some here
        → ((qualified : Bool) → IsNamedSo D v qualified → path_start S false (variable_path T qualified v) ≡ starts (at_place b) [])
        → IsVariable U here → (MemoryMatch U w → IsFlatAs U v → Same U K w here b) → At
    of_root b is leads target same = record {
      address = here;
      net_address = b;
      found = is;
      leads = leads;
      plain = λ plain q e. subst (λ (z : Position). is_auto_root U w.map z.root ≡ false) (some_is (whole r) q e) (ap (is_auto_variable U) declares ∙ plain);
      whole = λ relied. refl;
      flat = λ h flat exact. record {
        position = whole r;
        stands = stands_as (variable_shape D v) here (whole r) refl;
        same = same h flat;
        target = inl target;
        auto = λ auto. ap (is_auto_variable U) declares ∙ auto;
      };
    }

    -- what was laid is compared
    root_same : (written : shape.Shape) → SameShape U (variable_shape D v) written → IsMade (mark w.src) r → has_counterpart U w.map r ≡ true
        → AreKinds (variable_shape D v) (whole r) w.src.held → IsFlatVariable U v → Same U K w here (net.root written (moved_at U w.map (whole r)))
    root_same written same is_made counterpart kinds flat =
        same_root (variable_shape D v) written (whole r) same
        (all_matched_made U w r v is_made counterpart declares (variable_shape D v) [] flat.shape flat.of_type (ap not x.sound) kinds)
        (all_ranked_sound U w (variable_shape D v) written (whole r) flat.shape)

  of_shared : IsShared U S T v → At
  of_shared s =
      let r : Root = shared (v ∷ []) in
      let there : net.root s.written (moved_at U w.map (whole r)) ≡ net.root s.written (whole (shared s.key)) =
      ap (λ o. net.root s.written (whole (shared (key_or_none o)))) s.is_key in
      of_root r refl (net.root s.written (whole (shared s.key)))
      (ap (declared_address D f v) s.is_variable ∙ ap (owned_address D f v) s.is_owner
      ∙ ap (λ b. root_address D v (cond b (object_root f.me v) (Some (shared (v ∷ []))))) s.standard)
      (λ q so. s.leads q)
      (inr (inl (record { variable = v; key = s.key; of_shape = variable_shape D v; path = []; stands = refl; is_key = s.is_key; differs = s.differs })))
      (λ h flat.
      subst (λ b. Same U K w (root (variable_shape D v) (whole r)) b) there
      (root_same r refl s.written s.same tt (ap is_some s.is_key)
      (is_laid D v (is_module_variable D s.variable.owner) r w.src.held (ap (is_module_variable D) s.is_owner ∙ ap not s.standard)
      (h.stores.kinds v s.variable s.is_variable x.sound)) (flat s.written s.same)))

  -- a Static at the root where it stands
  static_at : (s : IsOwnStatic U p v) (r : Root) → root_variable w.map r ≡ Some v → (has_counterpart U w.map r ≡ true → is_some (variable_key U v) ≡ true)
      → static_root D f.me v (module_of (slice_get D.procs p)) ≡ Some r
      → ((key : Key) → variable_key U v ≡ Some key → ((u : ℕ) → variable_key U u ≡ Some key → v ≡ u)
      → IsVariable U (root (variable_shape D v) (whole r))) → At
  static_at s r declares keyed stands target =
      let is : s.variable ≡ x.variable = some_is s.variable x.variable (sym s.is_variable ∙ x.is_variable) in
      let of : is_static_of p x.variable.owner ≡ true = subst (λ (y : Variable). is_static_of p y.owner ≡ true) is s.is_static in
      let that : static_of U p f.me v ≡ Some r =
      ap (λ y. cond (is_static_in p y) (static_root D f.me v (module_of (slice_get D.procs p))) None) x.is_variable
      ∙ (ap (λ b. cond b (static_root D f.me v (module_of (slice_get D.procs p))) None) of ∙ stands) in
      let m : SameStatic U w v r g = F.statics v r that x.sound in
      let key : variable_key U v ≡ Some (key_or_none (variable_key U v)) =
      key_there (variable_key U v) (keyed (matched_whole U w (variable_shape D v) (whole r) m.is_matched).counterpart) in
      of_root r declares (net.root m.written (moved_at U w.map (whole r))) (static_found U p f v s r stands)
      (λ q so. named q _ (static_alone p x.variable.owner of T q x.variable.name) m.found)
      (target (key_or_none (variable_key U v)) key (λ u e. s.differs (key_or_none (variable_key U v)) u key e))
      (λ h flat. same_root (variable_shape D v) m.written (whole r) m.same m.is_matched m.ranked)

  -- in its standard module, or in the object of the frame
  of_static : IsOwnStatic U p v → At
  of_static s =
      ⊎_elim
      (λ m. static_at s (shared (v ∷ [])) refl (λ c. c) m.1
      (λ key is differs. inr (inl (record {
        variable = v;
        key = key;
        of_shape = variable_shape D v;
        path = [];
        stands = refl;
        is_key = is;
        differs = differs;
      }))))
      (λ o. static_at s (field o.0.object (v ∷ [])) refl (λ c. c) o.1
      (λ key is differs. inr (inr (record {
        object = o.0.object;
        variable = v;
        key = key;
        of_shape = variable_shape D v;
        path = [];
        stands = refl;
        is_key = is;
        differs = differs;
      }))))
      (static_place U w p v s.file f.me s.is_file F.own_object)

  -- those of the class of the procedure, of which its object has its own
  of_field : IsOwnField U p S T v → At
  of_field s =
      let y : OwnObject U w s.file f.me = F.own_object s.file s.own s.is_class in
      let r : Root = field y.object (v ∷ []) in
      let there : net.root s.written (moved_at U w.map (whole r)) ≡ net.root s.written (whole (field (w.map.objects y.object) s.key)) =
      ap (λ o. net.root s.written (whole (field (w.map.objects y.object) (key_or_none o)))) s.is_key in
      of_root r refl (net.root s.written (whole (field (w.map.objects y.object) s.key)))
      (field_found U p f S T v s y.object y.is_me)
      (λ q so.
      subst (λ b. path_start S false (variable_path T b v) ≡ starts (own_field s.written s.key S.me) [])
      (sym (by_itself q (is_class_member D (slice_get D.vars v)) (ap (is_class_member D) s.is_variable ∙ ap (is_of_class D) s.is_owner ∙ s.is_class) so)) s.leads
      ∙ ap (λ m. starts (own_field s.written s.key m) []) (F.me ∙ ap (option_map w.map.objects) y.is_me))
      (inr (inr (record {
        object = y.object;
        variable = v;
        key = s.key;
        of_shape = variable_shape D v;
        path = [];
        stands = refl;
        is_key = s.is_key;
        differs = s.differs;
      })))
      (λ h flat.
      subst (λ b. Same U K w (root (variable_shape D v) (whole r)) b) there
      (root_same r refl s.written s.same y.is_made (ap is_some s.is_key)
      (is_laid D v (is_class_variable D y.class s.variable.owner) r w.src.held
      (ap (is_class_variable D y.class) s.is_owner ∙ (ap (is_that s.file) y.is_file ∙ eq-eqb s.file s.file refl))
      (h.stores.fields y.object y.class v s.variable y.is_made y.is_class s.is_variable x.sound)) (flat s.written s.same)))

  pub placed_declared : IsPlaced U p f S T v → At
  placed_declared (inl own) = of_own own
  placed_declared (inr (inl s)) = of_static s
  placed_declared (inr (inr (inl s))) = of_shared s
  placed_declared (inr (inr (inr (inl y)))) = of_given y
  placed_declared (inr (inr (inr (inr s)))) = of_field s

pub placed_variable : (U : Upgrade) (K : Pledge) (w : World) (p : ℕ) (f : SourceFrame) (g : NetFrame) (k : NetLine) (c : Code) (T : Scope)
    → T.declarations ≡ U.program.declarations → FrameMatch U K w p f g → (v : ℕ) → IsKnown U v → IsPlaced U p f (scope_of U.written c g k) T v
    → PlacedVariable U K w f (scope_of U.written c g k) T v
placed_variable U K w p f g k c T declared F v x placed = placed_declared U K w p f g k c T declared F v (declared_known U v x) placed
