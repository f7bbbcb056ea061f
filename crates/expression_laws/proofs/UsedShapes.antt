-- The shapes of variables that are used, and what stands where they are declared.
use Rattle.std.proofs.Common.{◌≡◌, ◌⊎◌, refl, sym, ap, subst, ◌∙◌, inl, inr, ℕ, ℤ, Bool, true, false, cond, not, ◌&&◌, List, [], Some, None, true≢false}
use Rattle.std.specs.Prelude.{slice_get, is_some}
use Rattle.vb_tree.specs.BoundTree.{Ty}
use Rattle.vb_tree.specs.BoundTree as types
use Rattle.vb_tree.specs.declared.declared.VarId.{VarId}
use Rattle.bound_tree.specs.Tree.{Variable, Declarations}
use Rattle.bound_facts.specs.Node.{auto_class, class_in}
use Rattle.net_meaning.specs.declared.value.ValueN.TheVariants as n
use Rattle.run_base.specs.Positions.{Position, Root, whole}
use Rattle.written_trees.specs.Names.{Scope}
use Rattle.vb6_run.specs.Shapes.{Shape, simple, group, array, endless, shape_by, variable_shape, declared_shape, user_shapes}
use Rattle.vb6_run.specs.Store.{Address, root, item, Held, table}
use Rattle.vb6_run.specs.Values.{Dimension, Values}
use Rattle.net_run.specs.Shapes as net_shapes
use Rattle.net_run.specs.Store as net
use Rattle.run_matches.specs.Addresses.{AllMatched, AllRanked, IsScalarAt, IsTarget}
use Rattle.run_matches.specs.CoveredVariables.{covers_group_type, covers_owner, covers_type, covers_variable}
use Rattle.run_matches.specs.CoveredExprs.{Uses, IsUsed}
use Rattle.run_matches.specs.Frames.{StandsAs}
use Rattle.run_matches.specs.Kinds.{AreKinds}
use Rattle.run_matches.specs.Likeness.{SameShape, same_scalar, same_class, same_group, same_array}
use Rattle.run_matches.specs.Maps.{World, IsMatched, is_fixed_variable, is_sound_part, moved_at, root_variable}
use Rattle.run_matches.specs.Match.{HasRank, HeldAs, Holds, holds_blank, holds_single, holds_table, holds_parts, StoreMatch}
use Rattle.run_matches.specs.Pledges.{type_of_shape}
use Rattle.run_matches.specs.SoundShapes.{IsSoundShape}
use Rattle.run_matches.specs.Upgrades.{Upgrade, has_bounds, is_auto, is_flagged, is_fixed, type_of, type_of_some}
use Rattle.run_statements.specs.Frames.{HasRankOf, IsArray, IsAutoOf, IsGroup, IsKnown, IsReadable, AreReadable, type_shape}
use Rattle.agreeing_laws.proofs.SoundParts.{all_matched_made, all_ranked_sound}
use Rattle.agreeing_laws.proofs.UserShapes.{covered_type_of, group_type_of, group_unbounded}
use Rattle.expression_laws.proofs.Types.{both_true, simple_type}

pub type_covered : (x : Variable) → covers_variable x ≡ true → covers_type x.ty ≡ true
type_covered x h =
    (both_true (covers_type x.ty) (not x.auto) (both_true (covers_owner x.owner) (covers_type x.ty && not x.auto) h).1).0

not_true : (b : Bool) → not b ≡ true → b ≡ false
not_true true e = absurd (cc e)
not_true false e = refl

-- what is known of a variable that can be read
pub known_scalar : (U : Upgrade) (v : ℕ) → IsReadable U v → IsKnown U v
known_scalar U v r =
    let x : Variable = r.variable in
    let rest = both_true (covers_owner x.owner) (covers_type x.ty && not x.auto) r.covers in
    record {
      variable = x;
      is_variable = r.is_variable;
      plain = not_true x.auto (both_true (covers_type x.ty) (not x.auto) rest.1).1;
      sound = r.sound;
    }

-- a variable whose declaration carries no issue, As New or not
pub record IsDeclared (U : Upgrade) (v : ℕ) : Type 0 where
  pub variable : Variable
  pub is_variable : slice_get U.program.declarations.vars v ≡ Some variable
  pub sound : is_flagged U v ≡ false

pub declared_known : (U : Upgrade) (v : ℕ) → IsKnown U v → IsDeclared U v
declared_known U v r = record { variable = r.variable; is_variable = r.is_variable; sound = r.sound }

pub declared_auto : (U : Upgrade) (v class : ℕ) → IsAutoOf U v class → IsDeclared U v
declared_auto U v class r = record { variable = r.variable; is_variable = r.is_variable; sound = r.sound }

-- what is known of a variable that is used
pub known_used : (U : Upgrade) (T : Scope) (uses : Uses) → AreReadable U T uses → (v : VarId) → IsUsed uses v
    → IsKnown U v.0 ⊎ ((class : ℕ) × IsAutoOf U v.0 class)
known_used U T uses readable v (inl h) = inl (known_scalar U v.0 (readable.scalars v h))
known_used U T uses readable v (inr (inl h)) = inl (readable.arrays v h.0 h.1).known
known_used U T uses readable v (inr (inr (inl h))) = inl (readable.groups v h.0 h.1).known
known_used U T uses readable v (inr (inr (inr h))) =
    let r = readable.autos v h.0 h.1 in
    inr (r.0, r.2)

-- it is no As New one
pub not_auto : (U : Upgrade) (v : ℕ) → IsKnown U v → is_auto U v ≡ false
not_auto U v r = ap (λ o. is_some (auto_class o)) r.is_variable ∙ ap (λ b. is_some (cond b (class_in r.variable.ty) None)) r.plain

-- the shape of a variable that is used: that of a scalar, of an array of scalars, which has bounds where it is fixed, of a user type or of a class
pub data UsedShape (U : Upgrade) (v : ℕ) : Shape → Type 0 where
  used_scalar : (ty : Ty) → UsedShape U v (simple ty)
  used_array : (ty : Ty) (bounds : List (ℤ × ℤ)) → (is_fixed U v ≡ true → bounds ≡ [] → ⊥) → UsedShape U v (array (simple ty) bounds)
  used_group : (s : Shape) → IsSoundShape U s → type_of U v ≡ Some (type_of_shape s) → UsedShape U v s

-- a variable that stands with the shape of its declaration
pub stands_as : (s : Shape) (a : Address) (q : Position) → a ≡ root s q → StandsAs s a q
stands_as (simple ty) a q e = inl e
stands_as (group t fs) a q e = e
stands_as (array f bounds) a q e = (bounds, e)
stands_as endless a q e = e

pub scalar_stands : (U : Upgrade) (v : ℕ) (r : IsReadable U v) (a : Address) (q : Position) → StandsAs (variable_shape U.program.declarations v) a q
    → IsScalarAt r.variable.ty a q
scalar_stands U v r a q h =
    let users : ℕ → Shape = user_shapes U.program.declarations in
    subst (λ s. StandsAs s a q)
    (ap (declared_shape users) r.is_variable ∙ simple_type users r.variable.bounds r.variable.ty (type_covered r.variable r.covers)) h

array_shape_is : (U : Upgrade) (v : ℕ) (element : Ty) (r : IsArray U v element)
    → variable_shape U.program.declarations v ≡ array (simple element) r.known.variable.bounds
array_shape_is U v element r =
    let x : Variable = r.known.variable in
    let users : ℕ → Shape = user_shapes U.program.declarations in
    ap (declared_shape users) r.known.is_variable ∙ ap (shape_by users x.bounds) r.is_array ∙ ap (λ e. array e x.bounds) (simple_type users [] element r.covers)

pub array_stands : (U : Upgrade) (v : ℕ) (element : Ty) (r : IsArray U v element) (a : Address) (q : Position)
    → StandsAs (variable_shape U.program.declarations v) a q → (others : List (ℤ × ℤ)) × (a ≡ root (array (simple element) others) q)
array_stands U v element r a q h = subst (λ s. StandsAs s a q) (array_shape_is U v element r) h

fixed_bounds : (U : Upgrade) (v : ℕ) (x : Variable) → slice_get U.program.declarations.vars v ≡ Some x → is_fixed U v ≡ true → x.bounds ≡ [] → ⊥
fixed_bounds U v x is fixed none = true≢false (sym fixed ∙ ap has_bounds is ∙ ap (λ b. is_some (slice_get b 0)) none)

pub group_shape_is : (U : Upgrade) (v : ℕ) (ty : Ty) (r : IsGroup U v ty) → variable_shape U.program.declarations v ≡ type_shape U ty
group_shape_is U v ty r =
    let x : Variable = r.known.variable in
    let users : ℕ → Shape = user_shapes U.program.declarations in
    ap (declared_shape users) r.known.is_variable ∙ ap (shape_by users x.bounds) r.is_type ∙ group_unbounded U.program.declarations x.bounds ty r.covers

pub auto_shape_is : (U : Upgrade) (v class : ℕ) → IsAutoOf U v class → variable_shape U.program.declarations v ≡ simple (types.class class)
auto_shape_is U v class r =
    let users : ℕ → Shape = user_shapes U.program.declarations in
    ap (declared_shape users) r.is_variable ∙ ap (shape_by users r.variable.bounds) r.is_type

-- what is a user type without arrays stands as it is declared
user_stands : (U : Upgrade) (s : Shape) (t : ℕ) (a : Address) (q : Position) → IsSoundShape U s → type_of_shape s ≡ types.user t → StandsAs s a q → a ≡ root s q
user_stands U (simple ty) t a q (inl c) of h = absurd (true≢false (sym c ∙ ap covers_type of))
user_stands U (simple ty) t a q (inr c) of h = absurd (other_type c.2 of)
  where
    other_type : {c : ℕ} → ty ≡ types.class c → ty ≡ types.user t → ⊥
    other_type e f = cc
user_stands U (group u fs) t a q c of h = h
user_stands U (array e bounds) t a q c of h = absurd c
user_stands U endless t a q c of h = absurd c

pub no_root_item : {e s : Shape} {q p : Position} {j : ℕ} {inside : List ℕ} → item e q j inside ≡ root s p → ⊥
no_root_item f = cc f

same_element : {s t : Ty} {q p : Position} {i j : ℕ} → item (simple s) q i [] ≡ item (simple t) p j [] → s ≡ t
same_element f = cc f

-- no element that can be written is an object
no_object_item : (U : Upgrade) (c : ℕ) (q : Position) (j : ℕ) (a : Address) → a ≡ item (simple (types.class c)) q j [] → IsTarget U a → ⊥
no_object_item U c q j a e (inl (inl x)) = no_root_item (sym e ∙ x.stands)
no_object_item U c q j a e (inl (inr (inl x))) = no_root_item (sym e ∙ x.stands)
no_object_item U c q j a e (inl (inr (inr x))) = no_root_item (sym e ∙ x.stands)
no_object_item U c q j a e (inr x) = true≢false (sym x.covers ∙ ap covers_type (same_element (sym x.stands ∙ e)))

pub group_stands : (U : Upgrade) (v : ℕ) (ty : Ty) (r : IsGroup U v ty) (a : Address) (q : Position) → StandsAs (variable_shape U.program.declarations v) a q
    → IsTarget U a → a ≡ root (type_shape U ty) q
group_stands U v ty r a q h target = by ty r.sound r.covers (subst (λ s. StandsAs s a q) (group_shape_is U v ty r) h)
  where
    by : (ty : Ty) → IsSoundShape U (type_shape U ty) → covers_group_type U.program.declarations ty ≡ true → StandsAs (type_shape U ty) a q
        → a ≡ root (type_shape U ty) q
    by (types.user t) c covers h =
        user_stands U (user_shapes U.program.declarations t) t a q c (covered_type_of U.program.declarations t covers) h
    by (types.class k) c covers (inl e) = e
    by (types.class k) c covers (inr x) = absurd (no_object_item U k q x.0 a x.1 target)
    by _ c covers h = absurd (true≢false (sym covers))

pub auto_stands : (U : Upgrade) (v class : ℕ) → IsAutoOf U v class → (a : Address) (q : Position) → StandsAs (variable_shape U.program.declarations v) a q
    → IsTarget U a → a ≡ root (simple (types.class class)) q
auto_stands U v class r a q h target = by (subst (λ s. StandsAs s a q) (auto_shape_is U v class r) h)
  where
    by : StandsAs (simple (types.class class)) a q → a ≡ root (simple (types.class class)) q
    by (inl e) = e
    by (inr x) = absurd (no_object_item U class q x.0 a x.1 target)

-- its use makes an object of its class
pub auto_made : (U : Upgrade) (v class : ℕ) → IsAutoOf U v class → auto_class (slice_get U.program.declarations.vars v) ≡ Some class
auto_made U v class r =
    ap auto_class r.is_variable ∙ ap (λ b. cond b (class_in r.variable.ty) None) r.is_auto ∙ ap class_in r.is_type

pub shape_used : (U : Upgrade) (T : Scope) (uses : Uses) → AreReadable U T uses → (v : VarId) → IsUsed uses v
    → UsedShape U v.0 (variable_shape U.program.declarations v.0)
shape_used U T uses readable v (inl h) =
    let r : IsReadable U v.0 = readable.scalars v h in
    let users : ℕ → Shape = user_shapes U.program.declarations in
    subst (λ s. UsedShape U v.0 s)
    (sym (ap (declared_shape users) r.is_variable ∙ simple_type users r.variable.bounds r.variable.ty (type_covered r.variable r.covers)))
    (used_scalar r.variable.ty)
shape_used U T uses readable v (inr (inr (inr h))) =
    let r = readable.autos v h.0 h.1 in
    subst (λ s. UsedShape U v.0 s) (sym (auto_shape_is U v.0 r.0 r.2)) (used_scalar (types.class r.0))
shape_used U T uses readable v (inr (inr (inl h))) =
    let r : IsGroup U v.0 h.0 = readable.groups v h.0 h.1 in
    let is : variable_shape U.program.declarations v.0 ≡ type_shape U h.0 = group_shape_is U v.0 h.0 r in
    subst (λ s. UsedShape U v.0 s) (sym is)
    (used_group (type_shape U h.0) r.sound
    (ap type_of_some r.known.is_variable ∙ ap (λ t. Some t) (r.is_type ∙ sym (group_type_of U.program.declarations h.0 r.covers))))
shape_used U T uses readable v (inr (inl h)) =
    let r : IsArray U v.0 h.0 = readable.arrays v h.0 h.1 in
    let x : Variable = r.known.variable in
    subst (λ s. UsedShape U v.0 s) (sym (array_shape_is U v.0 h.0 r)) (used_array h.0 x.bounds (fixed_bounds U v.0 x r.known.is_variable))

-- what is declared by the variable
module _ (U : Upgrade) (w : World) (r : Root) (v : ℕ) (declares : root_variable w.map r ≡ Some v) where
  pub declared_all : (s : Shape) → UsedShape U v s → IsMatched U w (whole r) → AreKinds s (whole r) w.src.held → AllMatched U w s (whole r)
  declared_all _ (used_scalar ty) m kind = (m, kind)
  declared_all _ (used_array ty bounds fixed) m kind = (m, kind, λ e. fixed (sym (ap (is_fixed_variable U) declares) ∙ e))
  declared_all _ (used_group s c of) m kind =
      all_matched_made U w r v m.is_made m.counterpart declares s [] c of (sym (ap (λ o. is_sound_part U o []) declares) ∙ m.sound) kind

-- where the source has an array, a number of one stands in the cell
array_number : (U : Upgrade) (w : World) (h : Held) (c : net.Cell) (e : Shape) (dims : List Dimension) (xs : Values) → Holds U w h c → h ≡ table e dims xs
    → (k : ℕ) × (c ≡ net.holds (n.Array k))
array_number U w _ _ e dims xs holds_blank is = absurd (cc is)
array_number U w _ _ e dims xs (holds_single ty x y m) is = absurd (cc is)
array_number U w _ _ e dims xs (holds_table f others ys k like) is = (k, refl)
array_number U w _ _ e dims xs holds_parts is = absurd (cc is)

-- an array has the rank of its declaration
module _ (U : Upgrade) (w : World) (h : StoreMatch U w) (r : Root) (v : ℕ) (declares : root_variable w.map r ≡ Some v) where
  pub declared_ranked : (s : Shape) → UsedShape U v s → (d : net_shapes.Shape) → SameShape U s d → HasRankOf U v d → IsMatched U w (whole r)
      → AreKinds s (whole r) w.src.held → AllRanked U w s d (whole r)
  declared_ranked _ (used_scalar ty) d same ranked m kind = tt
  declared_ranked _ (used_array ty bounds fixed) (net_shapes.array d rank) same ranked m kind =
      let there = array_number U w (w.src.held (whole r)) (w.net.cell (moved_at U w.map (whole r))) (simple ty) kind.0 kind.1 (h.values (whole r) m) kind.2 in
      (there.0, there.1, h.ranks (whole r) v v there.0 m declares refl there.1 ∙ sym ranked)
  declared_ranked _ (used_array ty bounds fixed) _ same ranked m kind = tt
  declared_ranked _ (used_group s c of) d same ranked m kind = all_ranked_sound U w s d (whole r) c

-- what is laid holds what it declares
pub is_laid : (D : Declarations) (v : ℕ) (laid : Bool) (r : Root) (h : Position → Held) → laid ≡ true → HeldAs D v laid r h
    → AreKinds (variable_shape D v) (whole r) h
is_laid D v laid r h is (inl b) = absurd (true≢false (sym is ∙ b.1))
is_laid D v laid r h is (inr kind) = kind

-- what has no array is written as none
sound_no_array : (U : Upgrade) (s : Shape) (d : net_shapes.Shape) → SameShape U s d → IsSoundShape U s → (e : net_shapes.Shape) (rank : ℕ)
    → d ≡ net_shapes.array e rank → ⊥
sound_no_array U _ _ (same_scalar t word is) c e rank shaped = cc
sound_no_array U _ _ (same_class k home is) c e rank shaped = cc
sound_no_array U _ _ (same_group t home member fs gs is fields) c e rank shaped = cc
sound_no_array U _ _ (same_array f bounds d rank' same) c e rank shaped = absurd c

-- an array has the rank of its declaration
pub static_ranked : (U : Upgrade) (w : World) → StoreMatch U w → (v : ℕ) (r : Root) → root_variable w.map r ≡ Some v → (s : Shape) → UsedShape U v s
    → (d : net_shapes.Shape) → SameShape U s d → (e : net_shapes.Shape) (rank : ℕ) → d ≡ net_shapes.array e rank → IsMatched U w (whole r)
    → AllRanked U w s d (whole r) → rank ≡ U.facts.rank v
static_ranked U w h v r declares _ (used_scalar ty) _ (same_scalar t word is) e rank shaped m ranked = absurd (cc shaped)
static_ranked U w h v r declares _ (used_scalar ty) _ (same_class c home is) e rank shaped m ranked = absurd (cc shaped)
static_ranked U w h v r declares _ (used_array ty bounds fixed) d same e rank shaped m ranked =
    let there : HasRank U w (whole r) rank = subst (λ z. AllRanked U w (array (simple ty) bounds) z (whole r)) shaped ranked in
    sym there.2 ∙ h.ranks (whole r) v v there.0 m declares refl there.1
static_ranked U w h v r declares _ (used_group s c of) d same e rank shaped m ranked = absurd (sound_no_array U s d same c e rank shaped)
