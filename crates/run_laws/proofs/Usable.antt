-- What is known of scalars, arrays, user types and objects alike: their shapes, and what a Static holds.
use Rattle.std.proofs.Common.{◌≡◌, refl, sym, ap, subst, ◌∙◌, inl, inr, ⊎_elim, ℕ, Bool, true, false, not, true≢false, eqb-true, Option, Some, List, []}
use Rattle.std.specs.Prelude.{is_some, slice_get}
use Rattle.vb_tree.specs.BoundTree as types
use Rattle.vb_tree.specs.BoundTree.{Ty}
use Rattle.vb_tree.specs.declared.declared.Owner.{Owner}
use Rattle.vb_tree.specs.declared.declared.Owner.TheVariants as owner
use Rattle.bound_tree.specs.Tree.{Variable}
use Rattle.bound_facts.specs.Locks.{is_same_type}
use Rattle.bound_facts.specs.Node.{is_array_type}
use Rattle.written_trees.specs.Facts.{is_array_variable}
use Rattle.net_meaning.specs.declared.value.ValueN.TheVariants as n
use Rattle.run_base.specs.Outcomes.{gives}
use Rattle.run_base.specs.Positions.{Position, Root, whole}
use Rattle.vb6_run.specs.Programs.{lay_if_blank}
use Rattle.vb6_run.specs.Shapes.{Shape, array, declared_shape, shape_by, simple, user_shapes, variable_shape}
use Rattle.vb6_run.specs.Store.{Held, blank, laid, parts, provided, single, table, Memory}
use Rattle.vb6_run.specs.Values.{Dimension, Values, first_value, is_makeable}
use Rattle.net_run.specs.Shapes as shape
use Rattle.net_run.specs.Store as net
use Rattle.net_tree.specs.Types.{TypeName}
use Rattle.run_matches.specs.Addresses.{AllMatched, AllRanked, IsDeclaredShape}
use Rattle.run_matches.specs.CoveredVariables.{covers_array_owner, covers_auto_owner, covers_declared}
use Rattle.run_matches.specs.Frames.{is_own_of, is_mirrored}
use Rattle.run_matches.specs.Kinds.{IsKind, AreKinds}
use Rattle.run_matches.specs.Likeness.{Numbers, SameShape, numbers_of, same_array, same_scalar, scalar_word}
use Rattle.run_matches.specs.Maps.{World, is_fixed_variable, moved_at}
use Rattle.run_matches.specs.Match.{HasRank, HeldLike, StoreMatch, holds_blank, holds_parts, holds_single, holds_table}
use Rattle.run_matches.specs.SoundShapes.{IsSoundShape}
use Rattle.run_matches.specs.Upgrades.{Upgrade, has_bounds}
use Rattle.run_matches.specs.UserTypes.{is_group_type}
use Rattle.run_statements.specs.Arrays.{array_shape}
use Rattle.run_statements.specs.Frames.{IsArray, IsReadable, IsUsable}
use Rattle.agreeing_laws.specs.Promises.{Yields}
use Rattle.name_laws.proofs.Words.{simple_type}
use Rattle.agreeing_laws.proofs.SoundParts.{all_matched_made, all_ranked_sound}
use Rattle.agreeing_laws.proofs.UserShapes.{declared_group}
use Rattle.memory_laws.specs.Laying.{HasEnd}
use Rattle.memory_laws.proofs.Autos.{auto_shape_is}
use Rattle.memory_laws.proofs.GroupsMade.{SoundVariable, group_shape, group_shape_is}
use Rattle.memory_laws.proofs.LaidValues.{laid_is, sound_end, stands_laid}
use Rattle.memory_laws.proofs.Making.{readable_shape, readable_type}
use Rattle.memory_laws.proofs.StaticRoots.{StaticStands}
use Rattle.run_laws.specs.Entered.{IsResult, IsTaken, StaticMatch, static_in}
use Rattle.run_laws.specs.Premises.{ArraysHaveRanks}
use Rattle.run_laws.proofs.Covered.{no_array_declared, some_is}
use Rattle.line_laws.proofs.Uses.{own_exact}

-- ---- shapes

pub array_shape_is : (U : Upgrade) (v : ℕ) (element : Ty) (r : IsArray U v element)
    → variable_shape U.program.declarations v ≡ array (simple element) r.known.variable.bounds
array_shape_is U v element r =
    let users = user_shapes U.program.declarations in
    let bounds = r.known.variable.bounds in
    ap (declared_shape users) r.known.is_variable ∙ ap (λ ty. shape_by users bounds ty) r.is_array
    ∙ ap (λ s. array s bounds) (simple_type users [] element r.covers)

-- it has a dimension
pub has_rank_of : (U : Upgrade) (v : ℕ) (element : Ty) → IsArray U v element → ArraysHaveRanks U → U.facts.rank v ≡ 0 → ⊥
has_rank_of U v element r ranked none = ranked v (ap is_array_variable r.known.is_variable ∙ ap is_array_type r.is_array) none

-- what can be used is no type that holds itself
pub usable_end : (U : Upgrade) (v : ℕ) → IsUsable U v → HasEnd (variable_shape U.program.declarations v)
usable_end U v (inl r) = subst (λ s. HasEnd s) (sym (readable_shape U v r)) tt
usable_end U v (inr (inl a)) = subst (λ s. HasEnd s) (sym (array_shape_is U v a.0 a.1)) tt
usable_end U v (inr (inr (inl g))) = sound_end U (variable_shape U.program.declarations v) (group_shape U v g.0 g.1)
usable_end U v (inr (inr (inr a))) = subst (λ s. HasEnd s) (sym (auto_shape_is U v a.0 a.1)) tt

-- a user type and a class are what they are compared with
pub group_type_is : (s t : Ty) → is_group_type s ≡ true → is_same_type s t ≡ true → s ≡ t
group_type_is (types.user m) (types.user n) h e = ap types.user (eqb-true m n e)
group_type_is (types.user m) _ h e = absurd (true≢false (sym e))
group_type_is (types.class m) (types.class n) h e = ap types.class (eqb-true m n e)
group_type_is (types.class m) _ h e = absurd (true≢false (sym e))
group_type_is _ t h e = absurd (true≢false (sym h))

-- ---- parameters

pub taken_usable : (U : Upgrade) (v : ℕ) → IsTaken U v → IsUsable U v
taken_usable U v (inl r) = inl r
taken_usable U v (inr (inl a)) = inr (inl a)
taken_usable U v (inr (inr g)) = inr (inr (inl g))

-- what can be used is one where none is As New
pub taken_is : (U : Upgrade) (v : ℕ) (x : Variable) → slice_get U.program.declarations.vars v ≡ Some x → covers_auto_owner x.owner ≡ false → IsUsable U v
    → IsTaken U v
taken_is U v x is none (inl r) = inl r
taken_is U v x is none (inr (inl a)) = inr (inl a)
taken_is U v x is none (inr (inr (inl g))) = inr (inr g)
taken_is U v x is none (inr (inr (inr a))) =
    absurd (true≢false (sym a.1.owner ∙ (ap (λ (y : Variable). covers_auto_owner y.owner) (some_is (sym a.1.is_variable ∙ is)) ∙ none)))

-- ---- result variables

pub result_usable : (U : Upgrade) (v : ℕ) → IsResult U v → IsUsable U v
result_usable U v (inl r) = inl r
result_usable U v (inr g) = inr (inr (inl g))

-- none is As New where none can be an array
no_auto : (o : Owner) → covers_array_owner o ≡ false → covers_auto_owner o ≡ false
no_auto (owner.Module file) h = h
no_auto (owner.Local p) h = h
no_auto (owner.Static p) h = h
no_auto (owner.Value p) h = refl
no_auto (owner.Reference p) h = refl
no_auto (owner.Answer p) h = refl
no_auto (owner.Field t) h = refl

-- what can be used is one where it is no array
pub result_is : (U : Upgrade) (v : ℕ) (x : Variable) → slice_get U.program.declarations.vars v ≡ Some x → covers_array_owner x.owner ≡ false
    → covers_declared U.program.declarations x ≡ true → IsUsable U v → IsResult U v
result_is U v x is none covers usable = by (taken_is U v x is (no_auto x.owner none) usable)
  where
    by : IsTaken U v → IsResult U v
    by (inl r) = inl r
    by (inr (inr g)) = inr g
    by (inr (inl a)) =
        absurd (no_array_declared U.program.declarations x a.0 a.1.rank
        (ap (λ (y : Variable). y.ty) (some_is (sym is ∙ a.1.known.is_variable)) ∙ a.1.is_array) none covers)

pub result_shape : (U : Upgrade) (v : ℕ) → IsResult U v → IsSoundShape U (variable_shape U.program.declarations v)
result_shape U v (inl r) = subst (λ s. IsSoundShape U s) (sym (readable_shape U v r)) (inl (readable_type U v r))
result_shape U v (inr g) = group_shape U v g.0 g.1

pub result_declared : (U : Upgrade) (v : ℕ) → IsResult U v → IsDeclaredShape U (variable_shape U.program.declarations v)
result_declared U v (inl r) = subst (λ s. IsDeclaredShape U s) (sym (readable_shape U v r)) tt
result_declared U v (inr g) = subst (λ s. IsDeclaredShape U s) (sym (group_shape_is U v g.0 g.1)) (declared_group U g.0 g.1.covers)

-- it is no quiet parameter
pub result_exact : (U : Upgrade) (v p : ℕ) → is_own_of U p v ≡ true → IsResult U v → is_mirrored U v ≡ false
result_exact U v p own (inl r) = own_exact U v r p own
result_exact U v p own (inr g) = g.1.exact

-- ---- Statics

no_single : (ty : Ty) (x : _) → single ty x ≡ blank → ⊥
no_single ty x e = cc e

no_table : (e : Shape) (dims : List Dimension) (xs : Values) → table e dims xs ≡ blank → ⊥
no_table e dims xs h = cc h

no_parts : parts ≡ blank → ⊥
no_parts e = cc e

-- something stands there once it was laid
pub laid_there : (s : Shape) → HasEnd s → (r : Root) (w : Memory)
    → Yields (λ (u : Unit {0}) (m : Memory). m.held (whole r) ≡ blank → ⊥) (lay_if_blank s r (w.held (whole r)) w)
laid_there s ends r w = by (w.held (whole r)) refl
  where
    Q : Unit {0} → Memory → Type 0
    Q u m = m.held (whole r) ≡ blank → ⊥

    here : Q tt (laid s (whole r) w)
    here = subst (λ m. Q tt m) (sym (laid_is s (whole r) w ends)) (stands_laid (first_value s) (whole r) w.held)

    made : (b : Bool) → Yields Q (provided b (λ m. gives [] tt (laid s (whole r) m)) w)
    made true = here
    made false = tt

    by : (h : Held) → w.held (whole r) ≡ h → Yields Q (lay_if_blank s r h w)
    by blank e = made (is_makeable s)
    by (single ty x) e = λ b. no_single ty x (sym e ∙ b)
    by (table f dims xs) e = λ b. no_table f dims xs (sym e ∙ b)
    by parts e = λ b. no_parts (sym e ∙ b)

-- the cell of an array has one
pub table_cell : (U : Upgrade) (N : Numbers) (h : Held) (c : net.Cell) (e : Shape) (dims : List Dimension) (xs : Values) → HeldLike U N h c → h ≡ table e dims xs
    → (k : ℕ) × (c ≡ net.holds (n.Array k))
table_cell U N _ _ e dims xs holds_blank is = absurd (no_table e dims xs (sym is))
table_cell U N _ _ e dims xs (holds_single ty x y l) is = absurd (cc is)
table_cell U N _ _ e dims xs (holds_table f ds ys k l) is = (k, refl)
table_cell U N _ _ e dims xs holds_parts is = absurd (cc is)

module _ (U : Upgrade) (holder : Option ℕ) (w : World) (h : StoreMatch U w) (v : ℕ) (at : StaticStands U w v (static_in holder v))
    (there : w.src.held (whole (static_in holder v)) ≡ blank → ⊥) where
  abbrev q : Position
  q = whole (static_in holder v)

  kind : AreKinds (variable_shape U.program.declarations v) q w.src.held
  kind = ⊎_elim (λ b. absurd (there (b []))) (λ k. k) at.held

  -- a scalar
  pub scalar_static : (r : IsReadable U v) (t : TypeName) → scalar_word r.variable.ty ≡ Some t → (b : net.Address)
      → b ≡ net.root (shape.scalar t) (moved_at U w.map q) → StaticMatch U holder w v b
  scalar_static r t word b stands =
      let shaped : variable_shape U.program.declarations v ≡ simple r.variable.ty = readable_shape U v r in
      record {
        written = shape.scalar t;
        same = subst (λ s. SameShape U s (shape.scalar t)) (sym shaped) (same_scalar r.variable.ty t word);
        matched = subst (λ s. AllMatched U w s q) (sym shaped) (at.matched, subst (λ s. AreKinds s q w.src.held) shaped kind);
        ranked = subst (λ s. AllRanked U w s (shape.scalar t) q) (sym shaped) tt;
        stands = stands;
      }

  -- an array
  pub array_static : (element : Ty) (r : IsArray U v element) (t : TypeName) → scalar_word element ≡ Some t → (b : net.Address)
      → b ≡ net.root (array_shape U v t) (moved_at U w.map q) → StaticMatch U holder w v b
  array_static element r t word b stands =
      let bounds = r.known.variable.bounds in
      let shaped : variable_shape U.program.declarations v ≡ array (simple element) bounds = array_shape_is U v element r in
      let held : IsKind (array (simple element) bounds) (w.src.held q) = subst (λ s. AreKinds s q w.src.held) shaped kind in
      let cell = table_cell U (numbers_of w) (w.src.held q) (w.net.cell (moved_at U w.map q)) (simple element) held.0 held.1
      (h.values q at.matched) held.2 in
      let rank : HasRank U w q (U.facts.rank v) = (cell.0, cell.1, h.ranks q v v cell.0 at.matched at.declared refl cell.1) in
      record {
        written = array_shape U v t;
        same =
            subst (λ s. SameShape U s (array_shape U v t)) (sym shaped)
            (same_array (simple element) bounds (shape.scalar t) (U.facts.rank v) (same_scalar element t word));
        matched =
            subst (λ s. AllMatched U w s q) (sym shaped) (
              at.matched,
              held,
              λ fixed none. true≢false
                  (sym (sym (ap (is_fixed_variable U) at.declared) ∙ fixed) ∙ ap has_bounds r.known.is_variable
                  ∙ ap (λ bs. is_some (slice_get bs 0)) none),
            );
        ranked = subst (λ s. AllRanked U w s (array_shape U v t) q) (sym shaped) rank;
        stands = stands;
      }

  -- a user type or an object
  pub group_static : SoundVariable U v → (d : shape.Shape) → SameShape U (variable_shape U.program.declarations v) d → (b : net.Address)
      → b ≡ net.root d (moved_at U w.map q) → StaticMatch U holder w v b
  group_static r d same b stands =
      let s : Shape = variable_shape U.program.declarations v in
      record {
        written = d;
        same = same;
        matched =
            all_matched_made U w (static_in holder v) v at.matched.is_made at.matched.counterpart at.declared s [] r.shape r.type
            (ap not r.unflagged) kind;
        ranked = all_ranked_sound U w s d q r.shape;
        stands = stands;
      }
