-- What is written for a covered variable of a class is of its type, and begins with what the type says.
use Rattle.std.proofs.Common.{◌≡◌, refl, ap, sym, subst, ◌∙◌, ℕ, Bool, true, false, cond, List, Option, Some, slice_get, inr}
use Rattle.std.specs.Prelude.{◌||◌}
use Rattle.vb_tree.specs.BoundTree as types
use Rattle.vb_tree.specs.BoundTree.{Ty}
use Rattle.vb_tree.specs.Tree.{Module}
use Rattle.bound_tree.specs.Tree.{Declarations, Variable}
use Rattle.net_tree.specs.Tree as net
use Rattle.net_tree.specs.Types as words
use Rattle.written_trees.specs.Facts.{is_array_variable, is_flagged_variable}
use Rattle.bound_facts.specs.Node.{is_array_type}
use Rattle.written_trees.specs.Names.{Scope}
use Rattle.written_trees.specs.Projects.{module_scope}
use Rattle.written_trees.specs.Prologues.{extents, initial, object_variable, typed_variable, written_variable}
use Rattle.written_trees.specs.Types.{element_type, type_with, variable_type}
use Rattle.vb6_run.specs.Shapes.{declared_shape, shape_by, user_shapes, variable_shape}
use Rattle.net_run.specs.Shapes.{shape_of}
use Rattle.run_matches.specs.CoveredVariables.{covers_array_variable, covers_auto_variable, covers_declared, covers_group_type, covers_group_variable, covers_type, covers_user, covers_variable, has_extents}
use Rattle.run_matches.specs.Likeness.{SameShape}
use Rattle.run_matches.specs.SoundShapes.{IsSoundShape}
use Rattle.run_matches.specs.Upgrades.{Upgrade, home_of, is_flagged, is_unknown, type_of, type_of_some}
use Rattle.run_statements.specs.Arrays.{array_initial}
use Rattle.run_statements.specs.Frames.{IsArray, IsGroup, type_shape}
use Rattle.run_statements.specs.Objects.{BeginsByDefault, IsWrittenAs, written_array, written_auto, written_flagged, written_group, written_scalar, written_shape}
use Rattle.run_statements.specs.Written.{IsWritten}
use Rattle.name_laws.proofs.Autos.{AutoParts, auto_known, auto_parts, sound_auto}
use Rattle.name_laws.proofs.ClassTypes.{class_led, is_class}
use Rattle.name_laws.proofs.GroupTypes.{group_type, initial_by}
use Rattle.name_laws.proofs.Lists.{none_of_both, some_same}
use Rattle.name_laws.proofs.Owns.{ArrayParts, GroupParts, array_known, array_parts, covered_type, group_known, group_parts, sound_array, type_known, other_exact, no_scalar}
use Rattle.name_laws.proofs.Reached.{either}
use Rattle.name_laws.proofs.Words.{VariableType, WordOf, scalar_type, word_of}

-- what carries an issue is an Object
pub object_begins : (U : Upgrade) (home : ℕ) (name : List ℕ) → BeginsByDefault U home (object_variable name)
object_begins U home name = record { plain = refl; suits = refl }

module _ (U : Upgrade) (I : IsWritten U) (m : Module) (home : ℕ) (at : home_of U m.file ≡ Some home) (v : ℕ) (x : Variable)
    (is : slice_get U.program.declarations.vars v ≡ Some x) where
  abbrev D : Declarations
  D = U.program.declarations

  abbrev S : Scope
  S = module_scope U.program U.facts m

  same_of : VariableType U v x m.file home → SameShape U (variable_shape D v) (written_shape U home (typed_variable S v x))
  same_of T =
      subst (λ o. SameShape U (declared_shape (user_shapes D) o) (shape_of U.written home (variable_type D U.facts m.file v x))) (sym is)
      (subst (λ d. SameShape U (shape_by (user_shapes D) x.bounds x.ty) d) (sym (T.shaped (variable_type D U.facts m.file v x) T.is_written)) T.same)

  scalar_written : covers_variable x ≡ true → is_flagged U v ≡ false → IsWrittenAs U home v (typed_variable S v x)
  scalar_written h sound =
      let ty : covers_type x.ty ≡ true = covered_type x h in
      let w : WordOf x.ty = word_of x.ty ty in
      written_scalar (typed_variable S v x) (record { variable = x; is_variable = is; covers = h; sound = sound }) (w.plain S v x)
      (same_of (scalar_type U v x m.file home ty))

  array_is_written : (e : Ty) → covers_array_variable e x ≡ true → has_extents U.program ≡ true
      → is_flagged U v ≡ false → IsWrittenAs U home v (typed_variable S v x)
  array_is_written e h dims sound =
      let parts : ArrayParts e x = array_parts e x h in
      let r : IsArray U v e = sound_array U I v x e is h sound in
      let w : WordOf e = word_of e parts.covers in
      let rank : ℕ = U.facts.rank v in
      let same : x ≡ r.known.variable = some_same x r.known.variable (sym is ∙ r.known.is_variable) in
      written_array (typed_variable S v x) e r w.word (I.dimensions dims v (ap is_array_variable is ∙ ap is_array_type parts.is_array)) w.is_word
      (w.known U.written home)
      (ap (initial S v x) parts.is_array ∙ ap (λ t. Some (net.new_array t (extents rank x.bounds))) (w.written D m.file x.qualified 1)
      ∙ ap (λ (z : Variable). Some (array_initial U v w.word z.bounds)) same)
      (ap (λ ty. shape_of U.written home (type_with D m.file x.qualified rank ty)) parts.is_array
      ∙ ap (λ t. shape_of U.written home (words.array_of t rank)) (w.written D m.file x.qualified rank) ∙ w.listed U.written home rank)

  -- a class is written, and no field of the user type carries an issue
  group_shape : ((t : ℕ) → x.ty ≡ types.user t → covers_user D t ≡ true → IsSoundShape U (type_shape U (types.user t))) → (ty : Ty) → x.ty ≡ ty
      → covers_group_type D ty ≡ true → IsSoundShape U (type_shape U ty)
  group_shape users (types.user t) e h = users t e h
  group_shape users (types.class k) e h = inr (is_class U k (class_led D k h))
  group_shape users _ e h = absurd (cc h)

  group_written : ((t : ℕ) → x.ty ≡ types.user t → covers_user D t ≡ true → IsSoundShape U (type_shape U (types.user t)))
      → covers_group_variable D x ≡ true → is_flagged U v ≡ false
      → IsWrittenAs U home v (typed_variable S v x)
  group_written users h sound =
      let parts : GroupParts D x = group_parts D x h in
      let r : IsGroup U v x.ty = record {
        known = record { variable = x; is_variable = is; plain = parts.plain; sound = sound };
        exact = other_exact U v x is (no_scalar D x.ty parts.covers);
        is_type = refl;
        covers = parts.covers;
        sound = group_shape users x.ty refl parts.covers;
      } in
      written_group (typed_variable S v x) x.ty r (initial_by U I S refl v x x.ty parts.covers)
      (same_of (group_type U I v x x.ty m.file home refl parts.covers at))

  auto_written : covers_auto_variable D x ≡ true → is_flagged U v ≡ false → IsWrittenAs U home v (typed_variable S v x)
  auto_written h sound =
      let parts : AutoParts D x = auto_parts D x h in
      written_auto (typed_variable S v x) parts.class (sound_auto U v x is parts sound)
      (ap (initial S v x) parts.is_type) (same_of (group_type U I v x (types.class parts.class) m.file home parts.is_type parts.covers at))

  -- its type is none that a Def line gives
  declared_known : covers_declared D x ≡ true → is_unknown (Some x.ty) ≡ false
  declared_known h =
      either (covers_variable x) (covers_array_variable (element_type x.ty) x || (covers_group_variable D x || covers_auto_variable D x)) h
      (λ s. type_known x.ty (covered_type x s))
      (λ k. either (covers_array_variable (element_type x.ty) x) (covers_group_variable D x || covers_auto_variable D x) k (array_known (element_type x.ty) x)
      (λ j. either (covers_group_variable D x) (covers_auto_variable D x) j (λ g. group_known D x.ty (group_parts D x g).covers)
      (λ a. auto_known D x (auto_parts D x a))))

  sound_written : covers_declared D x ≡ true → has_extents U.program ≡ true
      → ((t : ℕ) → x.ty ≡ types.user t → covers_user D t ≡ true → IsSoundShape U (type_shape U (types.user t))) → is_flagged U v ≡ false
      → IsWrittenAs U home v (typed_variable S v x)
  sound_written h dims users sound =
      either (covers_variable x) (covers_array_variable (element_type x.ty) x || (covers_group_variable D x || covers_auto_variable D x)) h
      (λ s. scalar_written s sound)
      (λ k. either (covers_array_variable (element_type x.ty) x) (covers_group_variable D x || covers_auto_variable D x) k
      (λ a. array_is_written (element_type x.ty) a dims sound)
      (λ j. either (covers_group_variable D x) (covers_auto_variable D x) j (λ g. group_written users g sound) (λ a. auto_written a sound)))

  pub field_written : covers_declared D x ≡ true → has_extents U.program ≡ true
      → ((t : ℕ) → x.ty ≡ types.user t → covers_user D t ≡ true → IsSoundShape U (type_shape U (types.user t)))
      → IsWrittenAs U home v (written_variable S (v, x))
  field_written h dims users = by (is_flagged_variable U.facts v) refl
    where
      by : (b : Bool) → is_flagged_variable U.facts v ≡ b → IsWrittenAs U home v (cond b (object_variable x.name) (typed_variable S v x))
      by true e =
          written_flagged (object_variable x.name) (ap (λ b. b || is_unknown (type_of U v)) e) (object_begins U home x.name)
      by false e =
          sound_written h dims users
          (none_of_both (is_flagged_variable U.facts v) (is_unknown (type_of U v)) e
          (ap (λ (o : Option Variable). is_unknown (type_of_some o)) is ∙ declared_known h))
