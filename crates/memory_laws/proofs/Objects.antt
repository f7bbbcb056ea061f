-- The variables of a new object are laid on both sides, in order; then the memories match again.
use Rattle.std.proofs.Common.{◌≡◌, ◌⊎◌, inl, inr, ⊎_elim, refl, sym, ap, subst, ◌∙◌, ℕ, suc, ◌+◌, ◌≤◌, false, not, Option, Some, List, [], ◌∷◌, ◌++◌, arith, true≢false, eq-eqb, lt-ltb}
use Rattle.std.specs.Prelude.{nat_eq, nat_lt, slice_get}
use Rattle.up_base.proofs.Tests.{and_true, by_test}
use Rattle.vb_tree.specs.BoundTree as types
use Rattle.vb_tree.specs.declared.value.Value6.TheVariants as value
use Rattle.bound_tree.specs.Tree.{Declarations, Variable}
use Rattle.bound_facts.specs.Members.{is_of_module, variables_from}
use Rattle.net_tree.specs.Tree as net_tree
use Rattle.net_tree.specs.Tree.{Member, member_comment, variable, const_member, structure, property, proc}
use Rattle.net_meaning.specs.declared.value.ValueN.TheVariants as n
use Rattle.net_meaning.specs.ValueMatch.{objects_of}
use Rattle.run_base.specs.Outcomes.{Outcome, gives, then}
use Rattle.run_base.specs.Positions.{Position, field, whole}
use Rattle.vb6_run.specs.Objects.{lay_fields, with_new_object}
use Rattle.vb6_run.specs.Shapes.{variable_shape}
use Rattle.vb6_run.specs.Store.{Held, Memory, lay}
use Rattle.net_run.specs.Making.{member_made, members_made, variable_made, with_object}
use Rattle.net_run.specs.Names.{key_of}
use Rattle.net_run.specs.Shapes as shape
use Rattle.net_run.specs.Store as net
use Rattle.run_matches.specs.Agreeing.{Agrees}
use Rattle.run_matches.specs.Likeness.{like_scalar}
use Rattle.run_matches.specs.Maps.{World}
use Rattle.run_matches.specs.Match.{HeldAs, IsBlank, MemoryMatch, is_class_variable}
use Rattle.run_matches.specs.Pledges.{Later, Pledge, type_of_shape}
use Rattle.run_matches.specs.SoundShapes.{IsSoundShape}
use Rattle.run_matches.specs.Upgrades.{Upgrade, is_flagged, type_of_some, variable_key}
use Rattle.run_statements.specs.Frames.{IsOne, IsReadable}
use Rattle.run_statements.specs.Objects.{AreWritten, none_written, other_member, stands_for_none, variable_written, IsMakeable, IsWrittenAs, written_flagged, written_scalar, written_array, written_auto, written_group, written_shape, MadeObject, ObjectMade, ObjectsAreMade, is_variable}
use Rattle.agreeing_laws.proofs.Agreeing.{agrees_outside}
use Rattle.agreeing_laws.proofs.Made.{up_self}
use Rattle.agreeing_laws.proofs.Outputs.{after_nothing}
use Rattle.agreeing_laws.proofs.SoundParts.{part_type}
use Rattle.memory_laws.specs.Objects.{AreLaid, Lays, own_root, refilled, unclassed, with_objects}
use Rattle.memory_laws.proofs.ArraysMade.{array_lays}
use Rattle.memory_laws.proofs.Autos.{auto_sound, auto_type}
use Rattle.memory_laws.proofs.ClassVariables.{class_variable_is, is_listed, listed_is}
use Rattle.memory_laws.proofs.GroupsMade.{group_shape, group_sound, group_type}
use Rattle.memory_laws.proofs.LaidValues.{kinds_by}
use Rattle.memory_laws.proofs.Making.{readable_shape, readable_type}
use Rattle.memory_laws.proofs.NewObjects.{class_here, classed_later, object_here, object_later}
use Rattle.memory_laws.proofs.ObjectFields.{IsLaid, flagged_lays, none_stands, sound_lays}
use Rattle.memory_laws.proofs.Places.{here_more}
use Rattle.memory_laws.proofs.Positions.{at}

-- ---- lists

one_left : (us vs : List ℕ) (v : ℕ) → IsOne us v → IsOne (us ++ vs) v
one_left [] vs v i = absurd i
one_left (u ∷ us) vs v (inl e) = inl e
one_left (u ∷ us) vs v (inr i) = inr (one_left us vs v i)

one_right : (us vs : List ℕ) (v : ℕ) → IsOne vs v → IsOne (us ++ vs) v
one_right [] vs v i = i
one_right (u ∷ us) vs v i = inr (one_right us vs v i)

either_one : (us vs : List ℕ) (v : ℕ) → IsOne (us ++ vs) v → IsOne us v ⊎ IsOne vs v
either_one [] vs v i = inr i
either_one (u ∷ us) vs v (inl e) = inl (inl e)
either_one (u ∷ us) vs v (inr i) = ⊎_elim (λ j. inl (inr j)) (λ j. inr j) (either_one us vs v i)

-- ---- keys

same_root : (w : World) (u v : ℕ) → own_root w u ≡ own_root w v → u ≡ v
same_root w u v e = cc

same_member : (home k i : ℕ) → Some (key_of home k) ≡ Some (key_of home i) → k ≡ i
same_member home k i e = cc

not_later : (k i : ℕ) → suc k ≤ i → k ≡ i → ⊥
not_later k i le e = omega arith

one_before : (k i : ℕ) → suc k ≤ i → k ≤ i
one_before k i le = omega arith

-- a variable is written at a member from a number on
abbrev IsLater : Upgrade → (home number variable : ℕ) → Type 0
IsLater U home k v = (i : ℕ) × (k ≤ i) × (variable_key U v ≡ Some (key_of home i))

module _ (U : Upgrade) (home : ℕ) where
  later_member : (k v : ℕ) → IsLater U home (suc k) v → IsLater U home k v
  later_member k v i = (i.0, one_before k i.0 i.1, i.2)

  are_later : (vs : List ℕ) (k : ℕ) (members : List Member) → AreWritten U home vs k members → (v : ℕ) → IsOne vs v → IsLater U home k v
  are_later _ _ _ (none_written k) v i = absurd i
  are_later _ _ _ (other_member vs k m members e more) v i = later_member k v (are_later vs (suc k) members more v i)
  are_later _ _ _ (stands_for_none vs k visibility x members b none more) v i = later_member k v (are_later vs (suc k) members more v i)
  are_later _ _ _ (variable_written u vs k visibility x members is differs form more) v (inl e) =
      (k, up_self k, subst (λ z. variable_key U z ≡ Some (key_of home k)) e is)
  are_later _ _ _ (variable_written u vs k visibility x members is differs form more) v (inr i) =
      later_member k v (are_later vs (suc k) members more v i)

  not_twice : (k v : ℕ) → variable_key U v ≡ Some (key_of home k) → IsLater U home (suc k) v → ⊥
  not_twice k v is i = not_later k i.0 i.1 (same_member home k i.0 (sym is ∙ i.2))

-- ---- one after the other

module _ (U : Upgrade) (K : Pledge) (w : World) (start : MemoryMatch U w) (c d : Option ℕ) where
  abbrev source : (Position → Held) → (Position → net.Cell) → (ℕ → net.Array) → ℕ → Memory
  source h t a n = (refilled (with_objects w c d) h t a n).src

  abbrev target : (Position → Held) → (Position → net.Cell) → (ℕ → net.Array) → ℕ → net.Memory
  target h t a n = (refilled (with_objects w c d) h t a n).net

  module _ (us vs : List ℕ) (h : Position → Held) (r : Outcome Memory (Unit {0})) (r' : Outcome net.Memory (Unit {0}))
      (k : Unit {0} → Memory → Outcome Memory (Unit {0})) (k' : Unit {0} → net.Memory → Outcome net.Memory (Unit {0}))
      (apart : (v : ℕ) → IsOne us v → IsOne vs v → ⊥) where
    module _ (x : AreLaid U K w c d us h r r')
        (y : AreLaid U K w c d vs x.held (k tt (source x.held x.cells x.arrays x.next)) (k' tt (target x.held x.cells x.arrays x.next))) where
      -- what was laid first stays
      still_laid : (v : ℕ) → IsOne us v → IsLaid U w v x.held → IsLaid U w v y.held
      still_laid v i (inl flagged) = inl flagged
      still_laid v i (inr kinds) =
          inr (kinds_by (variable_shape U.program.declarations v) (whole (own_root w v)) x.held y.held
          (λ path. y.others (at (own_root w v) (path ++ [])) (λ u j e. apart v i (subst (λ z. IsOne vs z) (same_root w u v e) j))) kinds)

      both_laid : AreLaid U K w c d (us ++ vs) h (then r k) (then r' k')
      both_laid = record {
        held = y.held;
        cells = y.cells;
        arrays = y.arrays;
        next = y.next;
        later = y.later;
        others = λ p o. y.others p (λ v i. o v (one_right us vs v i)) ∙ x.others p (λ v i. o v (one_left us vs v i));
        laid = λ v i. ⊎_elim (λ j. still_laid v j (x.laid v j)) (λ j. y.laid v j) (either_one us vs v i);
        source_is =
            ap (λ z. then z k) x.source_is ∙ (after_nothing (k tt (source x.held x.cells x.arrays x.next)) ∙ y.source_is);
        target_is =
            ap (λ z. then z k') x.target_is ∙ (after_nothing (k' tt (target x.held x.cells x.arrays x.next)) ∙ y.target_is);
      }

    rest_lays : (x : AreLaid U K w c d us h r r')
        → Lays U K w c d vs x.held (k tt (source x.held x.cells x.arrays x.next)) (k' tt (target x.held x.cells x.arrays x.next))
        → Lays U K w c d (us ++ vs) h (then r k) (then r' k')
    rest_lays x (inl e) = inl (ap (λ z. then z k) x.source_is ∙ (after_nothing (k tt (source x.held x.cells x.arrays x.next)) ∙ e))
    rest_lays x (inr y) = inr (both_laid x y)

    then_lays : Lays U K w c d us h r r'
        → ((x : AreLaid U K w c d us h r r')
        → Lays U K w c d vs x.held (k tt (source x.held x.cells x.arrays x.next)) (k' tt (target x.held x.cells x.arrays x.next)))
        → Lays U K w c d (us ++ vs) h (then r k) (then r' k')
    then_lays (inl e) go = inl (ap (λ z. then z k) e)
    then_lays (inr x) go = rest_lays x (go x)

  -- ---- one variable

  module _ (home v k : ℕ) (h : Position → Held) (t : Position → net.Cell) (a : ℕ → net.Array) (n : ℕ) (l : Later U K w (unclassed w h t a n))
      (is : variable_key U v ≡ Some (key_of home k)) (differs : (u : ℕ) → variable_key U u ≡ Some (key_of home k) → v ≡ u)
      (none : IsBlank (own_root w v) h) where
    abbrev LaysOne : net_tree.Variable → Type 0
    LaysOne x =
        Lays U K w c d (v ∷ []) h (lay (variable_shape U.program.declarations v) (whole (own_root w v)) (source h t a n))
        (variable_made U.written home (field w.net.next_object (key_of home k)) x (target h t a n))

    scalar_sound : IsReadable U v → IsSoundShape U (variable_shape U.program.declarations v)
    scalar_sound r = subst (λ s. IsSoundShape U s) (sym (readable_shape U v r)) (inl (readable_type U v r))

    scalar_type : (r : IsReadable U v) → part_type U v [] ≡ Some (type_of_shape (variable_shape U.program.declarations v))
    scalar_type r = ap type_of_some r.is_variable ∙ ap (λ s. Some (type_of_shape s)) (sym (readable_shape U v r))

    one_lays : (x : net_tree.Variable) → IsWrittenAs U home v x → LaysOne x
    one_lays _ (written_flagged x flagged b) = flagged_lays U K w start c d (key_of home k) h t a n l home x v flagged b differs
    one_lays _ (written_scalar x r plain sh) =
        sound_lays U K w start c d (key_of home k) h t a n l home x v is differs none (scalar_sound r) (scalar_type r) (ap not r.sound) plain sh
    one_lays _ (written_array x element r ty some word shaped value declared) =
        array_lays U v element r ty word some home shaped K w start c d (key_of home k) h t a n l is differs (none []) x value declared
    one_lays _ (written_group x ty r plain sh) =
        sound_lays U K w start c d (key_of home k) h t a n l home x v is differs none (group_shape U v ty r) (group_type U v ty r) (group_sound U v ty r)
        plain sh
    one_lays _ (written_auto x class r plain sh) =
        sound_lays U K w start c d (key_of home k) h t a n l home x v is differs none (auto_sound U v class r (written_shape U home x) sh)
        (auto_type U v class r) (ap not r.sound) plain sh

  -- ---- all variables

  passed_over : (home k : ℕ) (m : Member) → is_variable m ≡ false → (s : net.Memory)
      → member_made U.written (field w.net.next_object) home k m s ≡ gives [] tt s
  passed_over home k (member_comment units) e s = refl
  passed_over home k (variable visibility x) e s = absurd (true≢false e)
  passed_over home k (const_member visibility x) e s = refl
  passed_over home k (structure x) e s = refl
  passed_over home k (property p) e s = refl
  passed_over home k (proc p) e s = refl

  -- nothing stands yet in what is written from a number on
  abbrev AreBlank : (home number : ℕ) → (Position → Held) → Type 0
  AreBlank home k h = (v : ℕ) → IsLater U home k v → IsBlank (own_root w v) h

  abbrev lays_all : List ℕ → Memory → Outcome Memory (Unit {0})
  lays_all vs s = lay_fields U.program.declarations w.src.next_object vs s

  abbrev makes_all : (home number : ℕ) → List Member → net.Memory → Outcome net.Memory (Unit {0})
  makes_all home k members s = members_made U.written (field w.net.next_object) home k members s

  all_lay : (home : ℕ) (vs : List ℕ) (k : ℕ) (members : List Member) → AreWritten U home vs k members → (h : Position → Held) (t : Position → net.Cell)
      (a : ℕ → net.Array) (n : ℕ) → Later U K w (unclassed w h t a n) → AreBlank home k h
      → Lays U K w c d vs h (lays_all vs (source h t a n)) (makes_all home k members (target h t a n))
  all_lay home _ _ _ (none_written k) h t a n l b =
      inr (record {
        held = h;
        cells = t;
        arrays = a;
        next = n;
        later = l;
        others = λ p o. refl;
        laid = λ v i. absurd i;
        source_is = refl;
        target_is = refl;
      })
  all_lay home _ _ _ (other_member vs k m members e more) h t a n l b =
      subst (λ z. Lays U K w c d vs h (lays_all vs (source h t a n)) z)
      (sym
      (ap (λ z. then z (λ u s. makes_all home (suc k) members s)) (passed_over home k m e (target h t a n))
      ∙ after_nothing (makes_all home (suc k) members (target h t a n))))
      (all_lay home vs (suc k) members more h t a n l (λ v i. b v (later_member U home k v i)))
  all_lay home _ _ _ (stands_for_none vs k visibility x members begins none more) h t a n l b =
      subst (λ z. Lays U K w c d vs h z (makes_all home k (variable visibility x ∷ members) (target h t a n)))
      (after_nothing (lays_all vs (source h t a n)))
      (then_lays [] vs h (gives [] tt (source h t a n))
      (variable_made U.written home (field w.net.next_object (key_of home k)) x (target h t a n)) (λ u s. lays_all vs s)
      (λ u s. makes_all home (suc k) members s) (λ v i j. i)
      (inr (none_stands U K w start c d (key_of home k) h t a n l home x begins none))
      (λ y. all_lay home vs (suc k) members more y.held y.cells y.arrays y.next y.later
      (λ v i path. y.others (at (own_root w v) path) (λ u j e. absurd j) ∙ b v (later_member U home k v i) path)))
  all_lay home _ _ _ (variable_written v vs k visibility x members is differs form more) h t a n l b =
      then_lays (v ∷ []) vs h (lay (variable_shape U.program.declarations v) (whole (own_root w v)) (source h t a n))
      (variable_made U.written home (field w.net.next_object (key_of home k)) x (target h t a n)) (λ u s. lays_all vs s)
      (λ u s. makes_all home (suc k) members s) (λ u i j. twice u i (are_later U home vs (suc k) members more u j))
      (one_lays home v k h t a n l is differs (b v (k, up_self k, is)) x form)
      (λ y. all_lay home vs (suc k) members more y.held y.cells y.arrays y.next y.later
      (λ u i path. y.others (at (own_root w u) path) (λ z j e. twice u (subst (λ s. IsOne (v ∷ []) s) (same_root w z u e) j) i)
      ∙ b u (later_member U home k u i) path))
    where
      twice : (u : ℕ) → IsOne (v ∷ []) u → IsLater U home (suc k) u → ⊥
      twice u (inl e) i = not_twice U home k u (subst (λ z. variable_key U z ≡ Some (key_of home k)) e is) i
      twice u (inr j) i = j

-- ---- the object has its class

module _ (U : Upgrade) (K : Pledge) (w : World) (class : ℕ) (m : IsMakeable U class) (h : MemoryMatch U w) where
  abbrev D : Declarations
  D = U.program.declarations

  abbrev vs : List ℕ
  vs = variables_from m.file 0 D.vars

  -- nothing stands in the new object at first
  first_blank : (v : ℕ) → IsBlank (own_root w v) w.src.held
  first_blank v path = h.stores.unmade (at (own_root w v) path) (up_self w.src.next_object)

  number_is : (v : ℕ) → v ≡ v + 0
  number_is v = omega arith

  module _ (r : Outcome Memory (Unit {0})) (r' : Outcome net.Memory (Unit {0})) where
    module _ (x : AreLaid U K w (Some class) (Some m.home) vs w.src.held r r') where
      laid_there : (v : ℕ) (y : Variable) → is_flagged U v ≡ false → IsLaid U w v x.held
          → HeldAs D v (is_class_variable D class y.owner) (own_root w v) x.held
      laid_there v y sound (inl flagged) = absurd (true≢false (sym flagged ∙ sound))
      laid_there v y sound (inr kinds) = inr kinds

      as_declared : (v : ℕ) (y : Variable) → slice_get D.vars v ≡ Some y → is_flagged U v ≡ false
          → HeldAs D v (is_class_variable D class y.owner) (own_root w v) x.held
      as_declared v y is sound =
          by_test (is_of_module m.file y.owner)
          (λ b. is_of_module m.file y.owner ≡ b → HeldAs D v (is_class_variable D class y.owner) (own_root w v) x.held)
          (λ e i. laid_there v y sound (x.laid v (is_listed m.file 0 D.vars v v y (number_is v) is e)))
          (λ e i. inl (
            λ path.
                x.others (at (own_root w v) path)
                (λ u j s. true≢false
                (sym (listed_is m.file 0 D.vars v v y (number_is v) is (subst (λ z. IsOne vs z) (same_root w u v s) j)) ∙ e))
                ∙ first_blank v path,
            class_variable_is D class m.file m.is_file y.owner ∙ e,
          )) refl

      made_later : Later U K w (refilled (with_objects w (Some class) (Some m.home)) x.held x.cells x.arrays x.next)
      made_later =
          classed_later U K w h (Some class) (Some m.home) (m.is_home, m.no_terminator) x.held x.cells x.arrays x.next x.later
          (λ c v y e is sound. subst (λ z. HeldAs D v (is_class_variable D z y.owner) (own_root w v) x.held) (same_class c e) (as_declared v y is sound))
        where
          same_class : (c : ℕ) → Some class ≡ Some c → class ≡ c
          same_class c e = cc

      object_made : ObjectMade U w class (refilled (with_objects w (Some class) (Some m.home)) x.held x.cells x.arrays x.next)
      object_made = record {
        is_made = here_more w.src.next_object;
        goes = object_here w (Some class) (Some m.home);
        is_class = class_here w (Some class) (Some m.home);
        like =
            like_scalar (types.class class) (value.Object w.src.next_object) (n.Object w.net.next_object)
            (objects_of class w.src.next_object w.net.next_object
            (and_true (nat_lt w.src.next_object (suc w.src.next_object))
            (nat_eq ((with_objects w (Some class) (Some m.home)).map.objects w.src.next_object) w.net.next_object)
            (lt-ltb w.src.next_object (suc w.src.next_object) (here_more w.src.next_object))
            (eq-eqb ((with_objects w (Some class) (Some m.home)).map.objects w.src.next_object) w.net.next_object
            (object_here w (Some class) (Some m.home)))));
      }

    made_by : Lays U K w (Some class) (Some m.home) vs w.src.held r r' → Agrees U K w (MadeObject U w class) r r'
    made_by (inl e) = subst (λ z. Agrees U K w (MadeObject U w class) z r') (sym e) (agrees_outside U K w (MadeObject U w class) r')
    made_by (inr x) =
        subst (λ z. Agrees U K w (MadeObject U w class) z r') (sym x.source_is)
        (subst
        (λ z. Agrees U K w (MadeObject U w class) (gives [] tt (refilled (with_objects w (Some class) (Some m.home)) x.held x.cells x.arrays x.next).src) z)
        (sym x.target_is) (refl, (with_objects w (Some class) (Some m.home)).map, object_made x, made_later x))

pub objects_are_made : (U : Upgrade) → ObjectsAreMade U
objects_are_made U K w class m h =
    made_by U K w class m h
    (lay_fields U.program.declarations w.src.next_object (variables_from m.file 0 U.program.declarations.vars) (with_new_object class w.src.next_object w.src))
    (members_made U.written (field w.net.next_object) m.home 0 (shape.members_of (shape.module_at U.written m.home)) (with_object m.home w.net))
    (all_lay U K w h (Some class) (Some m.home) m.home (variables_from m.file 0 U.program.declarations.vars) 0
    (shape.members_of (shape.module_at U.written m.home)) m.are_written w.src.held w.net.cell w.net.arrays w.net.next_array (object_later U w h K)
    (λ v i. first_blank U K w class m h v))
