-- The variables of a procedure are made on both sides, in the order of their declarations.
use Rattle.std.proofs.Common.{◌≡◌, inl, inr, refl, sym, ap, subst, ◌∙◌, ℕ, suc, Bool, true, false, not, Option, Some, None, List, [], ◌∷◌, map, append-nil}
use Rattle.std.specs.Prelude.{slice_get}
use Rattle.vb_tree.specs.BoundTree as types
use Rattle.vb_tree.specs.BoundTree.{Ty}
use Rattle.bound_tree.specs.Tree.{Declarations, Variable}
use Rattle.run_base.specs.Outcomes.{Outcome, gives, raises, spent, outside, then}
use Rattle.run_base.specs.Positions.{Position, Root, made, whole}
use Rattle.vb6_run.specs.Shapes.{Shape, variable_shape}
use Rattle.vb6_run.specs.Store.{Address, Memory, blank, laid, make, provided, root}
use Rattle.vb6_run.specs.Values.{is_makeable}
use Rattle.net_run.specs.Members.{Code}
use Rattle.net_run.specs.Program.{dim_made, dims_made, made_once, static_key, static_root}
use Rattle.net_run.specs.Shapes as shape
use Rattle.net_run.specs.Store as net
use Rattle.net_run.specs.Structures.{initial_value}
use Rattle.net_tree.specs.Tree as net_tree
use Rattle.net_tree.specs.Types.{TypeName}
use Rattle.written_trees.specs.Names.{Scope}
use Rattle.run_matches.specs.Frames.{is_mirrored}
use Rattle.run_matches.specs.Addresses.{images}
use Rattle.run_matches.specs.Agreeing.{Agrees}
use Rattle.run_matches.specs.Likeness.{SameShape}
use Rattle.run_matches.specs.Maps.{Below, World, mark, moved, moved_at}
use Rattle.run_matches.specs.Match.{MemoryMatch}
use Rattle.run_matches.specs.Pledges.{Later, Pledge}
use Rattle.run_matches.specs.Sites.{Own, own_constant, own_variable}
use Rattle.run_matches.specs.Upgrades.{Upgrade, home_of, is_flagged}
use Rattle.run_statements.specs.Arrays.{ArrayMade, array_initial, array_shape}
use Rattle.run_statements.specs.Frames.{AnyUnits, HasRankOf, IsArray, IsKnown, IsReadable, IsUsable, MadeMatch}
use Rattle.run_statements.specs.Groups.{GroupMade}
use Rattle.written_trees.specs.Prologues.{is_static}
use Rattle.run_statements.specs.Kept.{own_dim}
use Rattle.agreeing_laws.specs.Promises.{Yields}
use Rattle.agreeing_laws.proofs.Agreeing.{agrees_gives, agrees_weaker, agrees_yields, right_alone, then_agrees}
use Rattle.agreeing_laws.proofs.Made.{below_then, more, same_at}
use Rattle.agreeing_laws.proofs.Outputs.{outputs_then}
use Rattle.run_laws.specs.Entered.{IsHolder, LocalMatch, LocalsMatch, StaticMatch, KeyAt, AllKeyed, static_in, no_locals, next_constant, next_static, next_variable, AllSound}
use Rattle.run_laws.specs.Premises.{ArraysHaveRanks, GroupsAreWritten, MakesAlike}
use Rattle.run_laws.proofs.Covered.{some_is}
use Rattle.memory_laws.proofs.AutosMade.{auto_variable}
use Rattle.memory_laws.proofs.GroupsMade.{SoundVariable, group_variable}
use Rattle.memory_laws.proofs.StaticRoots.{StaticStands, static_stands}
use Rattle.memory_laws.proofs.Statics.{static_is_laid}
use Rattle.run_laws.proofs.Dims.{ArrayDim, ArrayStatic, ConstantMade, array_made, array_static_made, constant_made, ScalarMade, StaticMade, static_made, variable_made}
use Rattle.run_laws.proofs.GroupDims.{GroupDim, GroupStatic, IsOfType, auto_of_type, auto_unranked, group_of_type, group_made, group_static_made, group_unranked}
use Rattle.run_laws.proofs.Locals.{local_later, new_place, static_later}
use Rattle.run_laws.proofs.Usable.{has_rank_of, array_static, group_static, laid_there, scalar_static, usable_end}
use Rattle.run_laws.proofs.StaticOrder.{laid_once, made_own, made_in_order}
use Rattle.run_laws.proofs.StaticPlaces.{holder_goes, holder_later, holder_root}

-- ---- making

abbrev lay_by : Bool → Shape → Position → Memory → Outcome Memory Unit
lay_by b s q w = provided b (λ v. gives [] tt (laid s q v)) w

-- the source makes the next place
pub makes_next : (s : Shape) (w : Memory) → Yields (λ (a : Address) (u : Memory). a ≡ root s (whole (made w.next))) (make s w)
makes_next s w = by (is_makeable s)
  where
    by : (b : Bool) → Yields (λ (a : Address) (u : Memory). a ≡ root s (whole (made w.next)))
        (then (lay_by b s (whole (made w.next)) (record w { next = suc w.next })) (λ u v. gives [] (root s (whole (made w.next))) v))
    by true = refl
    by false = tt

-- the target goes on with a function of what it gives
pub then_gives : {A B C : Type 0} (U : Upgrade) (K : Pledge) (w : World) (R : World → A → B → Type 0) (S : World → A → C → Type 0) (f : B → C)
    (r : Outcome Memory A) (r' : Outcome net.Memory B) → ((u : World) (a : A) (b : B) → R u a b → S u a (f b)) → Agrees U K w R r r'
    → Agrees U K w S r (then r' (λ b t. gives [] (f b) t))
then_gives U K w R S f (gives o a s) (gives q b t) g h = (append-nil q ∙ h.0, h.1, g (record { map = h.1; src = s; net = t }) a b h.2, h.3)
then_gives U K w R S f (raises o e s) (raises q d t) g h = h
then_gives U K w R S f (spent o s) (spent q t) g h = h
then_gives U K w R S f (outside o) r' g h = outputs_then o h.0 r' (λ b t. gives [] (f b) t) h.1
then_gives U K w R S f _ _ g h = absurd h

-- of what it gives, and of what lasts until then
then_gives_later : {A B C : Type 0} (U : Upgrade) (K : Pledge) (w : World) (R : World → A → B → Type 0) (S : World → A → C → Type 0) (f : B → C)
    (r : Outcome Memory A) (r' : Outcome net.Memory B) → ((u : World) (a : A) (b : B) → Later U K w u → R u a b → S u a (f b)) → Agrees U K w R r r'
    → Agrees U K w S r (then r' (λ b t. gives [] (f b) t))
then_gives_later U K w R S f r r' g h =
    then_gives U K w (λ u a b. S u a (f b)) S f r r' (λ u a b m. m) (agrees_weaker U K w R (λ u a b. S u a (f b)) r r' g h)

abbrev pub Locals : Upgrade → Pledge → (holder : Option ℕ) → List Own → World → List (ℕ × Address) → List (List ℕ × net.Address) → Type 0
Locals U K holder os w xs ys = LocalsMatch U K holder w os xs ys

module _ (U : Upgrade) (K : Pledge) (makes : MakesAlike U K) (ranked : ArraysHaveRanks U) (written : GroupsAreWritten U) (S : Scope) (facts : S.facts ≡ U.facts)
    (declared : S.declarations ≡ U.program.declarations) (c : Code) (here : home_of U S.file ≡ Some c.home) (me holder net_holder : Option ℕ) where
  abbrev MadeNext : World → (v : ℕ) (r : IsReadable U v) → TypeName → World → Address → net.Address → Type 0
  MadeNext w v r t u a b = MadeMatch U K v r.variable.ty t u a b × (a ≡ root (variable_shape U.program.declarations v) (whole (made w.src.next)))

  abbrev ArrayNext : World → (v : ℕ) → TypeName → World → Address → net.Address → Type 0
  ArrayNext w v t u a b = ArrayMade U K v t u a b × (a ≡ root (variable_shape U.program.declarations v) (whole (made w.src.next)))

  abbrev GroupNext : World → (v : ℕ) → shape.Shape → World → Address → net.Address → Type 0
  GroupNext w v d u a b = GroupMade U K v d u a b × (a ≡ root (variable_shape U.program.declarations v) (whole (made w.src.next)))

  abbrev Named : (v : ℕ) → List ℕ → World → Address → List ℕ × net.Address → Type 0
  Named v name u a b = (b.0 ≡ name) × LocalMatch U K u v a b.1

  one_agrees : (w : World) (i v : ℕ) (r : IsReadable U v) → is_static r.variable.owner ≡ false → Below K.base (mark w.src) → MemoryMatch U w
      → Agrees U K w (Named v r.variable.name) (make (variable_shape U.program.declarations v) w.src)
      (dim_made U.written c me i (own_dim S (own_variable v r.variable)) w.net)
  one_agrees w i v r local low h =
      let m : ScalarMade U S c v r = variable_made U S facts c v r local in
      let s : Shape = variable_shape U.program.declarations v in
      subst (λ x. Agrees U K w (Named v r.variable.name) (make s w.src) x) (sym (m.is_made me i w.net))
      (then_gives U K w (MadeNext w v r m.word) (Named v r.variable.name) (λ b. (r.variable.name, b)) (make s w.src)
      (net.made_with (shape.scalar m.word) (shape.default_of (shape.scalar m.word)) w.net)
      (λ u a b x. (
        refl,
        record {
          bound = images (not (is_mirrored U v)) a b x.0.same;
          ranked = subst (λ d. HasRankOf U v (net.shape_at d)) (sym x.0.target_shape.1) tt;
          standing = inl (record { place = x.0.place; own = new_place K w a s low x.1 });
        },
      ))
      (agrees_yields U K w (MadeMatch U K v r.variable.ty m.word) (λ (a : Address) (u : Memory). a ≡ root s (whole (made w.src.next))) (make s w.src)
      (net.made_with (shape.scalar m.word) (shape.default_of (shape.scalar m.word)) w.net) (makes_next s w.src)
      (makes.scalars w v r m.word m.is_word h)))

  array_agrees : (w : World) (i v : ℕ) (element : Ty) (r : IsArray U v element) → is_static r.known.variable.owner ≡ false → Below K.base (mark w.src)
      → MemoryMatch U w
      → Agrees U K w (Named v r.known.variable.name) (make (variable_shape U.program.declarations v) w.src)
      (dim_made U.written c me i (own_dim S (own_variable v r.known.variable)) w.net)
  array_agrees w i v element r local low h =
      let m : ArrayDim U S c v element r = array_made U S facts c v element r local in
      let s : Shape = variable_shape U.program.declarations v in
      let name = r.known.variable.name in
      let target = then (initial_value U.written c.home (array_shape U v m.word) (Some (array_initial U v m.word r.known.variable.bounds)) w.net)
      (λ y t. net.made_with (array_shape U v m.word) y t) in
      subst (λ x. Agrees U K w (Named v name) (make s w.src) x) (sym (m.is_made me i w.net))
      (then_gives U K w (ArrayNext w v m.word) (Named v name) (λ b. (name, b)) (make s w.src) target
      (λ u a b x. (
        refl,
        record {
          bound = images (not (is_mirrored U v)) a b x.0.same;
          ranked = subst (λ d. HasRankOf U v (net.shape_at d)) (sym x.0.target_shape.1) refl;
          standing = inl (record { place = x.0.place; own = new_place K w a s low x.1 });
        },
      ))
      (agrees_yields U K w (ArrayMade U K v m.word) (λ (a : Address) (u : Memory). a ≡ root s (whole (made w.src.next))) (make s w.src) target
      (makes_next s w.src) (makes.arrays w v element r m.word c.home (has_rank_of U v element r ranked) m.is_word m.shaped h)))

  -- what makes a variable of a user type or of a class on both sides
  abbrev Makes : World → (v : ℕ) → Type 0
  Makes w v =
      (d : shape.Shape) → SameShape U (variable_shape U.program.declarations v) d
      → Agrees U K w (GroupMade U K v d) (make (variable_shape U.program.declarations v) w.src) (net.made_with d (shape.default_of d) w.net)

  abbrev IsUnranked : (v : ℕ) → Type 0
  IsUnranked v = (d : shape.Shape) → SameShape U (variable_shape U.program.declarations v) d → HasRankOf U v d

  group_agrees : (w : World) (i v : ℕ) (ty : Ty) (r : IsOfType U v ty) → Makes w v → IsUnranked v → is_static r.variable.owner ≡ false
      → Below K.base (mark w.src)
      → Agrees U K w (Named v r.variable.name) (make (variable_shape U.program.declarations v) w.src)
      (dim_made U.written c me i (own_dim S (own_variable v r.variable)) w.net)
  group_agrees w i v ty r does unranked local low =
      let m : GroupDim U S c v ty r = group_made U written S facts declared c here v ty r local in
      let s : Shape = variable_shape U.program.declarations v in
      let d : shape.Shape = m.written in
      let name = r.variable.name in
      let target = net.made_with d (shape.default_of d) w.net in
      subst (λ x. Agrees U K w (Named v name) (make s w.src) x) (sym (m.is_made me i w.net))
      (then_gives U K w (GroupNext w v d) (Named v name) (λ b. (name, b)) (make s w.src) target
      (λ u a b x. (
        refl,
        record {
          bound = images (not (is_mirrored U v)) a b x.0.same;
          ranked = subst (λ z. HasRankOf U v (net.shape_at z)) (sym x.0.target_shape.1) (unranked d m.same);
          standing = inl (record { place = x.0.place; own = new_place K w a s low x.1 });
        },
      ))
      (agrees_yields U K w (GroupMade U K v d) (λ (a : Address) (u : Memory). a ≡ root s (whole (made w.src.next))) (make s w.src) target
      (makes_next s w.src) (does d m.same)))

  one_of_type : (w : World) (i v : ℕ) (x : Variable) → slice_get U.program.declarations.vars v ≡ Some x → (ty : Ty) (r : IsOfType U v ty) → Makes w v
      → IsUnranked v → is_static x.owner ≡ false → Below K.base (mark w.src)
      → Agrees U K w (Named v x.name) (make (variable_shape U.program.declarations v) w.src)
      (dim_made U.written c me i (own_dim S (own_variable v x)) w.net)
  one_of_type w i v x is ty r does unranked local low =
      let same : r.variable ≡ x = some_is (sym r.is_variable ∙ is) in
      subst (λ (y : Variable). Agrees U K w (Named v y.name) (make (variable_shape U.program.declarations v) w.src)
      (dim_made U.written c me i (own_dim S (own_variable v y)) w.net)) same
      (group_agrees w i v ty r does unranked (ap (λ (y : Variable). is_static y.owner) same ∙ local) low)

  -- a scalar, an array, or a variable of a user type or of a class, also an As New one
  local_agrees : (w : World) (i v : ℕ) (x : Variable) → slice_get U.program.declarations.vars v ≡ Some x → IsUsable U v → is_static x.owner ≡ false
      → Below K.base (mark w.src) → MemoryMatch U w
      → Agrees U K w (Named v x.name) (make (variable_shape U.program.declarations v) w.src)
      (dim_made U.written c me i (own_dim S (own_variable v x)) w.net)
  local_agrees w i v x is (inl r) local low h =
      let same : r.variable ≡ x = some_is (sym r.is_variable ∙ is) in
      subst (λ (y : Variable). Agrees U K w (Named v y.name) (make (variable_shape U.program.declarations v) w.src)
      (dim_made U.written c me i (own_dim S (own_variable v y)) w.net)) same
      (one_agrees w i v r (ap (λ (y : Variable). is_static y.owner) same ∙ local) low h)
  local_agrees w i v x is (inr (inr (inl g))) local low h =
      one_of_type w i v x is g.0 (group_of_type U v g.0 g.1) (λ d same. makes.groups w v g.0 g.1 d same h) (group_unranked U v g.0 g.1) local low
  local_agrees w i v x is (inr (inr (inr a))) local low h =
      one_of_type w i v x is (types.class a.0) (auto_of_type U v a.0 a.1) (λ d same. makes.autos w v a.0 a.1 d same h) (auto_unranked U v a.0 a.1) local low
  local_agrees w i v x is (inr (inl a)) local low h =
      let same : a.1.known.variable ≡ x = some_is (sym a.1.known.is_variable ∙ is) in
      subst (λ (y : Variable). Agrees U K w (Named v y.name) (make (variable_shape U.program.declarations v) w.src)
      (dim_made U.written c me i (own_dim S (own_variable v y)) w.net)) same
      (array_agrees w i v a.0 a.1 (ap (λ (y : Variable). is_static y.owner) same ∙ local) low h)

  -- ---- Statics

  abbrev NamedStatic : (v : ℕ) → List ℕ → World → Unit {0} → List ℕ × net.Address → Type 0
  NamedStatic v name u a b = (b.0 ≡ name) × StaticMatch U holder u v b.1

  abbrev at : ℕ → Position
  at v = whole (static_in holder v)

  -- what was laid stands there
  abbrev Laid : (v : ℕ) → World → Unit {0} → Unit {0} → Type 0
  Laid v u a b = Unit {0} × (u.src.held (at v) ≡ blank → ⊥)

  -- it stands at its root at a world and at later ones
  module _ (w : World) (of : IsHolder w holder net_holder) (h : MemoryMatch U w) (i v : ℕ) (key : KeyAt U c me net_holder i v) (x : Variable)
      (is : slice_get U.program.declarations.vars v ≡ Some x) (sound : is_flagged U v ≡ false) where
    net_stands : static_root U.written c me i ≡ Some (moved U w.map (static_in holder v))
    net_stands = key.2 ∙ ap (λ r. Some r) (sym (holder_goes U w holder net_holder v (static_key c i) of key.0))

    stands_at : (u : World) → IsHolder u holder net_holder → MemoryMatch U u → StaticStands U u v (static_in holder v)
    stands_at u o m = static_stands U u v x is sound m.stores (static_key c i) key.0 key.1 (static_in holder v) (holder_root u holder net_holder v o)

    stands_later : (u : World) → Later U K w u → StaticStands U u v (static_in holder v)
    stands_later u l = stands_at u (holder_later U K w u holder net_holder l of) l.match

    root_later : (d : shape.Shape) (u : World) → Later U K w u → net.root d (moved_at U w.map (at v)) ≡ net.root d (moved_at U u.map (at v))
    root_later d u l = ap (net.root d) (sym (same_at U w u l.extends (at v) (stands_at w of h).matched.is_made))

  -- its address, with what is known of it at the world in which it stands
  static_named : (w : World) (v : ℕ) → IsUsable U v → (name : List ℕ) (b : net.Address) (r' : Outcome net.Memory Unit)
      → ((u : World) → Later U K w u → (u.src.held (at v) ≡ blank → ⊥) → StaticMatch U holder u v b)
      → Agrees U K w AnyUnits (laid_once U.program.declarations holder v w.src) r'
      → Agrees U K w (NamedStatic v name) (laid_once U.program.declarations holder v w.src) (then r' (λ u t. gives [] (name, b) t))
  static_named w v usable name b r' match h =
      let r = laid_once U.program.declarations holder v w.src in
      let there : Agrees U K w (Laid v) r r' =
      agrees_yields U K w AnyUnits (λ (u : Unit {0}) (m : Memory). m.held (at v) ≡ blank → ⊥) r r'
      (laid_there (variable_shape U.program.declarations v) (usable_end U v usable) (static_in holder v) w.src) h in
      then_gives U K w (λ u a z. StaticMatch U holder u v b) (NamedStatic v name) (λ u. (name, b)) r r' (λ u a z m. (refl, m))
      (agrees_weaker U K w (Laid v) (λ u a z. StaticMatch U holder u v b) r r' (λ u a z l m. match u l m.1) there)

  -- a Static of a user type or of a class
  static_of_type : (w : World) (of : IsHolder w holder net_holder) (i v : ℕ) (x : Variable) → slice_get U.program.declarations.vars v ≡ Some x
      → (ty : Ty) (r : IsOfType U v ty) → IsUsable U v
      → ((d : shape.Shape) → SameShape U (variable_shape U.program.declarations v) d → SoundVariable U v)
      → ((d : net_tree.Variable) → d.value ≡ None → SameShape U (variable_shape U.program.declarations v) (shape.shape_of U.written c.home d.ty)
      → Agrees U K w AnyUnits (laid_once U.program.declarations holder v w.src)
      (made_once U.written c.home (moved U w.map (static_in holder v)) d (w.net.cell (moved_at U w.map (at v))) w.net))
      → is_static x.owner ≡ true → KeyAt U c me net_holder i v → MemoryMatch U w
      → Agrees U K w (NamedStatic v x.name) (laid_once U.program.declarations holder v w.src)
      (dim_made U.written c me i (own_dim S (own_variable v x)) w.net)
  static_of_type w of i v x is ty r usable sound lays static key h =
      let same : r.variable ≡ x = some_is (sym r.is_variable ∙ is) in
      let m : GroupStatic U S c v ty r =
      group_static_made U written S facts declared c here v ty r (ap (λ (y : Variable). is_static y.owner) same ∙ static) in
      let d : shape.Shape = shape.shape_of U.written c.home m.made.ty in
      let to : Root = moved U w.map (static_in holder v) in
      let b : net.Address = net.root d (whole to) in
      subst (λ (y : Variable). Agrees U K w (NamedStatic v y.name) (laid_once U.program.declarations holder v w.src)
      (dim_made U.written c me i (own_dim S (own_variable v y)) w.net)) same
      (subst (λ z. Agrees U K w (NamedStatic v r.variable.name) (laid_once U.program.declarations holder v w.src) z)
      (sym (m.is_made me i to (net_stands w of h i v key r.variable r.is_variable r.sound) w.net))
      (static_named w v usable r.variable.name b (made_once U.written c.home to m.made (w.net.cell (whole to)) w.net)
      (λ u l there. group_static U holder u l.match.stores v (stands_later w of h i v key r.variable r.is_variable r.sound u l) there (sound d m.same) d
      m.same b (root_later w of h i v key r.variable r.is_variable r.sound d u l))
      (lays m.made m.plain m.same)))

  static_agrees : (w : World) (of : IsHolder w holder net_holder) (i v : ℕ) (x : Variable) → slice_get U.program.declarations.vars v ≡ Some x → IsUsable U v
      → is_static x.owner ≡ true → KeyAt U c me net_holder i v → MemoryMatch U w
      → Agrees U K w (NamedStatic v x.name) (laid_once U.program.declarations holder v w.src)
      (dim_made U.written c me i (own_dim S (own_variable v x)) w.net)
  static_agrees w of i v x is (inl r) static key h =
      let same : r.variable ≡ x = some_is (sym r.is_variable ∙ is) in
      let m : StaticMade U S c v r = static_made U S facts c v r (ap (λ (y : Variable). is_static y.owner) same ∙ static) in
      let to : Root = moved U w.map (static_in holder v) in
      let d : shape.Shape = shape.scalar m.word in
      let b : net.Address = net.root d (whole to) in
      subst (λ (y : Variable). Agrees U K w (NamedStatic v y.name) (laid_once U.program.declarations holder v w.src)
      (dim_made U.written c me i (own_dim S (own_variable v y)) w.net)) same
      (subst (λ z. Agrees U K w (NamedStatic v r.variable.name) (laid_once U.program.declarations holder v w.src) z)
      (sym (m.is_made me i to (net_stands w of h i v key r.variable r.is_variable r.sound) w.net))
      (static_named w v (inl r) r.variable.name b (made_once U.written c.home to m.made (w.net.cell (whole to)) w.net)
      (λ u l there. scalar_static U holder u l.match.stores v (stands_later w of h i v key r.variable r.is_variable r.sound u l) there r m.word m.is_word b
      (root_later w of h i v key r.variable r.is_variable r.sound d u l))
      (static_is_laid U K w v r m.word m.is_word h (static_key c i) key.0 key.1 (static_in holder v) (holder_root w holder net_holder v of) U.written c.home
      m.made m.plain m.shaped)))
  static_agrees w of i v x is (inr (inr (inl g))) static key h =
      static_of_type w of i v x is g.0 (group_of_type U v g.0 g.1) (inr (inr (inl g))) (λ d same. group_variable U v g.0 g.1)
      (λ d plain same. makes.static_groups w v g.0 g.1 c.home (static_key c i) d (static_in holder v) (holder_root w holder net_holder v of) h key.0 key.1
      plain same) static key h
  static_agrees w of i v x is (inr (inr (inr a))) static key h =
      static_of_type w of i v x is (types.class a.0) (auto_of_type U v a.0 a.1) (inr (inr (inr a))) (λ d same. auto_variable U v a.0 a.1 d same)
      (λ d plain same. makes.static_autos w v a.0 a.1 c.home (static_key c i) d (static_in holder v) (holder_root w holder net_holder v of) h key.0 key.1
      plain same) static key h
  static_agrees w of i v x is (inr (inl a)) static key h =
      let r : IsArray U v a.0 = a.1 in
      let same : r.known.variable ≡ x = some_is (sym r.known.is_variable ∙ is) in
      let m : ArrayStatic U S c v a.0 r = array_static_made U S facts c v a.0 r (ap (λ (y : Variable). is_static y.owner) same ∙ static) in
      let to : Root = moved U w.map (static_in holder v) in
      let d : shape.Shape = array_shape U v m.word in
      let b : net.Address = net.root d (whole to) in
      let y : IsKnown U v = r.known in
      subst (λ (y : Variable). Agrees U K w (NamedStatic v y.name) (laid_once U.program.declarations holder v w.src)
      (dim_made U.written c me i (own_dim S (own_variable v y)) w.net)) same
      (subst (λ z. Agrees U K w (NamedStatic v y.variable.name) (laid_once U.program.declarations holder v w.src) z)
      (sym (m.is_made me i to (net_stands w of h i v key y.variable y.is_variable y.sound) w.net))
      (static_named w v (inr (inl a)) y.variable.name b (made_once U.written c.home to m.made (w.net.cell (whole to)) w.net)
      (λ u l there. array_static U holder u l.match.stores v (stands_later w of h i v key y.variable y.is_variable y.sound u l) there a.0 r m.word m.is_word b
      (root_later w of h i v key y.variable y.is_variable y.sound d u l))
      (makes.static_arrays w v a.0 r m.word c.home (static_key c i) m.made (static_in holder v) (holder_root w holder net_holder v of)
      (has_rank_of U v a.0 r ranked) m.is_word m.element_shaped h key.0 key.1 m.begins m.shaped)))

  -- ---- all of them

  abbrev Ends : List Own → World → ℕ → (Memory → Outcome Memory (List (ℕ × Address))) → Type 0
  Ends os w i does = Agrees U K w (Locals U K holder os) (does w.src) (dims_made U.written c me i (map (own_dim S) os) w.net)

  variable_by : (v : ℕ) (x : Variable) (os : List Own) (b : Bool) → is_static x.owner ≡ b → IsUsable U v → slice_get U.program.declarations.vars v ≡ Some x
      → (w : World) (i : ℕ) → IsHolder w holder net_holder → (is_static x.owner ≡ true → KeyAt U c me net_holder i v)
      → ((u : World) → IsHolder u holder net_holder → Below K.base (mark u.src) → MemoryMatch U u
      → Ends os u (suc i) (made_in_order U.program.declarations holder os))
      → Below K.base (mark w.src) → MemoryMatch U w
      → Ends (own_variable v x ∷ os) w i (made_own U.program.declarations holder b v (made_in_order U.program.declarations holder os))
  variable_by v x os true static r is w i of key more low h =
      let D : Declarations = U.program.declarations in
      let ds = map (own_dim S) os in
      then_agrees U K w (NamedStatic v x.name) (Locals U K holder (own_variable v x ∷ os)) (laid_once D holder v w.src)
      (dim_made U.written c me i (own_dim S (own_variable v x)) w.net)
      (λ a s. made_in_order D holder os s)
      (λ b t. then (dims_made U.written c me (suc i) ds t) (λ rest t. gives [] (b ∷ rest) t)) h
      (static_agrees w of i v x is r static (key static) h)
      (λ a b u m lat. then_gives_later U K u (Locals U K holder os) (Locals U K holder (own_variable v x ∷ os)) (λ rest. b ∷ rest)
      (made_in_order D holder os u.src) (dims_made U.written c me (suc i) ds u.net)
      (λ z xs ys l rest. next_static v x b os xs ys static m.0 (static_later U K holder u z v b.1 l m.1) rest)
      (more u (holder_later U K w u holder net_holder lat of) (below_then K.base (mark w.src) (mark u.src) low lat.grows) lat.match))
  variable_by v x os false local r is w i of key more low h =
      let D : Declarations = U.program.declarations in
      let ds = map (own_dim S) os in
      then_agrees U K w (Named v x.name) (Locals U K holder (own_variable v x ∷ os)) (make (variable_shape D v) w.src)
      (dim_made U.written c me i (own_dim S (own_variable v x)) w.net)
      (λ a s. then (made_in_order D holder os s) (λ rest s. gives [] ((v, a) ∷ rest) s))
      (λ b t. then (dims_made U.written c me (suc i) ds t) (λ rest t. gives [] (b ∷ rest) t)) h
      (local_agrees w i v x is r local low h)
      (λ a b u m lat. then_agrees U K u (Locals U K holder os) (Locals U K holder (own_variable v x ∷ os)) (made_in_order D holder os u.src)
      (dims_made U.written c me (suc i) ds u.net) (λ rest s. gives [] ((v, a) ∷ rest) s) (λ rest t. gives [] (b ∷ rest) t) lat.match
      (more u (holder_later U K w u holder net_holder lat of) (below_then K.base (mark w.src) (mark u.src) low lat.grows) lat.match)
      (λ xs ys z rest later. agrees_gives U K z (Locals U K holder (own_variable v x ∷ os)) ((v, a) ∷ xs) (b ∷ ys) later.match
      (next_variable v x a b os xs ys local m.0 (local_later U K u z v a b.1 lat.match later m.1) rest)))

  pub locals_agree : (w : World) (i : ℕ) (os : List Own) → AllSound U S os → AllKeyed U c me net_holder i os → IsHolder w holder net_holder
      → Below K.base (mark w.src) → MemoryMatch U w → Ends os w i (made_in_order U.program.declarations holder os)
  locals_agree w i [] sound keyed of low h = agrees_gives U K w (Locals U K holder []) [] [] h no_locals
  locals_agree w i (own_variable v x ∷ os) sound keyed of low h =
      variable_by v x os (is_static x.owner) refl sound.0.0 sound.0.1 w i of keyed.0
      (λ u o l m. locals_agree u (suc i) os sound.1 keyed.1 o l m) low h
  locals_agree w i (own_constant d x ∷ os) sound keyed of low h =
      let m : ConstantMade U S c d x = constant_made U S c d x sound.0 in
      let ds = map (own_dim S) os in
      let D : Declarations = U.program.declarations in
      subst (λ r. Agrees U K w (Locals U K holder (own_constant d x ∷ os)) (made_in_order D holder os w.src)
      (then r (λ b t. then (dims_made U.written c me (suc i) ds t) (λ rest t. gives [] (b ∷ rest) t)))) (sym (m.is_made me i w.net))
      (right_alone U K w (Locals U K holder (own_constant d x ∷ os)) (made_in_order D holder os w.src)
      (then (dims_made U.written c me (suc i) ds w.net) (λ rest t. gives [] ((x.name, m.address) ∷ rest) t))
      (then_gives U K w (Locals U K holder os) (Locals U K holder (own_constant d x ∷ os)) (λ rest. (x.name, m.address) ∷ rest)
      (made_in_order D holder os w.src) (dims_made U.written c me (suc i) ds w.net)
      (λ u xs ys rest. next_constant d x (x.name, m.address) os xs ys refl rest)
      (locals_agree w (suc i) os sound.1 keyed of low h)))
