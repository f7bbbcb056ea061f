-- The values of variables.
use Rattle.agreeing_laws.proofs.Moves.{matched_whole}
use Rattle.expression_laws.proofs.ElementValues.{elements_of, item_agrees, items_of}
use Rattle.agreeing_laws.proofs.Indexes.{items_follow}
use Rattle.run_matches.specs.Frames.{is_mirrored}
use Rattle.run_matches.specs.Likeness.{numbers_of, SameShape, like_scalar, same_class, same_scalar}
use Rattle.row_laws.proofs.Composing.{after_nil}
use Rattle.std.proofs.Common.{◌≡◌, ◌∙◌, inl, refl, sym, ap, subst, ℕ, Bool, true, false, cond, not, ◌&&◌, List, [], Option, Some, None, ◌⊎◌, inr}
use Rattle.std.specs.Prelude.{slice_get, option_and_then}
use Rattle.vb_tree.specs.BoundTree as types
use Rattle.vb_tree.specs.BoundTree.{Ty}
use Rattle.vb_tree.specs.declared.declared.VarId.{VarId}
use Rattle.bound_tree.specs.Tree.{Variable, typed, variable}
use Rattle.bound_facts.specs.Locks.{is_same_type}
use Rattle.bound_facts.specs.Node.{auto_class, class_in}
use Rattle.net_tree.specs.Tree.{path}
use Rattle.run_base.specs.Outcomes.{Outcome, gives, after, then, some_of, found}
use Rattle.run_base.specs.Positions.{Position}
use Rattle.vb6_run.specs.Expressions as source
use Rattle.vb6_run.specs.Expressions.{Context, at_address, declared, type_shape}
use Rattle.vb6_run.specs.Forms.{SourceLine}
use Rattle.vb6_run.specs.Runnables.{variable_address}
use Rattle.vb6_run.specs.Shapes.{Shape, simple, group, array, endless}
use Rattle.vb6_run.specs.Store as store
use Rattle.vb6_run.specs.Store.{Held, blank, table, parts, Address, root, Does, SourceCalls, SourceFrame, provided, value_if, single_in, array_in, fields_from, all_gathered, item, item_in}
use Rattle.vb6_run.specs.Values.{Value, scalar, fields, elements, Values, Dimension, is_of_shape, part_in, value_at}
use Rattle.net_run.specs.Expressions as target
use Rattle.net_run.specs.Lines.{NetFrame, NetLine, scope_of}
use Rattle.net_run.specs.Making.{Jobs}
use Rattle.net_run.specs.Members.{Code}
use Rattle.net_run.specs.Names as net_names
use Rattle.net_run.specs.Names.{path_start, starts, at_place}
use Rattle.net_run.specs.Shapes as shape
use Rattle.net_run.specs.Store as net
use Rattle.net_meaning.specs.declared.value.ValueN.TheVariants as n
use Rattle.net_run.specs.Values as net_value
use Rattle.written_trees.specs.Exprs.{exp_of, made_if}
use Rattle.written_trees.specs.Names.{Scope, variable_path}
use Rattle.run_matches.specs.Addresses.{Bound, HoldsSame, Same, images, mirrored, same_item, same_root, IsElement, IsWhole}
use Rattle.run_matches.specs.Agreeing.{Agrees}
use Rattle.run_matches.specs.CoveredVariables.{covers_owner, covers_type, covers_variable}
use Rattle.run_matches.specs.CoveredExprs.{Uses}
use Rattle.run_matches.specs.Maps.{World, moved_at, IsMatched}
use Rattle.run_matches.specs.Match.{MemoryMatch, HasArray, Holds, holds_blank, holds_parts, holds_single, holds_table}
use Rattle.run_matches.specs.Pledges.{Pledge}
use Rattle.run_matches.specs.Upgrades.{Upgrade}
use Rattle.run_statements.specs.Frames.{IsReadable, ScalarMatch, context_of, AreReadable}
use Rattle.agreeing_laws.proofs.Agreeing.{agrees_outside, left_alone}
use Rattle.agreeing_laws.proofs.Lasting.{later_now}
use Rattle.expression_laws.specs.Images.{HasImage, HaveImages}
use Rattle.expression_laws.proofs.Types.{both_true, covered_shape}
use Rattle.expression_laws.proofs.Checks.{value_checked}

-- ---- addresses of other shapes

-- what is read there is no scalar of a covered type
abbrev IsOther : Ty → Option Value → Type 0
IsOther ty o = (x : Value) → o ≡ Some x → is_of_shape (simple ty) x ≡ false

other_fields : (ty : Ty) (t : ℕ) (o : Option Values) → IsOther ty (fields_from t o)
other_fields ty t None x h = absurd (cc h)
other_fields ty t (Some xs) x h = let is : fields t xs ≡ x = cc h in subst (λ q. is_of_shape (simple ty) q ≡ false) is refl

if_elements : (ty : Ty) (b : Bool) (e : Shape) (dims : List Dimension) (xs : Values) → IsOther ty (value_if b (elements e dims xs))
if_elements ty true e dims xs x h = let is : elements e dims xs ≡ x = cc h in subst (λ q. is_of_shape (simple ty) q ≡ false) is refl
if_elements ty false e dims xs x h = absurd (cc h)

other_array : (ty : Ty) (e : Shape) (h : Held) → IsOther ty (array_in e h)
other_array ty e blank x h = absurd (cc h)
other_array ty e (store.single t z) x h = absurd (cc h)
other_array ty e (table f dims xs) x h = if_elements ty _ f dims xs x h
other_array ty e parts x h = absurd (cc h)

-- ---- where a variable is found

not_true : (b : Bool) → not b ≡ true → b ≡ false
not_true true h = absurd (cc h)
not_true false h = refl

not_auto : (x : Variable) → covers_variable x ≡ true → x.auto ≡ false
not_auto x h =
    let rest = both_true (covers_owner x.owner) (covers_type x.ty && not x.auto) h in
    not_true x.auto (both_true (covers_type x.ty) (not x.auto) rest.1).1

pub known_none : (vars : List Variable) (v : ℕ) (x : Variable) → slice_get vars v ≡ Some x → x.auto ≡ false → auto_class (slice_get vars v) ≡ None
known_none vars v x is plain = ap auto_class is ∙ ap (λ b. cond b (class_in x.ty) None) plain

pub auto_none : (vars : List Variable) (v : ℕ) (x : Variable) → slice_get vars v ≡ Some x → covers_variable x ≡ true → auto_class (slice_get vars v) ≡ None
auto_none vars v x is covers = known_none vars v x is (not_auto x covers)

-- its path is written
pub known_exp : (T : Scope) (ty : Ty) (v : VarId) (qualified : Bool) (x : Variable) → slice_get T.declarations.vars v.0 ≡ Some x → x.auto ≡ false
    → exp_of T (typed ty (variable v qualified)) ≡ path (variable_path T qualified v.0)
known_exp T ty v qualified x is plain =
    ap (λ o. made_if T.declarations o (path (variable_path T qualified v.0))) (known_none T.declarations.vars v.0 x is plain)

pub variable_exp : (T : Scope) (ty : Ty) (v : VarId) (qualified : Bool) (x : Variable) → slice_get T.declarations.vars v.0 ≡ Some x → covers_variable x ≡ true
    → exp_of T (typed ty (variable v qualified)) ≡ path (variable_path T qualified v.0)
variable_exp T ty v qualified x is covers = known_exp T ty v qualified x is (not_auto x covers)

-- a path that leads to a variable is read
pub path_read : (S : net_names.Scope) (oracle : Jobs) (names : List (List ℕ)) (b : net.Address) (w : net.Memory) → path_start S false names ≡ starts (at_place b) []
    → target.value_of S oracle (path names) w ≡ target.read b w
path_read S oracle names b w h = ap (λ x. target.value_from S oracle (target.started S oracle x w)) h

-- ---- reading

-- a value, checked to be of a type
abbrev pub Checked : Context → Ty → Value → Does Value
Checked C ty x w = provided (is_of_shape (type_shape (declared C) ty) x) (λ v. gives [] x v) w

module _ (U : Upgrade) (K : Pledge) where
  other_agrees : (C : Context) (ty : Ty) (o : Option Value) (w : World) (r' : Outcome net.Memory net_value.Value) → covers_type ty ≡ true → IsOther ty o
      → Agrees U K w (ScalarMatch U ty) (then (after [] (found o w.src)) (Checked C ty)) r'
  other_agrees C ty None w r' covers h = agrees_outside U K w (ScalarMatch U ty) r'
  other_agrees C ty (Some x) w r' covers h =
      let is : is_of_shape (type_shape (declared C) ty) x ≡ false = ap (λ s. is_of_shape s x) (covered_shape (declared C) ty covers) ∙ h x refl in
      subst (λ b. Agrees U K w (ScalarMatch U ty) (after [] (provided b (λ v. gives [] x v) w.src)) r') (sym is) (agrees_outside U K w (ScalarMatch U ty) r')

  held_read : (C : Context) (ty s : Ty) (w : World) (h : Held) (c : net.Cell) → covers_type ty ≡ true → MemoryMatch U w → Holds U w h c
      → Agrees U K w (ScalarMatch U ty) (then (after [] (found (single_in s h) w.src)) (Checked C ty)) (gives [] (net.held c) w.net)
  held_read C ty s w _ _ covers start holds_blank = agrees_outside U K w (ScalarMatch U ty) (gives [] (net.held net.blank) w.net)
  held_read C ty s w _ _ covers start (holds_single t x y m) = by (is_same_type s t)
    where
      by : (b : Bool)
          → Agrees U K w (ScalarMatch U ty) (then (after [] (found (value_if b (scalar t x)) w.src)) (Checked C ty)) (gives [] (net_value.single y) w.net)
      by false = agrees_outside U K w (ScalarMatch U ty) (gives [] (net_value.single y) w.net)
      by true =
          left_alone U K w (ScalarMatch U ty) (Checked C ty (scalar t x) w.src) (gives [] (net_value.single y) w.net)
          (value_checked U K C ty (scalar t x) (net_value.single y) w covers start (like_scalar t x y m))
  held_read C ty s w _ _ covers start (holds_table e dims xs k l) = agrees_outside U K w (ScalarMatch U ty) (gives [] (net.held (net.holds (n.Array k))) w.net)
  held_read C ty s w _ _ covers start holds_parts = agrees_outside U K w (ScalarMatch U ty) (gives [] (net.held net.structure) w.net)

  read_single : (C : Context) (ty s : Ty) (q : Position) (d : shape.Shape) (w : World) → covers_type ty ≡ true → MemoryMatch U w → SameShape U (simple s) d
      → IsMatched U w q
      → Agrees U K w (ScalarMatch U ty) (then (after [] (store.read (root (simple s) q) w.src)) (Checked C ty))
      (target.read (net.root d (moved_at U w.map q)) w.net)
  read_single C ty _ q _ w covers start (same_scalar s t e) m =
      held_read C ty s w (w.src.held q) (w.net.cell (moved_at U w.map q)) covers start (start.stores.values q m)
  read_single C ty _ q _ w covers start (same_class k home e) m =
      held_read C ty (types.class k) w (w.src.held q) (w.net.cell (moved_at U w.map q)) covers start (start.stores.values q m)

  read_agrees : (C : Context) (ty : Ty) (s : Shape) (q : Position) (d : shape.Shape) (w : World) → covers_type ty ≡ true → MemoryMatch U w
      → SameShape U s d → IsMatched U w q
      → Agrees U K w (ScalarMatch U ty) (then (after [] (store.read (root s q) w.src)) (Checked C ty)) (target.read (net.root d (moved_at U w.map q)) w.net)
  read_agrees C ty (simple s) q d w covers start same m = read_single C ty s q d w covers start same m
  read_agrees C ty (group t fs) q d w covers start same m =
      other_agrees C ty (fields_from t (all_gathered fs q 0 w.src.held)) w (target.read (net.root d (moved_at U w.map q)) w.net) covers
      (other_fields ty t (all_gathered fs q 0 w.src.held))
  read_agrees C ty (array e bounds) q d w covers start same m =
      other_agrees C ty (array_in e (w.src.held q)) w (target.read (net.root d (moved_at U w.map q)) w.net) covers (other_array ty e (w.src.held q))
  read_agrees C ty endless q d w covers start same m =
      other_agrees C ty None w (target.read (net.root d (moved_at U w.map q)) w.net) covers (λ x h. absurd (cc h))

  -- an element is read on both sides
  element_read : (C : Context) (ty : Ty) (e : Shape) (d : shape.Shape) (q : Position) (k j : ℕ) (w : World) → covers_type ty ≡ true → MemoryMatch U w
      → IsMatched U w q → HasArray U w q e k
      → Agrees U K w (ScalarMatch U ty) (then (after [] (store.read (item e q j []) w.src)) (Checked C ty)) (target.read (net.item d k j []) w.net)
  element_read C ty e d q k j w covers start m has =
      let like = elements_of U w (w.src.held q) (w.net.cell (moved_at U w.map q)) e has.dims has.values k (start.stores.values q m) has.held has.cell in
      let net_value = gives [] (net_value.or_unknown (net.part_of_some [] (slice_get (w.net.arrays k).elements j))) w.net in
      subst (λ h. Agrees U K w (ScalarMatch U ty) (then (after [] (found (item_in h j []) w.src)) (Checked C ty)) net_value) (sym has.held)
      (subst (λ o. Agrees U K w (ScalarMatch U ty) (then (after [] (found o w.src)) (Checked C ty)) net_value) (sym (part_is (value_at has.values j)))
      (subst (λ z. Agrees U K w (ScalarMatch U ty) (then z (Checked C ty)) net_value) (sym (after_nil (found (value_at has.values j) w.src)))
      (item_agrees U K C ty covers w start (value_at has.values j) (slice_get (w.net.arrays k).elements j)
      (items_follow U (numbers_of w) has.values (w.net.arrays k).elements
      (items_of U w e has.dims has.values (w.net.arrays k) like) j))))
    where
      part_is : (o : Option Value) → option_and_then (part_in []) o ≡ o
      part_is None = refl
      part_is (Some x) = refl

  pub same_agrees : (C : Context) (ty : Ty) (a : Address) (b : net.Address) (w : World) → IsWhole a ⊎ IsElement a → covers_type ty ≡ true → MemoryMatch U w
      → Same U K w a b → Agrees U K w (ScalarMatch U ty) (then (after [] (store.read a w.src)) (Checked C ty)) (target.read b w.net)
  same_agrees C ty _ _ w whole covers start (same_root s d q sh m r) =
      read_agrees C ty s q d w covers start sh (matched_whole U w s q m)
  same_agrees C ty _ _ w (inl whole) covers start (same_item e s d q k j inside keeps m has part sh) = absurd (cc whole)
  same_agrees C ty _ _ w (inr x) covers start (same_item e s d q k j inside keeps m has part sh) =
      let flat : inside ≡ [] = ap path_in x.stands in
      subst (λ i. Agrees U K w (ScalarMatch U ty) (then (after [] (store.read (item e q j i) w.src)) (Checked C ty)) (target.read (net.item d k j i) w.net)) (sym flat)
      (element_read C ty e d q k j w covers start m has)
    where
      path_in : Address → List ℕ
      path_in (root s q) = []
      path_in (item e q j inside) = inside
      path_in (store.constant x) = []

  -- ---- values of quiet parameters

  -- what two addresses are bound to is read on both sides
  bound_agrees : (C : Context) (ty : Ty) (exact : Bool) (a : Address) (b : net.Address) (w : World) → IsWhole a ⊎ IsElement a → covers_type ty ≡ true
      → MemoryMatch U w → Bound U K w exact a b
      → Agrees U K w (ScalarMatch U ty) (then (after [] (store.read a w.src)) (Checked C ty)) (target.read b w.net)
  bound_agrees C ty _ _ _ w whole covers start (images exact a b same) = same_agrees C ty a b w whole covers start same
  bound_agrees C ty _ _ _ w whole covers start (mirrored a b m) =
      let x : HoldsSame U w a b = m.holds w (later_now U K w start) in
      subst (λ o. Agrees U K w (ScalarMatch U ty) (then (after [] (found o w.src)) (Checked C ty)) (target.read b w.net)) (sym x.source)
      (left_alone U K w (ScalarMatch U ty) (Checked C ty x.value w.src) (target.read b w.net)
      (value_checked U K C ty x.value (net.looked_up b w.net) w covers start x.like))

-- ---- a variable of the frames

-- the value of a variable whose address and class are these
module _ (U : Upgrade) (K : Pledge) (p : ℕ) (f : SourceFrame) (g : NetFrame) (oracle : SourceCalls) (net_oracle : Jobs) (l : SourceLine)
    (k : NetLine) (c : Code) (T : Scope) (ty : Ty) (v : VarId) (qualified : Bool) (w : World) where
  abbrev Whole : Outcome net.Memory net_value.Value
  Whole = target.value_of (scope_of U.written c g k) net_oracle (exp_of T (typed ty (variable v qualified))) w.net

  abbrev From : Option Address → Option ℕ → Type 0
  From o class =
      Agrees U K w (ScalarMatch U ty)
      (then (then (some_of o (λ a u. gives [] (at_address a) u) w.src) (source.made_for (context_of U oracle p f l) class))
      (source.value_in (context_of U oracle p f l) (typed ty (variable v qualified)))) Whole

module _ (U : Upgrade) (K : Pledge) (p : ℕ) (f : SourceFrame) (g : NetFrame) (oracle : SourceCalls) (net_oracle : Jobs)
    (l : SourceLine) (k : NetLine) (c : Code) (T : Scope) (uses : Uses) where
  pub variable_agrees : (ty : Ty) (v : VarId) (qualified : Bool) (w : World) → T.declarations ≡ U.program.declarations → AreReadable U T uses
      → HaveImages U K w f (scope_of U.written c g k) T uses → uses.scalar v ≡ true → uses.named v qualified ≡ true → covers_type ty ≡ true → MemoryMatch U w
      → Agrees U K w (ScalarMatch U ty)
      (source.value_of (context_of U oracle p f l) (typed ty (variable v qualified)) w.src)
      (target.value_of (scope_of U.written c g k) net_oracle (exp_of T (typed ty (variable v qualified))) w.net)
  variable_agrees ty v qualified w same readable have used named covers start =
      let r : IsReadable U v.0 = readable.scalars v used in
      subst (λ m. From U K p f g oracle net_oracle l k c T ty v qualified w (variable_address U.program.declarations f v.0) m)
      (sym (auto_none U.program.declarations.vars v.0 r.variable r.is_variable r.covers))
      (by_address (variable_address U.program.declarations f v.0) refl r)
    where
      written : (r : IsReadable U v.0) (b : net.Address)
          → path_start (scope_of U.written c g k) false (variable_path T qualified v.0) ≡ starts (at_place b) []
          → Whole U K p f g oracle net_oracle l k c T ty v qualified w ≡ target.read b w.net
      written r b is =
          ap (λ e. target.value_of (scope_of U.written c g k) net_oracle e w.net)
          (variable_exp T ty v qualified r.variable (ap (λ D. slice_get D.vars v.0) same ∙ r.is_variable) r.covers)
          ∙ path_read (scope_of U.written c g k) net_oracle (variable_path T qualified v.0) b w.net is

      by_address : (o : Option Address) → variable_address U.program.declarations f v.0 ≡ o → IsReadable U v.0
          → From U K p f g oracle net_oracle l k c T ty v qualified w o None
      by_address None is r = agrees_outside U K w (ScalarMatch U ty) (Whole U K p f g oracle net_oracle l k c T ty v qualified w)
      by_address (Some a) is r =
          let x : HasImage U K w (scope_of U.written c g k) T (uses.named v) v.0 a = have v a (inl used) is in
          subst (λ z. Agrees U K w (ScalarMatch U ty) (after [] (then (after [] (store.read a w.src)) (Checked (context_of U oracle p f l) ty))) z)
          (sym (written r x.address (x.found qualified named)))
          (left_alone U K w (ScalarMatch U ty) (then (after [] (store.read a w.src)) (Checked (context_of U oracle p f l) ty)) (target.read x.address w.net)
          (bound_agrees U K (context_of U oracle p f l) ty (not (is_mirrored U v.0)) a x.address w x.of_scalars covers start x.bound))
