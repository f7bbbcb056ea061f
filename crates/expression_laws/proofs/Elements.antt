-- Elements of arrays: the array and the indexes on both sides.
use Rattle.std.proofs.Common.{◌≡◌, refl, sym, ap, subst, ◌∙◌, ℕ, suc, ℤ, Bool, true, false, cond, ◌&&◌, List, [], ◌∷◌, length, Option, Some, None, arith}
use Rattle.std.proofs.lemmas.Bool.{eqb-true}
use Rattle.std.specs.Cmp.{signed_Decides}
use Rattle.std.specs.Ordering.{int_eq}
use Rattle.std.specs.Prelude.{slice_get}
use Rattle.vb_tree.specs.BoundTree.{Ty, long}
use Rattle.vb_tree.specs.BoundTree as types
use Rattle.vb_tree.specs.declared.declared.VarId.{VarId}
use Rattle.vb_tree.specs.declared.value.Value6.{Value6}
use Rattle.bound_tree.specs.Tree.{Declarations, Expr, typed, variable, element, Exprs, next_expr}
use Rattle.bound_facts.specs.Node.{auto_class, is_array_type}
use Rattle.net_tree.specs.Tree.{Exp, Exps, next_exp, call_of, path}
use Rattle.net_meaning.specs.declared.value.ValueN.TheVariants as n
use Rattle.net_meaning.specs.ValueMatch.{longs}
use Rattle.run_base.specs.Outcomes.{after, gives, some_of, then}
use Rattle.run_base.specs.Positions.{Position}
use Rattle.vb6_run.specs.Arrays.{are_lows, have_long_lows, is_long, takes_indexes}
use Rattle.vb6_run.specs.Expressions as source
use Rattle.vb6_run.specs.Expressions.{Context, at_address, lows_at}
use Rattle.vb6_run.specs.Forms.{SourceLine}
use Rattle.vb6_run.specs.Runnables.{variable_address}
use Rattle.vb6_run.specs.Shapes.{Shape, simple, array}
use Rattle.vb6_run.specs.Store.{Address, root, Memory, SourceCalls, SourceFrame, table}
use Rattle.vb6_run.specs.Values.{Dimension, Values, scalar}
use Rattle.net_run.specs.Expressions as target
use Rattle.net_run.specs.Lines.{NetFrame, NetLine, scope_of}
use Rattle.net_run.specs.Making.{Jobs}
use Rattle.net_run.specs.Members.{Code}
use Rattle.net_run.specs.Names as net_names
use Rattle.net_run.specs.Names.{at_place, found_at, path_start, starts}
use Rattle.net_run.specs.Shapes as shape
use Rattle.net_run.specs.Store as net
use Rattle.net_run.specs.Values as net_value
use Rattle.written_trees.specs.Exprs.{exp_of, indexes_of}
use Rattle.written_trees.specs.Facts.{is_array_variable}
use Rattle.written_trees.specs.Library.{low_at}
use Rattle.written_trees.specs.Names.{Scope, variable_path}
use Rattle.row_laws.specs.Follows.{answers}
use Rattle.row_laws.proofs.Composing.{after_nil, then_assoc}
use Rattle.run_matches.specs.Addresses.{AllMatched, AllRanked, Same, SameIndex, SameIndexes, free_index, next_index, no_indexes, position_of, same_item, same_root}
use Rattle.run_matches.specs.Agreeing.{Agrees}
use Rattle.run_matches.specs.Likeness.{LikeV, SameShape, like_scalar, same_array}
use Rattle.run_matches.specs.Maps.{IsMatched, World, moved_at}
use Rattle.run_matches.specs.Match.{MemoryMatch}
use Rattle.run_matches.specs.Pledges.{Later, Pledge}
use Rattle.run_matches.specs.Upgrades.{Upgrade}
use Rattle.run_statements.specs.Elements.{IndexedMatch, takes}
use Rattle.run_statements.specs.Fitting.{IsSoundArray}
use Rattle.run_statements.specs.Frames.{ArrayMatch, IsArray, LeadsBefore, PlainMatch, context_of}
use Rattle.agreeing_laws.proofs.Agreeing.{agrees_gives, agrees_outside, left_alone, then_agrees}
use Rattle.agreeing_laws.proofs.Moves.{address_later}
use Rattle.expression_laws.specs.Images.{HasImage}
use Rattle.expression_laws.proofs.UsedShapes.{array_stands, not_auto}
use Rattle.expression_laws.proofs.LastingImages.{plain_later}
use Rattle.expression_laws.proofs.IndexRows.{IndexLike, IndexRow}
use Rattle.expression_laws.proofs.Types.{both_true}
use Rattle.expression_laws.proofs.Variables.{known_exp, known_none}

-- ---- indexes

-- indexes from a dimension on
abbrev pub AreLike : (low : ℕ → ℤ) → (dimension : ℕ) → List ℤ → List net_value.Value → Type 0
AreLike low d [] [] = Unit {0}
AreLike low d [] (y ∷ ys) = ⊥
AreLike low d (z ∷ zs) [] = ⊥
AreLike low d (z ∷ zs) (y ∷ ys) = IndexLike (low d) z y × AreLike low (suc d) zs ys

-- so many of them
abbrev pub IndexesLike : (low : ℕ → ℤ) → (dimension count : ℕ) → List ℤ → List net_value.Value → Type 0
IndexesLike low d n zs ys = AreLike low d zs ys × (length ys ≡ n)

free_all : (low : ℕ → ℤ) (d : ℕ) (zs : List ℤ) (ys : List net_value.Value) → AreLike low d zs ys → SameIndexes [] zs ys
free_all low d [] [] h = no_indexes
free_all low d [] (y ∷ ys) h = absurd h
free_all low d (z ∷ zs) [] h = absurd h
free_all low d (z ∷ zs) (y ∷ ys) h = free_index z y zs ys h.0.0 (free_all low (suc d) zs ys h.1)

same_all : (low : ℕ → ℤ) (d : ℕ) (dims : List Dimension) (zs : List ℤ) (ys : List net_value.Value) → are_lows low d dims ≡ true
    → have_long_lows dims ≡ true → length dims ≡ length zs → AreLike low d zs ys → SameIndexes dims zs ys
same_all low d [] zs ys lows are_long e h = free_all low d zs ys h
same_all low d (x ∷ dims) [] ys lows are_long e h = absurd (omega arith)
same_all low d (x ∷ dims) (z ∷ zs) [] lows are_long e h = absurd h
same_all low d (x ∷ dims) (z ∷ zs) (y ∷ ys) lows are_long e h =
    let both = both_true (int_eq (low d) x.low) (are_lows low (suc d) dims) lows in
    let fit = both_true (is_long x.low) (have_long_lows dims) are_long in
    let is : low d ≡ x.low = (signed_Decides (low d) x.low).0 both.0 in
    let fewer : length dims ≡ length zs = omega arith in
    next_index x dims z y zs ys (subst (λ b. is_long b ≡ true → SameIndex b z y) is h.0.1 fit.0)
    (same_all low (suc d) dims zs ys both.1 fit.1 fewer h.1)

-- where the source takes them, they are the same
same_taken : (low : ℕ → ℤ) (dims : List Dimension) (zs : List ℤ) (ys : List net_value.Value) → takes (Some low) dims zs ≡ true → AreLike low 0 zs ys
    → SameIndexes dims zs ys
same_taken low [] zs ys taken h = free_all low 0 zs ys h
same_taken low (x ∷ dims) zs ys taken h =
    let both = both_true (are_lows low 0 (x ∷ dims)) (have_long_lows (x ∷ dims) && takes_indexes (x ∷ dims) zs) taken in
    let rest = both_true (have_long_lows (x ∷ dims)) (takes_indexes (x ∷ dims) zs) both.1 in
    same_all low 0 (x ∷ dims) zs ys both.0 rest.0 (eqb-true (length (x ∷ dims)) (length zs) rest.1) h

more_counted : (ys : List net_value.Value) (y : net_value.Value) (count : ℕ) → length ys ≡ count → length (y ∷ ys) ≡ suc count
more_counted ys y count e = omega arith

module _ (U : Upgrade) (K : Pledge) (C : Context) (S : net_names.Scope) (oracle : Jobs) where
  -- one index is a Long, and counts from the lower bound
  pub index_agrees : (e : Expr) (low : ℤ) (whole first : Exp) (w : World) → IndexRow S oracle low whole first → MemoryMatch U w
      → Agrees U K w (PlainMatch U long) (source.scalar_value C e w.src) (target.value_of S oracle first w.net)
      → Agrees U K w (λ v z y. IndexLike low z y) (then (source.parts_of C e w.src) (source.long_in C e)) (target.value_of S oracle whole w.net)
  index_agrees e low whole first w h start operand =
      subst (λ q. Agrees U K w (λ v z y. IndexLike low z y) q (target.value_of S oracle whole w.net))
      (then_assoc (source.parts_of C e w.src) (source.scalar_in C e) source.whole_number)
      (subst (λ q. Agrees U K w (λ v z y. IndexLike low z y) (then (source.scalar_value C e w.src) source.whole_number) q) (sym (h.is_row.is w.net))
      (then_agrees U K w (PlainMatch U long) (λ v z y. IndexLike low z y) (source.scalar_value C e w.src) (target.value_of S oracle first w.net)
      source.whole_number h.is_row.behind start operand (λ z y v like l. counted z y v like l.match)))
    where
      counted : (z : Value6) (y : net_value.Value) (v : World) → LikeV U v (scalar long z) y → MemoryMatch U v
          → Agrees U K v (λ u x b. IndexLike low x b) (source.whole_number z v.src) (h.is_row.behind y v.net)
      counted _ _ v (like_scalar _ _ _ (longs z fits)) start =
          let i = h.counts z in
          subst (λ q. Agrees U K v (λ u x b. IndexLike low x b) (gives [] z v.src) q)
          (sym (h.is_row.on_single (n.Integer z) v.net tt ∙ ap (λ a. answers a v.net) i.1))
          (agrees_gives U K v (λ u x b. IndexLike low x b) z (net_value.single (n.Integer i.0)) start i.2)

  -- one more index
  pub next_agrees : (low : ℕ → ℤ) (d count : ℕ) (e : Expr) (rest : Exprs) (whole : Exp) (others : Exps) (w : World) → MemoryMatch U w
      → Agrees U K w (λ v z y. IndexLike (low d) z y) (then (source.parts_of C e w.src) (source.long_in C e)) (target.value_of S oracle whole w.net)
      → ((v : World) → Later U K w v
      → Agrees U K v (λ u zs ys. IndexesLike low (suc d) count zs ys) (source.indexes_of C rest v.src) (target.values_of S oracle others v.net))
      → Agrees U K w (λ u zs ys. IndexesLike low d (suc count) zs ys) (source.indexes_of C (next_expr e rest) w.src)
      (target.values_of S oracle (next_exp whole others) w.net)
  next_agrees low d count e rest whole others w start first more =
      then_agrees U K w (λ v z y. IndexLike (low d) z y) (λ u zs ys. IndexesLike low d (suc count) zs ys)
      (then (source.parts_of C e w.src) (source.long_in C e)) (target.value_of S oracle whole w.net)
      (λ z w. then (source.indexes_of C rest w) (λ zs w. gives [] (z ∷ zs) w))
      (λ y w. then (target.values_of S oracle others w) (λ ys w. gives [] (y ∷ ys) w)) start first
      (λ z y v m l.
      then_agrees U K v (λ u zs ys. IndexesLike low (suc d) count zs ys) (λ u zs ys. IndexesLike low d (suc count) zs ys)
      (source.indexes_of C rest v.src) (target.values_of S oracle others v.net) (λ zs w. gives [] (z ∷ zs) w) (λ ys w. gives [] (y ∷ ys) w) l.match
      (more v l)
      (λ zs ys u given later.
      agrees_gives U K u (λ u zs ys. IndexesLike low d (suc count) zs ys) (z ∷ zs) (y ∷ ys) later.match
      ((m, given.0), more_counted ys y count given.1)))

-- ---- an array of both sides

-- the array that stands at a position, and at what stands for it
pub record ArrayThere (U : Upgrade) (w : World) (e : Shape) (q : Position) (b : net.Address) : Type 0 where
  pub element : shape.Shape
  pub rank : ℕ
  pub array : ℕ
  pub is_matched : IsMatched U w q
  pub dims : List Dimension
  pub values : Values
  pub held : w.src.held q ≡ table e dims values
  pub cell : w.net.cell (moved_at U w.map q) ≡ net.holds (n.Array array)
  pub same : SameShape U e element
  pub counted : length (w.net.arrays array).counts ≡ rank
  pub stands : b ≡ net.root (shape.array element rank) (moved_at U w.map q)

shape_of_root : (s t : Shape) (p q : Position) → root s p ≡ root t q → s ≡ t
shape_of_root s t p q e = cc e

position_of_root : (s t : Shape) (p q : Position) → root s p ≡ root t q → p ≡ q
position_of_root s t p q e = cc e

array_at : (U : Upgrade) (w : World) (e : Shape) (bounds : List (ℤ × ℤ)) (q : Position) (d : shape.Shape) → SameShape U (array e bounds) d
    → AllMatched U w (array e bounds) q → AllRanked U w (array e bounds) d q → ArrayThere U w e q (net.root d (moved_at U w.map q))
array_at U w _ _ q _ (same_array e bounds d rank same) m r = record {
  element = d;
  rank = rank;
  array = r.0;
  is_matched = m.0;
  dims = m.1.0;
  values = m.1.1;
  held = m.1.2;
  cell = r.1;
  same = same;
  counted = r.2;
  stands = refl;
}

pub array_there : (U : Upgrade) (K : Pledge) (w : World) (e : Shape) (bounds : List (ℤ × ℤ)) (q : Position) (a : Address) (b : net.Address)
    → a ≡ root (array e bounds) q → Same U K w a b → ArrayThere U w e q b
array_there U K w e bounds q _ _ is (same_root s d p same m r) =
    let shaped : s ≡ array e bounds = shape_of_root s (array e bounds) p q is in
    subst (λ z. ArrayThere U w e z (net.root d (moved_at U w.map p))) (position_of_root s (array e bounds) p q is)
    (array_at U w e bounds p d (subst (λ z. SameShape U z d) shaped same) (subst (λ z. AllMatched U w z p) shaped m)
    (subst (λ z. AllRanked U w z d p) shaped r))
array_there U K w e bounds q _ _ is (same_item x s d p k j inside keeps m has part same) = absurd (cc is)

-- the declaration of an array carries no issue
pub sound_array : (U : Upgrade) (v : VarId) (d ty : Ty) (qualified : Bool) → IsArray U v.0 d → is_array_type ty ≡ true
    → IsSoundArray U (typed ty (variable v qualified))
sound_array U v d ty qualified r typed_as = record {
  variable = v.0;
  declares = ap (λ b. cond b (Some v.0) None) typed_as;
  is_array = ap is_array_variable r.known.is_variable ∙ ap is_array_type r.is_array;
  sound = r.known.sound;
}

-- ---- what the source and the target do

pub address_source : (C : Context) (o : Option Address) (class : Option ℕ) → class ≡ None → (w : Memory)
    → then (then (some_of o (λ a w. gives [] (at_address a) w) w) (source.made_for C class)) source.finished ≡ some_of o (λ a w. gives [] a w) w
address_source C None class e w = refl
address_source C (Some a) class e w = ap (λ z. then (then (gives [] (at_address a) w) (source.made_for C z)) source.finished) e

element_reached : (S : net_names.Scope) (oracle : Jobs) (e : Exp) (names : List (List ℕ)) (args : Exps) (b : net.Address) (w : net.Memory) → e ≡ path names
    → path_start S true names ≡ starts (at_place b) []
    → target.reach S oracle false (call_of e args) w
    ≡ then (target.values_of S oracle args w)
    (λ ys w. gives [] (found_at (net_names.at_element (shape.element_of (net.shape_at b)) (net.looked_up b w) ys)) w)
element_reached S oracle e names args b w is start =
    let found = then (target.values_of S oracle args w)
    (λ ys w. gives [] (found_at (net_names.at_element (shape.element_of (net.shape_at b)) (net.looked_up b w) ys)) w) in
    ap (λ z. target.reach S oracle false (call_of z args) w) is
    ∙ ap (λ s. then (target.started S oracle s w) (target.applied S oracle (λ modes w. target.args_of S oracle modes args w) (λ w. target.values_of S oracle args w)))
    start
    ∙ after_nil (after [] found) ∙ after_nil found

-- ---- both

module _ (U : Upgrade) (K : Pledge) (p : ℕ) (f : SourceFrame) (g : NetFrame) (oracle : SourceCalls) (net_oracle : Jobs) (l : SourceLine) (k : NetLine)
    (c : Code) (T : Scope) (same_declarations : T.declarations ≡ U.program.declarations) (ty : Ty) (rank : ℕ) (v : VarId) (qualified : Bool)
    (r : IsArray U v.0 ty) (w : World) (start : MemoryMatch U w) (named : (qualified : Bool) → Bool) (is_named : named qualified ≡ true)
    (have : (a : Address) → variable_address U.program.declarations f v.0 ≡ Some a → HasImage U K w (scope_of U.written c g k) T named v.0 a) where
  abbrev C : Context
  C = context_of U oracle p f l

  abbrev S : net_names.Scope
  S = scope_of U.written c g k

  abbrev D : Declarations
  D = U.program.declarations

  abbrev the_array : Expr
  the_array = typed (types.array ty rank) (variable v qualified)

  array_exp : exp_of T the_array ≡ path (variable_path T qualified v.0)
  array_exp = known_exp T (types.array ty rank) v qualified r.known.variable (ap (λ E. slice_get E.vars v.0) same_declarations ∙ r.known.is_variable) r.known.plain

  array_source : source.address_of C the_array w.src ≡ some_of (variable_address D f v.0) (λ a w. gives [] a w) w.src
  array_source =
      address_source C (variable_address D f v.0) (auto_class (slice_get D.vars v.0)) (known_none D.vars v.0 r.known.variable r.known.is_variable r.known.plain) w.src

  -- ---- the array

  pub array_agrees : Agrees U K w (ArrayMatch U K ty (U.facts.rank v.0)) (source.address_of C the_array w.src) (target.address_of S net_oracle (exp_of T the_array) w.net)
  array_agrees =
      subst (λ z. Agrees U K w (ArrayMatch U K ty (U.facts.rank v.0)) z (target.address_of S net_oracle (exp_of T the_array) w.net)) (sym array_source)
      (by (variable_address D f v.0) refl)
    where
      by : (o : Option Address) → variable_address U.program.declarations f v.0 ≡ o
          → Agrees U K w (ArrayMatch U K ty (U.facts.rank v.0)) (some_of o (λ a w. gives [] a w) w.src) (target.address_of S net_oracle (exp_of T the_array) w.net)
      by None is = agrees_outside U K w (ArrayMatch U K ty (U.facts.rank v.0)) (target.address_of S net_oracle (exp_of T the_array) w.net)
      by (Some a) is =
          let x : HasImage U K w S T named v.0 a = have a is in
          let stands = array_stands U v.0 ty r a (x.image r.exact).position (x.image r.exact).stands in
          let there : ArrayThere U w (simple ty) (x.image r.exact).position x.address =
          array_there U K w (simple ty) stands.0 (x.image r.exact).position a x.address stands.1 (x.image r.exact).same in
          subst (λ z. Agrees U K w (ArrayMatch U K ty (U.facts.rank v.0)) (gives [] a w.src) z)
          (sym (ap (λ e. target.address_of S net_oracle e w.net) array_exp
          ∙ ap (λ s. target.address_from S net_oracle (target.started S net_oracle s w.net)) (x.found qualified is_named)))
          (agrees_gives U K w (ArrayMatch U K ty (U.facts.rank v.0)) a x.address start (record {
            bounds = stands.0;
            position = (x.image r.exact).position;
            stands = stands.1;
            same = (x.image r.exact).same;
            target = (x.image r.exact).target;
            plain = (x.image r.exact).plain (not_auto U v.0 r.known);
            ranked = ap (λ z. shape.rank_of (net.shape_at z)) there.stands ∙ (x.image r.exact).ranked there.element there.rank (ap net.shape_at there.stands);
          }))

  -- ---- the array and its indexes

  indexed_at : (a : Address) (x : HasImage U K w S T named v.0 a) (count : ℕ) → count ≡ U.facts.rank v.0 → (zs : List ℤ) (ys : List net_value.Value) (u : World) → Later U K w u
      → IndexesLike (U.facts.low v.0) 0 count zs ys
      → IndexedMatch U (lows_at C the_array) ty u (a, zs)
      (found_at (net_names.at_element (shape.element_of (net.shape_at x.address)) (net.looked_up x.address u.net) ys))
  indexed_at a x count ranked zs ys u later h =
      let stands = array_stands U v.0 ty r a (x.image r.exact).position (x.image r.exact).stands in
      let there : ArrayThere U u (simple ty) (x.image r.exact).position x.address =
      array_there U K u (simple ty) stands.0 (x.image r.exact).position a x.address stands.1 (address_later U K w u a x.address later (x.image r.exact).same) in
      record {
        position = (x.image r.exact).position;
        bounds = stands.0;
        written = there.element;
        array = there.array;
        is_matched = there.is_matched;
        plain =
            plain_later U K w u a x.address later (x.image r.exact).same ((x.image r.exact).plain (not_auto U v.0 r.known)) (x.image r.exact).position (ap position_of stands.1);
        has = record { dims = there.dims; values = there.values; held = there.held; cell = there.cell };
        same = there.same;
        net_indexes = ys;
        stands = stands.1;
        net_stands =
            ap (λ z. found_at (net_names.at_element (shape.element_of (net.shape_at z)) (net.looked_up z u.net) ys)) there.stands
            ∙ ap (λ z. found_at (net_names.at_element there.element (net.held z) ys)) there.cell;
        same_indexes = λ taken. same_taken (U.facts.low v.0) there.dims zs ys taken h.0;
        counted = there.counted ∙ (x.image r.exact).ranked there.element there.rank (ap net.shape_at there.stands) ∙ sym ranked ∙ sym h.1;
      }

  pub indexed_agrees : (indexes : Exprs) (count : ℕ) → T.facts ≡ U.facts → LeadsBefore S T v.0 → count ≡ U.facts.rank v.0
      → Agrees U K w (λ u zs ys. IndexesLike (λ d. low_at T the_array d) 0 count zs ys) (source.indexes_of C indexes w.src)
      (target.values_of S net_oracle (indexes_of T the_array 0 indexes) w.net)
      → Agrees U K w (IndexedMatch U (lows_at C the_array) ty)
      (then (source.address_of C the_array w.src) (λ b s. then (source.indexes_of C indexes s) (λ zs s. gives [] (b, zs) s)))
      (target.reach S net_oracle false (exp_of T (typed ty (element the_array indexes))) w.net)
  indexed_agrees indexes count facts leads ranked given =
      subst (λ z. Agrees U K w (IndexedMatch U (lows_at C the_array) ty)
      (then z (λ b s. then (source.indexes_of C indexes s) (λ zs s. gives [] (b, zs) s)))
      (target.reach S net_oracle false (exp_of T (typed ty (element the_array indexes))) w.net)) (sym array_source)
      (by (variable_address D f v.0) refl)
    where
      by : (o : Option Address) → variable_address U.program.declarations f v.0 ≡ o
          → Agrees U K w (IndexedMatch U (lows_at (context_of U oracle p f l) (typed (types.array ty rank) (variable v qualified))) ty)
          (then (some_of o (λ a w. gives [] a w) w.src)
          (λ b s. then (source.indexes_of (context_of U oracle p f l) indexes s) (λ zs s. gives [] (b, zs) s)))
          (target.reach (scope_of U.written c g k) net_oracle false
          (exp_of T (typed ty (element (typed (types.array ty rank) (variable v qualified)) indexes))) w.net)
      by None is =
          agrees_outside U K w (IndexedMatch U (lows_at C the_array) ty)
          (target.reach S net_oracle false (exp_of T (typed ty (element the_array indexes))) w.net)
      by (Some a) is =
          let x : HasImage U K w S T named v.0 a = have a is in
          let args : Exps = indexes_of T the_array 0 indexes in
          let lows : T.facts.low v.0 ≡ U.facts.low v.0 = ap (λ F. F.low v.0) facts in
          left_alone U K w (IndexedMatch U (lows_at C the_array) ty) (then (source.indexes_of C indexes w.src) (λ zs s. gives [] (a, zs) s))
          (target.reach S net_oracle false (exp_of T (typed ty (element the_array indexes))) w.net)
          (subst (λ z. Agrees U K w (IndexedMatch U (lows_at C the_array) ty) (then (source.indexes_of C indexes w.src) (λ zs s. gives [] (a, zs) s)) z)
          (sym (element_reached S net_oracle (exp_of T the_array) (variable_path T qualified v.0) args x.address w.net array_exp
          (leads qualified ∙ x.found qualified is_named)))
          (then_agrees U K w (λ u zs ys. IndexesLike (λ d. low_at T the_array d) 0 count zs ys) (IndexedMatch U (lows_at C the_array) ty)
          (source.indexes_of C indexes w.src) (target.values_of S net_oracle args w.net) (λ zs s. gives [] (a, zs) s)
          (λ ys w. gives [] (found_at (net_names.at_element (shape.element_of (net.shape_at x.address)) (net.looked_up x.address w) ys)) w) start given
          (λ zs ys u like later.
          agrees_gives U K u (IndexedMatch U (lows_at C the_array) ty) (a, zs)
          (found_at (net_names.at_element (shape.element_of (net.shape_at x.address)) (net.looked_up x.address u.net) ys)) later.match
          (indexed_at a x count ranked zs ys u later (subst (λ low. IndexesLike low 0 count zs ys) lows like)))))
