-- Elements of arrays as targets: what the source does with one, and whose it is.
use Rattle.std.proofs.Common.{◌≡◌, ◌∙◌, refl, sym, ap, subst, ℕ, ℤ, Bool, true, false, cond, ◌&&◌, nat_eq, Option, Some, None, List, [], slice_get, true≢false}
use Rattle.std.specs.Map.{lookup}
use Rattle.vb_tree.specs.BoundTree as types
use Rattle.vb_tree.specs.BoundTree.{Ty}
use Rattle.vb_tree.specs.declared.declared.VarId.{VarId}
use Rattle.vb_tree.specs.declared.value.Value6.{Value6}
use Rattle.bound_tree.specs.Tree.{Expr, typed, variable, element, Exprs, Variable}
use Rattle.bound_facts.proofs.Chains.{both_true}
use Rattle.bound_facts.specs.Effects.{is_own_variable}
use Rattle.bound_facts.specs.Node.{auto_class, class_in}
use Rattle.net_meaning.specs.declared.value.ValueN.TheVariants as n
use Rattle.run_base.specs.Outcomes.{Output, Outcome, gives, raises, spent, outside, after, then, some_of}
use Rattle.run_base.specs.Positions.{Position}
use Rattle.vb6_run.specs.Arrays.{Lows, has_lows, have_long_lows, takes_indexes, with_array_value, with_held_array}
use Rattle.vb6_run.specs.Expressions as source
use Rattle.vb6_run.specs.Expressions.{Context, Parts, at_address, at_element, at_field, no_value, as_new, element_parts, finished, indexes_of, lows_at, term_parts}
use Rattle.vb6_run.specs.Lines.{let_to, store_at}
use Rattle.vb6_run.specs.Runnables.{declarations_of, declared_address, variable_address}
use Rattle.vb6_run.specs.Shapes as source_shape
use Rattle.vb6_run.specs.Store.{Address, root, item, Held, blank, single, table, parts, Memory, SourceFrame, provided, write}
use Rattle.vb6_run.specs.Store as source_store
use Rattle.vb6_run.specs.Values.{Value, scalar, fields, elements}
use Rattle.net_run.specs.Names as net_names
use Rattle.net_run.specs.Values as net_value
use Rattle.row_laws.proofs.Composing.{after_nil, then_assoc, then_gives}
use Rattle.run_matches.specs.CoveredExprs.{Uses, covers_array}
use Rattle.run_matches.specs.Frames.{IsOwnAddress, is_own_of}
use Rattle.run_matches.specs.Maps.{World}
use Rattle.run_matches.specs.Pledges.{IsOld, Pledge}
use Rattle.run_matches.specs.Upgrades.{Upgrade, runnable_of}
use Rattle.run_statements.specs.Frames.{ElementMatch, IsKnown}
use Rattle.agreeing_laws.specs.Promises.{Yields}
use Rattle.line_laws.proofs.Bounds.{some_is}
use Rattle.line_laws.proofs.Uses.{address_by, own_address}

-- ---- array variables

pub record ArrayVariable (uses : Uses) (a : Expr) : Type 0 where
  pub of : Ty
  pub rank : ℕ
  pub number : VarId
  pub qualified : Bool
  pub is : a ≡ typed (types.array of rank) (variable number qualified)
  pub used : uses.array number of ≡ true
  pub named : uses.named number qualified ≡ true

pub array_variable : (uses : Uses) (a : Expr) → covers_array uses a ≡ true → ArrayVariable uses a
array_variable uses (typed (types.array e rank) (variable v q)) h =
    let both = both_true (uses.array v e) (uses.named v q) h in
    record { of = e; rank = rank; number = v; qualified = q; is = refl; used = both.0; named = both.1 }
array_variable uses (typed (types.array e rank) _) h = absurd (true≢false (sym h))
array_variable uses (typed _ _) h = absurd (true≢false (sym h))

-- the address of what is the procedure's own is in the frame
pub own_found : (U : Upgrade) (v : ℕ) (x : Variable) → slice_get U.program.declarations.vars v ≡ Some x → (p : ℕ) → is_own_of U p v ≡ true → (f : SourceFrame)
    → variable_address U.program.declarations f v ≡ lookup (nat_eq v) f.vars
own_found U v x is p own f =
    ap (declared_address U.program.declarations f v) is ∙ own_address U.program.declarations f v p x.owner (sym (ap (is_own_variable p) is) ∙ own)

module _ (U : Upgrade) (v : ℕ) (k : IsKnown U v) where
  -- no object is made for it
  pub known_auto : auto_class (slice_get U.program.declarations.vars v) ≡ None
  known_auto = ap auto_class k.is_variable ∙ ap (λ b. cond b (class_in k.variable.ty) None) k.plain

  pub known_address : (p : ℕ) → is_own_of U p v ≡ true → (f : SourceFrame) → variable_address U.program.declarations f v ≡ lookup (nat_eq v) f.vars
  known_address p own f = own_found U v k.variable k.is_variable p own f

-- the address of a variable in the source
pub known_found : (U : Upgrade) (C : Context) → C.runnable ≡ runnable_of U → (ty : Ty) (v : VarId) (qualified : Bool) (k : IsKnown U v.0) (s : Memory)
    → source.address_of C (typed ty (variable v qualified)) s
    ≡ some_of (variable_address U.program.declarations C.frame v.0) (λ a w. gives [] a w) s
known_found U C e ty v qualified k s =
    ap (λ o. then (then (some_of o (λ a w. gives [] (at_address a) w) s) (as_new C (variable v qualified))) finished)
    (ap (λ R. variable_address (declarations_of R) C.frame v.0) e)
    ∙ address_by C (variable_address U.program.declarations C.frame v.0) (auto_class (slice_get (declarations_of C.runnable).vars v.0))
    (ap (λ R. auto_class (slice_get (declarations_of R).vars v.0)) e ∙ known_auto U v.0 k) s

-- ---- an assignment to an element

module _ (C : Context) (ty : Ty) (a : Expr) (indexes : Exprs) where
  abbrev pub to : Expr
  to = typed ty (element a indexes)

  -- the array and the indexes
  abbrev pub indexed : Memory → Outcome Memory (Address × List ℤ)
  indexed s = then (source.address_of C a s) (λ b s. then (indexes_of C indexes s) (λ zs s. gives [] (b, zs) s))

  abbrev pub parts_by : Address × List ℤ → Memory → Outcome Memory Parts
  parts_by x s = element_parts C a x.0 x.1 s

  -- they come first
  pub parts_are : (s : Memory) → term_parts C ty (element a indexes) s ≡ then (indexed s) parts_by
  parts_are s =
      sym (then_assoc (source.address_of C a s) (λ b s. then (indexes_of C indexes s) (λ zs s. gives [] (b, zs) s)) parts_by
      ∙ ap (λ k. then (source.address_of C a s) k) (λ i b s. inner b s i))
    where
      inner : (b : Address) (s : Memory) → then (then (indexes_of C indexes s) (λ zs s. gives [] (b, zs) s)) parts_by
          ≡ then (indexes_of C indexes s) (λ zs s. element_parts C a b zs s)
      inner b s =
          then_assoc (indexes_of C indexes s) (λ zs s. gives [] (b, zs) s) parts_by
          ∙ ap (λ k. then (indexes_of C indexes s) k) (λ i zs s. after_nil (element_parts C a b zs s) i)

  -- what is stored there once the parts are known
  abbrev pub stored_by : Value6 → Parts → Memory → Outcome Memory Unit
  stored_by z x s = then (finished x s) (write C.frame.env (scalar ty z))

  pub let_is : (z : Value6) (s : Memory) → let_to C to (scalar ty z) s ≡ then (term_parts C ty (element a indexes) s) (stored_by z)
  let_is z s =
      ap (λ r. then (then r finished) (store_at C to (scalar ty z))) (then_gives (term_parts C ty (element a indexes) s))
      ∙ then_assoc (term_parts C ty (element a indexes) s) finished (write C.frame.env (scalar ty z))

-- ---- whose element it is

behind : {B : Type 0} (Q : B → Memory → Type 0) (o : List Output) (r : Outcome Memory B) → Yields Q r → Yields Q (after o r)
behind Q o (gives p a s) y = y
behind Q o (raises p e s) y = tt
behind Q o (spent p s) y = tt
behind Q o (outside p) y = tt

pub yields_then : {A B : Type 0} (P : A → Memory → Type 0) (Q : B → Memory → Type 0) (r : Outcome Memory A) (k : A → Memory → Outcome Memory B) → Yields P r
    → ((a : A) (s : Memory) → P a s → Yields Q (k a s)) → Yields Q (then r k)
yields_then P Q (gives o a s) k y go = behind Q o (k a s) (go a s y)
yields_then P Q (raises o e s) k y go = tt
yields_then P Q (spent o s) k y go = tt
yields_then P Q (outside o) k y go = tt

any_yields : {A : Type 0} (r : Outcome Memory A) → Yields (λ a s. Unit {0}) r
any_yields (gives o a s) = tt
any_yields (raises o e s) = tt
any_yields (spent o s) = tt
any_yields (outside o) = tt

pub yields_as : {A : Type 0} (P Q : A → Memory → Type 0) (r : Outcome Memory A) → ((a : A) (s : Memory) → P a s → Q a s) → Yields P r → Yields Q r
yields_as P Q (gives o a s) go y = go a s y
yields_as P Q (raises o e s) go y = tt
yields_as P Q (spent o s) go y = tt
yields_as P Q (outside o) go y = tt

-- an element of the array at an address
abbrev pub IsElementOf : Address → Parts → Type 0
IsElementOf b x = (zs : List ℤ) × (x ≡ at_element b zs)

provided_element : (b : Address) (zs : List ℤ) (t : Bool) (s : Memory) → Yields (λ x s. IsElementOf b x) (provided t (λ w. gives [] (at_element b zs) w) s)
provided_element b zs true s = (zs, refl)
provided_element b zs false s = tt

held_element : (lows : Lows) (b : Address) (zs : List ℤ) (h : Held) (s : Memory)
    → Yields (λ x s. IsElementOf b x)
    (with_held_array h (λ e dims xs w. provided (has_lows lows dims && (have_long_lows dims && takes_indexes dims zs)) (λ w. gives [] (at_element b zs) w) w) s)
held_element lows b zs blank s = tt
held_element lows b zs (single t x) s = tt
held_element lows b zs (table e dims xs) s = provided_element b zs (has_lows lows dims && (have_long_lows dims && takes_indexes dims zs)) s
held_element lows b zs parts s = tt

value_element : (lows : Lows) (b : Address) (zs : List ℤ) (x : Value) (s : Memory)
    → Yields (λ x s. IsElementOf b x)
    (with_array_value x (λ e dims xs w. provided (has_lows lows dims && (have_long_lows dims && takes_indexes dims zs)) (λ w. gives [] (at_element b zs) w) w) s)
value_element lows b zs (scalar t x) s = tt
value_element lows b zs (fields t xs) s = tt
value_element lows b zs (elements e dims xs) s = provided_element b zs (has_lows lows dims && (have_long_lows dims && takes_indexes dims zs)) s

element_at : (C : Context) (a : Expr) (b : Address) (zs : List ℤ) (s : Memory) → Yields (λ x s. IsElementOf b x) (element_parts C a b zs s)
element_at C a (root d q) zs s = held_element (lows_at C a) (root d q) zs (s.held q) s
element_at C a (item e q j path) zs s = tt
element_at C a (source_store.constant x) zs s = value_element (lows_at C a) (source_store.constant x) zs x s

-- the array of a variable
abbrev pub IsElementIn : Upgrade → SourceFrame → (array : ℕ) → Parts → Memory → Type 0
IsElementIn U f v x s = (b : Address) × (variable_address U.program.declarations f v ≡ Some b) × IsElementOf b x

there : (o q : Option Address) (s : Memory) → o ≡ q → Yields (λ b s. o ≡ Some b) (some_of q (λ a w. gives [] a w) s)
there o None s e = tt
there o (Some b) s e = e

pub element_in : (U : Upgrade) (C : Context) → C.runnable ≡ runnable_of U → (ty aty : Ty) (v : VarId) (qualified : Bool) (k : IsKnown U v.0) (indexes : Exprs)
    (s : Memory) → Yields (IsElementIn U C.frame v.0) (term_parts C ty (element (typed aty (variable v qualified)) indexes) s)
element_in U C e ty aty v qualified k indexes s =
    let a : Expr = typed aty (variable v qualified) in
    yields_then (λ b s. variable_address U.program.declarations C.frame v.0 ≡ Some b) (IsElementIn U C.frame v.0) (source.address_of C a s)
    (λ b s. then (indexes_of C indexes s) (λ zs s. element_parts C a b zs s))
    (subst (λ r. Yields (λ b s. variable_address U.program.declarations C.frame v.0 ≡ Some b) r) (sym (known_found U C e aty v qualified k s))
    (there (variable_address U.program.declarations C.frame v.0) (variable_address U.program.declarations C.frame v.0) s refl))
    (λ b s found. yields_then (λ zs s. Unit {0}) (IsElementIn U C.frame v.0) (indexes_of C indexes s) (λ zs s. element_parts C a b zs s)
    (any_yields (indexes_of C indexes s)) (λ zs s i. with_address b found (element_parts C a b zs s) (element_at C a b zs s)))
  where
    with_address : (b : Address) → variable_address U.program.declarations C.frame v.0 ≡ Some b → (r : Outcome Memory Parts)
        → Yields (λ x s. IsElementOf b x) r → Yields (IsElementIn U C.frame v.0) r
    with_address b found (gives o x s) y = (b, found, y)
    with_address b found (raises o d s) y = tt
    with_address b found (spent o s) y = tt
    with_address b found (outside o) y = tt

-- ---- what may change

abbrev array_of : Parts → Option Address
array_of (at_address a) = None
array_of (at_element a zs) = Some a
array_of (at_field x c s k) = None
array_of no_value = None

-- the element of a variable stands at its position
pub element_array : (b : Address) (x : Parts) (q : Position) (d : source_shape.Shape) (zs : List ℤ) → IsElementOf b x → x ≡ at_element (root d q) zs → b ≡ root d q
element_array b x q d zs i e = some_is b (root d q) (sym (ap array_of i.1) ∙ ap array_of e)

-- where the array may change
pub own_element : (U : Upgrade) (K : Pledge) (f : SourceFrame) (v : ℕ)
    → ((a : Address) → variable_address U.program.declarations f v ≡ Some a → IsOwnAddress K a)
    → (x : Parts) (s : Memory) → IsElementIn U f v x s → (q : Position) (d : source_shape.Shape) (zs : List ℤ) → x ≡ at_element (root d q) zs → IsOld K q.root → ⊥
own_element U K f v changes x s i q d zs e old =
    subst (λ b. IsOwnAddress K b) (element_array i.0 x q d zs i.2 e) (changes i.0 i.1) q refl old

-- the same element of parts that are spelt
abbrev pub spelt : (U : Upgrade) (ty : Ty) (w : World) (x : Parts) (r : net_names.Reached) (m : ElementMatch U ty w x r)
    → ElementMatch U ty w x (net_names.found_at (net_names.at_element m.written (net_value.single (n.Array m.array)) m.net_indexes))
spelt U ty w x r m = record {
  position = m.position;
  bounds = m.bounds;
  written = m.written;
  array = m.array;
  is_matched = m.is_matched;
  plain = m.plain;
  has = m.has;
  same = m.same;
  indexes = m.indexes;
  net_indexes = m.net_indexes;
  stands = m.stands;
  net_stands = refl;
  same_indexes = m.same_indexes;
  counted = m.counted;
}
