-- Variables that a frame always has, and the calm expressions of them.
use Rattle.std.proofs.Common.{◌≡◌, ◌∙◌, inl, inr, refl, sym, ap, subst, ℕ, ℤ, Bool, true, false, ◌&&◌, Some, List, [], ◌∷◌, true≢false}
use Rattle.std.specs.Prelude.{is_some}
use Rattle.vb_tree.specs.BoundTree as types
use Rattle.vb_tree.specs.BoundTree.{Ty}
use Rattle.vb_tree.specs.declared.declared.VarId.{VarId}
use Rattle.vb_tree.specs.declared.value.Value6.{Value6}
use Rattle.vb_tree.specs.declared.value.Value6.TheVariants as v
use Rattle.bound_tree.specs.Tree.{Expr, typed, constant, variable, convert, Exprs, no_exprs, next_expr}
use Rattle.bound_facts.proofs.Chains.{both_true}
use Rattle.bound_facts.specs.Locks.{is_same_type}
use Rattle.bound_facts.specs.Node.{type_at}
use Rattle.net_meaning.specs.declared.value.ValueN.{ValueN}
use Rattle.net_meaning.specs.ValueMatch.{Matches, longs}
use Rattle.net_meaning.specs.WrittenRows.{write_conversion}
use Rattle.run_base.specs.Outcomes.{gives, after, then, found, some_of}
use Rattle.run_base.specs.Positions.{Position}
use Rattle.written_trees.specs.Exprs.{exp_of}
use Rattle.written_trees.specs.Names.{Scope}
use Rattle.vb6_run.specs.Expressions as source
use Rattle.vb6_run.specs.Expressions.{at_address, indexes_of, value_in}
use Rattle.vb6_run.specs.Forms.{SourceLine}
use Rattle.vb6_run.specs.Runnables.{variable_address}
use Rattle.vb6_run.specs.Shapes.{simple}
use Rattle.vb6_run.specs.Store.{Address, root, Held, blank, single, Memory, SourceCalls, SourceFrame, read, single_in, value_if}
use Rattle.vb6_run.specs.Values.{scalar}
use Rattle.net_run.specs.Expressions as target
use Rattle.net_run.specs.Lines.{NetFrame, NetLine, scope_of}
use Rattle.net_run.specs.Making.{Jobs}
use Rattle.net_run.specs.Members.{Code}
use Rattle.net_run.specs.Names as net_names
use Rattle.net_run.specs.Store as net
use Rattle.run_matches.specs.Addresses.{AllMatched, IsPlain, Same, same_item, same_root, IsScalarAt, IsWhole, is_element, position_of}
use Rattle.run_matches.specs.CoveredVariables.{covers_type}
use Rattle.run_matches.specs.CoveredExprs.{Uses, are_calm, covers_expr, covers_exprs, is_calm, is_declared_as, widens, is_relied_on}
use Rattle.run_matches.specs.Formed.{are_formed, are_longs, is_formed, types_of}
use Rattle.run_matches.specs.Frames.{FrameMatch, StandsAs, is_mirrored}
use Rattle.run_matches.specs.Maps.{World, IsMade, is_auto_root, mark, moved_at}
use Rattle.run_matches.specs.Agreeing.{Agrees}
use Rattle.run_matches.specs.Match.{Holds, MemoryMatch, holds_single}
use Rattle.run_matches.specs.Pledges.{IsHeld, Pledge}
use Rattle.run_matches.specs.Runs.{CallsAgree}
use Rattle.run_matches.specs.Upgrades.{Upgrade}
use Rattle.run_statements.specs.Frames.{AllCalled, AllCalledAll, AreReadable, ArePlaced, ExpressionsAgree, IsKnown, IsOpen, IsPlaced, IsReadable, ScalarMatch, context_of, demands}
use Rattle.run_statements.specs.Written.{Passes}
use Rattle.line_laws.proofs.Bounds.{some_is}
use Rattle.line_laws.proofs.Calm.{Gives, IsFit, Widened, as_long, constant_gives, converted_gives, fit_of, formed_constant, fit_typed, same_self, value_read, widened_value}
use Rattle.line_laws.proofs.Flat.{flat_scalar, known_scalar}
use Rattle.line_laws.proofs.Placed.{FlatImages, PlacedVariable, placed_variable, not_auto}
use Rattle.line_laws.proofs.Stores.{same_type}
use Rattle.line_laws.proofs.Uses.{no_auto, shape_is}

-- ---- where they stand

-- a scalar variable of a type that the frame has
pub record Standing (U : Upgrade) (w : World) (f : SourceFrame) (v : ℕ) (ty : Ty) : Type 0 where
  pub position : Position
  pub found : variable_address U.program.declarations f v ≡ Some (root (simple ty) position)
  pub matched : AllMatched U w (simple ty) position
  pub plain : is_auto_root U w.map position.root ≡ false

pub same_matched : (U : Upgrade) (K : Pledge) (w : World) (ty : Ty) (q : Position) (a : Address) (b : net.Address) → a ≡ root (simple ty) q → Same U K w a b
    → AllMatched U w (simple ty) q
same_matched U K w ty q _ _ e (same_root s d p sh m r) = subst (λ a. of_address a) e m
  where
    of_address : Address → Type 0
    of_address (root s p) = AllMatched U w s p
    of_address _ = Unit {0}
same_matched U K w ty q _ _ e (same_item x s d p k j path keeps m has part sh) = cc

-- what is no element stands as a variable
pub whole_stands : (ty : Ty) (a : Address) (q : Position) → IsWhole a → IsScalarAt ty a q → a ≡ root (simple ty) q
whole_stands ty a q h (inl e) = e
whole_stands ty a q h (inr x) = absurd (true≢false (sym (ap is_element x.1) ∙ h))

-- a variable that is placed has an address in each frame that matches
pub known_there : (U : Upgrade) (K : Pledge) (w : World) (p : ℕ) (f : SourceFrame) (g : NetFrame) (k : NetLine) (c : Code) (T : Scope)
    → T.declarations ≡ U.program.declarations → FrameMatch U K w p f g → (v : ℕ) → IsKnown U v → IsPlaced U p f (scope_of U.written c g k) T v
    → (a : Address) × (variable_address U.program.declarations f v ≡ Some a)
known_there U K w p f g k c T declared F v x placed =
    let y : PlacedVariable U K w f (scope_of U.written c g k) T v = placed_variable U K w p f g k c T declared F v x placed in (y.address, y.found)

-- and no use of it makes what stands there
pub known_plain : (U : Upgrade) (K : Pledge) (w : World) (p : ℕ) (f : SourceFrame) (g : NetFrame) (k : NetLine) (c : Code) (T : Scope)
    → T.declarations ≡ U.program.declarations → FrameMatch U K w p f g → (v : ℕ) → IsKnown U v → IsPlaced U p f (scope_of U.written c g k) T v
    → (a : Address) → variable_address U.program.declarations f v ≡ Some a → IsPlain U w a
known_plain U K w p f g k c T declared F v x placed a found =
    let y : PlacedVariable U K w f (scope_of U.written c g k) T v = placed_variable U K w p f g k c T declared F v x placed in
    subst (λ b. IsPlain U w b) (some_is y.address a (sym y.found ∙ found)) (y.plain (not_auto U v x))

-- a scalar that is relied on stands as a variable
pub standing : (U : Upgrade) (K : Pledge) (w : World) → MemoryMatch U w → (p : ℕ) (f : SourceFrame) (g : NetFrame) (k : NetLine) (c : Code) (T : Scope)
    → T.declarations ≡ U.program.declarations → FrameMatch U K w p f g → (v : ℕ) (r : IsReadable U v) → is_mirrored U v ≡ false
    → is_relied_on U.program v ≡ true → IsPlaced U p f (scope_of U.written c g k) T v → Standing U w f v r.variable.ty
standing U K w h p f g k c T declared F v r loud relied placed =
    let y : PlacedVariable U K w f (scope_of U.written c g k) T v = placed_variable U K w p f g k c T declared F v (known_scalar U v r) placed in
    let i : FlatImages U K w v y.address y.net_address = y.flat h (λ d same. flat_scalar U v r) loud in
    let at : y.address ≡ root (simple r.variable.ty) i.position =
    whole_stands r.variable.ty y.address i.position (y.whole relied) (subst (λ d. StandsAs d y.address i.position) (shape_is U v r) i.stands) in
    record {
      position = i.position;
      found = y.found ∙ ap (λ a. Some a) at;
      matched = same_matched U K w r.variable.ty i.position y.address y.net_address at i.same;
      plain = y.plain (not_auto U v (known_scalar U v r)) i.position (ap position_of at);
    }

-- ---- what stands there

-- what was there, and is no As New variable, is as it was
abbrev pub Stable : Upgrade → World → Memory → Type 0
Stable U w s = (q : Position) → IsMade (mark w.src) q.root → is_auto_root U w.map q.root ≡ false → IsHeld w q → s.held q ≡ w.src.held q

-- something stands for the scalar that a position holds
pub held_fit : (U : Upgrade) (w : World) (ty : Ty) (z : Value6) (x : Held) (y : net.Cell) → x ≡ single ty z → Holds U w x y → IsFit ty z
held_fit U w ty z _ _ e (holds_single t x y m) =
    let a : t ≡ ty = cc e in let b : x ≡ z = cc e in subst (λ t. IsFit t z) a (subst (λ x. IsFit t x) b (_, y, m))
held_fit U w ty z _ _ e _ = cc

pub read_single : (ty : Ty) (z : Value6) (q : Position) (s : Memory) → is_same_type ty ty ≡ true → s.held q ≡ single ty z
    → read (root (simple ty) q) s ≡ gives [] (scalar ty z) s
read_single ty z q s same is = ap (λ x. found (single_in ty x) s) is ∙ ap (λ b. found (value_if b (scalar ty z)) s) same

pub not_blank : (ty : Ty) (z : Value6) → single ty z ≡ blank → ⊥
not_blank ty z e = cc

-- ---- the types of indexes

abbrev pub all_longs : List Ty → Bool
all_longs [] = true
all_longs (t ∷ ts) = is_same_type types.long t && all_longs ts

pub longs_are : (ts : List Ty) → are_longs ts ≡ true → all_longs ts ≡ true
longs_are [] h = refl
longs_are (t ∷ []) h = ap (λ b. b && true) h
longs_are (s ∷ t ∷ []) h =
    let both = both_true (is_same_type types.long s) (is_same_type types.long t) h in
    ap (λ b. b && (is_same_type types.long t && true)) both.0 ∙ ap (λ b. b && true) both.1
longs_are (s ∷ t ∷ u ∷ ts) h = absurd (true≢false (sym h))

-- ---- calm expressions

module _ (U : Upgrade) (expressions : ExpressionsAgree U) (K : Pledge) (p : ℕ) (f : SourceFrame) (g : NetFrame) (l : SourceLine) (k : NetLine) (c : Code)
    (T : Scope) (declared : T.declarations ≡ U.program.declarations) (oracle : SourceCalls) (net_oracle : Jobs) (is_open : IsOpen (scope_of U.written c g k))
    (uses : Uses) (readable : AreReadable U T uses) (placed : ArePlaced U p f (scope_of U.written c g k) T uses) (agree : CallsAgree U (Passes U) oracle net_oracle)
    (w : World) (h : MemoryMatch U w) (F : FrameMatch U K w p f g) where
  abbrev C : source.Context
  C = context_of U oracle p f l

  abbrev S : net_names.Scope
  S = scope_of U.written c g k

  pub record Known (e : Expr) : Type 0 where
    pub value : Value6
    pub fit : IsFit (type_at e) value
    pub gives : (s : Memory) → Stable U w s → Gives C e value s

  abbrev Can : Expr → Type 0
  Can e = AllCalled (demands U K p l k S T) e

  -- what stands for it
  fitting : (e : Expr) (z : Value6) → Can e → covers_expr uses e ≡ true → is_formed e ≡ true → Gives C e z w.src → IsFit (type_at e) z
  fitting e z can covers formed is =
      fit_of U K w (type_at e) z w.src (target.value_of S net_oracle (exp_of T e) w.net)
      (subst (λ r. Agrees U K w (ScalarMatch U (type_at e)) r (target.value_of S net_oracle (exp_of T e) w.net)) is
      (expressions K w p f g oracle net_oracle l k c T uses e h F declared is_open readable placed agree can covers formed))

  known : (e : Expr) (z : Value6) → Can e → covers_expr uses e ≡ true → is_formed e ≡ true → ((s : Memory) → Stable U w s → Gives C e z s) → Known e
  known e z can covers formed is = record { value = z; fit = fitting e z can covers formed (is w.src (λ q m a i. refl)); gives = is }

  -- ---- variables

  pub parts_found : (ty : Ty) (v : VarId) (qualified : Bool) (r : IsReadable U v.0) (a : Address) (s : Memory)
      → variable_address U.program.declarations f v.0 ≡ Some a → source.parts_of C (typed ty (variable v qualified)) s ≡ gives [] (at_address a) s
  parts_found ty v qualified r a s is =
      ap (λ o. then (some_of o (λ a w. gives [] (at_address a) w) s) (source.as_new C (variable v qualified))) is
      ∙ ap (λ m. after [] (source.made_for C m (at_address a) s)) (no_auto U v.0 r)

  variable_gives : (ty : Ty) (v : VarId) (qualified : Bool) (r : IsReadable U v.0) → covers_type ty ≡ true → Standing U w f v.0 ty
      → (z : Value6) × ((s : Memory) → Stable U w s → Gives C (typed ty (variable v qualified)) z s)
  variable_gives ty v qualified r covers at =
      let e : Expr = typed ty (variable v qualified) in
      let a : Address = root (simple ty) at.position in
      let kind : (z : Value6) × (w.src.held at.position ≡ single ty z) = at.matched.1 in
      let fit : IsFit ty kind.0 =
      held_fit U w ty kind.0 (w.src.held at.position) (w.net.cell (moved_at U w.map at.position)) kind.1 (h.stores.values at.position at.matched.0) in (
        kind.0,
        λ s stable.
            let is : s.held at.position ≡ single ty kind.0 =
            stable at.position at.matched.0.is_made at.plain (λ z. not_blank ty kind.0 (sym kind.1 ∙ z)) ∙ kind.1 in
            ap (λ r. then r (value_in C e)) (parts_found ty v qualified r a s at.found)
            ∙ ap (after []) (value_read C e a s kind.0 covers (fit_typed ty kind.0 covers fit) (read_single ty kind.0 at.position s (same_self ty covers) is)),
      )

  -- ---- expressions

  convert_known : (ty to : Ty) (e : Expr) → ty ≡ to → covers_type to ≡ true → widens (type_at e) to ≡ true → Known e → Can (typed ty (convert to e))
      → covers_expr uses (typed ty (convert to e)) ≡ true → is_formed (typed ty (convert to e)) ≡ true → Known (typed ty (convert to e))
  convert_known ty to e same covers_to wide x can covers formed =
      let y : Widened x.value to = widened_value x.fit.0 (type_at e) to x.value x.fit.1 wide x.fit.2 in
      known (typed ty (convert to e)) y.value can covers formed
      (λ s stable. subst (λ t. Gives C (typed t (convert to e)) y.value s) (sym same) (converted_gives C to e x.value y.value s covers_to (x.gives s stable) y.is y.typed))

  pub calm_known : (e : Expr) → is_calm uses e ≡ true → Can e → covers_expr uses e ≡ true → is_formed e ≡ true → Known e
  calm_known (typed ty (constant x o)) calm can covers formed =
      let covers_ty = (both_true (covers_type ty) true covers).0 in
      known (typed ty (constant x o)) x can covers formed (λ s stable. constant_gives C ty x o s covers_ty (formed_constant ty x o covers_ty formed))
  calm_known (typed ty (variable v qualified)) calm can covers formed =
      let all = both_true (uses.scalar v && uses.named v qualified) (uses.exact v && (uses.is_of v ty && uses.relied v)) calm in
      let used = (both_true (uses.scalar v) (uses.named v qualified) all.0).0 in
      let exact = both_true (uses.exact v) (uses.is_of v ty && uses.relied v) all.1 in
      let relied = both_true (uses.is_of v ty) (uses.relied v) exact.1 in
      let covers_ty = (both_true (covers_type ty) (uses.scalar v && uses.named v qualified) covers).0 in
      let r : IsReadable U v.0 = readable.scalars v used in
      let same : r.variable.ty ≡ ty =
      same_type ty r.variable.ty covers_ty (sym (ap (is_declared_as ty) r.is_variable) ∙ readable.types v ty relied.0) in
      let at : Standing U w f v.0 r.variable.ty =
      standing U K w h p f g k c T declared F v.0 r (readable.exact v exact.0) (readable.relied v relied.1) (placed.places v (inl used)) in
      let x = variable_gives ty v qualified r covers_ty (subst (λ t. Standing U w f v.0 t) same at) in
      known (typed ty (variable v qualified)) x.0 can covers formed x.1
  calm_known (typed ty (convert to e)) calm can covers formed =
      let all = both_true (is_same_type to ty) (widens (type_at e) to && is_calm uses e) calm in
      let both = both_true (widens (type_at e) to) (is_calm uses e) all.1 in
      let one = both_true (covers_type ty) (covers_type to && covers_expr uses e) covers in
      let two = both_true (covers_type to) (covers_expr uses e) one.1 in
      let same : ty ≡ to = same_type to ty two.0 all.0 in
      convert_known ty to e same two.0 both.0
      (calm_known e both.1 can two.1 (both_true (is_some (write_conversion (type_at e) to)) (is_formed e) formed).1) can covers formed
  calm_known (typed ty _) calm can covers formed = absurd (true≢false (sym calm))

  long_of : (z : Value6) → IsFit types.long z → (i : ℤ) × (z ≡ v.Long i)
  long_of z fit = by_match fit.0 z fit.1 fit.2
    where
      by_match : (same : ℕ → ℕ → Bool) (z : Value6) (y : ValueN) → Matches same types.long z y → (i : ℤ) × (z ≡ v.Long i)
      by_match same _ _ (longs i e) = (i, refl)

  -- the indexes of an element
  pub indexes_known : (es : Exprs) → are_calm uses es ≡ true → AllCalledAll (demands U K p l k S T) es → covers_exprs uses es ≡ true → all_longs (types_of es) ≡ true
      → are_formed es ≡ true → (zs : List ℤ) × ((s : Memory) → Stable U w s → indexes_of C es s ≡ gives [] zs s)
  indexes_known no_exprs calm can covers long formed = ([], λ s stable. refl)
  indexes_known (next_expr e rest) calm can covers long formed =
      let is_calm_e = both_true (is_calm uses e) (are_calm uses rest) calm in
      let covers_e = both_true (covers_expr uses e) (covers_exprs uses rest) covers in
      let long_e = both_true (is_same_type types.long (type_at e)) (all_longs (types_of rest)) long in
      let formed_e = both_true (is_formed e) (are_formed rest) formed in
      let x : Known e = calm_known e is_calm_e.0 can.0 covers_e.0 formed_e.0 in
      let same : type_at e ≡ types.long = same_type types.long (type_at e) refl long_e.0 in
      let i = long_of x.value (subst (λ t. IsFit t x.value) same x.fit) in
      let more = indexes_known rest is_calm_e.1 can.1 covers_e.1 long_e.1 formed_e.1 in (
        i.0 ∷ more.0,
        λ s stable.
            ap (λ r. then r (λ z w. then (indexes_of C rest w) (λ zs w. gives [] (z ∷ zs) w))) (as_long C e i.0 s (subst (λ z. Gives C e z s) i.1 (x.gives s stable)))
            ∙ ap (λ r. after [] (then r (λ zs w. gives [] (i.0 ∷ zs) w))) (more.1 s stable),
      )
