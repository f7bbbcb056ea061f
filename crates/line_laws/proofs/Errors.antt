-- Err.Raise raises the same number as what is written for it, and Err.Clear clears it.
use Rattle.std.proofs.Common.{◌≡◌, ◌∙◌, refl, sym, ap, subst, ℕ, pos, negsuc, Bool, true, false, cond, ◌&&◌, ◌+◌, ◌<◌, arith, true≢false, codes, [], ◌∷◌}
use Rattle.std.specs.Prelude.{nat_lt, nat_le}
use Rattle.std.proofs.lemmas.Bool.{le-leb, ltb-true}
use Rattle.vb_tree.specs.BoundTree as types
use Rattle.vb_tree.specs.BoundTree.{Ty}
use Rattle.vb_tree.specs.declared.value.Value6.{Value6}
use Rattle.bound_tree.specs.Tree.{Expr, typed, err_clear, err_raise}
use Rattle.bound_facts.proofs.Chains.{both_true}
use Rattle.bound_facts.specs.Locks.{is_same_type}
use Rattle.bound_facts.specs.Node.{type_at}
use Rattle.vb6_meaning.specs.Answers as value
use Rattle.net_tree.specs.Tree as net
use Rattle.net_meaning.specs.declared.value.ValueN.TheVariants as n
use Rattle.net_meaning.specs.ValueMatch.{longs}
use Rattle.run_base.specs.Frames.{by_value}
use Rattle.run_base.specs.Outcomes.{Outcome, gives, raises, outside, then}
use Rattle.written_trees.specs.Conversions.{one, support_call}
use Rattle.written_trees.specs.Exprs.{exp_of}
use Rattle.written_trees.specs.Names.{Scope, support}
use Rattle.vb6_run.specs.Expressions as source
use Rattle.vb6_run.specs.Expressions.{Parts, no_value, raise_of, scalar_of, value_in, whole_number}
use Rattle.vb6_run.specs.Forms.{SourceLine}
use Rattle.vb6_run.specs.Store as source_store
use Rattle.vb6_run.specs.Store.{Memory, SourceCalls, SourceFrame}
use Rattle.vb6_run.specs.Values.{Value, scalar}
use Rattle.net_run.specs.Calls.{Arguments, performed, value_answered}
use Rattle.net_run.specs.Expressions as target
use Rattle.net_run.specs.Expressions.{address_from, call_parts, finished, parts_by}
use Rattle.net_run.specs.Lines.{NetFrame, NetLine, scope_of, set_err}
use Rattle.net_run.specs.Making.{Jobs}
use Rattle.net_run.specs.Members.{Code}
use Rattle.net_run.specs.Names as net_names
use Rattle.net_run.specs.Names.{Callee, called, at_address, to_support}
use Rattle.net_run.specs.Store as net_store
use Rattle.net_run.specs.Store.{nowhere}
use Rattle.net_run.specs.Values as net_value
use Rattle.row_laws.specs.Uncaptured.{IsUncaptured}
use Rattle.row_laws.proofs.Calls.{call_reached, one_given}
use Rattle.row_laws.proofs.Composing.{after_nil, then_assoc, then_gives}
use Rattle.row_laws.proofs.Support.{support_start}
use Rattle.run_matches.specs.Upgrades.{Upgrade}
use Rattle.run_matches.specs.Maps.{World}
use Rattle.run_matches.specs.Likeness.{LikeV, like_scalar}
use Rattle.run_matches.specs.Match.{MemoryMatch}
use Rattle.run_matches.specs.Pledges.{Pledge, Later}
use Rattle.run_matches.specs.Agreeing.{Agrees, world_of}
use Rattle.run_matches.specs.CoveredExprs.{Uses, covers_expr}
use Rattle.run_matches.specs.Formed.{is_formed}
use Rattle.run_matches.specs.Frames.{FrameMatch}
use Rattle.run_matches.specs.Runs.{CallsAgree}
use Rattle.run_statements.specs.Frames.{ArePlaced, ExpressionsAgree, IsOpen, ScalarMatch, context_of, AllCalled, demands, AreReadable}
use Rattle.run_statements.specs.Written.{Passes}
use Rattle.agreeing_laws.proofs.Agreeing.{agrees_from, agrees_gives, agrees_outside, agrees_raises, left_alone, then_agrees}
use Rattle.agreeing_laws.proofs.Beside.{later_errors}
use Rattle.agreeing_laws.proofs.Lasting.{later_now, weaker_self}
use Rattle.line_laws.proofs.Boxes.{AnyShown, AgreesAsCall}

-- ---- what is written

module _ (S : net_names.Scope) (oracle : Jobs) (free : IsUncaptured S) where
  called_address : (c : Callee) (gs : Arguments) (w : net_store.Memory) → address_from S oracle (gives [] (called c gs) w) ≡ performed S oracle c gs w
  called_address c gs w =
      ap (λ z. then z finished) (after_nil (call_parts S oracle c gs w))
      ∙ then_assoc (performed S oracle c gs w) (λ a w. gives [] (at_address a) w) finished
      ∙ then_gives (performed S oracle c gs w)

  -- what Raise does with a value
  abbrev raised_by : net_value.Value → net_store.Memory → Outcome net_store.Memory net_store.Address
  raised_by v w = performed S oracle (to_support (codes "Raise")) (by_value v ∷ []) w

  raise_is : (a : net.Exp) (w : net_store.Memory)
      → target.address_of S oracle (support_call (codes "Raise") (one a)) w ≡ then (target.value_of S oracle a w) raised_by
  raise_is a w =
      ap (address_from S oracle)
      (call_reached S oracle (to_support (codes "Raise")) (support (codes "Raise")) (support_start S oracle free (codes "Raise")) refl (one a) w)
      ∙ ap (λ z. then z finished) (then_assoc (target.args_of S oracle [] (one a) w) (λ gs w. gives [] (called (to_support (codes "Raise")) gs) w) (parts_by S oracle))
      ∙ then_assoc (target.args_of S oracle [] (one a) w) (λ gs w. then (gives [] (called (to_support (codes "Raise")) gs) w) (parts_by S oracle)) finished
      ∙ ap (λ k. then (target.args_of S oracle [] (one a) w) k) (λ i gs w. called_address (to_support (codes "Raise")) gs w i)
      ∙ ap (λ z. then z (performed S oracle (to_support (codes "Raise")))) (one_given S oracle a w)
      ∙ then_assoc (target.value_of S oracle a w) (λ v w. gives [] (by_value v ∷ []) w) (performed S oracle (to_support (codes "Raise")))
      ∙ ap (λ k. then (target.value_of S oracle a w) k) (λ i v w. after_nil (raised_by v w) i)

  clear_is : (w : net_store.Memory) → target.address_of S oracle (support_call (codes "ErrClear") net.no_exps) w ≡ gives [] nowhere (set_err 0 w)
  clear_is w =
      ap (address_from S oracle)
      (call_reached S oracle (to_support (codes "ErrClear")) (support (codes "ErrClear")) (support_start S oracle free (codes "ErrClear")) refl net.no_exps w)
      ∙ called_address (to_support (codes "ErrClear")) [] w

-- ---- a number

abbrev AnyPlace : World → Parts → net_store.Address → Type 0
AnyPlace w p a = Unit {0}

-- what Err.Raise does with a value
abbrev raises_value : Value6 → Memory → Outcome Memory Parts
raises_value z w = then (whole_number z w) raise_of

-- a number is of type Long
is_long : (ty : Ty) → is_same_type ty types.long ≡ true → ty ≡ types.long
is_long types.long h = refl
is_long _ h = absurd (true≢false (sym h))

module _ (U : Upgrade) (K : Pledge) (S : net_names.Scope) (oracle : Jobs) (free : IsUncaptured S) (w : World) (h : MemoryMatch U w) where
  -- the limits are the same
  both_raise : (m : ℕ) (b : Bool) → (nat_lt 0 m && nat_lt m 65536) ≡ b
      → Agrees U K w AnyPlace (cond b (raises [] m w.src) (outside []))
      (value_answered (cond (nat_le 1 m && nat_le m 65535) (value.raises m) value.outside) w.net)
  both_raise m false e = agrees_outside U K w AnyPlace (value_answered (cond (nat_le 1 m && nat_le m 65535) (value.raises m) value.outside) w.net)
  both_raise m true e =
      let both : (nat_lt 0 m ≡ true) × (nat_lt m 65536 ≡ true) = both_true (nat_lt 0 m) (nat_lt m 65536) e in
      let low : 0 < m = ltb-true 0 m both.0 in
      let high : m < 65536 = ltb-true m 65536 both.1 in
      let first : nat_le 1 m ≡ true = le-leb 1 m (omega (arith, low)) in
      let second : nat_le m 65535 ≡ true = le-leb m 65535 (omega (arith, high)) in
      subst (λ c. Agrees U K w AnyPlace (raises [] m w.src) (value_answered (cond (c && nat_le m 65535) (value.raises m) value.outside) w.net)) (sym first)
      (subst (λ c. Agrees U K w AnyPlace (raises [] m w.src) (value_answered (cond c (value.raises m) value.outside) w.net)) (sym second)
      (agrees_raises U K w AnyPlace m h))

  raised : (z : Value6) (y : net_value.Value) → LikeV U w (scalar types.long z) y
      → Agrees U K w AnyPlace (raises_value z w.src) (raised_by S oracle free y w.net)
  raised _ _ (like_scalar _ _ _ (longs (pos m) fits)) =
      let same : 0 + m ≡ m = omega arith in
      left_alone U K w AnyPlace (raise_of (pos m) w.src) (raised_by S oracle free (net_value.single (n.Integer (pos m))) w.net)
      (subst (λ a. Agrees U K w AnyPlace (raise_of (pos m) w.src) (value_answered (cond (nat_le 1 a && nat_le a 65535) (value.raises a) value.outside) w.net)) (sym same)
      (both_raise m (nat_lt 0 m && nat_lt m 65536) refl))
  raised _ _ (like_scalar _ _ _ (longs (negsuc m) fits)) =
      agrees_outside U K w AnyPlace (raised_by S oracle free (net_value.single (n.Integer (negsuc m))) w.net)

  raised_at : (ty : Ty) (x : Value) (y : net_value.Value) → ty ≡ types.long → ScalarMatch U ty w x y
      → Agrees U K w AnyPlace (then (scalar_of x w.src) raises_value) (raised_by S oracle free y w.net)
  raised_at ty x y is m =
      subst (λ a. Agrees U K w AnyPlace (then (scalar_of a w.src) raises_value) (raised_by S oracle free y w.net)) (sym m.1)
      (left_alone U K w AnyPlace (raises_value m.0 w.src) (raised_by S oracle free y w.net)
      (raised m.0 y (subst (λ t. LikeV U w (scalar t m.0) y) is m.2)))

-- ---- lines

module _ (U : Upgrade) (expressions : ExpressionsAgree U) (K : Pledge) (p : ℕ) (f : SourceFrame) (g : NetFrame) (l : SourceLine) (k : NetLine) (c : Code) (T : Scope)
    (declared : T.declarations ≡ U.program.declarations) (oracle : SourceCalls) (net_oracle : Jobs) (is_open : IsOpen (scope_of U.written c g k)) (uses : Uses)
    (readable : AreReadable U T uses) (placed : ArePlaced U p f (scope_of U.written c g k) T uses) (agree : CallsAgree U (Passes U) oracle net_oracle)
    (w : World) (h : MemoryMatch U w) (F : FrameMatch U K w p f g) where
  abbrev C : source.Context
  C = context_of U oracle p f l

  abbrev S : net_names.Scope
  S = scope_of U.written c g k

  -- the source's computation begins with the value
  value_first : (e : Expr) (s : Memory)
      → then (then (source.parts_of C e s) (source.long_in C e)) raise_of ≡ then (source.value_of C e s) (λ x s. then (scalar_of x s) raises_value)
  value_first e s =
      ap (λ r. then r raise_of) (sym (then_assoc (source.parts_of C e s) (source.scalar_in C e) whole_number))
      ∙ then_assoc (source.scalar_value C e s) whole_number raise_of
      ∙ ap (λ r. then r raises_value) (sym (then_assoc (source.parts_of C e s) (value_in C e) scalar_of))
      ∙ then_assoc (source.value_of C e s) scalar_of raises_value

  number_agrees : (e : Expr) → AllCalled (demands U K p l k S T) e → covers_expr uses e ≡ true → is_formed e ≡ true → type_at e ≡ types.long
      → Agrees U K w AnyPlace (then (then (source.parts_of C e w.src) (source.long_in C e)) raise_of)
      (target.address_of S net_oracle (support_call (codes "Raise") (one (exp_of T e))) w.net)
  number_agrees e can covers formed is =
      subst (λ r. Agrees U K w AnyPlace r (target.address_of S net_oracle (support_call (codes "Raise") (one (exp_of T e))) w.net)) (sym (value_first e w.src))
      (subst (λ r. Agrees U K w AnyPlace (then (source.value_of C e w.src) (λ x s. then (scalar_of x s) raises_value)) r)
      (sym (raise_is S net_oracle is_open.support (exp_of T e) w.net))
      (then_agrees U K w (ScalarMatch U (type_at e)) AnyPlace (source.value_of C e w.src) (target.value_of S net_oracle (exp_of T e) w.net)
      (λ x s. then (scalar_of x s) raises_value) (raised_by S net_oracle is_open.support) h
      (expressions K w p f g oracle net_oracle l k c T uses e h F declared is_open readable placed agree can covers formed)
      (λ x y w1 m later. raised_at U K S net_oracle is_open.support w1 later.match (type_at e) x y is m)))

  let_go : (r : Outcome Memory Parts) (r' : Outcome net_store.Memory net_store.Address) → Agrees U K w AnyPlace r r'
      → Agrees U K w AnyShown r (then r' (λ a t. gives [] tt t))
  let_go r r' x =
      subst (λ z. Agrees U K w AnyShown z (then r' (λ a t. gives [] tt t))) (then_gives r)
      (then_agrees U K w AnyPlace AnyShown r r' (λ u s. gives [] u s) (λ a t. gives [] tt t) h x
      (λ u a w1 m later. agrees_gives U K w1 AnyShown u tt later.match tt))

  pub raise_agrees : (ty : Ty) (e : Expr) → AllCalled (demands U K p l k (scope_of U.written c g k) T) e → covers_expr uses e ≡ true
      → is_formed (typed ty (err_raise e)) ≡ true
      → AgreesAsCall U K w (scope_of U.written c g k) net_oracle (source.parts_of (context_of U oracle p f l) (typed ty (err_raise e)) w.src)
      (exp_of T (typed ty (err_raise e)))
  raise_agrees ty e can covers formed =
      let both : (is_same_type (type_at e) types.long ≡ true) × (is_formed e ≡ true) = both_true (is_same_type (type_at e) types.long) (is_formed e) formed in
      record {
        callee = net.path (support (codes "Raise"));
        args = one (exp_of T e);
        is = refl;
        agrees =
            let_go (source.parts_of C (typed ty (err_raise e)) w.src) (target.address_of S net_oracle (support_call (codes "Raise") (one (exp_of T e))) w.net)
            (subst (λ r. Agrees U K w AnyPlace r (target.address_of S net_oracle (support_call (codes "Raise") (one (exp_of T e))) w.net))
            (sym (then_gives (then (then (source.parts_of C e w.src) (source.long_in C e)) raise_of)))
            (number_agrees e can covers both.1 (is_long (type_at e) both.0)));
      }

  -- ---- Err.Clear

  abbrev cleared : World
  cleared = world_of w.map (source_store.set_err 0 w.src) (set_err 0 w.net)

  cleared_later : Later U K w (world_of w.map (source_store.set_err 0 w.src) (set_err 0 w.net))
  cleared_later = later_errors U K w w.map w.src w.net 0 0 refl (later_now U K w h)

  both_clear : Agrees U K w AnyPlace (gives [] no_value (source_store.set_err 0 w.src)) (gives [] nowhere (set_err 0 w.net))
  both_clear =
      agrees_from U K K w cleared AnyPlace (gives [] no_value cleared.src) (gives [] nowhere cleared.net) h.stores (weaker_self w K) cleared_later
      (agrees_gives U K cleared AnyPlace no_value nowhere cleared_later.match tt)

  pub clear_agrees : (ty : Ty)
      → AgreesAsCall U K w (scope_of U.written c g k) net_oracle (source.parts_of (context_of U oracle p f l) (typed ty err_clear) w.src)
      (exp_of T (typed ty err_clear))
  clear_agrees ty = record {
    callee = net.path (support (codes "ErrClear"));
    args = net.no_exps;
    is = refl;
    agrees =
        let_go (source.parts_of C (typed ty err_clear) w.src) (target.address_of S net_oracle (support_call (codes "ErrClear") net.no_exps) w.net)
        (subst (λ r. Agrees U K w AnyPlace (source.parts_of C (typed ty err_clear) w.src) r) (sym (clear_is S net_oracle is_open.support w.net)) both_clear);
  }
