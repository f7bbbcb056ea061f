-- What is written for expressions without an address leads to a value or to a call.
use Rattle.std.proofs.Common.{◌≡◌, refl, sym, ap, subst, ◌∙◌, pos, negsuc, ℕ, Bool, true, false, cond, ◌&&◌, ◌||◌, true≢false, List, [], ◌∷◌, Option, Some, None, codes}
use Rattle.vb_tree.specs.BoundTree as types
use Rattle.vb_tree.specs.BoundTree.{Ty}
use Rattle.vb_tree.specs.declared.bound.LibCall.{LibCall}
use Rattle.vb_tree.specs.declared.bound.LibCall.TheVariants as lib
use Rattle.vb_tree.specs.declared.expression.BinOp.{BinOp}
use Rattle.vb_tree.specs.declared.expression.BinOp.TheVariants as bin
use Rattle.vb_tree.specs.declared.expression.UnOp.{UnOp}
use Rattle.vb_tree.specs.declared.expression.UnOp.TheVariants as un6
use Rattle.vb_tree.specs.declared.value.Value6.{Value6}
use Rattle.vb_tree.specs.declared.value.Value6.TheVariants as v
use Rattle.bound_tree.specs.declared.expression.Origin.{Origin}
use Rattle.vb_tree.specs.declared.declared.ProcId.{ProcId}
use Rattle.bound_tree.specs.Tree.{Expr, Passed, typed, Term, constant, variable, field, element, call, library, unary, binary, convert, new_object, me, with_object, err_number, err_raise, err_clear, is_same, loose, Object, no_object, of_object, Exprs, no_exprs, next_expr}
use Rattle.bound_facts.specs.Folded.{converted_value}
use Rattle.bound_facts.specs.Node.{is_variant, type_at}
use Rattle.vb6_meaning.specs.Values.{coerce}
use Rattle.run_base.specs.Outcomes.{then}
use Rattle.vb6_run.specs.Expressions as source
use Rattle.vb6_run.specs.Expressions.{Context}
use Rattle.vb6_run.specs.Forms.{SourceLine}
use Rattle.vb6_run.specs.Store.{SourceCalls, SourceFrame}
use Rattle.net_run.specs.Lines.{NetFrame, NetLine, scope_of}
use Rattle.net_run.specs.Making.{Jobs}
use Rattle.net_run.specs.Members.{Code}
use Rattle.net_tree.specs.Tree as tree
use Rattle.net_tree.specs.Tree.{Exp, Exps}
use Rattle.net_tree.specs.declared.expression.NetBin.TheVariants as op
use Rattle.net_tree.specs.declared.expression.NetUn.TheVariants as un
use Rattle.net_run.specs.Names.{Scope, named, starts, support_name, to_library, to_procedure, to_support}
use Rattle.written_trees.specs.Arguments.{has_address, is_property, kept, kept_call, kept_if}
use Rattle.written_trees.specs.Conversions.{Conversion, applied, by_support, by_word, call_path, conversion, converted, cut, is_stands, literal_or, stands, support_call, text_object, writes_nothing}
use Rattle.written_trees.specs.Exprs.{exp_of, passed_of}
use Rattle.written_trees.specs.Library.{absolute_path, conversion_of, library_call}
use Rattle.written_trees.specs.Literals.{Piece, constant_exp, is_hexadecimal, is_whole, joined, literal_as, literal_of, piece_exp, pieces_of, spelt, takes_literals, text, written_constant}
use Rattle.written_trees.specs.Names as written_names
use Rattle.written_trees.specs.Names.{procedure_path, strings}
use Rattle.written_trees.specs.Operators.{binary_exp, checked, is_product_in_currency, is_text, operand, typed_operator, typed_unary, unary_exp, variant_operator, variant_unary}
use Rattle.row_laws.proofs.Support.{free_start}
use Rattle.run_matches.specs.CoveredVariables.{covers_type}
use Rattle.run_matches.specs.CoveredExprs.{Uses, covers_bounded, covers_expr, covers_group, covers_library, covers_passed, covers_receiver, covers_term, is_bound}
use Rattle.run_matches.specs.Formed.{is_formed, is_row_of_call, are_formed, types_of}
use Rattle.run_matches.specs.Maps.{World}
use Rattle.run_matches.specs.Match.{MemoryMatch}
use Rattle.run_matches.specs.Pledges.{Pledge}
use Rattle.run_matches.specs.Upgrades.{Upgrade}
use Rattle.run_statements.specs.Frames.{AllCalled, AllCalledOf, AreReadable, CanCall, IsOpen, context_of, demands}
use Rattle.run_statements.specs.Ways.{callee_by}
use Rattle.run_matches.specs.Runs.{CallsAgree}
use Rattle.run_statements.specs.Objects.{ClassesAreWritten}
use Rattle.run_statements.specs.Written.{Passes}
use Rattle.expression_laws.specs.Calls.{Stands}
use Rattle.expression_laws.proofs.Callees.{callee_is, way_of_procedure}
use Rattle.expression_laws.proofs.Handled.{Handles, as_call, as_seen, as_value, handles_map, is_valued}
use Rattle.expression_laws.proofs.Me.{me_class}
use Rattle.expression_laws.proofs.Nothings.{nothing_converted, nothing_exp}
use Rattle.expression_laws.proofs.KeptObjects.{receiver_is}
use Rattle.expression_laws.proofs.Receivers.{ReceiverIs, for_none, for_object}
use Rattle.expression_laws.proofs.Seen.{IsSeen, me_seen, object_call_seen, seen_within}
use Rattle.expression_laws.proofs.Types.{both_true}
use Rattle.expression_laws.proofs.Withs.{HavePlaces}

-- ---- constants

joined_valued : (e : Exp) (more : List Piece) → is_valued e ≡ true → is_valued (joined e more) ≡ true
joined_valued e [] h = h
joined_valued e (p ∷ more) h = joined_valued (tree.binary op.Concat e (piece_exp p)) more refl

constant_valued : (h : Bool) (x : Value6) → is_valued (constant_exp h x) ≡ true
constant_valued h (v.Boolean b) = refl
constant_valued h (v.Byte m) = refl
constant_valued h (v.Int z) = refl
constant_valued h (v.Long z) = refl
constant_valued h (v.Cur (pos m)) = refl
constant_valued h (v.Cur (negsuc m)) = refl
constant_valued h (v.Str units) = joined_valued (text (pieces_of units).first) (pieces_of units).more refl
constant_valued h v.Nothing = refl
constant_valued h (v.Object k) = refl
constant_valued h v.Empty = refl

module _ (S : Scope) (Q : Exp → Type 0) (opened : IsOpen S) where
  constant_handles : (x : Value6) (origin : Origin) → Handles S Q (written_constant x origin)
  constant_handles x origin = as_value (written_constant x origin) (constant_valued (is_hexadecimal origin) x)

  -- ---- calls

  support_handles : (name : List ℕ) (args : Exps) → Handles S Q (support_call name args)
  support_handles name args = as_call (to_support name) (written_names.support name) args (free_start S support_name name [] opened.support) tt

  text_handles : (name : List ℕ) (args : Exps) → Handles S Q (call_path (strings name) args)
  text_handles name args =
      as_call (to_library (strings name)) (strings name) args
      (free_start S (codes "Microsoft") (codes "VisualBasic") (codes "Strings" ∷ name ∷ []) opened.texts) tt

  absolute_handles : (args : Exps) → Handles S Q (call_path absolute_path args)
  absolute_handles args =
      as_call (to_library absolute_path) absolute_path args (free_start S (codes "System") (codes "Math") (codes "Abs" ∷ []) opened.math) tt

  -- ---- operators

  checked_handles : (ty : Ty) (e : Exp) → Handles S Q e → Handles S Q (checked ty e)
  checked_handles types.currency e h = support_handles (codes "Cur") _
  checked_handles _ e h = h

  variant_handles : (o : BinOp) (a c : Exp) → Handles S Q (variant_operator o a c)
  variant_handles bin.Add a c = support_handles (codes "VarAdd") _
  variant_handles bin.Sub a c = support_handles (codes "VarSub") _
  variant_handles bin.Mul a c = support_handles (codes "VarMul") _
  variant_handles bin.IntDiv a c = support_handles (codes "VarDiv") _
  variant_handles bin.Mod a c = support_handles (codes "VarMod") _
  variant_handles bin.And a c = support_handles (codes "VarAnd") _
  variant_handles bin.Or a c = support_handles (codes "VarOr") _
  variant_handles bin.Xor a c = support_handles (codes "VarXor") _
  variant_handles bin.Eqv a c = support_handles (codes "VarNot") _
  variant_handles bin.Imp a c = support_handles (codes "VarOr") _
  variant_handles _ a c = as_value _ refl

  sum_handles : (t : Bool) (ty : Ty) (a c : Exp) → Handles S Q (cond t (tree.binary op.Concat a c) (checked ty (tree.binary op.Add a c)))
  sum_handles true ty a c = as_value (tree.binary op.Concat a c) refl
  sum_handles false ty a c = checked_handles ty (tree.binary op.Add a c) (as_value (tree.binary op.Add a c) refl)

  typed_handles : (o : BinOp) (s ty : Ty) (a c : Exp) → Handles S Q (typed_operator o s ty a c)
  typed_handles bin.Add s ty a c = sum_handles (is_text s) ty a c
  typed_handles bin.Sub s ty a c = checked_handles ty (tree.binary op.Sub a c) (as_value (tree.binary op.Sub a c) refl)
  typed_handles bin.Mul s ty a c = checked_handles ty (tree.binary op.Mul a c) (as_value (tree.binary op.Mul a c) refl)
  typed_handles _ s ty a c = as_value _ refl

  binary_handles : (o : BinOp) (ty : Ty) (d e : Expr) (a c : Exp) → Handles S Q (binary_exp o ty d e a c)
  binary_handles o ty d e a c = by (is_variant (type_at d) || is_variant (type_at e))
    where
      p : Bool
      p = is_product_in_currency o ty

      by : (t : Bool) → Handles S Q (cond t (variant_operator o a c) (typed_operator o (type_at d) ty (operand p d a) (operand p e c)))
      by true = variant_handles o a c
      by false = typed_handles o (type_at d) ty (operand p d a) (operand p e c)

  typed_unary_handles : (o : UnOp) (ty : Ty) (a : Exp) → Handles S Q (typed_unary o ty a)
  typed_unary_handles un6.Neg ty a = checked_handles ty (tree.unary un.Neg a) (as_value (tree.unary un.Neg a) refl)
  typed_unary_handles un6.Not ty a = as_value (tree.unary un.Not a) refl

  variant_unary_handles : (o : UnOp) (a : Exp) → Handles S Q (variant_unary o a)
  variant_unary_handles un6.Neg a = support_handles (codes "VarNeg") _
  variant_unary_handles un6.Not a = support_handles (codes "VarNot") _

  unary_handles : (o : UnOp) (ty : Ty) (e : Expr) (a : Exp) → Handles S Q (unary_exp o ty e a)
  unary_handles o ty e a = by (is_variant (type_at e))
    where
      by : (t : Bool) → Handles S Q (cond t (variant_unary o a) (typed_unary o ty a))
      by true = variant_unary_handles o a
      by false = typed_unary_handles o ty a

  -- ---- conversions

  applied_handles : (c : Conversion) (a : Exp) → (is_stands c ≡ true → Handles S Q a) → Handles S Q (applied c a)
  applied_handles stands a h = h refl
  applied_handles (by_word w) a h = as_value (tree.cast w a) refl
  applied_handles (by_support name) a h = support_handles name _
  applied_handles text_object a h = as_value _ refl
  applied_handles (cut c units) a h = support_handles (codes "Fix") _

  spelt_handles : (origin : Origin) (o : Option Value6) (a : Exp) → Handles S Q a → Handles S Q (literal_or (spelt origin o) a)
  spelt_handles origin None a h = h
  spelt_handles origin (Some x) a h = constant_handles x origin

  term_handles : (to : Ty) (t : Term) (a : Exp) → Handles S Q a → Handles S Q (literal_or (literal_of to t) a)
  term_handles to (constant x origin) a h = spelt_handles origin (converted_value to (Some x)) a h
  term_handles to _ a h = h

  literal_handles : (to from : Ty) (t : Term) (a : Exp) → Handles S Q a → Handles S Q (literal_or (literal_as to (typed from t)) a)
  literal_handles to from t a h = by (takes_literals to && is_whole from)
    where
      by : (b : Bool) → Handles S Q (literal_or (cond b (literal_of to t) None) a)
      by true = term_handles to t a h
      by false = h

  -- what is written where nothing is
  converted_handles : (to : Ty) (e : Expr) (a : Exp) → (writes_nothing (type_at e) to ≡ true → Handles S Q a) → Handles S Q (converted to e a)
  converted_handles to (typed from t) a h =
      literal_handles to from t (applied (conversion from to) a) (applied_handles (conversion from to) a h)

  -- ---- the library

  call_handles : (T : written_names.Scope) (f : LibCall) (ty : Ty) (e : Expr) (rest : Exprs) (a : Exp) (args : Exps)
      → ((to : Ty) → conversion_of f ≡ Some to → Handles S Q (converted to e a)) → Handles S Q (library_call T f ty e rest a args)
  call_handles T lib.Len ty e rest a args h = text_handles (codes "Len") args
  call_handles T lib.Left ty e rest a args h = text_handles (codes "Left") args
  call_handles T lib.Right ty e rest a args h = text_handles (codes "Right") args
  call_handles T lib.Mid ty e rest a args h = text_handles (codes "Mid") args
  call_handles T lib.Trim ty e rest a args h = text_handles (codes "Trim") args
  call_handles T lib.LTrim ty e rest a args h = text_handles (codes "LTrim") args
  call_handles T lib.RTrim ty e rest a args h = text_handles (codes "RTrim") args
  call_handles T lib.UCase ty e rest a args h = text_handles (codes "UCase") args
  call_handles T lib.LCase ty e rest a args h = text_handles (codes "LCase") args
  call_handles T lib.Space ty e rest a args h = text_handles (codes "Space") args
  call_handles T lib.Chr ty e rest a args h = as_value _ refl
  call_handles T lib.Asc ty e rest a args h = as_value _ refl
  call_handles T lib.InStr ty e rest a args h = text_handles (codes "InStr") args
  call_handles T lib.Abs ty e rest a args h = checked_handles ty (call_path absolute_path args) (absolute_handles args)
  call_handles T lib.CBool ty e rest a args h = h types.boolean refl
  call_handles T lib.CByte ty e rest a args h = h types.byte refl
  call_handles T lib.CInt ty e rest a args h = h types.integer refl
  call_handles T lib.CLng ty e rest a args h = h types.long refl
  call_handles T lib.CCur ty e rest a args h = h types.currency refl
  call_handles T lib.CStr ty e rest a args h = h types.str refl
  call_handles T lib.IsEmpty ty e rest a args h = as_value _ refl
  call_handles T lib.UBound ty e rest a args h = support_handles (codes "Hi") _
  call_handles T lib.LBound ty e rest a args h = support_handles (codes "Lo") _
  call_handles T lib.MsgBox ty e rest a args h = support_handles (codes "Box") args
  call_handles T lib.InputBox ty e rest a args h = support_handles (codes "Ask") args

-- a conversion takes one argument
one_alone : (f : LibCall) (to s t : Ty) (ts : List Ty) (ty : Ty) → conversion_of f ≡ Some to → is_row_of_call f (s ∷ t ∷ ts) ty ≡ true → ⊥
one_alone lib.CBool to s t ts ty e h = true≢false (sym h)
one_alone lib.CByte to s t ts ty e h = true≢false (sym h)
one_alone lib.CInt to s t ts ty e h = true≢false (sym h)
one_alone lib.CLng to s t ts ty e h = true≢false (sym h)
one_alone lib.CCur to s t ts ty e h = true≢false (sym h)
one_alone lib.CStr to s t ts ty e h = true≢false (sym h)
one_alone _ to s t ts ty e h = absurd (cc e)

-- and asks for no bound
converts_values : (f : LibCall) (to : Ty) (a b : Bool) → conversion_of f ≡ Some to → (a || (is_bound f && b)) ≡ true → a ≡ true
converts_values f to true b e h = refl
converts_values lib.CBool to false b e h = h
converts_values lib.CByte to false b e h = h
converts_values lib.CInt to false b e h = h
converts_values lib.CLng to false b e h = h
converts_values lib.CCur to false b e h = h
converts_values lib.CStr to false b e h = h
converts_values _ to false b e h = absurd (cc e)

-- ---- expressions

module _ (U : Upgrade) (K : Pledge) (p : ℕ) (f : SourceFrame) (g : NetFrame) (oracle : SourceCalls) (net_oracle : Jobs) (l : SourceLine) (k : NetLine)
    (c : Code) (T : written_names.Scope) (uses : Uses) (same_declarations : T.declarations ≡ U.program.declarations)
    (opened : IsOpen (scope_of U.written c g k)) (readable : AreReadable U T uses) (w : World) (start : MemoryMatch U w)
    (have : HavePlaces U p f g oracle net_oracle l k c T uses K w) (agree : CallsAgree U (Passes U) oracle net_oracle) (classes : ClassesAreWritten U)
    (stands : Stands U K w p f g) where
  abbrev C : Context
  C = context_of U oracle p f l

  abbrev S : Scope
  S = scope_of U.written c g k

  abbrev NoAddress : Expr → Type 0
  NoAddress e = has_address U.program.declarations (kept e) ≡ false

  abbrev Seen : Expr → Exp → Type 0
  Seen e a = IsSeen C S net_oracle w e a

  abbrev Written : Expr → Type 0
  Written e = Handles S (Seen e) (exp_of T e)

  -- what stands behind a conversion that writes nothing has no address either
  behind : (b : Bool) (whole e : Expr) → b ≡ true → has_address U.program.declarations (kept_if b whole (kept e)) ≡ false → NoAddress e
  behind b whole e is h = subst (λ c. has_address U.program.declarations (kept_if c whole (kept e)) ≡ false) is h

  -- a call of what is no property
  called_handles : (ty : Ty) (q : ProcId) (qualified : Bool) (of : Object) (args : Passed) → CanCall U K S T p q.0 qualified of args
      → is_property U.program.declarations q.0 ≡ false → ReceiverIs U K C S net_oracle T w of → Written (typed ty (call q qualified of args))
  called_handles ty q qualified _ args can none for_none =
      let e : Expr = typed ty (call q qualified no_object args) in
      let plain : is_property T.declarations q.0 ≡ false = ap (λ D. is_property D q.0) same_declarations ∙ none in
      subst (λ a. Handles S (Seen e) a) (sym (callee_is T ty q qualified no_object args plain))
      (as_call (to_procedure None can.number) (procedure_path T qualified q.0) (passed_of T q.0 0 args)
      (can.found ∙ ap (λ y. starts (named (callee_by y None can.number)) []) (way_of_procedure U S T q.0 qualified no_object args can.way can.is_way none))
      tt)
  called_handles ty q qualified _ args can none (for_object d t object) =
      let e : Expr = typed ty (call q qualified (of_object (typed (types.class d) t)) args) in
      as_seen (exp_of T e)
      (object_call_seen U C S net_oracle w K T p ty q qualified d t args can none (ap (λ D. is_property D q.0) same_declarations ∙ none) object)

  receiver : (of : Object) → AllCalledOf (demands U K p l k S T) of → covers_receiver uses of ≡ true → ReceiverIs U K C S net_oracle T w of
  receiver = receiver_is U K p f g oracle net_oracle l k c T uses same_declarations readable w start have opened agree classes stands

  receiver_covered : (q : ProcId) (of : Object) (args : Passed) → (uses.gives q.0 && (covers_receiver uses of && covers_passed uses args)) ≡ true
      → covers_receiver uses of ≡ true
  receiver_covered q of args h =
      (both_true (covers_receiver uses of) (covers_passed uses args) (both_true (uses.gives q.0) (covers_receiver uses of && covers_passed uses args) h).1).0

  -- what is given as a user type or an object, where it is no place
  pub group_handles : (e : Expr) → AllCalled (demands U K p l k (scope_of U.written c g k) T) e → covers_group uses e ≡ true
      → has_address U.program.declarations (kept e) ≡ false
      → Handles (scope_of U.written c g k) (IsSeen (context_of U oracle p f l) (scope_of U.written c g k) net_oracle w e) (exp_of T e)
  group_handles (typed ty (variable v qualified)) can covers none = absurd (true≢false none)
  group_handles (typed ty (field e k)) can covers none = absurd (true≢false none)
  group_handles (typed ty (call q qualified of args)) can covers none =
      called_handles ty q qualified of args can.0 none
      (receiver of can.2 (receiver_covered q of args (both_true (uses.given ty) (uses.gives q.0 && (covers_receiver uses of && covers_passed uses args)) covers).1))
  group_handles (typed ty (convert to e)) can covers none =
      subst (λ a. Handles S (Seen (typed ty (convert to e))) a) (sym (nothing_exp T ty to e (nothing_converted (uses.given ty) ty to e covers)))
      (as_value tree.nothing refl)
  group_handles (typed ty (new_object c)) can covers none = as_value (exp_of T (typed ty (new_object c))) refl
  group_handles (typed ty me) can covers none =
      let x = me_class uses.me ty covers in
      as_seen tree.me (me_seen U C S net_oracle w f ty x.0 (have.me x.0 x.2))
  group_handles (typed ty _) can covers none = absurd (true≢false (sym covers))

  pub exp_handles : (e : Expr) → AllCalled (demands U K p l k (scope_of U.written c g k) T) e → covers_expr uses e ≡ true → is_formed e ≡ true
      → has_address U.program.declarations (kept e) ≡ false
      → Handles (scope_of U.written c g k) (IsSeen (context_of U oracle p f l) (scope_of U.written c g k) net_oracle w e) (exp_of T e)
  exp_handles (typed ty (constant x origin)) can covers formed none = constant_handles S (Seen (typed ty (constant x origin))) opened x origin
  exp_handles (typed ty (variable v qualified)) can covers formed none = absurd (true≢false none)
  exp_handles (typed ty (field e k)) can covers formed none = absurd (true≢false none)
  exp_handles (typed ty (element e indexes)) can covers formed none = absurd (true≢false none)
  exp_handles (typed ty (call q qualified of args)) can covers formed none =
      called_handles ty q qualified of args can.0 none
      (receiver of can.2 (receiver_covered q of args (both_true (covers_type ty) (uses.gives q.0 && (covers_receiver uses of && covers_passed uses args)) covers).1))
  exp_handles (typed ty (library f no_exprs)) can covers formed none = as_value tree.nothing refl
  exp_handles (typed ty (library f (next_expr e no_exprs))) can covers formed none =
      let whole : Expr = typed ty (library f (next_expr e no_exprs)) in
      let values : (to : Ty) → conversion_of f ≡ Some to → covers_expr uses e ≡ true = λ to is.
      (both_true (covers_expr uses e) true (both_true (covers_library f) (covers_expr uses e && true)
      (converts_values f to (covers_library f && (covers_expr uses e && true)) (covers_bounded uses (next_expr e no_exprs)) is
      (both_true (covers_type ty) (covers_term uses (library f (next_expr e no_exprs))) covers).1)).1).0 in
      let forms = both_true (is_formed e) true (both_true (is_row_of_call f (type_at e ∷ []) ty) (is_formed e && true) formed).1 in
      call_handles S (Seen whole) opened T f ty e no_exprs (exp_of T e) _ (λ to is.
      converted_handles S (Seen whole) opened to e (exp_of T e) (λ nothing.
      handles_map S (Seen e) (Seen whole)
      (seen_within C S net_oracle w e whole (λ o left.
      ap (λ z. then (then z (source.library_parts C ty f e no_exprs (λ s. source.values_of C no_exprs s)))
      (source.as_new C (library f (next_expr e no_exprs)))) left)) (exp_of T e)
      (exp_handles e can.1.0 (values to is) forms.0
      (behind (writes_nothing (type_at e) to) whole e nothing
      (subst (λ o. has_address U.program.declarations (kept_call ty f o (next_expr e no_exprs)) ≡ false) is none)))))
  exp_handles (typed ty (library f (next_expr e (next_expr d rest)))) can covers formed none =
      let ts : List Ty = type_at e ∷ type_at d ∷ types_of rest in
      let forms = both_true (is_row_of_call f ts ty) (is_formed e && (is_formed d && are_formed rest)) formed in
      call_handles S (Seen (typed ty (library f (next_expr e (next_expr d rest))))) opened T f ty e (next_expr d rest) (exp_of T e) _
      (λ to is. absurd (one_alone f to (type_at e) (type_at d) (types_of rest) ty is forms.0))
  exp_handles (typed ty (unary o e)) can covers formed none = unary_handles S (Seen (typed ty (unary o e))) opened o ty e (exp_of T e)
  exp_handles (typed ty (binary o d e)) can covers formed none =
      binary_handles S (Seen (typed ty (binary o d e))) opened o ty d e (exp_of T d) (exp_of T e)
  exp_handles (typed ty (convert to e)) can covers formed none =
      let whole : Expr = typed ty (convert to e) in
      let inner = both_true (covers_type to) (covers_expr uses e) (both_true (covers_type ty) (covers_type to && covers_expr uses e) covers).1 in
      let forms = both_true _ (is_formed e) formed in
      converted_handles S (Seen whole) opened to e (exp_of T e) (λ nothing.
      handles_map S (Seen e) (Seen whole)
      (seen_within C S net_oracle w e whole (λ o left.
      ap (λ z. then (then (then z (source.scalar_in C e)) (λ x s. source.answer_as to (coerce x to) s)) (source.as_new C (convert to e))) left)) (exp_of T e)
      (exp_handles e can inner.1 forms.1 (behind (writes_nothing (type_at e) to) whole e nothing none)))
  exp_handles (typed ty (new_object c)) can covers formed none = absurd (true≢false (sym (both_true (covers_type ty) false covers).1))
  exp_handles (typed ty me) can covers formed none = absurd (true≢false (sym (both_true (covers_type ty) false covers).1))
  exp_handles (typed ty (with_object root)) can covers formed none = absurd (true≢false (sym formed))
  exp_handles (typed ty err_number) can covers formed none =
      support_handles S (Seen (typed ty err_number)) opened (codes "ErrNumber") tree.no_exps
  exp_handles (typed ty (err_raise e)) can covers formed none = absurd (true≢false (sym (both_true (covers_type ty) false covers).1))
  exp_handles (typed ty err_clear) can covers formed none = absurd (true≢false (sym (both_true (covers_type ty) false covers).1))
  exp_handles (typed ty (is_same d e)) can covers formed none = as_value (tree.binary op.Is (exp_of T d) (exp_of T e)) refl
  exp_handles (typed ty (loose e rules)) can covers formed none = absurd (true≢false (sym formed))
