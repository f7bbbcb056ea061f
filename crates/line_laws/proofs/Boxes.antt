-- A MsgBox shows the same as what is written for it.
use Rattle.std.proofs.Common.{◌≡◌, ◌∙◌, refl, sym, ap, subst, ℕ, Bool, true, false, ◌&&◌, ◌||◌, true≢false, codes, List, [], ◌∷◌}
use Rattle.vb_tree.specs.BoundTree as types
use Rattle.vb_tree.specs.BoundTree.{Ty}
use Rattle.vb_tree.specs.declared.bound.LibCall.{LibCall}
use Rattle.vb_tree.specs.declared.bound.LibCall.TheVariants as lib
use Rattle.vb_tree.specs.declared.value.Value6.{Value6}
use Rattle.bound_tree.specs.Tree.{Expr, typed, Term, library, no_exprs, next_expr, Exprs}
use Rattle.bound_facts.proofs.Chains.{both_true}
use Rattle.bound_facts.specs.Locks.{is_same_type}
use Rattle.bound_facts.specs.Node.{type_at}
use Rattle.net_tree.specs.Tree as net
use Rattle.net_meaning.specs.ValueMatch.{texts, empty_text}
use Rattle.run_base.specs.Outcomes.{boxed, Outcome, gives, then}
use Rattle.written_trees.specs.Conversions.{one, support_call}
use Rattle.written_trees.specs.Exprs.{exp_of}
use Rattle.written_trees.specs.Lines.{as_call}
use Rattle.written_trees.specs.Names.{Scope, support}
use Rattle.vb6_run.specs.Expressions as source
use Rattle.vb6_run.specs.Expressions.{Parts, boxed_text, scalar_of, value_in}
use Rattle.vb6_run.specs.Forms.{SourceLine}
use Rattle.vb6_run.specs.Store.{Memory, SourceCalls, SourceFrame}
use Rattle.vb6_run.specs.Values.{Value, scalar}
use Rattle.net_run.specs.Expressions as target
use Rattle.net_run.specs.Lines.{NetFrame, NetLine, scope_of}
use Rattle.net_run.specs.Making.{Jobs}
use Rattle.net_run.specs.Members.{Code}
use Rattle.net_run.specs.Names as net_names
use Rattle.net_run.specs.Store as net_store
use Rattle.net_run.specs.Store.{nowhere}
use Rattle.net_run.specs.Values as net_value
use Rattle.row_laws.specs.Items.{text_in}
use Rattle.row_laws.proofs.Composing.{then_assoc, then_gives}
use Rattle.row_laws.proofs.Stated.{box_is_put}
use Rattle.run_matches.specs.Upgrades.{Upgrade}
use Rattle.run_matches.specs.Maps.{World}
use Rattle.run_matches.specs.Likeness.{LikeV, like_scalar}
use Rattle.run_matches.specs.Match.{MemoryMatch}
use Rattle.run_matches.specs.Pledges.{Pledge}
use Rattle.run_matches.specs.Agreeing.{Agrees}
use Rattle.run_matches.specs.CoveredExprs.{Uses, covers_expr, covers_exprs, covers_term}
use Rattle.run_matches.specs.CoveredLines.{covers_box, is_box}
use Rattle.run_matches.specs.Formed.{is_call, types_of, is_formed, are_formed}
use Rattle.run_matches.specs.Frames.{FrameMatch}
use Rattle.run_statements.specs.Frames.{ArePlaced, ExpressionsAgree, IsOpen, ScalarMatch, context_of, AllCalled, AllCalledAll, AllCalledIn, demands, AreReadable}
use Rattle.run_statements.specs.Written.{Passes}
use Rattle.run_matches.specs.Runs.{CallsAgree}
use Rattle.agreeing_laws.proofs.Agreeing.{agrees_gives, left_alone, then_agrees}
use Rattle.agreeing_laws.proofs.Lasting.{later_now}

-- a call as a line gives nothing
abbrev pub AnyShown : World → Parts → Unit {0} → Type 0
AnyShown w p u = Unit {0}

abbrev AnyPlace : World → Parts → net_store.Address → Type 0
AnyPlace w p a = Unit {0}

-- what is written for a call as a line, whose value is let go of
pub record AgreesAsCall (U : Upgrade) (K : Pledge) (w : World) (S : net_names.Scope) (oracle : Jobs) (r : Outcome Memory Parts) (e : net.Exp) : Type 0 where
  pub callee : net.Exp
  pub args : net.Exps
  pub is : as_call e ≡ net.call callee args
  pub agrees : Agrees U K w AnyShown r (then (target.address_of S oracle (net.call_of callee args) w.net) (λ a t. gives [] tt t))

-- a text is of type String
is_text : (ty : Ty) → is_same_type ty types.str ≡ true → ty ≡ types.str
is_text types.str h = refl
is_text _ h = absurd (true≢false (sym h))

abbrev puts : List ℕ → net_store.Memory → Outcome net_store.Memory net_store.Address
puts units t = gives (boxed units ∷ []) nowhere t

module _ (U : Upgrade) (K : Pledge) (w : World) (h : MemoryMatch U w) where
  -- the text of the box
  shown : (z : Value6) (y : net_value.Value) → LikeV U w (scalar types.str z) y
      → Agrees U K w AnyPlace (boxed_text z w.src) (then (text_in y w.net) puts)
  shown _ _ (like_scalar _ _ _ (texts units)) = (refl, w.map, tt, later_now U K w h)
  shown _ _ (like_scalar _ _ _ empty_text) = (refl, w.map, tt, later_now U K w h)

  shown_at : (ty : Ty) (x : Value) (y : net_value.Value) → ty ≡ types.str → ScalarMatch U ty w x y
      → Agrees U K w AnyPlace (then (scalar_of x w.src) boxed_text) (then (text_in y w.net) puts)
  shown_at ty x y is m =
      subst (λ a. Agrees U K w AnyPlace (then (scalar_of a w.src) boxed_text) (then (text_in y w.net) puts)) (sym m.1)
      (left_alone U K w AnyPlace (boxed_text m.0 w.src) (then (text_in y w.net) puts) (shown m.0 y (subst (λ t. LikeV U w (scalar t m.0) y) is m.2)))

module _ (U : Upgrade) (expressions : ExpressionsAgree U) (K : Pledge) (p : ℕ) (f : SourceFrame) (g : NetFrame) (l : SourceLine) (k : NetLine) (c : Code) (T : Scope)
    (declared : T.declarations ≡ U.program.declarations) (oracle : SourceCalls) (net_oracle : Jobs) (is_open : IsOpen (scope_of U.written c g k)) (uses : Uses)
    (readable : AreReadable U T uses) (placed : ArePlaced U p f (scope_of U.written c g k) T uses) (agree : CallsAgree U (Passes U) oracle net_oracle)
    (w : World) (h : MemoryMatch U w) (F : FrameMatch U K w p f g) where
  abbrev C : source.Context
  C = context_of U oracle p f l

  abbrev S : net_names.Scope
  S = scope_of U.written c g k

  abbrev Can : Expr → Type 0
  Can e = AllCalled (demands U K p l k S T) e

  text_agrees : (e : Expr) → Can e → covers_expr uses e ≡ true → is_formed e ≡ true → type_at e ≡ types.str
      → Agrees U K w AnyPlace (then (source.scalar_value C e w.src) boxed_text) (target.address_of S net_oracle (support_call (codes "Box") (one (exp_of T e))) w.net)
  text_agrees e can covers formed is =
      subst (λ r. Agrees U K w AnyPlace r (target.address_of S net_oracle (support_call (codes "Box") (one (exp_of T e))) w.net))
      (sym (ap (λ r. then r boxed_text) (sym (then_assoc (source.parts_of C e w.src) (value_in C e) scalar_of))
      ∙ then_assoc (source.value_of C e w.src) scalar_of boxed_text))
      (subst (λ r. Agrees U K w AnyPlace (then (source.value_of C e w.src) (λ x s. then (scalar_of x s) boxed_text)) r)
      (sym (box_is_put S net_oracle is_open.support (exp_of T e) w.net ∙ then_assoc (target.value_of S net_oracle (exp_of T e) w.net) text_in puts))
      (then_agrees U K w (ScalarMatch U (type_at e)) AnyPlace (source.value_of C e w.src) (target.value_of S net_oracle (exp_of T e) w.net)
      (λ x s. then (scalar_of x s) boxed_text) (λ y t. then (text_in y t) puts) h
      (expressions K w p f g oracle net_oracle l k c T uses e h F declared is_open readable placed agree can covers formed)
      (λ x y w1 m later. shown_at U K w1 later.match (type_at e) x y is m)))

  -- the address that is put there is let go of
  let_go : (r : Outcome Memory Parts) (r' : Outcome net_store.Memory net_store.Address) → Agrees U K w AnyPlace r r'
      → Agrees U K w AnyShown r (then r' (λ a t. gives [] tt t))
  let_go r r' x =
      subst (λ z. Agrees U K w AnyShown z (then r' (λ a t. gives [] tt t))) (then_gives r)
      (then_agrees U K w AnyPlace AnyShown r r' (λ u s. gives [] u s) (λ a t. gives [] tt t) h x
      (λ u a w1 m later. agrees_gives U K w1 AnyShown u tt later.match tt))

  box_shows : (ty : Ty) (args : Exprs) → AllCalledAll (demands U K p l k S T) args → covers_exprs uses args ≡ true → is_call (types.str ∷ []) types.nothing (types_of args) ty ≡ true → are_formed args ≡ true
      → AgreesAsCall U K w S net_oracle (source.parts_of C (typed ty (library lib.MsgBox args)) w.src) (exp_of T (typed ty (library lib.MsgBox args)))
  box_shows ty no_exprs can covers call formed = absurd (true≢false (sym (both_true (is_same_type types.nothing ty) false call).1))
  box_shows ty (next_expr e (next_expr d rest)) can covers call formed =
      let both = both_true (is_same_type types.nothing ty) (is_same_type (type_at e) types.str && false) call in
      absurd (true≢false (sym (both_true (is_same_type (type_at e) types.str) false both.1).1))
  box_shows ty (next_expr e no_exprs) can covers call formed =
      let both = both_true (is_same_type types.nothing ty) (is_same_type (type_at e) types.str && true) call in
      let is : type_at e ≡ types.str = is_text (type_at e) (both_true (is_same_type (type_at e) types.str) true both.1).0 in
      record {
        callee = net.path (support (codes "Box"));
        args = one (exp_of T e);
        is = refl;
        agrees =
            let_go (source.parts_of C (typed ty (library lib.MsgBox (next_expr e no_exprs))) w.src)
            (target.address_of S net_oracle (support_call (codes "Box") (one (exp_of T e))) w.net)
            (subst (λ r. Agrees U K w AnyPlace r (target.address_of S net_oracle (support_call (codes "Box") (one (exp_of T e))) w.net))
            (then_assoc (source.parts_of C e w.src) (source.scalar_in C e) boxed_text
            ∙ sym (then_gives (source.library_call C ty lib.MsgBox (next_expr e no_exprs) w.src)))
            (text_agrees e can.0 (both_true (covers_expr uses e) true covers).0 (both_true (is_formed e) true formed).0 is));
      }

  first_or : (b : Bool) → (b || false) ≡ true → b ≡ true
  first_or true h = refl
  first_or false h = h

  shows : (ty : Ty) (function : LibCall) (args : Exprs) → AllCalledAll (demands U K p l k S T) args → is_box function ≡ true
      → covers_term uses (library function args) ≡ true
      → is_formed (typed ty (library function args)) ≡ true
      → AgreesAsCall U K w S net_oracle (source.parts_of C (typed ty (library function args)) w.src) (exp_of T (typed ty (library function args)))
  shows ty lib.MsgBox args can box covers formed =
      let both = both_true (is_call (types.str ∷ []) types.nothing (types_of args) ty) (are_formed args) formed in
      box_shows ty args can (first_or (covers_exprs uses args) covers) both.0 both.1
  shows ty _ args can box covers formed = absurd (true≢false (sym box))

  pub box_agrees : (ty : Ty) (t : Term) → AllCalledIn (demands U K p l k S T) ty t → covers_box uses t ≡ true → is_formed (typed ty t) ≡ true
      → AgreesAsCall U K w S net_oracle (source.parts_of C (typed ty t) w.src) (exp_of T (typed ty t))
  box_agrees ty (library function args) can covers formed =
      let both = both_true (is_box function) (covers_term uses (library function args)) covers in
      shows ty function args can.1 both.0 both.1 formed
  box_agrees ty _ can covers formed = absurd (true≢false (sym covers))
