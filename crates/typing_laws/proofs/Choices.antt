-- Select Case and its cases: comparisons of values of one type.
use Rattle.std.proofs.Common.{◌≡◌, refl, sym, ap, ◌∙◌, subst, ℕ, Bool, true, false, ◌&&◌, true≢false, List, [], ◌∷◌, Option, Some, None}
use Rattle.std.specs.Prelude.{slice_get}
use Rattle.std.specs.List.{list_all}
use Rattle.std.specs.declared.cmp.Ordering.{Ordering}
use Rattle.std.specs.Ordering.{is_eq, is_ne, is_lt, is_gt, is_le, is_ge}
use Rattle.up_base.proofs.Lists.{all_first, all_rest}
use Rattle.up_base.proofs.Tests.{both_true}
use Rattle.vb_tree.specs.BoundTree.{Ty}
use Rattle.vb_tree.specs.declared.expression.BinOp.{BinOp}
use Rattle.vb_tree.specs.declared.expression.BinOp.TheVariants as b
use Rattle.vb_tree.specs.declared.value.Value6.{Value6}
use Rattle.vb_tree.specs.declared.value.Value6.TheVariants as v
use Rattle.vb_tree.specs.Tree.{CaseItem, Exp, Form, case_value, case_range, case_is}
use Rattle.vb_tree.specs.Tree as source
use Rattle.vb6_meaning.specs.Answers as answer
use Rattle.vb6_meaning.specs.Values.{order, typed as typed_row}
use Rattle.bound_tree.specs.declared.body.Mention.{Mention}
use Rattle.bound_tree.specs.Tree.{Declarations, Program, Expr}
use Rattle.bound_tree.specs.Tree as tree
use Rattle.bound_facts.specs.Locks.{is_same_type}
use Rattle.bound_facts.specs.Node.{type_at}
use Rattle.row_laws.proofs.Composing.{then_assoc}
use Rattle.run_base.specs.Frames.{Kept, keeps_nothing, keeps_limit, keeps_value, keeps_address}
use Rattle.run_base.specs.Machines.{nth_line}
use Rattle.run_base.specs.Outcomes.{Output, gives, after, then, answered, some_of}
use Rattle.vb6_run.specs.Expressions.{Context, declared, scalar_value, value_of}
use Rattle.vb6_run.specs.Lines.{and_later, case_of, chosen, fits, item_fits, keeps_at, or_later, some_fits, truth_of}
use Rattle.vb6_run.specs.Store.{Address, Memory}
use Rattle.vb6_run.specs.Values.{Value}
use Rattle.run_matches.specs.CoveredExprs.{Uses, covers_expr}
use Rattle.run_matches.specs.CoveredLines.{chooses_among, covers_items, covers_line, covers_part, head_line, is_comparison}
use Rattle.typing_laws.specs.Flat.{flat_uses}
use Rattle.typing_laws.specs.Calls.{CallsKeep, Each, IsAimed, SourceJob}
use Rattle.typing_laws.specs.Frames.{IsChoice, choice_of, numbered}
use Rattle.typing_laws.specs.Leaving.{Leaves, CaseLeaves, LineLeaves, in_value, behind_value, in_lower, in_upper, below_range, above_range, in_comparison, behind_comparison, case_unkept, in_case, in_choice}
use Rattle.typing_laws.specs.Plain.{IsValue}
use Rattle.typing_laws.proofs.Ends.{Ends, ends_after, ends_weaker, keeps_self, then_ends}
use Rattle.typing_laws.proofs.Expressions.{IsScalarOf, IsTyped}
use Rattle.typing_laws.proofs.Lines.{Good, IsFine, IsIn, KeepsAt, fine_ends, fine_scalar, fine_type, goes_by, in_later, leads, never_nowhere}
use Rattle.typing_laws.proofs.Places.{not_none, some_is}
use Rattle.typing_laws.proofs.Plain.{Plain, a_boolean, a_byte, an_integer, a_long, a_currency, a_text, same_as}
use Rattle.typing_laws.specs.Frames.{Footprint, Ground, ground}

-- ---- comparisons

abbrev pub IsOrdered : Value6 → Value6 → Type 0
IsOrdered x y = (r : Ordering) × (order x y ≡ answer.gives r)

pub ordered : (ty : Ty) (x y : Value6) → Plain ty x → Plain ty y → IsOrdered x y
ordered _ _ _ (a_boolean true) (a_boolean true) = (_, refl)
ordered _ _ _ (a_boolean true) (a_boolean false) = (_, refl)
ordered _ _ _ (a_boolean false) (a_boolean true) = (_, refl)
ordered _ _ _ (a_boolean false) (a_boolean false) = (_, refl)
ordered _ _ _ (a_byte m h) (a_byte n i) = (_, refl)
ordered _ _ _ (an_integer m h) (an_integer n i) = (_, refl)
ordered _ _ _ (a_long m h) (a_long n i) = (_, refl)
ordered _ _ _ (a_currency m h) (a_currency n i) = (_, refl)
ordered _ _ _ (a_text m) (a_text n) = (_, refl)

abbrev pub IsTest : BinOp → Value6 → Value6 → Type 0
IsTest op x y = (t : Bool) × (typed_row op x y ≡ answer.gives (v.Boolean t))

pub compared : (op : BinOp) (x y : Value6) → is_comparison op ≡ true → IsOrdered x y → IsTest op x y
compared b.Equal x y c r = (_, ap (λ o. answer.then_answer o (λ o. answer.gives (v.Boolean (is_eq o)))) r.1)
compared b.NotEqual x y c r = (_, ap (λ o. answer.then_answer o (λ o. answer.gives (v.Boolean (is_ne o)))) r.1)
compared b.Less x y c r = (_, ap (λ o. answer.then_answer o (λ o. answer.gives (v.Boolean (is_lt o)))) r.1)
compared b.Greater x y c r = (_, ap (λ o. answer.then_answer o (λ o. answer.gives (v.Boolean (is_gt o)))) r.1)
compared b.LessEqual x y c r = (_, ap (λ o. answer.then_answer o (λ o. answer.gives (v.Boolean (is_le o)))) r.1)
compared b.GreaterEqual x y c r = (_, ap (λ o. answer.then_answer o (λ o. answer.gives (v.Boolean (is_ge o)))) r.1)
compared _ x y c r = absurd (true≢false (sym c))

module _ (C : Context) (F : Footprint) (X : SourceJob → Memory → Type 0) (calls : CallsKeep C F X) (mentions : List Mention) where
  abbrev D : Declarations
  D = declared C

  abbrev K : Ground
  K = ground (declared C) F

  abbrev Fine : Expr → Type 0
  Fine e = IsFine C F X calls mentions e

  abbrev AnyTruth : Memory → Bool → Type 0
  AnyTruth w t = Unit {0}

  -- one comparison of a choice with an item of its type
  item_ends : (ty : Ty) (x : Value6) → Plain ty x → (op : BinOp) → is_comparison op ≡ true → (w : Memory) → IsIn C F w → (e : Expr) → Fine e → type_at e ≡ ty
      → Ends K AnyTruth (Leaves C X e w) w (item_fits C op x e w)
  item_ends ty x p op c w h e f same =
      then_ends K (IsScalarOf (type_at e)) AnyTruth (Leaves C X e w) w (scalar_value C e w) (fits op x) (fine_scalar C F X calls mentions e f w h)
      (λ o y v one k q.
      let t : IsTest op x y = compared op x y c (ordered ty x y p (subst (λ s. Plain s y) same q)) in
      subst (λ a. Ends K AnyTruth (Leaves C X e w) v (then (answered a v) truth_of)) (sym t.1) (keeps_self K v, tt))

  abbrev uses : Uses
  uses = flat_uses C.runnable.program C.procedure mentions

  module _ (ty : Ty) (x : Value6) (p : Plain ty x) where
    abbrev SameTypes : List Expr → Type 0
    SameTypes es = Each (λ (e : Expr). type_at e ≡ ty) es

    -- behind an item that fits or not
    later_ends : (items : List CaseItem) (es : List Expr) (E : Type 0) (w : Memory) (t : Bool) → (t ≡ false → Ends K AnyTruth E w (some_fits C x items es w))
        → Ends K AnyTruth E w (or_later t (some_fits C x items es) w)
    later_ends items es E w true h = (keeps_self K w, tt)
    later_ends items es E w false h = h refl

    -- a range is taken apart at its lower bound
    range_then : (d e : Expr) (items : List CaseItem) (es : List Expr) (w : Memory)
        → then (then (item_fits C b.GreaterEqual x d w) (λ t w. and_later t (item_fits C b.LessEqual x e) w)) (λ t w. or_later t (some_fits C x items es) w)
        ≡ then (item_fits C b.GreaterEqual x d w) (λ s w. then (and_later s (item_fits C b.LessEqual x e) w) (λ t w. or_later t (some_fits C x items es) w))
    range_then d e items es w =
        then_assoc (item_fits C b.GreaterEqual x d w) (λ t w. and_later t (item_fits C b.LessEqual x e) w) (λ t w. or_later t (some_fits C x items es) w)

    -- a range whose lower bound was compared
    lower_ends : (y z : Exp) (items : List CaseItem) (d e : Expr) (es : List Expr) (w v : Memory) (o : List Output) (s : Bool)
        → item_fits C b.GreaterEqual x d w ≡ gives o s v → IsIn C F v → Fine e → type_at e ≡ ty
        → ((u : Memory) → IsIn C F u → Ends K AnyTruth (CaseLeaves C X x items es u) u (some_fits C x items es u))
        → Ends K AnyTruth (CaseLeaves C X x (case_range y z ∷ items) (d ∷ e ∷ es) w) v
        (then (and_later s (item_fits C b.LessEqual x e) v) (λ t w. or_later t (some_fits C x items es) w))
    lower_ends y z items d e es w v o false one h fine same more =
        let L : Type 0 = CaseLeaves C X x (case_range y z ∷ items) (d ∷ e ∷ es) w in
        ends_after K AnyTruth L v [] (some_fits C x items es v)
        (ends_weaker K AnyTruth (CaseLeaves C X x items es v) L v (some_fits C x items es v) (λ l. below_range y z items d e es w v o one l) (more v h))
    lower_ends y z items d e es w v o true one h fine same more =
        let L : Type 0 = CaseLeaves C X x (case_range y z ∷ items) (d ∷ e ∷ es) w in
        then_ends K AnyTruth AnyTruth L v (item_fits C b.LessEqual x e v) (λ t w. or_later t (some_fits C x items es) w)
        (ends_weaker K AnyTruth (Leaves C X e v) L v (item_fits C b.LessEqual x e v) (λ l. in_upper y z items d e es w v o one l)
        (item_ends ty x p b.LessEqual refl v h e fine same))
        (λ o2 t u two k i.
        later_ends items es L u t
        (λ no.
        ends_weaker K AnyTruth (CaseLeaves C X x items es u) L u (some_fits C x items es u)
        (λ l. above_range y z items d e es w v u o o2 one (two ∙ ap (λ a. gives o2 a u) no) l) (more u (in_later C F v u k h))))

    pub some_ends : (items : List CaseItem) (es : List Expr) → covers_items uses items es ≡ true → Each Fine es → SameTypes es → (w : Memory) → IsIn C F w
        → Ends K AnyTruth (CaseLeaves C X x items es w) w (some_fits C x items es w)
    some_ends [] [] covers fine same w h = (keeps_self K w, tt)
    some_ends [] (e ∷ es) covers fine same w h = absurd (true≢false (sym covers))
    some_ends (case_value y ∷ items) [] covers fine same w h = absurd (true≢false (sym covers))
    some_ends (case_value y ∷ items) (e ∷ es) covers fine same w h =
        let L : Type 0 = CaseLeaves C X x (case_value y ∷ items) (e ∷ es) w in
        then_ends K AnyTruth AnyTruth L w (item_fits C b.Equal x e w) (λ t w. or_later t (some_fits C x items es) w)
        (ends_weaker K AnyTruth (Leaves C X e w) L w (item_fits C b.Equal x e w) (in_value y items e es w) (item_ends ty x p b.Equal refl w h e fine.0 same.0))
        (λ o t v one k i.
        later_ends items es L v t
        (λ no.
        ends_weaker K AnyTruth (CaseLeaves C X x items es v) L v (some_fits C x items es v)
        (λ l. behind_value y items e es w v o (one ∙ ap (λ z. gives o z v) no) l)
        (some_ends items es (both_true (covers_expr uses e) (covers_items uses items es) covers).1 fine.1 same.1 v (in_later C F w v k h))))
    some_ends (case_range y z ∷ items) [] covers fine same w h = absurd (true≢false (sym covers))
    some_ends (case_range y z ∷ items) (d ∷ []) covers fine same w h = absurd (true≢false (sym covers))
    some_ends (case_range y z ∷ items) (d ∷ e ∷ es) covers fine same w h =
        let L : Type 0 = CaseLeaves C X x (case_range y z ∷ items) (d ∷ e ∷ es) w in
        let more = both_true (covers_expr uses e) (covers_items uses items es) (both_true (covers_expr uses d) (covers_expr uses e && covers_items uses items es) covers).1 in
        subst (λ r. Ends K AnyTruth L w r) (sym (range_then d e items es w))
        (then_ends K AnyTruth AnyTruth L w (item_fits C b.GreaterEqual x d w)
        (λ s w. then (and_later s (item_fits C b.LessEqual x e) w) (λ t w. or_later t (some_fits C x items es) w))
        (ends_weaker K AnyTruth (Leaves C X d w) L w (item_fits C b.GreaterEqual x d w) (in_lower y z items d e es w)
        (item_ends ty x p b.GreaterEqual refl w h d fine.0 same.0))
        (λ o s v one k i.
        let h2 : IsIn C F v = in_later C F w v k h in
        lower_ends y z items d e es w v o s one h2 fine.1.0 same.1.0
        (λ u g. some_ends items es more.1 fine.1.1 same.1.1 u g)))
    some_ends (case_is op y ∷ items) [] covers fine same w h = absurd (true≢false (sym covers))
    some_ends (case_is op y ∷ items) (e ∷ es) covers fine same w h =
        let L : Type 0 = CaseLeaves C X x (case_is op y ∷ items) (e ∷ es) w in
        let c = both_true (is_comparison op) (covers_expr uses e && covers_items uses items es) covers in
        then_ends K AnyTruth AnyTruth L w (item_fits C op x e w) (λ t w. or_later t (some_fits C x items es) w)
        (ends_weaker K AnyTruth (Leaves C X e w) L w (item_fits C op x e w) (in_comparison op y items e es w) (item_ends ty x p op c.0 w h e fine.0 same.0))
        (λ o t v one k i.
        later_ends items es L v t
        (λ no.
        ends_weaker K AnyTruth (CaseLeaves C X x items es v) L v (some_fits C x items es v)
        (λ l. behind_comparison op y items e es w v o (one ∙ ap (λ z. gives o z v) no) l)
        (some_ends items es (both_true (covers_expr uses e) (covers_items uses items es) c.1).1 fine.1 same.1 v (in_later C F w v k h))))

  -- ---- the lines

  pub select_ends : (w : Memory) → IsIn C F w → (choice : Exp) (e : Expr) → Fine e → KeepsAt C F (source.select choice) (e ∷ [])
      → Ends K (Good C F) (LineLeaves C X (source.select choice) (e ∷ []) w) w (then (value_of C e w) (λ x w. keeps_at C (keeps_value x) w))
  select_ends w h choice e f keep =
      then_ends K (IsTyped (type_at e)) (Good C F) (LineLeaves C X (source.select choice) (e ∷ []) w) w (value_of C e w) (λ x w. keeps_at C (keeps_value x) w)
      (ends_weaker K (IsTyped (type_at e)) (Leaves C X e w) (LineLeaves C X (source.select choice) (e ∷ []) w) w (value_of C e w) (in_choice choice e w)
      (fine_ends C F X calls mentions e f w h))
      (λ o x v one k m. (
        keeps_self K v,
        keep v (keeps_value x) C.aims.after (in_later C F w v k h).frame (record {
          limit = λ d is. absurd (not_none is);
          choice = λ d is. subst (λ (z : Expr). IsValue (type_at z) x) (some_is is) m;
        }),
      ))

  chosen_ends : (L : Type 0) (w : Memory) → IsIn C F w → (t : Bool) → (C.aims.otherwise ≡ None → L) → Ends K (Good C F) L w (chosen C t w)
  chosen_ends L w h true out = leads C F L w C.aims.after h
  chosen_ends L w h false out = goes_by C F L w h C.aims.otherwise out

  -- the types of the items of a Case are that of the choice
  same_types : (t : Ty) (es : List Expr) → Each Fine es → list_all (λ (x : Expr). is_same_type t (type_at x)) es ≡ true
      → Each (λ (e : Expr). type_at e ≡ t) es
  same_types t [] f h = tt
  same_types t (e ∷ es) f h = (
    sym (same_as t (type_at e) (fine_type C F X calls mentions e f.0) (all_first (λ (x : Expr). is_same_type t (type_at x)) e es h)),
    same_types t es f.1 (all_rest (λ (x : Expr). is_same_type t (type_at x)) e es h),
  )

  -- a Select Case among whose types those of the items are
  abbrev Chosen : List Expr → Form → List Expr → Type 0
  Chosen es f ds = (e : Expr) × (choice_of f ds ≡ Some e) × (list_all (λ (x : Expr). is_same_type (type_at e) (type_at x)) es ≡ true)

  chosen_of : (es : List Expr) (f : Form) (ds : List Expr) → chooses_among es f ds ≡ true → Chosen es f ds
  chosen_of es (source.select d) (e ∷ []) h = (e, refl, h)
  chosen_of es (source.select d) [] h = absurd (true≢false (sym h))
  chosen_of es (source.select d) (e ∷ x ∷ ds) h = absurd (true≢false (sym h))
  chosen_of es _ ds h = absurd (true≢false (sym h))

  kept_ends : (w : Memory) → IsIn C F w → (items : List CaseItem) (es : List Expr) → covers_items uses items es ≡ true → Each Fine es → (n : ℕ)
      → IsAimed C (source.case_line items) → C.aims.own ≡ Some n → (e : Expr) → list_all (λ (x : Expr). is_same_type (type_at e) (type_at x)) es ≡ true → (k : Kept Value Address)
      → C.frame.kept n ≡ k → IsChoice (type_at e) k
      → Ends K (Good C F) (LineLeaves C X (source.case_line items) es w) w (case_of C items es k w)
  kept_ends w h items es covers fine n aimed own e same keeps_nothing is kept = case_unkept items es w n own is
  kept_ends w h items es covers fine n aimed own e same (keeps_limit a y s) is kept = absurd kept
  kept_ends w h items es covers fine n aimed own e same (keeps_address a) is kept = absurd kept
  kept_ends w h items es covers fine n aimed own e same (keeps_value x) is kept =
      let L : Type 0 = LineLeaves C X (source.case_line items) es w in
      subst (λ y. Ends K (Good C F) L w (case_of C items es (keeps_value y) w)) (sym kept.1)
      (then_ends K AnyTruth (Good C F) L w (after [] (some_fits C kept.0 items es w)) (chosen C)
      (ends_after K AnyTruth L w [] (some_fits C kept.0 items es w)
      (ends_weaker K AnyTruth (CaseLeaves C X kept.0 items es w) L w (some_fits C kept.0 items es w)
      (λ l. in_case items es w n kept.0 (type_at e) own (is ∙ ap keeps_value kept.1) l)
      (some_ends (type_at e) kept.0 kept.2 items es covers fine (same_types (type_at e) es fine same) w h)))
      (λ o t v one k i. chosen_ends L v (in_later C F w v k h) t (λ out. never_nowhere C (source.case_line items) L aimed refl out)))

  pub case_ends : (w : Memory) → IsIn C F w → (items : List CaseItem) (es : List Expr) → IsAimed C (source.case_line items) → covers_items uses items es ≡ true → Each Fine es
      → (lines : List tree.Line) → slice_get C.runnable.program.bodies C.procedure ≡ Some lines
      → covers_part C.runnable.program C.procedure (source.case_line items) es (head_line lines C.aims.own) ≡ true
      → Ends K (Good C F) (LineLeaves C X (source.case_line items) es w) w (some_of C.aims.own (λ h w. case_of C items es (C.frame.kept h) w) w)
  case_ends w h items es aimed covers fine lines are_lines part = by C.aims.own refl part
    where
      at_head : (n : ℕ) → C.aims.own ≡ Some n → (o : Option tree.Line) → nth_line lines n ≡ o
          → covers_part C.runnable.program C.procedure (source.case_line items) es o ≡ true
          → Ends K (Good C F) (LineLeaves C X (source.case_line items) es w) w (case_of C items es (C.frame.kept n) w)
      at_head n own None is part = absurd (true≢false (sym part))
      at_head n own (Some m) is part =
          let b = both_true (covers_line C.runnable.program C.procedure m) (chooses_among es m.source.form m.bindings.exprs) part in
          let c : Chosen es m.source.form m.bindings.exprs = chosen_of es m.source.form m.bindings.exprs b.1 in
          let kept = h.frame.kept n m (ap (λ (q : Option (List tree.Line)). numbered q n) are_lines ∙ is) in
          kept_ends w h items es covers fine n aimed own c.0 c.2 (C.frame.kept n) refl (kept.choice c.0 c.1)

      by : (o : Option ℕ) → C.aims.own ≡ o → covers_part C.runnable.program C.procedure (source.case_line items) es (head_line lines o) ≡ true
          → Ends K (Good C F) (LineLeaves C X (source.case_line items) es w) w (some_of o (λ h w. case_of C items es (C.frame.kept h) w) w)
      by None own part = absurd (true≢false (sym part))
      by (Some n) own part = at_head n own (nth_line lines n) refl part
