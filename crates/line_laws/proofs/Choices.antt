-- A Select Case keeps its value, and a Case finds the same items that fit as what is written for it.
use Rattle.std.proofs.Common.{◌≡◌, ◌∙◌, refl, sym, ap, subst, ℕ, Bool, true, false, ◌&&◌, Option, Some, None, List, [], ◌∷◌, true≢false}
use Rattle.std.specs.List.{list_all}
use Rattle.vb_tree.specs.BoundTree as types
use Rattle.vb_tree.specs.BoundTree.{Ty}
use Rattle.vb_tree.specs.declared.bound.Op6.TheVariants as op6
use Rattle.vb_tree.specs.declared.expression.BinOp.{BinOp}
use Rattle.vb_tree.specs.declared.expression.BinOp.TheVariants as b
use Rattle.vb_tree.specs.declared.value.Value6.{Value6}
use Rattle.vb_tree.specs.Tree.{CaseItem, Form}
use Rattle.vb_tree.specs.Tree as source_form
use Rattle.vb6_meaning.specs.Answers.{Answer, then_answer}
use Rattle.vb6_meaning.specs.Answers as answer
use Rattle.vb6_meaning.specs.Values.{operate}
use Rattle.bound_tree.specs.Tree.{Expr, Line}
use Rattle.bound_facts.proofs.Chains.{both_true}
use Rattle.bound_facts.specs.Locks.{is_same_type}
use Rattle.bound_facts.specs.Node.{type_at}
use Rattle.net_tree.specs.declared.expression.NetBin.{NetBin}
use Rattle.net_tree.specs.declared.expression.NetBin.TheVariants as op
use Rattle.net_tree.specs.declared.expression.OpN.TheVariants.{Bin}
use Rattle.net_tree.specs.Tree as net
use Rattle.net_meaning.specs.declared.value.ValueN.{ValueN}
use Rattle.net_meaning.specs.Operators.{operate_net}
use Rattle.net_meaning.specs.SameValues.{IsSame, IsSameOperator, is_typed}
use Rattle.net_meaning.specs.SameValues as values
use Rattle.net_meaning.specs.ValueMatch.{Matches, booleans}
use Rattle.net_meaning.specs.WrittenRows.{operand_a, operand_b, binary, write_operator, written}
use Rattle.net_meaning.specs.WrittenRows as rows
use Rattle.meaning_laws.proofs.SameRows as same_rows
use Rattle.run_base.specs.Frames.{Kept, keeps_nothing, keeps_limit, keeps_value, keeps_address, keeping}
use Rattle.run_base.specs.Machines.{nth_line}
use Rattle.run_base.specs.Outcomes.{Outcome, gives, then, answered, some_of}
use Rattle.written_trees.specs.Exprs.{exp_of}
use Rattle.written_trees.specs.Lines.{case_items, comparison}
use Rattle.written_trees.specs.Names.{Scope}
use Rattle.vb6_run.specs.Expressions as source
use Rattle.vb6_run.specs.Expressions.{scalar_of}
use Rattle.vb6_run.specs.Forms.{SourceLine}
use Rattle.vb6_run.specs.Lines.{and_later, case_of, chosen, fits, goes_if, goes_on, item_fits, keeps_at, or_later, some_fits, truth_of}
use Rattle.vb6_run.specs.Store.{Address, Memory, SourceCalls, SourceFrame}
use Rattle.vb6_run.specs.Values.{Value, scalar}
use Rattle.net_run.specs.Blocks as blocks
use Rattle.net_run.specs.Blocks.{any_fits, boolean_of, compared, only_if, unless}
use Rattle.net_run.specs.Expressions as target
use Rattle.net_run.specs.Lines.{NetFrame, NetLine, case_does, if_holds, on_kept_value, scope_of}
use Rattle.net_run.specs.Making.{Jobs}
use Rattle.net_run.specs.Members.{Code}
use Rattle.net_run.specs.Names as net_names
use Rattle.net_run.specs.Store as net_store
use Rattle.net_run.specs.Values as net_value
use Rattle.net_run.specs.Values.{single}
use Rattle.row_laws.proofs.Composing.{then_assoc}
use Rattle.run_matches.specs.Upgrades.{Upgrade}
use Rattle.run_matches.specs.Maps.{World}
use Rattle.run_matches.specs.Likeness.{LikeV, like_scalar, are_same}
use Rattle.run_matches.specs.Match.{MemoryMatch}
use Rattle.run_matches.specs.Pledges.{Pledge, Later}
use Rattle.run_matches.specs.Addresses.{KeptMatch, both_nothing, both_limits, both_choices, both_objects, both_arrays, both_addresses}
use Rattle.run_matches.specs.Agreeing.{Agrees}
use Rattle.run_matches.specs.Formed.{is_formed}
use Rattle.run_matches.specs.CoveredVariables.{covers_type}
use Rattle.run_matches.specs.CoveredExprs.{Uses, covers_expr, uses_in}
use Rattle.run_matches.specs.CoveredLines.{chooses_among, covers_form, covers_items, covers_line, covers_part, head_line, is_comparison}
use Rattle.run_matches.specs.Frames.{FrameMatch, IsChoice, KeptBy, is_exact_head, lines_of}
use Rattle.run_statements.specs.Frames.{ArePlaced, ExpressionsAgree, IsOpen, ScalarMatch, context_of, AllCalled, demands, AreReadable}
use Rattle.run_statements.specs.Written.{Passes}
use Rattle.run_matches.specs.Runs.{CallsAgree}
use Rattle.agreeing_laws.proofs.Agreeing.{agrees_gives, agrees_outside, agrees_raises, left_alone, then_agrees}
use Rattle.agreeing_laws.proofs.Lasting.{later_now, later_then}
use Rattle.agreeing_laws.proofs.Outputs.{after_nothing}
use Rattle.agreeing_laws.proofs.Scalars.{scalar_later}
use Rattle.line_laws.specs.Lasting.{GoOnMatching}
use Rattle.line_laws.proofs.Called.{AllIn}
use Rattle.line_laws.proofs.Conditions.{scalar_is}
use Rattle.line_laws.proofs.FrameLater.{Keeps}
use Rattle.line_laws.proofs.KeptPlaces.{value_kept}
use Rattle.line_laws.proofs.Stores.{same_type}
use Rattle.line_laws.proofs.Uses.{good, good_parts, is_good, type_covered}

-- ---- comparisons of values of one type

-- nothing is converted
row_at : (n : NetBin) (ty : Ty) → covers_type ty ≡ true → rows.comparison n ty ty ≡ written types.boolean (binary n operand_a operand_b)
row_at n types.boolean c = refl
row_at n types.byte c = refl
row_at n types.integer c = refl
row_at n types.long c = refl
row_at n types.currency c = refl
row_at n types.str c = refl
row_at n _ c = absurd (true≢false (sym c))

covered_typed : (ty : Ty) → covers_type ty ≡ true → is_typed ty ≡ true
covered_typed types.variant c = absurd (true≢false (sym c))
covered_typed _ c = refl

module _ (r : ℕ → ℕ → Bool) (ty : Ty) (c : covers_type ty ≡ true) (v u : Value6) (x y : ValueN) (m : Matches r ty v x) (k : Matches r ty u y) where
  by_row : (o : BinOp) (n : NetBin) → IsSameOperator r o → write_operator o ty ty ≡ rows.comparison n ty ty
      → values.Agrees (Matches r types.boolean) (operate (op6.Typed o) v u) (operate_net (Bin n) x y)
  by_row o n law is =
      subst (λ w. IsSame r (operate (op6.Typed o) v u) w x y) (is ∙ row_at n ty c) (law ty ty v u x y (covered_typed ty c) (covered_typed ty c) m k)

  compared_same : (o : BinOp) → is_comparison o ≡ true
      → values.Agrees (Matches r types.boolean) (operate (op6.Typed o) v u) (operate_net (Bin (comparison o)) x y)
  compared_same b.Equal h = by_row b.Equal op.Equal (same_rows.equal r) refl
  compared_same b.NotEqual h = by_row b.NotEqual op.NotEqual (same_rows.not_equal r) refl
  compared_same b.Less h = by_row b.Less op.Less (same_rows.less r) refl
  compared_same b.Greater h = by_row b.Greater op.Greater (same_rows.greater r) refl
  compared_same b.LessEqual h = by_row b.LessEqual op.LessEqual (same_rows.less_equal r) refl
  compared_same b.GreaterEqual h = by_row b.GreaterEqual op.GreaterEqual (same_rows.greater_equal r) refl
  compared_same _ h = absurd (true≢false (sym h))

-- ---- truths

abbrev pub SameTruth : World → Bool → Bool → Type 0
SameTruth w s t = t ≡ s

module _ (U : Upgrade) (K : Pledge) (w : World) (h : MemoryMatch U w) where
  known_truth : (v : Value6) (y : ValueN) → Matches (are_same w) types.boolean v y → Agrees U K w SameTruth (truth_of v w.src) (answered (boolean_of (single y)) w.net)
  known_truth _ _ (booleans t) = agrees_gives U K w SameTruth t t h refl

  truth_agrees : (a : Answer Value6) (d : Answer ValueN) → values.Agrees (Matches (are_same w) types.boolean) a d
      → Agrees U K w SameTruth (then (answered a w.src) truth_of) (answered (then_answer d (λ y. boolean_of (single y))) w.net)
  truth_agrees (answer.gives v) d m =
      subst (λ z. Agrees U K w SameTruth (then (answered (answer.gives v) w.src) truth_of) (answered (then_answer z (λ y. boolean_of (single y))) w.net)) (sym m.1)
      (left_alone U K w SameTruth (truth_of v w.src) (answered (boolean_of (single m.0)) w.net) (known_truth v m.0 m.2))
  truth_agrees (answer.raises e) d m =
      subst (λ z. Agrees U K w SameTruth (then (answered (answer.raises e) w.src) truth_of) (answered (then_answer z (λ y. boolean_of (single y))) w.net)) (sym m)
      (agrees_raises U K w SameTruth e h)
  truth_agrees answer.outside d m = agrees_outside U K w SameTruth (answered (then_answer d (λ y. boolean_of (single y))) w.net)

  -- two values of one type
  pub fit_agrees : (o : BinOp) → is_comparison o ≡ true → (ty : Ty) → covers_type ty ≡ true → (v u : Value6) (x y : net_value.Value) → LikeV U w (scalar ty v) x
      → LikeV U w (scalar ty u) y → Agrees U K w SameTruth (fits o v u w.src) (answered (compared (comparison o) x y) w.net)
  fit_agrees o k ty c _ _ _ _ (like_scalar _ v x m) (like_scalar _ u y n) =
      truth_agrees (operate (op6.Typed o) v u) (operate_net (Bin (comparison o)) x y) (compared_same (are_same w) ty c v u x y m n o k)

  -- an item that fits ends the search
  or_agrees : (t : Bool) (r : Memory → Outcome Memory Bool) (r' : net_store.Memory → Outcome net_store.Memory Bool)
      → Agrees U K w SameTruth (r w.src) (r' w.net) → Agrees U K w SameTruth (or_later t r w.src) (unless t r' w.net)
  or_agrees true r r' more = agrees_gives U K w SameTruth true true h refl
  or_agrees false r r' more = more

  and_agrees : (t : Bool) (r : Memory → Outcome Memory Bool) (r' : net_store.Memory → Outcome net_store.Memory Bool)
      → Agrees U K w SameTruth (r w.src) (r' w.net) → Agrees U K w SameTruth (and_later t r w.src) (only_if t r' w.net)
  and_agrees true r r' more = more
  and_agrees false r r' more = agrees_gives U K w SameTruth false false h refl

module _ (U : Upgrade) (expressions : ExpressionsAgree U) (K : Pledge) (p : ℕ) (f : SourceFrame) (g : NetFrame) (l : SourceLine) (k : NetLine) (c : Code) (T : Scope)
    (declared : T.declarations ≡ U.program.declarations) (oracle : SourceCalls) (net_oracle : Jobs) (is_open : IsOpen (scope_of U.written c g k)) (uses : Uses)
    (readable : AreReadable U T uses) (placed : ArePlaced U p f (scope_of U.written c g k) T uses) (agree : CallsAgree U (Passes U) oracle net_oracle) where
  abbrev C : source.Context
  C = context_of U oracle p f l

  abbrev S : net_names.Scope
  S = scope_of U.written c g k

  abbrev Can : Expr → Type 0
  Can e = AllCalled (demands U K p l k S T) e

  -- ---- Select Case

  pub select_agrees : (R : World → SourceFrame → NetFrame → Type 0) (w : World) → MemoryMatch U w → FrameMatch U K w p f g → (head : source_form.Exp) (e : Expr)
      → Can e → is_good uses e ≡ true → Keeps U K p f g R w (source_form.select head) (e ∷ []) → k.aims.after ≡ l.aims.after
      → Agrees U K w R (then (source.value_of C e w.src) (λ x s. keeps_at C (keeps_value x) s))
      (then (target.value_of S net_oracle (exp_of T e) w.net) (λ y t. gives [] (keeping (keeps_value y) k.aims.after g) t))
  select_agrees R w h F head e can well keep after =
      then_agrees U K w (ScalarMatch U (type_at e)) R (source.value_of C e w.src) (target.value_of S net_oracle (exp_of T e) w.net)
      (λ x s. keeps_at C (keeps_value x) s) (λ y t. gives [] (keeping (keeps_value y) k.aims.after g) t) h
      (expressions K w p f g oracle net_oracle l k c T uses e h F declared is_open readable placed agree can (good_parts uses e well).0 (good_parts uses e well).1)
      (λ x y w1 m later.
      subst (λ z. Agrees U K w1 R (gives [] (keeping (keeps_value z) l.aims.after f) w1.src) (gives [] (keeping (keeps_value y) k.aims.after g) w1.net)) (sym m.1)
      (agrees_gives U K w1 R (keeping (keeps_value (scalar (type_at e) m.0)) l.aims.after f) (keeping (keeps_value y) k.aims.after g) later.match
      (keep (keeps_value (scalar (type_at e) m.0)) (keeps_value y) l.aims.after k.aims.after after w1 later (λ exact. both_choices (type_at e) m.0 y m.2)
      (value_kept U K p f w1 (source_form.select head) (e ∷ []) (keeps_value (scalar (type_at e) m.0)) (keeps_value y) refl (λ a i. cc i) (m.0, refl)))))

  -- ---- Case

  module _ (ty : Ty) (typed : covers_type ty ≡ true) where
    abbrev Fits : World → Value6 → net_value.Value → BinOp → Expr → Type 0
    Fits w v x o e =
        Agrees U K w SameTruth (item_fits C o v e w.src)
        (then (target.value_of S net_oracle (exp_of T e) w.net) (λ y t. answered (compared (comparison o) x y) t))

    item_agrees : (w : World) → MemoryMatch U w → FrameMatch U K w p f g → (v : Value6) (x : net_value.Value) → LikeV U w (scalar ty v) x → (o : BinOp)
        → is_comparison o ≡ true → (e : Expr) → Can e → is_good uses e ≡ true → is_same_type ty (type_at e) ≡ true → Fits w v x o e
    item_agrees w h F v x like o compares e can well is =
        subst (λ r. Agrees U K w SameTruth r (then (target.value_of S net_oracle (exp_of T e) w.net) (λ y t. answered (compared (comparison o) x y) t)))
        (sym (ap (λ r. then r (fits o v)) (scalar_is C e w.src) ∙ then_assoc (source.value_of C e w.src) scalar_of (fits o v)))
        (then_agrees U K w (ScalarMatch U (type_at e)) SameTruth (source.value_of C e w.src) (target.value_of S net_oracle (exp_of T e) w.net)
        (λ a s. then (scalar_of a s) (fits o v)) (λ y t. answered (compared (comparison o) x y) t) h
        (expressions K w p f g oracle net_oracle l k c T uses e h F declared is_open readable placed agree can (good_parts uses e well).0 (good_parts uses e well).1)
        (λ a y w1 m later.
        subst (λ z. Agrees U K w1 SameTruth (then (scalar_of z w1.src) (fits o v)) (answered (compared (comparison o) x y) w1.net)) (sym m.1)
        (left_alone U K w1 SameTruth (fits o v m.0 w1.src) (answered (compared (comparison o) x y) w1.net)
        (fit_agrees U K w1 later.match o compares ty typed v m.0 x y (scalar_later U K w w1 ty v x later like)
        (subst (λ t. LikeV U w1 (scalar t m.0) y) (same_type ty (type_at e) typed is) m.2)))))

    -- one item, and the others
    then_others : (w : World) → MemoryMatch U w → (r : Outcome Memory Bool) (r' : Outcome net_store.Memory Bool) (more : Memory → Outcome Memory Bool)
        (more' : net_store.Memory → Outcome net_store.Memory Bool) → Agrees U K w SameTruth r r'
        → ((w1 : World) → Later U K w w1 → Agrees U K w1 SameTruth (more w1.src) (more' w1.net))
        → Agrees U K w SameTruth (then r (λ t s. or_later t more s)) (then r' (λ t u. unless t more' u))
    then_others w h r r' more more' first others =
        then_agrees U K w SameTruth SameTruth r r' (λ t s. or_later t more s) (λ t u. unless t more' u) h first
        (λ t u w1 is later.
        subst (λ z. Agrees U K w1 SameTruth (or_later t more w1.src) (unless z more' w1.net)) (sym is)
        (or_agrees U K w1 later.match t more more' (others w1 later)))

    -- an upper bound is looked at where the lower one fits
    range_agrees : (w : World) → MemoryMatch U w → GoOnMatching U K p f g w → (v : Value6) (x : net_value.Value) → LikeV U w (scalar ty v) x → (d e : Expr)
        → Can d → Can e → is_good uses d ≡ true → is_good uses e ≡ true → is_same_type ty (type_at d) ≡ true → is_same_type ty (type_at e) ≡ true
        → Agrees U K w SameTruth (then (item_fits C b.GreaterEqual v d w.src) (λ t s. and_later t (item_fits C b.LessEqual v e) s))
        (blocks.item_fits S net_oracle x (net.case_range (exp_of T d) (exp_of T e)) w.net)
    range_agrees w h G v x like d e can can' first second is also =
        let low : net_value.Value → net_store.Memory → Outcome net_store.Memory Bool = λ y t. answered (compared op.GreaterEqual x y) t in
        let high : net_store.Memory → Outcome net_store.Memory Bool =
        λ t. then (target.value_of S net_oracle (exp_of T e) t) (λ y t. answered (compared op.LessEqual x y) t) in
        subst (λ r. Agrees U K w SameTruth (then (item_fits C b.GreaterEqual v d w.src) (λ t s. and_later t (item_fits C b.LessEqual v e) s)) r)
        (then_assoc (target.value_of S net_oracle (exp_of T d) w.net) low (λ t u. only_if t high u))
        (then_agrees U K w SameTruth SameTruth (item_fits C b.GreaterEqual v d w.src) (then (target.value_of S net_oracle (exp_of T d) w.net) low)
        (λ t s. and_later t (item_fits C b.LessEqual v e) s) (λ t u. only_if t high u) h
        (item_agrees w h (G w (later_now U K w h)) v x like b.GreaterEqual refl d can first is)
        (λ t u w1 same later.
        subst (λ z. Agrees U K w1 SameTruth (and_later t (item_fits C b.LessEqual v e) w1.src) (only_if z high w1.net)) (sym same)
        (and_agrees U K w1 later.match t (item_fits C b.LessEqual v e) high
        (item_agrees w1 later.match (G w1 later) v x (scalar_later U K w w1 ty v x later like) b.LessEqual refl e can' second also))))

    abbrev is_of : Expr → Bool
    is_of e = is_same_type ty (type_at e)

    items_agree : (w : World) → MemoryMatch U w → GoOnMatching U K p f g w → (v : Value6) (x : net_value.Value) → LikeV U w (scalar ty v) x
        → (items : List CaseItem) (es : List Expr) → AllIn Can es → covers_items uses items es ≡ true → list_all is_formed es ≡ true → list_all is_of es ≡ true
        → Agrees U K w SameTruth (some_fits C v items es w.src) (any_fits S net_oracle x (case_items T items es) w.net)
    items_agree w h G v x like [] [] can covers formed is = agrees_gives U K w SameTruth false false h refl
    items_agree w h G v x like [] (e ∷ es) can covers formed is = absurd (true≢false (sym covers))
    items_agree w h G v x like (source_form.case_value z ∷ items) [] can covers formed is = absurd (true≢false (sym covers))
    items_agree w h G v x like (source_form.case_value z ∷ items) (e ∷ es) can covers formed is =
        let a = both_true (covers_expr uses e) (covers_items uses items es) covers in
        let d = both_true (is_formed e) (list_all is_formed es) formed in
        let i = both_true (is_of e) (list_all is_of es) is in
        then_others w h (item_fits C b.Equal v e w.src) (blocks.item_fits S net_oracle x (net.case_value (exp_of T e)) w.net) (some_fits C v items es)
        (any_fits S net_oracle x (case_items T items es))
        (item_agrees w h (G w (later_now U K w h)) v x like b.Equal refl e can.0 (good uses e a.0 d.0) i.0)
        (λ w1 later.
        items_agree w1 later.match (λ w2 more. G w2 (later_then U K w w1 w2 h later more)) v x (scalar_later U K w w1 ty v x later like) items es can.1 a.1 d.1 i.1)
    items_agree w h G v x like (source_form.case_range y z ∷ items) [] can covers formed is = absurd (true≢false (sym covers))
    items_agree w h G v x like (source_form.case_range y z ∷ items) (d ∷ []) can covers formed is = absurd (true≢false (sym covers))
    items_agree w h G v x like (source_form.case_range y z ∷ items) (d ∷ e ∷ es) can covers formed is =
        let a = both_true (covers_expr uses d) (covers_expr uses e && covers_items uses items es) covers in
        let a' = both_true (covers_expr uses e) (covers_items uses items es) a.1 in
        let q = both_true (is_formed d) (list_all is_formed (e ∷ es)) formed in
        let q' = both_true (is_formed e) (list_all is_formed es) q.1 in
        let i = both_true (is_of d) (list_all is_of (e ∷ es)) is in
        let i' = both_true (is_of e) (list_all is_of es) i.1 in
        then_others w h (then (item_fits C b.GreaterEqual v d w.src) (λ t s. and_later t (item_fits C b.LessEqual v e) s))
        (blocks.item_fits S net_oracle x (net.case_range (exp_of T d) (exp_of T e)) w.net) (some_fits C v items es) (any_fits S net_oracle x (case_items T items es))
        (range_agrees w h G v x like d e can.0 can.1.0 (good uses d a.0 q.0) (good uses e a'.0 q'.0) i.0 i'.0)
        (λ w1 later.
        items_agree w1 later.match (λ w2 more. G w2 (later_then U K w w1 w2 h later more)) v x (scalar_later U K w w1 ty v x later like) items es can.1.1 a'.1 q'.1 i'.1)
    items_agree w h G v x like (source_form.case_is o y ∷ items) [] can covers formed is = absurd (true≢false (sym covers))
    items_agree w h G v x like (source_form.case_is o y ∷ items) (e ∷ es) can covers formed is =
        let n = both_true (is_comparison o) (covers_expr uses e && covers_items uses items es) covers in
        let a = both_true (covers_expr uses e) (covers_items uses items es) n.1 in
        let d = both_true (is_formed e) (list_all is_formed es) formed in
        let i = both_true (is_of e) (list_all is_of es) is in
        then_others w h (item_fits C o v e w.src) (blocks.item_fits S net_oracle x (net.case_is (comparison o) (exp_of T e)) w.net) (some_fits C v items es)
        (any_fits S net_oracle x (case_items T items es))
        (item_agrees w h (G w (later_now U K w h)) v x like o n.0 e can.0 (good uses e a.0 d.0) i.0)
        (λ w1 later.
        items_agree w1 later.match (λ w2 more. G w2 (later_then U K w w1 w2 h later more)) v x (scalar_later U K w w1 ty v x later like) items es can.1 a.1 d.1 i.1)

  module _ (R : World → SourceFrame → NetFrame → Type 0) (w : World) (h : MemoryMatch U w) (G : GoOnMatching U K p f g w) (items : List CaseItem) (es : List Expr) (can : AllIn Can es)
      (covers : covers_items uses items es ≡ true) (formed : list_all is_formed es ≡ true) (aims : k.aims ≡ l.aims)
      (ways : (w1 : World) → Later U K w w1
      → Agrees U K w1 R (goes_on C w1.src) (if_holds g k true w1.net) × Agrees U K w1 R (goes_if C l.aims.otherwise w1.src) (if_holds g k false w1.net)) where
    abbrev searched : net_value.Value → net_store.Memory → Outcome net_store.Memory NetFrame
    searched x t = then (any_fits S net_oracle x (case_items T items es) t) (λ fits t. if_holds g k fits t)

    chosen_agrees : (w1 : World) → Later U K w w1 → (t : Bool) → Agrees U K w1 R (chosen C t w1.src) (if_holds g k t w1.net)
    chosen_agrees w1 later true = (ways w1 later).0
    chosen_agrees w1 later false = (ways w1 later).1

    kept_agrees : (ty : Ty) → covers_type ty ≡ true → list_all (λ (e : Expr). is_same_type ty (type_at e)) es ≡ true → (v : Value6) (x : net_value.Value)
        → LikeV U w (scalar ty v) x → Agrees U K w R (case_of C items es (keeps_value (scalar ty v)) w.src) (searched x w.net)
    kept_agrees ty c is v x like =
        subst (λ r. Agrees U K w R (then r (chosen C)) (searched x w.net)) (sym (after_nothing (some_fits C v items es w.src)))
        (then_agrees U K w SameTruth R (some_fits C v items es w.src) (any_fits S net_oracle x (case_items T items es) w.net) (chosen C)
        (λ fits t. if_holds g k fits t) h (items_agree ty c w h G v x like items es can covers formed is)
        (λ t u w1 same later.
        subst (λ z. Agrees U K w1 R (chosen C t w1.src) (if_holds g k z w1.net)) (sym same) (chosen_agrees w1 later t)))

    -- what the head has kept
    case_by : (exact : Bool) (e : Expr) → covers_type (type_at e) ≡ true → list_all (λ (x : Expr). is_same_type (type_at e) (type_at x)) es ≡ true
        → (a : Kept Value Address) (d : Kept net_value.Value net_store.Address) → KeptMatch U K w exact a d → IsChoice (e ∷ []) a d
        → Agrees U K w R (case_of C items es a w.src) (on_kept_value d searched w.net)
    case_by exact e c is _ _ both_nothing i = agrees_outside U K w R (on_kept_value keeps_nothing searched w.net)
    case_by exact e c is _ _ (both_limits a d ty tz y s z q at m n) i = agrees_outside U K w R (on_kept_value (keeps_limit d z q) searched w.net)
    case_by exact e c is _ _ (both_choices ty v x m) i =
        subst (λ z. Agrees U K w R (case_of C items es (keeps_value z) w.src) (searched x w.net)) (sym i.1)
        (kept_agrees (type_at e) c is i.0 x (subst (λ z. LikeV U w z x) i.1 m))
    case_by exact e c is _ _ (both_objects ty v s x m home) i = absurd i
    case_by exact e c is _ _ (both_arrays d dims xs s y) i = absurd i
    case_by exact e c is _ _ (both_addresses a d m) i = agrees_outside U K w R (on_kept_value (keeps_address d) searched w.net)

    -- by a covered Select Case of the type of the items
    by_head : (exact : Bool) (form : Form) (ds : List Expr) (others : Uses) → covers_form others form ds ≡ true → chooses_among es form ds ≡ true
        → (a : Kept Value Address) (d : Kept net_value.Value net_store.Address) → KeptMatch U K w exact a d → KeptBy f.vars form ds a d
        → Agrees U K w R (case_of C items es a w.src) (on_kept_value d searched w.net)
    by_head exact (source_form.select head) [] others known chooses a d m i = absurd (true≢false (sym chooses))
    by_head exact (source_form.select head) (e ∷ []) others known chooses a d m i = case_by exact e (type_covered others e known) chooses a d m i
    by_head exact (source_form.select head) (e ∷ z ∷ ds) others known chooses a d m i = absurd (true≢false (sym chooses))
    by_head exact _ ds others known chooses a d m i = absurd (true≢false (sym chooses))

    by_line : (n : ℕ) (o : Option Line) → nth_line (lines_of U p) n ≡ o → covers_part U.program p (source_form.case_line items) es o ≡ true
        → Agrees U K w R (case_of C items es (f.kept n) w.src) (on_kept_value (g.kept n) searched w.net)
    by_line n None is stands = absurd (true≢false (sym stands))
    by_line n (Some m) is stands =
        let F : FrameMatch U K w p f g = G w (later_now U K w h) in
        let parts = both_true (covers_line U.program p m) (chooses_among es m.source.form m.bindings.exprs) stands in
        let known = (both_true (covers_form (uses_in U.program p m.bindings.mentions) m.source.form m.bindings.exprs) (list_all is_formed m.bindings.exprs) parts.0).0 in
        by_head (is_exact_head U (nth_line (lines_of U p) n)) m.source.form m.bindings.exprs (uses_in U.program p m.bindings.mentions) known parts.1
        (f.kept n) (g.kept n) (F.kept n) (F.covered_heads n m is parts.0)

    by_own : (o : Option ℕ) → covers_part U.program p (source_form.case_line items) es (head_line (lines_of U p) o) ≡ true
        → Agrees U K w R (some_of o (λ n s. case_of C items es (f.kept n) s) w.src) (some_of o (λ n t. on_kept_value (g.kept n) searched t) w.net)
    by_own None stands = absurd (true≢false (sym stands))
    by_own (Some n) stands = by_line n (nth_line (lines_of U p) n) refl stands

    pub case_agrees : covers_part U.program p (source_form.case_line items) es (head_line (lines_of U p) l.aims.own) ≡ true
        → Agrees U K w R (some_of l.aims.own (λ n s. case_of C items es (f.kept n) s) w.src) (case_does S net_oracle g k (case_items T items es) w.net)
    case_agrees stands =
        subst (λ o. Agrees U K w R (some_of l.aims.own (λ n s. case_of C items es (f.kept n) s) w.src) (some_of o (λ n t. on_kept_value (g.kept n) searched t) w.net))
        (sym (ap (λ a. a.own) aims)) (by_own l.aims.own stands)
