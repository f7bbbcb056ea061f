-- A Debug.Print puts out the same as what is written for it.
use Rattle.std.proofs.Common.{◌≡◌, ◌∙◌, refl, sym, ap, subst, ℕ, Bool, true, false, cond, List, [], ◌∷◌, ◌++◌, length, append_assoc, append-nil, ◌^◌}
use Rattle.std.specs.List.{list_all}
use Rattle.std.specs.Prelude.{nat_lt}
use Rattle.vb_tree.specs.BoundTree.{Ty}
use Rattle.vb_tree.specs.declared.value.Value6.{Value6}
use Rattle.vb6_meaning.specs.Answers.{Answer}
use Rattle.vb6_meaning.specs.Answers as answer
use Rattle.vb6_meaning.specs.NumberTexts.{print_text}
use Rattle.bound_tree.specs.Tree.{Expr}
use Rattle.bound_facts.proofs.Chains.{both_true}
use Rattle.bound_facts.specs.Node.{type_at}
use Rattle.net_tree.specs.declared.expression.NetBin.TheVariants as op
use Rattle.net_tree.specs.declared.expression.OpN.TheVariants.{Bin}
use Rattle.net_tree.specs.Tree as net
use Rattle.net_meaning.specs.declared.value.ValueN.{ValueN}
use Rattle.net_meaning.specs.declared.value.ValueN.TheVariants as n
use Rattle.net_meaning.specs.Operators.{operate_net}
use Rattle.net_meaning.specs.SameValues as values
use Rattle.net_meaning.specs.ValueMatch.{Matches}
use Rattle.run_base.specs.Outcomes.{printed, Outcome, gives, outside, then, answered}
use Rattle.written_trees.specs.Conversions.{one, support_call}
use Rattle.written_trees.specs.Exprs.{exp_of}
use Rattle.written_trees.specs.Lines.{printed_item, joined_items, items_exp, print_name}
use Rattle.written_trees.specs.Names.{Scope}
use Rattle.vb6_run.specs.Expressions as source
use Rattle.vb6_run.specs.Expressions.{scalar_of, value_in}
use Rattle.vb6_run.specs.Forms.{SourceLine}
use Rattle.vb6_run.specs.Lines.{item_text, items_text, behind_print, print}
use Rattle.vb6_run.specs.Store.{Memory, SourceCalls, SourceFrame}
use Rattle.vb6_run.specs.Values.{Value, scalar}
use Rattle.net_run.specs.Expressions as target
use Rattle.net_run.specs.Lines.{NetFrame, NetLine, scope_of}
use Rattle.net_run.specs.Making.{Jobs}
use Rattle.net_run.specs.Members.{Code}
use Rattle.net_run.specs.Names as net_names
use Rattle.net_run.specs.Store as net_store
use Rattle.net_run.specs.Store.{nowhere}
use Rattle.net_run.specs.Values as net_value
use Rattle.net_run.specs.Values.{single}
use Rattle.row_laws.specs.Follows.{answers, on_values, RowOfOne, Any}
use Rattle.row_laws.specs.Items.{IsText, printed_row, text_in, print_output}
use Rattle.row_laws.proofs.Composing.{after_nil, then_assoc, then_gives}
use Rattle.row_laws.proofs.Items.{print_puts}
use Rattle.row_laws.proofs.ItemTexts.{prints_same}
use Rattle.row_laws.proofs.Stated.{item_is_row}
use Rattle.row_laws.proofs.Values.{binary_gives}
use Rattle.run_matches.specs.Upgrades.{Upgrade}
use Rattle.run_matches.specs.Maps.{World}
use Rattle.run_matches.specs.Likeness.{LikeV, like_scalar, are_same}
use Rattle.run_matches.specs.Match.{MemoryMatch}
use Rattle.run_matches.specs.Pledges.{Pledge}
use Rattle.run_matches.specs.Agreeing.{Agrees}
use Rattle.run_matches.specs.CoveredExprs.{Uses}
use Rattle.run_matches.specs.Frames.{FrameMatch}
use Rattle.run_statements.specs.Frames.{ExpressionsAgree, IsOpen, ScalarMatch, context_of, ArePlaced, AllCalled, demands, AreReadable}
use Rattle.run_matches.specs.Runs.{CallsAgree}
use Rattle.run_statements.specs.Written.{Passes}
use Rattle.agreeing_laws.proofs.Agreeing.{agrees_gives, agrees_raises, agrees_outside, left_alone, then_agrees}
use Rattle.agreeing_laws.proofs.Lasting.{later_now}
use Rattle.line_laws.proofs.Called.{AllIn}
use Rattle.line_laws.proofs.Uses.{good_parts, is_good}
use Rattle.line_laws.specs.Lasting.{GoOnMatching}

-- ---- texts

-- a String of these units
abbrev pub TextMatch : World → List ℕ → net_value.Value → Type 0
TextMatch w units y = (x : ValueN) × (y ≡ single x) × IsText units x

abbrev pub SameUnits : World → List ℕ → List ℕ → Type 0
SameUnits w s t = t ≡ s

abbrev pub AnyAddress : World → Unit {0} → net_store.Address → Type 0
AnyAddress w u a = Unit {0}

-- a text behind another
behind_text : (s t u : List ℕ) (y : ValueN) (m : net_store.Memory) → u ≡ s → IsText t y
    → on_values (operate_net (Bin op.Concat)) (single (n.Str u)) (single y) m ≡ gives [] (single (n.Str (s ++ t))) m
behind_text s t u (n.Str v) m e d = ap (λ z. gives [] (single (n.Str (z ++ v))) m) e ∙ ap (λ z. gives [] (single (n.Str (s ++ z))) m) d
behind_text s t u n.Nothing m e d =
    ap (λ z. gives [] (single (n.Str (u ++ z))) m) (sym d) ∙ ap (λ z. gives [] (single (n.Str (z ++ t))) m) e
behind_text s t u _ m e d = absurd d

behind_nothing : (s t : List ℕ) (y : ValueN) (m : net_store.Memory) → s ≡ [] → IsText t y
    → on_values (operate_net (Bin op.Concat)) (single n.Nothing) (single y) m ≡ gives [] (single (n.Str (s ++ t))) m
behind_nothing s t (n.Str v) m e d = ap (λ z. gives [] (single (n.Str z)) m) d ∙ ap (λ z. gives [] (single (n.Str (z ++ t))) m) (sym e)
behind_nothing s t n.Nothing m e d = ap (λ z. gives [] (single (n.Str z)) m) (sym d) ∙ ap (λ z. gives [] (single (n.Str (z ++ t))) m) (sym e)
behind_nothing s t _ m e d = absurd d

joined_texts : (s t : List ℕ) (x y : ValueN) (m : net_store.Memory) → IsText s x → IsText t y
    → on_values (operate_net (Bin op.Concat)) (single x) (single y) m ≡ gives [] (single (n.Str (s ++ t))) m
joined_texts s t (n.Str u) y m e d = behind_text s t u y m e d
joined_texts s t n.Nothing y m e d = behind_nothing s t y m e d
joined_texts s t _ y m e d = absurd e

units_of : (s : List ℕ) (x : ValueN) (m : net_store.Memory) → IsText s x → text_in (single x) m ≡ gives [] s m
units_of s (n.Str u) m e = ap (λ z. gives [] z m) e
units_of s n.Nothing m e = ap (λ z. gives [] z m) (sym e)
units_of s _ m e = absurd e

module _ (U : Upgrade) (K : Pledge) (w : World) (h : MemoryMatch U w) where
  text_answers : (a : Answer (List ℕ)) (b : Answer ValueN) → values.Agrees IsText a b → Agrees U K w TextMatch (answered a w.src) (answers b w.net)
  text_answers (answer.gives s) b m =
      subst (λ z. Agrees U K w TextMatch (answered (answer.gives s) w.src) (answers z w.net)) (sym m.1)
      (agrees_gives U K w TextMatch s (single m.0) h (m.0, refl, m.2))
  text_answers (answer.raises e) b m =
      subst (λ z. Agrees U K w TextMatch (answered (answer.raises e) w.src) (answers z w.net)) (sym m) (agrees_raises U K w TextMatch e h)
  text_answers answer.outside b m = agrees_outside U K w TextMatch (answers b w.net)

  -- what is put out, within the limit of the source
  put : (ended : Bool) (s : List ℕ) (small : Bool)
      → Agrees U K w AnyAddress (cond small (gives (printed (s ++ behind_print ended) ∷ []) tt w.src) (outside []))
      (gives (print_output ended s ∷ []) nowhere w.net)
  put ended s false = agrees_outside U K w AnyAddress (gives (print_output ended s ∷ []) nowhere w.net)
  put true s true = (ap (λ z. printed z ∷ []) (sym (append-nil s)), w.map, tt, later_now U K w h)
  put false s true = (refl, w.map, tt, later_now U K w h)

-- one more item is one of the text
regrouped : {M : Type 0} (r : Outcome M (List ℕ)) (a b : M → Outcome M (List ℕ))
    → then (then r (λ s w. then (a w) (λ t w. gives [] (s ++ t) w))) (λ s w. then (b w) (λ t w. gives [] (s ++ t) w))
    ≡ then r (λ s w. then (then (a w) (λ t w. then (b w) (λ u w. gives [] (t ++ u) w))) (λ t w. gives [] (s ++ t) w))
regrouped r a b =
    then_assoc r (λ s w. then (a w) (λ t w. gives [] (s ++ t) w)) (λ s w. then (b w) (λ t w. gives [] (s ++ t) w))
    ∙ ap (λ k. then r k) (λ i s w. then_assoc (a w) (λ t w. gives [] (s ++ t) w) (λ s w. then (b w) (λ t w. gives [] (s ++ t) w)) i)
    ∙ ap (λ k. then r k) (λ i s w. then (a w) (λ t w. after_nil (then (b w) (λ u w. gives [] ((s ++ t) ++ u) w)) i))
    ∙ ap (λ k. then r k) (λ i s w. then (a w) (λ t w. then (b w) (λ u w. gives [] (append_assoc s t u i) w)))
    ∙ sym (ap (λ k. then r k) (λ i s w. then (a w) (λ t w. then_assoc (b w) (λ u w. gives [] (t ++ u) w) (λ v w. gives [] (s ++ v) w) i)))
    ∙ sym (ap (λ k. then r k) (λ i s w. then_assoc (a w) (λ t w. then (b w) (λ u w. gives [] (t ++ u) w)) (λ v w. gives [] (s ++ v) w) i))

no_more : {M : Type 0} (r : Outcome M (List ℕ)) → then r (λ s w. gives [] (s ++ []) w) ≡ r
no_more r = ap (λ k. then r k) (λ i s w. gives [] (append-nil s i) w) ∙ then_gives r

-- ---- items

module _ (U : Upgrade) (expressions : ExpressionsAgree U) (K : Pledge) (p : ℕ) (f : SourceFrame) (g : NetFrame) (l : SourceLine) (k : NetLine) (c : Code) (T : Scope) (declared : T.declarations ≡ U.program.declarations)
    (oracle : SourceCalls) (net_oracle : Jobs) (is_open : IsOpen (scope_of U.written c g k)) (uses : Uses)
    (readable : AreReadable U T uses) (placed : ArePlaced U p f (scope_of U.written c g k) T uses)
    (agree : CallsAgree U (Passes U) oracle net_oracle) where
  abbrev C : source.Context
  C = context_of U oracle p f l

  abbrev S : net_names.Scope
  S = scope_of U.written c g k

  abbrev Can : Expr → Type 0
  Can e = AllCalled (demands U K p l k (scope_of U.written c g k) T) e

  -- the text of an item
  item_agrees : (w : World) → MemoryMatch U w → FrameMatch U K w p f g → (e : Expr) → Can e → is_good uses e ≡ true
      → Agrees U K w TextMatch (item_text C e w.src) (target.value_of S net_oracle (printed_item T e) w.net)
  item_agrees w h F e can covers =
      let row : RowOfOne S net_oracle Any (printed_item T e) (exp_of T e) (printed_row (type_at e)) =
      item_is_row (type_at e) S net_oracle is_open.support (exp_of T e) in
      let text : Value → Memory → Outcome Memory (List ℕ) = λ x s. then (scalar_of x s) (λ z s. answered (print_text z) s) in
      subst (λ r. Agrees U K w TextMatch r (target.value_of S net_oracle (printed_item T e) w.net))
      (sym (ap (λ r. then r (λ z s. answered (print_text z) s)) (sym (then_assoc (source.parts_of C e w.src) (value_in C e) scalar_of))
      ∙ then_assoc (source.value_of C e w.src) scalar_of (λ z s. answered (print_text z) s)))
      (subst (λ r. Agrees U K w TextMatch (then (source.value_of C e w.src) text) r) (sym (row.is w.net))
      (then_agrees U K w (ScalarMatch U (type_at e)) TextMatch (source.value_of C e w.src) (target.value_of S net_oracle (exp_of T e) w.net) text row.behind h
      (expressions K w p f g oracle net_oracle l k c T uses e h F declared is_open readable placed agree can (good_parts uses e covers).0 (good_parts uses e covers).1)
      (λ x y w1 m later. taken row.behind row.on_single x y w1 later.match m.0 m.1 m.2)))
    where
      matched : (behind : net_value.Value → net_store.Memory → Outcome net_store.Memory net_value.Value)
          → ((x : ValueN) (t : net_store.Memory) → Any x → behind (single x) t ≡ answers (printed_row (type_at e) x) t)
          → (w1 : World) → MemoryMatch U w1 → (ty : Ty) → ty ≡ type_at e → (z : Value6) (y : net_value.Value) → LikeV U w1 (scalar ty z) y
          → Agrees U K w1 TextMatch (answered (print_text z) w1.src) (behind y w1.net)
      matched behind on_single w1 h1 _ same _ _ (like_scalar ty z y m) =
          subst (λ r. Agrees U K w1 TextMatch (answered (print_text z) w1.src) r) (sym (on_single y w1.net tt))
          (text_answers U K w1 h1 (print_text z) (printed_row (type_at e) y)
          (prints_same (are_same w1) (type_at e) z y (subst (λ t. Matches (are_same w1) t z y) same m)))

      taken : (behind : net_value.Value → net_store.Memory → Outcome net_store.Memory net_value.Value)
          → ((x : ValueN) (t : net_store.Memory) → Any x → behind (single x) t ≡ answers (printed_row (type_at e) x) t)
          → (x : Value) (y : net_value.Value) (w1 : World) → MemoryMatch U w1 → (z : Value6) → x ≡ scalar (type_at e) z → LikeV U w1 (scalar (type_at e) z) y
          → Agrees U K w1 TextMatch (then (scalar_of x w1.src) (λ z s. answered (print_text z) s)) (behind y w1.net)
      taken behind on_single x y w1 h1 z is m =
          subst (λ a. Agrees U K w1 TextMatch (then (scalar_of a w1.src) (λ z s. answered (print_text z) s)) (behind y w1.net)) (sym is)
          (left_alone U K w1 TextMatch (answered (print_text z) w1.src) (behind y w1.net)
          (matched behind on_single w1 h1 (type_at e) refl z y m))

  -- an item behind a text
  next_agrees : (w : World) → MemoryMatch U w → GoOnMatching U K p f g w → (a : net.Exp) (r : Outcome Memory (List ℕ)) (e : Expr) → Can e → is_good uses e ≡ true
      → Agrees U K w TextMatch r (target.value_of S net_oracle a w.net)
      → Agrees U K w TextMatch (then r (λ s m. then (item_text C e m) (λ t m. gives [] (s ++ t) m)))
      (target.value_of S net_oracle (net.binary op.Concat a (printed_item T e)) w.net)
  next_agrees w h F a r e can covers first =
      let second : net_value.Value → net_store.Memory → Outcome net_store.Memory net_value.Value =
      λ u t. then (target.value_of S net_oracle (printed_item T e) t) (on_values (operate_net (Bin op.Concat)) u) in
      subst (λ z. Agrees U K w TextMatch (then r (λ s m. then (item_text C e m) (λ t m. gives [] (s ++ t) m))) z)
      (sym (binary_gives S net_oracle op.Concat a (printed_item T e) w.net))
      (then_agrees U K w TextMatch TextMatch r (target.value_of S net_oracle a w.net) (λ s m. then (item_text C e m) (λ t m. gives [] (s ++ t) m)) second h first
      (λ s u w1 x later.
      then_agrees U K w1 TextMatch TextMatch (item_text C e w1.src) (target.value_of S net_oracle (printed_item T e) w1.net) (λ t m. gives [] (s ++ t) m)
      (on_values (operate_net (Bin op.Concat)) u) later.match
      (item_agrees w1 later.match (F w1 later) e can covers)
      (λ t v w2 y last.
      subst (λ b. Agrees U K w2 TextMatch (gives [] (s ++ t) w2.src) (on_values (operate_net (Bin op.Concat)) b v w2.net)) (sym x.1)
      (subst (λ b. Agrees U K w2 TextMatch (gives [] (s ++ t) w2.src) (on_values (operate_net (Bin op.Concat)) (single x.0) b w2.net)) (sym y.1)
      (subst (λ o. Agrees U K w2 TextMatch (gives [] (s ++ t) w2.src) o) (sym (joined_texts s t x.0 y.0 w2.net x.2 y.2))
      (agrees_gives U K w2 TextMatch (s ++ t) (single (n.Str (s ++ t))) last.match (n.Str (s ++ t), refl, refl)))))))

  more_agree : (w : World) → MemoryMatch U w → GoOnMatching U K p f g w → (es : List Expr) → AllIn Can es → list_all (is_good uses) es ≡ true → (a : net.Exp)
      (r : Outcome Memory (List ℕ)) → Agrees U K w TextMatch r (target.value_of S net_oracle a w.net)
      → Agrees U K w TextMatch (then r (λ s m. then (items_text C es m) (λ t m. gives [] (s ++ t) m)))
      (target.value_of S net_oracle (joined_items T a es) w.net)
  more_agree w h F [] can covers a r first =
      subst (λ z. Agrees U K w TextMatch z (target.value_of S net_oracle a w.net)) (sym (no_more r)) first
  more_agree w h F (e ∷ es) can covers a r first =
      let both : (is_good uses e ≡ true) × (list_all (is_good uses) es ≡ true) = both_true (is_good uses e) (list_all (is_good uses) es) covers in
      subst (λ z. Agrees U K w TextMatch z (target.value_of S net_oracle (joined_items T (net.binary op.Concat a (printed_item T e)) es) w.net))
      (regrouped r (item_text C e) (items_text C es))
      (more_agree w h F es can.1 both.1 (net.binary op.Concat a (printed_item T e)) (then r (λ s m. then (item_text C e m) (λ t m. gives [] (s ++ t) m)))
      (next_agrees w h F a r e can.0 both.0 first))

  -- the texts of all items, one behind another
  items_agree : (w : World) → MemoryMatch U w → GoOnMatching U K p f g w → (es : List Expr) → AllIn Can es → list_all (is_good uses) es ≡ true
      → Agrees U K w TextMatch (items_text C es w.src) (target.value_of S net_oracle (items_exp T es) w.net)
  items_agree w h F [] can covers = agrees_gives U K w TextMatch [] (single (n.Str [])) h (n.Str [], refl, refl)
  items_agree w h F (e ∷ es) can covers =
      let both : (is_good uses e ≡ true) × (list_all (is_good uses) es ≡ true) = both_true (is_good uses e) (list_all (is_good uses) es) covers in
      more_agree w h F es can.1 both.1 (printed_item T e) (item_text C e w.src) (item_agrees w h (F w (later_now U K w h)) e can.0 both.0)

  units_agree : (w : World) → MemoryMatch U w → GoOnMatching U K p f g w → (es : List Expr) → AllIn Can es → list_all (is_good uses) es ≡ true
      → Agrees U K w SameUnits (items_text C es w.src) (then (target.value_of S net_oracle (items_exp T es) w.net) text_in)
  units_agree w h F es can covers =
      subst (λ r. Agrees U K w SameUnits r (then (target.value_of S net_oracle (items_exp T es) w.net) text_in)) (then_gives (items_text C es w.src))
      (then_agrees U K w TextMatch SameUnits (items_text C es w.src) (target.value_of S net_oracle (items_exp T es) w.net) (λ s m. gives [] s m) text_in h
      (items_agree w h F es can covers)
      (λ s v w1 x later.
      subst (λ b. Agrees U K w1 SameUnits (gives [] s w1.src) (text_in b w1.net)) (sym x.1)
      (subst (λ o. Agrees U K w1 SameUnits (gives [] s w1.src) o) (sym (units_of s x.0 w1.net x.2)) (agrees_gives U K w1 SameUnits s s later.match refl))))

  -- the line puts out its text
  pub print_agrees : (w : World) → MemoryMatch U w → GoOnMatching U K p f g w → (ended : Bool) (es : List Expr) → AllIn Can es → list_all (is_good uses) es ≡ true
      → Agrees U K w AnyAddress (then (items_text C es w.src) (print ended))
      (target.address_of S net_oracle (support_call (print_name ended) (one (items_exp T es))) w.net)
  print_agrees w h F ended es can covers =
      let puts : List ℕ → net_store.Memory → Outcome net_store.Memory net_store.Address = λ s t. gives (print_output ended s ∷ []) nowhere t in
      subst (λ r. Agrees U K w AnyAddress (then (items_text C es w.src) (print ended)) r)
      (sym (print_puts S net_oracle is_open.support ended (items_exp T es) w.net))
      (then_agrees U K w SameUnits AnyAddress (items_text C es w.src) (then (target.value_of S net_oracle (items_exp T es) w.net) text_in) (print ended) puts h
      (units_agree w h F es can covers)
      (λ s t w1 x later.
      subst (λ u. Agrees U K w1 AnyAddress (print ended s w1.src) (puts u w1.net)) (sym x)
      (put U K w1 later.match ended s (nat_lt (length s) (2 ^ 31)))))
