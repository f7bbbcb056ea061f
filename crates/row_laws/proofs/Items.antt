-- What is put out by what is written for a Debug.Print.
use Rattle.std.proofs.Common.{◌≡◌, ℕ, Bool, true, false, List, [], ◌∷◌, ◌++◌, map, codes, Some, refl, sym, ap, ◌∙◌, append_assoc}
use Rattle.std.proofs.lemmas.List.{append-nil}
use Rattle.vb6_meaning.specs.Answers.{then_answer}
use Rattle.bound_tree.specs.Tree.{Expr}
use Rattle.net_tree.specs.declared.expression.NetBin.TheVariants as op
use Rattle.net_tree.specs.declared.expression.OpN.TheVariants.{Bin}
use Rattle.net_tree.specs.Tree.{Exp}
use Rattle.net_tree.specs.Tree as net
use Rattle.net_meaning.specs.declared.value.ValueN.TheVariants as n
use Rattle.net_meaning.specs.Operators.{operate_net}
use Rattle.run_base.specs.Frames.{by_value}
use Rattle.run_base.specs.Outcomes.{Output, Outcome, gives, after, then, answered}
use Rattle.written_trees.specs.Conversions.{one, support_call}
use Rattle.written_trees.specs.Lines.{printed_item, joined_items, items_exp, print_name}
use Rattle.written_trees.specs.Names as written
use Rattle.net_run.specs.Values.{Value, unknown, single, fields}
use Rattle.net_run.specs.Store.{Memory, Does, nowhere}
use Rattle.net_run.specs.Names.{Scope, Reached, Callee, to_support, called, at_address}
use Rattle.net_run.specs.Making.{Jobs}
use Rattle.net_run.specs.Functions.{puts_out, support_function, passing_of_some}
use Rattle.net_run.specs.Calls.{Arguments, performed, some_function, singles_given, on_one, put_out, text_of}
use Rattle.net_run.specs.Expressions.{finished, parts_by, address_from, address_of, value_of, args_of, call_parts}
use Rattle.row_laws.specs.Uncaptured.{IsUncaptured}
use Rattle.row_laws.specs.Follows.{on_values}
use Rattle.row_laws.specs.Items.{text_in, only_text, GivesText, AllGiveText, texts_of, print_output}
use Rattle.row_laws.proofs.Composing.{after_nil, then_assoc, then_gives}
use Rattle.row_laws.proofs.Values.{binary_gives}
use Rattle.row_laws.proofs.Calls.{one_given, call_reached}
use Rattle.row_laws.proofs.Support.{support_start}

-- ---- two texts

abbrev joined : List ℕ → List ℕ → Does Value
joined p q w = gives [] (single (n.Str (p ++ q))) w

behind_text : (s : List ℕ) (v : Value) (w : Memory) → then (only_text v w) (on_values (operate_net (Bin op.Concat)) (single (n.Str s))) ≡ then (text_in v w) (joined s)
behind_text s (single (n.Str t)) w = refl
behind_text s (single n.Nothing) w = refl
behind_text s (single (n.Boolean b)) w = refl
behind_text s (single (n.Byte m)) w = refl
behind_text s (single (n.Short z)) w = refl
behind_text s (single (n.Integer z)) w = refl
behind_text s (single (n.Long z)) w = refl
behind_text s (single (n.Decimal m k)) w = refl
behind_text s (single (n.Object k)) w = refl
behind_text s (single (n.Array k)) w = refl
behind_text s unknown w = refl
behind_text s (fields vs) w = refl

behind_nothing : (v : Value) (w : Memory) → then (only_text v w) (on_values (operate_net (Bin op.Concat)) (single n.Nothing)) ≡ then (text_in v w) (joined [])
behind_nothing (single (n.Str t)) w = refl
behind_nothing (single n.Nothing) w = refl
behind_nothing (single (n.Boolean b)) w = refl
behind_nothing (single (n.Byte m)) w = refl
behind_nothing (single (n.Short z)) w = refl
behind_nothing (single (n.Integer z)) w = refl
behind_nothing (single (n.Long z)) w = refl
behind_nothing (single (n.Decimal m k)) w = refl
behind_nothing (single (n.Object k)) w = refl
behind_nothing (single (n.Array k)) w = refl
behind_nothing unknown w = refl
behind_nothing (fields vs) w = refl

module _ (S : Scope) (oracle : Jobs) where
  -- the units of what is written
  abbrev text : Exp → Does (List ℕ)
  text e w = then (value_of S oracle e w) text_in

  second : (u : Value) (s : List ℕ) (b : Exp) → GivesText S oracle b
      → ((v : Value) (w : Memory) → then (only_text v w) (on_values (operate_net (Bin op.Concat)) u) ≡ then (text_in v w) (joined s))
      → (w : Memory) → then (value_of S oracle b w) (on_values (operate_net (Bin op.Concat)) u) ≡ then (text b w) (joined s)
  second u s b is h w =
      ap (λ z. then z (on_values (operate_net (Bin op.Concat)) u)) (is w)
      ∙ then_assoc (value_of S oracle b w) only_text (on_values (operate_net (Bin op.Concat)) u)
      ∙ ap (λ k. then (value_of S oracle b w) k) (λ i v w. h v w i)
      ∙ sym (then_assoc (value_of S oracle b w) text_in (joined s))

  abbrev behind : Exp → Value → Does Value
  behind b u w = then (value_of S oracle b w) (on_values (operate_net (Bin op.Concat)) u)

  first : (b : Exp) → GivesText S oracle b → (u : Value) (w : Memory) → then (only_text u w) (behind b) ≡ then (text_in u w) (λ p w. then (text b w) (joined p))
  first b is (single (n.Str s)) w = ap (λ z. after [] z) (second (single (n.Str s)) s b is (behind_text s) w)
  first b is (single n.Nothing) w = ap (λ z. after [] z) (second (single n.Nothing) [] b is behind_nothing w)
  first b is (single (n.Boolean p)) w = refl
  first b is (single (n.Byte m)) w = refl
  first b is (single (n.Short z)) w = refl
  first b is (single (n.Integer z)) w = refl
  first b is (single (n.Long z)) w = refl
  first b is (single (n.Decimal m k)) w = refl
  first b is (single (n.Object k)) w = refl
  first b is (single (n.Array k)) w = refl
  first b is unknown w = refl
  first b is (fields vs) w = refl

  both : (a b : Exp) → GivesText S oracle a → GivesText S oracle b → (w : Memory) → value_of S oracle (net.binary op.Concat a b) w ≡ then (text a w) (λ p w. then (text b w) (joined p))
  both a b is_a is_b w =
      binary_gives S oracle op.Concat a b w
      ∙ ap (λ z. then z (behind b)) (is_a w)
      ∙ then_assoc (value_of S oracle a w) only_text (behind b)
      ∙ ap (λ k. then (value_of S oracle a w) k) (λ i u w. first b is_b u w i)
      ∙ sym (then_assoc (value_of S oracle a w) text_in (λ p w. then (text b w) (joined p)))

  both_behind : {A : Type 0} (a b : Exp) → GivesText S oracle a → GivesText S oracle b → (w : Memory) (k : Value → Does A)
      → then (value_of S oracle (net.binary op.Concat a b) w) k ≡ then (text a w) (λ p w. then (text b w) (λ q w. then (joined p q w) k))
  both_behind a b is_a is_b w k =
      ap (λ z. then z k) (both a b is_a is_b w)
      ∙ then_assoc (text a w) (λ p w. then (text b w) (joined p)) k
      ∙ ap (λ j. then (text a w) j) (λ i p w. then_assoc (text b w) (joined p) k i)

  both_text : (a b : Exp) → GivesText S oracle a → GivesText S oracle b → GivesText S oracle (net.binary op.Concat a b)
  both_text a b is_a is_b w = both a b is_a is_b w ∙ sym (both_behind a b is_a is_b w only_text)

  text_of_both : (a b : Exp) → GivesText S oracle a → GivesText S oracle b → (w : Memory) → text (net.binary op.Concat a b) w ≡ then (text a w) (λ p w. then (text b w) (λ q w. gives [] (p ++ q) w))
  text_of_both a b is_a is_b w = both_behind a b is_a is_b w text_in

  -- ---- many texts

  abbrev more : Outcome Memory (List ℕ) → List Exp → Outcome Memory (List ℕ)
  more r es = then r (λ p w. then (texts_of S oracle es w) (λ rest w. gives [] (p ++ rest) w))

  abbrev one_more : Outcome Memory (List ℕ) → Exp → Outcome Memory (List ℕ)
  one_more r e = then r (λ p w. then (text e w) (λ q w. gives [] (p ++ q) w))

  -- one more item is one of the text
  regrouped : (r : Outcome Memory (List ℕ)) (e : Exp) (es : List Exp) → more (one_more r e) es ≡ more r (e ∷ es)
  regrouped r e es =
      then_assoc r (λ p w. then (text e w) (λ q w. gives [] (p ++ q) w)) (λ p w. then (texts_of S oracle es w) (λ rest w. gives [] (p ++ rest) w))
      ∙ ap (λ k. then r k) (λ i p w. then_assoc (text e w) (λ q w. gives [] (p ++ q) w) (λ p w. then (texts_of S oracle es w) (λ rest w. gives [] (p ++ rest) w)) i)
      ∙ ap (λ k. then r k) (λ i p w. then (text e w) (λ q w. after_nil (then (texts_of S oracle es w) (λ rest w. gives [] ((p ++ q) ++ rest) w)) i))
      ∙ ap (λ k. then r k) (λ i p w. then (text e w) (λ q w. then (texts_of S oracle es w) (λ rest w. gives [] (append_assoc p q rest i) w)))
      ∙ sym (ap (λ k. then r k) (λ i p w. then (text e w) (λ q w. then_assoc (texts_of S oracle es w) (λ rest w. gives [] (q ++ rest) w) (λ all w. gives [] (p ++ all) w) i)))
      ∙ sym (ap (λ k. then r k) (λ i p w. then_assoc (text e w) (λ q w. then (texts_of S oracle es w) (λ rest w. gives [] (q ++ rest) w)) (λ all w. gives [] (p ++ all) w) i))

  no_more : (r : Outcome Memory (List ℕ)) → more r [] ≡ r
  no_more r = ap (λ k. then r k) (λ i p w. gives [] (append-nil p i) w) ∙ then_gives r

  joined_text : (T : written.Scope) (a : Exp) (es : List Expr) → GivesText S oracle a → AllGiveText S oracle (map (printed_item T) es) → (w : Memory)
      → text (joined_items T a es) w ≡ more (text a w) (map (printed_item T) es)
  joined_text T a [] is all w = sym (no_more (text a w))
  joined_text T a (e ∷ es) is all w =
      joined_text T (net.binary op.Concat a (printed_item T e)) es (both_text a (printed_item T e) is all.0) all.1 w
      ∙ ap (λ z. more z (map (printed_item T) es)) (text_of_both a (printed_item T e) is all.0 w)
      ∙ regrouped (text a w) (printed_item T e) (map (printed_item T) es)

  -- the text of a Debug.Print is that of its items, one behind another
  pub items_text : (T : written.Scope) (es : List Expr) → AllGiveText S oracle (map (printed_item T) es) → (w : Memory) → then (value_of S oracle (items_exp T es) w) text_in ≡ texts_of S oracle (map (printed_item T) es) w
  items_text T [] all w = refl
  items_text T (e ∷ es) all w = joined_text T (printed_item T e) es all.0 all.1 w

  -- ---- the line

  address_behind : {A : Type 0} (r : Outcome Memory A) (k : A → Does Reached) → address_from S oracle (then r k) ≡ then r (λ a w. address_from S oracle (k a w))
  address_behind r k = ap (λ z. then z finished) (then_assoc r k (parts_by S oracle)) ∙ then_assoc r (λ a w. then (k a w) (parts_by S oracle)) finished

  called_address : (c : Callee) (gs : Arguments) (w : Memory) → address_from S oracle (gives [] (called c gs) w) ≡ performed S oracle c gs w
  called_address c gs w =
      ap (λ z. then z finished) (after_nil (call_parts S oracle c gs w))
      ∙ then_assoc (performed S oracle c gs w) (λ a w. gives [] (at_address a) w) finished
      ∙ then_gives (performed S oracle c gs w)

  module _ (free : IsUncaptured S) where
    put : (name : List ℕ) (out : List ℕ → Output) → support_function name ≡ Some (puts_out out) → (v : Value) (w : Memory)
        → performed S oracle (to_support name) (by_value v ∷ []) w ≡ then (text_in v w) (put_out out)
    put name out is v w = ap (λ f. some_function S.project oracle name (by_value v ∷ []) f w) is ∙ taken v
      where
        taken : (v : Value) → then (answered (then_answer (singles_given (by_value v ∷ [])) (on_one text_of)) w) (put_out out) ≡ then (text_in v w) (put_out out)
        taken (single x) = refl
        taken unknown = refl
        taken (fields vs) = refl

    pub named_puts : (name : List ℕ) (out : List ℕ → Output) → support_function name ≡ Some (puts_out out) → (e : Exp) (w : Memory)
        → address_of S oracle (support_call name (one e)) w ≡ then (then (value_of S oracle e w) text_in) (put_out out)
    named_puts name out is e w =
        ap (address_from S oracle) (call_reached S oracle (to_support name) (written.support name) (support_start S oracle free name) (ap passing_of_some is) (one e) w)
        ∙ address_behind (args_of S oracle [] (one e) w) (λ gs w. gives [] (called (to_support name) gs) w)
        ∙ ap (λ k. then (args_of S oracle [] (one e) w) k) (λ i gs w. called_address (to_support name) gs w i)
        ∙ ap (λ z. then z (performed S oracle (to_support name))) (one_given S oracle e w)
        ∙ then_assoc (value_of S oracle e w) (λ v w. gives [] (by_value v ∷ []) w) (performed S oracle (to_support name))
        ∙ ap (λ k. then (value_of S oracle e w) k) (λ i v w. after_nil (performed S oracle (to_support name) (by_value v ∷ []) w) i)
        ∙ ap (λ k. then (value_of S oracle e w) k) (λ i v w. put name out is v w i)
        ∙ sym (then_assoc (value_of S oracle e w) text_in (put_out out))

    -- a line that prints puts out its text
    pub print_puts : (ended : Bool) (e : Exp) (w : Memory) → address_of S oracle (support_call (print_name ended) (one e)) w
        ≡ then (then (value_of S oracle e w) text_in) (λ units w. gives (print_output ended units ∷ []) nowhere w)
    print_puts true e w = named_puts (codes "PrintPart") (print_output true) refl e w
    print_puts false e w = named_puts (codes "PrintLine") (print_output false) refl e w
