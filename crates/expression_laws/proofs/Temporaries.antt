-- Values that are given where a reference is taken: temporaries.
use Rattle.std.proofs.Common.{◌≡◌, ◌⊎◌, inl, inr, refl, sym, ap, subst, ◌∙◌, Bool, true, false, cond, ◌||◌, true≢false, List, [], ◌++◌, append-nil}
use Rattle.vb_tree.specs.BoundTree as types
use Rattle.vb_tree.specs.BoundTree.{Ty}
use Rattle.bound_tree.specs.Tree.{Expr, typed, convert, by_reference}
use Rattle.bound_tree.specs.Tree as bound
use Rattle.bound_facts.specs.Node.{is_array_type, type_at}
use Rattle.net_tree.specs.Tree.{Exp, paren}
use Rattle.net_tree.specs.declared.declaration.NetPassing.{NetPassing}
use Rattle.net_tree.specs.declared.declaration.NetPassing.TheVariants as passing
use Rattle.run_base.specs.Frames.{by_value}
use Rattle.run_base.specs.Outcomes.{Outcome, Output, gives, outputs, outside, raises, spent, then}
use Rattle.vb6_run.specs.Expressions as source
use Rattle.vb6_run.specs.Store.{Memory}
use Rattle.vb6_run.specs.Values.{Value}
use Rattle.net_run.specs.Expressions as target
use Rattle.net_run.specs.Making.{Jobs}
use Rattle.net_run.specs.Names.{Scope, at_address, found_at}
use Rattle.net_run.specs.Shapes as shape
use Rattle.net_run.specs.Store as net
use Rattle.net_run.specs.Values as net_value
use Rattle.written_trees.specs.Arguments.{argument_exp, copy_by, has_address, in_parentheses, is_conversion, kept, needs_copy, temporary_exp}
use Rattle.written_trees.specs.Exprs.{exp_of}
use Rattle.written_trees.specs.Names as written_names
use Rattle.run_matches.specs.CoveredVariables.{covers_type}
use Rattle.run_matches.specs.Maps.{World}
use Rattle.run_matches.specs.Pledges.{NetGiven}
use Rattle.agreeing_laws.specs.Promises.{Yields}
use Rattle.agreeing_laws.proofs.Outputs.{outputs_then}
use Rattle.row_laws.proofs.Composing.{then_assoc, then_gives}
use Rattle.run_statements.specs.Frames.{passing_by}
use Rattle.expression_laws.proofs.Calls.{argument_is, given_is}
use Rattle.expression_laws.proofs.Handled.{Handed, Handles, IsHandled, handled, handled_given, handled_place, paren_handled}
use Rattle.expression_laws.proofs.NoPlaces.{NoPlace, yields_then}
use Rattle.expression_laws.proofs.Seen.{IsSeen, leads, leaves}

-- ---- what goes as a value

-- what is given is a value, which an address without a place has
pub record IsTaken (t : Outcome net.Memory NetGiven) (v : Outcome net.Memory net_value.Value) : Type 0 where
  pub address : Outcome net.Memory net.Address
  pub goes : t ≡ Handed address
  pub no_place : Yields NoPlace address
  pub value : then address target.read ≡ v

-- so it is, or the source has left before, and what is written has put out the same until then
pub data GoesAsValue (s : Outcome Memory Value) (t : Outcome net.Memory NetGiven) (v : Outcome net.Memory net_value.Value) : Type 0 where
  goes_as : IsTaken t v → GoesAsValue s t v
  goes_out : (o rest : List Output) → s ≡ outside o → outputs t ≡ o ++ rest → GoesAsValue s t v

-- the parameter takes a value
value_taken : (t : Outcome net.Memory NetGiven) (v : Outcome net.Memory net_value.Value) → t ≡ then v (λ y w. gives [] (by_value y) w) → IsTaken t v
value_taken t v e =
    let as_address = λ (y : net_value.Value) (w : net.Memory). gives [] (net.constant shape.shapeless y) w in
    record {
      address = then v as_address;
      goes = e ∙ sym (then_assoc v as_address (λ a w. gives [] (target.given_by a) w));
      no_place = yields_then v as_address (λ y w. tt);
      value = then_assoc v as_address target.read ∙ then_gives v;
    }

module _ (S : Scope) (oracle : Jobs) where
  -- parentheses make no other value
  in_value : (r : Outcome net.Memory net.Address)
      → target.value_from S oracle (then r (λ a w. gives [] (found_at (at_address (net.constant (net.shape_at a) (net.looked_up a w)))) w)) ≡ then r target.read
  in_value (gives o a w) =
      ap (λ q. gives q (net.looked_up a w) w)
      (append-nil (((o ++ []) ++ []) ++ []) ∙ append-nil ((o ++ []) ++ []) ∙ append-nil (o ++ []))
  in_value (raises o e w) = refl
  in_value (spent o w) = refl
  in_value (outside o) = refl

  abbrev Taken : Exp → Exp → net.Memory → Type 0
  Taken x e w = IsTaken (target.given S oracle passing.Reference (target.reach S oracle false x w)) (target.value_of S oracle e w)

  alone : (e : Exp) (w : net.Memory) → Yields IsHandled (target.reach S oracle false e w) → Taken e e w
  alone e w y = record {
    address = target.address_of S oracle e w;
    goes = handled_given S oracle (target.reach S oracle false e w) y;
    no_place = handled_place S oracle (target.reach S oracle false e w) y;
    value = refl;
  }

  in_parens : (e : Exp) (w : net.Memory) → Taken (paren e) e w
  in_parens e w =
      let y : Yields IsHandled (target.reach S oracle false (paren e) w) = paren_handled S oracle e w in
      record {
        address = target.address_of S oracle (paren e) w;
        goes = handled_given S oracle (target.reach S oracle false (paren e) w) y;
        no_place = handled_place S oracle (target.reach S oracle false (paren e) w) y;
        value = in_value (target.address_of S oracle e w);
      }

  module _ (C : source.Context) (T : written_names.Scope) (e : Expr) (uncopied : needs_copy T.facts e ≡ false) (w : World)
      (handles : has_address T.declarations (kept e) ≡ false → Handles S (IsSeen C S oracle w e) (exp_of T e)) where
    abbrev GoesFor : Exp → Type 0
    GoesFor x =
        GoesAsValue (source.value_of C e w.src) (target.given S oracle passing.Reference (target.reach S oracle false x w.net))
        (target.value_of S oracle (exp_of T e) w.net)

    seen_goes : IsSeen C S oracle w e (exp_of T e) → GoesFor (exp_of T e)
    seen_goes (leads y) = goes_as (alone (exp_of T e) w.net y)
    seen_goes (leaves o rest is out) =
        let r = target.reach S oracle false (exp_of T e) w.net in
        let x = outputs_then o rest r (target.referred_parts S oracle) out in
        let y = outputs_then o x.0 (then r (target.referred_parts S oracle)) target.finished x.1 in
        let z = outputs_then o y.0 (then (then r (target.referred_parts S oracle)) target.finished) (λ a w. gives [] (target.given_by a) w) y.1 in
        goes_out o z.0 (ap (λ q. then q (source.value_in C e)) is) z.1

    by_test : (b : Bool) → (b ≡ false → Handles S (IsSeen C S oracle w e) (exp_of T e)) → GoesFor (in_parentheses b (exp_of T e))
    by_test true h = goes_as (in_parens (exp_of T e) w.net)
    by_test false h = by (handled S oracle (IsSeen C S oracle w e) (exp_of T e) (h refl) w.net)
      where
        by : Yields IsHandled (target.reach S oracle false (exp_of T e) w.net) ⊎ IsSeen C S oracle w e (exp_of T e) → GoesFor (exp_of T e)
        by (inl y) = goes_as (alone (exp_of T e) w.net y)
        by (inr s) = seen_goes s

    -- what has an address is in parentheses
    pub temporary_goes : GoesFor (temporary_exp T e (exp_of T e))
    temporary_goes =
        subst (λ b. GoesFor (cond b (copy_by (type_at e) (exp_of T e)) (in_parentheses (has_address T.declarations (kept e)) (exp_of T e))))
        (sym uncopied) (by_test (has_address T.declarations (kept e)) handles)

-- ---- conversions that are given by reference

no_array : (ty : Ty) → covers_type ty ≡ true → is_array_type ty ≡ false
no_array (types.array e rank) h = absurd (true≢false (sym h))
no_array _ h = refl

-- they are written as temporaries
pub conversion_written : (T : written_names.Scope) (referred : Bool) (e : Expr) (a : Exp) → covers_type (type_at e) ≡ true → is_conversion e ≡ true
    → argument_exp T referred (by_reference e) a ≡ temporary_exp T e a
conversion_written T referred (typed ty (convert to e)) a covers h = ap (λ b. cond (b || false) a (temporary_exp T (typed ty (convert to e)) a)) (no_array ty covers)
conversion_written T referred (typed ty _) a covers h = absurd (true≢false (sym h))

-- and given as values
pub conversion_given : (C : source.Context) (quiet : Bool) (e : Expr) (w : Memory) → covers_type (type_at e) ≡ true → is_conversion e ≡ true
    → source.argument_of C quiet (by_reference e) w ≡ then (source.value_of C e w) (λ x w. gives [] (by_value x) w)
conversion_given C quiet (typed ty (convert to e)) w covers h =
    ap (λ b. then (source.parts_of C (typed ty (convert to e)) w) (source.given_parts C quiet (typed ty (convert to e)) (b || false))) (no_array ty covers)
    ∙ sym (then_assoc (source.parts_of C (typed ty (convert to e)) w) (source.value_in C (typed ty (convert to e))) (λ x w. gives [] (by_value x) w))
conversion_given C quiet (typed ty _) w covers h = absurd (true≢false (sym h))

-- ---- arguments

module _ (C : source.Context) (S : Scope) (oracle : Jobs) (T : written_names.Scope) (e : Expr) (uncopied : needs_copy T.facts e ≡ false) (w : World)
    (handles : has_address T.declarations (kept e) ≡ false → Handles S (IsSeen C S oracle w e) (exp_of T e)) where
  abbrev Goes : NetPassing → bound.Argument → Bool → Type 0
  Goes mode a referred =
      GoesAsValue (source.value_of C e w.src) (target.given S oracle mode (target.reach S oracle false (argument_exp T referred a (exp_of T e)) w.net))
      (target.value_of S oracle (exp_of T e) w.net)

  -- in parentheses it is the same value
  by_value_goes : (mode : NetPassing) (b : Bool) → mode ≡ passing.Value
      → GoesAsValue (source.value_of C e w.src) (target.given S oracle mode (target.reach S oracle false (in_parentheses b (exp_of T e)) w.net))
      (target.value_of S oracle (exp_of T e) w.net)
  by_value_goes mode b m =
      goes_as
      (value_taken (target.given S oracle mode (target.reach S oracle false (in_parentheses b (exp_of T e)) w.net)) (target.value_of S oracle (exp_of T e) w.net)
      (given_is S oracle mode (in_parentheses b (exp_of T e)) w.net m ∙ ap (λ r. then r (λ v w. gives [] (by_value v) w)) (alike b)))
    where
      alike : (b : Bool) → target.value_of S oracle (in_parentheses b (exp_of T e)) w.net ≡ target.value_of S oracle (exp_of T e) w.net
      alike true = in_value S oracle (target.address_of S oracle (exp_of T e) w.net)
      alike false = refl

  -- a value goes as one, whatever its parameter takes
  pub value_goes : (b : Bool) (mode : NetPassing) (referred : Bool) → mode ≡ passing_by b → (b ≡ true → referred ≡ true)
      → Goes mode (bound.by_value e) referred
  value_goes true mode referred m r =
      subst (λ z. Goes z (bound.by_value e) referred) (sym m)
      (subst (λ z. Goes passing.Reference (bound.by_value e) z) (sym (r refl)) (temporary_goes S oracle C T e uncopied w handles))
  value_goes false mode true m r =
      subst (λ b. GoesAsValue (source.value_of C e w.src)
      (target.given S oracle mode
      (target.reach S oracle false (cond b (copy_by (type_at e) (exp_of T e)) (in_parentheses (has_address T.declarations (kept e)) (exp_of T e))) w.net))
      (target.value_of S oracle (exp_of T e) w.net)) (sym uncopied) (by_value_goes mode (has_address T.declarations (kept e)) m)
  value_goes false mode false m r =
      goes_as
      (value_taken (target.given S oracle mode (target.reach S oracle false (argument_exp T false (bound.by_value e) (exp_of T e)) w.net))
      (target.value_of S oracle (exp_of T e) w.net)
      (ap (λ z. target.given S oracle mode (target.reach S oracle false z w.net)) (argument_is T false e refl uncopied)
      ∙ given_is S oracle mode (exp_of T e) w.net m))

  -- so does a conversion that is given by reference, where a value is taken
  pub conversion_as_value : (mode : NetPassing) (referred : Bool) → covers_type (type_at e) ≡ true → mode ≡ passing.Value → is_conversion e ≡ true
      → Goes mode (by_reference e) referred
  conversion_as_value mode referred covers m is =
      subst (λ z. GoesAsValue (source.value_of C e w.src) (target.given S oracle mode (target.reach S oracle false z w.net))
      (target.value_of S oracle (exp_of T e) w.net)) (sym (conversion_written T referred e (exp_of T e) covers is))
      (subst (λ b. GoesAsValue (source.value_of C e w.src)
      (target.given S oracle mode
      (target.reach S oracle false (cond b (copy_by (type_at e) (exp_of T e)) (in_parentheses (has_address T.declarations (kept e)) (exp_of T e))) w.net))
      (target.value_of S oracle (exp_of T e) w.net)) (sym uncopied) (by_value_goes mode (has_address T.declarations (kept e)) m))

  -- and where a reference is
  pub conversion_goes : (mode : NetPassing) (referred : Bool) → covers_type (type_at e) ≡ true → mode ≡ passing.Reference → is_conversion e ≡ true
      → Goes mode (by_reference e) referred
  conversion_goes mode referred covers m is =
      subst (λ z. Goes z (by_reference e) referred) (sym m)
      (subst (λ z. GoesAsValue (source.value_of C e w.src) (target.given S oracle passing.Reference (target.reach S oracle false z w.net))
      (target.value_of S oracle (exp_of T e) w.net))
      (sym (conversion_written T referred e (exp_of T e) covers is)) (temporary_goes S oracle C T e uncopied w handles))
