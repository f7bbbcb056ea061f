-- Conversions, and literals in the place of them.
use Rattle.std.proofs.Common.{◌≡◌, refl, sym, ap, subst, ℕ, Bool, true, false, cond, ◌&&◌, [], Option, Some, None, IfSome}
use Rattle.std.specs.Prelude.{is_some}
use Rattle.vb_tree.specs.BoundTree.{Ty}
use Rattle.vb_tree.specs.declared.value.Value6.{Value6}
use Rattle.vb6_meaning.specs.Answers.{Answer}
use Rattle.vb6_meaning.specs.Answers as value
use Rattle.vb6_meaning.specs.Values.{coerce}
use Rattle.bound_tree.specs.declared.expression.Origin.{Origin}
use Rattle.bound_tree.specs.Tree.{typed, Term, constant, variable, field, element, call, library, unary, binary, convert, new_object, me, with_object, err_number, err_raise, err_clear, is_same, loose}
use Rattle.bound_facts.specs.Locks.{is_same_type}
use Rattle.net_tree.specs.Tree.{Exp}
use Rattle.net_meaning.specs.declared.value.ValueN.{ValueN}
use Rattle.net_meaning.specs.declared.value.ValueN.TheVariants as net_scalar
use Rattle.net_meaning.specs.SameValues.{IsGiven}
use Rattle.net_meaning.specs.SameValues as values
use Rattle.net_meaning.specs.ValueMatch.{Matches, booleans, bytes, integers, longs, currencies, texts, empty_text, fixed_texts, no_object, no_object_of, nothing, objects, objects_of, in_variant_empty, in_variant_boolean, in_variant_byte, in_variant_integer, in_variant_long, in_variant_currency, in_variant_text}
use Rattle.net_meaning.specs.WrittenLiterals.{is_within, type_of_constant}
use Rattle.net_meaning.specs.WrittenRows.{Row, evaluate, write_conversion}
use Rattle.meaning_laws.proofs.ConversionRows.{conversion}
use Rattle.run_base.specs.Outcomes.{Outcome, gives, after, then}
use Rattle.vb6_run.specs.Expressions as source
use Rattle.vb6_run.specs.Expressions.{Context, at_address, declared, type_shape}
use Rattle.vb6_run.specs.Store as store
use Rattle.vb6_run.specs.Store.{Memory, provided}
use Rattle.vb6_run.specs.Values.{scalar, is_of_shape}
use Rattle.net_run.specs.Expressions as target
use Rattle.net_run.specs.Making.{Jobs}
use Rattle.net_run.specs.Names as net_names
use Rattle.net_run.specs.Store as net
use Rattle.net_run.specs.Values as net_value
use Rattle.written_trees.specs.Conversions as written
use Rattle.written_trees.specs.Conversions.{converted, literal_or, applied}
use Rattle.written_trees.specs.Literals.{is_whole, takes_literals, literal_of, literal_as, written_constant, is_hexadecimal}
use Rattle.run_matches.specs.Agreeing.{Agrees}
use Rattle.run_matches.specs.CoveredVariables.{covers_type}
use Rattle.run_matches.specs.Likeness.{are_same, like_scalar}
use Rattle.run_matches.specs.Maps.{World}
use Rattle.run_matches.specs.Match.{MemoryMatch}
use Rattle.run_matches.specs.Pledges.{Pledge}
use Rattle.run_matches.specs.Upgrades.{Upgrade}
use Rattle.run_statements.specs.Frames.{PlainMatch, IsOpen}
use Rattle.agreeing_laws.proofs.Agreeing.{agrees_gives, agrees_outside, left_alone}
use Rattle.row_laws.specs.Constants.{is_literal, Literal}
use Rattle.row_laws.specs.Follows.{Any, RowOfOne}
use Rattle.row_laws.proofs.Stated as rows
use Rattle.run_matches.specs.Formed.{is_formed}
use Rattle.expression_laws.proofs.Types.{both_true, same_as, covered_typed}
use Rattle.expression_laws.proofs.Checks.{TermMatch}
use Rattle.expression_laws.proofs.RowsAgree.{At, one_agrees}

-- ---- constants

-- what is known of a constant that is well formed
pub record IsConstant (ty : Ty) (x : Value6) : Type 0 where
  pub within : is_within x ≡ true
  pub literal : is_literal x ≡ true
  pub is_type : type_of_constant x ≡ ty

pub formed_constant : (ty : Ty) (x : Value6) (origin : Origin) → covers_type ty ≡ true → is_formed (typed ty (constant x origin)) ≡ true → IsConstant ty x
formed_constant ty x origin covers h =
    let all = both_true (is_same_type (type_of_constant x) ty) (is_within x && is_literal x) h in
    let rest = both_true (is_within x) (is_literal x) all.1 in
    record { within = rest.0; literal = rest.1; is_type = same_as (type_of_constant x) ty covers all.0 }

-- a value of a type that takes literals is a constant of it
pub literal_held : (same : ℕ → ℕ → Bool) (to : Ty) (y : Value6) (q : ValueN) → Matches same to y q → takes_literals to ≡ true → IsConstant to y
literal_held same _ _ _ (booleans x) h = absurd (cc h)
literal_held same _ _ _ (bytes m e) h = absurd (cc h)
literal_held same _ _ _ (integers z e) h = absurd (cc h)
literal_held same _ _ _ (longs z e) h = record { within = e; literal = refl; is_type = refl }
literal_held same _ _ _ (currencies z m s e d) h = record { within = e; literal = refl; is_type = refl }
literal_held same _ _ _ (texts units) h = absurd (cc h)
literal_held same _ _ _ empty_text h = absurd (cc h)
literal_held same _ _ _ (fixed_texts units) h = absurd (cc h)
literal_held same _ _ _ no_object h = absurd (cc h)
literal_held same _ _ _ (no_object_of k) h = absurd (cc h)
literal_held same _ _ _ nothing h = absurd (cc h)
literal_held same _ _ _ (objects i j e) h = absurd (cc h)
literal_held same _ _ _ (objects_of k i j e) h = absurd (cc h)
literal_held same _ _ _ in_variant_empty h = absurd (cc h)
literal_held same _ _ _ (in_variant_boolean x) h = absurd (cc h)
literal_held same _ _ _ (in_variant_byte m e) h = absurd (cc h)
literal_held same _ _ _ (in_variant_integer z e) h = absurd (cc h)
literal_held same _ _ _ (in_variant_long z e) h = absurd (cc h)
literal_held same _ _ _ (in_variant_currency z m s e d) h = absurd (cc h)
literal_held same _ _ _ (in_variant_text units) h = absurd (cc h)

-- a literal stands in the place of conversions to such types alone
takes_literal : (to from : Ty) (t : Term) (l : Exp) → literal_as to (typed from t) ≡ Some l → takes_literals to ≡ true
takes_literal to from t l h = by_test (takes_literals to) h
  where
    by_test : (b : Bool) → cond (b && is_whole from) (literal_of to t) None ≡ Some l → b ≡ true
    by_test true h = refl
    by_test false h = absurd (cc h)

-- a value that a conversion gives has one that matches
abbrev HasMatch : (same : ℕ → ℕ → Bool) → Ty → Value6 → Type 0
HasMatch same to y = (u : ValueN) × Matches same to y u

given_match : (same : ℕ → ℕ → Bool) (to : Ty) (y : Value6) (a : Answer Value6) (o : Option Row) (x z : ValueN) → is_some o ≡ true → a ≡ value.gives y
    → IsGiven same to a o x z → HasMatch same to y
given_match same to y a None x z some is h = absurd (cc some)
given_match same to y a (Some r) x z some is h =
    let given : values.Agrees (Matches same to) (value.gives y) (evaluate r x z) = subst (λ q. values.Agrees (Matches same to) q (evaluate r x z)) is h in
    (given.0, given.2)

module _ (U : Upgrade) (K : Pledge) (S : net_names.Scope) (oracle : Jobs) (opened : IsOpen S) where
  -- what is written for a constant, as the value of a term
  pub constant_agrees : (w : World) (ty : Ty) (x : Value6) (origin : Origin) → IsConstant ty x → MemoryMatch U w
      → Agrees U K w (TermMatch U ty) (gives [] (at_address (store.constant (scalar ty x))) w.src) (target.value_of S oracle (written_constant x origin) w.net)
  constant_agrees w ty x origin h start =
      let given = rows.constant_is_given x S oracle opened.texts (are_same w) (is_hexadecimal origin) h.within h.literal in
      let m : At w ty x given.0 = subst (λ q. Matches (are_same w) q x given.0) h.is_type given.2 in
      subst (λ q. Agrees U K w (TermMatch U ty) (gives [] (at_address (store.constant (scalar ty x))) w.src) q) (sym (given.1 w.net))
      (agrees_gives U K w (TermMatch U ty) (at_address (store.constant (scalar ty x))) (net_value.single given.0) start (x, refl, like_scalar ty x given.0 m))

  -- ---- conversions by rows

  row_agrees : (from to : Ty) (o : Option Row) (whole first : Exp) (r : Outcome Memory Value6) (w : World) → is_some o ≡ true
      → IfSome o (λ q. RowOfOne S oracle Any whole first (λ x. evaluate q x net_scalar.Nothing))
      → ((v : World) (z : Value6) (x : ValueN) → At v from z x → IsGiven (are_same v) to (coerce z to) o x net_scalar.Nothing) → MemoryMatch U w
      → Agrees U K w (PlainMatch U from) r (target.value_of S oracle first w.net)
      → Agrees U K w (TermMatch U to) (then r (λ z v. source.answer_as to (coerce z to) v)) (target.value_of S oracle whole w.net)
  row_agrees from to None whole first r w some h law start operand = absurd (cc some)
  row_agrees from to (Some q) whole first r w some h law start operand =
      one_agrees U K S oracle from to (λ z. coerce z to) (λ x. evaluate q x net_scalar.Nothing) whole first r w h law start operand

  -- ---- literals

  -- the source converts the constant
  literal_source : (C : Context) (from to : Ty) (x : Value6) (w : World) (b : Bool) (r' : Outcome net.Memory net_value.Value)
      → Agrees U K w (TermMatch U to) (source.answer_as to (coerce x to) w.src) r'
      → Agrees U K w (TermMatch U to)
      (then (after [] (then (after [] (provided b (λ v. gives [] (scalar from x) v) w.src)) source.scalar_of)) (λ z v. source.answer_as to (coerce z to) v)) r'
  literal_source C from to x w true r' h = left_alone U K w (TermMatch U to) (source.answer_as to (coerce x to) w.src) r' h
  literal_source C from to x w false r' h = agrees_outside U K w (TermMatch U to) r'

  literal_agrees : (C : Context) (from to : Ty) (x : Value6) (origin : Origin) (l : Exp) (w : World) → covers_type from ≡ true
      → IsConstant from x → is_some (write_conversion from to) ≡ true → takes_literals to ≡ true → Literal to (constant x origin) l → MemoryMatch U w
      → Agrees U K w (TermMatch U to) (then (source.scalar_value C (typed from (constant x origin)) w.src) (λ z v. source.answer_as to (coerce z to) v))
      (target.value_of S oracle l w.net)
  literal_agrees C from to x origin l w covers h some takes stands start =
      let given = rows.constant_is_given x S oracle opened.texts (are_same w) false h.within h.literal in
      let m : At w from x given.0 = subst (λ q. Matches (are_same w) q x given.0) h.is_type given.2 in
      let y : HasMatch (are_same w) to stands.0 =
      given_match (are_same w) to stands.0 (coerce x to) (write_conversion from to) given.0 net_scalar.Nothing some stands.1
      (conversion (are_same w) to from x given.0 net_scalar.Nothing (covered_typed from covers) m) in
      let k : IsConstant to stands.0 = literal_held (are_same w) to stands.0 y.0 y.1 takes in
      subst (λ e. Agrees U K w (TermMatch U to) (then (source.scalar_value C (typed from (constant x origin)) w.src) (λ z v. source.answer_as to (coerce z to) v))
      (target.value_of S oracle e w.net)) stands.2
      (literal_source C from to x w (is_of_shape (type_shape (declared C) from) (scalar from x)) (target.value_of S oracle (written_constant stands.0 origin) w.net)
      (subst (λ a. Agrees U K w (TermMatch U to) (source.answer_as to a w.src) (target.value_of S oracle (written_constant stands.0 origin) w.net)) (sym stands.1)
      (constant_agrees w to stands.0 origin k start)))

  literal_term_agrees : (C : Context) (from to : Ty) (t : Term) (l : Exp) (w : World) → covers_type from ≡ true → is_formed (typed from t) ≡ true
      → is_some (write_conversion from to) ≡ true → takes_literals to ≡ true → Literal to t l → MemoryMatch U w
      → Agrees U K w (TermMatch U to) (then (source.scalar_value C (typed from t) w.src) (λ z v. source.answer_as to (coerce z to) v))
      (target.value_of S oracle l w.net)
  literal_term_agrees C from to (constant x origin) l w covers formed some takes h start =
      literal_agrees C from to x origin l w covers (formed_constant from x origin covers formed) some takes h start
  literal_term_agrees C from to (variable v qualified) l w covers formed some takes h start = absurd h
  literal_term_agrees C from to (field e j) l w covers formed some takes h start = absurd h
  literal_term_agrees C from to (element e indexes) l w covers formed some takes h start = absurd h
  literal_term_agrees C from to (call p qualified of args) l w covers formed some takes h start = absurd h
  literal_term_agrees C from to (library f args) l w covers formed some takes h start = absurd h
  literal_term_agrees C from to (unary o e) l w covers formed some takes h start = absurd h
  literal_term_agrees C from to (binary o d e) l w covers formed some takes h start = absurd h
  literal_term_agrees C from to (convert t e) l w covers formed some takes h start = absurd h
  literal_term_agrees C from to (new_object c) l w covers formed some takes h start = absurd h
  literal_term_agrees C from to me l w covers formed some takes h start = absurd h
  literal_term_agrees C from to (with_object r) l w covers formed some takes h start = absurd h
  literal_term_agrees C from to err_number l w covers formed some takes h start = absurd h
  literal_term_agrees C from to (err_raise e) l w covers formed some takes h start = absurd h
  literal_term_agrees C from to err_clear l w covers formed some takes h start = absurd h
  literal_term_agrees C from to (is_same d e) l w covers formed some takes h start = absurd h
  literal_term_agrees C from to (loose e rules) l w covers formed some takes h start = absurd h

  -- ---- conversions

  pub conversion_agrees : (C : Context) (from to : Ty) (t : Term) (a : Exp) (w : World) → covers_type from ≡ true → is_formed (typed from t) ≡ true
      → is_some (write_conversion from to) ≡ true → MemoryMatch U w
      → Agrees U K w (PlainMatch U from) (source.scalar_value C (typed from t) w.src) (target.value_of S oracle a w.net)
      → Agrees U K w (TermMatch U to) (then (source.scalar_value C (typed from t) w.src) (λ z v. source.answer_as to (coerce z to) v))
      (target.value_of S oracle (converted to (typed from t) a) w.net)
  conversion_agrees C from to t a w covers formed some start operand = by_literal (literal_as to (typed from t)) refl
    where
      by_literal : (o : Option Exp) → literal_as to (typed from t) ≡ o
          → Agrees U K w (TermMatch U to) (then (source.scalar_value C (typed from t) w.src) (λ z v. source.answer_as to (coerce z to) v))
          (target.value_of S oracle (converted to (typed from t) a) w.net)
      by_literal None is =
          row_agrees from to (write_conversion from to) (converted to (typed from t) a) a (source.scalar_value C (typed from t) w.src) w some
          (rows.converted_is_row to S oracle opened.support (typed from t) a net_scalar.Nothing is)
          (λ v z x m. conversion (are_same v) to from z x net_scalar.Nothing (covered_typed from covers) m) start operand
      by_literal (Some l) is =
          subst (λ e. Agrees U K w (TermMatch U to) (then (source.scalar_value C (typed from t) w.src) (λ z v. source.answer_as to (coerce z to) v))
          (target.value_of S oracle e w.net)) (sym (ap (λ o. literal_or o (applied (written.conversion from to) a)) is))
          (literal_term_agrees C from to t l w covers formed some (takes_literal to from t l is) (rows.literal_is_constant to from t l is) start)
