-- The values of terms, which are checked to be of their expressions' types.
use Rattle.std.proofs.Common.{◌≡◌, ◌∙◌, refl, sym, ap, subst, ℕ, Bool, true, false, ◌&&◌, [], Option, Some, None}
use Rattle.vb_tree.specs.BoundTree.{Ty}
use Rattle.vb_tree.specs.declared.value.Value6.{Value6}
use Rattle.bound_tree.specs.Tree.{Expr, typed, Term}
use Rattle.bound_facts.specs.Locks.{is_same_type}
use Rattle.bound_facts.specs.Node.{declared_in, auto_class, variable_number}
use Rattle.net_meaning.specs.declared.value.ValueN.TheVariants as net_scalar
use Rattle.run_base.specs.Outcomes.{Outcome, gives, after, then}
use Rattle.vb6_run.specs.Expressions as source
use Rattle.vb6_run.specs.Expressions.{Context, Parts, at_address, declared, type_shape}
use Rattle.vb6_run.specs.Shapes.{simple}
use Rattle.vb6_run.specs.Store.{Memory, constant, provided}
use Rattle.vb6_run.specs.Values.{Value, scalar, fields, elements, is_of_shape, is_typed}
use Rattle.net_run.specs.Store as net
use Rattle.net_run.specs.Values as net_value
use Rattle.run_matches.specs.Agreeing.{Agrees}
use Rattle.run_matches.specs.CoveredVariables.{covers_type}
use Rattle.run_matches.specs.Likeness.{LikeV, like_scalar, like_fields, like_elements}
use Rattle.run_matches.specs.Maps.{World}
use Rattle.run_matches.specs.Match.{MemoryMatch}
use Rattle.run_matches.specs.Pledges.{Pledge, Later}
use Rattle.run_matches.specs.Upgrades.{Upgrade}
use Rattle.run_statements.specs.Frames.{ScalarMatch, PlainMatch}
use Rattle.agreeing_laws.proofs.Agreeing.{agrees_gives, agrees_outside, left_alone, then_agrees}
use Rattle.row_laws.proofs.Composing.{then_assoc, then_gives}
use Rattle.expression_laws.proofs.Types.{both_true, same_of, covered_shape}

-- the value of a term, as an address of a constant of a type, and one that stands for it
abbrev pub TermMatch : Upgrade → Ty → World → Parts → net_value.Value → Type 0
TermMatch U ty w p y = (z : Value6) × (p ≡ at_address (constant (scalar ty z))) × LikeV U w (scalar ty z) y

module _ (U : Upgrade) (K : Pledge) where
  -- the source goes on, and the target has done its part
  pub source_then : {A B C : Type 0} (w : World) (R : World → A → B → Type 0) (Q : World → C → B → Type 0) (r : Outcome Memory A) (r' : Outcome net.Memory B)
      (k : A → Memory → Outcome Memory C) → MemoryMatch U w → Agrees U K w R r r'
      → ((a : A) (b : B) (v : World) → R v a b → Later U K w v → Agrees U K v Q (k a v.src) (gives [] b v.net)) → Agrees U K w Q (then r k) r'
  source_then w R Q r r' k start h go =
      subst (λ z. Agrees U K w Q (then r k) z) (then_gives r') (then_agrees U K w R Q r r' k (λ b v. gives [] b v) start h go)

  pub provided_agrees : {A B : Type 0} (w : World) (R : World → A → B → Type 0) (b : Bool) (x : A) (r' : Outcome net.Memory B)
      → (b ≡ true → Agrees U K w R (gives [] x w.src) r') → Agrees U K w R (provided b (λ v. gives [] x v) w.src) r'
  provided_agrees w R true x r' h = h refl
  provided_agrees w R false x r' h = agrees_outside U K w R r'

  -- a scalar that is one of a covered type
  pub checked_agrees : (C : Context) (ty s : Ty) (z : Value6) (y : net_value.Value) (w : World) → covers_type ty ≡ true → MemoryMatch U w
      → LikeV U w (scalar s z) y
      → Agrees U K w (ScalarMatch U ty) (provided (is_of_shape (type_shape (declared C) ty) (scalar s z)) (λ v. gives [] (scalar s z) v) w.src)
      (gives [] y w.net)
  checked_agrees C ty s z y w covers start like =
      provided_agrees w (ScalarMatch U ty) (is_of_shape (type_shape (declared C) ty) (scalar s z)) (scalar s z) (gives [] y w.net) (λ ok.
      let test : (is_same_type ty s && is_typed s z) ≡ true =
      subst (λ q. is_of_shape q (scalar s z) ≡ true) (covered_shape (declared C) ty covers) ok in
      let is : s ≡ ty = same_of ty s covers (both_true (is_same_type ty s) (is_typed s z) test).0 in
      agrees_gives U K w (ScalarMatch U ty) (scalar s z) y start
      (z, ap (λ q. scalar q z) is, subst (λ q. LikeV U w (scalar q z) y) is like))

  other_outside : (C : Context) (ty : Ty) (x : Value) (y : net_value.Value) (v : World) → covers_type ty ≡ true → is_of_shape (simple ty) x ≡ false
      → Agrees U K v (ScalarMatch U ty) (provided (is_of_shape (type_shape (declared C) ty) x) (λ w. gives [] x w) v.src) (gives [] y v.net)
  other_outside C ty x y v covers other =
      subst (λ b. Agrees U K v (ScalarMatch U ty) (provided b (λ w. gives [] x w) v.src) (gives [] y v.net))
      (sym (ap (λ s. is_of_shape s x) (covered_shape (declared C) ty covers) ∙ other)) (agrees_outside U K v (ScalarMatch U ty) (gives [] y v.net))

  -- any value is checked to be one of a covered type
  pub value_checked : (C : Context) (ty : Ty) (x : Value) (y : net_value.Value) (v : World) → covers_type ty ≡ true → MemoryMatch U v → LikeV U v x y
      → Agrees U K v (ScalarMatch U ty) (provided (is_of_shape (type_shape (declared C) ty) x) (λ w. gives [] x w) v.src) (gives [] y v.net)
  value_checked C ty _ _ v covers start (like_scalar s z y m) = checked_agrees C ty s z (net_value.single y) v covers start (like_scalar s z y m)
  value_checked C ty _ _ v covers start (like_fields t xs ys m) = other_outside C ty (fields t xs) (net_value.fields ys) v covers refl
  value_checked C ty _ _ v covers start (like_elements e dims xs n m) =
      other_outside C ty (elements e dims xs) (net_value.single (net_scalar.Array n)) v covers refl

  term_in : (C : Context) (ty s : Ty) (t : Term) (class : Option ℕ) (z : Value6) (y : net_value.Value) (w : World) → class ≡ None → covers_type ty ≡ true
      → MemoryMatch U w → LikeV U w (scalar s z) y
      → Agrees U K w (ScalarMatch U ty)
      (then (source.made_for C class (at_address (constant (scalar s z))) w.src) (source.value_in C (typed ty t))) (gives [] y w.net)
  term_in C ty s t None z y w none covers start like =
      left_alone U K w (ScalarMatch U ty) (after [] (provided (is_of_shape (type_shape (declared C) ty) (scalar s z)) (λ v. gives [] (scalar s z) v) w.src))
      (gives [] y w.net)
      (left_alone U K w (ScalarMatch U ty) (provided (is_of_shape (type_shape (declared C) ty) (scalar s z)) (λ v. gives [] (scalar s z) v) w.src)
      (gives [] y w.net) (checked_agrees C ty s z y w covers start like))
  term_in C ty s t (Some c) z y w none covers start like = absurd (cc none)

  -- a term that is no address is checked
  pub term_agrees : (C : Context) (ty s : Ty) (t : Term) (w : World) (r' : Outcome net.Memory net_value.Value)
      → auto_class (variable_number (declared C).vars (declared_in (declared C) t)) ≡ None → covers_type ty ≡ true → MemoryMatch U w
      → Agrees U K w (TermMatch U s) (source.term_parts C ty t w.src) r' → Agrees U K w (ScalarMatch U ty) (source.value_of C (typed ty t) w.src) r'
  term_agrees C ty s t w r' none covers start h =
      subst (λ q. Agrees U K w (ScalarMatch U ty) q r') (sym (then_assoc (source.term_parts C ty t w.src) (source.as_new C t) (source.value_in C (typed ty t))))
      (source_then w (TermMatch U s) (ScalarMatch U ty) (source.term_parts C ty t w.src) r'
      (λ p v. then (source.as_new C t p v) (source.value_in C (typed ty t))) start h (λ p y v m l. behind p y v m l.match))
    where
      behind : (p : Parts) (y : net_value.Value) (v : World) → TermMatch U s v p y → MemoryMatch U v
          → Agrees U K v (ScalarMatch U ty) (then (source.as_new C t p v.src) (source.value_in C (typed ty t))) (gives [] y v.net)
      behind p y v m h =
          subst (λ q. Agrees U K v (ScalarMatch U ty) (then (source.as_new C t q v.src) (source.value_in C (typed ty t))) (gives [] y v.net)) (sym m.1)
          (term_in C ty s t (auto_class (variable_number (declared C).vars (declared_in (declared C) t))) m.0 y v none covers h m.2)

  -- a value of a scalar type as a scalar
  pub plain_agrees : (C : Context) (e : Expr) (ty : Ty) (w : World) (r' : Outcome net.Memory net_value.Value) → MemoryMatch U w
      → Agrees U K w (ScalarMatch U ty) (source.value_of C e w.src) r' → Agrees U K w (PlainMatch U ty) (source.scalar_value C e w.src) r'
  plain_agrees C e ty w r' start h =
      subst (λ q. Agrees U K w (PlainMatch U ty) q r') (then_assoc (source.parts_of C e w.src) (source.value_in C e) source.scalar_of)
      (source_then w (ScalarMatch U ty) (PlainMatch U ty) (source.value_of C e w.src) r' source.scalar_of start h (λ x y v m l. plain x y v m l.match))
    where
      plain : (x : Value) (y : net_value.Value) (v : World) → ScalarMatch U ty v x y → MemoryMatch U v
          → Agrees U K v (PlainMatch U ty) (source.scalar_of x v.src) (gives [] y v.net)
      plain x y v m h =
          subst (λ q. Agrees U K v (PlainMatch U ty) (source.scalar_of q v.src) (gives [] y v.net)) (sym m.1) (agrees_gives U K v (PlainMatch U ty) m.0 y h m.2)
