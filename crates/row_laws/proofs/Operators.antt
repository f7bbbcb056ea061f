-- The values of operators.
use Rattle.std.proofs.Common.{◌≡◌, ℕ, Bool, true, false, cond, ◌||◌, Option, Some, None, IfSome, refl, sym, ap, ◌∙◌, subst}
use Rattle.vb_tree.specs.BoundTree as types
use Rattle.vb_tree.specs.BoundTree.{Ty}
use Rattle.vb_tree.specs.declared.expression.BinOp.{BinOp}
use Rattle.vb_tree.specs.declared.expression.UnOp.{UnOp}
use Rattle.bound_tree.specs.Tree.{Expr, typed}
use Rattle.bound_facts.specs.Node.{type_at, is_variant}
use Rattle.net_tree.specs.Tree.{Exp}
use Rattle.net_meaning.specs.declared.value.ValueN.{ValueN}
use Rattle.net_meaning.specs.SameValues.{is_typed}
use Rattle.net_meaning.specs.WrittenRows.{Written, evaluate, write_operator, write_unary}
use Rattle.written_trees.specs.Operators.{binary_exp, unary_exp, typed_operator, typed_unary, variant_operator, variant_unary, operand, is_product_in_currency}
use Rattle.net_run.specs.Names.{Scope}
use Rattle.net_run.specs.Making.{Jobs}
use Rattle.row_laws.specs.Uncaptured.{IsUncaptured}
use Rattle.row_laws.specs.Follows.{Any, RowOfOne, RowOfTwo}
use Rattle.row_laws.specs.Rows.{operand_of, plain, is_direct, is_ready, IsOf, Fits}
use Rattle.row_laws.proofs.Direct.{Ready, SaysOne, typed_row, unary_row}
use Rattle.row_laws.proofs.Rows.{plain_fits, over_a, over_both}

pub mapped : (P Q : Written → Type 0) (o : Option Written) → ((w : Written) → P w → Q w) → IfSome o P → IfSome o Q
mapped P Q None f h = tt
mapped P Q (Some w) f h = f w h

typed_no_variant : (s : Ty) → is_typed s ≡ true → is_variant s ≡ false
typed_no_variant types.variant e = absurd (cc e)
typed_no_variant _ e = refl

typed_exp : (o : BinOp) (s t ty : Ty) (e f : Exp) → is_typed s ≡ true → is_typed t ≡ true → cond (is_variant s || is_variant t) e f ≡ f
typed_exp o s t ty e f h k =
    ap (λ z. cond (z || is_variant t) e f) (typed_no_variant s h) ∙ ap (λ z. cond z e f) (typed_no_variant t k)

module _ (S : Scope) (oracle : Jobs) (free : IsUncaptured S) (same : ℕ → ℕ → Bool) where
  -- an operator on two operands of declared types
  abbrev pub Computed : BinOp → Expr → Expr → Exp → Exp → Written → Type 0
  Computed o e f a c w =
      is_ready o w ≡ true → Fits S oracle (operand_of e a) → Fits S oracle (operand_of f c)
      → RowOfTwo S oracle (IsOf same (type_at e)) (binary_exp o w.ty e f a c) a c (evaluate w.row)

  pub binary_row : (o : BinOp) (e f : Expr) (a c : Exp) → is_typed (type_at e) ≡ true → is_typed (type_at f) ≡ true
      → IfSome (write_operator o (type_at e) (type_at f)) (Computed o e f a c)
  binary_row o (typed s p) (typed t q) a c h k =
      mapped (Ready s t p q a c o) (Computed o (typed s p) (typed t q) a c) (write_operator o s t) computed (typed_row s t p q a c o)
    where
      computed : (w : Written) → Ready s t p q a c o w → Computed o (typed s p) (typed t q) a c w
      computed w is ready fits_a fits_b =
          let row = is ready in
          let exp : binary_exp o w.ty (typed s p) (typed t q) a c ≡ typed_operator o s w.ty (operand (is_product_in_currency o w.ty) (typed s p) a) (operand (is_product_in_currency o w.ty) (typed t q) c) =
          typed_exp o s t w.ty (variant_operator o a c) (typed_operator o s w.ty (operand (is_product_in_currency o w.ty) (typed s p) a) (operand (is_product_in_currency o w.ty) (typed t q) c)) h k in
          subst (λ z. RowOfTwo S oracle (IsOf same s) z a c (evaluate w.row)) (sym (exp ∙ row.0))
          (over_both S oracle free (operand_of (typed s p) a) (operand_of (typed t q) c) fits_a fits_b same s w.row row.1)

module _ (S : Scope) (oracle : Jobs) (free : IsUncaptured S) where
  -- and on one
  abbrev pub ComputedOne : UnOp → Expr → Exp → ValueN → Written → Type 0
  ComputedOne o e a y w = is_direct w.row ≡ true → RowOfOne S oracle Any (unary_exp o w.ty e a) a (λ x. evaluate w.row x y)

  pub unary_row_gives : (o : UnOp) (e : Expr) (a : Exp) (y : ValueN) → is_typed (type_at e) ≡ true → IfSome (write_unary o (type_at e)) (ComputedOne o e a y)
  unary_row_gives o (typed s p) a y h =
      mapped (SaysOne s (plain a) (plain a) (λ ty. typed_unary o ty a)) (ComputedOne o (typed s p) a y) (write_unary o s) computed (unary_row s (plain a) (plain a) o)
    where
      computed : (w : Written) → SaysOne s (plain a) (plain a) (λ ty. typed_unary o ty a) w → ComputedOne o (typed s p) a y w
      computed w is direct =
          let row = is direct in
          let exp : unary_exp o w.ty (typed s p) a ≡ typed_unary o w.ty a = ap (λ z. cond z (variant_unary o a) (typed_unary o w.ty a)) (typed_no_variant s h) in
          subst (λ z. RowOfOne S oracle Any z a (λ x. evaluate w.row x y)) (sym (exp ∙ row.0))
          (over_a S oracle free (plain a) (plain a) (plain_fits S oracle a) (plain_fits S oracle a) w.row y row.1)
