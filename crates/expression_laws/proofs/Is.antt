-- Comparisons of objects.
use Rattle.std.proofs.Common.{◌≡◌, ◌∙◌, refl, sym, ap, subst, ℕ, ◌<◌, Bool, true, ◌&&◌, cond, None, eqb-true, ltb-true, true≢false}
use Rattle.std.specs.Prelude.{nat_eq, nat_lt}
use Rattle.vb_tree.specs.BoundTree as types
use Rattle.vb_tree.specs.BoundTree.{Ty}
use Rattle.vb_tree.specs.declared.value.Value6.{Value6}
use Rattle.vb6_meaning.specs.Values.{same_object}
use Rattle.bound_tree.specs.Tree.{Expr, typed, is_same}
use Rattle.bound_facts.specs.Locks.{is_same_type}
use Rattle.bound_facts.specs.Node.{type_at}
use Rattle.net_tree.specs.Tree as tree
use Rattle.net_tree.specs.Tree.{Exp}
use Rattle.net_tree.specs.declared.expression.NetBin.TheVariants as op
use Rattle.net_tree.specs.declared.expression.OpN.TheVariants.{Bin}
use Rattle.net_meaning.specs.declared.value.ValueN.{ValueN}
use Rattle.net_meaning.specs.Operators.{operate_net}
use Rattle.net_meaning.specs.SameValues.{IsOneToOne, IsSame, is_typed}
use Rattle.net_meaning.specs.SameValues as values
use Rattle.net_meaning.specs.WrittenRows.{binary, is_reference, operand_a, operand_b, written}
use Rattle.meaning_laws.proofs.SameRows.{is_same_object}
use Rattle.run_base.specs.Outcomes.{then}
use Rattle.vb6_run.specs.Expressions as source
use Rattle.vb6_run.specs.Expressions.{Context}
use Rattle.net_run.specs.Expressions as target
use Rattle.net_run.specs.Making.{Jobs}
use Rattle.net_run.specs.Names.{Scope}
use Rattle.net_run.specs.Values as net_value
use Rattle.run_matches.specs.Agreeing.{Agrees}
use Rattle.run_matches.specs.CoveredVariables.{covers_type}
use Rattle.run_matches.specs.Likeness.{are_same}
use Rattle.run_matches.specs.Maps.{World}
use Rattle.run_matches.specs.Match.{MemoryMatch, StoreMatch}
use Rattle.run_matches.specs.Pledges.{Later, Pledge}
use Rattle.run_matches.specs.Upgrades.{Upgrade}
use Rattle.run_statements.specs.Frames.{PlainMatch, ScalarMatch}
use Rattle.row_laws.specs.Follows.{RowOfTwo, on_values}
use Rattle.row_laws.specs.Rows.{IsOf}
use Rattle.row_laws.proofs.Composing.{by_row}
use Rattle.row_laws.proofs.Values.{binary_gives}
use Rattle.expression_laws.proofs.Checks.{term_agrees}
use Rattle.expression_laws.proofs.RowsAgree.{At, any_same, both_agree}
use Rattle.expression_laws.proofs.Types.{both_true, same_of}

-- ---- which objects are the same

object_image : (w : World) (i j : ℕ) → are_same w i j ≡ true → w.map.objects i ≡ j
object_image w i j e = eqb-true (w.map.objects i) j (both_true (nat_lt i w.src.next_object) (nat_eq (w.map.objects i) j) e).1

object_made : (w : World) (i j : ℕ) → are_same w i j ≡ true → i < w.src.next_object
object_made w i j e = ltb-true i w.src.next_object (both_true (nat_lt i w.src.next_object) (nat_eq (w.map.objects i) j) e).0

one_to_one : (U : Upgrade) (w : World) → StoreMatch U w → IsOneToOne (are_same w)
one_to_one U w h = (
  λ i j k e f. sym (object_image w i j e) ∙ object_image w i k f,
  λ i j k e f. h.objects_one_to_one i j (object_made w i k e) (object_made w j k f) (object_image w i k e ∙ sym (object_image w j k f)),
)

reference_typed : (s : Ty) → is_reference s ≡ true → is_typed s ≡ true
reference_typed types.variant h = absurd (true≢false (sym h))
reference_typed _ h = refl

same_objects : (U : Upgrade) (w : World) → StoreMatch U w → (s t : Ty) (z z' : Value6) (x x' : ValueN) → is_reference s ≡ true → is_reference t ≡ true
    → At w s z x → At w t z' x' → values.Agrees (At w types.boolean) (same_object z z') (operate_net (Bin op.Is) x x')
same_objects U w h s t z z' x x' r r' m m' =
    subst (λ (b : Bool). IsSame (are_same w) (same_object z z') (cond b (written types.boolean (binary op.Is operand_a operand_b)) None) x x')
    (ap (λ b. b && is_reference t) r ∙ r')
    (is_same_object (are_same w) (one_to_one U w h) s t z z' x x' (reference_typed s r) (reference_typed t r') m m')

-- ---- what is written

-- the left operand is evaluated, then the right one
is_row : (S : Scope) (oracle : Jobs) (s : Ty) (a c : Exp) → RowOfTwo S oracle (IsOf any_same s) (tree.binary op.Is a c) a c (operate_net (Bin op.Is))
is_row S oracle s a c = record {
  behind = λ u w. then (target.value_of S oracle c w) (on_values (operate_net (Bin op.Is)) u);
  is = binary_gives S oracle op.Is a c;
  second = λ x of.
      by_row (λ w. then (target.value_of S oracle c w) (on_values (operate_net (Bin op.Is)) (net_value.single x))) (target.value_of S oracle c)
      (operate_net (Bin op.Is) x) (λ w. refl);
}

pub is_agrees : (U : Upgrade) (K : Pledge) (C : Context) (S : Scope) (oracle : Jobs) (ty : Ty) (d e : Expr) (a c : Exp) (w : World)
    → is_same_type types.boolean ty ≡ true → is_reference (type_at d) ≡ true → is_reference (type_at e) ≡ true → MemoryMatch U w
    → Agrees U K w (PlainMatch U (type_at d)) (source.scalar_value C d w.src) (target.value_of S oracle a w.net)
    → ((v : World) → Later U K w v → Agrees U K v (PlainMatch U (type_at e)) (source.scalar_value C e v.src) (target.value_of S oracle c v.net))
    → Agrees U K w (ScalarMatch U ty) (source.value_of C (typed ty (is_same d e)) w.src) (target.value_of S oracle (tree.binary op.Is a c) w.net)
is_agrees U K C S oracle ty d e a c w boolean first second start left right =
    let is : ty ≡ types.boolean = same_of types.boolean ty refl boolean in
    term_agrees U K C ty ty (is_same d e) w (target.value_of S oracle (tree.binary op.Is a c) w.net) refl (ap covers_type is) start
    (both_agree U K S oracle (type_at d) (type_at e) ty same_object (operate_net (Bin op.Is)) (tree.binary op.Is a c) a c (source.scalar_value C d w.src)
    (λ v. source.scalar_value C e v) w (is_row S oracle (type_at d) a c)
    (λ v match z z' x x' m m'.
    subst (λ t. values.Agrees (At v t) (same_object z z') (operate_net (Bin op.Is) x x')) (sym is)
    (same_objects U v match.stores (type_at d) (type_at e) z z' x x' first second m m')) start left right)
