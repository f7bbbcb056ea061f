-- A covered assignment to a property names what the property's object, its indexes and the value name.
use Rattle.std.proofs.Common.{◌≡◌, ◌∙◌, ℕ, Bool, true, false, not, List, [], ◌∷◌, sym, arith, inl, inr}
use Rattle.std.specs.List.{flat_map, list_any}
use Rattle.vb_tree.specs.BoundTree.{Ty}
use Rattle.vb_tree.specs.declared.declared.ProcId.{ProcId}
use Rattle.bound_tree.specs.declared.body.Mention.{Mention}
use Rattle.bound_tree.specs.Tree.{Program, Expr, typed, Object, no_object, of_object, call, Passed, no_passed, next_passed}
use Rattle.bound_facts.specs.Nodes.{nodes, nodes_in, nodes_of_passed}
use Rattle.net_tree.specs.Tree.{Exp, path}
use Rattle.written_trees.specs.Arguments.{is_property}
use Rattle.written_trees.specs.Exprs.{exp_of, is_bare, member_of, passed_of, reads_itself, term_exp}
use Rattle.written_trees.specs.Names.{Path, Scope, procedure_name, procedure_path}
use Rattle.run_matches.specs.CoveredExprs.{covers_passed, covers_receiver, uses_in}
use Rattle.run_matches.specs.Formed.{is_formed, passed_are_formed}
use Rattle.correspondence.specs.Uses.{names, passed_uses, term_uses, total, uses}
use Rattle.correspondence.proofs.NamedArrays.{IsRight}
use Rattle.correspondence.proofs.NamedCalls.{bare_names, full_names, neither, none_before, none_of_both}
use Rattle.correspondence.proofs.Naming.{called_for, expr_names, group_names, passed_names}
use Rattle.correspondence.proofs.Objects.{behind_names}
use Rattle.correspondence.proofs.StoredValues.{IsValue}

module _ (P : Program) (S : Scope) (same : S.declarations ≡ P.declarations) (p v : ℕ) (count : Path → ℕ) (test : Expr → Bool) (mentions : List Mention)
    (right : IsRight P S p mentions v count test) where
  -- the test finds no node
  abbrev Free : List Expr → Type 0
  Free es = list_any test es ≡ false

  abbrev All : Passed → Type 0
  All args = (covers_passed (uses_in P p mentions) args ≡ true) × (passed_are_formed args ≡ true)

  -- the use of a property
  use_names : (ty : Ty) (q : ProcId) (qualified : Bool) (of : Object) (args : Passed) → covers_receiver (uses_in P p mentions) of ≡ true → All args
      → Free (nodes (typed ty (call q qualified of args)))
      → term_uses v (call q qualified of args) ≡ names count (term_exp S ty (call q qualified of args))
  use_names ty q qualified no_object no_passed h all free =
      sym (bare_names count (is_bare S q.0 qualified no_object no_passed) (path (procedure_path S qualified q.0))
      (right.uncalled ty q qualified no_passed (neither (test (typed ty (call q qualified no_object no_passed))) false free).0))
  use_names ty q qualified no_object (next_passed a rest) h all free =
      let args : Passed = next_passed a rest in
      let own = neither (test (typed ty (call q qualified no_object args))) (list_any test (nodes_of_passed args)) free in
      none_before (passed_uses v args)
      ∙ passed_names P S same p v count test mentions right q.0 0 args all.0 all.1 own.1
      ∙ sym (full_names count (is_property S.declarations q.0) (not (reads_itself S q.0 qualified no_object)) (path (procedure_path S qualified q.0))
      (passed_of S q.0 0 args) (right.uncalled ty q qualified args own.0))
  use_names ty q qualified (of_object e) args h all free =
      let name : List ℕ = procedure_name S.declarations q.0 in
      let whole : Expr = typed ty (call q qualified (of_object e) args) in
      let own = neither (test whole) (list_any test (nodes_in (call q qualified (of_object e) args))) free in
      let parted = none_of_both test (nodes e) (nodes_of_passed args) own.1 in
      let object = behind_names P S same p mentions v count test right e name h parted.0 in
      let given = passed_names P S same p v count test mentions right q.0 0 args all.0 all.1 parted.1 in
      let written =
      called_for P S same p v count test mentions right (is_property S.declarations q.0) (not (reads_itself S q.0 qualified (of_object e)))
      (member_of e (exp_of S e) name) q.0 args in
      omega (arith, object, given, written)

  value_names : (e : Expr) → IsValue P S same p mentions e → is_formed e ≡ true → Free (nodes e) → uses v e ≡ names count (exp_of S e)
  value_names e (inl h) f free = expr_names P S same p v count test mentions right e h f free
  value_names e (inr h) f free = group_names P S same p v count test mentions right e h f free

  -- the property and what is written for the value
  pub taken_names : (ty : Ty) (q : ProcId) (qualified : Bool) (of : Object) (args : Passed) (e : Expr) → covers_receiver (uses_in P p mentions) of ≡ true
      → All args → IsValue P S same p mentions e → is_formed e ≡ true → Free (flat_map nodes (typed ty (call q qualified of args) ∷ e ∷ []))
      → (a : Exp) → names count a ≡ names count (exp_of S e)
      → total (uses v) (typed ty (call q qualified of args) ∷ e ∷ []) ≡ total (names count) (exp_of S (typed ty (call q qualified of args)) ∷ a ∷ [])
  taken_names ty q qualified of args e h all k f free a is =
      let parted = none_of_both test (nodes (typed ty (call q qualified of args))) (flat_map nodes (e ∷ [])) free in
      let last = none_of_both test (nodes e) [] parted.1 in
      let left = use_names ty q qualified of args h all parted.0 in
      let value = value_names e k f last.0 in
      omega (arith, left, value, is)
