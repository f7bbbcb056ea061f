-- The paths of functions, and the values of calls of the support module.
use Rattle.std.proofs.Common.{◌≡◌, ℕ, true, List, [], ◌∷◌, codes, refl, ap, ◌∙◌, Some}
use Rattle.vb_tree.specs.BoundTree as types
use Rattle.vb_tree.specs.BoundTree.{Ty}
use Rattle.vb6_meaning.specs.Answers.{Answer}
use Rattle.net_tree.specs.Tree.{Exp}
use Rattle.net_meaning.specs.declared.value.ValueN.{ValueN}
use Rattle.net_meaning.specs.Support as rows
use Rattle.net_meaning.specs.WrittenRows.{Call, cur, cur_text, fix, var_as, var_str, called}
use Rattle.run_base.specs.Outcomes.{then}
use Rattle.written_trees.specs.Conversions.{one, two, support_call}
use Rattle.written_trees.specs.Literals.{number}
use Rattle.written_trees.specs.Names.{support}
use Rattle.net_run.specs.Values.{Value, unknown, single, fields}
use Rattle.net_run.specs.Store.{Memory}
use Rattle.net_run.specs.Names.{Scope, starts, named, to_support, support_name, frame_start, member_start, module_start, outer_start, path_start}
use Rattle.net_run.specs.Making.{Jobs}
use Rattle.net_run.specs.Functions.{of_one, of_two, support_function, passing_of_some, fix_row}
use Rattle.net_run.specs.Calls.{some_function}
use Rattle.net_run.specs.Expressions.{value_of}
use Rattle.row_laws.specs.Uncaptured.{IsFree, IsUncaptured}
use Rattle.row_laws.specs.Follows.{answers, on_value, on_values, Any, RowOfOne}
use Rattle.row_laws.specs.Rows.{call_exp, is_call}
use Rattle.row_laws.proofs.Composing.{after_nil, by_row}
use Rattle.row_laws.proofs.Calls.{one_gives, two_gives}

-- a path of several names whose first is free
pub free_start : (S : Scope) (name next : List ℕ) (names : List (List ℕ)) → IsFree S name → path_start S true (name ∷ next ∷ names) ≡ outer_start name (next ∷ names)
free_start S name next names free =
    ap (frame_start S name (next ∷ names)) free.no_variable
    ∙ ap (member_start S name (next ∷ names)) free.no_member
    ∙ ap (module_start S name (next ∷ names)) free.no_module

module _ (S : Scope) (oracle : Jobs) (free : IsUncaptured S) where
  pub support_start : (name : List ℕ) → path_start S true (support name) ≡ starts (named (to_support name)) []
  support_start name = free_start S support_name name [] free

  -- a function of one value
  pub support_gives : (name : List ℕ) (row : ValueN → Answer ValueN) → support_function name ≡ Some (of_one row) → (a : Exp) (w : Memory)
      → value_of S oracle (support_call name (one a)) w ≡ then (value_of S oracle a w) (on_value row)
  support_gives name row is a w =
      one_gives S oracle (to_support name) (support name) (support_start name) (ap passing_of_some is) row (λ gs w. ap (λ f. some_function S.project oracle name gs f w) is) a w

  -- and of two
  pub support_of_two : (name : List ℕ) (row : ValueN → ValueN → Answer ValueN) → support_function name ≡ Some (of_two row) → (a b : Exp) (w : Memory)
      → value_of S oracle (support_call name (two a b)) w ≡ then (value_of S oracle a w) (λ u w. then (value_of S oracle b w) (on_values row u))
  support_of_two name row is a b w =
      two_gives S oracle (to_support name) (support name) (support_start name) (ap passing_of_some is) row (λ gs w. ap (λ f. some_function S.project oracle name gs f w) is) a b w

  -- ---- the calls of rows

  by_name : (name : List ℕ) (row : ValueN → Answer ValueN) → support_function name ≡ Some (of_one row) → (a : Exp) → RowOfOne S oracle Any (support_call name (one a)) a row
  by_name name row is a = by_row (value_of S oracle (support_call name (one a))) (value_of S oracle a) row (support_gives name row is a)

  fixed : (units : ℕ) (u : Value) (w : Memory) → then (value_of S oracle (number units) w) (on_values fix_row u) ≡ on_value (λ x. rows.fix x units) u w
  fixed units (single x) w = after_nil (answers (rows.fix x units) w)
  fixed units unknown w = refl
  fixed units (fields us) w = refl

  pub call_row : (f : Call) → is_call f ≡ true → (a : Exp) → RowOfOne S oracle Any (call_exp f a) a (called f)
  call_row cur h a = by_name (codes "Cur") rows.cur refl a
  call_row cur_text h a = by_name (codes "CurText") rows.cur_text refl a
  call_row (fix units) h a =
      by_row (value_of S oracle (call_exp (fix units) a)) (value_of S oracle a) (λ x. rows.fix x units)
      (λ w. support_of_two (codes "Fix") fix_row refl a (number units) w ∙ ap (λ k. then (value_of S oracle a w) k) (λ i u w. fixed units u w i))
  call_row (var_as types.boolean) h a = by_name (codes "VarBool") (rows.var_as types.boolean) refl a
  call_row (var_as types.byte) h a = by_name (codes "VarByte") (rows.var_as types.byte) refl a
  call_row (var_as types.integer) h a = by_name (codes "VarShort") (rows.var_as types.integer) refl a
  call_row (var_as types.long) h a = by_name (codes "VarInt") (rows.var_as types.long) refl a
  call_row (var_as types.currency) h a = by_name (codes "VarCur") (rows.var_as types.currency) refl a
  call_row (var_as _) h a = absurd (cc h)
  call_row var_str h a = by_name (codes "VarStr") rows.var_str refl a
