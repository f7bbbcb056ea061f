-- What a procedure declares is declared at the head of the written one.
use Rattle.std.proofs.Common.{◌≡◌, ℕ, suc, ◌+◌, Bool, true, false, cond, List, [], ◌∷◌, ◌++◌, map, length, Option, Some, None, refl, ap, arith}
use Rattle.vb_tree.specs.Blocks.{is_code}
use Rattle.vb_tree.specs.BoundTree as vb
use Rattle.vb_tree.specs.BoundTree.{Ty}
use Rattle.vb_tree.specs.declared.value.Value6.{Value6}
use Rattle.vb_tree.specs.Tree.{Form}
use Rattle.vb_tree.specs.Tree as source
use Rattle.bound_tree.specs.Tree.{Variable, Constant}
use Rattle.net_tree.specs.Tree as net
use Rattle.written_trees.specs.Facts.{is_flagged_variable, is_flagged_constant}
use Rattle.written_trees.specs.Lines.{is_flagged_for}
use Rattle.written_trees.specs.Names.{Scope}
use Rattle.written_trees.specs.Prologues.{Code, variables_of, constants_of, variable_dim, written_variable, object_variable, typed_variable, initial, constant_dim, constant_dim_by, statement_dims, dims_from, declares, counter_dim, count_replaced, counters_from, one_if, prologue}
use Rattle.run_matches.specs.Sites.{own_variables, own_constants, statement_owns, owns_from}
use Rattle.correspondence.specs.Lists.{Pairwise}
use Rattle.correspondence.specs.Owns.{begins_empty, VariableCorresponds, ConstantCorresponds, OwnCorresponds, count_counters, PrologueCorresponds}
use Rattle.correspondence.proofs.Lists.{pairs_append}

-- ---- variables and constants

no_value : (S : Scope) (v : ℕ) (x : Variable) (ty : Ty) → begins_empty ty ≡ true → initial S v x ty ≡ None
no_value S v x (vb.array e rank) h = absurd (cc h)
no_value S v x (vb.fixed units) h = absurd (cc h)
no_value S v x (vb.user t) h = absurd (cc h)
no_value S v x _ h = refl

variable_by : (S : Scope) (v : ℕ) (x : Variable) (flagged : Bool)
    → VariableCorresponds S flagged v x (cond flagged (object_variable x.name) (typed_variable S v x))
variable_by S v x true = record { name = refl; ty = λ h. absurd (cc h); empty = λ h e. absurd (cc h); object = λ h. (refl, refl) }
variable_by S v x false = record { name = refl; ty = λ h. refl; empty = λ h e. no_value S v x x.ty e; object = λ h. absurd (cc h) }

variables_are : (S : Scope) (vs : List (ℕ × Variable)) → Pairwise (OwnCorresponds S) (own_variables vs) (map (variable_dim S) vs)
variables_are S [] = tt
variables_are S (v ∷ vs) = ((written_variable S v, refl, variable_by S v.0 v.1 (is_flagged_variable S.facts v.0)), variables_are S vs)

constant_by : (S : Scope) (x : Constant) (flagged : Bool) (value : Option Value6) → ConstantCorresponds S flagged x value (constant_dim_by S x (cond flagged None value))
constant_by S x true None = (object_variable x.name, refl, refl, refl, refl)
constant_by S x true (Some value) = (object_variable x.name, refl, refl, refl, refl)
constant_by S x false None = (object_variable x.name, refl, refl, refl, refl)
constant_by S x false (Some value) = (_, refl, refl, refl, refl)

constants_are : (S : Scope) (cs : List (ℕ × Constant)) → Pairwise (OwnCorresponds S) (own_constants cs) (map (constant_dim S) cs)
constants_are S [] = tt
constants_are S (c ∷ cs) = (constant_by S c.1 (is_flagged_constant S.facts c.0) c.1.value, constants_are S cs)

-- ---- statements

statement_is : (S : Scope) (n : ℕ) → Pairwise (OwnCorresponds S) (statement_owns S.declarations S.file n) (statement_dims S n)
statement_is S n =
    let vs = variables_of S.declarations S.file n in
    let cs = constants_of S.declarations S.file n in
    pairs_append (OwnCorresponds S) (own_variables vs) (own_constants cs) (map (variable_dim S) vs) (map (constant_dim S) cs) (variables_are S vs) (constants_are S cs)

dims_are : (S : Scope) (test : Form → Bool) (n : ℕ) (ls : List source.Line)
    → Pairwise (OwnCorresponds S) (owns_from S.declarations S.file test n ls) (dims_from S test n ls)
dims_are S test n [] = tt
dims_are S test n (l ∷ ls) =
    pairs_append (OwnCorresponds S) (cond (test l.form) (statement_owns S.declarations S.file n) []) (owns_from S.declarations S.file test (suc n) ls)
    (cond (test l.form) (statement_dims S n) []) (dims_from S test (suc n) ls) (by (test l.form)) (dims_are S test (suc n) ls)
  where
    by : (b : Bool) → Pairwise (OwnCorresponds S) (cond b (statement_owns S.declarations S.file n) []) (cond b (statement_dims S n) [])
    by true = statement_is S n
    by false = tt

-- ---- counters

record Counters (k : ℕ) (code : List Code) : Type 0 where
  numbers : List ℕ
  are : counters_from k code ≡ map counter_dim numbers
  counted : length numbers ≡ count_counters code

counters_are : (k : ℕ) (code : List Code) → Counters k code
counters_are k [] = record { numbers = []; are = refl; counted = refl }
counters_are k (c ∷ code) =
    let test = is_flagged_for c.0 c.1.source.form in
    let more = counters_are (k + count_replaced c) code in
    let found = by test (counters_from (k + count_replaced c) code) more.numbers (count_counters code) more.are more.counted in
    record { numbers = found.0; are = found.1; counted = found.2 }
  where
    by : (b : Bool) (ds : List net.Dim) (ns : List ℕ) (m : ℕ) → ds ≡ map counter_dim ns → length ns ≡ m
        → (ms : List ℕ) × (cond b (counter_dim (suc k) ∷ []) [] ++ ds ≡ map counter_dim ms) × (length ms ≡ one_if b + m)
    by true ds ns m e h = (suc k ∷ ns, ap {B = List net.Dim} (λ (es : List net.Dim). counter_dim (suc k) ∷ es) e, omega (arith, h))
    by false ds ns m e h = (ns, e, omega (arith, h))

pub prologue_corresponds : (S : Scope) (n : ℕ) (lines : List source.Line) (code : List Code)
    → PrologueCorresponds S (owns_from S.declarations S.file declares n lines ++ owns_from S.declarations S.file is_code n lines) code (prologue S n lines code)
prologue_corresponds S n lines code =
    let more = counters_are 0 code in
    record {
      declared = dims_from S declares n lines ++ dims_from S is_code n lines;
      counters = more.numbers;
      is_whole = ap {B = List net.Dim} (λ (ds : List net.Dim). (dims_from S declares n lines ++ dims_from S is_code n lines) ++ ds) more.are;
      owns_are =
          pairs_append (OwnCorresponds S) (owns_from S.declarations S.file declares n lines) (owns_from S.declarations S.file is_code n lines)
          (dims_from S declares n lines) (dims_from S is_code n lines) (dims_are S declares n lines) (dims_are S is_code n lines);
      counted = more.counted;
    }
