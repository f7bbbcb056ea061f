-- The names that a written procedure declares are those of its parameters, its result variable and what its lines declare, and counters.
use Rattle.std.proofs.Common.{◌≡◌, refl, sym, ap, ◌∙◌, ℕ, suc, ◌+◌, Bool, true, false, cond, not, ◌&&◌, List, [], ◌∷◌, ◌++◌, map, Option, Some, None, option_map, slice_get, codes, nat_eq, eqb-true, eq-eqb, arith}
use Rattle.std.specs.Cmp.Lexicographic.{pointwise}
use Rattle.std.specs.Fmt.{decimal}
use Rattle.up_base.specs.Names.{is_same_name, lower_case}
use Rattle.vb_tree.specs.Blocks.{is_code}
use Rattle.vb_tree.specs.Tree.{Form}
use Rattle.vb_tree.specs.Tree as source
use Rattle.vb_tree.specs.declared.declared.ProcKind.{ProcKind}
use Rattle.vb_tree.specs.declared.declared.ProcKind.TheVariants as kind
use Rattle.vb_tree.specs.declared.declared.VarId.{VarId}
use Rattle.vb_tree.specs.declared.value.Value6.{Value6}
use Rattle.bound_tree.specs.Tree.{Constant, Declarations, Procedure, Variable}
use Rattle.net_tree.specs.Tree as net
use Rattle.net_tree.specs.Types.{TypeName}
use Rattle.written_trees.specs.Arguments.{is_property_kind}
use Rattle.written_trees.specs.Bodies.{code_at, inside_procedure}
use Rattle.written_trees.specs.Facts.{is_flagged_variable}
use Rattle.written_trees.specs.Heads as heads
use Rattle.written_trees.specs.Heads.{is_function}
use Rattle.written_trees.specs.Lines.{counter_name, is_flagged_for}
use Rattle.written_trees.specs.Names.{Scope}
use Rattle.written_trees.specs.Prologues.{Code, constant_dim_by, counter_dim, count_replaced, counters_from, declares, dims_from, is_static, object_variable, one_if, sound_value, typed_variable}
use Rattle.net_run.specs.Members.{params_of, result_of}
use Rattle.net_run.specs.Names as net_names
use Rattle.net_run.specs.Names.{frame_start, is_result, path_start, var_in}
use Rattle.net_run.specs.Store.{Address}
use Rattle.run_matches.specs.Callees.{begins_below, count_named, is_source_name, own_of_some, parameter_owns}
use Rattle.run_matches.specs.Frames.{declared_names, dim_name, result_names}
use Rattle.run_matches.specs.Sites.{Own, Site, first_statement, own_constant, own_name, own_variable, owns_from, owns_of, site_lines}
use Rattle.run_matches.specs.Upgrades.{Upgrade}
use Rattle.run_statements.specs.Kept.{own_dim}
use Rattle.run_statements.specs.Written.{WrittenProcedure, first_type, site_scope, written_result}
use Rattle.name_laws.proofs.Lists.{map_append}
use Rattle.name_laws.proofs.MemberNames.{named_append}
use Rattle.name_laws.proofs.Prologues.{dims_same}

-- ---- the head

-- the type of a result
abbrev pub result_word : Scope → Procedure → ProcKind → TypeName
result_word S x kind.Function = heads.result_type S x
result_word S x _ = first_type S (slice_get S.declarations.procs x.first.0)

result_by_kind : (S : Scope) (x : Procedure) (k : ProcKind) → written_result S x k ≡ cond (is_function k) (Some (x.name, result_word S x k)) None
result_by_kind S x kind.Sub = refl
result_by_kind S x kind.Function = refl
result_by_kind S x kind.Get = refl
result_by_kind S x kind.Let = refl
result_by_kind S x kind.Set = refl

pub result_are : (U : Upgrade) (p : ℕ) (s : Site) (x : Procedure) (W : WrittenProcedure U p s x)
    → result_of W.code ≡ cond (is_function x.kind) (Some (x.name, result_word (site_scope U s) x x.kind)) None
result_are U p s x W = W.result ∙ result_by_kind (site_scope U s) x x.kind

one_name : (S : Scope) (by_value : Bool) (v : ℕ) (o : Option Variable)
    → map own_name (own_of_some v o) ≡ map (λ (q : net.Param). q.name) (heads.param_by S by_value v o)
one_name S by_value v None = refl
one_name S by_value v (Some y) = refl

-- parameters are written under their names
pub parameter_names : (S : Scope) (by_value : Bool) (vs : List VarId)
    → map own_name (parameter_owns S.declarations vs) ≡ map (λ (q : net.Param). q.name) (heads.params_of S by_value vs)
parameter_names S by_value [] = refl
parameter_names S by_value (v ∷ vs) =
    let o = slice_get S.declarations.vars v.0 in
    map_append own_name (own_of_some v.0 o) (parameter_owns S.declarations vs)
    ∙ ap (λ ns. ns ++ map own_name (parameter_owns S.declarations vs)) (one_name S by_value v.0 o)
    ∙ ap (λ ns. map (λ (q : net.Param). q.name) (heads.param_by S by_value v.0 o) ++ ns) (parameter_names S by_value vs)
    ∙ sym (map_append (λ (q : net.Param). q.name) (heads.param_by S by_value v.0 o) (heads.params_of S by_value vs))

-- ---- declarations

name_by : (b c : Bool) (x y : net.Variable) (name : List ℕ) → x.name ≡ name → y.name ≡ name
    → dim_name (cond b (net.static_local (cond c x y)) (net.local (cond c x y))) ≡ name
name_by true true x y name d e = d
name_by true false x y name d e = e
name_by false true x y name d e = d
name_by false false x y name d e = e

constant_name : (S : Scope) (x : Constant) (o : Option Value6) → dim_name (constant_dim_by S x o) ≡ x.name
constant_name S x None = refl
constant_name S x (Some z) = refl

-- a declaration is written under its name
pub own_dim_name : (S : Scope) (o : Own) → dim_name (own_dim S o) ≡ own_name o
own_dim_name S (own_variable v x) =
    name_by (is_static x.owner) (is_flagged_variable S.facts v) (object_variable x.name) (typed_variable S v x) x.name refl refl
own_dim_name S (own_constant c x) = constant_name S x (sound_value S.facts (c, x))

pub own_names : (S : Scope) (os : List Own) → map dim_name (map (own_dim S) os) ≡ map own_name os
own_names S [] = refl
own_names S (o ∷ os) =
    let one = own_dim_name S o in
    let rest = own_names S os in
    λ i. one i ∷ rest i

dims_names : (S : Scope) (test : Form → Bool) (n : ℕ) (lines : List source.Line)
    → map dim_name (dims_from S test n lines) ≡ map own_name (owns_from S.declarations S.file test n lines)
dims_names S test n lines = ap (map dim_name) (sym (dims_same S test n lines)) ∙ own_names S (owns_from S.declarations S.file test n lines)

-- ---- counters

turned : (b : Bool) → not b ≡ true → b ≡ false
turned true q = absurd (cc q)
turned false q = refl

other_way : (c : ℕ) → nat_eq c 95 ≡ false → nat_eq 95 c ≡ false
other_way c h = by (nat_eq 95 c) refl
  where
    by : (b : Bool) → nat_eq 95 c ≡ b → b ≡ false
    by true e = let is : 95 ≡ c = eqb-true 95 c e in let same = eq-eqb c 95 (sym is) in absurd (cc (same, h))
    by false e = refl

no_counter : (name : List ℕ) (rest : List ℕ) → is_source_name name ≡ true → pointwise nat_eq (95 ∷ rest) (lower_case name) ≡ false
no_counter name rest h = by (lower_case name) h
  where
    by : (ls : List ℕ) → not (begins_below ls) ≡ true → pointwise nat_eq (95 ∷ rest) ls ≡ false
    by [] e = absurd (cc e)
    by (c ∷ cs) e = ap (λ b. b && pointwise nat_eq rest cs) (other_way c (turned (nat_eq c 95) e))

counter_other : (name : List ℕ) (k : ℕ) → is_source_name name ≡ true → is_same_name (counter_name k) name ≡ false
counter_other name k h = no_counter name (lower_case (codes "f" ++ decimal k)) h

count_cons : (name n : List ℕ) (ns : List (List ℕ)) → is_same_name n name ≡ false → count_named name (n ∷ ns) ≡ count_named name ns
count_cons name n ns h = let one = ap one_if h in omega (arith, one)

counters_none : (name : List ℕ) (k : ℕ) (code : List Code) → is_source_name name ≡ true → count_named name (map dim_name (counters_from k code)) ≡ 0
counters_none name k [] h = refl
counters_none name k (c ∷ code) h = by (is_flagged_for c.0 c.1.source.form) (counters_none name (k + count_replaced c) code h)
  where
    by : (b : Bool) → count_named name (map dim_name (counters_from (k + count_replaced c) code)) ≡ 0
        → count_named name (map dim_name (cond b (counter_dim (suc k) ∷ []) [] ++ counters_from (k + count_replaced c) code)) ≡ 0
    by true more =
        count_cons name (counter_name (suc k)) (map dim_name (counters_from (k + count_replaced c) code)) (counter_other name (suc k) h) ∙ more
    by false more = more

-- ---- the frame

sum_none : (a b : ℕ) → a ≡ 0 → b ≡ 0 → a + b ≡ 0
sum_none a b h k = omega (arith, h, k)

pub none_left : (a b : ℕ) → a + b ≡ 0 → a ≡ 0
none_left a b h = omega (arith, h)

pub none_right : (a b : ℕ) → a + b ≡ 0 → b ≡ 0
none_right a b h = omega (arith, h)

module _ (U : Upgrade) (p : ℕ) (s : Site) (x : Procedure) (W : WrittenProcedure U p s x) (name : List ℕ) (source_name : is_source_name name ≡ true) where
  abbrev D : Declarations
  D = U.program.declarations

  -- a name that neither parameters nor lines declare isn't declared in what is written, but for the result
  prologue_none : count_named name (map own_name (owns_of D s)) ≡ 0 → count_named name (map dim_name W.code.procedure.prologue) ≡ 0
  prologue_none h =
      let n = s.placed.at.procedure in
      let S : Scope = inside_procedure (site_scope U s) n in
      let first = first_statement s in
      let lines = site_lines s in
      let code = code_at U.program (site_scope U s) first n lines in
      let declared = dims_from S declares first lines in
      let used = dims_from S is_code first lines in
      let counted = counters_from 0 code in
      let named = owns_from D s.source_module.file declares first lines in
      let uses = owns_from D s.source_module.file is_code first lines in
      let all : count_named name (map own_name named) + count_named name (map own_name uses) ≡ 0 =
      sym (named_append name (map own_name named) (map own_name uses)) ∙ ap (count_named name) (sym (map_append own_name named uses)) ∙ h in
      let both : count_named name (map dim_name (declared ++ used)) ≡ 0 =
      ap (count_named name) (map_append dim_name declared used) ∙ named_append name (map dim_name declared) (map dim_name used)
      ∙ sum_none (count_named name (map dim_name declared)) (count_named name (map dim_name used))
      (ap (count_named name) (dims_names S declares first lines) ∙ none_left (count_named name (map own_name named)) (count_named name (map own_name uses)) all)
      (ap (count_named name) (dims_names S is_code first lines) ∙ none_right (count_named name (map own_name named)) (count_named name (map own_name uses)) all) in
      ap (λ (q : net.Procedure). count_named name (map dim_name q.prologue)) W.is_written
      ∙ ap (count_named name) (map_append dim_name (declared ++ used) counted)
      ∙ named_append name (map dim_name (declared ++ used)) (map dim_name counted)
      ∙ sum_none (count_named name (map dim_name (declared ++ used))) (count_named name (map dim_name counted)) both (counters_none name 0 code source_name)

  params_none : count_named name (map own_name (parameter_owns D x.params)) ≡ 0 → count_named name (map (λ (q : net.Param). q.name) (params_of W.code)) ≡ 0
  params_none h =
      ap (λ ps. count_named name (map (λ (q : net.Param). q.name) ps)) W.params
      ∙ ap (count_named name) (sym (parameter_names (site_scope U s) (is_property_kind x.kind) x.params)) ∙ h

  pub frame_none : count_named name (map own_name (parameter_owns D x.params) ++ map own_name (owns_of D s)) ≡ 0
      → count_named name (result_names (result_of W.code)) ≡ 0 → count_named name (declared_names W.code) ≡ 0
  frame_none h r =
      let params = map own_name (parameter_owns D x.params) in
      let owns = map own_name (owns_of D s) in
      let all : count_named name params + count_named name owns ≡ 0 = sym (named_append name params owns) ∙ h in
      let heads = map (λ (q : net.Param). q.name) (params_of W.code) in
      let results = result_names (result_of W.code) in
      let dims = map dim_name W.code.procedure.prologue in
      named_append name heads (results ++ dims)
      ∙ sum_none (count_named name heads) (count_named name (results ++ dims))
      (params_none (none_left (count_named name params) (count_named name owns) all))
      (named_append name results dims
      ∙ sum_none (count_named name results) (count_named name dims) r (prologue_none (none_right (count_named name params) (count_named name owns) all)))

-- ---- variables

none_first : (b : Bool) (n : ℕ) → one_if b + n ≡ 0 → b ≡ false
none_first true n h = absurd (omega (arith, h))
none_first false n h = refl

-- what no variable is named isn't found
pub var_none : (vars : List (List ℕ × Address)) (name : List ℕ) → count_named name (map (λ (v : List ℕ × Address). v.0) vars) ≡ 0 → var_in vars name ≡ None
var_none [] name h = refl
var_none (v ∷ vars) name h =
    let rest = count_named name (map (λ (v : List ℕ × Address). v.0) vars) in
    ap (λ b. cond b (Some v.1) (var_in vars name)) (none_first (is_same_name v.0 name) rest h)
    ∙ var_none vars name (none_right (one_if (is_same_name v.0 name)) rest h)

-- where a name isn't the result's, the result has none of it
pub no_result_named : (r : Option (List ℕ × TypeName)) (name : List ℕ) → is_result (option_map (λ (z : List ℕ × TypeName). z.0) r) name ≡ false
    → count_named name (result_names r) ≡ 0
no_result_named None name h = refl
no_result_named (Some r) name h = ap (λ c. one_if c + 0) h

-- ---- names before arguments

-- a name that isn't that of the result leads to the same
pub same_start : (E : net_names.Scope) (name : List ℕ) → is_result E.result_name name ≡ false → path_start E true (name ∷ []) ≡ path_start E false (name ∷ [])
same_start E name h = ap (λ b. frame_start E name [] (cond b None (var_in E.vars name))) h

pub same_by : (E : net_names.Scope) (outer name : List ℕ) (b : Bool) → is_result E.result_name name ≡ false
    → path_start E true (cond b (outer ∷ name ∷ []) (name ∷ [])) ≡ path_start E false (cond b (outer ∷ name ∷ []) (name ∷ []))
same_by E outer name true h = refl
same_by E outer name false h = same_start E name h
