-- A name that a procedure doesn't declare is none of a variable in its frame.
use Rattle.std.proofs.Common.{◌≡◌, refl, ap, sym, ◌∙◌, ℕ, suc, ◌+◌, Bool, true, false, cond, not, ◌&&◌, List, [], ◌∷◌, ◌++◌, map, Option, Some, None, slice_get}
use Rattle.std.specs.List.{list_all}
use Rattle.vb_tree.specs.Blocks.{is_code}
use Rattle.vb_tree.specs.declared.declared.VarId.{VarId}
use Rattle.vb_tree.specs.declared.value.Value6.{Value6}
use Rattle.vb_tree.specs.Tree as source
use Rattle.bound_tree.specs.Tree.{Variable, Constant, Procedure, Declarations}
use Rattle.net_tree.specs.Tree as net
use Rattle.net_tree.specs.Types.{TypeName}
use Rattle.written_trees.specs.Arguments.{is_property_kind}
use Rattle.written_trees.specs.Bodies.{inside_procedure, code_at}
use Rattle.written_trees.specs.Facts.{is_flagged_variable}
use Rattle.written_trees.specs.Heads.{is_function, param_by, params_of}
use Rattle.written_trees.specs.Lines.{counter_name, is_flagged_for}
use Rattle.written_trees.specs.Names.{Scope, variable_name_of}
use Rattle.written_trees.specs.Prologues.{Code, dims_from, declares, counter_dim, count_replaced, counters_from, prologue, is_static, object_variable, typed_variable, constant_dim_by, sound_value}
use Rattle.net_run.specs.Lines.{NetFrame}
use Rattle.net_run.specs.Members as net_members
use Rattle.net_run.specs.Names.{var_in}
use Rattle.net_run.specs.Store.{Address}
use Rattle.run_matches.specs.Frames.{HasNames, result_names, dim_name, declared_names}
use Rattle.run_matches.specs.Shared.{is_other, frame_names, begins_low, is_free_in}
use Rattle.run_matches.specs.Sites.{Site, site_lines, first_statement, Own, own_variable, own_constant, own_name, owns_from, owns_of}
use Rattle.run_matches.specs.Upgrades.{Upgrade}
use Rattle.run_statements.specs.Kept.{own_dim}
use Rattle.run_statements.specs.Written.{WrittenProcedure, site_scope}
use Rattle.name_laws.proofs.FrameNames.{result_are, result_word}
use Rattle.name_laws.proofs.Lists.{both_true, and_true, all_append, map_append}
use Rattle.name_laws.proofs.Looked.{other_name}
use Rattle.name_laws.proofs.Others.{all_parts}
use Rattle.name_laws.proofs.Prologues.{dims_same}

pub var_none : (name : List ℕ) (vars : List (List ℕ × Address)) → list_all (is_other name) (map (λ (x : List ℕ × Address). x.0) vars) ≡ true
    → var_in vars name ≡ None
var_none name [] h = refl
var_none name (x ∷ vars) h =
    let b = both_true (is_other name x.0) (list_all (is_other name) (map (λ (x : List ℕ × Address). x.0) vars)) h in
    ap (λ t. cond t (Some x.1) (var_in vars name)) (other_name name x.0 b.0) ∙ var_none name vars b.1

module _ (name : List ℕ) where
  abbrev are_other : List (List ℕ) → Bool
  are_other names = list_all (is_other name) names

  -- ---- parameters and result

  params_other : (S : Scope) (by_value : Bool) (vs : List VarId)
      → are_other (map (λ (v : VarId). variable_name_of (slice_get S.declarations.vars v.0)) vs) ≡ true
      → are_other (map (λ (p : net.Param). p.name) (params_of S by_value vs)) ≡ true
  params_other S by_value [] h = refl
  params_other S by_value (v ∷ vs) h =
      let b = both_true (is_other name (variable_name_of (slice_get S.declarations.vars v.0)))
      (are_other (map (λ (v : VarId). variable_name_of (slice_get S.declarations.vars v.0)) vs)) h in
      ap are_other (map_append (λ (p : net.Param). p.name) (param_by S by_value v.0 (slice_get S.declarations.vars v.0)) (params_of S by_value vs))
      ∙ all_append (is_other name) (map (λ (p : net.Param). p.name) (param_by S by_value v.0 (slice_get S.declarations.vars v.0)))
      (map (λ (p : net.Param). p.name) (params_of S by_value vs)) (by (slice_get S.declarations.vars v.0) b.0) (params_other S by_value vs b.1)
    where
      by : (o : Option Variable) → is_other name (variable_name_of o) ≡ true
          → are_other (map (λ (p : net.Param). p.name) (param_by S by_value v.0 o)) ≡ true
      by None e = refl
      by (Some x) e = and_true (is_other name x.name) true e refl

  result_other : (b : Bool) (n : List ℕ) (ty : TypeName) → are_other (cond b (n ∷ []) []) ≡ true → are_other (result_names (cond b (Some (n, ty)) None)) ≡ true
  result_other true n ty h = h
  result_other false n ty h = refl

  -- ---- declarations at the head

  variable_dim_name : (b c : Bool) (x y : net.Variable) (n : List ℕ) → x.name ≡ n → y.name ≡ n
      → dim_name (cond b (net.static_local (cond c x y)) (net.local (cond c x y))) ≡ n
  variable_dim_name true true x y n d e = d
  variable_dim_name true false x y n d e = e
  variable_dim_name false true x y n d e = d
  variable_dim_name false false x y n d e = e

  constant_dim_name : (S : Scope) (x : Constant) (o : Option Value6) → dim_name (constant_dim_by S x o) ≡ x.name
  constant_dim_name S x None = refl
  constant_dim_name S x (Some z) = refl

  own_dim_name : (S : Scope) (o : Own) → dim_name (own_dim S o) ≡ own_name o
  own_dim_name S (own_variable v x) =
      variable_dim_name (is_static x.owner) (is_flagged_variable S.facts v) (object_variable x.name) (typed_variable S v x) x.name refl refl
  own_dim_name S (own_constant c x) = constant_dim_name S x (sound_value S.facts (c, x))

  owns_other : (S : Scope) (os : List Own) → are_other (map own_name os) ≡ true → are_other (map dim_name (map (own_dim S) os)) ≡ true
  owns_other S [] h = refl
  owns_other S (o ∷ os) h =
      let b = both_true (is_other name (own_name o)) (are_other (map own_name os)) h in
      and_true (is_other name (dim_name (own_dim S o))) (are_other (map dim_name (map (own_dim S) os))) (ap (is_other name) (own_dim_name S o) ∙ b.0)
      (owns_other S os b.1)

  -- no name of the source is that of a counter
  first_part : (b c : Bool) → not (b && true) ≡ true → not (b && c) ≡ true
  first_part true c h = absurd (cc h)
  first_part false c h = refl

  counter_other : (n : List ℕ) (k : ℕ) → not (begins_low n) ≡ true → is_other n (counter_name k) ≡ true
  counter_other [] k h = refl
  counter_other (c ∷ cs) k h = first_part _ _ h

  counters_other : not (begins_low name) ≡ true → (k : ℕ) (code : List Code) → are_other (map dim_name (counters_from k code)) ≡ true
  counters_other low k [] = refl
  counters_other low k (c ∷ code) =
      let more = counters_from (k + count_replaced c) code in
      ap are_other (map_append dim_name (cond (is_flagged_for c.0 c.1.source.form) (counter_dim (suc k) ∷ []) []) more)
      ∙ all_append (is_other name) (map dim_name (cond (is_flagged_for c.0 c.1.source.form) (counter_dim (suc k) ∷ []) [])) (map dim_name more)
      (by (is_flagged_for c.0 c.1.source.form)) (counters_other low (k + count_replaced c) code)
    where
      by : (b : Bool) → are_other (map dim_name (cond b (counter_dim (suc k) ∷ []) [])) ≡ true
      by true = and_true (is_other name (counter_name (suc k))) true (counter_other name (suc k) low) refl
      by false = refl

  prologue_other : (S : Scope) (n : ℕ) (lines : List source.Line) (code : List Code) → not (begins_low name) ≡ true
      → are_other (map own_name (owns_from S.declarations S.file declares n lines ++ owns_from S.declarations S.file is_code n lines)) ≡ true
      → are_other (map dim_name (prologue S n lines code)) ≡ true
  prologue_other S n lines code low h =
      let first = owns_from S.declarations S.file declares n lines in
      let second = owns_from S.declarations S.file is_code n lines in
      let parts = all_parts (is_other name) (map own_name first) (map own_name second) (ap are_other (sym (map_append own_name first second)) ∙ h) in
      let dims = dims_from S declares n lines in
      let others = dims_from S is_code n lines in
      let declared : are_other (map dim_name dims) ≡ true =
      ap (λ ds. are_other (map dim_name ds)) (sym (dims_same S declares n lines)) ∙ owns_other S first parts.0 in
      let used : are_other (map dim_name others) ≡ true =
      ap (λ ds. are_other (map dim_name ds)) (sym (dims_same S is_code n lines)) ∙ owns_other S second parts.1 in
      ap are_other (map_append dim_name (dims ++ others) (counters_from 0 code))
      ∙ all_append (is_other name) (map dim_name (dims ++ others)) (map dim_name (counters_from 0 code))
      (ap are_other (map_append dim_name dims others) ∙ all_append (is_other name) (map dim_name dims) (map dim_name others) declared used)
      (counters_other low 0 code)

  -- ---- the frame

  declared_other : (U : Upgrade) (p : ℕ) (s : Site) (x : Procedure) (W : WrittenProcedure U p s x) → is_free_in U.program.declarations s x name ≡ true
      → are_other (declared_names W.code) ≡ true
  declared_other U p s x W h =
      let D : Declarations = U.program.declarations in
      let S = site_scope U s in
      let b = both_true (not (begins_low name)) (are_other (frame_names D s x)) h in
      let params = map (λ (v : VarId). variable_name_of (slice_get D.vars v.0)) x.params in
      let result = cond (is_function x.kind) (x.name ∷ []) [] in
      let c = all_parts (is_other name) params (result ++ map own_name (owns_of D s)) b.1 in
      let d = all_parts (is_other name) result (map own_name (owns_of D s)) c.1 in
      let n = first_statement s in
      let code = code_at U.program S n s.placed.at.procedure (site_lines s) in
      let dims = prologue (inside_procedure S s.placed.at.procedure) n (site_lines s) code in
      let named = map (λ (p : net.Param). p.name) (net_members.params_of W.code) in
      let results = result_names (net_members.result_of W.code) in
      let prologue_is : map dim_name W.code.procedure.prologue ≡ map dim_name dims = ap (λ (q : net.Procedure). map dim_name q.prologue) W.is_written in
      all_append (is_other name) named (results ++ map dim_name W.code.procedure.prologue)
      (ap (λ ps. are_other (map (λ (p : net.Param). p.name) ps)) W.params ∙ params_other S (is_property_kind x.kind) x.params c.0)
      (all_append (is_other name) results (map dim_name W.code.procedure.prologue)
      (ap (λ o. are_other (result_names o)) (result_are U p s x W) ∙ result_other (is_function x.kind) x.name (result_word S x x.kind) d.0)
      (ap are_other prologue_is ∙ prologue_other (inside_procedure S s.placed.at.procedure) n (site_lines s) code b.0 d.1))

  pub frame_none : (U : Upgrade) (p : ℕ) (s : Site) (x : Procedure) (W : WrittenProcedure U p s x) (g : NetFrame) → HasNames (Some W.code) g
      → is_free_in U.program.declarations s x name ≡ true → var_in g.vars name ≡ None
  frame_none U p s x W g names h = var_none name g.vars (ap are_other names ∙ declared_other U p s x W h)
