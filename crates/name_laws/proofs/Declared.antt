-- What a written procedure declares has free names.
use Rattle.std.proofs.Common.{◌≡◌, refl, ap, ◌∙◌, ℕ, suc, ◌+◌, Bool, true, false, cond, List, [], ◌∷◌, ◌++◌, map, Option, Some, None, slice_get}
use Rattle.std.specs.List.{list_all}
use Rattle.vb_tree.specs.declared.declared.ProcKind.{ProcKind}
use Rattle.vb_tree.specs.declared.declared.ProcKind.TheVariants as kind
use Rattle.vb_tree.specs.declared.declared.VarId.{VarId}
use Rattle.vb_tree.specs.declared.value.Value6.{Value6}
use Rattle.vb_tree.specs.Blocks.{is_code}
use Rattle.vb_tree.specs.Tree.{Form}
use Rattle.vb_tree.specs.Tree as source
use Rattle.bound_tree.specs.Tree.{Variable, Constant, Procedure}
use Rattle.net_tree.specs.Tree as net
use Rattle.net_tree.specs.Types.{TypeName}
use Rattle.written_trees.specs.Heads.{param_by, params_of}
use Rattle.written_trees.specs.Lines.{is_flagged_for}
use Rattle.written_trees.specs.Names.{Scope}
use Rattle.written_trees.specs.Prologues.{Code, variables_of, constants_of, written_variable, is_static, variable_dim, constant_dim_by, constant_dim, sound_value, statement_dims, dims_from, declares, counter_dim, count_replaced, counters_from, prologue}
use Rattle.net_run.specs.Members as made
use Rattle.run_matches.specs.Covered.{is_free_name}
use Rattle.run_matches.specs.Frames.{result_names, dim_name, declared_names}
use Rattle.run_statements.specs.Written.{written_result}
use Rattle.name_laws.specs.Free.{is_free_head, is_free_member, has_free_members, is_free_code}
use Rattle.name_laws.proofs.Lists.{both_true, and_true, all_append, all_cond, all_map, all_flat}
use Rattle.name_laws.proofs.Names.{HasFreeNames, variable_free, counter_free, is_free_variable, is_free_constant, variables_free, constants_free}
use Rattle.name_laws.proofs.WrittenMembers.{written_name}

-- ---- parameters and results

abbrev is_free_param : net.Param → Bool
is_free_param p = is_free_name p.name

abbrev is_free_dim : net.Dim → Bool
is_free_dim d = is_free_name (dim_name d)

abbrev are_free : List (List ℕ) → Bool
are_free names = list_all is_free_name names

module _ (S : Scope) (F : HasFreeNames S.declarations) where
  params_free : (by_value : Bool) (vs : List VarId) → list_all is_free_param (params_of S by_value vs) ≡ true
  params_free by_value vs =
      all_flat is_free_param (λ (v : VarId). param_by S by_value v.0 (slice_get S.declarations.vars v.0)) vs (λ v. by v.0 (slice_get S.declarations.vars v.0) refl)
    where
      by : (v : ℕ) (o : Option Variable) → slice_get S.declarations.vars v ≡ o → list_all is_free_param (param_by S by_value v o) ≡ true
      by v None e = refl
      by v (Some x) e = and_true (is_free_name x.name) true (variable_free S.declarations F v x e) refl

  param_names_free : (by_value : Bool) (vs : List VarId) → are_free (map (λ (p : net.Param). p.name) (params_of S by_value vs)) ≡ true
  param_names_free by_value vs =
      all_map is_free_name (λ (p : net.Param). p.name) is_free_param (params_of S by_value vs) (λ p h. h) (params_free by_value vs)

  -- ---- declarations at the head

  variable_dim_free : (v : ℕ × Variable) → is_free_variable v ≡ true → is_free_dim (variable_dim S v) ≡ true
  variable_dim_free v h = by (is_static v.1.owner)
    where
      by : (b : Bool) → is_free_dim (cond b (net.static_local (written_variable S v)) (net.local (written_variable S v))) ≡ true
      by true = written_name S v h
      by false = written_name S v h

  constant_dim_free : (c : ℕ × Constant) → is_free_constant c ≡ true → is_free_dim (constant_dim S c) ≡ true
  constant_dim_free c h = by (sound_value S.facts c)
    where
      by : (o : Option Value6) → is_free_dim (constant_dim_by S c.1 o) ≡ true
      by None = h
      by (Some x) = h

  statement_dims_free : (n : ℕ) → list_all is_free_dim (statement_dims S n) ≡ true
  statement_dims_free n =
      all_append is_free_dim (map (variable_dim S) (variables_of S.declarations S.file n)) (map (constant_dim S) (constants_of S.declarations S.file n))
      (all_map is_free_dim (variable_dim S) is_free_variable (variables_of S.declarations S.file n) (λ v h. variable_dim_free v h)
      (variables_free S.file n 0 S.declarations.vars F.vars))
      (all_map is_free_dim (constant_dim S) is_free_constant (constants_of S.declarations S.file n) (λ c h. constant_dim_free c h)
      (constants_free S.file n 0 S.declarations.consts F.consts))

  dims_free : (test : Form → Bool) (n : ℕ) (lines : List source.Line) → list_all is_free_dim (dims_from S test n lines) ≡ true
  dims_free test n [] = refl
  dims_free test n (l ∷ ls) =
      all_append is_free_dim (cond (test l.form) (statement_dims S n) []) (dims_from S test (suc n) ls)
      (all_cond is_free_dim (test l.form) (statement_dims S n) [] (statement_dims_free n) refl) (dims_free test (suc n) ls)

  counters_free : (k : ℕ) (code : List Code) → list_all is_free_dim (counters_from k code) ≡ true
  counters_free k [] = refl
  counters_free k (c ∷ code) =
      all_append is_free_dim (cond (is_flagged_for c.0 c.1.source.form) (counter_dim (suc k) ∷ []) []) (counters_from (k + count_replaced c) code)
      (all_cond is_free_dim (is_flagged_for c.0 c.1.source.form) (counter_dim (suc k) ∷ []) []
      (and_true (is_free_dim (counter_dim (suc k))) true (counter_free (suc k)) refl) refl) (counters_free (k + count_replaced c) code)

  prologue_free : (n : ℕ) (lines : List source.Line) (code : List Code) → are_free (map dim_name (prologue S n lines code)) ≡ true
  prologue_free n lines code =
      all_map is_free_name dim_name is_free_dim (prologue S n lines code) (λ d h. h)
      (all_append is_free_dim (dims_from S declares n lines ++ dims_from S is_code n lines) (counters_from 0 code)
      (all_append is_free_dim (dims_from S declares n lines) (dims_from S is_code n lines) (dims_free declares n lines) (dims_free is_code n lines))
      (counters_free 0 code))

-- ---- the names of a procedure

pub result_free : (S : Scope) (x : Procedure) (k : ProcKind) → is_free_name x.name ≡ true → are_free (result_names (written_result S x k)) ≡ true
result_free S x kind.Sub h = refl
result_free S x kind.Function h = and_true (is_free_name x.name) true h refl
result_free S x kind.Get h = and_true (is_free_name x.name) true h refl
result_free S x kind.Let h = refl
result_free S x kind.Set h = refl

-- those of its parameters, its result and its prologue
pub procedure_names_free : (S : Scope) (F : HasFreeNames S.declarations) (c : made.Code) (by_value : Bool) (vs : List VarId) (r : Option (List ℕ × TypeName))
    (T : Scope) (n : ℕ) (lines : List source.Line) (code : List Code) → HasFreeNames T.declarations → made.params_of c ≡ params_of S by_value vs
    → made.result_of c ≡ r → are_free (result_names r) ≡ true → c.procedure.prologue ≡ prologue T n lines code → list_all is_free_name (declared_names c) ≡ true
procedure_names_free S F c by_value vs r T n lines code G params result free dims =
    let named = map (λ (p : net.Param). p.name) (made.params_of c) in
    let results = result_names (made.result_of c) in
    all_append is_free_name named (results ++ map dim_name c.procedure.prologue)
    (ap (λ ps. are_free (map (λ (p : net.Param). p.name) ps)) params ∙ param_names_free S F by_value vs)
    (all_append is_free_name results (map dim_name c.procedure.prologue) (ap (λ o. are_free (result_names o)) result ∙ free)
    (ap (λ ds. are_free (map dim_name ds)) dims ∙ prologue_free T G n lines code))

-- ---- the procedures of a project

part_free : (home k : ℕ) (sets : Bool) (p : net.Property) (o : Option net.Procedure) → is_free_name p.name ≡ true
    → list_all is_free_code (made.part_code home k sets p o) ≡ true
part_free home k sets p None h = refl
part_free home k sets p (Some q) h = and_true (is_free_name p.name) true h refl

member_codes_free : (home k : ℕ) (m : net.Member) → is_free_member m ≡ true → list_all is_free_code (made.codes_of_member home k m) ≡ true
member_codes_free home k (net.member_comment units) h = refl
member_codes_free home k (net.variable visibility v) h = refl
member_codes_free home k (net.const_member visibility c) h = refl
member_codes_free home k (net.structure s) h = refl
member_codes_free home k (net.property p) h =
    all_append is_free_code (made.part_code home k false p p.get) (made.part_code home k true p p.set) (part_free home k false p p.get h)
    (part_free home k true p p.set h)
member_codes_free home k (net.proc p) h = and_true (is_free_head p.head) true h refl

members_codes_free : (home k : ℕ) (ms : List net.Member) → list_all is_free_member ms ≡ true → list_all is_free_code (made.codes_of_members home k ms) ≡ true
members_codes_free home k [] h = refl
members_codes_free home k (m ∷ ms) h =
    let b = both_true (is_free_member m) (list_all is_free_member ms) h in
    all_append is_free_code (made.codes_of_member home k m) (made.codes_of_members home (suc k) ms) (member_codes_free home k m b.0)
    (members_codes_free home (suc k) ms b.1)

pub codes_free : (home : ℕ) (ms : List net.Module) → list_all has_free_members ms ≡ true → list_all is_free_code (made.codes_of_modules home ms) ≡ true
codes_free home [] h = refl
codes_free home (m ∷ ms) h =
    let b = both_true (has_free_members m) (list_all has_free_members ms) h in
    all_append is_free_code (made.codes_of_members home 0 m.members) (made.codes_of_modules (suc home) ms) (members_codes_free home 0 m.members b.0)
    (codes_free (suc home) ms b.1)
