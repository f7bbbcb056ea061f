-- Where no name is reserved, the names of written functions lead to them.
use Rattle.std.proofs.Common.{◌≡◌, refl, ap, sym, ◌∙◌, ℕ, zero, suc, Bool, true, false, cond, List, [], ◌∷◌, map, Some, None, codes}
use Rattle.std.specs.List.{list_all}
use Rattle.vb_tree.specs.FlatLines.{flat_lines}
use Rattle.net_tree.specs.Tree as net
use Rattle.up_base.specs.Names.{is_same_name}
use Rattle.bound_tree.specs.Tree.{Procedure}
use Rattle.written_trees.specs.Arguments.{is_property_kind}
use Rattle.written_trees.specs.Bodies.{inside_procedure, code_at}
use Rattle.written_trees.specs.Heads.{head_of, is_function, params_of, result_type, written_visibility}
use Rattle.written_trees.specs.Names.{Scope}
use Rattle.written_trees.specs.Projects.{first_numbers, modules_from}
use Rattle.net_run.specs.Lines.{scope_of}
use Rattle.net_run.specs.Members as made
use Rattle.net_run.specs.Members.{is_head_named, is_member_named}
use Rattle.net_run.specs.Names.{support_name, var_in}
use Rattle.net_run.specs.Names as net_names
use Rattle.net_run.specs.Shapes.{first_from, members_of, module_at, module_in}
use Rattle.net_run.specs.Store.{Address}
use Rattle.row_laws.specs.Uncaptured.{IsFree}
use Rattle.run_matches.specs.Covered.{is_free_name}
use Rattle.run_matches.specs.Frames.{declared_names}
use Rattle.run_matches.specs.Sites.{Site}
use Rattle.run_matches.specs.Upgrades.{Upgrade}
use Rattle.run_statements.specs.Kept.{NamesAreOpen}
use Rattle.run_statements.specs.Written.{IsWritten, WrittenProcedure, site_scope, written_result}
use Rattle.name_laws.specs.Free.{is_free_by, is_free_head, is_free_member, has_free_members, is_free_code}
use Rattle.name_laws.proofs.Lists.{both_true, all_at}
use Rattle.name_laws.proofs.Names.{IsNoFree, no_support, no_library, no_mathematics, free_names}
use Rattle.name_laws.proofs.WrittenMembers.{modules_free, module_names_free}
use Rattle.name_laws.proofs.Declared.{codes_free, procedure_names_free, result_free}

-- ---- searches for a name that no free name is

no_first : {A : Type 0} (test : A → Bool) (k : ℕ) (x : A) (xs : List A) → test x ≡ false → first_from test (suc k) xs ≡ None → first_from test k (x ∷ xs) ≡ None
no_first test k x xs h e = ap (λ b. cond b (Some (k, x)) (first_from test (suc k) xs)) h ∙ e

variable_none : (name : List ℕ) → IsNoFree name → (vars : List (List ℕ × Address)) → list_all is_free_name (map (λ (x : List ℕ × Address). x.0) vars) ≡ true
    → var_in vars name ≡ None
variable_none name other [] h = refl
variable_none name other (x ∷ vars) h =
    let b = both_true (is_free_name x.0) (list_all is_free_name (map (λ (x : List ℕ × Address). x.0) vars)) h in
    ap (λ t. cond t (Some x.1) (var_in vars name)) (other x.0 b.0) ∙ variable_none name other vars b.1

head_other : (name : List ℕ) → IsNoFree name → (h : net.Head) → is_free_head h ≡ true → is_head_named name h ≡ false
head_other name other (net.sub visibility n params) e = other n e
head_other name other (net.function visibility n params ty) e = other n e
head_other name other net.sub_new e = refl
head_other name other net.get_part e = refl
head_other name other (net.set_part n ty) e = refl

member_other : (name : List ℕ) → IsNoFree name → (m : net.Member) → is_free_member m ≡ true → is_member_named name m ≡ false
member_other name other (net.member_comment units) e = refl
member_other name other (net.variable visibility v) e = other v.name e
member_other name other (net.const_member visibility c) e = other c.name e
member_other name other (net.structure s) e = refl
member_other name other (net.property p) e = other p.name e
member_other name other (net.proc p) e = head_other name other p.head e

member_none : (name : List ℕ) → IsNoFree name → (k : ℕ) (ms : List net.Member) → list_all is_free_member ms ≡ true
    → first_from (is_member_named name) k ms ≡ None
member_none name other k [] h = refl
member_none name other k (m ∷ ms) h =
    let b = both_true (is_free_member m) (list_all is_free_member ms) h in
    no_first (is_member_named name) k m ms (member_other name other m b.0) (member_none name other (suc k) ms b.1)

module_none : (name : List ℕ) → IsNoFree name → (k : ℕ) (ms : List net.Module) → list_all (λ (m : net.Module). is_free_name m.name) ms ≡ true
    → first_from (λ (m : net.Module). is_same_name m.name name) k ms ≡ None
module_none name other k [] h = refl
module_none name other k (m ∷ ms) h =
    let b = both_true (is_free_name m.name) (list_all (λ (m : net.Module). is_free_name m.name) ms) h in
    no_first (λ (m : net.Module). is_same_name m.name name) k m ms (other m.name b.0) (module_none name other (suc k) ms b.1)

members_at_free : (ms : List net.Module) (k : ℕ) → list_all has_free_members ms ≡ true → list_all is_free_member (members_of (module_in ms k)) ≡ true
members_at_free [] k h = refl
members_at_free (m ∷ ms) zero h = (both_true (has_free_members m) (list_all has_free_members ms) h).0
members_at_free (m ∷ ms) (suc k) h = members_at_free ms k (both_true (has_free_members m) (list_all has_free_members ms) h).1

free_scope : (S : net_names.Scope) (name : List ℕ) → IsNoFree name → list_all is_free_name (map (λ (x : List ℕ × Address). x.0) S.vars) ≡ true
    → list_all has_free_members S.project.modules ≡ true → list_all (λ (m : net.Module). is_free_name m.name) S.project.modules ≡ true → IsFree S name
free_scope S name other vars members modules = record {
  no_variable = variable_none name other S.vars vars;
  no_member = member_none name other 0 (members_of (module_at S.project S.home)) (members_at_free S.project.modules S.home members);
  no_module = module_none name other 0 S.project.modules modules;
}

-- ---- the name of a procedure

named_by_head : (S : Scope) (x : Procedure) (name : List ℕ) → is_free_head (head_of S x name) ≡ true → is_free_name name ≡ true
named_by_head S x name = by (is_function x.kind)
  where
    by : (b : Bool) → is_free_head (cond b
        (net.function (written_visibility x.visibility) name (params_of S false x.params) (result_type S x))
        (net.sub (written_visibility x.visibility) name (params_of S false x.params))) ≡ true → is_free_name name ≡ true
    by true h = h
    by false h = h

-- what is written has it from its head, or from the property of which it is a part
own_name_free : (U : Upgrade) (p : ℕ) (s : Site) (x : Procedure) (W : WrittenProcedure U p s x) → is_free_code W.code ≡ true → is_free_name x.name ≡ true
own_name_free U p s x W free = by (is_property_kind x.kind) refl
  where
    by : (b : Bool) → is_property_kind x.kind ≡ b → is_free_name x.name ≡ true
    by true e =
        let J = W.joined e in
        ap is_free_name (sym J.name) ∙ ap (λ o. is_free_by o W.code.procedure.head) (sym J.is_property) ∙ free
    by false e =
        let A = W.alone e in
        named_by_head (site_scope U s) x x.name
        (ap is_free_head (sym A.is_head) ∙ ap (λ (q : net.Procedure). is_free_head q.head) (sym W.is_written)
        ∙ ap (λ o. is_free_by o W.code.procedure.head) (sym A.property) ∙ free)

-- ---- the law

pub names_are_open : (U : Upgrade) → IsWritten U → NamesAreOpen U
names_are_open U I p s x W g k covers names =
    let F = free_names U.program.declarations covers in
    let ms = modules_from U.program U.facts first_numbers U.program.declarations.project.modules in
    let are : U.written.modules ≡ ms = ap (λ (N : net.Project). N.modules) I.is_written in
    let members : list_all has_free_members U.written.modules ≡ true =
    ap (list_all has_free_members) are ∙ modules_free U.program U.facts F first_numbers U.program.declarations.project.modules in
    let modules : list_all (λ (m : net.Module). is_free_name m.name) U.written.modules ≡ true =
    ap (list_all (λ (m : net.Module). is_free_name m.name)) are
    ∙ module_names_free U.program U.facts first_numbers U.program.declarations.project.modules F.modules in
    let code : is_free_code W.code ≡ true =
    all_at is_free_code (made.codes_of U.written) W.number W.code (codes_free 0 U.written.modules members) W.is_code in
    let S = site_scope U s in
    let lines = flat_lines s.body in
    let declared : list_all is_free_name (declared_names W.code) ≡ true =
    procedure_names_free S F W.code (is_property_kind x.kind) x.params (written_result S x x.kind) (inside_procedure S s.placed.at.procedure)
    (suc s.placed.at.statement) lines (code_at U.program S (suc s.placed.at.statement) s.placed.at.procedure lines) F W.params W.result
    (result_free S x x.kind (own_name_free U p s x W code)) (ap (λ (q : net.Procedure). q.prologue) W.is_written) in
    let vars : list_all is_free_name (map (λ (x : List ℕ × Address). x.0) g.vars) ≡ true = ap (list_all is_free_name) names ∙ declared in
    record {
      support = free_scope (scope_of U.written W.code g k) support_name no_support vars members modules;
      texts = free_scope (scope_of U.written W.code g k) (codes "Microsoft") no_library vars members modules;
      math = free_scope (scope_of U.written W.code g k) (codes "System") no_mathematics vars members modules;
    }
