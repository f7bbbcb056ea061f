-- Tables of members depend on the project, the owner of each variable, and the kind and the first part of each procedure alone.
use Rattle.std.proofs.Common.{◌≡◌, ℕ, suc, ◌+◌, ◌&&◌, cond, nat_eq, List, [], ◌∷◌, map, refl, ap, sym, ◌∙◌, subst}
use Rattle.std.specs.Prelude.{Option, Some, position}
use Rattle.std.specs.List.{position_from}
use Rattle.std.proofs.lemmas.Iterator.Adapters.{position_from-zero}
use Rattle.vb_tree.specs.Tree.{Project}
use Rattle.vb_tree.specs.declared.declared.Owner.{Owner}
use Rattle.vb_tree.specs.declared.declared.ProcId.{ProcId}
use Rattle.vb_tree.specs.declared.declared.ProcKind.{ProcKind}
use Rattle.bound_tree.specs.Tree.{Declarations, Procedure, Variable}
use Rattle.bound_facts.specs.Members.{class_files, is_of_module, variables_from}
use Rattle.name_tables.proofs.SameTables.{same_tables}
use Rattle.name_tables.specs.Tables.{AreTables}
use Rattle.name_tables.specs.declared.tables.NameTables.{NameTables}
use Rattle.expression_words.specs.declared.context.Context.{Context}
use Rattle.expression_words.specs.declared.member_tables.MemberTables.{MemberTables}
use Rattle.expression_words.specs.MemberTables.{AreMemberTables}
use Rattle.expression_words.specs.Members.{is_kind, is_part}
use Rattle.expression_words.specs.View.{IsContext, declared_in}

-- what tables of members read of two projects' declarations is the same
pub record HaveSameMembers (D E : Declarations) : Type 0 where
  pub project : D.project ≡ E.project
  pub owners : map (λ (v : Variable). v.owner) D.vars ≡ map (λ (v : Variable). v.owner) E.vars
  pub kinds : map (λ (q : Procedure). q.kind) D.procs ≡ map (λ (q : Procedure). q.kind) E.procs
  pub firsts : map (λ (q : Procedure). q.first) D.procs ≡ map (λ (q : Procedure). q.first) E.procs

-- ---- parts of properties

part_here : (first : ℕ) (k : ProcKind) (i : ℕ) (x y : Procedure) (o p : Option ℕ) → x.kind ≡ y.kind → x.first ≡ y.first → o ≡ p
    → cond (is_part first k x) (Some i) o ≡ cond (is_part first k y) (Some i) p
part_here first k i x y o p kinds firsts rest =
    ap (λ (w : ProcKind). cond (nat_eq x.first.0 first && is_kind k w) (Some i) o) kinds
    ∙ ap (λ (f : ProcId). cond (nat_eq f.0 first && is_kind k y.kind) (Some i) o) firsts
    ∙ ap (cond (is_part first k y) (Some i)) rest

parts_from : (first : ℕ) (k : ProcKind) (i : ℕ) (xs ys : List Procedure)
    → map (λ (q : Procedure). q.kind) xs ≡ map (λ (q : Procedure). q.kind) ys → map (λ (q : Procedure). q.first) xs ≡ map (λ (q : Procedure). q.first) ys
    → position_from (is_part first k) i xs ≡ position_from (is_part first k) i ys
parts_from first k i [] [] kinds firsts = refl
parts_from first k i [] (y ∷ ys) kinds firsts = cc
parts_from first k i (x ∷ xs) [] kinds firsts = cc
parts_from first k i (x ∷ xs) (y ∷ ys) kinds firsts =
    part_here first k i x y _ _ (cc) (cc) (parts_from first k (i + 1) xs ys (cc) (cc))

same_parts : (first : ℕ) (k : ProcKind) (xs ys : List Procedure)
    → map (λ (q : Procedure). q.kind) xs ≡ map (λ (q : Procedure). q.kind) ys → map (λ (q : Procedure). q.first) xs ≡ map (λ (q : Procedure). q.first) ys
    → position (is_part first k) xs ≡ position (is_part first k) ys
same_parts first k xs ys kinds firsts =
    position_from-zero (is_part first k) xs ∙ parts_from first k 0 xs ys kinds firsts ∙ sym (position_from-zero (is_part first k) ys)

-- ---- variables of modules

variable_here : (file k : ℕ) (x y : Variable) (vs ws : List ℕ) → x.owner ≡ y.owner → vs ≡ ws
    → cond (is_of_module file x.owner) (k ∷ vs) vs ≡ cond (is_of_module file y.owner) (k ∷ ws) ws
variable_here file k x y vs ws owners rest =
    ap (λ (o : Owner). cond (is_of_module file o) (k ∷ vs) vs) owners ∙ ap (λ us. cond (is_of_module file y.owner) (k ∷ us) us) rest

same_variables : (file k : ℕ) (xs ys : List Variable) → map (λ (v : Variable). v.owner) xs ≡ map (λ (v : Variable). v.owner) ys
    → variables_from file k xs ≡ variables_from file k ys
same_variables file k [] [] owners = refl
same_variables file k [] (y ∷ ys) owners = cc
same_variables file k (x ∷ xs) [] owners = cc
same_variables file k (x ∷ xs) (y ∷ ys) owners = variable_here file k x y _ _ (cc) (same_variables file (suc k) xs ys (cc))

-- ---- the tables

pub same_members : (t : MemberTables) (D E : Declarations) → HaveSameMembers D E → AreMemberTables t D → AreMemberTables t E
same_members t D E same tables = record {
  parts = λ k first. tables.parts k first ∙ same_parts first k D.procs E.procs same.kinds same.firsts;
  class_files = tables.class_files ∙ ap class_files same.project;
  classes = λ file. tables.classes file ∙ ap (λ (P : Project). position (nat_eq file) (class_files P)) same.project;
  places = λ file v. tables.places file v ∙ ap (position (nat_eq v)) (same_variables file 0 D.vars E.vars same.owners);
}

-- a context whose tables are those of other declarations, of which they read the same
pub context_by : (c : Context) (D : Declarations) → AreTables c.tables.now D → AreMemberTables c.members.now D
    → D.names ≡ (declared_in c).names → D.enums ≡ (declared_in c).enums → HaveSameMembers D (declared_in c) → IsContext c
context_by c D names members same_names same_enums same = record {
  names = same_tables c.tables.now D (declared_in c) same_names same.project same_enums names;
  members = same_members c.members.now D (declared_in c) same members;
}

-- a context with the tables of another
pub same_context : (c d : Context) → c.tables.now ≡ d.tables.now → c.members.now ≡ d.members.now
    → (declared_in c).names ≡ (declared_in d).names → (declared_in c).enums ≡ (declared_in d).enums → HaveSameMembers (declared_in c) (declared_in d)
    → IsContext c → IsContext d
same_context c d tables members same_names same_enums same is =
    context_by d (declared_in c) (subst (λ (t : NameTables). AreTables t (declared_in c)) tables is.names)
    (subst (λ (t : MemberTables). AreMemberTables t (declared_in c)) members is.members) same_names same_enums same
