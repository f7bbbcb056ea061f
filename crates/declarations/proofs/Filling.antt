-- What is filled in changes no table.
use Rattle.std.proofs.Common.{◌≡◌, List, [], ◌∷◌, map, refl, ap, ◌∙◌, sym, subst, Option, Vec, Global}
use Rattle.vb_tree.specs.declared.declared.Owner.{Owner}
use Rattle.vb_tree.specs.declared.declared.ProcId.{ProcId}
use Rattle.vb_tree.specs.declared.declared.ProcKind.{ProcKind}
use Rattle.vb_tree.specs.Tree.{Project}
use Rattle.vb_tree.specs.View.{project_of}
use Rattle.bound_tree.specs.declared.declared.ConstDecl.{ConstDecl}
use Rattle.bound_tree.specs.Tree.{Constant, Declarations, Procedure, Variable}
use Rattle.bound_tree.specs.View.{constant_of, procedure_of, variable_of}
use Rattle.declared_names.specs.Declaring.{Lists, NamedVariable}
use Rattle.declared_names.specs.View.{names_of}
use Rattle.name_tables.proofs.SameTables.{same_tables}
use Rattle.expression_words.proofs.SameMembers.{HaveSameMembers, same_members}
use Rattle.declarations.specs.declared.bare.Filled.{Filled}
use Rattle.declarations.specs.declared.fixed.Fixed.{Fixed}
use Rattle.declarations.specs.Bare.{bare, bare_of, bare_variable}
use Rattle.declarations.specs.Typed.{typed, typed_variable, typed_variables, with_result}
use Rattle.declarations.specs.View.{filled_by, IsFixed}

owners_stay : (D : Declarations) (xs : List NamedVariable)
    → map (λ (v : Variable). v.owner) (map bare_variable xs) ≡ map (λ (v : Variable). v.owner) (map (typed_variable D) xs)
owners_stay D [] = refl
owners_stay D (x ∷ xs) = ap (λ (os : List Owner). x.owner ∷ os) (owners_stay D xs)

kinds_stay : (vs : List Variable) (ps : List Procedure)
    → map (λ (q : Procedure). q.kind) ps ≡ map (λ (q : Procedure). q.kind) (map (with_result vs) ps)
kinds_stay vs [] = refl
kinds_stay vs (p ∷ ps) = ap (λ (ks : List ProcKind). p.kind ∷ ks) (kinds_stay vs ps)

firsts_stay : (vs : List Variable) (ps : List Procedure)
    → map (λ (q : Procedure). q.first) ps ≡ map (λ (q : Procedure). q.first) (map (with_result vs) ps)
firsts_stay vs [] = refl
firsts_stay vs (p ∷ ps) = ap (λ (ks : List ProcId). p.first ∷ ks) (firsts_stay vs ps)

typed_members : (P : Project) (L : Lists) → HaveSameMembers (bare P L) (typed P L)
typed_members P L = record {
  project = refl;
  owners = owners_stay (bare P L) L.vars;
  kinds = kinds_stay (typed P L).vars (bare_of L);
  firsts = firsts_stay (typed P L).vars (bare_of L);
}

same_by : (D E F G : Declarations) → D ≡ E → F ≡ G → HaveSameMembers E G → HaveSameMembers D F
same_by D E F G from to same = subst (λ (A : Declarations). HaveSameMembers A F) (sym from) (subst (λ (B : Declarations). HaveSameMembers E B) (sym to) same)

-- with the types that variables name
pub fixed_typed : (x : Fixed) (f g : Filled) (P : Project) (L : Lists) → filled_by x f ≡ bare P L → filled_by x g ≡ typed P L → IsFixed x f → IsFixed x g
fixed_typed x f g P L from to is = record {
  tables = same_tables x.tables.now (filled_by x f) (filled_by x g) refl refl refl is.tables;
  members = same_members x.member_tables.now (filled_by x f) (filled_by x g) (same_by _ _ _ _ from to (typed_members P L)) is.members;
  facts = is.facts;
  kept = is.kept;
}

abbrev with_lists : Fixed → List Variable → List Constant → List Procedure → List (Option ProcId) → Declarations
with_lists x vs cs ps ds = record {
  project = project_of x.project.now;
  names = x.names.now.names;
  vars = vs;
  consts = cs;
  procs = ps;
  types = x.names.now.types;
  enums = x.names.now.enums;
  defaults = ds;
}

-- lists with the types that variables name, and the results that these are of
pub typed_filled : (x : Fixed) (f g : Filled) (vs : List Variable) → filled_by x f ≡ bare (project_of x.project.now) (names_of x.names.now)
    → map variable_of g.vars.items ≡ vs → vs ≡ map (typed_variable (filled_by x f)) (names_of x.names.now).vars
    → map procedure_of g.procs.items ≡ map (with_result vs) (map procedure_of f.procs.items) → g.consts ≡ f.consts → g.defaults ≡ f.defaults
    → filled_by x g ≡ typed (project_of x.project.now) (names_of x.names.now)
typed_filled x f g vs from shown vars procs consts defaults =
    let P = project_of x.project.now in
    let L = names_of x.names.now in
    let types : vs ≡ typed_variables P L = vars ∙ ap (λ D. map (typed_variable D) L.vars) from in
    let cs : map constant_of g.consts.items ≡ (bare P L).consts =
    ap (λ (v : Vec ConstDecl Global). map constant_of v.items) consts ∙ ap (λ (D : Declarations). D.consts) from in
    let ps : map procedure_of g.procs.items ≡ map (with_result (typed_variables P L)) (bare_of L) =
    procs ∙ ap (λ us. map (with_result us) (map procedure_of f.procs.items)) types
    ∙ ap (λ (D : Declarations). map (with_result (typed_variables P L)) D.procs) from in
    let ds : g.defaults.items ≡ (bare P L).defaults = ap (λ (v : Vec (Option ProcId) Global). v.items) defaults ∙ ap (λ (D : Declarations). D.defaults) from in
    ap (λ us. with_lists x us (map constant_of g.consts.items) (map procedure_of g.procs.items) g.defaults.items) (shown ∙ types)
    ∙ ap (λ us. with_lists x (typed_variables P L) us (map procedure_of g.procs.items) g.defaults.items) cs
    ∙ ap (λ us. with_lists x (typed_variables P L) (bare P L).consts us g.defaults.items) ps
    ∙ ap (λ us. with_lists x (typed_variables P L) (bare P L).consts (map (with_result (typed_variables P L)) (bare_of L)) us) ds
