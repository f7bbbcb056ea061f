-- Declarations keep their places when their types and values are found.
use Rattle.std.proofs.Common.{ℕ, zero, suc, ◌+◌, Bool, true, false, ◌&&◌, not, cond, List, [], ◌∷◌, length, Option, Some, None, IfSome, slice_get, sym, subst}
use Rattle.std.specs.List.{AllByRecursion as Each}
use Rattle.up_base.specs.declared.place.Place.{Place}
use Rattle.vb_tree.specs.BoundTree.{Ty}
use Rattle.vb_tree.specs.declared.declared.ProcId.{ProcId}
use Rattle.vb_tree.specs.declared.value.Value6.{Value6}
use Rattle.vb_tree.specs.Tree.{Project}
use Rattle.bound_tree.specs.declared.declared.EnumDecl.{EnumDecl}
use Rattle.bound_tree.specs.declared.declared.TypeDecl.{TypeDecl}
use Rattle.bound_tree.specs.declared.marks.Marks.{Marks}
use Rattle.bound_tree.specs.Tree.{Constant, Declarations, Procedure, Variable}
use Rattle.declared_names.specs.Declaring.{Lists, NamedConstant, NamedProcedure, NamedVariable, lists_of}
use Rattle.declared_names.specs.Parts.{first_parts}
use Rattle.declarations.specs.Bare.{bare, bare_constant, bare_of, bare_procedures}
use Rattle.declarations.specs.ConstantExpressions.{Outcome, valued, broken}
use Rattle.declarations.specs.Constants.{constant_with, lacks_value, outcome_of, round, rounds, settled, step, with_outcome, with_value}
use Rattle.declarations.specs.Finals.{IsDeclared, final, final_constant, final_procedure, final_variable, is_flagged, kept_constant, planned_at, plans_of, rules_at}
use Rattle.declarations.specs.Numbered.{numbered}
use Rattle.declarations.specs.Plans.{Plan}
use Rattle.declarations.specs.Typed.{typed, typed_variable, typed_variables, with_result}
use Rattle.issue_places.proofs.Each.{each_got, each_map, each_numbered, each_set}
use Rattle.issue_places.proofs.Standing.{ModulesStand}
use Rattle.issue_places.proofs.Declared.{ListsStand, lists_stand}

pub record DeclarationsStand (F : Place → Type 0) (D : Declarations) : Type 0 where
  pub modules : ModulesStand F D.project.modules
  pub vars : Each (λ (v : Variable). F v.place) D.vars
  pub consts : Each (λ (c : Constant). F c.place) D.consts
  pub procs : Each (λ (p : Procedure). F p.place) D.procs
  pub types : Each (λ (t : TypeDecl). F t.place) D.types
  pub enums : Each (λ (e : EnumDecl). F e.place) D.enums

-- ---- types

bare_stand : (F : Place → Type 0) (firsts : List ProcId) (ps : List NamedProcedure) → Each (λ (p : NamedProcedure). F p.place) ps → Each (λ (p : Procedure). F p.place) (bare_procedures firsts ps)
bare_stand F firsts [] h = tt
bare_stand F [] (p ∷ ps) h = tt
bare_stand F (first ∷ firsts) (p ∷ ps) h = (h.0, bare_stand F firsts ps h.1)

typed_stands : (F : Place → Type 0) (P : Project) (L : Lists) → ModulesStand F P.modules → ListsStand F L → DeclarationsStand F (typed P L)
typed_stands F P L m h = record {
  modules = m;
  vars = each_map (λ (v : Variable). F v.place) (λ (v : NamedVariable). F v.place) (typed_variable (bare P L)) (λ v s. s) L.vars h.vars;
  consts = each_map (λ (c : Constant). F c.place) (λ (c : NamedConstant). F c.place) bare_constant (λ c s. s) L.consts h.consts;
  procs = each_map (λ (p : Procedure). F p.place) (λ (p : Procedure). F p.place) (with_result (typed_variables P L)) (λ p s. s) (bare_of L) (bare_stand F (first_parts L) L.procs h.procs);
  types = h.types;
  enums = h.enums;
}

-- ---- the values of constants

abbrev ConstantsStand : (Place → Type 0) → List Constant → Type 0
ConstantsStand F cs = Each (λ (c : Constant). F c.place) cs

value_stands : (F : Place → Type 0) (n : ℕ) (o : Option Constant) (cs : List Constant) (ty : Ty) (x : Value6) → IfSome o (λ (c : Constant). F c.place) → ConstantsStand F cs → ConstantsStand F (with_value n o cs ty x)
value_stands F n None cs ty x s h = h
value_stands F n (Some c) cs ty x s h = each_set (λ (k : Constant). F k.place) cs n (constant_with c ty x) s h

outcome_stands : (F : Place → Type 0) (n : ℕ) (cs : List Constant) (o : Outcome) → ConstantsStand F cs → ConstantsStand F (with_outcome n cs o)
outcome_stands F n cs (valued ty x) h = value_stands F n (slice_get cs n) cs ty x (each_got (λ (c : Constant). F c.place) cs n h) h
outcome_stands F n cs (broken rules) h = h

constants_stand : (F : Place → Type 0) (D : Declarations) (cs : List Constant) → DeclarationsStand F D → ConstantsStand F cs → DeclarationsStand F (record D { consts = cs })
constants_stand F D cs h s = record { modules = h.modules; vars = h.vars; consts = s; procs = h.procs; types = h.types; enums = h.enums }

either_stands : (F : Place → Type 0) (b : Bool) (C D : Declarations) → DeclarationsStand F C → DeclarationsStand F D → DeclarationsStand F (cond b C D)
either_stands F true C D h k = h
either_stands F false C D h k = k

step_stands : (F : Place → Type 0) (member : ℕ → Bool) (D : Declarations) (n : ℕ) (c : NamedConstant) → DeclarationsStand F D → DeclarationsStand F (step member D n c)
step_stands F member D n c h =
    let cs = with_outcome n D.consts (outcome_of D (member n) c) in
    either_stands F (lacks_value (slice_get D.consts n)) (record D { consts = cs }) D
    (constants_stand F D cs h (outcome_stands F n D.consts (outcome_of D (member n) c) h.consts)) h

round_stands : (F : Place → Type 0) (member : ℕ → Bool) (D : Declarations) (n : ℕ) (cs : List NamedConstant) → DeclarationsStand F D → DeclarationsStand F (round member D n cs)
round_stands F member D n [] h = h
round_stands F member D n (c ∷ cs) h = round_stands F member (step member D n c) (n + 1) cs (step_stands F member D n c h)

rounds_stand : (F : Place → Type 0) (member : ℕ → Bool) (n : ℕ) (cs : List NamedConstant) (D : Declarations) → DeclarationsStand F D → DeclarationsStand F (rounds member n cs D)
rounds_stand F member zero cs D h = h
rounds_stand F member (suc n) cs D h = rounds_stand F member n cs (round member D 0 cs) (round_stands F member D 0 cs h)

settled_stands : (F : Place → Type 0) (member : ℕ → Bool) (P : Project) (L : Lists) → ModulesStand F P.modules → ListsStand F L → DeclarationsStand F (settled member P L)
settled_stands F member P L m h = rounds_stand F member (length L.consts) L.consts (typed P L) (typed_stands F P L m h)

-- ---- what is known once constants have values

planned_stands : (F : Place → Type 0) (x : Variable) (flagged : Bool) (o : Option Plan) → F x.place → F (planned_at x flagged o).place
planned_stands F x flagged None h = h
planned_stands F x flagged (Some p) h = h

kept_stands : (F : Place → Type 0) (flagged : Bool) (c : Constant) → F c.place → F (kept_constant flagged c).place
kept_stands F true c h = h
kept_stands F false c h = h

final_stands : (F : Place → Type 0) (member : ℕ → Bool) (D : Declarations) (plans : List Plan) (M : Marks) → DeclarationsStand F D → DeclarationsStand F (final member D plans M)
final_stands F member D plans M h = record {
  modules = h.modules;
  vars = each_numbered (λ (v : Variable). F v.place) (λ (v : Variable). F v.place) (final_variable plans M.vars) (λ n v s. planned_stands F v (is_flagged (rules_at M.vars n)) (slice_get plans n) s) 0 D.vars h.vars;
  consts = each_numbered (λ (c : Constant). F c.place) (λ (c : Constant). F c.place) (final_constant member M.consts) (λ n c s. kept_stands F (is_flagged (rules_at M.consts n) && not (member n)) c s) 0 D.consts h.consts;
  procs = each_numbered (λ (p : Procedure). F p.place) (λ (p : Procedure). F p.place) (final_procedure (numbered (final_variable plans M.vars) 0 D.vars) M.heads) (λ n p s. s) 0 D.procs h.procs;
  types = h.types;
  enums = h.enums;
}

pub declared_stands : (F : Place → Type 0) (P : Project) (D : Declarations) (M : Marks) → ModulesStand F P.modules → IsDeclared P D M → DeclarationsStand F D
declared_stands F P D M m is =
    let S = settled is.member P (lists_of P) in
    subst (DeclarationsStand F) (sym is.declarations)
    (final_stands F is.member S (plans_of S (lists_of P)) M (settled_stands F is.member P (lists_of P) m (lists_stand F P m)))
