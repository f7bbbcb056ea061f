-- What a project declares: a procedure without a result variable has no type of a value.
use Rattle.std.proofs.Common.{◌≡◌, refl, sym, ap, ◌∙◌, subst, ℕ, zero, suc, ◌+◌, Bool, true, false, cond, not, ◌||◌, true≢false, List, [], ◌∷◌, length, map, Option, Some, None}
use Rattle.std.specs.Prelude.{is_some, slice_get}
use Rattle.std.specs.List.{list_all}
use Rattle.up_base.proofs.Lists.{all_first, all_rest}
use Rattle.up_base.proofs.Tests.{and_true}
use Rattle.vb_tree.specs.BoundTree as types
use Rattle.vb_tree.specs.BoundTree.{Ty}
use Rattle.vb_tree.specs.declared.declared.VarId.{VarId}
use Rattle.vb_tree.specs.Tree.{Project}
use Rattle.bound_tree.specs.declared.marks.Marks.{Marks}
use Rattle.bound_tree.specs.declared.rule_set.RuleSet.{RuleSet}
use Rattle.bound_tree.specs.Tree.{Declarations, Procedure, Program, Variable}
use Rattle.declared_names.specs.Declaring.{Lists, NamedConstant}
use Rattle.declarations.specs.Bare.{bare_of}
use Rattle.declarations.specs.Constants.{lacks_value, outcome_of, round, rounds, settled, step, with_outcome}
use Rattle.declarations.specs.Finals.{AreDeclared, IsDeclared, final_procedure, final_result, final_variable, plans_of}
use Rattle.declarations.specs.Numbered.{numbered}
use Rattle.declarations.specs.Typed.{result_of, typed, typed_variables, with_result}
use Rattle.binder.specs.Programs.{bound_program}
use Rattle.vb6_run.specs.Runnables.{Runnable}
use Rattle.run_matches.specs.CoveredVariables.{covers_type}
use Rattle.typing_laws.specs.Calls.{HaveResults}
use Rattle.typing_laws.specs.Typed.{gives_what_it_has}

-- ---- constants change no procedure

step_procs : (member : ℕ → Bool) (D : Declarations) (n : ℕ) (c : NamedConstant) → (step member D n c).procs ≡ D.procs
step_procs member D n c = by (lacks_value (slice_get D.consts n))
  where
    by : (b : Bool) → (cond b (record D { consts = with_outcome n D.consts (outcome_of D (member n) c) }) D).procs ≡ D.procs
    by true = refl
    by false = refl

round_procs : (member : ℕ → Bool) (D : Declarations) (n : ℕ) (cs : List NamedConstant) → (round member D n cs).procs ≡ D.procs
round_procs member D n [] = refl
round_procs member D n (c ∷ cs) = round_procs member (step member D n c) (n + 1) cs ∙ step_procs member D n c

rounds_procs : (member : ℕ → Bool) (n : ℕ) (cs : List NamedConstant) (D : Declarations) → (rounds member n cs D).procs ≡ D.procs
rounds_procs member zero cs D = refl
rounds_procs member (suc n) cs D = rounds_procs member n cs (round member D 0 cs) ∙ round_procs member D 0 cs

-- ---- procedures without a result variable

abbrev is_nothing : Ty → Bool
is_nothing types.nothing = true
is_nothing _ = false

abbrev has_nothing : Procedure → Bool
has_nothing p = is_some p.answer || is_nothing p.result

abbrev gives_nothing : Procedure → Bool
gives_nothing p = gives_what_it_has (Some p)

result_typed : (vs : List Variable) (p : Procedure) → has_nothing (with_result vs p) ≡ true
result_typed vs p = by p.answer
  where
    by : (o : Option VarId) → is_some o || is_nothing (result_of vs o) ≡ true
    by None = refl
    by (Some a) = refl

results_typed : (vs : List Variable) (ps : List Procedure) → list_all has_nothing (map (with_result vs) ps) ≡ true
results_typed vs [] = refl
results_typed vs (p ∷ ps) = and_true (has_nothing (with_result vs p)) (list_all has_nothing (map (with_result vs) ps)) (result_typed vs p) (results_typed vs ps)

final_gives : (vs : List Variable) (flagged : Bool) (o : Option VarId) (ty : Ty) → is_some o || is_nothing ty ≡ true
    → is_some o || not (covers_type (final_result vs flagged ty o)) ≡ true
final_gives vs flagged (Some a) ty h = refl
final_gives vs true None types.nothing h = refl
final_gives vs false None types.nothing h = refl
final_gives vs flagged None _ h = absurd (true≢false (sym h))

finals_give : (vs : List Variable) (heads : List RuleSet) (n : ℕ) (ps : List Procedure) → list_all has_nothing ps ≡ true
    → list_all gives_nothing (numbered (final_procedure vs heads) n ps) ≡ true
finals_give vs heads n [] h = refl
finals_give vs heads n (p ∷ ps) h =
    and_true (gives_nothing (final_procedure vs heads n p)) (list_all gives_nothing (numbered (final_procedure vs heads) (n + 1) ps))
    (final_gives vs _ p.answer p.result (all_first has_nothing p ps h)) (finals_give vs heads (n + 1) ps (all_rest has_nothing p ps h))

-- ---- what is declared

settled_results : (member : ℕ → Bool) (P : Project) (L : Lists) → list_all has_nothing (settled member P L).procs ≡ true
settled_results member P L =
    subst (λ ps. list_all has_nothing ps ≡ true) (sym (rounds_procs member (length L.consts) L.consts (typed P L))) (results_typed (typed_variables P L) (bare_of L))

declared_results : (P : Project) (L : Lists) (D : Declarations) (M : Marks) → AreDeclared P L D M → list_all gives_nothing D.procs ≡ true
declared_results P L D M d =
    subst (λ (E : Declarations). list_all gives_nothing E.procs ≡ true) (sym d.declarations)
    (finals_give (numbered (final_variable (plans_of (settled d.member P L) L) M.vars) 0 (settled d.member P L).vars) M.heads 0 (settled d.member P L).procs
    (settled_results d.member P L))

at_number : (ps : List Procedure) (q : ℕ) → list_all gives_nothing ps ≡ true → gives_what_it_has (slice_get ps q) ≡ true
at_number [] q h = refl
at_number (p ∷ ps) zero h = all_first gives_nothing p ps h
at_number (p ∷ ps) (suc q) h = at_number ps q (all_rest gives_nothing p ps h)

pub declared_have_results : (P : Project) (D : Declarations) (M : Marks) (R : Runnable) (p : ℕ) → IsDeclared P D M → R.program ≡ bound_program D → HaveResults R p
declared_have_results P D M R p d is q c =
    ap (λ (B : Program). gives_what_it_has (slice_get B.declarations.procs q)) is ∙ at_number D.procs q (declared_results P _ D M d)
