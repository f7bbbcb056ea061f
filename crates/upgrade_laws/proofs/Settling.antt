-- What the finding of values and types keeps of declarations.
use Rattle.std.proofs.Common.{◌≡◌, ℕ, zero, suc, ◌+◌, Bool, true, false, List, [], ◌∷◌, length, slice_get, refl, ap, ◌∙◌}
use Rattle.std.specs.Prelude.{cond}
use Rattle.up_base.specs.declared.issue.Issue.{Issue}
use Rattle.vb_tree.specs.Tree.{Project}
use Rattle.bound_tree.specs.declared.marks.Marks.{Marks}
use Rattle.bound_tree.specs.Tree.{Constant, Declarations, Program}
use Rattle.declared_names.specs.Declaring.{NamedConstant, lists_of}
use Rattle.declarations.specs.Constants.{lacks_value, outcome_of, round, rounds, settled, step, with_outcome}
use Rattle.declarations.specs.Finals.{IsDeclared}
use Rattle.declarations.specs.Typed.{typed}
use Rattle.broken_rules.specs.Broken.{AreBroken}

-- what doesn't depend on constants
abbrev pub Spares : {X : Type 0} → (Declarations → X) → Type 0
Spares f = (D : Declarations) (cs : List Constant) → f (record D { consts = cs }) ≡ f D

step_keeps : {X : Type 0} (f : Declarations → X) → Spares f → (member : ℕ → Bool) (D : Declarations) (n : ℕ) (c : NamedConstant) → f (step member D n c) ≡ f D
step_keeps f h member D n c = by (lacks_value (slice_get D.consts n))
  where
    by : (b : Bool) → f (cond b (record D { consts = with_outcome n D.consts (outcome_of D (member n) c) }) D) ≡ f D
    by true = h D (with_outcome n D.consts (outcome_of D (member n) c))
    by false = refl

round_keeps : {X : Type 0} (f : Declarations → X) → Spares f → (member : ℕ → Bool) (D : Declarations) (n : ℕ) (cs : List NamedConstant) → f (round member D n cs) ≡ f D
round_keeps f h member D n [] = refl
round_keeps f h member D n (c ∷ cs) = round_keeps f h member (step member D n c) (n + 1) cs ∙ step_keeps f h member D n c

rounds_keep : {X : Type 0} (f : Declarations → X) → Spares f → (member : ℕ → Bool) (n : ℕ) (cs : List NamedConstant) (D : Declarations) → f (rounds member n cs D) ≡ f D
rounds_keep f h member zero cs D = refl
rounds_keep f h member (suc n) cs D = rounds_keep f h member n cs (round member D 0 cs) ∙ round_keeps f h member D 0 cs

pub settled_keeps : {X : Type 0} (f : Declarations → X) → Spares f → (member : ℕ → Bool) (P : Project) → f (settled member P (lists_of P)) ≡ f (typed P (lists_of P))
settled_keeps f h member P = rounds_keep f h member (length (lists_of P).consts) (lists_of P).consts (typed P (lists_of P))

pub declared_project : (P : Project) (D : Declarations) (M : Marks) → IsDeclared P D M → D.project ≡ P
declared_project P D M is =
    ap (λ (E : Declarations). E.project) is.declarations ∙ settled_keeps (λ (E : Declarations). E.project) (λ E cs. refl) is.member P

-- the broken rules of a project are those of what is bound to it
pub broken_project : (P : Project) (issues : List Issue) (b : AreBroken P issues) → b.program.declarations.project ≡ P
broken_project P issues b =
    ap (λ (Q : Program). Q.declarations.project) b.marks.program ∙ declared_project P b.marks.declarations b.passes.declared b.marks.declared
