-- How deep what is read is, how much room it leaves, and what there is no room for.
use Rattle.std.proofs.Common.{◌≡◌, ℕ, suc, ◌+◌, ◌-◌, ◌≤◌, ◌<◌, min, max, Bool, true, false, ◌&&◌, nat_le, if◌then◌else◌, List, [], ◌∷◌, length, reverse, codes, refl, sym, ap, subst, ◌∙◌, arith, IfSome, leb-false, leb-true, le-leb, Option, Some, None, Result, Ok, Err, Bor}
use Rattle.std.proofs.lemmas.Bool.{and_left, and_right, lt-leb}
use Rattle.std.proofs.lemmas.List.{length-reverse}
use Rattle.net_tree.specs.Types.{TypeName}
use Rattle.net_tree.specs.Tree.{Exp, Exps}
use Rattle.net_tree.specs.Depth.{depth_exp, depth_exps}
use Rattle.net_exprs.specs.declared.fail.PhraseFail.{PhraseFail}
use Rattle.net_exprs.specs.declared.stages.Group as code_group
use Rattle.net_exprs.specs.declared.stages.Group.TheVariants as g
use Rattle.net_exprs.specs.Readers.{after, behind, past}
use Rattle.net_exprs.specs.Answers.{Answers, FailsFor, Misfits}
use Rattle.net_exprs.specs.Expressions.{Group, Stage, arguments_nested, arguments_of, arguments_within, bounded, exp_nested, exp_within, group_at, items, no_deeper, object_of, object_with, rank, ranked, value_of, whole, with_group}
use Rattle.net_exprs.specs.Fitting.{fit_in, fits_exp, fits_exps, fits_in, fits_room}
use Rattle.net_exprs.specs.Stages.{GroupLeaves, fits_group_in, group_depth, group_view, stage_depth}
use Rattle.net_exprs.proofs.Answering.{fails_up, misfits_behind}
use Rattle.net_exprs.proofs.Words.{by_test}

-- ---- what doesn't fit

pub is_misfit : (b : Bool) (depth room : ℕ) → b ≡ false → b && nat_le depth room ≡ false
is_misfit b depth room h = and_left b (nat_le depth room) h

pub too_deep : (b : Bool) (depth room : ℕ) → room < depth → b && nat_le depth room ≡ false
too_deep b depth room h = and_right b (nat_le depth room) (lt-leb depth room h)

-- what doesn't fit doesn't fit as a part of more, whose room is larger by no more than its depth is
pub misfit_up : (b c : Bool) (depth room deeper larger : ℕ) → (b ≡ false → c ≡ false) → (room < depth → larger < deeper) → b && nat_le depth room ≡ false → c && nat_le deeper larger ≡ false
misfit_up false c depth room deeper larger up over h = is_misfit c deeper larger (up refl)
misfit_up true c depth room deeper larger up over h = too_deep c deeper larger (over (leb-false depth room h))

misfits_room : {X : Type 0} (fits : X → Bool) (depth : X → ℕ) (room : ℕ) (o : Option (X × List ℕ)) → Misfits fits o → Misfits (fits_room fits depth room) o
misfits_room fits depth room None h = tt
misfits_room fits depth room (Some part) h = is_misfit (fits part.0) (depth part.0) room h

pub fails_room : {X : Type 0} (fits : X → Bool) (depth : X → ℕ) (room : ℕ) (o : Option (X × List ℕ)) (e : PhraseFail) → FailsFor fits o e → FailsFor (fits_room fits depth room) o e
fails_room fits depth room o e h = fails_up fits (fits_room fits depth room) o o e (misfits_room fits depth room o) h

-- an answer that knows of no room is one in any room
pub answers_room : {A X : Type 0} (view : A → X) (fits : X → Bool) (depth : X → ℕ) (room : ℕ) (o : Option (X × List ℕ)) (r : Result (A × Bor (List ℕ)) PhraseFail)
    → Answers view fits o r → Answers view (fits_room fits depth room) o r
answers_room view fits depth room o (Ok read) h = h
answers_room view fits depth room o (Err e) h = fails_room fits depth room o e h

-- ---- how deep what is read so far is

object_depth : (t : TypeName) (ranks : List ℕ) → depth_exp (object_of t ranks) ≡ suc (length ranks - 1)
object_depth t [] = refl
object_depth t (r ∷ []) = refl
object_depth t (r ∷ q ∷ ranks) = omega (arith, object_depth t (q ∷ ranks))

with_depth : (t : TypeName) (ranks : List ℕ) (args : Exps) → depth_exp (object_with t ranks args) ≡ suc (max (length ranks) (depth_exps args))
with_depth t [] args = omega arith
with_depth t (r ∷ ranks) args = omega (arith, object_depth t (r ∷ ranks))

pub value_deeper : (stage : Stage) → stage_depth stage ≤ depth_exp (value_of stage)
value_deeper (whole e) = omega arith
value_deeper (ranked t ranks) = omega (arith, object_depth t ranks)
value_deeper (bounded t ranks bounds) = omega (arith, with_depth t ranks bounds)

pub group_deeper : (stage : Stage) (x : Group) → stage_depth stage ≤ stage_depth (with_group stage x)
group_deeper (whole e) (rank r) = omega arith
group_deeper (whole e) (items es) = omega arith
group_deeper (ranked t ranks) (rank r) = omega arith
group_deeper (ranked t ranks) (items es) = omega arith
group_deeper (bounded t ranks bounds) (rank r) = omega (arith, with_depth t ranks bounds)
group_deeper (bounded t ranks bounds) (items es) = omega (arith, with_depth t ranks bounds)

pub group_holds : (stage : Stage) (x : Group) → group_depth x < stage_depth (with_group stage x)
group_holds (whole e) (rank r) = omega arith
group_holds (whole e) (items es) = omega arith
group_holds (ranked t ranks) (rank r) = omega arith
group_holds (ranked t ranks) (items es) = omega arith
group_holds (bounded t ranks bounds) (rank r) = omega arith
group_holds (bounded t ranks bounds) (items es) = omega arith

pub some_up : (o : Option ℕ) (P Q : ℕ → Type 0) → ((n : ℕ) → P n → Q n) → IfSome o P → IfSome o Q
some_up None P Q up h = h
some_up (Some n) P Q up h = up n h

-- ---- the room that objects leave, whose ranks the code has in the order in which they stand

pub object_leaves : (t : TypeName) (ranks : List ℕ) (room left : ℕ) → left + (length ranks - 1) ≡ room → left + depth_exp (object_of t (reverse ranks)) ≡ suc room
object_leaves t ranks room left h = omega (arith, h, object_depth t (reverse ranks), length-reverse ranks)

pub object_over : (t : TypeName) (ranks : List ℕ) (room : ℕ) → room < length ranks - 1 → suc room < depth_exp (object_of t (reverse ranks))
object_over t ranks room h = omega (arith, h, object_depth t (reverse ranks), length-reverse ranks)

pub with_leaves : (t : TypeName) (ranks : List ℕ) (args : Exps) (room left behind_args : ℕ) → left + length ranks ≡ room → behind_args + depth_exps args ≡ room
    → min left behind_args + depth_exp (object_with t (reverse ranks) args) ≡ suc room
with_leaves t ranks args room left behind_args h k = omega (arith, h, k, with_depth t (reverse ranks) args, length-reverse ranks)

pub with_over : (t : TypeName) (ranks : List ℕ) (args : Exps) (room : ℕ) → room < length ranks → suc room < depth_exp (object_with t (reverse ranks) args)
with_over t ranks args room h = omega (arith, h, with_depth t (reverse ranks) args, length-reverse ranks)

-- ---- what is read within some room

abbrev pub Each : {X : Type 0} → (X → Type 0) → Option (X × List ℕ) → Type 0
Each P None = Unit {0}
Each P (Some part) = P part.0

is_kept : {X : Type 0} (depth : X → ℕ) (room : ℕ) (x : X) (rest : List ℕ) → depth x ≤ room → no_deeper depth room x rest ≡ Some (x, rest)
is_kept depth room x rest h = ap (λ t. if t then Some (x, rest) else None) (le-leb (depth x) room h)

kept_shallow : {X : Type 0} (depth : X → ℕ) (room : ℕ) (o : Option (X × List ℕ)) → Each (λ x. depth x ≤ room) (behind o (no_deeper depth room))
kept_shallow depth room None = tt
kept_shallow {X} depth room (Some part) = by_test (nat_le (depth part.0) room) (λ t. Each (λ (x : X). depth x ≤ room) (if t then Some (part.0, part.1) else None)) (λ e. leb-true (depth part.0) room e) (λ e. tt)

is_fit : (b : Bool) → b && true ≡ false → b ≡ false
is_fit true h = h
is_fit false h = h

kept_misfits : {X : Type 0} (fits : X → Bool) (depth : X → ℕ) (room : ℕ) (o : Option (X × List ℕ)) → Misfits (fits_room fits depth room) o → Misfits fits (behind o (no_deeper depth room))
kept_misfits fits depth room None h = tt
kept_misfits {X} fits depth room (Some part) h =
    by_test (nat_le (depth part.0) room) (λ t. fits part.0 && t ≡ false → Misfits fits (if t then Some (part.0, part.1) else None)) (λ e k. is_fit (fits part.0) k) (λ e k. tt) h

pub exp_kept : (room : ℕ) (s : List ℕ) (e : Exp) (rest : List ℕ) → exp_nested room s ≡ Some (e, rest) → depth_exp e ≤ room → exp_within room s ≡ Some (e, rest)
exp_kept room s e rest h shallow = ap (λ o. behind o (no_deeper depth_exp room)) h ∙ is_kept depth_exp room e rest shallow

pub arguments_kept : (room : ℕ) (s : List ℕ) (es : Exps) (rest : List ℕ) → arguments_nested room s ≡ Some (es, rest) → depth_exps es ≤ room → arguments_within room s ≡ Some (es, rest)
arguments_kept room s es rest h shallow = ap (λ o. behind o (no_deeper depth_exps room)) h ∙ is_kept depth_exps room es rest shallow

pub exp_is_shallow : (room : ℕ) (s : List ℕ) (e : Exp) (rest : List ℕ) → exp_within room s ≡ Some (e, rest) → depth_exp e ≤ room
exp_is_shallow room s e rest h = subst (λ o. Each (λ (x : Exp). depth_exp x ≤ room) o) h (kept_shallow depth_exp room (exp_nested room s))

pub arguments_are_shallow : (room : ℕ) (s : List ℕ) (es : Exps) (rest : List ℕ) → arguments_within room s ≡ Some (es, rest) → depth_exps es ≤ room
arguments_are_shallow room s es rest h = subst (λ o. Each (λ (x : Exps). depth_exps x ≤ room) o) h (kept_shallow depth_exps room (arguments_nested room s))

-- ---- what the code reads

pub exp_fails : (room : ℕ) (s : List ℕ) (e : PhraseFail) → FailsFor (fits_in room) (exp_nested room s) e → FailsFor fits_exp (exp_within room s) e
exp_fails room s e h = fails_up (fits_in room) fits_exp (exp_nested room s) (exp_within room s) e (kept_misfits fits_exp depth_exp room (exp_nested room s)) h

inside_is : (room : ℕ) (s inner : List ℕ) → after (codes "(") s ≡ Some inner → arguments_nested room s ≡ behind (group_at (exp_nested room) inner) (λ g rest. Some (arguments_of g, rest))
inside_is room s inner h = ap (λ o. past o (λ inner. behind (group_at (exp_nested room) inner) (λ g rest. Some (arguments_of g, rest)))) h

pub arguments_fail : (room : ℕ) (s inner : List ℕ) (e : PhraseFail) → after (codes "(") s ≡ Some inner → FailsFor (fits_group_in room) (group_at (exp_nested room) inner) e
    → FailsFor fits_exps (arguments_within room s) e
arguments_fail room s inner e h k =
    fails_up (fits_group_in room) fits_exps (group_at (exp_nested room) inner) (arguments_within room s) e
    (λ m. kept_misfits fits_exps depth_exps room (arguments_nested room s)
    (subst (λ o. Misfits (fit_in room) o) (sym (inside_is room s inner h)) (misfits_behind (fits_group_in room) (fit_in room) (group_at (exp_nested room) inner) (λ g rest. Some (arguments_of g, rest)) misfit m))) k
  where
    misfit : (x : Group) (rest : List ℕ) → fits_group_in room x ≡ false → fit_in room (arguments_of x) ≡ false
    misfit (rank r) rest h = h
    misfit (items es) rest h = h

pub group_leaves : (room : ℕ) (x : code_group.Group) → GroupLeaves room x → depth_exps (arguments_of (group_view x)) ≤ room
group_leaves room (g.Rank r) h = omega arith
group_leaves room (g.Items es) h = omega (arith, h)

pub arguments_read : (room : ℕ) (s inner : List ℕ) (x : Group) (rest : List ℕ) → after (codes "(") s ≡ Some inner → group_at (exp_nested room) inner ≡ Some (x, rest)
    → depth_exps (arguments_of x) ≤ room → arguments_within room s ≡ Some (arguments_of x, rest)
arguments_read room s inner x rest h k shallow =
    arguments_kept room s (arguments_of x) rest (inside_is room s inner h ∙ ap (λ o. behind o (λ g rest. Some (arguments_of g, rest))) k) shallow
