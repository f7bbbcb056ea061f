-- What holds of the variables of a frame that an entry makes: those in places, and Statics.
use Rattle.std.proofs.Common.{◌≡◌, refl, sym, ap, subst, ◌∙◌, ℕ, ◌<◌, ◌≤◌, true, false, cond, not, Option, Some, None, List, [], ◌∷◌, ◌++◌, zero, suc, Bool, true≢false, ◌&&◌, ⊎_elim}
use Rattle.std.specs.Prelude.{slice_get}
use Rattle.up_base.proofs.Tests.{both_true, either}
use Rattle.vb_tree.specs.Tree.{Form}
use Rattle.vb_tree.specs.Tree as source_form
use Rattle.bound_tree.specs.Tree.{Expr, Procedure, Variable, Line}
use Rattle.bound_facts.specs.SelfMade.{module_of}
use Rattle.net_tree.specs.Tree as net_tree
use Rattle.run_base.specs.Frames.{Kept, keeps_address, keeps_nothing}
use Rattle.run_base.specs.Positions.{Position, Root, made, whole}
use Rattle.vb6_run.specs.Programs.{is_static_of}
use Rattle.vb6_run.specs.Runnables.{static_root}
use Rattle.vb6_run.specs.Values.{Value}
use Rattle.vb6_run.specs.Shapes.{variable_shape}
use Rattle.vb6_run.specs.Store.{Address, SourceFrame}
use Rattle.net_run.specs.Shapes.{module_in}
use Rattle.written_trees.specs.Names.{Scope}
use Rattle.run_matches.specs.Addresses.{IsPlain}
use Rattle.run_matches.specs.CoveredVariables.{are_different, is_named_in}
use Rattle.run_matches.specs.Frames.{HasPlace, KeptBy, is_static_in, static_of, KeepsPlace, is_kept_from, is_kept_in, is_own_line}
use Rattle.run_matches.specs.Maps.{World, is_auto_root, is_auto_variable}
use Rattle.run_matches.specs.Runs.{IsObject}
use Rattle.run_matches.specs.Sites.{Own, own_variable, own_constant}
use Rattle.run_matches.specs.Upgrades.{Upgrade, is_auto}
use Rattle.agreeing_laws.proofs.Made.{more}
use Rattle.run_laws.specs.Entered.{AllSound, static_in}
use Rattle.run_laws.proofs.Covered.{not_none, some_is}
use Rattle.run_laws.proofs.StaticOrder.{AllEnd}
use Rattle.run_laws.proofs.Usable.{usable_end}
use Rattle.run_laws.proofs.Locals.{position_is}
use Rattle.run_matches.specs.Pledges.{Pledge}

-- ---- the frames of an entry

pub nothing_kept : (a : Address) → ◌≡◌ {A = Kept Value Address} keeps_nothing (keeps_address a) → ⊥
nothing_kept a e = cc e

pub nothing_by : (vars : List (ℕ × Address)) (form : Form) (es : List Expr) → KeptBy vars form es keeps_nothing keeps_nothing
nothing_by vars (source_form.for_head counter start limit step) es = tt
nothing_by vars (source_form.select e) es = tt
nothing_by vars _ es = tt

pub made_object : (w u : World) (me : Option ℕ) → w.src.next_object ≤ u.src.next_object → IsObject w me → (o : ℕ) → me ≡ Some o → o < u.src.next_object
made_object w u None le h o e = absurd (not_none e)
made_object w u (Some m) le h o e = more o w.src.next_object u.src.next_object le (subst (λ n. n < w.src.next_object) (some_is e) h)

-- a variable in a place has no As New declaration where it isn't known by one
pub plain_place : (U : Upgrade) (w : World) (v : ℕ) (a : Address) → HasPlace U w v a → is_auto U v ≡ false → IsPlain U w a
plain_place U w v a h auto q e =
    subst (λ (z : Position). is_auto_root U w.map z.root ≡ false) (position_is a (variable_shape U.program.declarations v) (whole (made h.place)) q h.stands e)
    (ap (is_auto_variable U) h.declared ∙ auto)

-- ---- Statics

pub ending_owns : (U : Upgrade) (S : Scope) (os : List Own) → AllSound U S os → AllEnd U.program.declarations os
ending_owns U S [] h = tt
ending_owns U S (own_variable v x ∷ os) h = (usable_end U v h.0.0, ending_owns U S os h.1)
ending_owns U S (own_constant d x ∷ os) h = ending_owns U S os h.1

pub module_in_is : (ms : List net_tree.Module) (k : ℕ) → module_in ms k ≡ slice_get ms k
module_in_is [] k = refl
module_in_is (m ∷ ms) zero = refl
module_in_is (m ∷ ms) (suc k) = module_in_is ms k

-- a Static with its root
pub static_declared : (U : Upgrade) (p : ℕ) (me : Option ℕ) (v : ℕ) (r : Root) (o : Option Variable) → slice_get U.program.declarations.vars v ≡ o
    → static_of U p me v ≡ Some r
    → (y : Variable) × (slice_get U.program.declarations.vars v ≡ Some y) × (is_static_of p y.owner ≡ true)
    × (static_root U.program.declarations me v (module_of (slice_get U.program.declarations.procs p)) ≡ Some r)
static_declared U p me v r None e h =
    absurd (not_none (sym (ap (λ o. cond (is_static_in p o) (static_root U.program.declarations me v (module_of (slice_get U.program.declarations.procs p))) None) e) ∙ h))
static_declared U p me v r (Some y) e h =
    by (is_static_of p y.owner) refl
    (sym (ap (λ o. cond (is_static_in p o) (static_root U.program.declarations me v (module_of (slice_get U.program.declarations.procs p))) None) e) ∙ h)
  where
    by : (b : Bool) → is_static_of p y.owner ≡ b
        → cond b (static_root U.program.declarations me v (module_of (slice_get U.program.declarations.procs p))) None ≡ Some r
        → (z : Variable) × (slice_get U.program.declarations.vars v ≡ Some z) × (is_static_of p z.owner ≡ true)
        × (static_root U.program.declarations me v (module_of (slice_get U.program.declarations.procs p)) ≡ Some r)
    by true static k = (y, e, static, k)
    by false static k = absurd (not_none k)

-- its root, where the Statics of its procedure stand
pub static_root_is : (U : Upgrade) (p : ℕ) (x : Procedure) (me holder : Option ℕ) (v : ℕ) (r : Root) → slice_get U.program.declarations.procs p ≡ Some x
    → static_root U.program.declarations me v (Some x.module_number) ≡ Some (static_in holder v)
    → static_root U.program.declarations me v (module_of (slice_get U.program.declarations.procs p)) ≡ Some r → static_in holder v ≡ r
static_root_is U p x me holder v r is stands h =
    some_is (sym (ap (λ q. static_root U.program.declarations me v (module_of q)) is ∙ stands) ∙ h)

-- names that differ still do behind others
pub different_behind : (ns ms : List (List ℕ)) → are_different (ns ++ ms) ≡ true → are_different ms ≡ true
different_behind [] ms h = h
different_behind (n ∷ ns) ms h = different_behind ns ms (both_true (not (is_named_in n (ns ++ ms))) (are_different (ns ++ ms)) h).1

-- and no With does
pub no_place_kept : (U : Upgrade) (K : Pledge) (w : World) (es : List Expr) → KeepsPlace U K w es keeps_nothing keeps_nothing
no_place_kept U K w [] = tt
no_place_kept U K w (e ∷ []) = tt
no_place_kept U K w (e ∷ d ∷ es) = tt

pub none_kept_from : (U : Upgrade) (p : ℕ) (f : SourceFrame) (n : ℕ) → ((h : ℕ) → f.kept h ≡ keeps_nothing) → (h : ℕ) (ls : List Line)
    → is_kept_from U p f n h ls ≡ true → ⊥
none_kept_from U p f n none h [] e = true≢false (sym e)
none_kept_from U p f n none h (l ∷ ls) e =
    ⊎_elim (λ x. true≢false (sym (both_true (is_own_line U p l) (is_kept_in n (f.kept h)) x).1 ∙ ap (is_kept_in n) (none h)))
    (λ x. none_kept_from U p f n none (suc h) ls x)
    (either (is_own_line U p l && is_kept_in n (f.kept h)) (is_kept_from U p f n (suc h) ls) e)
