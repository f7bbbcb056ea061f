-- The objects of procedures of classes go on to be of their class.
use Rattle.std.proofs.Common.{◌≡◌, ◌⊎◌, inl, inr, refl, ap, sym, subst, ◌∙◌, ℕ, zero, suc, Bool, true, false, cond, ◌&&◌, ◌||◌, nat_eq, List, [], ◌∷◌, map, Option, Some, slice_get, eq-eqb, true≢false}
use Rattle.std.proofs.lemmas.Bool.{or_right}
use Rattle.std.specs.List.{filter, list_any}
use Rattle.vb_tree.specs.Tree.{Module}
use Rattle.bound_facts.specs.SelfMade.{module_of}
use Rattle.run_base.specs.Positions.{field, shared}
use Rattle.vb6_run.specs.Runnables.{is_class_file, object_root, static_root}
use Rattle.run_matches.specs.Frames.{HasOwnObject, OwnObject}
use Rattle.run_matches.specs.Maps.{World}
use Rattle.run_matches.specs.Pledges.{Pledge, Later, stands_in_class}
use Rattle.run_matches.specs.Upgrades.{Upgrade}
use Rattle.agreeing_laws.proofs.Made.{more}

same_first : (m n : ℕ) (ms : List ℕ) → slice_get (m ∷ ms) 0 ≡ Some n → m ≡ n
same_first m n ms e = cc e

abbrev files : List Module → List ℕ
files ms = map (λ (m : Module). m.file) ms

abbrev classes : List Module → List Module
classes ms = filter (λ (m : Module). m.class) ms

abbrev has_class : List Module → (file : ℕ) → Bool
has_class ms file = list_any (λ (m : Module). nat_eq m.file file && m.class) ms

-- the file of a class is one of a class
pub class_file : (ms : List Module) (class file : ℕ) → slice_get (files (classes ms)) class ≡ Some file → has_class ms file ≡ true
class_file [] class file h = absurd (cc h)
class_file (m ∷ ms) class file h = by m.class class (λ k e. class_file ms k file e) h
  where
    by : (b : Bool) (k : ℕ) → ((j : ℕ) → slice_get (files (classes ms)) j ≡ Some file → has_class ms file ≡ true)
        → slice_get (files (cond b (m ∷ classes ms) (classes ms))) k ≡ Some file → ((nat_eq m.file file && b) || has_class ms file) ≡ true
    by true zero more e =
        ap (λ z. (z && true) || has_class ms file) (eq-eqb m.file file (same_first m.file file (files (classes ms)) e))
    by true (suc k) more e = or_right (nat_eq m.file file && true) (has_class ms file) (more k e)
    by false k more e = or_right (nat_eq m.file file && false) (has_class ms file) (more k e)

-- a procedure of a standard module needs none
pub no_own_object : (U : Upgrade) (w : World) (p : ℕ) (me : Option ℕ) → stands_in_class U (module_of (slice_get U.program.declarations.procs p)) ≡ false
    → HasOwnObject U w p me
no_own_object U w p me standard file of class =
    absurd (true≢false (sym class ∙ subst (λ o. stands_in_class U o ≡ false) of standard))

pub own_object_later : (U : Upgrade) (K : Pledge) (w0 w1 : World) (p : ℕ) (me : Option ℕ) → Later U K w0 w1 → HasOwnObject U w0 p me
    → HasOwnObject U w1 p me
own_object_later U K w0 w1 p me l h file of class =
    let x : OwnObject U w0 file me = h file of class in
    record {
      object = x.object;
      is_me = x.is_me;
      is_made = more x.object w0.src.next_object w1.src.next_object l.grows.objects x.is_made;
      class = x.class;
      is_class = l.same_classes x.object x.is_made ∙ x.is_class;
      is_file = x.is_file;
    }

-- ---- where a Static stands

-- in its standard module, or in the object that its procedure is called for
pub static_place : (U : Upgrade) (w : World) (p v file : ℕ) (me : Option ℕ) → module_of (slice_get U.program.declarations.procs p) ≡ Some file
    → HasOwnObject U w p me
    → ((is_class_file U.program.declarations file ≡ false)
    × (static_root U.program.declarations me v (module_of (slice_get U.program.declarations.procs p)) ≡ Some (shared (v ∷ []))))
    ⊎ ((x : OwnObject U w file me)
    × (static_root U.program.declarations me v (module_of (slice_get U.program.declarations.procs p)) ≡ Some (field x.object (v ∷ []))))
static_place U w p v file me of h = by (is_class_file U.program.declarations file) refl
  where
    stands : (b : Bool) → is_class_file U.program.declarations file ≡ b
        → static_root U.program.declarations me v (module_of (slice_get U.program.declarations.procs p)) ≡ cond b (object_root me v) (Some (shared (v ∷ [])))
    stands b e = ap (static_root U.program.declarations me v) of ∙ ap (λ c. cond c (object_root me v) (Some (shared (v ∷ [])))) e

    by : (b : Bool) → is_class_file U.program.declarations file ≡ b
        → ((is_class_file U.program.declarations file ≡ false)
        × (static_root U.program.declarations me v (module_of (slice_get U.program.declarations.procs p)) ≡ Some (shared (v ∷ []))))
        ⊎ ((x : OwnObject U w file me)
        × (static_root U.program.declarations me v (module_of (slice_get U.program.declarations.procs p)) ≡ Some (field x.object (v ∷ []))))
    by true e =
        let x : OwnObject U w file me = h file of e in
        inr (x, stands true e ∙ ap (λ m. object_root m v) x.is_me)
    by false e = inl (e, stands false e)
