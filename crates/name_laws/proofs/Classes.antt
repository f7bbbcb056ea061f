-- The class in which a procedure stands is written as the module of its file.
use Rattle.std.proofs.Common.{◌≡◌, refl, ap, sym, ◌∙◌, ℕ, ◌+◌, ◌<◌, Bool, true, false, cond, not, ◌&&◌, nat_eq, List, [], ◌∷◌, length, get_or, filter, Option, Some, None, slice_get, inl, inr, lt-ltb, arith}
use Rattle.std.specs.Prelude.{option_and_then, position}
use Rattle.std.specs.List.{position_or_len}
use Rattle.std.proofs.lemmas.Bool.{eqb-true}
use Rattle.std.proofs.lemmas.List.Quantifiers.{position-Some}
use Rattle.std.proofs.lemmas.Option.{slice_get-get_or}
use Rattle.vb_tree.specs.Tree.{Module}
use Rattle.bound_facts.specs.Members.{class_files}
use Rattle.bound_facts.specs.SelfMade.{module_of}
use Rattle.bound_tree.specs.Tree.{Procedure}
use Rattle.net_run.specs.Lines.{NetFrame, NetLine, scope_of}
use Rattle.net_run.specs.Names.{is_class, is_class_at}
use Rattle.run_matches.specs.Sites.{Site, site_of}
use Rattle.run_statements.specs.Written.{IsWritten, WrittenProcedure}
use Rattle.run_matches.specs.CoveredExprs.{class_at, class_in_file, class_of}
use Rattle.run_matches.specs.Upgrades.{Upgrade, home_of}
use Rattle.run_statements.specs.Frames.{StandsHere, StandsInClass}
use Rattle.name_laws.proofs.Codes.{module_is}
use Rattle.name_laws.proofs.Lists.{Among, among_at, among_map, both_true, same_number}

-- ---- positions

number_at : (n : ℕ) (ns : List ℕ) (i : ℕ) → position (nat_eq n) ns ≡ Some i → slice_get ns i ≡ Some n
number_at n ns i e =
    let s = position-Some (nat_eq n) ns i n e in
    slice_get-get_or ns i n s.0 ∙ ap Some (sym (eqb-true n (get_or ns i n) s.1))

within : {X : Type 0} (p : X → Bool) (xs : List X) (x : X) → Among xs x → p x ≡ true → position_or_len p xs < length xs
within p [] x m h = absurd m
within {X} p (y ∷ ys) x m h = by (p y) refl m (λ n. within p ys x n h)
  where
    by : (b : Bool) → p y ≡ b → Among (y ∷ ys) x → (Among ys x → position_or_len p ys < length ys) → position_or_len p (y ∷ ys) < length (y ∷ ys)
    by true e m more = let here = ap (λ b. cond (not b) (1 + position_or_len p ys) 0) e in omega (arith, here)
    by false e (inl same) more = absurd (cc (sym e ∙ ap p same ∙ h))
    by false e (inr m) more =
        let there = ap (λ b. cond (not b) (1 + position_or_len p ys) 0) e in
        let low = more m in
        omega (arith, there, low)

-- what passes has a place
placed : {X : Type 0} (p : X → Bool) (xs : List X) (x : X) → Among xs x → p x ≡ true → (i : ℕ) × (position p xs ≡ Some i)
placed p xs x m h =
    (position_or_len p xs, ap (λ b. cond b (Some (position_or_len p xs)) None) (lt-ltb (position_or_len p xs) (length xs) (within p xs x m h)))

among_filter : {X : Type 0} (p : X → Bool) (xs : List X) (x : X) → Among (filter p xs) x → Among xs x
among_filter p [] x m = m
among_filter {X} p (y ∷ ys) x m = by (p y) m (λ n. among_filter p ys x n)
  where
    by : (b : Bool) → Among (cond b (y ∷ filter p ys) (filter p ys)) x → (Among (filter p ys) x → Among ys x) → Among (y ∷ ys) x
    by true (inl e) more = inl e
    by true (inr n) more = inr (more n)
    by false n more = inr (more n)

-- ---- classes

-- a file of a class is one of a module
home_there : (U : Upgrade) (file : ℕ) → Among (class_files U.program.declarations.project) file → (home : ℕ) × (home_of U file ≡ Some home)
home_there U file m =
    let ms = U.program.declarations.project.modules in
    let f = among_map (λ (m : Module). m.file) (filter (λ (m : Module). m.class) ms) file m in
    placed (λ (m : Module). nat_eq m.file file) ms f.0 (among_filter (λ (m : Module). m.class) ms f.0 f.1) (same_number f.0.file file f.2)

-- a procedure in the file of a class stands in the class
pub stands_in : (U : Upgrade) (p class file : ℕ) → slice_get (class_files U.program.declarations.project) class ≡ Some file
    → module_of (slice_get U.program.declarations.procs p) ≡ Some file → StandsInClass U p class
stands_in U p class file is_file stands =
    let home = home_there U file (among_at (class_files U.program.declarations.project) class file is_file) in
    record { file = file; is_file = is_file; stands = stands; home = home.0; is_home = ap (option_and_then (home_of U)) is_file ∙ home.1 }

-- the site of a procedure of a class, whose file is the one of the procedure and of the class
record ClassSite (U : Upgrade) (p class : ℕ) (s : Site) : Type 0 where
  stands : module_of (slice_get U.program.declarations.procs p) ≡ Some s.source_module.file
  is_file : slice_get (class_files U.program.declarations.project) class ≡ Some s.source_module.file
  is_class : s.source_module.class ≡ true

class_site : (U : Upgrade) (p class : ℕ) (s : Site) → class_at U.program.declarations (Some s) (module_of (slice_get U.program.declarations.procs p)) ≡ Some class
    → ClassSite U p class s
class_site U p class s h = by (module_of (slice_get U.program.declarations.procs p)) refl h
  where
    passed : (file : ℕ) (b : Bool) → (nat_eq s.source_module.file file && s.source_module.class) ≡ b
        → cond b (class_in_file U.program.declarations (Some file)) None ≡ Some class
        → (s.source_module.file ≡ file) × (s.source_module.class ≡ true) × (class_in_file U.program.declarations (Some file) ≡ Some class)
    passed file true e k =
        let both = both_true (nat_eq s.source_module.file file) s.source_module.class e in
        (eqb-true s.source_module.file file both.0, both.1, k)
    passed file false e k = absurd (cc k)

    by : (o : Option ℕ) → module_of (slice_get U.program.declarations.procs p) ≡ o → class_at U.program.declarations (Some s) o ≡ Some class → ClassSite U p class s
    by None e k = absurd (cc k)
    by (Some file) e k =
        let there = passed file (nat_eq s.source_module.file file && s.source_module.class) refl k in
        record {
          stands = e ∙ ap Some (sym there.0);
          is_file = number_at file (class_files U.program.declarations.project) class there.2 ∙ ap Some (sym there.0);
          is_class = there.1;
        }

pub stands_in_class : (U : Upgrade) (p class : ℕ) → class_of U.program.declarations p ≡ Some class → StandsInClass U p class
stands_in_class U p class h = by (site_of U.program.declarations p) h
  where
    by : (o : Option Site) → class_at U.program.declarations o (module_of (slice_get U.program.declarations.procs p)) ≡ Some class → StandsInClass U p class
    by None k = absurd (cc k)
    by (Some s) k = let x : ClassSite U p class s = class_site U p class s k in stands_in U p class s.source_module.file x.is_file x.stands

-- what is written for it stands in what is written for the class
pub stands_here : (U : Upgrade) → IsWritten U → (p : ℕ) (s : Site) (x : Procedure) → site_of U.program.declarations p ≡ Some s → (W : WrittenProcedure U p s x)
    (g : NetFrame) (k : NetLine) (class : ℕ) → class_of U.program.declarations p ≡ Some class → StandsHere U (scope_of U.written W.code g k) class
stands_here U I p s x e W g k class h =
    let c : ClassSite U p class s =
    class_site U p class s (sym (ap (λ o. class_at U.program.declarations o (module_of (slice_get U.program.declarations.procs p))) e) ∙ h) in
    record {
      is_home = ap (option_and_then (home_of U)) c.is_file ∙ I.homes p s e ∙ ap Some (sym W.home);
      is_class =
          ap (is_class U.written) W.home ∙ ap is_class_at (module_is U.written.modules s.home) ∙ ap is_class_at W.is_module ∙ c.is_class;
    }
