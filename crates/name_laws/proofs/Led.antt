-- What the tests say of names that lead to a variable of a standard module, and the modules that are written.
use Rattle.std.proofs.Common.{◌≡◌, refl, ap, sym, subst, ◌∙◌, ℕ, zero, suc, ◌+◌, arith, Bool, true, false, cond, not, ◌&&◌, nat_eq, List, [], ◌∷◌, Option, Some, None, slice_get}
use Rattle.std.specs.Prelude.{option_and_then, position, ◌||◌}
use Rattle.std.specs.List.{list_all, list_any}
use Rattle.std.proofs.lemmas.Bool.{eqb-true}
use Rattle.up_base.specs.Names.{is_same_name}
use Rattle.vb_tree.specs.declared.declared.Owner.{Owner}
use Rattle.vb_tree.specs.ProjectLines.{is_reserved}
use Rattle.vb_tree.specs.Tree.{Module}
use Rattle.bound_tree.specs.Tree.{Variable, Procedure, Declarations, Program}
use Rattle.net_tree.specs.Tree as net
use Rattle.written_trees.specs.Facts.{Facts}
use Rattle.written_trees.specs.Names.{module_at, is_standard_module, module_name}
use Rattle.written_trees.specs.Placing.{Numbers, Placed, placed_members, behind_members}
use Rattle.written_trees.specs.Projects.{next_module, written_module, modules_from}
use Rattle.vb6_run.specs.Runnables.{is_class_file}
use Rattle.net_run.specs.Shapes.{first_from, module_in}
use Rattle.run_matches.specs.Shared.{placed_from, placed_module, declares_in, is_other_member, declares_alone, declares_none, is_of_module, others_differ, is_free_in, leads_from, is_module, leads_to_member, leads_to_home, names_lead, keeps_alone, is_alone_field}
use Rattle.run_matches.specs.Sites.{Site, site_of}
use Rattle.name_laws.proofs.Lists.{both_true, some_same}
use Rattle.name_laws.proofs.Looked.{not_true}

-- ---- modules

-- the module of a number, with its members, and the one that is written for it
pub record PlacedAt (P : Program) (F : Facts) (at : Numbers) (ms : List Module) (k : ℕ) (m : Module × List Placed) : Type 0 where
  pub numbers : Numbers
  pub placed : m.1 ≡ placed_members numbers m.0.comments m.0.members
  pub is_written : module_in (modules_from P F at ms) k ≡ Some (written_module P F numbers m.0)
  pub stands : slice_get ms k ≡ Some m.0

pub placed_at : (P : Program) (F : Facts) (at : Numbers) (ms : List Module) (k : ℕ) (m : Module × List Placed) → placed_from at ms k ≡ Some m → PlacedAt P F at ms k m
placed_at P F at [] k m e = absurd (cc e)
placed_at P F at (n ∷ ms) zero m e =
    subst (λ (z : Module × List Placed). PlacedAt P F at (n ∷ ms) zero z) (some_same (n, placed_members at n.comments n.members) m e)
    (record { numbers = at; placed = refl; is_written = refl; stands = refl })
placed_at P F at (n ∷ ms) (suc k) m e =
    let x : PlacedAt P F (next_module (behind_members at n.members)) ms k m = placed_at P F (next_module (behind_members at n.members)) ms k m e in
    record { numbers = x.numbers; placed = x.placed; is_written = x.is_written; stands = x.stands }

-- the first written module of a name
abbrev pub first_module : (name : List ℕ) → ℕ → List net.Module → Option (ℕ × net.Module)
first_module name k ws = first_from (λ (m : net.Module). is_same_name m.name name) k ws

-- it is written for the first module of the name
pub first_written : (P : Program) (F : Facts) (name : List ℕ) (k : ℕ) (at : Numbers) (ms : List Module) (f : ℕ × Module)
    → first_from (λ (m : Module). is_same_name m.name name) k ms ≡ Some f
    → (w : net.Module) × (first_module name k (modules_from P F at ms) ≡ Some (f.0, w)) × (w.class ≡ f.1.class)
first_written P F name k at [] f e = absurd (cc e)
first_written P F name k at (m ∷ ms) f e = by (is_same_name m.name name) e (first_written P F name (suc k) (next_module (behind_members at m.members)) ms f)
  where
    by : (b : Bool) → cond b (Some (k, m)) (first_from (λ (m : Module). is_same_name m.name name) (suc k) ms) ≡ Some f
        → (first_from (λ (m : Module). is_same_name m.name name) (suc k) ms ≡ Some f
        → (w : net.Module) × (first_module name (suc k) (modules_from P F (next_module (behind_members at m.members)) ms) ≡ Some (f.0, w)) × (w.class ≡ f.1.class))
        → (w : net.Module)
        × (cond b (Some (k, written_module P F at m)) (first_module name (suc k) (modules_from P F (next_module (behind_members at m.members)) ms)) ≡ Some (f.0, w))
        × (w.class ≡ f.1.class)
    by true h more =
        subst
        (λ (z : ℕ × Module). (w : net.Module) × (◌≡◌ {A = Option (ℕ × net.Module)} (Some (k, written_module P F at m)) (Some (z.0, w))) × (w.class ≡ z.1.class))
        (some_same (k, m) f h) (written_module P F at m, refl, refl)
    by false h more = more h

-- ---- what the tests say

-- the variable stands in the module of a number, which declares nothing else of its name
pub record Stands (D : Declarations) (v : ℕ) (name : List ℕ) (file : ℕ) : Type 0 where
  pub home : ℕ
  pub is_home : position (λ (m : Module). nat_eq m.file file) D.project.modules ≡ Some home
  pub placed : Module × List Placed
  pub is_placed : placed_module D home ≡ Some placed
  pub declares : list_any (declares_in D v placed.0.file) placed.1 ≡ true
  pub others : list_all (is_other_member D name (Some v) placed.0.file) placed.1 ≡ true
  pub differs : others_differ (is_of_module file) v name 0 D.vars ≡ true

-- which is a standard module, and the name of that module leads there
pub record Led (D : Declarations) (p v : ℕ) (name : List ℕ) (file : ℕ) : Type 0 where
  pub stands : Stands D v name file
  pub outer : is_class_file D file ≡ false
  pub standard : stands.placed.0.class ≡ false
  pub first : ℕ × Module
  pub is_first : first_from (λ (n : Module). is_same_name n.name stands.placed.0.name) 0 D.project.modules ≡ Some first
  pub first_home : first.0 ≡ stands.home
  pub first_standard : first.1.class ≡ false
  pub leads : leads_from D name stands.placed.0.name file stands.home (site_of D p) (slice_get D.procs p) ≡ true

abbrev found_in : Declarations → Module → Option (ℕ × Module)
found_in D m = first_from (λ (n : Module). is_same_name n.name m.name) 0 D.project.modules

pub led : (D : Declarations) (p v : ℕ) (name : List ℕ) (file : ℕ) → names_lead D p v name file ≡ true → Led D p v name file
led D p v name file h =
    by_home (position (λ (m : Module). nat_eq m.file file) D.project.modules) refl
    (both_true (is_standard_module (module_at D.project file) && not (is_reserved (module_name D file)))
    (leads_to_home D p v name file (position (λ (m : Module). nat_eq m.file file) D.project.modules)) h).1
  where
    by_first : (home : ℕ) (m : Module × List Placed) → position (λ (m : Module). nat_eq m.file file) D.project.modules ≡ Some home
        → placed_module D home ≡ Some m → is_class_file D file ≡ false → declares_alone D v name m ≡ true → (o : Option (ℕ × Module))
        → found_in D m.0 ≡ o → is_module home o ≡ true → others_differ (is_of_module file) v name 0 D.vars ≡ true
        → leads_from D name m.0.name file home (site_of D p) (slice_get D.procs p) ≡ true → Led D p v name file
    by_first home m i j outer alone None e k differ leads = absurd (cc k)
    by_first home m i j outer alone (Some f) e k differ leads =
        let a = both_true (not m.0.class) (list_any (declares_in D v m.0.file) m.1 && list_all (is_other_member D name (Some v) m.0.file) m.1) alone in
        let b = both_true (list_any (declares_in D v m.0.file) m.1) (list_all (is_other_member D name (Some v) m.0.file) m.1) a.1 in
        let c = both_true (nat_eq f.0 home) (not f.1.class) k in
        record {
          stands = record { home = home; is_home = i; placed = m; is_placed = j; declares = b.0; others = b.1; differs = differ };
          outer = outer;
          standard = not_true m.0.class a.0;
          first = f;
          is_first = e;
          first_home = eqb-true f.0 home c.0;
          first_standard = not_true f.1.class c.1;
          leads = leads;
        }

    by_module : (home : ℕ) → position (λ (m : Module). nat_eq m.file file) D.project.modules ≡ Some home → (o : Option (Module × List Placed))
        → placed_module D home ≡ o → leads_to_member D p v name file home o ≡ true → Led D p v name file
    by_module home i None j k = absurd (cc k)
    by_module home i (Some m) j k =
        let leads = leads_from D name m.0.name file home (site_of D p) (slice_get D.procs p) in
        let a = both_true (not (is_class_file D file))
        (declares_alone D v name m && (is_module home (found_in D m.0) && (others_differ (is_of_module file) v name 0 D.vars && leads))) k in
        let b = both_true (declares_alone D v name m) (is_module home (found_in D m.0) && (others_differ (is_of_module file) v name 0 D.vars && leads)) a.1 in
        let c = both_true (is_module home (found_in D m.0)) (others_differ (is_of_module file) v name 0 D.vars && leads) b.1 in
        let d = both_true (others_differ (is_of_module file) v name 0 D.vars) leads c.1 in
        by_first home m i j (not_true (is_class_file D file) a.0) b.0 (found_in D m.0) refl c.0 d.0 d.1

    by_home : (o : Option ℕ) → position (λ (m : Module). nat_eq m.file file) D.project.modules ≡ o → leads_to_home D p v name file o ≡ true
        → Led D p v name file
    by_home None e k = absurd (cc k)
    by_home (Some home) e k = by_module home e (placed_module D home) refl k

-- so does a variable of a class that declares it alone
pub record KeptAlone (D : Declarations) (v : ℕ) (name : List ℕ) (file : ℕ) : Type 0 where
  pub stands : Stands D v name file
  pub of_class : is_class_file D file ≡ true
  pub is_class : stands.placed.0.class ≡ true

pub kept_alone : (D : Declarations) (v : ℕ) (name : List ℕ) (file : ℕ) → is_alone_field D v name file ≡ true → KeptAlone D v name file
kept_alone D v name file h = by_home (position (λ (m : Module). nat_eq m.file file) D.project.modules) refl of_class.1
  where
    of_class : (is_class_file D file ≡ true)
        × ((keeps_alone D v name (option_and_then (placed_module D) (position (λ (m : Module). nat_eq m.file file) D.project.modules))
        && others_differ (is_of_module file) v name 0 D.vars) ≡ true)
    of_class =
        both_true (is_class_file D file)
        (keeps_alone D v name (option_and_then (placed_module D) (position (λ (m : Module). nat_eq m.file file) D.project.modules)) && others_differ (is_of_module file) v name 0 D.vars)
        h

    by_module : (home : ℕ) → position (λ (m : Module). nat_eq m.file file) D.project.modules ≡ Some home → (o : Option (Module × List Placed))
        → placed_module D home ≡ o → (keeps_alone D v name o && others_differ (is_of_module file) v name 0 D.vars) ≡ true → KeptAlone D v name file
    by_module home i None j k = absurd (cc k)
    by_module home i (Some m) j k =
        let declares = list_any (declares_in D v m.0.file) m.1 in
        let others = list_all (is_other_member D name (Some v) m.0.file) m.1 in
        let a = both_true (m.0.class && (declares && others)) (others_differ (is_of_module file) v name 0 D.vars) k in
        let c = both_true m.0.class (declares && others) a.0 in
        let b = both_true declares others c.1 in
        record {
          stands = record { home = home; is_home = i; placed = m; is_placed = j; declares = b.0; others = b.1; differs = a.1 };
          of_class = of_class.0;
          is_class = c.0;
        }

    by_home : (o : Option ℕ) → position (λ (m : Module). nat_eq m.file file) D.project.modules ≡ o
        → (keeps_alone D v name (option_and_then (placed_module D) o) && others_differ (is_of_module file) v name 0 D.vars) ≡ true → KeptAlone D v name file
    by_home None e k = absurd (cc k)
    by_home (Some home) e k = by_module home e (placed_module D home) refl k

-- what stands where the variable is used
pub record LedFrom (D : Declarations) (name of : List ℕ) (file home : ℕ) (s : Site) (q : Procedure) : Type 0 where
  pub free : is_free_in D s q of ≡ true
  pub none : declares_none D of (placed_module D s.home) ≡ true
  pub own : cond (nat_eq s.source_module.file file) (nat_eq s.home home && is_free_in D s q name) true ≡ true

pub led_from : (D : Declarations) (name of : List ℕ) (file home : ℕ) (i : Option Site) (j : Option Procedure) (s : Site) (q : Procedure) → i ≡ Some s → j ≡ Some q
    → leads_from D name of file home i j ≡ true → LedFrom D name of file home s q
led_from D name of file home i j s q e f h =
    let k : leads_from D name of file home (Some s) (Some q) ≡ true =
    ap (λ o. leads_from D name of file home o (Some q)) (sym e) ∙ ap (leads_from D name of file home i) (sym f) ∙ h in
    let own = cond (nat_eq s.source_module.file file) (nat_eq s.home home && is_free_in D s q name) true in
    let a = both_true (is_free_in D s q of) (declares_none D of (placed_module D s.home) && own) k in
    let b = both_true (declares_none D of (placed_module D s.home)) own a.1 in
    record { free = a.0; none = b.0; own = b.1 }

-- no other variable whose owner passes has the name
pub differing : (test : Owner → Bool) (v : ℕ) (name : List ℕ) (k i : ℕ) (xs : List Variable) (x : Variable) → others_differ test v name k xs ≡ true
    → slice_get xs i ≡ Some x → test x.owner ≡ true → is_same_name x.name name ≡ true → v ≡ k + i
differing test v name k i [] x h e o n = absurd (cc e)
differing test v name k zero (y ∷ ys) x h e o n =
    let same : y ≡ x = some_same y x e in
    let a = both_true (nat_eq v k || not (test y.owner && is_same_name y.name name)) (others_differ test v name (suc k) ys) h in
    let here : (nat_eq v k || not (test x.owner && is_same_name x.name name)) ≡ true =
    subst (λ (z : Variable). (nat_eq v k || not (test z.owner && is_same_name z.name name)) ≡ true) same a.0 in
    let number : v ≡ k = eqb-true v k (first_of (nat_eq v k) (test x.owner) (is_same_name x.name name) here o n) in
    omega (arith, number)
  where
    first_of : (a b c : Bool) → (a || not (b && c)) ≡ true → b ≡ true → c ≡ true → a ≡ true
    first_of true b c h e f = refl
    first_of false true true h e f = absurd (cc h)
    first_of false true false h e f = absurd (cc f)
    first_of false false c h e f = absurd (cc e)
differing test v name k (suc i) (y ∷ ys) x h e o n =
    let a = both_true (nat_eq v k || not (test y.owner && is_same_name y.name name)) (others_differ test v name (suc k) ys) h in
    let more : v ≡ suc k + i = differing test v name (suc k) i ys x a.1 e o n in
    omega (arith, more)
