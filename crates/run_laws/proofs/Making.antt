-- New objects of covered classes can be made from the lines of a procedure, by New and by uses of As New variables.
use Rattle.std.proofs.Common.{◌≡◌, refl, sym, ap, subst, ◌∙◌, ℕ, true, ◌&&◌, Option, Some, None, [], ◌∷◌}
use Rattle.std.proofs.lemmas.Bool.{or_left}
use Rattle.std.specs.Prelude.{nat_lt, slice_get}
use Rattle.std.specs.List.{Contains}
use Rattle.std.proofs.lemmas.List.Elements.{Contains-push}
use Rattle.up_base.proofs.Tests.{both_true}
use Rattle.vb_tree.specs.BoundTree as types
use Rattle.bound_tree.specs.Tree.{Declarations, Expr, Line, Procedure, Program, typed, new_object, variable}
use Rattle.reach_table.specs.Chains.{empty}
use Rattle.bound_facts.specs.Calls.{count_procedures, initialized, initializer_of, line_calls, node_calls, pair_to}
use Rattle.bound_facts.specs.Facts.{AreFacts}
use Rattle.bound_facts.specs.Members.{class_files, initializer}
use Rattle.bound_facts.specs.Node.{auto_class}
use Rattle.bound_facts.specs.Parts.{line_uses}
use Rattle.vb6_run.specs.Store.{SourceFrame}
use Rattle.written_trees.specs.Bodies.{inside_procedure}
use Rattle.run_matches.specs.Covered.{covers_calls, covers_initializer, covers_made_by, covers_node, is_method, is_method_in, is_method_site, is_plain}
use Rattle.run_matches.specs.CoveredVariables.{covers_class, covers_made, covers_made_file, has_extents, declares_variables}
use Rattle.net_run.specs.Lines.{NetFrame, NetLine, scope_of}
use Rattle.run_matches.specs.Frames.{HasNames, frame_pledge}
use Rattle.run_matches.specs.Maps.{World}
use Rattle.run_matches.specs.Pledges.{is_inward, is_self_made}
use Rattle.run_matches.specs.Sites.{Site, site_of}
use Rattle.run_matches.specs.Upgrades.{Upgrade, class_home, code_of}
use Rattle.run_statements.specs.Frames.{CanMake, Initializes, LeadsToClass}
use Rattle.run_statements.specs.Kept.{CanMakeFrom, made_at, used_at}
use Rattle.run_statements.specs.Written.{Passes, ProceduresAreWritten, WrittenProcedure, site_scope}
use Rattle.name_laws.proofs.Lists.{Among, all_among, among, contains, flat_among}
use Rattle.name_laws.proofs.Receiving.{method_receives}
use Rattle.run_laws.specs.Premises.{ObjectsBegin}
use Rattle.run_laws.proofs.Callees.{call_parts}
use Rattle.run_laws.proofs.Covered.{CoveredProcedure, covered_parts, not_none, some_is}
use Rattle.run_laws.proofs.Parts.{clean_unparted}
use Rattle.run_laws.proofs.Reaching.{IsLineOf, inward_called, keeps_called}

-- ---- what the test on a node says

pub made_test : (P : Program) (p class : ℕ) (s : Option Site) (d : Expr) → covers_node P p s d ≡ true → made_at d ≡ Some class
    → covers_initializer P class (initializer P.declarations class) ≡ true
made_test P p class s (typed ty (new_object c)) h e =
    subst (λ n. covers_initializer P n (initializer P.declarations n) ≡ true) (some_is e) h
made_test P p class s (typed ty _) h e = absurd (not_none e)

-- so it does of the class of an As New variable
used_test : (P : Program) (p v class : ℕ) (s : Option Site) (d : Expr) → covers_node P p s d ≡ true → used_at d ≡ Some v
    → auto_class (slice_get P.declarations.vars v) ≡ Some class → covers_initializer P class (initializer P.declarations class) ≡ true
used_test P p v class s (typed ty (variable u qualified)) h e is =
    subst (λ o. covers_made_by P o ≡ true) is
    (subst (λ n. covers_made_by P (auto_class (slice_get P.declarations.vars n)) ≡ true) (some_is e) h)
used_test P p v class s (typed ty _) h e is = absurd (not_none e)

-- what a line makes passes the test
pub made_covered : (U : Upgrade) (p class : ℕ) (l : Line) (d : Expr) → covers_calls U.program p l ≡ true → Contains (line_uses l) d
    → made_at d ≡ Some class → covers_initializer U.program class (initializer U.program.declarations class) ≡ true
made_covered U p class l d h m e =
    let s : Option Site = site_of U.program.declarations p in
    made_test U.program p class s d
    (all_among (covers_node U.program p s) (line_uses l) d (call_parts U p l h).0 (among (line_uses l) d m)) e

pub used_covered : (U : Upgrade) (p v class : ℕ) (l : Line) (d : Expr) → covers_calls U.program p l ≡ true → Contains (line_uses l) d
    → used_at d ≡ Some v → auto_class (slice_get U.program.declarations.vars v) ≡ Some class
    → covers_initializer U.program class (initializer U.program.declarations class) ≡ true
used_covered U p v class l d h m e is =
    let s : Option Site = site_of U.program.declarations p in
    used_test U.program p v class s d
    (all_among (covers_node U.program p s) (line_uses l) d (call_parts U p l h).0 (among (line_uses l) d m)) e is

-- the Class_Initialize of an object that a use makes is among what the line calls
used_first : (D : Declarations) (p q v class : ℕ) (d : Expr) → used_at d ≡ Some v → auto_class (slice_get D.vars v) ≡ Some class
    → initializer D class ≡ Some q → Among (node_calls D p d) (p, q)
used_first D p q v class (typed ty (variable u qualified)) e is begins =
    let at : initialized D (typed ty (variable u qualified)) ≡ Some q =
    ap (λ n. initializer_of D (auto_class (slice_get D.vars n))) (some_is e) ∙ (ap (initializer_of D) is ∙ begins) in
    subst (λ o. Among (pair_to p o []) (p, q)) (sym at) (among ((p, q) ∷ []) (p, q) (Contains-push [] (p, q)))
used_first D p q v class (typed ty _) e is begins = absurd (not_none e)

pub use_of_auto_calls : (D : Declarations) (p q v class : ℕ) (l : Line) (d : Expr) → Contains (line_uses l) d → used_at d ≡ Some v
    → auto_class (slice_get D.vars v) ≡ Some class → initializer D class ≡ Some q → Contains (line_calls D p l) (p, q)
use_of_auto_calls D p q v class l d m e is begins =
    contains (line_calls D p l) (p, q)
    (flat_among (node_calls D p) (line_uses l) d (p, q) (among (line_uses l) d m) (used_first D p q v class d e is begins))

-- its Class_Initialize stands in the class
initializer_site : (D : Declarations) (class q : ℕ) (y : Procedure) (t : Site) → slice_get D.procs q ≡ Some y → site_of D q ≡ Some t
    → is_method D (types.class class) q ≡ true → is_method_site D class y (Some t) ≡ true
initializer_site D class q y t is_procedure is_site h =
    subst (λ o. is_method_site D class y o ≡ true) is_site
    (subst (λ o. is_method_in D class q o ≡ true) is_procedure
    (both_true (covers_class D class) (is_method_in D class q (slice_get D.procs q)) h).1)

-- ---- one class

module _ (U : Upgrade) (known : AreFacts U.program U.known) (procedures : ProceduresAreWritten U) (begin : ObjectsBegin U)
    (p : ℕ) (s : Site) (x : Procedure) (is_procedure : slice_get U.program.declarations.procs p ≡ Some x) (W : WrittenProcedure U p s x) (l : Line)
    (stands : IsLineOf U.program p l) (class : ℕ)
    (test : covers_initializer U.program class (initializer U.program.declarations class) ≡ true)
    (calls : (q : ℕ) → initializer U.program.declarations class ≡ Some q → Contains (line_calls U.program.declarations p l) (p, q))
    (pass : (q : ℕ) → nat_lt q (count_procedures U.program) ≡ true → Contains (line_calls U.program.declarations p l) (p, q) → Passes U q) where
  abbrev D : Declarations
  D = U.program.declarations

  begins : (w : World) (f : SourceFrame) (home : ℕ) → class_home U class ≡ Some home → (o : Option ℕ) → initializer U.program.declarations class ≡ o
      → covers_initializer U.program class o ≡ true → Initializes U (frame_pledge U p w f) class home o
  begins w f home is_home None is h = begin.nothing class home is_home is
  begins w f home is_home (Some q) is h =
      let there = nat_lt q (count_procedures U.program) && is_method D (types.class class) q in
      let tests =
      both_true (nat_lt q (count_procedures U.program)) (is_method D (types.class class) q) (both_true (is_plain (slice_get D.procs q)) there h).1 in
      let call : Contains (line_calls D p l) (p, q) = calls q is in
      let passes : Passes U q = pass q tests.0 call in
      let c : CoveredProcedure U.program q = covered_parts U.program q (passes.1 q (empty q)) in
      let V : WrittenProcedure U q c.site c.procedure =
      procedures q c.site c.procedure c.is_site c.is_procedure c.joined (clean_unparted U q c.procedure passes.0) in
      let method : is_method_site D class c.procedure (Some c.site) ≡ true = initializer_site D class q c.procedure c.site c.is_procedure c.is_site tests.1 in (
        record {
          passes = passes;
          keeps = λ ty h. keeps_called U.program p q x is_procedure tests.0 l stands call ty h;
          steady = λ h. or_left (is_inward U q) (is_self_made U q) (inward_called U known p q x is_procedure tests.0 l stands call h);
          number = V.number;
          is_number = V.is_number;
          stands = method_receives U q class c.procedure c.site c.is_procedure method;
        },
        begin.begins q class home c.site c.procedure V c.is_site c.is_procedure is method is_home,
      )

  in_class : covers_made U.program class ≡ true → covers_class U.program.declarations class ≡ true
  in_class made =
      (both_true (covers_class D class)
      (covers_made_file D (slice_get (class_files D.project) class) && (declares_variables D class && has_extents U.program)) made).0

  pub can_make : CanMakeFrom U p s W.code class
  can_make made w f g k names = record {
    initializes = λ home is_home. begins w f home is_home (initializer D class) refl test;
    leads = λ home is_home. begin.found class home W.code.home (in_class made) is_home;
  }

  -- so can one that the use of an As New variable makes
  pub can_make_at : covers_made U.program class ≡ true → (w : World) (f : SourceFrame) (g : NetFrame) (k : NetLine) → HasNames (code_of U p) g
      → CanMake U (frame_pledge U p w f) (scope_of U.written W.code g k) (inside_procedure (site_scope U s) p) class
      × LeadsToClass U (scope_of U.written W.code g k) (inside_procedure (site_scope U s) p) class
  can_make_at made w f g k names = (can_make made w f g k names, λ home is_home. begin.autos class home (in_class made) is_home)
