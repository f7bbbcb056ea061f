-- What a call is for: no object, or one of the class of the procedure that is called.
use Rattle.std.proofs.Common.{◌≡◌, refl, sym, ap, subst, ◌∙◌, ℕ, Bool, true, true≢false, Option, Some, None, []}
use Rattle.std.specs.Prelude.{nat_lt, slice_get}
use Rattle.up_base.proofs.Tests.{both_true}
use Rattle.vb_tree.specs.BoundTree as types
use Rattle.vb_tree.specs.BoundTree.{Ty}
use Rattle.bound_tree.specs.Tree.{Declarations, Procedure, Program, Expr, typed, call, Object, no_object, of_object}
use Rattle.bound_facts.specs.Calls.{count_procedures}
use Rattle.bound_facts.specs.Node.{args_at, called, type_at}
use Rattle.written_trees.specs.Bodies.{inside_procedure}
use Rattle.written_trees.specs.Names.{Scope, procedure_name, procedure_path}
use Rattle.net_run.specs.Lines.{NetFrame, NetLine, scope_of}
use Rattle.net_run.specs.Names as net_names
use Rattle.net_run.specs.Names.{named, named_member, starts}
use Rattle.net_run.specs.Values as net_value
use Rattle.run_matches.specs.Callees.{is_found}
use Rattle.run_matches.specs.CoveredVariables.{covers_class}
use Rattle.run_matches.specs.Covered.{covers_called_for, covers_callee, covers_node, covers_use_of, is_method, is_method_in, is_method_site, is_result_of}
use Rattle.run_matches.specs.Frames.{HasNames}
use Rattle.run_matches.specs.Sites.{Site, site_of}
use Rattle.run_matches.specs.Upgrades.{Upgrade, class_home}
use Rattle.run_statements.specs.Frames.{Receives}
use Rattle.run_statements.specs.Kept.{CalleesAreFound, IsFoundAs, LeadsTo, MethodsAreFound, qualified_at, receiver_at}
use Rattle.run_statements.specs.Ways.{callee_by}
use Rattle.run_statements.specs.Written.{WrittenProcedure, site_scope}
use Rattle.name_laws.proofs.Receiving.{found_receives, method_receives}
use Rattle.run_laws.proofs.Covered.{not_none, some_is}
use Rattle.run_laws.proofs.Ways.{FoundFrom, same_way, way_for, way_suits}

-- ---- what the test on a node says

pub node_test : (P : Program) (p q : ℕ) (s : Option Site) (d : Expr) → covers_node P p s d ≡ true → called d ≡ Some q
    → (covers_called_for P p s q (qualified_at d) (receiver_at d) ≡ true)
    × (covers_use_of P.declarations p q (qualified_at d) (receiver_at d) (args_at d) ≡ true)
node_test P p q s (typed ty (call f qualified of args)) h e =
    subst (λ n. (covers_called_for P p s n qualified of ≡ true) × (covers_use_of P.declarations p n qualified of args ≡ true)) (some_is e)
    (both_true (covers_called_for P p s f.0 qualified of) (covers_use_of P.declarations p f.0 qualified of args) h)
node_test P p q s (typed ty _) h e = absurd (not_none e)

callee_within : (P : Program) (p q : ℕ) (s : Option Site) (qualified : Bool) → covers_callee P p s q qualified ≡ true → nat_lt q (count_procedures P) ≡ true
callee_within P p q None qualified h = absurd (true≢false (sym h))
callee_within P p q (Some s) qualified h =
    (both_true (nat_lt q (count_procedures P))
    (is_found P.declarations (slice_get P.declarations.procs p) s (slice_get P.declarations.procs q) (site_of P.declarations q) qualified) h).0

pub called_within : (P : Program) (p q : ℕ) (s : Option Site) (qualified : Bool) (of : Object) → covers_called_for P p s q qualified of ≡ true
    → nat_lt q (count_procedures P) ≡ true
called_within P p q s qualified no_object h = callee_within P p q s qualified h
called_within P p q s qualified (of_object e) h = (both_true (nat_lt q (count_procedures P)) (is_method P.declarations (type_at e) q) h).0

-- ---- procedures of classes

record IsMethod (D : Declarations) (q : ℕ) (ty : Ty) : Type 0 where
  class : ℕ
  is_class : ty ≡ types.class class
  method : is_method_in D class q (slice_get D.procs q) ≡ true

method_of : (D : Declarations) (q : ℕ) (ty : Ty) → is_method D ty q ≡ true → IsMethod D q ty
method_of D q (types.class c) h =
    record { class = c; is_class = refl; method = (both_true (covers_class D c) (is_method_in D c q (slice_get D.procs q)) h).1 }
method_of D q _ h = absurd (true≢false (sym h))

same_class : (a b : ℕ) → types.class a ≡ types.class b → a ≡ b
same_class a b e = cc e

-- ---- one call

module _ (U : Upgrade) (p q : ℕ) (s t : Site) (x y : Procedure) (is_site : site_of U.program.declarations p ≡ Some s)
    (is_procedure : slice_get U.program.declarations.procs p ≡ Some x) (is_other_site : site_of U.program.declarations q ≡ Some t)
    (is_other : slice_get U.program.declarations.procs q ≡ Some y) where
  abbrev D : Declarations
  D = U.program.declarations

  found_from : (qualified : Bool) → covers_callee U.program p (site_of U.program.declarations p) q qualified ≡ true
      → is_found D (Some x) s (Some y) (Some t) qualified ≡ true
  found_from qualified h =
      subst (λ o. is_found D (Some x) s (Some y) o qualified ≡ true) is_other_site
      (subst (λ o. is_found D (Some x) s o (site_of D q) qualified ≡ true) is_other
      (subst (λ o. is_found D o s (slice_get D.procs q) (site_of D q) qualified ≡ true) is_procedure
      (both_true (nat_lt q (count_procedures U.program)) (is_found D (slice_get D.procs p) s (slice_get D.procs q) (site_of D q) qualified)
      (subst (λ o. covers_callee U.program p o q qualified ≡ true) is_site h)).1))

  method_site : (ty : Ty) (m : IsMethod D q ty) → is_method_site D m.class y (Some t) ≡ true
  method_site ty m =
      subst (λ o. is_method_site D m.class y o ≡ true) is_other_site (subst (λ o. is_method_in D m.class q o ≡ true) is_other m.method)

  pub receives : (qualified : Bool) (of : Object) → covers_called_for U.program p (site_of U.program.declarations p) q qualified of ≡ true → Receives U p q of
  receives qualified no_object h = found_receives U p q s t x y is_procedure is_other qualified (found_from qualified h)
  receives qualified (of_object e) h =
      let m : IsMethod D q (type_at e) = method_of D q (type_at e) (both_true (nat_lt q (count_procedures U.program)) (is_method D (type_at e) q) h).1 in
      (m.class, m.is_class, method_receives U q m.class y t is_other (method_site (type_at e) m))

  -- ---- what is written for its name

  module _ (found : CalleesAreFound U) (methods : MethodsAreFound U) (W : WrittenProcedure U p s x) (V : WrittenProcedure U q t y) (g : NetFrame) (k : NetLine)
      (names : HasNames (Some W.code) g) where
    abbrev S : net_names.Scope
    S = scope_of U.written W.code g k

    abbrev T : Scope
    T = inside_procedure (site_scope U s) p

    -- in a class of any object, which has a home
    method_found : (e : Expr) (m : IsMethod D q (type_at e)) (qualified : Bool) (o : Option ℕ) → class_home U m.class ≡ o
        → FoundFrom U S T x y q V.number qualified (of_object e)
    method_found e m qualified None none = record {
      way = way_for y.kind;
      suits = way_suits y.kind;
      found = λ class home object is is_home.
          absurd (not_none (sym none ∙ (ap (class_home U) (same_class m.class class (sym m.is_class ∙ is)) ∙ is_home)));
      alone = λ h. tt;
    }
    method_found e m qualified (Some there) at =
        let F : IsFoundAs y.kind (Some net_value.unknown) V.number (named_member S (Some net_value.unknown) there (procedure_name D q)) =
        methods q m.class there t y V S net_value.unknown is_other_site is_other (method_site (type_at e) m) at refl in
        record {
          way = F.way;
          suits = F.suits;
          found = λ class home object is is_home.
              let same : there ≡ home = some_is (sym at ∙ (ap (class_home U) (same_class m.class class (sym m.is_class ∙ is)) ∙ is_home)) in
              subst (λ n. named_member S (Some object) n (procedure_name D q) ≡ named (callee_by F.way (Some object) V.number)) same
              (same_way S net_value.unknown object V.number F.way there (procedure_name D q) F.is_found);
          alone = λ h. tt;
        }

    pub is_found_by : (qualified : Bool) (of : Object) → covers_called_for U.program p (site_of U.program.declarations p) q qualified of ≡ true
        → FoundFrom U (scope_of U.written W.code g k) (inside_procedure (site_scope U s) p) x y q V.number qualified of
    is_found_by qualified no_object h =
        let L : LeadsTo y.kind V.number (is_result_of (Some x) (Some y)) S (procedure_path T qualified q) =
        found p q s t x y W V g k is_site is_procedure is_other_site is_other qualified (found_from qualified h) names in
        record { way = L.found.way; suits = L.found.suits; found = L.leads ∙ ap (λ r. starts r []) L.found.is_found; alone = L.alone }
    is_found_by qualified (of_object e) h =
        let m : IsMethod D q (type_at e) = method_of D q (type_at e) (both_true (nat_lt q (count_procedures U.program)) (is_method D (type_at e) q) h).1 in
        method_found e m qualified (class_home U m.class) refl
