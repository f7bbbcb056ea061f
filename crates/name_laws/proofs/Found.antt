-- A procedure that is called is found by what is written for its name, one of the class of an object behind the object.
use Rattle.std.proofs.Common.{◌≡◌, refl, sym, ap, subst, ◌∙◌, ℕ, suc, ◌+◌, ◌≤◌, Bool, true, false, cond, not, ◌&&◌, ◌||◌, nat_eq, List, [], ◌∷◌, ◌++◌, Option, Some, None, option_map, slice_get, eqb-true, arith}
use Rattle.std.specs.Cmp.Lexicographic.{pointwise}
use Rattle.std.specs.Prelude.{option_and_then}
use Rattle.up_base.specs.Names.{is_same_name}
use Rattle.vb_tree.specs.Tree.{Module}
use Rattle.bound_tree.specs.Tree.{Declarations, Procedure, Program}
use Rattle.bound_facts.specs.Members.{class_files}
use Rattle.net_tree.specs.Tree as net
use Rattle.net_tree.specs.Types.{TypeName}
use Rattle.written_trees.specs.Bodies.{inside_procedure}
use Rattle.written_trees.specs.Facts.{Facts}
use Rattle.written_trees.specs.Heads.{is_function}
use Rattle.written_trees.specs.Names as written_names
use Rattle.written_trees.specs.Names.{first_name, is_foreign, is_standard_module, module_name, procedure_name, procedure_path, procedure_path_of}
use Rattle.written_trees.specs.Placing.{Numbers, behind_members}
use Rattle.written_trees.specs.Projects.{first_numbers, modules_from, next_module, written_module}
use Rattle.net_run.specs.Lines.{NetFrame, NetLine, scope_of}
use Rattle.net_run.specs.Members.{is_member_named, member_named, result_of}
use Rattle.net_run.specs.Names.{Reached, Scope, frame_start, frame_var, is_result, member_reached, member_start, module_member, module_start, named_member, path_start, starts, var_in}
use Rattle.net_run.specs.Shapes.{first_from, members_of, module_at, module_named}
use Rattle.net_run.specs.Values.{Value}
use Rattle.vb6_run.specs.Runnables.{is_class_file}
use Rattle.run_matches.specs.Callees.{count_named, is_first_module, is_found, is_found_behind, is_found_here, is_found_inside, is_found_outside, is_nowhere, is_once, is_source_name, is_that_place, names_in, other_names, result_name}
use Rattle.run_matches.specs.Covered.{is_method_site, is_result_of}
use Rattle.run_matches.specs.CoveredExprs.{is_number}
use Rattle.run_matches.specs.Frames.{HasNames, declared_names, result_names}
use Rattle.run_matches.specs.Sites.{Site, site_of}
use Rattle.run_matches.specs.Upgrades.{Upgrade, class_home, home_of}
use Rattle.run_statements.specs.Kept.{CalleesAreFound, IsFoundAs, MethodsAreFound}
use Rattle.run_statements.specs.Written.{IsWritten, WrittenProcedure, site_scope}
use Rattle.name_laws.proofs.CodeMembers.{from_start, leads_as, member_found, member_leads, members_are, members_most, modules_are, name_leads}
use Rattle.name_laws.proofs.Codes.{code_member}
use Rattle.name_laws.proofs.Counting.{count_of, found_stands, none_found}
use Rattle.name_laws.proofs.FrameNames.{frame_none, no_result_named, none_left, none_right, result_are, result_word, same_by, var_none}
use Rattle.name_laws.proofs.Lists.{both_true, same_numbers, some_same}
use Rattle.name_laws.proofs.Looked.{not_true}
use Rattle.name_laws.proofs.MemberNames.{named_append}

-- ---- tests

none_below : (a b : ℕ) → a ≤ b → b ≡ 0 → a ≡ 0
none_below a b h k = omega (arith, h, k)

nowhere_is : (name : List ℕ) (ns : List (List ℕ)) → is_nowhere name ns ≡ true → count_named name ns ≡ 0
nowhere_is name ns h = eqb-true (count_named name ns) 0 h

-- what the test on a procedure of a class says
pub record MethodTest (D : Declarations) (class : ℕ) (y : Procedure) (t : Site) : Type 0 where
  pub is_file : slice_get (class_files D.project) class ≡ Some y.module_number
  pub stands : t.source_module.file ≡ y.module_number
  pub named : first_name D (Some y) ≡ y.name
  pub once : is_once y.name (names_in D t.home) ≡ true

pub method_test : (D : Declarations) (class : ℕ) (y : Procedure) (t : Site) → is_method_site D class y (Some t) ≡ true → MethodTest D class y t
method_test D class y t h =
    let o = slice_get (class_files D.project) class in
    let own = pointwise nat_eq (first_name D (Some y)) y.name && is_once y.name (names_in D t.home) in
    let a = both_true (is_number y.module_number o && nat_eq t.source_module.file y.module_number) (t.source_module.class && own) h in
    let b = both_true (is_number y.module_number o) (nat_eq t.source_module.file y.module_number) a.0 in
    let c = both_true (pointwise nat_eq (first_name D (Some y)) y.name) (is_once y.name (names_in D t.home)) (both_true t.source_module.class own a.1).1 in
    record {
      is_file = file_is o b.0;
      stands = eqb-true t.source_module.file y.module_number b.1;
      named = same_numbers (first_name D (Some y)) y.name c.0;
      once = c.1;
    }
  where
    file_is : (o : Option ℕ) → is_number y.module_number o ≡ true → o ≡ Some y.module_number
    file_is None k = absurd (cc k)
    file_is (Some file) k = ap Some (sym (eqb-true y.module_number file k))

-- ---- modules

module_found : (P : Program) (F : Facts) (at : Numbers) (test : Module → Bool) (net_test : net.Module → Bool) (i : ℕ) (ms : List Module)
    → ((at : Numbers) (m : Module) → net_test (written_module P F at m) ≡ test m) → (n : ℕ) (m : Module) → first_from test i ms ≡ Some (n, m)
    → (w : net.Module) × (first_from net_test i (modules_from P F at ms) ≡ Some (n, w))
module_found P F at test net_test i [] same n m e = absurd (cc e)
module_found P F at test net_test i (x ∷ xs) same n m e =
    by (test x) (same at x) e (λ z. module_found P F (next_module (behind_members at x.members)) test net_test (suc i) xs same n m z)
  where
    w : net.Module
    w = written_module P F at x

    rest : Option (ℕ × net.Module)
    rest = first_from net_test (suc i) (modules_from P F (next_module (behind_members at x.members)) xs)

    by : (b : Bool) → net_test (written_module P F at x) ≡ b → cond b (Some (i, x)) (first_from test (suc i) xs) ≡ Some (n, m)
        → (first_from test (suc i) xs ≡ Some (n, m)
        → (v : net.Module) × (first_from net_test (suc i) (modules_from P F (next_module (behind_members at x.members)) xs) ≡ Some (n, v)))
        → (v : net.Module) × (first_from net_test i (modules_from P F at (x ∷ xs)) ≡ Some (n, v))
    by true q z more =
        let pair : ◌≡◌ {A = ℕ × Module} (i, x) (n, m) = some_same (i, x) (n, m) z in
        (w, ap (λ b. cond b (Some (i, w)) rest) q ∙ ap (λ j. Some (j, w)) (ap (λ (p : ℕ × Module). p.0) pair))
    by false q z more = let v = more z in (v.0, ap (λ b. cond b (Some (i, w)) rest) q ∙ v.1)

-- ---- behind an object of its class

module _ (U : Upgrade) (I : IsWritten U) where
  abbrev D : Declarations
  D = U.program.declarations

  method_found : (q : ℕ) (t : Site) (y : Procedure) (V : WrittenProcedure U q t y) (class home : ℕ) (S : Scope) (object : Value) → site_of D q ≡ Some t
      → slice_get D.procs q ≡ Some y → is_method_site D class y (Some t) ≡ true → class_home U class ≡ Some home → S.project ≡ U.written
      → IsFoundAs y.kind (Some object) V.number (named_member S (Some object) home (procedure_name D q))
  method_found q t y V class home S object is_site is_procedure h is_home same =
      let m : MethodTest D class y t = method_test D class y t h in
      let there : home_of U t.source_module.file ≡ Some home =
      ap (home_of U) m.stands ∙ ap (option_and_then (home_of U)) (sym m.is_file) ∙ is_home in
      let at : home ≡ t.home = some_same home t.home (sym there ∙ I.homes q t is_site) in
      let F = leads_as U I q t y V S (Some object) same in
      record {
        way = F.way;
        suits = F.suits;
        is_found =
            ap (named_member S (Some object) home) (ap (first_name D) is_procedure ∙ m.named)
            ∙ ap (λ n. named_member S (Some object) n y.name) at ∙ name_leads U I q t y V S (Some object) same m.once ∙ F.is_found;
      }

  -- ---- from where it is called

  module _ (p q : ℕ) (s t : Site) (x y : Procedure) (W : WrittenProcedure U p s x) (V : WrittenProcedure U q t y) (g : NetFrame) (k : NetLine)
      (names : HasNames (Some W.code) g) where
    abbrev S : Scope
    S = scope_of U.written W.code g k

    abbrev module_of : List ℕ
    module_of = t.source_module.name

    abbrev R : Reached
    R = member_leads U I q t y V S None refl

    -- where the names of the frame lack a name, no variable has it
    no_variable : (name : List ℕ) → count_named name (declared_names W.code) ≡ 0 → var_in g.vars name ≡ None
    no_variable name h = var_none g.vars name (ap (count_named name) names ∙ h)

    -- by its name alone
    not_in_frame : is_source_name y.name ≡ true → is_nowhere y.name (other_names D (Some x) s) ≡ true → frame_var S true y.name [] ≡ None
    not_in_frame source nowhere = by (is_result S.result_name y.name) refl
      where
        by : (b : Bool) → is_result S.result_name y.name ≡ b → cond b None (var_in g.vars y.name) ≡ None
        by true e = refl
        by false e =
            no_variable y.name
            (frame_none U p s x W y.name source (nowhere_is y.name (other_names D (Some x) s) nowhere) (no_result_named (result_of W.code) y.name e))

    here : is_found_here D (other_names D (Some x) s) s t y.name ≡ true → path_start S true (y.name ∷ []) ≡ starts R []
    here h =
        let rest = is_nowhere y.name (other_names D (Some x) s) && is_once y.name (names_in D t.home) in
        let a = both_true (nat_eq s.home t.home) (is_source_name y.name && rest) h in
        let b = both_true (is_source_name y.name) rest a.1 in
        let c = both_true (is_nowhere y.name (other_names D (Some x) s)) (is_once y.name (names_in D t.home)) b.1 in
        let home : W.code.home ≡ t.home = W.home ∙ eqb-true s.home t.home a.0 in
        ap (λ o. frame_start S y.name [] o) (not_in_frame b.0 c.0)
        ∙ ap (member_start S y.name [])
        (ap (λ n. member_named y.name (members_of (module_at U.written n))) home ∙ member_found U I q t y V c.1)
        ∙ ap (λ n. starts (member_reached S None n V.code.member (code_member V.code)) []) home

    -- behind the name of its module
    -- no variable has the name of the module
    module_not_in_frame : is_source_name module_of ≡ true → is_nowhere module_of (result_name (Some x) ++ other_names D (Some x) s) ≡ true
        → var_in g.vars module_of ≡ None
    module_not_in_frame source nowhere =
        let all = nowhere_is module_of (result_name (Some x) ++ other_names D (Some x) s) nowhere in
        let one = count_named module_of (x.name ∷ []) in
        let others = count_named module_of (other_names D (Some x) s) in
        let split : one + others ≡ 0 = sym (named_append module_of (x.name ∷ []) (other_names D (Some x) s)) ∙ all in
        no_variable module_of
        (frame_none U p s x W module_of source (none_right one others split)
        (ap (λ r. count_named module_of (result_names r)) (result_are U p s x W)
        ∙ by (is_function x.kind) (none_left one others split)))
      where
        by : (b : Bool) → count_named module_of (x.name ∷ []) ≡ 0
            → count_named module_of (result_names (cond b (Some (x.name, result_word (site_scope U s) x x.kind)) None)) ≡ 0
        by true h = h
        by false h = refl

    -- the first module of its name is that of the callee
    module_at_name : is_first_module D module_of t.home ≡ true
        → module_named U.written module_of ≡ Some (t.home, written_module U.program U.facts V.numbers t.source_module)
    module_at_name h = by (first_from (λ (m : Module). is_same_name m.name module_of) 0 D.project.modules) refl h
      where
        test : net.Module → Bool
        test m = is_same_name m.name module_of

        w : net.Module
        w = written_module U.program U.facts V.numbers t.source_module

        by : (o : Option (ℕ × Module)) → first_from (λ (m : Module). is_same_name m.name module_of) 0 D.project.modules ≡ o → is_that_place t.home o ≡ true
            → module_named U.written module_of ≡ Some (t.home, w)
        by None e z = absurd (cc z)
        by (Some found) e z =
            let home : found.0 ≡ t.home = eqb-true found.0 t.home z in
            let v =
            module_found U.program U.facts first_numbers (λ (m : Module). is_same_name m.name module_of) test 0 D.project.modules (λ at m. refl) found.0 found.1 e in
            let at : module_named U.written module_of ≡ Some (found.0, v.0) = ap (first_from test 0) (modules_are U I) ∙ v.1 in
            let stands = found_stands test 0 U.written.modules found.0 v.0 at in
            let place : stands.0 ≡ t.home = sym (from_start stands.0) ∙ sym stands.1 ∙ home in
            let same : v.0 ≡ w = some_same v.0 w (sym stands.2 ∙ ap (slice_get U.written.modules) place ∙ V.is_module) in
            at ∙ (λ i. Some (home i, same i))

    behind : is_found_behind D (result_name (Some x) ++ other_names D (Some x) s) s t y.name ≡ true
        → path_start S true (module_of ∷ y.name ∷ []) ≡ starts R []
    behind h =
        let all = result_name (Some x) ++ other_names D (Some x) s in
        let fifth = not t.source_module.class && is_once y.name (names_in D t.home) in
        let fourth = is_first_module D module_of t.home && fifth in
        let third = is_nowhere module_of (names_in D s.home) && fourth in
        let a = both_true (is_source_name module_of) (is_nowhere module_of all && third) h in
        let b = both_true (is_nowhere module_of all) third a.1 in
        let c = both_true (is_nowhere module_of (names_in D s.home)) fourth b.1 in
        let d = both_true (is_first_module D module_of t.home) fifth c.1 in
        let e = both_true (not t.source_module.class) (is_once y.name (names_in D t.home)) d.1 in
        let own = written_module U.program U.facts W.numbers s.source_module in
        let none : member_named module_of (members_of (module_at U.written W.code.home)) ≡ None =
        ap (λ n. member_named module_of (members_of (module_at U.written n))) W.home
        ∙ ap (member_named module_of) (members_are U I s.home own W.is_module)
        ∙ none_found (is_member_named module_of) 0 own.members
        (none_below (count_of (is_member_named module_of) own.members) (count_named module_of (names_in D s.home)) (members_most U I s.home own module_of W.is_module)
        (nowhere_is module_of (names_in D s.home) c.0)) in
        ap (λ o. frame_start S module_of (y.name ∷ []) o) (module_not_in_frame a.0 b.0)
        ∙ ap (member_start S module_of (y.name ∷ [])) none
        ∙ ap (module_start S module_of (y.name ∷ [])) (module_at_name d.0)
        ∙ ap (λ class. module_member S t.home class (y.name ∷ [])) (not_true t.source_module.class e.0)
        ∙ ap (λ r. starts r []) (name_leads U I q t y V S None refl e.1)

    -- by either path
    abbrev foreign : Bool
    foreign = is_foreign D s.source_module.file y.module_number

    either_path : (qualified b : Bool) → (qualified || foreign) ≡ b → (foreign || is_found_here D (other_names D (Some x) s) s t y.name) ≡ true
        → is_found_behind D (result_name (Some x) ++ other_names D (Some x) s) s t y.name ≡ true
        → path_start S true (cond b (module_of ∷ y.name ∷ []) (y.name ∷ [])) ≡ starts R []
    either_path qualified true e h z = behind z
    either_path qualified false e h z = here (second foreign (is_found_here D (other_names D (Some x) s) s t y.name) (not_second qualified foreign e) h)
      where
        not_second : (a b : Bool) → (a || b) ≡ false → b ≡ false
        not_second true b q = absurd (cc q)
        not_second false b q = q

        second : (a b : Bool) → a ≡ false → (a || b) ≡ true → b ≡ true
        second true b q r = absurd (cc q)
        second false b q r = r

    -- from outside of its module
    outside : (qualified : Bool) → is_found_outside D (Some x) s y t ≡ true
        → path_start S true (cond (qualified || foreign) (module_name D y.module_number ∷ y.name ∷ []) (y.name ∷ []))
        ≡ starts R []
    outside qualified h =
        let last = is_found_behind D (result_name (Some x) ++ other_names D (Some x) s) s t y.name in
        let third = foreign || is_found_here D (other_names D (Some x) s) s t y.name in
        let a = both_true (pointwise nat_eq (module_name D y.module_number) module_of) (not (is_class_file D y.module_number) && (third && last)) h in
        let b = both_true third last (both_true (not (is_class_file D y.module_number)) (third && last) a.1).1 in
        let behind_name : module_name D y.module_number ≡ module_of = same_numbers (module_name D y.module_number) module_of a.0 in
        ap (λ m. path_start S true (cond (qualified || foreign) (m ∷ y.name ∷ []) (y.name ∷ []))) behind_name
        ∙ either_path qualified (qualified || foreign) refl b.0 b.1

    -- in its class
    inside : (qualified : Bool) → is_found_inside D (Some x) s y t qualified ≡ true
        → path_start S true (cond (qualified || foreign) (module_name D y.module_number ∷ y.name ∷ []) (y.name ∷ []))
        ≡ starts R []
    inside qualified h =
        let there = is_standard_module (written_names.module_at D.project y.module_number) in
        let path = λ (b : Bool). cond b (module_name D y.module_number ∷ y.name ∷ []) (y.name ∷ []) in
        let same = nat_eq s.source_module.file y.module_number in
        let a = both_true (not qualified && (same && nat_eq x.module_number y.module_number)) (is_found_here D (other_names D (Some x) s) s t y.name) h in
        let b = both_true (not qualified) (same && nat_eq x.module_number y.module_number) a.0 in
        let c = both_true same (nat_eq x.module_number y.module_number) b.1 in
        ap (λ q. path_start S true (path (q || foreign))) (not_true qualified b.0) ∙ ap (λ q. path_start S true (path (not q && there))) c.0 ∙ here a.1

    path_found : slice_get D.procs q ≡ Some y → (qualified : Bool) → is_found D (Some x) s (Some y) (Some t) qualified ≡ true
        → path_start S true (procedure_path (inside_procedure (site_scope U s) p) qualified q) ≡ starts R []
    path_found is qualified h =
        let kinds = cond t.source_module.class (is_found_inside D (Some x) s y t qualified) (is_found_outside D (Some x) s y t) in
        let a = both_true (pointwise nat_eq (first_name D (Some y)) y.name) kinds h in
        let first : first_name D (Some y) ≡ y.name = same_numbers (first_name D (Some y)) y.name a.0 in
        ap (λ o. path_start S true (procedure_path_of (inside_procedure (site_scope U s) p) qualified o)) is
        ∙ ap (λ n. path_start S true (cond (qualified || foreign) (module_name D y.module_number ∷ n ∷ []) (n ∷ []))) first
        ∙ by t.source_module.class a.1
      where
        by : (class : Bool) → cond class (is_found_inside D (Some x) s y t qualified) (is_found_outside D (Some x) s y t) ≡ true
            → path_start S true (cond (qualified || foreign) (module_name D y.module_number ∷ y.name ∷ []) (y.name ∷ []))
            ≡ starts R []
        by true k = inside qualified k
        by false k = outside qualified k

    -- ---- without arguments

    -- where its name is that of no result
    no_result : is_result_of (Some x) (Some y) ≡ false → is_result S.result_name y.name ≡ false
    no_result h =
        ap (λ o. is_result (option_map (λ (r : List ℕ × TypeName). r.0) o) y.name) (result_are U p s x W)
        ∙ by (is_function x.kind) (result_word (site_scope U s) x x.kind) h
      where
        by : (b : Bool) (ty : TypeName) → (b && is_same_name x.name y.name) ≡ false
            → is_result (option_map (λ (r : List ℕ × TypeName). r.0) (cond b (Some (x.name, ty)) None)) y.name ≡ false
        by true ty e = e
        by false ty e = refl

    alone : slice_get D.procs q ≡ Some y → (qualified : Bool) → is_found D (Some x) s (Some y) (Some t) qualified ≡ true
        → is_result_of (Some x) (Some y) ≡ false → path_start S false (procedure_path (inside_procedure (site_scope U s) p) qualified q)
        ≡ path_start S true (procedure_path (inside_procedure (site_scope U s) p) qualified q)
    alone is qualified h none =
        let kinds = cond t.source_module.class (is_found_inside D (Some x) s y t qualified) (is_found_outside D (Some x) s y t) in
        let a = both_true (pointwise nat_eq (first_name D (Some y)) y.name) kinds h in
        let path = procedure_path (inside_procedure (site_scope U s) p) qualified q in
        let path_is : path ≡ cond (qualified || foreign) (module_name D y.module_number ∷ y.name ∷ []) (y.name ∷ []) =
        ap (procedure_path_of (inside_procedure (site_scope U s) p) qualified) is
        ∙ ap (λ n. cond (qualified || foreign) (module_name D y.module_number ∷ n ∷ []) (n ∷ [])) (same_numbers (first_name D (Some y)) y.name a.0) in
        subst (λ z. path_start S false z ≡ path_start S true z) (sym path_is)
        (sym (same_by S (module_name D y.module_number) y.name (qualified || foreign) (no_result none)))

-- ---- the laws

pub callees_are_found : (U : Upgrade) → IsWritten U → CalleesAreFound U
callees_are_found U I p q s t x y W V g k site procedure other_site other_procedure qualified found names = record {
  reached = member_leads U I q t y V (scope_of U.written W.code g k) None refl;
  leads = path_found U I p q s t x y W V g k names other_procedure qualified found;
  found = leads_as U I q t y V (scope_of U.written W.code g k) None refl;
  alone = alone U I p q s t x y W V g k names other_procedure qualified found;
}

pub methods_are_found : (U : Upgrade) → IsWritten U → MethodsAreFound U
methods_are_found U I q class home t y V S object site procedure test is_home same =
    method_found U I q t y V class home S object site procedure test is_home same
