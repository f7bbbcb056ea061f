-- A procedure that passes can be called from the lines of another.
use Rattle.vb_tree.specs.BoundTree.{Ty}
use Rattle.bound_facts.specs.Effects.{params_at}
use Rattle.name_laws.proofs.Inward.{quiet_seen, seen_inward}
use Rattle.name_laws.proofs.Keeping.{seen_to_keep}
use Rattle.bound_facts.specs.Nodes.{nodes_of_passed}
use Rattle.run_matches.specs.Keeping.{given_types, keeps_callee, keeps_each, keeps_entered, keeps_given, keeps_seen}
use Rattle.std.proofs.Common.{◌≡◌, sym, ap, subst, ◌∙◌, ℕ, Bool, true, Option, Some, ◌++◌, map, ◌&&◌, None, List, [], ◌∷◌, inl, inr, not}
use Rattle.std.specs.Prelude.{nat_lt, slice_get}
use Rattle.std.specs.List.{Contains, list_all}
use Rattle.up_base.proofs.Tests.{both_true}
use Rattle.bound_tree.specs.Tree.{Declarations, Line, Procedure, Expr, Object, Passed, typed}
use Rattle.bound_tree.specs.Tree as tree
use Rattle.reach_table.specs.Chains.{empty}
use Rattle.bound_facts.specs.Calls.{count_procedures, initialized, line_calls}
use Rattle.bound_facts.specs.Clean.{Arrow, IsClean, line_arrows, procedure}
use Rattle.bound_facts.specs.Facts.{AreFacts}
use Rattle.bound_facts.specs.Node.{args_at, called}
use Rattle.bound_facts.specs.Parts.{line_uses}
use Rattle.run_base.specs.Machines.{nth_line}
use Rattle.net_run.specs.Calls.{passings, passings_of_code}
use Rattle.net_run.specs.Lines.{scope_of}
use Rattle.written_trees.specs.Arguments.{parameter_in, takes_reference, takes_reference_of, is_property_at, is_property_kind}
use Rattle.written_trees.specs.Bodies.{inside_procedure}
use Rattle.written_trees.specs.Heads.{params_of}
use Rattle.run_matches.specs.CleanLines.{IsCleanLine, line_points, lines_at, result_points}
use Rattle.run_matches.specs.Covered.{takes_address, covers_called_for, covers_calls, covers_node, covers_use_of, suits, suits_callee, suits_passed, hands, hands_callee, hands_passed}
use Rattle.run_matches.specs.Inward.{is_inward_in}
use Rattle.run_matches.specs.IndexArguments.{is_seen_quiet, is_seen_quiet_id}
use Rattle.run_matches.specs.Pledges.{is_inward}
use Rattle.run_matches.specs.Sites.{Site, site_of}
use Rattle.run_matches.specs.Upgrades.{Upgrade, runnable_of}
use Rattle.run_statements.specs.Fitting.{FitsNode, FitsPassed}
use Rattle.run_statements.specs.Frames.{passing_at, passing_by, KeepsEach, NodesKeep}
use Rattle.run_statements.specs.Kept.{CalleesAreFound, CanCallFrom, MethodsAreFound, qualified_at, receiver_at}
use Rattle.run_statements.specs.Ways.{SuitsKind, Way, as_get, as_procedure, as_set, passings_by}
use Rattle.run_statements.specs.Written.{Passes, ProceduresAreWritten, WrittenProcedure, site_scope}
use Rattle.name_laws.proofs.Lists.{Among, all_among, among, among_left, among_right, contains, map_among}
use Rattle.name_laws.proofs.Uses.{clean_line_is}
use Rattle.run_laws.specs.Premises.{ResultsAreWritten}
use Rattle.run_laws.proofs.Covered.{CoveredProcedure, covered_parts, not_none, some_is}
use Rattle.run_laws.proofs.Parts.{clean_unparted, taking_part}
use Rattle.run_laws.proofs.Heads.{none_at, params_pass}
use Rattle.run_laws.proofs.Names.{names_in_code}
use Rattle.run_laws.proofs.Receiving.{called_within, is_found_by, node_test, receives}
use Rattle.run_laws.proofs.Ways.{FoundFrom, way_is}
use Rattle.run_laws.proofs.Reaching.{IsLineOf, inward_called, keeps_called}

-- ---- the callee

-- the parts of the test on the calls of a line
pub call_parts : (U : Upgrade) (p : ℕ) (l : Line) → covers_calls U.program p l ≡ true
    → (list_all (covers_node U.program p (site_of U.program.declarations p)) (line_uses l) ≡ true)
    × ((list_all (suits U.program.declarations) (line_uses l) ≡ true) × (list_all (hands U.program) (line_uses l) ≡ true))
call_parts U p l h =
    let uses_suit = list_all (suits U.program.declarations) (line_uses l) in
    let uses_hand = list_all (hands U.program) (line_uses l) in
    let both = both_true (list_all (covers_node U.program p (site_of U.program.declarations p)) (line_uses l)) (uses_suit && uses_hand) h in
    (both.0, both_true uses_suit uses_hand both.1)

-- the arguments suit what is called
pub call_suits : (U : Upgrade) (p q : ℕ) (l : Line) (d : Expr) → covers_calls U.program p l ≡ true → Contains (line_uses l) d → called d ≡ Some q
    → suits_passed U.program.declarations q 0 (args_at d) ≡ true
call_suits U p q l d h m e =
    subst (λ o. suits_callee U.program.declarations o (args_at d) ≡ true) e
    (all_among (suits U.program.declarations) (line_uses l) d (call_parts U p l h).1.0 (among (line_uses l) d m))

-- what takes the place of a parameter that is relied on is so too
pub call_hands : (U : Upgrade) (p q : ℕ) (l : Line) (d : Expr) → covers_calls U.program p l ≡ true → Contains (line_uses l) d → called d ≡ Some q
    → hands_callee U.program (Some q) (args_at d) ≡ true
call_hands U p q l d h m e =
    subst (λ o. hands_callee U.program o (args_at d) ≡ true) e
    (all_among (hands U.program) (line_uses l) d (call_parts U p l h).1.1 (among (line_uses l) d m))

-- and arrays that are given have the ranks of its parameters
pub call_fits : (U : Upgrade) (q : ℕ) (d : Expr) → FitsNode U d → called d ≡ Some q → FitsPassed U q 0 (args_at d)
call_fits U q (typed ty (tree.call f qualified of args)) h e = subst (λ n. FitsPassed U n 0 args) (some_is e) h
call_fits U q (typed ty _) h e = absurd (not_none e)

-- what a line calls passes the tests
pub callee_covered : (U : Upgrade) (p q : ℕ) (l : Line) (d : Expr) → covers_calls U.program p l ≡ true → Contains (line_uses l) d → called d ≡ Some q
    → (covers_called_for U.program p (site_of U.program.declarations p) q (qualified_at d) (receiver_at d) ≡ true)
    × (covers_use_of U.program.declarations p q (qualified_at d) (receiver_at d) (args_at d) ≡ true)
callee_covered U p q l d h m e =
    node_test U.program p q (site_of U.program.declarations p) d
    (all_among (covers_node U.program p (site_of U.program.declarations p)) (line_uses l) d (call_parts U p l h).0 (among (line_uses l) d m)) e

-- ---- elements that are given

seen_each : (U : Upgrade) (q : ℕ) (ts : List Ty) → keeps_each U.program q ts ≡ true → KeepsEach U q ts
seen_each U q [] h t one = absurd one
seen_each U q (s ∷ ts) h t (inl e) =
    seen_to_keep U.program q t (subst (λ z. keeps_seen U.program q z ≡ true) e (both_true (keeps_seen U.program q s) (keeps_each U.program q ts) h).0)
seen_each U q (s ∷ ts) h t (inr one) = seen_each U q ts (both_true (keeps_seen U.program q s) (keeps_each U.program q ts) h).1 t one

seen_called : (U : Upgrade) (ts : List Ty) (o : Option ℕ) (q : ℕ) → keeps_callee U.program ts o ≡ true → o ≡ Some q → KeepsEach U q ts
seen_called U ts None q h e = absurd (cc e)
seen_called U ts (Some p) q h e = seen_each U q ts (subst (λ z. keeps_each U.program z ts ≡ true) (some_is e) h)

seen_inside : (U : Upgrade) (ts : List Ty) (ds : List Expr) → list_all (keeps_entered U.program ts) ds ≡ true → NodesKeep U ts ds
seen_inside U ts [] h = tt
seen_inside U ts (d ∷ ds) h =
    let both = both_true (keeps_entered U.program ts d) (list_all (keeps_entered U.program ts) ds) h in
    let first = both_true (keeps_callee U.program ts (called d)) (keeps_callee U.program ts (initialized U.program.declarations d)) both.0 in (
      ((λ q e. seen_called U ts (called d) q first.0 e), (λ q e. seen_called U ts (initialized U.program.declarations d) q first.1 e)),
      seen_inside U ts ds both.1,
    )

module _ (U : Upgrade) (known : AreFacts U.program U.known) (procedures : ProceduresAreWritten U) (found : CalleesAreFound U) (methods : MethodsAreFound U)
    (results : ResultsAreWritten U) (p q : ℕ) (s : Site) (x : Procedure)
    (is_site : site_of U.program.declarations p ≡ Some s) (is_procedure : slice_get U.program.declarations.procs p ≡ Some x)
    (W : WrittenProcedure U p s x) (l : Line) (stands : IsLineOf U.program p l)
    (call : Contains (line_calls U.program.declarations p l) (p, q)) (qualified : Bool) (of : Object)
    (test : covers_called_for U.program p (site_of U.program.declarations p) q qualified of ≡ true) (pass : Passes U q) where
  abbrev D : Declarations
  D = U.program.declarations

  abbrev c : CoveredProcedure U.program q
  c = covered_parts U.program q (pass.1 q (empty q))

  abbrev V : WrittenProcedure U q c.site c.procedure
  V = procedures q c.site c.procedure c.is_site c.is_procedure c.joined (clean_unparted U q c.procedure pass.0)

  within : nat_lt q (count_procedures U.program) ≡ true
  within = called_within U.program p q (site_of D p) qualified of test

  -- a part of a property takes values alone
  passings_are : (way : Way) → SuitsKind way c.procedure.kind → (i : ℕ)
      → passing_at (passings_by U.written way V.number) i ≡ passing_by (takes_address D q i)
  passings_are as_procedure plain i =
      ap (λ o. passing_at (passings_of_code o) i) V.is_code
      ∙ ap (λ ps. passing_at (passings ps) i) (V.params ∙ ap (λ b. params_of (site_scope U c.site) b c.procedure.params) plain)
      ∙ params_pass U c.site q c.procedure.params c.params i
      ∙ sym (ap (λ b. passing_by (not b && takes_reference D q i)) (ap is_property_at c.is_procedure ∙ plain)
      ∙ ap (λ o. passing_by (takes_reference_of D (parameter_in o i))) c.is_procedure)
  passings_are (as_get set) is i = none_at i ∙ sym (ap (λ b. passing_by (not b && takes_reference D q i)) (ap is_property_at c.is_procedure ∙ ap is_property_kind is))
  passings_are (as_set get) is i =
      none_at i ∙ sym (ap (λ b. passing_by (not b && takes_reference D q i)) (ap is_property_at c.is_procedure ∙ taking_part c.procedure.kind is))

  -- what is seen to be quiet is so
  quiet_is : (i : ℕ) → is_seen_quiet U.program q i ≡ true → ((runnable_of U).quiet q i ≡ true) × (is_inward U q ≡ true)
  quiet_is i h =
      let id = slice_get (params_at (slice_get D.procs q)) i in
      let both = both_true (is_inward_in U.program q) (is_seen_quiet_id U.program id) h in
      (quiet_seen U.program U.known known id both.1, seen_inward U.program U.known known q both.0)

  pub can_call : (args : Passed) → covers_use_of U.program.declarations p q qualified of args ≡ true
      → suits_passed U.program.declarations q 0 args ≡ true → hands_callee U.program (Some q) args ≡ true → FitsPassed U q 0 args
      → CanCallFrom U p s W.code q qualified of args
  can_call args covers fit hand ranks w f g k names =
      let both = both_true (hands_passed U.program q 0 args) (keeps_given U.program q args) hand in
      let ts = given_types args in
      let keeping = both_true (keeps_each U.program q ts) (list_all (keeps_entered U.program ts) (nodes_of_passed args)) both.1 in
      let F : FoundFrom U (scope_of U.written W.code g k) (inside_procedure (site_scope U s) p) x c.procedure q V.number qualified of =
      is_found_by U p q s c.site x c.procedure is_site is_procedure c.is_site c.is_procedure found methods W V g k (names_in_code U p s x W g names) qualified
      of test in
      record {
        passes = pass;
        keeps = λ ty h. keeps_called U.program p q x is_procedure within l stands call ty h;
        inward = λ h. inward_called U known p q x is_procedure within l stands call h;
        number = V.number;
        is_number = V.is_number;
        way = F.way;
        is_way = way_is U p q V.number s x c.procedure is_procedure c.is_procedure (scope_of U.written W.code g k) qualified of args F covers;
        receives = receives U p q s c.site x c.procedure is_site is_procedure c.is_site c.is_procedure qualified of test;
        suits = fit;
        hands = both.0;
        given = seen_each U q ts keeping.0;
        inside = seen_inside U ts (nodes_of_passed args) keeping.1;
        ranks = ranks;
        passings = passings_are F.way F.suits;
        quiet = quiet_is;
        found = F.found;
        result = λ class gives. results q V.number pass V.is_number class gives;
      }

-- ---- what a line that is clean by itself calls

-- is clean
pub called_clean : (U : Upgrade) (p number : ℕ) (l : Line) (clean : IsCleanLine U.program U.facts.marks p number)
    → nth_line (lines_at U.program p) number ≡ Some l → (q : ℕ) → Contains (line_calls U.program.declarations p l) (p, q)
    → IsClean U.program U.facts.marks q
called_clean U p number l clean e q call =
    let D : Declarations = U.program.declarations in
    let arrows = map (λ (a : Arrow). a.1) (line_arrows D p l) in
    let called = map (λ (c : ℕ × ℕ). procedure c.1) (line_calls D p l) in
    let point : Among called (procedure q) = map_among (λ (c : ℕ × ℕ). procedure c.1) (line_calls D p l) (p, q) (among (line_calls D p l) (p, q) call) in
    clean.itself.mentions (procedure q)
    (subst (λ (k : Line). Contains (line_points D p k) (procedure q)) (sym (clean_line_is U.program U.facts.marks p number l clean e))
    (contains (line_points D p l) (procedure q)
    (among_right arrows (called ++ result_points D p l.source.form) (procedure q) (among_left called (result_points D p l.source.form) (procedure q) point))))
