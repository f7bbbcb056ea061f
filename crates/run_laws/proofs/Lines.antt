-- What is written for a line of a procedure does the same.
use Rattle.std.proofs.Common.{◌≡◌, sym, ap, subst, ◌∙◌, ℕ, zero, suc, true, true≢false, Option, Some, option_map, List}
use Rattle.std.specs.Prelude.{slice_get}
use Rattle.std.specs.List.{Contains, list_all}
use Rattle.std.proofs.lemmas.Option.{slice_get-map}
use Rattle.bound_tree.specs.Tree.{Expr, Line, Procedure}
use Rattle.bound_facts.specs.Calls.{line_calls}
use Rattle.bound_facts.specs.Node.{args_at, called}
use Rattle.bound_facts.specs.Parts.{line_uses}
use Rattle.run_base.specs.Machines.{go, line_at, line_in, nth_line}
use Rattle.written_trees.specs.Bodies.{inside_procedure}
use Rattle.vb6_run.specs.Forms.{SourceLine, body_of}
use Rattle.vb6_run.specs.Programs as source
use Rattle.net_run.specs.Lines.{NetFrame, NetLine, scope_of}
use Rattle.net_run.specs.Program as target
use Rattle.run_matches.specs.CleanLines.{IsCleanLine, or_none, lines_at}
use Rattle.run_matches.specs.CoveredExprs.{uses_in}
use Rattle.run_matches.specs.CoveredLines.{covers_in_block, covers_line, jump_of, resumes}
use Rattle.run_matches.specs.Covered.{IsCoveredLine, covers_names, keeps_blocks}
use Rattle.run_matches.specs.Frames.{HasNames, lines_of}
use Rattle.run_matches.specs.Runs.{LineDoesTheSame, CallsAgree}
use Rattle.run_matches.specs.Sites.{Site, site_of}
use Rattle.run_matches.specs.Upgrades.{Upgrade, code_of, runnable_of}
use Rattle.run_statements.specs.Fitting.{FitsLine, FitsNode}
use Rattle.run_statements.specs.Frames.{AreReadable, IsOpen}
use Rattle.run_statements.specs.Kept.{IsUnreplaced, LineStands, LinesAgree, LinesAreWritten, NamesAreOpen, StoresAreOwn, UsesArePlaced, CanCallFrom, CanMakeAtFrom, CanMakeFrom, SameLineIn, made_at, qualified_at, receiver_at, used_at}
use Rattle.run_statements.specs.Written.{SameLines, WrittenLine, WrittenProcedure, Passes, site_scope}
use Rattle.run_laws.specs.Premises.{LinePremises}
use Rattle.run_laws.proofs.Covered.{bound_line, not_none, some_is}
use Rattle.line_laws.proofs.Called.{use_calls, use_makes}
use Rattle.run_laws.proofs.Callees.{call_fits, call_suits, callee_covered, called_clean, can_call, call_hands}
use Rattle.run_laws.proofs.Making.{can_make, can_make_at, made_covered, use_of_auto_calls, used_covered}
use Rattle.run_laws.proofs.Names.{code_is, is_below}

-- the bound lines of a procedure, as its lines
pub body_is : (U : Upgrade) (p : ℕ) (lines : List Line) → slice_get U.program.bodies p ≡ Some lines
    → slice_get (source.machine_of (runnable_of U)).bodies p ≡ Some (body_of lines)
body_is U p lines e = slice_get-map body_of U.program.bodies p ∙ ap (λ (o : Option (List Line)). option_map body_of o) e

pub line_is : (U : Upgrade) (p : ℕ) (lines : List Line) (n : ℕ) → slice_get U.program.bodies p ≡ Some lines
    → line_at (source.machine_of (runnable_of U)) p n ≡ nth_line (body_of lines) n
line_is U p lines n e = ap (λ z. line_in z n) (body_is U p lines e)

-- what is written for a line
pub record LineSame (U : Upgrade) (p q n : ℕ) (l : SourceLine) : Type 0 where
  pub line : NetLine
  pub is_line : line_at (target.machine_of U.written) q n ≡ Some line
  pub same :
      (turns : ℕ) → CallsAgree U (Passes U) (go (source.machine_of (runnable_of U)) turns) (go (target.machine_of U.written) turns)
      → SameLineIn U p q n turns l line

module _ (U : Upgrade) (lines_written : LinesAreWritten U) (names_open : NamesAreOpen U) (lines_agree : LinesAgree U)
    (p : ℕ) (s : Site) (x : Procedure) (stands : site_of U.program.declarations p ≡ Some s) (W : WrittenProcedure U p s x) (lines : List Line) (are : slice_get U.program.bodies p ≡ Some lines) where
  names_in : covers_names U.program.declarations ≡ true → (g : NetFrame) (k : NetLine) → HasNames (code_of U p) g → IsOpen (scope_of U.written W.code g k)
  names_in n g k h = names_open p s x W g k n (subst (λ o. HasNames o g) (code_is U p s x W) h)

  blocks_in : list_all keeps_blocks lines ≡ true → (others : List Line) → slice_get U.program.bodies p ≡ Some others → list_all keeps_blocks others ≡ true
  blocks_in h others e = subst (λ ls. list_all keeps_blocks ls ≡ true) (some_is (sym are ∙ e)) h

  pub line_same : (k : ℕ) (l : SourceLine) → line_at (source.machine_of (runnable_of U)) p (suc k) ≡ Some l → list_all keeps_blocks lines ≡ true
      → IsUnreplaced U p s k → covers_names U.program.declarations ≡ true → covers_line U.program p l.form ≡ true
      → AreReadable U (inside_procedure (site_scope U s) p) (uses_in U.program p l.form.bindings.mentions) → UsesArePlaced U p s W.code l.form → StoresAreOwn U p l.form
      → ((d : Expr) (q : ℕ) → Contains (line_uses l.form) d → called d ≡ Some q → CanCallFrom U p s W.code q (qualified_at d) (receiver_at d) (args_at d))
      → ((d : Expr) (class : ℕ) → Contains (line_uses l.form) d → made_at d ≡ Some class → CanMakeFrom U p s W.code class)
      → ((d : Expr) (v : ℕ) → Contains (line_uses l.form) d → used_at d ≡ Some v → CanMakeAtFrom U p s W.code v)
      → ((d : Expr) → Contains (line_uses l.form) d → FitsNode U d) → FitsLine U p l.form → LineStands U p s W.number W.code (suc k) l
      → LineSame U p W.number (suc k) l
  line_same k l e blocks unreplaced names covers readable placed own can makes autos fits resizes there =
      let L : WrittenLine U p s W.number (suc k) l = lines_written p s x stands W k l e (blocks_in blocks) unreplaced in
      record {
        line = L.line;
        is_line = L.is_line;
        same = λ turns calls.
            lines_agree p s W.number (suc k) turns l W.code L W.is_code (names_in names) readable placed own calls can makes autos fits resizes covers there;
      }

-- ---- lines by themselves

module _ (U : Upgrade) (h : LinePremises U) where
  -- what the line calls passes
  can_call_from : (p k : ℕ) (clean : IsCleanLine U.program U.facts.marks p (suc k)) (c : IsCoveredLine U.program U.facts.marks p (suc k))
      (W : WrittenProcedure U p c.site c.procedure) (d : Expr) (q : ℕ)
      → Contains (line_uses c.line) d → called d ≡ Some q → CanCallFrom U p c.site W.code q (qualified_at d) (receiver_at d) (args_at d)
  can_call_from p k clean c W d q m e =
      let call : Contains (line_calls U.program.declarations p c.line) (p, q) = use_calls U.program.declarations p q c.line d m e in
      let tests = callee_covered U p q c.line d c.calls m e in
      can_call U h.known h.procedures h.found h.methods h.results p q c.site c.procedure c.is_site c.is_procedure W c.line
      (record { lines = c.lines; are_lines = c.are_lines; place = k; stands = c.is_line }) call (qualified_at d) (receiver_at d) tests.0
      (called_clean U p (suc k) c.line clean (ap (λ o. nth_line (or_none o) (suc k)) c.are_lines ∙ c.is_line) q call, c.entered q call)
      (args_at d) tests.1 (call_suits U p q c.line d c.calls m e) (call_hands U p q c.line d c.calls m e)
      (call_fits U q d (h.fits p k c.line clean (ap (λ o. nth_line (or_none o) (suc k)) c.are_lines ∙ c.is_line) d m) e)

  -- and new objects can be made
  can_make_from : (p k : ℕ) (clean : IsCleanLine U.program U.facts.marks p (suc k)) (c : IsCoveredLine U.program U.facts.marks p (suc k))
      (W : WrittenProcedure U p c.site c.procedure) (d : Expr) (class : ℕ)
      → Contains (line_uses c.line) d → made_at d ≡ Some class → CanMakeFrom U p c.site W.code class
  can_make_from p k clean c W d class m is =
      can_make U h.known h.procedures h.objects p c.site c.procedure c.is_procedure W c.line
      (record { lines = c.lines; are_lines = c.are_lines; place = k; stands = c.is_line }) class (made_covered U p class c.line d c.calls m is)
      (λ q e. use_makes U.program.declarations p q class c.line d m is e)
      (λ q within call. (
        called_clean U p (suc k) c.line clean (ap (λ o. nth_line (or_none o) (suc k)) c.are_lines ∙ c.is_line) q call,
        c.entered q call,
      ))

  -- also by uses of As New variables
  can_make_at_from : (p k : ℕ) (clean : IsCleanLine U.program U.facts.marks p (suc k)) (c : IsCoveredLine U.program U.facts.marks p (suc k))
      (W : WrittenProcedure U p c.site c.procedure) (d : Expr) (v : ℕ)
      → Contains (line_uses c.line) d → used_at d ≡ Some v → CanMakeAtFrom U p c.site W.code v
  can_make_at_from p k clean c W d v m e w f g n names class is made =
      can_make_at U h.known h.procedures h.objects p c.site c.procedure c.is_procedure W c.line
      (record { lines = c.lines; are_lines = c.are_lines; place = k; stands = c.is_line }) class (used_covered U p v class c.line d c.calls m e is)
      (λ q begins. use_of_auto_calls U.program.declarations p q v class c.line d m e is begins)
      (λ q within call. (
        called_clean U p (suc k) c.line clean (ap (λ o. nth_line (or_none o) (suc k)) c.are_lines ∙ c.is_line) q call,
        c.entered q call,
      )) made w f g n names

  one_line : (p k : ℕ) → IsCleanLine U.program U.facts.marks p (suc k) → IsCoveredLine U.program U.facts.marks p (suc k) → LineDoesTheSame U p (suc k)
  one_line p k clean c =
      let W : WrittenProcedure U p c.site c.procedure = h.procedures p c.site c.procedure c.is_site c.is_procedure c.joined c.unparted in
      let found = bound_line c.lines k c.line c.is_line in
      let l : SourceLine = found.0 in
      let lines_are : lines_of U p ≡ c.lines = ap or_none c.are_lines in
      let form : l.form ≡ c.line = found.2 in
      let is : line_at (source.machine_of (runnable_of U)) p (suc k) ≡ Some l = line_is U p c.lines (suc k) c.are_lines ∙ found.1 in
      let covers : covers_line U.program p l.form ≡ true = subst (λ m. covers_line U.program p m ≡ true) (sym form) c.covers in
      let readable : AreReadable U (inside_procedure (site_scope U c.site) p) (uses_in U.program p l.form.bindings.mentions) =
      subst (λ (m : Line). AreReadable U (inside_procedure (site_scope U c.site) p) (uses_in U.program p m.bindings.mentions)) (sym form)
      (h.readable p k clean c) in
      let here : nth_line (lines_at U.program p) (suc k) ≡ Some l.form =
      ap (λ o. nth_line (or_none o) (suc k)) c.are_lines ∙ c.is_line ∙ ap {B = Option Line} (λ m. Some m) (sym form) in
      let z : LineSame U p W.number (suc k) l =
      line_same U h.lines h.names h.agree p c.site c.procedure c.is_site W c.lines c.are_lines k l is c.blocks
      (h.unreplaced p k c.site c.is_site clean c) c.names covers readable
      (h.placed p c.site c.procedure c.is_site c.is_procedure W l.form readable) (h.stores p c.procedure c.is_procedure k l.form here covers)
      (λ d q m e. can_call_from p k clean c W d q (subst (λ (n : Line). Contains (line_uses n) d) form m) e)
      (λ d class m e. can_make_from p k clean c W d class (subst (λ (n : Line). Contains (line_uses n) d) form m) e)
      (λ d v m e. can_make_at_from p k clean c W d v (subst (λ (n : Line). Contains (line_uses n) d) form m) e) (h.fits p k l.form clean here)
      (h.resizes p k l.form clean here)
      (record {
        is_procedure = is_below U.program.declarations.procs p c.procedure c.is_procedure;
        is_there = here;
        in_block = subst (λ ls. covers_in_block U.program p ls l ≡ true) (sym lines_are) (c.stands l found.1);
        label = λ a e. absurd (not_none (sym (ap (λ (m : Line). jump_of m.source.form) form ∙ c.stays) ∙ e));
        ways = λ e. absurd (true≢false (sym e ∙ (ap (λ (m : Line). resumes m.source.form) form ∙ c.no_resume)));
      }) in
      record {
        written = W.number;
        is_written = W.is_number;
        line = l;
        is_line = is;
        written_line = z.line;
        is_written_line = z.is_line;
        same = λ w f g turns at m F given. z.same turns (h.calls turns) w f g at m F given;
      }

  pub same_lines : SameLines U U.facts.marks
  same_lines p zero clean c = absurd (not_none c.is_line)
  same_lines p (suc k) clean c = one_line p k clean c
