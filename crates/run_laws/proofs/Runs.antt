-- The one induction, on turns: clean procedures that are covered run the same as what is written for them.
use Rattle.std.proofs.Common.{◌≡◌, refl, sym, ap, subst, ◌∙◌, ℕ, zero, suc, ◌<◌, true, Option, Some, None, option_map, List, []}
use Rattle.std.specs.Prelude.{nat_lt, slice_get}
use Rattle.std.specs.List.{Contains, list_all}
use Rattle.std.proofs.lemmas.Option.{slice_get-map}
use Rattle.bound_tree.specs.Targets.{aims_of, steps}
use Rattle.bound_tree.specs.Tree.{Expr, Line, Variable}
use Rattle.reach_table.specs.Chains.{empty}
use Rattle.bound_facts.specs.Calls.{count_procedures, line_calls}
use Rattle.bound_facts.specs.Node.{args_at, called}
use Rattle.bound_facts.specs.Parts.{line_uses}
use Rattle.net_tree.specs.Tree.{Project}
use Rattle.run_base.specs.Machines.{enters, go, line_at, nth_line, runs, stepped}
use Rattle.run_base.specs.Outcomes.{then}
use Rattle.vb6_run.specs.Forms.{SourceLine, body_of}
use Rattle.vb6_run.specs.Lines.{source_lines}
use Rattle.vb6_run.specs.Programs as source
use Rattle.vb6_run.specs.Programs.{entered_as}
use Rattle.vb6_run.specs.Runnables.{Runnable}
use Rattle.vb6_run.specs.Store.{Locked, Memory, SourceGiven}
use Rattle.net_run.specs.Members as net_members
use Rattle.net_run.specs.Members.{codes_of}
use Rattle.net_run.specs.Program as target
use Rattle.net_run.specs.Store as net
use Rattle.run_matches.specs.Addresses.{AllLocked, ArgsMatch}
use Rattle.run_matches.specs.Agreeing.{Agrees, ResultMatch}
use Rattle.run_matches.specs.CleanLines.{lines_at, or_none}
use Rattle.run_matches.specs.CoveredVariables.{are_different, belongs_to, covers_array_owner}
use Rattle.run_matches.specs.CoveredExprs.{uses_in}
use Rattle.run_matches.specs.CoveredLines.{covers_in_block, covers_line, has_sound_label}
use Rattle.run_matches.specs.Covered.{covers_procedure, keeps_blocks, covers_calls}
use Rattle.run_matches.specs.Frames.{HasOwnObject, lines_of, declared_names}
use Rattle.run_matches.specs.Maps.{World, mark, Below, Mark}
use Rattle.run_matches.specs.Match.{MemoryMatch, StoreMatch}
use Rattle.run_matches.specs.Pledges.{Later, NetGiven, Pledge}
use Rattle.run_matches.specs.Runs.{CallsAgree, IsObject, SameRun, call_pledge}
use Rattle.run_matches.specs.Sites.{site_of}
use Rattle.run_matches.specs.Upgrades.{Upgrade, runnable_of}
use Rattle.run_statements.specs.Arrays.{ArraysAreMade, StaticArraysAreLaid}
use Rattle.run_statements.specs.Frames.{IsUsable, LocalsAreMade, ValuesAreMade}
use Rattle.run_statements.specs.Groups.{GroupsAreGiven, GroupsAreMade, StaticGroupsAreLaid}
use Rattle.run_statements.specs.Kept.{CanCallFrom, CanMakeAtFrom, CanMakeFrom, OwnsAreKept, SameWays, made_at, qualified_at, receiver_at, used_at}
use Rattle.run_statements.specs.Written.{Passes, SameRuns, WrittenLine, WrittenProcedure}
use Rattle.memory_laws.specs.Statements.{AutosAreMade, StaticAutosAreLaid}
use Rattle.agreeing_laws.specs.Beside.{beside, with_steps}
use Rattle.agreeing_laws.proofs.Agreeing.{agrees_from, agrees_spent, then_agrees}
use Rattle.agreeing_laws.proofs.Beside.{later_start}
use Rattle.agreeing_laws.proofs.Lasting.{later_from, weaker_self}
use Rattle.agreeing_laws.proofs.Machines.{stepped_agrees}
use Rattle.agreeing_laws.proofs.Made.{below_self, below_then}
use Rattle.agreeing_laws.proofs.Moves.{locks_later}
use Rattle.agreeing_laws.proofs.OwnObjects.{own_object_later}
use Rattle.run_laws.specs.Entered.{IsResult, RunMatch}
use Rattle.run_laws.specs.Premises.{ArraysHaveRanks, CallsMakeAlike, RunPremises}
use Rattle.run_laws.proofs.Covered.{CoveredProcedure, all_at, blocks_are_kept, covered_parts, form_at, form_covered, jumps_soundly, labels_are_sound, not_none, some_is, extents_given, own_covered_at}
use Rattle.run_laws.proofs.Entries.{all_names, entries_agree}
use Rattle.line_laws.proofs.Called.{use_calls, use_makes}
use Rattle.run_laws.proofs.Callees.{call_fits, call_suits, callee_covered, can_call, call_hands}
use Rattle.run_laws.proofs.Making.{can_make, can_make_at, made_covered, use_of_auto_calls, used_covered}
use Rattle.run_laws.proofs.Names.{is_below}
use Rattle.run_laws.proofs.Parts.{clean_unparted}
use Rattle.run_laws.proofs.Heads.{HasAnswer}
use Rattle.run_laws.proofs.Keeping.{line_keeps}
use Rattle.run_laws.proofs.Lines.{LineSame, body_is, line_is, line_same}
use Rattle.run_laws.proofs.Reaching.{IsLineOf, clean_called, covered_called}
use Rattle.run_laws.proofs.Receiving.{called_within}
use Rattle.run_laws.proofs.Results.{results_agree}
use Rattle.run_laws.proofs.Usable.{result_is}
use Rattle.run_laws.proofs.Turns.{BodyRuns, LineRuns, Rest, body_agrees}
use Rattle.name_laws.proofs.Owns.{uses_exact}

-- ---- a procedure that passes

module _ (U : Upgrade) (h : RunPremises U) where
  abbrev R : Runnable
  R = runnable_of U

  abbrev N : Project
  N = U.written

  abbrev pub parts : (p : ℕ) → Passes U p → CoveredProcedure U.program p
  parts p pass = covered_parts U.program p (pass.1 p (empty p))

  abbrev pub written : (p : ℕ) (pass : Passes U p) → WrittenProcedure U p (parts p pass).site (parts p pass).procedure
  written p pass =
      let c : CoveredProcedure U.program p = parts p pass in
      h.procedures p c.site c.procedure c.is_site c.is_procedure c.joined (clean_unparted U p c.procedure pass.0)

  module _ (p : ℕ) (pass : Passes U p) where
    abbrev c : CoveredProcedure U.program p
    c = parts p pass

    abbrev W : WrittenProcedure U p (parts p pass).site (parts p pass).procedure
    W = written p pass

    covered : covers_procedure U.program p ≡ true
    covered = pass.1 p (empty p)

    kept : OwnsAreKept U p (parts p pass).site (parts p pass).procedure (written p pass)
    kept = h.owns p c.site c.procedure c.is_site c.is_procedure W pass.0 covered

    -- what it owns can be used
    usable : (v : ℕ) (x : Variable) → slice_get U.program.declarations.vars v ≡ Some x → belongs_to p x.owner ≡ true → IsUsable U v
    usable v x e owned = h.owned p v x pass.0 e owned (own_covered_at U.program p v x c.variables e owned)

    -- and each array has a dimension
    ranked : ArraysHaveRanks U
    ranked = h.ranked (extents_given U.program p c.variables)

    -- its result variable is no array
    answer_is : (a : HasAnswer U.program.declarations p (parts p pass).procedure) → IsResult U a.id.0
    answer_is a =
        let owned : belongs_to p a.variable.owner ≡ true = ap (belongs_to p) a.owner ∙ a.own in
        result_is U a.id.0 a.variable a.is_variable (ap covers_array_owner a.owner)
        (own_covered_at U.program p a.id.0 a.variable c.variables a.is_variable owned)
        (usable a.id.0 a.variable a.is_variable owned)

    -- ---- lines

    lines_are : lines_of U p ≡ c.lines
    lines_are = ap or_none c.are_lines

    -- what it calls passes too
    can_call_from : (k : ℕ) (l : Line) → slice_get c.lines k ≡ Some l → (d : Expr) (q : ℕ) → Contains (line_uses l) d → called d ≡ Some q
        → CanCallFrom U p (parts p pass).site (written p pass).code q (qualified_at d) (receiver_at d) (args_at d)
    can_call_from k l at d q m e =
        let call : Contains (line_calls U.program.declarations p l) (p, q) = use_calls U.program.declarations p q l d m e in
        let calls : covers_calls U.program p l ≡ true = all_at (covers_calls U.program p) c.lines k l c.calls at in
        let stands : IsLineOf U.program p l = record { lines = c.lines; are_lines = c.are_lines; place = k; stands = at } in
        let tests = callee_covered U p q l d calls m e in
        let within : nat_lt q (count_procedures U.program) ≡ true =
        called_within U.program p q (site_of U.program.declarations p) (qualified_at d) (receiver_at d) tests.0 in
        can_call U h.known h.procedures h.found h.methods h.results p q c.site c.procedure c.is_site c.is_procedure W l stands call
        (qualified_at d) (receiver_at d) tests.0 (
          clean_called U.program p q c.procedure c.is_procedure within l stands call U.facts.marks pass.0,
          covered_called U.program p q c.procedure c.is_procedure within l stands call pass.1,
        ) (args_at d) tests.1 (call_suits U p q l d calls m e) (call_hands U p q l d calls m e) (call_fits U q d (h.fits p k l pass.0 (ap (λ (ls : List Line). slice_get ls k) lines_are ∙ at) d m) e)

    -- and new objects can be made
    can_make_from : (k : ℕ) (l : Line) → slice_get c.lines k ≡ Some l → (d : Expr) (class : ℕ) → Contains (line_uses l) d → made_at d ≡ Some class
        → CanMakeFrom U p (parts p pass).site (written p pass).code class
    can_make_from k l at d class m is =
        let stands : IsLineOf U.program p l = record { lines = c.lines; are_lines = c.are_lines; place = k; stands = at } in
        can_make U h.known h.procedures h.objects p c.site c.procedure c.is_procedure W l stands class
        (made_covered U p class l d (all_at (covers_calls U.program p) c.lines k l c.calls at) m is)
        (λ q e. use_makes U.program.declarations p q class l d m is e)
        (λ q within call. (
          clean_called U.program p q c.procedure c.is_procedure within l stands call U.facts.marks pass.0,
          covered_called U.program p q c.procedure c.is_procedure within l stands call pass.1,
        ))

    -- also by uses of As New variables
    can_make_at_from : (k : ℕ) (l : Line) → slice_get c.lines k ≡ Some l → (d : Expr) (v : ℕ) → Contains (line_uses l) d → used_at d ≡ Some v
        → CanMakeAtFrom U p (parts p pass).site (written p pass).code v
    can_make_at_from k l at d v m e w f g n names class is made =
        let stands : IsLineOf U.program p l = record { lines = c.lines; are_lines = c.are_lines; place = k; stands = at } in
        can_make_at U h.known h.procedures h.objects p c.site c.procedure c.is_procedure W l stands class
        (used_covered U p v class l d (all_at (covers_calls U.program p) c.lines k l c.calls at) m e is)
        (λ q begins. use_of_auto_calls U.program.declarations p q v class l d m e is begins)
        (λ q within call. (
          clean_called U.program p q c.procedure c.is_procedure within l stands call U.facts.marks pass.0,
          covered_called U.program p q c.procedure c.is_procedure within l stands call pass.1,
        )) made w f g n names

    -- no line is replaced, so each line and the written one of its number go the same ways
    same_ways : (n : ℕ) (o : Option SourceLine) → line_at (source.machine_of R) p n ≡ o → SameWays o (line_at (target.machine_of N) (written p pass).number n)
    same_ways n None e =
        subst (λ k. SameWays None k) (sym (h.no_further p c.site c.procedure c.is_site c.is_procedure W n e)) tt
    same_ways zero (Some l) e = absurd (not_none (sym (line_is U p c.lines zero c.are_lines) ∙ e))
    same_ways (suc k) (Some l) e =
        let L : WrittenLine U p c.site W.number (suc k) l =
        h.lines p c.site c.procedure c.is_site W k l e
        (λ lines same. subst (λ ls. list_all keeps_blocks ls ≡ true) (some_is (sym c.are_lines ∙ same)) (blocks_are_kept U.program p c.lines c.covers))
        (h.unreplaced p c.site c.procedure c.is_site c.is_procedure W pass.0 covered k) in
        subst (λ z. SameWays (Some l) z) (sym L.is_line) (L.aims, L.tests)

    one_line : (n : ℕ) (l : SourceLine) → line_at (source.machine_of R) p n ≡ Some l → LineRuns U p (written p pass).number n l
    one_line zero l e = absurd (not_none (sym (line_is U p c.lines zero c.are_lines) ∙ e))
    one_line (suc k) l e =
        let at : slice_get c.lines k ≡ Some l.form =
        form_at c.lines (aims_of (steps (source_lines c.lines))) k l (sym (line_is U p c.lines (suc k) c.are_lines) ∙ e) in
        let covers : covers_line U.program p l.form ≡ true = all_at (covers_line U.program p) c.lines k l.form c.covers at in
        let here : nth_line (lines_at U.program p) (suc k) ≡ Some l.form = ap (λ (ls : List Line). slice_get ls k) lines_are ∙ at in
        let used = h.readable p c.site c.procedure c.is_site c.is_procedure W pass.0 covered k l.form here in
        let z : LineSame U p W.number (suc k) l =
        line_same U h.lines h.names h.agree p c.site c.procedure c.is_site W c.lines c.are_lines k l e (blocks_are_kept U.program p c.lines c.covers)
        (h.unreplaced p c.site c.procedure c.is_site c.is_procedure W pass.0 covered k) c.names covers used
        (h.placed p c.site c.procedure c.is_site c.is_procedure W l.form used) (h.stores p c.procedure c.is_procedure k l.form here covers)
        (can_call_from k l.form at) (can_make_from k l.form at) (can_make_at_from k l.form at)
        (h.fits p k l.form pass.0 here) (h.resizes p k l.form pass.0 here)
        (record {
          is_procedure = is_below U.program.declarations.procs p c.procedure c.is_procedure;
          is_there = here;
          in_block =
              subst (λ ls. covers_in_block U.program p ls l ≡ true) (sym lines_are)
              (all_at (covers_in_block U.program p c.lines) (body_of c.lines) k l c.in_blocks (sym (line_is U p c.lines (suc k) c.are_lines) ∙ e));
          label = λ a jump.
              h.labels p c.site c.procedure c.is_site W
              (λ lines same. subst (λ ls. list_all has_sound_label ls ≡ true) (some_is (sym c.are_lines ∙ same)) (labels_are_sound U.program p c.lines c.covers))
              (h.unreplaced p c.site c.procedure c.is_site c.is_procedure W pass.0 covered) a (jumps_soundly U.program p l.form a covers jump);
          ways = λ e n. same_ways n (line_at (source.machine_of R) p n) refl;
        }) in
        record {
          line = z.line;
          is_line = z.is_line;
          same = z.same;
          keeps = λ f turns w. line_keeps R f l (uses_in U.program p l.form.bindings.mentions) p turns w (form_covered U.program p l.form covers);
        }

    names_differ : are_different (declared_names (written p pass).code) ≡ true
    names_differ = subst (λ ns. are_different ns ≡ true) (all_names U p c W kept usable answer_is ranked h.groups h.firsts (uses_exact U h.known)) c.different

    pub body : BodyRuns U p (written p pass).number
    body = record {
      lines = body_of c.lines;
      are_lines = body_is U p c.lines c.are_lines;
      net_lines = target.body_of W.code;
      are_net_lines = slice_get-map target.body_of (codes_of N) W.number ∙ ap (λ (o : Option net_members.Code). option_map target.body_of o) W.is_code;
      line = one_line;
      ends = h.no_further p c.site c.procedure c.is_site c.is_procedure W;
      result = λ base me xs ys w f g m F. results_agree U p c W names_differ base me xs ys (h.read p base me xs ys) answer_is w f g m F;
      covers = subst (λ ls. list_all (covers_line U.program p) ls ≡ true) (sym lines_are) c.covers;
    }

  -- ---- turns

  -- with so many turns, calls of all procedures that pass agree, and what is left of each
  record Turns (n : ℕ) : Type 0 where
    calls : CallsAgree U (Passes U) (go (source.machine_of R) n) (go (target.machine_of N) n)
    rests : (p : ℕ) (pass : Passes U p) (base : Mark) (me : Option ℕ) (xs : List SourceGiven) (ys : List NetGiven)
        → Rest U p (written p pass).number (body p pass) base me xs ys n

  -- an entry, and then the rest
  entered_agrees : (n : ℕ) → Turns n → (p : ℕ) (pass : Passes U p) (base : Mark) (me : Option ℕ) (locked : Locked) (xs : List SourceGiven) (ys : List NetGiven)
      (w0 w : World) → StoreMatch U w0 → ArgsMatch U (call_pledge U p base me xs ys) w0 p 0 xs ys → Later U (call_pledge U p base me xs ys) w0 w → IsObject w me → HasOwnObject U w p me
      → AllLocked U (call_pledge U p base me xs ys) w locked → Below base (mark w.src) → MemoryMatch U w
      → Agrees U (call_pledge U p base me xs ys) w (ResultMatch U)
      (then (entered_as R p me locked xs w.src) (λ f s. go (source.machine_of R) n (runs p f) s))
      (then (target.enter N (written p pass).number (option_map w.map.objects me) tt ys w.net)
      (λ g t. go (target.machine_of N) n (runs (written p pass).number g) t))
  entered_agrees n turns p pass base me locked xs ys w0 w start args l obj own held low m =
      let K : Pledge = call_pledge U p base me xs ys in
      let c : CoveredProcedure U.program p = parts p pass in
      let W : WrittenProcedure U p c.site c.procedure = written p pass in
      then_agrees U K w (RunMatch U K p me) (ResultMatch U) (entered_as R p me locked xs w.src)
      (target.enter N W.number (option_map w.map.objects me) tt ys w.net) (λ f s. go (source.machine_of R) n (runs p f) s)
      (λ g t. go (target.machine_of N) n (runs W.number g) t) m
      (entries_agree U p c W (kept p pass) (usable p pass) (answer_is p pass) (ranked p pass) h.groups h.firsts (uses_exact U h.known) base me xs ys (h.makes p base me xs ys) locked w0 w start args
      l obj own held low m)
      (λ f g u r later. turns.rests p pass base me xs ys u f g r later.match)

  locked_steps : (K : Pledge) (w : World) (j : ℕ) (locked : Locked) → Later U K w (with_steps w j) → AllLocked U K w locked → AllLocked U K (with_steps w j) locked
  locked_steps K w j locked l x = locks_later U K w (with_steps w j) locked l x

  object_at : (w z : World) (me : Option ℕ) → z.src.next_object ≡ w.src.next_object → IsObject w me → IsObject z me
  object_at w z None e o = tt
  object_at w z (Some m) e o = subst (λ n. m < n) (sym e) o

  -- a call takes a step
  call_agrees : (n : ℕ) → Turns n → CallsAgree U (Passes U) (go (source.machine_of R) (suc n)) (go (target.machine_of N) (suc n))
  call_agrees n turns p q me base locked xs ys w pass number low obj own held args m =
      let K : Pledge = call_pledge U p base me xs ys in
      let W : WrittenProcedure U p (parts p pass).site (parts p pass).procedure = written p pass in
      let does = λ (s : Memory). then (entered_as R p me locked xs s) (λ f s. go (source.machine_of R) n (runs p f) s) in
      let does' = λ (t : net.Memory). then (target.enter N W.number (option_map w.map.objects me) tt ys t) (λ g t. go (target.machine_of N) n (runs W.number g) t) in
      subst (λ k. Agrees U K w (ResultMatch U) (go (source.machine_of R) (suc n) (enters p me locked xs) w.src)
      (go (target.machine_of N) (suc n) (enters k (option_map w.map.objects me) tt ys) w.net)) (some_is (sym W.is_number ∙ number))
      (stepped_agrees U R N K w (ResultMatch U) does does' m
      (λ j e lat.
      entered_agrees n turns p pass base me locked xs ys w (with_steps w j) m.stores args.match lat (object_at w (with_steps w j) me refl obj) (own_object_later U K w (with_steps w j) p me lat own)
      (locked_steps K w j locked lat held) (below_then base (mark w.src) (mark (with_steps w j).src) low lat.grows) lat.match))

  -- turn by turn
  turns_agree : (n : ℕ) → Turns n
  turns_agree zero = record {
    calls = λ p q me base locked xs ys w pass number low obj own held args m. agrees_spent U (call_pledge U p base me xs ys) w (ResultMatch U) m;
    rests = λ p pass base me xs ys w f g r m. agrees_spent U (call_pledge U p base me xs ys) w (ResultMatch U) m;
  }
  turns_agree (suc n) =
      let before : Turns n = turns_agree n in
      record {
        calls = call_agrees n before;
        rests = λ p pass base me xs ys w f g r m.
            body_agrees U p (written p pass).number (body p pass) base me xs ys n (before.rests p pass base me xs ys) before.calls w f g r m;
      }

  pub calls_agree : (n : ℕ) → CallsAgree U (Passes U) (go (source.machine_of R) n) (go (target.machine_of N) n)
  calls_agree n = (turns_agree n).calls

  -- ---- runs

  -- the stores with which a run begins
  abbrev begun : World → List (List ℕ) → ℕ → World
  begun w inputs n = beside w w.src.err w.net.err inputs inputs n n

  same_run : (p : ℕ) (pass : Passes U p) → SameRun U p (written p pass).number
  same_run p pass w me xs ys inputs n start =
      let K : Pledge = call_pledge U p (mark w.src) me xs ys in
      let W : WrittenProcedure U p (parts p pass).site (parts p pass).procedure = written p pass in
      let w1 : World = begun w inputs n in
      let l : Later U K w w1 = later_start U K w inputs n start.stores in
      let does = λ (s : Memory). then (entered_as R p me [] xs s) (λ f s. go (source.machine_of R) n (runs p f) s) in
      let does' = λ (t : net.Memory). then (target.enter N W.number (option_map w.map.objects me) tt ys t) (λ g t. go (target.machine_of N) n (runs W.number g) t) in
      agrees_from U K K w w1 (ResultMatch U) (stepped (source.machine_of R) n does w1.src) (stepped (target.machine_of N) n does' w1.net) start.stores (weaker_self w K) l
      (stepped_agrees U R N K w1 (ResultMatch U) does does' l.match
      (λ j e lat.
      let z : World = with_steps w1 j in
      entered_agrees n (turns_agree n) p pass (mark w.src) me [] xs ys w z start.stores start.args.match
      (later_from U K K w w1 z start.stores (weaker_self w K) l lat) (object_at w z me refl start.object)
      (own_object_later U K w1 z p me lat (own_object_later U K w w1 p me l start.own_object)) tt (below_self (mark w.src)) lat.match))

  -- ---- the law

  pub same_runs : SameRuns U U.facts.marks
  same_runs p clean covered =
      let pass : Passes U p = (clean, covered) in
      record { written = (written p pass).number; is_written = (written p pass).is_number; same = same_run p pass }

-- what is made alike under any pledge is so under that of a call
pub makes_in_calls : (U : Upgrade) → LocalsAreMade U → ArraysAreMade U → GroupsAreMade U → AutosAreMade U → StaticArraysAreLaid U
    → StaticGroupsAreLaid U → StaticAutosAreLaid U → ValuesAreMade U → GroupsAreGiven U → CallsMakeAlike U
makes_in_calls U scalars arrays groups autos static_arrays static_groups static_autos given groups_given p base me xs ys =
    let K : Pledge = call_pledge U p base me xs ys in
    record {
      scalars = scalars K;
      arrays = arrays K;
      groups = groups K;
      autos = autos K;
      static_arrays = static_arrays K;
      static_groups = static_groups K;
      static_autos = static_autos K;
      scalars_given = given K;
      groups_given = groups_given K;
    }
