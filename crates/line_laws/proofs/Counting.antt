-- A For does the same as what is written for it.
use Rattle.std.proofs.Common.{◌≡◌, ◌∙◌, inl, refl, sym, ap, subst, ℕ, Bool, true, false, not, ◌&&◌, nat_eq, Option, Some, List, [], ◌∷◌, true≢false}
use Rattle.std.specs.List.{list_all}
use Rattle.std.specs.Map.{lookup}
use Rattle.vb_tree.specs.BoundTree.{Ty}
use Rattle.vb_tree.specs.declared.declared.VarId.{VarId}
use Rattle.vb_tree.specs.declared.value.Value6.{Value6}
use Rattle.vb_tree.specs.Tree as source_form
use Rattle.bound_tree.specs.Tree.{Expr, typed, Term, variable}
use Rattle.bound_facts.proofs.Chains.{both_true}
use Rattle.bound_facts.specs.Locks.{is_same_type}
use Rattle.bound_facts.specs.Node.{type_at}
use Rattle.run_base.specs.Frames.{keeps_limit, keeping}
use Rattle.run_base.specs.Outcomes.{Outcome, gives, after, then, answered, some_of}
use Rattle.run_base.specs.Positions.{whole, made}
use Rattle.written_trees.specs.Exprs.{exp_of}
use Rattle.written_trees.specs.Lines.{step_exp}
use Rattle.written_trees.specs.Names.{Scope, variable_path}
use Rattle.vb6_run.specs.Expressions as source
use Rattle.vb6_run.specs.Forms.{SourceLine}
use Rattle.vb6_run.specs.Lines as source_lines
use Rattle.vb6_run.specs.Lines.{for_from, goes_if, keeping_limit, step_of}
use Rattle.vb6_run.specs.Shapes.{simple, variable_shape}
use Rattle.vb6_run.specs.Store.{Address, root, Memory, SourceCalls, SourceFrame, write}
use Rattle.vb6_run.specs.Values.{scalar}
use Rattle.net_run.specs.Blocks.{counts_on, step_value}
use Rattle.net_run.specs.Expressions as target
use Rattle.net_run.specs.Lines.{NetFrame, NetLine, at_some, loops, scope_of}
use Rattle.net_run.specs.Lines as target_lines
use Rattle.net_run.specs.Making.{Jobs}
use Rattle.net_run.specs.Members.{Code}
use Rattle.net_run.specs.Names as net_names
use Rattle.net_run.specs.Names.{Parts, at_address, at_place}
use Rattle.net_run.specs.Store as net_store
use Rattle.net_run.specs.Values as net_value
use Rattle.run_matches.specs.Upgrades.{Upgrade}
use Rattle.run_matches.specs.Maps.{World}
use Rattle.run_matches.specs.Likeness.{LikeV}
use Rattle.run_matches.specs.Match.{MemoryMatch}
use Rattle.run_matches.specs.Pledges.{Pledge, Later}
use Rattle.run_matches.specs.Addresses.{Same, both_limits, IsInPlace}
use Rattle.run_matches.specs.Agreeing.{Agrees}
use Rattle.run_matches.specs.Formed.{is_formed}
use Rattle.run_matches.specs.CoveredVariables.{covers_type}
use Rattle.run_matches.specs.CoveredExprs.{Uses, covers_expr, covers_value, is_variable}
use Rattle.run_matches.specs.CoveredLines.{covers_counter, covers_counting, covers_step, is_counter, is_local, is_local_term}
use Rattle.run_matches.specs.Frames.{FrameMatch, HasPlace, OwnsAll, SameVariable, is_own_of, is_mirrored}
use Rattle.run_statements.specs.Frames.{AnyUnits, ArePlaced, ExpressionsAgree, IsOpen, IsReadable, ScalarMatch, ScalarsAreWritten, context_of, AllCalled, demands, AreReadable}
use Rattle.run_statements.specs.Written.{Passes}
use Rattle.run_matches.specs.Runs.{CallsAgree}
use Rattle.agreeing_laws.proofs.Agreeing.{agrees_outside, left_alone, right_alone, then_agrees}
use Rattle.agreeing_laws.proofs.Lasting.{later_now, later_then}
use Rattle.agreeing_laws.proofs.Moves.{address_later}
use Rattle.agreeing_laws.proofs.Scalars.{scalar_later}
use Rattle.line_laws.specs.Lasting.{GoOnMatching}
use Rattle.line_laws.proofs.Called.{AllIn}
use Rattle.line_laws.proofs.Bounds.{exactly}
use Rattle.line_laws.proofs.Counts.{counted_agrees, counter_covered, one_agrees, own_local}
use Rattle.line_laws.proofs.FrameLater.{Keeps}
use Rattle.line_laws.proofs.KeptPlaces.{value_kept}
use Rattle.line_laws.proofs.Jumps.{leads}
use Rattle.line_laws.proofs.Stores.{not_kept, same_type}
use Rattle.line_laws.proofs.Uses.{address_found, address_is, name_is, own_exact, own_path, path_is, scalar_type, shape_is, variable_named, variable_reached}

-- ---- For

module _ (U : Upgrade) (expressions : ExpressionsAgree U) (scalars : ScalarsAreWritten U) (K : Pledge) (p : ℕ) (f : SourceFrame) (g : NetFrame) (l : SourceLine)
    (k : NetLine) (c : Code) (T : Scope) (declared : T.declarations ≡ U.program.declarations) (oracle : SourceCalls) (net_oracle : Jobs)
    (is_open : IsOpen (scope_of U.written c g k)) (uses : Uses) (readable : AreReadable U T uses)
    (placed : ArePlaced U p f (scope_of U.written c g k) T uses) (agree : CallsAgree U (Passes U) oracle net_oracle) (R : World → SourceFrame → NetFrame → Type 0) (w : World) (h : MemoryMatch U w)
    (G : GoOnMatching U K p f g w) (owns : OwnsAll U K p f) (aims : k.aims ≡ l.aims) where
  abbrev C : source.Context
  C = context_of U oracle p f l

  abbrev S : net_names.Scope
  S = scope_of U.written c g k

  abbrev Can : Expr → Type 0
  Can e = AllCalled (demands U K p l k S T) e

  -- a value of the type of the counter
  value_agrees : (ty : Ty) → covers_type ty ≡ true → (e : Expr) → Can e → covers_value uses ty e ≡ true → is_formed e ≡ true → (w1 : World) → Later U K w w1
      → Agrees U K w1 (ScalarMatch U ty) (source.value_of C e w1.src) (target.value_of S net_oracle (exp_of T e) w1.net)
  value_agrees ty typed_ty e can covers formed w1 later =
      let parts : (is_same_type ty (type_at e) ≡ true) × (covers_expr uses e ≡ true) = both_true (is_same_type ty (type_at e)) (covers_expr uses e) covers in
      subst (λ t. Agrees U K w1 (ScalarMatch U t) (source.value_of C e w1.src) (target.value_of S net_oracle (exp_of T e) w1.net))
      (same_type ty (type_at e) typed_ty parts.0)
      (expressions K w1 p f g oracle net_oracle l k c T uses e later.match (G w1 later) declared is_open readable placed agree can parts.1 formed)

  module _ (ty : Ty) (v : VarId) (qualified : Bool) (counts : is_counter ty ≡ true) (use_v : uses.scalar v ≡ true) (a : Address) (found : lookup (nat_eq v.0) f.vars ≡ Some a)
      (mine : is_own_of U p v.0 ≡ true)
      (head first last : source_form.Exp) (pace : Option source_form.Exp) (es : List Expr)
      (keep : Keeps U K p f g R w (source_form.for_head head first last pace) (typed ty (variable v qualified) ∷ es)) where
    abbrev counter : Expr
    counter = typed ty (variable v qualified)

    abbrev readable_v : IsReadable U v.0
    readable_v = readable.scalars v use_v

    abbrev declared_type : Ty
    declared_type = readable_v.variable.ty

    abbrev F : FrameMatch U K w p f g
    F = G w (later_now U K w h)

    found_v : SameVariable U K w v.0 a g
    found_v = F.vars v.0 a found readable_v.sound

    same_v : Same U K w a found_v.address
    same_v = exactly U K w (not (is_mirrored U v.0)) a found_v.address (ap not (own_exact U v.0 readable_v p mine)) found_v.bound

    place_v : HasPlace U w v.0 a
    place_v = F.own v.0 a found mine

    stands_v : a ≡ root (simple declared_type) (whole (made place_v.place))
    stands_v = place_v.stands ∙ ap (λ d. root d (whole (made place_v.place))) (shape_is U v.0 readable_v)

    in_place : IsInPlace a
    in_place = record { place = place_v.place; shape = variable_shape U.program.declarations v.0; path = []; stands = place_v.stands }

    reached : target.reach S net_oracle false (exp_of T counter) w.net ≡ gives [] (at_place found_v.address) w.net
    reached =
        ap (λ e. target.reach S net_oracle false e w.net) (path_is U T declared ty v qualified readable_v)
        ∙ variable_reached S net_oracle (variable_path T qualified v.0) found_v.address w.net
        (ap (net_names.path_start S false) (own_path U v.0 readable_v p mine T declared qualified)
        ∙ variable_named S net_oracle readable_v.variable.name found_v.address
        (ap (λ n. net_names.var_in g.vars n) (sym (name_is U v.0 readable_v)) ∙ found_v.found))

    -- where the counter has its first value
    abbrev started : net_value.Value → net_value.Value → net_value.Value → net_store.Memory → Outcome net_store.Memory NetFrame
    started x y s t =
        then (answered (counts_on x y s) t) (λ goes t. loops (Some k.aims.after) k.aims.otherwise (keeping (keeps_limit found_v.address y s) g.line g) goes t)

    module _ (w1 : World) (later : Later U K w w1) (i j s : Value6) (i' j' s' : net_value.Value) (like_i : LikeV U w1 (scalar ty i) i')
        (like_j : LikeV U w1 (scalar ty j) j') (like_s : LikeV U w1 (scalar ty s) s') where
      abbrev limited : source.Context
      limited = keeping_limit C a (scalar ty j) (scalar ty s)

      counts_from : declared_type ≡ ty → (w2 : World) → Later U K w1 w2
          → Agrees U K w2 R (source_lines.counted limited (Some l.aims.after) l.aims.otherwise (scalar ty i) (scalar ty j) (scalar ty s) w2.src) (started i' j' s' w2.net)
      counts_from same w2 more =
          let whole_later : Later U K w w2 = later_then U K w w1 w2 h later more in
          let next : (n m : ℕ) → m ≡ n → (w3 : World) → Later U K w2 w3
          → R w3 (keeping (keeps_limit a (scalar ty j) (scalar ty s)) n f) (keeping (keeps_limit found_v.address j' s') m g) =
          λ n m e w3 rest.
          let all : Later U K w w3 = later_then U K w w2 w3 h whole_later rest in
          let from_one : Later U K w1 w3 = later_then U K w1 w2 w3 later.match more rest in
          keep (keeps_limit a (scalar ty j) (scalar ty s)) (keeps_limit found_v.address j' s') n m e w3 all
          (λ exact. both_limits a found_v.address ty ty j s j' s' (address_later U K w w3 a found_v.address all same_v) (scalar_later U K w1 w3 ty j j' from_one like_j)
          (scalar_later U K w1 w3 ty s s' from_one like_s))
          (value_kept U K p f w3 (source_form.for_head head first last pace) (typed ty (variable v qualified) ∷ es) (keeps_limit a (scalar ty j) (scalar ty s))
          (keeps_limit found_v.address j' s') refl (λ d z. cc z)
          (record {
            found = found;
            place = (whole (made place_v.place), stands_v ∙ ap (λ t. root (simple t) (whole (made place_v.place))) same);
            limit = (j, refl);
            step = (s, refl);
          })) in
          let lead : (n m : Option ℕ) → m ≡ n
          → Agrees U K w2 R (goes_if limited n w2.src) (at_some (keeping (keeps_limit found_v.address j' s') g.line g) m w2.net) =
          λ n m e. leads U K R limited (keeping (keeps_limit found_v.address j' s') g.line g) k aims w2 more.match next n m e w2 (later_now U K w2 more.match) in
          counted_agrees U K w2 more.match ty counts R limited (Some l.aims.after) l.aims.otherwise
          (λ goes t. loops (Some k.aims.after) k.aims.otherwise (keeping (keeps_limit found_v.address j' s') g.line g) goes t)
          (lead (Some l.aims.after) (Some k.aims.after) (ap (λ z. Some z.after) aims)) (lead l.aims.otherwise k.aims.otherwise (ap (λ z. z.otherwise) aims)) i j s i' j' s'
          (scalar_later U K w1 w2 ty i i' more like_i) (scalar_later U K w1 w2 ty j j' more like_j) (scalar_later U K w1 w2 ty s s' more like_s)

      abbrev from_here : Outcome Memory SourceFrame
      from_here =
          then (write f.env (scalar ty i) a w1.src) (λ u t. source_lines.counted limited (Some l.aims.after) l.aims.otherwise (scalar ty i) (scalar ty j) (scalar ty s) t)

      abbrev net_from_here : Outcome net_store.Memory NetFrame
      net_from_here = then (net_store.written found_v.address i' w1.net) (λ u t. started i' j' s' t)

      written_from : (t : Bool) → is_same_type declared_type ty ≡ t → Agrees U K w1 R from_here net_from_here
      written_from true is =
          let same : ty ≡ declared_type = same_type declared_type ty (scalar_type U v.0 readable_v) is in
          then_agrees U K w1 AnyUnits R (write f.env (scalar ty i) a w1.src) (net_store.written found_v.address i' w1.net)
          (λ u t. source_lines.counted limited (Some l.aims.after) l.aims.otherwise (scalar ty i) (scalar ty j) (scalar ty s) t) (λ u t. started i' j' s' t) later.match
          (scalars K w1 a found_v.address f.env ty i i' (counter_covered ty counts) later.match (address_later U K w w1 a found_v.address later same_v)
          (whole (made place_v.place), inl (stands_v ∙ ap (λ z. root (simple z) (whole (made place_v.place))) (sym same))) (inl (inl in_place))
          (λ steady. owns.variables v.0 a found mine) like_i)
          (λ u u' w2 m more. counts_from (sym same) w2 more)
      written_from false is =
          subst (λ r. Agrees U K w1 R (then r (λ u t. source_lines.counted limited (Some l.aims.after) l.aims.otherwise (scalar ty i) (scalar ty j) (scalar ty s) t)) net_from_here)
          (sym (ap (λ d. write f.env (scalar ty i) d w1.src) stands_v
          ∙ not_kept f.env declared_type ty i (whole (made place_v.place)) w1.src (scalar_type U v.0 readable_v) is))
          (agrees_outside U K w1 R net_from_here)

      starts : Agrees U K w1 R (for_from C counter (scalar ty i) (scalar ty j) (scalar ty s) w1.src)
          (then (target.finished (at_address found_v.address) w1.net) (λ d t. then (net_store.written d i' t) (λ u t.
          then (answered (counts_on i' j' s') t) (λ goes t. loops (Some k.aims.after) k.aims.otherwise (keeping (keeps_limit d j' s') g.line g) goes t))))
      starts =
          subst (λ r. Agrees U K w1 R (then r (λ d t. then (write f.env (scalar ty i) d t) (λ u t.
          source_lines.counted (keeping_limit C d (scalar ty j) (scalar ty s)) (Some l.aims.after) l.aims.otherwise (scalar ty i) (scalar ty j) (scalar ty s) t)))
          (after [] net_from_here))
          (sym (address_found U C refl ty v qualified readable_v w1.src
          ∙ ap (λ o. some_of o (λ d t. gives [] d t) w1.src) (address_is U v.0 readable_v p mine f ∙ found)))
          (left_alone U K w1 R from_here (after [] net_from_here)
          (right_alone U K w1 R from_here net_from_here (written_from (is_same_type declared_type ty) refl)))

    step_agrees : (steps : List Expr) → AllIn Can steps → covers_step uses ty steps ≡ true → list_all is_formed steps ≡ true → (w1 : World) → Later U K w w1 → (i : Value6)
        (i' : net_value.Value) → LikeV U w1 (scalar ty i) i'
        → Agrees U K w1 (ScalarMatch U ty) (step_of C counter steps w1.src) (step_value S net_oracle i' (step_exp T steps) w1.net)
    step_agrees [] can covers formed w1 later i i' like = one_agrees U K w1 later.match ty counts i i' like
    step_agrees (s ∷ []) can covers formed w1 later i i' like =
        value_agrees ty (counter_covered ty counts) s can.0 covers (both_true (is_formed s) true formed).0 w1 later
    step_agrees (s ∷ d ∷ steps) can covers formed w1 later i i' like = absurd (true≢false (sym covers))

    module _ (start limit : Expr) (steps : List Expr) (can : AllIn Can (start ∷ limit ∷ steps)) (covers_start : covers_value uses ty start ≡ true) (covers_limit : covers_value uses ty limit ≡ true)
        (covers_steps : covers_step uses ty steps ≡ true) (formed_start : is_formed start ≡ true) (formed_limit : is_formed limit ≡ true)
        (formed_steps : list_all is_formed steps ≡ true) where
      abbrev behind_step : net_value.Value → net_value.Value → net_value.Value → net_store.Memory → Outcome net_store.Memory NetFrame
      behind_step x y s t =
          then (target.finished (at_address found_v.address) t) (λ d t. then (net_store.written d x t) (λ u t.
          then (answered (counts_on x y s) t) (λ goes t. loops (Some k.aims.after) k.aims.otherwise (keeping (keeps_limit d y s) g.line g) goes t)))

      abbrev behind_limit : net_value.Value → net_value.Value → net_store.Memory → Outcome net_store.Memory NetFrame
      behind_limit x y t = then (step_value S net_oracle x (step_exp T steps) t) (λ s t. behind_step x y s t)

      abbrev behind_start : net_value.Value → net_store.Memory → Outcome net_store.Memory NetFrame
      behind_start x t = then (target.value_of S net_oracle (exp_of T limit) t) (λ y t. behind_limit x y t)

      with_limit : (w1 : World) → Later U K w w1 → (i : Value6) (i' : net_value.Value) → LikeV U w1 (scalar ty i) i' → (w2 : World) → Later U K w1 w2 → (j : Value6)
          (j' : net_value.Value) → LikeV U w2 (scalar ty j) j'
          → Agrees U K w2 R (then (step_of C counter steps w2.src) (λ s t. for_from C counter (scalar ty i) (scalar ty j) s t)) (behind_limit i' j' w2.net)
      with_limit w1 later i i' like_i w2 more j j' like_j =
          let all : Later U K w w2 = later_then U K w w1 w2 h later more in
          then_agrees U K w2 (ScalarMatch U ty) R (step_of C counter steps w2.src) (step_value S net_oracle i' (step_exp T steps) w2.net)
          (λ s t. for_from C counter (scalar ty i) (scalar ty j) s t) (λ s t. behind_step i' j' s t) more.match
          (step_agrees steps can.1.1 covers_steps formed_steps w2 all i i' (scalar_later U K w1 w2 ty i i' more like_i))
          (λ s s' w3 m rest.
          subst (λ z. Agrees U K w3 R (for_from C counter (scalar ty i) (scalar ty j) z w3.src) (behind_step i' j' s' w3.net)) (sym m.1)
          (starts w3 (later_then U K w w2 w3 h all rest) i j m.0 i' j' s'
          (scalar_later U K w1 w3 ty i i' (later_then U K w1 w2 w3 later.match more rest) like_i) (scalar_later U K w2 w3 ty j j' rest like_j) m.2))

      with_start : (w1 : World) → Later U K w w1 → (i : Value6) (i' : net_value.Value) → LikeV U w1 (scalar ty i) i'
          → Agrees U K w1 R (then (source.value_of C limit w1.src) (λ y t. then (step_of C counter steps t) (λ s t. for_from C counter (scalar ty i) y s t)))
          (behind_start i' w1.net)
      with_start w1 later i i' like =
          then_agrees U K w1 (ScalarMatch U ty) R (source.value_of C limit w1.src) (target.value_of S net_oracle (exp_of T limit) w1.net)
          (λ y t. then (step_of C counter steps t) (λ s t. for_from C counter (scalar ty i) y s t)) (λ y t. behind_limit i' y t) later.match
          (value_agrees ty (counter_covered ty counts) limit can.1.0 covers_limit formed_limit w1 later)
          (λ y y' w2 m more.
          subst (λ z. Agrees U K w2 R (then (step_of C counter steps w2.src) (λ s t. for_from C counter (scalar ty i) z s t)) (behind_limit i' y' w2.net)) (sym m.1)
          (with_limit w1 later i i' like w2 more m.0 y' m.2))

      pub head_agrees : Agrees U K w R (source_lines.for_does C (counter ∷ start ∷ limit ∷ steps) w.src)
          (target_lines.for_does S net_oracle g k (exp_of T counter) (exp_of T start) (exp_of T limit) (step_exp T steps) w.net)
      head_agrees =
          let rest : Parts → net_store.Memory → Outcome net_store.Memory NetFrame =
          λ ps t. then (target.value_of S net_oracle (exp_of T start) t) (λ x t. then (target.value_of S net_oracle (exp_of T limit) t) (λ y t.
          then (step_value S net_oracle x (step_exp T steps) t) (λ s t. then (target.finished ps t) (λ d t. then (net_store.written d x t) (λ u t.
          then (answered (counts_on x y s) t) (λ goes t. loops (Some k.aims.after) k.aims.otherwise (keeping (keeps_limit d y s) g.line g) goes t)))))) in
          let does : Outcome Memory SourceFrame = source_lines.for_does C (counter ∷ start ∷ limit ∷ steps) w.src in
          subst (λ r. Agrees U K w R does (then (target.parts_from S net_oracle r) rest)) (sym reached)
          (right_alone U K w R does (rest (at_address found_v.address) w.net)
          (then_agrees U K w (ScalarMatch U ty) R (source.value_of C start w.src) (target.value_of S net_oracle (exp_of T start) w.net)
          (λ x t. then (source.value_of C limit t) (λ y t. then (step_of C counter steps t) (λ s t. for_from C counter x y s t))) behind_start h
          (value_agrees ty (counter_covered ty counts) start can.0 covers_start formed_start w (later_now U K w h))
          (λ x x' w1 m later.
          subst (λ z. Agrees U K w1 R (then (source.value_of C limit w1.src) (λ y t. then (step_of C counter steps t) (λ s t. for_from C counter z y s t)))
          (behind_start x' w1.net)) (sym m.1) (with_start w1 later m.0 x' m.2))))

  by_term : (ty : Ty) (t : Term) → is_counter ty ≡ true → covers_expr uses (typed ty t) ≡ true → is_local_term U.program p t ≡ true
      → (head first last : source_form.Exp) (pace : Option source_form.Exp) (start limit : Expr) (steps : List Expr)
      → AllIn Can (start ∷ limit ∷ steps) → Keeps U K p f g R w (source_form.for_head head first last pace) (typed ty t ∷ start ∷ limit ∷ steps) → covers_value uses ty start ≡ true
      → covers_value uses ty limit ≡ true → covers_step uses ty steps ≡ true → is_formed start ≡ true → is_formed limit ≡ true
      → list_all is_formed steps ≡ true
      → Agrees U K w R (source_lines.for_does C (typed ty t ∷ start ∷ limit ∷ steps) w.src)
      (target_lines.for_does S net_oracle g k (exp_of T (typed ty t)) (exp_of T start) (exp_of T limit) (step_exp T steps) w.net)
  by_term ty (variable v qualified) counts covers local head first last pace start limit steps can keep a d e x y z =
      let found : (q : Address) × (lookup (nat_eq v.0) f.vars ≡ Some q) = (G w (later_now U K w h)).has_locals v.0 local in
      head_agrees ty v qualified counts (both_true (uses.scalar v) (uses.named v qualified) (both_true (covers_type ty) (uses.scalar v && uses.named v qualified) covers).1).0 found.0 found.1 (own_local U p v.0 local) head first last pace
      (start ∷ limit ∷ steps) keep
      start limit steps can a d e x y z
  by_term ty _ counts covers local head first last pace start limit steps can keep a d e x y z = absurd (true≢false (sym local))

  pub for_agrees : (head first last : source_form.Exp) (pace : Option source_form.Exp) (e start limit : Expr) (steps : List Expr)
      → AllIn Can (start ∷ limit ∷ steps) → covers_counting uses (e ∷ start ∷ limit ∷ steps) ≡ true → list_all is_formed (e ∷ start ∷ limit ∷ steps) ≡ true
      → Keeps U K p f g R w (source_form.for_head head first last pace) (e ∷ start ∷ limit ∷ steps) → is_local U.program p e ≡ true
      → Agrees U K w R (source_lines.for_does C (e ∷ start ∷ limit ∷ steps) w.src)
      (target_lines.for_does S net_oracle g k (exp_of T e) (exp_of T start) (exp_of T limit) (step_exp T steps) w.net)
  for_agrees head first last pace (typed ty t) start limit steps can covers formed keep local =
      let e : Expr = typed ty t in
      let a = both_true (covers_counter uses e) (covers_value uses ty start && (covers_value uses ty limit && covers_step uses ty steps)) covers in
      let d = both_true (is_variable e) (is_counter ty && covers_expr uses e) a.0 in
      let q = both_true (is_counter ty) (covers_expr uses e) d.1 in
      let x = both_true (covers_value uses ty start) (covers_value uses ty limit && covers_step uses ty steps) a.1 in
      let y = both_true (covers_value uses ty limit) (covers_step uses ty steps) x.1 in
      let m = both_true (is_formed e) (list_all is_formed (start ∷ limit ∷ steps)) formed in
      let n = both_true (is_formed start) (list_all is_formed (limit ∷ steps)) m.1 in
      let o = both_true (is_formed limit) (list_all is_formed steps) n.1 in
      by_term ty t q.0 q.1 local head first last pace start limit steps can keep x.0 y.0 y.1 n.0 o.0 o.1
