-- The entry of a covered procedure makes a well-typed frame.
use Rattle.std.proofs.Common.{◌≡◌, ◌⊎◌, inl, inr, refl, sym, ap, subst, ◌∙◌, ℕ, Bool, true, false, cond, nat_eq, List, [], ◌∷◌, ◌++◌, ◌+◌, map, Option, Some, eqb-true, true≢false, arith}
use Rattle.std.specs.Prelude.{slice_get}
use Rattle.std.specs.List.{list_any}
use Rattle.std.specs.Map.{lookup}
use Rattle.std.proofs.lemmas.List.{append-nil}
use Rattle.up_base.proofs.Tests.{not_true}
use Rattle.vb_tree.specs.declared.declared.Owner.{Owner}
use Rattle.vb_tree.specs.declared.declared.Owner.TheVariants as owner
use Rattle.vb_tree.specs.declared.declared.VarId.{VarId}
use Rattle.bound_tree.specs.Tree.{Variable, Declarations, Procedure}
use Rattle.reach_table.specs.Chains.{empty}
use Rattle.bound_facts.specs.Effects.{params_at}
use Rattle.bound_facts.specs.SelfMade.{module_of}
use Rattle.run_base.specs.Frames.{first_frame}
use Rattle.run_base.specs.Outcomes.{gives, then, some_of}
use Rattle.run_base.specs.Positions.{shared}
use Rattle.vb6_run.specs.Programs.{Bindings, answer_in, entered_as, entry, is_local_of, is_static_of, lay_statics, made_each, owned_from, parameters}
use Rattle.vb6_run.specs.Runnables.{Runnable, declarations_of, declared_address, is_class_file, object_root, owned_address, root_address, static_root, variable_address}
use Rattle.vb6_run.specs.Shapes.{variable_shape}
use Rattle.vb6_run.specs.Store.{Address, root, Memory, Locked, SourceFrame, SourceGiven, locked_by}
use Rattle.run_matches.specs.CoveredVariables.{belongs_to, is_loud}
use Rattle.run_matches.specs.Covered.{is_answer_of, is_parameter_of}
use Rattle.typing_laws.specs.Calls.{IsReady, RunLoud}
use Rattle.typing_laws.specs.Flat.{is_flat}
use Rattle.typing_laws.specs.Frames.{AreGiven, IsPlace, IsSound, IsTypedFrame, is_static, shared_place}
use Rattle.typing_laws.proofs.Ends.{Ends, keeps_self, keeps_then, sound_later, then_ends}
use Rattle.typing_laws.proofs.Places.{some_is}
use Rattle.typing_laws.proofs.Procedures.{Parts, parts_of, results_of}
use Rattle.typing_laws.proofs.Uses.{own_flat}
use Rattle.typing_laws.proofs.Bindings.{Bound, Stood, bound_later, parameters_end}
use Rattle.typing_laws.proofs.Locals.{AllStand, AreCovered, AreStatic, TooLarge, made_each_ends, statics_end}
use Rattle.typing_laws.proofs.Made.{shape_of_variable}
use Rattle.typing_laws.proofs.Owned.{OwnedAt, any_append, any_left, any_right, owned_at, owned_of, same_numbers}
use Rattle.typing_laws.specs.Frames.{Footprint, Ground, ground}

-- ---- the entry

static_belongs : (p : ℕ) (o : Owner) → is_static_of p o ≡ true → (belongs_to p o ≡ true) × (is_static o ≡ true)
static_belongs p (owner.Static q) h = (h, refl)
static_belongs p (owner.Module q) h = absurd (true≢false (sym h))
static_belongs p (owner.Local q) h = absurd (true≢false (sym h))
static_belongs p (owner.Value q) h = absurd (true≢false (sym h))
static_belongs p (owner.Reference q) h = absurd (true≢false (sym h))
static_belongs p (owner.Answer q) h = absurd (true≢false (sym h))
static_belongs p (owner.Field q) h = absurd (true≢false (sym h))

local_belongs : (p : ℕ) (o : Owner) → is_local_of p o ≡ true → belongs_to p o ≡ true
local_belongs p (owner.Local q) h = h
local_belongs p (owner.Static q) h = absurd (true≢false (sym h))
local_belongs p (owner.Module q) h = absurd (true≢false (sym h))
local_belongs p (owner.Value q) h = absurd (true≢false (sym h))
local_belongs p (owner.Reference q) h = absurd (true≢false (sym h))
local_belongs p (owner.Answer q) h = absurd (true≢false (sym h))
local_belongs p (owner.Field q) h = absurd (true≢false (sym h))

pub answer_belongs : (p : ℕ) (o : Owner) → is_answer_of p o ≡ true → belongs_to p o ≡ true
answer_belongs p (owner.Answer q) h = h
answer_belongs p (owner.Static q) h = absurd (true≢false (sym h))
answer_belongs p (owner.Local q) h = absurd (true≢false (sym h))
answer_belongs p (owner.Module q) h = absurd (true≢false (sym h))
answer_belongs p (owner.Value q) h = absurd (true≢false (sym h))
answer_belongs p (owner.Reference q) h = absurd (true≢false (sym h))
answer_belongs p (owner.Field q) h = absurd (true≢false (sym h))

module _ (R : Runnable) (p : ℕ) (parts : Parts R.program p) (me : Option ℕ) (locked : Locked) (F : Footprint) (E : Type 0) (out : TooLarge (declarations_of R) p E) where
  abbrev Q : Declarations
  Q = declarations_of R

  abbrev K : Ground
  K = ground (declarations_of R) F

  abbrev x : Procedure
  x = parts.head.procedure

  abbrev others : List ℕ
  others = answer_in x.answer ++ owned_from (is_local_of p) 0 Q.vars

  abbrev statics : List ℕ
  statics = owned_from (is_static_of p) 0 Q.vars

  covered_by : (test : Owner → Bool) → ((o : Owner) → test o ≡ true → belongs_to p o ≡ true) → (k : ℕ) → list_any (nat_eq k) (owned_from test 0 Q.vars) ≡ true
      → (y : Variable) × (slice_get Q.vars k ≡ Some y) × (is_flat Q y ≡ true) × (belongs_to p y.owner ≡ true) × (test y.owner ≡ true)
  covered_by test belongs k h =
      let o : OwnedAt test Q k = owned_of test Q k h in
      let own = belongs o.variable.owner o.passes in
      (o.variable, o.is_variable, own_flat R.program p k o.variable parts.variables o.is_variable own, own, o.passes)

  answers_same : answer_in x.answer ≡ owned_from (is_answer_of p) 0 Q.vars
  answers_same = same_numbers (answer_in x.answer) (owned_from (is_answer_of p) 0 Q.vars) (results_of Q p x parts.head.result).answers

  params_same : map (λ (v : VarId). v.0) x.params ≡ owned_from (is_parameter_of p) 0 Q.vars
  params_same = same_numbers (map (λ (v : VarId). v.0) x.params) (owned_from (is_parameter_of p) 0 Q.vars) (results_of Q p x parts.head.result).params

  others_covered : AreCovered Q p others
  others_covered k h = by (any_append k (answer_in x.answer) (owned_from (is_local_of p) 0 Q.vars) h)
    where
      by : (list_any (nat_eq k) (answer_in x.answer) ≡ true) ⊎ (list_any (nat_eq k) (owned_from (is_local_of p) 0 Q.vars) ≡ true)
          → (y : Variable) × (slice_get Q.vars k ≡ Some y) × (is_flat Q y ≡ true) × (belongs_to p y.owner ≡ true)
      by (inl a) =
          let c = covered_by (is_answer_of p) (answer_belongs p) k (subst (λ ks. list_any (nat_eq k) ks ≡ true) answers_same a) in
          (c.0, c.1, c.2, c.3)
      by (inr a) =
          let c = covered_by (is_local_of p) (local_belongs p) k a in
          (c.0, c.1, c.2, c.3)

  statics_are : AreStatic R.program F p E out statics
  statics_are k h =
      let c = covered_by (is_static_of p) (λ o e. (static_belongs p o e).0) k h in
      (c.0, c.1, c.2, (static_belongs p c.0.owner c.4).1, c.3)

  -- the addresses of a frame that was made
  module _ (w : Memory) (bs cs : Bindings) (b : Bound R.program F w (map (λ (v : VarId). v.0) x.params) bs) (c : Bound R.program F w others cs)
      (s : AllStand R.program F p E out w statics) where
    abbrev frame : SourceFrame
    frame = first_frame me locked (bs ++ cs)

    abbrev At : ℕ → Variable → Type 0
    At v y = (a : Address) × (variable_address Q frame v ≡ Some a) × IsPlace R.program F w v y a

    of_lookup : (v : ℕ) (y : Variable) → variable_address Q frame v ≡ lookup (nat_eq v) (bs ++ cs) → Stood R.program F w v y (lookup (nat_eq v) (bs ++ cs)) → At v y
    of_lookup v y is h = (h.0, is ∙ h.1, h.2)

    of_other : (v : ℕ) (y : Variable) → slice_get Q.vars v ≡ Some y → is_flat Q y ≡ true → list_any (nat_eq v) others ≡ true
        → Stood R.program F w v y (lookup (nat_eq v) (bs ++ cs))
    of_other v y is cover any =
        let h : Stood R.program F w v y (lookup (nat_eq v) (cs ++ [])) = c.before v y any is cover [] in
        let i : Stood R.program F w v y (lookup (nat_eq v) cs) = subst (λ (xs : Bindings). Stood R.program F w v y (lookup (nat_eq v) xs)) (append-nil cs) h in
        by i (b.behind v y is cover cs)
      where
        by : Stood R.program F w v y (lookup (nat_eq v) cs) → Stood R.program F w v y (lookup (nat_eq v) (bs ++ cs)) ⊎ (lookup (nat_eq v) (bs ++ cs) ≡ lookup (nat_eq v) cs)
            → Stood R.program F w v y (lookup (nat_eq v) (bs ++ cs))
        by i (inl s) = s
        by i (inr e) = (i.0, e ∙ i.1, i.2)

    of_param : (v : ℕ) (y : Variable) → slice_get Q.vars v ≡ Some y → is_flat Q y ≡ true → is_parameter_of p y.owner ≡ true
        → Stood R.program F w v y (lookup (nat_eq v) (bs ++ cs))
    of_param v y is cover param =
        b.before v y (subst (λ ks. list_any (nat_eq v) ks ≡ true) (sym params_same) (owned_at (is_parameter_of p) Q v y is param)) is cover cs

    own_in : (v : ℕ) (y : Variable) → slice_get Q.vars v ≡ Some y → is_flat Q y ≡ true → (o : Owner) → y.owner ≡ o → belongs_to p o ≡ true → At v y
    own_in v y is cover (owner.Local q) e h =
        of_lookup v y (ap (λ z. declared_address Q frame v z) is ∙ ap (λ z. owned_address Q frame v z) e)
        (of_other v y is cover (any_right v (answer_in x.answer) (owned_from (is_local_of p) 0 Q.vars)
        (owned_at (is_local_of p) Q v y is (ap (is_local_of p) e ∙ h))))
    own_in v y is cover (owner.Answer q) e h =
        of_lookup v y (ap (λ z. declared_address Q frame v z) is ∙ ap (λ z. owned_address Q frame v z) e)
        (of_other v y is cover (any_left v (answer_in x.answer) (owned_from (is_local_of p) 0 Q.vars)
        (subst (λ ks. list_any (nat_eq v) ks ≡ true) (sym answers_same) (owned_at (is_answer_of p) Q v y is (ap (is_answer_of p) e ∙ h)))))
    own_in v y is cover (owner.Value q) e h =
        of_lookup v y (ap (λ z. declared_address Q frame v z) is ∙ ap (λ z. owned_address Q frame v z) e) (of_param v y is cover (ap (is_parameter_of p) e ∙ h))
    own_in v y is cover (owner.Reference q) e h =
        of_lookup v y (ap (λ z. declared_address Q frame v z) is ∙ ap (λ z. owned_address Q frame v z) e) (of_param v y is cover (ap (is_parameter_of p) e ∙ h))
    own_in v y is cover (owner.Static q) e h =
        let file : module_of (slice_get Q.procs q.0) ≡ Some x.module_number =
        ap (λ n. module_of (slice_get Q.procs n)) (sym (eqb-true p q.0 h)) ∙ ap module_of parts.head.is_procedure in (
          root (variable_shape Q v) (shared_place v),
          ap (λ z. declared_address Q frame v z) is ∙ ap (λ z. owned_address Q frame v z) e ∙ ap (λ f. root_address Q v (static_root Q me v f)) file
              ∙ ap (λ t. root_address Q v (cond t (object_root me v) (Some (shared (v ∷ []))))) (not_true (is_class_file Q x.module_number) parts.outer),
          (shape_of_variable Q v y is cover, s v y (owned_at (is_static_of p) Q v y is (ap (is_static_of p) e ∙ h)) is cover),
        )
    own_in v y is cover (owner.Module q) e h = absurd (true≢false (sym h))
    own_in v y is cover (owner.Field q) e h = absurd (true≢false (sym h))

    made_frame : IsTypedFrame F R p w frame
    made_frame = record {
      own = λ v y is h cover. own_in v y is cover y.owner refl h;
      kept = λ h m at. record { limit = λ e is. tt; choice = λ e is. tt };
      error = λ e. absurd (true≢false (sym e));
    }

-- the loud parameters, by their places
loud_at : (R : Runnable) (p : ℕ) (x : Procedure) → slice_get R.program.declarations.procs p ≡ Some x → RunLoud R p → (j : ℕ) (v : VarId) → slice_get x.params j ≡ Some v
    → is_loud R.program v.0 (slice_get R.program.declarations.vars v.0) ≡ true → R.quiet p (0 + j) ≡ false
loud_at R p x is loud j v at l =
    ap (λ n. R.quiet p n) (let e : 0 + j ≡ j = omega arith in e) ∙ loud j v (ap (λ o. slice_get (params_at o) j) is ∙ at) l

-- The entry of a procedure that can be run. What lies outside: an array past the limits.
pub entered_ends : (R : Runnable) (p : ℕ) (me : Option ℕ) (locked : Locked) (gs : List SourceGiven) (w : Memory) (F : Footprint) (E : Type 0) (ready : IsReady R p) (x : Procedure)
    → slice_get (declarations_of R).procs p ≡ Some x → IsSound (ground (declarations_of R) F) w → AreGiven (ground (declarations_of R) F) w x.params gs
    → TooLarge (declarations_of R) p E → Ends (ground (declarations_of R) F) (λ u f. IsTypedFrame F R p u f) E w (entered_as R p me locked gs w)
entered_ends R p me locked gs w F E ready x is sound given out =
    let D : Declarations = declarations_of R in
    let K : Ground = ground D F in
    let parts : Parts R.program p = parts_of R p ready in
    let y : Procedure = parts.head.procedure in
    let same : x ≡ y = some_is (sym is ∙ parts.head.is_procedure) in
    let all : Locked = locked_by gs ++ locked in
    let ks : List ℕ = map (λ (v : VarId). v.0) y.params in
    let os : List ℕ = answer_in y.answer ++ owned_from (is_local_of p) 0 D.vars in
    let ss : List ℕ = owned_from (is_static_of p) 0 D.vars in
    let Good = λ (u : Memory) (f : SourceFrame). IsTypedFrame F R p u f in
    let J = λ (bs : Bindings) (u : Memory). then (made_each D os u) (λ cs m.
    then (lay_statics D me (Some y.module_number) ss m) (λ z n. gives [] (first_frame me all (bs ++ cs)) n)) in
    subst (λ o. Ends K Good E w (some_of o (λ x w. entry R p me locked gs x w) w)) (sym parts.head.is_procedure)
    (then_ends K (λ u bs. Bound R.program F u ks bs) Good E w (parameters R p 0 y.params gs w) J
    (parameters_end R p parts.variables F E 0 y.params gs w sound parts.params (loud_at R p y parts.head.is_procedure (ready.loud p (empty p)))
    (subst (λ (z : Procedure). AreGiven K w z.params gs) same given))
    (λ o bs u one k b.
    then_ends K (λ m cs. Bound R.program F m os cs) Good E u (made_each D os u)
    (λ cs m. then (lay_statics D me (Some y.module_number) ss m) (λ z n. gives [] (first_frame me all (bs ++ cs)) n))
    (made_each_ends R.program F p E out os u (sound_later K w u k sound) (others_covered R p parts me all F E out))
    (λ o2 cs m two l c.
    then_ends K (λ n z. AllStand R.program F p E out n ss) Good E m (lay_statics D me (Some y.module_number) ss m) (λ z n. gives [] (first_frame me all (bs ++ cs)) n)
    (statics_end R.program F p E out me y.module_number parts.outer ss m (sound_later K w m (keeps_then K w u m k l) sound) (statics_are R p parts me all F E out))
    (λ o3 z n three r s. (
      keeps_self K n,
      made_frame R p parts me all F E out n bs cs (bound_later R.program F u n ks bs (keeps_then K u m n l r) b) (bound_later R.program F m n os cs r c) s,
    )))))
