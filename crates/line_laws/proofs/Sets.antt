-- A Set of a variable, of a variable of an object, or of a property does the same as what is written for it.
use Rattle.std.proofs.Common.{◌≡◌, ◌∙◌, refl, sym, ap, subst, ℕ, Bool, true, ◌&&◌, ◌||◌, Option, Some, None, [], ◌∷◌, ⊎_elim, true≢false, inr}
use Rattle.std.proofs.lemmas.Bool.{or_cases}
use Rattle.vb_tree.specs.BoundTree as types
use Rattle.vb_tree.specs.BoundTree.{Ty}
use Rattle.vb_tree.specs.declared.declared.VarId.{VarId}
use Rattle.bound_tree.specs.Tree.{Expr, typed, Term, call, variable, field}
use Rattle.bound_facts.proofs.Chains.{both_true}
use Rattle.bound_facts.specs.Locks.{is_same_type}
use Rattle.bound_facts.specs.Node.{type_at}
use Rattle.run_base.specs.Outcomes.{gives, then, some_of}
use Rattle.written_trees.specs.Exprs.{exp_of, target_exp}
use Rattle.written_trees.specs.Names.{Scope}
use Rattle.vb6_run.specs.Expressions as source
use Rattle.vb6_run.specs.Expressions.{at_address, finished}
use Rattle.vb6_run.specs.Forms.{SourceLine}
use Rattle.vb6_run.specs.Lines.{let_to, set_to, store_at}
use Rattle.vb6_run.specs.Runnables.{variable_address}
use Rattle.vb6_run.specs.Store.{Address, Memory, SourceCalls, SourceFrame}
use Rattle.vb6_run.specs.Values.{Value}
use Rattle.net_run.specs.Lines.{NetFrame, NetLine, assignment, scope_of}
use Rattle.net_run.specs.Making.{Jobs}
use Rattle.net_run.specs.Members.{Code}
use Rattle.net_run.specs.Names as net_names
use Rattle.run_matches.specs.Agreeing.{Agrees}
use Rattle.run_matches.specs.CoveredExprs.{Uses, covers_group, covers_place, is_changeable, covers_object}
use Rattle.run_matches.specs.CoveredLines.{covers_property, covers_property_term, covers_set, covers_set_member, covers_set_variable, is_auto_target, is_member_ordered}
use Rattle.run_matches.specs.Formed.{is_formed}
use Rattle.run_matches.specs.Frames.{OwnsAll}
use Rattle.run_matches.specs.Maps.{World}
use Rattle.run_matches.specs.Match.{MemoryMatch}
use Rattle.run_matches.specs.Pledges.{Pledge}
use Rattle.run_matches.specs.Runs.{CallsAgree}
use Rattle.run_matches.specs.Upgrades.{Upgrade}
use Rattle.run_matches.specs.UserTypes.{is_class_type}
use Rattle.run_statements.specs.Frames.{AllCalled, AnyUnits, AreReadable, ArePlaced, ExpressionsAgree, IsGroup, IsKnown, IsOpen, context_of, demands}
use Rattle.run_statements.specs.Groups.{GroupsAgree, GroupsAreWritten}
use Rattle.run_statements.specs.Members.{MembersAgree, MembersAreFound}
use Rattle.run_statements.specs.Properties.{PropertiesAreSet, SettersAgree}
use Rattle.run_statements.specs.Written.{Passes}
use Rattle.agreeing_laws.proofs.Lasting.{later_now}
use Rattle.agreeing_laws.proofs.WithPlaces.{class_is}
use Rattle.line_laws.specs.Lasting.{GoOnMatching}
use Rattle.line_laws.proofs.Copies.{whole_stored}
use Rattle.line_laws.proofs.Elements.{known_found}
use Rattle.line_laws.proofs.MemberSets.{member_set_agrees}
use Rattle.line_laws.proofs.OwnTargets.{IsOwnTarget}
use Rattle.line_laws.proofs.PropertyLines.{property_stored}
use Rattle.line_laws.proofs.Settled.{known_path}
use Rattle.run_statements.specs.Autos.{AutosAreSet}
use Rattle.line_laws.proofs.AutoSets.{auto_set_agrees}
use Rattle.line_laws.proofs.Called.{TargetCalled}
use Rattle.agreeing_laws.proofs.PlainUses.{plain_makes}

-- where no object is made, the target of a Set is found as that of an assignment
found_alone : (o : Option Address) (s : Memory) → then (some_of o (λ a w. gives [] (at_address a) w) s) finished ≡ some_of o (λ a w. gives [] a w) s
found_alone None s = refl
found_alone (Some a) s = refl

module _ (U : Upgrade) (expressions : ExpressionsAgree U) (groups : GroupsAgree U) (writes : GroupsAreWritten U) (members : MembersAgree U)
    (finds : MembersAreFound U) (setters : SettersAgree U) (sets : PropertiesAreSet U) (autos : AutosAreSet U) (K : Pledge) (p : ℕ) (f : SourceFrame)
    (g : NetFrame) (l : SourceLine)
    (k : NetLine) (c : Code) (T : Scope) (declared : T.declarations ≡ U.program.declarations) (oracle : SourceCalls) (net_oracle : Jobs) (is_open : IsOpen (scope_of U.written c g k)) (uses : Uses) (readable : AreReadable U T uses)
    (placed : ArePlaced U p f (scope_of U.written c g k) T uses) (agree : CallsAgree U (Passes U) oracle net_oracle) (w : World)
    (h : MemoryMatch U w) (G : GoOnMatching U K p f g w) (owns : OwnsAll U K p f) where
  abbrev C : source.Context
  C = context_of U oracle p f l

  abbrev S : net_names.Scope
  S = scope_of U.written c g k

  abbrev Can : Expr → Type 0
  Can e = AllCalled (demands U K p l k S T) e

  abbrev SameSet : (to value : Expr) → Type 0
  SameSet to e =
      Agrees U K w AnyUnits (then (source.value_of C e w.src) (set_to C to)) (assignment S net_oracle (target_exp T to) (exp_of T e) w.net)

  let_is_set : (ty : Ty) (v : VarId) (qualified : Bool) → IsKnown U v.0 → (x : Value) (s : Memory)
      → let_to C (typed ty (variable v qualified)) x s ≡ set_to C (typed ty (variable v qualified)) x s
  let_is_set ty v qualified known x s =
      ap (λ r. then r (store_at C (typed ty (variable v qualified)) x))
      (known_found U C refl ty v qualified known s ∙ sym (found_alone (variable_address U.program.declarations f v.0) s))

  -- an object to a variable
  object_set : (t : ℕ) (to from : Term) → Can (typed (types.class t) from) → covers_place uses (typed (types.class t) to) ≡ true
      → covers_group uses (typed (types.class t) from) ≡ true → is_formed (typed (types.class t) from) ≡ true → IsOwnTarget U K p f (typed (types.class t) to)
      → SameSet (typed (types.class t) to) (typed (types.class t) from)
  object_set t (variable v qualified) from can covers_to covers formed own =
      let to : Expr = typed (types.class t) (variable v qualified) in
      let e : Expr = typed (types.class t) from in
      let used = (both_true (uses.group v (types.class t)) (uses.named v qualified) covers_to).0 in
      let r : IsGroup U v.0 (types.class t) = readable.groups v (types.class t) used in
      subst (λ a. Agrees U K w AnyUnits (then (source.value_of C e w.src) (set_to C to)) (assignment S net_oracle a (exp_of T e) w.net))
      (known_path U T declared (types.class t) v qualified r.known)
      (subst (λ go. Agrees U K w AnyUnits (then (source.value_of C e w.src) go) (assignment S net_oracle (exp_of T to) (exp_of T e) w.net))
      (λ i x s. let_is_set (types.class t) v qualified r.known x s i)
      (whole_stored U groups writes K p f g l k c T declared oracle net_oracle is_open uses readable placed agree w h (G w (later_now U K w h)) owns (types.class t)
      (variable v qualified) covers_to (plain_makes U K S T uses readable v (inr (inr (types.class t, used)))) from can covers formed own))
  object_set t (field d j) from can covers_to covers formed own = absurd (true≢false (sym covers_to))
  object_set t _ from can covers_to covers formed own = absurd (true≢false (sym covers_to))

  variable_set : (t : ℕ) (to : Term) (e : Expr) → Can e → covers_set_variable uses (typed (types.class t) to) e ≡ true → is_formed e ≡ true
      → IsOwnTarget U K p f (typed (types.class t) to) → SameSet (typed (types.class t) to) e
  variable_set t to (typed of from) can covers formed own =
      let d : Expr = typed (types.class t) to in
      let e : Expr = typed of from in
      let same : Bool = is_same_type (types.class t) of in
      let stands : Bool = covers_place uses d && covers_group uses e in
      let as_class : ((z : Ty) → Type 0) =
      λ z. Can (typed z from) → covers_group uses (typed z from) ≡ true → is_formed (typed z from) ≡ true → SameSet d (typed z from) in
      ⊎_elim
      (λ x.
      let second = both_true same stands (both_true (is_changeable uses d) (same && stands) x).1 in
      let third = both_true (covers_place uses d) (covers_group uses e) second.1 in
      subst as_class (sym (class_is t of second.0)) (λ can_from covers_from is. object_set t to from can_from third.0 covers_from is own) can third.1 formed)
      (λ x.
      let first = both_true (is_auto_target uses d) (same && covers_group uses e) x in
      let second = both_true same (covers_group uses e) first.1 in
      subst as_class (sym (class_is t of second.0))
      (λ can_from covers_from is.
      auto_set_agrees U groups autos K p f g l k c T declared oracle net_oracle is_open uses readable placed agree w h (G w (later_now U K w h)) t to from
      first.0
      can_from covers_from is)
      can second.1 formed)
      (or_cases (is_changeable uses d && (same && stands)) (is_auto_target uses d && (same && covers_group uses e)) covers)

  abbrev CanSet : Expr → Type 0
  CanSet e = TargetCalled (demands U K p l k S T) e

  -- what stands in an object, or is called, is demanded whole
  member_can : (ty : Ty) (to : Term) (e : Expr) → is_member_ordered uses (typed ty to) e ≡ true → CanSet (typed ty to) → Can (typed ty to)
  member_can ty (field d i) e ordered can = can
  member_can ty _ e ordered can = absurd (true≢false (sym ordered))

  place_set : (ty : Ty) (to : Term) (e : Expr) → CanSet (typed ty to) → Can e
      → (is_class_type ty && (covers_set_variable uses (typed ty to) e || covers_set_member uses (typed ty to) e)) ≡ true → is_formed e ≡ true
      → IsOwnTarget U K p f (typed ty to) → SameSet (typed ty to) e
  place_set (types.class t) to e can_to can covers formed own =
      let d : Expr = typed (types.class t) to in
      ⊎_elim (λ x. variable_set t to e can x formed own)
      (λ x.
      let rest : Bool = is_same_type (types.class t) (type_at e) && (covers_object uses d && covers_group uses e) in
      let can_member = member_can (types.class t) to e (both_true (is_member_ordered uses d e) rest x).0 can_to in
      member_set_agrees U groups writes members finds K p f g l k c T declared oracle net_oracle is_open uses readable placed agree w h G owns t to e
      can_member can x formed own)
      (or_cases (covers_set_variable uses d e) (covers_set_member uses d e) covers)
  place_set _ to e can_to can covers formed own = absurd (true≢false (sym covers))

  property_set : (ty : Ty) (to : Term) (e : Expr) → CanSet (typed ty to) → Can e → covers_property_term uses to e ≡ true → is_formed (typed ty to) ≡ true
      → is_formed e ≡ true → SameSet (typed ty to) e
  property_set ty (call q qualified of args) e can_to can covers formed_to formed =
      property_stored U expressions groups setters sets K p f g l k c T declared oracle net_oracle is_open uses readable placed agree w h G owns ty
      (call q qualified of args) e can_to can covers formed_to formed
  property_set ty _ e can_to can covers formed_to formed = absurd (true≢false (sym covers))

  pub set_agrees : (to e : Expr) → CanSet to → Can e → covers_set uses (to ∷ e ∷ []) ≡ true → is_formed to ≡ true → is_formed e ≡ true
      → IsOwnTarget U K p f to → SameSet to e
  set_agrees (typed ty to) e can_to can covers formed_to formed own =
      let d : Expr = typed ty to in
      ⊎_elim (λ x. place_set ty to e can_to can x formed own)
      (λ x. property_set ty to e can_to can (both_true (is_same_type ty (type_at e)) (covers_property_term uses to e) x).1 formed_to formed)
      (or_cases (is_class_type ty && (covers_set_variable uses d e || covers_set_member uses d e)) (covers_property uses d e) covers)
