-- An assignment to a variable, a field, an element, a variable of an object or a property, or of a user type, does the same as what is written
-- for it.
use Rattle.std.proofs.Common.{◌≡◌, ◌∙◌, refl, sym, ap, subst, ⊎_elim, ℕ, Bool, true, false, ◌&&◌, ◌||◌, List, [], ◌∷◌, ◌++◌, codes, true≢false}
use Rattle.std.proofs.Math.Bool.{or-false}
use Rattle.vb_tree.specs.BoundTree as types
use Rattle.vb_tree.specs.BoundTree.{Ty}
use Rattle.bound_tree.specs.Tree.{Expr, typed, Term, variable, field, element, with_object}
use Rattle.bound_facts.proofs.Chains.{both_true}
use Rattle.bound_facts.specs.Locks.{is_same_type}
use Rattle.bound_facts.specs.Node.{type_at}
use Rattle.net_tree.specs.Tree as net
use Rattle.run_base.specs.Outcomes.{gives, then}
use Rattle.written_trees.specs.Conversions.{support_call, two}
use Rattle.written_trees.specs.Exprs.{exp_of}
use Rattle.written_trees.specs.Names.{Scope}
use Rattle.written_trees.specs.Puts.{order_shows, put_line, store_line}
use Rattle.vb6_run.specs.Expressions as source
use Rattle.vb6_run.specs.Forms.{SourceLine}
use Rattle.vb6_run.specs.Lines.{let_to}
use Rattle.vb6_run.specs.Store.{SourceCalls, SourceFrame}
use Rattle.net_run.specs.Expressions as target
use Rattle.net_run.specs.Lines.{NetFrame, NetLine, scope_of}
use Rattle.net_run.specs.Making.{Jobs}
use Rattle.net_run.specs.Members.{Code}
use Rattle.net_run.specs.Names as net_names
use Rattle.run_matches.specs.Agreeing.{Agrees}
use Rattle.run_matches.specs.CoveredVariables.{covers_type}
use Rattle.run_matches.specs.CoveredExprs.{Uses, covers_array, covers_expr, covers_base, covers_exprs, covers_object, has_member, has_scalar, is_changeable_in, keeps_order}
use Rattle.run_matches.specs.CoveredLines.{covers_copy, covers_property, covers_store, covers_stored, is_member_ordered_in, is_ordered_in}
use Rattle.run_matches.specs.Formed.{is_formed}
use Rattle.run_matches.specs.Frames.{OwnsAll}
use Rattle.run_matches.specs.Maps.{World}
use Rattle.run_matches.specs.Match.{MemoryMatch}
use Rattle.run_matches.specs.Pledges.{Pledge}
use Rattle.run_matches.specs.Runs.{CallsAgree}
use Rattle.run_matches.specs.Upgrades.{Upgrade}
use Rattle.run_statements.specs.Elements.{IndexesAgree}
use Rattle.run_statements.specs.Frames.{AllCalled, AnyUnits, AreReadable, ArePlaced, ElementsAgree, ExpressionsAgree, IsOpen, ScalarsAreWritten, context_of, demands}
use Rattle.run_statements.specs.Groups.{GroupsAgree, GroupsAreWritten}
use Rattle.run_statements.specs.Members.{MembersAgree, MembersAreFound}
use Rattle.run_statements.specs.Memory.{ElementsAreWritten}
use Rattle.run_statements.specs.Properties.{PropertiesAreSet, SettersAgree}
use Rattle.run_statements.specs.Written.{Passes}
use Rattle.agreeing_laws.proofs.Lasting.{later_now}
use Rattle.line_laws.specs.Lasting.{GoOnMatching}
use Rattle.line_laws.proofs.Copies.{copy_stored}
use Rattle.line_laws.proofs.ElementLines.{element_stored}
use Rattle.line_laws.proofs.ElementStores.{either_true}
use Rattle.line_laws.proofs.FieldStores.{field_stored, order_is_hidden}
use Rattle.line_laws.proofs.MemberLines.{member_stored}
use Rattle.line_laws.proofs.MemberOrders.{member_order_hidden}
use Rattle.line_laws.proofs.OwnTargets.{IsOwnTarget}
use Rattle.line_laws.proofs.PropertyLines.{property_assigned}
use Rattle.line_laws.proofs.Stores.{assignment_agrees, line_is, same_type}
use Rattle.line_laws.proofs.Targets.{SameStore}
use Rattle.line_laws.proofs.Uses.{good}

module _ (U : Upgrade) (expressions : ExpressionsAgree U) (scalars : ScalarsAreWritten U) (elements : ElementsAgree U) (indexed : IndexesAgree U)
    (writes : ElementsAreWritten U) (groups : GroupsAgree U) (writes_groups : GroupsAreWritten U) (members : MembersAgree U) (finds : MembersAreFound U)
    (setters : SettersAgree U) (sets : PropertiesAreSet U)
    (K : Pledge) (p : ℕ) (f : SourceFrame) (g : NetFrame) (l : SourceLine) (k : NetLine) (c : Code) (T : Scope) (declared : T.declarations ≡ U.program.declarations)
    (oracle : SourceCalls) (net_oracle : Jobs) (is_open : IsOpen (scope_of U.written c g k)) (uses : Uses) (readable : AreReadable U T uses)
    (placed : ArePlaced U p f (scope_of U.written c g k) T uses) (agree : CallsAgree U (Passes U) oracle net_oracle) (w : World) (h : MemoryMatch U w)
    (G : GoOnMatching U K p f g w) (owns : OwnsAll U K p f) where
  abbrev C : source.Context
  C = context_of U oracle p f l

  abbrev S : net_names.Scope
  S = scope_of U.written c g k

  abbrev Can : Expr → Type 0
  Can e = AllCalled (demands U K p l k S T) e

  -- a Put function does the same
  abbrev SamePut : (name : List ℕ) → (to value : Expr) → Type 0
  SamePut name to e =
      Agrees U K w AnyUnits (then (source.value_of C e w.src) (let_to C to))
      (then (target.address_of S net_oracle (support_call (codes "Put" ++ name) (two (exp_of T e) (exp_of T to))) w.net) (λ a t. gives [] tt t))

  -- what holds of a line that assigns or calls a Put function holds of what is written
  module _ (P : net.Line → Type 0) where
    abbrev Stored : Expr → Expr → Type 0
    Stored to e =
        (SameStore U K w C S T net_oracle to e → P (net.assign (exp_of T to) (exp_of T e)))
        → ((name : List ℕ) → SamePut name to e → P (put_line name (exp_of T to) (exp_of T e))) → P (store_line T to e)

    abbrev Places : Ty → Term → Expr → Bool
    Places ty t e = is_changeable_in uses t || (is_ordered_in uses ty t e || is_member_ordered_in uses t e)

    -- a scalar to a variable of an object, or a field of a user type
    part_stored : (ty of : Ty) (t : Term) (j : ℕ) (e : Expr) → Can (typed of t) → Can e → Places ty (field (typed of t) j) e ≡ true
        → covers_expr uses (typed ty (field (typed of t) j)) ≡ true → covers_expr uses e ≡ true → is_formed e ≡ true
        → IsOwnTarget U K p f (typed ty (field (typed of t) j)) → Stored (typed ty (field (typed of t) j)) e
    part_stored ty (types.user s) t j e can_to can is to_covers covers formed own assigns puts =
        let d : Expr = typed (types.user s) t in
        let scalar : Bool = has_scalar uses (types.user s) j && covers_base uses d in
        let parts : (covers_type ty ≡ true) × ((scalar || false) ≡ true) = both_true (covers_type ty) (scalar || false) to_covers in
        let part : scalar ≡ true = sym (or-false scalar) ∙ parts.1 in
        subst (λ x. P x) (sym (line_is T (typed ty (field d j)) e (order_is_hidden T.declarations uses ty d j e part) parts.0))
        (assigns
        (field_stored U expressions scalars K p f g l k c T declared oracle net_oracle is_open uses readable placed agree w h (G w (later_now U K w h)) e can
        (good uses e covers formed) owns ty d j can_to part own))
    part_stored ty (types.class s) t j e can_to can is to_covers covers formed own assigns puts =
        let d : Expr = typed (types.class s) t in
        let member : Bool = has_member uses (types.class s) j covers_type && covers_object uses d in
        let parts : (covers_type ty ≡ true) × (member ≡ true) = both_true (covers_type ty) member to_covers in
        let object = (both_true (has_member uses (types.class s) j covers_type) (covers_object uses d) parts.1).1 in
        subst (λ x. P x)
        (sym (line_is T (typed ty (field d j)) e
        (ap (λ D. order_shows D (typed ty (field d j)) e) declared ∙ member_order_hidden U T uses readable ty s j t e is object) parts.0))
        (assigns
        (member_stored U expressions scalars members finds K p f g l k c T declared oracle net_oracle is_open uses readable placed agree w h G owns e can
        (good uses e covers formed) ty s j t can_to own is parts.1))
    part_stored ty _ t j e can_to can is to_covers covers formed own assigns puts = absurd (true≢false (sym is))

    -- a scalar
    value_stored : (ty : Ty) (t : Term) (e : Expr) → Can (typed ty t) → Can e → Places ty t e ≡ true
        → covers_expr uses (typed ty t) ≡ true → is_formed (typed ty t) ≡ true → covers_expr uses e ≡ true → is_formed e ≡ true → IsOwnTarget U K p f (typed ty t)
        → Stored (typed ty t) e
    value_stored ty (variable v qualified) e can_to can is to_covers to_formed covers formed own assigns puts =
        let parts = both_true (covers_type ty) (uses.scalar v && uses.named v qualified) to_covers in
        let used = both_true (uses.scalar v) (uses.named v qualified) parts.1 in
        subst (λ x. P x) (sym (line_is T (typed ty (variable v qualified)) e refl parts.0))
        (assigns
        (assignment_agrees U expressions scalars K p f g l k c T declared oracle net_oracle is_open uses readable placed agree w h (G w (later_now U K w h)) e can
        (good uses e covers formed) owns ty v qualified used.0 used.1 (readable.exact v (sym (or-false (uses.exact v)) ∙ is))
        own))
    value_stored ty (field (typed of t) j) e can_to can is to_covers to_formed covers formed own assigns puts =
        part_stored ty of t j e can_to can is to_covers covers formed own assigns puts
    value_stored ty (element a indexes) e can_to can is to_covers to_formed covers formed own assigns puts =
        let both = both_true (is_same_type ty (type_at e)) (keeps_order uses indexes e) (sym (or-false (is_same_type ty (type_at e) && keeps_order uses indexes e)) ∙ is) in
        let of_type = (both_true (covers_type ty) (covers_array uses a && covers_exprs uses indexes) to_covers).0 in
        element_stored U expressions elements indexed writes K p f g l k c T declared oracle net_oracle is_open uses readable placed agree w h G owns ty a indexes e
        can_to can to_covers to_formed covers formed own (same_type ty (type_at e) of_type both.0) P assigns puts both.1
    value_stored ty (with_object r) e can_to can is to_covers to_formed covers formed own assigns puts =
        absurd (true≢false (sym (both_true (covers_type ty) false to_covers).1))
    value_stored ty _ e can_to can is to_covers to_formed covers formed own assigns puts = absurd (true≢false (sym is))

    place_stored : (to e : Expr) → Can to → Can e → covers_stored uses to e ≡ true → is_formed to ≡ true → is_formed e ≡ true
        → IsOwnTarget U K p f to → Stored to e
    place_stored (typed ty t) e can_to can covers to_formed formed own assigns puts =
        let places : Bool = Places ty t e in
        let values : Bool = covers_expr uses (typed ty t) && covers_expr uses e in
        ⊎_elim
        (λ x.
        let first = both_true places values x in
        let second : (covers_expr uses (typed ty t) ≡ true) × (covers_expr uses e ≡ true) = both_true (covers_expr uses (typed ty t)) (covers_expr uses e) first.1 in
        value_stored ty t e can_to can first.0 second.0 to_formed second.1 formed own assigns puts)
        (λ x.
        copy_stored U groups writes_groups K p f g l k c T declared oracle net_oracle is_open uses readable placed agree w h (G w (later_now U K w h)) owns P
        (typed ty t) e can_to can x formed own assigns)
        (either_true (places && values) (covers_copy uses (typed ty t) e) covers)

    pub stored : (to e : Expr) → Can to → Can e → covers_store uses (to ∷ e ∷ []) ≡ true → is_formed to ≡ true → is_formed e ≡ true
        → IsOwnTarget U K p f to → Stored to e
    stored to e can_to can covers to_formed formed own assigns puts =
        ⊎_elim (λ x. place_stored to e can_to can x to_formed formed own assigns puts)
        (λ x.
        property_assigned U expressions groups setters sets K p f g l k c T declared oracle net_oracle is_open uses readable placed agree w h G owns P to e can_to can
        x to_formed formed assigns)
        (either_true (covers_stored uses to e) (covers_property uses to e) covers)
