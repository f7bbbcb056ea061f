-- A user type or an object as a whole is stored on both sides; an assignment of a user type does the same as what is written for it.
use Rattle.std.proofs.Common.{◌≡◌, ◌∙◌, refl, sym, ap, subst, inl, inr, ℕ, Bool, true, false, ◌&&◌, true≢false}
use Rattle.vb_tree.specs.BoundTree as types
use Rattle.vb_tree.specs.BoundTree.{Ty}
use Rattle.bound_tree.specs.Tree.{Expr, typed, Term, variable, field}
use Rattle.bound_facts.proofs.Chains.{both_true}
use Rattle.bound_facts.specs.Locks.{is_same_type}
use Rattle.net_tree.specs.Tree as net
use Rattle.run_base.specs.Outcomes.{then}
use Rattle.written_trees.specs.Exprs.{exp_of}
use Rattle.written_trees.specs.Facts.{Facts}
use Rattle.written_trees.specs.Names.{Scope}
use Rattle.written_trees.specs.Puts.{store_line, user_copy}
use Rattle.vb6_run.specs.Expressions as source
use Rattle.vb6_run.specs.Forms.{SourceLine}
use Rattle.vb6_run.specs.Lines.{keeps_lows, let_to, store_at}
use Rattle.vb6_run.specs.Shapes.{Shape, simple, group, array, endless}
use Rattle.vb6_run.specs.Store as source_store
use Rattle.vb6_run.specs.Store.{Memory, SourceCalls, SourceFrame}
use Rattle.vb6_run.specs.Values.{Value, scalar, fields, elements}
use Rattle.net_run.specs.Expressions as target
use Rattle.net_run.specs.Lines.{NetFrame, NetLine, scope_of}
use Rattle.net_run.specs.Making.{Jobs}
use Rattle.net_run.specs.Members.{Code}
use Rattle.net_run.specs.Names as net_names
use Rattle.net_run.specs.Store as net_store
use Rattle.run_matches.specs.Agreeing.{Agrees}
use Rattle.run_matches.specs.CoveredVariables.{covers_user}
use Rattle.run_matches.specs.CoveredExprs.{Uses, covers_group, covers_place, is_changeable}
use Rattle.run_matches.specs.CoveredLines.{covers_copy}
use Rattle.run_matches.specs.Frames.{FrameMatch, OwnsAll}
use Rattle.run_matches.specs.Kinds.{IsValueOf}
use Rattle.run_matches.specs.Maps.{World}
use Rattle.run_matches.specs.Match.{MemoryMatch}
use Rattle.run_matches.specs.Pledges.{Pledge}
use Rattle.run_matches.specs.Upgrades.{Upgrade}
use Rattle.run_matches.specs.UserTypes.{is_user}
use Rattle.run_statements.specs.Frames.{AllCalled, AreReadable, ArePlaced, IsOpen, context_of, demands, type_shape}
use Rattle.run_statements.specs.Written.{Passes}
use Rattle.run_matches.specs.Runs.{CallsAgree}
use Rattle.run_matches.specs.Formed.{is_formed}
use Rattle.run_statements.specs.Groups.{GroupsAgree, GroupsAreWritten, ValueMatch}
use Rattle.agreeing_laws.proofs.WithPlaces.{same_user}
use Rattle.line_laws.proofs.OwnTargets.{IsOwnTarget}
use Rattle.line_laws.proofs.Places.{Located, place_alone, place_is, place_target, user_type}
use Rattle.line_laws.proofs.Targets.{SameStore, Target, absent_stored, target_stored}

-- ---- values

-- such a value is no array
keeps_whole : (C : source.Context) (to : Expr) (s : Shape) (x : Value) → IsValueOf s x → keeps_lows C to x ≡ true
keeps_whole C to s (scalar ty z) of = refl
keeps_whole C to s (fields t xs) of = refl
keeps_whole C to (simple ty) (elements e dims xs) of = absurd of
keeps_whole C to (group t fs) (elements e dims xs) of = absurd of
keeps_whole C to (array d bounds) (elements e dims xs) of = absurd of
keeps_whole C to endless (elements e dims xs) of = absurd of

-- ---- what is written

-- no copy is made, since no array is shared
pub copy_is : (U : Upgrade) (T : Scope) → T.facts ≡ U.facts → (t : ℕ) → U.facts.holds_array t ≡ false → (tm : Term) (e : Expr)
    → store_line T (typed (types.user t) tm) e ≡ net.assign (exp_of T (typed (types.user t) tm)) (exp_of T e)
copy_is U T facts t holds tm e =
    ap (λ (F : Facts). net.assign (exp_of T (typed (types.user t) tm)) (user_copy (F.holds_array t) t (exp_of T e))) facts
    ∙ ap (λ b. net.assign (exp_of T (typed (types.user t) tm)) (user_copy b t (exp_of T e))) holds

-- ---- the assignment

module _ (U : Upgrade) (groups : GroupsAgree U) (writes : GroupsAreWritten U) (K : Pledge) (p : ℕ) (f : SourceFrame)
    (g : NetFrame) (l : SourceLine) (k : NetLine) (c : Code) (T : Scope) (declared : T.declarations ≡ U.program.declarations) (oracle : SourceCalls)
    (net_oracle : Jobs) (is_open : IsOpen (scope_of U.written c g k)) (uses : Uses) (readable : AreReadable U T uses)
    (placed : ArePlaced U p f (scope_of U.written c g k) T uses) (agree : CallsAgree U (Passes U) oracle net_oracle) (w : World)
    (h : MemoryMatch U w) (F : FrameMatch U K w p f g) (owns : OwnsAll U K p f) where
  abbrev C : source.Context
  C = context_of U oracle p f l

  abbrev S : net_names.Scope
  S = scope_of U.written c g k

  abbrev Can : Expr → Type 0
  Can e = AllCalled (demands U K p l k S T) e

  abbrev PlaceAt : Ty → Term → Type 0
  PlaceAt ty tm = Located U K p w C S T net_oracle ty (typed ty tm)

  lets : (ty : Ty) (tm : Term) → covers_place uses (typed ty tm) ≡ true → (x : Value) (s : Memory)
      → let_to C (typed ty tm) x s ≡ then (source.address_of C (typed ty tm) s) (store_at C (typed ty tm) x)
  lets ty (variable v qualified) covers x s = refl
  lets ty (field d j) covers x s = refl
  lets ty _ covers x s = absurd (true≢false (sym covers))

  module _ (ty : Ty) (to : Term) (covers_to : covers_place uses (typed ty to) ≡ true) where
    abbrev d : Expr
    d = typed ty to

    -- to a place, or to none
    stored_at : PlaceAt ty to → IsOwnTarget U K p f d → (e : Expr)
        → Agrees U K w (ValueMatch U (type_shape U ty)) (source.value_of C e w.src) (target.value_of S net_oracle (exp_of T e) w.net)
        → SameStore U K w C S T net_oracle d e
    stored_at (inl x) own e values =
        let at : Target U K w C S T net_oracle d (source_store.root (type_shape U ty) x.place.position) x.place.address =
        place_target U K p f g l k c T declared oracle net_oracle uses readable placed w h F owns ty d (place_alone uses ty to covers_to) x (lets ty to covers_to) own in
        target_stored U K w h C S T net_oracle d (source_store.root (type_shape U ty) x.place.position) x.place.address at e (ValueMatch U (type_shape U ty)) values
        (λ w1 v z m. keeps_whole C d (type_shape U ty) v m.0)
        (λ w1 v z h1 same m. writes K w1 (type_shape U ty) x.place.position x.place.address f.env v z x.place.sound h1 same at.target at.change m)
    stored_at (inr x) own e values =
        absent_stored U K w h C S T net_oracle d e (ValueMatch U (type_shape U ty)) values net_store.nowhere
        (x.written.reached (place_alone uses ty to covers_to))
        (λ y s. lets ty to covers_to y s ∙ ap (λ r. then (then r source.finished) (store_at C d y)) (x.missing s))

    module _ (can_to : Can (typed ty to)) where
      there : PlaceAt ty to
      there = place_is U K p f g l k c T declared oracle net_oracle uses readable placed w h F owns ty to can_to covers_to

      -- what is of the type
      pub whole_stored : (from : Term) → Can (typed ty from) → covers_group uses (typed ty from) ≡ true → is_formed (typed ty from) ≡ true
          → IsOwnTarget U K p f d → SameStore U K w C S T net_oracle d (typed ty from)
      whole_stored from can covers formed own =
          stored_at there own (typed ty from)
          (groups K w p f g oracle net_oracle l k c T uses ty from h F declared is_open readable placed agree can covers formed)

  covers_at : (t : ℕ) (to : Term) → PlaceAt (types.user t) to → covers_user U.program.declarations t ≡ true
  covers_at t to (inl x) = x.place.covers
  covers_at t to (inr x) = x.covers

  -- what is written for a user type
  copied_line : (t : ℕ) (to : Term) → covers_place uses (typed (types.user t) to) ≡ true → Can (typed (types.user t) to) → (e : Expr)
      → store_line T (typed (types.user t) to) e ≡ net.assign (exp_of T (typed (types.user t) to)) (exp_of T e)
  copied_line t to covers_to can_to e =
      copy_is U T readable.facts t (readable.flat t (covers_at t to (there (types.user t) to covers_to can_to))) to e

  -- what holds of a line that assigns so
  module _ (P : net.Line → Type 0) where
    -- to a place of a type
    abbrev IsCopied : Ty → Term → Ty → Term → Type 0
    IsCopied ty to of from =
        is_same_type ty of ≡ true → Can (typed ty to) → Can (typed of from) → covers_place uses (typed ty to) ≡ true → covers_group uses (typed of from) ≡ true
        → is_formed (typed of from) ≡ true → IsOwnTarget U K p f (typed ty to)
        → (SameStore U K w C S T net_oracle (typed ty to) (typed of from) → P (net.assign (exp_of T (typed ty to)) (exp_of T (typed of from))))
        → P (store_line T (typed ty to) (typed of from))

    to_same : (t : ℕ) (to from : Term) → IsCopied (types.user t) to (types.user t) from
    to_same t to from same can_to can covers_to covers_from formed own go =
        subst (λ x. P x) (sym (copied_line t to covers_to can_to (typed (types.user t) from)))
        (go (whole_stored (types.user t) to covers_to can_to from can covers_from formed own))

    of_type : (t : ℕ) (to : Term) (ty : Ty) (from : Term) → IsCopied (types.user t) to ty from
    of_type t to ty from same = subst (λ z. IsCopied (types.user t) to z from) (sym (same_user t ty same)) (to_same t to from) same

    pub copy_stored : (to e : Expr) → Can to → Can e → covers_copy uses to e ≡ true → is_formed e ≡ true → IsOwnTarget U K p f to
        → (SameStore U K w C S T net_oracle to e → P (net.assign (exp_of T to) (exp_of T e))) → P (store_line T to e)
    copy_stored (typed ty to) (typed of from) can_to can covers formed own go =
        let placed_of : Bool = covers_place uses (typed ty to) && covers_group uses (typed of from) in
        let first = both_true (is_user ty) (is_changeable uses (typed ty to) && (is_same_type ty of && placed_of)) covers in
        let second = both_true (is_changeable uses (typed ty to)) (is_same_type ty of && placed_of) first.1 in
        let third = both_true (is_same_type ty of) placed_of second.1 in
        let last = both_true (covers_place uses (typed ty to)) (covers_group uses (typed of from)) third.1 in
        let is : (t : ℕ) × (ty ≡ types.user t) = user_type ty first.0 in
        subst (λ z. IsCopied z to of from) (sym is.1) (of_type is.0 to of from) third.0 can_to can last.0 last.1 formed own go
