-- Calm arguments are the same on the source's side whatever changes nothing is done before them.
use Rattle.std.proofs.Common.{◌≡◌, ◌∙◌, inl, refl, sym, ap, subst, ℕ, suc, Bool, true, false, ◌&&◌, ◌||◌, List, [], ◌∷◌, true≢false}
use Rattle.vb_tree.specs.BoundTree as types
use Rattle.vb_tree.specs.BoundTree.{Ty}
use Rattle.vb_tree.specs.declared.declared.VarId.{VarId}
use Rattle.vb_tree.specs.declared.value.Value6.{Value6}
use Rattle.bound_tree.specs.Tree.{Expr, typed, constant, variable, convert, Argument, by_reference, Passed, no_passed, next_passed}
use Rattle.bound_tree.specs.Tree as tree
use Rattle.bound_facts.proofs.Chains.{both_true}
use Rattle.bound_facts.specs.Locks.{is_same_type}
use Rattle.bound_facts.specs.Node.{is_array_type, type_at}
use Rattle.run_base.specs.Frames.{by_address, by_value}
use Rattle.run_base.specs.Outcomes.{after, gives, then}
use Rattle.vb6_run.specs.Expressions as source
use Rattle.vb6_run.specs.Expressions.{args_of, argument_of, given_address}
use Rattle.vb6_run.specs.Forms.{SourceLine}
use Rattle.vb6_run.specs.Shapes.{simple}
use Rattle.vb6_run.specs.Store.{Address, Memory, SourceCalls, SourceFrame, SourceGiven, read, root, single}
use Rattle.vb6_run.specs.Values.{Value, scalar}
use Rattle.net_run.specs.Lines.{NetFrame, NetLine, scope_of}
use Rattle.net_run.specs.Making.{Jobs}
use Rattle.net_run.specs.Members.{Code}
use Rattle.written_trees.specs.Names.{Scope}
use Rattle.run_matches.specs.CoveredExprs.{Uses, covers_expr, is_calm, is_declared_as, is_variable, widens}
use Rattle.run_matches.specs.CoveredLines.{are_calm_passed, is_calm_argument}
use Rattle.run_matches.specs.CoveredVariables.{covers_type}
use Rattle.run_matches.specs.Formed.{is_formed_argument, passed_are_formed}
use Rattle.run_matches.specs.Frames.{FrameMatch}
use Rattle.run_matches.specs.Maps.{World}
use Rattle.run_matches.specs.Match.{MemoryMatch}
use Rattle.run_matches.specs.Pledges.{Pledge}
use Rattle.run_matches.specs.Runs.{CallsAgree}
use Rattle.run_matches.specs.Upgrades.{Upgrade}
use Rattle.run_statements.specs.Frames.{AllCalledBy, AllCalledFor, AreReadable, ArePlaced, ExpressionsAgree, IsOpen, IsReadable, context_of, demands}
use Rattle.run_statements.specs.Written.{Passes}
use Rattle.line_laws.proofs.Calm.{same_self}
use Rattle.line_laws.proofs.Standing.{Known, Stable, Standing, calm_known, not_blank, parts_found, read_single, standing}
use Rattle.line_laws.proofs.Stores.{same_type}

-- ---- what is calm is covered

widened_scalar : (from to : Ty) → widens from to ≡ true → covers_type from ≡ true
widened_scalar types.boolean to h = refl
widened_scalar types.byte to h = refl
widened_scalar types.integer to h = refl
widened_scalar types.long to h = refl
widened_scalar _ to h = absurd (true≢false (sym h))

widened_result : (from to : Ty) → widens from to ≡ true → covers_type to ≡ true
widened_result types.boolean types.byte h = refl
widened_result types.boolean types.integer h = refl
widened_result types.boolean types.long h = refl
widened_result types.boolean types.currency h = refl
widened_result types.byte types.integer h = refl
widened_result types.byte types.long h = refl
widened_result types.byte types.currency h = refl
widened_result types.integer types.long h = refl
widened_result types.integer types.currency h = refl
widened_result types.long types.currency h = refl
widened_result _ _ h = absurd (true≢false (sym h))

pub calm_covered : (uses : Uses) (e : Expr) → covers_type (type_at e) ≡ true → is_calm uses e ≡ true → covers_expr uses e ≡ true
calm_covered uses (typed ty (constant x origin)) c calm = ap (λ b. b && true) c
calm_covered uses (typed ty (variable v qualified)) c calm =
    ap (λ b. b && (uses.scalar v && uses.named v qualified)) c
    ∙ (both_true (uses.scalar v && uses.named v qualified) (uses.exact v && (uses.is_of v ty && uses.relied v)) calm).0
calm_covered uses (typed ty (convert to e)) c calm =
    let all = both_true (is_same_type to ty) (widens (type_at e) to && is_calm uses e) calm in
    let both = both_true (widens (type_at e) to) (is_calm uses e) all.1 in
    ap (λ b. b && (covers_type to && covers_expr uses e)) c
    ∙ ap (λ b. b && covers_expr uses e) (widened_result (type_at e) to both.0)
    ∙ calm_covered uses e (widened_scalar (type_at e) to both.0) both.1
calm_covered uses (typed ty _) c calm = absurd (true≢false (sym calm))

-- ---- arguments

or_true : (a : Bool) → (a || true) ≡ true
or_true true = refl
or_true false = refl

module _ (U : Upgrade) (expressions : ExpressionsAgree U) (K : Pledge) (p : ℕ) (f : SourceFrame) (g : NetFrame) (l : SourceLine) (k : NetLine) (c : Code)
    (T : Scope) (declared : T.declarations ≡ U.program.declarations) (oracle : SourceCalls) (net_oracle : Jobs) (is_open : IsOpen (scope_of U.written c g k))
    (uses : Uses) (readable : AreReadable U T uses) (placed : ArePlaced U p f (scope_of U.written c g k) T uses) (agree : CallsAgree U (Passes U) oracle net_oracle)
    (w : World) (h : MemoryMatch U w) (F : FrameMatch U K w p f g) where
  abbrev C : source.Context
  C = context_of U oracle p f l

  -- what is given is known
  abbrev IsKnown : (quiet : Bool) → Argument → Type 0
  IsKnown quiet a = (x : SourceGiven) × ((s : Memory) → Stable U w s → argument_of C quiet a s ≡ gives [] x s)

  address_given : (quiet : Bool) (ty : Ty) (v : VarId) (qualified : Bool) (r : IsReadable U v.0) → covers_type ty ≡ true → Standing U w f v.0 ty
      → IsKnown quiet (by_reference (typed ty (variable v qualified)))
  address_given quiet ty v qualified r covers at =
      let e : Expr = typed ty (variable v qualified) in
      let a : Address = root (simple ty) at.position in
      let kind : (z : Value6) × (w.src.held at.position ≡ single ty z) = at.matched.1 in (
        by_address a,
        λ s stable.
            let is : s.held at.position ≡ single ty kind.0 =
            stable at.position at.matched.0.is_made at.plain (λ z. not_blank ty kind.0 (sym kind.1 ∙ z)) ∙ kind.1 in
            ap (λ r. then r (source.given_parts C quiet e (source.goes_by_address e)))
            (parts_found U expressions K p f g l k c T declared oracle net_oracle is_open uses readable placed agree w h F ty v qualified r a s at.found)
            ∙ ap (λ b. after [] (source.given_parts C quiet e b (source.at_address a) s)) (or_true (is_array_type ty))
            ∙ ap (λ x. after [] (after [] x)) (read_first quiet a s (scalar ty kind.0) (read_single ty kind.0 at.position s (same_self ty covers) is)),
      )
    where
      read_first : (quiet : Bool) (a : Address) (s : Memory) (x : Value) → read a s ≡ gives [] x s → given_address quiet a s ≡ gives [] (by_address a) s
      read_first false a s x is = refl
      read_first true a s x is = ap (λ r. then r (λ x w. gives [] (by_address a) w)) is

  calm_argument : (quiet : Bool) (a : Argument) → is_calm_argument uses a ≡ true → AllCalledBy (demands U K p l k (scope_of U.written c g k) T) a
      → is_formed_argument a ≡ true → IsKnown quiet a
  calm_argument quiet (tree.by_value e) calm can formed =
      let both = both_true (covers_type (type_at e)) (is_calm uses e) calm in
      let x : Known U expressions K p f g l k c T declared oracle net_oracle is_open uses readable placed agree w h F e =
      calm_known U expressions K p f g l k c T declared oracle net_oracle is_open uses readable placed agree w h F e both.1 can
      (calm_covered uses e both.0 both.1) formed in
      (by_value (scalar (type_at e) x.value), λ s stable. ap (λ r. then r (λ y w. gives [] (by_value y) w)) (x.gives s stable))
  calm_argument quiet (by_reference (typed ty (variable v qualified))) calm can formed =
      let both = both_true (covers_type ty) (true && is_calm uses (typed ty (variable v qualified))) calm in
      let all = both_true (uses.scalar v && uses.named v qualified) (uses.exact v && (uses.is_of v ty && uses.relied v)) both.1 in
      let used = (both_true (uses.scalar v) (uses.named v qualified) all.0).0 in
      let exact = both_true (uses.exact v) (uses.is_of v ty && uses.relied v) all.1 in
      let relied = both_true (uses.is_of v ty) (uses.relied v) exact.1 in
      let r : IsReadable U v.0 = readable.scalars v used in
      let same : r.variable.ty ≡ ty =
      same_type ty r.variable.ty both.0 (sym (ap (is_declared_as ty) r.is_variable) ∙ readable.types v ty relied.0) in
      let at : Standing U w f v.0 r.variable.ty =
      standing U K w h p f g k c T declared F v.0 r (readable.exact v exact.0) (readable.relied v relied.1) (placed.places v (inl used)) in
      address_given quiet ty v qualified r both.0 (subst (λ t. Standing U w f v.0 t) same at)
  calm_argument quiet (by_reference (typed ty t)) calm can formed =
      absurd (true≢false (sym (both_true (covers_type ty) (is_variable (typed ty t) && is_calm uses (typed ty t)) calm).1))

  -- ---- all of them

  pub calm_passed : (q i : ℕ) (args : Passed) → are_calm_passed uses args ≡ true → AllCalledFor (demands U K p l k (scope_of U.written c g k) T) args
      → passed_are_formed args ≡ true → (xs : List SourceGiven) × ((s : Memory) → Stable U w s → args_of C q i args s ≡ gives [] xs s)
  calm_passed q i no_passed calm can formed = ([], λ s stable. refl)
  calm_passed q i (next_passed a rest) calm can formed =
      let both = both_true (is_calm_argument uses a) (are_calm_passed uses rest) calm in
      let forms = both_true (is_formed_argument a) (passed_are_formed rest) formed in
      let x : IsKnown (C.runnable.quiet q i) a = calm_argument (C.runnable.quiet q i) a both.0 can.0 forms.0 in
      let more = calm_passed q (suc i) rest both.1 can.1 forms.1 in (
        x.0 ∷ more.0,
        λ s stable.
            ap (λ r. then r (λ g w. then (args_of C q (suc i) rest w) (λ gs w. gives [] (g ∷ gs) w))) (x.1 s stable)
            ∙ ap (λ r. after [] (then r (λ gs w. gives [] (x.0 ∷ gs) w))) (more.1 s stable),
      )
