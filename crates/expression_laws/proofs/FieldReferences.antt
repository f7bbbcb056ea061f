-- Fields of places of user types that are given by reference.
use Rattle.std.proofs.Common.{◌≡◌, ◌∙◌, refl, sym, ap, subst, inl, inr, ℕ, suc, Bool, true, false, cond, not, ◌&&◌, ◌||◌, true≢false, List, [], ◌∷◌}
use Rattle.vb_tree.specs.BoundTree as types
use Rattle.vb_tree.specs.BoundTree.{Ty}
use Rattle.bound_tree.specs.Tree.{Expr, typed, Term, field, by_reference}
use Rattle.bound_facts.specs.Node.{is_array_type}
use Rattle.net_tree.specs.declared.declaration.NetPassing.{NetPassing}
use Rattle.net_tree.specs.declared.declaration.NetPassing.TheVariants as passing
use Rattle.run_base.specs.Frames.{Given, by_address}
use Rattle.run_base.specs.Outcomes.{Outcome, after, gives, then}
use Rattle.vb6_run.specs.Expressions as source
use Rattle.vb6_run.specs.Expressions.{Context, at_address}
use Rattle.vb6_run.specs.Forms.{SourceLine}
use Rattle.vb6_run.specs.Shapes.{Shape}
use Rattle.vb6_run.specs.Store.{Address, Memory, SourceCalls, SourceFrame, SourceGiven, root}
use Rattle.net_run.specs.Calls.{Arguments}
use Rattle.net_run.specs.Expressions as target
use Rattle.net_run.specs.Lines.{NetFrame, NetLine, scope_of}
use Rattle.net_run.specs.Making.{Jobs}
use Rattle.net_run.specs.Members.{Code}
use Rattle.net_run.specs.Names as net_names
use Rattle.net_run.specs.Store as net
use Rattle.net_run.specs.Values as net_value
use Rattle.written_trees.specs.Arguments as written
use Rattle.written_trees.specs.Arguments.{argument_exp, temporary_exp}
use Rattle.written_trees.specs.Exprs.{exp_of}
use Rattle.written_trees.specs.Names.{Scope}
use Rattle.run_matches.specs.Agreeing.{Agrees}
use Rattle.run_matches.specs.Covered.{is_group_field}
use Rattle.run_matches.specs.CoveredVariables.{covers_place_type, covers_type}
use Rattle.run_matches.specs.CoveredExprs.{Uses, covers_base, has_inner, has_scalar}
use Rattle.run_matches.specs.Maps.{World}
use Rattle.run_matches.specs.Match.{MemoryMatch}
use Rattle.run_matches.specs.Pledges.{Pledge}
use Rattle.run_matches.specs.Upgrades.{Upgrade}
use Rattle.run_statements.specs.Frames.{AllCalled, AreReadable, Demands, context_of, demands, type_shape}
use Rattle.row_laws.proofs.Composing.{after_nil}
use Rattle.agreeing_laws.proofs.Agreeing.{agrees_outside}
use Rattle.run_statements.specs.Arguments.{ArgumentsMatch}
use Rattle.expression_laws.proofs.FieldValues.{scalar_is}
use Rattle.expression_laws.proofs.Places.{place_is}
use Rattle.expression_laws.proofs.References.{IsPassed, given_agrees, group_ranked, image_given, or_true, scalar_of_passed}
use Rattle.expression_laws.proofs.Types.{both_true, or_false}
use Rattle.expression_laws.proofs.Withs.{HavePlaces, PlaceIs, missing, placed, root_plain}
use Rattle.run_matches.specs.Addresses.{IsDeclaredShape, TakesAddresses}
use Rattle.agreeing_laws.proofs.UserShapes.{declared_user}

-- ---- no object is in a place

no_object : (uses : Uses) (s : ℕ) (tm : Term) → covers_base uses (typed (types.user s) tm) ≡ true → source.is_object_field (typed (types.user s) tm) ≡ false
no_object uses s (field (typed (types.user u) tm) j) base =
    no_object uses u tm (both_true (has_inner uses (types.user u) j (types.user s)) (covers_base uses (typed (types.user u) tm)) base).1
no_object uses s (field (typed _ tm) j) base = absurd (true≢false (sym base))
no_object uses s _ base = refl

no_written_object : (uses : Uses) (s : ℕ) (tm : Term) → covers_base uses (typed (types.user s) tm) ≡ true
    → written.is_object_field (typed (types.user s) tm) ≡ false
no_written_object uses s (field (typed (types.user u) tm) j) base =
    no_written_object uses u tm (both_true (has_inner uses (types.user u) j (types.user s)) (covers_base uses (typed (types.user u) tm)) base).1
no_written_object uses s (field (typed _ tm) j) base = absurd (true≢false (sym base))
no_written_object uses s _ base = refl

-- so a field goes by its address on both sides
module _ (uses : Uses) (ty : Ty) (s j : ℕ) (tm : Term) (base : covers_base uses (typed (types.user s) tm) ≡ true) where
  abbrev the_field : Expr
  the_field = typed ty (field (typed (types.user s) tm) j)

  by_address_is : source.goes_by_address the_field ≡ true
  by_address_is = ap (λ b. is_array_type ty || not b) (no_object uses s tm base) ∙ or_true (is_array_type ty)

  reference_is : (T : Scope) (referred : Bool) → argument_exp T referred (by_reference the_field) (exp_of T the_field) ≡ exp_of T the_field
  reference_is T referred =
      ap (λ b. cond b (exp_of T the_field) (temporary_exp T the_field (exp_of T the_field)))
      (ap (λ b. is_array_type ty || not b) (no_written_object uses s tm base) ∙ or_true (is_array_type ty))

-- ---- both

-- a field of a user type has the fields that its type declares
declared_field : (U : Upgrade) (ty : Ty) → covers_place_type U.program.declarations ty ≡ true → IsDeclaredShape U (type_shape U ty)
declared_field U (types.user t) h = declared_user U t h
declared_field U _ h = tt

module _ (U : Upgrade) (K : Pledge) (p : ℕ) (f : SourceFrame) (g : NetFrame) (oracle : SourceCalls) (net_oracle : Jobs) (l : SourceLine) (k : NetLine) (c : Code)
    (T : Scope) (uses : Uses) (same_declarations : T.declarations ≡ U.program.declarations) (readable : AreReadable U T uses) (q i : ℕ) (w : World)
    (start : MemoryMatch U w) (have : HavePlaces U p f g oracle net_oracle l k c T uses K w) where
  abbrev C : Context
  C = context_of U oracle p f l

  abbrev S : net_names.Scope
  S = scope_of U.written c g k

  abbrev Q : Demands
  Q = demands U K p l k S T

  -- the argument is given, and then the rest
  abbrev FirstAgrees : (quiet : Bool) → NetPassing → (referred : Bool) → Expr → (Memory → Outcome Memory (List SourceGiven))
      → (net.Memory → Outcome net.Memory Arguments) → Type 0
  FirstAgrees quiet mode referred e rest rest' =
      Agrees U K w (ArgumentsMatch U K q i)
      (then (source.argument_of (context_of U oracle p f l) quiet (by_reference e) w.src) (λ g w. then (rest w) (λ gs w. gives [] (g ∷ gs) w)))
      (then (target.given (scope_of U.written c g k) net_oracle mode
      (target.reach (scope_of U.written c g k) net_oracle false (argument_exp T referred (by_reference e) (exp_of T e)) w.net))
      (λ g w. then (rest' w) (λ gs w. gives [] (g ∷ gs) w)))

  module _ (quiet : Bool) (mode : NetPassing) (referred : Bool) (rest : Memory → Outcome Memory (List SourceGiven))
      (rest' : net.Memory → Outcome net.Memory Arguments) (takes : mode ≡ passing.Reference)
      (addresses : TakesAddresses U q) (more : Agrees U K w (ArgumentsMatch U K q (suc i)) (rest w.src) (rest' w.net)) where
    at_place : (fty ty : Ty) (s j : ℕ) (tm : Term) → covers_base uses (typed (types.user s) tm) ≡ true
        → PlaceIs U K C S net_oracle T w fty (typed ty (field (typed (types.user s) tm) j))
        → FirstAgrees quiet mode referred (typed ty (field (typed (types.user s) tm) j)) rest rest'
    at_place fty ty s j tm base (missing none) =
        let e : Expr = typed ty (field (typed (types.user s) tm) j) in
        let given' = then (target.given S net_oracle mode (target.reach S net_oracle false (argument_exp T referred (by_reference e) (exp_of T e)) w.net))
        (λ g w. then (rest' w) (λ gs w. gives [] (g ∷ gs) w)) in
        subst (λ z. Agrees U K w (ArgumentsMatch U K q i)
        (then (then z (source.given_parts C quiet e (source.goes_by_address e))) (λ g w. then (rest w) (λ gs w. gives [] (g ∷ gs) w))) given')
        (sym (none w.src)) (agrees_outside U K w (ArgumentsMatch U K q i) given')
    at_place fty ty s j tm base (placed r plain x) =
        let e : Expr = typed ty (field (typed (types.user s) tm) j) in
        let d : Shape = type_shape U fty in
        let a : Address = root d x.position in
        let goes = λ (z : Outcome Memory SourceGiven). then z (λ g w. then (rest w) (λ gs w. gives [] (g ∷ gs) w)) in
        let goes' = λ (z : Outcome net.Memory (Given net_value.Value net.Address)). then z (λ g w. then (rest' w) (λ gs w. gives [] (g ∷ gs) w)) in
        let source_is : source.argument_of C quiet (by_reference e) w.src ≡ source.given_address quiet a w.src =
        ap (λ z. then z (source.given_parts C quiet e (source.goes_by_address e))) (x.found w.src)
        ∙ ap (λ b. then (gives [] (at_address a) w.src) (source.given_parts C quiet e b)) (by_address_is uses ty s j tm base)
        ∙ after_nil (after [] (source.given_address quiet a w.src)) ∙ after_nil (source.given_address quiet a w.src) in
        let target_is : target.given S net_oracle mode (target.reach S net_oracle false (argument_exp T referred (by_reference e) (exp_of T e)) w.net)
        ≡ gives [] (by_address x.address) w.net =
        ap (λ z. target.given S net_oracle z (target.reach S net_oracle false (argument_exp T referred (by_reference e) (exp_of T e)) w.net)) takes
        ∙ ap (λ z. target.given S net_oracle passing.Reference (target.reach S net_oracle false z w.net)) (reference_is uses ty s j tm base T referred)
        ∙ ap (λ z. target.given S net_oracle passing.Reference z) (x.written.reached refl w.net)
        ∙ ap (λ z. gives [] z w.net) (image_given U K w a x.address x.same) in
        subst (λ z. Agrees U K w (ArgumentsMatch U K q i) (goes z)
        (goes' (target.given S net_oracle mode (target.reach S net_oracle false (argument_exp T referred (by_reference e) (exp_of T e)) w.net))))
        (sym source_is)
        (subst (λ z. Agrees U K w (ArgumentsMatch U K q i) (goes (source.given_address quiet a w.src)) (goes' z)) (sym target_is)
        (given_agrees U K p f g oracle net_oracle l k c T uses same_declarations readable q i w quiet a x.address rest rest' start x.same x.target (λ is. refl)
        (root_plain U w d x.position r x.in_root plain)
        (group_ranked U K w q i d a x.address x.position x.sound refl x.same, (declared_field U fty x.covers, addresses)) more))

    pub field_passed : (e : Expr) → is_group_field e ≡ true → IsPassed uses e → AllCalled (demands U K p l k (scope_of U.written c g k) T) e
        → FirstAgrees quiet mode referred e rest rest'
    field_passed (typed ty (field (typed (types.user s) tm) j)) is (inl h) can =
        let in_place : Bool = has_scalar uses (types.user s) j && covers_base uses (typed (types.user s) tm) in
        let both = both_true (covers_type ty) (in_place || false) (scalar_of_passed uses (typed ty (field (typed (types.user s) tm) j)) h) in
        let inner = both_true (has_scalar uses (types.user s) j) (covers_base uses (typed (types.user s) tm)) (or_false in_place both.1) in
        let x = scalar_is U K p f g oracle net_oracle l k c T uses same_declarations readable w have ty s tm j inner.0 can inner.1 in
        at_place x.0.ty ty s j tm inner.1 x.1
    field_passed (typed (types.user t) (field (typed (types.user s) tm) j)) is (inr (inr h)) can =
        at_place (types.user t) (types.user t) s j tm
        (both_true (has_inner uses (types.user s) j (types.user t)) (covers_base uses (typed (types.user s) tm)) h).1
        (place_is U K p f g oracle net_oracle l k c T uses same_declarations readable w have (types.user t) (field (typed (types.user s) tm) j) can h)
    field_passed (typed _ (field (typed (types.user s) tm) j)) is (inr (inr h)) can = absurd (true≢false (sym h))
    field_passed (typed (types.array e rank) (field (typed (types.user s) tm) j)) is (inr (inl h)) can = absurd (true≢false (sym h))
    field_passed (typed _ (field (typed (types.user s) tm) j)) is (inr (inl h)) can = absurd (true≢false (sym h))
    field_passed (typed ty (field (typed _ tm) j)) is given can = absurd (true≢false (sym is))
    field_passed (typed ty _) is given can = absurd (true≢false (sym is))
