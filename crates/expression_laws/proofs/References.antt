-- Variables that are given by reference.
use Rattle.std.proofs.Common.{◌≡◌, ◌⊎◌, inl, inr, refl, sym, ap, subst, ◌∙◌, ℕ, Bool, true, false, cond, not, ◌&&◌, ◌||◌, true≢false, List, [], ◌∷◌, Option, Some, None, suc, ◌+◌, arith}
use Rattle.std.specs.Prelude.{slice_get}
use Rattle.vb_tree.specs.BoundTree as types
use Rattle.vb_tree.specs.BoundTree.{Ty}
use Rattle.vb_tree.specs.declared.declared.VarId.{VarId}
use Rattle.bound_tree.specs.Tree.{Declarations, Expr, typed, field, variable, by_reference, Program, convert}
use Rattle.bound_facts.specs.Node.{auto_class, is_array_type}
use Rattle.net_tree.specs.declared.declaration.NetPassing.{NetPassing}
use Rattle.net_tree.specs.declared.declaration.NetPassing.TheVariants as passing
use Rattle.net_tree.specs.Tree.{Exp, path}
use Rattle.run_base.specs.Frames.{Given, by_address}
use Rattle.run_base.specs.Outcomes.{Outcome, after, found, gives, some_of, then}
use Rattle.run_base.specs.Positions.{Position}
use Rattle.vb6_run.specs.Expressions as source
use Rattle.vb6_run.specs.Expressions.{Context, at_address}
use Rattle.vb6_run.specs.Forms.{SourceLine}
use Rattle.vb6_run.specs.Runnables.{variable_address}
use Rattle.vb6_run.specs.Shapes.{Shape, simple, endless, part_shape}
use Rattle.vb6_run.specs.Store.{Address, Memory, SourceCalls, SourceFrame, SourceGiven, held_at, root, item, constant}
use Rattle.vb6_run.specs.Values.{Value}
use Rattle.net_run.specs.Calls.{Arguments}
use Rattle.net_run.specs.Expressions as target
use Rattle.net_run.specs.Lines.{NetFrame, NetLine, scope_of}
use Rattle.net_run.specs.Making.{Jobs}
use Rattle.net_run.specs.Members.{Code}
use Rattle.net_run.specs.Names as net_names
use Rattle.net_run.specs.Names.{at_place, path_start, starts}
use Rattle.net_run.specs.Shapes as shape
use Rattle.net_run.specs.Store as net
use Rattle.net_run.specs.Values as net_value
use Rattle.written_trees.specs.Arguments.{argument_exp, is_conversion, temporary_exp}
use Rattle.written_trees.specs.Exprs.{exp_of}
use Rattle.written_trees.specs.Names.{Scope, variable_path}
use Rattle.run_matches.specs.Frames.{is_mirrored}
use Rattle.run_matches.specs.Addresses.{HasParameterRank, IsDeclaredAt, IsPlain, IsTarget, Same, SuitsParameter, TakesAddresses, same_item, same_root, GivesWhole, IsScalarAt}
use Rattle.run_matches.specs.Agreeing.{Agrees}
use Rattle.run_matches.specs.CoveredVariables.{covers_type, takes_value_at}
use Rattle.run_matches.specs.CoveredExprs.{Uses, IsUsed, covers_array, covers_expr, covers_place, is_passable, is_variable, is_relied_on}
use Rattle.run_matches.specs.Covered.{suits_array, hands_argument, is_item, is_relied_at}
use Rattle.run_matches.specs.Likeness.{SameShape, same_array, same_class, same_group, same_scalar}
use Rattle.run_matches.specs.Maps.{World}
use Rattle.run_matches.specs.Match.{MemoryMatch}
use Rattle.run_matches.specs.Pledges.{Pledge}
use Rattle.run_matches.specs.SoundShapes.{IsSoundShape}
use Rattle.run_matches.specs.Upgrades.{Upgrade, takes_array}
use Rattle.run_statements.specs.Fitting.{FitsArgument}
use Rattle.run_statements.specs.Frames.{AreReadable, IsGroup, IsKnown, IsReadable, context_of, type_shape}
use Rattle.row_laws.proofs.Composing.{after_nil}
use Rattle.agreeing_laws.proofs.Agreeing.{agrees_outside}
use Rattle.agreeing_laws.proofs.UserShapes.{declared_group}
use Rattle.run_statements.specs.Arguments.{ArgumentsMatch}
use Rattle.expression_laws.specs.Images.{HasImage, HaveImages, IsImage}
use Rattle.expression_laws.proofs.Calls.{address_agrees}
use Rattle.expression_laws.proofs.Elements.{ArrayThere, array_there, sound_array}
use Rattle.expression_laws.proofs.UsedShapes.{array_stands, group_stands, known_scalar, not_auto, no_root_item, scalar_stands}
use Rattle.expression_laws.proofs.Types.{both_true, either_true}
use Rattle.expression_laws.proofs.Variables.{known_exp, known_none}

-- ---- places of arguments

pub first : (n : ℕ) → n ≡ 0 + n
first n = omega arith

pub here : (i : ℕ) → i + 0 ≡ i
here i = omega arith

pub further : (i n : ℕ) → i + suc n ≡ suc i + n
further i n = omega arith

pub or_true : (a : Bool) → (a || true) ≡ true
or_true true = refl
or_true false = refl

-- ---- the source

-- what a quiet parameter is given is read first
pub source_given : (C : Context) (quiet : Bool) (ty : Ty) (v : VarId) (qualified : Bool) (o : Option Address) (m : Option ℕ) → m ≡ None → (w : Memory)
    → then (then (some_of o (λ a w. gives [] (at_address a) w) w) (source.made_for C m))
    (source.given_parts C quiet (typed ty (variable v qualified)) (source.goes_by_address (typed ty (variable v qualified))))
    ≡ some_of o (source.given_address quiet) w
source_given C quiet ty v qualified None m e w = refl
source_given C quiet ty v qualified (Some a) m e w =
    ap (λ z. then (then (gives [] (at_address a) w) (source.made_for C z))
    (source.given_parts C quiet (typed ty (variable v qualified)) (source.goes_by_address (typed ty (variable v qualified))))) e
    ∙ ap (λ b. then (gives [] (at_address a) w) (source.given_parts C quiet (typed ty (variable v qualified)) b)) (or_true (is_array_type ty))
    ∙ after_nil (after [] (source.given_address quiet a w)) ∙ after_nil (source.given_address quiet a w)

-- ---- what is given

-- an array variable
pub array_used : (uses : Uses) (ty : Ty) (v : VarId) (qualified : Bool) → covers_array uses (typed ty (variable v qualified)) ≡ true
    → (element : Ty) × (uses.array v element ≡ true) × (uses.named v qualified ≡ true)
array_used uses (types.array e rank) v qualified h =
    let both = both_true (uses.array v e) (uses.named v qualified) h in
    (e, both.0, both.1)
array_used uses _ v qualified h = absurd (cc h)

array_typed : (uses : Uses) (ty : Ty) (v : VarId) (qualified : Bool) → covers_array uses (typed ty (variable v qualified)) ≡ true → is_array_type ty ≡ true
array_typed uses (types.array e rank) v qualified h = refl
array_typed uses _ v qualified h = absurd (cc h)

-- a scalar, an array, or a user type or an object
abbrev pub IsPassed : Uses → Expr → Type 0
IsPassed uses e = ((is_passable uses e && covers_expr uses e) ≡ true) ⊎ ((covers_array uses e ≡ true) ⊎ (covers_place uses e ≡ true))

pub passed_by : (uses : Uses) (e : Expr) → ((is_passable uses e && covers_expr uses e) || (covers_array uses e || covers_place uses e)) ≡ true → IsPassed uses e
passed_by uses e h = by (either_true (is_passable uses e && covers_expr uses e) (covers_array uses e || covers_place uses e) h)
  where
    by : ((is_passable uses e && covers_expr uses e) ≡ true) ⊎ ((covers_array uses e || covers_place uses e) ≡ true) → IsPassed uses e
    by (inl a) = inl a
    by (inr b) = inr (either_true (covers_array uses e) (covers_place uses e) b)

pub scalar_of_passed : (uses : Uses) (e : Expr) → (is_passable uses e && covers_expr uses e) ≡ true → covers_expr uses e ≡ true
scalar_of_passed uses e h = (both_true (is_passable uses e) (covers_expr uses e) h).1

pub scalar_used : (uses : Uses) (ty : Ty) (v : VarId) (qualified : Bool) → covers_expr uses (typed ty (variable v qualified)) ≡ true
    → (uses.scalar v ≡ true) × (uses.named v qualified ≡ true)
scalar_used uses ty v qualified h =
    both_true (uses.scalar v) (uses.named v qualified) (both_true (covers_type ty) (uses.scalar v && uses.named v qualified) h).1

used_by : (uses : Uses) (ty : Ty) (v : VarId) (qualified : Bool) → IsPassed uses (typed ty (variable v qualified)) → IsUsed uses v
used_by uses ty v qualified (inl h) =
    inl (scalar_used uses ty v qualified (scalar_of_passed uses (typed ty (variable v qualified)) h)).0
used_by uses ty v qualified (inr (inl h)) =
    let used = array_used uses ty v qualified h in
    inr (inl (used.0, used.1))
used_by uses ty v qualified (inr (inr h)) = inr (inr (inl (ty, (both_true (uses.group v ty) (uses.named v qualified) h).0)))

-- it is no As New variable
passed_known : (U : Upgrade) (T : Scope) (uses : Uses) → AreReadable U T uses → (ty : Ty) (v : VarId) (qualified : Bool)
    → IsPassed uses (typed ty (variable v qualified)) → IsKnown U v.0
passed_known U T uses readable ty v qualified (inl h) =
    known_scalar U v.0 (readable.scalars v (scalar_used uses ty v qualified (scalar_of_passed uses (typed ty (variable v qualified)) h)).0)
passed_known U T uses readable ty v qualified (inr (inl h)) =
    let used = array_used uses ty v qualified h in
    (readable.arrays v used.0 used.1).known
passed_known U T uses readable ty v qualified (inr (inr h)) =
    (readable.groups v ty (both_true (uses.group v ty) (uses.named v qualified) h).0).known

-- it is named as it may be
named_by : (uses : Uses) (ty : Ty) (v : VarId) (qualified : Bool) → IsPassed uses (typed ty (variable v qualified)) → uses.named v qualified ≡ true
named_by uses ty v qualified (inl h) = (scalar_used uses ty v qualified (scalar_of_passed uses (typed ty (variable v qualified)) h)).1
named_by uses ty v qualified (inr (inl h)) = (array_used uses ty v qualified h).2
named_by uses ty v qualified (inr (inr h)) = (both_true (uses.group v ty) (uses.named v qualified) h).1

-- it is no quiet parameter
pub passed_exact : (U : Upgrade) (T : Scope) (uses : Uses) → AreReadable U T uses → (ty : Ty) (v : VarId) (qualified : Bool)
    → IsPassed uses (typed ty (variable v qualified)) → is_mirrored U v.0 ≡ false
passed_exact U T uses readable ty v qualified (inl h) =
    readable.exact v (both_true (uses.exact v) (covers_expr uses (typed ty (variable v qualified))) h).0
passed_exact U T uses readable ty v qualified (inr (inl h)) =
    let used = array_used uses ty v qualified h in
    (readable.arrays v used.0 used.1).exact
passed_exact U T uses readable ty v qualified (inr (inr h)) =
    (readable.groups v ty (both_true (uses.group v ty) (uses.named v qualified) h).0).exact

no_array : (uses : Uses) (e : Expr) → covers_array uses e ≡ true → is_variable e ≡ false → ⊥
no_array uses (typed (types.array e rank) (variable v qualified)) h other = true≢false other
no_array uses (typed (types.array e rank) _) h other = true≢false (sym h)
no_array uses (typed _ t) h other = true≢false (sym h)

-- no place is a conversion or an element
no_place : (uses : Uses) (e : Expr) → covers_place uses e ≡ true → is_variable e ≡ false → (is_conversion e || is_item e) ≡ true → ⊥
no_place uses (typed ty (variable v qualified)) h other is = true≢false other
no_place uses (typed ty (field e k)) h other is = true≢false (sym is)
no_place uses (typed ty _) h other is = true≢false (sym h)

-- a conversion or an element is a scalar
pub scalar_passed : (uses : Uses) (e : Expr) → IsPassed uses e → is_variable e ≡ false → (is_conversion e || is_item e) ≡ true → covers_expr uses e ≡ true
scalar_passed uses e (inl h) other is = scalar_of_passed uses e h
scalar_passed uses e (inr (inl h)) other is = absurd (no_array uses e h other)
scalar_passed uses e (inr (inr h)) other is = absurd (no_place uses e h other is)

pub conversion_passed : (uses : Uses) (e : Expr) → IsPassed uses e → is_conversion e ≡ true → covers_expr uses e ≡ true
conversion_passed uses (typed ty (convert to e)) passed is = scalar_passed uses (typed ty (convert to e)) passed refl refl
conversion_passed uses (typed ty _) passed is = absurd (true≢false (sym is))

-- ---- ranks

pub plain_shape : (U : Upgrade) (q i : ℕ) (s : Shape) (d : shape.Shape) (ty : Ty) → s ≡ simple ty → SameShape U s d → HasParameterRank U q i d
plain_shape U q i _ _ ty e (same_scalar t word is) = tt
plain_shape U q i _ _ ty e (same_class c home is) = tt
plain_shape U q i _ _ ty e (same_group t home member fs gs is fields) = absurd (cc e)
plain_shape U q i _ _ ty e (same_array x bounds d rank same) = absurd (cc e)

shape_of_root : (s t : Shape) (p q : Position) → root s p ≡ root t q → s ≡ t
shape_of_root s t p q e = cc e

abbrev element_in : Address → Shape
element_in (root s q) = s
element_in (item e q j inside) = e
element_in (constant x) = endless

abbrev inside_of : Address → List ℕ
inside_of (root s q) = []
inside_of (item e q j inside) = inside
inside_of (constant x) = []

some_shape : (s t : Shape) → Some s ≡ Some t → s ≡ t
some_shape s t f = cc f

plain_ranked : (U : Upgrade) (K : Pledge) (w : World) (q i : ℕ) (a : Address) (b : net.Address) (ty : Ty) (p : Position) → IsScalarAt ty a p → Same U K w a b
    → HasParameterRank U q i (net.shape_at b)
plain_ranked U K w q i _ _ ty p (inl e) (same_root s d p' sh m r) = plain_shape U q i s d ty (shape_of_root s (simple ty) p' p e) sh
plain_ranked U K w q i _ _ ty p (inl e) (same_item x t d p' k j inside keeps m has part sh) = absurd (no_root_item e)
plain_ranked U K w q i _ _ ty p (inr e) (same_root s d p' sh m r) = absurd (no_root_item (sym e.1))
plain_ranked U K w q i _ _ ty p (inr e) (same_item x t d p' k j inside keeps m has part sh) =
    plain_shape U q i t d ty
    (some_shape t (simple ty) (sym part ∙ (ap (λ z. part_shape z x) (ap inside_of e.1) ∙ ap (λ z. Some z) (ap element_in e.1)))) sh

-- what has no array has no rank
sound_ranked : (U : Upgrade) (q i : ℕ) (s : Shape) (d : shape.Shape) → SameShape U s d → IsSoundShape U s → HasParameterRank U q i d
sound_ranked U q i _ _ (same_scalar t word is) c = tt
sound_ranked U q i _ _ (same_class k home is) c = tt
sound_ranked U q i _ _ (same_group t home member fs gs is fields) c = tt
sound_ranked U q i _ _ (same_array x bounds d rank same) c = absurd c

pub group_ranked : (U : Upgrade) (K : Pledge) (w : World) (q i : ℕ) (s : Shape) (a : Address) (b : net.Address) (p : Position) → IsSoundShape U s → a ≡ root s p
    → Same U K w a b → HasParameterRank U q i (net.shape_at b)
group_ranked U K w q i s _ _ p c e (same_root t d p' sh m r) =
    sound_ranked U q i t d sh (subst (λ z. IsSoundShape U z) (sym (shape_of_root t s p' p e)) c)
group_ranked U K w q i s _ _ p c e (same_item x t d p' k j inside keeps m has part sh) = absurd (no_root_item e)

pub suited : (b t : Bool) → b ≡ true → (not b || t) ≡ true → t ≡ true
suited true t e h = h
suited false t e h = absurd (cc e)

-- an array has the rank of the parameter
parameter_ranked : (U : Upgrade) (K : Pledge) (w : World) (T : Scope) (uses : Uses) → AreReadable U T uses → (q i : ℕ) (ty : Ty) (v : VarId)
    (qualified : Bool) → (given : IsPassed uses (typed ty (variable v qualified))) → FitsArgument U q i (by_reference (typed ty (variable v qualified)))
    → suits_array U.program.declarations q i (typed ty (variable v qualified)) ≡ true → (a : Address)
    (b : net.Address) (x : IsImage U K w v.0 a b) → HasParameterRank U q i (net.shape_at b)
parameter_ranked U K w T uses readable q i ty v qualified (inl h) fits suits a b x =
    let r : IsReadable U v.0 = readable.scalars v (scalar_used uses ty v qualified (scalar_of_passed uses (typed ty (variable v qualified)) h)).0 in
    plain_ranked U K w q i a b r.variable.ty x.position (scalar_stands U v.0 r a x.position x.stands) x.same
parameter_ranked U K w T uses readable q i ty v qualified (inr (inr h)) fits suits a b x =
    let r : IsGroup U v.0 ty = readable.groups v ty (both_true (uses.group v ty) (uses.named v qualified) h).0 in
    group_ranked U K w q i (type_shape U ty) a b x.position r.sound (group_stands U v.0 ty r a x.position x.stands x.target) x.same
parameter_ranked U K w T uses readable q i ty v qualified (inr (inl h)) fits suits a b x =
    let used = array_used uses ty v qualified h in
    let stands = array_stands U v.0 used.0 (readable.arrays v used.0 used.1) a x.position x.stands in
    let there : ArrayThere U w (simple used.0) x.position b = array_there U K w (simple used.0) stands.0 x.position a b stands.1 x.same in
    subst (λ d. HasParameterRank U q i d) (sym (ap net.shape_at there.stands))
    (x.ranked there.element there.rank (ap net.shape_at there.stands)
    ∙ fits (sound_array U v used.0 ty qualified (readable.arrays v used.0 used.1) (array_typed uses ty v qualified h))
    (suited (is_array_type ty) (takes_array U.program.declarations q i) (array_typed uses ty v qualified h) suits))

scalar_declared : (U : Upgrade) (a : Address) (ty : Ty) (p : Position) → IsScalarAt ty a p → IsDeclaredAt U a
scalar_declared U a ty p (inl e) = subst (λ z. IsDeclaredAt U z) (sym e) tt
scalar_declared U a ty p (inr e) = subst (λ z. IsDeclaredAt U z) (sym e.1) tt

-- a user type has the fields that it declares
parameter_declared : (U : Upgrade) (K : Pledge) (w : World) (T : Scope) (uses : Uses) → AreReadable U T uses → (ty : Ty) (v : VarId) (qualified : Bool)
    → IsPassed uses (typed ty (variable v qualified)) → (a : Address) (b : net.Address) → IsImage U K w v.0 a b → IsDeclaredAt U a
parameter_declared U K w T uses readable ty v qualified (inl h) a b x =
    let r : IsReadable U v.0 = readable.scalars v (scalar_used uses ty v qualified (scalar_of_passed uses (typed ty (variable v qualified)) h)).0 in
    scalar_declared U a r.variable.ty x.position (scalar_stands U v.0 r a x.position x.stands)
parameter_declared U K w T uses readable ty v qualified (inr (inl h)) a b x =
    let used = array_used uses ty v qualified h in
    let stands = array_stands U v.0 used.0 (readable.arrays v used.0 used.1) a x.position x.stands in
    subst (λ z. IsDeclaredAt U z) (sym stands.1) tt
parameter_declared U K w T uses readable ty v qualified (inr (inr h)) a b x =
    let r : IsGroup U v.0 ty = readable.groups v ty (both_true (uses.group v ty) (uses.named v qualified) h).0 in
    subst (λ z. IsDeclaredAt U z) (sym (group_stands U v.0 ty r a x.position x.stands x.target)) (declared_group U ty r.covers)

-- ---- the target

-- it is written as it stands
pub reference_is : (T : Scope) (referred : Bool) (ty : Ty) (v : VarId) (qualified : Bool) (a : Exp)
    → argument_exp T referred (by_reference (typed ty (variable v qualified))) a ≡ a
reference_is T referred ty v qualified a =
    ap (λ b. cond b a (temporary_exp T (typed ty (variable v qualified)) a)) (or_true (is_array_type ty))

-- what has an image goes by its address
pub image_given : (U : Upgrade) (K : Pledge) (w : World) (a : Address) (b : net.Address) → Same U K w a b
    → ◌≡◌ {A = Given net_value.Value net.Address} (target.given_by b) (by_address b)
image_given U K w _ _ (same_root t d p sh m r) = refl
image_given U K w _ _ (same_item x t d p k j inside keeps m has part sh) = refl

-- what is handed on to a parameter that is relied on is so too
handed_whole : (P : Program) (q i : ℕ) (ty : Ty) (v : VarId) (qualified : Bool) → hands_argument P q i (by_reference (typed ty (variable v qualified))) ≡ true
    → is_relied_at P q i ≡ true → is_relied_on P v.0 ≡ true
handed_whole P q i ty v qualified h e = suited (is_relied_at P q i) (is_relied_on P v.0) e h

-- what is given as a value goes to a parameter that may take one
pub handed_value : (P : Program) (q i : ℕ) (e : Expr) → is_conversion e ≡ true → hands_argument P q i (by_reference e) ≡ true → takes_value_at P q i ≡ true
handed_value P q i (typed ty (convert to e)) is h = h
handed_value P q i (typed ty _) is h = absurd (true≢false (sym is))

target_given : (S : net_names.Scope) (oracle : Jobs) (mode : NetPassing) (names : List (List ℕ)) (b : net.Address) (w : net.Memory) → mode ≡ passing.Reference
    → path_start S false names ≡ starts (at_place b) [] → ◌≡◌ {A = Given net_value.Value net.Address} (target.given_by b) (by_address b)
    → target.given S oracle mode (target.reach S oracle false (path names) w) ≡ gives [] (by_address b) w
target_given S oracle mode names b w m at e =
    ap (λ z. target.given S oracle z (target.reach S oracle false (path names) w)) m
    ∙ ap (λ z. target.given S oracle passing.Reference (target.started S oracle z w)) at
    ∙ ap (λ g. gives [] g w) e

-- ---- both

module _ (U : Upgrade) (K : Pledge) (p : ℕ) (f : SourceFrame) (g : NetFrame) (oracle : SourceCalls) (net_oracle : Jobs) (l : SourceLine) (k : NetLine) (c : Code)
    (T : Scope) (uses : Uses) (same_declarations : T.declarations ≡ U.program.declarations) (readable : AreReadable U T uses) (q i : ℕ) where
  abbrev C : Context
  C = context_of U oracle p f l

  abbrev S : net_names.Scope
  S = scope_of U.written c g k

  -- the argument is given, and then the rest
  abbrev FirstAgrees : World → (quiet : Bool) → NetPassing → (referred : Bool) → Expr → (Memory → Outcome Memory (List SourceGiven))
      → (net.Memory → Outcome net.Memory Arguments) → Type 0
  FirstAgrees w quiet mode referred e rest rest' =
      Agrees U K w (ArgumentsMatch U K q i)
      (then (source.argument_of (context_of U oracle p f l) quiet (by_reference e) w.src) (λ g w. then (rest w) (λ gs w. gives [] (g ∷ gs) w)))
      (then (target.given (scope_of U.written c g k) net_oracle mode
      (target.reach (scope_of U.written c g k) net_oracle false (argument_exp T referred (by_reference e) (exp_of T e)) w.net))
      (λ g w. then (rest' w) (λ gs w. gives [] (g ∷ gs) w)))

  -- the source reads what a quiet parameter is given, and then goes on in the same way
  pub given_agrees : (w : World) (quiet : Bool) (a : Address) (b : net.Address) (rest : Memory → Outcome Memory (List SourceGiven))
      (rest' : net.Memory → Outcome net.Memory Arguments) → MemoryMatch U w → Same U K w a b → IsTarget U a
      → GivesWhole U q i a → IsPlain U w a → SuitsParameter U q i a b → Agrees U K w (ArgumentsMatch U K q (suc i)) (rest w.src) (rest' w.net)
      → Agrees U K w (ArgumentsMatch U K q i) (then (source.given_address quiet a w.src) (λ g w. then (rest w) (λ gs w. gives [] (g ∷ gs) w)))
      (then (gives [] (by_address b) w.net) (λ g w. then (rest' w) (λ gs w. gives [] (g ∷ gs) w)))
  given_agrees w false a b rest rest' start same target whole plain ranked more = address_agrees U K q i w a b rest rest' start same target whole plain ranked more
  given_agrees w true a b rest rest' start same target whole plain ranked more = by (held_at a w.src.held)
    where
      by : (o : Option Value)
          → Agrees U K w (ArgumentsMatch U K q i)
          (then (then (found o w.src) (λ x w. gives [] (by_address a) w)) (λ g w. then (rest w) (λ gs w. gives [] (g ∷ gs) w)))
          (then (gives [] (by_address b) w.net) (λ g w. then (rest' w) (λ gs w. gives [] (g ∷ gs) w)))
      by None =
          agrees_outside U K w (ArgumentsMatch U K q i) (then (gives [] (by_address b) w.net) (λ g w. then (rest' w) (λ gs w. gives [] (g ∷ gs) w)))
      by (Some x) = address_agrees U K q i w a b rest rest' start same target whole plain ranked more

  pub reference_agrees : (w : World) (quiet : Bool) (mode : NetPassing) (referred : Bool) (e : Expr) (rest : Memory → Outcome Memory (List SourceGiven))
      (rest' : net.Memory → Outcome net.Memory Arguments) → mode ≡ passing.Reference → is_variable e ≡ true → IsPassed uses e
      → FitsArgument U q i (by_reference e) → suits_array U.program.declarations q i e ≡ true → hands_argument U.program q i (by_reference e) ≡ true
      → TakesAddresses U q → MemoryMatch U w → HaveImages U K w f (scope_of U.written c g k) T uses
      → Agrees U K w (ArgumentsMatch U K q (suc i)) (rest w.src) (rest' w.net) → FirstAgrees w quiet mode referred e rest rest'
  reference_agrees w quiet mode referred (typed ty (variable v qualified)) rest rest' takes is passed fits suits hands addresses start have more =
      let e : Expr = typed ty (variable v qualified) in
      let used : IsUsed uses v = used_by uses ty v qualified passed in
      let r : IsKnown U v.0 = passed_known U T uses readable ty v qualified passed in
      let D : Declarations = U.program.declarations in
      let goes = λ (z : Outcome Memory SourceGiven). then z (λ g w. then (rest w) (λ gs w. gives [] (g ∷ gs) w)) in
      let goes' = λ (z : Outcome net.Memory (Given net_value.Value net.Address)). then z (λ g w. then (rest' w) (λ gs w. gives [] (g ∷ gs) w)) in
      let written : argument_exp T referred (by_reference e) (exp_of T e) ≡ path (variable_path T qualified v.0) =
      reference_is T referred ty v qualified (exp_of T e)
      ∙ known_exp T ty v qualified r.variable (ap (λ E. slice_get E.vars v.0) same_declarations ∙ r.is_variable) r.plain in
      subst (λ z. Agrees U K w (ArgumentsMatch U K q i) (goes z)
      (goes' (target.given S net_oracle mode (target.reach S net_oracle false (argument_exp T referred (by_reference e) (exp_of T e)) w.net))))
      (sym (source_given C quiet ty v qualified (variable_address D f v.0) (auto_class (slice_get D.vars v.0))
      (known_none D.vars v.0 r.variable r.is_variable r.plain) w.src))
      (subst (λ z. Agrees U K w (ArgumentsMatch U K q i) (goes (some_of (variable_address D f v.0) (source.given_address quiet) w.src))
      (goes' (target.given S net_oracle mode (target.reach S net_oracle false z w.net)))) (sym written)
      (by (variable_address D f v.0) refl used (passed_exact U T uses readable ty v qualified passed)))
    where
      by : (o : Option Address) → variable_address U.program.declarations f v.0 ≡ o → IsUsed uses v
          → is_mirrored U v.0 ≡ false
          → Agrees U K w (ArgumentsMatch U K q i)
          (then (some_of o (source.given_address quiet) w.src) (λ g w. then (rest w) (λ gs w. gives [] (g ∷ gs) w)))
          (then (target.given (scope_of U.written c g k) net_oracle mode
          (target.reach (scope_of U.written c g k) net_oracle false (path (variable_path T qualified v.0)) w.net))
          (λ g w. then (rest' w) (λ gs w. gives [] (g ∷ gs) w)))
      by None at used loud =
          agrees_outside U K w (ArgumentsMatch U K q i)
          (then (target.given (scope_of U.written c g k) net_oracle mode
          (target.reach (scope_of U.written c g k) net_oracle false (path (variable_path T qualified v.0)) w.net))
          (λ g w. then (rest' w) (λ gs w. gives [] (g ∷ gs) w)))
      by (Some a) at used loud =
          let x : HasImage U K w (scope_of U.written c g k) T (uses.named v) v.0 a = have v a used at in
          let y : IsImage U K w v.0 a x.address = x.image loud in
          subst (λ z. Agrees U K w (ArgumentsMatch U K q i)
          (then (source.given_address quiet a w.src) (λ g w. then (rest w) (λ gs w. gives [] (g ∷ gs) w)))
          (then z (λ g w. then (rest' w) (λ gs w. gives [] (g ∷ gs) w))))
          (sym (target_given (scope_of U.written c g k) net_oracle mode (variable_path T qualified v.0) x.address w.net takes (x.found qualified (named_by uses ty v qualified passed))
          (image_given U K w a x.address y.same)))
          (given_agrees w quiet a x.address rest rest' start y.same y.target (λ e. x.whole (handed_whole U.program q i ty v qualified hands e))
          (y.plain (not_auto U v.0 (passed_known U T uses readable ty v qualified passed))) (
            parameter_ranked U K w T uses readable q i ty v qualified passed fits suits a x.address y,
            (parameter_declared U K w T uses readable ty v qualified passed a x.address y, addresses),
          ) more)
  reference_agrees w quiet mode referred (typed ty _) rest rest' takes is passed fits suits hands addresses start have more = absurd (true≢false (sym is))
