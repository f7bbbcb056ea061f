-- The statements: expressions that are covered and well formed do the same as what is written for them.
use Rattle.std.specs.Prelude.{◌≡◌, ◌⊎◌, ℕ, Bool, true, false, [], ◌∷◌, slice_get}
use Rattle.vb_tree.specs.BoundTree.{Ty, array, class}
use Rattle.vb_tree.specs.declared.declared.VarId.{VarId}
use Rattle.bound_tree.specs.Tree.{Expr, typed, variable, element, field, Exprs, Term}
use Rattle.bound_facts.specs.Effects.{params_at}
use Rattle.bound_facts.specs.Node.{type_at}
use Rattle.run_base.specs.Outcomes.{gives, then}
use Rattle.vb6_run.specs.Expressions as source
use Rattle.vb6_run.specs.Expressions.{lows_at}
use Rattle.vb6_run.specs.Forms.{SourceLine}
use Rattle.vb6_run.specs.Store.{SourceCalls, SourceFrame}
use Rattle.net_run.specs.Expressions as target
use Rattle.net_run.specs.Lines.{NetFrame, NetLine, scope_of}
use Rattle.net_run.specs.Making.{Jobs}
use Rattle.net_run.specs.Members.{Code}
use Rattle.net_run.specs.Values as net_value
use Rattle.written_trees.specs.Exprs.{exp_of, target_exp}
use Rattle.written_trees.specs.Names.{Scope}
use Rattle.run_matches.specs.Agreeing.{Agrees}
use Rattle.run_matches.specs.CoveredExprs.{Uses, covers_array, covers_expr, covers_exprs, covers_group, covers_object, covers_place}
use Rattle.run_matches.specs.Covered.{is_type_at}
use Rattle.run_matches.specs.CoveredVariables.{covers_group_type}
use Rattle.run_matches.specs.SoundShapes.{IsSoundShape}
use Rattle.run_matches.specs.UserTypes.{is_group_type}
use Rattle.run_matches.specs.Frames.{FrameMatch}
use Rattle.run_matches.specs.Maps.{World}
use Rattle.run_matches.specs.Match.{MemoryMatch}
use Rattle.run_matches.specs.Pledges.{Pledge}
use Rattle.run_matches.specs.Upgrades.{Upgrade}
use Rattle.run_statements.specs.Autos.{AutoMatch}
use Rattle.run_statements.specs.Elements.{IndexedMatch}
use Rattle.run_statements.specs.Fitting.{rank_of}
use Rattle.run_statements.specs.Groups.{PlaceMatch, ValueMatch}
use Rattle.run_statements.specs.Members.{ObjectMatch, ReachedMember}
use Rattle.run_statements.specs.Frames.{ArrayMatch, ElementMatch, IsMember, ScalarMatch, PlainMatch, IsOpen, context_of, ArePlaced, AreReadable, AllCalled, demands, type_shape}
use Rattle.run_matches.specs.Runs.{CallsAgree}
use Rattle.run_statements.specs.Written.{Passes}
use Rattle.run_matches.specs.Formed.{is_formed}

-- ---- what is handed in

-- a covered user type, none of whose declarations carries an issue, or a covered class
pub record IsSoundType (U : Upgrade) (ty : Ty) : Type 0 where
  pub covers : covers_group_type U.program.declarations ty ≡ true
  pub sound : IsSoundShape U (type_shape U ty)

-- the user types and classes of parameters of what passes are so
abbrev pub ParametersAreSound : Upgrade → Type 0
ParametersAreSound U =
    (q i : ℕ) (ty : Ty) → Passes U q → is_group_type ty ≡ true
    → is_type_at U.program.declarations ty (slice_get (params_at (slice_get U.program.declarations.procs q)) i) ≡ true → IsSoundType U ty

-- ---- under one pledge

-- the values of expressions that are covered and well formed
abbrev pub FormedExpressionsAgreeBy : Upgrade → Pledge → Type 0
FormedExpressionsAgreeBy U K =
    (w : World) (p : ℕ) (f : SourceFrame) (g : NetFrame) (oracle : SourceCalls) (net_oracle : Jobs) (l : SourceLine) (k : NetLine) (c : Code)
    (T : Scope) (uses : Uses) (e : Expr) → MemoryMatch U w → FrameMatch U K w p f g → T.declarations ≡ U.program.declarations
    → IsOpen (scope_of U.written c g k) → AreReadable U T uses → ArePlaced U p f (scope_of U.written c g k) T uses → CallsAgree U (Passes U) oracle net_oracle
    → AllCalled (demands U K p l k (scope_of U.written c g k) T) e → covers_expr uses e ≡ true → is_formed e ≡ true
    → Agrees U K w (ScalarMatch U (type_at e))
    (source.value_of (context_of U oracle p f l) e w.src)
    (target.value_of (scope_of U.written c g k) net_oracle (exp_of T e) w.net)

-- the same as scalars without their type
abbrev pub FormedScalarsAgreeBy : Upgrade → Pledge → Type 0
FormedScalarsAgreeBy U K =
    (w : World) (p : ℕ) (f : SourceFrame) (g : NetFrame) (oracle : SourceCalls) (net_oracle : Jobs) (l : SourceLine) (k : NetLine) (c : Code)
    (T : Scope) (uses : Uses) (e : Expr) → MemoryMatch U w → FrameMatch U K w p f g → T.declarations ≡ U.program.declarations
    → IsOpen (scope_of U.written c g k) → AreReadable U T uses → ArePlaced U p f (scope_of U.written c g k) T uses → CallsAgree U (Passes U) oracle net_oracle
    → AllCalled (demands U K p l k (scope_of U.written c g k) T) e → covers_expr uses e ≡ true → is_formed e ≡ true
    → Agrees U K w (PlainMatch U (type_at e))
    (source.scalar_value (context_of U oracle p f l) e w.src)
    (target.value_of (scope_of U.written c g k) net_oracle (exp_of T e) w.net)

-- the array and the indexes of an element of a covered array
abbrev pub IndexesAgreeBy : Upgrade → Pledge → Type 0
IndexesAgreeBy U K =
    (w : World) (p : ℕ) (f : SourceFrame) (g : NetFrame) (oracle : SourceCalls) (net_oracle : Jobs) (l : SourceLine) (k : NetLine) (c : Code)
    (T : Scope) (uses : Uses) (ty : Ty) (a : Expr) (indexes : Exprs) → MemoryMatch U w → FrameMatch U K w p f g → T.declarations ≡ U.program.declarations
    → IsOpen (scope_of U.written c g k) → AreReadable U T uses → ArePlaced U p f (scope_of U.written c g k) T uses → CallsAgree U (Passes U) oracle net_oracle
    → AllCalled (demands U K p l k (scope_of U.written c g k) T) (typed ty (element a indexes)) → covers_array uses a ≡ true → covers_exprs uses indexes ≡ true
    → is_formed (typed ty (element a indexes)) ≡ true
    → Agrees U K w (IndexedMatch U (lows_at (context_of U oracle p f l) a) ty)
    (then (source.address_of (context_of U oracle p f l) a w.src) (λ b s.
    then (source.indexes_of (context_of U oracle p f l) indexes s) (λ zs s. gives [] (b, zs) s)))
    (target.reach (scope_of U.written c g k) net_oracle false (exp_of T (typed ty (element a indexes))) w.net)

-- the element, before the last check of its index
abbrev pub ElementsAgreeBy : Upgrade → Pledge → Type 0
ElementsAgreeBy U K =
    (w : World) (p : ℕ) (f : SourceFrame) (g : NetFrame) (oracle : SourceCalls) (net_oracle : Jobs) (l : SourceLine) (k : NetLine) (c : Code)
    (T : Scope) (uses : Uses) (ty : Ty) (a : Expr) (indexes : Exprs) → MemoryMatch U w → FrameMatch U K w p f g → T.declarations ≡ U.program.declarations
    → IsOpen (scope_of U.written c g k) → AreReadable U T uses → ArePlaced U p f (scope_of U.written c g k) T uses → CallsAgree U (Passes U) oracle net_oracle
    → AllCalled (demands U K p l k (scope_of U.written c g k) T) (typed ty (element a indexes)) → covers_array uses a ≡ true → covers_exprs uses indexes ≡ true
    → is_formed (typed ty (element a indexes)) ≡ true
    → Agrees U K w (ElementMatch U ty)
    (source.term_parts (context_of U oracle p f l) ty (element a indexes) w.src)
    (target.reach (scope_of U.written c g k) net_oracle false (exp_of T (typed ty (element a indexes))) w.net)

-- the address of a covered array variable
abbrev pub ArraysAgreeBy : Upgrade → Pledge → Type 0
ArraysAgreeBy U K =
    (w : World) (p : ℕ) (f : SourceFrame) (g : NetFrame) (oracle : SourceCalls) (net_oracle : Jobs) (l : SourceLine) (k : NetLine) (c : Code)
    (T : Scope) (uses : Uses) (d : Ty) (rank : ℕ) (t : Term) → MemoryMatch U w → FrameMatch U K w p f g → T.declarations ≡ U.program.declarations
    → AreReadable U T uses → ArePlaced U p f (scope_of U.written c g k) T uses → covers_array uses (typed (array d rank) t) ≡ true
    → Agrees U K w (ArrayMatch U K d (rank_of U (typed (array d rank) t)))
    (source.address_of (context_of U oracle p f l) (typed (array d rank) t) w.src)
    (target.address_of (scope_of U.written c g k) net_oracle (exp_of T (typed (array d rank) t)) w.net)

-- the address of a covered place
abbrev pub PlacesAgreeBy : Upgrade → Pledge → Type 0
PlacesAgreeBy U K =
    (w : World) (p : ℕ) (f : SourceFrame) (g : NetFrame) (oracle : SourceCalls) (net_oracle : Jobs) (l : SourceLine) (k : NetLine) (c : Code)
    (T : Scope) (uses : Uses) (ty : Ty) (tm : Term) → MemoryMatch U w → FrameMatch U K w p f g → T.declarations ≡ U.program.declarations
    → AreReadable U T uses → ArePlaced U p f (scope_of U.written c g k) T uses
    → AllCalled (demands U K p l k (scope_of U.written c g k) T) (typed ty tm) → covers_place uses (typed ty tm) ≡ true
    → Agrees U K w (PlaceMatch U K ty)
    (source.address_of (context_of U oracle p f l) (typed ty tm) w.src)
    (target.address_of (scope_of U.written c g k) net_oracle (exp_of T (typed ty tm)) w.net)

-- the address of an As New variable, of which no object is made
abbrev pub AutosAreReachedBy : Upgrade → Pledge → Type 0
AutosAreReachedBy U K =
    (w : World) (p : ℕ) (f : SourceFrame) (g : NetFrame) (oracle : SourceCalls) (net_oracle : Jobs) (l : SourceLine) (k : NetLine) (c : Code)
    (T : Scope) (uses : Uses) (of_class : ℕ) (v : VarId) (qualified : Bool) → MemoryMatch U w → FrameMatch U K w p f g
    → T.declarations ≡ U.program.declarations → AreReadable U T uses → ArePlaced U p f (scope_of U.written c g k) T uses
    → uses.auto v (class of_class) ≡ true → uses.named v qualified ≡ true
    → Agrees U K w (AutoMatch U K of_class)
    (then (source.term_parts (context_of U oracle p f l) (class of_class) (variable v qualified) w.src) source.finished)
    (target.address_of (scope_of U.written c g k) net_oracle (target_exp T (typed (class of_class) (variable v qualified))) w.net)

-- the parts of a variable of an object
abbrev pub MembersAgreeBy : Upgrade → Pledge → Type 0
MembersAgreeBy U K =
    (w : World) (p : ℕ) (f : SourceFrame) (g : NetFrame) (oracle : SourceCalls) (net_oracle : Jobs) (l : SourceLine) (k : NetLine) (c : Code)
    (T : Scope) (uses : Uses) (ty : Ty) (of_class i : ℕ) (tm : Term) (member_type : Ty) (m : IsMember U of_class i member_type) → MemoryMatch U w
    → FrameMatch U K w p f g → T.declarations ≡ U.program.declarations → IsOpen (scope_of U.written c g k) → AreReadable U T uses
    → ArePlaced U p f (scope_of U.written c g k) T uses → CallsAgree U (Passes U) oracle net_oracle
    → AllCalled (demands U K p l k (scope_of U.written c g k) T) (typed (class of_class) tm) → covers_object uses (typed (class of_class) tm) ≡ true
    → Agrees U K w (ReachedMember U of_class m.number)
    (source.parts_of (context_of U oracle p f l) (typed ty (field (typed (class of_class) tm) i)) w.src)
    (target.reach (scope_of U.written c g k) net_oracle false (exp_of T (typed ty (field (typed (class of_class) tm) i))) w.net)

-- a user type or an object as a value
abbrev pub GroupsAgreeBy : Upgrade → Pledge → Type 0
GroupsAgreeBy U K =
    (w : World) (p : ℕ) (f : SourceFrame) (g : NetFrame) (oracle : SourceCalls) (net_oracle : Jobs) (l : SourceLine) (k : NetLine) (c : Code)
    (T : Scope) (uses : Uses) (ty : Ty) (tm : Term) → MemoryMatch U w → FrameMatch U K w p f g → T.declarations ≡ U.program.declarations
    → IsOpen (scope_of U.written c g k) → AreReadable U T uses → ArePlaced U p f (scope_of U.written c g k) T uses → CallsAgree U (Passes U) oracle net_oracle
    → AllCalled (demands U K p l k (scope_of U.written c g k) T) (typed ty tm) → covers_group uses (typed ty tm) ≡ true
    → is_formed (typed ty tm) ≡ true
    → Agrees U K w (ValueMatch U (type_shape U ty))
    (source.value_of (context_of U oracle p f l) (typed ty tm) w.src)
    (target.value_of (scope_of U.written c g k) net_oracle (exp_of T (typed ty tm)) w.net)

-- an object at an address of its class
abbrev pub ObjectsAgreeBy : Upgrade → Pledge → Type 0
ObjectsAgreeBy U K =
    (w : World) (p : ℕ) (f : SourceFrame) (g : NetFrame) (oracle : SourceCalls) (net_oracle : Jobs) (l : SourceLine) (k : NetLine) (c : Code)
    (T : Scope) (uses : Uses) (of_class : ℕ) (tm : Term) → MemoryMatch U w → FrameMatch U K w p f g → T.declarations ≡ U.program.declarations
    → IsOpen (scope_of U.written c g k) → AreReadable U T uses → ArePlaced U p f (scope_of U.written c g k) T uses → CallsAgree U (Passes U) oracle net_oracle
    → AllCalled (demands U K p l k (scope_of U.written c g k) T) (typed (class of_class) tm) → covers_object uses (typed (class of_class) tm) ≡ true
    → is_formed (typed (class of_class) tm) ≡ true
    → Agrees U K w (ObjectMatch U of_class)
    (source.value_of (context_of U oracle p f l) (typed (class of_class) tm) w.src)
    (target.address_of (scope_of U.written c g k) net_oracle (exp_of T (typed (class of_class) tm)) w.net)

-- ---- under any pledge

abbrev pub FormedScalarsAgree : Upgrade → Type 1
FormedScalarsAgree U = (K : Pledge) → FormedScalarsAgreeBy U K
