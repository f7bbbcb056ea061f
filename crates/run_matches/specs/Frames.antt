-- When frames of both languages match, and what a frame has as its own.
use Rattle.std.specs.Prelude.{◌≡◌, ◌⊎◌, ℕ, ℤ, suc, ◌<◌, Bool, true, false, not, ◌&&◌, ◌||◌, cond, nat_eq, Option, Some, None, option_map, List, [], ◌∷◌, ◌++◌, map, slice_get}
use Rattle.std.specs.List.{list_any}
use Rattle.std.specs.Map.{lookup}
use Rattle.vb_tree.specs.BoundTree as types
use Rattle.vb_tree.specs.BoundTree.{Ty, user}
use Rattle.vb_tree.specs.declared.declared.VarId.{VarId}
use Rattle.vb_tree.specs.declared.value.Value6.{Value6}
use Rattle.vb_tree.specs.Tree.{Form, for_head, select, with_head}
use Rattle.bound_tree.specs.Tree.{Expr, Line, Variable}
use Rattle.bound_tree.specs.Tree as tree
use Rattle.bound_tree.specs.declared.expression.Root as expression
use Rattle.bound_tree.specs.declared.expression.Root.TheVariants as at
use Rattle.bound_facts.specs.Effects.{is_own_variable, is_outside}
use Rattle.bound_facts.specs.Facts.{is_quiet}
use Rattle.bound_facts.specs.Members.{class_files}
use Rattle.bound_facts.specs.Node as node
use Rattle.bound_facts.specs.SelfMade.{module_of}
use Rattle.net_tree.specs.Tree as net_tree
use Rattle.net_tree.specs.Types.{TypeName}
use Rattle.run_base.specs.Frames.{Kept, keeps_nothing, keeps_limit, keeps_value, keeps_address}
use Rattle.run_base.specs.Positions.{Root, Position, shared, made, field, whole}
use Rattle.vb6_run.specs.Programs.{is_static_of}
use Rattle.vb6_run.specs.Runnables.{is_class_file, static_root}
use Rattle.run_base.specs.Machines.{nth_line}
use Rattle.vb6_run.specs.Shapes.{Shape, simple, group, array, endless, variable_shape, user_shapes}
use Rattle.vb6_run.specs.Store.{Address, root, item, constant, SourceFrame}
use Rattle.vb6_run.specs.Values.{Value, scalar}
use Rattle.net_run.specs.Lines.{NetFrame, kept_address}
use Rattle.net_run.specs.Members.{Code, params_of, result_of}
use Rattle.net_run.specs.Names.{var_in}
use Rattle.net_run.specs.Shapes as shape
use Rattle.net_run.specs.Store as net
use Rattle.net_run.specs.Values as net_value
use Rattle.run_matches.specs.CleanLines.{lines_at}
use Rattle.run_matches.specs.CoveredVariables.{covers_type}
use Rattle.run_matches.specs.CoveredExprs.{IsUsed, is_relied_on, uses_in}
use Rattle.run_matches.specs.CoveredLines.{covers_line, is_local_in, is_passing_in, is_with}
use Rattle.run_matches.specs.Covered.{is_reference_in}
use Rattle.run_matches.specs.Upgrades.{Upgrade, code_of, is_flagged, is_auto}
use Rattle.run_matches.specs.Maps.{World, mark, Below, moved_at}
use Rattle.run_matches.specs.Likeness.{SameShape}
use Rattle.run_matches.specs.Pledges.{Own, Pledge, IsOld, pledge, own_object}
use Rattle.run_matches.specs.Addresses.{AllMatched, AllRanked, Bound, position_of, IsPlain, IsElement, IsInPlace, IsScalarAt, IsTarget, IsWhole, KeptMatch, AllLocked, Same}
use Rattle.written_trees.specs.Names.{variable_name_of}
use Rattle.run_matches.specs.SoundShapes.{IsSoundShape}

-- ---- the variables of a frame

abbrev pub name_of : Upgrade → (variable : ℕ) → List ℕ
name_of U v = variable_name_of (slice_get U.program.declarations.vars v)

abbrev pub is_scalar_in : Option Variable → Bool
is_scalar_in None = false
is_scalar_in (Some x) = covers_type x.ty

-- a quiet parameter that is a scalar, which may be bound to a value
abbrev pub is_mirrored : Upgrade → (variable : ℕ) → Bool
is_mirrored U v = is_quiet U.program.declarations U.known v && is_scalar_in (slice_get U.program.declarations.vars v)

-- A variable of the source's frame by its number stands for one of the target's by its name.
pub record SameVariable (U : Upgrade) (K : Pledge) (w : World) (v : ℕ) (a : Address) (g : NetFrame) : Type 0 where
  pub address : net.Address
  pub found : var_in g.vars (name_of U v) ≡ Some address
  pub bound : Bound U K w (not (is_mirrored U v)) a address
  -- an array has the rank of its declaration
  pub ranked : (element : shape.Shape) (rank : ℕ) → net.shape_at address ≡ shape.array element rank → rank ≡ U.facts.rank v
  pub plain : is_auto U v ≡ false → IsPlain U w a

-- the source finds a Static in its module, the target in its frame
pub record SameStatic (U : Upgrade) (w : World) (v : ℕ) (r : Root) (g : NetFrame) : Type 0 where
  pub written : shape.Shape
  pub found : var_in g.vars (name_of U v) ≡ Some (net.root written (moved_at U w.map (whole r)))
  pub same : SameShape U (variable_shape U.program.declarations v) written
  pub is_matched : AllMatched U w (variable_shape U.program.declarations v) (whole r)
  pub ranked : AllRanked U w (variable_shape U.program.declarations v) written (whole r)

abbrev pub is_static_in : (procedure : ℕ) → Option Variable → Bool
is_static_in p None = false
is_static_in p (Some x) = is_static_of p x.owner

abbrev pub static_of : Upgrade → (procedure : ℕ) → (me : Option ℕ) → (variable : ℕ) → Option Root
static_of U p me v =
    cond (is_static_in p (slice_get U.program.declarations.vars v))
    (static_root U.program.declarations me v (module_of (slice_get U.program.declarations.procs p))) None

abbrev pub is_own_of : Upgrade → (procedure variable : ℕ) → Bool
is_own_of U p v = is_own_variable p (slice_get U.program.declarations.vars v)

-- ---- the names that a written procedure declares

abbrev pub result_names : Option (List ℕ × TypeName) → List (List ℕ)
result_names None = []
result_names (Some r) = r.0 ∷ []

abbrev pub dim_name : net_tree.Dim → List ℕ
dim_name (net_tree.local v) = v.name
dim_name (net_tree.static_local v) = v.name
dim_name (net_tree.constant c) = c.name

abbrev pub declared_names : Code → List (List ℕ)
declared_names c = map (λ (p : net_tree.Param). p.name) (params_of c) ++ (result_names (result_of c) ++ map dim_name c.procedure.prologue)

abbrev pub HasNames : Option Code → NetFrame → Type 0
HasNames None g = ⊥
HasNames (Some c) g = map (λ x. x.0) g.vars ≡ declared_names c

-- ---- the heads of With blocks

abbrev pub is_own_first : Upgrade → (procedure : ℕ) → List Expr → Bool
is_own_first U p [] = false
is_own_first U p (e ∷ es) = not (is_outside U.program.declarations.vars p (node.root e))

-- the head of a With on a variable of the procedure's own, or on what no variable holds
abbrev pub is_own_head : Upgrade → (procedure : ℕ) → Form → List Expr → Bool
is_own_head U p (with_head e) es = is_own_first U p es
is_own_head U p f es = false

abbrev pub is_own_line : Upgrade → (procedure : ℕ) → Line → Bool
is_own_line U p l = is_own_head U p l.source.form l.bindings.exprs

abbrev pub lines_of : Upgrade → (procedure : ℕ) → List Line
lines_of U p = lines_at U.program p

abbrev pub is_mirrored_root : Upgrade → expression.Root → Bool
is_mirrored_root U (at.Variable v) = is_mirrored U v.0
is_mirrored_root U at.Object = false
is_mirrored_root U at.Temporary = false

abbrev pub is_mirrored_first : Upgrade → List Expr → Bool
is_mirrored_first U [] = false
is_mirrored_first U (e ∷ es) = is_mirrored_root U (node.root e)

abbrev pub is_mirrored_head : Upgrade → Form → List Expr → Bool
is_mirrored_head U (with_head e) es = is_mirrored_first U es
is_mirrored_head U f es = false

-- all heads but those of a With on such a parameter
abbrev pub is_exact_head : Upgrade → Option Line → Bool
is_exact_head U None = true
is_exact_head U (Some l) = not (is_mirrored_head U l.source.form l.bindings.exprs)

-- ---- places

-- the place of a variable, which was made for it, with the shape of its declaration
pub record HasPlace (U : Upgrade) (w : World) (v : ℕ) (a : Address) : Type 0 where
  pub place : ℕ
  pub stands : a ≡ root (variable_shape U.program.declarations v) (whole (made place))
  pub is_made : place < w.src.next
  pub declared : w.map.declares place ≡ Some v

-- ---- the object of a frame

-- an object that was made, of the class of a file
pub record OwnObject (U : Upgrade) (w : World) (file : ℕ) (me : Option ℕ) : Type 0 where
  pub object : ℕ
  pub is_me : me ≡ Some object
  pub is_made : object < w.src.next_object
  pub class : ℕ
  pub is_class : w.src.class_of object ≡ Some class
  pub is_file : slice_get (class_files U.program.declarations.project) class ≡ Some file

-- A procedure of a class is called for an object of that class; one of a standard module goes on with the object of its caller.
abbrev pub HasOwnObject : Upgrade → World → (procedure : ℕ) → (me : Option ℕ) → Type 0
HasOwnObject U w p me =
    (file : ℕ) → module_of (slice_get U.program.declarations.procs p) ≡ Some file → is_class_file U.program.declarations file ≡ true
    → OwnObject U w file me

-- ---- what the heads of blocks keep, where they are covered

-- the addresses of a user type, none of whose declarations carries an issue, which can be written
pub record WithPlace (U : Upgrade) (K : Pledge) (w : World) (user_type : ℕ) (a : Address) (b : net.Address) : Type 0 where
  pub position : Position
  pub stands : a ≡ root (user_shapes U.program.declarations user_type) position
  pub sound : IsSoundShape U (user_shapes U.program.declarations user_type)
  pub same : Same U K w a b
  pub target : IsTarget U a
  pub plain : IsPlain U w a

-- an object, as a value of its class on one side, which stands with its class on the other
pub record KeepsObject (x : Value) (j : Kept net_value.Value net.Address) (class : ℕ) : Type 0 where
  pub object : Value6
  pub is_object : x ≡ scalar (types.class class) object
  pub address : net.Address
  pub is_kept : j ≡ keeps_address address

-- what a With on a user type keeps is no value, and what one on an object keeps is one
abbrev pub KeepsPlace : Upgrade → Pledge → World → List Expr → Kept Value Address → Kept net_value.Value net.Address → Type 0
KeepsPlace U K w (e ∷ []) (keeps_address a) j =
    ((t : ℕ) → node.type_at e ≡ user t → WithPlace U K w t a (kept_address j)) × ((c : ℕ) → node.type_at e ≡ types.class c → ⊥)
KeepsPlace U K w (e ∷ []) (keeps_value x) j =
    ((t : ℕ) → node.type_at e ≡ user t → ⊥) × ((c : ℕ) → node.type_at e ≡ types.class c → KeepsObject x j c)
KeepsPlace U K w es k j = Unit {0}

-- the counter is a variable of the frame, and limit and step have its type
pub record CounterKept (vars : List (ℕ × Address)) (ty : Ty) (v : ℕ) (a : Address) (x y : Value) : Type 0 where
  pub found : lookup (nat_eq v) vars ≡ Some a
  pub place : (q : Position) × (a ≡ root (simple ty) q)
  pub limit : (z : Value6) × (x ≡ scalar ty z)
  pub step : (z : Value6) × (y ≡ scalar ty z)

abbrev pub CountedTerm : List (ℕ × Address) → Ty → tree.Term → Address → (limit step : Value) → Type 0
CountedTerm vars ty (tree.variable v qualified) a x y = CounterKept vars ty v.0 a x y
CountedTerm vars ty t a x y = Unit {0}

abbrev pub CountedBy : List (ℕ × Address) → List Expr → Address → (limit step : Value) → Type 0
CountedBy vars [] a x y = Unit {0}
CountedBy vars (tree.typed ty t ∷ es) a x y = CountedTerm vars ty t a x y

abbrev pub IsCounting : List (ℕ × Address) → List Expr → Kept Value Address → Type 0
IsCounting vars es keeps_nothing = Unit {0}
IsCounting vars es (keeps_limit a x y) = CountedBy vars es a x y
IsCounting vars es (keeps_value x) = Unit {0}
IsCounting vars es (keeps_address a) = Unit {0}

-- a value of the type of the expression, on both sides
abbrev pub ChosenBy : List Expr → Value → Kept net_value.Value net.Address → Type 0
ChosenBy [] x j = Unit {0}
ChosenBy (e ∷ es) x keeps_nothing = Unit {0}
ChosenBy (e ∷ es) x (keeps_limit b y z) = Unit {0}
ChosenBy (e ∷ es) x (keeps_value y) = (z : Value6) × (x ≡ scalar (node.type_at e) z)
ChosenBy (e ∷ es) x (keeps_address b) = ⊥

abbrev pub IsChoice : List Expr → Kept Value Address → Kept net_value.Value net.Address → Type 0
IsChoice es keeps_nothing j = Unit {0}
IsChoice es (keeps_limit a x y) j = Unit {0}
IsChoice es (keeps_value x) j = ChosenBy es x j
IsChoice es (keeps_address a) j = Unit {0}

-- what a head keeps is what it computes, by its form
abbrev pub KeptBy : List (ℕ × Address) → Form → List Expr → Kept Value Address → Kept net_value.Value net.Address → Type 0
KeptBy vars (for_head counter start limit step) es k j = IsCounting vars es k
KeptBy vars (select e) es k j = IsChoice es k j
KeptBy vars f es k j = Unit {0}

-- ---- frames

-- The target's frame stands for the source's, as one of the procedure p: they are at the same line, with the same handling of errors and
-- the images of object, variables and what heads keep, but for variables whose declarations carry an issue.
pub record FrameMatch (U : Upgrade) (K : Pledge) (w : World) (p : ℕ) (f : SourceFrame) (g : NetFrame) : Type 0 where
  pub line : g.line ≡ f.line
  pub handler : g.handler ≡ f.handler
  pub active : g.active ≡ f.active
  pub resume : g.resume ≡ f.resume
  pub me : g.me ≡ option_map w.map.objects f.me
  pub me_made : (o : ℕ) → f.me ≡ Some o → o < w.src.next_object
  pub own_object : HasOwnObject U w p f.me
  pub names : HasNames (code_of U p) g
  pub vars : (v : ℕ) (a : Address) → lookup (nat_eq v) f.vars ≡ Some a → is_flagged U v ≡ false → SameVariable U K w v a g
  pub statics : (v : ℕ) (r : Root) → static_of U p f.me v ≡ Some r → is_flagged U v ≡ false → SameStatic U w v r g
  -- its own variables have places that are known by them, and a With on one of them, or on a result, keeps an address in a place
  pub own : (v : ℕ) (a : Address) → lookup (nat_eq v) f.vars ≡ Some a → is_own_of U p v ≡ true → HasPlace U w v a
  pub own_heads :
      (h : ℕ) (l : Line) (a : Address) → slice_get (lines_of U p) h ≡ Some l → is_own_line U p l ≡ true → f.kept (suc h) ≡ keeps_address a → IsInPlace a
  pub kept : (h : ℕ) → KeptMatch U K w (is_exact_head U (nth_line (lines_of U p) h)) (f.kept h) (g.kept h)
  pub covered_heads :
      (h : ℕ) (l : Line) → nth_line (lines_of U p) h ≡ Some l → covers_line U.program p l ≡ true
      → KeptBy f.vars l.source.form l.bindings.exprs (f.kept h) (g.kept h)
  pub covered_withs :
      (h : ℕ) (l : Line) → nth_line (lines_of U p) h ≡ Some l → covers_line U.program p l ≡ true → is_with l.source.form ≡ true
      → KeepsPlace U K w l.bindings.exprs (f.kept h) (g.kept h)
  -- the local variables of the procedure are there
  pub has_locals : (v : ℕ) → is_local_in p (slice_get U.program.declarations.vars v) ≡ true → (a : Address) × (lookup (nat_eq v) f.vars ≡ Some a)
  -- and so are its parameters and its result variable
  pub has_passing : (v : ℕ) → is_passing_in p (slice_get U.program.declarations.vars v) ≡ true → (a : Address) × (lookup (nat_eq v) f.vars ≡ Some a)
  pub locks : AllLocked U K w f.env
  pub low : Below K.base (mark w.src)

-- ---- parameters by reference

-- a parameter of the procedure that takes a reference
abbrev pub is_reference_of : Upgrade → (procedure variable : ℕ) → Bool
is_reference_of U p v = is_reference_in p (slice_get U.program.declarations.vars v)

-- A variable of a shape; a scalar may be an element of an array, and an array may have other bounds, as a fixed one that is given to a
-- parameter.
abbrev pub StandsAs : Shape → Address → Position → Type 0
StandsAs (simple ty) a q = IsScalarAt ty a q
StandsAs (group t fs) a q = a ≡ root (group t fs) q
StandsAs (array e bounds) a q = (others : List (ℤ × ℤ)) × (a ≡ root (array e others) q)
StandsAs endless a q = a ≡ root endless q

-- it is bound to a variable of the shape of its declaration, which can be written
pub record GivenPlace (U : Upgrade) (v : ℕ) (a : Address) : Type 0 where
  pub position : Position
  pub stands : StandsAs (variable_shape U.program.declarations v) a position
  pub target : IsTarget U a

-- a mirrored one may stand for a value
pub record GivenAddress (U : Upgrade) (v : ℕ) (a : Address) : Type 0 where
  pub of_scalars : IsWhole a ⊎ IsElement a
  pub whole : is_relied_on U.program v ≡ true → IsWhole a
  pub place : is_mirrored U v ≡ false → GivenPlace U v a

-- so it is with those that a line uses
abbrev pub GivenStand : Upgrade → (procedure : ℕ) → SourceFrame → Line → Type 0
GivenStand U p f l =
    (v : VarId) (a : Address) → IsUsed (uses_in U.program p l.bindings.mentions) v → is_reference_of U p v.0 ≡ true → lookup (nat_eq v.0) f.vars ≡ Some a
    → GivenAddress U v.0 a

-- ---- what a frame may change

-- an address of what wasn't there at the mark, or is the procedure's own
abbrev pub IsOwnAddress : Pledge → Address → Type 0
IsOwnAddress K a = (q : Position) → position_of a ≡ Some q → IsOld K q.root → ⊥

-- the local variables, the result variable and the value parameters are own, and so is what a With on one of them keeps
pub record OwnsAll (U : Upgrade) (K : Pledge) (p : ℕ) (f : SourceFrame) : Type 0 where
  pub variables : (v : ℕ) (a : Address) → lookup (nat_eq v) f.vars ≡ Some a → is_own_of U p v ≡ true → IsOwnAddress K a
  pub heads :
      (h : ℕ) (l : Line) (a : Address) → slice_get (lines_of U p) h ≡ Some l → is_own_line U p l ≡ true → f.kept (suc h) ≡ keeps_address a
      → IsOwnAddress K a

-- a line leads to frames that match, of the same object
pub record NextMatch (U : Upgrade) (K : Pledge) (p : ℕ) (me : Option ℕ) (w : World) (f : SourceFrame) (g : NetFrame) : Type 0 where
  pub same_object : f.me ≡ me
  pub frames : FrameMatch U K w p f g
  pub owns : OwnsAll U K p f

-- ---- the pledge of a frame

abbrev pub is_place : ℕ → Root → Bool
is_place n (shared k) = false
is_place n (made m) = nat_eq n m
is_place n (field o k) = false

abbrev pub stands_in : ℕ → Address → Bool
stands_in n (root s q) = is_place n q.root
stands_in n (item e q j path) = is_place n q.root
stands_in n (constant x) = false

abbrev pub is_kept_in : ℕ → Kept Value Address → Bool
is_kept_in n keeps_nothing = false
is_kept_in n (keeps_limit a y s) = false
is_kept_in n (keeps_value x) = false
is_kept_in n (keeps_address a) = stands_in n a

-- of lines that are numbered from h
abbrev pub is_kept_from : Upgrade → (procedure : ℕ) → SourceFrame → (place h : ℕ) → List Line → Bool
is_kept_from U p f n h [] = false
is_kept_from U p f n h (l ∷ ls) = (is_own_line U p l && is_kept_in n (f.kept h)) || is_kept_from U p f n (suc h) ls

abbrev pub is_own_place : Upgrade → (procedure : ℕ) → SourceFrame → (place : ℕ) → Bool
is_own_place U p f n = list_any (λ (x : ℕ × Address). is_own_of U p x.0 && stands_in n x.1) f.vars || is_kept_from U p f n 1 (lines_of U p)

abbrev pub own_of : Upgrade → (procedure : ℕ) → SourceFrame → Own
own_of U p f = record { places = is_own_place U p f; object = own_object U p f.me }

abbrev pub takes_none : (array : ℕ) → Type 0
takes_none k = ⊥

-- what a frame promises from where it stands
abbrev pub frame_pledge : Upgrade → (procedure : ℕ) → World → SourceFrame → Pledge
frame_pledge U p w f = pledge U p (mark w.src) (own_of U p f) takes_none
