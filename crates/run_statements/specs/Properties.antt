-- What a Let and a Set of a property do in frames and memories that match.
use Rattle.std.specs.Prelude.{◌≡◌, ◌⊎◌, ℕ, Bool, true, false, Some, None, List, [], ◌∷◌, ◌++◌, length, slice_get}
use Rattle.vb_tree.specs.BoundTree.{Ty, class}
use Rattle.vb_tree.specs.declared.declared.ProcId.{ProcId}
use Rattle.vb_tree.specs.declared.value.Value6.{Value6}
use Rattle.bound_tree.specs.Tree.{typed, Term, call, Object, no_object, of_object, Passed}
use Rattle.run_base.specs.Frames.{by_value}
use Rattle.run_base.specs.Outcomes.{gives, then}
use Rattle.vb6_run.specs.Expressions as source
use Rattle.vb6_run.specs.Expressions.{Context, Receiver, args_of, caller, receiver, receiver_of}
use Rattle.vb6_run.specs.Forms.{SourceLine}
use Rattle.vb6_run.specs.Store.{Does, SourceCalls, SourceFrame, SourceGiven}
use Rattle.vb6_run.specs.Values.{Value, scalar}
use Rattle.net_run.specs.Calls.{Arguments}
use Rattle.net_run.specs.Expressions as target
use Rattle.net_run.specs.Lines.{NetFrame, NetLine, assigned, scope_of}
use Rattle.net_run.specs.Making.{Jobs}
use Rattle.net_run.specs.Members.{Code}
use Rattle.net_run.specs.Names.{Callee, Reached, called, named}
use Rattle.net_run.specs.Values as net_value
use Rattle.written_trees.specs.Exprs.{exp_of, has_none}
use Rattle.written_trees.specs.Names.{Scope}
use Rattle.run_matches.specs.Addresses.{TakesValue}
use Rattle.run_matches.specs.Agreeing.{Agrees}
use Rattle.run_matches.specs.CoveredExprs.{Uses, count_passed, covers_passed, covers_receiver, is_giving, is_taking}
use Rattle.run_matches.specs.CoveredVariables.{covers_group_type, covers_type}
use Rattle.run_matches.specs.Formed.{passed_are_formed}
use Rattle.run_matches.specs.Frames.{FrameMatch}
use Rattle.run_matches.specs.Likeness.{LikeV}
use Rattle.run_matches.specs.Maps.{World}
use Rattle.run_matches.specs.Match.{MemoryMatch}
use Rattle.run_matches.specs.Pledges.{Later, NetGiven, Pledge, still}
use Rattle.run_matches.specs.Runs.{CallsAgree}
use Rattle.run_matches.specs.Upgrades.{Upgrade}
use Rattle.run_statements.specs.Arguments.{ArgumentsMatch}
use Rattle.run_statements.specs.Frames.{AllCalledFor, AllCalledOf, AnyUnits, AreReadable, ArePlaced, CanCall, IsOpen, context_of, demands, type_shape}
use Rattle.run_statements.specs.Groups.{ValueMatch}
use Rattle.run_statements.specs.Ways.{Way, callee_by}
use Rattle.run_statements.specs.Written.{Passes}

-- a callee that takes arguments stands by its name, where it has none, or as its call
abbrev pub IsReachedAs : Callee → Arguments → Reached → Type 0
IsReachedAs callee ys r = ((ys ≡ []) × (r ≡ named callee)) ⊎ (r ≡ called callee ys)

-- The object and the indexes of a property on one side, and on the other what takes a value, where it isn't seen yet whether there is an object.
pub data SetterMatch (U : Upgrade) (K : Pledge) (procedure count : ℕ) (way : Way) (number : ℕ) : Object → World → Receiver → List SourceGiven → Reached → Type 0 where
  set_for_none : (w : World) (xs : List SourceGiven) (ys : List NetGiven) (r : Reached) → length xs ≡ count → ArgumentsMatch U K procedure 0 w xs ys
      → IsReachedAs (callee_by way None number) ys r → SetterMatch U K procedure count way number no_object w caller xs r
  set_for_object : (c : ℕ) (t : Term) (w : World) (x : Value6) (y : net_value.Value) (xs : List SourceGiven) (ys : List NetGiven) (r : Reached)
      → LikeV U w (scalar (class c) x) y → length xs ≡ count → ArgumentsMatch U K procedure 0 w xs ys → IsReachedAs (callee_by way (Some y) number) ys r
      → SetterMatch U K procedure count way number (of_object (typed (class c) t)) w (receiver (Some c) (scalar (class c) x)) xs r

-- the object of a property and its indexes, which are evaluated before it takes a value
abbrev pub set_parts : Context → (procedure : ℕ) → Object → Passed → Does (Receiver × List SourceGiven)
set_parts C q of args w = then (receiver_of C of w) (λ r w. then (args_of C q 0 args w) (λ gs w. gives [] (r, gs) w))

-- Under the promise of their evaluation the property needn't be called.
abbrev pub SettersAgreeBy : Upgrade → (promised called : Pledge) → Type 0
SettersAgreeBy U K L =
    (w : World) (p : ℕ) (f : SourceFrame) (g : NetFrame) (oracle : SourceCalls) (net_oracle : Jobs) (l : SourceLine) (k : NetLine) (c : Code)
    (T : Scope) (uses : Uses) (ty : Ty) (q : ProcId) (qualified : Bool) (of : Object) (args : Passed) → MemoryMatch U w → FrameMatch U K w p f g
    → T.declarations ≡ U.program.declarations → IsOpen (scope_of U.written c g k) → AreReadable U T uses
    → ArePlaced U p f (scope_of U.written c g k) T uses → CallsAgree U (Passes U) oracle net_oracle
    → (can : CanCall U L (scope_of U.written c g k) T p q.0 qualified of args) → AllCalledFor (demands U K p l k (scope_of U.written c g k) T) args
    → AllCalledOf (demands U K p l k (scope_of U.written c g k) T) of
    → is_giving (slice_get U.program.declarations.procs q.0) ≡ false → covers_receiver uses of ≡ true → covers_passed uses args ≡ true
    → passed_are_formed args ≡ true
    → Agrees U K w (λ u x r. SetterMatch U K q.0 (count_passed args) can.way can.number of u x.0 x.1 r)
    (set_parts (context_of U oracle p f l) q.0 of args w.src)
    (target.reach (scope_of U.written c g k) net_oracle false (exp_of T (typed ty (call q qualified of args))) w.net)

-- a value may be evaluated behind indexes where it changes nothing
abbrev pub MayFollow : Upgrade → Pledge → (from to : World) → Passed → Type 0
MayFollow U K u v args = (has_none args ≡ true) ⊎ Later U (still K u) u v

-- The value goes to the property, where it is seen whether there is an object: both call its Let or Set, or raise 91.
abbrev pub PropertiesAreSetBy : Upgrade → Pledge → Type 0
PropertiesAreSetBy U K =
    (u w : World) (p : ℕ) (f : SourceFrame) (g : NetFrame) (oracle : SourceCalls) (net_oracle : Jobs) (l : SourceLine) (k : NetLine) (c : Code)
    (T : Scope) (ty : Ty) (q : ℕ) (qualified : Bool) (of : Object) (args : Passed) (r : Receiver) (xs : List SourceGiven) (reached : Reached) (x : Value)
    (y : net_value.Value) → Later U K u w → MayFollow U K u w args → MemoryMatch U w → FrameMatch U K w p f g → CallsAgree U (Passes U) oracle net_oracle
    → (can : CanCall U K (scope_of U.written c g k) T p q qualified of args) → is_giving (slice_get U.program.declarations.procs q) ≡ false
    → SetterMatch U K q (count_passed args) can.way can.number of u r xs reached
    → is_taking U.program.declarations (count_passed args) ty (slice_get U.program.declarations.procs q) ≡ true → TakesValue U q (count_passed args)
    → (covers_type ty ≡ true) ⊎ (covers_group_type U.program.declarations ty ≡ true) → ValueMatch U (type_shape U ty) w x y
    → Agrees U K w AnyUnits
    (then (source.entered (context_of U oracle p f l) q r (xs ++ by_value x ∷ []) w.src) (λ z w. gives [] tt w))
    (assigned (scope_of U.written c g k) net_oracle reached y w.net)

abbrev pub SettersAgree : Upgrade → Type 1
SettersAgree U = (K L : Pledge) → SettersAgreeBy U K L

abbrev pub PropertiesAreSet : Upgrade → Type 1
PropertiesAreSet U = (K : Pledge) → PropertiesAreSetBy U K
