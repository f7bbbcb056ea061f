-- What is evaluated of an element before the bounds of its array are asked: the array and the indexes.
use Rattle.std.specs.Prelude.{◌≡◌, ℕ, ℤ, Bool, true, false, ◌&&◌, List, [], length}
use Rattle.vb_tree.specs.BoundTree.{Ty}
use Rattle.bound_tree.specs.Tree.{Expr, typed, element, Exprs}
use Rattle.net_meaning.specs.declared.value.ValueN.TheVariants as n
use Rattle.run_base.specs.Outcomes.{gives, then}
use Rattle.run_base.specs.Positions.{Position}
use Rattle.written_trees.specs.Exprs.{exp_of}
use Rattle.written_trees.specs.Names.{Scope}
use Rattle.vb6_run.specs.Arrays.{Lows, has_lows, have_long_lows, takes_indexes}
use Rattle.vb6_run.specs.Expressions as source
use Rattle.vb6_run.specs.Expressions.{lows_at}
use Rattle.vb6_run.specs.Forms.{SourceLine}
use Rattle.vb6_run.specs.Shapes as source_shape
use Rattle.vb6_run.specs.Shapes.{simple}
use Rattle.vb6_run.specs.Store.{Address, root, SourceCalls, SourceFrame}
use Rattle.vb6_run.specs.Values.{Dimension}
use Rattle.net_run.specs.Expressions as target
use Rattle.net_run.specs.Lines.{NetFrame, NetLine, scope_of}
use Rattle.net_run.specs.Making.{Jobs}
use Rattle.net_run.specs.Members.{Code}
use Rattle.net_run.specs.Names as net_names
use Rattle.net_run.specs.Shapes as shape
use Rattle.net_run.specs.Values as net_value
use Rattle.run_matches.specs.Addresses.{SameIndexes}
use Rattle.run_matches.specs.Agreeing.{Agrees}
use Rattle.run_matches.specs.CoveredExprs.{Uses, covers_array, covers_exprs}
use Rattle.run_matches.specs.Formed.{is_formed}
use Rattle.run_matches.specs.Frames.{FrameMatch}
use Rattle.run_matches.specs.Likeness.{SameShape}
use Rattle.run_matches.specs.Maps.{World, IsMatched, is_auto_root}
use Rattle.run_matches.specs.Match.{HasArray, MemoryMatch}
use Rattle.run_matches.specs.Pledges.{Pledge}
use Rattle.run_matches.specs.Runs.{CallsAgree}
use Rattle.run_matches.specs.Upgrades.{Upgrade}
use Rattle.run_statements.specs.Frames.{AllCalled, AreReadable, ArePlaced, IsOpen, context_of, demands}
use Rattle.run_statements.specs.Written.{Passes}

-- the source takes these indexes of an array
abbrev pub takes : Lows → List Dimension → (indexes : List ℤ) → Bool
takes lows dims zs = has_lows lows dims && (have_long_lows dims && takes_indexes dims zs)

-- The array stands on both sides, and where the source takes the indexes, they are the same.
pub record IndexedMatch (U : Upgrade) (lows : Lows) (ty : Ty) (w : World) (x : Address × List ℤ) (r : net_names.Reached) : Type 0 where
  pub position : Position
  pub bounds : List (ℤ × ℤ)
  pub written : shape.Shape
  pub array : ℕ
  pub is_matched : IsMatched U w position
  pub plain : is_auto_root U w.map position.root ≡ false
  pub has : HasArray U w position (simple ty) array
  pub same : SameShape U (simple ty) written
  pub net_indexes : List net_value.Value
  pub stands : x.0 ≡ root (source_shape.array (simple ty) bounds) position
  pub net_stands : r ≡ net_names.found_at (net_names.at_element written (net_value.single (n.Array array)) net_indexes)
  pub same_indexes : takes lows has.dims x.1 ≡ true → SameIndexes has.dims x.1 net_indexes
  pub counted : length (w.net.arrays array).counts ≡ length net_indexes

-- the array and the indexes of an element of a covered array
abbrev pub IndexesAgree : Upgrade → Type 1
IndexesAgree U =
    (K : Pledge) (w : World) (p : ℕ) (f : SourceFrame) (g : NetFrame) (oracle : SourceCalls) (net_oracle : Jobs) (l : SourceLine) (k : NetLine) (c : Code)
    (T : Scope) (uses : Uses) (ty : Ty) (a : Expr) (indexes : Exprs) → MemoryMatch U w → FrameMatch U K w p f g → T.declarations ≡ U.program.declarations
    → IsOpen (scope_of U.written c g k) → AreReadable U T uses → ArePlaced U p f (scope_of U.written c g k) T uses → CallsAgree U (Passes U) oracle net_oracle
    → AllCalled (demands U K p l k (scope_of U.written c g k) T) (typed ty (element a indexes)) → covers_array uses a ≡ true → covers_exprs uses indexes ≡ true
    → is_formed (typed ty (element a indexes)) ≡ true
    → Agrees U K w (IndexedMatch U (lows_at (context_of U oracle p f l) a) ty)
    (then (source.address_of (context_of U oracle p f l) a w.src) (λ b s.
    then (source.indexes_of (context_of U oracle p f l) indexes s) (λ zs s. gives [] (b, zs) s)))
    (target.reach (scope_of U.written c g k) net_oracle false (exp_of T (typed ty (element a indexes))) w.net)
