-- A line that uses what a With keeps stands in that With.
use Rattle.std.proofs.Common.{◌≡◌, refl, sym, subst, ℕ, zero, suc, ◌<◌, Bool, true, ◌&&◌, Option, Some, None, List, [], ◌∷◌, length, true≢false, arith}
use Rattle.std.specs.List.{Contains, list_all}
use Rattle.std.specs.Prelude.{slice_index_or}
use Rattle.vb_tree.specs.BoundTree.{Ty}
use Rattle.bound_tree.specs.Targets.{with_round}
use Rattle.bound_tree.specs.Tree.{Expr, Line, typed, variable, element, call, library, new_object, with_object}
use Rattle.bound_tree.specs.declared.expression.Root.{Root}
use Rattle.bound_facts.proofs.Chains.{both_true}
use Rattle.run_base.specs.Machines.{nth_line}
use Rattle.vb6_run.specs.Forms.{SourceLine}
use Rattle.net_run.specs.Lines.{NetLine}
use Rattle.net_run.specs.Names as net_names
use Rattle.run_matches.specs.CoveredLines.{covers_line, head_line, is_with, is_within_with, keeps_by, keeps_with}
use Rattle.run_matches.specs.CoveredVariables.{covers_group_type, covers_made}
use Rattle.run_matches.specs.Frames.{lines_of}
use Rattle.run_matches.specs.Pledges.{Pledge}
use Rattle.run_matches.specs.Upgrades.{Upgrade}
use Rattle.run_statements.specs.Frames.{StandsWithin, CanCall, CanMake, CanMakeAt, demands}
use Rattle.run_statements.specs.Kept.{made_at, qualified_at, receiver_at, used_at}
use Rattle.run_statements.specs.Fitting.{FitsNode}
use Rattle.bound_facts.specs.Node.{args_at, called}
use Rattle.written_trees.specs.Names.{Scope}
use Rattle.line_laws.proofs.Called.{NodeHas}

-- what all pass, one of them passes
pub all_contained : {A : Type 0} (t : A → Bool) (xs : List A) (x : A) → Contains xs x → list_all t xs ≡ true → t x ≡ true
all_contained t xs x c all = by xs c.0 c.1 c.2 all
  where
    by : (xs : List _) (k : ℕ) → k < length xs → slice_index_or xs k x ≡ x → list_all t xs ≡ true → t x ≡ true
    by [] k lt e all = absurd (omega arith)
    by (y ∷ ys) zero lt e all = subst (λ z. t z ≡ true) e (both_true (t y) (list_all t ys) all).0
    by (y ∷ ys) (suc k) lt e all = by ys k (omega arith) e (both_true (t y) (list_all t ys) all).1

module _ (U : Upgrade) (p : ℕ) (l : SourceLine) (k : NetLine) (ty : Ty) (r : Root) (aims : k.aims ≡ l.aims) where
  by_line : (head : ℕ) → with_round l.aims ≡ Some head → (o : Option Line) → nth_line (lines_of U p) head ≡ o → keeps_with U.program p o ty r ≡ true
      → StandsWithin U p l k ty r
  by_line head round None is h = absurd (true≢false (sym h))
  by_line head round (Some m) is h =
      let first =
      both_true (covers_line U.program p m)
      (is_with m.source.form && (keeps_by m.bindings.exprs ty r && covers_group_type U.program.declarations ty)) h in
      let second = both_true (is_with m.source.form) (keeps_by m.bindings.exprs ty r && covers_group_type U.program.declarations ty) first.1 in
      let third = both_true (keeps_by m.bindings.exprs ty r) (covers_group_type U.program.declarations ty) second.1 in
      record {
        head = head;
        is_round = round;
        line = m;
        is_line = is;
        covers = first.0;
        is_head = second.0;
        keeps = third.0;
        kind = third.1;
        same_aims = aims;
      }

  by_round : (o : Option ℕ) → with_round l.aims ≡ o → keeps_with U.program p (head_line (lines_of U p) o) ty r ≡ true → StandsWithin U p l k ty r
  by_round None round h = absurd (true≢false (sym h))
  by_round (Some head) round h = by_line head round (nth_line (lines_of U p) head) refl h

  pub stands_within : is_within_with U.program p (head_line (lines_of U p) (with_round l.aims)) (typed ty (with_object r)) ≡ true → StandsWithin U p l k ty r
  stands_within h = by_round (with_round l.aims) refl h

-- what is demanded of a node by itself
pub node_has : (U : Upgrade) (K : Pledge) (p : ℕ) (l : SourceLine) (k : NetLine) (S : net_names.Scope) (T : Scope) (d : Expr)
    → ((q : ℕ) → called d ≡ Some q → CanCall U K S T p q (qualified_at d) (receiver_at d) (args_at d))
    → ((class : ℕ) → made_at d ≡ Some class → covers_made U.program class ≡ true → CanMake U K S T class)
    → ((v : ℕ) → used_at d ≡ Some v → CanMakeAt U K S T v) → FitsNode U d → k.aims ≡ l.aims
    → is_within_with U.program p (head_line (lines_of U p) (with_round l.aims)) d ≡ true → NodeHas (demands U K p l k S T) d
node_has U K p l k S T (typed ty (call q qualified of args)) can makes autos fits aims within = can q.0 refl
node_has U K p l k S T (typed ty (element a indexes)) can makes autos fits aims within = fits
node_has U K p l k S T (typed ty (library f args)) can makes autos fits aims within = fits
node_has U K p l k S T (typed ty (variable v qualified)) can makes autos fits aims within = autos v.0 refl
node_has U K p l k S T (typed ty (new_object c)) can makes autos fits aims within = makes c.0 refl
node_has U K p l k S T (typed ty (with_object r)) can makes autos fits aims within = stands_within U p l k ty r aims within
node_has U K p l k S T (typed ty t) can makes autos fits aims within = tt
