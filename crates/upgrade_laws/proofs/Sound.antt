-- A line is clean by the marks of passes together where it is clean by those of each.
use Rattle.std.proofs.Common.{◌≡◌, ℕ, zero, suc, false, List, ◌∷◌, Option, Some, None, slice_get, refl, sym, subst, ◌∙◌}
use Rattle.std.specs.List.{Contains}
use Rattle.std.proofs.lemmas.Option.{same_Some}
use Rattle.bound_tree.specs.declared.marks.Marks.{Marks}
use Rattle.bound_tree.specs.declared.rule_set.RuleSet.{RuleSet}
use Rattle.bound_tree.specs.RuleSets.{is_broken}
use Rattle.bound_tree.specs.Tree.{Line, Program}
use Rattle.bound_facts.specs.Clean.{Point}
use Rattle.written_trees.specs.Facts.{list_set}
use Rattle.written_facts.specs.United.{AreUnited}
use Rattle.run_matches.specs.CleanLines.{IsCleanLine, IsSoundLine, IsSoundPoint, broken_in, is_broken_line, line_points}
use Rattle.upgrade_laws.proofs.Lists.{here}
use Rattle.upgrade_laws.proofs.Breaking.{none_whole}
use Rattle.upgrade_laws.proofs.Cleanness.{Joins, set_is, line_joins, never_joins, point_joins, same_joins}

no_line : (o : Option (List RuleSet)) → broken_in o zero ≡ false
no_line None = refl
no_line (Some sets) = refl

some_line : (o : Option (List RuleSet)) (k : ℕ) → broken_in o (suc k) ≡ is_broken (list_set o k)
some_line None k = sym none_whole
some_line (Some sets) k = set_is (slice_get sets k)

module _ (P : Program) (g : Marks) (ms : List Marks) (m : Marks) (u : AreUnited (g ∷ ms) m) where
  number_joins : (p n : ℕ) → Joins (g ∷ ms) m (λ (x : Marks). is_broken_line x p n)
  number_joins p zero =
      same_joins (g ∷ ms) m (λ (x : Marks). false) (λ (x : Marks). is_broken_line x p zero) (λ x. no_line (slice_get x.lines p)) (never_joins (g ∷ ms) m)
  number_joins p (suc k) =
      same_joins (g ∷ ms) m (λ (x : Marks). is_broken (list_set (slice_get x.lines p) k)) (λ (x : Marks). is_broken_line x p (suc k))
      (λ x. some_line (slice_get x.lines p) k) (line_joins (g ∷ ms) m u p k)

  pub sound_point : (a : Point) → ((x : Marks) → Contains (g ∷ ms) x → IsSoundPoint P x a) → IsSoundPoint P m a
  sound_point a h b path = (point_joins P.declarations g ms m u b).together (λ x i. h x i b path)

  pub sound_line : (p n : ℕ) → ((x : Marks) → Contains (g ∷ ms) x → IsSoundLine P x p n) → IsSoundLine P m p n
  sound_line p n h =
      let own : IsSoundLine P g p n = h g (here g ms) in
      record {
        line = own.line;
        is_line = own.is_line;
        unbroken = (number_joins p n).together (λ x i. (h x i).unbroken);
        mentions = λ a c. sound_point a (λ x i. (h x i).mentions a
            (subst (λ (l : Line). Contains (line_points P.declarations p l) a) (same_Some own.line (h x i).line (sym own.is_line ∙ (h x i).is_line)) c));
        options = λ a c. sound_point a (λ x i. (h x i).options a c);
        names = λ a c. sound_point a (λ x i. (h x i).names a c);
      }

  pub clean_line : (p n : ℕ) → ((x : Marks) → Contains (g ∷ ms) x → IsCleanLine P x p n) → IsCleanLine P m p n
  clean_line p n h = record {
    itself = sound_line p n (λ x i. (h x i).itself);
    block = λ b k e f. sound_line p k (λ x i. (h x i).block b k e f);
    withs = λ b c. (number_joins p b).together (λ x i. (h x i).withs b c);
  }
