-- A procedure is clean by the marks of passes together exactly where it is clean by those of each.
use Rattle.std.proofs.Common.{◌≡◌, ℕ, zero, suc, Bool, true, false, List, [], ◌∷◌, map, Option, Some, None, slice_get, refl, sym, ap, ◌∙◌}
use Rattle.std.specs.Prelude.{◌||◌, ◌&&◌, ◌↔◌}
use Rattle.std.specs.List.{Contains}
use Rattle.up_base.specs.declared.place.Place.{Place}
use Rattle.bound_tree.specs.declared.marks.Marks.{Marks}
use Rattle.bound_tree.specs.declared.rule_set.RuleSet.{RuleSet}
use Rattle.bound_tree.specs.RuleSets.{is_broken}
use Rattle.bound_tree.specs.Tree.{Variable, Constant, Declarations, Program}
use Rattle.bound_facts.specs.Clean.{Point, procedure, variable, constant, user_type, option_line, IsClean, constant_broken, constants_broken, is_statement, option_broken, point_broken, set_broken, sets_broken, variable_broken, variables_broken}
use Rattle.clean_procedures.specs.Verdicts.{IsCleanByAll}
use Rattle.written_trees.specs.Facts.{list_set, set_at, set_or_none}
use Rattle.written_trees.specs.Prologues.{union}
use Rattle.written_facts.specs.United.{AreUnited}
use Rattle.upgrade_laws.proofs.Lists.{here}
use Rattle.upgrade_laws.proofs.Tests.{or_false, left_false, right_false}
use Rattle.upgrade_laws.proofs.Breaking.{none_whole, union_whole, each_whole}

-- a test of marks that fails of those of passes together exactly where it fails of those of each
pub record Joins (ms : List Marks) (m : Marks) (test : Marks → Bool) : Type 0 where
  pub together : ((g : Marks) → Contains ms g → test g ≡ false) → test m ≡ false
  pub apart : test m ≡ false → (g : Marks) → Contains ms g → test g ≡ false

-- ---- sets

pub set_is : (o : Option RuleSet) → set_broken o ≡ is_broken (set_or_none o)
set_is None = sym none_whole
set_is (Some s) = refl

whole_at : (sets : List RuleSet) (k : ℕ) → sets_broken (Some sets) ≡ false → is_broken (set_at sets k) ≡ false
whole_at [] k h = none_whole
whole_at (s ∷ sets) zero h = left_false (is_broken s) (sets_broken (Some sets)) h
whole_at (s ∷ sets) (suc k) h = whole_at sets k (right_false (is_broken s) (sets_broken (Some sets)) h)

all_whole : (sets : List RuleSet) → ((k : ℕ) → is_broken (set_at sets k) ≡ false) → sets_broken (Some sets) ≡ false
all_whole [] h = refl
all_whole (s ∷ sets) h = or_false (is_broken s) (sets_broken (Some sets)) (h zero) (all_whole sets (λ k. h (suc k)))

line_whole : (o : Option (List RuleSet)) → sets_broken o ≡ false → (k : ℕ) → is_broken (list_set o k) ≡ false
line_whole None h k = none_whole
line_whole (Some sets) h k = whole_at sets k h

lines_whole : (o : Option (List RuleSet)) → ((k : ℕ) → is_broken (list_set o k) ≡ false) → sets_broken o ≡ false
lines_whole None h = refl
lines_whole (Some sets) h = all_whole sets h

-- ---- tests

module _ (ms : List Marks) (m : Marks) where
  union_joins : (s : Marks → RuleSet) → s m ≡ union (map s ms) → Joins ms m (λ (g : Marks). is_broken (s g))
  union_joins s e = record {
    together = λ h. ap is_broken e ∙ union_whole s ms h;
    apart = λ h g i. each_whole s ms (ap is_broken (sym e) ∙ h) g i;
  }

  pub same_joins : (a b : Marks → Bool) → ((g : Marks) → b g ≡ a g) → Joins ms m a → Joins ms m b
  same_joins a b e j = record {
    together = λ h. e m ∙ j.together (λ g i. sym (e g) ∙ h g i);
    apart = λ h g i. e g ∙ j.apart (sym (e m) ∙ h) g i;
  }

  pub set_joins : (f : Marks → Option RuleSet) → set_or_none (f m) ≡ union (map (λ (g : Marks). set_or_none (f g)) ms)
      → Joins ms m (λ (g : Marks). set_broken (f g))
  set_joins f e =
      same_joins (λ (g : Marks). is_broken (set_or_none (f g))) (λ (g : Marks). set_broken (f g)) (λ g. set_is (f g))
      (union_joins (λ (g : Marks). set_or_none (f g)) e)

  or_joins : (a b : Marks → Bool) → Joins ms m a → Joins ms m b → Joins ms m (λ (g : Marks). a g || b g)
  or_joins a b j k = record {
    together = λ h. or_false (a m) (b m) (j.together (λ g i. left_false (a g) (b g) (h g i))) (k.together (λ g i. right_false (a g) (b g) (h g i)));
    apart = λ h g i. or_false (a g) (b g) (j.apart (left_false (a m) (b m) h) g i) (k.apart (right_false (a m) (b m) h) g i);
  }

  and_joins : (t : Bool) (a : Marks → Bool) → Joins ms m a → Joins ms m (λ (g : Marks). t && a g)
  and_joins true a j = j
  and_joins false a j = record { together = λ h. refl; apart = λ h g i. refl }

  pub never_joins : Joins ms m (λ (g : Marks). false)
  never_joins = record { together = λ h. refl; apart = λ h g i. refl }

  module _ (u : AreUnited ms m) where
    pub line_joins : (p k : ℕ) → Joins ms m (λ (g : Marks). is_broken (list_set (slice_get g.lines p) k))
    line_joins p k = union_joins (λ (g : Marks). list_set (slice_get g.lines p) k) (u.lines p k)

    lines_join : (p : ℕ) → Joins ms m (λ (g : Marks). sets_broken (slice_get g.lines p))
    lines_join p = record {
      together = λ h. lines_whole (slice_get m.lines p) (λ k. (line_joins p k).together (λ g i. line_whole (slice_get g.lines p) (h g i) k));
      apart = λ h g i. lines_whole (slice_get g.lines p) (λ k. (line_joins p k).apart (line_whole (slice_get m.lines p) h k) g i);
    }

    variables_join : (place : Place) (n k : ℕ) (vs : List Variable) → Joins ms m (λ (g : Marks). variables_broken g.vars place n k vs)
    variables_join place n k [] = never_joins
    variables_join place n k (v ∷ vs) =
        or_joins (λ (g : Marks). is_statement place n v.place v.statement && set_broken (slice_get g.vars k)) (λ (g : Marks). variables_broken g.vars place n (suc k) vs)
        (and_joins (is_statement place n v.place v.statement) (λ (g : Marks). set_broken (slice_get g.vars k)) (set_joins (λ (g : Marks). slice_get g.vars k) (u.vars k)))
        (variables_join place n (suc k) vs)

    constants_join : (place : Place) (n k : ℕ) (cs : List Constant) → Joins ms m (λ (g : Marks). constants_broken g.consts place n k cs)
    constants_join place n k [] = never_joins
    constants_join place n k (c ∷ cs) =
        or_joins (λ (g : Marks). is_statement place n c.place c.statement && set_broken (slice_get g.consts k)) (λ (g : Marks). constants_broken g.consts place n (suc k) cs)
        (and_joins (is_statement place n c.place c.statement) (λ (g : Marks). set_broken (slice_get g.consts k)) (set_joins (λ (g : Marks). slice_get g.consts k) (u.consts k)))
        (constants_join place n (suc k) cs)

    statement_joins : (D : Declarations) (place : Place) (n : ℕ)
        → Joins ms m (λ (g : Marks). variables_broken g.vars place n 0 D.vars || constants_broken g.consts place n 0 D.consts)
    statement_joins D place n =
        or_joins (λ (g : Marks). variables_broken g.vars place n 0 D.vars) (λ (g : Marks). constants_broken g.consts place n 0 D.consts)
        (variables_join place n 0 D.vars) (constants_join place n 0 D.consts)

    variable_joins : (D : Declarations) (o : Option Variable) → Joins ms m (λ (g : Marks). variable_broken D g o)
    variable_joins D None = never_joins
    variable_joins D (Some v) = statement_joins D v.place v.statement

    constant_joins : (D : Declarations) (o : Option Constant) → Joins ms m (λ (g : Marks). constant_broken D g o)
    constant_joins D None = never_joins
    constant_joins D (Some c) = statement_joins D c.place c.statement

-- ---- points

-- an Option line breaks a rule whatever is marked, so there has to be a pass
fixed_joins : (t : Bool) (g : Marks) (ms : List Marks) (m : Marks) → Joins (g ∷ ms) m (λ (x : Marks). t)
fixed_joins t g ms m = record { together = λ h. h g (here g ms); apart = λ h x i. h }

pub point_joins : (D : Declarations) (g : Marks) (ms : List Marks) (m : Marks) → AreUnited (g ∷ ms) m → (q : Point)
    → Joins (g ∷ ms) m (λ (x : Marks). point_broken D x q)
point_joins D g ms m u (procedure p) =
    or_joins (g ∷ ms) m (λ (x : Marks). set_broken (slice_get x.heads p)) (λ (x : Marks). sets_broken (slice_get x.lines p))
    (set_joins (g ∷ ms) m (λ (x : Marks). slice_get x.heads p) (u.heads p)) (lines_join (g ∷ ms) m u p)
point_joins D g ms m u (variable v) = variable_joins (g ∷ ms) m u D (slice_get D.vars v)
point_joins D g ms m u (constant c) = constant_joins (g ∷ ms) m u D (slice_get D.consts c)
point_joins D g ms m u (user_type t) = set_joins (g ∷ ms) m (λ (x : Marks). slice_get x.types t) (u.types t)
point_joins D g ms m u (option_line file n) = fixed_joins (option_broken file n D.project.modules) g ms m

-- ---- procedures

pub clean_together : (P : Program) (g : Marks) (ms : List Marks) (m : Marks) → AreUnited (g ∷ ms) m → (p : ℕ) → IsCleanByAll P (g ∷ ms) p → IsClean P m p
clean_together P g ms m u p h q path = (point_joins P.declarations g ms m u q).together (λ x i. h x i q path)

pub clean_apart : (P : Program) (g : Marks) (ms : List Marks) (m : Marks) → AreUnited (g ∷ ms) m → (p : ℕ) → IsClean P m p → IsCleanByAll P (g ∷ ms) p
clean_apart P g ms m u p h x i q path = (point_joins P.declarations g ms m u q).apart (h q path) x i

pub clean_is_joint : (P : Program) (g : Marks) (ms : List Marks) (m : Marks) → AreUnited (g ∷ ms) m → (p : ℕ) → IsCleanByAll P (g ∷ ms) p ↔ IsClean P m p
clean_is_joint P g ms m u p = (clean_together P g ms m u p, clean_apart P g ms m u p)
