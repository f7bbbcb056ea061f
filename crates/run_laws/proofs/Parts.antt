-- Parts of properties that are written as one: their heads carry no rule, and their values have the type of the first part.
use Rattle.std.proofs.Common.{◌≡◌, refl, sym, ap, subst, ◌∙◌, ℕ, Bool, true, false, cond, ◌&&◌, true≢false, Some, List, [], ◌∷◌, nat_eq, eq-eqb, eqb-true}
use Rattle.std.specs.Prelude.{◌||◌, is_some, slice_get}
use Rattle.std.specs.Cmp.Lexicographic.{pointwise}
use Rattle.std.specs.List.{list_any}
use Rattle.up_base.proofs.Tests.{both_true}
use Rattle.vb_tree.specs.declared.declared.ProcKind.{ProcKind}
use Rattle.vb_tree.specs.declared.declared.ProcKind.TheVariants as kind
use Rattle.bound_tree.specs.declared.marks.Marks.{Marks}
use Rattle.bound_tree.specs.RuleSets.{first, has, rule_numbers}
use Rattle.bound_tree.specs.Tree.{Declarations, Procedure, Program}
use Rattle.bound_facts.specs.Clean.{IsClean, procedure, set_broken, sets_broken, stays}
use Rattle.written_trees.specs.Arguments.{is_property_kind}
use Rattle.written_trees.specs.Facts.{head_set}
use Rattle.written_trees.specs.Names.{procedure_name}
use Rattle.run_matches.specs.Covered.{covers_joined}
use Rattle.run_matches.specs.CoveredExprs.{takes_value}
use Rattle.run_matches.specs.JoinedProperties.{is_joined, is_like_first, is_placed_part, are_parts}
use Rattle.run_matches.specs.Upgrades.{Upgrade}
use Rattle.run_statements.specs.Written.{IsUnparted}
use Rattle.name_laws.proofs.Lists.{neither}
use Rattle.name_laws.proofs.Sets.{unbroken_set}
use Rattle.run_laws.proofs.Covered.{all_at, same_numbers}
use Rattle.vb_tree.specs.declared.declared.Owner.TheVariants as owner

-- ---- heads that carry no rule

abbrev Fails : (ℕ → Bool) → List ℕ → ℕ → Type 0
Fails test ns n = list_any (nat_eq n) ns ≡ true → is_some (first test ns) ≡ false → test n ≡ false

no_rule : (test : ℕ → Bool) (ns : List ℕ) (n : ℕ) → Fails test ns n
no_rule test [] n m h = absurd (true≢false (sym m))
no_rule test (k ∷ ns) n m h = by (test k) refl h (no_rule test ns n)
  where
    there : (b : Bool) → nat_eq n k ≡ b → (b || list_any (nat_eq n) ns) ≡ true → test k ≡ false → is_some (first test ns) ≡ false → Fails test ns n
        → test n ≡ false
    there true e l fails more rest = ap test (eqb-true n k e) ∙ fails
    there false e l fails more rest = rest l more

    by : (b : Bool) → test k ≡ b → is_some (cond b (Some k) (first test ns)) ≡ false → Fails test ns n → test n ≡ false
    by true e q rest = absurd (true≢false q)
    by false e q rest = there (nat_eq n k) refl m e q rest

-- the head of a clean procedure breaks no rule
head_unbroken : (P : Program) (M : Marks) (p : ℕ) → IsClean P M p → set_broken (slice_get M.heads p) ≡ false
head_unbroken P M p clean =
    (neither (set_broken (slice_get M.heads p)) (sets_broken (slice_get M.lines p)) (clean (procedure p) (stays (procedure p)))).0

pub clean_unparted : (U : Upgrade) (p : ℕ) (x : Procedure) → IsClean U.program U.facts.marks p → IsUnparted U p x
clean_unparted U p x clean property =
    no_rule (has (head_set U.facts p)) rule_numbers 7 refl (unbroken_set U.facts.marks.heads p (head_unbroken U.program U.facts.marks p clean))

-- ---- kinds

pub part_joined : (D : Declarations) (p : ℕ) (x : Procedure) → covers_joined D p x ≡ true → is_property_kind x.kind ≡ true → is_joined D p x ≡ true
part_joined D p x h e = subst (λ b. cond b (is_joined D p x) true ≡ true) e h

-- a Let and a Set are parts of properties
pub taking_part : (k : ProcKind) → takes_value k ≡ true → is_property_kind k ≡ true
taking_part kind.Let h = refl
taking_part kind.Set h = refl
taking_part _ h = absurd (true≢false (sym h))

-- a procedure that gives a result is no part of a property or a Get
pub giving_part : (k : ProcKind) → takes_value k ≡ false → is_property_kind k ≡ true → k ≡ kind.Get
giving_part kind.Get h e = refl
giving_part kind.Sub h e = absurd (true≢false (sym e))
giving_part kind.Function h e = absurd (true≢false (sym e))
giving_part kind.Let h e = absurd (true≢false h)
giving_part kind.Set h e = absurd (true≢false h)

-- ---- parts

-- what is known of a part that is written in one with the others
pub record JoinedPart (D : Declarations) (p : ℕ) (x : Procedure) : Type 0 where
  pub parts : are_parts D x.first.0 ≡ true
  pub placed : is_placed_part D p x ≡ true
  pub name : procedure_name D x.first.0 ≡ x.name
  pub like : is_like_first D x (slice_get D.procs x.first.0) ≡ true

pub joined_part : (D : Declarations) (p : ℕ) (x : Procedure) → is_joined D p x ≡ true → JoinedPart D p x
joined_part D p x h =
    let named = pointwise nat_eq (procedure_name D x.first.0) x.name in
    let a = both_true (are_parts D x.first.0 && is_placed_part D p x) (named && is_like_first D x (slice_get D.procs x.first.0)) h in
    let b = both_true (are_parts D x.first.0) (is_placed_part D p x) a.0 in
    let c = both_true named (is_like_first D x (slice_get D.procs x.first.0)) a.1 in
    record { parts = b.0; placed = b.1; name = same_numbers (procedure_name D x.first.0) x.name c.0; like = c.1 }

-- what has its first part is a part of it
abbrev is_part_of : (first : ℕ) → Procedure → Bool
is_part_of first q = cond (nat_eq q.first.0 first) (is_property_kind q.kind) true

pub part_kind : (D : Declarations) (first p : ℕ) (x : Procedure) → are_parts D first ≡ true → slice_get D.procs p ≡ Some x → x.first.0 ≡ first
    → is_property_kind x.kind ≡ true
part_kind D first p x h e of =
    subst (λ b. cond b (is_property_kind x.kind) true ≡ true) (eq-eqb x.first.0 first of) (all_at (is_part_of first) D.procs p x h e)
