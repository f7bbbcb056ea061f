-- Where a part of a property breaks no rule on properties, none of its parts does.
use Rattle.std.proofs.Common.{◌≡◌, ℕ, zero, suc, ◌+◌, Bool, true, false, List, [], ◌∷◌, map, Some, refl, sym, ap, ◌∙◌, arith, nat_eq, eqb-true}
use Rattle.std.specs.Prelude.{◌&&◌, ◌||◌, slice_get}
use Rattle.std.proofs.lemmas.Option.{none-some, same_Some}
use Rattle.vb_tree.specs.declared.declared.ProcKind.{ProcKind}
use Rattle.vb_tree.specs.declared.declared.ProcKind.TheVariants as kind
use Rattle.vb_tree.specs.Tree.{Project}
use Rattle.bound_tree.specs.declared.body.Bound.{Bound}
use Rattle.bound_tree.specs.declared.marks.Marks.{Marks}
use Rattle.bound_tree.specs.declared.rule_set.RuleSet.{RuleSet}
use Rattle.bound_tree.specs.RuleSets.{both, has, none, with_if}
use Rattle.bound_tree.specs.Tree.{Declarations, Procedure}
use Rattle.bound_tree.specs.View.{program_of}
use Rattle.bound_tree.proofs.RuleLaws.{has_both, has_with_if}
use Rattle.bound_facts.specs.Facts.{is_quiet}
use Rattle.object_rules.specs.Properties as shapes
use Rattle.object_rules.specs.Rows as objects
use Rattle.object_rules.specs.Terminators.{is_terminator}
use Rattle.byref_analysis.specs.Properties as indexes
use Rattle.byref_analysis.specs.Rows as references
use Rattle.array_bounds.specs.Declaring.{breaks_head}
use Rattle.array_bounds.specs.Rows as arrays
use Rattle.broken_rules.specs.declared.passes.Found.{Found}
use Rattle.broken_rules.specs.Marks.{all_marks}
use Rattle.broken_rules.specs.View.{AreFound, IsBoundTo, passes_of}
use Rattle.written_trees.specs.Arguments.{is_property_kind}
use Rattle.written_trees.specs.Facts.{Facts, head_set, set_at}
use Rattle.written_trees.specs.Properties.{carries_shape}
use Rattle.written_facts.specs.United.{AreUnited}
use Rattle.upgrade_laws.proofs.SparedHeads.{declared_heads_spare}
use Rattle.upgrade_laws.proofs.SparedPlans.{if_spares}
use Rattle.upgrade_laws.proofs.SparedRules.{SparesShape, both_spare, none_spares}
use Rattle.upgrade_laws.proofs.Tests.{left_false, right_false, or_false}

-- ---- unions

left_spares : (a b : RuleSet) → SparesShape (both a b) → SparesShape a
left_spares a b h = left_false (has a 7) (has b 7) (sym (has_both a b 7) ∙ h)

right_spares : (a b : RuleSet) → SparesShape (both a b) → SparesShape b
right_spares a b h = right_false (has a 7) (has b 7) (sym (has_both a b 7) ∙ h)

-- ---- sets of heads

map_spares : (f : Procedure → RuleSet) → ((q : Procedure) → SparesShape (f q)) → (qs : List Procedure) (k : ℕ) → SparesShape (set_at (map f qs) k)
map_spares f h [] k = none_spares
map_spares f h (q ∷ qs) zero = h q
map_spares f h (q ∷ qs) (suc k) = map_spares f h qs k

set_of : (f : Procedure → RuleSet) (qs : List Procedure) (k : ℕ) (q : Procedure) → slice_get qs k ≡ Some q → set_at (map f qs) k ≡ f q
set_of f [] k q e = absurd (none-some q e)
set_of f (r ∷ qs) zero q e = ap f (same_Some r q e)
set_of f (r ∷ qs) (suc k) q e = set_of f qs k q e

-- ---- the shape of a property

shape_set : (D : Declarations) (q : Procedure) → has (objects.head_rules D q) 7 ≡ (shapes.breaks_shape D q || has none 7)
shape_set D q =
    has_with_if (with_if none 7 (shapes.breaks_shape D q)) 13 7 (is_terminator D q) ∙ has_with_if none 7 7 (shapes.breaks_shape D q)

index_set : (opens : ℕ → Bool) (q : Procedure) → has (references.head_rules opens q) 7 ≡ (indexes.breaks_head opens q || has none 7)
index_set opens q = has_with_if none 7 7 (indexes.breaks_head opens q)

part_of_shape : (k : ProcKind) (b : Bool) → is_property_kind k ≡ true → (shapes.is_property k && b) ≡ false → b ≡ false
part_of_shape kind.Get b h e = e
part_of_shape kind.Let b h e = e
part_of_shape kind.Set b h e = e
part_of_shape kind.Sub b h e = absurd (cc h)
part_of_shape kind.Function b h e = absurd (cc h)

part_of_index : (k : ProcKind) (b : Bool) → is_property_kind k ≡ true → (indexes.is_part k && b) ≡ false → b ≡ false
part_of_index kind.Get b h e = e
part_of_index kind.Let b h e = e
part_of_index kind.Set b h e = e
part_of_index kind.Sub b h e = absurd (cc h)
part_of_index kind.Function b h e = absurd (cc h)

later_false : (a b : Bool) → b ≡ false → (a && b) ≡ false
later_false true b e = e
later_false false b e = refl

same_shape : (D : Declarations) (p q : Procedure) → is_property_kind p.kind ≡ true → q.first.0 ≡ p.first.0 → SparesShape (objects.head_rules D p)
    → SparesShape (objects.head_rules D q)
same_shape D p q property same h =
    let whole = left_false (shapes.breaks_shape D p) (has none 7) (sym (shape_set D p) ∙ h) in
    let first = part_of_shape p.kind (shapes.breaks_first D p.first.0 (slice_get D.procs p.first.0)) property whole in
    shape_set D q
    ∙ or_false (shapes.breaks_shape D q) (has none 7)
    (later_false (shapes.is_property q.kind) (shapes.breaks_first D q.first.0 (slice_get D.procs q.first.0))
    (ap (λ (n : ℕ). shapes.breaks_first D n (slice_get D.procs n)) same ∙ first)) none_spares

same_index : (opens : ℕ → Bool) (p q : Procedure) → is_property_kind p.kind ≡ true → q.first.0 ≡ p.first.0 → SparesShape (references.head_rules opens p)
    → SparesShape (references.head_rules opens q)
same_index opens p q property same h =
    let whole = left_false (indexes.breaks_head opens p) (has none 7) (sym (index_set opens p) ∙ h) in
    let first = part_of_index p.kind (opens p.first.0) property whole in
    index_set opens q
    ∙ or_false (indexes.breaks_head opens q) (has none 7) (later_false (indexes.is_part q.kind) (opens q.first.0) (ap opens same ∙ first)) none_spares

-- ---- all heads of a property

carries_none : (F : Facts) (first k : ℕ) (qs : List Procedure)
    → ((i n : ℕ) (q : Procedure) → n ≡ k + i → slice_get qs i ≡ Some q → q.first.0 ≡ first → SparesShape (head_set F n)) → carries_shape F first k qs ≡ false
carries_none F first k [] h = refl
carries_none F first k (q ∷ qs) h =
    or_false (nat_eq q.first.0 first && has (head_set F k) 7) (carries_shape F first (suc k) qs)
    (by (nat_eq q.first.0 first) refl)
    (carries_none F first (suc k) qs (λ i n r e. h (suc i) n r (let same : n ≡ k + suc i = omega (arith, e) in same)))
  where
    by : (b : Bool) → nat_eq q.first.0 first ≡ b → (b && has (head_set F k) 7) ≡ false
    by true e = h 0 k q (omega arith) refl (eqb-true q.first.0 first e)
    by false e = refl

module _ (P : Project) (b : Bound) (is : IsBoundTo P b) (f : Found) (are : AreFound (program_of b) f) (F : Facts)
    (united : AreUnited (all_marks (passes_of b f)) F.marks) where
  abbrev D : Declarations
  D = (program_of b).declarations

  abbrev opens : ℕ → Bool
  opens = indexes.is_open_property (program_of b).declarations (is_quiet (program_of b).declarations are.facts)

  -- the sets that passes have for a head
  abbrev set_in : ℕ → Marks → RuleSet
  set_in k m = set_at m.heads k

  declared_spare : (k : ℕ) → SparesShape (set_in k b.declared.marks)
  declared_spare k = declared_heads_spare P is.declarations b.declared.marks is.declared k

  no_heads : (k : ℕ) (m : Marks) → m.heads ≡ [] → SparesShape (set_in k m)
  no_heads k m e = ap (λ (sets : List RuleSet). has (set_at sets k) 7) e ∙ none_spares

  array_heads_spare : (k : ℕ) → SparesShape (set_in k f.arrays.marks)
  array_heads_spare k =
      ap (λ (sets : List RuleSet). has (set_at sets k) 7) are.arrays.2.heads
      ∙ map_spares (arrays.head_rules D are.arrays.0) (λ q. if_spares none 11 (breaks_head D are.arrays.0 q) refl none_spares) D.procs k

  objects_at : (k : ℕ) (q : Procedure) → slice_get D.procs k ≡ Some q → set_in k f.objects.marks ≡ objects.head_rules D q
  objects_at k q e = ap (λ (sets : List RuleSet). set_at sets k) are.objects.heads ∙ set_of (objects.head_rules D) D.procs k q e

  references_at : (k : ℕ) (q : Procedure) → slice_get D.procs k ≡ Some q → set_in k f.refs.marks ≡ references.head_rules opens q
  references_at k q e = ap (λ (sets : List RuleSet). set_at sets k) are.references.heads ∙ set_of (references.head_rules opens) D.procs k q e

  -- those of all passes, by the two that know the rules
  abbrev from_arrays : ℕ → RuleSet
  from_arrays k = both (set_in k f.arrays.marks) none

  abbrev from_handlers : ℕ → RuleSet
  from_handlers k = both (set_in k f.handlers.marks) (from_arrays k)

  abbrev from_fixed : ℕ → RuleSet
  from_fixed k = both (set_in k f.fixed.marks) (from_handlers k)

  abbrev from_references : ℕ → RuleSet
  from_references k = both (set_in k f.refs.marks) (from_fixed k)

  abbrev from_objects : ℕ → RuleSet
  from_objects k = both (set_in k f.objects.marks) (from_references k)

  abbrev from_bound : ℕ → RuleSet
  from_bound k = both (set_in k b.marks) (from_objects k)

  objects_spare : (k : ℕ) → SparesShape (head_set F k) → SparesShape (from_objects k)
  objects_spare k h =
      right_spares (set_in k b.marks) (from_objects k)
      (right_spares (set_in k b.declared.marks) (from_bound k) (ap (λ s. has s 7) (sym (united.heads k)) ∙ h))

  all_spare : (k : ℕ) → SparesShape (set_in k f.objects.marks) → SparesShape (set_in k f.refs.marks) → SparesShape (head_set F k)
  all_spare k h i =
      ap (λ s. has s 7) (united.heads k)
      ∙ both_spare (set_in k b.declared.marks) (from_bound k) (declared_spare k)
      (both_spare (set_in k b.marks) (from_objects k) (no_heads k b.marks (ap (λ (m : Marks). m.heads) is.marks))
      (both_spare (set_in k f.objects.marks) (from_references k) h
      (both_spare (set_in k f.refs.marks) (from_fixed k) i
      (both_spare (set_in k f.fixed.marks) (from_handlers k) (no_heads k f.fixed.marks are.fixed.others.0)
      (both_spare (set_in k f.handlers.marks) (from_arrays k) (no_heads k f.handlers.marks are.handlers.1)
      (both_spare (set_in k f.arrays.marks) none (array_heads_spare k) none_spares))))))

  pub properties_apart : (p : ℕ) (x : Procedure) → slice_get D.procs p ≡ Some x → is_property_kind x.kind ≡ true → has (head_set F p) 7 ≡ false
      → carries_shape F x.first.0 0 D.procs ≡ false
  properties_apart p x e property h =
      let sets = objects_spare p h in
      let shape : SparesShape (objects.head_rules D x) =
      ap (λ s. has s 7) (sym (objects_at p x e)) ∙ left_spares (set_in p f.objects.marks) (from_references p) sets in
      let index : SparesShape (references.head_rules opens x) =
      ap (λ s. has s 7) (sym (references_at p x e))
      ∙ left_spares (set_in p f.refs.marks) (from_fixed p) (right_spares (set_in p f.objects.marks) (from_references p) sets) in
      carries_none F x.first.0 0 D.procs
      (λ i n q number at same.
      let here : slice_get D.procs n ≡ Some q = ap (slice_get D.procs) (let equal : n ≡ i = omega (arith, number) in equal) ∙ at in
      all_spare n (ap (λ s. has s 7) (objects_at n q here) ∙ same_shape D x q property same shape)
      (ap (λ s. has s 7) (references_at n q here) ∙ same_index opens x q property same index))
