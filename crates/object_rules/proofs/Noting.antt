-- What is noted of properties against what a head asks of its property.
use Rattle.std.proofs.Common.{◌≡◌, ℕ, zero, suc, Bool, true, false, cond, ◌&&◌, ◌||◌, nat_eq, nat_lt, List, [], ◌∷◌, ◌++◌, length, Option, Some, None, refl, ap, ◌∙◌, sym, arith}
use Rattle.std.specs.Prelude.{not, is_some, slice_get}
use Rattle.std.specs.List.{list_any}
use Rattle.std.proofs.lemmas.Bool.{eqb-true}
use Rattle.std.proofs.lemmas.Bool.Decides.{nat_tests}
use Rattle.std.proofs.lemmas.List.Folds.{list_any-append}
use Rattle.reach_table.specs.Chains.{is_marked}
use Rattle.vb_tree.specs.declared.declared.ProcKind.{ProcKind}
use Rattle.vb_tree.specs.declared.declared.ProcKind.TheVariants as kind
use Rattle.bound_tree.specs.Tree.{Procedure, Declarations}
use Rattle.bound_facts.specs.Leading.{is_in}
use Rattle.object_rules.specs.declared.shapes.NotedParts.{NotedParts as Noted}
use Rattle.object_rules.specs.Properties.{are_alike, breaks_first, breaks_shape, is_let, is_property, is_set, lacks_value, some_part}
use Rattle.object_rules.specs.Shapes.{AreShapes, breaks_noted, first_if, firsts, is_apart, is_broken_part, is_let_part, is_set_part}

-- whether a part of the property is among procedures and passes a test
abbrev has_part : ℕ → (Procedure → Bool) → List Procedure → Bool
has_part f test procs = list_any (λ p. (is_property p.kind && nat_eq f p.first.0) && test p) procs

-- ---- one procedure

or_false : (b : Bool) → (b || false) ≡ (b && true)
or_false true = refl
or_false false = refl

and_false : (b : Bool) → false ≡ (b && false)
and_false true = refl
and_false false = refl

at_one : (f n : ℕ) (b : Bool) → is_in (cond b (n ∷ []) []) f ≡ (nat_eq f n && b)
at_one f n true = or_false (nat_eq f n)
at_one f n false = and_false (nat_eq f n)

of_kind : (f n : ℕ) (part test : Bool) → (test ≡ true → part ≡ true) → (nat_eq f n && test) ≡ ((part && nat_eq f n) && test)
of_kind f n true test h = refl
of_kind f n false false h = sym (and_false (nat_eq f n))
of_kind f n false true h = absurd (let e = h refl in cc e)

let_is_part : (k : ProcKind) → is_let k ≡ true → is_property k ≡ true
let_is_part kind.Let h = refl
let_is_part _ h = absurd (cc h)

set_is_part : (k : ProcKind) → is_set k ≡ true → is_property k ≡ true
set_is_part kind.Set h = refl
set_is_part _ h = absurd (cc h)

-- the first part of the property of a part with this number
same_first : (D : Declarations) (f n : ℕ) (first p : Procedure) (b : Bool) → nat_eq f n ≡ b → slice_get D.procs f ≡ Some first
    → (b && is_apart D (slice_get D.procs n) p) ≡ (b && (not (are_alike D first p) || lacks_value p))
same_first D f n first p true e h = ap (λ o. is_apart D o p) (ap (slice_get D.procs) (sym (eqb-true f n e)) ∙ h)
same_first D f n first p false e h = refl

broken_one : (D : Declarations) (f n : ℕ) (first p : Procedure) (part : Bool) → slice_get D.procs f ≡ Some first
    → (nat_eq f n && (part && is_apart D (slice_get D.procs n) p)) ≡ ((part && nat_eq f n) && (not (are_alike D first p) || lacks_value p))
broken_one D f n first p true h = same_first D f n first p (nat_eq f n) refl h
broken_one D f n first p false h = sym (and_false (nat_eq f n))

-- ---- all procedures

both_lists : (f : ℕ) (xs ys : List ℕ) (a b : Bool) → is_in xs f ≡ a → is_in ys f ≡ b → is_in (xs ++ ys) f ≡ (a || b)
both_lists f xs ys a b h k = list_any-append (nat_eq f) xs ys ∙ ap (λ t. t || is_in ys f) h ∙ ap (λ t. a || t) k

noted_lets : (f : ℕ) (ps : List Procedure) → is_in (firsts is_let_part ps) f ≡ has_part f is_let_part ps
noted_lets f [] = refl
noted_lets f (p ∷ ps) =
    both_lists f (first_if (is_let p.kind) p) (firsts is_let_part ps) _ _
    (at_one f p.first.0 (is_let p.kind) ∙ of_kind f p.first.0 (is_property p.kind) (is_let p.kind) (let_is_part p.kind)) (noted_lets f ps)

noted_sets : (f : ℕ) (ps : List Procedure) → is_in (firsts is_set_part ps) f ≡ has_part f is_set_part ps
noted_sets f [] = refl
noted_sets f (p ∷ ps) =
    both_lists f (first_if (is_set p.kind) p) (firsts is_set_part ps) _ _
    (at_one f p.first.0 (is_set p.kind) ∙ of_kind f p.first.0 (is_property p.kind) (is_set p.kind) (set_is_part p.kind)) (noted_sets f ps)

noted_broken : (D : Declarations) (f : ℕ) (first : Procedure) → slice_get D.procs f ≡ Some first → (ps : List Procedure)
    → is_in (firsts (is_broken_part D) ps) f ≡ has_part f (λ p. not (are_alike D first p) || lacks_value p) ps
noted_broken D f first h [] = refl
noted_broken D f first h (p ∷ ps) =
    both_lists f (first_if (is_broken_part D p) p) (firsts (is_broken_part D) ps) _ _
    (at_one f p.first.0 (is_broken_part D p) ∙ broken_one D f p.first.0 first p (is_property p.kind) h) (noted_broken D f first h ps)

-- ---- a head

lt_next : (n m : ℕ) → nat_lt (suc n) (suc m) ≡ nat_lt n m
lt_next n m = grind (arith, nat_tests)

lt_first : (m : ℕ) → nat_lt 0 (suc m) ≡ true
lt_first m = grind (arith, nat_tests)

within : (n : ℕ) (ps : List Procedure) → nat_lt n (length ps) ≡ is_some (slice_get ps n)
within n [] = grind (arith, nat_tests)
within zero (p ∷ ps) = lt_first (length ps)
within (suc n) (p ∷ ps) = lt_next n (length ps) ∙ within n ps

marked_by : (below there : Bool) (marked in_list : Bool) → marked ≡ (below && in_list) → below ≡ there → marked ≡ (there && in_list)
marked_by below there marked in_list h e = h ∙ ap (λ t. t && in_list) e

by_first : (D : Declarations) (s : Noted) (f : ℕ) (o : Option Procedure) → slice_get D.procs f ≡ o → AreShapes D s
    → (is_marked s.broken.items f || (is_marked s.lets.items f && is_marked s.sets.items f)) ≡ breaks_first D f o
by_first D s f None h are =
    let there : nat_lt f (length D.procs) ≡ false = within f D.procs ∙ ap is_some h in
    let broken = marked_by _ _ _ _ (are.broken f) there in
    let lets = marked_by _ _ _ _ (are.lets f) there in
    ap (λ b. b || (is_marked s.lets.items f && is_marked s.sets.items f)) broken ∙ ap (λ b. b && is_marked s.sets.items f) lets
by_first D s f (Some first) h are =
    let there : nat_lt f (length D.procs) ≡ true = within f D.procs ∙ ap is_some h in
    let broken = marked_by _ _ _ _ (are.broken f) there ∙ noted_broken D f first h D.procs in
    let lets = marked_by _ _ _ _ (are.lets f) there ∙ noted_lets f D.procs in
    let sets = marked_by _ _ _ _ (are.sets f) there ∙ noted_sets f D.procs in
    ap (λ b. b || (is_marked s.lets.items f && is_marked s.sets.items f)) broken
    ∙ ap (λ b. some_part D f (λ p. not (are_alike D first p) || lacks_value p) || (b && is_marked s.sets.items f)) lets
    ∙ ap (λ b. some_part D f (λ p. not (are_alike D first p) || lacks_value p) || (some_part D f is_let_part && b)) sets

pub noted_is : (D : Declarations) (s : Noted) (p : Procedure) → AreShapes D s → breaks_noted s p ≡ breaks_shape D p
noted_is D s p are = ap (λ b. is_property p.kind && b) (by_first D s p.first.0 (slice_get D.procs p.first.0) refl are)
