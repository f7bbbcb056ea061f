-- The first part of a property has itself as its first part, and no part stands before it.
use Rattle.std.proofs.Common.{true≢false, ◌≡◌, inl, inr, ◌⊎◌, ℕ, zero, suc, ◌+◌, ◌≤◌, Bool, true, false, nat_eq, List, [], ◌∷◌, map, Option, Some, slice_get, refl, sym, ap, subst, ◌∙◌, arith}
use Rattle.std.specs.Prelude.{◌&&◌, cond, option_map}
use Rattle.std.specs.Cmp.Lexicographic.{bytes_decides, pointwise}
use Rattle.std.proofs.lemmas.Bool.Decides.{nat_tests}
use Rattle.std.proofs.lemmas.Option.{none-some, same_Some, slice_get-map}
use Rattle.up_base.specs.Names.{is_same_name, lower_case}
use Rattle.vb_tree.specs.Tree.{Project}
use Rattle.bound_tree.specs.declared.body.Bound.{Bound}
use Rattle.bound_tree.specs.declared.marks.Marks.{Marks}
use Rattle.bound_tree.specs.Tree.{Declarations, Procedure, Program}
use Rattle.bound_tree.specs.View.{program_of}
use Rattle.written_trees.specs.Arguments.{is_property_kind}
use Rattle.written_trees.specs.Projects.{first_numbers}
use Rattle.declared_names.specs.Declaring.{NamedProcedure, lists_of}
use Rattle.declared_names.specs.Parts.{are_parts, first_part, firsts_from, is_property}
use Rattle.declarations.specs.Bare.{bare_procedures}
use Rattle.declarations.specs.Finals.{IsDeclared}
use Rattle.binder.specs.Programs.{all_declarations}
use Rattle.broken_rules.specs.View.{IsBoundTo}
use Rattle.run_matches.specs.Sites.{Site, sites_from}
use Rattle.run_statements.specs.Written.{FirstsAreParts}
use Rattle.upgrade_laws.specs.Ordered.{AreOrderly}
use Rattle.upgrade_laws.proofs.Settling.{declared_project}
use Rattle.upgrade_laws.proofs.Tests.{same}
use Rattle.upgrade_laws.proofs.Together.{IsBeside, IsFirst, bare_firsts, declared_firsts, file_at, first_found, firsts_of, listed_filed, named_file, site_file, with_file}

-- ---- parts of one property

both_true : (a b : Bool) → (a && b) ≡ true → (a ≡ true) × (b ≡ true)
both_true true b e = (refl, e)
both_true false b e = absurd (cc e)

same_number : (n : ℕ) → nat_eq n n ≡ true
same_number n = same n

equal : (a b : ℕ) → nat_eq a b ≡ true → a ≡ b
equal a b e = grind (arith, nat_tests)

-- what two parts of one property have in common
record AreAlike (p q : NamedProcedure) : Type 0 where
  one : is_property p.kind ≡ true
  other : is_property q.kind ≡ true
  module_number : p.module_number ≡ q.module_number
  name : lower_case p.name ≡ lower_case q.name

are_alike : (p q : NamedProcedure) → are_parts p q ≡ true → AreAlike p q
are_alike p q h =
    let all = both_true (is_property p.kind && is_property q.kind && nat_eq p.module_number q.module_number) (is_same_name p.name q.name) h in
    let front = both_true (is_property p.kind && is_property q.kind) (nat_eq p.module_number q.module_number) all.0 in
    let kinds = both_true (is_property p.kind) (is_property q.kind) front.0 in
    record {
      one = kinds.0;
      other = kinds.1;
      module_number = equal p.module_number q.module_number front.1;
      name = (bytes_decides (lower_case p.name) (lower_case q.name)).0 all.1;
    }

-- so they are parts with the same procedures
alike : (p q : NamedProcedure) → are_parts p q ≡ true → (r : NamedProcedure) → are_parts q r ≡ are_parts p r
alike p q h r =
    let a = are_alike p q h in
    ap (λ (b : Bool). b && is_property r.kind && nat_eq q.module_number r.module_number && is_same_name q.name r.name) (a.other ∙ sym a.one)
    ∙ ap (λ (n : ℕ). is_property p.kind && is_property r.kind && nat_eq n r.module_number && is_same_name q.name r.name) (sym a.module_number)
    ∙ ap (λ (name : List ℕ). is_property p.kind && is_property r.kind && nat_eq p.module_number r.module_number && pointwise nat_eq name (lower_case r.name))
    (sym a.name)

turned : (p q : NamedProcedure) → are_parts p q ≡ true → are_parts p p ≡ true
turned p q h =
    let a = are_alike p q h in
    ap (λ (b : Bool). b && b && nat_eq p.module_number p.module_number && is_same_name p.name p.name) a.one
    ∙ ap (λ (b : Bool). b && is_same_name p.name p.name) (same_number p.module_number)
    ∙ (bytes_decides (lower_case p.name) (lower_case p.name)).1 refl

-- ---- the first of them

first_least : (k : ℕ) (p : NamedProcedure) (i : ℕ) (qs : List NamedProcedure) (n : ℕ) (r : NamedProcedure) → slice_get qs n ≡ Some r → are_parts p r ≡ true
    → first_part k p i qs ≤ i + n
first_least k p i [] n r e h = absurd (none-some r e)
first_least k p i (q ∷ qs) zero r e h = by (are_parts p q) (ap (are_parts p) (same_Some q r e) ∙ h)
  where
    by : (b : Bool) → b ≡ true → cond b i (first_part k p (i + 1) qs) ≤ i + 0
    by true s = omega arith
    by false s = absurd (cc s)
first_least k p i (q ∷ qs) (suc n) r e h = by (are_parts p q) (first_least k p (i + 1) qs n r e h)
  where
    by : (b : Bool) → first_part k p (i + 1) qs ≤ (i + 1) + n → cond b i (first_part k p (i + 1) qs) ≤ i + suc n
    by true s = omega arith
    by false s = omega (arith, s)

-- it is the first part for each procedure that is a part with the same ones
first_again : (k l : ℕ) (p q : NamedProcedure) (i : ℕ) (rs : List NamedProcedure) → ((r : NamedProcedure) → are_parts q r ≡ are_parts p r)
    → (n : ℕ) (r : NamedProcedure) → slice_get rs n ≡ Some r → are_parts p r ≡ true → first_part l q i rs ≡ first_part k p i rs
first_again k l p q i [] alike_are n r e h = absurd (none-some r e)
first_again k l p q i (t ∷ rs) alike_are n r e h =
    ap (λ (b : Bool). cond b i (first_part l q (i + 1) rs)) (alike_are t)
    ∙ by (are_parts p t) refl n e (λ m f. first_again k l p q (i + 1) rs alike_are m r f h)
  where
    by : (b : Bool) → are_parts p t ≡ b → (n : ℕ) → slice_get (t ∷ rs) n ≡ Some r
        → ((m : ℕ) → slice_get rs m ≡ Some r → first_part l q (i + 1) rs ≡ first_part k p (i + 1) rs)
        → cond b i (first_part l q (i + 1) rs) ≡ cond b i (first_part k p (i + 1) rs)
    by true s n f more = refl
    by false s zero f more = absurd (true≢false (sym h ∙ ap (are_parts p) (sym (same_Some t r f)) ∙ s))
    by false s (suc n) f more = more n f

-- ---- what is listed

listed_first : (all : List NamedProcedure) (k : ℕ) (ps : List NamedProcedure) (n : ℕ) (p : NamedProcedure) → slice_get ps n ≡ Some p
    → (l : ℕ) × (slice_get (firsts_of (bare_procedures (firsts_from all k ps) ps)) n ≡ Some (first_part l p 0 all))
listed_first all k [] n p e = absurd (none-some p e)
listed_first all k (q ∷ ps) zero p e = (k, ap (λ (z : NamedProcedure). Some (first_part k z 0 all)) (same_Some q p e))
listed_first all k (q ∷ ps) (suc n) p e = listed_first all (k + 1) ps n p e

with_first : (qs : List Procedure) (n first : ℕ) → slice_get (firsts_of qs) n ≡ Some first → (q : Procedure) × (slice_get qs n ≡ Some q) × (q.first.0 ≡ first)
with_first [] n first e = absurd (none-some first e)
with_first (q ∷ qs) zero first e = (q, refl, same_Some q.first.0 first e)
with_first (q ∷ qs) (suc n) first e = with_first qs n first e

-- ---- the first part of a procedure

abbrev HasFirst : List Procedure → List Site → (n : ℕ) → Procedure → Type 0
HasFirst qs ss n q =
    (q.first.0 ≤ n) × (f : Procedure) × (slice_get qs q.first.0 ≡ Some f) × (f.first.0 ≡ q.first.0) × (s : Site) × (slice_get ss q.first.0 ≡ Some s)

first_there : (ss : List Site) (all : List NamedProcedure) (qs : List Procedure) → map named_file all ≡ map site_file ss
    → firsts_of qs ≡ firsts_of (bare_procedures (firsts_from all 0 all) all) → (n : ℕ) (q : Procedure) → slice_get qs n ≡ Some q → HasFirst qs ss n q
first_there ss all qs filed firsts n q got = by (first_found n o.procedure 0 all)
  where
    o : IsFirst all all 0 n q.first.0
    o =
        bare_firsts all 0 all n q.first.0
        (ap (λ (l : List ℕ). slice_get l n) (sym firsts) ∙ slice_get-map (λ (x : Procedure). x.first.0) qs n
        ∙ ap (λ (x : Option Procedure). option_map (λ (y : Procedure). y.first.0) x) got)

    number : q.first.0 ≡ first_part n o.procedure 0 all
    number = o.is_first ∙ ap (λ (i : ℕ). first_part i o.procedure 0 all) (omega arith)

    by : (first_part n o.procedure 0 all ≡ n) ⊎ IsBeside o.procedure all 0 (first_part n o.procedure 0 all) → HasFirst qs ss n q
    by (inl h) =
        let at : q.first.0 ≡ n = number ∙ h in
        let s = with_file ss n o.procedure.module_number (file_at all ss n o.procedure filed o.is_listed) in
        (omega (arith, at), q, ap (slice_get qs) at ∙ got, refl, s.0, ap (slice_get ss) at ∙ s.1)
    by (inr h) =
        let at : q.first.0 ≡ h.place = omega (arith, number, h.is_number) in
        let least = first_least n o.procedure 0 all n o.procedure o.is_listed (turned o.procedure h.procedure h.parts) in
        let listed = listed_first all 0 all h.place h.procedure h.is_listed in
        let f = with_first qs h.place (first_part listed.0 h.procedure 0 all) (ap (λ (l : List ℕ). slice_get l h.place) firsts ∙ listed.1) in
        let again =
        first_again n listed.0 o.procedure h.procedure 0 all (alike o.procedure h.procedure h.parts) h.place h.procedure h.is_listed h.parts in
        let s = with_file ss h.place h.procedure.module_number (file_at all ss h.place h.procedure filed h.is_listed) in
        (omega (arith, number, least), f.0, ap (slice_get qs) at ∙ f.1, f.2 ∙ again ∙ sym number, s.0, ap (slice_get ss) at ∙ s.1)

-- ---- in a project

abbrev HaveFirsts : List Procedure → Project → Type 0
HaveFirsts qs Q = (n : ℕ) (q : Procedure) → slice_get qs n ≡ Some q → is_property_kind q.kind ≡ true → HasFirst qs (sites_from 0 first_numbers Q.modules) n q

declared_firsts_are_there : (P : Project) (D : Declarations) (M : Marks) → IsDeclared P D M → AreOrderly P.modules → HaveFirsts D.procs P
declared_firsts_are_there P D M is o n q got property =
    first_there (sites_from 0 first_numbers P.modules) (lists_of P).procs D.procs (listed_filed P o) (declared_firsts P D M is) n q got

pub firsts_are_parts : (P : Project) (b : Bound) → IsBoundTo P b → AreOrderly P.modules → FirstsAreParts (program_of b).declarations
firsts_are_parts P b is o =
    let D : Declarations = is.declarations in
    let M : Marks = b.declared.marks in
    let there : FirstsAreParts (all_declarations D) =
    subst (λ (Q : Project). HaveFirsts D.procs Q) (sym (declared_project P D M is.declared)) (declared_firsts_are_there P D M is.declared o) in
    subst (λ (Q : Program). FirstsAreParts Q.declarations) (sym is.program) there
