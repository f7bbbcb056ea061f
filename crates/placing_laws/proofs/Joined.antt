-- A part of a property that is written as one has a first part, at whose place it stands.
use Rattle.std.proofs.Common.{◌≡◌, ℕ, zero, suc, ◌<◌, Bool, true, false, not, cond, ◌&&◌, ◌||◌, is_some, List, [], ◌∷◌, Option, Some, None, refl, sym, ap, subst, ◌∙◌, arith, eq-eqb, eqb-true}
use Rattle.std.specs.Prelude.{slice_get, nat_eq}
use Rattle.std.specs.Cmp.Lexicographic.{bytes_decides, pointwise}
use Rattle.std.specs.List.{list_all}
use Rattle.up_base.proofs.Lists.{all_first, all_rest, and_true, both_true, by_test}
use Rattle.vb_tree.specs.declared.declared.ProcKind.{ProcKind}
use Rattle.vb_tree.specs.declared.declared.ProcKind.TheVariants as kind
use Rattle.bound_tree.specs.RuleSets.{has}
use Rattle.bound_tree.specs.Tree.{Variable, Procedure, Declarations}
use Rattle.written_trees.specs.Arguments.{is_property_kind}
use Rattle.written_trees.specs.Facts.{head_set}
use Rattle.written_trees.specs.Names.{procedure_name}
use Rattle.written_trees.specs.Properties.{is_counted, is_kind, is_number, is_part, part_number}
use Rattle.run_matches.specs.Covered.{covers_joined}
use Rattle.run_matches.specs.JoinedProperties.{have_same_type, is_joined, is_like_first, is_placed_part, part_value, variable_at, are_like_params, are_parts}
use Rattle.run_matches.specs.Sites.{Site, site_of}
use Rattle.run_matches.specs.Upgrades.{Upgrade}
use Rattle.run_statements.specs.Written.{IsWritten}
use Rattle.placing_laws.proofs.Counts.{same_kind}
use Rattle.placing_laws.proofs.Lists.{FoundAt, found_position, same_item}
use Rattle.placing_laws.proofs.Members.{site_number}
use Rattle.placing_laws.proofs.Parts.{IsPartOf}
use Rattle.written_trees.specs.Heads.{index_params}

-- the first part of a property in the module of a part, with what is known of both
pub record HasFirst (U : Upgrade) (p : ℕ) (s : Site) (x : Procedure) : Type 0 where
  pub part : Procedure
  pub first : Site
  pub is_site : site_of U.program.declarations first.placed.at.procedure ≡ Some first
  pub same_home : s.home ≡ first.home
  pub is_part : IsPartOf U p x first.placed.at.procedure part

-- ---- tests

is_that_number : (p : ℕ) (o : Option ℕ) → is_number p o ≡ true → o ≡ Some p
is_that_number p None h = absurd (cc h)
is_that_number p (Some n) h = ap Some (sym (eqb-true p n h))

none_there : (o : Option ℕ) → not (is_some o) ≡ true → o ≡ None
none_there None h = refl
none_there (Some n) h = absurd (cc h)

-- a Set stands where there is no Let
without_let : (k : ProcKind) (o : Option ℕ) → not (is_kind kind.Set k) || not (is_some o) ≡ true → k ≡ kind.Set → o ≡ None
without_let kind.Set o h e = none_there o h
without_let kind.Sub o h e = absurd (cc e)
without_let kind.Function o h e = absurd (cc e)
without_let kind.Get o h e = absurd (cc e)
without_let kind.Let o h e = absurd (cc e)

some_value : (o y : Option Variable) → have_same_type o y ≡ true → (x : Variable) × (o ≡ Some x)
some_value None y h = absurd (cc h)
some_value (Some x) y h = (x, refl)

like_first : (D : Declarations) (x q : Procedure) (o : Option Procedure) → o ≡ Some q → is_like_first D x o ≡ true
    → (y : Variable) × (variable_at D (part_value x) ≡ Some y)
like_first D x q None e h = absurd (cc e)
like_first D x q (Some z) e h =
    some_value (variable_at D (part_value x)) (variable_at D (part_value z))
    (both_true (have_same_type (variable_at D (part_value x)) (variable_at D (part_value z))) (are_like_params D (index_params x) (index_params z)) h).0

like_indexes : (D : Declarations) (x q : Procedure) (o : Option Procedure) → o ≡ Some q → is_like_first D x o ≡ true
    → are_like_params D (index_params x) (index_params q) ≡ true
like_indexes D x q None e h = absurd (cc e)
like_indexes D x q (Some z) e h =
    ap (λ (y : Procedure). are_like_params D (index_params x) (index_params y)) (sym (same_item z q e))
    ∙ (both_true (have_same_type (variable_at D (part_value x)) (variable_at D (part_value z))) (are_like_params D (index_params x) (index_params z)) h).1

-- what has its first part is a part of it
abbrev is_part_in : (first : ℕ) → Procedure → Bool
is_part_in first q = cond (nat_eq q.first.0 first) (is_property_kind q.kind) true

item_passes : (f : Procedure → Bool) (qs : List Procedure) (i : ℕ) (q : Procedure) → list_all f qs ≡ true → slice_get qs i ≡ Some q → f q ≡ true
item_passes f [] i q h e = absurd (cc e)
item_passes f (z ∷ qs) zero q h e = ap f (sym (same_item z q e)) ∙ all_first f z qs h
item_passes f (z ∷ qs) (suc i) q h e = item_passes f qs i q (all_rest f z qs h) e

part_kind : (D : Declarations) (first i : ℕ) (q : Procedure) → are_parts D first ≡ true → slice_get D.procs i ≡ Some q → q.first.0 ≡ first
    → is_property_kind q.kind ≡ true
part_kind D first i q h e is =
    ap (λ b. cond b (is_property_kind q.kind) true) (sym (eq-eqb q.first.0 first is)) ∙ item_passes (is_part_in first) D.procs i q h e

-- ---- the number of the first part

first_passes : (f : Procedure → Bool) (qs : List Procedure) (n : ℕ) (q : Procedure) → slice_get qs n ≡ Some q → f q ≡ true
    → ((i : ℕ) (z : Procedure) → i < n → slice_get qs i ≡ Some z → f z ≡ false) → FoundAt f qs n
first_passes f [] n q e h others = absurd (cc e)
first_passes f (z ∷ qs) zero q e h others = ap f (same_item z q e) ∙ h
first_passes f (z ∷ qs) (suc n) q e h others =
    (others 0 z (omega arith) refl, first_passes f qs n q e h (λ i y less g. others (suc i) y (omega (arith, less)) g))

same_to_itself : (k : ProcKind) → is_kind k k ≡ true
same_to_itself kind.Sub = refl
same_to_itself kind.Function = refl
same_to_itself kind.Get = refl
same_to_itself kind.Let = refl
same_to_itself kind.Set = refl

first_numbered : (U : Upgrade) → IsWritten U → (n : ℕ) (q : Procedure) → slice_get U.program.declarations.procs n ≡ Some q → q.first.0 ≡ n
    → is_property_kind q.kind ≡ true → part_number U.program.declarations q.kind n ≡ Some n
first_numbered U w n q e is property =
    found_position (is_part n q.kind) U.program.declarations.procs n
    (first_passes (is_part n q.kind) U.program.declarations.procs n q e
    (and_true (nat_eq q.first.0 n) (is_kind q.kind q.kind) (eq-eqb q.first.0 n is) (same_to_itself q.kind))
    (λ i z less g.
    by_test (is_part n q.kind z) (λ b. b ≡ false)
    (λ part.
    let both = both_true (nat_eq z.first.0 n) (is_kind q.kind z.kind) part in
    let behind = (w.firsts i z g (same_kind q.kind z.kind both.1 property)).0 in
    let first = eqb-true z.first.0 n both.0 in
    absurd (omega (arith, behind, first, less)))
    (λ other. refl)))

-- ---- the part

pub has_first : (U : Upgrade) → IsWritten U → (p : ℕ) (s : Site) (x : Procedure) → site_of U.program.declarations p ≡ Some s
    → slice_get U.program.declarations.procs p ≡ Some x → is_property_kind x.kind ≡ true → covers_joined U.program.declarations p x ≡ true
    → has (head_set U.facts p) 7 ≡ false → HasFirst U p s x
has_first U w p s x site e property covers unparted =
    let D = U.program.declarations in
    let n = x.first.0 in
    let f = w.firsts p x e property in
    let q = f.1 in
    let t = f.4 in
    let same = site_number D n t f.5 in
    let joined : is_joined D p x ≡ true = ap (λ b. cond b (is_joined D p x) true) (sym property) ∙ covers in
    let halves =
    both_true (are_parts D n && is_placed_part D p x) (pointwise nat_eq (procedure_name D n) x.name && is_like_first D x (slice_get D.procs n)) joined in
    let front = both_true (are_parts D n) (is_placed_part D p x) halves.0 in
    let back = both_true (pointwise nat_eq (procedure_name D n) x.name) (is_like_first D x (slice_get D.procs n)) halves.1 in
    let placed = both_true (is_counted D p x) (not (is_kind kind.Set x.kind) || not (is_some (part_number D kind.Let n))) front.1 in
    let first = part_kind D n n q front.0 f.2 f.3 in
    let value = like_first D x q (slice_get D.procs n) f.2 back.1 in
    let is_part : IsPartOf U p x n q =
    record {
      is_there = e;
      is_property = property;
      has_first = refl;
      is_numbered = is_that_number p (part_number D x.kind n) placed.0;
      is_only = without_let x.kind (part_number D kind.Let n) placed.1;
      is_named = (bytes_decides (procedure_name D n) x.name).0 back.0;
      indexes = like_indexes D x q (slice_get D.procs n) f.2 back.1;
      value = value.0;
      is_value = value.1;
      first_there = f.2;
      first_property = first;
      is_first = f.3;
      first_number = first_numbered U w n q f.2 f.3 first;
      is_whole = w.apart p x e property unparted;
    } in
    let beside = w.parts p x t e property f.5 in
    record {
      part = q;
      first = t;
      is_site = ap (site_of D) same ∙ f.5;
      same_home = ap (λ (z : Site). z.home) (same_item s beside.0 (sym site ∙ beside.1)) ∙ beside.2;
      is_part = subst (λ z. IsPartOf U p x z q) (sym same) is_part;
    }
