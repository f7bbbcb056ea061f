-- The procedures of a written project are told apart by their modules and members.
use Rattle.std.proofs.Common.{◌≡◌, ◌⊎◌, inl, inr, refl, sym, ap, subst, ◌∙◌, ℕ, zero, suc, ◌+◌, ◌<◌, ◌≤◌, nat_eq, Bool, true, false, ◌&&◌, List, [], ◌∷◌, Option, Some, None, slice_get, eqb-true, eq-eqb, arith}
use Rattle.written_trees.specs.Prologues.{one_if}
use Rattle.net_tree.specs.Tree as net
use Rattle.net_run.specs.Members.{Code, codes_of, codes_of_member, codes_of_members, codes_of_modules, code_at, code_number, is_code_of, is_same_flag, part_code}
use Rattle.net_run.specs.Shapes.{module_in}
use Rattle.name_laws.proofs.Counting.{count_append, count_of, position_found}
use Rattle.name_laws.proofs.Lists.{Among, among_append, among_at}

-- ---- where a procedure stands

abbrev pub member_by : Option net.Property → net.Procedure → net.Member
member_by None q = net.proc q
member_by (Some p) q = net.property p

-- the member that it is, or the property of which it is a part
abbrev pub code_member : Code → net.Member
code_member c = member_by c.property c.procedure

-- a procedure stands in its module
pub record IsMember (modules : List net.Module) (c : Code) : Type 0 where
  pub of : net.Module
  pub is_module : slice_get modules c.home ≡ Some of
  pub is_member : slice_get of.members c.member ≡ Some (code_member c)

record InMember (home k : ℕ) (m : net.Member) (c : Code) : Type 0 where
  same_home : c.home ≡ home
  same_member : c.member ≡ k
  is : m ≡ code_member c

in_part : (home k : ℕ) (sets : Bool) (p : net.Property) (o : Option net.Procedure) (c : Code) → Among (part_code home k sets p o) c
    → InMember home k (net.property p) c
in_part home k sets p None c h = absurd h
in_part home k sets p (Some q) c (inl e) = record {
  same_home = sym (ap (λ (d : Code). d.home) e);
  same_member = sym (ap (λ (d : Code). d.member) e);
  is = ap code_member e;
}
in_part home k sets p (Some q) c (inr h) = absurd h

in_member : (home k : ℕ) (m : net.Member) (c : Code) → Among (codes_of_member home k m) c → InMember home k m c
in_member home k (net.member_comment units) c h = absurd h
in_member home k (net.variable visibility v) c h = absurd h
in_member home k (net.const_member visibility d) c h = absurd h
in_member home k (net.structure s) c h = absurd h
in_member home k (net.property p) c h = by (among_append (part_code home k false p p.get) (part_code home k true p p.set) c h)
  where
    by : Among (part_code home k false p p.get) c ⊎ Among (part_code home k true p p.set) c → InMember home k (net.property p) c
    by (inl m) = in_part home k false p p.get c m
    by (inr m) = in_part home k true p p.set c m
in_member home k (net.proc p) c (inl e) = record {
  same_home = sym (ap (λ (d : Code). d.home) e);
  same_member = sym (ap (λ (d : Code). d.member) e);
  is = ap code_member e;
}
in_member home k (net.proc p) c (inr h) = absurd h

record InMembers (home k : ℕ) (ms : List net.Member) (c : Code) : Type 0 where
  same_home : c.home ≡ home
  place : ℕ
  same_member : c.member ≡ k + place
  is : slice_get ms place ≡ Some (code_member c)

no_more : (k : ℕ) → k ≡ k + 0
no_more k = omega arith

one_more : (k j : ℕ) → suc k + j ≡ k + suc j
one_more k j = omega arith

in_members : (home k : ℕ) (ms : List net.Member) (c : Code) → Among (codes_of_members home k ms) c → InMembers home k ms c
in_members home k [] c h = absurd h
in_members home k (m ∷ ms) c h =
    by (among_append (codes_of_member home k m) (codes_of_members home (suc k) ms) c h) (λ n. in_members home (suc k) ms c n)
  where
    by : Among (codes_of_member home k m) c ⊎ Among (codes_of_members home (suc k) ms) c
        → (Among (codes_of_members home (suc k) ms) c → InMembers home (suc k) ms c) → InMembers home k (m ∷ ms) c
    by (inl n) more =
        let x : InMember home k m c = in_member home k m c n in
        record { same_home = x.same_home; place = 0; same_member = x.same_member ∙ no_more k; is = ap Some x.is }
    by (inr n) more =
        let x : InMembers home (suc k) ms c = more n in
        record { same_home = x.same_home; place = suc x.place; same_member = x.same_member ∙ one_more k x.place; is = x.is }

record InModules (home : ℕ) (ms : List net.Module) (c : Code) : Type 0 where
  place : ℕ
  same_home : c.home ≡ home + place
  of : net.Module
  is_module : slice_get ms place ≡ Some of
  is : slice_get of.members c.member ≡ Some (code_member c)

in_modules : (home : ℕ) (ms : List net.Module) (c : Code) → Among (codes_of_modules home ms) c → InModules home ms c
in_modules home [] c h = absurd h
in_modules home (m ∷ ms) c h =
    by (among_append (codes_of_members home 0 m.members) (codes_of_modules (suc home) ms) c h) (λ n. in_modules (suc home) ms c n)
  where
    from_start : (j : ℕ) → 0 + j ≡ j
    from_start j = omega arith

    by : Among (codes_of_members home 0 m.members) c ⊎ Among (codes_of_modules (suc home) ms) c
        → (Among (codes_of_modules (suc home) ms) c → InModules (suc home) ms c) → InModules home (m ∷ ms) c
    by (inl n) more =
        let x : InMembers home 0 m.members c = in_members home 0 m.members c n in
        record {
          place = 0;
          same_home = x.same_home ∙ no_more home;
          of = m;
          is_module = refl;
          is = subst (λ j. slice_get m.members j ≡ Some (code_member c)) (sym (x.same_member ∙ from_start x.place)) x.is;
        }
    by (inr n) more =
        let x : InModules (suc home) ms c = more n in
        record { place = suc x.place; same_home = x.same_home ∙ one_more home x.place; of = x.of; is_module = x.is_module; is = x.is }

pub stands_in : (N : net.Project) (n : ℕ) (c : Code) → code_at N n ≡ Some c → IsMember N.modules c
stands_in N n c e =
    let x : InModules 0 N.modules c = in_modules 0 N.modules c (among_at (codes_of N) n c e) in
    record {
      of = x.of;
      is_module = subst (λ j. slice_get N.modules j ≡ Some x.of) (sym (x.same_home ∙ from_start x.place)) x.is_module;
      is_member = x.is;
    }
  where
    from_start : (j : ℕ) → 0 + j ≡ j
    from_start j = omega arith

pub module_is : (ms : List net.Module) (k : ℕ) → module_in ms k ≡ slice_get ms k
module_is [] k = refl
module_is (m ∷ ms) zero = refl
module_is (m ∷ ms) (suc k) = module_is ms k

-- ---- its number

not_same : (i k : ℕ) → (i ≡ k → ⊥) → nat_eq i k ≡ false
not_same i k h = by (nat_eq i k) refl
  where
    by : (b : Bool) → nat_eq i k ≡ b → b ≡ false
    by true e = absurd (h (eqb-true i k e))
    by false e = refl

module _ (home k : ℕ) (flag : Bool) where
  abbrev T : Code → Bool
  T = is_code_of home k flag

  and_false : (a b : Bool) → b ≡ false → (a && b) ≡ false
  and_false true b h = h
  and_false false b h = refl

  -- of another place none passes
  part_none : (h i : ℕ) (sets : Bool) (p : net.Property) (o : Option net.Procedure) → ((c : Bool) → (nat_eq h home && (nat_eq i k && c)) ≡ false)
      → count_of T (part_code h i sets p o) ≡ 0
  part_none h i sets p None other = refl
  part_none h i sets p (Some q) other = ap (λ b. one_if b + 0) (other (is_same_flag sets flag))

  member_none : (h i : ℕ) (m : net.Member) → ((c : Bool) → (nat_eq h home && (nat_eq i k && c)) ≡ false) → count_of T (codes_of_member h i m) ≡ 0
  member_none h i (net.member_comment units) other = refl
  member_none h i (net.variable visibility v) other = refl
  member_none h i (net.const_member visibility d) other = refl
  member_none h i (net.structure s) other = refl
  member_none h i (net.property p) other =
      let both = count_append T (part_code h i false p p.get) (part_code h i true p p.set) in
      let first = part_none h i false p p.get other in
      let second = part_none h i true p p.set other in
      omega (arith, both, first, second)
  member_none h i (net.proc p) other = ap (λ b. one_if b + 0) (other (is_same_flag false flag))

  members_none : (h i : ℕ) (ms : List net.Member) → ((j : ℕ) (c : Bool) → i ≤ j → (nat_eq h home && (nat_eq j k && c)) ≡ false)
      → count_of T (codes_of_members h i ms) ≡ 0
  members_none h i [] other = refl
  members_none h i (m ∷ ms) other =
      let both = count_append T (codes_of_member h i m) (codes_of_members h (suc i) ms) in
      let first = member_none h i m (λ c. other i c (omega arith)) in
      let second = members_none h (suc i) ms (λ j c le. other j c (omega (arith, le))) in
      omega (arith, both, first, second)

  modules_none : (h : ℕ) (ms : List net.Module) → home < h → count_of T (codes_of_modules h ms) ≡ 0
  modules_none h [] lt = refl
  modules_none h (m ∷ ms) lt =
      let differs : nat_eq h home ≡ false = not_same h home (λ e. absurd (omega (arith, e, lt))) in
      let both = count_append T (codes_of_members h 0 m.members) (codes_of_modules (suc h) ms) in
      let first = members_none h 0 m.members (λ j c le. ap (λ b. b && (nat_eq j k && c)) differs) in
      let second = modules_none (suc h) ms (omega (arith, lt)) in
      omega (arith, both, first, second)

  at_most : (b : Bool) → one_if b ≤ 1
  at_most true = omega arith
  at_most false = omega arith

  part_one : (o : Option net.Procedure) (h i : ℕ) (sets : Bool) (p : net.Property) → count_of T (part_code h i sets p o) ≤ 1
  part_one None h i sets p = omega arith
  part_one (Some q) h i sets p = let b = at_most (nat_eq h home && (nat_eq i k && is_same_flag sets flag)) in omega (arith, b)

  other_none : (o : Option net.Procedure) (h i : ℕ) (sets : Bool) (p : net.Property) → is_same_flag sets flag ≡ false → count_of T (part_code h i sets p o) ≡ 0
  other_none None h i sets p e = refl
  other_none (Some q) h i sets p e =
      ap (λ b. one_if b + 0) (and_false (nat_eq h home) (nat_eq i k && is_same_flag sets flag) (and_false (nat_eq i k) (is_same_flag sets flag) e))

  member_one : (h i : ℕ) (m : net.Member) → count_of T (codes_of_member h i m) ≤ 1
  member_one h i (net.member_comment units) = omega arith
  member_one h i (net.variable visibility v) = omega arith
  member_one h i (net.const_member visibility d) = omega arith
  member_one h i (net.structure s) = omega arith
  member_one h i (net.property p) = by flag refl
    where
      sum : count_of T (codes_of_member h i (net.property p)) ≡ count_of T (part_code h i false p p.get) + count_of T (part_code h i true p p.set)
      sum = count_append T (part_code h i false p p.get) (part_code h i true p p.set)

      -- of a Get and a Set one passes
      by : (b : Bool) → flag ≡ b → count_of T (codes_of_member h i (net.property p)) ≤ 1
      by true e =
          let both = sum in
          let first = other_none p.get h i false p (ap (is_same_flag false) e) in
          let second = part_one p.set h i true p in
          omega (arith, both, first, second)
      by false e =
          let both = sum in
          let first = part_one p.get h i false p in
          let second = other_none p.set h i true p (ap (is_same_flag true) e) in
          omega (arith, both, first, second)
  member_one h i (net.proc p) = let b = at_most (nat_eq h home && (nat_eq i k && is_same_flag false flag)) in omega (arith, b)

  members_one : (h i : ℕ) (ms : List net.Member) → count_of T (codes_of_members h i ms) ≤ 1
  members_one h i [] = omega arith
  members_one h i (m ∷ ms) = by (nat_eq i k) refl (members_one h (suc i) ms)
    where
      both : count_of T (codes_of_members h i (m ∷ ms)) ≡ count_of T (codes_of_member h i m) + count_of T (codes_of_members h (suc i) ms)
      both = count_append T (codes_of_member h i m) (codes_of_members h (suc i) ms)

      by : (b : Bool) → nat_eq i k ≡ b → count_of T (codes_of_members h (suc i) ms) ≤ 1 → count_of T (codes_of_members h i (m ∷ ms)) ≤ 1
      by true e more =
          let same : i ≡ k = eqb-true i k e in
          let rest =
          members_none h (suc i) ms
          (λ j c le. and_false (nat_eq h home) (nat_eq j k && c) (ap (λ b. b && c) (not_same j k (λ q. absurd (omega (arith, q, same, le)))))) in
          let one = member_one h i m in
          let sum = both in
          omega (arith, rest, one, sum)
      by false e more =
          let none = member_none h i m (λ c. and_false (nat_eq h home) (nat_eq i k && c) (ap (λ b. b && c) e)) in
          let sum = both in
          omega (arith, none, more, sum)

  modules_one : (h : ℕ) (ms : List net.Module) → count_of T (codes_of_modules h ms) ≤ 1
  modules_one h [] = omega arith
  modules_one h (m ∷ ms) = by (nat_eq h home) refl (modules_one (suc h) ms)
    where
      both : count_of T (codes_of_modules h (m ∷ ms)) ≡ count_of T (codes_of_members h 0 m.members) + count_of T (codes_of_modules (suc h) ms)
      both = count_append T (codes_of_members h 0 m.members) (codes_of_modules (suc h) ms)

      by : (b : Bool) → nat_eq h home ≡ b → count_of T (codes_of_modules (suc h) ms) ≤ 1 → count_of T (codes_of_modules h (m ∷ ms)) ≤ 1
      by true e more =
          let same : h ≡ home = eqb-true h home e in
          let rest = modules_none (suc h) ms (omega (arith, same)) in
          let one = members_one h 0 m.members in
          let sum = both in
          omega (arith, rest, one, sum)
      by false e more =
          let none = members_none h 0 m.members (λ j c le. ap (λ b. b && (nat_eq j k && c)) e) in
          let sum = both in
          omega (arith, none, more, sum)

below_two : (n : ℕ) → n ≤ 1 → n < 2
below_two n h = omega (arith, h)

same_flag : (b : Bool) → is_same_flag b b ≡ true
same_flag true = refl
same_flag false = refl

-- a procedure is found by its module, its member, and whether it is a Set
pub number_found : (N : net.Project) (n : ℕ) (c : Code) → code_at N n ≡ Some c → code_number N c.home c.member c.sets ≡ Some n
number_found N n c e =
    position_found (is_code_of c.home c.member c.sets) (codes_of N) n c e
    (ap (λ b. b && (nat_eq c.member c.member && is_same_flag c.sets c.sets)) (eq-eqb c.home c.home refl)
    ∙ ap (λ b. b && is_same_flag c.sets c.sets) (eq-eqb c.member c.member refl) ∙ same_flag c.sets)
    (below_two (count_of (is_code_of c.home c.member c.sets) (codes_of N)) (modules_one c.home c.member c.sets 0 N.modules))
