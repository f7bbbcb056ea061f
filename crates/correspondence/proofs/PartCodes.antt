-- A written part of a property is its Get or its Set.
use Rattle.std.proofs.Common.{◌≡◌, ℕ, suc, Bool, true, false, cond, List, [], ◌∷◌, Option, Some, None, refl, sym, ap, ◌∙◌, subst, inl, inr}
use Rattle.net_tree.specs.Tree as net
use Rattle.net_tree.specs.Tree.{Module, Procedure}
use Rattle.net_run.specs.Members.{Code, code_at, codes_of, codes_of_member, codes_of_members, codes_of_modules, part_code}
use Rattle.correspondence.specs.Lists.{In}
use Rattle.correspondence.proofs.Among.{in_either}
use Rattle.correspondence.proofs.KnownPaths.{in_place}

abbrev IsPartOf : Code → Option net.Property → Type 0
IsPartOf c None = Unit {0}
IsPartOf c (Some r) = cond c.sets r.set r.get ≡ Some c.procedure

abbrev IsPart : Code → Type 0
IsPart c = IsPartOf c c.property

module _ (c : Code) where
  part_is : (home k : ℕ) (sets : Bool) (r : net.Property) (o : Option Procedure) → cond sets r.set r.get ≡ o → In c (part_code home k sets r o) → IsPart c
  part_is home k sets r None e i = absurd i
  part_is home k sets r (Some p) e (inl same) = subst IsPart (sym same) e
  part_is home k sets r (Some p) e (inr i) = absurd i

  member_is : (home k : ℕ) (m : net.Member) → In c (codes_of_member home k m) → IsPart c
  member_is home k (net.member_comment units) i = absurd i
  member_is home k (net.variable visibility v) i = absurd i
  member_is home k (net.const_member visibility d) i = absurd i
  member_is home k (net.structure s) i = absurd i
  member_is home k (net.property r) i =
      elim (in_either (part_code home k false r r.get) (part_code home k true r r.set) c i)
      [ inl j ↦ part_is home k false r r.get refl j | inr j ↦ part_is home k true r r.set refl j ]
  member_is home k (net.proc p) (inl same) = subst IsPart (sym same) tt
  member_is home k (net.proc p) (inr i) = absurd i

  members_are : (home k : ℕ) (ms : List net.Member) → In c (codes_of_members home k ms) → IsPart c
  members_are home k [] i = absurd i
  members_are home k (m ∷ ms) i =
      elim (in_either (codes_of_member home k m) (codes_of_members home (suc k) ms) c i)
      [ inl j ↦ member_is home k m j | inr j ↦ members_are home (suc k) ms j ]

  modules_are : (home : ℕ) (ms : List Module) → In c (codes_of_modules home ms) → IsPart c
  modules_are home [] i = absurd i
  modules_are home (m ∷ ms) i =
      elim (in_either (codes_of_members home 0 m.members) (codes_of_modules (suc home) ms) c i)
      [ inl j ↦ members_are home 0 m.members j | inr j ↦ modules_are (suc home) ms j ]

pub part_of_property : (N : net.Project) (n : ℕ) (c : Code) (r : net.Property) (sets : Bool) → code_at N n ≡ Some c → c.property ≡ Some r → c.sets ≡ sets
    → cond sets r.set r.get ≡ Some c.procedure
part_of_property N n c r sets at of is =
    ap (λ (b : Bool). cond b r.set r.get) (sym is) ∙ subst (IsPartOf c) of (modules_are c 0 N.modules (in_place (codes_of N) n c at))
