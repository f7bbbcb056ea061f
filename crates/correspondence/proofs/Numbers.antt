-- Procedures are numbered in project order, and their lines are the bound ones.
use Rattle.std.proofs.Common.{◌≡◌, refl, ap, sym, subst, ◌∙◌, ℕ, zero, suc, ◌+◌, ◌≤◌, List, [], ◌∷◌, ◌++◌, length, Some, unwrap_or, slice_get, arith}
use Rattle.std.specs.List.{flat_map}
use Rattle.std.specs.Prelude.{zip}
use Rattle.vb_tree.specs.Tree.{Module, Member, alone, group, proc}
use Rattle.bound_tree.specs.Tree.{Declarations}
use Rattle.written_trees.specs.Comments.{Comment, past}
use Rattle.written_trees.specs.Placing.{Numbers, Placed, placed_members, behind_member, behind_members, last_line}
use Rattle.written_trees.specs.Projects.{first_numbers, next_module}
use Rattle.run_matches.specs.Sites.{Site, member_sites, sites_from, sites, site_of}

abbrev AreNumbered : (first : ℕ) → List Site → Type 0
AreNumbered n [] = Unit {0}
AreNumbered n (s ∷ ss) = (s.placed.at.procedure ≡ n) × AreNumbered (suc n) ss

abbrev sites_among : (home : ℕ) → Module → Numbers → List Comment → List Member → List Site
sites_among home m at cs ms = flat_map (λ (p : Placed). member_sites home m p p.member) (placed_members at cs ms)

members_numbered : (home : ℕ) (m : Module) (at : Numbers) (cs : List Comment) (ms : List Member) (rest : List Site)
    → AreNumbered (behind_members at ms).procedure rest → AreNumbered at.procedure (sites_among home m at cs ms ++ rest)
members_numbered home m at cs [] rest h = h
members_numbered home m at cs (alone l ∷ ms) rest h =
    subst (λ (n : ℕ). AreNumbered n (sites_among home m (behind_member at (alone l)) (past (last_line (alone l)) cs) ms ++ rest))
    (let q : at.procedure + 0 ≡ at.procedure = omega arith in q)
    (members_numbered home m (behind_member at (alone l)) (past (last_line (alone l)) cs) ms rest h)
members_numbered home m at cs (group head lines close ∷ ms) rest h =
    subst (λ (n : ℕ). AreNumbered n (sites_among home m (behind_member at (group head lines close)) (past (last_line (group head lines close)) cs) ms ++ rest))
    (let q : at.procedure + 0 ≡ at.procedure = omega arith in q)
    (members_numbered home m (behind_member at (group head lines close)) (past (last_line (group head lines close)) cs) ms rest h)
members_numbered home m at cs (proc head body close ∷ ms) rest h = (
  refl,
  subst (λ (n : ℕ). AreNumbered n (sites_among home m (behind_member at (proc head body close)) (past (last_line (proc head body close)) cs) ms ++ rest))
      (let q : at.procedure + 1 ≡ suc at.procedure = omega arith in q)
      (members_numbered home m (behind_member at (proc head body close)) (past (last_line (proc head body close)) cs) ms rest h),
)

modules_numbered : (home : ℕ) (at : Numbers) (ms : List Module) → AreNumbered at.procedure (sites_from home at ms)
modules_numbered home at [] = tt
modules_numbered home at (m ∷ ms) =
    members_numbered home m at m.comments m.members (sites_from (suc home) (next_module (behind_members at m.members)) ms)
    (modules_numbered (suc home) (next_module (behind_members at m.members)) ms)

number_at : (n : ℕ) (ss : List Site) (i : ℕ) (s : Site) → AreNumbered n ss → slice_get ss i ≡ Some s → s.placed.at.procedure ≡ n + i
number_at n [] i s h e = absurd (cc e)
number_at n (t ∷ ts) zero s h e =
    let same : t ≡ s = ap (λ o. unwrap_or o t) e in
    let a : s.placed.at.procedure ≡ n = sym (ap (λ (q : Site). q.placed.at.procedure) same) ∙ h.0 in
    a ∙ (let q : n ≡ n + 0 = omega arith in q)
number_at n (t ∷ ts) (suc i) s h e = number_at (suc n) ts i s h.1 e ∙ (let q : suc n + i ≡ n + suc i = omega arith in q)

-- the procedure of a number stands at the place with that number
pub site_procedure : (D : Declarations) (p : ℕ) (s : Site) → site_of D p ≡ Some s → s.placed.at.procedure ≡ p
site_procedure D p s e =
    number_at 0 (sites D) p s (modules_numbered 0 first_numbers D.project.modules) e ∙ (let q : 0 + p ≡ p = omega arith in q)

pub zip_length : {A B : Type 0} (xs : List A) (ys : List B) → length ys ≤ length xs → length (zip xs ys) ≡ length ys
zip_length [] [] h = refl
zip_length (x ∷ xs) [] h = refl
zip_length [] (y ∷ ys) h = absurd (omega (arith, h))
zip_length (x ∷ xs) (y ∷ ys) h = ap suc (zip_length xs ys (omega (arith, h)))
