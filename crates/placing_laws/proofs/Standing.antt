-- A procedure stands among written procedures where the order of procedures has it.
use Rattle.std.proofs.Common.{◌≡◌, ℕ, zero, suc, ◌+◌, false, List, [], ◌∷◌, ◌++◌, length, Option, Some, refl, sym, ap, subst, arith, inl, inr, eq-eqb, ne_eqb, length-append}
use Rattle.std.specs.Prelude.{slice_get, nat_eq}
use Rattle.std.specs.List.{flat_map}
use Rattle.up_base.proofs.Lists.{and_true}
use Rattle.vb_tree.specs.Tree.{Member, Module, alone, group, proc}
use Rattle.bound_tree.specs.Tree.{Program}
use Rattle.written_trees.specs.Comments.{Comment, past, texts}
use Rattle.written_trees.specs.DeclaredMembers.{member_comments}
use Rattle.written_trees.specs.Facts.{Facts}
use Rattle.written_trees.specs.Members.{procedure_members, written_member}
use Rattle.written_trees.specs.Names.{Scope}
use Rattle.written_trees.specs.Order.{member_order, members_order, procedure_order}
use Rattle.written_trees.specs.Placing.{Numbers, Placed, behind_member, count_procedures, last_line, place_member, placed_members}
use Rattle.written_trees.specs.Projects.{module_scope}
use Rattle.written_trees.specs.Properties.{is_procedure_member}
use Rattle.net_run.specs.Members.{Code, codes_of_members}
use Rattle.run_matches.specs.Sites.{Site, member_sites}
use Rattle.run_matches.specs.Upgrades.{is_that}
use Rattle.placing_laws.proofs.Codes.{behind_codeless, codes_append, comments_codeless}
use Rattle.placing_laws.proofs.Counts.{HasParts, StandsIn, member_codes}
use Rattle.placing_laws.proofs.Lists.{FoundAt, Halves, Lacks, at_back, found_left, found_right, in_front, lacks_both, same_item, split}
use Rattle.placing_laws.proofs.Members.{member_count, sites_among}

-- ---- where it stands

-- the procedure p, in the order and among the written ones, with what is known of what is written for it
pub record Stands (Fits : Code → Type 0) (p : ℕ) (os : List (Option ℕ)) (cs : List Code) : Type 0 where
  pub number : ℕ
  pub is_number : FoundAt (is_that p) os number
  pub code : Code
  pub is_code : slice_get cs number ≡ Some code
  pub fits : Fits code

module _ (Fits : Code → Type 0) (p : ℕ) where
  pub stands_left : (os other : List (Option ℕ)) (cs more : List Code) → Stands Fits p os cs → Stands Fits p (os ++ other) (cs ++ more)
  stands_left os other cs more h = record {
    number = h.number;
    is_number = found_left (is_that p) os other h.number h.is_number;
    code = h.code;
    is_code = in_front cs more h.number h.code h.is_code;
    fits = h.fits;
  }

  pub stands_right : (os other : List (Option ℕ)) (cs more : List Code) → Lacks (is_that p) os → length cs ≡ length os → Stands Fits p other more
      → Stands Fits p (os ++ other) (cs ++ more)
  stands_right os other cs more lacks many h =
      let r = found_right (is_that p) os other h.number lacks h.is_number in
      let number = r.1 in
      record {
        number = r.0;
        is_number = r.2;
        code = h.code;
        is_code = at_back cs more h.number r.0 h.code (omega (arith, number, many)) h.is_code;
        fits = h.fits;
      }

  pub stands_as : (os other : List (Option ℕ)) (cs more : List Code) → os ≡ other → cs ≡ more → Stands Fits p other more → Stands Fits p os cs
  stands_as os other cs more e f h = subst (λ zs. Stands Fits p zs cs) (sym e) (subst (λ zs. Stands Fits p other zs) (sym f) h)

-- what is written for another procedure than `at` isn't written for p
abbrev pub StandsOnlyAt : Scope → (p at : ℕ) → Type 0
StandsOnlyAt S p at = (n : ℕ) → nat_eq at n ≡ false → Lacks (is_that p) (procedure_order S n (slice_get S.declarations.procs n))

-- ---- other procedures

-- a procedure that stands behind a member is another one
member_lacks : (S : Scope) (home : ℕ) (m : Module) (l : Placed) (p a n i : ℕ) (y : Member) → StandsOnlyAt S p a
    → a ≡ n + (length (member_sites home m l y) + i) → Lacks (is_that p) (member_order S n y)
member_lacks S home m l p a n i (alone z) only above = tt
member_lacks S home m l p a n i (group head lines close) only above = tt
member_lacks S home m l p a n i (proc head body close) only above =
    let behind : a ≡ n + (1 + i) = above in
    only n (ne_eqb a n (λ same. absurd (omega (arith, same, behind))))

pub members_lack : (S : Scope) (home : ℕ) (m : Module) (at : Numbers) (cs : List Comment) (ms : List Member) (p a i : ℕ) → StandsOnlyAt S p a
    → a ≡ at.procedure + (length (sites_among home m (placed_members at cs ms)) + i) → Lacks (is_that p) (members_order S (placed_members at cs ms))
members_lack S home m at cs [] p a i only above = tt
members_lack S home m at cs (y ∷ ms) p a i only above =
    let l = place_member at cs y in
    let rest = placed_members (behind_member at y) (past (last_line y) cs) ms in
    let both = length-append (member_sites home m l y) (sites_among home m rest) in
    let many = member_count home m l y in
    let number : a ≡ at.procedure + (length (member_sites home m l y) + (length (sites_among home m rest) + i)) = omega (arith, above, both) in
    let later : a ≡ at.procedure + count_procedures y + (length (sites_among home m rest) + i) = omega (arith, number, many) in
    lacks_both (is_that p) (member_order S at.procedure y) (members_order S rest)
    (member_lacks S home m l p a at.procedure (length (sites_among home m rest) + i) y only number)
    (members_lack S home m (behind_member at y) (past (last_line y) cs) ms p a i only later)

-- ---- members

-- among what is written for the procedure a, whose site this is, among the members `ps`
abbrev pub StandsAt : Program → Facts → (Code → Type 0) → (p a : ℕ) → (home : ℕ) → Module → List Placed → Site → Type 0
StandsAt P F Fits p a home m ps t =
    (k : ℕ)
    → Stands Fits p (procedure_order (module_scope P F m) a (slice_get P.declarations.procs a))
    (codes_of_members home k (procedure_members P (module_scope P F m) ps t.placed t.head t.body (slice_get P.declarations.procs a)))

module _ (P : Program) (F : Facts) (Fits : Code → Type 0) (p a : ℕ) (home : ℕ) (m : Module) (ps : List Placed) where
  member_stands : (at : Numbers) (cs : List Comment) (y : Member) (k i : ℕ) (t : Site) → slice_get (member_sites home m (place_member at cs y) y) i ≡ Some t
      → a ≡ at.procedure + i → StandsAt P F Fits p a home m ps t
      → Stands Fits p (member_order (module_scope P F m) at.procedure y)
      (codes_of_members home k (written_member P (module_scope P F m) ps (place_member at cs y)))
  member_stands at cs (alone l) k i t f number h = absurd (cc f)
  member_stands at cs (group head lines close) k i t f number h = absurd (cc f)
  member_stands at cs (proc head body close) k (suc i) t f number h = absurd (cc f)
  member_stands at cs (proc head body close) k zero t f number h =
      let S = module_scope P F m in
      let l = place_member at cs (proc head body close) in
      let same : a ≡ at.procedure = omega (arith, number) in
      let o = slice_get P.declarations.procs at.procedure in
      let first = behind_codeless home k (member_comments (texts l.earlier)) (procedure_members P S ps l head body o) (comments_codeless (texts l.earlier)) in
      let own : Site = record { home = home; source_module = m; placed = l; head = head; body = body; close = close } in
      let here : StandsAt P F Fits p a home m ps own = subst (λ z. StandsAt P F Fits p a home m ps z) (sym (same_item own t f)) h in
      stands_as Fits p (procedure_order S at.procedure o) (procedure_order S at.procedure o)
      (codes_of_members home k (member_comments (texts l.earlier) ++ procedure_members P S ps l head body o))
      (codes_of_members home first.0 (procedure_members P S ps l head body o)) refl first.1
      (subst (λ n. StandsAt P F Fits p n home m ps own) same here first.0)

  pub members_stand : (at : Numbers) (cs : List Comment) (ms : List Member) (k i : ℕ) (t : Site)
      → slice_get (sites_among home m (placed_members at cs ms)) i ≡ Some t → a ≡ at.procedure + i
      → ((n : ℕ) → StandsIn (placed_members at cs ms) n → HasParts P.declarations ps n)
      → StandsOnlyAt (module_scope P F m) p a → StandsAt P F Fits p a home m ps t
      → Stands Fits p (members_order (module_scope P F m) (placed_members at cs ms))
      (codes_of_members home k (flat_map (written_member P (module_scope P F m) ps) (placed_members at cs ms)))
  members_stand at cs [] k i t f number has only h = absurd (cc f)
  members_stand at cs (y ∷ ms) k i t f number has only h =
      let S = module_scope P F m in
      let l = place_member at cs y in
      let rest = placed_members (behind_member at y) (past (last_line y) cs) ms in
      let here = written_member P S ps l in
      let more = flat_map (written_member P S ps) rest in
      let codes = codes_append home k here more in
      stands_as Fits p (member_order S at.procedure y ++ members_order S rest) (member_order S at.procedure y ++ members_order S rest)
      (codes_of_members home k (here ++ more)) (codes_of_members home k here ++ codes_of_members home codes.0 more) refl codes.1
      (of_half codes.0 (split (member_sites home m l y) (sites_among home m rest) i t f)
      (λ j g next_number. members_stand (behind_member at y) (past (last_line y) cs) ms codes.0 j t g next_number
      (λ n s. has n (suc s.0, s.1, s.2, s.3)) only h))
    where
      of_half : (c : ℕ) → Halves (member_sites home m (place_member at cs y) y)
          (sites_among home m (placed_members (behind_member at y) (past (last_line y) cs) ms)) i t
          → ((j : ℕ) → slice_get (sites_among home m (placed_members (behind_member at y) (past (last_line y) cs) ms)) j ≡ Some t
          → a ≡ (behind_member at y).procedure + j
          → Stands Fits p (members_order (module_scope P F m) (placed_members (behind_member at y) (past (last_line y) cs) ms))
          (codes_of_members home c (flat_map (written_member P (module_scope P F m) ps) (placed_members (behind_member at y) (past (last_line y) cs) ms))))
          → Stands Fits p
          (member_order (module_scope P F m) at.procedure y ++ members_order (module_scope P F m) (placed_members (behind_member at y) (past (last_line y) cs) ms))
          (codes_of_members home k (written_member P (module_scope P F m) ps (place_member at cs y))
          ++ codes_of_members home c (flat_map (written_member P (module_scope P F m) ps) (placed_members (behind_member at y) (past (last_line y) cs) ms)))
      of_half c (inl g) later =
          let S = module_scope P F m in
          let rest = placed_members (behind_member at y) (past (last_line y) cs) ms in
          stands_left Fits p (member_order S at.procedure y) (members_order S rest)
          (codes_of_members home k (written_member P S ps (place_member at cs y))) (codes_of_members home c (flat_map (written_member P S ps) rest))
          (member_stands at cs y k i t g number h)
      of_half c (inr g) later =
          let S = module_scope P F m in
          let l = place_member at cs y in
          let rest = placed_members (behind_member at y) (past (last_line y) cs) ms in
          let place = g.1 in
          let many = member_count home m l y in
          let above : a ≡ at.procedure + (length (member_sites home m l y) + g.0) = omega (arith, number, place) in
          let behind : a ≡ at.procedure + count_procedures y + g.0 = omega (arith, above, many) in
          stands_right Fits p (member_order S at.procedure y) (members_order S rest)
          (codes_of_members home k (written_member P S ps l)) (codes_of_members home c (flat_map (written_member P S ps) rest))
          (member_lacks S home m l p a at.procedure g.0 y only above)
          (member_codes P S ps l y home k (λ is. has at.procedure (0, l, refl, and_true (is_procedure_member y) (nat_eq at.procedure at.procedure) is (eq-eqb at.procedure at.procedure refl))))
          (later g.0 g.2 behind)

-- what is written for members has as many procedures as their order
pub members_codes : (P : Program) (S : Scope) (ps : List Placed) (at : Numbers) (cs : List Comment) (ms : List Member) (home k : ℕ)
    → ((n : ℕ) → StandsIn (placed_members at cs ms) n → HasParts S.declarations ps n)
    → length (codes_of_members home k (flat_map (written_member P S ps) (placed_members at cs ms))) ≡ length (members_order S (placed_members at cs ms))
members_codes P S ps at cs [] home k has = refl
members_codes P S ps at cs (y ∷ ms) home k has =
    let l = place_member at cs y in
    let rest = placed_members (behind_member at y) (past (last_line y) cs) ms in
    let here = written_member P S ps l in
    let more = flat_map (written_member P S ps) rest in
    let codes = codes_append home k here more in
    let both = length-append (codes_of_members home k here) (codes_of_members home codes.0 more) in
    let orders = length-append (member_order S at.procedure y) (members_order S rest) in
    let same = ap length codes.1 in
    let one =
    member_codes P S ps l y home k
    (λ t. has at.procedure (0, l, refl, and_true (is_procedure_member y) (nat_eq at.procedure at.procedure) t (eq-eqb at.procedure at.procedure refl))) in
    let others = members_codes P S ps (behind_member at y) (past (last_line y) cs) ms home codes.0 (λ n t. has n (suc t.0, t.1, t.2, t.3)) in
    omega (arith, both, orders, same, one, others)
