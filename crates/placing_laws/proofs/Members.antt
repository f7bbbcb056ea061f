-- Procedures stand among the members of a module by their numbers.
use Rattle.std.proofs.Common.{◌≡◌, ℕ, zero, suc, ◌+◌, ◌≤◌, true, List, [], ◌∷◌, length, Some, refl, ap, ◌∙◌, subst, arith, inl, inr, length-append, eq-eqb, eqb-true}
use Rattle.std.specs.Prelude.{slice_get}
use Rattle.std.specs.List.{flat_map}
use Rattle.vb_tree.specs.Tree.{Member, Module, alone, group, proc}
use Rattle.bound_tree.specs.Tree.{Declarations}
use Rattle.written_trees.specs.Comments.{Comment, past}
use Rattle.written_trees.specs.Placing.{Numbers, Placed, behind_member, behind_members, count_procedures, last_line, place_member, placed_members}
use Rattle.written_trees.specs.Projects.{first_numbers, next_module}
use Rattle.run_matches.specs.Sites.{Site, member_sites, module_sites, site_of, sites_from}
use Rattle.placing_laws.proofs.Counts.{StandsIn, is_at, is_at_some}
use Rattle.placing_laws.proofs.Lists.{Halves, at_back, in_front, same_item, split}

-- ---- one member

abbrev pub sites_among : (home : ℕ) → Module → List Placed → List Site
sites_among home m ps = flat_map (λ (p : Placed). member_sites home m p p.member) ps

-- the site of the procedure n, which stands among members of a module
pub record IsAmong (home : ℕ) (m : Module) (n : ℕ) (ps : List Placed) (s : Site) : Type 0 where
  pub in_home : s.home ≡ home
  pub in_module : s.source_module ≡ m
  pub is_number : s.placed.at.procedure ≡ n
  pub stands : StandsIn ps n

pub member_count : (home : ℕ) (m : Module) (p : Placed) (x : Member) → length (member_sites home m p x) ≡ count_procedures x
member_count home m p (alone l) = refl
member_count home m p (group head lines close) = refl
member_count home m p (proc head body close) = refl

among_first : (home : ℕ) (m : Module) (at : Numbers) (cs : List Comment) (x : Member) (ps : List Placed) (i : ℕ) (s : Site)
    → slice_get (member_sites home m (place_member at cs x) x) i ≡ Some s → IsAmong home m (at.procedure + i) (place_member at cs x ∷ ps) s
among_first home m at cs (alone l) ps i s e = absurd (cc e)
among_first home m at cs (group head lines close) ps i s e = absurd (cc e)
among_first home m at cs (proc head body close) ps (suc i) s e = absurd (cc e)
among_first home m at cs (proc head body close) ps zero s e =
    let p = place_member at cs (proc head body close) in
    let own : Site = record { home = home; source_module = m; placed = p; head = head; body = body; close = close } in
    let number : at.procedure ≡ at.procedure + 0 = omega arith in
    subst (λ t. IsAmong home m (at.procedure + 0) (p ∷ ps) t) (same_item own s e)
    (record { in_home = refl; in_module = refl; is_number = number; stands = (0, p, refl, eq-eqb at.procedure (at.procedure + 0) number) })

among_more : (home : ℕ) (m : Module) (n k : ℕ) (p : Placed) (ps : List Placed) (s : Site) → n ≡ k → IsAmong home m n ps s → IsAmong home m k (p ∷ ps) s
among_more home m n k p ps s e h =
    subst (λ j. IsAmong home m j (p ∷ ps) s) e
    (record {
      in_home = h.in_home;
      in_module = h.in_module;
      is_number = h.is_number;
      stands = (suc h.stands.0, h.stands.1, h.stands.2, h.stands.3);
    })

-- ---- members

pub members_among : (home : ℕ) (m : Module) (at : Numbers) (cs : List Comment) (ms : List Member) (i : ℕ) (s : Site)
    → slice_get (sites_among home m (placed_members at cs ms)) i ≡ Some s → IsAmong home m (at.procedure + i) (placed_members at cs ms) s
members_among home m at cs [] i s e = absurd (cc e)
members_among home m at cs (x ∷ ms) i s e =
    of_half (split (member_sites home m (place_member at cs x) x) (sites_among home m (placed_members (behind_member at x) (past (last_line x) cs) ms)) i s e)
    (λ j f. members_among home m (behind_member at x) (past (last_line x) cs) ms j s f)
  where
    of_half : Halves (member_sites home m (place_member at cs x) x) (sites_among home m (placed_members (behind_member at x) (past (last_line x) cs) ms)) i s
        → ((j : ℕ) → slice_get (sites_among home m (placed_members (behind_member at x) (past (last_line x) cs) ms)) j ≡ Some s
        → IsAmong home m ((behind_member at x).procedure + j) (placed_members (behind_member at x) (past (last_line x) cs) ms) s)
        → IsAmong home m (at.procedure + i) (place_member at cs x ∷ placed_members (behind_member at x) (past (last_line x) cs) ms) s
    of_half (inl f) more = among_first home m at cs x (placed_members (behind_member at x) (past (last_line x) cs) ms) i s f
    of_half (inr f) more =
        let j = f.0 in
        let place = f.1 in
        let many = member_count home m (place_member at cs x) x in
        let number : at.procedure + count_procedures x + j ≡ at.procedure + i = omega (arith, place, many) in
        among_more home m ((behind_member at x).procedure + j) (at.procedure + i) (place_member at cs x)
        (placed_members (behind_member at x) (past (last_line x) cs) ms) s number (more j f.2)

pub members_behind : (home : ℕ) (m : Module) (at : Numbers) (cs : List Comment) (ms : List Member)
    → (behind_members at ms).procedure ≡ at.procedure + length (sites_among home m (placed_members at cs ms))
members_behind home m at cs [] = omega arith
members_behind home m at cs (x ∷ ms) =
    let rest = sites_among home m (placed_members (behind_member at x) (past (last_line x) cs) ms) in
    let more : (behind_members (behind_member at x) ms).procedure ≡ at.procedure + count_procedures x + length rest =
    members_behind home m (behind_member at x) (past (last_line x) cs) ms in
    let many = member_count home m (place_member at cs x) x in
    let both = length-append (member_sites home m (place_member at cs x) x) rest in
    omega (arith, more, many, both)

-- ---- a procedure that stands among members has a site

pub record HasSite (sites : List Site) (base n : ℕ) : Type 0 where
  pub place : ℕ
  pub site : Site
  pub is_site : slice_get sites place ≡ Some site
  pub is_number : n ≡ base + place

first_site : (home : ℕ) (m : Module) (at : Numbers) (cs : List Comment) (x : Member) (n : ℕ) → is_at n (place_member at cs x) ≡ true
    → HasSite (member_sites home m (place_member at cs x) x) at.procedure n
first_site home m at cs (alone l) n t = absurd (cc t)
first_site home m at cs (group head lines close) n t = absurd (cc t)
first_site home m at cs (proc head body close) n t =
    let same : at.procedure ≡ n = eqb-true at.procedure n t in
    record {
      place = 0;
      site = record { home = home; source_module = m; placed = place_member at cs (proc head body close); head = head; body = body; close = close };
      is_site = refl;
      is_number = omega (arith, same);
    }

pub has_site : (home : ℕ) (m : Module) (at : Numbers) (cs : List Comment) (ms : List Member) (n k : ℕ) (p : Placed) → slice_get (placed_members at cs ms) k ≡ Some p
    → is_at n p ≡ true → HasSite (sites_among home m (placed_members at cs ms)) at.procedure n
has_site home m at cs [] n k p e t = absurd (cc e)
has_site home m at cs (x ∷ ms) n zero p e t =
    let h = first_site home m at cs x n (ap (is_at_some n) e ∙ t) in
    record {
      place = h.place;
      site = h.site;
      is_site =
          in_front (member_sites home m (place_member at cs x) x) (sites_among home m (placed_members (behind_member at x) (past (last_line x) cs) ms))
          h.place h.site h.is_site;
      is_number = h.is_number;
    }
has_site home m at cs (x ∷ ms) n (suc k) p e t =
    let here = member_sites home m (place_member at cs x) x in
    let rest = sites_among home m (placed_members (behind_member at x) (past (last_line x) cs) ms) in
    let h : HasSite rest (behind_member at x).procedure n = has_site home m (behind_member at x) (past (last_line x) cs) ms n k p e t in
    let many = member_count home m (place_member at cs x) x in
    let number : n ≡ at.procedure + count_procedures x + h.place = h.is_number in
    record {
      place = length here + h.place;
      site = h.site;
      is_site = at_back here rest h.place (length here + h.place) h.site refl h.is_site;
      is_number = omega (arith, many, number);
    }

-- ---- modules

-- the numbers of a site
pub record IsNumbered (home n : ℕ) (s : Site) : Type 0 where
  pub is_behind : home ≤ s.home
  pub is_number : s.placed.at.procedure ≡ n

pub sites_numbered : (home : ℕ) (at : Numbers) (ms : List Module) (i : ℕ) (s : Site) → slice_get (sites_from home at ms) i ≡ Some s
    → IsNumbered home (at.procedure + i) s
sites_numbered home at [] i s e = absurd (cc e)
sites_numbered home at (m ∷ ms) i s e =
    of_half (split (module_sites home at m) (sites_from (suc home) (next_module (behind_members at m.members)) ms) i s e)
    (λ j f. sites_numbered (suc home) (next_module (behind_members at m.members)) ms j s f)
  where
    of_half : Halves (module_sites home at m) (sites_from (suc home) (next_module (behind_members at m.members)) ms) i s
        → ((j : ℕ) → slice_get (sites_from (suc home) (next_module (behind_members at m.members)) ms) j ≡ Some s
        → IsNumbered (suc home) ((behind_members at m.members).procedure + j) s)
        → IsNumbered home (at.procedure + i) s
    of_half (inl f) more =
        let h = members_among home m at m.comments m.members i s f in
        let same = h.in_home in
        record { is_behind = omega (arith, same); is_number = h.is_number }
    of_half (inr f) more =
        let h = more f.0 f.2 in
        let above = h.is_behind in
        let number = h.is_number in
        let place = f.1 in
        let many = members_behind home m at m.comments m.members in
        record { is_behind = omega (arith, above); is_number = omega (arith, number, place, many) }

-- the site of a number is that of the procedure of that number
pub site_number : (D : Declarations) (p : ℕ) (s : Site) → site_of D p ≡ Some s → s.placed.at.procedure ≡ p
site_number D p s e =
    let h = sites_numbered 0 first_numbers D.project.modules p s e in
    let number = h.is_number in
    let here : 0 + p ≡ p = omega arith in
    number ∙ here
