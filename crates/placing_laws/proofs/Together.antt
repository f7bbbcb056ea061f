-- The parts of a property stand among the members of one module.
use Rattle.std.proofs.Common.{◌≡◌, ℕ, suc, ◌+◌, ◌≤◌, true, List, [], ◌∷◌, length, Some, refl, sym, ap, ◌∙◌, subst, arith, inl, inr}
use Rattle.std.specs.Prelude.{slice_get}
use Rattle.vb_tree.specs.Tree.{Module}
use Rattle.bound_tree.specs.Tree.{Procedure, Declarations}
use Rattle.written_trees.specs.Arguments.{is_property_kind}
use Rattle.written_trees.specs.Placing.{Numbers, behind_members, placed_members}
use Rattle.written_trees.specs.Projects.{first_numbers, next_module}
use Rattle.run_matches.specs.Sites.{Site, module_sites, sites, sites_from}
use Rattle.run_statements.specs.Written.{PartsStandTogether}
use Rattle.placing_laws.proofs.Counts.{HasParts, StandsIn}
use Rattle.placing_laws.proofs.Lists.{Halves, at_back, in_front, split}
use Rattle.placing_laws.proofs.Members.{has_site, members_among, members_behind, sites_numbered}

-- in each of these modules the parts of a property stand together
abbrev pub AreTogether : Declarations → Numbers → List Module → Type 0
AreTogether D at [] = Unit {0}
AreTogether D at (m ∷ ms) =
    ((first : ℕ) → StandsIn (placed_members at m.comments m.members) first → HasParts D (placed_members at m.comments m.members) first)
    × AreTogether D (next_module (behind_members at m.members)) ms

-- a part among the sites of modules whose procedures are numbered from `base`, in this home
pub record PartSite (list : List Site) (base n home : ℕ) : Type 0 where
  pub place : ℕ
  pub site : Site
  pub is_number : n ≡ base + place
  pub is_site : slice_get list place ≡ Some site
  pub same_home : site.home ≡ home

abbrev PartsFrom : Declarations → (home : ℕ) → Numbers → List Module → Type 0
PartsFrom D home at ms =
    (n i : ℕ) (q : Procedure) (s : Site) → slice_get D.procs n ≡ Some q → is_property_kind q.kind ≡ true → q.first.0 ≡ at.procedure + i
    → slice_get (sites_from home at ms) i ≡ Some s → PartSite (sites_from home at ms) at.procedure n s.home

in_first : (D : Declarations) (home : ℕ) (at : Numbers) (m : Module) (ms : List Module) → PartsFrom D home at (m ∷ ms) → (first : ℕ)
    → StandsIn (placed_members at m.comments m.members) first → HasParts D (placed_members at m.comments m.members) first
in_first D home at m ms h first stands n q a b c =
    let f = has_site home m at m.comments m.members first stands.0 stands.1 stands.2 stands.3 in
    let here = module_sites home at m in
    let later = sites_from (suc home) (next_module (behind_members at m.members)) ms in
    let number = f.is_number in
    let g = h n f.place q f.site a b (c ∙ number) (in_front here later f.place f.site f.is_site) in
    of_half f.site.home (members_among home m at m.comments m.members f.place f.site f.is_site).in_home g.site g.place g.is_number g.same_home (split here later g.place g.site g.is_site)
  where
    of_half : (k : ℕ) → k ≡ home → (t : Site) (j : ℕ) → n ≡ at.procedure + j → t.home ≡ k
        → Halves (module_sites home at m) (sites_from (suc home) (next_module (behind_members at m.members)) ms) j t
        → StandsIn (placed_members at m.comments m.members) n
    of_half k is t j number same (inl e) =
        subst (λ z. StandsIn (placed_members at m.comments m.members) z) (sym number) (members_among home m at m.comments m.members j t e).stands
    of_half k is t j number same (inr e) =
        let above = (sites_numbered (suc home) (next_module (behind_members at m.members)) ms e.0 t e.2).is_behind in
        absurd (omega (arith, is, same, above))

in_later : (D : Declarations) (home : ℕ) (at : Numbers) (m : Module) (ms : List Module) → PartsFrom D home at (m ∷ ms)
    → PartsFrom D (suc home) (next_module (behind_members at m.members)) ms
in_later D home at m ms h n i q s a b c e =
    let here = module_sites home at m in
    let later = sites_from (suc home) (next_module (behind_members at m.members)) ms in
    let many = members_behind home m at m.comments m.members in
    let first : q.first.0 ≡ (behind_members at m.members).procedure + i = c in
    let place : q.first.0 ≡ at.procedure + (length here + i) = omega (arith, many, first) in
    let g = h n (length here + i) q s a b place (at_back here later i (length here + i) s refl e) in
    let above = (sites_numbered (suc home) (next_module (behind_members at m.members)) ms i s e).is_behind in
    of_half above g.site g.place g.is_number g.same_home (split here later g.place g.site g.is_site)
  where
    of_half : suc home ≤ s.home → (t : Site) (j : ℕ) → n ≡ at.procedure + j → t.home ≡ s.home
        → Halves (module_sites home at m) (sites_from (suc home) (next_module (behind_members at m.members)) ms) j t
        → PartSite (sites_from (suc home) (next_module (behind_members at m.members)) ms) (behind_members at m.members).procedure n s.home
    of_half above t j number same (inl f) =
        let is = (members_among home m at m.comments m.members j t f).in_home in
        absurd (omega (arith, above, is, same))
    of_half above t j number same (inr f) =
        let many = members_behind home m at m.comments m.members in
        let place = f.1 in
        record { place = f.0; site = t; is_number = omega (arith, many, place, number); is_site = f.2; same_home = same }

together_from : (D : Declarations) (home : ℕ) (at : Numbers) (ms : List Module) → PartsFrom D home at ms → AreTogether D at ms
together_from D home at [] h = tt
together_from D home at (m ∷ ms) h =
    (in_first D home at m ms h, together_from D (suc home) (next_module (behind_members at m.members)) ms (in_later D home at m ms h))

pub together : (D : Declarations) → PartsStandTogether D → AreTogether D first_numbers D.project.modules
together D h = together_from D 0 first_numbers D.project.modules given
  where
    given : PartsFrom D 0 first_numbers D.project.modules
    given n i q s a b c e =
        let first : q.first.0 ≡ 0 + i = c in
        let place : q.first.0 ≡ i = omega (arith, first) in
        let t = h n q s a b (ap (slice_get (sites D)) place ∙ e) in
        record { place = n; site = t.0; is_number = omega arith; is_site = t.1; same_home = t.2 }
