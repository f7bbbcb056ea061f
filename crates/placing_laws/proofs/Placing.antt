-- Each procedure is written in the module that its own is written as, and has its number there.
use Rattle.std.proofs.Common.{◌≡◌, ℕ, suc, ◌+◌, Bool, true, false, cond, List, [], ◌∷◌, ◌++◌, length, Option, Some, None, refl, sym, ap, ◌∙◌, arith, inl, inr, subst, append-nil}
use Rattle.std.specs.Prelude.{slice_get}
use Rattle.std.specs.List.{flat_map}
use Rattle.up_base.proofs.Lists.{by_test}
use Rattle.vb_tree.specs.Tree.{Module}
use Rattle.bound_tree.specs.Tree.{Procedure, Program}
use Rattle.net_tree.specs.Tree as net
use Rattle.written_trees.specs.Arguments.{is_property_kind}
use Rattle.written_trees.specs.Comments.{texts}
use Rattle.written_trees.specs.DeclaredMembers.{member_comments}
use Rattle.written_trees.specs.Facts.{Facts}
use Rattle.written_trees.specs.Members.{written_member, written_members}
use Rattle.written_trees.specs.Order.{members_order, module_order, modules_order, written_order}
use Rattle.written_trees.specs.Placing.{Numbers, behind_members, last_comments, placed_members}
use Rattle.written_trees.specs.Projects.{first_numbers, has_initializer, makers, module_scope, modules_from, next_module, written_module, written_modules}
use Rattle.net_run.specs.Members.{Code, code_at, codes_of_members, codes_of_modules}
use Rattle.run_matches.specs.Sites.{Site, module_sites, site_of, sites_from}
use Rattle.run_matches.specs.Upgrades.{Upgrade, is_that}
use Rattle.run_statements.specs.Written.{IsWritten, ProceduresAreWritten, WrittenProcedure, site_scope}
use Rattle.placing_laws.proofs.Alone.{IsWrittenFor, stands_only_there, stands_there}
use Rattle.placing_laws.proofs.Codes.{codes_append, comments_codeless, no_codes}
use Rattle.placing_laws.proofs.Counts.{HasParts, StandsIn}
use Rattle.placing_laws.proofs.Joined.{has_first}
use Rattle.placing_laws.proofs.Lists.{Halves, Lacks, found_position, split}
use Rattle.placing_laws.proofs.Members.{members_among, members_behind, sites_numbered}
use Rattle.placing_laws.proofs.Parts.{IsPartOf, part_is_found, part_stands_only, part_stands_there}
use Rattle.placing_laws.proofs.Standing.{Stands, StandsAt, StandsOnlyAt, members_codes, members_lack, members_stand, stands_as, stands_left, stands_right}
use Rattle.placing_laws.proofs.Together.{AreTogether, together}

-- ---- one module

-- the parts of each property stand with it
abbrev ModuleHasParts : Program → Numbers → Module → Type 0
ModuleHasParts P at m =
    (n : ℕ) → StandsIn (placed_members at m.comments m.members) n → HasParts P.declarations (placed_members at m.comments m.members) n

makers_stand : (Fits : Code → Type 0) (p : ℕ) (home : ℕ) (b : Bool) (os : List (Option ℕ)) (ms : List net.Member)
    → ((k : ℕ) → Stands Fits p os (codes_of_members home k ms)) → Stands Fits p (cond b (None ∷ []) [] ++ os) (codes_of_members home 0 (makers b ++ ms))
makers_stand Fits p home true os ms h =
    stands_right Fits p (None ∷ []) os (codes_of_members home 0 (makers true)) (codes_of_members home 1 ms) (refl, tt) refl (h 1)
makers_stand Fits p home false os ms h = h 0

makers_codes : (home : ℕ) (b : Bool) (os : List (Option ℕ)) (ms : List net.Member) → ((k : ℕ) → length (codes_of_members home k ms) ≡ length os)
    → length (codes_of_members home 0 (makers b ++ ms)) ≡ length (cond b (None ∷ []) [] ++ os)
makers_codes home true os ms h = ap suc (h 1)
makers_codes home false os ms h = h 0

makers_lack : (p : ℕ) (b : Bool) (os : List (Option ℕ)) → Lacks (is_that p) os → Lacks (is_that p) (cond b (None ∷ []) [] ++ os)
makers_lack p true os h = (refl, h)
makers_lack p false os h = h

module _ (P : Program) (F : Facts) (home : ℕ) (at : Numbers) (m : Module) (has : ModuleHasParts P at m) where
  -- the comments at the end of a module have no procedures
  behind_last : (k : ℕ)
      → codes_of_members home k (written_members P (module_scope P F m) at m.comments m.members)
      ≡ codes_of_members home k (flat_map (written_member P (module_scope P F m) (placed_members at m.comments m.members)) (placed_members at m.comments m.members))
  behind_last k =
      let all = flat_map (written_member P (module_scope P F m) (placed_members at m.comments m.members)) (placed_members at m.comments m.members) in
      let units = texts (last_comments m.comments m.members) in
      let codes = codes_append home k all (member_comments units) in
      codes.1
      ∙ ap (λ cs. codes_of_members home k all ++ cs) (no_codes home codes.0 (member_comments units) (comments_codeless units))
      ∙ append-nil (codes_of_members home k all)

  module_stands : (Fits : Code → Type 0) (p a i : ℕ) (t : Site) → StandsOnlyAt (module_scope P F m) p a
      → StandsAt P F Fits p a home m (placed_members at m.comments m.members) t → slice_get (module_sites home at m) i ≡ Some t → a ≡ at.procedure + i
      → Stands Fits p (module_order P F at m) (codes_of_members home 0 (written_module P F at m).members)
  module_stands Fits p a i t only h f number =
      let ps = placed_members at m.comments m.members in
      let S = module_scope P F m in
      let ms = written_members P S at m.comments m.members in
      makers_stand Fits p home (has_initializer P.declarations m.file m) (members_order S ps) ms
      (λ k. stands_as Fits p (members_order S ps) (members_order S ps) (codes_of_members home k ms)
      (codes_of_members home k (flat_map (written_member P S ps) ps)) refl (behind_last k)
      (members_stand P F Fits p a home m ps at m.comments m.members k i t f number has only h))

  module_codes : length (codes_of_members home 0 (written_module P F at m).members) ≡ length (module_order P F at m)
  module_codes =
      let ps = placed_members at m.comments m.members in
      let S = module_scope P F m in
      makers_codes home (has_initializer P.declarations m.file m) (members_order S ps) (written_members P S at m.comments m.members)
      (λ k. ap length (behind_last k) ∙ members_codes P S ps at m.comments m.members home k has)

module_lacks : (P : Program) (F : Facts) (home : ℕ) (at : Numbers) (m : Module) (p a i : ℕ) → StandsOnlyAt (module_scope P F m) p a
    → a ≡ at.procedure + (length (module_sites home at m) + i) → Lacks (is_that p) (module_order P F at m)
module_lacks P F home at m p a i only above =
    let S = module_scope P F m in
    makers_lack p (has_initializer P.declarations m.file m) (members_order S (placed_members at m.comments m.members))
    (members_lack S home m at m.comments m.members p a i only above)

-- ---- all modules

-- the procedure p stands at the place of the procedure a in a module that has both
abbrev StandsWith : Program → Facts → (Code → Type 0) → (p a : ℕ) → (s t : Site) → Type 0
StandsWith P F Fits p a s t =
    (home : ℕ) (at : Numbers) (m : Module) (i j : ℕ) → slice_get (module_sites home at m) i ≡ Some t → a ≡ at.procedure + i
    → slice_get (module_sites home at m) j ≡ Some s → p ≡ at.procedure + j → ModuleHasParts P at m
    → StandsAt P F Fits p a home m (placed_members at m.comments m.members) t

module _ (P : Program) (F : Facts) (Fits : Code → Type 0) (p a : ℕ) (s t : Site) (only : (m : Module) → StandsOnlyAt (module_scope P F m) p a)
    (with_it : StandsWith P F Fits p a s t) (same : s.home ≡ t.home) where
  modules_stand : (home : ℕ) (at : Numbers) (ms : List Module) (i j : ℕ) → AreTogether P.declarations at ms
      → slice_get (sites_from home at ms) i ≡ Some t → a ≡ at.procedure + i → slice_get (sites_from home at ms) j ≡ Some s → p ≡ at.procedure + j
      → Stands Fits p (modules_order P F at ms) (codes_of_modules home (modules_from P F at ms))
  modules_stand home at [] i j has f number g place = absurd (cc f)
  modules_stand home at (m ∷ ms) i j has f number g place =
      of_half (split (module_sites home at m) (sites_from (suc home) (next_module (behind_members at m.members)) ms) i t f)
      (split (module_sites home at m) (sites_from (suc home) (next_module (behind_members at m.members)) ms) j s g)
      (λ k l e later d further. modules_stand (suc home) (next_module (behind_members at m.members)) ms k l has.1 e later d further)
    where
      of_half : Halves (module_sites home at m) (sites_from (suc home) (next_module (behind_members at m.members)) ms) i t
          → Halves (module_sites home at m) (sites_from (suc home) (next_module (behind_members at m.members)) ms) j s
          → ((k l : ℕ) → slice_get (sites_from (suc home) (next_module (behind_members at m.members)) ms) k ≡ Some t → a ≡ (behind_members at m.members).procedure + k
          → slice_get (sites_from (suc home) (next_module (behind_members at m.members)) ms) l ≡ Some s → p ≡ (behind_members at m.members).procedure + l
          → Stands Fits p (modules_order P F (next_module (behind_members at m.members)) ms)
          (codes_of_modules (suc home) (modules_from P F (next_module (behind_members at m.members)) ms)))
          → Stands Fits p (module_order P F at m ++ modules_order P F (next_module (behind_members at m.members)) ms)
          (codes_of_members home 0 (written_module P F at m).members ++ codes_of_modules (suc home) (modules_from P F (next_module (behind_members at m.members)) ms))
      of_half (inl e) (inl d) more =
          stands_left Fits p (module_order P F at m) (modules_order P F (next_module (behind_members at m.members)) ms)
          (codes_of_members home 0 (written_module P F at m).members)
          (codes_of_modules (suc home) (modules_from P F (next_module (behind_members at m.members)) ms))
          (module_stands P F home at m has.0 Fits p a i t (only m) (with_it home at m i j e number d place has.0) e number)
      of_half (inl e) (inr d) more =
          let here = (members_among home m at m.comments m.members i t e).in_home in
          let above = (sites_numbered (suc home) (next_module (behind_members at m.members)) ms d.0 s d.2).is_behind in
          absurd (omega (arith, here, above, same))
      of_half (inr e) (inl d) more =
          let here = (members_among home m at m.comments m.members j s d).in_home in
          let above = (sites_numbered (suc home) (next_module (behind_members at m.members)) ms e.0 t e.2).is_behind in
          absurd (omega (arith, here, above, same))
      of_half (inr e) (inr d) more =
          let one = e.1 in
          let other = d.1 in
          let many = members_behind home m at m.comments m.members in
          let above : a ≡ at.procedure + (length (module_sites home at m) + e.0) = omega (arith, number, one) in
          let behind : a ≡ (behind_members at m.members).procedure + e.0 = omega (arith, above, many) in
          let further : p ≡ (behind_members at m.members).procedure + d.0 = omega (arith, place, other, many) in
          stands_right Fits p (module_order P F at m) (modules_order P F (next_module (behind_members at m.members)) ms)
          (codes_of_members home 0 (written_module P F at m).members)
          (codes_of_modules (suc home) (modules_from P F (next_module (behind_members at m.members)) ms))
          (module_lacks P F home at m p a e.0 (only m) above) (module_codes P F home at m has.0) (more e.0 d.0 e.2 behind d.2 further)

-- the module that the module of a site is written as, among modules of which the first has the number `home`
record HasModule (P : Program) (F : Facts) (home : ℕ) (list : List net.Module) (s : Site) : Type 0 where
  place : ℕ
  numbers : Numbers
  is_place : s.home ≡ home + place
  is_module : slice_get list place ≡ Some (written_module P F numbers s.source_module)

has_module : (P : Program) (F : Facts) (home : ℕ) (at : Numbers) (ms : List Module) (i : ℕ) (s : Site) → slice_get (sites_from home at ms) i ≡ Some s
    → HasModule P F home (modules_from P F at ms) s
has_module P F home at [] i s e = absurd (cc e)
has_module P F home at (m ∷ ms) i s e =
    of_half (split (module_sites home at m) (sites_from (suc home) (next_module (behind_members at m.members)) ms) i s e)
    (λ j g. has_module P F (suc home) (next_module (behind_members at m.members)) ms j s g)
  where
    of_half : Halves (module_sites home at m) (sites_from (suc home) (next_module (behind_members at m.members)) ms) i s
        → ((j : ℕ) → slice_get (sites_from (suc home) (next_module (behind_members at m.members)) ms) j ≡ Some s
        → HasModule P F (suc home) (modules_from P F (next_module (behind_members at m.members)) ms) s)
        → HasModule P F home (written_module P F at m ∷ modules_from P F (next_module (behind_members at m.members)) ms) s
    of_half (inl g) more =
        let h = members_among home m at m.comments m.members i s g in
        let here = h.in_home in
        record { place = 0; numbers = at; is_place = omega (arith, here); is_module = ap (λ z. Some (written_module P F at z)) (sym h.in_module) }
    of_half (inr g) more =
        let h = more g.0 g.2 in
        let there = h.is_place in
        record { place = suc h.place; numbers = h.numbers; is_place = omega (arith, there); is_module = h.is_module }

-- ---- the law

-- a Sub or a Function stands at its own place
alone_with : (U : Upgrade) (p : ℕ) (s : Site) (x : Procedure) → slice_get U.program.declarations.procs p ≡ Some x → is_property_kind x.kind ≡ false
    → StandsWith U.program U.facts (IsWrittenFor U s x) p p s s
alone_with U p s x e plain home at m i j f number g place has =
    let h = members_among home m at m.comments m.members i s f in
    let ps = placed_members at m.comments m.members in
    subst (λ z. StandsAt U.program U.facts (IsWrittenFor U s x) p p home z ps s) h.in_module
    (subst (λ z. StandsAt U.program U.facts (IsWrittenFor U s x) p p z s.source_module ps s) h.in_home (stands_there U p s x ps e plain))

-- and a part of a property at the place of its first part
joined_with : (U : Upgrade) (p : ℕ) (s : Site) (x : Procedure) (t : Site) (q : Procedure) → IsPartOf U p x t.placed.at.procedure q
    → StandsWith U.program U.facts (IsWrittenFor U s x) p t.placed.at.procedure s t
joined_with U p s x t q h home at m i j f number g place has =
    let P = U.program in
    let n = t.placed.at.procedure in
    let here = members_among home m at m.comments m.members j s g in
    let first = members_among home m at m.comments m.members i t f in
    let ps = placed_members at m.comments m.members in
    subst (λ z. StandsAt P U.facts (IsWrittenFor U s x) p n home z ps t) here.in_module
    (part_stands_there U p s x t q h home ps (sym here.in_home)
    (has n (subst (λ k. StandsIn ps k) (sym number) first.stands))
    (part_is_found P (site_scope U s) n p x h.is_there home m at m.comments m.members j s g place))

-- what stands for a procedure at the place of another is what is written for it
written_at_place : (U : Upgrade) (w : IsWritten U) (p a : ℕ) (s t : Site) (x : Procedure) → site_of U.program.declarations p ≡ Some s
    → site_of U.program.declarations a ≡ Some t → s.home ≡ t.home → ((m : Module) → StandsOnlyAt (module_scope U.program U.facts m) p a)
    → StandsWith U.program U.facts (IsWrittenFor U s x) p a s t → WrittenProcedure U p s x
written_at_place U w p a s t x site at same only with_it =
    let P = U.program in
    let F = U.facts in
    let ms = P.declarations.project.modules in
    let here : p ≡ 0 + p = omega arith in
    let there : a ≡ 0 + a = omega arith in
    let h = modules_stand P F (IsWrittenFor U s x) p a s t only with_it same 0 first_numbers ms a p (together P.declarations w.parts) at there site here in
    let m = has_module P F 0 first_numbers ms p s site in
    let number = m.is_place in
    let place : s.home ≡ m.place = omega (arith, number) in
    record {
      number = h.number;
      is_number = found_position (is_that p) (written_order P F) h.number h.is_number;
      code = h.code;
      is_code = ap (λ (N : net.Project). code_at N h.number) w.is_written ∙ h.is_code;
      home = h.fits.home;
      numbers = m.numbers;
      is_module = ap (λ (N : net.Project). slice_get N.modules s.home) w.is_written ∙ ap (slice_get (written_modules P F)) place ∙ m.is_module;
      head = h.fits.head;
      close = h.fits.close;
      is_written = h.fits.is_written;
      alone = h.fits.alone;
      joined = h.fits.joined;
      params = h.fits.params;
      result = h.fits.result;
    }

pub procedures_are_written : (U : Upgrade) → IsWritten U → ProceduresAreWritten U
procedures_are_written U w p s x site e covers unparted =
    by_test (is_property_kind x.kind) (λ b. WrittenProcedure U p s x)
    (λ property.
    let h = has_first U w p s x site e property covers (unparted property) in
    written_at_place U w p h.first.placed.at.procedure s h.first x site h.is_site h.same_home
    (part_stands_only U p x h.first.placed.at.procedure h.part h.is_part)
    (joined_with U p s x h.first h.part h.is_part))
    (λ plain.
    written_at_place U w p p s s x site site refl (λ m. stands_only_there (module_scope U.program U.facts m) p x e plain) (alone_with U p s x e plain))
