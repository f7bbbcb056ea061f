-- The lines that are bound in a procedure are its code lines.
use Rattle.std.proofs.Common.{◌≡◌, ℕ, zero, suc, ◌+◌, ◌<◌, ◌≤◌, List, [], ◌∷◌, ◌++◌, length, map, Option, Some, slice_get, refl, sym, ap, subst, ◌∙◌, arith}
use Rattle.std.specs.Prelude.{option_map}
use Rattle.std.specs.List.{flat_map}
use Rattle.std.proofs.lemmas.List.{map-append}
use Rattle.std.proofs.lemmas.Option.{none-some, same_Some, slice_get-map}
use Rattle.vb_tree.specs.declared.declared.ProcId.{ProcId}
use Rattle.vb_tree.specs.FlatLines.{member_lines}
use Rattle.vb_tree.specs.Tree.{Member, Module, Nodes, Project, alone, group, proc}
use Rattle.vb_tree.specs.Tree as source
use Rattle.bound_tree.specs.declared.body.Bound.{Bound}
use Rattle.bound_tree.specs.Source.{code_of, procedures_in}
use Rattle.bound_tree.specs.Tree.{Declarations, Line, Program}
use Rattle.bound_tree.specs.View.{program_of}
use Rattle.written_trees.specs.Comments.{Comment, past}
use Rattle.written_trees.specs.Placing.{Numbers, Placed, behind_member, behind_members, last_line, place_member, placed_members}
use Rattle.written_trees.specs.Projects.{first_numbers, next_module}
use Rattle.expression_words.specs.Meanings.{no_with}
use Rattle.binder.specs.Bodies.{Inside, bound_body}
use Rattle.binder.specs.ImplicitLocals.{Home, Locals, homes, homes_in, homes_of, locals_from, locals_of, procedure_id, project_locals}
use Rattle.binder.specs.Programs.{all_bodies, all_declarations, bodies_from, body_with, bound_program, inside}
use Rattle.binder.proofs.Sources.{nodes_sources, sources}
use Rattle.broken_rules.specs.View.{IsBoundTo}
use Rattle.run_matches.specs.Sites.{Site, member_sites, module_sites, site_of, sites, sites_from}
use Rattle.run_statements.specs.Written.{HasBody}

-- ---- sites

abbrev site_bodies : List Site → List Nodes
site_bodies ss = map (λ (s : Site). s.body) ss

-- those of members that are placed
abbrev pub sites_at : (home : ℕ) → Module → List Placed → List Site
sites_at home m ps = flat_map (λ (p : Placed). member_sites home m p p.member) ps

abbrev module_bodies : List Module → List Nodes
module_bodies ms = flat_map (λ (m : Module). flat_map procedures_in m.members) ms

one_site : (home : ℕ) (m : Module) (p : Placed) (x : Member) → site_bodies (member_sites home m p x) ≡ procedures_in x
one_site home m p (alone l) = refl
one_site home m p (group head lines close) = refl
one_site home m p (proc head body close) = refl

member_bodies : (home : ℕ) (m : Module) (at : Numbers) (cs : List Comment) (xs : List Member)
    → site_bodies (sites_at home m (placed_members at cs xs)) ≡ flat_map procedures_in xs
member_bodies home m at cs [] = refl
member_bodies home m at cs (x ∷ xs) =
    let p : Placed = place_member at cs x in
    let rest : List Placed = placed_members (behind_member at x) (past (last_line x) cs) xs in
    map-append (λ (s : Site). s.body) (member_sites home m p x) (sites_at home m rest)
    ∙ ap (λ (bs : List Nodes). bs ++ site_bodies (sites_at home m rest)) (one_site home m p x)
    ∙ ap (λ (bs : List Nodes). procedures_in x ++ bs) (member_bodies home m (behind_member at x) (past (last_line x) cs) xs)

bodies_of_sites : (home : ℕ) (at : Numbers) (ms : List Module) → site_bodies (sites_from home at ms) ≡ module_bodies ms
bodies_of_sites home at [] = refl
bodies_of_sites home at (m ∷ ms) =
    let rest : List Site = sites_from (suc home) (next_module (behind_members at m.members)) ms in
    map-append (λ (s : Site). s.body) (module_sites home at m) rest
    ∙ ap (λ (bs : List Nodes). bs ++ site_bodies rest) (member_bodies home m at m.comments m.members)
    ∙ ap (λ (bs : List Nodes). flat_map procedures_in m.members ++ bs) (bodies_of_sites (suc home) (next_module (behind_members at m.members)) ms)

-- ---- homes

abbrev home_bodies : List Home → List Nodes
home_bodies hs = map (λ (h : Home). h.body) hs

one_home : (file n : ℕ) (x : Member) → home_bodies (homes_of file n x) ≡ procedures_in x
one_home file n (alone l) = refl
one_home file n (group head lines close) = refl
one_home file n (proc head body close) = refl

member_homes : (file n : ℕ) (xs : List Member) → home_bodies (homes_in file n xs) ≡ flat_map procedures_in xs
member_homes file n [] = refl
member_homes file n (x ∷ xs) =
    map-append (λ (h : Home). h.body) (homes_of file n x) (homes_in file (n + length (member_lines x)) xs)
    ∙ ap (λ (bs : List Nodes). bs ++ home_bodies (homes_in file (n + length (member_lines x)) xs)) (one_home file n x)
    ∙ ap (λ (bs : List Nodes). procedures_in x ++ bs) (member_homes file (n + length (member_lines x)) xs)

bodies_of_homes : (ms : List Module) → home_bodies (flat_map (λ (m : Module). homes_in m.file 0 m.members) ms) ≡ module_bodies ms
bodies_of_homes [] = refl
bodies_of_homes (m ∷ ms) =
    map-append (λ (h : Home). h.body) (homes_in m.file 0 m.members) (flat_map (λ (x : Module). homes_in x.file 0 x.members) ms)
    ∙ ap (λ (bs : List Nodes). bs ++ home_bodies (flat_map (λ (x : Module). homes_in x.file 0 x.members) ms)) (member_homes m.file 0 m.members)
    ∙ ap (λ (bs : List Nodes). flat_map procedures_in m.members ++ bs) (bodies_of_homes ms)

-- sites and homes list the same bodies
same_bodies : (D : Declarations) → site_bodies (sites D) ≡ home_bodies (homes D.project)
same_bodies D = bodies_of_sites 0 first_numbers D.project.modules ∙ sym (bodies_of_homes D.project.modules)

-- the home of the number of a site has its body
record SameHome (hs : List Home) (p : ℕ) (body : Nodes) : Type 0 where
  home : Home
  is_home : slice_get hs p ≡ Some home
  same : home.body ≡ body

home_with : (hs : List Home) (p : ℕ) (body : Nodes) → slice_get (home_bodies hs) p ≡ Some body → SameHome hs p body
home_with [] p body e = absurd (none-some body e)
home_with (h ∷ hs) zero body e = record { home = h; is_home = refl; same = same_Some h.body body e }
home_with (h ∷ hs) (suc p) body e =
    let o : SameHome hs p body = home_with hs p body e in
    record { home = o.home; is_home = o.is_home; same = o.same }

home_for : (D : Declarations) (p : ℕ) (s : Site) → site_of D p ≡ Some s → SameHome (homes D.project) p s.body
home_for D p s e =
    home_with (homes D.project) p s.body
    (ap (λ (bs : List Nodes). slice_get bs p) (sym (same_bodies D)) ∙ slice_get-map (λ (x : Site). x.body) (sites D) p ∙ ap (λ (o : Option Site). option_map (λ (x : Site). x.body) o) e)

-- ---- bodies

locals_counted : (D : Declarations) (p first : ℕ) (hs : List Home) → length (locals_from D p first hs) ≡ length hs
locals_counted D p first [] = refl
locals_counted D p first (h ∷ hs) = ap suc (locals_counted D (p + 1) (first + length (locals_of D (procedure_id p) first h).variables) hs)

-- a list of lines at a number, which are code lines
record HasLines (bodies : List (List Line)) (k : ℕ) (code : List source.Line) : Type 0 where
  lines : List Line
  are_lines : slice_get bodies k ≡ Some lines
  are_code : sources lines ≡ code

one_body : (W A : Declarations) (p : ProcId) (h : Home) (o : Option Locals) (l : Locals) (rest : List (List Line)) → o ≡ Some l
    → body_with W A p h o ++ rest ≡ bound_body (inside W A p h l) h.body ∷ rest
one_body W A p h o l rest e = ap (λ (x : Option Locals). body_with W A p h x ++ rest) e

listed : {X : Type 0} (xs : List X) (i : ℕ) → i < length xs → (x : X) × (slice_get xs i ≡ Some x)
listed [] i low = absurd (omega (arith, low))
listed (x ∷ xs) zero low = (x, refl)
listed (x ∷ xs) (suc i) low = listed xs i (omega (arith, low))

body_listed : (W A : Declarations) (ls : List Locals) (p : ℕ) (hs : List Home) (k : ℕ) (h : Home) → p + length hs ≤ length ls → slice_get hs k ≡ Some h
    → HasLines (bodies_from W A ls p hs) k (code_of h.body)
body_listed W A ls p [] k h low e = absurd (none-some h e)
body_listed W A ls p (x ∷ hs) zero h low e =
    let l : (l : Locals) × (slice_get ls p ≡ Some l) = listed ls p (omega (arith, low)) in
    let I : Inside = inside W A (procedure_id p) x l.0 in
    record {
      lines = bound_body I x.body;
      are_lines = ap (λ (bs : List (List Line)). slice_get bs zero) (one_body W A (procedure_id p) x (slice_get ls p) l.0 (bodies_from W A ls (p + 1) hs) l.1);
      are_code = nodes_sources I no_with 0 x.body ∙ ap (λ (y : Home). code_of y.body) (same_Some x h e);
    }
body_listed W A ls p (x ∷ hs) (suc k) h low e =
    let l : (l : Locals) × (slice_get ls p ≡ Some l) = listed ls p (omega (arith, low)) in
    let b : HasLines (bodies_from W A ls (p + 1) hs) k (code_of h.body) = body_listed W A ls (p + 1) hs k h (omega (arith, low)) e in
    record {
      lines = b.lines;
      are_lines =
          ap (λ (bs : List (List Line)). slice_get bs (suc k)) (one_body W A (procedure_id p) x (slice_get ls p) l.0 (bodies_from W A ls (p + 1) hs) l.1) ∙ b.are_lines;
      are_code = b.are_code;
    }

bound_bodies : (D : Declarations) (p : ℕ) (s : Site) → site_of D p ≡ Some s → HasBody (bound_program D) p s
bound_bodies D p s e =
    let o : SameHome (homes D.project) p s.body = home_for D p s e in
    let counted : length (project_locals D) ≡ length (homes D.project) = locals_counted D 0 (length D.vars) (homes D.project) in
    let b : HasLines (all_bodies D) p (code_of o.home.body) =
    body_listed D (all_declarations D) (project_locals D) 0 (homes D.project) p o.home (omega (arith, counted)) o.is_home in
    record { lines = b.lines; are_lines = b.are_lines; sources = b.are_code ∙ ap code_of o.same }

-- each site of a bound project
pub bodies_are_bound : (P : Project) (b : Bound) → IsBoundTo P b → (p : ℕ) (s : Site) → site_of (program_of b).declarations p ≡ Some s → HasBody (program_of b) p s
bodies_are_bound P b is =
    subst (λ (Q : Program). (p : ℕ) (s : Site) → site_of Q.declarations p ≡ Some s → HasBody Q p s) (sym is.program) (bound_bodies is.declarations)
