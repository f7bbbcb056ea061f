-- The homes of procedures are their sites, and they stand apart from one another.
use Rattle.std.proofs.Common.{◌≡◌, ℕ, zero, suc, ◌+◌, ◌<◌, ◌≤◌, false, nat_eq, List, [], ◌∷◌, ◌++◌, length, map, Option, Some, slice_get, refl, sym, ap, subst, ◌∙◌, arith}
use Rattle.std.specs.Prelude.{option_map}
use Rattle.std.specs.List.{AllByRecursion as Each, flat_map}
use Rattle.std.proofs.lemmas.List.{map-append}
use Rattle.std.proofs.lemmas.Option.{none-some, same_Some, slice_get-map}
use Rattle.vb_tree.specs.FlatLines.{flat_lines, member_lines}
use Rattle.vb_tree.specs.Tree.{Member, alone, group, proc, Module, Nodes}
use Rattle.written_trees.specs.Comments.{Comment, past}
use Rattle.written_trees.specs.Placing.{Numbers as Standing, behind_member, behind_members, last_line, placed_members}
use Rattle.written_trees.specs.Projects.{next_module}
use Rattle.binder.specs.ImplicitLocals.{Home, homes_in}
use Rattle.run_matches.specs.Sites.{Site, first_statement, module_sites, sites_from}
use Rattle.upgrade_laws.specs.Ordered.{IsOrderly, StandsIn}
use Rattle.upgrade_laws.specs.Separate.{HaveDifferentFiles}
use Rattle.upgrade_laws.proofs.Bodies.{sites_at}
use Rattle.upgrade_laws.proofs.Lists.{bracketed, each_append, each_from, each_left}
use Rattle.upgrade_laws.proofs.Listed.{swapped}
use Rattle.upgrade_laws.proofs.Used.{IsFiled, OthersApart, StandsApart, other_file, above, below}

-- ---- sites and homes

pub record Key : Type 0 where
  pub file : ℕ
  pub first : ℕ
  pub body : Nodes

abbrev pub site_key : Site → Key
site_key s = record { file = s.source_module.file; first = first_statement s; body = s.body }

abbrev pub home_key : Home → Key
home_key h = record { file = h.file; first = h.first; body = h.body }

abbrev pub homes_at : List Module → List Home
homes_at ms = flat_map (λ (m : Module). homes_in m.file 0 m.members) ms

key_at : (file n k : ℕ) (body : Nodes) → k ≡ n → ◌≡◌ {A = Key} (record { file = file; first = suc k; body = body }) (record { file = file; first = n + 1; body = body })
key_at file n k body e = ap (λ (i : ℕ). record { file = file; first = i; body = body }) (omega (arith, e))

member_keys : (home : ℕ) (m : Module) (at : Standing) (cs : List Comment) (n : ℕ) (ms : List Member) → at.statement ≡ n
    → map site_key (sites_at home m (placed_members at cs ms)) ≡ map home_key (homes_in m.file n ms)
member_keys home m at cs n [] e = refl
member_keys home m at cs n (alone l ∷ ms) e =
    member_keys home m (behind_member at (alone l)) (past (last_line (alone l)) cs) (n + length (member_lines (alone l))) ms (omega (arith, e))
member_keys home m at cs n (group head lines close ∷ ms) e =
    let x : Member = group head lines close in
    member_keys home m (behind_member at x) (past (last_line x) cs) (n + length (member_lines x)) ms (omega (arith, e))
member_keys home m at cs n (proc head body close ∷ ms) e =
    let x : Member = proc head body close in
    let rest : List Key = map home_key (homes_in m.file (n + length (member_lines x)) ms) in
    ap (λ (ks : List Key). record { file = m.file; first = suc at.statement; body = body } ∷ ks)
    (member_keys home m (behind_member at x) (past (last_line x) cs) (n + length (member_lines x)) ms (omega (arith, e)))
    ∙ ap (λ (k : Key). k ∷ rest) (key_at m.file n at.statement body e)

keys_are : (home : ℕ) (at : Standing) (ms : List Module) → at.statement ≡ 0 → map site_key (sites_from home at ms) ≡ map home_key (homes_at ms)
keys_are home at [] e = refl
keys_are home at (m ∷ ms) e =
    let sites : List Site = sites_from (suc home) (next_module (behind_members at m.members)) ms in
    map-append site_key (module_sites home at m) sites
    ∙ ap (λ (ks : List Key). ks ++ map site_key sites) (member_keys home m at m.comments 0 m.members e)
    ∙ ap (λ (ks : List Key). map home_key (homes_in m.file 0 m.members) ++ ks) (keys_are (suc home) (next_module (behind_members at m.members)) ms refl)
    ∙ sym (map-append home_key (homes_in m.file 0 m.members) (homes_at ms))

pub record HomeOf (hs : List Home) (p : ℕ) (s : Site) : Type 0 where
  pub home : Home
  pub is_home : slice_get hs p ≡ Some home
  pub same : home_key home ≡ site_key s

with_key : (hs : List Home) (p : ℕ) (s : Site) → slice_get (map home_key hs) p ≡ Some (site_key s) → HomeOf hs p s
with_key [] p s e = absurd (none-some (site_key s) e)
with_key (h ∷ hs) zero s e = record { home = h; is_home = refl; same = same_Some (home_key h) (site_key s) e }
with_key (h ∷ hs) (suc p) s e =
    let o : HomeOf hs p s = with_key hs p s e in
    record { home = o.home; is_home = o.is_home; same = o.same }

pub home_of_site : (home : ℕ) (at : Standing) (ms : List Module) (p : ℕ) (s : Site) → at.statement ≡ 0 → slice_get (sites_from home at ms) p ≡ Some s → HomeOf (homes_at ms) p s
home_of_site home at ms p s e got =
    with_key (homes_at ms) p s
    (ap (λ (ks : List Key). slice_get ks p) (sym (keys_are home at ms e)) ∙ slice_get-map site_key (sites_from home at ms) p ∙ ap (λ (o : Option Site). option_map site_key o) got)

-- ---- homes stand in files

members_filed : (file n : ℕ) (ms : List Member) → Each (IsOrderly file) ms → Each IsFiled (homes_in file n ms)
members_filed file n [] o = tt
members_filed file n (alone l ∷ ms) o = members_filed file (n + length (member_lines (alone l))) ms o.1
members_filed file n (group head lines close ∷ ms) o = members_filed file (n + length (member_lines (group head lines close))) ms o.1
members_filed file n (proc head body close ∷ ms) o = (
  each_left (StandsIn file) (flat_lines body) (close ∷ []) o.0.lines.1,
  members_filed file (n + length (member_lines (proc head body close))) ms o.1,
)

pub homes_filed : (ms : List Module) → Each (λ (m : Module). Each (IsOrderly m.file) m.members) ms → Each IsFiled (homes_at ms)
homes_filed [] o = tt
homes_filed (m ∷ ms) o = each_append IsFiled (homes_in m.file 0 m.members) (homes_at ms) (members_filed m.file 0 m.members o.0) (homes_filed ms o.1)

-- ---- homes stand apart

abbrev size : Home → ℕ
size h = length (flat_lines h.body)

-- the second home stands apart from the first
abbrev IsApart : Home → Home → Type 0
IsApart h x = StandsApart h.file h.first (size h) x

-- each from all behind it, and they from it
abbrev AreApart : List Home → Type 0
AreApart [] = Unit {0}
AreApart (h ∷ hs) = Each (λ (x : Home). IsApart h x × IsApart x h) hs × AreApart hs

-- of a file, behind a statement
pub record IsFurther (file n : ℕ) (h : Home) : Type 0 where
  pub is_file : h.file ≡ file
  pub further : n < h.first

sooner : (file n more : ℕ) (hs : List Home) → n ≤ more → Each (IsFurther file more) hs → Each (IsFurther file n) hs
sooner file n more hs l h =
    each_from (IsFurther file more) (IsFurther file n) (λ x f. record { is_file = f.is_file; further = omega (arith, l, f.further) }) hs h

members_further : (file n : ℕ) (ms : List Member) → Each (IsFurther file n) (homes_in file n ms)
members_further file n [] = tt
members_further file n (alone l ∷ ms) =
    let more : ℕ = n + length (member_lines (alone l)) in
    sooner file n more (homes_in file more ms) (omega arith) (members_further file more ms)
members_further file n (group head lines close ∷ ms) =
    let more : ℕ = n + length (member_lines (group head lines close)) in
    sooner file n more (homes_in file more ms) (omega arith) (members_further file more ms)
members_further file n (proc head body close ∷ ms) =
    let more : ℕ = n + length (member_lines (proc head body close)) in
    (record { is_file = refl; further = omega arith }, sooner file n more (homes_in file more ms) (omega arith) (members_further file more ms))

further_apart : (h x : Home) (more : ℕ) → h.first + size h ≤ more → IsFurther h.file more x → IsApart h x × IsApart x h
further_apart h x more l f = (below (omega (arith, l, f.further)), above (omega (arith, l, f.further)))

members_apart : (file n : ℕ) (ms : List Member) → AreApart (homes_in file n ms)
members_apart file n [] = tt
members_apart file n (alone l ∷ ms) = members_apart file (n + length (member_lines (alone l))) ms
members_apart file n (group head lines close ∷ ms) = members_apart file (n + length (member_lines (group head lines close))) ms
members_apart file n (proc head body close ∷ ms) =
    let more : ℕ = n + length (member_lines (proc head body close)) in
    let h : Home = record { file = file; first = n + 1; body = body } in (
      each_from (IsFurther file more) (λ (x : Home). IsApart h x × IsApart x h)
          (λ x f. further_apart h x more (omega (arith, bracketed head close (flat_lines body))) f) (homes_in file more ms) (members_further file more ms),
      members_apart file more ms,
    )

apart_append : (xs ys : List Home) → AreApart xs → AreApart ys → Each (λ (h : Home). Each (λ (x : Home). IsApart h x × IsApart x h) ys) xs → AreApart (xs ++ ys)
apart_append [] ys h k l = k
apart_append (x ∷ xs) ys h k l = (each_append (λ (y : Home). IsApart x y × IsApart y x) xs ys h.0 l.0, apart_append xs ys h.1 k l.1)

home_files : (P : ℕ → Type 0) (ms : List Module) → Each (λ (m : Module). P m.file) ms → Each (λ (h : Home). P h.file) (homes_at ms)
home_files P [] h = tt
home_files P (m ∷ ms) h =
    each_append (λ (x : Home). P x.file) (homes_in m.file 0 m.members) (homes_at ms)
    (each_from (IsFurther m.file 0) (λ (x : Home). P x.file) (λ x f. subst P (sym f.is_file) h.0) (homes_in m.file 0 m.members) (members_further m.file 0 m.members))
    (home_files P ms h.1)

files_apart : (h x : Home) (file : ℕ) → h.file ≡ file → nat_eq file x.file ≡ false → IsApart h x × IsApart x h
files_apart h x file e ne = (
  other_file (ap (λ (f : ℕ). nat_eq x.file f) e ∙ swapped file x.file ne),
  other_file (ap (λ (f : ℕ). nat_eq f x.file) e ∙ ne),
)

pub homes_apart : (ms : List Module) → HaveDifferentFiles ms → AreApart (homes_at ms)
homes_apart [] d = tt
homes_apart (m ∷ ms) d =
    apart_append (homes_in m.file 0 m.members) (homes_at ms) (members_apart m.file 0 m.members) (homes_apart ms d.1)
    (each_from (IsFurther m.file 0) (λ (h : Home). Each (λ (x : Home). IsApart h x × IsApart x h) (homes_at ms))
    (λ h f. each_from (λ (x : Home). nat_eq m.file x.file ≡ false) (λ (x : Home). IsApart h x × IsApart x h) (λ x ne. files_apart h x m.file f.is_file ne) (homes_at ms)
    (home_files (λ (file : ℕ). nat_eq m.file file ≡ false) ms d.0))
    (homes_in m.file 0 m.members) (members_further m.file 0 m.members))

-- all others from the home of a number
got_apart : (hs : List Home) (j : ℕ) (h x : Home) → slice_get hs j ≡ Some h → Each (λ (y : Home). IsApart x y × IsApart y x) hs → IsApart h x
got_apart [] j h x e a = absurd (none-some h e)
got_apart (y ∷ hs) zero h x e a = subst (λ (z : Home). IsApart z x) (same_Some y h e) a.0.1
got_apart (y ∷ hs) (suc j) h x e a = got_apart hs j h x e a.1

pub others_apart : (hs : List Home) (j : ℕ) (h : Home) → slice_get hs j ≡ Some h → AreApart hs → OthersApart h.file h.first (size h) j hs
others_apart [] j h e a = tt
others_apart (x ∷ hs) zero h e a =
    subst (λ (y : Home). Each (StandsApart y.file y.first (size y)) hs) (same_Some x h e)
    (each_from (λ (y : Home). IsApart x y × IsApart y x) (IsApart x) (λ y b. b.0) hs a.0)
others_apart (x ∷ hs) (suc j) h e a = (got_apart hs j h x e a.0, others_apart hs j h e a.1)
