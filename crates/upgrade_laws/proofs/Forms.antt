-- No code line of a procedure breaks a rule by its form alone.
use Rattle.std.proofs.Common.{◌≡◌, ℕ, zero, suc, ◌+◌, Bool, true, false, nat_eq, List, [], ◌∷◌, ◌++◌, length, map, Some, slice_get, refl, sym, ap, ◌∙◌, append_assoc, length-append, arith}
use Rattle.std.specs.Prelude.{cond}
use Rattle.std.specs.List.{AllByRecursion as Each, flat_map}
use Rattle.std.proofs.lemmas.List.{length-map}
use Rattle.std.proofs.lemmas.Option.{none-some, same_Some}
use Rattle.vb_tree.specs.Blocks.{is_code}
use Rattle.vb_tree.specs.FlatLines.{flat_lines, member_lines}
use Rattle.vb_tree.specs.Tree.{Line, Member, Module, alone, group, proc}
use Rattle.bound_tree.specs.declared.marks.Marks.{Marks}
use Rattle.bound_tree.specs.declared.rule_set.RuleSet.{RuleSet}
use Rattle.bound_tree.specs.RuleSets.{none}
use Rattle.bound_tree.specs.Tree.{Program}
use Rattle.written_trees.specs.Comments.{Comment, past}
use Rattle.written_trees.specs.Facts.{Facts, set_at, set_or_none}
use Rattle.written_trees.specs.Placing.{Numbers, behind_member, behind_members, last_line, place_member, placed_members}
use Rattle.written_trees.specs.Projects.{first_numbers, next_module}
use Rattle.declared_names.specs.Rules.{line_rules}
use Rattle.written_facts.specs.Statements.{file_sets, member_sets, module_sets, no_set, plain_set}
use Rattle.project_upgrade.specs.Upgrades.{AreFactsOf}
use Rattle.run_matches.specs.Sites as sites
use Rattle.run_matches.specs.Sites.{Site, first_statement, member_sites, site_lines, site_of, sites_from}
use Rattle.run_statements.specs.Written.{HasQuietForms}
use Rattle.upgrade_laws.specs.Separate.{HaveDifferentFiles}
use Rattle.upgrade_laws.proofs.Bodies.{sites_at}
use Rattle.upgrade_laws.proofs.Tests.{first_taken, same, second_taken}
use Rattle.upgrade_laws.proofs.Lists.{each_append, each_got, each_joined, got_before, got_behind}

-- by sets of the module of a site
abbrev IsQuietBy : List Module → Site → Type 0
IsQuietBy all s =
    (i : ℕ) (l : Line) → slice_get (site_lines s) i ≡ Some l → is_code l.form ≡ true → set_at (file_sets s.source_module.file all) (first_statement s + i) ≡ none

-- ---- the sets of a member

closed : {X : Type 0} (a b : X) (xs : List X) (n : ℕ) → length xs ≡ n → length (a ∷ xs ++ b ∷ []) ≡ n + 2
closed a b xs n e = omega (arith, length-append xs (b ∷ []), e)

counted : (name : List ℕ) (x : Member) → length (member_sets name x) ≡ length (member_lines x)
counted name (alone l) = refl
counted name (group head lines close) =
    closed none none (map no_set lines) (length lines) (length-map lines no_set) ∙ sym (closed head close lines (length lines) refl)
counted name (proc head body close) =
    closed none none (map (plain_set name) (flat_lines body)) (length (flat_lines body)) (length-map (flat_lines body) (plain_set name))
    ∙ sym (closed head close (flat_lines body) (length (flat_lines body)) refl)

plain_none : (b : Bool) (r : RuleSet) → b ≡ true → cond b none r ≡ none
plain_none true r e = refl
plain_none false r e = absurd (cc e)

-- among sets of lines, that of a code line
set_of_code : (name : List ℕ) (ls : List Line) (more : List RuleSet) (i : ℕ) (l : Line) → slice_get ls i ≡ Some l → is_code l.form ≡ true
    → slice_get (map (plain_set name) ls ++ more) i ≡ Some none
set_of_code name [] more i l e c = absurd (none-some l e)
set_of_code name (x ∷ ls) more zero l e c =
    ap (λ (y : Line). Some (plain_set name y)) (same_Some x l e) ∙ ap Some (plain_none (is_code l.form) (line_rules name l.form) c)
set_of_code name (x ∷ ls) more (suc i) l e c = set_of_code name ls more i l e c

-- behind so many others and the head of its procedure
set_in_module : (name : List ℕ) (before more after : List RuleSet) (n : ℕ) (ls : List Line) (i : ℕ) (l : Line) → length before ≡ n
    → slice_get ls i ≡ Some l → is_code l.form ≡ true
    → set_at (before ++ ((none ∷ map (plain_set name) ls ++ more) ++ after)) (suc n + i) ≡ none
set_in_module name before more after n ls i l e got c =
    let rest : List RuleSet = map (plain_set name) ls ++ more in
    ap set_or_none
    (ap (λ (k : ℕ). slice_get (before ++ ((none ∷ rest) ++ after)) k) (omega arith)
    ∙ got_behind before ((none ∷ rest) ++ after) n (suc i) e
    ∙ got_before rest after i none (set_of_code name ls more i l got c))

-- ---- the sites of a module

-- the sets of a module are those of its members, of which some stand before the first of these
members_quiet : (all : List Module) (home : ℕ) (m : Module) (at : Numbers) (cs : List Comment) (xs : List Member) (before : List RuleSet)
    → length before ≡ at.statement → file_sets m.file all ≡ before ++ flat_map (member_sets m.name) xs
    → Each (IsQuietBy all) (sites_at home m (placed_members at cs xs))
members_quiet all home m at cs [] before n e = tt
members_quiet all home m at cs (x ∷ xs) before n e =
    each_append (IsQuietBy all) (member_sites home m (place_member at cs x) x) (sites_at home m (placed_members (behind_member at x) (past (last_line x) cs) xs))
    (own x e)
    (members_quiet all home m (behind_member at x) (past (last_line x) cs) xs (before ++ member_sets m.name x)
    (omega (arith, length-append before (member_sets m.name x), counted m.name x, n))
    (e ∙ sym (append_assoc before (member_sets m.name x) (flat_map (member_sets m.name) xs))))
  where
    own : (y : Member) → file_sets m.file all ≡ before ++ (member_sets m.name y ++ flat_map (member_sets m.name) xs)
        → Each (IsQuietBy all) (member_sites home m (place_member at cs x) y)
    own (alone l) h = tt
    own (group head lines close) h = tt
    own (proc head body close) h = (
      (λ i l got c. ap (λ (sets : List RuleSet). set_at sets (suc at.statement + i)) h
          ∙ set_in_module m.name before (none ∷ []) (flat_map (member_sets m.name) xs) at.statement (flat_lines body) i l n got c),
      tt,
    )

abbrev HasOwnSets : List Module → Module → Type 0
HasOwnSets all m = file_sets m.file all ≡ module_sets m

sites_quiet : (all : List Module) (home : ℕ) (at : Numbers) (ms : List Module) → at.statement ≡ 0 → Each (HasOwnSets all) ms
    → Each (IsQuietBy all) (sites_from home at ms)
sites_quiet all home at [] n h = tt
sites_quiet all home at (m ∷ ms) n h =
    each_append (IsQuietBy all) (sites_at home m (placed_members at m.comments m.members)) (sites_from (suc home) (next_module (behind_members at m.members)) ms)
    (members_quiet all home m at m.comments m.members [] (sym n) h.0)
    (sites_quiet all (suc home) (next_module (behind_members at m.members)) ms refl h.1)

-- ---- modules in different files

own_sets : (ms : List Module) → HaveDifferentFiles ms → Each (HasOwnSets ms) ms
own_sets [] h = tt
own_sets (m ∷ ms) h = (
  first_taken (nat_eq m.file m.file) (module_sets m) (file_sets m.file ms) (same m.file),
  each_joined (λ (x : Module). nat_eq m.file x.file ≡ false) (HasOwnSets ms) (HasOwnSets (m ∷ ms))
      (λ x d e. second_taken (nat_eq m.file x.file) (module_sets m) (file_sets x.file ms) d ∙ e) ms h.0 (own_sets ms h.1),
)

-- ---- the facts of a program

pub forms_are_quiet : (P : Program) (ms : List Marks) (F : Facts) → AreFactsOf P ms F → HaveDifferentFiles P.declarations.project.modules
    → (p : ℕ) (s : Site) → site_of P.declarations p ≡ Some s → HasQuietForms F s
forms_are_quiet P ms F are d p s e i l got c =
    are.statements s.source_module.file (first_statement s + i)
    ∙ each_got (IsQuietBy P.declarations.project.modules) (sites.sites P.declarations) p s e
    (sites_quiet P.declarations.project.modules 0 first_numbers P.declarations.project.modules refl (own_sets P.declarations.project.modules d)) i l got c
