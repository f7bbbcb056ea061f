-- What a covered, clean procedure declares is written as it is declared, with nothing else.
use Rattle.std.proofs.Common.{◌≡◌, refl, ap, ◌∙◌, ℕ, suc, ◌+◌, true, List, [], ◌∷◌, ◌++◌, map, Some, slice_get}
use Rattle.vb_tree.specs.Blocks.{is_code}
use Rattle.vb_tree.specs.Tree as source
use Rattle.bound_tree.specs.declared.rule_set.RuleSet.{RuleSet}
use Rattle.bound_tree.specs.RuleSets.{both}
use Rattle.bound_tree.specs.Tree.{Procedure}
use Rattle.bound_facts.specs.Clean.{IsClean}
use Rattle.net_tree.specs.Tree as net
use Rattle.written_trees.specs.Bodies.{inside_procedure, code_at}
use Rattle.written_trees.specs.Facts.{line_set}
use Rattle.written_trees.specs.Names.{Scope}
use Rattle.written_trees.specs.Prologues.{code_sets, one_if, prologue, set_if, statement_set}
use Rattle.run_matches.specs.Covered.{covers_procedure}
use Rattle.run_matches.specs.Sites.{Site, site_of, site_lines, first_statement, own_constant, own_variable, owns_of}
use Rattle.run_matches.specs.Upgrades.{Upgrade}
use Rattle.run_statements.specs.Kept.{own_dim, IsUnreplaced, OwnsAreKept}
use Rattle.run_statements.specs.Written.{IsWritten, WrittenProcedure, site_scope}
use Rattle.name_laws.proofs.Lines.{clean_lines_are_unreplaced}
use Rattle.name_laws.proofs.Lists.{among}
use Rattle.name_laws.proofs.Numbers.{site_procedure}
use Rattle.name_laws.proofs.Owns.{covered_parts, own_constant_dim, own_usable}
use Rattle.name_laws.proofs.Prologues.{prologue_is}

-- the rules of lines are the same inside of the procedure
sets_inside : (S : Scope) (q p n i : ℕ) (ls : List source.Line) → code_sets (inside_procedure S q) p n i ls ≡ code_sets S p n i ls
sets_inside S q p n i [] = refl
sets_inside S q p n i (l ∷ ls) =
    ap (λ more. set_if (is_code l.form) (both (line_set S.facts p i) (statement_set S.declarations S.facts S.file n)) ++ more)
    (sets_inside S q p (suc n) (i + one_if (is_code l.form)) ls)

prologue_kept : (U : Upgrade) (p : ℕ) (s : Site) (x : Procedure) (W : WrittenProcedure U p s x) → s.placed.at.procedure ≡ p
    → ((k : ℕ) → IsUnreplaced U p s k)
    → W.code.procedure.prologue ≡ map (own_dim (inside_procedure (site_scope U s) p)) (owns_of U.program.declarations s)
prologue_kept U p s x W e unreplaced =
    let S = site_scope U s in
    let n = first_statement s in
    let written : W.code.procedure.prologue
    ≡ prologue (inside_procedure S s.placed.at.procedure) n (site_lines s) (code_at U.program S n s.placed.at.procedure (site_lines s)) =
    ap (λ (t : net.Procedure). t.prologue) W.is_written in
    let placed : prologue (inside_procedure S s.placed.at.procedure) n (site_lines s) (code_at U.program S n s.placed.at.procedure (site_lines s))
    ≡ prologue (inside_procedure S p) n (site_lines s) (code_at U.program S n p (site_lines s)) =
    ap (λ (q : ℕ). prologue (inside_procedure S q) n (site_lines s) (code_at U.program S n q (site_lines s))) e in
    written ∙ placed
    ∙ prologue_is U.program (inside_procedure S p) p n (site_lines s) (code_sets S p n 0 (site_lines s))
    (λ k rules is. unreplaced k rules (ap (λ (sets : List RuleSet). slice_get sets k) (sets_inside S p p n 0 (site_lines s)) ∙ is))

pub owns_are_kept : (U : Upgrade) → IsWritten U → (p : ℕ) (s : Site) (x : Procedure) → site_of U.program.declarations p ≡ Some s
    → slice_get U.program.declarations.procs p ≡ Some x → (W : WrittenProcedure U p s x) → IsClean U.program U.facts.marks p
    → covers_procedure U.program p ≡ true → OwnsAreKept U p s x W
owns_are_kept U I p s x e f W clean h =
    let C = covered_parts U.program p s e h in
    record {
      prologue = prologue_kept U p s x W (site_procedure U.program.declarations p s e) (clean_lines_are_unreplaced U I p s x e f W clean h);
      variables = λ v y m. own_usable U I p s C clean v y (among (owns_of U.program.declarations s) (own_variable v y) m);
      constants = λ c y m. own_constant_dim U p s C clean c y (among (owns_of U.program.declarations s) (own_constant c y) m);
    }
