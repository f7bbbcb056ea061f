-- The code lines of a written procedure stand for those of its source, one for each.
use Rattle.std.proofs.Common.{◌≡◌, ℕ, suc, ◌≤◌, List, [], ◌∷◌, ◌++◌, length, refl, sym, ap, ◌∙◌, subst}
use Rattle.std.specs.Prelude.{slice_get, zip}
use Rattle.std.proofs.lemmas.List.{length-map}
use Rattle.vb_tree.specs.Blocks.{is_code}
use Rattle.vb_tree.specs.FlatLines.{code_lines}
use Rattle.bound_tree.specs.Labels.{labels}
use Rattle.bound_tree.specs.Tree.{Line, Program}
use Rattle.net_tree.specs.declared.declaration.NetClose.{NetClose}
use Rattle.net_tree.specs.FlatLines as net_flat
use Rattle.net_tree.specs.Tree as net
use Rattle.written_trees.specs.Bodies.{inside_procedure, lines_in, procedure_with}
use Rattle.written_trees.specs.Names.{Scope}
use Rattle.written_trees.specs.Prologues.{code_sets, declares}
use Rattle.vb6_run.specs.Lines as source_lines
use Rattle.target_laws.specs.Kept.{AreBound, code_of}
use Rattle.target_laws.proofs.Bodies.{enough_lines, enough_sets, lines_in_order}
use Rattle.run_matches.specs.Sites.{Site, site_lines, first_statement, owns_from}
use Rattle.run_statements.specs.Written.{HasBody}
use Rattle.correspondence.specs.Lists.{Pairwise}
use Rattle.correspondence.specs.Owns.{PrologueCorresponds}
use Rattle.correspondence.proofs.Owns.{prologue_corresponds}
use Rattle.correspondence.specs.Variants.{LineCorresponds}
use Rattle.correspondence.proofs.Numbers.{zip_length}
use Rattle.correspondence.proofs.Variants.{lines_correspond}

pairs_length : {A B : Type 0} (R : A → B → Type 0) (xs : List A) (ys : List B) → Pairwise R xs ys → length ys ≡ length xs
pairs_length R [] [] h = refl
pairs_length R [] (y ∷ ys) h = absurd h
pairs_length R (x ∷ xs) [] h = absurd h
pairs_length R (x ∷ xs) (y ∷ ys) h = ap suc (pairs_length R xs ys h.1)

-- the code lines of a procedure with the rules that they break
abbrev pub CodeCorresponds : Program → Scope → Site → (procedure : ℕ) → List Line → net.Procedure → Type 0
CodeCorresponds P S s p lines w =
    Pairwise (LineCorresponds P (inside_procedure S p) p (labels (site_lines s))) (zip (code_sets S p (first_statement s) 0 (site_lines s)) lines) (net_flat.code_lines w)

-- its declarations
abbrev pub PrologueKept : Scope → Site → (procedure : ℕ) → List Line → net.Procedure → Type 0
PrologueKept S s p lines w =
    PrologueCorresponds (inside_procedure S p)
    (owns_from S.declarations S.file declares (first_statement s) (site_lines s) ++ owns_from S.declarations S.file is_code (first_statement s) (site_lines s))
    (zip (code_sets S p (first_statement s) 0 (site_lines s)) lines) w.prologue

module _ (P : Program) (S : Scope) (same : S.declarations ≡ P.declarations) (s : Site) (p : ℕ) (number : s.placed.at.procedure ≡ p) (b : HasBody P p s) where
  bound : AreBound P s.placed s.body
  bound = ap (λ (q : ℕ). source_lines.lines_in (slice_get P.bodies q)) number ∙ ap source_lines.lines_in b.are_lines ∙ b.sources

  pub code_corresponds : (w : net.Procedure) (head : net.Head) (close : NetClose) → w ≡ procedure_with P S s.placed s.body head close → CodeCorresponds P S s p b.lines w
  code_corresponds w head close is =
      let q = s.placed.at.procedure in
      subst (λ (ls : List Line). CodeCorresponds P S s p ls w) (ap lines_in b.are_lines)
      (subst (λ (r : ℕ). CodeCorresponds P S s r (lines_in (slice_get P.bodies r)) w) number
      (subst (λ (ws : List net.Line). Pairwise (LineCorresponds P (inside_procedure S q) q (labels (site_lines s))) (code_of P S s.placed s.body) ws)
      (sym (ap net_flat.code_lines is ∙ lines_in_order P S s.placed s.body head close))
      (lines_correspond P (inside_procedure S q) same q (labels (site_lines s)) 0 (code_of P S s.placed s.body))))

  -- one line for each
  pub as_many_lines : (w : net.Procedure) (head : net.Head) (close : NetClose) → w ≡ procedure_with P S s.placed s.body head close
      → length (net_flat.code_lines w) ≡ length (code_lines (site_lines s))
  as_many_lines w head close is =
      let sets = code_sets S p (first_statement s) 0 (site_lines s) in
      pairs_length (LineCorresponds P (inside_procedure S p) p (labels (site_lines s))) (zip sets b.lines) (net_flat.code_lines w) (code_corresponds w head close is)
      ∙ zip_length sets b.lines enough
      ∙ sym (length-map b.lines (λ (l : Line). l.source)) ∙ ap length b.sources
    where
      enough : length b.lines ≤ length (code_sets S p (first_statement s) 0 (site_lines s))
      enough =
          subst (λ (ls : List Line). length ls ≤ length (code_sets S p (first_statement s) 0 (site_lines s))) (ap lines_in b.are_lines)
          (subst (λ (r : ℕ). length (lines_in (slice_get P.bodies r)) ≤ length (code_sets S r (first_statement s) 0 (site_lines s))) number
          (enough_sets P S s.placed s.body (enough_lines P s.placed s.body bound)))

  -- its declarations
  pub prologue_kept : (w : net.Procedure) (head : net.Head) (close : NetClose) → w ≡ procedure_with P S s.placed s.body head close
      → PrologueKept S s p b.lines w
  prologue_kept w head close is =
      let q = s.placed.at.procedure in
      subst (λ (ls : List Line). PrologueKept S s p ls w) (ap lines_in b.are_lines)
      (subst (λ (r : ℕ). PrologueKept S s r (lines_in (slice_get P.bodies r)) w) number
      (subst (PrologueKept S s q (lines_in (slice_get P.bodies q))) (sym is)
      (prologue_corresponds (inside_procedure S q) (first_statement s) (site_lines s) (code_of P S s.placed s.body))))
