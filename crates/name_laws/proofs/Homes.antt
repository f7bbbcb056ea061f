-- The module that is written for the one of a file.
use Rattle.std.proofs.Common.{◌≡◌, ap, sym, ◌∙◌, ℕ, zero, suc, Bool, true, nat_eq, List, [], ◌∷◌, get_or, Some, slice_get}
use Rattle.std.specs.Prelude.{position}
use Rattle.std.proofs.lemmas.Bool.{eqb-true}
use Rattle.std.proofs.lemmas.List.Quantifiers.{position-Some}
use Rattle.std.proofs.lemmas.Option.{slice_get-get_or}
use Rattle.vb_tree.specs.Tree.{Module}
use Rattle.bound_tree.specs.Tree.{Declarations, Program}
use Rattle.net_tree.specs.Tree as net
use Rattle.written_trees.specs.Facts.{Facts}
use Rattle.written_trees.specs.Placing.{Numbers, behind_members, placed_members}
use Rattle.written_trees.specs.Projects.{first_numbers, modules_from, next_module, written_module}
use Rattle.net_run.specs.Shapes.{module_at, module_in}
use Rattle.run_matches.specs.Shared.{placed_from, placed_module}
use Rattle.run_matches.specs.Upgrades.{Upgrade, home_of}
use Rattle.run_statements.specs.Written.{IsWritten}
use Rattle.name_laws.proofs.Lists.{some_same}

-- what stands at the first place that passes
position_item : {X : Type 0} (p : X → Bool) (xs : List X) (i : ℕ) → position p xs ≡ Some i → (x : X) × (slice_get xs i ≡ Some x) × (p x ≡ true)
position_item p [] i e = absurd (cc e)
position_item p (y ∷ ys) i e =
    let s = position-Some p (y ∷ ys) i y e in
    (get_or (y ∷ ys) i y, slice_get-get_or (y ∷ ys) i y s.0, s.1)

module_there : (P : Program) (F : Facts) (at : Numbers) (ms : List Module) (k : ℕ) (m : Module) → slice_get ms k ≡ Some m
    → (numbers : Numbers) × (placed_from at ms k ≡ Some (m, placed_members numbers m.comments m.members))
    × (module_in (modules_from P F at ms) k ≡ Some (written_module P F numbers m))
module_there P F at [] k m e = absurd (cc e)
module_there P F at (n ∷ ms) zero m e =
    let same : n ≡ m = some_same n m e in
    (at, ap (λ (z : Module). Some (z, placed_members at z.comments z.members)) same, ap (λ (z : Module). Some (written_module P F at z)) same)
module_there P F at (n ∷ ms) (suc k) m e = module_there P F (next_module (behind_members at n.members)) ms k m e

pub record HomeModule (U : Upgrade) (file home : ℕ) : Type 0 where
  pub source : Module
  pub numbers : Numbers
  pub is_file : source.file ≡ file
  pub is_source : slice_get U.program.declarations.project.modules home ≡ Some source
  pub is_placed : placed_module U.program.declarations home ≡ Some (source, placed_members numbers source.comments source.members)
  pub is_written : module_at U.written home ≡ Some (written_module U.program U.facts numbers source)

pub home_module : (U : Upgrade) → IsWritten U → (file home : ℕ) → home_of U file ≡ Some home → HomeModule U file home
home_module U I file home e =
    let D : Declarations = U.program.declarations in
    let s = position_item (λ (m : Module). nat_eq m.file file) D.project.modules home e in
    let t = module_there U.program U.facts first_numbers D.project.modules home s.0 s.1 in
    record {
      source = s.0;
      numbers = t.0;
      is_file = eqb-true s.0.file file s.2;
      is_source = s.1;
      is_placed = t.1;
      is_written = ap (λ (N : net.Project). module_in N.modules home) I.is_written ∙ t.2;
    }

-- files of one home are one
pub same_file : (U : Upgrade) (file other home : ℕ) → home_of U file ≡ Some home → home_of U other ≡ Some home → other ≡ file
same_file U file other home e f =
    let ms = U.program.declarations.project.modules in
    let a = position_item (λ (m : Module). nat_eq m.file file) ms home e in
    let b = position_item (λ (m : Module). nat_eq m.file other) ms home f in
    sym (eqb-true b.0.file other b.2) ∙ ap (λ (m : Module). m.file) (some_same b.0 a.0 (sym b.1 ∙ a.1)) ∙ eqb-true a.0.file file a.2
