-- What is written for a program corresponds to it.
use Rattle.std.proofs.Common.{◌≡◌, ℕ, suc, Bool, true, false, cond, List, [], ◌∷◌, ◌++◌, map, Some, refl, sym, ap, subst, ◌∙◌, true≢false}
use Rattle.std.specs.Prelude.{is_none, zip}
use Rattle.vb_tree.specs.Tree.{Module}
use Rattle.bound_tree.specs.Tree.{Declarations, Procedure}
use Rattle.net_tree.specs.Tree as net
use Rattle.written_trees.specs.Arguments.{is_property_kind}
use Rattle.bound_tree.specs.Labels.{labels}
use Rattle.written_trees.specs.Bodies.{inside_procedure}
use Rattle.written_trees.specs.Prologues.{code_sets}
use Rattle.correspondence.proofs.Alone.{alone_in}
use Rattle.correspondence.proofs.UsedPaths.{lines_supported}
use Rattle.written_trees.specs.Placing.{Numbers, placed_members, behind_members, last_comments}
use Rattle.written_trees.specs.Comments.{texts}
use Rattle.written_trees.specs.DeclaredMembers.{member_comments}
use Rattle.written_trees.specs.Members.{written_member}
use Rattle.correspondence.proofs.AllComments.{all_comments}
use Rattle.correspondence.proofs.Commented.{members_correspond}
use Rattle.correspondence.proofs.PlacedBodies.{HasBodies, bodies_first, bodies_rest, has_bodies, placed_bodies}
use Rattle.std.specs.List.{flat_map}
use Rattle.written_trees.specs.Projects.{makers, has_initializer, module_scope, written_module, modules_from, first_numbers, next_module, written_modules}
use Rattle.correspondence.specs.Support.{SupportCorresponds}
use Rattle.correspondence.proofs.Support.{support_corresponds}
use Rattle.run_matches.specs.Sites.{Site, site_of, site_lines, first_statement, sites_from, module_sites}
use Rattle.run_matches.specs.Upgrades.{Upgrade}
use Rattle.run_statements.specs.Written.{IsWritten, WrittenProcedure, ProceduresAreWritten, site_scope}
use Rattle.name_laws.proofs.CoveredTypes.{holds_no_array}
use Rattle.correspondence.specs.Heads.{HeadCorresponds}
use Rattle.correspondence.specs.Corresponds.{BodyCorresponds, ProcedureCorresponds, PartCorresponds, ModuleCorresponds, ModulesCorrespond, FilesCorrespond}
use Rattle.run_matches.specs.Covered.{covers_joined}
use Rattle.run_matches.specs.CoveredExprs.{takes_value}
use Rattle.run_matches.specs.JoinedProperties.{is_joined}
use Rattle.correspondence.proofs.Heads.{head_corresponds, part_corresponds}
use Rattle.correspondence.proofs.PartCodes.{part_of_property}
use Rattle.correspondence.proofs.Lines.{as_many_lines, code_corresponds, prologue_kept}
use Rattle.correspondence.proofs.Numbers.{site_procedure}

-- ---- procedures

covered_alone : (D : Declarations) (p : ℕ) (x : Procedure) → is_property_kind x.kind ≡ false → covers_joined D p x ≡ true
covered_alone D p x plain = ap (λ (b : Bool). cond b (is_joined D p x) true) plain

covered_part : (D : Declarations) (p : ℕ) (x : Procedure) → is_property_kind x.kind ≡ true → is_joined D p x ≡ true → covers_joined D p x ≡ true
covered_part D p x part joined = ap (λ (b : Bool). cond b (is_joined D p x) true) part ∙ joined

body_corresponds : (U : Upgrade) → SupportCorresponds U.program.declarations U.facts U.written.modules U.written.support → (p : ℕ) (s : Site) (x : Procedure)
    → IsWritten U → site_of U.program.declarations p ≡ Some s → (W : WrittenProcedure U p s x) → BodyCorresponds U p s W.code
body_corresponds U support p s x is e W =
    let b = is.bodies p s e in
    let S = site_scope U s in
    let at = site_procedure U.program.declarations p s e in
    let lines = code_corresponds U.program S refl s p at b W.code.procedure W.head W.close W.is_written in
    record {
      lines = b.lines;
      are_lines = b.are_lines;
      are_sources = b.sources;
      as_many = as_many_lines U.program S refl s p at b W.code.procedure W.head W.close W.is_written;
      written_lines = lines;
      names = λ h. alone_in U.program p s e h;
      supported =
          lines_supported U.program (inside_procedure S p) refl p (labels (site_lines s)) U.facts U.written U.written.support support W.number W.code W.is_code
          (zip (code_sets S p (first_statement s) 0 (site_lines s)) b.lines) (holds_no_array U is) lines;
      prologue = prologue_kept U.program S refl s p at b W.code.procedure W.head W.close W.is_written;
      home = W.home;
    }

procedure_corresponds : (U : Upgrade) (p : ℕ) (s : Site) (x : Procedure) → is_property_kind x.kind ≡ false → (W : WrittenProcedure U p s x)
    → BodyCorresponds U p s W.code → ProcedureCorresponds U p s x
procedure_corresponds U p s x plain W body =
    let alone = W.alone plain in
    record {
      number = W.number;
      is_number = W.is_number;
      code = W.code;
      is_code = W.is_code;
      property = alone.property;
      head =
          subst (λ (w : net.Procedure). HeadCorresponds (site_scope U s) x x.kind w.head) (sym W.is_written)
          (subst (λ (w : net.Head). HeadCorresponds (site_scope U s) x x.kind w) (sym alone.is_head) (head_corresponds (site_scope U s) x plain));
      body = body;
    }

-- a part of a property
joined_corresponds : (U : Upgrade) (p : ℕ) (s : Site) (x : Procedure) → is_property_kind x.kind ≡ true → (W : WrittenProcedure U p s x)
    → BodyCorresponds U p s W.code → PartCorresponds U p s x
joined_corresponds U p s x part W body =
    let joined = W.joined part in
    record {
      number = W.number;
      is_number = W.is_number;
      code = W.code;
      is_code = W.is_code;
      property = joined.property;
      is_property = joined.is_property;
      part = part_of_property U.written W.number W.code joined.property (takes_value x.kind) W.is_code joined.is_property joined.sets;
      head = part_corresponds U p s x W part joined;
      body = body;
    }

-- ---- modules

flattened : {A B : Type 0} (f : A → List B) (xs : List A) → flat_map f xs ≡ flat_map (λ (ws : List B). ws) (map f xs)
flattened f [] = refl
flattened {B = B} f (x ∷ xs) = ap {B = List B} (λ (ws : List B). f x ++ ws) (flattened f xs)

module _ (U : Upgrade) where
  module_corresponds : (home : ℕ) (at : Numbers) (m : Module) → HasBodies U.program (module_sites home at m)
      → ModuleCorresponds U at m (written_module U.program U.facts at m)
  module_corresponds home at m h =
      let S = module_scope U.program U.facts m in
      let ps = placed_members at m.comments m.members in
      let last = member_comments (texts (last_comments m.comments m.members)) in
      record {
        name = refl;
        class = refl;
        pieces = map (written_member U.program S ps) ps;
        is_whole =
            ap {B = List net.Member} (λ (ws : List net.Member). makers (has_initializer U.program.declarations m.file m) ++ (ws ++ last))
            (flattened (written_member U.program S ps) ps);
        members = members_correspond U.program S ps (placed_bodies U.program home m ps h) home m at m.comments m.members h;
        all_comments = λ h. all_comments at m.comments m.members h;
      }

  modules_correspond : (home : ℕ) (at : Numbers) (ms : List Module) → HasBodies U.program (sites_from home at ms)
      → ModulesCorrespond U at ms (modules_from U.program U.facts at ms)
  modules_correspond home at [] h = tt
  modules_correspond home at (m ∷ ms) h =
      let next = next_module (behind_members at m.members) in
      let rest = sites_from (suc home) next ms in (
        module_corresponds home at m (bodies_first U.program (module_sites home at m) rest h),
        modules_correspond (suc home) next ms (bodies_rest U.program (module_sites home at m) rest h),
      )

-- ---- projects

the_support : (U : Upgrade) → IsWritten U → SupportCorresponds U.program.declarations U.facts U.written.modules U.written.support
the_support U is =
    subst (λ (N : net.Project). SupportCorresponds U.program.declarations U.facts N.modules N.support) (sym is.is_written)
    (support_corresponds U.program.declarations U.facts (written_modules U.program U.facts))

pub corresponds : (U : Upgrade) → IsWritten U → ProceduresAreWritten U → FilesCorrespond U
corresponds U is written = record {
  modules =
      subst (λ (N : net.Project). ModulesCorrespond U first_numbers U.program.declarations.project.modules N.modules) (sym is.is_written)
      (modules_correspond U 0 first_numbers U.program.declarations.project.modules (has_bodies U is));
  procedures = λ p s x e f plain.
      let W = written p s x e f (covered_alone U.program.declarations p x plain) (λ part. absurd (true≢false (sym part ∙ plain))) in
      procedure_corresponds U p s x plain W (body_corresponds U (the_support U is) p s x is e W);
  parts = λ p s x e f part joined apart.
      let W = written p s x e f (covered_part U.program.declarations p x part joined) (λ h. apart) in
      joined_corresponds U p s x part W (body_corresponds U (the_support U is) p s x is e W);
  support = the_support U is;
  main = ap (λ (N : net.Project). N.main) is.is_written;
  library = subst (λ (N : net.Project). N.library ≡ is_none N.main) (sym is.is_written) refl;
  note = ap (λ (N : net.Project). N.note) is.is_written;
}
