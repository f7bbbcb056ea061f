-- What a code line names of the support module stands there.
use Rattle.std.proofs.Common.{◌≡◌, ◌⊎◌, ℕ, suc, Bool, true, false, ◌||◌, ◌&&◌, List, [], ◌∷◌, ◌++◌, Option, Some, None, refl, sym, ap, ◌∙◌, subst, inl, inr}
use Rattle.std.specs.Cmp.Lexicographic.{bytes_decides}
use Rattle.std.specs.List.{filter, flat_map, fold}
use Rattle.std.specs.Prelude.{codes}
use Rattle.bound_tree.specs.Labels.{Label}
use Rattle.bound_tree.specs.Tree.{Program}
use Rattle.bound_facts.specs.Members.{class_files}
use Rattle.net_tree.specs.Blocks.{is_code}
use Rattle.net_tree.specs.FlatLines as net_flat
use Rattle.net_tree.specs.Spelling.{is_same_text}
use Rattle.net_tree.specs.Tree as net
use Rattle.net_tree.specs.Tree.{Module, Procedure}
use Rattle.net_run.specs.Members.{Code, code_at, codes_of, codes_of_member, codes_of_members, codes_of_modules, part_code}
use Rattle.support_text.specs.Needs.{is_path}
use Rattle.written_trees.specs.Facts.{Facts}
use Rattle.written_trees.specs.Names.{Path, Scope, support}
use Rattle.written_trees.specs.Prologues as prologues
use Rattle.written_trees.specs.Supports.{all_functions, autos_from, fixed_functions, function_name, is_used, met, types_from}
use Rattle.correspondence.specs.Lists.{In, Pairwise}
use Rattle.correspondence.specs.Paths.{Each, NamesFunction, paths_of_dim, paths_of_line, paths_of_member, paths_of_module, paths_of_part, paths_of_procedure}
use Rattle.correspondence.specs.Support.{LineIsSupported, SupportCorresponds}
use Rattle.correspondence.specs.Variants.{LineCorresponds}
use Rattle.correspondence.proofs.Among.{from_filter, in_filter, in_either, in_flat, in_left, in_map, in_right, or_left, or_right}
use Rattle.run_matches.specs.CoveredVariables.{covers_user}
use Rattle.correspondence.proofs.KnownLines.{covered_known, flagged_known}
use Rattle.correspondence.proofs.KnownPaths.{AreKnown, IsKnown, functions, in_place}
use Rattle.correspondence.proofs.WalkedPaths.{modules_met}

-- ---- the paths of a procedure are paths of its module

module _ (c : Code) (q : Path) (h : In q (paths_of_procedure c.procedure)) where
  part_has : (home k : ℕ) (sets : Bool) (r : net.Property) (o : Option Procedure) → In c (part_code home k sets r o) → In q (paths_of_part o)
  part_has home k sets r None i = absurd i
  part_has home k sets r (Some p) (inl e) = subst (λ (d : Code). In q (paths_of_procedure d.procedure)) e h
  part_has home k sets r (Some p) (inr i) = absurd i

  member_has : (home k : ℕ) (m : net.Member) → In c (codes_of_member home k m) → In q (paths_of_member m)
  member_has home k (net.member_comment units) i = absurd i
  member_has home k (net.variable visibility v) i = absurd i
  member_has home k (net.const_member visibility d) i = absurd i
  member_has home k (net.structure s) i = absurd i
  member_has home k (net.property r) i = by (in_either (part_code home k false r r.get) (part_code home k true r r.set) c i)
    where
      by : In c (part_code home k false r r.get) ⊎ In c (part_code home k true r r.set) → In q (paths_of_part r.get ++ paths_of_part r.set)
      by (inl j) = in_left (paths_of_part r.get) (paths_of_part r.set) q (part_has home k false r r.get j)
      by (inr j) = in_right (paths_of_part r.get) (paths_of_part r.set) q (part_has home k true r r.set j)
  member_has home k (net.proc p) (inl e) = subst (λ (d : Code). In q (paths_of_procedure d.procedure)) e h
  member_has home k (net.proc p) (inr i) = absurd i

  members_have : (home k : ℕ) (ms : List net.Member) → In c (codes_of_members home k ms) → In q (flat_map paths_of_member ms)
  members_have home k [] i = absurd i
  members_have home k (m ∷ ms) i = by (in_either (codes_of_member home k m) (codes_of_members home (suc k) ms) c i) (λ j. members_have home (suc k) ms j)
    where
      by : In c (codes_of_member home k m) ⊎ In c (codes_of_members home (suc k) ms) → (In c (codes_of_members home (suc k) ms) → In q (flat_map paths_of_member ms))
          → In q (paths_of_member m ++ flat_map paths_of_member ms)
      by (inl j) more = in_left (paths_of_member m) (flat_map paths_of_member ms) q (member_has home k m j)
      by (inr j) more = in_right (paths_of_member m) (flat_map paths_of_member ms) q (more j)

  modules_have : (home : ℕ) (ms : List Module) → In c (codes_of_modules home ms) → In q (flat_map paths_of_module ms)
  modules_have home [] i = absurd i
  modules_have home (m ∷ ms) i = by (in_either (codes_of_members home 0 m.members) (codes_of_modules (suc home) ms) c i) (λ j. modules_have (suc home) ms j)
    where
      by : In c (codes_of_members home 0 m.members) ⊎ In c (codes_of_modules (suc home) ms) → (In c (codes_of_modules (suc home) ms) → In q (flat_map paths_of_module ms))
          → In q (paths_of_module m ++ flat_map paths_of_module ms)
      by (inl j) more = in_left (paths_of_module m) (flat_map paths_of_module ms) q (members_have home 0 m.members j)
      by (inr j) more = in_right (paths_of_module m) (flat_map paths_of_module ms) q (more j)

-- a path of a code line of it
line_has : (N : net.Project) (n : ℕ) (c : Code) (w : net.Line) (q : Path) → code_at N n ≡ Some c → In w (net_flat.code_lines c.procedure) → In q (paths_of_line w)
    → In q (flat_map paths_of_module N.modules)
line_has N n c w q e i j =
    let p = c.procedure in
    let k = from_filter is_code p.lines w i in
    modules_have c q (in_right (flat_map paths_of_dim p.prologue) (flat_map paths_of_line p.lines) q (in_flat paths_of_line p.lines w q k.0 j)) 0 N.modules
    (in_place (codes_of N) n c e)

-- ---- a path that stands there is used

stays_met : (wanted : Path) (ps : List Path) → fold (met wanted) true ps ≡ true
stays_met wanted [] = refl
stays_met wanted (p ∷ ps) = subst (λ (s : Bool). fold (met wanted) s ps ≡ true) (sym (or_right (is_path p wanted) true refl)) (stays_met wanted ps)

is_met : (wanted : Path) (ps : List Path) (s : Bool) (q : Path) → In q ps → is_path q wanted ≡ true → fold (met wanted) s ps ≡ true
is_met wanted [] s q i h = absurd i
is_met wanted (p ∷ ps) s q (inl e) h =
    subst (λ (t : Bool). fold (met wanted) t ps ≡ true) (sym (or_left (is_path p wanted) s (sym (ap (λ (r : Path). is_path r wanted) e) ∙ h))) (stays_met wanted ps)
is_met wanted (p ∷ ps) s q (inr i) h = is_met wanted ps (is_path p wanted || s) q i h

used_by : (modules : List Module) (f : Procedure) (q : Path) → In q (flat_map paths_of_module modules) → is_path q (support (function_name f)) ≡ true → is_used modules f ≡ true
used_by modules f q i h =
    modules_met (met (support (function_name f))) false modules ∙ is_met (support (function_name f)) (flat_map paths_of_module modules) false q i h

both_same : (outer name : List ℕ) → is_same_text outer (codes "UpgradeSupport") ≡ true → is_path (outer ∷ name ∷ []) (support name) ≡ true
both_same outer name h =
    ap {B = Bool} (λ c. c && (is_same_text name name && true)) h
    ∙ ap {B = Bool} (λ c. c && true) ((bytes_decides name name).1 refl)

module _ (P : Program) (F : Facts) (N : net.Project) (w : Module) (s : SupportCorresponds P.declarations F N.modules w) where
  path_named : (q : Path) → In q (flat_map paths_of_module N.modules) → IsKnown P.declarations q → NamesFunction w q
  path_named [] i k = tt
  path_named (name ∷ []) i k = tt
  path_named (outer ∷ name ∷ more) i k = λ h.
      let same : is_same_text outer (codes "UpgradeSupport") ≡ true = sym (ap (is_same_text outer) s.name) ∙ h in
      let found = k same in
      let f = found.0.function in
      let here : In (outer ∷ name ∷ []) (flat_map paths_of_module N.modules) =
      subst (λ (ns : Path). In (outer ∷ name ∷ ns) (flat_map paths_of_module N.modules)) found.1 i in
      let path : is_path (outer ∷ name ∷ []) (support (function_name f)) ≡ true =
      subst (λ (m : List ℕ). is_path (outer ∷ name ∷ []) (support m) ≡ true) (sym found.0.named) (both_same outer name same) in
      let stands = s.has_used f (in_all f found.0.among) (used_by N.modules f (outer ∷ name ∷ []) here path) in
      let all = all_functions P.declarations F in
      (f, subst (In (net.proc f)) (sym s.members) (in_map net.proc (filter s.set all) f (in_filter s.set all f (in_all f found.0.among) stands)), found.0.named, found.1)
    where
      autos : List Procedure
      autos = autos_from P.declarations 0 (class_files P.declarations.project)

      types : List Procedure
      types = types_from P.declarations F 0 P.declarations.types

      in_all : (f : Procedure) → In f (functions P.declarations) → In f (all_functions P.declarations F)
      in_all f j = by (in_either fixed_functions autos f j)
        where
          by : In f fixed_functions ⊎ In f autos → In f (all_functions P.declarations F)
          by (inl h) = in_left fixed_functions (autos ++ types) f h
          by (inr h) = in_right fixed_functions (autos ++ types) f (in_left autos types f h)

  each_named : (ps : List Path) → ((q : Path) → In q ps → In q (flat_map paths_of_module N.modules)) → AreKnown P.declarations ps → Each (NamesFunction w) ps
  each_named [] h k = tt
  each_named (p ∷ ps) h k = (path_named p (h p (inl refl)) k.0, each_named ps (λ q i. h q (inr i)) k.1)

-- ---- the code lines of a procedure

through : {A B : Type 0} (R Q : A → B → Type 0) (xs : List A) (ys : List B) → ((x : A) (y : B) → In y ys → R x y → Q x y) → Pairwise R xs ys → Pairwise Q xs ys
through R Q [] [] f h = tt
through R Q [] (y ∷ ys) f h = absurd h
through R Q (x ∷ xs) [] f h = absurd h
through R Q (x ∷ xs) (y ∷ ys) f h = (f x y (inl refl) h.0, through R Q xs ys (λ z w i. f z w (inr i)) h.1)

pub lines_supported : (P : Program) (S : Scope) → S.declarations ≡ P.declarations → (p : ℕ) (labels : List (Option Label)) (F : Facts) (N : net.Project) (w : Module)
    → SupportCorresponds P.declarations F N.modules w → (n : ℕ) (c : Code) → code_at N n ≡ Some c → (code : List prologues.Code)
    → ((t : ℕ) → covers_user P.declarations t ≡ true → S.facts.holds_array t ≡ false)
    → Pairwise (LineCorresponds P S p labels) code (net_flat.code_lines c.procedure)
    → Pairwise (LineIsSupported P p w) code (net_flat.code_lines c.procedure)
lines_supported P S same p labels F N w s n c e code flat h =
    through (LineCorresponds P S p labels) (LineIsSupported P p w) code (net_flat.code_lines c.procedure) line h
  where
    line : (d : prologues.Code) (l : net.Line) → In l (net_flat.code_lines c.procedure) → LineCorresponds P S p labels d l → LineIsSupported P p w d l
    line d l i k = (
      λ r. let flagged = k.replaced r in
          each_named P F N w s (paths_of_line l) (λ q j. line_has N n c l q e i j)
          (subst (λ (m : net.Line). AreKnown P.declarations (paths_of_line m)) (sym flagged.3)
          (flagged_known P.declarations flagged.0 flagged.1 d.1.source.form)),
      λ r free covers. each_named P F N w s (paths_of_line l) (λ q j. line_has N n c l q e i j)
          (subst (λ (m : net.Line). AreKnown P.declarations (paths_of_line m)) (sym (k.whole r)) (covered_known P S same free flat p labels d.1 covers)),
    )
