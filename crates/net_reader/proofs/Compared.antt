-- What is taken where a line is compared with what is written.
use Rattle.std.proofs.Common.{◌≡◌, ℕ, suc, ◌+◌, Bool, true, false, ◌&&◌, List, length, reverse, refl, subst, add-one, arith, Some, None}
use Rattle.std.proofs.lemmas.List.{length-reverse}
use Rattle.net_tree.specs.declared.block.NetBlock.{NetBlock}
use Rattle.net_tree.specs.Blocks.{depth_at, fits_in, role_of}
use Rattle.net_tree.specs.Declarations.{dim_text, is_writable_dim}
use Rattle.net_tree.specs.Lines.{is_writable_line, line_text}
use Rattle.net_tree.specs.Spelling.{at_depth, is_same_text}
use Rattle.net_tree.specs.Tree.{Dim, Line}
use Rattle.net_exprs.proofs.Words.{both_true}
use Rattle.net_reader.specs.Fits.{fits_dim, fits_line}
use Rattle.net_reader.specs.ModuleReader.{Body, has_no_lines, taken}
use Rattle.net_reader.specs.Takings.{dim_within, line_within}
use Rattle.net_reader.proofs.Tests.{and_true, if_true}

second_false : (a b : Bool) → b ≡ false → a && b ≡ false
second_false true b h = h
second_false false b h = refl

pub differs : {A : Type 0} (passes : A → Bool) (written : A → List ℕ) (line : List ℕ) (x : A) → is_same_text (written x) line ≡ false → taken passes written line (Some x) ≡ None
differs passes written line x h = rw (second_false (passes x) (is_same_text (written x) line) h) refl

pub same : {A : Type 0} (passes : A → Bool) (written : A → List ℕ) (line : List ℕ) (x : A) → passes x ≡ true → is_same_text (written x) line ≡ true → taken passes written line (Some x) ≡ Some x
same passes written line x h k = if_true (passes x && is_same_text (written x) line) (Some x) None (and_true (passes x) (is_same_text (written x) line) h k)

pub dim_differs : (depth : ℕ) (b : Body) (line : List ℕ) (d : Dim) → is_same_text (at_depth (depth + 1) (dim_text d)) line ≡ false → dim_within depth b line (Some d) ≡ None
dim_differs depth b line d h =
    differs (λ (d : Dim). has_no_lines b.tree.lines && is_writable_dim d && fits_dim d) (λ (d : Dim). at_depth (suc depth) (dim_text d)) line d
    (subst (λ n. is_same_text (at_depth n (dim_text d)) line ≡ false) (add-one depth) h)

module _ (depth n : ℕ) (blocks : List NetBlock) (line : List ℕ) (l : Line) (is : n ≡ depth + 1 + length blocks) where
  abbrev passes : Line → Bool
  passes l = is_writable_line l && fits_line l && fits_in (role_of l) (reverse blocks)

  abbrev written : Line → List ℕ
  written l = at_depth (depth_at (role_of l) (suc depth + length (reverse blocks))) (line_text l)

  abbrev compared : ℕ → Bool
  compared n = is_same_text (at_depth (depth_at (role_of l) n) (line_text l)) line

  depth_is : n ≡ suc depth + length (reverse blocks)
  depth_is = omega (arith, is, length-reverse blocks)

  pub line_differs : compared n ≡ false → line_within depth (reverse blocks) line (Some l) ≡ None
  line_differs h = differs passes written line l (subst (λ n. compared n ≡ false) depth_is h)

  pub line_same : is_writable_line l && fits_in (role_of l) (reverse blocks) ≡ true → fits_line l ≡ true → compared n ≡ true → line_within depth (reverse blocks) line (Some l) ≡ Some l
  line_same can held h =
      let both = both_true (is_writable_line l) (fits_in (role_of l) (reverse blocks)) can in
      same passes written line l
      (and_true (is_writable_line l && fits_line l) (fits_in (role_of l) (reverse blocks)) (and_true (is_writable_line l) (fits_line l) both.0 held) both.1)
      (subst (λ n. compared n ≡ true) depth_is h)
